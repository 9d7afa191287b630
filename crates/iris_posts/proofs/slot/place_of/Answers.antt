use Rattle.std.proofs.Common.{◌∙◌, ap, rules, Option, ℕ}
use Rattle.std.specs.Prelude.{slice_get, option_and_then}
use Rattle.std.proofs.lemmas.Fn.{always_returns_same}
use Rattle.iris_posts.specs.declared.slot.Slot.{Slot}
use Rattle.iris_posts.specs.Slots.{kept_in}
use Rattle.iris_posts.proofs.Numbers.{searched}
use Rattle.iris_posts.proofs.slot.place_of.Goals as goal

pub returns-clause-post : goal.returns-clause-post
returns-clause-post c =
    let facts = c.binary_search_by_key.ensures in
    let position = facts.position (λ (s : Slot). s.number) (always_returns_same _ _ _ (λ a r f called. search rules)) in
    ap (λ (o : Option ℕ). option_and_then (slice_get (kept_in c.args.slots.now)) o) c.ok.ensures.value
    ∙ searched c.requires.0 c.args.slots.now c.args.number c.binary_search_by_key.result c.requires.1 facts.bound position
