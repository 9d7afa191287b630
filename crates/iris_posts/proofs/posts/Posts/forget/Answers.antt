use Rattle.std.proofs.Common.{◌≡◌, ◌∙◌, ◌&&◌, cond, ltb, filter, sum_by, sym, ap, subst, rules, List, Option, None, Bool}
use Rattle.std.specs.Prelude.{option_map}
use Rattle.std.proofs.lemmas.Fn.{filter_same}
use Rattle.iris_tree.specs.TextLen.{saturated}
use Rattle.iris_posts.specs.declared.slot.Slot.{Slot}
use Rattle.iris_posts.specs.Posts.{Queue, KeptPost, kept_at, is_over, post_at, is_seen}
use Rattle.iris_posts.specs.Slots.{kept_in, AreKept}
use Rattle.iris_posts.proofs.Numbers.{none_above}
use Rattle.iris_posts.proofs.Forgotten.{waits, slot_waits, kept_waiting, waiting_at, post_forgotten, over_forgotten}
use Rattle.iris_posts.proofs.Kept.{kept_left}
use Rattle.iris_posts.proofs.posts.Posts.forget.Goals as goal

pub invariant_of-self : goal.invariant_of-self
invariant_of-self c =
    let items = c.self.inside.slots.items in
    let left : c.retain.new.self.items ≡ filter slot_waits items = filter_same _ slot_waits _ (λ x b f called. search rules) _ _ c.retain.ensures.filtered in
    let sum = c.weight_of_all-self-inside.ensures ∙ ap (λ (slots : List Slot). saturated (sum_by (λ (s : Slot). s.weight) slots)) (c.as_slice.ensures.value ∙ left) in
    subst (λ (slots : List Slot). AreKept slots 0 c.self.inside.made c.weight_of_all-self-inside.result) (sym left) (kept_left items c.self.inside.first c.self.inside.made c.self.inside.bytes c.weight_of_all-self-inside.result c.self.invariant sum)

pub returns-clause-kept : goal.returns-clause-kept
returns-clause-kept c =
    let items = c.self.inside.slots.items in
    let left : c.retain.new.self.items ≡ filter slot_waits items = filter_same _ slot_waits _ (λ x b f called. search rules) _ _ c.retain.ensures.filtered in
    ap kept_in left ∙ kept_waiting items ∙ ap (λ (q : Queue). filter waits q.kept) c.self.view_is

pub returns-clause-post : goal.returns-clause-post
returns-clause-post c = λ other.
    let items = c.self.inside.slots.items in
    let made = c.self.inside.made in
    let left : c.retain.new.self.items ≡ filter slot_waits items = filter_same _ slot_waits _ (λ x b f called. search rules) _ _ c.retain.ensures.filtered in
    ap (λ (ps : List KeptPost). option_map (λ (p : KeptPost). p.post) (kept_at ps other)) (ap kept_in left ∙ kept_waiting items)
    ∙ ap (λ (o : Option KeptPost). option_map (λ (p : KeptPost). p.post) o) (waiting_at 0 made items other c.self.invariant.numbered)
    ∙ post_forgotten made other (kept_at (kept_in items) other) (λ past. none_above 0 made items other c.self.invariant.numbered past) ∙ ap (λ (q : Queue). cond (is_seen q other) None (post_at q other)) c.self.view_is

pub returns-clause-seen : goal.returns-clause-seen
returns-clause-seen c = λ other.
    let items = c.self.inside.slots.items in
    let made = c.self.inside.made in
    let left : c.retain.new.self.items ≡ filter slot_waits items = filter_same _ slot_waits _ (λ x b f called. search rules) _ _ c.retain.ensures.filtered in
    ap (λ (ps : List KeptPost). ltb other made && is_over (kept_at ps other)) (ap kept_in left ∙ kept_waiting items)
    ∙ ap (λ (o : Option KeptPost). ltb other made && is_over o) (waiting_at 0 made items other c.self.invariant.numbered)
    ∙ ap (λ (b : Bool). ltb other made && b) (over_forgotten (kept_at (kept_in items) other)) ∙ ap (λ (q : Queue). is_seen q other) c.self.view_is
