use Rattle.std.proofs.Common.{◌≡◌, ◌∙◌, ◌+◌, ◌&&◌, [], ◌∷◌, ◌++◌, false, cond, eqb, ltb, sym, ap, subst, refl, arith, List, ℕ, Option, Some}
use Rattle.std.specs.Prelude.{option_map}
use Rattle.std.proofs.lemmas.List.{map-append}
use Rattle.iris_tree.specs.TextLen.{saturated}
use Rattle.iris_posts.specs.declared.slot.Slot.{Slot}
use Rattle.iris_posts.specs.Posts.{Queue, KeptPost, kept_at, is_over, post_at, is_seen}
use Rattle.iris_posts.specs.Slots.{kept_of, kept_in, AreKept}
use Rattle.iris_posts.proofs.Numbers.{pushed_at, post_pushed, seen_pushed}
use Rattle.iris_posts.proofs.Kept.{kept_more}
use Rattle.iris_posts.proofs.posts.Posts.push.Goals as goal

pub invariant_of-self : goal.invariant_of-self
invariant_of-self c =
    let items = c.self.inside.slots.items in
    let slot : Slot = record { number = c.self.inside.made; post = record { to = c.args.to; message = c.args.message }; delivered = false; weight = c.args.weight } in
    let sum : c.saturating_add-self-inside.result ≡ saturated (c.self.inside.bytes + c.args.weight) = omega (arith, c.saturating_add-self-inside.ensures) in
    subst (λ (slots : List Slot). AreKept slots c.self.inside.first (c.self.inside.made + 1) c.saturating_add-self-inside.result) (sym c.push_reserved.ensures.items)
    (subst (λ (bytes : ℕ). AreKept (items ++ slot ∷ []) c.self.inside.first (c.self.inside.made + 1) bytes) (sym sum)
    (kept_more items c.self.inside.first c.self.inside.made c.self.inside.bytes slot c.self.invariant refl refl c.requires.weight))

pub returns-clause-post : goal.returns-clause-post
returns-clause-post c = λ other.
    let items = c.self.inside.slots.items in
    let slot : Slot = record { number = c.self.inside.made; post = record { to = c.args.to; message = c.args.message }; delivered = false; weight = c.args.weight } in
    let more = ap kept_in c.push_reserved.ensures.items ∙ map-append kept_of items (slot ∷ []) in
    ap (λ (ps : List KeptPost). option_map (λ (p : KeptPost). p.post) (kept_at ps other)) more
    ∙ ap (λ (o : Option KeptPost). option_map (λ (p : KeptPost). p.post) o) (pushed_at 0 c.self.inside.made items (kept_of slot) other c.self.invariant.numbered refl)
    ∙ post_pushed (eqb other c.self.inside.made) (kept_of slot) (kept_at (kept_in items) other) ∙ ap (λ (q : Queue). cond (eqb other q.made) (Some slot.post) (post_at q other)) c.self.view_is

pub returns-clause-seen : goal.returns-clause-seen
returns-clause-seen c = λ other.
    let items = c.self.inside.slots.items in
    let made = c.self.inside.made in
    let slot : Slot = record { number = made; post = record { to = c.args.to; message = c.args.message }; delivered = false; weight = c.args.weight } in
    let more = ap kept_in c.push_reserved.ensures.items ∙ map-append kept_of items (slot ∷ []) in
    ap (λ (ps : List KeptPost). ltb other (made + 1) && is_over (kept_at ps other)) more
    ∙ ap (λ (o : Option KeptPost). ltb other (made + 1) && is_over o) (pushed_at 0 made items (kept_of slot) other c.self.invariant.numbered refl)
    ∙ seen_pushed made other (kept_of slot) (kept_at (kept_in items) other) refl ∙ ap (λ (q : Queue). cond (eqb other q.made) false (is_seen q other)) c.self.view_is
