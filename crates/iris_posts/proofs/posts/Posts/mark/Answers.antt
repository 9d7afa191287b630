use Rattle.std.proofs.Common.{◌∙◌, ◌&&◌, true, cond, eqb, ltb, ap, subst, List, Option}
use Rattle.std.specs.Prelude.{option_map}
use Rattle.iris_posts.specs.declared.slot.Slot.{Slot}
use Rattle.iris_posts.specs.Posts.{Queue, KeptPost, kept_at, is_over, post_at, is_seen, marked}
use Rattle.iris_posts.specs.Slots.{kept_of, kept_in, IsFirstWaiting}
use Rattle.iris_posts.proofs.Numbers.{found_slot, kept_below}
use Rattle.iris_posts.proofs.Marks.{marked_at, post_marked, seen_marked, marked_found}
use Rattle.iris_posts.proofs.Kept.{kept_marked}
use Rattle.iris_posts.proofs.posts.Posts.mark.Goals as goal

pub invariant_of-self : goal.invariant_of-self
invariant_of-self c =
    let items = c.self.inside.slots.items in
    let slot = c.index_mut-slot.result.now in
    let found = found_slot items c.as_slice.result.now c.in-Some.at c.args.number slot c.as_slice.ensures.value c.in-Some.ensures.within c.in-Some.ensures.post c.index_mut-slot.ensures.value in
    kept_marked items c.self.inside.first c.first_waiting-self-inside.result c.self.inside.made c.self.inside.bytes c.in-Some.at slot c.self.invariant found.0
    (subst (λ (slots : List Slot). IsFirstWaiting slots c.first_waiting-self-inside.result) c.as_slice-2.ensures.value c.first_waiting-self-inside.ensures)

pub returns-clause-kept : goal.returns-clause-kept
returns-clause-kept c =
    let items = c.self.inside.slots.items in
    let slot = c.index_mut-slot.result.now in
    let found = found_slot items c.as_slice.result.now c.in-Some.at c.args.number slot c.as_slice.ensures.value c.in-Some.ensures.within c.in-Some.ensures.post c.index_mut-slot.ensures.value in
    marked_found c.self.inside.made items c.in-Some.at c.args.number slot c.self.invariant.numbered found.0 found.1 ∙ ap (λ (q : Queue). marked q.kept c.args.number) c.self.view_is

pub returns-clause-post : goal.returns-clause-post
returns-clause-post c = λ other.
    let items = c.self.inside.slots.items in
    let slot = c.index_mut-slot.result.now in
    let found = found_slot items c.as_slice.result.now c.in-Some.at c.args.number slot c.as_slice.ensures.value c.in-Some.ensures.within c.in-Some.ensures.post c.index_mut-slot.ensures.value in
    ap (λ (ps : List KeptPost). option_map (λ (p : KeptPost). p.post) (kept_at ps other)) (marked_found c.self.inside.made items c.in-Some.at c.args.number slot c.self.invariant.numbered found.0 found.1)
    ∙ ap (λ (o : Option KeptPost). option_map (λ (p : KeptPost). p.post) o) (marked_at (kept_in items) c.args.number other) ∙ post_marked c.args.number (kept_at (kept_in items) other) ∙ ap (λ (q : Queue). post_at q other) c.self.view_is

pub returns-clause-seen : goal.returns-clause-seen
returns-clause-seen c = λ other.
    let items = c.self.inside.slots.items in
    let made = c.self.inside.made in
    let slot = c.index_mut-slot.result.now in
    let found = found_slot items c.as_slice.result.now c.in-Some.at c.args.number slot c.as_slice.ensures.value c.in-Some.ensures.within c.in-Some.ensures.post c.index_mut-slot.ensures.value in
    ap (λ (ps : List KeptPost). ltb other made && is_over (kept_at ps other)) (marked_found made items c.in-Some.at c.args.number slot c.self.invariant.numbered found.0 found.1)
    ∙ seen_marked (kept_in items) c.args.number made (kept_of slot) other found.1 (kept_below 0 made items c.args.number (kept_of slot) c.self.invariant.numbered found.1)
    ∙ ap (λ (q : Queue). cond (eqb other c.args.number) true (is_seen q other)) c.self.view_is
