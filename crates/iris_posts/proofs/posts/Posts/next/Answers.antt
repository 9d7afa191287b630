use Rattle.std.proofs.Common.{◌≡◌, ◌-◌, ◌≤◌, ap, subst, get_or, length, List, Some, arith}
use Rattle.std.specs.Prelude.{slice_get}
use Rattle.std.specs.Vec.{vec_len, vec_capacity}
use Rattle.std.proofs.lemmas.Option.{slice_get_read, slice_get_past}
use Rattle.iris_posts.specs.declared.slot.Slot.{Slot}
use Rattle.iris_posts.specs.Posts.{Queue, IsNext, AllSeen}
use Rattle.iris_posts.proofs.Waiting.{is_next, all_seen}
use Rattle.iris_posts.proofs.posts.Posts.next.Goals as goal

pub returns-in_err-get-clause-none : goal.returns-in_err-get-clause-none
returns-in_err-get-clause-none c = λ none.
    let items = c.self.inside.slots.items in
    let past : length items ≤ c.self.inside.first = omega (arith, c.in_err-get.ensures.lookup.3, ap (λ (slots : List Slot). length slots) c.deref.ensures.value) in
    subst (λ (q : Queue). AllSeen q) c.self.view_is
    (all_seen c.self.inside.made (vec_capacity c.self.inside.slots - vec_len c.self.inside.slots) items c.self.inside.first c.self.invariant.numbered c.self.invariant.first_waiting (slice_get_past items c.self.inside.first past))

pub returns-clause-some : goal.returns-clause-some
returns-clause-some c =
    let items = c.self.inside.slots.items in
    let slot = c.in_ok-get.field-0.now in
    let first = c.self.inside.first in
    let is : slice_get items first ≡ Some slot =
    slice_get_read items (length c.deref.result.now) first slot (ap (λ (slots : List Slot). length slots) c.deref.ensures.value) c.in_ok-get.ensures.lookup.3.0
    (subst (λ (slots : List Slot). slot ≡ get_or slots first slot) c.deref.ensures.value c.in_ok-get.ensures.lookup.1) in
    subst (λ (q : Queue). IsNext q slot.number) c.self.view_is
    (is_next c.self.inside.made (vec_capacity c.self.inside.slots - vec_len c.self.inside.slots) items first slot c.self.invariant.numbered c.self.invariant.first_waiting is)
