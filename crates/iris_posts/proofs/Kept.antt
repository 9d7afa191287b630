-- What the slots keep to, and the posts in them, from one call to the next.
use Rattle.std.proofs.Common.{◌≡◌, ℕ, ◌+◌, false, List, [], ◌∷◌, ◌++◌, filter, set, Some, refl, ap, subst, arith}
use Rattle.std.specs.Prelude.{slice_get, sum_by}
use Rattle.std.proofs.lemmas.List.Elements.{All-nil, All-push, All-set, All-filter}
use Rattle.std.proofs.lemmas.List.Sums.{sum_by-set}
use Rattle.std.proofs.lemmas.Option.{get_or_from_slice_get, slice_get_within}
use Rattle.iris_tree.specs.TextLen.{saturated}
use Rattle.iris_posts.specs.declared.slot.Slot.{Slot}
use Rattle.iris_posts.specs.Slots.{AreKept, IsFirstWaiting}
use Rattle.iris_posts.proofs.Numbers.{numbered_more}
use Rattle.iris_posts.proofs.Marks.{delivered, numbered_marked}
use Rattle.iris_posts.proofs.Forgotten.{slot_waits, numbered_waiting, first_forgotten}
use Rattle.iris_posts.proofs.Waiting.{first_more}
use Rattle.iris_posts.proofs.Weighed.{IsWeighed, weight_more}

-- no slots
pub none_kept : AreKept [] 0 0 0
none_kept = record { numbered = tt; first_waiting = record { within = omega arith; before = λ k d low lt. absurd (omega arith); waits = tt }; weighed = All-nil IsWeighed; bytes_is = refl }

-- one slot more
pub kept_more : (slots : List Slot) (first made bytes : ℕ) (s : Slot) → AreKept slots first made bytes → s.number ≡ made → s.delivered ≡ false → IsWeighed s → AreKept (slots ++ s ∷ []) first (made + 1) (saturated (bytes + s.weight))
kept_more slots first made bytes s kept number new weighs = record {
  numbered = numbered_more 0 made slots s kept.numbered (omega arith) number;
  first_waiting = first_more slots first s kept.first_waiting new;
  weighed = All-push IsWeighed slots s kept.weighed weighs;
  bytes_is = weight_more slots s bytes kept.bytes_is;
}

-- a slot that is marked
pub kept_marked : (slots : List Slot) (first after made bytes at : ℕ) (s : Slot) → AreKept slots first made bytes → slice_get slots at ≡ Some s → IsFirstWaiting (set slots at (delivered s)) after → AreKept (set slots at (delivered s)) after made bytes
kept_marked slots first after made bytes at s kept is waiting =
    let within = slice_get_within slots at s is in
    let weighs : IsWeighed s = subst IsWeighed (get_or_from_slice_get slots at s s is) (kept.weighed at s within) in
    let sum = sum_by-set (λ (r : Slot). r.weight) slots at (delivered s) s within in
    let same = ap (λ (r : Slot). r.weight) (get_or_from_slice_get slots at s s is) in
    record {
      numbered = numbered_marked 0 made slots at s kept.numbered is;
      first_waiting = waiting;
      weighed = All-set IsWeighed slots at (delivered s) weighs kept.weighed;
      bytes_is = omega (arith, kept.bytes_is, sum, same);
    }

-- the slots whose posts wait
pub kept_left : (slots : List Slot) (first made bytes left : ℕ) → AreKept slots first made bytes → left ≡ saturated (sum_by (λ (s : Slot). s.weight) (filter slot_waits slots)) → AreKept (filter slot_waits slots) 0 made left
kept_left slots first made bytes left kept is = record {
  numbered = numbered_waiting 0 made slots kept.numbered;
  first_waiting = first_forgotten slots;
  weighed = All-filter slot_waits IsWeighed slots kept.weighed;
  bytes_is = is;
}
