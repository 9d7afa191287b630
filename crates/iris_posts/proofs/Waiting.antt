-- The first post that waits for its delivery.
use Rattle.std.proofs.Common.{◌≡◌, ℕ, zero, suc, ◌+◌, ◌<◌, ◌≤◌, Bool, true, false, eqb, ltb, ◌&&◌, List, [], ◌∷◌, ◌++◌, length, get_or, Option, Some, None, refl, sym, ◌∙◌, ap, subst, arith, length-append}
use Rattle.std.specs.Prelude.{slice_get, option_map, IfSome, IsSome}
use Rattle.std.specs.List.{AllWithin}
use Rattle.std.proofs.Math.ListN.{get_or-append}
use Rattle.std.proofs.Math.Bool.{and-false}
use Rattle.std.proofs.lemmas.Bool.{lt-ltb}
use Rattle.iris_posts.specs.declared.slot.Slot.{Slot}
use Rattle.iris_posts.specs.Posts.{Queue, KeptPost, kept_at, is_over, IsNext, AllSeen}
use Rattle.iris_posts.specs.Slots.{kept_of, kept_in, AreNumbered, IsFirstWaiting}
use Rattle.iris_posts.proofs.Numbers.{kept_first, none_below, found_at, kept_below}

-- the posts in these slots
abbrev pub queue_of : List Slot → ℕ → ℕ → Queue
queue_of slots made spare = record { kept = kept_in slots; made = made; spare = spare }

over_before : (least made : ℕ) (slots : List Slot) (first j : ℕ) → AreNumbered least made slots → AllWithin (λ s. s.delivered ≡ true) slots 0 first → ((s : Slot) → slice_get slots first ≡ Some s → j < s.number)
    → is_over (kept_at (kept_in slots) j) ≡ true
over_before least made [] first j h before later = refl
over_before least made (s ∷ slots) zero j h before later = ap is_over (none_below s.number made (s ∷ slots) j (omega arith, h.1, h.2) (later s refl))
over_before least made (s ∷ slots) (suc first) j h before later =
    by (eqb j s.number) refl (over_before (s.number + 1) made slots first j h.2 (λ k d low lt. before (suc k) d (omega arith) (omega arith)) later)
  where
    by : (b : Bool) → eqb j s.number ≡ b → is_over (kept_at (kept_in slots) j) ≡ true → is_over (kept_at (kept_in (s ∷ slots)) j) ≡ true
    by true same rest = ap is_over (kept_first (kept_of s) (kept_in slots) j true same) ∙ before 0 s (omega arith) (omega arith)
    by false other rest = ap is_over (kept_first (kept_of s) (kept_in slots) j false other) ∙ rest

seen_before : (made : ℕ) (slots : List Slot) (first j : ℕ) → AreNumbered 0 made slots → IsFirstWaiting slots first → ((s : Slot) → slice_get slots first ≡ Some s → j < s.number) → j < made → (ltb j made && is_over (kept_at (kept_in slots) j)) ≡ true
seen_before made slots first j h waiting later lt =
    ap (λ (b : Bool). b && is_over (kept_at (kept_in slots) j)) (lt-ltb j made lt) ∙ over_before 0 made slots first j h waiting.before later

-- the post at that place is the next one
pub is_next : (made spare : ℕ) (slots : List Slot) (first : ℕ) (s : Slot) → AreNumbered 0 made slots → IsFirstWaiting slots first → slice_get slots first ≡ Some s → IsNext (queue_of slots made spare) s.number
is_next made spare slots first s h waiting is =
    let found = found_at 0 made slots first s h is in
    let given = kept_below 0 made slots s.number (kept_of s) h found in
    let left : s.delivered ≡ false = subst (λ (o : Option Slot). IfSome o (λ r. r.delivered ≡ false)) is waiting.waits in
    record {
      kept = subst (λ (o : Option KeptPost). IsSome (option_map (λ (p : KeptPost). p.post) o)) (sym found) refl;
      waits = ap (λ (o : Option KeptPost). ltb s.number made && is_over o) found ∙ ap (λ (b : Bool). ltb s.number made && b) left ∙ and-false (ltb s.number made);
      lowest = λ j lt. seen_before made slots first j h waiting (λ r at. let same : s ≡ r = cc in omega (arith, ap (λ (t : Slot). t.number) same)) (omega (arith, given));
    }

-- where none is there, all were seen
pub all_seen : (made spare : ℕ) (slots : List Slot) (first : ℕ) → AreNumbered 0 made slots → IsFirstWaiting slots first → slice_get slots first ≡ None → AllSeen (queue_of slots made spare)
all_seen made spare slots first h waiting none = λ j lt. seen_before made slots first j h waiting (λ r at. absurd (cc)) lt

waits_more : (slots : List Slot) (first : ℕ) (s : Slot) → first ≤ length slots → IfSome (slice_get slots first) (λ r. r.delivered ≡ false) → s.delivered ≡ false → IfSome (slice_get (slots ++ s ∷ []) first) (λ r. r.delivered ≡ false)
waits_more [] zero s within h new = new
waits_more [] (suc first) s within h new = tt
waits_more (t ∷ slots) zero s within h new = h
waits_more (t ∷ slots) (suc first) s within h new = waits_more slots first s (omega arith) h new

-- the place is the same with a new post at the end
pub first_more : (slots : List Slot) (first : ℕ) (s : Slot) → IsFirstWaiting slots first → s.delivered ≡ false → IsFirstWaiting (slots ++ s ∷ []) first
first_more slots first s h new = record {
  within = omega (arith, h.within, length-append slots (s ∷ []));
  before = λ k d low lt. ap (λ (r : Slot). r.delivered) (get_or-append slots (s ∷ []) d k (omega (arith, h.within))) ∙ h.before k d low lt;
  waits = waits_more slots first s h.within h.waits new;
}

waits_at : (slots : List Slot) (at : ℕ) → ((d : Slot) → at < length slots → (get_or slots at d).delivered ≡ false) → IfSome (slice_get slots at) (λ r. r.delivered ≡ false)
waits_at [] at ends = tt
waits_at (s ∷ slots) zero ends = ends s (omega arith)
waits_at (s ∷ slots) (suc at) ends = waits_at slots at (λ d lt. ends d (omega arith))

-- the place where a walk ends
pub first_found : (slots : List Slot) (at : ℕ) → at ≤ length slots → AllWithin (λ s. s.delivered ≡ true) slots 0 at → ((d : Slot) → at < length slots → (get_or slots at d).delivered ≡ false) → IsFirstWaiting slots at
first_found slots at within before ends = record { within = within; before = before; waits = waits_at slots at ends }
