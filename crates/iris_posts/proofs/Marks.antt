-- Posts that were delivered once more.
use Rattle.std.proofs.Common.{◌≡◌, ℕ, zero, suc, ◌+◌, ◌<◌, Bool, true, false, cond, eqb, ltb, ◌&&◌, ◌||◌, List, [], ◌∷◌, set, Option, Some, None, refl, sym, ◌∙◌, ap, subst, arith}
use Rattle.std.specs.Prelude.{slice_get, option_map}
use Rattle.std.proofs.lemmas.Bool.{eqb-true, eqb-false, ne_eqb, eq-eqb, lt-ltb}
use Rattle.iris_posts.specs.declared.slot.Slot.{Slot}
use Rattle.iris_posts.specs.Posts.{KeptPost, kept_at, is_over, mark, marked}
use Rattle.iris_posts.specs.Slots.{kept_of, kept_in, AreNumbered}
use Rattle.iris_posts.proofs.Numbers.{kept_first, kept_number, number_from}

-- a slot whose post was delivered
abbrev pub delivered : Slot → Slot
delivered s = record s { delivered = true }

-- ---- look-ups

-- a look-up among marked posts
pub marked_at : (ps : List KeptPost) (n k : ℕ) → kept_at (marked ps n) k ≡ option_map (mark n) (kept_at ps k)
marked_at [] n k = refl
marked_at (p ∷ ps) n k = by (eqb k p.number) refl (marked_at ps n k)
  where
    by : (b : Bool) → eqb k p.number ≡ b → kept_at (marked ps n) k ≡ option_map (mark n) (kept_at ps k) → kept_at (marked (p ∷ ps) n) k ≡ option_map (mark n) (kept_at (p ∷ ps) k)
    by true same rest = kept_first (mark n p) (marked ps n) k true same ∙ ap (option_map (mark n)) (sym (kept_first p ps k true same))
    by false other rest = kept_first (mark n p) (marked ps n) k false other ∙ rest ∙ ap (option_map (mark n)) (sym (kept_first p ps k false other))

-- a mark changes no message
pub post_marked : (n : ℕ) (o : Option KeptPost) → option_map (λ (p : KeptPost). p.post) (option_map (mark n) o) ≡ option_map (λ (p : KeptPost). p.post) o
post_marked n None = refl
post_marked n (Some p) = refl

over_same : (n k : ℕ) (o : Option KeptPost) → ((p : KeptPost) → o ≡ Some p → p.number ≡ k) → eqb k n ≡ false → is_over (option_map (mark n) o) ≡ is_over o
over_same n k None h other = refl
over_same n k (Some p) h other = ap (λ (b : Bool). b || p.delivered) (ne_eqb n p.number (λ e. eqb-false k n other (sym (e ∙ h p refl))))

-- what was seen once the post of a number was delivered
pub seen_marked : (ps : List KeptPost) (n made : ℕ) (p : KeptPost) (k : ℕ) → kept_at ps n ≡ Some p → n < made
    → (ltb k made && is_over (kept_at (marked ps n) k)) ≡ cond (eqb k n) true (ltb k made && is_over (kept_at ps k))
seen_marked ps n made p k found lt = by (eqb k n) refl
  where
    by : (b : Bool) → eqb k n ≡ b → (ltb k made && is_over (kept_at (marked ps n) k)) ≡ cond (eqb k n) true (ltb k made && is_over (kept_at ps k))
    by true same =
        let is : k ≡ n = eqb-true k n same in
        let over : is_over (kept_at (marked ps n) k) ≡ true =
        ap is_over (marked_at ps n k ∙ ap (λ (j : ℕ). option_map (mark n) (kept_at ps j)) is ∙ ap (option_map (mark n)) found) ∙ ap (λ (b : Bool). b || p.delivered) (eq-eqb n p.number (sym (kept_number ps n p found))) in
        ap (λ (b : Bool). b && is_over (kept_at (marked ps n) k)) (lt-ltb k made (omega arith)) ∙ over
        ∙ sym (ap (λ (b : Bool). cond b true (ltb k made && is_over (kept_at ps k))) same)
    by false other =
        ap (λ (b : Bool). ltb k made && b) (ap is_over (marked_at ps n k) ∙ over_same n k (kept_at ps k) (λ q is. kept_number ps k q is) other)
        ∙ sym (ap (λ (b : Bool). cond b true (ltb k made && is_over (kept_at ps k))) other)

-- ---- the slot at a place

-- no later post has the number
unmarked : (least made : ℕ) (slots : List Slot) (n : ℕ) → AreNumbered least made slots → n < least → marked (kept_in slots) n ≡ kept_in slots
unmarked least made [] n h lt = refl
unmarked least made (s ∷ slots) n h lt = λ i.
    record (kept_of s) { delivered = ne_eqb n s.number (λ e. omega (arith, h.0)) i || s.delivered } ∷ unmarked (s.number + 1) made slots n h.2 (omega (arith, h.0)) i

-- the slot of a number is the one that is marked
pub marked_slot : (least made : ℕ) (slots : List Slot) (at : ℕ) (s : Slot) → AreNumbered least made slots → slice_get slots at ≡ Some s → kept_in (set slots at (delivered s)) ≡ marked (kept_in slots) s.number
marked_slot least made [] at s h is = absurd (cc)
marked_slot least made (t ∷ slots) zero s h is =
    let same : t ≡ s = cc in
    let here : kept_of (delivered s) ≡ mark s.number (kept_of t) =
    ap (λ (b : Bool). record (kept_of s) { delivered = b || s.delivered }) (sym (eq-eqb s.number s.number refl)) ∙ ap (λ (r : Slot). mark s.number (kept_of r)) (sym same) in
    let later = unmarked (t.number + 1) made slots s.number h.2 (omega (arith, ap (λ (r : Slot). r.number) same)) in
    ap (λ (p : KeptPost). p ∷ kept_in slots) here ∙ ap (λ (ps : List KeptPost). mark s.number (kept_of t) ∷ ps) (sym later)
marked_slot least made (t ∷ slots) (suc at) s h is =
    let from = number_from (t.number + 1) made slots at s h.2 is in
    let here : kept_of t ≡ mark s.number (kept_of t) = ap (λ (b : Bool). record (kept_of t) { delivered = b || t.delivered }) (sym (ne_eqb s.number t.number (λ e. omega (arith, from)))) in
    ap (λ (ps : List KeptPost). kept_of t ∷ ps) (marked_slot (t.number + 1) made slots at s h.2 is) ∙ ap (λ (p : KeptPost). p ∷ marked (kept_in slots) s.number) here

-- numbers stay
pub numbered_marked : (least made : ℕ) (slots : List Slot) (at : ℕ) (s : Slot) → AreNumbered least made slots → slice_get slots at ≡ Some s → AreNumbered least made (set slots at (delivered s))
numbered_marked least made [] at s h is = absurd (cc)
numbered_marked least made (t ∷ slots) zero s h is = let same : t ≡ s = cc in subst (λ (r : Slot). AreNumbered least made (r ∷ slots)) same h
numbered_marked least made (t ∷ slots) (suc at) s h is = (h.0, h.1, numbered_marked (t.number + 1) made slots at s h.2 is)

-- the slot that was found for a number is the one that is marked
pub marked_found : (made : ℕ) (slots : List Slot) (at n : ℕ) (s : Slot) → AreNumbered 0 made slots → slice_get slots at ≡ Some s → kept_at (kept_in slots) n ≡ Some (kept_of s) → kept_in (set slots at (delivered s)) ≡ marked (kept_in slots) n
marked_found made slots at n s h is found = marked_slot 0 made slots at s h is ∙ ap (marked (kept_in slots)) (kept_number (kept_in slots) n (kept_of s) found)
