-- Posts without those that were delivered.
use Rattle.std.proofs.Common.{◌≡◌, ℕ, ◌+◌, ◌<◌, ◌≤◌, Bool, true, false, not, cond, eqb, ltb, ◌&&◌, inl, inr, List, [], ◌∷◌, filter, Option, Some, None, refl, sym, ◌∙◌, ap, subst, arith}
use Rattle.std.specs.Prelude.{slice_get, option_map, IfSome}
use Rattle.std.proofs.lemmas.Bool.{cases_lt, eqb-true, lt-ltb}
use Rattle.iris_posts.specs.declared.post.Post.{Post}
use Rattle.iris_posts.specs.declared.slot.Slot.{Slot}
use Rattle.iris_posts.specs.Posts.{KeptPost, kept_at, is_over}
use Rattle.iris_posts.specs.Slots.{kept_of, kept_in, AreNumbered, IsFirstWaiting}
use Rattle.iris_posts.proofs.Numbers.{kept_first, none_below, numbered_from}

-- the post waits for its delivery
abbrev pub waits : KeptPost → Bool
waits p = not p.delivered

-- the same of a slot
abbrev pub slot_waits : Slot → Bool
slot_waits s = not s.delivered

-- nothing, where the post was delivered
abbrev pub unless_over : Option KeptPost → Option KeptPost
unless_over o = cond (is_over o) None o

-- ---- slots

-- the posts in the slots that stay
pub kept_waiting : (slots : List Slot) → kept_in (filter slot_waits slots) ≡ filter waits (kept_in slots)
kept_waiting [] = refl
kept_waiting (s ∷ slots) =
    let rest = kept_waiting slots in
    elim s.delivered as (λ b. kept_in (cond (not b) (s ∷ filter slot_waits slots) (filter slot_waits slots)) ≡ cond (not b) (kept_of s ∷ filter waits (kept_in slots)) (filter waits (kept_in slots))) [
      | true ↦ rest
      | false ↦ ap (λ (ps : List KeptPost). kept_of s ∷ ps) rest
    ]

-- their numbers rise
pub numbered_waiting : (least made : ℕ) (slots : List Slot) → AreNumbered least made slots → AreNumbered least made (filter slot_waits slots)
numbered_waiting least made [] h = tt
numbered_waiting least made (s ∷ slots) h =
    let rest = numbered_waiting (s.number + 1) made slots h.2 in
    elim s.delivered as (λ b. AreNumbered least made (cond (not b) (s ∷ filter slot_waits slots) (filter slot_waits slots))) [
      | true ↦ numbered_from (s.number + 1) least made (filter slot_waits slots) rest (omega (arith, h.0))
      | false ↦ (h.0, h.1, rest)
    ]

front_waits : (slots : List Slot) → IfSome (slice_get (filter slot_waits slots) 0) (λ s. s.delivered ≡ false)
front_waits [] = tt
front_waits (s ∷ slots) = by s.delivered refl (front_waits slots)
  where
    by : (b : Bool) → s.delivered ≡ b → IfSome (slice_get (filter slot_waits slots) 0) (λ r. r.delivered ≡ false) → IfSome (slice_get (filter slot_waits (s ∷ slots)) 0) (λ r. r.delivered ≡ false)
    by true is rest = subst (λ (b : Bool). IfSome (slice_get (cond (not b) (s ∷ filter slot_waits slots) (filter slot_waits slots)) 0) (λ r. r.delivered ≡ false)) (sym is) rest
    by false is rest = subst (λ (b : Bool). IfSome (slice_get (cond (not b) (s ∷ filter slot_waits slots) (filter slot_waits slots)) 0) (λ r. r.delivered ≡ false)) (sym is) is

-- the first of them waits
pub first_forgotten : (slots : List Slot) → IsFirstWaiting (filter slot_waits slots) 0
first_forgotten slots = record { within = omega arith; before = λ k d low lt. absurd (omega arith); waits = front_waits slots }

-- ---- look-ups

-- a look-up among those that wait
pub waiting_at : (least made : ℕ) (slots : List Slot) (n : ℕ) → AreNumbered least made slots → kept_at (filter waits (kept_in slots)) n ≡ unless_over (kept_at (kept_in slots) n)
waiting_at least made [] n h = refl
waiting_at least made (s ∷ slots) n h = by s.delivered (eqb n s.number) refl refl (waiting_at (s.number + 1) made slots n h.2)
  where
    left : (d : Bool) → s.delivered ≡ d → kept_at (filter waits (kept_in (s ∷ slots))) n ≡ kept_at (cond (not d) (kept_of s ∷ filter waits (kept_in slots)) (filter waits (kept_in slots))) n
    left d is = ap (λ (b : Bool). kept_at (cond (not b) (kept_of s ∷ filter waits (kept_in slots)) (filter waits (kept_in slots))) n) is

    here : (d : Bool) → s.delivered ≡ d → eqb n s.number ≡ true → unless_over (kept_at (kept_in (s ∷ slots)) n) ≡ cond d None (Some (kept_of s))
    here d is same = ap unless_over (kept_first (kept_of s) (kept_in slots) n true same) ∙ ap (λ (b : Bool). cond b None (Some (kept_of s))) is

    later : eqb n s.number ≡ false → unless_over (kept_at (kept_in (s ∷ slots)) n) ≡ unless_over (kept_at (kept_in slots) n)
    later other = ap unless_over (kept_first (kept_of s) (kept_in slots) n false other)

    by : (d b : Bool) → s.delivered ≡ d → eqb n s.number ≡ b → kept_at (filter waits (kept_in slots)) n ≡ unless_over (kept_at (kept_in slots) n)
        → kept_at (filter waits (kept_in (s ∷ slots))) n ≡ unless_over (kept_at (kept_in (s ∷ slots)) n)
    by true true is same rest =
        left true is ∙ rest ∙ ap unless_over (none_below (s.number + 1) made slots n h.2 (omega (arith, eqb-true n s.number same))) ∙ sym (here true is same)
    by true false is other rest = left true is ∙ rest ∙ sym (later other)
    by false true is same rest = left false is ∙ kept_first (kept_of s) (filter waits (kept_in slots)) n true same ∙ sym (here false is same)
    by false false is other rest = left false is ∙ kept_first (kept_of s) (filter waits (kept_in slots)) n false other ∙ rest ∙ sym (later other)

-- what was seen stays seen
pub over_forgotten : (o : Option KeptPost) → is_over (unless_over o) ≡ is_over o
over_forgotten None = refl
over_forgotten (Some p) = by p.delivered refl
  where
    by : (b : Bool) → p.delivered ≡ b → is_over (unless_over (Some p)) ≡ p.delivered
    by true is = ap (λ (c : Bool). is_over (cond c None (Some p))) is ∙ sym is
    by false is = ap (λ (c : Bool). is_over (cond c None (Some p))) is

none_either : (b : Bool) (o : Option Post) → o ≡ cond b o o
none_either true o = refl
none_either false o = refl

-- the post that is left, where none is kept of a number that was not given
pub post_forgotten : (made n : ℕ) (o : Option KeptPost) → (made ≤ n → o ≡ None) → option_map (λ (p : KeptPost). p.post) (unless_over o) ≡ cond (ltb n made && is_over o) None (option_map (λ (p : KeptPost). p.post) o)
post_forgotten made n None h = none_either (ltb n made && true) None
post_forgotten made n (Some p) h =
    let given : n < made = elim (cases_lt n made) [ inl lt ↦ lt | inr le ↦ let bad = h le in absurd (cc) ] in
    elim p.delivered as (λ b. option_map (λ (q : KeptPost). q.post) (cond b None (Some p)) ≡ cond b None (Some p.post)) [ true ↦ refl | false ↦ refl ]
    ∙ ap (λ (b : Bool). cond (b && p.delivered) None (Some p.post)) (sym (lt-ltb n made given))
