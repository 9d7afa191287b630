-- What is noted of nodes by their names, and what is put there.
use Rattle.std.proofs.Common.{◌≡◌, ℕ, ◌+◌, ◌≤◌, Bool, true, false, cond, List, [], ◌∷◌, Option, Some, None, is_some, IsSome, unwrap_or, refl, sym, ap, ◌∙◌, subst, arith}
use Rattle.std.specs.Prelude.{All}
use Rattle.std.specs.Map.{set_value}
use Rattle.std.specs.Cmp.Lexicographic.{pointwise}
use Rattle.std.proofs.lemmas.List.Elements.{All-cons, All-head, All-tail, All-nil}
use Rattle.std.proofs.lemmas.List.Sums.{sum_by-append}
use Rattle.iris_base.specs.declared.name.Label.{Label}
use Rattle.iris_base.specs.NameOrder.{label_eq, names_equiv}
use Rattle.iris_fragment.proofs.Names.{alike_exact}
use Rattle.iris_migrate.specs.Messages.{asks_among}
use Rattle.iris_migrate.specs.Titles.{Seat, Seats, noted_at, seat_at, with_seat, empty_seat, parked_asks, IsReady}

-- ---- look-ups after something is put at a name

pub noted_with : (es : Seats) (name : List Label) (seat : Seat) (other : List Label) → noted_at (with_seat es name seat) other ≡ cond (pointwise label_eq name other) (Some seat) (noted_at es other)
noted_with [] name seat other = ap (λ (b : Bool). cond b (Some seat) None) (names_equiv.symm other name)
noted_with (e ∷ es) name seat other = by (pointwise label_eq name e.0) refl (noted_with es name seat other)
  where
    there : (b : Bool) → cond b (Some seat) (noted_at es other) ≡ cond b (Some seat) (cond b (Some e.1) (noted_at es other))
    there true = refl
    there false = refl

    apart : (b : Bool) → pointwise label_eq name other ≡ b → pointwise label_eq name e.0 ≡ false
        → cond (pointwise label_eq other e.0) (Some e.1) (cond b (Some seat) (noted_at es other)) ≡ cond b (Some seat) (cond (pointwise label_eq other e.0) (Some e.1) (noted_at es other))
    apart true same off = ap (λ (b : Bool). cond b (Some e.1) (Some seat)) (ap (λ (n : List Label). pointwise label_eq n e.0) (sym (alike_exact name other same)) ∙ off)
    apart false same off = refl

    by : (b : Bool) → pointwise label_eq name e.0 ≡ b → noted_at (with_seat es name seat) other ≡ cond (pointwise label_eq name other) (Some seat) (noted_at es other)
        → noted_at (cond b ((e.0, seat) ∷ es) (e ∷ with_seat es name seat)) other ≡ cond (pointwise label_eq name other) (Some seat) (noted_at (e ∷ es) other)
    by true same rest =
        let at : pointwise label_eq other e.0 ≡ pointwise label_eq name other = ap (pointwise label_eq other) (sym (alike_exact name e.0 same)) ∙ names_equiv.symm other name in
        ap (λ (b : Bool). cond b (Some seat) (noted_at es other)) at
        ∙ there (pointwise label_eq name other)
        ∙ sym (ap (λ (b : Bool). cond (pointwise label_eq name other) (Some seat) (cond b (Some e.1) (noted_at es other))) at)
    by false same rest = ap (λ (o : Option Seat). cond (pointwise label_eq other e.0) (Some e.1) o) rest ∙ apart (pointwise label_eq name other) refl same

noted_here : (es : Seats) (name : List Label) (seat : Seat) → noted_at (with_seat es name seat) name ≡ Some seat
noted_here es name seat = noted_with es name seat name ∙ ap (λ (b : Bool). cond b (Some seat) (noted_at es name)) (names_equiv.refl name)

-- the seat that was put stands there
pub seat_here : (es : Seats) (name : List Label) (seat : Seat) → seat_at (with_seat es name seat) name ≡ seat
seat_here es name seat = ap (λ (o : Option Seat). unwrap_or o empty_seat) (noted_here es name seat)

-- at any other name stands what stood there
pub seat_elsewhere : (es : Seats) (name : List Label) (seat : Seat) (other : List Label) → pointwise label_eq other name ≡ false → seat_at (with_seat es name seat) other ≡ seat_at es other
seat_elsewhere es name seat other apart =
    ap (λ (o : Option Seat). unwrap_or o empty_seat) (noted_with es name seat other ∙ ap (λ (b : Bool). cond b (Some seat) (noted_at es other)) (names_equiv.symm name other ∙ apart))

-- what stands at each name, where what stood at one is put there again
pub seat_again : (es : Seats) (name other : List Label) → seat_at (with_seat es name (seat_at es name)) other ≡ seat_at es other
seat_again es name other = by (pointwise label_eq name other) refl
  where
    by : (b : Bool) → pointwise label_eq name other ≡ b → seat_at (with_seat es name (seat_at es name)) other ≡ seat_at es other
    by true same = subst (λ (n : List Label). seat_at (with_seat es name (seat_at es name)) n ≡ seat_at es n) (alike_exact name other same) (seat_here es name (seat_at es name))
    by false same = seat_elsewhere es name (seat_at es name) other (names_equiv.symm other name ∙ same)

some_either : {X : Type 0} (b : Bool) (x : X) (o : Option X) → IsSome o → IsSome (cond b (Some x) o)
some_either true x o h = refl
some_either false x o h = h

-- a place stays
pub still_ready : (es : Seats) (name : List Label) (seat : Seat) (other : List Label) → IsReady es other → IsReady (with_seat es name seat) other
still_ready es name seat other h = subst (λ (o : Option Seat). IsSome o) (sym (noted_with es name seat other)) (some_either (pointwise label_eq name other) seat (noted_at es other) h)

-- and one is made
pub ready_here : (es : Seats) (name : List Label) (seat : Seat) → IsReady (with_seat es name seat) name
ready_here es name seat = subst (λ (o : Option Seat). IsSome o) (sym (noted_here es name seat)) refl

-- there is a place for a node that is owned
pub ready_owned : (es : Seats) (name : List Label) → IsSome (seat_at es name).last → IsReady es name
ready_owned es name h = by (noted_at es name) h
  where
    by : (o : Option Seat) → IsSome (unwrap_or o empty_seat).last → IsSome o
    by None h = absurd (cc)
    by (Some seat) h = refl

-- ---- through the view of titles

pub told_here : (new inside old : Seats) (name : List Label) (f : Seat → Seat) → new ≡ with_seat inside name (f (seat_at inside name)) → inside ≡ old → seat_at new name ≡ f (seat_at old name)
told_here new inside old name f is viewed =
    ap (λ (es : Seats). seat_at es name) is ∙ seat_here inside name (f (seat_at inside name)) ∙ ap (λ (es : Seats). f (seat_at es name)) viewed

pub told_elsewhere : (new inside old : Seats) (name : List Label) (seat : Seat) → new ≡ with_seat inside name seat → inside ≡ old → (other : List Label) → pointwise label_eq other name ≡ false → seat_at new other ≡ seat_at old other
told_elsewhere new inside old name seat is viewed other apart =
    ap (λ (es : Seats). seat_at es other) is ∙ seat_elsewhere inside name seat other apart ∙ ap (λ (es : Seats). seat_at es other) viewed

pub told_ready : (new inside old : Seats) (name : List Label) (seat : Seat) → new ≡ with_seat inside name seat → inside ≡ old → (other : List Label) → IsReady old other → IsReady new other
told_ready new inside old name seat is viewed other h =
    subst (λ (es : Seats). IsReady es other) (sym is) (still_ready inside name seat other (subst (λ (es : Seats). IsReady es other) (sym viewed) h))

-- ---- as the map has it

-- a value that is changed in its place
pub put_there : (es : Seats) (name : List Label) (seat : Seat) → IsReady es name → set_value (pointwise label_eq name) es seat ≡ with_seat es name seat
put_there [] name seat h = absurd (cc)
put_there (e ∷ es) name seat h = by (pointwise label_eq name e.0) h (put_there es name seat)
  where
    by : (b : Bool) → IsSome (cond b (Some e.1) (noted_at es name)) → (IsReady es name → set_value (pointwise label_eq name) es seat ≡ with_seat es name seat)
        → cond b ((e.0, seat) ∷ es) (e ∷ set_value (pointwise label_eq name) es seat) ≡ cond b ((e.0, seat) ∷ es) (e ∷ with_seat es name seat)
    by true h rest = refl
    by false h rest = ap (λ (ms : Seats). e ∷ ms) (rest h)

-- nothing changes where what stands there is put
pub with_noted : (es : Seats) (name : List Label) (seat : Seat) → noted_at es name ≡ Some seat → with_seat es name seat ≡ es
with_noted [] name seat h = absurd (cc)
with_noted (e ∷ es) name seat h = by (pointwise label_eq name e.0) h (with_noted es name seat)
  where
    by : (b : Bool) → cond b (Some e.1) (noted_at es name) ≡ Some seat → (noted_at es name ≡ Some seat → with_seat es name seat ≡ es) → cond b ((e.0, seat) ∷ es) (e ∷ with_seat es name seat) ≡ e ∷ es
    by true h rest = let same : seat ≡ e.1 = cc in ap (λ (s : Seat). (e.0, s) ∷ es) same
    by false h rest = ap (λ (ms : Seats). e ∷ ms) (rest h)

with_there : (es : Seats) (name : List Label) (o : Option Seat) → noted_at es name ≡ o → is_some o ≡ true → with_seat es name (unwrap_or o empty_seat) ≡ es
with_there es name None is there = absurd (cc)
with_there es name (Some seat) is there = with_noted es name seat is

-- so where there is a place
pub with_ready : (es : Seats) (name : List Label) → is_some (noted_at es name) ≡ true → with_seat es name (seat_at es name) ≡ es
with_ready es name there = with_there es name (noted_at es name) refl there

-- a value that is changed in its place, through the view of the map
pub put_told : (new inside old : Seats) (name : List Label) (held : Seat) (f : Seat → Seat) → new ≡ set_value (pointwise label_eq name) inside (f held) → noted_at inside name ≡ Some held → inside ≡ old
    → new ≡ with_seat old name (f (seat_at old name))
put_told new inside old name held f is there viewed =
    is ∙ put_there inside name (f held) (subst (λ (o : Option Seat). IsSome o) (sym there) refl)
    ∙ ap (λ (s : Seat). with_seat inside name (f s)) (sym (ap (λ (o : Option Seat). unwrap_or o empty_seat) there))
    ∙ ap (λ (es : Seats). with_seat es name (f (seat_at es name))) viewed

-- and one that stays
pub put_same : (new inside old : Seats) (name : List Label) (held : Seat) → new ≡ set_value (pointwise label_eq name) inside held → noted_at inside name ≡ Some held → inside ≡ old → new ≡ old
put_same new inside old name held is there viewed = is ∙ put_there inside name held (subst (λ (o : Option Seat). IsSome o) (sym there) refl) ∙ with_noted inside name held there ∙ viewed

-- ---- all seats

-- what holds of each seat holds of each after one is put for which it holds
pub all_with : (P : List Label × Seat → Type 0) (es : Seats) (name : List Label) (seat : Seat) → All P es → P (name, seat) → All P (with_seat es name seat)
all_with P [] name seat all here = All-cons P (name, seat) [] here (All-nil P)
all_with P (e ∷ es) name seat all here = by (pointwise label_eq name e.0) refl (all_with P es name seat (All-tail P e es all) here)
  where
    by : (b : Bool) → pointwise label_eq name e.0 ≡ b → All P (with_seat es name seat) → All P (cond b ((e.0, seat) ∷ es) (e ∷ with_seat es name seat))
    by true same rest = All-cons P (e.0, seat) es (subst (λ (n : List Label). P (n, seat)) (alike_exact name e.0 same) here) (All-tail P e es all)
    by false same rest = All-cons P e (with_seat es name seat) (All-head P e es all) rest

-- it holds of what stands at a name, where it holds of each seat and of none
pub all_at : (P : List Label × Seat → Type 0) (es : Seats) (name : List Label) → All P es → P (name, empty_seat) → P (name, seat_at es name)
all_at P [] name all none = none
all_at P (e ∷ es) name all none = by (pointwise label_eq name e.0) refl (all_at P es name (All-tail P e es all) none)
  where
    by : (b : Bool) → pointwise label_eq name e.0 ≡ b → P (name, seat_at es name) → P (name, unwrap_or (cond b (Some e.1) (noted_at es name)) empty_seat)
    by true same rest = subst (λ (n : List Label). P (n, e.1)) (sym (alike_exact name e.0 same)) (All-head P e es all)
    by false same rest = rest

-- ---- how often an ask is parked

pub asks_cons : (ask : ℕ) (e : List Label × Seat) (es : Seats) → parked_asks ask (e ∷ es) ≡ asks_among ask e.1.parked + parked_asks ask es
asks_cons ask e es = let parts = sum_by-append (λ (x : List Label × Seat). asks_among ask x.1.parked) (e ∷ []) es in omega (arith, parts)

-- after a seat is put
pub asks_with : (ask : ℕ) (es : Seats) (name : List Label) (seat : Seat)
    → parked_asks ask (with_seat es name seat) + asks_among ask (seat_at es name).parked ≡ parked_asks ask es + asks_among ask seat.parked
asks_with ask [] name seat = omega arith
asks_with ask (e ∷ es) name seat = by (pointwise label_eq name e.0) (asks_with ask es name seat)
  where
    here : parked_asks ask ((e.0, seat) ∷ es) + asks_among ask e.1.parked ≡ parked_asks ask (e ∷ es) + asks_among ask seat.parked
    here = omega (arith, asks_cons ask e es, asks_cons ask (e.0, seat) es)

    past : parked_asks ask (with_seat es name seat) + asks_among ask (seat_at es name).parked ≡ parked_asks ask es + asks_among ask seat.parked
        → parked_asks ask (e ∷ with_seat es name seat) + asks_among ask (seat_at es name).parked ≡ parked_asks ask (e ∷ es) + asks_among ask seat.parked
    past rest = omega (arith, rest, asks_cons ask e es, asks_cons ask e (with_seat es name seat))

    by : (b : Bool) → parked_asks ask (with_seat es name seat) + asks_among ask (seat_at es name).parked ≡ parked_asks ask es + asks_among ask seat.parked
        → parked_asks ask (cond b ((e.0, seat) ∷ es) (e ∷ with_seat es name seat)) + asks_among ask (unwrap_or (cond b (Some e.1) (noted_at es name)) empty_seat).parked ≡ parked_asks ask (e ∷ es) + asks_among ask seat.parked
    by true rest = here
    by false rest = past rest

-- at a name no oftener than everywhere
pub asks_at : (ask : ℕ) (es : Seats) (name : List Label) → asks_among ask (seat_at es name).parked ≤ parked_asks ask es
asks_at ask [] name = omega arith
asks_at ask (e ∷ es) name = by (pointwise label_eq name e.0) (asks_at ask es name)
  where
    here : asks_among ask e.1.parked ≤ parked_asks ask (e ∷ es)
    here = omega (arith, asks_cons ask e es)

    past : asks_among ask (seat_at es name).parked ≤ parked_asks ask es → asks_among ask (seat_at es name).parked ≤ parked_asks ask (e ∷ es)
    past rest = omega (arith, rest, asks_cons ask e es)

    by : (b : Bool) → asks_among ask (seat_at es name).parked ≤ parked_asks ask es → asks_among ask (unwrap_or (cond b (Some e.1) (noted_at es name)) empty_seat).parked ≤ parked_asks ask (e ∷ es)
    by true rest = here
    by false rest = past rest
