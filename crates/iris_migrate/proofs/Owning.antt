-- Titles at the start: some names are owned, and nothing else is known.
use Rattle.std.proofs.Common.{◌≡◌, ℕ, ◌+◌, ◌<◌, length, take, get_or, Bool, true, false, cond, ◌||◌, if◌then◌else◌, List, [], ◌∷◌, ◌++◌, refl, sym, ap, ◌∙◌, subst, arith}
use Rattle.std.specs.Prelude.{All}
use Rattle.std.specs.List.{list_any}
use Rattle.std.specs.Cmp.Lexicographic.{pointwise}
use Rattle.std.proofs.lemmas.List.{take_more}
use Rattle.std.proofs.lemmas.List.Elements.{All-head, All-tail, All-weaker}
use Rattle.std.proofs.lemmas.List.Folds.{list_any-append}
use Rattle.iris_base.specs.declared.name.Label.{Label}
use Rattle.iris_base.specs.NameOrder.{label_eq}
use Rattle.iris_fragment.proofs.Names.{alike_exact}
use Rattle.iris_migrate.specs.declared.message.Message.{Message}
use Rattle.iris_migrate.specs.Messages.{asks_among}
use Rattle.iris_migrate.specs.Titles.{Seat, Seats, seat_at, with_seat, empty_seat, owned_seat, parked_asks, count_of, AreParked, AreTitles}
use Rattle.iris_migrate.proofs.Noted.{all_with, asks_cons, seat_here, seat_elsewhere}
use Rattle.iris_migrate.proofs.Parking.{parked_none}

-- what is known of a node, where these are owned
abbrev pub owned_or_empty : List (List Label) → List Label → Seat
owned_or_empty names name = if list_any (pointwise label_eq name) names then owned_seat else empty_seat

-- just these names are owned, and nothing is parked
pub record AreOwned (names : List (List Label)) (es : Seats) : Type 0 where
  pub known : (name : List Label) → seat_at es name ≡ owned_or_empty names name
  pub nothing : All (λ e. e.1.parked ≡ []) es

-- one more is owned
pub owned_more : (names : List (List Label)) (es : Seats) (one : List Label) → AreOwned names es → AreOwned (names ++ one ∷ []) (with_seat es one owned_seat)
owned_more names es one h = record {
  known = λ name. by name (pointwise label_eq name one) refl;
  nothing = all_with (λ (e : List Label × Seat). e.1.parked ≡ []) es one owned_seat h.nothing refl;
}
  where
    last : (a b : Bool) → (if a || (b || false) then owned_seat else empty_seat) ≡ cond b owned_seat (if a then owned_seat else empty_seat)
    last true true = refl
    last true false = refl
    last false true = refl
    last false false = refl

    grown : (name : List Label) (b : Bool) → pointwise label_eq name one ≡ b → owned_or_empty (names ++ one ∷ []) name ≡ cond b owned_seat (owned_or_empty names name)
    grown name b at =
        ap (λ (a : Bool). if a then owned_seat else empty_seat) (list_any-append (pointwise label_eq name) names (one ∷ []))
        ∙ last (list_any (pointwise label_eq name) names) (pointwise label_eq name one)
        ∙ ap (λ (a : Bool). cond a owned_seat (owned_or_empty names name)) at

    by : (name : List Label) (b : Bool) → pointwise label_eq name one ≡ b → seat_at (with_seat es one owned_seat) name ≡ owned_or_empty (names ++ one ∷ []) name
    by name true at =
        ap (seat_at (with_seat es one owned_seat)) (alike_exact name one at) ∙ seat_here es one owned_seat ∙ sym (grown name true at)
    by name false at = seat_elsewhere es one owned_seat name at ∙ h.known name ∙ sym (grown name false at)

none_asked : (ask : ℕ) (es : Seats) → All (λ e. e.1.parked ≡ []) es → parked_asks ask es ≡ 0
none_asked ask [] h = refl
none_asked ask (e ∷ es) h =
    let P = λ (x : List Label × Seat). x.1.parked ≡ [] in
    let first : asks_among ask e.1.parked ≡ 0 = ap (asks_among ask) (All-head P e es h) in
    let rest = none_asked ask es (All-tail P e es h) in
    omega (arith, asks_cons ask e es, first, rest)

-- then all is as it is to be
pub titles_owned : (names : List (List Label)) (es : Seats) (counts : List (ℕ × ℕ)) → AreOwned names es → ((ask : ℕ) → count_of counts ask ≡ 0) → AreTitles es counts
titles_owned names es counts h zero = record {
  parked = All-weaker (λ (e : List Label × Seat). e.1.parked ≡ []) (λ (e : List Label × Seat). AreParked e.0 e.1.parked)
      (λ e none. subst (λ (ms : List Message). AreParked e.0 ms) (sym none) (parked_none e.0)) es h.nothing;
  counted = λ ask. zero ask ∙ sym (none_asked ask es h.nothing);
}

-- a name among those is owned, and no other is
pub known_owned : (names : List (List Label)) (es : Seats) (name : List Label) → AreOwned names es → list_any (pointwise label_eq name) names ≡ true → seat_at es name ≡ owned_seat
known_owned names es name h there = h.known name ∙ ap (λ (b : Bool). if b then owned_seat else empty_seat) there

pub known_other : (names : List (List Label)) (es : Seats) (name : List Label) → AreOwned names es → list_any (pointwise label_eq name) names ≡ false → seat_at es name ≡ empty_seat
known_other names es name h there = h.known name ∙ ap (λ (b : Bool). if b then owned_seat else empty_seat) there

-- the loop over the names
pub owned_step : (owned : List (List Label)) (i : ℕ) (es new : Seats) (one : List Label) → i < length owned → AreOwned (take i owned) es → one ≡ get_or owned i one → new ≡ with_seat es one owned_seat → AreOwned (take (i + 1) owned) new
owned_step owned i es new one within h at is =
    let longer : take (i + 1) owned ≡ take i owned ++ one ∷ [] = take_more owned i one within ∙ ap (λ (n : List Label). take i owned ++ n ∷ []) (sym at) in
    let after : AreOwned (take i owned ++ one ∷ []) new = subst (λ (ms : Seats). AreOwned (take i owned ++ one ∷ []) ms) (sym is) (owned_more (take i owned) es one h) in
    subst (λ (names : List (List Label)). AreOwned names new) (sym longer) after
