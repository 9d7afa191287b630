-- Titles that stay as they are to be when what is known of a node changes.
use Rattle.std.proofs.Common.{◌≡◌, ℕ, ◌+◌, ◌-◌, ◌<◌, Bool, true, false, cond, List, [], ◌∷◌, Option, Some, None, unwrap_or, refl, sym, ap, ◌∙◌, subst, arith}
use Rattle.std.specs.Prelude.{All}
use Rattle.std.specs.List.{IsDistinct}
use Rattle.std.specs.Map.{keys_of}
use Rattle.std.specs.Cmp.Lexicographic.{pointwise}
use Rattle.std.proofs.lemmas.Map.{lookup-none}
use Rattle.std.proofs.lemmas.Map.Entries.{none_past_head}
use Rattle.std.proofs.lemmas.Map.Keys.{IsDistinct-tail}
use Rattle.iris_base.specs.declared.name.Label.{Label}
use Rattle.iris_base.specs.NameOrder.{label_eq, names_equiv}
use Rattle.iris_migrate.specs.declared.key.Key.{Key}
use Rattle.iris_migrate.specs.declared.key.Key.TheVariants as key
use Rattle.iris_migrate.specs.declared.message.Message.{Message}
use Rattle.iris_migrate.specs.Messages.{node_of, key_of, keys_in, is_among, one_of_ask, asks_among}
use Rattle.iris_migrate.specs.Titles.{Seat, Seats, noted_at, seat_at, with_seat, empty_seat, took, with_parked, is_parked, parked_asks, count_of, AreParked, AreTitles}
use Rattle.iris_migrate.proofs.Noted.{all_with, all_at, asks_with, asks_at, asks_cons}
use Rattle.iris_migrate.proofs.Parking.{parked_none, parked_more, asks_more, some_counted, none_counted}

-- ---- what is parked at each name

pub parked_at : (es : Seats) (name : List Label) → All (λ e. AreParked e.0 e.1.parked) es → AreParked name (seat_at es name).parked
parked_at es name all = all_at (λ (e : List Label × Seat). AreParked e.0 e.1.parked) es name all (parked_none name)

-- ---- changes

-- with another seat, whose parked messages are as they are to be and are counted
titles_with : (es : Seats) (old new : List (ℕ × ℕ)) (name : List Label) (seat : Seat) → AreTitles es old → AreParked name seat.parked
    → ((ask : ℕ) → count_of new ask + asks_among ask (seat_at es name).parked ≡ count_of old ask + asks_among ask seat.parked) → AreTitles (with_seat es name seat) new
titles_with es old new name seat h parked counts = record {
  parked = all_with (λ (e : List Label × Seat). AreParked e.0 e.1.parked) es name seat h.parked parked;
  counted = λ ask. omega (arith, counts ask, h.counted ask, asks_with ask es name seat);
}

-- with a seat that has the same parked
pub titles_same : (es : Seats) (counts : List (ℕ × ℕ)) (name : List Label) (seat : Seat) → AreTitles es counts → seat.parked ≡ (seat_at es name).parked → AreTitles (with_seat es name seat) counts
titles_same es counts name seat h same =
    titles_with es counts counts name seat h (subst (λ (ms : List Message). AreParked name ms) (sym same) (parked_at es name h.parked))
    (λ ask. ap (λ (ms : List Message). count_of counts ask + asks_among ask ms) (sym same))

-- with other counts that are the same by number
pub titles_counted : (es : Seats) (old new : List (ℕ × ℕ)) → AreTitles es old → ((ask : ℕ) → count_of new ask ≡ count_of old ask) → AreTitles es new
titles_counted es old new h same = record { parked = h.parked; counted = λ ask. same ask ∙ h.counted ask }

-- where what was parked is taken out
pub titles_took : (es : Seats) (old new : List (ℕ × ℕ)) (name : List Label) (epoch last : ℕ) → AreTitles es old
    → ((ask : ℕ) → count_of new ask ≡ count_of old ask - asks_among ask (seat_at es name).parked) → AreTitles (with_seat es name (took (seat_at es name) epoch last)) new
titles_took es old new name epoch last h less =
    titles_with es old new name (took (seat_at es name) epoch last) h (parked_none name)
    (λ ask. omega (arith, less ask, h.counted ask, asks_at ask es name))

-- where a message is parked
pub titles_parked : (es : Seats) (old new : List (ℕ × ℕ)) (name : List Label) (m : Message) (k : Key) → AreTitles es old → node_of m ≡ Some name → key_of m ≡ Some k → is_among k (seat_at es name).parked ≡ false
    → ((ask : ℕ) → count_of new ask ≡ count_of old ask + one_of_ask ask k) → AreTitles (with_seat es name (with_parked (seat_at es name) m)) new
titles_parked es old new name m k h node key fresh more =
    titles_with es old new name (with_parked (seat_at es name) m) h (parked_more name (seat_at es name).parked m k (parked_at es name h.parked) node key fresh)
    (λ ask. omega (arith, more ask, asks_more ask (seat_at es name).parked m k key))

-- ---- asks

-- an ask that is nowhere counted is parked for no node
pub none_parked : (ask : ℕ) (es : Seats) (name : List Label) → parked_asks ask es ≡ 0 → is_parked (seat_at es name) (Some (key.Ask ask)) ≡ false
none_parked ask es name none = by (is_among (key.Ask ask) (seat_at es name).parked) refl
  where
    by : (b : Bool) → is_among (key.Ask ask) (seat_at es name).parked ≡ b → b ≡ false
    by true there = absurd (omega (arith, some_counted ask (keys_in (seat_at es name).parked) there, asks_at ask es name))
    by false there = refl

-- an ask that is counted is parked for some node
pub some_parked : (ask : ℕ) (es : Seats) → IsDistinct (pointwise label_eq) (keys_of es) → 0 < parked_asks ask es → (name : List Label) × (is_parked (seat_at es name) (Some (key.Ask ask)) ≡ true)
some_parked ask [] apart some = absurd (omega arith)
some_parked ask (e ∷ es) apart some = by (is_among (key.Ask ask) e.1.parked) refl (some_parked ask es (IsDistinct-tail (pointwise label_eq) e.0 (keys_of es) apart))
  where
    here : is_among (key.Ask ask) e.1.parked ≡ true → is_parked (seat_at (e ∷ es) e.0) (Some (key.Ask ask)) ≡ true
    here h = ap (λ (b : Bool). is_parked (unwrap_or (cond b (Some e.1) (noted_at es e.0)) empty_seat) (Some (key.Ask ask))) (names_equiv.refl e.0) ∙ h

    past : (name : List Label) (b : Bool) → pointwise label_eq name e.0 ≡ b → is_parked (seat_at es name) (Some (key.Ask ask)) ≡ true
        → is_parked (unwrap_or (cond b (Some e.1) (noted_at es name)) empty_seat) (Some (key.Ask ask)) ≡ true
    past name true same h =
        let none : noted_at es name ≡ None = lookup-none (pointwise label_eq name) es (none_past_head names_equiv name e es apart same) in
        let never : false ≡ true = ap (λ (o : Option Seat). is_parked (unwrap_or o empty_seat) (Some (key.Ask ask))) (sym none) ∙ h in
        absurd (cc)
    past name false same h = h

    by : (b : Bool) → is_among (key.Ask ask) e.1.parked ≡ b → (0 < parked_asks ask es → (name : List Label) × (is_parked (seat_at es name) (Some (key.Ask ask)) ≡ true))
        → (name : List Label) × (is_parked (seat_at (e ∷ es) name) (Some (key.Ask ask)) ≡ true)
    by true there rest = (e.0, here there)
    by false there rest =
        let found = rest (omega (arith, some, asks_cons ask e es, none_counted ask (keys_in e.1.parked) there)) in
        (found.0, past found.0 (pointwise label_eq found.0 e.0) refl found.1)
