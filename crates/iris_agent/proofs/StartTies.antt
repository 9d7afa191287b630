-- Agents as a city starts, put together piece by piece and row by row.
use Rattle.std.proofs.Common.{◌≡◌, ℕ, ◌+◌, ◌<◌, max, Bool, true, false, if◌then◌else◌, List, [], ◌∷◌, length, drop, get_or, fold, Option, Some, None, refl, sym, ap, ◌∙◌, subst, arith}
use Rattle.std.specs.Prelude.{option_map}
use Rattle.std.specs.List.{list_any}
use Rattle.std.specs.Cmp.Lexicographic.{pointwise}
use Rattle.std.proofs.lemmas.List.{at_drop_more}
use Rattle.iris_base.specs.declared.name.Label.{Label}
use Rattle.iris_base.specs.NameOrder.{label_eq}
use Rattle.iris_fragment.specs.declared.piece.Piece.{Piece}
use Rattle.iris_fragment.proofs.Names.{alike_exact}
use Rattle.iris_cache.specs.Recency.{Cache}
use Rattle.iris_keeper.specs.declared.kept.Kept.{Kept}
use Rattle.iris_migrate.specs.Titles.{Seat, Seats, seat_at, empty_seat, owned_seat, with_last}
use Rattle.iris_gather.specs.OpenGathers.{OpenGathers, gather_at}
use Rattle.iris_agent.specs.Starts.{AreBegun, empty_cache, last_in, owned_names, piece_begun, raised, started, update_number}
use Rattle.iris_agent.specs.Tables.{tables_of, is_among}

-- ---- pieces

-- the pieces that are left may come next, and lead to that
pub record AreLeft (cache : Cache) (pieces : List Piece) (all : Cache) : Type 0 where
  pub next : AreBegun cache pieces
  pub leads : fold piece_begun cache pieces ≡ all

pub left_more : (pieces : List Piece) (i : ℕ) (piece : Piece) (cache after all : Cache) → i < length pieces → piece ≡ get_or pieces i piece → after ≡ piece_begun cache piece → AreLeft cache (drop i pieces) all → AreLeft after (drop (i + 1) pieces) all
left_more pieces i piece cache after all within is begun h = subst (λ (c : Cache). AreLeft c (drop (i + 1) pieces) all) (sym begun) (record { next = now.next.1; leads = now.leads })
  where
    now : AreLeft cache (piece ∷ drop (i + 1) pieces) all
    now = subst (λ (ps : List Piece). AreLeft cache ps all) (at_drop_more (λ (ps : List Piece). ps) pieces i piece within ∙ ap (λ (p : Piece). p ∷ drop (i + 1) pieces) (sym is)) h

-- ---- rows

raised_last : (a b : ℕ) (last : Option ℕ) → option_map (λ (l : ℕ). max b l) (option_map (λ (l : ℕ). max a l) last) ≡ option_map (λ (l : ℕ). max (max a b) l) last
raised_last a b None = refl
raised_last a b (Some l) = ap (λ (n : ℕ). Some n) (omega arith)

-- a number that is raised twice is the greatest of the three
raised_twice : (seat : Seat) (a b : ℕ) → raised (raised seat a) b ≡ raised seat (max a b)
raised_twice seat a b = ap (λ (last : Option ℕ). record seat { last = last }) (raised_last a b seat.last)

unraised_last : (last : Option ℕ) → option_map (λ (l : ℕ). max 0 l) last ≡ last
unraised_last None = refl
unraised_last (Some l) = ap (λ (n : ℕ). Some n) (omega arith)

-- no number is less than 0
unraised : (seat : Seat) → raised seat 0 ≡ seat
unraised seat = ap (λ (last : Option ℕ). record seat { last = last }) (unraised_last seat.last)

-- a row raises the node of its update and no other
pub row_raised : (old new : Seats) (own name : List Label) (number : ℕ)
    → seat_at new own ≡ raised (seat_at old own) number
    → ((other : List Label) → pointwise label_eq other own ≡ false → seat_at new other ≡ seat_at old other)
    → seat_at new name ≡ raised (seat_at old name) (if pointwise label_eq name own then number else 0)
row_raised old new own name number there others = at (pointwise label_eq name own) refl
  where
    at : (same : Bool) → pointwise label_eq name own ≡ same → seat_at new name ≡ raised (seat_at old name) (if same then number else 0)
    at true e = subst (λ (n : List Label). seat_at new n ≡ raised (seat_at old n) number) (sym (alike_exact name own e)) there
    at false e = others name e ∙ sym (unraised (seat_at old name))

-- one row more
pub rows_raised : (kept : List Kept) (i : ℕ) (row : Kept) (name : List Label) (first before after : Seat) → i < length kept → row ≡ get_or kept i row
    → raised before (last_in (drop i kept) name) ≡ first
    → after ≡ raised before (update_number name row)
    → raised after (last_in (drop (i + 1) kept) name) ≡ first
rows_raised kept i row name first before after within is h more =
    ap (λ (s : Seat). raised s (last_in (drop (i + 1) kept) name)) more
    ∙ raised_twice before (update_number name row) (last_in (drop (i + 1) kept) name)
    ∙ ap (λ (k : Kept). raised before (last_in (k ∷ drop (i + 1) kept) name)) is
    ∙ sym (ap (raised before) (at_drop_more (λ (ks : List Kept). last_in ks name) kept i row within))
    ∙ h

-- ---- the whole

-- an agent of these parts is as it is to start
pub started_tie : (id : List ℕ) (kinds : List (List ℕ)) (top : Label) (capacity : ℕ) (pieces : List Piece) (kept : List Kept) (cache : Cache) (fresh titles : Seats) (gathers : OpenGathers) (asked : List ℕ) (owned : List (List Label))
    → cache ≡ fold piece_begun (empty_cache capacity top) pieces
    → owned ≡ owned_names pieces
    → ((name : List Label) → list_any (pointwise label_eq name) owned ≡ true → seat_at fresh name ≡ owned_seat)
    → ((name : List Label) → list_any (pointwise label_eq name) owned ≡ false → seat_at fresh name ≡ empty_seat)
    → ((name : List Label) → seat_at titles name ≡ raised (seat_at fresh name) (last_in kept name))
    → gathers ≡ []
    → asked ≡ []
    → tables_of (record { id = id; kinds = kinds; top = top; cache = cache; titles = titles; gathers = gathers; asked = asked }) ≡ started id kinds top capacity pieces kept
unfolding tables_of
started_tie id kinds top capacity pieces kept cache fresh titles gathers asked owned begun names mine others told no_gather no_ask = λ i. record {
  id = id;
  kinds = kinds;
  top = top;
  cache = begun i;
  seat = λ name. (at name (list_any (pointwise label_eq name) owned) refl ∙ ap (λ (ns : List (List Label)). if list_any (pointwise label_eq name) ns then with_last empty_seat (last_in kept name) else empty_seat) names) i;
  gather = gather_at (no_gather i);
  asked = is_among (no_ask i);
}
  where
    at : (name : List Label) (any : Bool) → list_any (pointwise label_eq name) owned ≡ any → seat_at titles name ≡ (if any then with_last empty_seat (last_in kept name) else empty_seat)
    at name true e =
        let least : max (last_in kept name) 0 ≡ last_in kept name = omega arith in
        told name ∙ ap (λ (s : Seat). raised s (last_in kept name)) (mine name e) ∙ ap (with_last empty_seat) least
    at name false e = told name ∙ ap (λ (s : Seat). raised s (last_in kept name)) (others name e)
