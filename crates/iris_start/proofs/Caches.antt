-- What a cache holds once an agent began with pieces: what is so of the nodes, in order, and in its own hands just the nodes of the full pieces.
use Rattle.std.proofs.Common.{◌≡◌, ℕ, Bool, true, false, cond, ◌||◌, if◌then◌else◌, is_some, List, [], ◌∷◌, map, filter, fold, All, Option, Some, None, IfSome, refl, sym, ◌∙◌, ap, subst}
use Rattle.std.specs.List.{list_any}
use Rattle.std.specs.Cmp.Lexicographic.{pointwise}
use Rattle.std.proofs.lemmas.List.Elements.{All-nil, All-cons, All-head, All-tail}
use Rattle.iris_base.specs.declared.name.Label.{Label}
use Rattle.iris_base.specs.NameOrder.{label_eq, names_equiv}
use Rattle.iris_fragment.specs.declared.piece.Full.{Full}
use Rattle.iris_fragment.specs.declared.piece.Piece.{Piece}
use Rattle.iris_fragment.specs.Changes.{after_taking, version_at}
use Rattle.iris_fragment.specs.Contents.{has_place, is_listed, status_or}
use Rattle.iris_fragment.specs.Shape.{IsPieceOf}
use Rattle.iris_book.specs.Book.{History}
use Rattle.iris_cache.specs.Order.{in_front}
use Rattle.iris_cache.specs.Recency.{Cache, taken_by, trimmed, owned_in, is_of_complete}
use Rattle.iris_cache.proofs.Completeness.{ids_not_placed}
use Rattle.iris_agent.specs.Starts.{AreBegun, empty_cache, owned_names, piece_begun}
use Rattle.iris_copies.specs.Copies.{IsCopy, WasHeld, IsNewest, HoldsCopies}
use Rattle.iris_copies.proofs.Caches.{taken_all_holds, owned_in_holds}
use Rattle.iris_runs.specs.Moments.{IsOrderly}
use Rattle.iris_runs.proofs.CacheRight.{IsKept, taken_all_kept, owned_orderly, version_owned}

-- an agent may begin with a piece of a node of the city, and in full with its newest value alone
pub record MayBegin (h : History) (piece : Piece) : Type 0 where
  pub ids : IsPieceOf h.start piece
  pub newest : IfSome piece.full (λ full. IsNewest h piece.name full.local full.version)

-- ---- one piece

-- A cache that began with one piece more: `owns` says which nodes it owns.
pub record IsOneMore (h : History) (now : ℕ) (c : Cache) (new : Cache) (owns : List Label → Bool) : Type 0 where
  pub copies : HoldsCopies h now new.contents
  pub orderly : IsOrderly new
  pub owns_are : (name : List Label) → is_some (version_at new.contents name) ≡ owns name
  pub capacity : new.capacity ≡ c.capacity

one_owned : (h : History) (now : ℕ) (c : Cache) (piece : Piece) → MayBegin h piece → is_some piece.full ≡ true → has_place c.contents.nodes piece.name ≡ true → HoldsCopies h now c.contents → IsOrderly c
    → IsOneMore h now c (owned_in c piece) (λ name. cond (pointwise label_eq piece.name name) true (is_some (version_at c.contents name)))
one_owned h now c piece is full place holds orderly = record {
  copies = owned_in_holds h now c piece is.ids is.newest holds;
  orderly = owned_orderly c piece full place orderly;
  owns_are = λ name. version_owned c.contents piece full name;
  capacity = refl;
}

pub none_full : (o : Option Full) → is_some o ≡ false → o ≡ None
none_full None none = refl
none_full (Some full) none = absurd (cc)

one_taken : (h : History) (now : ℕ) (c : Cache) (piece : Piece) → MayBegin h piece → is_some piece.full ≡ false → HoldsCopies h now c.contents → IsOrderly c
    → IsOneMore h now c (taken_by c piece) (λ name. is_some (version_at c.contents name))
one_taken h now c piece is bare holds orderly = record {
  copies = taken_all_holds h now c (piece ∷ []) copies holds;
  orderly = kept.orderly;
  owns_are = λ name. ap (λ (o : Option ℕ). is_some o) (kept.same name);
  capacity = ap (λ (b : Bool). (if b then trimmed (record c { contents = after_taking c.contents piece; order = in_front c.order piece.name }) else record c { contents = after_taking c.contents piece }).capacity) (ids_not_placed c.contents piece none);
}
  where
    none : piece.full ≡ None
    none = none_full piece.full bare

    copies : All (IsCopy h now) (piece ∷ [])
    copies = All-cons (IsCopy h now) piece [] (record { ids = is.ids; full = subst (λ (o : Option Full). IfSome o (WasHeld h now piece.name)) (sym none) tt }) (All-nil (IsCopy h now))

    kept : IsKept c (taken_by c piece)
    kept = taken_all_kept h now c (piece ∷ []) copies holds orderly

-- a node is owned then where it was, or where the piece is full and of that node
abbrev owns_then : Bool → Bool → Bool → Bool
owns_then full same before = cond full (cond same true before) before

one_more : (h : History) (now : ℕ) (c : Cache) (piece : Piece) → MayBegin h piece → has_place c.contents.nodes piece.name ≡ true → HoldsCopies h now c.contents → IsOrderly c
    → IsOneMore h now c (piece_begun c piece) (λ name. owns_then (is_some piece.full) (pointwise label_eq piece.name name) (is_some (version_at c.contents name)))
one_more h now c piece is place holds orderly = either (is_some piece.full) refl
  where
    either : (b : Bool) → is_some piece.full ≡ b
        → IsOneMore h now c (if b then owned_in c piece else taken_by c piece) (λ name. owns_then b (pointwise label_eq piece.name name) (is_some (version_at c.contents name)))
    either true full = one_owned h now c piece is full place holds orderly
    either false bare = one_taken h now c piece is bare holds orderly

-- ---- all pieces

owned_first : (full same any before : Bool) (name : List Label) (piece : Piece) (names : List Piece) → pointwise label_eq name piece.name ≡ same → list_any (pointwise label_eq name) (map (λ (p : Piece). p.name) names) ≡ any
    → (any || owns_then full same before) ≡ (list_any (pointwise label_eq name) (map (λ (p : Piece). p.name) (cond full (piece ∷ names) names)) || before)
owned_first true true any before name piece names here there = by any ∙ ap (λ (b : Bool). (b || list_any (pointwise label_eq name) (map (λ (p : Piece). p.name) names)) || before) (sym here)
  where
    by : (b : Bool) → (b || true) ≡ true
    by true = refl
    by false = refl
owned_first true false any before name piece names here there =
    ap (λ (b : Bool). b || before) (sym there) ∙ ap (λ (b : Bool). (b || list_any (pointwise label_eq name) (map (λ (p : Piece). p.name) names)) || before) (sym here)
owned_first false same any before name piece names here there = ap (λ (b : Bool). b || before) (sym there)

-- the nodes that are owned after these pieces
abbrev pub owns_after : Cache → List Piece → List Label → Bool
owns_after c pieces name = list_any (pointwise label_eq name) (owned_names pieces) || is_some (version_at c.contents name)

first_and_rest : (h : History) (now : ℕ) (c : Cache) (piece : Piece) (pieces : List Piece)
    → IsOneMore h now c (piece_begun c piece) (λ name. owns_then (is_some piece.full) (pointwise label_eq piece.name name) (is_some (version_at c.contents name)))
    → IsOneMore h now (piece_begun c piece) (fold piece_begun (piece_begun c piece) pieces) (owns_after (piece_begun c piece) pieces)
    → IsOneMore h now c (fold piece_begun c (piece ∷ pieces)) (owns_after c (piece ∷ pieces))
first_and_rest h now c piece pieces first rest = record {
  copies = rest.copies;
  orderly = rest.orderly;
  owns_are = λ name.
      rest.owns_are name
      ∙ ap (λ (b : Bool). list_any (pointwise label_eq name) (owned_names pieces) || b) (first.owns_are name)
      ∙ owned_first (is_some piece.full) (pointwise label_eq piece.name name) (list_any (pointwise label_eq name) (owned_names pieces)) (is_some (version_at c.contents name)) name piece (filter (λ (p : Piece). is_some p.full) pieces)
      (names_equiv.symm name piece.name) refl;
  capacity = rest.capacity ∙ first.capacity;
}

-- once an agent began with these pieces it owns the nodes of the full ones, and what it owned before
pub all_begun : (h : History) (now : ℕ) (c : Cache) (pieces : List Piece) → All (MayBegin h) pieces → AreBegun c pieces → HoldsCopies h now c.contents → IsOrderly c → IsOneMore h now c (fold piece_begun c pieces) (owns_after c pieces)
all_begun h now c [] all begun holds orderly = record { copies = holds; orderly = orderly; owns_are = λ name. refl; capacity = refl }
all_begun h now c (piece ∷ pieces) all begun holds orderly =
    let first = one_more h now c piece (All-head (MayBegin h) piece pieces all) begun.0 holds orderly in
    first_and_rest h now c piece pieces first (all_begun h now (piece_begun c piece) pieces (All-tail (MayBegin h) piece pieces all) begun.1 first.copies first.orderly)

-- a cache that holds nothing is in order
pub empty_orderly : (capacity : ℕ) (top : Label) → IsOrderly (empty_cache capacity top)
empty_orderly capacity top = record {
  rooted = λ name held. absurd (cc);
  listed = λ name. by (is_listed (empty_cache capacity top).contents name);
}
  where
    by : (listed : Bool) → false ≡ is_of_complete (status_or listed None)
    by true = refl
    by false = refl
