-- Caches hold copies, whatever is done to them: what they evict is a copy, and never what is owned.
use Rattle.std.proofs.Common.{ℕ, Bool, true, false, if◌then◌else◌, nat_le, length, List, [], ◌∷◌, Option, Some, None, IfSome}
use Rattle.std.proofs.lemmas.List.Elements.{All-head, All-tail}
use Rattle.iris_base.specs.declared.name.Label.{Label}
use Rattle.iris_fragment.specs.Changes.{after_taking, places_piece, released}
use Rattle.iris_fragment.specs.Shape.{IsPieceOf}
use Rattle.iris_fragment.specs.declared.piece.Piece.{Piece}
use Rattle.iris_book.specs.Book.{History}
use Rattle.iris_cache.specs.Order.{in_front, last_of}
use Rattle.iris_cache.specs.Recency.{Cache, is_complete, evicted_from, contents_without, last_evicted, trimmed, taken_by, taken_all, touched, owned_in, released_in}
use Rattle.iris_copies.specs.Copies.{IsPresent, IsCopy, AreCopies, IsNewest, HoldsCopies}
use Rattle.iris_copies.proofs.Fragments.{taken_holds, evicted_holds, owned_holds, released_holds}

pub evicted_from_holds : (h : History) (now : ℕ) (c : Cache) (name : List Label) → HoldsCopies h now c.contents → HoldsCopies h now (evicted_from c name).contents
evicted_from_holds h now c name holds = evicted_holds h now c.contents name holds

pub last_evicted_holds : (h : History) (now : ℕ) (c : Cache) → HoldsCopies h now c.contents → HoldsCopies h now (last_evicted c).contents
last_evicted_holds h now c holds = by (last_of c.order)
  where
    by : (o : Option (List Label)) → HoldsCopies h now (contents_without c.contents o)
    by None = holds
    by (Some name) = evicted_holds h now c.contents name holds

pub trimmed_holds : (h : History) (now : ℕ) (c : Cache) → HoldsCopies h now c.contents → HoldsCopies h now (trimmed c).contents
trimmed_holds h now c holds = either (nat_le (length c.order) c.capacity)
  where
    either : (b : Bool) → HoldsCopies h now (if b then c else last_evicted c).contents
    either true = holds
    either false = last_evicted_holds h now c holds

taken_by_holds : (h : History) (now : ℕ) (c : Cache) (piece : Piece) → IsCopy h now piece → HoldsCopies h now c.contents → HoldsCopies h now (taken_by c piece).contents
taken_by_holds h now c piece is holds = either (places_piece c.contents piece)
  where
    after : HoldsCopies h now (after_taking c.contents piece)
    after = taken_holds h now c.contents piece is holds

    either : (b : Bool) → HoldsCopies h now (if b then trimmed (record c { contents = after_taking c.contents piece; order = in_front c.order piece.name }) else record c { contents = after_taking c.contents piece }).contents
    either true = trimmed_holds h now (record c { contents = after_taking c.contents piece; order = in_front c.order piece.name }) after
    either false = after

-- pieces that are taken in one after another
pub taken_all_holds : (h : History) (now : ℕ) (c : Cache) (pieces : List Piece) → AreCopies h now pieces → HoldsCopies h now c.contents → HoldsCopies h now (taken_all c pieces).contents
taken_all_holds h now c [] all holds = holds
taken_all_holds h now c (piece ∷ pieces) all holds =
    taken_all_holds h now (taken_by c piece) pieces (All-tail (IsCopy h now) piece pieces all) (taken_by_holds h now c piece (All-head (IsCopy h now) piece pieces all) holds)

pub touched_holds : (h : History) (now : ℕ) (c : Cache) (name : List Label) → HoldsCopies h now c.contents → HoldsCopies h now (touched c name).contents
touched_holds h now c name holds = either (is_complete c.contents name)
  where
    either : (b : Bool) → HoldsCopies h now (if b then record c { order = in_front c.order name } else c).contents
    either true = holds
    either false = holds

pub owned_in_holds : (h : History) (now : ℕ) (c : Cache) (piece : Piece) → IsPieceOf h.start piece → IfSome piece.full (λ full. IsNewest h piece.name full.local full.version) → HoldsCopies h now c.contents → HoldsCopies h now (owned_in c piece).contents
owned_in_holds h now c piece is newest holds = owned_holds h now c.contents piece is newest holds

pub released_in_holds : (h : History) (now : ℕ) (c : Cache) (name : List Label) → IsPresent h now → HoldsCopies h now c.contents → HoldsCopies h now (released_in c name now).contents
released_in_holds h now c name is holds =
    trimmed_holds h now (record c { contents = released c.contents name now; order = in_front c.order name }) (released_holds h now c.contents name is holds)
