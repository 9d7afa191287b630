-- Views stay views of fresh copies, whatever fresh copies are added, and as the book goes on.
use Rattle.std.proofs.Common.{◌≡◌, ℕ, ◌≤◌, List, [], ◌∷◌, All, Option, Some, None, IfSome, option_map, refl, sym, ◌∙◌, ap, subst}
use Rattle.std.proofs.lemmas.List.Elements.{All-nil, All-cons, All-weaker}
use Rattle.std.proofs.lemmas.Option.{IfSome_then}
use Rattle.std.specs.List.Sorted.{IsStrictlySortedBy}
use Rattle.iris_base.specs.declared.name.Label.{Label}
use Rattle.iris_tree.specs.Universe.{Node}
use Rattle.iris_fragment.specs.Contents.{Contents}
use Rattle.iris_fragment.specs.Shape.{ids_at}
use Rattle.iris_fragment.specs.declared.piece.Full.{Full}
use Rattle.iris_fragment.specs.declared.piece.Level.TheVariants as level
use Rattle.iris_fragment.specs.declared.piece.Level.{Level}
use Rattle.iris_fragment.specs.declared.piece.Piece.{Piece}
use Rattle.iris_xpath.specs.Syntax.{Syntax}
use Rattle.iris_book.specs.Book.{History}
use Rattle.iris_need.specs.Decided.{at_level, pieces_for, decided}
use Rattle.iris_need.specs.Needs.{support_of}
use Rattle.iris_need.specs.Pieces.{Pieces, piece_at, pieces_in, first_full, with_piece, laid_over}
use Rattle.iris_need.specs.declared.need.Need.{Need}
use Rattle.iris_need.specs.declared.need.Start.{Start}
use Rattle.iris_gather.specs.Laid.{laid}
use Rattle.iris_gather.proofs.Rising.{laid_ordered, laid_named}
use Rattle.iris_copies.specs.Copies.{IsPresent, WasHeld, GoesOn, IsCopy, IsFresh, AreCopies, AreFresh, HoldsCopies}
use Rattle.iris_copies.specs.Views.{IsView}
use Rattle.iris_copies.proofs.Added.{IsJoined, found_is, laid_each}
use Rattle.iris_copies.proofs.FragmentPieces.{each_of, usable_copies, usable_fresh}

-- ---- further pieces

pub first_is : (P : Full → Type 0) (o more : Option Full) → IfSome o P → IfSome more P → IfSome (first_full o more) P
first_is P (Some full) more h also = h
first_is P None more h also = also

copies_join : (h : History) (now : ℕ) → IsJoined (IsCopy h now)
copies_join h now old piece same was is = record {
  ids = was.ids;
  full = first_is (WasHeld h now old.name) old.full piece.full was.full (subst (λ (n : List Label). IfSome piece.full (WasHeld h now n)) (sym same) is.full);
}

fresh_join : (floor : ℕ) → IsJoined (IsFresh floor)
fresh_join floor old piece same was is = first_is (λ full. floor ≤ full.stamp) old.full piece.full was is

-- pieces one after another
pub laid_view : (h : History) (now floor : ℕ) (view : Pieces) (pieces : List Piece) → AreCopies h now pieces → AreFresh floor pieces → IsView h now floor view → IsView h now floor (laid_over pieces view)
laid_view h now floor view pieces copies fresh is = record {
  ordered = laid_ordered view pieces is.ordered;
  named = laid_named view pieces is.named;
  copies = laid_each (IsCopy h now) (copies_join h now) view pieces is.named is.copies copies;
  fresh = laid_each (IsFresh floor) (fresh_join floor) view pieces is.named is.fresh fresh;
}

-- one piece
pub added_view : (h : History) (now floor : ℕ) (view : Pieces) (piece : Piece) → IsCopy h now piece → IsFresh floor piece → IsView h now floor view → IsView h now floor (with_piece view piece)
added_view h now floor view piece copy fresh is = laid_view h now floor view (piece ∷ []) (All-cons (IsCopy h now) piece [] copy (All-nil (IsCopy h now))) (All-cons (IsFresh floor) piece [] fresh (All-nil (IsFresh floor))) is

-- the view of a gather as it is opened for a client
pub nothing_seen : (h : History) (now floor : ℕ) → IsView h now floor []
unfolding IsStrictlySortedBy
nothing_seen h now floor = record {
  ordered = tt;
  named = All-nil (λ e. e.0 ≡ e.1.name);
  copies = All-nil (IsCopy h now);
  fresh = All-nil (IsFresh floor);
}

-- what a fragment has that is usable
pub laid_usable : (h : History) (now floor : ℕ) (f : Contents) (view : Pieces) → floor ≤ now → IsPresent h now → HoldsCopies h now f → IsView h now floor view → IsView h now floor (laid f floor now view)
laid_usable h now floor f view before present holds is = laid_view h now floor view _ (usable_copies h now floor f before present holds) (usable_fresh h now floor f before present holds) is

-- ---- what an evaluation rests on

leveled_copy : (h : History) (now : ℕ) (l : Level) (piece : Piece) → IsCopy h now piece → IsCopy h now (at_level l piece)
leveled_copy h now level.Ids piece copy = record { ids = copy.ids; full = tt }
leveled_copy h now level.Full piece copy = copy

leveled_fresh : (floor : ℕ) (l : Level) (piece : Piece) → IsFresh floor piece → IsFresh floor (at_level l piece)
leveled_fresh floor level.Ids piece fresh = tt
leveled_fresh floor level.Full piece fresh = fresh

-- a fact of pieces that they keep as far as a level asks holds of the pieces of needs
pub needed_each : (P : Piece → Type 0) → ((l : Level) (piece : Piece) → P piece → P (at_level l piece)) → (view : Pieces) (needs : List Need) → All P (pieces_in view) → All P (pieces_for view needs)
needed_each P leveled view needs all = each_of P (λ need. option_map (at_level need.level) (piece_at view need.name)) needs (λ need there. by need.level need.name (piece_at view need.name) refl)
  where
    by : (l : Level) (name : List Label) (o : Option Piece) → piece_at view name ≡ o → IfSome (option_map (at_level l) o) P
    by l name None found = tt
    by l name (Some piece) found = leveled l piece (found_is P view name piece all found)

pub needed_copies : (h : History) (now floor : ℕ) (view : Pieces) (needs : List Need) → IsView h now floor view → AreCopies h now (pieces_for view needs)
needed_copies h now floor view needs is = needed_each (IsCopy h now) (leveled_copy h now) view needs is.copies

pub needed_fresh : (h : History) (now floor : ℕ) (view : Pieces) (needs : List Need) → IsView h now floor view → AreFresh floor (pieces_for view needs)
needed_fresh h now floor view needs is = needed_each (IsFresh floor) (leveled_fresh floor) view needs is.fresh

pub decided_view : (h : History) (now floor : ℕ) (query : Syntax) (start : Start) (over view : Pieces) → IsView h now floor over → IsView h now floor view → IsView h now floor (decided query start over view)
decided_view h now floor query start over view from is =
    let needs = support_of query start over in
    laid_view h now floor view (pieces_for over needs) (needed_copies h now floor over needs from) (needed_fresh h now floor over needs from) is

-- ---- the book and the moment go on

copy_goes_on : (h : History) (now : ℕ) (next : History) (at : ℕ) → GoesOn h now next at → (piece : Piece) → IsCopy h now piece → IsCopy next at piece
copy_goes_on h now next at on piece is = record {
  ids = ap (λ (d : Node). ids_at d piece.name) on.start ∙ is.ids;
  full = IfSome_then piece.full is.full (on.held piece.name);
}

pub copies_go_on : (h : History) (now : ℕ) (next : History) (at : ℕ) (pieces : List Piece) → GoesOn h now next at → AreCopies h now pieces → AreCopies next at pieces
copies_go_on h now next at pieces on all = All-weaker (IsCopy h now) (IsCopy next at) (copy_goes_on h now next at on) pieces all

pub view_goes_on : (h : History) (now : ℕ) (next : History) (at floor : ℕ) (view : Pieces) → GoesOn h now next at → IsView h now floor view → IsView next at floor view
view_goes_on h now next at floor view on is = record {
  ordered = is.ordered;
  named = is.named;
  copies = copies_go_on h now next at (pieces_in view) on is.copies;
  fresh = is.fresh;
}
