-- Views of fresh copies.
use Rattle.std.specs.Prelude.{ℕ}
use Rattle.iris_book.specs.Book.{History}
use Rattle.iris_need.specs.Pieces.{Pieces, AreNamed, HaveRisingNames, pieces_in}
use Rattle.iris_copies.specs.Copies.{AreCopies, AreFresh}

-- A view at a moment, for a floor: each name is there once, with its own piece, which tells what is so and is fresh.
pub record IsView (h : History) (now floor : ℕ) (view : Pieces) : Type 0 where
  pub ordered : HaveRisingNames view
  pub named : AreNamed view
  pub copies : AreCopies h now (pieces_in view)
  pub fresh : AreFresh floor (pieces_in view)
