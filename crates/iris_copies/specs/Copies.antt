-- Copies: what agents hold and send of nodes is what the owners of these held.
use Rattle.std.specs.Prelude.{◌≡◌, ℕ, ◌≤◌, List, All, Some, None, IfSome}
use Rattle.iris_base.specs.declared.name.Label.{Label}
use Rattle.iris_tree.specs.NamesId.{NamesNoIdAnywhere}
use Rattle.iris_tree.specs.declared.local.Local.{Local}
use Rattle.iris_fragment.specs.Changes.{version_at}
use Rattle.iris_fragment.specs.Contents.{Contents, held_at}
use Rattle.iris_fragment.specs.Shape.{HaveRisingNames, IsPieceOf, IsFragmentOf}
use Rattle.iris_fragment.specs.declared.held.HeldNode.{HeldNode}
use Rattle.iris_fragment.specs.declared.held.Part.{Part}
use Rattle.iris_fragment.specs.declared.held.Part.TheVariants.{Own, Copied, Bare}
use Rattle.iris_fragment.specs.declared.piece.Full.{Full}
use Rattle.iris_fragment.specs.declared.piece.Piece.{Piece}
use Rattle.iris_need.specs.Documents.{IsDocument}
use Rattle.iris_book.specs.Book.{History, update_count, value_at, updates_in, HadVersion, IsSound}
use Rattle.iris_book.specs.declared.entry.Entry.{Entry}
use Rattle.iris_book.specs.declared.entry.Entry.TheVariants.{Updated, Gave, Answered}

-- ---- the present

-- A book at a moment: it starts with a document in which no attribute is named `id`, each value in it was made from the one before, and no update came after the moment.
pub record IsPresent (h : History) (now : ℕ) : Type 0 where
  pub start : IsDocument h.start
  pub no_ids : NamesNoIdAnywhere h.start
  pub sound : IsSound h
  pub past : All (λ u. u.1.at ≤ now) (updates_in h.entries)

-- an update comes at that moment; any other entry has no moment of its own
abbrev pub ComesAt : ℕ → Entry → Type 0
ComesAt now (Updated name number changes local at) = at ≡ now
ComesAt now (Gave name to epoch) = Unit {0}
ComesAt now (Answered request query floor cites) = Unit {0}

-- ---- what was held

-- A full part of a node is the value of its version, which was held at its stamp, and the stamp is not after the present moment.
pub record WasHeld (h : History) (now : ℕ) (name : List Label) (full : Full) : Type 0 where
  pub value : value_at h name full.version ≡ Some full.local
  pub held : HadVersion h name full.version full.stamp
  pub past : full.stamp ≤ now

-- The book and the moment go on: the start stays, no earlier moment comes back, and what was held still was.
pub record GoesOn (h : History) (now : ℕ) (next : History) (at : ℕ) : Type 0 where
  pub start : next.start ≡ h.start
  pub time : now ≤ at
  pub held : (name : List Label) (full : Full) → WasHeld h now name full → WasHeld next at name full

-- A piece tells what is so of a node of the city: it has the node's ids, and what it has in full was held.
pub record IsCopy (h : History) (now : ℕ) (piece : Piece) : Type 0 where
  pub ids : IsPieceOf h.start piece
  pub full : IfSome piece.full (WasHeld h now piece.name)

-- what a piece has in full has a stamp at or after the floor
abbrev pub IsFresh : ℕ → Piece → Type 0
IsFresh floor piece = IfSome piece.full (λ full. floor ≤ full.stamp)

-- each of these pieces is a copy
abbrev pub AreCopies : History → ℕ → List Piece → Type 0
AreCopies h now pieces = All (IsCopy h now) pieces

-- each of these pieces is fresh
abbrev pub AreFresh : ℕ → List Piece → Type 0
AreFresh floor pieces = All (IsFresh floor) pieces

-- ---- fragments

-- The newest version of a node, and its value.
pub record IsNewest (h : History) (name : List Label) (local : Local) (version : ℕ) : Type 0 where
  pub version_is : version ≡ update_count h name
  pub value : value_at h name version ≡ Some local

-- what is held beside the ids of a node: an owned value is the newest, and a copy was held
abbrev pub IsPartAt : History → ℕ → List Label → Part → Type 0
IsPartAt h now name (Own local version) = IsNewest h name local version
IsPartAt h now name (Copied full) = WasHeld h now name full
IsPartAt h now name Bare = Unit {0}

-- A fragment holds nodes of the city, each name once, and of each what is so.
pub record HoldsCopies (h : History) (now : ℕ) (f : Contents) : Type 0 where
  pub ordered : HaveRisingNames f.nodes
  pub city : IsFragmentOf h.start f
  pub parts : (name : List Label) (node : HeldNode) → held_at f.nodes name ≡ Some node → IsPartAt h now name node.part

-- an entry updates no node that a fragment owns
abbrev pub IsElsewhere : Contents → Entry → Type 0
IsElsewhere f (Updated name number changes local at) = version_at f name ≡ None
IsElsewhere f (Gave name to epoch) = Unit {0}
IsElsewhere f (Answered request query floor cites) = Unit {0}
