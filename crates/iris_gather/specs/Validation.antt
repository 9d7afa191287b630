-- Whether a verdict over an earlier view is that of an evaluation over the view of now.
use Rattle.std.specs.Prelude.{◌≡◌, List, ◌∷◌, ◌++◌, All, Contains, Option, Some, None}
use Rattle.std.specs.Cmp.Lexicographic.{slice_cmp}
use Rattle.std.specs.Ordering.{ord_min}
use Rattle.std.specs.declared.cmp.Ordering.TheVariants.{Less}
use Rattle.iris_base.specs.declared.name.Label.{Label}
use Rattle.iris_base.specs.NameOrder.{label_cmp}
use Rattle.iris_fragment.specs.declared.piece.Full.{Full}
use Rattle.iris_fragment.specs.declared.piece.Level.{Level}
use Rattle.iris_fragment.specs.declared.piece.Level.TheVariants as level
use Rattle.iris_fragment.specs.declared.piece.Piece.{Piece}
use Rattle.iris_need.specs.declared.need.Need.{Need}
use Rattle.iris_need.specs.Pieces.{Pieces, piece_at}
use Rattle.iris_gather.specs.Verdicts.{rests_on, asks_of}
use Rattle.iris_gather.specs.declared.verdict.Verdict.{Verdict}

-- ---- at one node: a piece of before, and one of now

-- both are there, with the same local information of the same version; the stamp may differ
abbrev pub IsSameFull : Option Full → Option Full → Type 0
IsSameFull None now = ⊥
IsSameFull (Some old) None = ⊥
IsSameFull (Some old) (Some now) = (old.version ≡ now.version) × (old.local ≡ now.local)

-- the same ids, and at level Full the same full part too
abbrev pub IsSamePiece : Level → Piece → Piece → Type 0
IsSamePiece level.Ids old now = old.ids ≡ now.ids
IsSamePiece level.Full old now = (old.ids ≡ now.ids) × IsSameFull old.full now.full

-- the node is had now, as it was at that level
abbrev pub IsSameAt : Level → Option Piece → Option Piece → Type 0
IsSameAt l None now = ⊥
IsSameAt l (Some old) None = ⊥
IsSameAt l (Some old) (Some now) = IsSamePiece l old now

-- no full part where there was none
abbrev pub NoMoreFull : Option Full → Option Full → Type 0
NoMoreFull old None = Unit {0}
NoMoreFull None (Some now) = ⊥
NoMoreFull (Some old) (Some now) = Unit {0}

-- no more of the node is had now than was: no piece where there was none, and no full part where there was none
abbrev pub NoMore : Option Piece → Option Piece → Type 0
NoMore old None = Unit {0}
NoMore None (Some now) = ⊥
NoMore (Some old) (Some now) = NoMoreFull old.full now.full

-- ---- at all of which a verdict speaks

-- the node of a need that a verdict rests on is had now as it was
abbrev pub IsSameFor : Pieces → Pieces → Need → Type 0
IsSameFor old now need = IsSameAt need.level (piece_at old need.name) (piece_at now need.name)

-- of the node of a missing need no more is had now than was
abbrev pub NoMoreFor : Pieces → Pieces → Need → Type 0
NoMoreFor old now need = NoMore (piece_at old need.name) (piece_at now need.name)

-- All that a verdict says of the node of that name is so of it now too.
pub record IsUnchangedAt (old now : Pieces) (verdict : Verdict) (name : List Label) : Type 0 where
  -- where the verdict rests on it, it is had as it was
  pub same : (need : Need) → Contains (rests_on verdict) need → need.name ≡ name → IsSameFor old now need
  -- where it is missing, no more of it is had
  pub no_more : (need : Need) → Contains (asks_of verdict) need → need.name ≡ name → NoMoreFor old now need

-- a verdict over the view of before is one over the view of now: it is so at each name
abbrev pub IsStillValid : Pieces → Pieces → Verdict → Type 0
IsStillValid old now verdict = (name : List Label) → IsUnchangedAt old now verdict name

-- The first name, in the order of names, at which it isn't so.
pub record IsFirstChanged (old now : Pieces) (verdict : Verdict) (name : List Label) : Type 0 where
  -- it is the name of a need of the verdict
  pub named : (need : Need) × Contains (rests_on verdict ++ asks_of verdict) need × (need.name ≡ name)
  pub changed : IsUnchangedAt old now verdict name → ⊥
  pub first : (lesser : List Label) → slice_cmp label_cmp lesser name ≡ Less → IsUnchangedAt old now verdict lesser

-- ---- what the small calls find

-- It is so of the needs before this one, and not of this one.
pub record FailsFirst (holds : Need → Type 0) (needs : List Need) (name : List Label) : Type 0 where
  pub before : List Need
  pub need : Need
  pub after : List Need
  pub are : needs ≡ before ++ need ∷ after
  pub named : need.name ≡ name
  pub hold : All holds before
  pub fails : holds need → ⊥

-- the name of the first of these needs of which it is not so, if there is one
abbrev pub IsFirstFailing : (Need → Type 0) → List Need → Option (List Label) → Type 0
IsFirstFailing holds needs None = All holds needs
IsFirstFailing holds needs (Some name) = FailsFirst holds needs name

-- the lesser of a name and of another one, if there is one
abbrev pub lesser_of : List Label → Option (List Label) → List Label
lesser_of one None = one
lesser_of one (Some other) = ord_min (slice_cmp label_cmp) one other
