-- Where an evaluation looks: at its start, above it, and at children that a look told of.
use Rattle.std.specs.Prelude.{◌≡◌, ◌≢◌, ◌⊎◌, true, List, [], ◌∷◌, ◌++◌, Contains, IsSome, Some}
use Rattle.iris_base.specs.declared.name.Label.{Label}
use Rattle.iris_tree.specs.Universe.{Node, label_of, node_at}
use Rattle.iris_need.specs.declared.need.Need.{Need}
use Rattle.iris_need.specs.declared.need.Start.{Start}
use Rattle.iris_need.specs.Pieces.{Pieces, piece_at}
use Rattle.iris_need.specs.Run.{View, ids_known, meets}

-- the top node's name, or a name at or above the start's; the document itself is no node
abbrev pub IsAtStart : Start → List Label → Type 0
IsAtStart start name = (name ≡ start.top ∷ []) ⊎ ((back : List Label) × (start.name ≡ name ++ back) × (name ≢ []))

-- a child of a node whose ids a view knows, at which one of these looks is met
pub record IsBelowMet (w : View) (looks : List Need) (name : List Label) : Type 0 where
  pub above : List Label
  pub label : Label
  pub ids : List Label
  pub look : Need
  pub is : name ≡ above ++ label ∷ []
  pub listed : Contains ids label
  pub known : ids_known (w above) ≡ Some ids
  pub there : Contains looks look
  pub named : look.name ≡ above
  pub met : meets w look ≡ true

-- a view has the node right above a name; the start's own name and the top node's need none
abbrev pub HasAbove : Pieces → Start → List Label → Type 0
HasAbove view start name = (name ≡ start.name) ⊎ (name ≡ start.top ∷ []) ⊎ ((above : List Label) × (label : Label) × (name ≡ above ++ label ∷ []) × IsSome (piece_at view above))

-- a start at a node of the document, or at the document itself
pub record IsStartIn (document : Node) (start : Start) : Type 0 where
  pub top : start.top ≡ label_of document
  pub there : start.name ≢ [] → IsSome (node_at document start.name)
