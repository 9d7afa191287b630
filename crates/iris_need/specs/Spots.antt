-- The places at which a program stands, and what it holds of them.
use Rattle.std.specs.Prelude.{◌≡◌, List, [], ◌++◌, Some}
use Rattle.iris_base.specs.declared.name.Label.{Label}
use Rattle.iris_tree.specs.declared.local.Local.{Local}
use Rattle.iris_tree.specs.Universe.{Node, label_of, local_of, node_at}
use Rattle.iris_tree.specs.Document.{Place, place_of}
use Rattle.iris_xpath.specs.Places.{IsElementPath}
use Rattle.iris_need.specs.Program.{Spot, document_spot, node_spot, element_spot}

-- the place of a spot
abbrev pub place_at : Spot → Place
place_at document_spot = []
place_at (node_spot name l) = place_of name
place_at (element_spot name local path) = place_of name ++ path

-- a node stands at the name
pub record IsNodeAt (document : Node) (name : List Label) (l : Label) : Type 0 where
  pub node : Node
  pub there : node_at document name ≡ Some node
  pub label_is : label_of node ≡ l

-- the local information is that of the node at the name
pub record IsElementAt (document : Node) (name : List Label) (local : Local) (path : Place) : Type 0 where
  pub node : Node
  pub there : node_at document name ≡ Some node
  pub local_is : local_of node ≡ local
  pub path_is : IsElementPath path

-- what the spot holds is so in the document
abbrev pub IsSpot : Node → Spot → Type 0
IsSpot document document_spot = Unit {0}
IsSpot document (node_spot name l) = IsNodeAt document name l
IsSpot document (element_spot name local path) = IsElementAt document name local path
