-- Pairs of a name and an agent in the list of a city line.
use Rattle.std.specs.Prelude.{◌≡◌, ℕ, true, is_some, List, map}
use Rattle.std.specs.List.{AllByRecursion, list_any}
use Rattle.std.specs.Str.{bytes_eq}
use Rattle.serde_json.specs.Data.{Data, Items}
use Rattle.serde_json.specs.View.{items_of}
use Rattle.iris_base.specs.declared.name.Label.{Label}
use Rattle.iris_base.specs.NameText.{IsName}
use Rattle.iris_tree.specs.Universe.{Node, node_at}
use Rattle.iris_json.specs.CityForm.{ArePlaced}
use Rattle.iris_json.specs.CityKeys.{place_data}

-- a value is the pair of the name of a node and one of the agents
pub record IsPlaced (agents : List (List ℕ)) (tree : Node) (d : Data) (p : List Label × List ℕ) : Type 0 where
  pub is : d ≡ place_data p
  pub name : IsName p.0
  pub is_node : is_some (node_at tree p.0) ≡ true
  pub listed : list_any (bytes_eq p.1) agents ≡ true

-- a list is that of what is placed
pub record ArePlacedAt (agents : List (List ℕ)) (tree : Node) (items : Items) (place : List (List Label × List ℕ)) : Type 0 where
  pub are : items ≡ items_of (map place_data place)
  pub names : AllByRecursion (λ p. IsName p.0) place
  pub placed : ArePlaced agents tree place
