-- The tree of a city line is in order.
use Rattle.std.proofs.Common.{ℕ, List}
use Rattle.std.specs.List.{AllByRecursion}
use Rattle.serde_json.specs.Data.{Data, Items}
use Rattle.iris_tree.specs.Universe.{Node, IsOrdered}
use Rattle.iris_tree.proofs.Siblings.{ordered_node}
use Rattle.iris_json.specs.declared.city.City.{City}
use Rattle.iris_json.specs.CityKeys.{IsNode, is_node, AreNodes, none, more}
use Rattle.iris_json.specs.CityLine.{ReadsCity}

mutual
  node_ordered : (kinds : List (List ℕ)) (d : Data) (n : Node) → IsNode kinds d n → IsOrdered n
  node_ordered kinds d n (is_node same label local items given ordered own at are order) = ordered_node label local given ordered order (nodes_ordered kinds items given are)

  nodes_ordered : (kinds : List (List ℕ)) (items : Items) (ns : List Node) → AreNodes kinds items ns → AllByRecursion IsOrdered ns
  nodes_ordered kinds items ns none = tt
  nodes_ordered kinds items ns (more d n rest ms one all) = (node_ordered kinds d n one, nodes_ordered kinds rest ms all)

-- the nodes of a city that was read stand in order
pub city_ordered : (line : List ℕ) (city : City) → ReadsCity line city → IsOrdered city.tree
city_ordered line city reads = let tree = reads.1.2.tree_at in node_ordered city.kinds tree.0 city.tree tree.2
