-- What a walk selects, as places and as items.
use Rattle.std.specs.Prelude.{◌≡◌, ◌++◌, List, map, Option}
use Rattle.std.specs.List.{filter_map}
use Rattle.iris_tree.specs.Universe.{Node}
use Rattle.iris_tree.specs.Document.{Place}
use Rattle.iris_tree.specs.Items.{item_of, items_at}
use Rattle.iris_base.specs.declared.name.Label.{Label}
use Rattle.iris_tree.specs.declared.item.Element.TheVariants as elements
use Rattle.iris_tree.specs.declared.item.Item.{Item}
use Rattle.iris_select.specs.declared.place.Place.{Place as CodePlace}
use Rattle.iris_select.specs.declared.walk.Selected.{Selected}
use Rattle.iris_select.specs.Parts.{part_of}
use Rattle.iris_select.specs.Places.{edges_of}

-- a selected place
abbrev pub place_of_selected : Selected → CodePlace
place_of_selected s = s.place

-- the selected places, by their edges
abbrev pub places_selected : List Selected → List Place
places_selected all = map (λ s. edges_of s.place) all

-- what stands there as an item
abbrev pub selected_item : Selected → Option Item
selected_item s = item_of s.place.name (part_of s.spot)

-- a node as an item
abbrev pub node_item : List Label → Node → Item
node_item name n = record { at = name; is = elements.Node n }

-- these places were added, each with what stands there
pub record Adds (document : Node) (old new : List Selected) (more : List Place) : Type 0 where
  pub places : places_selected new ≡ places_selected old ++ more
  pub items : filter_map selected_item new ≡ filter_map selected_item old ++ items_at document more
