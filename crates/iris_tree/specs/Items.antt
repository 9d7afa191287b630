-- The items at the places of a document.
use Rattle.std.specs.Prelude.{List, Option, Some, None, option_and_then}
use Rattle.std.specs.List.{filter_map}
use Rattle.iris_base.specs.declared.name.Label.{Label}
use Rattle.iris_tree.specs.Universe.{Node}
use Rattle.iris_tree.specs.Document.{Place, Part, whole, a_node, a_plain, name_of, part_at_place}
use Rattle.iris_tree.specs.declared.item.Element.TheVariants as elements
use Rattle.iris_tree.specs.declared.item.Item.{Item}

-- what stands at a place, with the name of the node at or above it; the document itself is no item
abbrev pub item_of : List Label → Part → Option Item
item_of name whole = None
item_of name (a_node n) = Some (record { at = name; is = elements.Node n })
item_of name (a_plain p) = Some (record { at = name; is = elements.Plain p })

-- the item at a place, if an element stands there
abbrev pub item_at : Node → Place → Option Item
item_at document place = option_and_then (item_of (name_of place)) (part_at_place document place)

-- the items at places, in their order
abbrev pub items_at : Node → List Place → List Item
items_at document places = filter_map (item_at document) places
