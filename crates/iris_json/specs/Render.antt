-- Nodes and items as JSON.
use Rattle.std.specs.Prelude.{ℕ, List, [], ◌∷◌, ◌++◌, map, codes}
use Rattle.json.specs.Token.{Token}
use Rattle.serde_json.specs.Data.{Data, string, array, object, Items, no_items, item, no_members, member}
use Rattle.serde_json.specs.View.{items_of}
use Rattle.serde_json.specs.Written.{compact_text}
use Rattle.iris_base.specs.NameText.{name_text}
use Rattle.iris_tree.specs.Universe.{Node, node, Nodes, no_nodes, nodes, label_of, local_of}
use Rattle.iris_tree.specs.Document.{Place}
use Rattle.iris_tree.specs.LocalText.{attrs_data, plain_data, value_tokens}
use Rattle.iris_tree.specs.declared.item.Element.{Element}
use Rattle.iris_tree.specs.declared.item.Item.{Item}
use Rattle.iris_tree.specs.Items.{items_at}

-- a node: its keys in the order of their bytes, its nodes in the order of their labels
abbrev mutual
  pub node_data : Node → Data
  node_data (node label local below) = object
      (member (codes "attrs") (attrs_data local.attrs)
      (member (codes "id") (string label.id)
      (member (codes "kind") (string label.kind)
      (member (codes "nodes") (array (nodes_data below))
      (member (codes "plain") (array (items_of (map plain_data local.plain)))
      no_members)))))

  -- nodes, in their order
  pub nodes_data : Nodes → Items
  nodes_data no_nodes = no_items
  nodes_data (nodes n ns) = item (node_data n) (nodes_data ns)

-- an element, with all below it
abbrev pub element_data : Element → Data
element_data (Element.Node tree) = node_data tree
element_data (Element.Plain plain) = plain_data plain

-- an item: the name of the node at or above an element, and the element
abbrev pub item_data : Item → Data
item_data i = object (member (codes "at") (string (name_text i.at)) (member (codes "is") (element_data i.is) no_members))

-- items, in their order
abbrev pub items_data : List Item → Data
items_data items = array (items_of (map item_data items))

-- the compact text of the list of the items at places
abbrev pub rendered : Node → List Place → List ℕ
rendered document found = compact_text (items_data (items_at document found))

-- ---- as tokens, for those who write

-- what is written for a node up to the first of the nodes below it
abbrev pub node_front : Node → List Token
node_front n =
    Token.begin_object ∷ Token.key (codes "attrs") ∷ (value_tokens (attrs_data (local_of n).attrs)
    ++ (Token.key (codes "id") ∷ Token.string (label_of n).id ∷ Token.key (codes "kind") ∷ Token.string (label_of n).kind ∷ Token.key (codes "nodes") ∷ Token.begin_array ∷ []))
