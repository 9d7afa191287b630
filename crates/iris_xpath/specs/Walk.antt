-- The walk of an evaluation by the steps of a thin query: what it finds at a node and below, where the parent has the name `above`.
use Rattle.std.specs.Prelude.{◌≡◌, false, ◌++◌, if◌then◌else◌, List, [], ◌∷◌, map, Some}
use Rattle.iris_base.specs.declared.name.Label.{Label}
use Rattle.iris_base.specs.NameOrder.{label_eq}
use Rattle.iris_tree.specs.Universe.{Node, node, Nodes, no_nodes, nodes, label_of}
use Rattle.iris_tree.specs.Document.{a_node, all_names_of}
use Rattle.iris_xpath.specs.Thin.{Main}
use Rattle.iris_xpath.specs.ThinMeaning.{fits, tested_with_a_look}

-- the names of the nodes to which a step and the further ones lead
abbrev mutual
  pub led_to : List Label → Node → Main → List Main → List (List Label)
  led_to above (node l local below) s [] = if fits (Some (a_node (node l local below))) s then (above ++ l ∷ []) ∷ [] else []
  led_to above (node l local below) s (t ∷ ts) = if fits (Some (a_node (node l local below))) s then all_led_to (above ++ l ∷ []) below t ts else []

  pub all_led_to : List Label → Nodes → Main → List Main → List (List Label)
  all_led_to above no_nodes s ss = []
  all_led_to above (nodes n ns) s ss = led_to above n s ss ++ all_led_to above ns s ss

-- the name of a node, and the names of all below it
abbrev pub names_from : List Label → Node → List (List Label)
names_from name (node l local below) = name ∷ map (λ m. name ++ m) (all_names_of below)

-- the names of the nodes that a step and the further ones look into
abbrev mutual
  pub looked_at : List Label → Node → Main → List Main → List (List Label)
  looked_at above (node l local below) s [] =
      if fits (Some (a_node (node l local below))) s then names_from (above ++ l ∷ []) (node l local below)
      else (if tested_with_a_look (Some (a_node (node l local below))) s then (above ++ l ∷ []) ∷ [] else [])
  looked_at above (node l local below) s (t ∷ ts) =
      (if tested_with_a_look (Some (a_node (node l local below))) s then (above ++ l ∷ []) ∷ [] else [])
      ++ (if fits (Some (a_node (node l local below))) s then all_looked_at (above ++ l ∷ []) below t ts else [])

  pub all_looked_at : List Label → Nodes → Main → List Main → List (List Label)
  all_looked_at above no_nodes s ss = []
  all_looked_at above (nodes n ns) s ss = looked_at above n s ss ++ all_looked_at above ns s ss

-- the step leads to no node with another label, and looks into none
abbrev pub IsOnlyFor : Label → Main → Type 0
IsOnlyFor l s = (n : Node) → label_eq (label_of n) l ≡ false → (fits (Some (a_node n)) s ≡ false) × (tested_with_a_look (Some (a_node n)) s ≡ false)
