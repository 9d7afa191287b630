-- Marks, as tests on the nodes of a document.
use Rattle.std.specs.Prelude.{◌≡◌, Bool, false, ◌&&◌, ◌||◌, List, [], ◌∷◌, IsSome}
use Rattle.std.specs.List.{list_any, zip}
use Rattle.iris_base.specs.declared.name.Label.{Label}
use Rattle.iris_base.specs.NameOrder.{label_eq}
use Rattle.iris_tree.specs.Universe.{Node, nodes_of, label_of, children_of, part_at, node_at}
use Rattle.iris_tree.specs.Document.{Place, place_of, all_names_of}
use Rattle.iris_xpath.specs.Looks.{Looks, is_sought, is_full_at}
use Rattle.iris_xpath.specs.declared.expression.Separator.{Separator}
use Rattle.iris_select.specs.declared.evaluator.Evaluator.{Evaluator}
use Rattle.iris_select.specs.declared.marks.Marks.{Marks}
use Rattle.iris_select.specs.declared.marks.Marks.TheViews.{out-Marks}

-- whether the node at the end of these labels from a node is marked, itself or with all below one on the way
abbrev pub marked : Node → Marks → List Label → Bool
marked n m [] = (out-Marks m).own || (out-Marks m).whole
marked n m (l ∷ path) = (out-Marks m).whole || list_any (λ c. label_eq (label_of c.0) l && marked c.0 c.1 path) (zip (children_of n) (out-Marks m).children.items)

-- the same of the marks of siblings
abbrev pub marked_among : List Node → List Marks → Label → List Label → Bool
marked_among ns ms l path = list_any (λ c. label_eq (label_of c.0) l && marked c.0 c.1 path) (zip ns ms)

-- the labels from a node to it and to each node below it, in the order of names
abbrev pub paths_of : Node → List (List Label)
paths_of n = [] ∷ all_names_of (nodes_of (children_of n))

-- the nodes that were marked are so still, and all at which something is sought from a place
pub record IsMarked (n : Node) (s : Separator) (place : Place) (old new : Marks) : Type 0 where
  pub each : (path : List Label) → IsSome (part_at n path) → marked n new path ≡ (marked n old path || is_sought s place (place_of path))

-- the same nodes are marked
abbrev pub HaveSameMarks : List Marks → List Marks → Type 0
HaveSameMarks new old = (ns : List Node) (l : Label) (path : List Label) → marked_among ns new l path ≡ marked_among ns old l path

-- whether an evaluation looked into the node of that name
abbrev pub has_look : Evaluator → List Label → Bool
has_look e [] = false
has_look e (l ∷ path) = label_eq (label_of e.top.now) l && marked e.top.now e.marks path

-- an evaluation looked into the nodes into which it had looked before, and made these looks
pub record HasLooked (old new : Evaluator) (looks : Looks → Bool) : Type 0 where
  pub each : (name : List Label) → IsSome (node_at old.top.now name) → has_look new name ≡ (has_look old name || looks (is_full_at name))
