-- Documents as evaluations need them.
use Rattle.std.specs.Prelude.{◌≡◌, ◌≤◌, length, All, Option, Some, None, codes}
use Rattle.iris_base.specs.declared.limits.TheConstants.{MAX_LABELS}
use Rattle.iris_tree.specs.Attrs.{value_of}
use Rattle.iris_tree.specs.declared.plain.Plain.TheViews.{out-Plain}
use Rattle.iris_tree.specs.Universe.{Node, IsOrdered}
use Rattle.iris_tree.specs.Document.{Place, Part, whole, a_node, a_plain, part_at_place, names_of}

-- the labels rise at each level, and no name has more than MAX_LABELS of them
abbrev pub IsDocument : Node → Type 0
IsDocument document = IsOrdered document × All (λ name. length name ≤ MAX_LABELS) (names_of document)

-- it is no plain element with an attribute `id`
abbrev pub HasNoPlainId : Option Part → Type 0
HasNoPlainId None = Unit {0}
HasNoPlainId (Some whole) = Unit {0}
HasNoPlainId (Some (a_node n)) = Unit {0}
HasNoPlainId (Some (a_plain p)) = value_of (out-Plain p).attrs (codes "id") ≡ None

-- no plain element has an attribute `id`, so that `//@id` tells the ids of nodes alone
abbrev pub HasIdsAtNodesAlone : Node → Type 0
HasIdsAtNodesAlone document = (place : Place) → HasNoPlainId (part_at_place document place)
