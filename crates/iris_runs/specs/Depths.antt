-- How deep the nodes of a city lie.
use Rattle.std.specs.Prelude.{◌≤◌, List, length, IsSome}
use Rattle.iris_base.specs.declared.limits.TheConstants.{MAX_LABELS}
use Rattle.iris_base.specs.declared.name.Label.{Label}
use Rattle.iris_tree.specs.Universe.{Node, node_at}

-- no node's name has more labels than a name may have
abbrev pub AreWithinLabels : Node → Type 0
AreWithinLabels document = (name : List Label) → IsSome (node_at document name) → length name ≤ MAX_LABELS
