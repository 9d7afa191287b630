-- Local information put at a part of a node.
use Rattle.std.specs.Prelude.{List, []}
use Rattle.iris_base.specs.declared.name.Label.{Label}
use Rattle.iris_tree.specs.declared.local.Local.{Local}
use Rattle.iris_tree.specs.Universe.{Node, node}
use Rattle.iris_tree.specs.Document.{all_with_locals, local_put}

-- the node with that local information at the part below by these labels
abbrev pub put_below : Node → List Label → Local → Node
put_below (node label old below) path local = node label (local_put path local [] old) (all_with_locals below (local_put path local))
