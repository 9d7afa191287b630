use Rattle.std.proofs.Common.{◌≡◌, ◌++◌, take}
use Rattle.iris_tree.specs.LocalText.{plain_data}
use Rattle.iris_tree.specs.NodeCode.{size_of}
use Rattle.iris_json.specs.Render.{node_data}
use Rattle.iris_json.proofs.Written.{all_tokens}
use Rattle.iris_json.proofs.item.+put_tree.Given as goal

abbrev pub decreases-put_tree : goal.decreases-put_tree
decreases-put_tree l = size_of l.tree.now

abbrev pub invariant-loop-node : goal.invariant-loop-node
invariant-loop-node l = l.out ≡ l.initial.out ++ all_tokens node_data (take l.node-index l.node-items)

abbrev pub invariant-loop-element : goal.invariant-loop-element
invariant-loop-element l = l.out ≡ l.initial.out ++ all_tokens plain_data (take l.element-index l.element-items)
