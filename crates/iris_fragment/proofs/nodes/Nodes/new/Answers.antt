use Rattle.iris_fragment.proofs.NodeEntries.{sorted-named}
use Rattle.iris_fragment.proofs.nodes.Nodes.new.Goals as goal

pub invariant_of-result : goal.invariant_of-result
invariant_of-result c = sorted-named c.new.result.entries c.new.ensures.ordered
