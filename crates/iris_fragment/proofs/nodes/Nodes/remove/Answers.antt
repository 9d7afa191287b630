use Rattle.std.proofs.Common.{◌∙◌, ap}
use Rattle.iris_fragment.specs.Contents.{Nodes}
use Rattle.iris_fragment.specs.Stored.{entries_named}
use Rattle.iris_fragment.specs.Changes.{without_node}
use Rattle.iris_fragment.proofs.NodeEntries.{Entries, named-remove, sorted-named}
use Rattle.iris_fragment.proofs.nodes.Nodes.remove.Goals as goal

pub invariant_of-self : goal.invariant_of-self
invariant_of-self c = sorted-named _ c.remove.ensures.ordered

pub returns-clause-nodes : goal.returns-clause-nodes
returns-clause-nodes c =
    ap (λ (es : Entries). entries_named es) c.remove.ensures.entries
    ∙ named-remove c.args.name.now c.self.inside.map.entries
    ∙ ap (λ (ns : Nodes). without_node ns c.args.name.now) c.self.view_is
