use Rattle.std.proofs.Common.{◌∙◌, ap, List}
use Rattle.iris_base.specs.declared.name.Label.{Label}
use Rattle.iris_fragment.specs.Contents.{Nodes}
use Rattle.iris_fragment.specs.Stored.{entries_named}
use Rattle.iris_fragment.specs.Changes.{with_node}
use Rattle.iris_fragment.proofs.NodeEntries.{Entries, named-insert, sorted-named}
use Rattle.iris_fragment.proofs.nodes.Nodes.insert.Goals as goal

pub invariant_of-self-2 : goal.invariant_of-self-2
invariant_of-self-2 c = sorted-named _ c.insert.ensures.ordered

pub returns-clause-ok : goal.returns-clause-ok
returns-clause-ok c =
    ap (λ (es : Entries). entries_named es) c.in_ok-insert.ensures.entries
    ∙ named-insert c.self.inside.map.entries c.in_ok-key.key c.args.node
    ∙ ap (λ (ns : Nodes). with_node ns c.in_ok-key.key.items c.args.node) c.self.view_is
    ∙ ap (λ (n : List Label). with_node c.args.self.now n c.args.node) c.in_ok-key.ensures.items
