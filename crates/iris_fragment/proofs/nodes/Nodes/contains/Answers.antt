use Rattle.std.proofs.Common.{◌∙◌, sym, ap, is_some, Option}
use Rattle.iris_fragment.specs.declared.held.HeldNode.{HeldNode}
use Rattle.iris_fragment.specs.Contents.{Nodes, held_at}
use Rattle.iris_fragment.proofs.NodeEntries.{held-named}
use Rattle.iris_fragment.proofs.nodes.Nodes.contains.Goals as goal

pub returns : goal.returns
returns c =
    c.contains_key.ensures ∙ ap (λ (o : Option HeldNode). is_some o) (sym (held-named c.args.name.now c.self.inside.map.entries) ∙ ap (λ (ns : Nodes). held_at ns c.args.name.now) c.self.view_is)
