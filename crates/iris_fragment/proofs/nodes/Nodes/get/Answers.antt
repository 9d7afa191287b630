use Rattle.std.proofs.Common.{◌∙◌, sym, ap}
use Rattle.iris_fragment.specs.Contents.{Nodes, held_at}
use Rattle.iris_fragment.proofs.NodeEntries.{held-named}
use Rattle.iris_fragment.proofs.nodes.Nodes.get.Goals as goal

pub returns : goal.returns
returns c = c.get.ensures.value ∙ sym (held-named c.args.name.now c.self.inside.map.entries) ∙ ap (λ (ns : Nodes). held_at ns c.args.name.now) c.self.view_is
