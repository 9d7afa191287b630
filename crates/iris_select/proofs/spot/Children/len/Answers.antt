use Rattle.iris_select.proofs.Children.{length_all}
use Rattle.iris_select.proofs.spot.Children.len.Goals as goal

pub returns : goal.returns
returns c = length_all c.args.self.now.plain.now c.args.self.now.nodes.now
