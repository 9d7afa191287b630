use Rattle.std.proofs.Common.{◌∙◌, sym, ap, option_map}
use Rattle.iris_select.specs.Parts.{part_of}
use Rattle.iris_select.proofs.Finding.{one_edge}
use Rattle.iris_select.proofs.Reach.{ends_step}
use Rattle.iris_select.proofs.spot.Spot.find.Goals as goal

pub loop-edge-preserved : goal.loop-edge-preserved
loop-edge-preserved c =
    sym (one_edge c.args.top.now (part_of c.loop-edge.spot) _ c.args.edges.now c.loop-edge.edge-index c.edge-item.result c.loop-edge-test.true c.edge-item.is c.in_ok-spot.ensures) ∙ c.loop-edge.invariant

pub returns-in_err-spot : goal.returns-in_err-spot
returns-in_err-spot c =
    ap (λ o. option_map part_of o) c.from_residual.ensures
    ∙ sym (one_edge c.args.top.now (part_of c.loop-edge.spot) _ c.args.edges.now c.loop-edge.edge-index c.edge-item.result c.loop-edge-test.true c.edge-item.is c.in_err-spot.ensures) ∙ c.loop-edge.invariant
