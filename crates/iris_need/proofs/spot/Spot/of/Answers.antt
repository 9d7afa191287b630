use Rattle.iris_need.proofs.ElementPaths.{spot_named}
use Rattle.iris_need.proofs.spot.Spot.of.Goals as goal
use Rattle.std.proofs.Common.{◌∙◌, sym}

pub returns : goal.returns
returns c = spot_named c.args.name.now c.in-Some.field-0-1.now _ (sym c.as_slice.ensures ∙ c.in-Some.ensures.cases.0)
