use Rattle.std.proofs.Common.{arith}
use Rattle.iris_need.proofs.route.Route.next.Goals as goal

pub invariant_of-result : goal.invariant_of-result
invariant_of-result c = omega (arith, c.args.self.now.few, c.in-Some.ensures.cases.1)
