use Rattle.std.proofs.Common.{◌≡◌, true, is_some, arith, rules}
use Rattle.iris_cache.proofs.ReadyNames.{one_more, order_once}
use Rattle.iris_cache.proofs.recency.Recency.len.Goals as goal

pub overflow_sub-result : goal.overflow_sub-result
overflow_sub-result c =
    let some : is_some c.self.inside.ready ≡ true = search rules in
    let more = one_more c.self.inside.names c.self.inside.ready c.args.self.now c.self.view_is c.self.invariant some in
    omega (arith, c.len-all.ensures.len)

pub returns-then-is_some-clause-len : goal.returns-then-is_some-clause-len
returns-then-is_some-clause-len c =
    let some : is_some c.self.inside.ready ≡ true = search rules in
    let more = one_more c.self.inside.names c.self.inside.ready c.args.self.now c.self.view_is c.self.invariant some in
    omega (arith, c.len-all.ensures.len)

pub returns-then-is_some-clause-once : goal.returns-then-is_some-clause-once
returns-then-is_some-clause-once c = order_once c.self.inside.names c.self.inside.ready c.args.self.now c.self.view_is c.self.invariant
