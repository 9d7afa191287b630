use Rattle.std.proofs.Common.{◌≡◌, ◌<◌, suc, length, arith}
use Rattle.iris_cache.specs.Order.{last_of, without_any}
use Rattle.iris_cache.proofs.Bounds.{last_out}
use Rattle.iris_cache.proofs.cached.trim.Goals as goal

pub returns-then-len-capacity-clause-within : goal.returns-then-len-capacity-clause-within
returns-then-len-capacity-clause-within c = λ longer.
    let some : 0 < length c.args.copies.now.recent.order = omega (arith, c.len.ensures.len) in
    let out : suc (length (without_any c.args.copies.now.recent.order (last_of c.args.copies.now.recent.order))) ≡ length c.args.copies.now.recent.order = last_out c.args.copies.now.recent.order c.len.ensures.once some in
    rw c.evict_last.ensures.order (omega arith)
