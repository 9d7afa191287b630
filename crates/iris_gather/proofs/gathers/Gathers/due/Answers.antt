use Rattle.std.proofs.Common.{sym, ◌∙◌}
use Rattle.iris_gather.proofs.Passing.{lowest-next, passing-next}
use Rattle.iris_gather.proofs.gathers.Gathers.due.Goals as goal

pub returns-then-not-is_lent : goal.returns-then-not-is_lent
returns-then-not-is_lent c = lowest-next c.args.self.now c.in-Some.number.now c.next.new.self (rw c.in-Some.ensures.steps at c.loop-number.invariant) (sym c.is_lent.ensures ∙ c.if-not-is_lent.true)

pub loop-number-preserved : goal.loop-number-preserved
loop-number-preserved c = passing-next c.args.self.now c.in-Some.number.now c.next.new.self (rw c.in-Some.ensures.steps at c.loop-number.invariant) (sym c.is_lent.ensures ∙ c.if-not-is_lent.false)
