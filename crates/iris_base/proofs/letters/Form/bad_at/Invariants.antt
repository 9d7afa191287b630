use Rattle.std.proofs.Common.{◌≤◌}
use Rattle.iris_base.specs.Forms.{AllowsBelow}
use Rattle.iris_base.proofs.letters.Form.bad_at.Given as goal

abbrev pub invariant-loop-i : goal.invariant-loop-i
invariant-loop-i l = (l.i ≤ l.self.most) × AllowsBelow l.self.first l.self.later l.bytes l.i
