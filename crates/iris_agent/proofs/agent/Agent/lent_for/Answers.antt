use Rattle.std.proofs.Common.{sym, ap, ◌∙◌}
use Rattle.iris_agent.specs.Tables.{Holdings}
use Rattle.iris_agent.proofs.CommitTies.{lent_tie, none_pending, not_waiting}
use Rattle.iris_agent.proofs.agent.Agent.lent_for.Goals.{then-is_lent, else-is_lent}
use Rattle.iris_agent.proofs.agent.Agent.lent_for.Goals as goal

pub returns-then-same_start-clause-some : goal.returns-then-same_start-clause-some
returns-then-same_start-clause-some c x is = elim c.if-is_lent.branch [
  | then-is_lent w ↦
      lent_tie c.args.self.now c.self.inside.gathers c.args.job.now c.in_ok-gather.gather.now x (ap (λ (h : Holdings). h.gathers) c.self.view_is) c.in_ok-gather.ensures (sym c.is_lent.ensures ∙ w.if-is_lent.true)
      (none_pending w.is_waiting.result c.in_ok-gather.gather.now.pending w.is_waiting.ensures.1 (not_waiting w.is_waiting.result c.if-is_lent.lent w.lent-is c.if-lent.true))
      (sym c.query.ensures ∙ c.if-same_query.ensures) (sym c.start.ensures ∙ c.if-same_start.ensures) is
  | else-is_lent w ↦ absurd (cc (w.lent-is, c.if-lent.true))
]
