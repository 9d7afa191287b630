use Rattle.std.proofs.Common.{map, refl, sym, ◌∙◌}
use Rattle.std.proofs.lemmas.Result.{IfOk-weaker}
use Rattle.iris_agent.specs.Handovers.{ids_alone}
use Rattle.iris_agent.proofs.EventTies.{on_err, back}
use Rattle.iris_agent.proofs.HandoverTies.{handed_before}
use Rattle.iris_agent.proofs.agent.Agent.arrive_handover.Goals as goal

pub returns-then-has_taken-clause-arrived : goal.returns-then-has_taken-clause-arrived
returns-then-has_taken-clause-arrived g c =
    IfOk-weaker c.nothing.result _ _
    (λ made none. handed_before c.args.self.now c.args.self.now c.args.turn.now c.args.handover.now made.items refl (sym c.has_taken.ensures ∙ c.if-has_taken.true) none)
    c.nothing.ensures.steps

pub returns-then-has_taken-clause-err : goal.returns-then-has_taken-clause-err
returns-then-has_taken-clause-err g c = on_err c.nothing.result (back c.args.self.now c.args.self.now (map ids_alone c.args.handover.now.pieces) refl)
