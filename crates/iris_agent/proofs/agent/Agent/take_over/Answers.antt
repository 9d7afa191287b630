use Rattle.std.proofs.Common.{map, refl}
use Rattle.iris_agent.specs.Handovers.{ids_alone}
use Rattle.iris_agent.proofs.EventTies.{on_err, back}
use Rattle.iris_agent.proofs.HandoverTies.{brings_still, handed, back_same, back_again}
use Rattle.iris_agent.proofs.agent.Agent.take_over.Goals as goal

pub returns-in_err-steps-clause-err : goal.returns-in_err-steps-clause-err
returns-in_err-steps-clause-err g c = on_err c.from_residual.result (back c.args.self.now c.args.self.now (map ids_alone c.args.handover.now.pieces) refl)

pub returns-in_err-make-clause-err : goal.returns-in_err-make-clause-err
returns-in_err-make-clause-err g c = on_err c.from_residual-in_err-make.result (back c.args.self.now c.args.self.now (map ids_alone c.args.handover.now.pieces) refl)

pub returns-in_err-next-clause-err : goal.returns-in_err-next-clause-err
returns-in_err-next-clause-err g c =
    on_err c.from_residual-in_err-next.result (back_same c.args.self.now c.open_parked.new.self (map ids_alone c.args.handover.now.pieces) c.in_err-next.ensures.err)

pub take-requires-clause-fits : goal.take-requires-clause-fits
take-requires-clause-fits g c = brings_still c.args.self.now c.open_parked.new.self c.args.handover.now c.requires.fits c.in_ok-next.ensures.opened.rest

pub returns-in-Err-clause-err : goal.returns-in-Err-clause-err
returns-in-Err-clause-err g c =
    back_again c.args.self.now c.open_parked.new.self c.take.new.self c.close_from.new.self c.args.handover.now c.args.turn.now c.in_ok-next.next c.requires.free c.in_ok-next.ensures.opened c.in-Err.ensures.err c.close_from.ensures.closed c.close_from.ensures.rest

pub returns-clause-arrived : goal.returns-clause-arrived
returns-clause-arrived g c =
    handed c.args.self.now c.open_parked.new.self c.take.new.self c.args.turn.now (record c.args.turn.now { next_gather = c.in_ok-next.next }) c.args.handover.now c.in_ok-next.next c.in_ok-steps.steps.items
    c.requires.fits c.in_ok-next.ensures.opened c.in_default.ensures.ok c.requires.later c.in_ok-steps.ensures refl
