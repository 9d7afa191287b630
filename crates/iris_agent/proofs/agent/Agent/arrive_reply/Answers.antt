use Rattle.std.proofs.Common.{List, refl, ◌∙◌, subst}
use Rattle.iris_fragment.specs.declared.piece.Piece.{Piece}
use Rattle.iris_agent.specs.Events.{HasReplied, IsBackBut}
use Rattle.iris_agent.proofs.ArrivalTies.{awaited}
use Rattle.iris_agent.proofs.EventTies.{on_err, back, back_but, back_all}
use Rattle.iris_agent.proofs.agent.Agent.arrive_reply.Goals as goal

pub returns-in_err-steps-clause-err : goal.returns-in_err-steps-clause-err
returns-in_err-steps-clause-err g c = on_err c.from_residual.result (back c.args.self.now c.args.self.now c.args.pieces.now refl)

pub returns-in_err-take_all-clause-err : goal.returns-in_err-take_all-clause-err
returns-in_err-take_all-clause-err g c =
    on_err c.from_residual-in_err-take_all.result
    (subst (λ (ps : List Piece). IsBackBut c.args.self.now c.take_all.new.self ps) c.as_slice-pieces.ensures
    (back_but c.args.self.now c.take_all.new.self c.as_slice-pieces.result.now c.in_err-take_all.ensures.err c.in_err-take_all.ensures.rest))

pub returns-in_err-reply_to-clause-err : goal.returns-in_err-reply_to-clause-err
returns-in_err-reply_to-clause-err g c =
    on_err c.from_residual-in_err-reply_to.result
    (subst (λ (ps : List Piece). IsBackBut c.args.self.now c.reply_to.new.self ps) c.as_slice-pieces.ensures
    (back_all c.args.self.now c.reply_to.new.self c.as_slice-pieces.result.now (c.in_err-reply_to.ensures.err ∙ c.in_ok-take_all.ensures.ok)))

pub returns-clause-arrived : goal.returns-clause-arrived
returns-clause-arrived g c =
    subst (λ (ps : List Piece). HasReplied c.args.self.now c.reply_to.new.self c.args.turn c.args.ask ps c.in_ok-steps.steps.items) c.as_slice-pieces.ensures
    (awaited c.args.self.now c.take_all.new.self c.reply_to.new.self c.args.turn c.args.ask c.in-Some.number c.as_slice-pieces.result.now c.in_ok-steps.steps.items c.in-Some.ensures c.in_ok-steps.ensures.steps c.in_ok-take_all.ensures.ok c.in_ok-reply_to.ensures.ok)
