use Rattle.std.proofs.Common.{Bool, [], ◌++◌, refl, ap, ◌∙◌}
use Rattle.iris_protocol.specs.Table.{AgentId}
use Rattle.iris_state.specs.Whole.{world_of}
use Rattle.iris_state.proofs.DueGathers.{decided_on, fewer_due, not_ok}
use Rattle.iris_state.proofs.state.State.decide_due.Goals as goal

pub lowest_due-requires : goal.lowest_due-requires
lowest_due-requires c = ap (λ (here : AgentId → Bool). here c.args.id) c.loop-number.invariant.here ∙ c.requires.here

pub loop-number-init : goal.loop-number-init
loop-number-init c = record { numbers = []; decided = (refl, c.new-lines.ensures.items); here = refl; steady = c.requires.steady }

pub loop-number-preserved : goal.loop-number-preserved
loop-number-preserved c =
    decided_on c.args.self.now c.loop-number.self c.decide.new.self c.args.id c.in-Some.number c.loop-number.lines.items c.in_ok-more.more.items c.append.new.self.items c.loop-number.invariant c.in-Some.ensures.some c.in_ok-more.ensures.decided
    c.in_ok-append.ensures.items c.decide.ensures.here c.decide.ensures.steady

pub loop-number-smaller : goal.loop-number-smaller
loop-number-smaller c =
    fewer_due (world_of c.loop-number.self) (world_of c.decide.new.self) c.loop-number.invariant.steady.past c.args.id c.in-Some.number c.in_ok-more.more.items c.loop-number.invariant.steady.good c.in-Some.ensures.some.due
    c.in_ok-more.ensures.decided

pub returns-in_err-append-clause-decided : goal.returns-in_err-append-clause-decided
returns-in_err-append-clause-decided c =
    let all = c.loop-number.lines.items ++ c.in_ok-more.more.items in
    let on = decided_on c.args.self.now c.loop-number.self c.decide.new.self c.args.id c.in-Some.number c.loop-number.lines.items c.in_ok-more.more.items all c.loop-number.invariant c.in-Some.ensures.some c.in_ok-more.ensures.decided
    refl c.decide.ensures.here c.decide.ensures.steady in
    (on.numbers, all, on.decided, not_ok c.from_residual-in_err-append.result _ c.from_residual-in_err-append.ensures.0)
