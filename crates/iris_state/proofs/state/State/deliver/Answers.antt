use Rattle.std.proofs.Common.{Bool, List, ◌++◌, ap, ◌∙◌}
use Rattle.iris_json.specs.declared.out.Out.{Out}
use Rattle.iris_protocol.specs.Table.{AgentId}
use Rattle.iris_state.specs.Whole.{world_of}
use Rattle.iris_state.proofs.AgentEvents.{on_err}
use Rattle.iris_state.proofs.Delivered.{cut_off_after, delivered_of}
use Rattle.iris_state.proofs.state.State.deliver.Goals as goal

pub decide_due-requires-clause-here : goal.decide_due-requires-clause-here
decide_due-requires-clause-here g c = ap (λ (here : AgentId → Bool). here c.addressee-to.result) c.arrive.ensures.here ∙ c.addressee-to.ensures.here

pub returns-in_err-more-clause-err : goal.returns-in_err-more-clause-err
returns-in_err-more-clause-err g c =
    let d = c.in_err-more.ensures.decided in
    on_err c.from_residual-in_err-more.result
    (cut_off_after (world_of c.args.self.now) (world_of c.arrive.new.self) (world_of c.decide_due.new.self) c.args.post c.addressee-to.result d.0 c.in_ok-lines.lines.items d.1 _ _ c.in_ok-lines.ensures.arrived c.addressee-to.ensures.addressee d.2)

pub returns-in_err-append-clause-err : goal.returns-in_err-append-clause-err
returns-in_err-append-clause-err g c =
    let d = c.in_ok-more.ensures.decided in
    on_err c.from_residual-in_err-append.result
    (cut_off_after (world_of c.args.self.now) (world_of c.arrive.new.self) (world_of c.decide_due.new.self) c.args.post c.addressee-to.result d.0 c.in_ok-lines.lines.items d.1 _ _ c.in_ok-lines.ensures.arrived c.addressee-to.ensures.addressee d.2)

pub returns-clause-delivered : goal.returns-clause-delivered
returns-clause-delivered g c =
    let d = c.in_ok-more.ensures.decided in
    delivered_of (world_of c.args.self.now) (world_of c.arrive.new.self) (world_of c.decide_due.new.self) c.args.post c.addressee-to.result d.0 c.in_ok-lines.lines.items d.1 c.append.new.self.items _ _ c.in_ok-lines.ensures.arrived c.addressee-to.ensures.addressee d.2
    (c.in_ok-append.ensures.items ∙ ap (λ (more : List Out). c.in_ok-lines.lines.items ++ more) d.3)
