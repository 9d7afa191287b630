use Rattle.std.proofs.Common.{ap}
use Rattle.iris_agent.specs.Tables.{Holdings}
use Rattle.iris_gather.specs.Verdicts.{asks_of}
use Rattle.iris_agent.proofs.Judged.{free_asks, done_decides, asks_decide}
use Rattle.iris_agent.proofs.agent.Agent.judge.Goals as goal

pub returns-in-Done-clause-judged : goal.returns-in-Done-clause-judged
returns-in-Done-clause-judged g c one is =
    done_decides c.args.registry.now c.args.self.now c.end.new.self c.args.turn.now c.args.number one.gather c.in_ok-gather.gather c.args.basis c.as_slice.result.now c.in-Done.support c.as_slice-in-Done.result.now c.in-Done.items c.in_ok-step-in-Done.step c.in_ok-steps-in-Done.steps.items
    c.in-Done.is c.as_slice.ensures (c.in_ok-gather.ensures.taken one is) c.in_ok-step-in-Done.ensures c.in_ok-steps-in-Done.ensures.steps c.as_slice-in-Done.ensures c.in_ok-steps-in-Done.ensures.tables

pub ask-requires-clause-fresh : goal.ask-requires-clause-fresh
ask-requires-clause-fresh g c = free_asks c.args.self.now c.args.turn.now.next_ask (asks_of c.args.basis.verdict) c.in_ok-gather.gather.pending c.requires.fresh c.in_ok-gather.ensures.pending

pub returns-clause-judged : goal.returns-clause-judged
returns-clause-judged g c one is =
    asks_decide c.args.registry.now c.args.self.now c.ask.new.self c.args.turn.now c.in_ok-after.after c.args.number one.gather c.in_ok-gather.gather c.args.basis c.self.inside.id c.as_slice.result.now c.in-Asks.support c.in-Asks.missing c.as_slice-in-Asks.result.now c.as_slice-needs.result.now c.asks.result.now c.in_ok-steps-in-Asks.steps.items
    c.in-Asks.is c.as_slice.ensures (c.in_ok-gather.ensures.taken one is) c.asks.ensures c.in_ok-after.ensures.turn (ap (λ (h : Holdings). h.id) c.self.view_is) c.as_slice-needs.ensures c.in_ok-steps-in-Asks.ensures c.in_ok-gather.ensures.pending c.as_slice-in-Asks.ensures c.in_ok-ask-in-Asks.ensures.tables
