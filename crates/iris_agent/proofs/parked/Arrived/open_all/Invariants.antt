use Rattle.std.proofs.Common.{◌≡◌, drop}
use Rattle.iris_agent.specs.Given.{given_opened, opened_in, AreBeside}
use Rattle.iris_agent.proofs.MayOpens.{MayOpenAll}
use Rattle.iris_agent.proofs.parked.Arrived.open_all.Given as goal

abbrev pub invariant-loop-message : goal.invariant-loop-message
invariant-loop-message l = record {
  whole : given_opened l.self.top l.self.own.now l.self.at (opened_in l.gathers l.next) (drop l.message-index l.messages) ≡ given_opened l.self.top l.self.own.now l.self.at (opened_in l.initial.gathers l.first) l.messages;
  beside : AreBeside l.initial.gathers l.gathers l.first l.next;
  may : MayOpenAll l.gathers (drop l.message-index l.messages);
}
