use Rattle.std.proofs.Common.{sym, ap, ◌∙◌, subst}
use Rattle.iris_migrate.specs.declared.message.Message.{Message}
use Rattle.iris_migrate.specs.Titles.{parking, place_of, seat_at}
use Rattle.iris_agent.specs.Arrivals.{is_met}
use Rattle.iris_agent.specs.Changes.{HasSeat}
use Rattle.iris_agent.specs.Tables.{tables_of}
use Rattle.iris_agent.proofs.ArrivalTies.{parked_tie, unmet}
use Rattle.iris_agent.proofs.agent.Agent.wait_with.Goals as goal

pub park_ask-requires-clause-fresh : goal.park_ask-requires-clause-fresh
unfolding tables_of
park_ask-requires-clause-fresh g c = sym (ap (is_met (tables_of c.args.self.now)) c.in-Ask.is) ∙ c.requires.fresh

pub returns-clause-tables : goal.returns-clause-tables
returns-clause-tables g c =
    parked_tie c.args.self.now c.park.new.self c.args.message.now (unmet (tables_of c.args.self.now) c.args.message.now (λ ask from query start epoch floor is. c.in_default.not-Ask ask from query start epoch floor is))
    (subst (λ (m : Message). HasSeat c.args.self.now c.park.new.self (place_of m) (parking (seat_at c.args.self.now.titles (place_of m)) m)) c.in_ok-copy.ensures c.in_ok-park.ensures.ok)
