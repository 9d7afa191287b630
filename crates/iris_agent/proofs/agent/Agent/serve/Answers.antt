use Rattle.std.proofs.Common.{refl, sym, ap, ◌∙◌}
use Rattle.iris_agent.specs.Arrivals.{is_met, served}
use Rattle.iris_agent.specs.Handled.{opened_gather}
use Rattle.iris_agent.specs.Opened.{ask_gather}
use Rattle.iris_agent.specs.Outside.{seen}
use Rattle.iris_agent.specs.Tables.{tables_of, with_asked}
use Rattle.iris_agent.proofs.EventTies.{happened}
use Rattle.iris_agent.proofs.agent.Agent.serve.Goals as goal

pub serve_ask-requires-clause-fresh : goal.serve_ask-requires-clause-fresh
unfolding tables_of
serve_ask-requires-clause-fresh g c = sym (ap (is_met (tables_of c.args.self.now)) c.in-Ask.is) ∙ c.requires.fresh

pub returns-in_ok-serve_ask-in-Ask-clause-served : goal.returns-in_ok-serve_ask-in-Ask-clause-served
returns-in_ok-serve_ask-in-Ask-clause-served g c =
    happened (λ kept. served kept (tables_of c.args.self.now) c.args.turn.now c.args.message.now)
    (opened_gather (with_asked (tables_of c.args.self.now) c.in-Ask.ask) c.args.turn.now (ask_gather (tables_of c.args.self.now) c.args.turn.now c.in-Ask.ask c.in-Ask.from c.in-Ask.query c.in-Ask.start c.in-Ask.floor))
    c.serve_ask.new.self c.serve_ask.new.turn c.in_ok-steps-in-Ask.steps.items c.args.book.now
    (seen (g.P.Keeper.rows c.args.keeper.now) (g.P.Keeper.gives c.args.keeper.now) (g.P.Keeper.faults c.args.keeper.now))
    (g.R.Room.has_room c.args.room.now c.nothing-in-Ask.new.room)
    (λ kept. ap (served kept (tables_of c.args.self.now) c.args.turn.now) c.in-Ask.is)
    refl
    (record { tables = c.in_ok-serve_ask-in-Ask.ensures.tables; turn = c.in_ok-serve_ask-in-Ask.ensures.turn; steps = c.in_ok-steps-in-Ask.ensures.steps })
    c.in_ok-steps-in-Ask.ensures.room
