use Rattle.std.proofs.Common.{refl, sym, subst}
use Rattle.iris_state.specs.City.{IsSteady}
use Rattle.iris_state.specs.contracts.state.State.{the_view}
use Rattle.iris_state.proofs.Forgotten.{asks_fit, forgot_all, forgot_city, here_forgot, steady_forgot}
use Rattle.iris_state.proofs.state.State.forget.Goals as goal

pub returns-clause-forgot : goal.returns-clause-forgot
returns-clause-forgot c =
    let old = the_view c.self.inside in
    forgot_all old c.args.self.now _ c.self.view_is c.forget_asks.ensures (asks_fit old c.args.self.now c.asks_made.result c.self.view_is c.asks_made.ensures c.asks_made.type_inv)
    (forgot_city old _ c.forget_asks.ensures refl c.forget.ensures.post c.forget.ensures.seen c.forget.ensures.made c.drop_answers.ensures.history) c.requires.steady

pub returns-clause-steady : goal.returns-clause-steady
returns-clause-steady c =
    let old = the_view c.self.inside in
    steady_forgot old _ c.forget_asks.ensures (asks_fit old c.args.self.now c.asks_made.result c.self.view_is c.asks_made.ensures c.asks_made.type_inv)
    (forgot_city old _ c.forget_asks.ensures refl c.forget.ensures.post c.forget.ensures.seen c.forget.ensures.made c.drop_answers.ensures.history) (subst IsSteady (sym c.self.view_is) c.requires.steady)

pub returns-clause-here : goal.returns-clause-here
returns-clause-here c = here_forgot (the_view c.self.inside) c.args.self.now c.forget_asks.new.agents.items c.self.view_is c.forget_asks.ensures
