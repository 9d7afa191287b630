use Rattle.std.proofs.Common.{refl, ap}
use Rattle.iris_outbox.specs.Requests.{Asked}
use Rattle.iris_state.specs.Whole.{begun}
use Rattle.iris_state.proofs.Changes.{begun_one}
use Rattle.iris_state.proofs.SteadyCities.{steady_begun}
use Rattle.iris_state.proofs.state.State.new.Goals as goal

pub returns-clause-city : goal.returns-clause-city
returns-clause-city c = begun_one c.args.registry c.args.agents.items c.args.book c.new.result _ (ap (λ (r : Asked). record (begun c.args.registry c.args.agents.items c.args.book) { outbox = c.new.result; requests = r }) c.new-2.ensures) c.new.ensures.posts

pub returns-clause-steady : goal.returns-clause-steady
returns-clause-steady c = steady_begun c.args.registry c.args.agents.items c.args.book _ (returns-clause-city c) refl c.requires
