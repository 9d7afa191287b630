use Rattle.std.proofs.Common.{◌≡◌, ◌<◌, None, List, Some, length, sym, ap, ◌∙◌, subst}
use Rattle.std.specs.Prelude.{is_some}
use Rattle.iris_route.specs.Titles.{title_at}
use Rattle.iris_runs.specs.Worlds.{owner_of}
use Rattle.iris_agent.specs.Tables.{Holdings}
use Rattle.iris_state.specs.Agents.{place_in}
use Rattle.iris_state.specs.Whole.{Whole}
use Rattle.iris_state.specs.contracts.state.State.{the_view}
use Rattle.iris_state.proofs.Giving.{owner_here, owner_place}
use Rattle.iris_state.proofs.state.State.place_of_owner.Goals as goal

pub unreachable-requires : goal.unreachable-requires
unreachable-requires c =
    let none : title_at c.args.self.now.registry c.args.name.now ≡ None = ap (λ (o : Whole). title_at o.registry c.args.name.now) (sym c.self.view_is) ∙ sym c.owner.ensures ∙ c.in_default.is in
    let not_there = ap is_some none in
    let there = c.requires.node in
    cc

pub unreachable-requires-in_default-place_of : goal.unreachable-requires-in_default-place_of
unreachable-requires-in_default-place_of c =
    let none = owner_place (the_view c.self.inside) c.args.name.now c.owner.result c.in-Some.title c.deref.result.now c.place_of.result c.owner.ensures c.in-Some.is c.deref.ensures.value c.place_of.ensures.place ∙ c.in_default-place_of.is in
    owner_here c.args.self.now c.args.name.now (ap (λ (o : Whole). place_in (owner_of o.registry c.args.name.now) o.agents) (sym c.self.view_is) ∙ none) c.requires.node c.requires.steady

pub returns-clause-place : goal.returns-clause-place
returns-clause-place c =
    ap (λ (o : Whole). place_in (owner_of o.registry c.args.name.now) o.agents) (sym c.self.view_is)
    ∙ owner_place (the_view c.self.inside) c.args.name.now c.owner.result c.in-Some.title c.deref.result.now (Some c.in-Some-place_of.at) c.owner.ensures c.in-Some.is c.deref.ensures.value c.in-Some-place_of.ensures.place

pub returns-clause-within : goal.returns-clause-within
returns-clause-within c = subst (λ (hs : List Holdings). c.in-Some-place_of.at < length hs) (c.deref.ensures.value ∙ ap (λ (o : Whole). o.agents) c.self.view_is) c.in-Some-place_of.ensures.within
