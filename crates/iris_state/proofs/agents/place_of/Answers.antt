use Rattle.std.proofs.Common.{rules, length, refl}
use Rattle.std.proofs.lemmas.Option.{slice_get_read}
use Rattle.iris_state.proofs.AgentTables.{place_found, place_on}
use Rattle.iris_state.proofs.agents.place_of.Goals as goal

pub returns-then-eq-clause-place : goal.returns-then-eq-clause-place
returns-then-eq-clause-place c =
    place_found c.args.agents.now c.args.id c.loop-at.at c.index-agents-at.result (slice_get_read c.args.agents.now (length c.args.agents.now) c.loop-at.at c.index-agents-at.result refl (search rules) c.index-agents-at.is) (search rules) c.loop-at.invariant.same

pub loop-at-preserved : goal.loop-at-preserved
loop-at-preserved c = record {
  within = search rules;
  same = place_on c.args.agents.now c.args.id c.loop-at.at c.index-agents-at.result (slice_get_read c.args.agents.now (length c.args.agents.now) c.loop-at.at c.index-agents-at.result refl (search rules) c.index-agents-at.is) (search rules) c.loop-at.invariant.same;
}
