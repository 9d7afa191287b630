use Rattle.std.proofs.Common.{codes, refl, rules}
use Rattle.std.proofs.lemmas.Result.{err_from_is_err_and}
use Rattle.serde_json.specs.Data.{object}
use Rattle.serde_json.specs.View.{members_view}
use Rattle.iris_json.specs.LineTable.{evict_keys, has, a_name, an_agent}
use Rattle.iris_json.proofs.PartReading.{agent_fits, name_fits, name_lacks, shaped}
use Rattle.iris_json.proofs.line.evict_of.Goals as goal

pub returns-in_err-agent-clause-refused : goal.returns-in_err-agent-clause-refused
returns-in_err-agent-clause-refused c =
    let p = err_from_is_err_and c.from_residual.result c.from_residual.ensures.1 in
    let d = object (members_view c.args.members.now.entries) in
    let shape = shaped (codes "evict") evict_keys d c.has_slots.result refl c.requires.does c.has_slots.ensures (search rules) in
    rw (p.1, p.2) (name_lacks evict_keys d (has (codes "agent") an_agent) _ shape (λ all. all.0) c.in_err-agent.ensures.refused)

pub returns-in_err-name-clause-refused : goal.returns-in_err-name-clause-refused
returns-in_err-name-clause-refused c =
    let p = err_from_is_err_and c.from_residual-in_err-name.result c.from_residual-in_err-name.ensures.1 in
    let d = object (members_view c.args.members.now.entries) in
    let shape = shaped (codes "evict") evict_keys d c.has_slots.result refl c.requires.does c.has_slots.ensures (search rules) in
    rw (p.1, p.2) (name_lacks evict_keys d (has (codes "name") a_name) _ shape (λ all. all.1.0) c.in_err-name.ensures.refused)

pub returns-clause-found : goal.returns-clause-found
returns-clause-found c = let d = object (members_view c.args.members.now.entries) in record {
  keys = evict_keys;
  shape = shaped (codes "evict") evict_keys d c.has_slots.result refl c.requires.does c.has_slots.ensures (search rules);
  names = (agent_fits _ _ c.in_ok-agent.ensures.found.0 c.in_ok-agent.ensures.found.1, (name_fits d c.in_ok-name.name c.in_ok-name.ensures.found, tt));
  numbers = (λ v at. tt, (λ v at. tt, tt));
  changes = (λ v at. tt, (λ v at. tt, tt));
  says = (c.requires.does, c.in_ok-agent.ensures.found.0, c.in_ok-name.ensures.found);
}
