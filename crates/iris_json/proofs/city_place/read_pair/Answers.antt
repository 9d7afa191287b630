use Rattle.std.proofs.Common.{List, ℕ, ap, sym, ◌∙◌, rules}
use Rattle.iris_json.proofs.PlaceReading.{agent_found, agent_missing, not_listed, placed_of}
use Rattle.iris_json.proofs.city_place.read_pair.Goals as goal

pub returns-in_default-agent_of-clause-refused : goal.returns-in_default-agent_of-clause-refused
returns-in_default-agent_of-clause-refused c p read = not_listed c.args.agents.now c.args.tree.now _ p c.in-Some.name.now c.in-Some.agent.now c.in-Some.ensures.found (agent_missing c.args.agents.now c.in-Some.agent.now c.in_default-agent_of.ensures) read

pub returns-clause-found : goal.returns-clause-found
returns-clause-found c =
    let agent = agent_found c.args.agents.now c.in-Some.agent.now c.in-Some-agent_of.agent c.in-Some-agent_of.ensures in
    placed_of c.args.agents.now c.args.tree.now _ c.in_ok-name.name c.in-Some-agent_of.agent c.in-Some.name.now c.in-Some.agent.now c.in-Some.ensures.found agent.0 agent.1 c.in_ok-name.ensures.found
