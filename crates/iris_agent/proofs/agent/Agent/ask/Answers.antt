use Rattle.std.proofs.Common.{ℕ, Some, subst}
use Rattle.iris_gather.specs.OpenGathers.{unlent}
use Rattle.iris_agent.specs.Changes.{HasGather}
use Rattle.iris_agent.proofs.Judged.{touched_tie}
use Rattle.iris_agent.proofs.agent.Agent.ask.Goals as goal

pub returns-clause-tables : goal.returns-clause-tables
returns-clause-tables g c =
    let one = Some (unlent c.args.gather) in
    touched_tie c.args.self.now c.wait.new.self c.touch_all.new.self c.args.number one c.args.support.now
    (subst (λ (n : ℕ). HasGather c.args.self.now c.wait.new.self n one) c.requires.number c.in_ok-wait.ensures.ok) c.touch_all.ensures
