use Rattle.std.proofs.Common.{rules}
use Rattle.iris_agent.proofs.Retained.{retained}
use Rattle.iris_agent.proofs.asks.Asks.retain.Goals as goal

pub returns : goal.returns
returns g c = rw (← c.self.view_is) (retained _ _ _ (λ x b f' k. search rules) _ _ c.retain.ensures.filtered)
