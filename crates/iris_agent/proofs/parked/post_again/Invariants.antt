use Rattle.std.proofs.Common.{◌≡◌, ◌++◌, drop}
use Rattle.std.specs.List.{filter_map}
use Rattle.iris_agent.specs.Handovers.{posted_again}
use Rattle.iris_agent.proofs.parked.post_again.Given as goal

abbrev pub invariant-loop-message : goal.invariant-loop-message
invariant-loop-message l = l.steps.items ++ filter_map (posted_again l.id l.epoch) (drop l.message-index l.messages) ≡ filter_map (posted_again l.id l.epoch) l.messages
