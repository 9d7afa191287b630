use Rattle.std.proofs.Common.{◌≡◌, drop}
use Rattle.iris_agent.specs.Decisions.{all_touched}
use Rattle.iris_agent.proofs.decide.touch_all.Given as goal

abbrev pub invariant-loop-need : goal.invariant-loop-need
invariant-loop-need l = all_touched l.cache.cache (drop l.need-index l.needs) ≡ all_touched l.initial.cache.cache l.needs
