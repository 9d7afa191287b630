use Rattle.std.proofs.Common.{◌≡◌, ◌++◌, ◌+◌, map, drop}
use Rattle.std.specs.List.{enumerate_from}
use Rattle.iris_agent.specs.Decisions.{ask_posted}
use Rattle.iris_agent.proofs.decide.ask_posts.Given as goal

abbrev pub invariant-loop-need : goal.invariant-loop-need
invariant-loop-need l =
    (l.steps.items ++ map (ask_posted l.registry l.id l.gather) (enumerate_from l.ask (drop l.need-index l.needs)) ≡ map (ask_posted l.registry l.id l.gather) (enumerate_from l.next l.needs))
    × (l.ask ≡ l.next + l.need-index)
