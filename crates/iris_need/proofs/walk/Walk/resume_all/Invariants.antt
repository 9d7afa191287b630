use Rattle.std.proofs.Common.{◌≡◌, drop, map}
use Rattle.iris_xpath.specs.Syntax.{main_of}
use Rattle.iris_need.specs.Program.{gather, enter, spot_of}
use Rattle.iris_need.proofs.Walked.{adding}
use Rattle.iris_need.proofs.walk.Walk.resume_all.Given as goal

abbrev pub invariant-loop-state : goal.invariant-loop-state
invariant-loop-state l = record {
  adds : adding l.self l.needs (gather (enter l.self.top (map main_of l.steps) (spot_of l.fn.name)) (drop l.state-index l.states)) ≡ adding l.self l.fn.needs (gather (enter l.self.top (map main_of l.steps) (spot_of l.fn.name)) l.states);
  name : l.name ≡ l.fn.name;
}
