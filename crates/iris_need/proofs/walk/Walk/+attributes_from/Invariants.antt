use Rattle.std.proofs.Common.{◌≡◌, drop}
use Rattle.iris_need.specs.Program.{gather}
use Rattle.iris_need.specs.Walk.{marks_of, FindsEnds}
use Rattle.iris_need.proofs.Ended.{below}
use Rattle.iris_need.proofs.Walked.{adding, IsFound}
use Rattle.iris_need.proofs.walk.Walk.+attributes_from.Given as goal

abbrev pub decreases-attributes_from : goal.decreases-attributes_from
decreases-attributes_from l = l.levels

-- what is done, and what is left, is all
abbrev pub invariant-loop-child : goal.invariant-loop-child
invariant-loop-child l = record {
  name : l.name ≡ l.fn.name;
  adds : adding l.self l.needs (gather (below l.levels (marks_of l.sought.marks) l.sought.attribute.now l.fn.name) (drop l.child-index l.ids)) ≡ adding l.self l.initial.needs (gather (below l.levels (marks_of l.sought.marks) l.sought.attribute.now l.fn.name) l.ids);
  gives : IsFound l.self FindsEnds (below l.levels (marks_of l.sought.marks) l.sought.attribute.now l.fn.name) l.told l.initial.ends.items l.ends.items l.ids l.child-index;
}
