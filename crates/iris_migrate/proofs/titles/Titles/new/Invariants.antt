use Rattle.std.proofs.Common.{take}
use Rattle.iris_migrate.proofs.Owning.{AreOwned}
use Rattle.iris_migrate.proofs.titles.Titles.new.Given as goal

abbrev pub invariant-loop-name : goal.invariant-loop-name
invariant-loop-name l = AreOwned (take l.name-index l.owned) l.seats
