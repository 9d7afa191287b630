use Rattle.iris_migrate.proofs.Owning.{owned_step, titles_owned}
use Rattle.iris_migrate.proofs.titles.Titles.new.Goals as goal

pub loop-name-preserved : goal.loop-name-preserved
loop-name-preserved c = owned_step c.args.owned.now c.loop-name.name-index c.loop-name.seats c.own.new.self c.name-item.result c.loop-name-test.true c.loop-name.invariant c.name-item.is c.in_ok-own.ensures

pub invariant_of-result : goal.invariant_of-result
invariant_of-result c = titles_owned _ _ _ c.loop-name.invariant c.new.ensures
