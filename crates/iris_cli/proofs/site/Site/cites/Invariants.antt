use Rattle.std.proofs.Common.{◌≡◌, map}
use Rattle.iris_cli.specs.Run.{newest_cite}
use Rattle.iris_cli.proofs.site.Site.cites.Given as goal

abbrev pub invariant-loop-name : goal.invariant-loop-name
invariant-loop-name l = l.cites ≡ map (newest_cite l.self) l.yielded
