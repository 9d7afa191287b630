use Rattle.std.proofs.Common.{◌≡◌, [], take}
use Rattle.iris_route.specs.Start.{placed_titles, put_all}
use Rattle.iris_route.proofs.start.placed_titles.Given as goal

-- the titles of the places so far
abbrev pub invariant-loop-name : goal.invariant-loop-name
invariant-loop-name l = l.placed ≡ put_all [] (placed_titles (take l.name-index l.place))
