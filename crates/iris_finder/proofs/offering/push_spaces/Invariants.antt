use Rattle.std.proofs.Common.{◌≡◌, ◌++◌, take}
use Rattle.iris_finder.specs.Offers.{free_spaces}
use Rattle.iris_finder.proofs.offering.push_spaces.Given as goal

-- an offer of each free space so far
abbrev pub invariant-loop-node : goal.invariant-loop-node
invariant-loop-node l = l.all.items ≡ l.initial.all.items ++ free_spaces l.at l.price (take l.node-index l.nodes)
