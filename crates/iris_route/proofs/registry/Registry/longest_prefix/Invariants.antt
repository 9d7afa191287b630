use Rattle.std.proofs.Common.{◌≡◌, ◌≤◌, length}
use Rattle.iris_route.specs.Routes.{longest_upto, longest_prefix}
use Rattle.iris_route.proofs.registry.Registry.longest_prefix.Given as goal

-- no longer prefix is a node's name
abbrev pub invariant-loop-len : goal.invariant-loop-len
invariant-loop-len l = record {
  within : l.len ≤ length l.name;
  same : longest_prefix l.self l.name ≡ longest_upto l.self l.name l.len;
}

abbrev pub decreases-loop-len : goal.decreases-loop-len
decreases-loop-len l = l.len
