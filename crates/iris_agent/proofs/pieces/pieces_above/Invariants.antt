use Rattle.std.proofs.Common.{◌≡◌, ◌-◌, ◌≤◌, List, map, take, length}
use Rattle.std.specs.List.{filter_map, range_with_len}
use Rattle.iris_base.specs.declared.name.Label.{Label}
use Rattle.iris_fragment.specs.declared.piece.Level.TheVariants as level
use Rattle.iris_fragment.specs.Usable.{held_piece}
use Rattle.iris_agent.proofs.pieces.pieces_above.Given as goal

abbrev pub invariant-loop-count : goal.invariant-loop-count
invariant-loop-count l = record {
  within : l.count - 1 ≤ length l.name - 1;
  done : l.pieces ≡ filter_map (λ (above : List Label). held_piece l.fragment above level.Ids l.now) (map (λ n. take n l.name) (range_with_len 1 (l.count - 1)));
}
