use Rattle.std.proofs.Common.{◌≡◌, ℕ, ◌-◌, ◌++◌, List, map, take, length, ap, ◌∙◌, arith}
use Rattle.std.specs.Prelude.{option_to_list}
use Rattle.std.specs.List.{filter_map, range_with_len}
use Rattle.iris_base.specs.declared.name.Label.{Label}
use Rattle.iris_fragment.specs.declared.piece.Level.TheVariants as level
use Rattle.iris_fragment.specs.declared.piece.Piece.{Piece}
use Rattle.iris_fragment.specs.Usable.{held_piece}
use Rattle.iris_agent.proofs.Above.{given_more}
use Rattle.iris_agent.proofs.pieces.pieces_above.Goals as goal

pub loop-count-preserved : goal.loop-count-preserved
loop-count-preserved c =
    let f = λ (above : List Label). held_piece c.args.fragment.now above level.Ids c.args.now in
    let g = λ (count : ℕ). take count c.args.name.now in
    record {
      within = omega arith;
      done = c.in_ok-add_ids.ensures ∙ ap (λ (ps : List Piece). ps ++ option_to_list (f (g c.loop-count.count))) c.loop-count.invariant.done ∙ given_more f g c.loop-count.count (omega arith);
    }

pub returns : goal.returns
returns c =
    let f = λ (above : List Label). held_piece c.args.fragment.now above level.Ids c.args.now in
    let g = λ (count : ℕ). take count c.args.name.now in
    let all : c.loop-count.count - 1 ≡ length c.args.name.now - 1 = omega arith in
    c.loop-count.invariant.done ∙ ap (λ (n : ℕ). filter_map f (map g (range_with_len 1 n))) all
