use Rattle.std.proofs.Common.{ap, sym, ◌∙◌}
use Rattle.iris_xpath.specs.Tally as tally
use Rattle.iris_xpath.proofs.Tallies.{joined_more, path_told, compare_told, both_capped}
use Rattle.iris_xpath.proofs.tally.+tallying.Goals as goal

pub tally_all-loop-expression-preserved : goal.tally_all-loop-expression-preserved
tally_all-loop-expression-preserved _ c = joined_more tally.tally_of _ _ _ _ _ _ c.loop-expression-test.true c.expression-item.is c.loop-expression.invariant c.tally_of.ensures c.both-all.ensures

pub tally_of-returns-in-Path : goal.tally_of-returns-in-Path
tally_of-returns-in-Path _ c = c.tally_path.ensures ∙ ap tally.capped (sym (ap tally.tally_of c.in-Path.is ∙ path_told c.in-Path.path))

pub tally_of-returns-in-Compare : goal.tally_of-returns-in-Compare
tally_of-returns-in-Compare _ c =
    both_capped _ _ _ _ _ c.tally_operand.ensures c.tally_operand-in-Compare.ensures c.both.ensures ∙ ap tally.capped (sym (ap tally.tally_of c.in-Compare.is ∙ compare_told c.in-Compare.left c.in-Compare.right c.in-Compare.comparison))

pub tally_path-loop-part-preserved : goal.tally_path-loop-part-preserved
tally_path-loop-part-preserved _ c = joined_more tally.tally_part _ _ _ _ _ _ c.loop-part-test.true c.part-item.is c.loop-part.invariant c.tally_part.ensures c.both-inner.ensures
