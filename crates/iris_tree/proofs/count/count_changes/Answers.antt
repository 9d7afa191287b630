use Rattle.std.proofs.Common.{◌≡◌, rules, take, take_all, refl}
use Rattle.iris_tree.specs.LocalText.{value_tokens}
use Rattle.iris_tree.specs.Changes.{change_data}
use Rattle.iris_tree.specs.TextLen.{counted}
use Rattle.iris_tree.proofs.ValueTokens.{changes_more, changes_written}
use Rattle.iris_tree.proofs.Counted.{counted-append}
use Rattle.iris_tree.proofs.count.count_changes.Goals as goal

pub loop-change-preserved : goal.loop-change-preserved
loop-change-preserved c =
    let wrote : c.count.new.counter ≡ counted c.loop-change.counter (value_tokens (change_data c.change-item.result)) = search rules in
    let more = changes_more _ c.loop-change.change-index c.change-item.result c.loop-change-test.true c.change-item.is in
    rw (wrote, c.loop-change.invariant, more, counted-append) refl

pub returns : goal.returns
returns c =
    let all : take c.loop-change.change-index c.args.changes.now ≡ c.args.changes.now = take_all _ _ c.loop-change-test.false in
    rw (c.end_array.ensures, c.loop-change.invariant, all, c.begin_array.ensures, changes_written c.args.changes.now) (simp counted-append)
