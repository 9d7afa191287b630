use Rattle.std.proofs.Common.{◌≡◌, ◌++◌, rules, append_assoc, take, take_all}
use Rattle.iris_tree.specs.LocalText.{value_tokens}
use Rattle.iris_tree.specs.Changes.{change_data}
use Rattle.iris_tree.proofs.ValueTokens.{changes_more, changes_written}
use Rattle.iris_tree.proofs.write.write_changes.Goals as goal

pub loop-change-preserved : goal.loop-change-preserved
loop-change-preserved c =
    let wrote : c.write.new.out ≡ c.loop-change.out ++ value_tokens (change_data c.change-item.result) = search rules in
    let more = changes_more _ c.loop-change.change-index c.change-item.result c.loop-change-test.true c.change-item.is in
    rw (wrote, c.loop-change.invariant, more) (simp append_assoc)

pub returns : goal.returns
returns c =
    let all : take c.loop-change.change-index c.args.changes.now ≡ c.args.changes.now = take_all _ _ c.loop-change-test.false in
    rw (c.in_ok-end_array.ensures, c.loop-change.invariant, all, c.in_ok-begin_array.ensures, changes_written c.args.changes.now) (simp append_assoc)
