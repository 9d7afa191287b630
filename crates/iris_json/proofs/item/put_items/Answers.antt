use Rattle.std.proofs.Common.{◌≡◌, ◌++◌, rules, append_assoc, take, take_all}
use Rattle.iris_tree.specs.LocalText.{value_tokens}
use Rattle.iris_json.specs.Render.{item_data}
use Rattle.iris_json.proofs.Written.{tokens_more, array_written}
use Rattle.iris_json.proofs.item.put_items.Goals as goal

pub loop-item-preserved : goal.loop-item-preserved
loop-item-preserved c =
    let wrote : c.put_item.new.out ≡ c.loop-item.out ++ value_tokens (item_data c.item-item.result) = search rules in
    let more = tokens_more item_data _ c.loop-item.item-index c.item-item.result c.loop-item-test.true c.item-item.is in
    rw (wrote, c.loop-item.invariant, more) (simp append_assoc)

pub returns : goal.returns
returns c =
    let all : take c.loop-item.item-index c.args.items.now ≡ c.args.items.now = take_all _ _ c.loop-item-test.false in
    rw (
      c.in_ok-end_array.ensures,
      c.loop-item.invariant,
      all,
      c.in_ok-begin_array.ensures,
      array_written item_data c.args.items.now,
    )
    (simp append_assoc)
