use Rattle.std.proofs.Common.{◌≡◌, ◌++◌, take}
use Rattle.iris_json.specs.Render.{item_data}
use Rattle.iris_json.proofs.Written.{all_tokens}
use Rattle.iris_json.proofs.item.put_items.Given as goal

abbrev pub invariant-loop-item : goal.invariant-loop-item
invariant-loop-item l = l.out ≡ l.initial.out ++ all_tokens item_data (take l.item-index l.items)
