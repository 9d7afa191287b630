use Rattle.std.proofs.Common.{◌≡◌, ◌++◌, ◌∙◌, rules, append_assoc, take, take_all}
use Rattle.iris_tree.specs.LocalText.{plain_data, value_tokens}
use Rattle.iris_tree.proofs.ValueTokens.{plains_more, local_written}
use Rattle.iris_tree.proofs.local.Local.write.Goals as goal

pub loop-element-preserved : goal.loop-element-preserved
loop-element-preserved c =
    let wrote : c.write-in-loop-element.new.out ≡ c.loop-element.out ++ value_tokens (plain_data c.element-item.result) = search rules in
    let more = plains_more _ c.loop-element.element-index c.element-item.result c.loop-element-test.true c.element-item.is in
    rw (wrote, c.loop-element.invariant, more) (simp append_assoc)

pub returns : goal.returns
returns c =
    let all : take c.loop-element.element-index c.as_slice-element-items.result.now ≡ c.args.self.now.plain = take_all _ _ c.loop-element-test.false ∙ c.as_slice-element-items.ensures in
    rw (
      c.in_ok-end_object.ensures,
      c.in_ok-end_array.ensures,
      c.loop-element.invariant,
      all,
      c.in_ok-begin_array.ensures,
      c.in_ok-key-2.ensures,
      c.in_ok-write.ensures,
      c.in_ok-key.ensures,
      c.in_ok-begin_object.ensures,
      local_written c.args.self.now,
    )
    (simp append_assoc)
