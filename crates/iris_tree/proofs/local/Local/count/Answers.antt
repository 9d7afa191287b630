use Rattle.std.proofs.Common.{◌≡◌, ◌∙◌, rules, take, take_all, refl}
use Rattle.iris_tree.specs.LocalText.{plain_data, value_tokens}
use Rattle.iris_tree.specs.TextLen.{counted}
use Rattle.iris_tree.proofs.ValueTokens.{plains_more, local_written}
use Rattle.iris_tree.proofs.Counted.{counted-append}
use Rattle.iris_tree.proofs.local.Local.count.Goals as goal

pub loop-element-preserved : goal.loop-element-preserved
loop-element-preserved c =
    let wrote : c.count-in-loop-element.new.counter ≡ counted c.loop-element.counter (value_tokens (plain_data c.element-item.result)) = search rules in
    let more = plains_more _ c.loop-element.element-index c.element-item.result c.loop-element-test.true c.element-item.is in
    rw (wrote, c.loop-element.invariant, more, counted-append) refl

pub returns : goal.returns
returns c =
    let all : take c.loop-element.element-index c.as_slice-element-items.result.now ≡ c.args.self.now.plain = take_all _ _ c.loop-element-test.false ∙ c.as_slice-element-items.ensures in
    rw (c.end_object.ensures, c.end_array.ensures, c.loop-element.invariant, all, c.begin_array.ensures, c.key-2.ensures, c.count.ensures, c.key.ensures, c.begin_object.ensures, local_written c.args.self.now)
    (simp counted-append)
