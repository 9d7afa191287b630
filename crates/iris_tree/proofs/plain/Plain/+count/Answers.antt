use Rattle.std.proofs.Common.{◌≡◌, ◌∙◌, rules, take, take_all, refl}
use Rattle.iris_tree.specs.declared.plain.Plain.TheViews.{out-Plain}
use Rattle.iris_tree.specs.LocalText.{plain_data, value_tokens}
use Rattle.iris_tree.specs.TextLen.{counted}
use Rattle.iris_tree.proofs.ValueTokens.{plains_more, plain_written}
use Rattle.iris_tree.proofs.Counted.{counted-append}
use Rattle.iris_tree.proofs.plain.Plain.+count.Goals as goal

pub loop-kid-preserved : goal.loop-kid-preserved
loop-kid-preserved t c =
    let wrote : c.count-in-loop-kid.new.counter ≡ counted c.loop-kid.counter (value_tokens (plain_data c.kid-item.result)) = search rules in
    let more = plains_more _ c.loop-kid.kid-index c.kid-item.result c.loop-kid-test.true c.kid-item.is in
    rw (wrote, c.loop-kid.invariant, more, counted-append) refl

pub returns : goal.returns
returns t c =
    let kids : take c.loop-kid.kid-index c.as_slice-kid-items.result.now ≡ (out-Plain c.args.self.now).kids = take_all _ _ c.loop-kid-test.false ∙ c.as_slice-kid-items.ensures in
    rw (
      c.end_object.ensures,
      c.string-2.ensures,
      c.as_str-2.ensures,
      c.key-4.ensures,
      c.string.ensures,
      c.as_str.ensures.value,
      c.key-3.ensures,
      c.end_array.ensures,
      c.loop-kid.invariant,
      kids,
      c.begin_array.ensures,
      c.key-2.ensures,
      c.count.ensures,
      c.key.ensures,
      c.begin_object.ensures,
      plain_written c.args.self.now,
    )
    (simp counted-append)
