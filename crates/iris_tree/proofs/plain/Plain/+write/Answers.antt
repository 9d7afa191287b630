use Rattle.std.proofs.Common.{◌≡◌, ◌++◌, ◌∙◌, rules, append_assoc, take, take_all}
use Rattle.iris_tree.specs.declared.plain.Plain.TheViews.{out-Plain}
use Rattle.iris_tree.specs.LocalText.{plain_data, value_tokens}
use Rattle.iris_tree.proofs.ValueTokens.{plains_more, plain_written}
use Rattle.iris_tree.proofs.plain.Plain.+write.Goals as goal

pub loop-kid-preserved : goal.loop-kid-preserved
loop-kid-preserved t c =
    let wrote : c.write-in-loop-kid.new.out ≡ c.loop-kid.out ++ value_tokens (plain_data c.kid-item.result) = search rules in
    let more = plains_more _ c.loop-kid.kid-index c.kid-item.result c.loop-kid-test.true c.kid-item.is in
    rw (wrote, c.loop-kid.invariant, more) (simp append_assoc)

pub returns : goal.returns
returns t c =
    let kids : take c.loop-kid.kid-index c.as_slice-kid-items.result.now ≡ (out-Plain c.args.self.now).kids = take_all _ _ c.loop-kid-test.false ∙ c.as_slice-kid-items.ensures in
    rw (
      c.in_ok-end_object.ensures,
      c.in_ok-string-2.ensures,
      c.as_str-2.ensures,
      c.in_ok-key-4.ensures,
      c.in_ok-string.ensures,
      c.as_str.ensures.value,
      c.in_ok-key-3.ensures,
      c.in_ok-end_array.ensures,
      c.loop-kid.invariant,
      kids,
      c.in_ok-begin_array.ensures,
      c.in_ok-key-2.ensures,
      c.in_ok-write.ensures,
      c.in_ok-key.ensures,
      c.in_ok-begin_object.ensures,
      plain_written c.args.self.now,
    )
    (simp append_assoc)
