use Rattle.std.proofs.Common.{◌≡◌, ◌++◌, ◌∙◌, refl, append_assoc, take, take_all}
use Rattle.serde_json.specs.Data.{string}
use Rattle.iris_tree.specs.LocalText.{value_tokens}
use Rattle.iris_json.proofs.Written.{tokens_more, array_written, text_written}
use Rattle.iris_json.proofs.city_text.put_texts.Goals as goal

pub loop-word-preserved : goal.loop-word-preserved
loop-word-preserved g c =
    let wrote : c.string.new.self ≡ c.loop-word.out ++ value_tokens (string c.word-item.result) = c.in_ok-string.ensures ∙ rw (c.as_str.ensures.value, text_written c.word-item.result) refl in
    let more = tokens_more string _ c.loop-word.word-index c.word-item.result c.loop-word-test.true c.word-item.is in
    rw (wrote, c.loop-word.invariant, more) (simp append_assoc)

pub returns : goal.returns
returns g c =
    let all : take c.loop-word.word-index c.args.words.now ≡ c.args.words.now = take_all _ _ c.loop-word-test.false in
    rw (
      c.in_ok-end_array.ensures,
      c.loop-word.invariant,
      all,
      c.in_ok-begin_array.ensures,
      array_written string c.args.words.now,
    )
    (simp append_assoc)
