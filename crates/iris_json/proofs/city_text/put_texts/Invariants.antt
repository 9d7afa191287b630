use Rattle.std.proofs.Common.{◌≡◌, ◌++◌, take}
use Rattle.serde_json.specs.Data.{string}
use Rattle.iris_json.proofs.Written.{all_tokens}
use Rattle.iris_json.proofs.city_text.put_texts.Given as goal

abbrev pub invariant-loop-word : goal.invariant-loop-word
invariant-loop-word g l = l.out ≡ l.initial.out ++ all_tokens string (take l.word-index l.words)
