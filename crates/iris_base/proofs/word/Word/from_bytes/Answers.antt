use Rattle.std.proofs.Common.{◌≡◌, arith, rules}
use Rattle.std.specs.Str.{IsAscii}
use Rattle.iris_base.specs.Padded.{padded-new}
use Rattle.iris_base.proofs.Words.{word_ascii}
use Rattle.iris_base.proofs.word.Word.from_bytes.Goals as goal

pub invariant_of-result : goal.invariant_of-result
invariant_of-result g c =
    let ascii : IsAscii c.args.text.now = word_ascii _ _ _ _ c.requires.form in
    let same : c.copy_from_slice.new.self ≡ c.args.text.now = search rules in
    rw same (padded-new g.row.N c.args.text.now (omega arith) ascii)
