use Rattle.std.proofs.Common.{subst, ◌<◌, get_or, List, ℕ}
use Rattle.iris_xpath.proofs.Judging.{ascii_boundary}
use Rattle.iris_xpath.proofs.word.split_byte.Goals as goal

pub range_from-requires : goal.range_from-requires
range_from-requires c =
    let v = c.as_bytes.ensures.value in
    let l = c.in-len1-up.len_at_least in
    λ _. ascii_boundary c.args.text.now c.utf8.text (rw (← v) l) (subst (λ (x : List ℕ). get_or x 0 0 < 128) v c.if-byte-lt128.true)
