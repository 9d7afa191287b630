use Rattle.std.proofs.Common.{rules, ◌≡◌, [], ◌∷◌, ◌++◌, string_bytes}
use Rattle.iris_xpath.proofs.Judging.{shorter_byte}
use Rattle.iris_xpath.proofs.WordRuns.{lengthens_none, lengthens_more}
use Rattle.iris_xpath.proofs.word.Word.take.Goals as goal

pub bytes-init : goal.bytes-init
bytes-init c = record {
  utf8 = search rules;
  grown = lengthens_none _ _ _ c.self.view_is;
}

pub bytes-smaller : goal.bytes-smaller
bytes-smaller c = shorter_byte c.bytes.rest.now c.in-Some.after.now c.in-Some.byte c.in-Some.ensures.0

pub bytes-preserved : goal.bytes-preserved
bytes-preserved c =
    let longer : string_bytes c.push_byte.new.text ≡ string_bytes c.bytes.self-inside.text ++ c.in-Some.byte ∷ [] = search rules in
    record {
      utf8 = search rules;
      grown = lengthens_more _ _ _ _ _ _ c.in-Some.byte c.bytes.invariant.grown c.in-Some.ensures.0 c.if-not-is_word_byte.ensures longer;
    }

pub returns-then-not-is_word_byte : goal.returns-then-not-is_word_byte
returns-then-not-is_word_byte c = c.bytes.invariant.grown

pub returns : goal.returns
returns c = c.bytes.invariant.grown
