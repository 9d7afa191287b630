use Rattle.std.proofs.Common.{length, string_bytes}
use denote.Text.{Utf8}
use denote.Shadow.{shadow}
use Rattle.iris_xpath.specs.Reading.{Lengthens}
use Rattle.iris_xpath.proofs.word.Word.take.Given as goal

abbrev pub invariant-bytes : goal.invariant-bytes
invariant-bytes l = record {
  utf8 : shadow (Utf8 l.rest);
  grown : Lengthens l.fn.self l.fn.text (string_bytes l.self-inside.text) l.rest;
}

abbrev pub decreases-bytes : goal.decreases-bytes
decreases-bytes l = length l.rest
