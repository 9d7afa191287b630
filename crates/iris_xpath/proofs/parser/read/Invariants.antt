use denote.Shadow.{shadow}
use denote.Text.{Utf8}
use Rattle.std.proofs.Common.{length}
use Rattle.iris_xpath.specs.Trees.{named}
use Rattle.iris_xpath.specs.Reading.{Reached, Traced}
use Rattle.iris_xpath.proofs.parser.read.Given as goal

abbrev pub invariant-bytes : goal.invariant-bytes
invariant-bytes l = record {
  utf8 : shadow (Utf8 l.rest);
  traced : Traced (named l.fn.kinds) l.fn.text l.state l.stack l.rest l.parens;
  reached : Reached (named l.fn.kinds) l.fn.text l.state l.stack l.rest;
}

abbrev pub decreases-bytes : goal.decreases-bytes
decreases-bytes l = length l.rest
