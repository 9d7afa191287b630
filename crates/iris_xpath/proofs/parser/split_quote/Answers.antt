use Rattle.std.proofs.Common.{lit<}
use Rattle.std.proofs.lemmas.Str.Pattern.{split_parts}
use Rattle.iris_xpath.proofs.Judging.{other_quote}
use Rattle.iris_xpath.proofs.parser.split_quote.Goals as goal

pub returns-then-quote-eq39 : goal.returns-then-quote-eq39
returns-then-quote-eq39 c = rw c.if-quote-eq39.true (split_parts 39 _ _ c.split_once.ensures.cases (lit< tt))

pub returns-else-quote-eq39 : goal.returns-else-quote-eq39
returns-else-quote-eq39 c = rw (other_quote _ c.requires c.if-quote-eq39.false) (split_parts 34 _ _ c.split_once-else-quote-eq39.ensures.cases (lit< tt))
