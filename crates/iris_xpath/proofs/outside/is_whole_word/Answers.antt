use Rattle.iris_xpath.proofs.Endings.{whole_end, whole_more, whole_not}
use Rattle.iris_xpath.proofs.outside.is_whole_word.Goals as goal

pub returns-in-empty : goal.returns-in-empty
returns-in-empty c = whole_end c.args.word.now c.args.rest.now c.as_bytes.result.now c.in-Some.after.now c.as_bytes.ensures.value c.in-Some.ensures.cases.0 c.in-Some.ensures.cases.1 c.in-empty.len_below

pub returns-in-len1-up : goal.returns-in-len1-up
returns-in-len1-up c = whole_more c.args.word.now c.args.rest.now c.as_bytes.result.now c.in-Some.after.now c.is_word_byte.result c.as_bytes.ensures.value c.in-Some.ensures.cases.0 c.in-Some.ensures.cases.1 c.in-len1-up.len_at_least c.is_word_byte.ensures

pub returns-in-None : goal.returns-in-None
returns-in-None c = whole_not c.args.word.now c.args.rest.now c.as_bytes.result.now c.as_bytes.ensures.value c.in-None.ensures.cases
