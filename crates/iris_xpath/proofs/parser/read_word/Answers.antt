use Rattle.iris_xpath.proofs.WordRuns.{told_word, told_attribute, reads_nothing}
use Rattle.iris_xpath.proofs.parser.read_word.Goals as goal

pub returns-in-InWord : goal.returns-in-InWord
returns-in-InWord c = rw c.in-InWord.is (told_word c.in-InWord.separator c.in-InWord.spot c.in-InWord.word c.args.text.now c.take.new.self c.take.result c.take.ensures)

pub returns-in-InAttribute : goal.returns-in-InAttribute
returns-in-InAttribute c = rw c.in-InAttribute.is (told_attribute c.in-InAttribute.separator c.in-InAttribute.parts c.in-InAttribute.side c.in-InAttribute.word c.args.text.now c.take-in-InAttribute.new.self c.take-in-InAttribute.result c.take-in-InAttribute.ensures)

pub returns-in_default : goal.returns-in_default
returns-in_default c = reads_nothing _ _
