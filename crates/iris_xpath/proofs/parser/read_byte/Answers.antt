use Rattle.iris_xpath.specs.Trees.{named}
use Rattle.iris_xpath.specs.Machine.{at}
use Rattle.iris_xpath.proofs.Judging.{turned_some, goes_stop, goes_high}
use Rattle.iris_xpath.proofs.parser.read_byte.Goals as goal

pub returns-in-Some-2 : goal.returns-in-Some-2
returns-in-Some-2 c = (c.in-Some.byte, c.in-Some.ensures.0, turned_some _ _ _ (rw c.in-Some-2.is at c.in_ok-next-in-Some.ensures))

pub returns-in-None-2 : goal.returns-in-None-2
returns-in-None-2 c = goes_stop (named c.args.kinds.now) (at c.args.state c.args.stack.now) c.args.rest.now c.in-Some.after.now c.in-Some.byte c.turn.new.stack c.in-Some.ensures.0 (rw c.in-None-2.is at c.in_ok-next-in-Some.ensures)

pub returns-in-None : goal.returns-in-None
returns-in-None c = goes_high (named c.args.kinds.now) c.args.state c.args.stack.now c.args.rest.now c.requires.bytewise c.in-None.ensures
