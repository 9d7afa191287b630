use Rattle.std.proofs.Common.{get_or, arith}
use Rattle.iris_book.proofs.LinkSteps.{at_itself}
use Rattle.iris_book.proofs.links.jump_from.Goals as goal

pub returns-else-near-far : goal.returns-else-near-far
returns-else-near-far c = λ d. ((get_or c.args.entered.now c.args.earlier d).before, at_itself c.args.entered.now c.args.earlier d c.requires.earlier, omega arith)
