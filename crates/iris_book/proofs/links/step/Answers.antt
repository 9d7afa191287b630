use Rattle.iris_book.proofs.LinkSteps.{step_jump, step_earlier}
use Rattle.iris_book.proofs.links.step.Goals as goal

pub returns-then-entered-update : goal.returns-then-entered-update
returns-then-entered-update c = λ d.
    step_jump c.args.entered.now c.args.at c.args.number d c.index-entered-at.result c.index-entered-update.result c.requires.linked c.requires.at c.requires.later c.index-entered-at.is c.if-entered-update.true

pub returns-else-entered-update : goal.returns-else-entered-update
returns-else-entered-update c = λ d.
    step_earlier c.args.entered.now c.args.at c.args.number d c.index-entered-at.result c.requires.linked c.requires.at c.requires.later c.index-entered-at.is
