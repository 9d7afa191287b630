use Rattle.iris_xpath.proofs.Again.{reads_again}
use Rattle.iris_xpath.proofs.printing.print.Goals as goal

pub returns-clause-again : goal.returns-clause-again
returns-clause-again c = reads_again c.args.query.now

pub returns-in_err-write_separator-clause-again : goal.returns-in_err-write_separator-clause-again
returns-in_err-write_separator-clause-again c = reads_again c.args.query.now

pub returns-in_err-write_step-clause-again : goal.returns-in_err-write_step-clause-again
returns-in_err-write_step-clause-again c = reads_again c.args.query.now
