use Rattle.std.proofs.Common.{sym, ap, ◌∙◌}
use Rattle.std.proofs.lemmas.Option.{IfSome_then}
use Rattle.iris_xpath.specs.Syntax.{main_of}
use Rattle.iris_select.specs.Walking.{main_steps, is_deep}
use Rattle.iris_select.proofs.Stopping.{only_child}
use Rattle.iris_select.proofs.StoppingLooks.{only_looks}
use Rattle.iris_select.proofs.Adding.{IfSome_both}
use Rattle.iris_select.proofs.walk.Walker.only_child.Goals as goal

pub returns-in-Slash-clause-steps : goal.returns-in-Slash-clause-steps
returns-in-Slash-clause-steps c =
    IfSome_then c.only_label.result c.only_label.ensures.fits
    (λ label only. only_child (main_of c.in_ok-step.step.now) (main_steps c.args.self.now.steps.now) c.args.pending.now label c.in_ok-step.ensures (ap is_deep c.in-Slash.is) only)

pub returns-in-Slash-clause-looks : goal.returns-in-Slash-clause-looks
returns-in-Slash-clause-looks c =
    IfSome_both c.only_label.result c.only_label.ensures.fits c.only_label.ensures.looks
    (λ label only none. only_looks (main_of c.in_ok-step.step.now) (main_steps c.args.self.now.steps.now) c.args.pending.now label c.in_ok-step.ensures only none)
