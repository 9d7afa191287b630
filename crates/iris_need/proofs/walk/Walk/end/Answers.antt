use Rattle.std.proofs.Common.{◌≡◌, ◌∙◌, sym, ap, rules, Option, None}
use Rattle.iris_xpath.specs.Syntax.{end_of}
use Rattle.iris_xpath.specs.declared.expression.Attribute.{Attribute}
use Rattle.iris_need.specs.Program.{attributes}
use Rattle.iris_need.specs.Program as program
use Rattle.iris_need.specs.Walk.{given, marks_of, spot_in, ends_after}
use Rattle.iris_need.proofs.Collected.{collected_give, given_give}
use Rattle.iris_need.proofs.Walked.{Ends, adding, more_ends}
use Rattle.iris_need.proofs.walk.Walk.end.Goals as goal

pub returns-in_default-clause-adds : goal.returns-in_default-clause-adds
returns-in_default-clause-adds c =
    let none : c.args.trail.now.attribute.now ≡ None = search rules in
    sym (collected_give c.args.self.now.takes c.args.self.now.above.now c.args.self.now.view.now c.args.needs.now {A = Ends} _) ∙ ap (λ (o : Option Attribute). adding c.args.self.now c.args.needs.now (program.ends c.args.self.now.top (marks_of c.args.trail.now.marks) (end_of o) (spot_in c.args.name.now c.args.spot.now))) (sym none)

pub returns-in_default-clause-gives : goal.returns-in_default-clause-gives
returns-in_default-clause-gives c =
    let none : c.args.trail.now.attribute.now ≡ None = search rules in
    more_ends c.args.ends.now.items c.end_here.new.ends.items _ (c.in_ok-end_here.ensures c.args.name.now) ∙ ap (ends_after c.args.ends.now.items) (sym (given_give c.args.self.now.above.now c.args.self.now.view.now {A = Ends} _) ∙ ap (λ (o : Option Attribute). given c.args.self.now (program.ends c.args.self.now.top (marks_of c.args.trail.now.marks) (end_of o) (spot_in c.args.name.now c.args.spot.now))) (sym none))
