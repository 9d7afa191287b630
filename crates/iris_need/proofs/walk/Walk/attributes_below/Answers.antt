use Rattle.std.proofs.Common.{◌∙◌, sym, ap}
use Rattle.iris_xpath.specs.declared.expression.Separator.TheVariants.{DoubleSlash}
use Rattle.iris_need.specs.declared.spot.Spot.{Spot}
use Rattle.iris_need.specs.Program.{attributes}
use Rattle.iris_need.specs.Walk.{given, marks_of, spot_in, ends_after}
use Rattle.iris_need.proofs.Collected.{collected_give, given_give}
use Rattle.iris_need.proofs.Walked.{Ends, adding, more_ends}
use Rattle.iris_need.proofs.walk.Walk.attributes_below.Goals as goal

pub returns-in_ok-add_attributes_below-in-Element-clause-adds : goal.returns-in_ok-add_attributes_below-in-Element-clause-adds
returns-in_ok-add_attributes_below-in-Element-clause-adds c = sym (collected_give c.args.self.now.takes c.args.self.now.above.now c.args.self.now.view.now c.args.needs.now {A = Ends} _) ∙ ap (λ (s : Spot). adding c.args.self.now c.args.needs.now (attributes c.args.self.now.top (marks_of c.args.sought.now.marks) DoubleSlash c.args.sought.now.attribute.now (spot_in c.args.name.now s))) (sym c.in-Element.is)

pub returns-in_ok-add_attributes_below-in-Element-clause-gives : goal.returns-in_ok-add_attributes_below-in-Element-clause-gives
returns-in_ok-add_attributes_below-in-Element-clause-gives c =
    more_ends c.args.ends.now.items c.add_attributes_below.new.ends.items _ c.in_ok-add_attributes_below-in-Element.ensures ∙ ap (ends_after c.args.ends.now.items) (sym (given_give c.args.self.now.above.now c.args.self.now.view.now {A = Ends} _) ∙ ap (λ (s : Spot). given c.args.self.now (attributes c.args.self.now.top (marks_of c.args.sought.now.marks) DoubleSlash c.args.sought.now.attribute.now (spot_in c.args.name.now s))) (sym c.in-Element.is))
