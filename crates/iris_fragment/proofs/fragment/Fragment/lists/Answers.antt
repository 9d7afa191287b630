use Rattle.std.proofs.Common.{◌∙◌, sym, ap, List}
use Rattle.iris_base.specs.declared.name.Label.{Label}
use Rattle.iris_fragment.specs.Contents.{is_listed}
use Rattle.iris_fragment.proofs.Parts.{listed_last}
use Rattle.iris_fragment.proofs.fragment.Fragment.lists.Goals as goal

pub returns-in-Some : goal.returns-in-Some
returns-in-Some c =
    c.lists_below.ensures ∙ sym (listed_last c.args.self.now c.in-Some.above.now c.in-Some.label.now)
    ∙ ap (λ (n : List Label). is_listed c.args.self.now n) (sym (sym c.as_slice.ensures ∙ c.in-Some.ensures.cases.0))
