use Rattle.std.proofs.Common.{sym, subst}
use Rattle.iris_xpath.specs.Looks.{looks_from, extent_of}
use Rattle.iris_xpath.specs.declared.expression.NameTest.{NameTest}
use Rattle.iris_select.specs.Evaluating.{document_of, place_in}
use Rattle.iris_select.specs.Marks.{HasLooked}
use Rattle.iris_select.proofs.MarkingLooks.{look_at_ids}
use Rattle.iris_select.proofs.evaluator.Evaluator.look_for.Goals as goal

pub returns-in-Kind-clause-looks : goal.returns-in-Kind-clause-looks
returns-in-Kind-clause-looks c =
    let e = c.args.self.now in
    subst (λ (t : NameTest). HasLooked e e (λ looks. looks_from (document_of e) looks c.args.separator (extent_of t) (place_in e))) (sym c.in-Kind.is) (look_at_ids e c.args.separator)
