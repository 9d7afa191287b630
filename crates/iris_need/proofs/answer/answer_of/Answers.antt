use Rattle.std.proofs.Common.{◌∙◌, ◌++◌, ◌∷◌, [], List, ap, sym, subst}
use Rattle.iris_base.specs.declared.name.Label.{Label}
use Rattle.iris_need.specs.declared.need.Need.{Need}
use Rattle.iris_need.specs.declared.need.Start.{Start}
use Rattle.iris_need.specs.Laws.{AreOrderedNeeds}
use Rattle.iris_need.specs.Needs.{support_of}
use Rattle.iris_need.proofs.Merged.{support_ordered}
use Rattle.iris_need.proofs.SameAnswer.{answered}
use Rattle.iris_need.proofs.answer.answer_of.Goals as goal

pub invariant_of-held : goal.invariant_of-held
invariant_of-held c = record {
  ordered = subst (λ (needs : List Need). AreOrderedNeeds needs) (sym (c.as_slice.ensures.value ∙ c.in_ok-needs.ensures)) (support_ordered c.args.query.now c.in_ok-from_document.field-0 c.args.view.now);
}

pub returns : goal.returns
returns c = record {
  determined = λ document is ids label agrees.
      answered c.args.query.now c.args.view.now document c.args.top.now c.as_slice.result.now c.push.new.self c.in_ok-part.part c.in_ok-evaluate_items.field-0.items.items (record { in_order = is; plain_ids = ids }) c.keeps_shape.ensures.named agrees label c.requires.whole
      (c.as_slice.ensures.value ∙ c.in_ok-needs.ensures ∙ ap (λ (start : Start). support_of c.args.query.now start c.args.view.now) c.in_ok-from_document.ensures)
      (c.in_ok-push.ensures.ok ∙ ap (λ (n : List Label). n ++ c.args.top.now ∷ []) c.document-name.ensures)
      (λ d n. c.in_ok-part.ensures.tree d n) c.in_ok-evaluate_items.ensures.items;
}
