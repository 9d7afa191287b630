use Rattle.std.proofs.Common.{rules, ◌≡◌, ◌∙◌, sym, ap, subst, List}
use Rattle.std.specs.List.Sorted.{IsPermutation, IsStableBy}
use Rattle.std.proofs.lemmas.Fn.{always_returns_same}
use Rattle.std.proofs.lemmas.Result.{IfOk-weaker}
use Rattle.iris_tree.specs.declared.plain.Plain.{Plain}
use Rattle.iris_tree.specs.PlainOrder.{IsTextOrder, AreInTextOrder, in_text_order}
use Rattle.iris_tree.proofs.TextOrder.{is_before, before_weak, sort_is}
use Rattle.iris_tree.proofs.plain.Plain.siblings.Goals as goal

pub returns-clause-order : goal.returns-clause-order
returns-clause-order c =
    let given : c.in_ok-written.written.items ≡ c.args.elements.items = search rules in
    let up : AreInTextOrder c.sort_by.new.self.items = c.in_ok-sort_by.ensures.sorted is_before before_weak (always_returns_same _ _ _ (λ a r f called. search rules)) in
    let moved : IsPermutation c.args.elements.items c.sort_by.new.self.items = subst (λ (ps : List Plain). IsPermutation ps c.sort_by.new.self.items) given c.sort_by.ensures.permutation in
    IfOk-weaker _ _ _ (λ ps same. subst (λ (qs : List Plain). IsTextOrder c.args.elements.items qs) (sym same) (record { same = moved; rise = up })) c.into_sequence.ensures

pub returns-clause-is : goal.returns-clause-is
returns-clause-is c =
    let given : c.in_ok-written.written.items ≡ c.args.elements.items = search rules in
    let up : AreInTextOrder c.sort_by.new.self.items = c.in_ok-sort_by.ensures.sorted is_before before_weak (always_returns_same _ _ _ (λ a r f called. search rules)) in
    let still : IsStableBy is_before c.in_ok-written.written.items c.sort_by.new.self.items = c.sort_by.ensures.stable is_before before_weak (always_returns_same _ _ _ (λ a r f called. search rules)) in
    let sorted = c.sort_by.new.self.items in
    let is : sorted ≡ in_text_order c.args.elements.items = sort_is _ _ up still ∙ ap in_text_order given in
    IfOk-weaker _ (λ (ps : List Plain). ps ≡ sorted) (λ (ps : List Plain). ps ≡ in_text_order c.args.elements.items) (λ ps same. same ∙ is) c.into_sequence.ensures
