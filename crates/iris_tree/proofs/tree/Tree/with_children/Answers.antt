use Rattle.std.proofs.Common.{◌≡◌, sym, subst, refl, rules, true, false, List}
use Rattle.std.specs.List.{All}
use Rattle.std.specs.List.Sorted.{IsSortedBy}
use Rattle.std.proofs.lemmas.Fn.{always_returns_same}
use Rattle.std.proofs.lemmas.List.MinMax.{ranks_by}
use Rattle.iris_base.specs.NameOrder.{labels_total}
use Rattle.iris_tree.specs.Universe.{Node, label_of, IsOrdered}
use Rattle.iris_tree.specs.Siblings.{IsLabelOrder}
use Rattle.iris_tree.proofs.Siblings.{list_of-nodes_of, is_before, twins_told, rising_told, ordered_from_rising, label_order_distinct}
use Rattle.iris_tree.proofs.tree.Tree.with_children.Goals as goal

pub returns-then-not-is_sorted_by-clause-twins : goal.returns-then-not-is_sorted_by-clause-twins
returns-then-not-is_sorted_by-clause-twins c =
    let up : IsSortedBy is_before c.sort_unstable_by.new.self.items = c.sort_unstable_by.ensures.sorted is_before (ranks_by labels_total label_of) (always_returns_same _ _ _ (λ a r f called. search rules)) in
    let stuck = c.is_sorted_by.ensures.cases is_before (always_returns_same _ _ _ (λ a r f called. search rules)) in
    let told : c.is_sorted_by.result ≡ false = search rules in
    ((λ none. twins_told _ _ _ _ c.sort_unstable_by.ensures.permutation up c.deref.ensures.value told stuck), (λ twins. refl))

pub invariant_of-result : goal.invariant_of-result
invariant_of-result c =
    let each : All IsOrdered c.sort_unstable_by.new.self.items = subst (λ (ns : List Node). All IsOrdered ns) c.deref-2.ensures.value c.tell_order.ensures in
    let told : c.is_sorted_by.result ≡ true = search rules in
    let rise = rising_told _ _ _ c.deref.ensures.value told (c.is_sorted_by.ensures.cases is_before (always_returns_same _ _ _ (λ a r f called. search rules))) in
    ordered_from_rising _ each rise

pub returns-clause-children : goal.returns-clause-children
returns-clause-children c =
    let told : c.is_sorted_by.result ≡ true = search rules in
    let rise = rising_told _ _ _ c.deref.ensures.value told (c.is_sorted_by.ensures.cases is_before (always_returns_same _ _ _ (λ a r f called. search rules))) in
    subst (λ (ns : List Node). IsLabelOrder c.args.children.items ns) (sym (list_of-nodes_of c.sort_unstable_by.new.self.items)) (record { same = c.sort_unstable_by.ensures.permutation; rise = rise })

pub returns-clause-twins : goal.returns-clause-twins
returns-clause-twins c =
    let told : c.is_sorted_by.result ≡ true = search rules in
    let rise = rising_told _ _ _ c.deref.ensures.value told (c.is_sorted_by.ensures.cases is_before (always_returns_same _ _ _ (λ a r f called. search rules))) in
    ((λ none. absurd (cc)), (λ twins. absurd (twins (label_order_distinct _ _ (record { same = c.sort_unstable_by.ensures.permutation; rise = rise })))))
