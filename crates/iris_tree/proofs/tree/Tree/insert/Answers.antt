use Rattle.std.proofs.Common.{◌∙◌, sym, ap, subst, refl, not}
use Rattle.iris_tree.specs.Universe.{Node, IsOrdered, children_of, label_of}
use Rattle.iris_tree.proofs.Siblings.{list_of-nodes_of, labels_sorted, twin_found, no_twin, inserted_ordered, inserted_view}
use Rattle.iris_tree.proofs.tree.Tree.insert.Goals as goal

pub search-requires : goal.search-requires
search-requires c = rw c.deref.ensures.value (labels_sorted c.self.inside.nodes.items c.self.invariant)

pub returns-in_default-clause-twin : goal.returns-in_default-clause-twin
returns-in_default-clause-twin c =
    let same = c.deref.ensures.value ∙ sym (list_of-nodes_of c.self.inside.nodes.items) ∙ ap children_of c.self.view_is in
    ((λ _. twin_found _ _ _ _ _ (ap label_of c.child.view_is) c.in_default.ensures.found.1 same c.args.child), (λ _. refl))

pub returns-then-is_err-clause-twin : goal.returns-then-is_err-clause-twin
returns-then-is_err-clause-twin c =
    let same = c.deref.ensures.value ∙ sym (list_of-nodes_of c.self.inside.nodes.items) ∙ ap children_of c.self.view_is in
    ((λ other. cc), (λ some. absurd (no_twin _ _ _ _ (ap label_of c.child.view_is) c.in-Err.ensures.absent.1 same some)))

pub invariant_of-self-2 : goal.invariant_of-self-2
invariant_of-self-2 c =
    let gap = c.in-Err.ensures.absent in
    let below : IsOrdered c.args.child = subst (λ (n : Node). IsOrdered n) c.child.view_is c.child.invariant in
    inserted_ordered _ _ _ _ _ _ _ c.insert.ensures.items (c.is_err.ensures.negation ∙ ap not c.if-is_err.false) (ap label_of c.child.view_is) c.deref.ensures.value gap.0 gap.2 below c.self.invariant

pub returns-clause-ok : goal.returns-clause-ok
returns-clause-ok c =
    let gap = c.in-Err.ensures.absent in
    inserted_view _ _ _ _ _ _ _ _ _ _ c.insert.ensures.items (c.is_err.ensures.negation ∙ ap not c.if-is_err.false) (ap label_of c.child.view_is) c.deref.ensures.value gap.0 gap.2 c.self.view_is

pub returns-clause-twin : goal.returns-clause-twin
returns-clause-twin c =
    let same = c.deref.ensures.value ∙ sym (list_of-nodes_of c.self.inside.nodes.items) ∙ ap children_of c.self.view_is in
    ((λ other. cc), (λ some. absurd (no_twin _ _ _ _ (ap label_of c.child.view_is) c.in-Err.ensures.absent.1 same some)))
