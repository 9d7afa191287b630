use Rattle.std.proofs.Common.{◌≡◌, ◌+◌, ◌<◌, ◌∙◌, length, get_or, ap, sym, subst, arith, List, Some}
use Rattle.std.proofs.lemmas.Result.{on_ok_weaker}
use Rattle.iris_tree.specs.Universe.{Node, children_of, child_of}
use Rattle.iris_tree.specs.Document.{label}
use Rattle.iris_tree.proofs.Siblings.{labels_sorted}
use Rattle.iris_select.specs.Parts.{edge_of}
use Rattle.iris_select.specs.declared.marks.Marks.TheViews.{out-roll-Marks}
use Rattle.iris_select.proofs.Marking.{marked_own, marked_all, no_node, no_child, marked_below, children_ordered}
use Rattle.iris_select.proofs.marks.Marks.+mark.Goals as goal

pub returns-in-Slash : goal.returns-in-Slash
returns-in-Slash t c = marked_own _ _ _ _ _ c.in-Slash.is c.in_default.ensures.cases (simp out-roll-Marks) (simp out-roll-Marks) (simp out-roll-Marks)

pub returns-in-DoubleSlash : goal.returns-in-DoubleSlash
returns-in-DoubleSlash t c = marked_all _ _ _ _ _ c.in-DoubleSlash.is c.in_default.ensures.cases (simp out-roll-Marks)

pub returns-in_default-edge : goal.returns-in_default-edge
returns-in_default-edge t c = no_node _ _ _ _ _ _ c.in-Some.ensures.cases.0 c.in_default-edge.not-Node

pub position-requires : goal.position-requires
position-requires t c = labels_sorted c.children.result.now (children_ordered c.args.node.now c.children.result.now c.children.ensures.value c.children.ensures.ordered)

pub returns-in_default-position : goal.returns-in_default-position
returns-in_default-position t c =
    no_child _ _ _ _ _ _ _ c.in-Some.ensures.cases.0 (ap edge_of c.in-Node.is ∙ ap label (sym c.label.ensures)) (ap (λ (ns : List Node). child_of c.label.result.now ns) (sym c.children.ensures.value) ∙ c.in_default-position.ensures)

pub mark-requires : goal.mark-requires
mark-requires t c =
    let shorter : length c.args.path.now ≡ length c.in-Some.rest.now + 1 = ap length c.in-Some.ensures.cases.0 ∙ omega arith in
    (omega (arith, c.decreases, shorter), tt)

pub returns : goal.returns
returns t c =
    let ns = c.children.result.now in
    let at = c.in-Some-position.at in
    let child = c.index-children-at.result in
    let wide = c.widen.new.siblings.items in
    let found = c.in-Some-position.ensures in
    let l = c.label.result.now in
    let here : child ≡ get_or (children_of c.args.node.now) at child = c.index-children-at.is ∙ ap (λ (ms : List Node). get_or ms at child) c.children-2.ensures.value in
    let named : child_of l (children_of c.args.node.now) ≡ Some child =
    ap (λ (ms : List Node). child_of l ms) (sym c.children.ensures.value) ∙ found.1 child ∙ ap (λ (ms : List Node). Some (get_or ms at child)) c.children.ensures.value ∙ ap (λ (n : Node). Some n) (sym here) in
    on_ok_weaker c.mark.result (λ deeper.
    marked_below c.args.node.now child l c.args.separator c.in-Some.edge.now c.args.path.now c.in-Some.rest.now c.args.self.now _ c.index_mut.result.now c.mark.new.self wide at c.in-Some.ensures.cases.0 (ap edge_of c.in-Node.is ∙ ap label (sym c.label.ensures))
    (simp out-roll-Marks) (simp out-roll-Marks) (simp out-roll-Marks) c.in_ok-widen.ensures.same (subst (λ (ms : List Node). at < length ms) c.children.ensures.value found.0) c.in_ok-widen.ensures.within (simp out-roll-Marks at c.index_mut.ensures.value) here named deeper)
    c.mark.ensures
