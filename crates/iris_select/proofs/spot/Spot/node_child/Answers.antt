use Rattle.std.proofs.Common.{◌≡◌, sym, ap, ◌∙◌, Some}
use Rattle.iris_tree.specs.Universe.{Node, child_of}
use Rattle.iris_tree.specs.Document.{label}
use Rattle.iris_tree.proofs.Siblings.{labels_sorted}
use Rattle.iris_select.specs.Parts.{Child}
use Rattle.iris_select.proofs.Marking.{child_label, children_ordered}
use Rattle.iris_select.proofs.spot.Spot.node_child.Goals as goal

pub search-requires : goal.search-requires
search-requires c = labels_sorted c.children-siblings.result.now (children_ordered c.in-Node.node.now c.children-siblings.result.now c.children-siblings.ensures.value c.children-siblings.ensures.ordered)

pub returns-in-Ok-clause-edge : goal.returns-in-Ok-clause-edge
returns-in-Ok-clause-edge c =
    let n = c.index-siblings-at.result in
    let found : child_of c.args.label.now c.children-siblings.result.now ≡ Some n = c.in-Ok.ensures.found.1 n ∙ ap (λ (m : Node). Some m) (sym c.index-siblings-at.is) in
    ap (λ (x : Child). x.edge) c.node_at-in-Ok.ensures ∙ ap label (child_label c.args.label.now c.children-siblings.result.now n found)
