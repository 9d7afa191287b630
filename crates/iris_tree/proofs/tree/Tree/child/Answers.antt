use Rattle.std.proofs.Common.{◌∙◌, sym, ap}
use Rattle.iris_tree.specs.Universe.{child_of, children_of}
use Rattle.iris_tree.proofs.Siblings.{list_of-nodes_of, found_here, labels_sorted}
use Rattle.iris_tree.proofs.tree.Tree.child.Goals as goal

pub search-requires : goal.search-requires
search-requires c = rw c.deref.ensures.value (labels_sorted c.self.inside.nodes.items c.self.invariant)

pub returns-in-Ok : goal.returns-in-Ok
returns-in-Ok c =
    found_here _ _ _ _ _ _ c.in-Ok.ensures.found.1 c.index.ensures (c.deref.ensures.value) (sym (list_of-nodes_of c.self.inside.nodes.items) ∙ ap children_of c.self.view_is)

pub returns-in-Err : goal.returns-in-Err
returns-in-Err c =
    sym c.in-Err.ensures.absent.1 ∙ ap (child_of c.args.label.now) (c.deref.ensures.value ∙ sym (list_of-nodes_of c.self.inside.nodes.items) ∙ ap children_of c.self.view_is)
