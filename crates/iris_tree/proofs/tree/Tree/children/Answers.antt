use Rattle.std.proofs.Common.{◌∙◌, sym, ap, subst}
use Rattle.iris_tree.specs.Universe.{Node, IsOrdered, children_of}
use Rattle.iris_tree.proofs.Siblings.{list_of-nodes_of}
use Rattle.iris_tree.proofs.tree.Tree.children.Goals as goal

pub returns-clause-value : goal.returns-clause-value
returns-clause-value c = c.as_slice.ensures.value ∙ sym (list_of-nodes_of c.self.inside.nodes.items) ∙ ap children_of c.self.view_is

pub returns-clause-ordered : goal.returns-clause-ordered
returns-clause-ordered c = subst (λ (n : Node). IsOrdered n) c.self.view_is c.self.invariant
