use Rattle.std.proofs.Common.{sym, subst}
use Rattle.iris_tree.specs.Attrs.{Pairs, AreInNameOrder}
use Rattle.iris_tree.proofs.AttrPlaces.{none_ordered}
use Rattle.iris_tree.proofs.attrs.Attrs.new.Goals as goal

pub invariant_of-result : goal.invariant_of-result
invariant_of-result c = subst (λ (ps : Pairs). AreInNameOrder ps) (sym c.new.ensures.items) none_ordered
