use Rattle.std.specs.Cmp.Lexicographic.{pointwise}
use Rattle.iris_base.specs.NameOrder.{label_eq}
use Rattle.iris_route.proofs.Through.{inserted}
use Rattle.iris_route.proofs.titles.Titles.insert.Goals as goal

pub returns-clause-ok : goal.returns-clause-ok
returns-clause-ok c = inserted _ (pointwise label_eq) _ _ _ _ _ _ c.in_ok-insert.ensures.entries c.self.view_is c.in_ok-from_slice.ensures.items
