use Rattle.std.proofs.Common.{◌∙◌}
use Rattle.std.specs.Cmp.Lexicographic.{pointwise}
use Rattle.iris_base.specs.NameOrder.{label_eq}
use Rattle.iris_route.proofs.Through.{found}
use Rattle.iris_route.proofs.titles.Titles.get.Goals as goal

pub returns : goal.returns
returns c = c.copied.ensures ∙ c.get.ensures.value ∙ found _ (pointwise label_eq c.args.name.now) _ _ c.self.view_is
