use Rattle.std.proofs.Common.{◌∙◌, ap, sym, refl}
use Rattle.std.specs.Option.{option_copied_mut}
use Rattle.std.specs.Cmp.Lexicographic.{pointwise}
use Rattle.iris_base.specs.NameOrder.{label_eq}
use Rattle.iris_route.proofs.Through.{set_found, set_absent}
use Rattle.iris_route.proofs.titles.Titles.set.Goals as goal
use Rattle.iris_route.proofs.titles.Titles.set.Goals.{in-Some, in_default}

pub returns : goal.returns
returns c = elim c.match-get_mut.branch [
  | in-Some w ↦ rw w.self-inside-is (set_found _ (pointwise label_eq c.args.name.now) _ _ _ _ (c.get_mut.follows.holds c.args.title.now).0 c.self.view_is)
  | in_default w ↦ rw (w.self-inside-is, c.get_mut.follows.holds-at-none) (set_absent _ (pointwise label_eq c.args.name.now) _ _ _ _ refl (sym c.get_mut.ensures.value ∙ ap option_copied_mut w.in_default.is) c.self.view_is)
]
