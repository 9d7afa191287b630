use Rattle.std.proofs.Common.{◌≡◌, ◌∙◌, sym, ap, rules, List, false, length, ◌==◌}
use Rattle.iris_base.specs.declared.name.Label.{Label}
use Rattle.iris_fragment.specs.Contents.{has_place}
use Rattle.iris_fragment.proofs.Children.{place_last, stands_unless_empty}
use Rattle.iris_fragment.proofs.nodes.Nodes.has_place.Goals as goal

pub returns-else-is_empty : goal.returns-else-is_empty
returns-else-is_empty c =
    let some : (length c.in-Some.above.now == 0) ≡ false = search rules in
    c.contains.ensures ∙ sym (stands_unless_empty c.args.self.now c.in-Some.above.now some)
    ∙ sym (place_last c.args.self.now c.in-Some.above.now c.in-Some.field-0-0.now)
    ∙ ap (λ (n : List Label). has_place c.args.self.now n) (sym c.in-Some.ensures.cases.0)
