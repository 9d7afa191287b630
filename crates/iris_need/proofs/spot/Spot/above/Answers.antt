use Rattle.std.proofs.Common.{◌≡◌, ◌∙◌, sym, ap, List, ℕ, length, true, ◌==◌}
use Rattle.iris_need.proofs.ElementPaths.{above_more}
use Rattle.iris_need.proofs.spot.Spot.above.Goals as goal

pub returns : goal.returns
returns c = sym (above_more c.args.name.now c.args.local.now c.args.path.now c.in-Some.above.now c.in-Some.field-0-0.now c.in-Some.ensures.cases.0 (λ e.
    let yes : c.is_empty.result ≡ true = c.is_empty.ensures ∙ ap (λ (xs : List ℕ). length xs == 0) e in
    absurd (cc)))
