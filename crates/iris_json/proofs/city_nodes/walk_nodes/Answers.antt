use Rattle.std.proofs.Common.{◌≡◌, [], arith, rules, refl}
use Rattle.serde_json.specs.View.{view}
use Rattle.iris_json.specs.CityRows.{AllHas}
use Rattle.iris_json.proofs.NodeWalk.{walks_top, no_labels}
use Rattle.iris_json.proofs.city_nodes.walk_nodes.Goals as goal

pub returns-then-not-branch : goal.returns-then-not-branch
returns-then-not-branch c =
    let does = c.in_ok-has.ensures [] (λ twin. no_labels c.args.kinds.now c.new-labels.result c.new-labels.ensures.empty) in
    (0, (λ all. let told = does.0.1 all in search rules), refl)

pub returns : goal.returns
returns c =
    let does = c.in_ok-has.ensures [] (λ twin. no_labels c.args.kinds.now c.new-labels.result c.new-labels.ensures.empty) in
    walks_top (AllHas c.args.why c.args.kinds.now) _ _ c.in_ok-below.below _ (does.0.0 (search rules)) c.in_ok-below.ensures refl (omega (arith, c.saturating_add.ensures))
