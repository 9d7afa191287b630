use Rattle.std.proofs.Common.{◌≡◌, codes, arith, rules, sym, refl}
use Rattle.std.specs.HashSet.{contains}
use Rattle.serde_json.specs.View.{view}
use Rattle.iris_base.specs.NameOrder.{label_eq}
use Rattle.iris_json.specs.CityRows.{AllHas}
use Rattle.iris_json.proofs.NodeWalk.{fails_here, fails_below, walked_more, walked_all}
use Rattle.iris_json.proofs.Spots.{earlier_after, next_spot}
use Rattle.iris_json.proofs.city_nodes.+walk.Goals as goal

pub returns-then-not-branch : goal.returns-then-not-branch
returns-then-not-branch t c =
    let does = c.in_ok-has.ensures _ c.loop-node.invariant.labels in
    fails_here c.args.why c.args.kinds.now (contains label_eq c.loop-node.labels) (view c.args.value.now) c.listed-node-items.result.now c.loop-node.node-index c.node-item.result c.loop-node.steps c.listed-node-items.ensures.value c.loop-node.invariant c.loop-node-test.true c.node-item.is
    (λ all. let told = does.0.1 all in search rules)

pub returns-then-below : goal.returns-then-below
returns-then-below t c =
    let does = c.in_ok-has.ensures _ c.loop-node.invariant.labels in
    fails_below c.args.why c.args.kinds.now (contains label_eq c.loop-node.labels) (view c.args.value.now) c.listed-node-items.result.now c.loop-node.node-index c.node-item.result c.loop-node.steps c.in_ok-below.below c.saturating_add.result c.saturating_add-in-loop-node.result c.listed-node-items.ensures.value c.loop-node.invariant c.loop-node-test.true c.node-item.is
    (does.0.0 (search rules)) c.if-below.true c.in_ok-below.ensures (omega (arith, c.saturating_add.ensures)) (omega (arith, c.saturating_add-in-loop-node.ensures))

pub loop-node-preserved : goal.loop-node-preserved
loop-node-preserved t c =
    let does = c.in_ok-has.ensures _ c.loop-node.invariant.labels in
    walked_more c.args.why c.args.kinds.now (contains label_eq c.loop-node.labels) (contains label_eq c.has.new.labels) c.listed-node-items.result.now c.loop-node.node-index c.node-item.result c.loop-node.steps c.in_ok-below.below (record { passed = c.saturating_add-in-loop-node.result; failed = c.loop-node.steps.failed }) c.saturating_add.result c.loop-node.invariant c.loop-node-test.true c.node-item.is
    (does.0.0 (search rules)) (does.1 (search rules)) c.if-below.false c.in_ok-below.ensures (omega (arith, c.saturating_add.ensures)) (omega (arith, c.saturating_add-in-loop-node.ensures)) refl

pub returns : goal.returns
returns t c = walked_all c.args.why c.args.kinds.now (contains label_eq c.loop-node.labels) (view c.args.value.now) c.listed-node-items.result.now c.loop-node.node-index c.loop-node.steps c.listed-node-items.ensures.value c.loop-node.invariant c.loop-node-test.false
