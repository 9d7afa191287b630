use Rattle.std.proofs.Common.{codes, List, [], refl, true≢false, sym, ap, ◌∙◌, subst, rules, arith}
use Rattle.std.specs.List.{AllByRecursion}
use Rattle.serde_json.specs.Data.{Items}
use Rattle.serde_json.specs.View.{view}
use Rattle.iris_json.specs.CityParts.{Spot, spots_of}
use Rattle.iris_json.specs.CityRows.{PlainHas}
use Rattle.iris_json.proofs.Spots.{next_spot, so_far_more, so_far_whole, all_here, below_is}
use Rattle.iris_json.proofs.city_plains.+all_have.Goals as goal

pub returns-then-not-has : goal.returns-then-not-has
returns-then-not-has t c = (
  λ h. absurd (true≢false (sym h)),
  λ all.
      let here = all_here (PlainHas c.args.why c.args.kinds.now) (codes "kids") c.listed-item-items.result.now c.loop-item.item-index c.item-item.result c.loop-item-test.true c.item-item.is (subst (λ (ds : Items). AllByRecursion (PlainHas c.args.why c.args.kinds.now) (spots_of (codes "kids") [] ds)) (sym c.listed-item-items.ensures.value) all) in
      let told = (c.has.ensures _).1 here.0 in
      search rules,
)

pub returns-then-not-all_have : goal.returns-then-not-all_have
returns-then-not-all_have t c = (
  λ h. absurd (true≢false (sym h)),
  λ all.
      let here = all_here (PlainHas c.args.why c.args.kinds.now) (codes "kids") c.listed-item-items.result.now c.loop-item.item-index c.item-item.result c.loop-item-test.true c.item-item.is (subst (λ (ds : Items). AllByRecursion (PlainHas c.args.why c.args.kinds.now) (spots_of (codes "kids") [] ds)) (sym c.listed-item-items.ensures.value) all) in
      let told = c.all_have.ensures.1 (subst (AllByRecursion (PlainHas c.args.why c.args.kinds.now)) (below_is (codes "kids") (view c.item-item.result)) here.1) in
      search rules,
)

pub loop-item-preserved : goal.loop-item-preserved
loop-item-preserved t c =
    so_far_more (PlainHas c.args.why c.args.kinds.now) (codes "kids") c.listed-item-items.result.now c.loop-item.item-index c.item-item.result c.loop-item-test.true c.item-item.is c.loop-item.invariant
    ((c.has.ensures _).0 (search rules))
    (subst (AllByRecursion (PlainHas c.args.why c.args.kinds.now)) (sym (below_is (codes "kids") (view c.item-item.result))) (c.all_have.ensures.0 (search rules)))

pub returns : goal.returns
returns t c = (
  λ h. subst (λ (ds : Items). AllByRecursion (PlainHas c.args.why c.args.kinds.now) (spots_of (codes "kids") [] ds)) c.listed-item-items.ensures.value (so_far_whole (PlainHas c.args.why c.args.kinds.now) (codes "kids") c.listed-item-items.result.now c.loop-item.item-index c.loop-item-test.false c.loop-item.invariant),
  λ all. refl,
)
