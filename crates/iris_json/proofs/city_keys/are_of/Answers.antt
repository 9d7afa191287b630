use Rattle.std.proofs.Common.{true≢false, sym, refl, rules}
use Rattle.iris_json.specs.Sorts.{IsOfSort}
use Rattle.iris_json.proofs.KindReading.{items_more, items_here, items_whole}
use Rattle.iris_json.proofs.city_keys.are_of.Goals as goal

pub returns-then-not-is_of : goal.returns-then-not-is_of
returns-then-not-is_of c = (
  λ h. absurd (true≢false (sym h)),
  λ each.
      let told = c.is_of.ensures.1 (items_here (IsOfSort c.args.sort) c.args.items.now c.loop-item.item-index c.item-item.result c.loop-item-test.true c.item-item.is each) in
      search rules,
)

pub loop-item-preserved : goal.loop-item-preserved
loop-item-preserved c = items_more (IsOfSort c.args.sort) c.args.items.now c.loop-item.item-index c.item-item.result c.loop-item-test.true c.item-item.is c.loop-item.invariant (c.is_of.ensures.0 (search rules))

pub returns : goal.returns
returns c = (λ h. items_whole (IsOfSort c.args.sort) c.args.items.now c.loop-item.item-index c.loop-item-test.false c.loop-item.invariant, λ each. refl)
