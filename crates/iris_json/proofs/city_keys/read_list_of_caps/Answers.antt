use Rattle.std.proofs.Common.{◌+◌, arith, refl, sym, ◌∙◌}
use Rattle.iris_json.specs.CityKeys.{cap_data}
use Rattle.serde_json.specs.View.{view}
use Rattle.iris_json.proofs.KindReading.{mapped_len, cap_once, caps_start, caps_step, caps_found, next_cap}
use Rattle.iris_json.proofs.city_keys.read_list_of_caps.Goals as goal

pub returns-then-items-agents-clause-refused : goal.returns-then-items-agents-clause-refused
returns-then-items-agents-clause-refused c caps same are = absurd (c.if-items-agents.true (sym (mapped_len cap_data c.args.items.now caps same) ∙ are.each_has))

pub returns-in_default-clause-refused : goal.returns-in_default-clause-refused
returns-in_default-clause-refused c caps same are =
    let next = next_cap c.args.items.now c.loop-item.item-index c.args.agents c.loop-item.caps.items caps c.loop-item.together c.loop-item.invariant c.item-item.result c.loop-item-test.true c.item-item.is same are in
    c.in_default.ensures.missing refl next.0 next.1 next.2 next.3

pub returns-then-together-gt-MAX_CAPACITIES-clause-refused : goal.returns-then-together-gt-MAX_CAPACITIES-clause-refused
returns-then-together-gt-MAX_CAPACITIES-clause-refused c caps same are =
    let next = next_cap c.args.items.now c.loop-item.item-index c.args.agents c.loop-item.caps.items caps c.loop-item.together c.loop-item.invariant c.item-item.result c.loop-item-test.true c.item-item.is same are in
    let read = cap_once c.in-Some.cap next.0 (sym c.in-Some.ensures.found.0 ∙ next.1) in
    omega (arith, read, next.4, c.if-together-gt-MAX_CAPACITIES.true)

pub loop-item-preserved : goal.loop-item-preserved
loop-item-preserved c =
    caps_step c.args.items.now c.loop-item.item-index c.loop-item.caps.items c.loop-item.together (c.loop-item.together + c.in-Some.cap) c.loop-item.invariant c.item-item.result c.loop-item-test.true c.item-item.is c.in-Some.cap c.in-Some.ensures.found refl (omega (arith, c.if-together-gt-MAX_CAPACITIES.false)) _ c.in_ok-push.ensures.items

pub returns-clause-found : goal.returns-clause-found
returns-clause-found c = rw c.from_vec.ensures (caps_found c.args.items.now c.loop-item.item-index c.args.agents _ c.loop-item.together c.loop-item.invariant c.loop-item-test.false (omega (arith, c.if-items-agents.false)))
