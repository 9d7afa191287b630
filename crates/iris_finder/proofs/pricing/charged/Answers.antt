use Rattle.std.proofs.Common.{◌≡◌, ◌+◌, ◌*◌, ◌-◌, ℕ, arith, sym, ap, ◌∙◌}
use Rattle.std.specs.Prelude.{min}
use Rattle.iris_finder.specs.Tariff.{terms}
use Rattle.iris_finder.specs.Price.{charged, is_charged}
use Rattle.iris_finder.proofs.Minutes.{count_fits}
use Rattle.iris_finder.proofs.DayCounts.{day_step}
use Rattle.iris_finder.proofs.pricing.charged.Goals as goal

pub loop-day-init : goal.loop-day-init
loop-day-init c =
    let none : min c.args.stay (1440 * 0 - c.args.arrival.now.minute) ≡ 0 = omega arith in
    sym (ap (charged (terms c.args.tariff.now) c.args.arrival.now) none)

pub overflow_add-total : goal.overflow_add-total
overflow_add-total c =
    let step = day_step (terms c.args.tariff.now) c.args.arrival.now c.args.stay c.loop-day.day (omega arith) in
    let few = count_fits (is_charged (terms c.args.tariff.now) c.args.arrival.now) (min c.args.stay (1440 * (c.loop-day.day + 1) - c.args.arrival.now.minute)) in
    omega (arith, step, few, c.charged_on-total.ensures, c.loop-day.invariant)

pub loop-day-preserved : goal.loop-day-preserved
loop-day-preserved c =
    let step = day_step (terms c.args.tariff.now) c.args.arrival.now c.args.stay c.loop-day.day (omega arith) in
    omega (arith, step, c.charged_on-total.ensures, c.loop-day.invariant)

pub returns-clause-value : goal.returns-clause-value
returns-clause-value c =
    let whole : min c.args.stay (1440 * 8 - c.args.arrival.now.minute) ≡ c.args.stay = omega arith in
    let last : c.loop-day.day ≡ 8 = omega arith in
    c.loop-day.invariant ∙ ap (λ (n : ℕ). charged (terms c.args.tariff.now) c.args.arrival.now (min c.args.stay (1440 * n - c.args.arrival.now.minute))) last ∙ ap (charged (terms c.args.tariff.now) c.args.arrival.now) whole

pub returns-clause-few : goal.returns-clause-few
returns-clause-few c =
    let few = count_fits (is_charged (terms c.args.tariff.now) c.args.arrival.now) (min c.args.stay (1440 * c.loop-day.day - c.args.arrival.now.minute)) in
    omega (arith, few, c.loop-day.invariant)
