use Rattle.std.proofs.Common.{◌≡◌, ◌+◌, ◌-◌, ◌∙◌, ◌∷◌, sym, ap, arith, take, drop, length, length-drop}
use Rattle.std.proofs.lemmas.List.{take_all}
use Rattle.iris_xpath.specs.Syntax.{Syntax}
use Rattle.iris_need.proofs.Collected.{cut_at}
use Rattle.iris_need.proofs.route.Route.at.Goals as goal

pub invariant_of-result : goal.invariant_of-result
invariant_of-result c =
    let rest : take (length c.args.steps.now - (c.args.number + 1)) (drop (c.args.number + 1) c.args.steps.now) ≡ drop (c.args.number + 1) c.args.steps.now = take_all _ _ (omega (arith, length-drop (c.args.number + 1) c.args.steps.now)) in
    omega (arith, c.requires.few, c.if-i-steps.false, ap length rest, length-drop (c.args.number + 1) c.args.steps.now)

pub returns-clause-cut : goal.returns-clause-cut
returns-clause-cut c =
    let rest : take (length c.args.steps.now - (c.args.number + 1)) (drop (c.args.number + 1) c.args.steps.now) ≡ drop (c.args.number + 1) c.args.steps.now = take_all _ _ (omega (arith, length-drop (c.args.number + 1) c.args.steps.now)) in
    cut_at c.args.steps.now c.args.number c.index-steps-i.result c.index-steps-i.result c.if-i-steps.false c.index-steps-i.is ∙ ap (λ (ss : Syntax). c.index-steps-i.result ∷ ss) (sym rest)
