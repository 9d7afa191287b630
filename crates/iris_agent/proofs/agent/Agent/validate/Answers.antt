use Rattle.std.proofs.Common.{refl, sym, ap, ◌∙◌}
use Rattle.iris_gather.specs.Laid.{laid}
use Rattle.iris_agent.proofs.CommitTies.{validated_tie}
use Rattle.iris_agent.proofs.agent.Agent.validate.Goals as goal

pub returns : goal.returns
returns c =
    let lent = c.in-Some.ensures.some c.in-Some.gather.now refl in
    let over = laid c.fragment.result.now c.floor-floor.result c.args.now c.view.result.now in
    validated_tie c.args.self.now c.args.now c.args.done.now lent.0 over c.validate.result lent.1
    ((λ i. laid (c.fragment.ensures i) (c.floor-floor.ensures i) c.args.now (c.view.ensures i)) ∙ ap (λ g. laid c.args.self.now.cache.contents g.floor c.args.now g.view) (sym lent.2))
    (record { valid = c.validate.ensures.valid; verdict = c.validate.ensures.verdict; pieces = c.validate.ensures.pieces; cites = c.validate.ensures.cites; changed = c.validate.ensures.changed })
