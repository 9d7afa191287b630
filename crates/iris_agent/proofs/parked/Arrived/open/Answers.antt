use Rattle.std.proofs.Common.{◌≡◌, Some, ap, ◌∙◌, arith}
use Rattle.iris_agent.specs.Given.{given_gather, opened_in}
use Rattle.iris_agent.specs.Handovers.{with_opened}
use Rattle.iris_agent.proofs.MayOpens.{given_may, opened_tie}
use Rattle.iris_agent.proofs.parked.Arrived.open.Goals as goal

pub returns-clause-opened : goal.returns-clause-opened
returns-clause-opened c =
    let a = c.args.self.now in
    let g = c.in-Some-2.gather in
    let is : Some g ≡ given_gather a.top a.own.now a.at c.args.number c.args.message.now = cc (c.in-Some-2.is, c.in_ok-gather.ensures) in
    let id = (given_may c.args.gathers.now a.top a.own.now a.at c.args.number c.args.message.now g is c.requires.alone).0 in
    opened_tie c.args.gathers.now c.open.new.self c.args.number c.in-Some.next g c.in_ok-open.ensures.ok id (omega (arith, c.in-Some.ensures)) ∙ ap (with_opened (opened_in c.args.gathers.now c.args.number)) is
