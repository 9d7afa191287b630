use Rattle.std.proofs.Common.{ap, ◌∙◌, subst}
use Rattle.iris_cli.specs.declared.status.Status.{Status}
use Rattle.iris_cli.specs.Stepped.{status_of, Closes}
use Rattle.iris_cli.proofs.Closing.{plays_on}
use Rattle.iris_cli.proofs.player.play.Goals as goal

pub returns-clause-played : goal.returns-clause-played
returns-clause-played g c =
    let mid = g.K.Sink.held c.run-ran.new.sink in
    let new = g.K.Sink.held c.end.new.sink in
    let told = c.status_of.ensures ∙ ap (λ number. status_of number c.run-ran.result) c.number.ensures in
    let closes = subst (λ (status : Status). Closes mid new status c.end.result) told c.end.ensures.closes in
    λ asked. plays_on _ _ _ mid new c.run-ran.new.script.number c.run-ran.result c.end.result c.run-ran.ensures.ran closes
