use Rattle.std.proofs.lemmas.Result.{err_from_is_err_and}
use Rattle.iris_cli.specs.declared.event.Event.TheVariants as events
use Rattle.iris_cli.specs.Sessions.{world_of}
use Rattle.iris_cli.proofs.Putting.{acts_nothing}
use Rattle.iris_cli.proofs.session.Session.audit.Goals as goal

pub returns-in_err-out : goal.returns-in_err-out
returns-in_err-out g c =
    let p = err_from_is_err_and c.from_residual.result c.from_residual.ensures.1 in
    rw (p.1, p.2) (record { acts = acts_nothing (world_of c.args.self.now) (world_of c.args.self.now) (events.Audit c.args.query.now) (g.K.Sink.held c.args.sink.now) (g.K.Sink.faults c.args.sink.now) })
