use Rattle.std.proofs.Common.{◌≡◌, ℕ, List, arith, ap, subst, None, Some, Err}
use Rattle.std.proofs.lemmas.Result.{err_from_is_err_and}
use Rattle.iris_cli.specs.Run.{World, after}
use Rattle.iris_cli.specs.Sessions.{world_of}
use Rattle.iris_cli.specs.Stepped.{Stepped}
use Rattle.iris_cli.proofs.Plays.{so_start, first_taken, so_city, so_line, one_request, next_halts, next_ends, start_halts, run_halts}
use Rattle.iris_cli.proofs.player.run.Goals as goal

pub returns-in_err-next-clause-ran : goal.returns-in_err-next-clause-ran
returns-in_err-next-clause-ran g c =
    let p = err_from_is_err_and c.from_residual.result c.from_residual.ensures.1 in
    let script = c.args.script.now in
    let so = so_start (g.S.Source.left c.args.source.now) (g.K.Sink.held c.args.sink.now) script.number script.room c.requires.unread c.requires.whole in
    let took = c.in_err-next.ensures.took in
    rw (p.1, p.2) (next_halts _ _ _ _ _ script c.next.new.self None _ so took)

pub returns-in_err-session-clause-ran : goal.returns-in_err-session-clause-ran
returns-in_err-session-clause-ran g c =
    let p = err_from_is_err_and c.from_residual-in_err-session.result c.from_residual-in_err-session.ensures.1 in
    let so = so_start (g.S.Source.left c.args.source.now) (g.K.Sink.held c.args.sink.now) c.args.script.now.number c.args.script.now.room c.requires.unread c.requires.whole in
    let t = first_taken c.args.script.now c.next.new.self _ _ c.in_ok-next.field-0 c.requires.unread c.in_ok-next.ensures.took in
    rw (p.1, p.2) (start_halts _ _ _ _ _ _ _ _ _ _ so t.0 t.1 t.2 (rw c.line.ensures at c.in_err-session.ensures.refused))

pub lines-init : goal.lines-init
lines-init g c =
    let so = so_start (g.S.Source.left c.args.source.now) (g.K.Sink.held c.args.sink.now) c.args.script.now.number c.args.script.now.room c.requires.unread c.requires.whole in
    let t = first_taken c.args.script.now c.next.new.self _ _ c.in_ok-next.field-0 c.requires.unread c.in_ok-next.ensures.took in
    let line = c.next.new.self.line in
    let starts = c.in_ok-session.ensures.starts in
    let requests = starts.no_requests in
    let posts = starts.no_posts in
    record {
      ran = rw t.2 (so_city _ _ _ _ _ _ _ _ (world_of c.in_ok-session.session) line so t.0 t.1 t.3 (rw c.line.ensures at starts));
      requests = omega (arith, requests);
      posts = omega (arith, posts);
      read = c.in_ok-next.ensures.cause.later;
      write = omega arith;
    }

pub returns-in_err-next-2-clause-ran : goal.returns-in_err-next-2-clause-ran
returns-in_err-next-2-clause-ran g c =
    let p = err_from_is_err_and c.from_residual-in_err-next-2.result c.from_residual-in_err-next-2.ensures.1 in
    let next = c.next-in-lines.new.self in
    let took = c.in_err-next-2.ensures.took in
    rw (p.1, p.2) (next_halts _ _ _ _ _ c.lines.script next (Some (world_of c.lines.session)) _ c.lines.invariant.ran took)

pub lines-preserved : goal.lines-preserved
lines-preserved g c =
    let t = rw c.if-branch.true at c.in_ok-next-2.ensures.took in
    let line = c.next-in-lines.new.self.line in
    let world = world_of c.lines.session in
    let at = t.2 in
    let step = rw c.line-in-lines.ensures at c.in_ok-run.ensures.stepped in
    let counts = one_request world step.0 c.lines.invariant.posts in
    let requests = counts.0 in
    let posts = counts.1 in
    let more : c.run.new.self.requests ≡ (after world step.0).requests = ap (λ (w : World). w.requests) step.2 in
    let posted : c.run.new.self.posts ≡ (after world step.0).posts = ap (λ (w : World). w.posts) step.2 in
    record {
      ran = rw (at, step.2) (so_line _ _ _ _ _ _ _ _ _ world line step.0 c.lines.invariant.ran t.0 t.1 t.3 step.1 step.3);
      requests = omega (arith, more, requests, at, c.lines.invariant.requests);
      posts = omega (arith, more, posted, posts);
      read = omega (arith, c.in_ok-next-2.ensures.cause.later, c.lines.invariant.read);
      write = omega (arith, c.in_ok-run.ensures.cause.later, c.lines.invariant.write);
    }

pub returns-in_err-run-clause-ran : goal.returns-in_err-run-clause-ran
returns-in_err-run-clause-ran g c =
    let p = err_from_is_err_and c.from_residual-in_err-run.result c.from_residual-in_err-run.ensures.1 in
    let t = rw c.if-branch.true at c.in_ok-next-2.ensures.took in
    let line = c.next-in-lines.new.self.line in
    let world = world_of c.lines.session in
    let next = world_of c.run.new.self in
    let step = subst (λ (shown : List ℕ). Stepped world next shown (g.K.Sink.held c.lines.sink) (g.K.Sink.held c.run.new.sink) (Err c.in_err-run.field-0.0)) c.line-in-lines.ensures c.in_err-run.ensures.stepped in
    rw (p.1, p.2) (run_halts _ _ _ _ _ _ _ _ _ world next line _ c.lines.invariant.ran t.0 t.1 t.2 step)

pub returns-clause-ran : goal.returns-clause-ran
returns-clause-ran g c =
    let took = rw c.if-branch.false at c.in_ok-next-2.ensures.took in
    next_ends _ _ _ _ _ c.lines.script c.next-in-lines.new.self (Some (world_of c.lines.session)) c.lines.invariant.ran took
