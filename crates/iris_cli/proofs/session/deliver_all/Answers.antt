use Rattle.std.proofs.Common.{arith}
use Rattle.std.proofs.lemmas.Result.{err_from_is_err_and}
use Rattle.iris_cli.proofs.Delivered.{delivered_more, delivers_less}
use Rattle.iris_cli.proofs.session.deliver_all.Goals as goal

pub returns-in_err-put-clause-writes : goal.returns-in_err-put-clause-writes
returns-in_err-put-clause-writes g c =
    let p = err_from_is_err_and c.from_residual-in_err-put.result c.from_residual-in_err-put.ensures.1 in
    let some = c.in-Some in
    let wrote = c.in_err-put.ensures.writes in
    let rose = c.posts.invariant.later in
    let later = wrote.cause.later in
    rw (p.1, p.2)
    (record {
      bytes = delivers_less _ c.posts.site _ _ c.pop_front.new.self.items some.field-0 _ _ _ (g.K.Sink.held c.put.new.sink) c.in_err-put.field-0.0 c.posts.invariant.so some.ensures.items c.in_ok-out.ensures.told wrote.bytes;
      cause = record { later = omega (arith, rose, later); failed = λ e. let failed = wrote.cause.failed e in omega (arith, rose, failed) };
      only = wrote.only;
    })

pub posts-preserved-in_ok-put : goal.posts-preserved-in_ok-put
posts-preserved-in_ok-put g c =
    let some = c.in-Some in
    record {
      so = delivered_more _ _ _ _ _ _ some.field-0 _ _ _ _ c.posts.invariant.so some.ensures.items c.in_ok-out.ensures.after c.in_ok-out.ensures.told c.in_ok-put.ensures.writes.bytes;
      later = omega (arith, c.posts.invariant.later, c.in_ok-put.ensures.writes.cause.later);
    }

pub posts-preserved-in_ok-put-2 : goal.posts-preserved-in_ok-put-2
posts-preserved-in_ok-put-2 g c =
    let some = c.in-Some in
    record {
      so = delivered_more _ _ _ _ _ _ some.field-0 _ _ _ _ c.posts.invariant.so some.ensures.items c.in_ok-out.ensures.after c.in_ok-out.ensures.told c.in_ok-put.ensures.writes.bytes;
      later = omega (arith, c.posts.invariant.later, c.in_ok-put.ensures.writes.cause.later);
    }

pub posts-preserved : goal.posts-preserved
posts-preserved g c =
    let some = c.in-Some in
    record {
      so = delivered_more _ _ _ _ _ _ some.field-0 _ _ _ _ c.posts.invariant.so some.ensures.items c.in_ok-out.ensures.after c.in_ok-out.ensures.told c.in_ok-put.ensures.writes.bytes;
      later = omega (arith, c.posts.invariant.later, c.in_ok-put.ensures.writes.cause.later);
    }

pub posts-preserved-in_ok-put-3 : goal.posts-preserved-in_ok-put-3
posts-preserved-in_ok-put-3 g c =
    let some = c.in-Some in
    record {
      so = delivered_more _ _ _ _ _ _ some.field-0 _ _ _ _ c.posts.invariant.so some.ensures.items c.in_ok-out.ensures.after c.in_ok-out.ensures.told c.in_ok-put.ensures.writes.bytes;
      later = omega (arith, c.posts.invariant.later, c.in_ok-put.ensures.writes.cause.later);
    }
