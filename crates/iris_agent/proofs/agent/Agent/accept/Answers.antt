use Rattle.std.proofs.Common.{subst}
use Rattle.iris_agent.proofs.UpdateTies.{happened_kept, happened_unkept}
use Rattle.iris_agent.proofs.agent.Agent.accept.Goals as goal

pub returns-then-not-branch-clause-kept : goal.returns-then-not-branch-clause-kept
returns-then-not-branch-clause-kept g c =
    let u = c.args.update.now in
    happened_unkept c.args.self.now c.args.turn u.request u.name.now u.no u.changes.now c.args.local c.in_ok-unkept.unkept.items c.in_ok-accepted.accepted.items c.in_ok-version.version c.args.book.now c.in_ok-row.row _ _ _ c.in_ok-keep.field-0
    c.in_ok-version.ensures c.in_ok-unkept.ensures c.in_ok-accepted.ensures c.in_ok-keep.ensures.told c.if-not-branch.true (subst (g.R.Room.has_room c.args.room.now c.make.new.self) c.deref.ensures.value c.in_ok-make.ensures)

pub returns-clause-kept : goal.returns-clause-kept
returns-clause-kept g c =
    let u = c.args.update.now in
    happened_kept c.args.self.now c.renew.new.self c.args.turn u.request u.name.now u.no u.changes.now c.args.local c.in_ok-accepted.accepted.items c.in_ok-version.version c.args.book.now c.push.new.self c.in_ok-entry.entry c.in_ok-row.row _ _ _ c.in_ok-keep.field-0
    c.renew.ensures c.in_ok-version.ensures c.in_ok-accepted.ensures c.in_ok-entry.ensures c.in_ok-row.ensures c.push.ensures.entries c.in_ok-keep.ensures.told c.if-not-branch.false (subst (g.R.Room.has_room c.args.room.now c.make.new.self) c.deref.ensures.value c.in_ok-make.ensures)
