use Rattle.std.proofs.Common.{refl, sym, ap, ◌∙◌}
use Rattle.std.proofs.lemmas.Result.{IfOk-weaker, on_err_weaker}
use Rattle.iris_agent.specs.Arrivals.{is_met}
use Rattle.iris_agent.specs.Events.{offered}
use Rattle.iris_agent.specs.Outside.{seen}
use Rattle.iris_agent.specs.Tables.{tables_of}
use Rattle.iris_agent.proofs.ArrivalTies.{query_arrived, update_arrived, ask_arrived, met_arrived, handover_arrived}
use Rattle.iris_agent.proofs.EventTies.{if_ok_both, on_err, back}
use Rattle.iris_agent.proofs.agent.Agent.arrive.Goals as goal

pub returns-in-Query-clause-arrived : goal.returns-in-Query-clause-arrived
returns-in-Query-clause-arrived g c =
    IfOk-weaker c.arrive_mail.result _ _
    (λ made h. query_arrived c.args.self.now c.arrive_mail.new.self c.args.turn.now c.arrive_mail.new.turn c.args.message.now made.items c.args.book.now c.arrive_mail.new.book
    (seen (g.P.Keeper.rows c.args.keeper.now) (g.P.Keeper.gives c.args.keeper.now) (g.P.Keeper.faults c.args.keeper.now))
    (seen (g.P.Keeper.rows c.arrive_mail.new.keeper) (g.P.Keeper.gives c.arrive_mail.new.keeper) (g.P.Keeper.faults c.arrive_mail.new.keeper))
    (g.R.Room.has_room c.args.room.now c.arrive_mail.new.room) c.in-Query.request c.in-Query.query c.in-Query.name c.in-Query.epoch c.in-Query.floor c.in-Query.is h)
    c.arrive_mail.ensures.arrived

pub returns-in-Query-clause-err : goal.returns-in-Query-clause-err
returns-in-Query-clause-err g c = on_err_weaker c.arrive_mail.result (back c.args.self.now c.arrive_mail.new.self (offered c.args.message.now)) c.arrive_mail.ensures.err

pub returns-in-Update-clause-arrived : goal.returns-in-Update-clause-arrived
returns-in-Update-clause-arrived g c =
    IfOk-weaker c.arrive_mail-in-Update.result _ _
    (λ made h. update_arrived c.args.self.now c.arrive_mail-in-Update.new.self c.args.turn.now c.arrive_mail-in-Update.new.turn c.args.message.now made.items c.args.book.now c.arrive_mail-in-Update.new.book
    (seen (g.P.Keeper.rows c.args.keeper.now) (g.P.Keeper.gives c.args.keeper.now) (g.P.Keeper.faults c.args.keeper.now))
    (seen (g.P.Keeper.rows c.arrive_mail-in-Update.new.keeper) (g.P.Keeper.gives c.arrive_mail-in-Update.new.keeper) (g.P.Keeper.faults c.arrive_mail-in-Update.new.keeper))
    (g.R.Room.has_room c.args.room.now c.arrive_mail-in-Update.new.room) c.in-Update.request c.in-Update.name c.in-Update.epoch c.in-Update.no c.in-Update.changes c.in-Update.is h)
    c.arrive_mail-in-Update.ensures.arrived

pub returns-in-Update-clause-err : goal.returns-in-Update-clause-err
returns-in-Update-clause-err g c = on_err_weaker c.arrive_mail-in-Update.result (back c.args.self.now c.arrive_mail-in-Update.new.self (offered c.args.message.now)) c.arrive_mail-in-Update.ensures.err

pub returns-then-is_asked-clause-arrived : goal.returns-then-is_asked-clause-arrived
returns-then-is_asked-clause-arrived g c =
    if_ok_both c.nothing.result _ _ _
    (λ made none room. met_arrived c.args.self.now c.args.turn.now c.args.message.now made.items c.args.book.now
    (seen (g.P.Keeper.rows c.args.keeper.now) (g.P.Keeper.gives c.args.keeper.now) (g.P.Keeper.faults c.args.keeper.now))
    (g.R.Room.has_room c.args.room.now c.nothing.new.room) c.in-Ask.ask c.in-Ask.from c.in-Ask.query c.in-Ask.start c.in-Ask.epoch c.in-Ask.floor c.in-Ask.is (sym c.is_asked.ensures ∙ c.if-is_asked.true) none room)
    c.nothing.ensures.steps c.nothing.ensures.room

pub returns-then-is_asked-clause-err : goal.returns-then-is_asked-clause-err
returns-then-is_asked-clause-err g c = on_err c.nothing.result (back c.args.self.now c.args.self.now (offered c.args.message.now) refl)

pub arrive_mail-requires-in-Ask-clause-fresh : goal.arrive_mail-requires-in-Ask-clause-fresh
unfolding tables_of
arrive_mail-requires-in-Ask-clause-fresh g c = ap (is_met (tables_of c.args.self.now)) c.in-Ask.is ∙ sym c.is_asked.ensures ∙ c.if-is_asked.false

pub returns-else-is_asked-clause-arrived : goal.returns-else-is_asked-clause-arrived
returns-else-is_asked-clause-arrived g c =
    IfOk-weaker c.arrive_mail-in-Ask.result _ _
    (λ made h. ask_arrived c.args.self.now c.arrive_mail-in-Ask.new.self c.args.turn.now c.arrive_mail-in-Ask.new.turn c.args.message.now made.items c.args.book.now c.arrive_mail-in-Ask.new.book
    (seen (g.P.Keeper.rows c.args.keeper.now) (g.P.Keeper.gives c.args.keeper.now) (g.P.Keeper.faults c.args.keeper.now))
    (seen (g.P.Keeper.rows c.arrive_mail-in-Ask.new.keeper) (g.P.Keeper.gives c.arrive_mail-in-Ask.new.keeper) (g.P.Keeper.faults c.arrive_mail-in-Ask.new.keeper))
    (g.R.Room.has_room c.args.room.now c.arrive_mail-in-Ask.new.room) c.in-Ask.ask c.in-Ask.from c.in-Ask.query c.in-Ask.start c.in-Ask.epoch c.in-Ask.floor c.in-Ask.is (sym c.is_asked.ensures ∙ c.if-is_asked.false) h)
    c.arrive_mail-in-Ask.ensures.arrived

pub returns-else-is_asked-clause-err : goal.returns-else-is_asked-clause-err
returns-else-is_asked-clause-err g c = on_err_weaker c.arrive_mail-in-Ask.result (back c.args.self.now c.arrive_mail-in-Ask.new.self (offered c.args.message.now)) c.arrive_mail-in-Ask.ensures.err

pub returns-in-Handover-clause-arrived : goal.returns-in-Handover-clause-arrived
returns-in-Handover-clause-arrived g c =
    if_ok_both c.arrive_handover.result _ _ _
    (λ made does room. handover_arrived c.args.self.now c.arrive_handover.new.self c.args.turn.now c.arrive_handover.new.turn c.args.message.now made.items c.args.book.now
    (seen (g.P.Keeper.rows c.args.keeper.now) (g.P.Keeper.gives c.args.keeper.now) (g.P.Keeper.faults c.args.keeper.now))
    (g.R.Room.has_room c.args.room.now c.arrive_handover.new.room) c.in-Handover.handover c.in-Handover.is does room)
    c.arrive_handover.ensures.arrived c.arrive_handover.ensures.room
