use Rattle.std.proofs.Common.{◌≡◌, List, length, map, Some, IsSome, refl, sym, ap, ◌∙◌, subst}
use Rattle.iris_fragment.specs.declared.piece.Piece.{Piece}
use Rattle.iris_fragment.specs.Contents.{has_place}
use Rattle.iris_cache.specs.Recency.{Cache, Prepared, TookFirst, taken_all}
use Rattle.iris_agent.specs.Handovers.{above_handed, above_in, ids_alone}
use Rattle.iris_agent.specs.Tables.{Holdings}
use Rattle.iris_agent.proofs.EventTies.{on_err}
use Rattle.iris_agent.proofs.HandoverTies.{last_piece, node_owned, of_ok, taken_first, took_every, took_none}
use Rattle.iris_agent.proofs.agent.Agent.take.Goals as goal

pub returns-in_err-ready-clause-err : goal.returns-in_err-ready-clause-err
returns-in_err-ready-clause-err c =
    on_err c.from_residual-in_err-ready.result
    (taken_first _ c.args.self.now c.self.inside.cache.cache c.ready.new.self (map ids_alone (above_in c.args.handover.now.pieces)) c.self.view_is (took_none _ _ _ refl) c.ready.ensures.seats)

pub returns-in_err-take_all-clause-err : goal.returns-in_err-take_all-clause-err
returns-in_err-take_all-clause-err c =
    let pieces = c.args.handover.now.pieces in
    let parts = last_piece pieces c.in-Some.above.now c.in-Some.own.now (sym c.as_slice.ensures ∙ c.in-Some.ensures.cases.0) (c.in-Some.ensures.cases.1 ∙ ap (λ (ps : List Piece). length ps) c.as_slice.ensures) in
    let above = c.deref.ensures.value ∙ c.in_ok-above.ensures ∙ ap (map ids_alone) parts.1 in
    on_err c.from_residual-in_err-take_all.result
    (taken_first _ c.args.self.now c.take_all.new.self.cache c.ready.new.self (map ids_alone (above_in pieces)) c.self.view_is
    (subst (λ (ps : List Piece). TookFirst c.self.inside.cache.cache ps c.take_all.new.self.cache) above c.in_err-take_all.ensures.err) c.ready.ensures.seats)

pub own-requires-clause-full : goal.own-requires-clause-full
own-requires-clause-full c =
    let pieces = c.args.handover.now.pieces in
    let parts = last_piece pieces c.in-Some.above.now c.in-Some.own.now (sym c.as_slice.ensures ∙ c.in-Some.ensures.cases.0) (c.in-Some.ensures.cases.1 ∙ ap (λ (ps : List Piece). length ps) c.as_slice.ensures) in
    let same : c.requires.fits.own ≡ c.in_ok-own.own = cc (parts.0, c.requires.fits.last, c.in_ok-own.ensures) in
    subst (λ (p : Piece). IsSome p.full) same c.requires.fits.whole

pub own-requires-clause-place : goal.own-requires-clause-place
own-requires-clause-place c =
    let pieces = c.args.handover.now.pieces in
    let parts = last_piece pieces c.in-Some.above.now c.in-Some.own.now (sym c.as_slice.ensures ∙ c.in-Some.ensures.cases.0) (c.in-Some.ensures.cases.1 ∙ ap (λ (ps : List Piece). length ps) c.as_slice.ensures) in
    let above = c.deref.ensures.value ∙ c.in_ok-above.ensures ∙ ap (map ids_alone) parts.1 in
    let taken = c.in_ok-take_all.ensures.ok ∙ ap (taken_all c.self.inside.cache.cache) above ∙ ap (λ (h : Holdings). above_handed h.cache pieces) c.self.view_is in
    let same : c.in_ok-own.own ≡ c.requires.fits.own = cc (parts.0, c.requires.fits.last, c.in_ok-own.ensures) in
    ap (λ (cache : Cache). has_place cache.contents.nodes c.in_ok-own.own.name) taken ∙ ap (λ (p : Piece). has_place (above_handed c.args.self.now.cache pieces).contents.nodes p.name) same ∙ c.requires.fits.place

pub returns-in_err-own-2-clause-err : goal.returns-in_err-own-2-clause-err
returns-in_err-own-2-clause-err c =
    let pieces = c.args.handover.now.pieces in
    let parts = last_piece pieces c.in-Some.above.now c.in-Some.own.now (sym c.as_slice.ensures ∙ c.in-Some.ensures.cases.0) (c.in-Some.ensures.cases.1 ∙ ap (λ (ps : List Piece). length ps) c.as_slice.ensures) in
    let above = c.deref.ensures.value ∙ c.in_ok-above.ensures ∙ ap (map ids_alone) parts.1 in
    on_err c.from_residual-in_err-own-2.result
    (taken_first _ c.args.self.now c.own.new.self.cache c.ready.new.self (map ids_alone (above_in pieces)) c.self.view_is
    (took_every c.self.inside.cache.cache c.own.new.self.cache (map ids_alone (above_in pieces)) (ap (λ (p : Prepared). p.cache) c.in_err-own-2.ensures.err ∙ c.in_ok-take_all.ensures.ok ∙ ap (taken_all c.self.inside.cache.cache) above)) c.ready.ensures.seats)

pub returns-clause-ok : goal.returns-clause-ok
returns-clause-ok c =
    let pieces = c.args.handover.now.pieces in
    let parts = last_piece pieces c.in-Some.above.now c.in-Some.own.now (sym c.as_slice.ensures ∙ c.in-Some.ensures.cases.0) (c.in-Some.ensures.cases.1 ∙ ap (λ (ps : List Piece). length ps) c.as_slice.ensures) in
    let above = c.deref.ensures.value ∙ c.in_ok-above.ensures ∙ ap (map ids_alone) parts.1 in
    let done = sym c.is_err.ensures.value ∙ c.if-is_err.false in
    node_owned _ c.args.self.now c.take_all.new.self.cache c.own.new.self.cache c.ready.new.self c.take.new.self c.args.handover.now c.in_ok-own.own c.self.view_is (parts.0 ∙ ap Some (sym c.in_ok-own.ensures))
    (c.in_ok-take_all.ensures.ok ∙ ap (taken_all c.self.inside.cache.cache) above) c.in_ok-own-2.ensures.ok c.ready.ensures.seats (of_ok c.take.result done c.take.ensures.seat) c.take.ensures.others
