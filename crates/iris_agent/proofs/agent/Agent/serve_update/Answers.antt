use Rattle.std.proofs.Common.{◌≡◌, Ok, Err, refl, ap, sym, ◌∙◌, subst}
use Rattle.iris_fragment.specs.Contents.{Contents}
use Rattle.iris_fragment.specs.Changes.{version_at}
use Rattle.iris_migrate.specs.Titles.{seat_at}
use Rattle.iris_agent.specs.declared.step.Step.TheVariants as steps
use Rattle.iris_agent.specs.Handled.{only_change, only_step}
use Rattle.iris_agent.specs.Tables.{Holdings, tables_of}
use Rattle.iris_agent.specs.Updates.{made_of}
use Rattle.iris_agent.proofs.EventTies.{happened}
use Rattle.iris_agent.proofs.UpdateTies.{if_ok_both, if_ok_as, if_ok_two, not_none, happened_as, own_newest, served_made, served_unknown, served_unheld}
use Rattle.iris_agent.proofs.agent.Agent.serve_update.Goals as goal

pub returns-in_default-clause-served : goal.returns-in_default-clause-served
returns-in_default-clause-served g c =
    let u = c.args.update.now in
    let old = c.args.self.now in
    let none = ap (λ (h : Holdings). (seat_at h.titles u.name.now).last) (sym c.self.view_is) ∙ sym c.last.ensures ∙ c.in_default.is in
    if_ok_both c.nothing.result _ _ _ c.nothing.ensures.steps c.nothing.ensures.room
    (λ made empty room. happened _ (only_change (tables_of old) c.args.turn) old c.args.turn made.items c.args.book.now _ _ (served_unknown old c.args.turn u.request u.name.now u.no u.changes.now none) refl (record { tables = refl; turn = refl; steps = empty }) room)

pub returns-in_default-version-clause-served : goal.returns-in_default-version-clause-served
returns-in_default-version-clause-served g c =
    let u = c.args.update.now in
    let old = c.args.self.now in
    let none = ap (λ (h : Holdings). version_at h.cache.contents u.name.now) (sym c.self.view_is) ∙ ap (λ (f : Contents). version_at f u.name.now) (sym c.fragment.ensures) ∙ sym c.version.ensures ∙ c.in_default-version.is in
    if_ok_both c.nothing-in_default-version.result _ _ _ c.nothing-in_default-version.ensures.steps c.nothing-in_default-version.ensures.room
    (λ made empty room. happened _ (only_change (tables_of old) c.args.turn) old c.args.turn made.items c.args.book.now _ _ (served_unheld old c.args.turn u.request u.name.now u.no u.changes.now none) refl (record { tables = refl; turn = refl; steps = empty }) room)

pub unreachable-requires : goal.unreachable-requires
unreachable-requires g c =
    let name = c.args.update.now.name.now in
    let at = ap (λ (h : Holdings). version_at h.cache.contents name) (sym c.self.view_is) ∙ ap (λ (f : Contents). version_at f name) (sym c.fragment.ensures) ∙ sym c.version.ensures ∙ c.in-Some-version.is in
    not_none c.newest.result (λ newest. newest.version) _ c.in-Some-version._version c.in_default-newest.is c.newest.ensures.version (c.requires.book name c.in-Some-version._version at).0

pub returns-in-Ok-clause-served : goal.returns-in-Ok-clause-served
returns-in-Ok-clause-served g c =
    let u = c.args.update.now in
    let old = c.args.self.now in
    let name = u.name.now in
    let at = ap (λ (h : Holdings). version_at h.cache.contents name) (sym c.self.view_is) ∙ ap (λ (f : Contents). version_at f name) (sym c.fragment.ensures) ∙ sym c.version.ensures ∙ c.in-Some-version.is in
    let value = own_newest old c.args.book.now name c.in-Some-version._version c.in-Some-newest.newest.version c.in-Some-newest.newest.local.now c.requires.book at c.in-Some-newest.ensures.version c.in-Some-newest.ensures.value in
    let last = ap (λ (h : Holdings). (seat_at h.titles name).last) (sym c.self.view_is) ∙ sym c.last.ensures ∙ c.in-Some.is in
    let is : Ok c.in-Ok.local ≡ made_of old.kinds c.in-Some-newest.newest.local.now c.in-Some.last u.no u.changes.now = cc (c.in_ok-local.ensures, c.in-Ok.is) in
    if_ok_as c.accept.result _ _ c.accept.ensures.kept
    (λ made h. happened_as _ _ (served_made old c.args.turn u.request name u.no u.changes.now c.in-Some-newest.newest.local.now c.in-Some.last (Ok c.in-Ok.local) value last is) c.accept.new.self c.args.turn made.items c.args.book.now c.accept.new.book _ _ _ h)

pub returns-in-Err-clause-served : goal.returns-in-Err-clause-served
returns-in-Err-clause-served g c =
    let u = c.args.update.now in
    let old = c.args.self.now in
    let name = u.name.now in
    let at = ap (λ (h : Holdings). version_at h.cache.contents name) (sym c.self.view_is) ∙ ap (λ (f : Contents). version_at f name) (sym c.fragment.ensures) ∙ sym c.version.ensures ∙ c.in-Some-version.is in
    let value = own_newest old c.args.book.now name c.in-Some-version._version c.in-Some-newest.newest.version c.in-Some-newest.newest.local.now c.requires.book at c.in-Some-newest.ensures.version c.in-Some-newest.ensures.value in
    let last = ap (λ (h : Holdings). (seat_at h.titles name).last) (sym c.self.view_is) ∙ sym c.last.ensures ∙ c.in-Some.is in
    let is : Err c.in-Err.refusal ≡ made_of old.kinds c.in-Some-newest.newest.local.now c.in-Some.last u.no u.changes.now = cc (c.in_ok-local.ensures, c.in-Err.is) in
    if_ok_two c.refuse.result _ _ _ c.refuse.ensures.steps c.refuse.ensures.room
    (λ made told room. happened _ (only_step (tables_of old) c.args.turn (steps.Refused u.request c.in-Err.refusal)) old c.args.turn made.items c.args.book.now _ _ (served_made old c.args.turn u.request name u.no u.changes.now c.in-Some-newest.newest.local.now c.in-Some.last (Err c.in-Err.refusal) value last is) refl (record { tables = refl; turn = refl; steps = told }) (subst (g.R.Room.has_room c.args.room.now c.refuse.new.room) told room))
