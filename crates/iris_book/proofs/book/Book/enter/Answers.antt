use Rattle.std.proofs.Common.{◌≡◌, ◌+◌, ◌≤◌, ◌∙◌, sym, ap, subst, refl, arith, List}
use Rattle.iris_tree.specs.TextLen.{saturated}
use Rattle.iris_book.specs.declared.update.NodeUpdate.{NodeUpdate}
use Rattle.iris_book.specs.declared.entry.Entry.{Entry}
use Rattle.iris_book.specs.declared.entry.Entry.TheVariants as entry
use Rattle.iris_book.specs.declared.log.Slot.TheVariants as slot
use Rattle.iris_book.specs.Book.{History, Recorded, Updates, updates_in, with_entry, weight, MayBeEntered, IsNext}
use Rattle.iris_book.specs.Consistent.{lasting_weight, answered_weight}
use Rattle.iris_book.specs.Log.{entries_of, updated}
use Rattle.iris_book.proofs.LogEntries.{updates_in-entries_of, lasting_more, lasting_same, answered_more, answered_same}
use Rattle.iris_book.proofs.Consistent.{update_entered, other_entered, kept_update, kept_other}
use Rattle.iris_book.proofs.book.Book.enter.Goals as goal

pub invariant_of-self : goal.invariant_of-self
invariant_of-self c =
    let u : NodeUpdate = record { no = c.in-Updated.no; changes = c.in-Updated.changes; local = c.in-Updated.local; at = c.in-Updated.at } in
    let slots = c.self.inside.log.items in
    let us = c.self.inside.linked.updates in
    let follows : MayBeEntered c.args.self.now.history (entry.Updated c.in-Updated.name c.in-Updated.no c.in-Updated.changes c.in-Updated.local c.in-Updated.at) =
    subst (λ (e : Entry). MayBeEntered c.args.self.now.history e) c.in-Updated.is c.requires.follows in
    let inside : IsNext c.self.inside.start (updates_in (entries_of slots us)) c.in-Updated.name u =
    subst (λ (r : Recorded). IsNext r.history.start (updates_in r.history.entries) c.in-Updated.name u) (sym c.self.view_is) follows in
    let next : IsNext c.self.inside.start us c.in-Updated.name u = subst (λ (vs : Updates). IsNext c.self.inside.start vs c.in-Updated.name u) (updates_in-entries_of slots us c.self.invariant.counted) inside in
    let some : 1 ≤ c.self.inside.spare = omega (arith, c.requires.room, ap (λ (r : Recorded). r.spare) c.self.view_is) in
    let weighs = rw c.as_slice.ensures at c.update_weight-weight.ensures in
    let sum : c.saturating_add-self-inside.result ≡ saturated (c.self.inside.lasting + saturated (weight (updated (c.in-Updated.name, u)))) = omega (arith, c.saturating_add-self-inside.ensures, weighs) in
    kept_update c.self.inside.start c.self.inside.linked c.push.new.self slots c.push_reserved.new.self.items _ _ c.self.inside.lasting c.saturating_add-self-inside.result c.self.inside.answered c.self.inside.spare
    c.in-Updated.name u c.self.invariant next some c.push_reserved.ensures.items (rw c.trimmed.ensures at c.push.ensures.updates) c.push.ensures.spare (omega (arith, c.push_reserved.ensures.len, c.push_reserved.ensures.capacity)) sum

pub invariant_of-self-in-Gave : goal.invariant_of-self-in-Gave
invariant_of-self-in-Gave c =
    let e : Entry = entry.Gave c.in-Gave.name c.in-Gave.to c.in-Gave.epoch in
    let es = entries_of c.self.inside.log.items c.self.inside.linked.updates in
    let some : 1 ≤ c.self.inside.spare = omega (arith, c.requires.room, ap (λ (r : Recorded). r.spare) c.self.view_is) in
    let sum : c.saturating_add-self-inside-in-Gave.result ≡ saturated (lasting_weight es + saturated (weight e)) = omega (arith, c.saturating_add-self-inside-in-Gave.ensures, c.self.invariant.lasting_is) in
    kept_other c.self.inside.start c.self.inside.linked c.self.inside.log.items c.push_reserved-in-Gave.new.self.items _ _ c.self.inside.lasting c.saturating_add-self-inside-in-Gave.result c.self.inside.answered c.self.inside.answered c.self.inside.spare
    (slot.Gave c.in-Gave.name c.in-Gave.to c.in-Gave.epoch) e c.self.invariant (λ us slots. refl) refl some c.push_reserved-in-Gave.ensures.items (omega (arith, c.push_reserved-in-Gave.ensures.len, c.push_reserved-in-Gave.ensures.capacity))
    (sum ∙ sym (lasting_more es e refl)) (c.self.invariant.answered_is ∙ sym (answered_same es e refl))

pub invariant_of-self-in-Answered : goal.invariant_of-self-in-Answered
invariant_of-self-in-Answered c =
    let e : Entry = entry.Answered c.in-Answered.request c.in-Answered.query c.in-Answered.floor c.in-Answered.cites in
    let es = entries_of c.self.inside.log.items c.self.inside.linked.updates in
    let some : 1 ≤ c.self.inside.spare = omega (arith, c.requires.room, ap (λ (r : Recorded). r.spare) c.self.view_is) in
    let sum : c.saturating_add-self-inside-in-Answered.result ≡ saturated (answered_weight es + saturated (weight e)) =
    omega (arith, c.saturating_add-self-inside-in-Answered.ensures, c.self.invariant.answered_is, c.answer_weight-weight.ensures, c.len.ensures) in
    kept_other c.self.inside.start c.self.inside.linked c.self.inside.log.items c.push_reserved-in-Answered.new.self.items _ _ c.self.inside.lasting c.self.inside.lasting c.self.inside.answered c.saturating_add-self-inside-in-Answered.result c.self.inside.spare
    (slot.Answered c.in-Answered.request c.in-Answered.query c.in-Answered.floor c.in-Answered.cites) e c.self.invariant (λ us slots. refl) refl some c.push_reserved-in-Answered.ensures.items
    (omega (arith, c.push_reserved-in-Answered.ensures.len, c.push_reserved-in-Answered.ensures.capacity)) (c.self.invariant.lasting_is ∙ sym (lasting_same es e refl)) (sum ∙ sym (answered_more es e refl))

pub returns-in-Updated-clause-entries : goal.returns-in-Updated-clause-entries
returns-in-Updated-clause-entries c = ap (λ (es : List Entry). let h : History = record { start = c.self.inside.start; entries = es } in h) (update_entered c.self.inside.log.items _ c.self.inside.linked.updates _ (c.in-Updated.name, _) c.self.invariant.counted c.push_reserved.ensures.items (rw c.trimmed.ensures at c.push.ensures.updates)) ∙ ap (λ (r : Recorded). with_entry r.history (entry.Updated c.in-Updated.name c.in-Updated.no c.in-Updated.changes c.in-Updated.local c.in-Updated.at)) c.self.view_is ∙ ap (λ (e : Entry). with_entry c.args.self.now.history e) (sym c.in-Updated.is)

pub returns-in-Gave-clause-entries : goal.returns-in-Gave-clause-entries
returns-in-Gave-clause-entries c = ap (λ (es : List Entry). let h : History = record { start = c.self.inside.start; entries = es } in h) (other_entered c.self.inside.log.items _ c.self.inside.linked.updates _ (entry.Gave c.in-Gave.name c.in-Gave.to c.in-Gave.epoch) (λ us slots. refl) c.self.invariant.counted c.push_reserved-in-Gave.ensures.items) ∙ ap (λ (r : Recorded). with_entry r.history (entry.Gave c.in-Gave.name c.in-Gave.to c.in-Gave.epoch)) c.self.view_is ∙ ap (λ (e : Entry). with_entry c.args.self.now.history e) (sym c.in-Gave.is)

pub returns-in-Answered-clause-entries : goal.returns-in-Answered-clause-entries
returns-in-Answered-clause-entries c = ap (λ (es : List Entry). let h : History = record { start = c.self.inside.start; entries = es } in h) (other_entered c.self.inside.log.items _ c.self.inside.linked.updates _ (entry.Answered c.in-Answered.request c.in-Answered.query c.in-Answered.floor c.in-Answered.cites) (λ us slots. refl) c.self.invariant.counted c.push_reserved-in-Answered.ensures.items) ∙ ap (λ (r : Recorded). with_entry r.history (entry.Answered c.in-Answered.request c.in-Answered.query c.in-Answered.floor c.in-Answered.cites)) c.self.view_is ∙ ap (λ (e : Entry). with_entry c.args.self.now.history e) (sym c.in-Answered.is)
