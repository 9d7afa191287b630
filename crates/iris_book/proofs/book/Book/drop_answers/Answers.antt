use Rattle.std.proofs.Common.{◌≡◌, ◌∙◌, sym, ap, rules, arith, filter, length, List}
use Rattle.std.proofs.lemmas.Fn.{filter_same}
use Rattle.iris_book.specs.declared.entry.Entry.{Entry}
use Rattle.iris_book.specs.declared.log.Slot.{Slot}
use Rattle.iris_book.specs.Book.{History, Recorded}
use Rattle.iris_book.specs.Entering.{without_answers, is_lasting}
use Rattle.iris_book.specs.Consistent.{lasting_weight, answered_weight}
use Rattle.iris_book.specs.Log.{entries_of, stays, is_update}
use Rattle.iris_book.proofs.LogEntries.{entries_without_answers, updates_stay, lasting_stays, answered_none}
use Rattle.iris_book.proofs.book.Book.drop_answers.Goals as goal

pub invariant_of-self : goal.invariant_of-self
invariant_of-self c =
    let kept : c.retain.new.self.items ≡ filter stays c.self.inside.log.items = filter_same _ stays _ (λ x b f called. search rules) _ _ c.retain.ensures.filtered in
    let us = c.self.inside.linked.updates in
    let left : entries_of c.retain.new.self.items us ≡ filter is_lasting (entries_of c.self.inside.log.items us) = ap (λ (ss : List Slot). entries_of ss us) kept ∙ entries_without_answers c.self.inside.log.items us in
    record {
      sound = c.self.invariant.sound;
      counted = ap (λ (ss : List Slot). length (filter is_update ss)) kept ∙ ap length (updates_stay c.self.inside.log.items) ∙ c.self.invariant.counted;
      lasting_is = c.self.invariant.lasting_is ∙ sym (lasting_stays (entries_of c.self.inside.log.items us)) ∙ sym (ap lasting_weight left);
      answered_is = sym (answered_none (entries_of c.self.inside.log.items us)) ∙ sym (ap answered_weight left);
      linked_room = c.self.invariant.linked_room;
      log_room = omega (arith, c.self.invariant.log_room, c.retain.ensures.bound, c.retain.ensures.capacity);
    }

pub returns-clause-history : goal.returns-clause-history
returns-clause-history c =
    let kept : c.retain.new.self.items ≡ filter stays c.self.inside.log.items = filter_same _ stays _ (λ x b f called. search rules) _ _ c.retain.ensures.filtered in
    let us = c.self.inside.linked.updates in
    ap (λ (es : List Entry). let h : History = record { start = c.self.inside.start; entries = es } in h)
    (ap (λ (ss : List Slot). entries_of ss us) kept ∙ entries_without_answers c.self.inside.log.items us)
    ∙ ap (λ (r : Recorded). without_answers r.history) c.self.view_is
