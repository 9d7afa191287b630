use Rattle.std.proofs.Common.{◌∙◌, sym, ap, subst, length}
use Rattle.iris_book.specs.Book.{Recorded, Updates, AreSound, IsSound}
use Rattle.iris_book.proofs.LogEntries.{length-entries_of, updates_in-entries_of}
use Rattle.iris_book.proofs.book.Book.entries.Goals as goal

pub returns-clause-number : goal.returns-clause-number
returns-clause-number c =
    c.len.ensures ∙ c.self.inside.log.ok.0 ∙ sym (length-entries_of c.self.inside.log.items c.self.inside.linked.updates c.self.invariant.counted) ∙ ap (λ (r : Recorded). length r.history.entries) c.self.view_is

pub returns-clause-sound : goal.returns-clause-sound
returns-clause-sound c =
    subst (λ (r : Recorded). IsSound r.history) c.self.view_is
    (subst (λ (us : Updates). AreSound c.self.inside.start us) (sym (updates_in-entries_of c.self.inside.log.items c.self.inside.linked.updates c.self.invariant.counted)) c.self.invariant.sound)
