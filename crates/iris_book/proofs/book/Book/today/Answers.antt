use Rattle.std.proofs.Common.{◌∙◌, sym, ap}
use Rattle.iris_tree.specs.Universe.{Node}
use Rattle.iris_book.specs.Book.{Recorded, Updates, today, today_of}
use Rattle.iris_book.proofs.LogEntries.{updates_in-entries_of}
use Rattle.iris_book.proofs.book.Book.today.Goals as goal

pub returns : goal.returns
returns c =
    c.in_ok-put_newest.ensures ∙ ap (λ (n : Node). today_of n c.self.inside.linked.updates) c.in_ok-document.ensures
    ∙ sym (ap (λ (us : Updates). today_of c.self.inside.start us) (updates_in-entries_of c.self.inside.log.items c.self.inside.linked.updates c.self.invariant.counted))
    ∙ ap (λ (r : Recorded). today r.history) c.self.view_is
