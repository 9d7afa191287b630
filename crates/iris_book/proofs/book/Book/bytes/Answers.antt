use Rattle.std.proofs.Common.{◌≡◌, ◌∙◌, ap, arith, sum_by, not, refl}
use Rattle.std.proofs.lemmas.List.Filters.{sum_by-filter_both}
use Rattle.iris_tree.specs.TextLen.{saturated}
use Rattle.iris_book.specs.declared.entry.Entry.{Entry}
use Rattle.iris_book.specs.Book.{Recorded, weight}
use Rattle.iris_book.specs.Entering.{is_lasting}
use Rattle.iris_book.specs.Log.{entries_of}
use Rattle.iris_book.proofs.book.Book.bytes.Goals as goal

pub returns : goal.returns
returns c =
    let es = entries_of c.self.inside.log.items c.self.inside.linked.updates in
    let both = sum_by-filter_both is_lasting (λ (e : Entry). not (is_lasting e)) (λ _. refl) weight es in
    let here : c.saturating_add.result ≡ saturated (sum_by weight es) = omega (arith, both, c.self.invariant.lasting_is, c.self.invariant.answered_is, c.saturating_add.ensures) in
    here ∙ ap (λ (r : Recorded). saturated (sum_by weight r.history.entries)) c.self.view_is
