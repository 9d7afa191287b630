use Rattle.std.proofs.Common.{List, ap, ◌∙◌}
use Rattle.iris_base.specs.declared.cite.Cite.{Cite}
use Rattle.iris_book.specs.Book.{with_entry}
use Rattle.iris_book.specs.declared.entry.Entry.TheVariants as entries
use Rattle.iris_outbox.specs.Outbox.{Outgoing}
use Rattle.iris_runs.specs.Worlds.{World, closes}
use Rattle.iris_state.specs.Whole.{Whole, world_of}
use Rattle.iris_state.proofs.Changes.{entered_one}
use Rattle.iris_state.proofs.state.State.answer.Goals as goal

pub returns-clause-world : goal.returns-clause-world
unfolding world_of
returns-clause-world c =
    let was = (Rattle.iris_state.specs.contracts.state.State.the_view c.self.inside) in
    let entry = entries.Answered c.args.request c.args.query c.args.floor c.args.cites in
    c.tell.ensures.world
    ∙ ap (λ (w : World). closes w c.args.request)
    (entered_one was _ entry _ (ap (λ (o : Outgoing). record was { outbox = o; book = c.push.new.self }) c.next_cites-entered.ensures.rest)
    (c.push.ensures.entries ∙ ap (λ (cites : List Cite). with_entry was.book.history (entries.Answered c.args.request c.args.query c.args.floor cites)) c.next_cites-entered.ensures.result))
    ∙ ap (λ (w : Whole). closes (record (world_of w) { history = with_entry w.book.history entry }) c.args.request) c.self.view_is
