use Rattle.std.proofs.Common.{sym, ap, ◌∙◌}
use Rattle.iris_keeper.specs.declared.kept.Kept.{Kept}
use Rattle.iris_migrate.specs.Titles.{seat_at}
use Rattle.iris_agent.specs.Starts.{raised, update_number}
use Rattle.iris_agent.proofs.StartTies.{row_raised}
use Rattle.iris_agent.proofs.start.note_row.Goals as goal

pub returns-in-Update : goal.returns-in-Update
returns-in-Update c = λ name.
    row_raised c.args.titles.now c.raise.new.titles c.in-Update.name name c.in-Update.no c.raise.ensures.there c.raise.ensures.others
    ∙ ap (λ (row : Kept). raised (seat_at c.args.titles.now name) (update_number name row)) (sym c.in-Update.is)
