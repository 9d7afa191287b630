use Rattle.std.proofs.Common.{◌≡◌, List, drop}
use Rattle.iris_base.specs.declared.name.Label.{Label}
use Rattle.iris_migrate.specs.Titles.{seat_at}
use Rattle.iris_agent.specs.Starts.{last_in, raised}
use Rattle.iris_agent.proofs.start.note_rows.Given as goal

-- of each name the rows that are left raise what all do
abbrev pub invariant-loop-row : goal.invariant-loop-row
invariant-loop-row l = (name : List Label) → raised (seat_at l.titles name) (last_in (drop l.row-index l.rows) name) ≡ raised (seat_at l.initial.titles name) (last_in l.rows name)
