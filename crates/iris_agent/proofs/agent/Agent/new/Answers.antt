use Rattle.std.proofs.Common.{◌∙◌}
use Rattle.iris_agent.proofs.StartTies.{started_tie}
use Rattle.iris_agent.proofs.agent.Agent.new.Goals as goal

pub returns : goal.returns
returns c =
    started_tie c.args.id c.args.kinds c.args.top c.args.capacity c.args.pieces.now c.args.rows.now _ _ _ _ _ _
    c.in_ok-cache.ensures
    (c.deref.ensures.value ∙ c.in_ok-owned.ensures)
    c.in_ok-titles.ensures.owned
    c.in_ok-titles.ensures.others
    c.note_rows.ensures
    c.new-gathers.ensures
    c.new-asked.ensures
