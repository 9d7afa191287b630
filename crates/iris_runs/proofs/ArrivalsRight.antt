-- What an arrival leaves is right.
use Rattle.std.proofs.Common.{◌≡◌, ℕ, Bool, Option, Some, None, refl}
use Rattle.iris_migrate.specs.declared.message.Message.{Message}
use Rattle.iris_migrate.specs.declared.message.Message.TheVariants.{Query, Ask, Reply, Update, Handover}
use Rattle.iris_migrate.specs.Titles.{direct}
use Rattle.iris_agent.specs.declared.turn.Turn.{Turn}
use Rattle.iris_agent.specs.Arrivals.{arrives, reply_taken}
use Rattle.iris_agent.specs.Tables.{Tables}
use Rattle.iris_copies.specs.Copies.{IsPresent}
use Rattle.iris_runs.specs.Moments.{Moment, IsMessageAt, IsAgentAt, MayCome}
use Rattle.iris_runs.proofs.ArrivedRight.{query_right, ask_right, update_right, reply_right}
use Rattle.iris_runs.proofs.HandedRight.{handover_right}
use Rattle.iris_runs.proofs.UpdatedRight.{IsServed, nothing_told}

pub arrival_right : (m : Moment) (kept : Bool) (waiting : Option ℕ) (t : Tables) (turn : Turn) (message : Message)
    → turn.now ≡ m.now → IsPresent m.history m.now → IsAgentAt m t → IsMessageAt m message → MayCome m t waiting message
    → IsServed m (arrives kept waiting t turn message)
arrival_right m kept waiting t turn (Query request asked name epoch floor) at present is right may = query_right m kept t turn request asked name epoch floor (direct (t.seat name) epoch) is right
arrival_right m kept waiting t turn (Ask ask from asked start epoch floor) at present is right may = ask_right m kept waiting t turn ask from asked start epoch floor at present may right is
arrival_right m kept None t turn (Reply ask pieces) at present is right may = nothing_told m t turn is
arrival_right m kept (Some number) t turn (Reply ask pieces) at present is right may = nothing_told m (reply_taken t number ask pieces (t.gather number)) turn (reply_right m t number ask pieces (t.gather number) refl may right is)
arrival_right m kept waiting t turn (Update request name epoch number changes) at present is right may = update_right m kept t turn request name epoch number changes (direct (t.seat name) epoch) at present is
arrival_right m kept waiting t turn (Handover handed) at present is right may = handover_right m t turn handed at present is right may.0 may.1
