-- An agent stays right as an arrival ends for want of memory, whatever first pieces of the message its cache took in.
use Rattle.std.proofs.Common.{List, sym, subst}
use Rattle.std.specs.Prelude.{take}
use Rattle.std.proofs.lemmas.List.Elements.{All-nil, All-take}
use Rattle.iris_fragment.specs.declared.piece.Piece.{Piece}
use Rattle.iris_cache.specs.Recency.{Cache, taken_all, TookFirst}
use Rattle.iris_migrate.specs.declared.message.Message.{Message}
use Rattle.iris_migrate.specs.declared.message.Message.TheVariants.{Query, Ask, Reply, Update, Handover}
use Rattle.iris_agent.specs.Events.{offered}
use Rattle.iris_agent.specs.Tables.{Tables, with_cache}
use Rattle.iris_copies.specs.Copies.{IsCopy, AreCopies}
use Rattle.iris_copies.proofs.Caches.{taken_all_holds}
use Rattle.iris_runs.specs.Moments.{Moment, IsMessageAt, IsAgentAt}
use Rattle.iris_runs.proofs.CacheRight.{IsKept, taken_all_kept}
use Rattle.iris_runs.proofs.HandedRight.{ids_copies}
use Rattle.iris_runs.proofs.StayRight.{with_cache_right}

-- the pieces of a message that a cache takes in are copies
offered_copies : (m : Moment) (message : Message) → IsMessageAt m message → AreCopies m.history m.now (offered message)
offered_copies m (Query request asked name epoch floor) is = All-nil (IsCopy m.history m.now)
offered_copies m (Ask ask from asked start epoch floor) is = All-nil (IsCopy m.history m.now)
offered_copies m (Update request name epoch number changes) is = All-nil (IsCopy m.history m.now)
offered_copies m (Reply ask pieces) is = is.copies
offered_copies m (Handover handed) is = ids_copies m.history m.now handed.pieces is.copies

-- an agent whose cache took copies in
taken_right : (m : Moment) (t : Tables) (pieces : List Piece) → AreCopies m.history m.now pieces → IsAgentAt m t → IsAgentAt m (with_cache t (taken_all t.cache pieces))
taken_right m t pieces copies is =
    let kept : IsKept t.cache (taken_all t.cache pieces) = taken_all_kept m.history m.now t.cache pieces copies is.copies is.orderly in
    with_cache_right m t (taken_all t.cache pieces) (taken_all_holds m.history m.now t.cache pieces copies is.copies) kept.orderly kept.same is

-- an agent is right once its cache took in some first pieces of a message that is right
pub agent_interrupted : (m : Moment) (t : Tables) (message : Message) (cache : Cache) → IsMessageAt m message → TookFirst t.cache (offered message) cache → IsAgentAt m t → IsAgentAt m (with_cache t cache)
agent_interrupted m t message cache told took is =
    let first : List Piece = take took.count (offered message) in
    subst (λ (c : Cache). IsAgentAt m (with_cache t c)) (sym took.after)
    (taken_right m t first (All-take (IsCopy m.history m.now) took.count (offered message) (offered_copies m message told)) is)
