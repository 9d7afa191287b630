-- What the calls of an agent ask for, of its tables.
use Rattle.std.specs.Prelude.{◌≡◌, ℕ, true, false, All, Some, IsSome}
use Rattle.iris_fragment.specs.Contents.{has_place}
use Rattle.iris_fragment.specs.declared.piece.Piece.{Piece}
use Rattle.iris_migrate.specs.declared.message.Handover.{Handover as Handed}
use Rattle.iris_migrate.specs.declared.message.Message.{Message}
use Rattle.iris_migrate.specs.declared.message.Message.TheVariants.{Query, Ask, Reply, Update, Handover}
use Rattle.iris_gather.specs.OpenGathers.{serves_request, serves_ask}
use Rattle.iris_agent.specs.Handovers.{own_in, above_handed}
use Rattle.iris_agent.specs.Tables.{Tables}

-- a message may open a gather where none is open for its request or its ask
abbrev pub MayOpenAt : Tables → Message → Type 0
MayOpenAt t (Query request asked name epoch floor) = (number : ℕ) → serves_request request (t.gather number) ≡ false
MayOpenAt t (Ask ask from asked start epoch floor) = (number : ℕ) → serves_ask ask (t.gather number) ≡ false
MayOpenAt t (Reply ask pieces) = Unit {0}
MayOpenAt t (Update request name epoch number changes) = Unit {0}
MayOpenAt t (Handover handed) = Unit {0}

-- A handover that an agent may be given: its last piece is the node's own in full, the node finds its place, and what is parked for it may open its gathers.
pub record FitsAt (t : Tables) (handed : Handed) : Type 0 where
  pub own : Piece
  pub last : own_in handed.pieces ≡ Some own
  pub named : own.name ≡ handed.name
  pub whole : IsSome own.full
  pub place : has_place (above_handed t.cache handed.pieces).contents.nodes own.name ≡ true
  pub released : All (MayOpenAt t) (t.seat handed.name).parked
