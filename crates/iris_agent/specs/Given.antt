-- For the code: the gathers that parked messages open, by the piece of the node that came.
use Rattle.std.specs.Prelude.{◌≡◌, ℕ, ◌≤◌, ◌<◌, true, All, IsSome, List, fold, Option, Some, None}
use Rattle.iris_base.specs.declared.name.Label.{Label}
use Rattle.iris_fragment.specs.declared.held.HeldNode.{HeldNode}
use Rattle.iris_fragment.specs.declared.held.Part.{Part}
use Rattle.iris_fragment.specs.declared.held.Part.TheVariants.{Own, Bare}
use Rattle.iris_fragment.specs.declared.piece.Full.{Full}
use Rattle.iris_fragment.specs.declared.piece.Level.{Level}
use Rattle.iris_fragment.specs.declared.piece.Piece.{Piece}
use Rattle.iris_fragment.specs.Contents.{has_place}
use Rattle.iris_fragment.specs.Usable.{piece_of}
use Rattle.iris_cache.specs.Recency.{Cache}
use Rattle.iris_need.specs.Needs.{from_document}
use Rattle.iris_migrate.specs.declared.message.Handover.{Handover as Handed}
use Rattle.iris_migrate.specs.declared.message.Message.{Message}
use Rattle.iris_migrate.specs.declared.message.Message.TheVariants.{Query, Ask, Reply, Update, Handover}
use Rattle.iris_migrate.specs.Messages.{node_of}
use Rattle.iris_migrate.specs.Titles.{seat_at}
use Rattle.iris_gather.specs.declared.parent.Parent.TheVariants as parents
use Rattle.iris_gather.specs.Gathers.{Gathering, opened}
use Rattle.iris_gather.specs.OpenGathers.{OpenGathers, gather_at}
use Rattle.iris_agent.specs.declared.turn.Turn.{Turn}
use Rattle.iris_agent.specs.Tables.{Holdings}
use Rattle.iris_agent.specs.Handovers.{own_in, above_handed, Opened, with_opened}

-- what is owned once a full part came
abbrev pub part_given : Option Full → Part
part_given None = Bare
part_given (Some full) = Own full.local full.version

-- the node of a piece, once it is owned
abbrev pub node_given : Piece → HeldNode
node_given own = record { ids = own.ids; part = part_given own.full }

-- its piece at a level
abbrev pub piece_given : Piece → Level → ℕ → Option Piece
piece_given own level now = piece_of own.name (node_given own) level now

-- the gather that a message opens under that number, if it opens one: that of an ask has the piece at once
abbrev pub given_gather : Label → Piece → ℕ → ℕ → Message → Option Gathering
given_gather top own now free (Query request query name epoch floor) = Some (opened free query floor (from_document top) None (parents.Client request))
given_gather top own now free (Ask ask from query start epoch floor) = Some (opened free query floor start (piece_given own start.level now) (parents.Ask ask from))
given_gather top own now free (Reply ask pieces) = None
given_gather top own now free (Update request name epoch number changes) = None
given_gather top own now free (Handover handover) = None

abbrev pub given_opened : Label → Piece → ℕ → Opened → List Message → Opened
given_opened top own now o messages = fold (λ before message. with_opened before (given_gather top own now before.next message)) o messages

-- the open gathers, and the number that is free for the next
abbrev pub opened_in : OpenGathers → ℕ → Opened
opened_in gathers next = record { gathers = gather_at gathers; next = next }

-- below the first number and from the last on all is as before
pub record AreBeside (old new : OpenGathers) (first last : ℕ) : Type 0 where
  pub from : first ≤ last
  pub below : (number : ℕ) → number < first → gather_at new number ≡ gather_at old number
  pub above : (number : ℕ) → last ≤ number → gather_at new number ≡ gather_at old number

-- from the first number on, up to the last, none is open, and all others are as before
pub record AreClosed (old new : OpenGathers) (first last : ℕ) : Type 0 where
  pub gone : (number : ℕ) → first ≤ number → number < last → gather_at new number ≡ None
  pub below : (number : ℕ) → number < first → gather_at new number ≡ gather_at old number
  pub above : (number : ℕ) → last ≤ number → gather_at new number ≡ gather_at old number

-- the last piece of a handover is full, and its node has a place in a cache once the ids of the other pieces were taken in
pub record BringsNode (cache : Cache) (handover : Handed) : Type 0 where
  pub own : Piece
  pub last : own_in handover.pieces ≡ Some own
  pub whole : IsSome own.full
  pub place : has_place (above_handed cache handover.pieces).contents.nodes own.name ≡ true

-- the gathers of what was parked for the node of a handover are open, up to that number
pub record HasOpened (old new : Holdings) (handover : Handed) (turn : Turn) (next : ℕ) : Type 0 where
  pub own : Piece
  pub last : own_in handover.pieces ≡ Some own
  pub opened : opened_in new.gathers next ≡ given_opened old.top own turn.now (opened_in old.gathers turn.next_gather) (seat_at old.titles handover.name).parked
  pub mine : All (λ message. node_of message ≡ Some handover.name) (seat_at old.titles handover.name).parked
  pub beside : AreBeside old.gathers new.gathers turn.next_gather next
  pub rest : new ≡ record old { gathers = new.gathers }

-- each gather is as before, and all else too
pub record HasSameGathers (old new : Holdings) : Type 0 where
  pub gathers : (number : ℕ) → gather_at new.gathers number ≡ gather_at old.gathers number
  pub rest : new ≡ record old { gathers = new.gathers }
