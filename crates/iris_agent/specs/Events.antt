-- The events of an agent, as contracts state them: what each leaves, and what is as before where there is no memory.
use Rattle.std.specs.Prelude.{◌≡◌, ℕ, ◌≤◌, Bool, true, false, List, [], All, IsSome, Option, Some, None, map}
use Rattle.iris_base.specs.declared.name.Label.{Label}
use Rattle.iris_book.specs.Book.{Recorded, value_at, latest}
use Rattle.iris_fragment.specs.declared.piece.Piece.{Piece}
use Rattle.iris_fragment.specs.Contents.{has_place}
use Rattle.iris_fragment.specs.Changes.{version_at}
use Rattle.iris_cache.specs.Recency.{TookFirst}
use Rattle.iris_migrate.specs.declared.message.Handover.{Handover as Handed}
use Rattle.iris_migrate.specs.declared.message.Message.{Message}
use Rattle.iris_migrate.specs.declared.message.Message.TheVariants.{Query, Ask, Reply, Update, Handover}
use Rattle.iris_migrate.specs.Titles.{seat_at}
use Rattle.iris_gather.specs.OpenGathers.{OpenGathers, gather_at, serves_request, serves_ask, NoGather, IsAwaiting}
use Rattle.iris_agent.specs.declared.step.Step.{Step}
use Rattle.iris_agent.specs.declared.turn.Turn.{Turn}
use Rattle.iris_agent.specs.Tables.{Holdings, tables_of, is_among, with_cache}
use Rattle.iris_agent.specs.Handled.{Handled, Does}
use Rattle.iris_agent.specs.Updates.{value_owned}
use Rattle.iris_agent.specs.Handovers.{own_in, above_handed, ids_alone}
use Rattle.iris_agent.specs.Arrivals.{arrives, reply_arrives}
use Rattle.iris_agent.specs.Outside.{Seen, KeptEntries, Entered, HasKept}

-- ---- conditions

-- no gather has that number or a greater one
abbrev pub AreFree : Holdings → ℕ → Type 0
AreFree h next = (number : ℕ) → next ≤ number → gather_at h.gathers number ≡ None

-- the book's newest version and value of each node that the agent owns are the agent's own
abbrev pub IsBookOf : Holdings → Recorded → Type 0
IsBookOf h book = (name : List Label) (version : ℕ)
    → version_at h.cache.contents name ≡ Some version
    → (latest book.history name ≡ Some version) × (value_at book.history name version ≡ value_owned h.cache.contents name)

-- a query may open a gather where its request has none of these, and an ask where none is for it
abbrev pub MayOpenIn : OpenGathers → Message → Type 0
MayOpenIn gathers (Query request query name epoch floor) = NoGather (serves_request request) gathers
MayOpenIn gathers (Ask ask from query start epoch floor) = NoGather (serves_ask ask) gathers
MayOpenIn gathers (Update request name epoch number changes) = Unit {0}
MayOpenIn gathers (Reply ask pieces) = Unit {0}
MayOpenIn gathers (Handover handover) = Unit {0}

-- the same of an agent's open gathers
abbrev pub MayOpen : Holdings → Message → Type 0
MayOpen h message = MayOpenIn h.gathers message

-- The last piece of a handover is the node's own, in full; the node above is the document, or is held once the ids of the other pieces were taken in; and what is parked for the node may open its gathers.
pub record FitsHandover (h : Holdings) (handover : Handed) : Type 0 where
  pub own : Piece
  pub last : own_in handover.pieces ≡ Some own
  pub named : own.name ≡ handover.name
  pub whole : IsSome own.full
  pub place : has_place (above_handed h.cache handover.pieces).contents.nodes own.name ≡ true
  pub released : All (MayOpen h) (seat_at h.titles handover.name).parked

-- a message that may arrive: a query whose request has no open gather, an ask for which no gather is open unless it was met, an update, a reply, or a handover with its pieces
abbrev pub MayArrive : Holdings → Message → Type 0
MayArrive h (Query request query name epoch floor) = NoGather (serves_request request) h.gathers
MayArrive h (Ask ask from query start epoch floor) = is_among h.asked ask ≡ false → NoGather (serves_ask ask) h.gathers
MayArrive h (Update request name epoch number changes) = Unit {0}
MayArrive h (Reply ask pieces) = Unit {0}
MayArrive h (Handover handover) = FitsHandover h handover

-- ---- after an event

-- What happened at an agent, as defined for a keeper that kept the row that it was asked to keep, or that failed in this call: the agent, the turn and the steps; the entries of the book and the rows of the keeper. There is room for what follows from the steps that the event has where its row is kept.
pub record Happened (event : Bool → Handled) (new : Holdings) (after : Turn) (made : List Step) (book written : Recorded) (before told : Seen) (has_room : List Step → Type 0) : Type 0 where
  pub kept : Bool
  pub does : Does new after made (event kept)
  pub entered : Entered book written (event kept).entries
  pub rows : KeptEntries before told (event kept).entries
  pub cause : HasKept kept before told
  pub room : has_room (event true).steps

-- a reply to an ask arrived, for which that gather waited, if one did
pub record HasReplied (old new : Holdings) (turn : Turn) (ask : ℕ) (pieces : List Piece) (made : List Step) : Type 0 where
  pub waiting : Option ℕ
  pub waits : IsAwaiting old.gathers ask waiting
  pub does : Does new turn made (reply_arrives (tables_of old) turn waiting ask pieces)

-- the gather that waits for a reply, if one does; for another message it is none
abbrev pub WaitsFor : Holdings → Message → Option ℕ → Type 0
WaitsFor h (Query request query name epoch floor) waiting = waiting ≡ None
WaitsFor h (Ask ask from query start epoch floor) waiting = waiting ≡ None
WaitsFor h (Update request name epoch number changes) waiting = waiting ≡ None
WaitsFor h (Reply ask pieces) waiting = IsAwaiting h.gathers ask waiting
WaitsFor h (Handover handover) waiting = waiting ≡ None

-- a message arrived
pub record HasArrived (old new : Holdings) (turn after : Turn) (message : Message) (made : List Step) (book written : Recorded) (before told : Seen) (has_room : List Step → Type 0) : Type 0 where
  pub waiting : Option ℕ
  pub waits : WaitsFor old message waiting
  pub happened : Happened (λ kept. arrives kept waiting (tables_of old) turn message) new after made book written before told has_room

-- ---- where there was no memory

-- the pieces of a message that a cache takes in: those of a reply, and the ids of a handover's
abbrev pub offered : Message → List Piece
offered (Query request query name epoch floor) = []
offered (Ask ask from query start epoch floor) = []
offered (Update request name epoch number changes) = []
offered (Reply ask pieces) = pieces
offered (Handover handover) = map ids_alone handover.pieces

-- all is as before, but that the cache may have taken in some first ones of these pieces
pub record IsBackBut (old new : Holdings) (pieces : List Piece) : Type 0 where
  pub cache : TookFirst old.cache pieces new.cache
  pub rest : tables_of new ≡ with_cache (tables_of old) new.cache
