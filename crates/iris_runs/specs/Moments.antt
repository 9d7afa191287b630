-- What is so at a moment of a city: of its agents, of the messages between them, and of their open gathers.
use Rattle.std.specs.Prelude.{◌≡◌, ◌≢◌, ℕ, ◌<◌, ◌≤◌, is_some, List, [], ◌∷◌, ◌++◌, fold, map, All, Option, Some, IsSome, IfSome, nat_le, true, false}
use Rattle.iris_base.specs.declared.name.Label.{Label}
use Rattle.iris_tree.specs.Universe.{label_of, node_at}
use Rattle.iris_fragment.specs.declared.piece.Level.{Level}
use Rattle.iris_fragment.specs.declared.piece.Piece.{Piece}
use Rattle.iris_fragment.specs.Changes.{version_at}
use Rattle.iris_fragment.specs.Shape.{IsRooted}
use Rattle.iris_need.specs.Descents.{IsStartIn}
use Rattle.iris_need.specs.Needs.{from_document}
use Rattle.iris_book.specs.Book.{History, with_entry}
use Rattle.iris_book.specs.declared.entry.Entry.{Entry}
use Rattle.iris_cache.specs.Recency.{Cache, ListsComplete}
use Rattle.iris_migrate.specs.declared.message.Handover.{Handover as Handed}
use Rattle.iris_migrate.specs.Messages.{node_of}
use Rattle.iris_migrate.specs.declared.message.Message.{Message}
use Rattle.iris_migrate.specs.declared.message.Message.TheVariants.{Query, Ask, Reply, Update, Handover}
use Rattle.iris_gather.specs.declared.parent.Parent.{Parent}
use Rattle.iris_gather.specs.declared.parent.Parent.TheVariants as parents
use Rattle.iris_gather.specs.Gathers.{Gathering, IsReplyTo, IsSoundGather}
use Rattle.iris_gather.specs.OpenGathers.{awaits}
use Rattle.iris_agent.specs.declared.step.Step.{Step}
use Rattle.iris_agent.specs.declared.step.Step.TheVariants as steps
use Rattle.iris_agent.specs.Decisions.{MayStart}
use Rattle.iris_agent.specs.Handovers.{own_in}
use Rattle.iris_agent.specs.Moves.{names_above}
use Rattle.iris_agent.specs.Tables.{Tables}
use Rattle.iris_copies.specs.Allowed.{IsAllowed}
use Rattle.iris_copies.specs.Copies.{AreCopies, AreFresh, GoesOn, HoldsCopies, IsNewest}
use Rattle.iris_copies.specs.Views.{IsView}

-- ---- a moment

-- what an ask was made for: a node at a level, with copies that have a stamp at or after the floor
pub record Wanted : Type 0 where
  pub floor : ℕ
  pub name : List Label
  pub level : Level

-- the book, the present moment, and the asks that were made so far: how many, and each by its number
pub record Moment : Type 0 where
  pub history : History
  pub now : ℕ
  pub asks : ℕ
  pub wanted : ℕ → Wanted

-- the moment once these entries came
abbrev pub with_entries : Moment → List Entry → Moment
with_entries m es = record m { history = fold with_entry m.history es }

-- ---- gathers

-- the ask of that number was made for that
abbrev pub WasMadeFor : Moment → ℕ → ℕ → List Label → Level → Type 0
WasMadeFor m ask floor name level = (ask < m.asks) × (m.wanted ask ≡ record { floor = floor; name = name; level = level })

-- a client's gather starts at the document; that of an ask starts at the node that the ask was made for
abbrev pub IsParentAt : Moment → Gathering → Parent → Type 0
IsParentAt m g (parents.Client request) = g.start ≡ from_document (label_of m.history.start)
IsParentAt m g (parents.Ask ask from) = WasMadeFor m ask g.floor g.start.name g.start.level × (g.start.name ≢ [])

-- An open gather at a moment.
pub record IsGatherAt (m : Moment) (g : Gathering) : Type 0 where
  pub sound : IsSoundGather g
  -- its view has fresh copies
  pub view : IsView m.history m.now g.floor g.view
  pub past : g.floor ≤ m.now
  -- it starts at a node of the city, or at the document
  pub start : IsStartIn m.history.start g.start
  pub begins : MayStart g.start
  -- its pending asks were made for what it lacks, and it was opened for what its parent wants
  pub pending : All (λ ask. WasMadeFor m ask.0 g.floor ask.1.name ask.1.level) g.pending
  pub parent : IsParentAt m g g.parent

-- ---- messages

-- The reply to an ask: fresh copies that tell what was asked for.
pub record IsReplyAt (m : Moment) (ask : ℕ) (pieces : List Piece) : Type 0 where
  pub made : ask < m.asks
  pub copies : AreCopies m.history m.now pieces
  pub fresh : AreFresh (m.wanted ask).floor pieces
  pub tells : IsReplyTo (m.wanted ask).name (m.wanted ask).level pieces

-- A handover: copies of the nodes above, from the top node down, and last of the node itself in full.
pub record IsHandoverAt (m : Moment) (handed : Handed) : Type 0 where
  pub copies : AreCopies m.history m.now handed.pieces
  pub names_are : map (λ piece. piece.name) handed.pieces ≡ names_above handed.name ++ handed.name ∷ []
  pub own : Piece
  pub last : own_in handed.pieces ≡ Some own
  pub whole : IsSome own.full

-- the value in a handover is the newest
abbrev pub BringsNewest : History → Handed → Type 0
BringsNewest h handed = IfSome (own_in handed.pieces) (λ own. IfSome own.full (λ full. IsNewest h own.name full.local full.version))

-- A message at a moment.
abbrev pub IsMessageAt : Moment → Message → Type 0
IsMessageAt m (Query request asked name epoch floor) = floor ≤ m.now
IsMessageAt m (Ask ask from asked start epoch floor) = (floor ≤ m.now) × IsStartIn m.history.start start × WasMadeFor m ask floor start.name start.level × (start.name ≢ [])
IsMessageAt m (Reply ask pieces) = IsReplyAt m ask pieces
IsMessageAt m (Update request name epoch number changes) = Unit {0}
IsMessageAt m (Handover handed) = IsHandoverAt m handed

-- ---- agents

-- a cache has the node above each that it holds, and its order has the names of its complete nodes
pub record IsOrderly (c : Cache) : Type 0 where
  pub rooted : IsRooted c.contents.nodes
  pub listed : ListsComplete c.contents c.order

-- An agent at a moment.
pub record IsAgentAt (m : Moment) (t : Tables) : Type 0 where
  pub top : t.top ≡ label_of m.history.start
  pub copies : HoldsCopies m.history m.now t.cache.contents
  pub orderly : IsOrderly t.cache
  -- it has the value of a node of the city just where it owns the node
  pub owns : (name : List Label) → IsSome (node_at m.history.start name) → is_some (version_at t.cache.contents name) ≡ is_some (t.seat name).last
  pub gathers : (number : ℕ) → IfSome (t.gather number) (λ one. IsGatherAt m one.gather)
  -- what is parked for a node is for that node
  pub parked : (name : List Label) → All (IsMessageAt m) (t.seat name).parked
  pub placed : (name : List Label) → All (λ message. node_of message ≡ Some name) (t.seat name).parked

-- ---- steps

-- a step: a message as above, or an answer that is allowed
abbrev pub IsStepAt : Moment → Step → Type 0
IsStepAt m (steps.Post to message) = IsMessageAt m message
IsStepAt m (steps.Answered request asked floor items cites) = IsAllowed m.history m.now floor asked items cites
IsStepAt m (steps.Accepted request version) = Unit {0}
IsStepAt m (steps.Refused request refusal) = Unit {0}

-- ---- what an event at an agent takes for granted

-- A message for a node is for one of the city, a handover that is taken brings the newest value, and `waiting` is a gather that waits for the reply, if one does.
abbrev pub MayCome : Moment → Tables → Option ℕ → Message → Type 0
MayCome m t waiting (Query request asked name epoch floor) = IsSome (node_at m.history.start name)
MayCome m t waiting (Ask ask from asked start epoch floor) = IsSome (node_at m.history.start start.name)
MayCome m t waiting (Reply ask pieces) = IfSome waiting (λ number. awaits ask (t.gather number) ≡ true)
MayCome m t waiting (Update request name epoch number changes) = IsSome (node_at m.history.start name)
MayCome m t waiting (Handover handed) = IsSome (node_at m.history.start handed.name) × (nat_le handed.epoch (t.seat handed.name).taken ≡ false → BringsNewest m.history handed)

-- ---- as a city goes on

-- The book and the present moment go on, and what an ask was made for stays.
pub record IsLater (m next : Moment) : Type 0 where
  pub goes : GoesOn m.history m.now next.history next.now
  pub asks : m.asks ≤ next.asks
  pub wanted : (ask : ℕ) → ask < m.asks → next.wanted ask ≡ m.wanted ask
