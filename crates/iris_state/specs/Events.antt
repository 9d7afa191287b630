-- What happened in a city, as contracts state it: the event, and the lines that tell of it.
use Rattle.std.specs.Prelude.{◌≡◌, ◌⊎◌, ℕ, ◌<◌, ◌^◌, Bool, true, false, List, [], ◌∷◌, Option, Some, IfSome, MatchBool, fold, slice_get, option_map, if◌then◌else◌}
use Rattle.iris_base.specs.declared.name.Label.{Label}
use Rattle.iris_json.specs.declared.out.Out.{Out}
use Rattle.iris_book.specs.Book.{with_entry}
use Rattle.iris_cache.specs.Recency.{Cache, TookFirst}
use Rattle.iris_migrate.specs.declared.message.Message.{Message}
use Rattle.iris_gather.specs.declared.basis.Basis.{Basis}
use Rattle.iris_gather.specs.declared.entries.OpenGather.{OpenGather}
use Rattle.iris_gather.specs.Laid.{laid}
use Rattle.iris_gather.specs.OpenGathers.{serves_request, AnyGather, NoGather}
use Rattle.iris_agent.specs.declared.commit.CommitError.{CommitError}
use Rattle.iris_agent.specs.declared.commit.CommitError.TheVariants.{Moved, Memory}
use Rattle.iris_agent.specs.declared.commit.Done.{Done}
use Rattle.iris_agent.specs.declared.job.Job.{Job}
use Rattle.iris_agent.specs.Arrivals.{arrives}
use Rattle.iris_agent.specs.Commits.{HasMoved}
use Rattle.iris_agent.specs.Decisions.{IsBasis}
use Rattle.iris_agent.specs.Events.{offered}
use Rattle.iris_agent.specs.Gives.{gives}
use Rattle.iris_agent.specs.Handled.{Handled, only_change}
use Rattle.iris_agent.specs.Outside.{Seen, KeptEntries, HasKept}
use Rattle.iris_agent.specs.NamedAsks.{NamesAsk, NamesNoAsk}
use Rattle.iris_agent.specs.Tables.{Holdings, is_among}
use Rattle.iris_outbox.specs.Lines.{lines_of}
use Rattle.iris_protocol.specs.Program.{Tells}
use Rattle.iris_protocol.specs.Table.{AgentId}
use Rattle.iris_protocol.specs.World as model
use Rattle.iris_runs.specs.Alike.{IsWaitedFor}
use Rattle.iris_runs.specs.Happenings.{is_over, delivered, interrupted, decided, decision_at, lent_there, given, move_of, forgotten}
use Rattle.iris_runs.specs.Letters.{agent_of, letter_of}
use Rattle.iris_runs.specs.Worlds.{Sent, World, owner_of}

-- ---- decisions

-- The open gather of that number at an agent decided, over its view laid over what the agent holds and may use.
pub record HasDecidedAt (w : World) (id : AgentId) (number : ℕ) (new : World) (lines : List Out) : Type 0 where
  pub one : OpenGather
  pub there : (w.agent id).gather number ≡ Some one
  pub basis : Basis
  pub rests : IsBasis one.gather.query one.gather.start (laid (w.agent id).cache.contents one.gather.floor w.turn.now one.gather.view) basis
  pub city : new ≡ decided w id number basis (Some one)
  pub lines_are : lines ≡ lines_of w.posts w.history (decision_at w id number basis one.gather).steps

-- the evaluation of an open gather of an agent, over its view laid over what the agent holds and may use now
abbrev pub job_at : World → AgentId → ℕ → Option Job
job_at w id number =
    option_map (λ one. record { gather = number; query = one.gather.query; start = one.gather.start; view = laid (w.agent id).cache.contents one.gather.floor w.turn.now one.gather.view }) ((w.agent id).gather number)

-- why an evaluation of a job of that agent was not taken, and what is left: the gather is not lent any more, or all is as before
abbrev pub HasRefused : World → Option Holdings → AgentId → Done → World → CommitError → Type 0
HasRefused w held id done new (Moved name) = IfSome held (λ h. HasMoved h w.turn.now done name) × (new ≡ lent_there w id done.job.gather false)
HasRefused w held id done new Memory = new ≡ w

-- ---- arrivals

-- an open gather of one of these agents is for that request
abbrev pub IsServed : List Holdings → ℕ → Type 0
IsServed hs request = (place : ℕ) × (h : Holdings) × ((slice_get hs place ≡ Some h) × AnyGather (serves_request request) h.gathers)

-- no open gather of these agents is for that request
abbrev pub IsUnserved : List Holdings → ℕ → Type 0
IsUnserved hs request = (place : ℕ) (h : Holdings) → slice_get hs place ≡ Some h → NoGather (serves_request request) h.gathers

-- Whether a message changes nothing, where `serving` tells the truth of the open gathers.
pub record IsJudged (w : World) (message : Message) (over : Bool) : Type 0 where
  pub serving : Bool
  pub tells : Tells (λ a. agent_of (w.agent a)) serving (letter_of message)
  pub judged : over ≡ is_over w serving message

-- what a message leads to at its addressee: nothing where it is over
abbrev pub arrival_in : World → Bool → Bool → Option ℕ → Sent → Handled
arrival_in w serving kept waiting sent = if is_over w serving sent.message then only_change (w.agent sent.to) w.turn else arrives kept waiting (w.agent sent.to) w.turn sent.message

-- A kept post arrived: `serving` tells the truth of the open gathers, `waiting` is the gather that waits for a reply, and `kept` is whether the keeper kept a row that it was asked to keep.
pub record HasArrivedAt (w : World) (k : ℕ) (new : World) (lines : List Out) (before told : Seen) : Type 0 where
  pub sent : Sent
  pub there : w.post k ≡ Some sent
  pub serving : Bool
  pub tells : Tells (λ a. agent_of (w.agent a)) serving (letter_of sent.message)
  pub waiting : Option ℕ
  pub waits : (ask : ℕ) → letter_of sent.message ≡ model.reply ask → IsWaitedFor (w.agent sent.to).gather ask waiting
  pub kept : Bool
  pub city : new ≡ delivered w serving kept waiting k (Some sent)
  pub lines_are : lines ≡ lines_of w.posts (fold with_entry w.history (arrival_in w serving kept waiting sent).entries) (arrival_in w serving kept waiting sent).steps
  pub rows : KeptEntries before told (arrival_in w serving kept waiting sent).entries
  pub cause : HasKept kept before told

-- An arrival ended for want of memory: the addressee's cache may have taken in some first pieces of the message, and nothing else happened.
pub record IsInterrupted (w : World) (k : ℕ) (new : World) : Type 0 where
  pub sent : Sent
  pub there : w.post k ≡ Some sent
  pub cache : Cache
  pub took : TookFirst (w.agent sent.to).cache (offered sent.message) cache
  pub city : new ≡ interrupted w sent.to cache

-- ---- moves

-- what a move leaves at the owner of its node
abbrev pub giving : World → List Label → AgentId → Handled
giving w name to = gives (w.agent (owner_of w.registry name)) w.turn (move_of w name to)

-- The owner of a node gave it to that agent: its row was kept, and the handover was posted.
pub record HasGiven (w : World) (name : List Label) (to : AgentId) (new : World) (lines : List Out) (before told : Seen) : Type 0 where
  pub city : new ≡ given w name to
  pub lines_are : lines ≡ lines_of w.posts w.history (giving w name to).steps
  pub row : KeptEntries before told (giving w name to).entries

-- ---- what is forgotten

-- one of these agents names the ask
abbrev pub IsNamed : List Holdings → ℕ → Type 0
IsNamed [] ask = ⊥
IsNamed (h ∷ hs) ask = NamesAsk h.titles h.gathers ask ⊎ IsNamed hs ask

-- none of these agents names the ask
abbrev pub IsUnnamed : List Holdings → ℕ → Type 0
IsUnnamed [] ask = Unit {0}
IsUnnamed (h ∷ hs) ask = NamesNoAsk h.titles h.gathers ask × IsUnnamed hs ask

-- Of the asks that an agent met it knows those still that one of these agents names, and no other.
pub record HasForgottenAsks (hs : List Holdings) (old new : Holdings) : Type 0 where
  pub met : (ask : ℕ) → ask < 2 ^ 64 → is_among old.asked ask ≡ true → MatchBool (is_among new.asked ask) (IsNamed hs ask) (IsUnnamed hs ask)
  pub others : (ask : ℕ) → is_among old.asked ask ≡ false → is_among new.asked ask ≡ false
  pub rest : new ≡ record old { asked = new.asked }

-- A city of these agents forgot: of the asks that its agents met just those stay that one of them names.
pub record HasForgotten (hs : List Holdings) (w new : World) : Type 0 where
  pub stays : AgentId → ℕ → Bool
  pub named : (a : AgentId) (ask : ℕ) → (w.agent a).asked ask ≡ true → MatchBool (stays a ask) (IsNamed hs ask) (IsUnnamed hs ask)
  pub city : new ≡ forgotten w stays
