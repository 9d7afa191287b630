-- All that a good city has beside its history by the protocol, and what posts, steps and an agent's event leave of it.
use Rattle.std.proofs.Common.{◌≡◌, ◌≢◌, ℕ, ◌≤◌, Bool, true, false, if◌then◌else◌, is_some, nat_eq, List, [], ◌∷◌, Option, Some, None, IsSome, refl, sym, ap, ◌∙◌, subst, arith}
use Rattle.std.specs.Prelude.{All, IfSome, nat_le, fold}
use Rattle.std.proofs.lemmas.List.Elements.{All-head, All-tail, All-weaker}
use Rattle.iris_base.specs.declared.cite.Cite.{Cite}
use Rattle.iris_base.specs.declared.name.Label.{Label}
use Rattle.iris_tree.specs.Universe.{Node, node_at}
use Rattle.iris_xpath.specs.Syntax.{Syntax}
use Rattle.iris_route.specs.Titles.{title_at}
use Rattle.iris_book.specs.Book.{with_entry}
use Rattle.iris_book.specs.declared.entry.Entry.TheVariants as entries
use Rattle.iris_migrate.specs.declared.message.Handover.{Handover as Handed}
use Rattle.iris_migrate.specs.declared.message.Message.{Message}
use Rattle.iris_migrate.specs.declared.message.Message.TheVariants.{Query, Ask, Reply, Update, Handover}
use Rattle.iris_migrate.specs.Messages.{node_of}
use Rattle.iris_agent.specs.declared.step.Step.{Step}
use Rattle.iris_agent.specs.declared.step.Step.TheVariants as steps
use Rattle.iris_agent.specs.Handled.{Handled}
use Rattle.iris_agent.specs.Tables.{Tables, at_number}
use Rattle.iris_copies.specs.Copies.{IsPresent}
use Rattle.iris_copies.proofs.Times.{present_entry}
use Rattle.iris_protocol.specs.Program.{Known}
use Rattle.iris_protocol.specs.Table.{AgentId, agents, set_at}
use Rattle.iris_protocol.proofs.Tables.{at_each}
use Rattle.iris_runs.specs.Alike.{HaveOwnIds}
use Rattle.iris_runs.specs.Depths.{AreWithinLabels}
use Rattle.iris_runs.specs.Entered.{updates_entered, updates_accepted}
use Rattle.iris_runs.specs.Good.{Past, moment_of, KnowsItsAsks, IsNewestIfTaken, IsPostAt, IsGood}
use Rattle.iris_runs.specs.Moments.{Wanted, IsMessageAt, IsHandoverAt, IsAgentAt, IsLater, BringsNewest}
use Rattle.iris_runs.specs.Worlds.{Sent, World, posting, closes, with_agent, stepped, after, program_of}
use Rattle.iris_runs.proofs.StayRight.{message_later, brings_still, later_entry, agent_entry}

-- all clauses of a good city but those of the protocol
pub record IsRight (w : World) (wanted : ℕ → Wanted) : Type 0 where
  pub present : IsPresent w.history w.turn.now
  pub labels : AreWithinLabels w.history.start
  pub ids : HaveOwnIds w
  pub agents_are : (a : List ℕ) → IsAgentAt (moment_of w wanted) (w.agent a)
  pub asks : (a : List ℕ) → KnowsItsAsks (w.agent a)
  pub registered : (name : List Label) → is_some (title_at w.registry name) ≡ is_some (node_at w.history.start name)
  pub posts_are : (k : ℕ) → IfSome (w.post k) (IsPostAt w wanted)

pub right_of : (w : World) (past : Past) → IsGood w past → IsRight w past.wanted
right_of w past good = record { present = good.present; labels = good.labels; ids = good.ids; agents_are = good.agents; asks = good.asks; registered = good.registered; posts_are = good.posts }

pub good_of : (w : World) (past : Past) → Known (program_of w past.accepted) → updates_accepted past.accepted ≡ updates_entered w.history.entries → IsRight w past.wanted → IsGood w past
good_of w past known entered right = record { known = known; entered = entered; present = right.present; labels = right.labels; ids = right.ids; agents = right.agents_are; asks = right.asks; registered = right.registered; posts = right.posts_are }

-- ---- tables

-- what holds of a value that may be there, where one that is there has what is asked
pub some_weaker : {A : Type 0} (P Q : A → Type 0) (o : Option A) → ((x : A) → o ≡ Some x → P x → Q x) → IfSome o P → IfSome o Q
some_weaker P Q None f h = tt
some_weaker P Q (Some x) f h = f x refl h

-- what holds of the new value and of each old one holds at each number
pub each_number : {A : Type 0} (P : A → Type 0) (table : ℕ → A) (number : ℕ) (value : A) → P value → ((k : ℕ) → P (table k)) → (k : ℕ) → P (at_number table number value k)
each_number {A} P table number value here there k = go (nat_eq k number)
  where
    go : (b : Bool) → P (if b then value else table k)
    go true = here
    go false = there k

-- ---- posts

-- a post stays right, where a handover that its addressee would take still brings the newest value
pub post_later : (w next : World) (wanted more : ℕ → Wanted) (sent : Sent)
    → IsLater (moment_of w wanted) (moment_of next more)
    → ((handed : Handed) → sent.message ≡ Handover handed → IsHandoverAt (moment_of w wanted) handed → IsNewestIfTaken w sent (Handover handed) → IsNewestIfTaken next sent (Handover handed))
    → IsPostAt w wanted sent
    → IsPostAt next more sent
post_later w next wanted more sent later newest is = record {
  message = message_later (moment_of w wanted) (moment_of next more) sent.message later is.message;
  place = subst (λ (start : Node). IfSome (node_of sent.message) (λ name. IsSome (node_at start name))) (sym later.goes.start) is.place;
  newest = by sent.message refl is.message is.newest;
}
  where
    by : (message : Message) → sent.message ≡ message → IsMessageAt (moment_of w wanted) message → IsNewestIfTaken w sent message → IsNewestIfTaken next sent message
    by (Query request asked name epoch floor) e told h = tt
    by (Ask ask from asked start epoch floor) e told h = tt
    by (Reply ask pieces) e told h = tt
    by (Update request name epoch number changes) e told h = tt
    by (Handover handed) e told h = newest handed e told h

-- as one more message is posted
pub posting_right : (w : World) (wanted : ℕ → Wanted) (to : AgentId) (message : Message)
    → IsPostAt w wanted (record { to = to; message = message })
    → IsRight w wanted
    → IsRight (posting w to message) wanted
posting_right w wanted to message is right = record {
  present = right.present;
  labels = right.labels;
  ids = right.ids;
  agents_are = right.agents_are;
  asks = right.asks;
  registered = right.registered;
  posts_are = each_number (λ (o : Option Sent). IfSome o (IsPostAt (posting w to message) wanted)) w.post w.posts (Some (record { to = to; message = message })) (same_post _ is)
      (λ k. some_weaker (IsPostAt w wanted) (IsPostAt (posting w to message) wanted) (w.post k) (λ sent there h. same_post sent h) (right.posts_are k));
}
  where
    same_post : (sent : Sent) → IsPostAt w wanted sent → IsPostAt (posting w to message) wanted sent
    same_post sent h = record { message = h.message; place = h.place; newest = h.newest }

-- ---- entries that update nothing

-- an answer is entered
answered_post : (w : World) (wanted : ℕ → Wanted) (request floor : ℕ) (query : Syntax) (cites : List Cite) (sent : Sent)
    → IsPostAt w wanted sent
    → IsPostAt (record w { history = with_entry w.history (entries.Answered request query floor cites) }) wanted sent
answered_post w wanted request floor query cites sent is =
    post_later w (record w { history = with_entry w.history (entries.Answered request query floor cites) }) wanted wanted sent
    (later_entry (moment_of w wanted) (entries.Answered request query floor cites) tt)
    (λ handed e told newest free. brings_still (moment_of w wanted) handed (entries.Answered request query floor cites) told refl (newest free))
    is

answered_right : (w : World) (wanted : ℕ → Wanted) (request floor : ℕ) (query : Syntax) (cites : List Cite)
    → IsRight w wanted
    → IsRight (record w { history = with_entry w.history (entries.Answered request query floor cites) }) wanted
answered_right w wanted request floor query cites right = record {
  present = present_entry w.history w.turn.now (entries.Answered request query floor cites) tt tt right.present;
  labels = right.labels;
  ids = right.ids;
  agents_are = λ a. agent_entry (moment_of w wanted) (entries.Answered request query floor cites) (w.agent a) tt tt (right.agents_are a);
  asks = right.asks;
  registered = right.registered;
  posts_are = λ k. some_weaker (IsPostAt w wanted) _ (w.post k) (λ sent there is. answered_post w wanted request floor query cites sent is) (right.posts_are k);
}

-- ---- steps

-- what is posted is right
abbrev pub IsSendAt : World → (ℕ → Wanted) → Step → Type 0
IsSendAt w wanted (steps.Post to message) = IsPostAt w wanted (record { to = to; message = message })
IsSendAt w wanted (steps.Answered request query floor items cites) = Unit {0}
IsSendAt w wanted (steps.Accepted request version) = Unit {0}
IsSendAt w wanted (steps.Refused request refusal) = Unit {0}

-- a request has its outcome
closed_post : (w : World) (wanted : ℕ → Wanted) (request : ℕ) (sent : Sent) → IsPostAt w wanted sent → IsPostAt (closes w request) wanted sent
closed_post w wanted request sent is = record { message = is.message; place = is.place; newest = is.newest }

pub closed_right : (w : World) (wanted : ℕ → Wanted) (request : ℕ) → IsRight w wanted → IsRight (closes w request) wanted
closed_right w wanted request right = record {
  present = right.present;
  labels = right.labels;
  ids = right.ids;
  agents_are = right.agents_are;
  asks = right.asks;
  registered = right.registered;
  posts_are = λ k. some_weaker (IsPostAt w wanted) _ (w.post k) (λ sent there is. closed_post w wanted request sent is) (right.posts_are k);
}

stepped_post : (w : World) (wanted : ℕ → Wanted) (s : Step) (sent : Sent) → IsPostAt w wanted sent → IsPostAt (stepped w s) wanted sent
stepped_post w wanted (steps.Post to message) sent is = record { message = is.message; place = is.place; newest = is.newest }
stepped_post w wanted (steps.Answered request query floor items cites) sent is = answered_post (closes w request) wanted request floor query cites sent (closed_post w wanted request sent is)
stepped_post w wanted (steps.Accepted request version) sent is = closed_post w wanted request sent is
stepped_post w wanted (steps.Refused request refusal) sent is = closed_post w wanted request sent is

stepped_send : (w : World) (wanted : ℕ → Wanted) (s other : Step) → IsSendAt w wanted other → IsSendAt (stepped w s) wanted other
stepped_send w wanted s (steps.Post to message) is = stepped_post w wanted s (record { to = to; message = message }) is
stepped_send w wanted s (steps.Answered request query floor items cites) is = tt
stepped_send w wanted s (steps.Accepted request version) is = tt
stepped_send w wanted s (steps.Refused request refusal) is = tt

stepped_right : (w : World) (wanted : ℕ → Wanted) (s : Step) → IsSendAt w wanted s → IsRight w wanted → IsRight (stepped w s) wanted
stepped_right w wanted (steps.Post to message) is right = posting_right w wanted to message is right
stepped_right w wanted (steps.Answered request query floor items cites) is right = answered_right (closes w request) wanted request floor query cites (closed_right w wanted request right)
stepped_right w wanted (steps.Accepted request version) is right = closed_right w wanted request right
stepped_right w wanted (steps.Refused request refusal) is right = closed_right w wanted request right

pub steps_right : (w : World) (wanted : ℕ → Wanted) (ss : List Step) → All (IsSendAt w wanted) ss → IsRight w wanted → IsRight (fold stepped w ss) wanted
steps_right w wanted [] all right = right
steps_right w wanted (s ∷ ss) all right = steps_right (stepped w s) wanted ss
    (All-weaker (IsSendAt w wanted) (IsSendAt (stepped w s) wanted) (λ other is. stepped_send w wanted s other is) ss (All-tail (IsSendAt w wanted) s ss all))
    (stepped_right w wanted s (All-head (IsSendAt w wanted) s ss all) right)

-- ---- an event at an agent

-- the city before the steps of an event: the agent, the turn and the book are those that it left
abbrev pub begun : World → AgentId → Handled → World
begun w a h = record (with_agent w a h.tables) { turn = h.turn; history = fold with_entry w.history h.entries }

-- What an event at an agent leaves there, and of the book and the turn.
pub record LeavesRight (w : World) (wanted more : ℕ → Wanted) (a : AgentId) (h : Handled) : Type 0 where
  pub later : IsLater (moment_of w wanted) (moment_of (begun w a h) more)
  pub present : IsPresent (fold with_entry w.history h.entries) h.turn.now
  pub id_is : h.tables.id ≡ (w.agent a).id
  pub here : IsAgentAt (moment_of (begun w a h) more) h.tables
  pub elsewhere : (b : AgentId) → b ≢ a → IsAgentAt (moment_of (begun w a h) more) (w.agent b)
  pub asks : KnowsItsAsks h.tables
  pub taken : (name : List Label) → ((w.agent a).seat name).taken ≤ (h.tables.seat name).taken
  pub newest : (k : ℕ) (sent : Sent) (handed : Handed) → w.post k ≡ Some sent → sent.message ≡ Handover handed → IsHandoverAt (moment_of w wanted) handed
      → nat_le handed.epoch ((w.agent sent.to).seat handed.name).taken ≡ false → BringsNewest w.history handed → BringsNewest (fold with_entry w.history h.entries) handed

-- what is greater than the one is not at most the other
not_taken : (epoch before now : ℕ) → before ≤ now → nat_le epoch now ≡ false → nat_le epoch before ≡ false
not_taken epoch before now le free = grind arith

pub begun_right : (w : World) (wanted more : ℕ → Wanted) (a : AgentId) (h : Handled) → LeavesRight w wanted more a h → IsRight w wanted → IsRight (begun w a h) more
begun_right w wanted more a h leaves right = record {
  present = leaves.present;
  labels = subst AreWithinLabels (sym leaves.later.goes.start) right.labels;
  ids = at_each agents (λ b (t : Tables). t.id ≡ b) w.agent a h.tables (leaves.id_is ∙ right.ids a) (λ b apart. right.ids b);
  agents_are = at_each agents (λ b (t : Tables). IsAgentAt (moment_of (begun w a h) more) t) w.agent a h.tables leaves.here leaves.elsewhere;
  asks = at_each agents (λ b (t : Tables). KnowsItsAsks t) w.agent a h.tables leaves.asks (λ b apart. right.asks b);
  registered = λ name. right.registered name ∙ ap (λ (start : Node). is_some (node_at start name)) (sym leaves.later.goes.start);
  posts_are = λ k. some_weaker (IsPostAt w wanted) (IsPostAt (begun w a h) more) (w.post k)
      (λ sent there is. post_later w (begun w a h) wanted more sent leaves.later
      (λ handed e told newest free. let before = free_before sent.to handed free in leaves.newest k sent handed there e told before (newest before)) is)
      (right.posts_are k);
}
  where
    free_before : (to : AgentId) (handed : Handed) → nat_le handed.epoch ((set_at agents w.agent a h.tables to).seat handed.name).taken ≡ false → nat_le handed.epoch ((w.agent to).seat handed.name).taken ≡ false
    free_before to handed = at_each agents (λ b (t : Tables). nat_le handed.epoch (t.seat handed.name).taken ≡ false → nat_le handed.epoch ((w.agent b).seat handed.name).taken ≡ false) w.agent a h.tables
        (λ free. not_taken handed.epoch _ _ (leaves.taken handed.name) free) (λ b apart free. free) to

pub after_right : (w : World) (wanted more : ℕ → Wanted) (a : AgentId) (h : Handled) → LeavesRight w wanted more a h → All (IsSendAt (begun w a h) more) h.steps → IsRight w wanted → IsRight (after w a h) more
after_right w wanted more a h leaves all right = steps_right (begun w a h) more h.steps all (begun_right w wanted more a h leaves right)
