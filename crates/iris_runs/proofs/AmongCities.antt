-- What is owned, sent and waited for in a city stays among its agents, whatever happens.
use Rattle.std.proofs.Common.{◌≡◌, ℕ, suc, Bool, true, false, if◌then◌else◌, List, [], ◌∷◌, All, Option, Some, None, IsSome, IfSome, refl, sym, ap, ◌∙◌, subst}
use Rattle.std.specs.Prelude.{fold, option_map, unwrap_or}
use Rattle.std.specs.Cmp.Lexicographic.{pointwise}
use Rattle.std.proofs.lemmas.List.Elements.{All-nil, All-head, All-tail, All-contains}
use Rattle.std.proofs.lemmas.Map.Made.{IsSome-lookup_same_keys}
use Rattle.iris_base.specs.declared.name.Label.{Label}
use Rattle.iris_base.specs.NameOrder.{label_eq}
use Rattle.iris_tree.specs.declared.change.Change.{Change}
use Rattle.iris_xpath.specs.Syntax.{Syntax}
use Rattle.iris_need.specs.declared.need.Need.{Need}
use Rattle.iris_route.specs.Titles.{Title, Titles, title_at, with_title}
use Rattle.iris_route.proofs.TitleMaps.{name_exact, set_here, set_elsewhere, set_keys}
use Rattle.iris_cache.specs.Recency.{Cache, evicted_from}
use Rattle.iris_migrate.specs.declared.message.Message.{Message}
use Rattle.iris_migrate.specs.declared.message.Message.TheVariants.{Query, Update}
use Rattle.iris_migrate.specs.Titles.{empty_seat, with_last}
use Rattle.iris_gather.specs.declared.basis.Basis.{Basis}
use Rattle.iris_gather.specs.declared.entries.OpenGather.{OpenGather}
use Rattle.iris_gather.specs.Gathers.{settled}
use Rattle.iris_gather.specs.Laid.{laid}
use Rattle.iris_gather.specs.OpenGathers.{with_lent}
use Rattle.iris_gather.specs.Verdicts.{asks_of}
use Rattle.iris_gather.proofs.Stand.{asks_missing}
use Rattle.iris_agent.specs.declared.step.Step.{Step}
use Rattle.iris_agent.specs.declared.step.Step.TheVariants as steps
use Rattle.iris_agent.specs.Arrivals as at_agent
use Rattle.iris_agent.specs.Decisions.{AreRouted, IsBasis}
use Rattle.iris_agent.specs.Handled.{Handled}
use Rattle.iris_agent.specs.Tables.{Tables}
use Rattle.iris_protocol.specs.Table.{AgentId, agents}
use Rattle.iris_protocol.specs.World.{entries, last_number}
use Rattle.iris_protocol.proofs.Tables.{at_each}
use Rattle.iris_runs.specs.Alike.{HaveOwnIds}
use Rattle.iris_runs.specs.Among.{NamesThese, ServesThese, IsSentAmong, IsSeatAmong, IsAgentAmong, AreOwnedAmong, AreAmong}
use Rattle.iris_runs.specs.Good.{Past, IsGood}
use Rattle.iris_runs.specs.Happenings.{query_posted, update_posted, is_over, delivered, interrupted, decided, decision_at, lent_there, move_of, given, evicted_at, advanced, forgotten}
use Rattle.iris_runs.specs.Entered.{KeptUpdates}
use Rattle.iris_runs.specs.Starts.{IsStart}
use Rattle.iris_runs.specs.Worlds.{Sent, World, owner_of, epoch_of, posting, marked, closes, with_agent, stepped, after}
use Rattle.iris_runs.proofs.Acting.{missing_routed}
use Rattle.iris_runs.proofs.AmongAgents.{cache_among, gather_among, met_among, IsStepAmong, LeavesAmong, arrived_among, judged_among, gives_among}
use Rattle.iris_runs.proofs.DecidedRight.{each_numbered}
use Rattle.iris_runs.proofs.StayGood.{each_number, begun}

-- ---- the registry, the agents and the posts

-- of the rest of a city nothing is said
same_among : (here : AgentId → Bool) (w next : World) → next.registry ≡ w.registry → next.agent ≡ w.agent → next.post ≡ w.post → AreAmong here w → AreAmong here next
same_among here w next registry agent post among = record {
  owners = subst (AreOwnedAmong here) (sym registry) among.owners;
  agents = subst (λ (f : AgentId → Tables). (a : AgentId) → IsAgentAmong here (f a)) (sym agent) among.agents;
  posts = subst (λ (f : ℕ → Option Sent). (k : ℕ) → IfSome (f k) (IsSentAmong here)) (sym post) among.posts;
}

agent_among : (here : AgentId → Bool) (w : World) (a : AgentId) (t : Tables) → IsAgentAmong here t → AreAmong here w → AreAmong here (with_agent w a t)
agent_among here w a t is among = record { owners = among.owners; agents = at_each agents (λ b (u : Tables). IsAgentAmong here u) w.agent a t is (λ b apart. among.agents b); posts = among.posts }

posting_among : (here : AgentId → Bool) (w : World) (to : AgentId) (message : Message) → IsSentAmong here (record { to = to; message = message }) → AreAmong here w → AreAmong here (posting w to message)
posting_among here w to message is among = record {
  owners = among.owners;
  agents = among.agents;
  posts = each_number (λ (o : Option Sent). IfSome o (IsSentAmong here)) w.post w.posts (Some (record { to = to; message = message })) is among.posts;
}

-- ---- an event at an agent

stepped_among : (here : AgentId → Bool) (w : World) (s : Step) → IsStepAmong here s → AreAmong here w → AreAmong here (stepped w s)
stepped_among here w (steps.Post to message) is among = posting_among here w to message is among
stepped_among here w (steps.Answered request asked floor items cites) is among = same_among here w (stepped w (steps.Answered request asked floor items cites)) refl refl refl among
stepped_among here w (steps.Accepted request version) is among = same_among here w (closes w request) refl refl refl among
stepped_among here w (steps.Refused request refusal) is among = same_among here w (closes w request) refl refl refl among

steps_among : (here : AgentId → Bool) (w : World) (ss : List Step) → All (IsStepAmong here) ss → AreAmong here w → AreAmong here (fold stepped w ss)
steps_among here w [] all among = among
steps_among here w (s ∷ ss) all among = steps_among here (stepped w s) ss (All-tail (IsStepAmong here) s ss all) (stepped_among here w s (All-head (IsStepAmong here) s ss all) among)

after_among : (here : AgentId → Bool) (w : World) (a : AgentId) (h : Handled) → LeavesAmong here h → AreAmong here w → AreAmong here (after w a h)
after_among here w a h leaves among = steps_among here (begun w a h) h.steps leaves.sends (same_among here (with_agent w a h.tables) (begun w a h) refl refl refl (agent_among here w a h.tables leaves.agent among))

-- ---- requests

pub query_among : (here : AgentId → Bool) (w : World) (asked : Syntax) (name : List Label) (floor : ℕ) → IsSome (title_at w.registry name) → AreAmong here w → AreAmong here (query_posted w asked name floor)
query_among here w asked name floor titled among =
    let message = Query w.requests asked name (epoch_of w.registry name) floor in
    same_among here (posting w (owner_of w.registry name) message) (query_posted w asked name floor) refl refl refl (posting_among here w (owner_of w.registry name) message (record { addressee = among.owners name titled; names = tt }) among)

pub update_among : (here : AgentId → Bool) (w : World) (name : List Label) (number : ℕ) (changes : List Change) → IsSome (title_at w.registry name) → AreAmong here w → AreAmong here (update_posted w name number changes)
update_among here w name number changes titled among =
    let message = Update w.requests name (epoch_of w.registry name) number changes in
    same_among here (posting w (owner_of w.registry name) message) (update_posted w name number changes) refl refl refl (posting_among here w (owner_of w.registry name) message (record { addressee = among.owners name titled; names = tt }) among)

-- ---- arrivals

pub delivered_among : (here : AgentId → Bool) (w : World) (serving kept : Bool) (waiting : Option ℕ) (k : ℕ) → HaveOwnIds w → AreAmong here w → AreAmong here (delivered w serving kept waiting k (w.post k))
delivered_among here w serving kept waiting k ids among = go (w.post k) (among.posts k)
  where
    seen : AreAmong here (marked w k)
    seen = same_among here w (marked w k) refl refl refl among

    by : (sent : Sent) → IsSentAmong here sent → (over : Bool) → AreAmong here (if over then marked w k else after (marked w k) sent.to (at_agent.arrives kept waiting (w.agent sent.to) w.turn sent.message))
    by sent is true = seen
    by sent is false = after_among here (marked w k) sent.to _ (arrived_among here kept waiting (w.agent sent.to) w.turn sent.message (ap here (ids sent.to) ∙ is.addressee) is.names (among.agents sent.to)) seen

    go : (o : Option Sent) → IfSome o (IsSentAmong here) → AreAmong here (delivered w serving kept waiting k o)
    go None is = among
    go (Some sent) is = by sent is (is_over (marked w k) serving sent.message)

-- ---- decisions

pub decided_among : (here : AgentId → Bool) (w : World) (past : Past) (a : AgentId) (number : ℕ) (one : OpenGather) (basis : Basis)
    → here a ≡ true
    → (w.agent a).gather number ≡ Some one
    → IsBasis one.gather.query one.gather.start (laid (w.agent a).cache.contents one.gather.floor w.turn.now one.gather.view) basis
    → IsGood w past
    → AreAmong here w
    → AreAmong here (decided w a number basis (Some one))
decided_among here w past a number one basis is there rests good among =
    after_among here w a (decision_at w a number basis one.gather)
    (judged_among here w.registry (w.agent a) w.turn number (settled one.gather basis.verdict basis.pieces w.turn.next_ask) basis.cites basis.verdict (ap here (good.ids a) ∙ is) asked serves (among.agents a)) among
  where
    serves : ServesThese here one.gather.parent
    serves = subst (λ (o : Option OpenGather). IfSome o (λ g. ServesThese here g.gather.parent)) there ((among.agents a).gathers number)

    routed : AreRouted w.registry (asks_of basis.verdict)
    routed = subst (AreRouted w.registry) (sym (asks_missing one.gather.query one.gather.start _ basis.verdict rests.verdict)) (missing_routed w past good a number one there)

    asked : All (λ ask. here (owner_of w.registry ask.1.name) ≡ true) (settled one.gather basis.verdict basis.pieces w.turn.next_ask).pending
    asked = each_numbered (λ ask (need : Need). here (owner_of w.registry need.name) ≡ true) w.turn.next_ask (asks_of basis.verdict)
        (λ i need at within. among.owners need.name (All-contains (λ (n : Need). IsSome (title_at w.registry n.name)) (asks_of basis.verdict) need routed within))

-- ---- one agent's tables

pub lent_among : (here : AgentId → Bool) (w : World) (a : AgentId) (number : ℕ) (lent : Bool) → AreAmong here w → AreAmong here (lent_there w a number lent)
lent_among here w a number lent among = agent_among here w a _ (gather_among here (w.agent a) number (option_map (with_lent lent) ((w.agent a).gather number)) (by ((w.agent a).gather number) ((among.agents a).gathers number)) (among.agents a)) among
  where
    by : (o : Option OpenGather) → IfSome o (λ g. ServesThese here g.gather.parent) → IfSome (option_map (with_lent lent) o) (λ g. ServesThese here g.gather.parent)
    by None serves = tt
    by (Some one) serves = serves

pub interrupted_among : (here : AgentId → Bool) (w : World) (a : AgentId) (cache : Cache) → AreAmong here w → AreAmong here (interrupted w a cache)
interrupted_among here w a cache among = agent_among here w a _ (cache_among here (w.agent a) cache (among.agents a)) among

pub evicted_among : (here : AgentId → Bool) (w : World) (a : AgentId) (name : List Label) → AreAmong here w → AreAmong here (evicted_at w a name)
evicted_among here w a name among = interrupted_among here w a (evicted_from (w.agent a).cache name) among

-- ---- moves

-- the new owner is one of these
retitled_among : (here : AgentId → Bool) (registry : Titles) (name : List Label) (title : Title) → here title.0 ≡ true → AreOwnedAmong here registry → AreOwnedAmong here (with_title registry name title)
retitled_among here registry name title is own other titled = by (pointwise label_eq other name) refl
  where
    before : IsSome (title_at registry other)
    before = (IsSome-lookup_same_keys (pointwise label_eq other) (with_title registry name title) registry (set_keys registry name title)).0 titled

    by : (b : Bool) → pointwise label_eq other name ≡ b → here (owner_of (with_title registry name title) other) ≡ true
    by true same =
        let equal : other ≡ name = name_exact other name same in
        subst (λ (n : List Label). here (owner_of (with_title registry name title) n) ≡ true) (sym equal)
        (subst (λ (o : Option Title). here (unwrap_or o ([], 0)).0 ≡ true) (sym (set_here registry name title (subst (λ (n : List Label). IsSome (title_at registry n)) equal before))) is)
    by false apart = subst (λ (o : Option Title). here (unwrap_or o ([], 0)).0 ≡ true) (sym (set_elsewhere registry name other title apart)) (own other before)

pub given_among : (here : AgentId → Bool) (w : World) (name : List Label) (to : AgentId) → here to ≡ true → AreAmong here w → AreAmong here (given w name to)
given_among here w name to is among =
    after_among here (record w { registry = registry }) (owner_of w.registry name) _ (gives_among here (w.agent (owner_of w.registry name)) w.turn (move_of w name to) is (among.agents (owner_of w.registry name)))
    (record { owners = retitled_among here w.registry name (to, suc (epoch_of w.registry name)) is among.owners; agents = among.agents; posts = among.posts })
  where
    registry : Titles
    registry = with_title w.registry name (to, suc (epoch_of w.registry name))

-- ---- time, and what is forgotten

pub advanced_among : (here : AgentId → Bool) (w : World) (moment : ℕ) → AreAmong here w → AreAmong here (advanced w moment)
advanced_among here w moment among = same_among here w (advanced w moment) refl refl refl among

pub forgotten_among : (here : AgentId → Bool) (w : World) (stays : AgentId → ℕ → Bool) → AreAmong here w → AreAmong here (forgotten w stays)
forgotten_among here w stays among = record {
  owners = among.owners;
  agents = λ a. met_among here (w.agent a) (λ number. if stays a number then (w.agent a).asked number else false) (among.agents a);
  posts = λ k. by k (w.seen k);
}
  where
    by : (k : ℕ) (seen : Bool) → IfSome (if seen then None else w.post k) (IsSentAmong here)
    by k true = tt
    by k false = among.posts k

-- ---- the start

pub begun_among : (here : AgentId → Bool) (rows : KeptUpdates) (w : World) → AreOwnedAmong here w.registry → IsStart rows w → AreAmong here w
begun_among here rows w own is = record {
  owners = own;
  agents = λ a. record {
    seats = λ name. subst (IsSeatAmong here) (sym ((is.agents_are a).seats name)) (seat a name (agents.same a (owner_of w.registry name)));
    gathers = λ number. subst (λ (o : Option OpenGather). IfSome o (λ g. ServesThese here g.gather.parent)) (sym ((is.agents_are a).gathers number)) tt;
  };
  posts = λ k. subst (λ (o : Option Sent). IfSome o (IsSentAmong here)) (sym (is.post k)) tt;
}
  where
    seat : (a : AgentId) (name : List Label) (owns : Bool) → IsSeatAmong here (if owns then with_last empty_seat (last_number name (entries rows)) else empty_seat)
    seat a name true = record { sends_on = tt; parked = All-nil (NamesThese here) }
    seat a name false = record { sends_on = tt; parked = All-nil (NamesThese here) }
