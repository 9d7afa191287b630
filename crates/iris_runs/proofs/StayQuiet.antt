-- A good city stays good as time passes, as an arrival ends for want of memory, as a copy is evicted, as a gather is lent or is not any more, and as what was delivered is forgotten.
use Rattle.std.proofs.Common.{◌≡◌, ℕ, ◌≤◌, Bool, true, false, if◌then◌else◌, nat_eq, List, Option, Some, None, refl, sym, ap, ◌∙◌, subst, arith}
use Rattle.std.specs.Prelude.{IfSome, option_map}
use Rattle.std.proofs.lemmas.Bool.{eqb-true}
use Rattle.iris_base.specs.declared.name.Label.{Label}
use Rattle.iris_book.specs.Book.{History}
use Rattle.iris_book.specs.Entering.{without_answers}
use Rattle.iris_cache.specs.Recency.{Cache, is_complete, evicted_from, TookFirst}
use Rattle.iris_migrate.specs.declared.key.Key.TheVariants as keys
use Rattle.iris_migrate.specs.declared.message.Handover.{Handover as Handed}
use Rattle.iris_migrate.specs.Titles.{is_parked}
use Rattle.iris_gather.specs.declared.entries.OpenGather.{OpenGather}
use Rattle.iris_gather.specs.OpenGathers.{is_due, awaits, serves_ask, with_lent}
use Rattle.iris_agent.specs.Events.{offered}
use Rattle.iris_agent.specs.Handled.{only_change}
use Rattle.iris_agent.specs.Handovers.{own_in}
use Rattle.iris_agent.specs.Tables.{Tables, with_cache, with_gather}
use Rattle.iris_copies.specs.Copies.{IsNewest}
use Rattle.iris_copies.proofs.Times.{same_updates, present_later, present_forgotten, newest_forgotten}
use Rattle.iris_protocol.specs.Program.{Known, ProgramAllows}
use Rattle.iris_protocol.specs.Table.{AgentId, agents}
use Rattle.iris_protocol.specs.World as model
use Rattle.iris_protocol.proofs.Programs.{set_self}
use Rattle.iris_runs.specs.Good.{Past, moment_of, KnowsItsAsks, IsPostAt, IsGood}
use Rattle.iris_runs.specs.Happenings.{interrupted, lent_there, evicted_at, advanced, forgotten}
use Rattle.iris_runs.specs.Letters.{agent_of}
use Rattle.iris_runs.specs.Moments.{Wanted, IsAgentAt, BringsNewest}
use Rattle.iris_runs.specs.Worlds.{Sent, World, with_agent, program_of}
use Rattle.iris_runs.proofs.BookTies.{newest_first}
use Rattle.iris_runs.proofs.InterruptedRight.{agent_interrupted}
use Rattle.iris_runs.proofs.Knowing.{advanced_known, interrupted_known, lent_known, back_known, forgotten_known}
use Rattle.iris_runs.proofs.KnownSeats.{awaits_pending}
use Rattle.iris_runs.proofs.StayAsked.{asks_cached, asks_lent, asks_forgotten}
use Rattle.iris_runs.proofs.StayGood.{IsRight, right_of, good_of, some_weaker, post_later, begun_right}
use Rattle.iris_runs.proofs.StayRight.{later_time, later_forgotten, agent_time, agent_evicted, agent_lent, agent_knows, agent_forgotten}

-- ---- time

pub advanced_good : (w : World) (past : Past) (moment : ℕ) → w.turn.now ≤ moment → IsGood w past → IsGood (advanced w moment) past
advanced_good w past moment le good = record {
  known = advanced_known w past.accepted moment good.known;
  entered = good.entered;
  present = present_later w.history w.turn.now moment le good.present;
  labels = good.labels;
  ids = good.ids;
  agents = λ a. agent_time (moment_of w past.wanted) moment (w.agent a) le (good.agents a);
  asks = good.asks;
  registered = good.registered;
  posts = λ k. some_weaker (IsPostAt w past.wanted) (IsPostAt (advanced w moment) past.wanted) (w.post k)
      (λ sent there is. post_later w (advanced w moment) past.wanted past.wanted sent (later_time (moment_of w past.wanted) moment le) (λ handed e told newest. newest) is) (good.posts k);
}

-- ---- one agent's tables

-- an agent has other tables, and nothing else changes
quiet_right : (w : World) (wanted : ℕ → Wanted) (a : AgentId) (t : Tables) → t.id ≡ (w.agent a).id → ((name : List Label) → ((w.agent a).seat name).taken ≤ (t.seat name).taken) → IsAgentAt (moment_of w wanted) t → KnowsItsAsks t
    → IsRight w wanted → IsRight (with_agent w a t) wanted
quiet_right w wanted a t id taken is asks right = begun_right w wanted wanted a (only_change t w.turn) (record {
  later = later_time (moment_of w wanted) w.turn.now (omega arith);
  present = right.present;
  id_is = id;
  here = is;
  elsewhere = λ b apart. right.agents_are b;
  asks = asks;
  taken = taken;
  newest = λ k sent handed there e told free h. h;
}) right

-- an agent has another cache, with which it is right
cached_good : (w : World) (past : Past) (a : AgentId) (cache : Cache) → IsAgentAt (moment_of w past.wanted) (with_cache (w.agent a) cache) → IsGood w past → IsGood (interrupted w a cache) past
cached_good w past a cache is good = good_of (interrupted w a cache) past (interrupted_known w past.accepted a cache good.known) good.entered
    (quiet_right w past.wanted a (with_cache (w.agent a) cache) refl (λ other. omega arith) is (asks_cached (w.agent a) cache (good.asks a)) (right_of w past good))

pub interrupted_good : (w : World) (past : Past) (k : ℕ) (sent : Sent) (cache : Cache)
    → w.post k ≡ Some sent
    → TookFirst (w.agent sent.to).cache (offered sent.message) cache
    → IsGood w past
    → IsGood (interrupted w sent.to cache) past
interrupted_good w past k sent cache there took good =
    let post : IsPostAt w past.wanted sent = subst (λ (o : Option Sent). IfSome o (IsPostAt w past.wanted)) there (good.posts k) in
    cached_good w past sent.to cache (agent_interrupted (moment_of w past.wanted) (w.agent sent.to) sent.message cache post.message took (good.agents sent.to)) good

pub evicted_good : (w : World) (past : Past) (a : AgentId) (name : List Label)
    → is_complete (w.agent a).cache.contents name ≡ true
    → IsGood w past
    → IsGood (evicted_at w a name) past
evicted_good w past a name complete good = cached_good w past a (evicted_from (w.agent a).cache name) (agent_evicted (moment_of w past.wanted) (w.agent a) name complete (good.agents a)) good

-- ---- what is lent

lent_right : (w : World) (past : Past) (a : AgentId) (number : ℕ) (lent : Bool) → IsGood w past → IsRight (lent_there w a number lent) past.wanted
lent_right w past a number lent good = quiet_right w past.wanted a (with_gather (w.agent a) number (option_map (with_lent lent) ((w.agent a).gather number))) refl (λ other. omega arith)
    (agent_lent (moment_of w past.wanted) (w.agent a) number lent (good.agents a)) (asks_lent (w.agent a) number lent (good.asks a)) (right_of w past good)

pub lent_good : (w : World) (past : Past) (a : AgentId) (number : ℕ)
    → is_due ((w.agent a).gather number) ≡ true
    → IsGood w past
    → (after : Past) × IsGood (lent_there w a number true) after
lent_good w past a number due good = (past, good_of (lent_there w a number true) past (by ((w.agent a).gather number) refl due) good.entered (lent_right w past a number true good))
  where
    by : (o : Option OpenGather) → (w.agent a).gather number ≡ o → is_due o ≡ true → Known (program_of (lent_there w a number true) past.accepted)
    by None there h = absurd (cc)
    by (Some one) there h = lent_known w past.accepted a number one good.known there h

-- a gather that is not lent, and none, is as it was
unlent_same : (w : World) (a : AgentId) (number : ℕ) → option_map (with_lent false) ((w.agent a).gather number) ≡ (w.agent a).gather number → lent_there w a number false ≡ w
unlent_same w a number same = (λ i. with_agent w a (tables i)) ∙ (λ i. record w { agent = set_self agents w.agent a i })
  where
    at : (other : ℕ) (b : Bool) → nat_eq other number ≡ b → (if b then option_map (with_lent false) ((w.agent a).gather number) else (w.agent a).gather other) ≡ (w.agent a).gather other
    at other true e = same ∙ sym (ap (w.agent a).gather (eqb-true other number e))
    at other false e = refl

    tables : with_gather (w.agent a) number (option_map (with_lent false) ((w.agent a).gather number)) ≡ w.agent a
    tables = λ i. record (w.agent a) { gather = λ other. at other (nat_eq other number) refl i }

pub back_good : (w : World) (past : Past) (a : AgentId) (number : ℕ) → IsGood w past → (after : Past) × IsGood (lent_there w a number false) after
back_good w past a number good = by ((w.agent a).gather number) refl
  where
    same : option_map (with_lent false) ((w.agent a).gather number) ≡ (w.agent a).gather number → (after : Past) × IsGood (lent_there w a number false) after
    same e = (past, subst (λ (x : World). IsGood x past) (sym (unlent_same w a number e)) good)

    lent_is : (one : OpenGather) (lent : Bool) → one.lent ≡ lent → (w.agent a).gather number ≡ Some one → (after : Past) × IsGood (lent_there w a number false) after
    lent_is one true e there = (past, good_of (lent_there w a number false) past (back_known w past.accepted a number one good.known there e) good.entered (lent_right w past a number false good))
    lent_is one false e there = same (ap (option_map (with_lent false)) there ∙ (λ i. Some (record one { lent = sym e i })) ∙ sym there)

    by : (o : Option OpenGather) → (w.agent a).gather number ≡ o → (after : Past) × IsGood (lent_there w a number false) after
    by None there = same (ap (option_map (with_lent false)) there ∙ sym there)
    by (Some one) there = lent_is one one.lent refl there

-- ---- what is forgotten

newest_without : (h : History) (handed : Handed) → BringsNewest h handed → BringsNewest (without_answers h) handed
newest_without h handed newest = some_weaker (λ own. IfSome own.full (λ full. IsNewest h own.name full.local full.version)) _ (own_in handed.pieces)
    (λ own there is. some_weaker (λ full. IsNewest h own.name full.local full.version) _ own.full (λ full has. newest_forgotten h own.name full.local full.version) is) newest

forgotten_right : (w : World) (wanted : ℕ → Wanted) (stays : AgentId → ℕ → Bool)
    → ((a : AgentId) (ask number : ℕ) → serves_ask ask ((w.agent a).gather number) ≡ true → stays a ask ≡ true)
    → ((a : AgentId) (name : List Label) (ask : ℕ) → is_parked ((w.agent a).seat name) (Some (keys.Ask ask)) ≡ true → stays a ask ≡ true)
    → IsRight w wanted
    → IsRight (forgotten w stays) wanted
forgotten_right w wanted stays serves parks right = record {
  present = present_forgotten w.history w.turn.now right.present;
  labels = right.labels;
  ids = right.ids;
  agents_are = λ a. agent_knows (record (moment_of w wanted) { history = without_answers w.history }) (w.agent a) (λ number. if stays a number then (w.agent a).asked number else false)
      (agent_forgotten (moment_of w wanted) (w.agent a) (right.agents_are a));
  asks = λ a. asks_forgotten (w.agent a) (stays a) (serves a) (parks a) (right.asks a);
  registered = right.registered;
  posts_are = λ k. by k (w.seen k);
}
  where
    stays_post : (sent : Sent) → IsPostAt w wanted sent → IsPostAt (forgotten w stays) wanted sent
    stays_post sent = post_later w (forgotten w stays) wanted wanted sent (later_forgotten (moment_of w wanted)) (λ handed e told newest free. newest_without w.history handed (newest free))

    by : (k : ℕ) (seen : Bool) → IfSome (if seen then None else w.post k) (IsPostAt (forgotten w stays) wanted)
    by k true = tt
    by k false = some_weaker (IsPostAt w wanted) (IsPostAt (forgotten w stays) wanted) (w.post k) (λ sent there is. stays_post sent is) (right.posts_are k)

-- of the asks that wait nothing is forgotten
forgets_allowed : (w : World) (accepted : List model.Entry) (stays : AgentId → ℕ → Bool)
    → ((a b : AgentId) (ask number : ℕ) → awaits ask ((w.agent b).gather number) ≡ true → stays a ask ≡ true)
    → ProgramAllows (program_of w accepted) (model.Forget stays)
unfolding program_of agent_of
forgets_allowed w accepted stays waits a ask pending = waits a pending.0 ask pending.1 (awaits_pending ask ((w.agent pending.0).gather pending.1) pending.2)

pub forgotten_good : (w : World) (past : Past) (stays : AgentId → ℕ → Bool)
    → ((a b : AgentId) (ask number : ℕ) → awaits ask ((w.agent b).gather number) ≡ true → stays a ask ≡ true)
    → ((a : AgentId) (ask number : ℕ) → serves_ask ask ((w.agent a).gather number) ≡ true → stays a ask ≡ true)
    → ((a : AgentId) (name : List Label) (ask : ℕ) → is_parked ((w.agent a).seat name) (Some (keys.Ask ask)) ≡ true → stays a ask ≡ true)
    → IsGood w past
    → (after : Past) × IsGood (forgotten w stays) after
forgotten_good w past stays waits serves parks good = (past, good_of (forgotten w stays) past (forgotten_known w past.accepted stays good.known (forgets_allowed w past.accepted stays waits)) (good.entered ∙ ap newest_first (same_updates w.history)) (forgotten_right w past.wanted stays serves parks (right_of w past good)))
