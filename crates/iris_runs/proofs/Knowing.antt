-- What is known of a city is known after each event.
use Rattle.std.proofs.Common.{◌≡◌, ℕ, Bool, true, false, List, map, Option, Some, IsSome, sym, subst}
use Rattle.std.specs.Prelude.{IfSome}
use Rattle.iris_base.specs.declared.name.Label.{Label}
use Rattle.iris_tree.specs.declared.change.Change.{Change}
use Rattle.iris_xpath.specs.Syntax.{Syntax}
use Rattle.iris_route.specs.Titles.{title_at}
use Rattle.iris_cache.specs.Recency.{Cache, evicted_from}
use Rattle.iris_gather.specs.declared.basis.Basis.{Basis}
use Rattle.iris_gather.specs.declared.entries.OpenGather.{OpenGather}
use Rattle.iris_gather.specs.OpenGathers.{is_due, is_ready}
use Rattle.iris_gather.specs.Verdicts.{asks_of}
use Rattle.iris_protocol.specs.Table.{AgentId, agents}
use Rattle.iris_protocol.specs.World as model
use Rattle.iris_protocol.specs.Program.{Program, program_happens, TellsEvent, Known, ProgramAllows}
use Rattle.iris_protocol.proofs.ProgramEvents.{known_keeps}
use Rattle.iris_runs.specs.Alike.{AsksForSome, MayBeHandled, HaveOwnIds, arrival_at}
use Rattle.iris_runs.specs.Letters.{need_of}
use Rattle.iris_runs.specs.Worlds.{World, owner_of, program_of}
use Rattle.iris_runs.specs.Happenings.{query_posted, update_posted, delivered, decided, lent_there, given, forgotten, interrupted, evicted_at, advanced}
use Rattle.iris_runs.proofs.WorldTies.{query_is, update_is, arrival_is, decision_is, commit_is, lent_is, back_is, given_is, forgotten_is, interrupted_is, advanced_is}

-- what an event of the protocol leaves is known
event_known : (t after : Program) (serving : Bool) (event : model.Event) → Known t → ProgramAllows t event → TellsEvent t serving event → after ≡ program_happens t serving event → Known after
event_known t after serving event known allows tells is = subst Known (sym is) (known_keeps t serving event allows tells known)

pub query_known : (w : World) (accepted : List model.Entry) (asked : Syntax) (name : List Label) (floor : ℕ)
    → Known (program_of w accepted)
    → Known (program_of (query_posted w asked name floor) accepted)
query_known w accepted asked name floor known = event_known _ _ false (model.Query name) known tt tt (query_is w accepted asked name floor)

pub update_known : (w : World) (accepted : List model.Entry) (name : List Label) (number : ℕ) (changes : List Change)
    → Known (program_of w accepted)
    → Known (program_of (update_posted w name number changes) accepted)
update_known w accepted name number changes known = event_known _ _ false (model.Update name number) known tt tt (update_is w accepted name number changes)

pub arrival_known : (w : World) (accepted : List model.Entry) (serving kept : Bool) (waiting : Option ℕ) (k : ℕ)
    → Known (program_of w accepted)
    → TellsEvent (program_of w accepted) serving (arrival_at w kept k)
    → HaveOwnIds w
    → IfSome (w.post k) (λ sent. MayBeHandled (w.agent sent.to) waiting sent.message)
    → Known (program_of (delivered w serving kept waiting k (w.post k)) (program_happens (program_of w accepted) serving (arrival_at w kept k)).book)
arrival_known w accepted serving kept waiting k known tells own may = event_known _ _ serving (arrival_at w kept k) known tt tells (arrival_is w accepted serving kept waiting k own may)

pub decision_known : (w : World) (accepted : List model.Entry) (a : AgentId) (number : ℕ) (one : OpenGather) (basis : Basis)
    → Known (program_of w accepted)
    → ProgramAllows (program_of w accepted) (model.Decide a number (map need_of (asks_of basis.verdict)))
    → HaveOwnIds w
    → AsksForSome basis.verdict
    → (w.agent a).gather number ≡ Some one
    → is_due (Some one) ≡ true
    → Known (program_of (decided w a number basis (Some one)) accepted)
decision_known w accepted a number one basis known allows own asks there due =
    event_known _ _ false (model.Decide a number (map need_of (asks_of basis.verdict))) known allows tt (decision_is w accepted a number one basis own asks there due)

pub commit_known : (w : World) (accepted : List model.Entry) (a : AgentId) (number : ℕ) (one : OpenGather) (basis : Basis)
    → Known (program_of w accepted)
    → ProgramAllows (program_of w accepted) (model.Commit a number (Some (map need_of (asks_of basis.verdict))))
    → HaveOwnIds w
    → AsksForSome basis.verdict
    → (w.agent a).gather number ≡ Some one
    → is_ready (Some one) ≡ true
    → one.lent ≡ true
    → Known (program_of (decided w a number basis (Some one)) accepted)
commit_known w accepted a number one basis known allows own asks there ready lent =
    event_known _ _ false (model.Commit a number (Some (map need_of (asks_of basis.verdict)))) known allows tt (commit_is w accepted a number one basis own asks there ready lent)

pub lent_known : (w : World) (accepted : List model.Entry) (a : AgentId) (number : ℕ) (one : OpenGather)
    → Known (program_of w accepted)
    → (w.agent a).gather number ≡ Some one
    → is_due (Some one) ≡ true
    → Known (program_of (lent_there w a number true) accepted)
lent_known w accepted a number one known there due = event_known _ _ false (model.Lend a number) known tt tt (lent_is w accepted a number one there due)

pub back_known : (w : World) (accepted : List model.Entry) (a : AgentId) (number : ℕ) (one : OpenGather)
    → Known (program_of w accepted)
    → (w.agent a).gather number ≡ Some one
    → one.lent ≡ true
    → Known (program_of (lent_there w a number false) accepted)
back_known w accepted a number one known there lent = event_known _ _ false (model.GiveBack a number) known tt tt (back_is w accepted a number one there lent)

pub given_known : (w : World) (accepted : List model.Entry) (name : List Label) (to : AgentId)
    → Known (program_of w accepted)
    → IsSome (title_at w.registry name)
    → agents.same to (owner_of w.registry name) ≡ false
    → IsSome ((w.agent (owner_of w.registry name)).seat name).last
    → Known (program_of (given w name to) accepted)
given_known w accepted name to known there apart owns = event_known _ _ false (model.Give name to) known tt tt (given_is w accepted name to there apart owns)

pub forgotten_known : (w : World) (accepted : List model.Entry) (stays : AgentId → ℕ → Bool)
    → Known (program_of w accepted)
    → ProgramAllows (program_of w accepted) (model.Forget stays)
    → Known (program_of (forgotten w stays) accepted)
forgotten_known w accepted stays known allows = event_known _ _ false (model.Forget stays) known allows tt (forgotten_is w accepted stays)

pub interrupted_known : (w : World) (accepted : List model.Entry) (a : AgentId) (cache : Cache)
    → Known (program_of w accepted)
    → Known (program_of (interrupted w a cache) accepted)
interrupted_known w accepted a cache known = subst Known (sym (interrupted_is w accepted a cache)) known

pub evicted_known : (w : World) (accepted : List model.Entry) (a : AgentId) (name : List Label)
    → Known (program_of w accepted)
    → Known (program_of (evicted_at w a name) accepted)
evicted_known w accepted a name = interrupted_known w accepted a (evicted_from (w.agent a).cache name)

pub advanced_known : (w : World) (accepted : List model.Entry) (moment : ℕ)
    → Known (program_of w accepted)
    → Known (program_of (advanced w moment) accepted)
advanced_known w accepted moment known = subst Known (sym (advanced_is w accepted moment)) known
