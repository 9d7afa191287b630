-- What the protocol sees of a city after an event at an agent: the agent as it is then, and what its steps make of the rest.
use Rattle.std.proofs.Common.{◌≡◌, ℕ, suc, false, List, [], ◌∷◌, map, Some, refl, ◌∙◌, subst}
use Rattle.std.specs.Prelude.{fold, option_map}
use Rattle.iris_book.specs.Book.{with_entry}
use Rattle.iris_book.specs.declared.entry.Entry.{Entry}
use Rattle.iris_book.specs.declared.entry.Entry.TheVariants as entries
use Rattle.iris_migrate.specs.declared.message.Message.{Message}
use Rattle.iris_agent.specs.declared.step.Step.{Step}
use Rattle.iris_agent.specs.declared.step.Step.TheVariants as steps
use Rattle.iris_agent.specs.Handled.{Handled}
use Rattle.iris_agent.specs.Tables.{Tables}
use Rattle.iris_protocol.specs.Table.{AgentId, agents, numbers, set_at}
use Rattle.iris_protocol.specs.World as model
use Rattle.iris_protocol.specs.Agent as protocol
use Rattle.iris_protocol.specs.Program.{Program, program_step, program_steps, after_arrival, after_decision}
use Rattle.iris_protocol.proofs.Programs.{field_at}
use Rattle.iris_runs.specs.Letters.{agent_of, accepted_by, step_of, arrival_of, decision_of}
use Rattle.iris_runs.specs.Worlds.{Sent, World, posting, with_agent, stepped, after, post_of, program_of}

-- ---- small changes

-- a message is posted
pub posting_told : (w : World) (accepted : List model.Entry) (to : AgentId) (message : Message)
    → program_of (posting w to message) accepted ≡ record (program_of w accepted) { posted = model.posting (program_of w accepted).posted (post_of (record { to = to; message = message })) }
unfolding program_of
posting_told w accepted to message =
    let sent : Sent = record { to = to; message = message } in
    λ i. record (program_of w accepted) { posted = record { post = field_at numbers (option_map post_of) w.post w.posts (Some sent) (Some (post_of sent)) refl i; seen = set_at numbers w.seen w.posts false; posts = suc w.posts } }

-- an agent has other tables
pub agent_told : (w : World) (accepted : List model.Entry) (a : AgentId) (t : Tables)
    → program_of (with_agent w a t) accepted ≡ record (program_of w accepted) { agent = set_at agents (program_of w accepted).agent a (agent_of t) }
unfolding program_of
agent_told w accepted a t = λ i. record (program_of w accepted) { agent = field_at agents agent_of w.agent a t (agent_of t) refl i }

-- ---- steps

-- an update was accepted
accepted_told : (w : World) (accepted : List model.Entry) (request version : ℕ) (es : List Entry)
    → program_of (stepped w (steps.Accepted request version)) (program_step (program_of w accepted) (accepted_by request es)).book ≡ program_step (program_of w accepted) (accepted_by request es)
unfolding program_of
accepted_told w accepted request version [] = refl
accepted_told w accepted request version (entries.Updated name number changes local at ∷ es) = refl
accepted_told w accepted request version (entries.Gave name to epoch ∷ es) = refl
accepted_told w accepted request version (entries.Answered asked query floor cites ∷ es) = refl

-- one step; the node and the number of an accepted update are those that were entered
step_told : (es : List Entry) (w : World) (accepted : List model.Entry) (s : Step)
    → program_of (stepped w s) (program_step (program_of w accepted) (step_of es s)).book ≡ program_step (program_of w accepted) (step_of es s)
unfolding program_of
step_told es w accepted (steps.Post to message) = posting_told w accepted to message
step_told es w accepted (steps.Answered request query floor items cites) = refl
step_told es w accepted (steps.Accepted request version) = accepted_told w accepted request version es
step_told es w accepted (steps.Refused request refusal) = refl

steps_told : (es : List Entry) (w : World) (accepted : List model.Entry) (ss : List Step)
    → program_of (fold stepped w ss) (program_steps (program_of w accepted) (map (step_of es) ss)).book ≡ program_steps (program_of w accepted) (map (step_of es) ss)
unfolding program_of
steps_told es w accepted [] = refl
steps_told es w accepted (s ∷ ss) =
    let told : Program = program_step (program_of w accepted) (step_of es s) in
    subst (λ (t : Program). program_of (fold stepped (stepped w s) ss) (program_steps t (map (step_of es) ss)).book ≡ program_steps t (map (step_of es) ss))
    (step_told es w accepted s) (steps_told es (stepped w s) told.book ss)

-- ---- an event at an agent

-- the agent and the numbers that are free, as the protocol sees them
abbrev pub begun : Program → AgentId → Handled → Program
begun t a h = record t { agent = set_at agents t.agent a (agent_of h.tables); next_gather = h.turn.next_gather; next_ask = h.turn.next_ask }

pub after_told : (w : World) (accepted : List model.Entry) (a : AgentId) (h : Handled) (begins : Program) → begun (program_of w accepted) a h ≡ begins
    → program_of (after w a h) (program_steps begins (map (step_of h.entries) h.steps)).book ≡ program_steps begins (map (step_of h.entries) h.steps)
unfolding program_of
after_told w accepted a h begins is =
    let start : World = record (with_agent w a h.tables) { turn = h.turn; history = fold with_entry w.history h.entries } in
    let seen : program_of start accepted ≡ begun (program_of w accepted) a h =
    λ i. record (program_of w accepted) { agent = field_at agents agent_of w.agent a h.tables (agent_of h.tables) refl i; next_gather = h.turn.next_gather; next_ask = h.turn.next_ask } in
    subst (λ (t : Program). program_of (after w a h) (program_steps t (map (step_of h.entries) h.steps)).book ≡ program_steps t (map (step_of h.entries) h.steps))
    (seen ∙ is) (steps_told h.entries start accepted h.steps)

-- an arrival takes no numbers of asks
pub arrival_told : (w : World) (accepted : List model.Entry) (a : AgentId) (h : Handled) (told : protocol.Handled) → h.turn.next_ask ≡ w.turn.next_ask → arrival_of h ≡ told
    → program_of (after w a h) (after_arrival (program_of w accepted) a told).book ≡ after_arrival (program_of w accepted) a told
unfolding program_of
arrival_told w accepted a h told asks is =
    subst (λ (x : protocol.Handled). program_of (after w a h) (after_arrival (program_of w accepted) a x).book ≡ after_arrival (program_of w accepted) a x) is
    (after_told w accepted a h (record (program_of w accepted) { agent = set_at agents (program_of w accepted).agent a (agent_of h.tables); next_gather = h.turn.next_gather })
    (λ i. record (program_of w accepted) { agent = set_at agents (program_of w accepted).agent a (agent_of h.tables); next_gather = h.turn.next_gather; next_ask = asks i }))

-- a decision takes no numbers of gathers
pub decision_told : (w : World) (accepted : List model.Entry) (a : AgentId) (h : Handled) (told : protocol.Handled) → h.turn.next_gather ≡ w.turn.next_gather → decision_of h ≡ told
    → program_of (after w a h) (after_decision (program_of w accepted) a told).book ≡ after_decision (program_of w accepted) a told
unfolding program_of
decision_told w accepted a h told gathers is =
    subst (λ (x : protocol.Handled). program_of (after w a h) (after_decision (program_of w accepted) a x).book ≡ after_decision (program_of w accepted) a x) is
    (after_told w accepted a h (record (program_of w accepted) { agent = set_at agents (program_of w accepted).agent a (agent_of h.tables); next_ask = h.turn.next_ask })
    (λ i. record (program_of w accepted) { agent = set_at agents (program_of w accepted).agent a (agent_of h.tables); next_gather = gathers i; next_ask = h.turn.next_ask }))
