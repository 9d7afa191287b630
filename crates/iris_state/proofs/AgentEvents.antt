-- What an event at one agent leaves of a city.
use Rattle.std.proofs.Common.{◌≡◌, ℕ, List, Some, fold, sym, ap, ◌∙◌, subst}
use Rattle.std.specs.Result.{IsErrAnd}
use Rattle.std.specs.Prelude.{Result, Ok, Err, IfErr, OnErr, slice_get, slice_set, option_map, nat_lt, Bool, ◌&&◌}
use Rattle.iris_tree.specs.Universe.{Node}
use Rattle.iris_book.specs.Book.{History, with_entry}
use Rattle.iris_posts.specs.Posts.{kept_at, is_over}
use Rattle.iris_agent.specs.declared.step.Step.{Step}
use Rattle.iris_agent.specs.declared.turn.Turn.{Turn}
use Rattle.iris_agent.specs.Handled.{Handled}
use Rattle.iris_agent.specs.Tables.{Holdings, Tables, tables_of}
use Rattle.iris_outbox.specs.Outbox.{Outgoing}
use Rattle.iris_protocol.specs.Table.{AgentId}
use Rattle.iris_runs.specs.Among.{AreAmong}
use Rattle.iris_runs.specs.Answers.{AnswersRightly}
use Rattle.iris_runs.specs.Good.{Past, IsGood}
use Rattle.iris_runs.specs.Worlds.{World, stepped, with_agent, after}
use Rattle.iris_state.specs.Agents.{agent_by, is_here, place_in}
use Rattle.iris_state.specs.City.{IsSteady}
use Rattle.iris_state.specs.Whole.{Whole, sent_of, world_of}
use Rattle.iris_state.proofs.ChangedAgent.{agent_set, same_here, own_places_set}
use Rattle.iris_state.proofs.SteadyCities.{steady_of}

pub on_err : {T E P : Type 0} (r : Result T E) → P → OnErr r P
on_err (Ok x) p = tt
on_err (Err e) p = p

-- what holds of the error that was returned
pub if_err : {T E : Type 0} (r : Result T E) (P : E → Type 0) (e : E) → IsErrAnd r (λ x. x ≡ e) → P e → IfErr r P
if_err (Ok x) P e is p = tt
if_err (Err x) P e is p = subst P (sym is) p

-- an agent, the turn and the book changed, and no post did
pub acted : (old mid : Whole) (id : AgentId) (place : ℕ) (before after : Holdings)
    → place_in id old.agents ≡ Some place
    → slice_get old.agents place ≡ Some before
    → after.id ≡ before.id
    → mid.book.history.start ≡ old.book.history.start
    → mid ≡ record old { agents = slice_set old.agents place after; outbox = mid.outbox; turn = mid.turn; book = mid.book }
    → mid.outbox.posts.kept ≡ old.outbox.posts.kept
    → mid.outbox.posts.made ≡ old.outbox.posts.made
    → world_of mid ≡ record (with_agent (world_of old) id (tables_of after)) { turn = mid.turn; history = mid.book.history }
unfolding world_of
acted old mid id place before after is there same start rest kept made =
    ap world_of rest
    ∙ (λ i. record (world_of old) {
      agent = (ap (λ (document : Node). agent_by document (slice_set old.agents place after)) start ∙ agent_set old.book.history.start old.agents place before after id is there same) i;
      post = λ k. option_map sent_of (option_map (λ p. p.post) (kept_at (kept i) k));
      seen = λ k. nat_lt k (made i) && is_over (kept_at (kept i) k);
      posts = made i;
      turn = mid.turn;
      history = mid.book.history;
    })

-- an agent changed, and nothing else did but the room in the book
pub agent_changed : (old mid : Whole) (id : AgentId) (place : ℕ) (before after : Holdings)
    → place_in id old.agents ≡ Some place
    → slice_get old.agents place ≡ Some before
    → after.id ≡ before.id
    → mid.turn ≡ old.turn
    → mid.book.history ≡ old.book.history
    → mid ≡ record old { agents = slice_set old.agents place after; turn = mid.turn; book = mid.book }
    → world_of mid ≡ with_agent (world_of old) id (tables_of after)
unfolding world_of
agent_changed old mid id place before after is there same turn history rest =
    acted old mid id place before after is there same (ap (λ (b : History). b.start) history)
    (rest ∙ ap (λ (o : Outgoing). record old { agents = slice_set old.agents place after; outbox = o; turn = mid.turn; book = mid.book }) (sym (ap (λ (o : Whole). o.outbox) rest)))
    (ap (λ (o : Whole). o.outbox.posts.kept) rest) (ap (λ (o : Whole). o.outbox.posts.made) rest)
    ∙ (λ i. record (with_agent (world_of old) id (tables_of after)) { turn = turn i; history = history i })

-- nothing changed but the room in the book
pub unacted : (old new : Whole) → new ≡ record old { agents = new.agents; turn = new.turn; book = new.book } → new.agents ≡ old.agents → new.turn ≡ old.turn → new.book.history ≡ old.book.history → world_of new ≡ world_of old
unfolding world_of
unacted old new rest agents turn history =
    ap world_of rest ∙ (λ i. record (world_of old) { agent = agent_by (history i).start (agents i); turn = turn i; history = history i })

-- and then the steps of the event were made
pub followed : (w mid new : World) (id : AgentId) (t : Tables) (turn : Turn) (history : History) (made : List Step) (h : Handled)
    → mid ≡ record (with_agent w id t) { turn = turn; history = history }
    → t ≡ h.tables
    → turn ≡ h.turn
    → history ≡ fold with_entry w.history h.entries
    → made ≡ h.steps
    → new ≡ fold stepped mid made
    → new ≡ after w id h
followed w mid new id t turn history made h is tables turns entered steps folded =
    folded
    ∙ ap (λ (v : World). fold stepped v made) is
    ∙ (λ i. fold stepped (record (with_agent w id (tables i)) { turn = turns i; history = entered i }) (steps i))

-- a city is steady again once one of its agents changed, where what it is then is good
pub steady_acted : (old new : Whole) (w : World) (past : Past) (place : ℕ) (before after : Holdings)
    → slice_get old.agents place ≡ Some before
    → after.id ≡ before.id
    → world_of new ≡ w
    → new.agents ≡ slice_set old.agents place after
    → IsGood w past
    → AnswersRightly w
    → AreAmong (is_here old.agents) w
    → IsSteady old
    → IsSteady new
steady_acted old new w past place before after there same city agents good answers among steady =
    steady_of new w (slice_set old.agents place after) past city agents good answers
    (subst (λ (here : AgentId → Bool). AreAmong here w) (sym (same_here old.agents place before after there same)) among)
    (own_places_set old.agents place before after there same steady.ids)

-- there are the same agents
pub here_acted : (old now : Whole) (agents : List Holdings) (place : ℕ) (before after : Holdings) → old ≡ now → slice_get old.agents place ≡ Some before → after.id ≡ before.id → agents ≡ slice_set old.agents place after → is_here agents ≡ is_here now.agents
here_acted old now agents place before after same there id set = ap is_here set ∙ same_here old.agents place before after there id ∙ ap (λ (o : Whole). is_here o.agents) same
