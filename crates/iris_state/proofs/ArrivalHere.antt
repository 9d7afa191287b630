-- A kept post whose message is not over arrives at its addressee, which is of the city.
use Rattle.std.proofs.Common.{◌≡◌, ℕ, ◌<◌, ◌≤◌, Bool, false, List, Option, Some, None, All, get_or, length, sym, ap, ◌∙◌, subst}
use Rattle.std.specs.Prelude.{IfSome, option_map, slice_get}
use Rattle.iris_book.specs.Book.{Recorded, updates_in}
use Rattle.iris_posts.specs.declared.post.Post.{Post}
use Rattle.iris_posts.specs.Posts.{Queue, post_at}
use Rattle.iris_migrate.specs.declared.key.Key.TheVariants as keys
use Rattle.iris_migrate.specs.Messages.{key_of}
use Rattle.iris_agent.specs.declared.step.Step.{Step}
use Rattle.iris_agent.specs.declared.turn.Turn.{Turn}
use Rattle.iris_agent.specs.Events.{AreFree, IsBookOf, HasArrived, MayArrive}
use Rattle.iris_agent.specs.Outside.{Seen}
use Rattle.iris_agent.specs.Tables.{Holdings, tables_of}
use Rattle.iris_outbox.specs.Outbox.{answers_in}
use Rattle.iris_runs.specs.Among.{IsSentAmong}
use Rattle.iris_runs.specs.Worlds.{Sent}
use Rattle.iris_runs.proofs.KnownCities.{posted_below}
use Rattle.iris_state.specs.Agents.{is_here, place_in}
use Rattle.iris_state.specs.City.{IsSteady}
use Rattle.iris_state.specs.Events.{IsJudged}
use Rattle.iris_state.specs.Whole.{IsOf, Whole, sent_of, world_of}
use Rattle.iris_state.proofs.AgentTables.{found_agent}
use Rattle.iris_state.proofs.ArrivalSteps.{no_answers, of_requests}
use Rattle.iris_state.proofs.DecidedAt.{agent_there}
use Rattle.iris_state.proofs.Judging.{unserved_by}
use Rattle.iris_state.proofs.MayHere.{book_here, free_here, may_arrive_here, times_here}
use Rattle.iris_state.proofs.QuietEvents.{here_none}

-- ---- the post

pub sent_there : (old : Whole) (k : ℕ) (q : Queue) (o : Option Post) (post : Post) → q ≡ old.outbox.posts → o ≡ post_at q k → o ≡ Some post → (world_of old).post k ≡ Some (sent_of post)
unfolding world_of
sent_there old k q o post posts looked is = ap (λ (one : Option Post). option_map sent_of one) (sym (looked ∙ ap (λ (x : Queue). post_at x k) posts) ∙ is)

pub judged_there : (old : Whole) (k : ℕ) (sent : Sent) (over : Bool) → (world_of old).post k ≡ Some sent → IfSome ((world_of old).post k) (λ sent. IsJudged (world_of old) sent.message over) → IsJudged (world_of old) sent.message over
judged_there old k sent over there judged = subst (λ (o : Option Sent). IfSome o (λ sent. IsJudged (world_of old) sent.message over)) there judged

-- its addressee is of the city
pub addressee_here : (old : Whole) (k : ℕ) (sent : Sent) → (world_of old).post k ≡ Some sent → place_in sent.to old.agents ≡ None → IsSteady old → ⊥
addressee_here old k sent there none steady =
    let among : IsSentAmong (is_here old.agents) sent = subst (λ (o : Option Sent). IfSome o (IsSentAmong (is_here old.agents))) there (steady.among.posts k) in
    let nobody = here_none old.agents sent.to none in
    let here = among.addressee in
    absurd (cc)

-- ---- the agent

-- All that is known as the message is handed to the agent at that place.
pub record Arrives (old : Whole) (k place : ℕ) (before : Holdings) (sent : Sent) : Type 0 where
  pub place_is : place_in sent.to old.agents ≡ Some place
  pub there : slice_get old.agents place ≡ Some before
  pub post : (world_of old).post k ≡ Some sent
  pub judged : IsJudged (world_of old) sent.message false
  pub steady : IsSteady old

pub arrives_there : (old now : Whole) (k at : ℕ) (slice : List Holdings) (before : Holdings) (q : Queue) (o : Option Post) (post : Post) (over : Bool)
    → old ≡ now
    → slice ≡ old.agents
    → Some at ≡ place_in post.to slice
    → at < length slice
    → before ≡ get_or old.agents at before
    → q ≡ old.outbox.posts
    → o ≡ post_at q k
    → o ≡ Some post
    → over ≡ false
    → IfSome ((world_of now).post k) (λ sent. IsJudged (world_of now) sent.message over)
    → IsSteady now
    → Arrives old k at before (sent_of post)
arrives_there old now k at slice before q o post over same agents place within is posts looked found not_over judged steady =
    let agent = found_agent old.agents slice post.to at before agents place within is in
    let there = sent_there old k q o post posts looked found in
    let judged_old = subst (λ (c : Whole). IfSome ((world_of c).post k) (λ sent. IsJudged (world_of c) sent.message over)) (sym same) judged in
    record {
      place_is = agent.0;
      there = agent.1;
      post = there;
      judged = subst (λ (b : Bool). IsJudged (world_of old) post.message b) not_over (judged_there old k (sent_of post) over there judged_old);
      steady = subst IsSteady (sym same) steady;
    }

-- ---- what its call asks for

pub free_there : (old : Whole) (k place : ℕ) (before : Holdings) (sent : Sent) → Arrives old k place before sent → AreFree before old.turn.next_gather
unfolding world_of
free_there old k place before sent a = free_here (world_of old) a.steady.past sent.to before a.steady.good (agent_there old sent.to place before a.place_is a.there)

pub may_arrive_there : (old : Whole) (k place : ℕ) (before : Holdings) (sent : Sent) → Arrives old k place before sent → MayArrive before sent.message
may_arrive_there old k place before sent a =
    may_arrive_here (world_of old) a.steady.past k sent.to sent.message before a.steady.good (agent_there old sent.to place before a.place_is a.there) a.post
    (unserved_by old sent.message a.judged.serving sent.to place before a.place_is a.there (sym a.judged.judged) a.judged.tells)

pub book_there : (old : Whole) (k place : ℕ) (before : Holdings) (sent : Sent) (book : Recorded) → book.history ≡ old.book.history → Arrives old k place before sent → IsBookOf before book
unfolding world_of
book_there old k place before sent book same a = book_here (world_of old) a.steady.past sent.to before book a.steady.good (agent_there old sent.to place before a.place_is a.there) same

pub times_there : (old : Whole) (k place : ℕ) (before : Holdings) (sent : Sent) (book : Recorded) → book.history ≡ old.book.history → Arrives old k place before sent → All (λ u. u.1.at ≤ old.turn.now) (updates_in book.history.entries)
unfolding world_of
times_there old k place before sent book same a = times_here (world_of old) a.steady.past book.history a.steady.good same

-- ---- its steps

pub arrived_answers : (old : Whole) (before after : Holdings) (sent : Sent) (turn : Turn) (made : List Step) (book written : Recorded) (keeper told : Seen) (has_room : List Step → Type 0)
    → HasArrived before after old.turn turn sent.message made book written keeper told has_room → answers_in made ≡ 0
arrived_answers old before after sent turn made book written keeper told has_room h =
    ap answers_in h.happened.does.steps ∙ no_answers h.happened.kept h.waiting (tables_of before) old.turn sent.message

pub arrived_requests : (old : Whole) (k place : ℕ) (before after : Holdings) (sent : Sent) (turn : Turn) (made : List Step) (book written : Recorded) (keeper told : Seen) (has_room : List Step → Type 0)
    → HasArrived before after old.turn turn sent.message made book written keeper told has_room → Arrives old k place before sent → All (IsOf old.requests.made) made
unfolding world_of
arrived_requests old k place before after sent turn made book written keeper told has_room h a =
    let below : (request : ℕ) → key_of sent.message ≡ Some (keys.Request request) → request < old.requests.made = (λ request is. posted_below (world_of old) a.steady.past.accepted a.steady.good.known k sent request a.post is) in
    subst (All (IsOf old.requests.made)) (sym h.happened.does.steps) (of_requests old.requests.made h.happened.kept h.waiting (tables_of before) old.turn sent.message below)
