-- An arrival of a post, as it changes a city.
use Rattle.std.proofs.Common.{◌≡◌, ℕ, ◌+◌, ◌<◌, ◌≤◌, ◌^◌, true, false, Bool, List, [], ◌∷◌, Option, Some, None, fold, refl, sym, ap, ◌∙◌, subst, arith, if◌then◌else◌}
use Rattle.std.specs.Prelude.{IfSome, IsSome, option_map, slice_get, slice_set}
use Rattle.iris_json.specs.declared.out.Out.{Out}
use Rattle.iris_book.specs.Book.{History, Recorded, with_entry}
use Rattle.iris_book.specs.declared.entry.Entry.{Entry}
use Rattle.iris_fragment.specs.declared.piece.Piece.{Piece}
use Rattle.iris_cache.specs.Recency.{Cache, TookFirst}
use Rattle.iris_posts.specs.declared.post.Post.{Post}
use Rattle.iris_posts.specs.Posts.{Queue, post_at}
use Rattle.iris_migrate.specs.declared.message.Message.{Message}
use Rattle.iris_migrate.specs.declared.message.Message.TheVariants.{Query, Ask, Reply, Update, Handover}
use Rattle.iris_agent.specs.declared.step.Step.{Step}
use Rattle.iris_agent.specs.declared.turn.Turn.{Turn}
use Rattle.iris_agent.specs.Arrivals.{arrives}
use Rattle.iris_agent.specs.Events.{WaitsFor, HasArrived, IsBackBut, offered}
use Rattle.iris_agent.specs.Handled.{Handled, only_change}
use Rattle.iris_agent.specs.Outside.{Seen, KeptNothing, KeptEntries}
use Rattle.iris_agent.specs.Tables.{Holdings, Tables, tables_of, with_cache}
use Rattle.iris_outbox.specs.Lines.{lines_of, post_lines}
use Rattle.iris_outbox.specs.Outbox.{Outgoing, Readiness, posts_in, IsMadeFor, IsPrepared, IsReadyFor}
use Rattle.iris_protocol.specs.Program.{Tells}
use Rattle.iris_protocol.specs.Table.{AgentId, agents}
use Rattle.iris_protocol.specs.World as model
use Rattle.iris_runs.specs.Alike.{IsWaitedFor}
use Rattle.iris_runs.specs.Among.{AreAmong}
use Rattle.iris_runs.specs.Answers.{AnswersRightly}
use Rattle.iris_runs.specs.Good.{Past, IsGood}
use Rattle.iris_runs.specs.Happenings.{is_over, delivered, interrupted}
use Rattle.iris_runs.specs.Letters.{agent_of, letter_of}
use Rattle.iris_runs.specs.Worlds.{Sent, World, after as event_after, marked, stepped, with_agent}
use Rattle.iris_runs.proofs.AmongCities.{delivered_among, interrupted_among}
use Rattle.iris_runs.proofs.AnswersRight.{delivered_answers}
use Rattle.iris_runs.proofs.StayArrived.{arrived_good}
use Rattle.iris_runs.proofs.StayQuiet.{interrupted_good}
use Rattle.iris_state.specs.Agents.{is_here, place_in}
use Rattle.iris_state.specs.City.{IsSteady}
use Rattle.iris_state.specs.Events.{arrival_in, HasArrivedAt, IsInterrupted, IsJudged}
use Rattle.iris_state.specs.Whole.{Whole, sent_of, world_of}
use Rattle.iris_state.proofs.AgentEvents.{acted, agent_changed, followed, steady_acted, unacted}
use Rattle.iris_state.proofs.ArrivalSteps.{keeps_id, has_entered, room_either}
use Rattle.iris_state.proofs.DecidedAt.{agent_there}
use Rattle.iris_state.proofs.SteadyCities.{steady_of}

-- ---- the message

-- the gather that waits for a reply
waits_there : (h : Holdings) (message : Message) (waiting : Option ℕ) → WaitsFor h message waiting → (ask : ℕ) → letter_of message ≡ model.reply ask → IsWaitedFor (tables_of h).gather ask waiting
unfolding tables_of
waits_there h (Query request asked name epoch floor) waiting waits ask is = absurd (cc)
waits_there h (Ask number from asked start epoch floor) waiting waits ask is = absurd (cc)
waits_there h (Update request name epoch number changes) waiting waits ask is = absurd (cc)
waits_there h (Handover handed) waiting waits ask is = absurd (cc)
waits_there h (Reply number pieces) None waits ask is = let same : number ≡ ask = cc in subst (λ (n : ℕ). IsWaitedFor (tables_of h).gather n None) same waits
waits_there h (Reply number pieces) (Some waiting) waits ask is = let same : number ≡ ask = cc in subst (λ (n : ℕ). IsWaitedFor (tables_of h).gather n (Some waiting)) same waits

-- where a message is over, no reply is waited for
over_waits : (w : World) (serving : Bool) (message : Message) (gather : ℕ) (ask : ℕ) → is_over w serving message ≡ true → letter_of message ≡ model.reply ask → ⊥
over_waits w serving (Query request asked name epoch floor) gather ask over is = absurd (cc)
over_waits w serving (Ask number from asked start epoch floor) gather ask over is = absurd (cc)
over_waits w serving (Update request name epoch number changes) gather ask over is = absurd (cc)
over_waits w serving (Handover handed) gather ask over is = absurd (cc)
over_waits w serving (Reply number pieces) gather ask over is = absurd (cc)

-- ---- room

-- room stays as a post is marked
pub marked_ready : (before after : Outgoing) (ss : List Step) → after ≡ record before { posts = after.posts } → after.posts.made ≡ before.posts.made → after.posts.spare ≡ before.posts.spare → IsReadyFor before ss → IsReadyFor after ss
marked_ready before after ss rest made spare ready = subst (λ (o : Outgoing). IsReadyFor o ss) (sym rest) (record {
  has_room = record {
    spare = subst (λ (n : ℕ). posts_in ss ≤ n) (sym spare) ready.has_room.spare;
    numbers = subst (λ (n : ℕ). n + posts_in ss < 2 ^ 64) (sym made) ready.has_room.numbers;
    weights = ready.has_room.weights;
    cites = ready.has_room.cites;
    room = ready.has_room.room;
  };
  lines = ready.lines ∙ ap (λ (n : ℕ). post_lines n ss) (sym made);
})

-- what was made ready is for the steps that were made
pub arrived_ready : (before after : Holdings) (old : Whole) (turn : Turn) (message : Message) (made : List Step) (book written : Recorded) (keeper told : Seen) (posts later : Queue) (r : Readiness)
    → HasArrived before after old.turn turn message made book written keeper told (IsPrepared posts later r)
    → IsMadeFor posts r made
arrived_ready before after old turn message made book written keeper told posts later r h =
    let prepared = h.happened.room in
    let ready = subst (λ (q : Queue). IsMadeFor q r (arrives true h.waiting (tables_of before) old.turn message).steps) prepared.same prepared.made_for in
    subst (IsMadeFor posts r) (sym h.happened.does.steps) (room_either posts r h.happened.kept h.waiting (tables_of before) old.turn message ready)

-- ---- the event

-- entries leave the start of a book
start_stays : (h : History) (es : List Entry) → (fold with_entry h es).start ≡ h.start
start_stays h [] = refl
start_stays h (e ∷ es) = start_stays (with_entry h e) es

pub kept_id : (before after : Holdings) (old : Whole) (turn : Turn) (message : Message) (made : List Step) (book written : Recorded) (keeper told : Seen) (has_room : List Step → Type 0)
    → HasArrived before after old.turn turn message made book written keeper told has_room → after.id ≡ before.id
unfolding tables_of
kept_id before after old turn message made book written keeper told has_room h =
    ap (λ (t : Tables). t.id) h.happened.does.tables ∙ keeps_id h.happened.kept h.waiting (tables_of before) old.turn message

-- what an agent did, the city did; the post was marked after it
pub arrived_at : (old mid sent_out new : Whole) (k place : ℕ) (before after : Holdings) (sent : Sent) (serving : Bool) (made : List Step) (lines : List Out) (book : Recorded) (keeper told : Seen) (has_room : List Step → Type 0)
    → place_in sent.to old.agents ≡ Some place
    → slice_get old.agents place ≡ Some before
    → (world_of old).post k ≡ Some sent
    → is_over (world_of old) serving sent.message ≡ false
    → Tells (λ a. agent_of ((world_of old).agent a)) serving (letter_of sent.message)
    → HasArrived before after old.turn mid.turn sent.message made book mid.book keeper told has_room
    → book.history ≡ old.book.history
    → mid ≡ record old { agents = slice_set old.agents place after; outbox = mid.outbox; turn = mid.turn; book = mid.book }
    → mid.outbox.posts.kept ≡ old.outbox.posts.kept
    → mid.outbox.posts.made ≡ old.outbox.posts.made
    → world_of sent_out ≡ marked (world_of mid) k
    → sent_out.outbox.posts.made ≡ mid.outbox.posts.made
    → sent_out.book ≡ mid.book
    → world_of new ≡ fold stepped (world_of sent_out) made
    → lines ≡ lines_of sent_out.outbox.posts.made sent_out.book.history made
    → HasArrivedAt (world_of old) k (world_of new) lines keeper told
unfolding world_of tables_of
arrived_at old mid sent_out new k place before after sent serving made lines book keeper told has_room is there post over tells h history rest kept posts mark numbers same_book folded lines_are =
    let w = world_of old in
    let agent : w.agent sent.to ≡ tables_of before = agent_there old sent.to place before is there in
    let does : Tables → Handled = (λ (t : Tables). arrives h.happened.kept h.waiting t old.turn sent.message) in
    let same : does (tables_of before) ≡ does (w.agent sent.to) = ap does (sym agent) in
    let written : mid.book.history ≡ fold with_entry w.history (does (w.agent sent.to)).entries =
    has_entered book mid.book h.happened.kept h.waiting (tables_of before) old.turn sent.message h.happened.entered
    ∙ ap (λ (b : History). fold with_entry b (does (tables_of before)).entries) history
    ∙ ap (λ (x : Handled). fold with_entry w.history x.entries) same in
    let start : mid.book.history.start ≡ old.book.history.start = ap (λ (b : History). b.start) written ∙ start_stays w.history (does (w.agent sent.to)).entries in
    let going : arrival_in w serving h.happened.kept h.waiting sent ≡ does (w.agent sent.to) =
    ap (λ (b : Bool). if b then only_change (w.agent sent.to) w.turn else does (w.agent sent.to)) over in
    record {
      sent = sent;
      there = post;
      serving = serving;
      tells = tells;
      waiting = h.waiting;
      waits = λ ask reply. subst (λ (t : Tables). IsWaitedFor t.gather ask h.waiting) (sym agent) (waits_there before sent.message h.waiting h.waits ask reply);
      kept = h.happened.kept;
      city = followed (marked w k) (world_of sent_out) (world_of new) sent.to (tables_of after) mid.turn mid.book.history made (does (w.agent sent.to))
          (mark ∙ ap (λ (v : World). marked v k) (acted old mid sent.to place before after is there (kept_id before after old mid.turn sent.message made book mid.book keeper told has_room h) start rest kept posts))
          (h.happened.does.tables ∙ ap (λ (x : Handled). x.tables) same)
          (h.happened.does.turn ∙ ap (λ (x : Handled). x.turn) same)
          written
          (h.happened.does.steps ∙ ap (λ (x : Handled). x.steps) same)
          folded
          ∙ ap (λ (b : Bool). if b then marked w k else event_after (marked w k) sent.to (does (w.agent sent.to))) (sym over);
      lines_are = lines_are
          ∙ ap (λ (n : ℕ). lines_of n sent_out.book.history made) (numbers ∙ posts)
          ∙ ap (λ (b : Recorded). lines_of old.outbox.posts.made b.history made) same_book
          ∙ ap (λ (b : History). lines_of old.outbox.posts.made b made) written
          ∙ ap (lines_of old.outbox.posts.made (fold with_entry w.history (does (w.agent sent.to)).entries)) (h.happened.does.steps ∙ ap (λ (x : Handled). x.steps) same)
          ∙ ap (λ (x : Handled). lines_of old.outbox.posts.made (fold with_entry w.history x.entries) x.steps) (sym going);
      rows = subst (λ (x : Handled). KeptEntries keeper told x.entries) (same ∙ sym going) h.happened.rows;
      cause = h.happened.cause;
    }

kept_nothing : (keeper : Seen) → KeptNothing keeper keeper
kept_nothing keeper = record { rows = λ rows h. h; gives = λ rows h. h }

-- a message that is over changes nothing, but that its post is marked
pub over_at : (old new : Whole) (k : ℕ) (sent : Sent) (serving : Bool) (lines : List Out) (keeper : Seen)
    → (world_of old).post k ≡ Some sent
    → is_over (world_of old) serving sent.message ≡ true
    → Tells (λ a. agent_of ((world_of old).agent a)) serving (letter_of sent.message)
    → world_of new ≡ marked (world_of old) k
    → lines ≡ []
    → HasArrivedAt (world_of old) k (world_of new) lines keeper keeper
over_at old new k sent serving lines keeper there over tells mark none =
    let w = world_of old in
    let nothing : arrival_in w serving true None sent ≡ only_change (w.agent sent.to) w.turn =
    ap (λ (b : Bool). if b then only_change (w.agent sent.to) w.turn else arrives true None (w.agent sent.to) w.turn sent.message) over in
    record {
      sent = sent;
      there = there;
      serving = serving;
      tells = tells;
      waiting = None;
      waits = λ ask reply. absurd (over_waits w serving sent.message 0 ask over reply);
      kept = true;
      city = mark ∙ ap (λ (b : Bool). if b then marked w k else event_after (marked w k) sent.to (arrives true None (w.agent sent.to) w.turn sent.message)) (sym over);
      lines_are = none ∙ ap (λ (x : Handled). lines_of w.posts (fold with_entry w.history x.entries) x.steps) (sym nothing);
      rows = subst (λ (x : Handled). KeptEntries keeper keeper x.entries) (sym nothing) (kept_nothing keeper);
      cause = tt;
    }

-- the same of the post of that number, as its message was judged
pub over_there : (old now new : Whole) (k : ℕ) (over : Bool) (lines : List Out) (keeper : Seen)
    → old ≡ now
    → world_of new ≡ marked (world_of old) k
    → IsSome (post_at now.outbox.posts k)
    → over ≡ true
    → IfSome ((world_of now).post k) (λ sent. IsJudged (world_of now) sent.message over)
    → lines ≡ []
    → HasArrivedAt (world_of now) k (world_of new) lines keeper keeper
unfolding world_of
over_there old now new k over lines keeper same mark kept over_is judged none = by (post_at now.outbox.posts k) refl kept
  where
    by : (o : Option Post) → post_at now.outbox.posts k ≡ o → IsSome o → HasArrivedAt (world_of now) k (world_of new) lines keeper keeper
    by None is there = absurd (cc)
    by (Some post) is there =
        let at : (world_of now).post k ≡ Some (sent_of post) = ap (λ (one : Option Post). option_map sent_of one) is in
        let told = subst (λ (o : Option Sent). IfSome o (λ sent. IsJudged (world_of now) sent.message over)) at judged in
        over_at now new k (sent_of post) told.serving lines keeper at (sym told.judged ∙ over_is) told.tells (mark ∙ ap (λ (c : Whole). marked (world_of c) k) same) none

-- of two cities that are equal the same is told
pub arrived_same : (old now : Whole) (k : ℕ) (new : World) (lines : List Out) (keeper told : Seen) → old ≡ now → HasArrivedAt (world_of old) k new lines keeper told → HasArrivedAt (world_of now) k new lines keeper told
arrived_same old now k new lines keeper told same h = subst (λ (c : Whole). HasArrivedAt (world_of c) k new lines keeper told) same h

pub interrupted_same : (old now : Whole) (k : ℕ) (new : World) → old ≡ now → IsInterrupted (world_of old) k new → IsInterrupted (world_of now) k new
interrupted_same old now k new same h = subst (λ (c : Whole). IsInterrupted (world_of c) k new) same h

-- ---- steady cities

-- a city is steady after an arrival
pub good_arrived : (w new : World) (k : ℕ) (lines : List Out) (keeper told : Seen) (here : AgentId → Bool) (past : Past)
    → HasArrivedAt w k new lines keeper told → IsGood w past → AnswersRightly w → AreAmong here w
    → (later : Past) × (IsGood new later × (AnswersRightly new × AreAmong here new))
good_arrived w new k lines keeper told here past h good answers among =
    let at : w.post k ≡ Some h.sent = h.there in
    let city : new ≡ delivered w h.serving h.kept h.waiting k (w.post k) = h.city ∙ ap (delivered w h.serving h.kept h.waiting k) (sym at) in
    let later = arrived_good w past h.serving h.kept h.waiting k
    (subst (λ (o : Option Sent). IfSome o (λ sent. Tells (λ a. agent_of (w.agent a)) h.serving (letter_of sent.message))) (sym at) h.tells)
    (subst (λ (o : Option Sent). IfSome o (λ sent. (ask : ℕ) → letter_of sent.message ≡ model.reply ask → IsWaitedFor (w.agent sent.to).gather ask h.waiting)) (sym at) h.waits)
    good in (
      later.0,
      (
        subst (λ (v : World). IsGood v later.0) (sym city) later.1,
        (
          subst AnswersRightly (sym city) (delivered_answers w past h.serving h.kept h.waiting k good answers),
          subst (AreAmong here) (sym city) (delivered_among here w h.serving h.kept h.waiting k good.ids among),
        ),
      ),
    )

pub steady_arrived : (old new : Whole) (k place : ℕ) (before after : Holdings) (lines : List Out) (keeper told : Seen)
    → slice_get old.agents place ≡ Some before
    → after.id ≡ before.id
    → new.agents ≡ slice_set old.agents place after
    → HasArrivedAt (world_of old) k (world_of new) lines keeper told
    → IsSteady old
    → IsSteady new
steady_arrived old new k place before after lines keeper told there same agents h steady =
    let good = good_arrived (world_of old) (world_of new) k lines keeper told (is_here old.agents) steady.past h steady.good steady.answers steady.among in
    steady_acted old new (world_of new) good.0 place before after there same refl agents good.1.0 good.1.1.0 good.1.1.1 steady

pub steady_over : (old new : Whole) (k : ℕ) (lines : List Out) (keeper told : Seen) → new.agents ≡ old.agents → HasArrivedAt (world_of old) k (world_of new) lines keeper told → IsSteady old → IsSteady new
steady_over old new k lines keeper told agents h steady =
    let good = good_arrived (world_of old) (world_of new) k lines keeper told (is_here old.agents) steady.past h steady.good steady.answers steady.among in
    steady_of new (world_of new) old.agents good.0 refl agents good.1.0 good.1.1.0 good.1.1.1 steady.ids

-- ---- where there was no memory

-- what an agent took in, the city has
pub interrupted_at : (old mid : Whole) (k place : ℕ) (before after : Holdings) (sent : Sent)
    → place_in sent.to old.agents ≡ Some place
    → slice_get old.agents place ≡ Some before
    → (world_of old).post k ≡ Some sent
    → IsBackBut before after (offered sent.message)
    → mid.turn ≡ old.turn
    → mid.book.history ≡ old.book.history
    → mid ≡ record old { agents = slice_set old.agents place after; turn = mid.turn; book = mid.book }
    → IsInterrupted (world_of old) k (world_of mid)
unfolding world_of tables_of
interrupted_at old mid k place before after sent is there post back turn history rest =
    let w = world_of old in
    let agent : w.agent sent.to ≡ tables_of before = agent_there old sent.to place before is there in
    record {
      sent = sent;
      there = post;
      cache = after.cache;
      took = subst (λ (t : Tables). TookFirst t.cache (offered sent.message) after.cache) (sym agent) back.cache;
      city = agent_changed old mid sent.to place before after is there (ap (λ (t : Tables). t.id) back.rest) turn history rest
          ∙ ap (with_agent w sent.to) (back.rest ∙ ap (λ (t : Tables). with_cache t after.cache) (sym agent));
    }

-- the agent keeps its id
pub back_id : (before after : Holdings) (message : Message) → IsBackBut before after (offered message) → after.id ≡ before.id
unfolding tables_of
back_id before after message back = ap (λ (t : Tables). t.id) back.rest

-- where the agent was not called, nothing happened
pub untouched_at : (old mid : Whole) (k : ℕ) (sent : Sent) → (world_of old).post k ≡ Some sent → mid ≡ record old { book = mid.book } → mid.book.history ≡ old.book.history → IsInterrupted (world_of old) k (world_of mid)
unfolding world_of
untouched_at old mid k sent post rest history =
    let w = world_of old in
    record {
      sent = sent;
      there = post;
      cache = (w.agent sent.to).cache;
      took = took_none (w.agent sent.to).cache (offered sent.message);
      city = unacted old mid (rest ∙ same_rest) (ap (λ (o : Whole). o.agents) rest) (ap (λ (o : Whole). o.turn) rest) history ∙ same_agent w sent.to;
    }
  where
    same_rest : record old { book = mid.book } ≡ record old { agents = mid.agents; turn = mid.turn; book = mid.book }
    same_rest = λ i. record old { agents = sym (ap (λ (o : Whole). o.agents) rest) i; turn = sym (ap (λ (o : Whole). o.turn) rest) i; book = mid.book }

    took_none : (cache : Cache) (pieces : List Piece) → TookFirst cache pieces cache
    took_none cache pieces = record { count = 0; within = omega arith; after = refl }

    same_at : (w : World) (a j : AgentId) (b : Bool) → agents.same j a ≡ b → w.agent j ≡ (if b then w.agent a else w.agent j)
    same_at w a j true same = ap w.agent ((agents.decides j a).0 same)
    same_at w a j false same = refl

    same_agent : (w : World) (a : AgentId) → w ≡ with_agent w a (w.agent a)
    same_agent w a = λ i. record w { agent = λ j. same_at w a j (agents.same j a) refl i }

pub steady_interrupted : (old new : Whole) (k place : ℕ) (before after : Holdings)
    → slice_get old.agents place ≡ Some before
    → after.id ≡ before.id
    → new.agents ≡ slice_set old.agents place after
    → IsInterrupted (world_of old) k (world_of new)
    → IsSteady old
    → IsSteady new
steady_interrupted old new k place before after there same agents h steady =
    let w = world_of old in
    steady_acted old new (interrupted w h.sent.to h.cache) steady.past place before after there same h.city agents (interrupted_good w steady.past k h.sent h.cache h.there h.took steady.good)
    steady.answers (interrupted_among (is_here old.agents) w h.sent.to h.cache steady.among) steady
