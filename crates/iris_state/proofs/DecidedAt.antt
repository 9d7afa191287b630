-- A decision of a gather, as it changes a city.
use Rattle.std.proofs.Common.{◌≡◌, ℕ, ◌<◌, ◌≤◌, suc, true, false, Bool, List, [], ◌∷◌, Option, Some, None, All, map, fold, refl, sym, ap, ◌∙◌, subst, arith}
use Rattle.std.proofs.lemmas.List.Elements.{All-nil, All-cons}
use Rattle.std.specs.Prelude.{slice_get, slice_set, option_map, not, ◌&&◌, ◌||◌, if◌then◌else◌}
use Rattle.iris_base.specs.declared.cite.Cite.{Cite}
use Rattle.iris_tree.specs.declared.item.Item.{Item}
use Rattle.iris_json.specs.declared.out.Out.{Out}
use Rattle.iris_need.specs.declared.need.Need.{Need}
use Rattle.iris_route.specs.Titles.{Titles}
use Rattle.iris_book.specs.Book.{History, with_entry}
use Rattle.iris_gather.specs.declared.entries.OpenGather.{OpenGather}
use Rattle.iris_gather.specs.declared.parent.Parent.{Parent}
use Rattle.iris_gather.specs.declared.parent.Parent.TheVariants as parents
use Rattle.iris_gather.specs.declared.verdict.Verdict.{Verdict}
use Rattle.iris_gather.specs.declared.verdict.Verdict.TheVariants.{Done, Asks}
use Rattle.iris_gather.specs.Gathers.{Gathering, settled}
use Rattle.iris_gather.specs.Laid.{laid}
use Rattle.iris_gather.specs.OpenGathers.{gather_at, is_due, is_ready, is_lent}
use Rattle.iris_agent.specs.declared.step.Step.{Step}
use Rattle.iris_agent.specs.declared.turn.Turn.{Turn}
use Rattle.iris_agent.specs.Decisions.{IsBasis, HasDecided, judged, ending, ask_posted}
use Rattle.iris_agent.specs.Handled.{Handled}
use Rattle.iris_agent.specs.Tables.{Holdings, Tables, tables_of}
use Rattle.iris_outbox.specs.Lines.{lines_of}
use Rattle.iris_outbox.specs.Outbox.{answers_in}
use Rattle.iris_protocol.specs.Table.{AgentId}
use Rattle.iris_runs.specs.Happenings.{decided}
use Rattle.iris_runs.specs.Worlds.{stepped}
use Rattle.iris_runs.proofs.AmongCities.{decided_among}
use Rattle.iris_runs.proofs.AnswersRight.{decided_answers}
use Rattle.iris_runs.proofs.KnownCities.{client_open}
use Rattle.iris_runs.proofs.StayDecided.{decided_good}
use Rattle.iris_state.specs.Agents.{has_id, is_here, place_in}
use Rattle.iris_state.specs.City.{IsSteady}
use Rattle.iris_state.specs.Events.{HasDecidedAt}
use Rattle.iris_state.specs.Whole.{Whole, IsOf, world_of}
use Rattle.iris_state.proofs.AgentEvents.{acted, followed, steady_acted}
use Rattle.iris_state.proofs.AgentTables.{at_place, at_none}

-- ---- the steps

-- nothing is entered but by the steps
judged_enters : (registry : Titles) (t : Tables) (turn : Turn) (number : ℕ) (g : Gathering) (cites : List Cite) (verdict : Verdict) → (judged registry t turn number g cites verdict).entries ≡ []
judged_enters registry t turn number g cites (Done support items) = refl
judged_enters registry t turn number g cites (Asks support missing) = refl

judged_id : (registry : Titles) (t : Tables) (turn : Turn) (number : ℕ) (g : Gathering) (cites : List Cite) (verdict : Verdict) → (judged registry t turn number g cites verdict).tables.id ≡ t.id
judged_id registry t turn number g cites (Done support items) = refl
judged_id registry t turn number g cites (Asks support missing) = refl

asks_answer_none : (registry : Titles) (id : List ℕ) (g : Gathering) (asks : List (ℕ × Need)) → answers_in (map (ask_posted registry id g) asks) ≡ 0
asks_answer_none registry id g [] = refl
asks_answer_none registry id g (ask ∷ asks) = asks_answer_none registry id g asks

ending_answers : (g : Gathering) (items : List Item) (cites : List Cite) (parent : Parent) → answers_in (ending g items cites parent ∷ []) ≤ 1
ending_answers g items cites (parents.Client request) = omega arith
ending_answers g items cites (parents.Ask ask agent) = omega arith

-- there is at most one answer among the steps
judged_answers : (registry : Titles) (t : Tables) (turn : Turn) (number : ℕ) (g : Gathering) (cites : List Cite) (verdict : Verdict) → answers_in (judged registry t turn number g cites verdict).steps ≤ 1
judged_answers registry t turn number g cites (Done support items) = ending_answers g items cites g.parent
judged_answers registry t turn number g cites (Asks support missing) = let none = asks_answer_none registry t.id g g.pending in omega (arith, none)

asks_of_none : (made : ℕ) (registry : Titles) (id : List ℕ) (g : Gathering) (asks : List (ℕ × Need)) → All (IsOf made) (map (ask_posted registry id g) asks)
asks_of_none made registry id g [] = All-nil (IsOf made)
asks_of_none made registry id g (ask ∷ asks) = All-cons (IsOf made) (ask_posted registry id g ask) (map (ask_posted registry id g) asks) tt (asks_of_none made registry id g asks)

ending_of : (made : ℕ) (g : Gathering) (items : List Item) (cites : List Cite) (parent : Parent) → ((request : ℕ) → parent ≡ parents.Client request → request < made) → IsOf made (ending g items cites parent)
ending_of made g items cites (parents.Client request) below = below request refl
ending_of made g items cites (parents.Ask ask agent) below = tt

judged_of : (made : ℕ) (registry : Titles) (t : Tables) (turn : Turn) (number : ℕ) (g : Gathering) (cites : List Cite) (verdict : Verdict) → ((request : ℕ) → g.parent ≡ parents.Client request → request < made)
    → All (IsOf made) (judged registry t turn number g cites verdict).steps
judged_of made registry t turn number g cites (Done support items) below =
    All-cons (IsOf made) (ending g items cites g.parent) [] (ending_of made g items cites g.parent below) (All-nil (IsOf made))
judged_of made registry t turn number g cites (Asks support missing) below = asks_of_none made registry t.id g g.pending

-- ---- the event

-- a gather that is due is that of an agent of the city
pub due_here : (old : Whole) (id : AgentId) (number : ℕ) → place_in id old.agents ≡ None → is_due (((world_of old).agent id).gather number) ≡ false
unfolding world_of
due_here old id number none = ap (λ (t : Tables). is_due (t.gather number)) (at_none old.book.history.start old.agents id none)

-- the agent at its place
pub agent_there : (old : Whole) (id : AgentId) (place : ℕ) (before : Holdings) → place_in id old.agents ≡ Some place → slice_get old.agents place ≡ Some before → (world_of old).agent id ≡ tables_of before
unfolding world_of
agent_there old id place before is there = at_place old.book.history.start old.agents id place before is there

pub due_there : (old : Whole) (id : AgentId) (place number : ℕ) (before : Holdings) → place_in id old.agents ≡ Some place → slice_get old.agents place ≡ Some before
    → is_due (((world_of old).agent id).gather number) ≡ true → is_due (gather_at before.gathers number) ≡ true
unfolding world_of tables_of
due_there old id place number before is there due = ap (λ (t : Tables). is_due (t.gather number)) (sym (at_place old.book.history.start old.agents id place before is there)) ∙ due

-- an agent keeps its id
pub kept_id : (registry : Titles) (before after : Holdings) (turn later : Turn) (number : ℕ) (steps : List Step) → HasDecided registry before after turn later number steps → after.id ≡ before.id
unfolding tables_of
kept_id registry before after turn later number steps h =
    ap (λ (t : Tables). t.id) h.does.tables ∙ judged_id registry (tables_of before) turn number (settled h.one.gather h.basis.verdict h.basis.pieces turn.next_ask) h.basis.cites h.basis.verdict

-- what an agent decided, the city did
pub decided_at : (old mid new : Whole) (id : AgentId) (place number : ℕ) (before after : Holdings) (made : List Step) (lines : List Out)
    → place_in id old.agents ≡ Some place
    → slice_get old.agents place ≡ Some before
    → HasDecided old.registry before after old.turn mid.turn number made
    → mid.book.history ≡ old.book.history
    → mid ≡ record old { agents = slice_set old.agents place after; outbox = mid.outbox; turn = mid.turn; book = mid.book }
    → mid.outbox.posts.kept ≡ old.outbox.posts.kept
    → mid.outbox.posts.made ≡ old.outbox.posts.made
    → world_of new ≡ fold stepped (world_of mid) made
    → lines ≡ lines_of mid.outbox.posts.made mid.book.history made
    → HasDecidedAt (world_of old) id number (world_of new) lines
unfolding world_of tables_of
decided_at old mid new id place number before after made lines is there h history rest kept posts folded told =
    let w = world_of old in
    let agent : w.agent id ≡ tables_of before = at_place old.book.history.start old.agents id place before is there in
    let does : Tables → Handled = (λ (t : Tables). judged old.registry t old.turn number (settled h.one.gather h.basis.verdict h.basis.pieces old.turn.next_ask) h.basis.cites h.basis.verdict) in
    let same : does (tables_of before) ≡ does (w.agent id) = ap does (sym agent) in
    record {
      one = h.one;
      there = ap (λ (t : Tables). t.gather number) agent ∙ h.there;
      basis = h.basis;
      rests = subst (λ (t : Tables). IsBasis h.one.gather.query h.one.gather.start (laid t.cache.contents h.one.gather.floor old.turn.now h.one.gather.view) h.basis) (sym agent) h.decided;
      city = followed w (world_of mid) (world_of new) id (tables_of after) mid.turn mid.book.history made (does (w.agent id))
          (acted old mid id place before after is there (kept_id old.registry before after old.turn mid.turn number made h) (ap (λ (b : History). b.start) history) rest kept posts)
          (h.does.tables ∙ ap (λ (x : Handled). x.tables) same)
          (h.does.turn ∙ ap (λ (x : Handled). x.turn) same)
          (history ∙ sym (ap (fold with_entry w.history) (judged_enters old.registry (w.agent id) old.turn number (settled h.one.gather h.basis.verdict h.basis.pieces old.turn.next_ask) h.basis.cites h.basis.verdict)))
          (h.does.steps ∙ ap (λ (x : Handled). x.steps) same)
          folded;
      lines_are = told ∙ ap (λ (n : ℕ). lines_of n mid.book.history made) posts ∙ ap (λ (b : History). lines_of old.outbox.posts.made b made) history
          ∙ ap (lines_of old.outbox.posts.made old.book.history) (h.does.steps ∙ ap (λ (x : Handled). x.steps) same);
    }

-- the answers among its steps are at most one, and for requests that were made
pub decided_room : (old : Whole) (id : AgentId) (place number : ℕ) (before after : Holdings) (turn : Turn) (made : List Step)
    → place_in id old.agents ≡ Some place
    → slice_get old.agents place ≡ Some before
    → HasDecided old.registry before after old.turn turn number made
    → IsSteady old
    → (answers_in made ≤ 1) × All (IsOf old.requests.made) made
unfolding world_of tables_of
decided_room old id place number before after turn made is there h steady =
    let w = world_of old in
    let agent : w.agent id ≡ tables_of before = at_place old.book.history.start old.agents id place before is there in
    let g = settled h.one.gather h.basis.verdict h.basis.pieces old.turn.next_ask in
    let below : (request : ℕ) → g.parent ≡ parents.Client request → request < old.requests.made =
    (λ request client. (client_open w steady.past.accepted steady.good.known id number h.one request (ap (λ (t : Tables). t.gather number) agent ∙ h.there) client).0) in (
      subst (λ ss. answers_in ss ≤ 1) (sym h.does.steps) (judged_answers old.registry (tables_of before) old.turn number g h.basis.cites h.basis.verdict),
      subst (All (IsOf old.requests.made)) (sym h.does.steps) (judged_of old.requests.made old.registry (tables_of before) old.turn number g h.basis.cites h.basis.verdict below),
    )

-- an agent of the city is here
pub here_at : (hs : List Holdings) (id : AgentId) (place : ℕ) → place_in id hs ≡ Some place → is_here hs id ≡ true
here_at [] id place is = absurd (cc)
here_at (x ∷ hs) id place is = either (λ m at. here_at hs id m at) (has_id id x) is
  where
    later : ((m : ℕ) → place_in id hs ≡ Some m → is_here hs id ≡ true) → (o : Option ℕ) → place_in id hs ≡ o → option_map suc o ≡ Some place → is_here hs id ≡ true
    later go None at is = absurd (cc)
    later go (Some n) at is = go n at

    either : ((m : ℕ) → place_in id hs ≡ Some m → is_here hs id ≡ true) → (b : Bool) → (if b then Some 0 else option_map suc (place_in id hs)) ≡ Some place → (b || is_here hs id) ≡ true
    either go true is = refl
    either go false is = later go (place_in id hs) refl is

-- what is due waits for nothing
pub ready_of_due : (o : Option OpenGather) → is_due o ≡ true → is_ready o ≡ true
ready_of_due o due = either (is_ready o) due
  where
    either : (b : Bool) → (b && not (is_lent o)) ≡ true → b ≡ true
    either true h = refl
    either false h = absurd (cc)

-- and it is steady then
pub steady_decided : (old new : Whole) (id : AgentId) (place number : ℕ) (before after : Holdings) (made : List Step) (turn : Turn) (lines : List Out)
    → place_in id old.agents ≡ Some place
    → slice_get old.agents place ≡ Some before
    → HasDecided old.registry before after old.turn turn number made
    → is_ready (((world_of old).agent id).gather number) ≡ true
    → new.agents ≡ slice_set old.agents place after
    → HasDecidedAt (world_of old) id number (world_of new) lines
    → IsSteady old
    → IsSteady new
steady_decided old new id place number before after made turn lines is there h waits_not agents did steady =
    let w = world_of old in
    let ready : is_ready (Some did.one) ≡ true = sym (ap is_ready did.there) ∙ waits_not in
    let good = decided_good w steady.past id number did.one did.basis did.there ready did.rests steady.good in
    steady_acted old new (decided w id number did.basis (Some did.one)) good.0 place before after there (kept_id old.registry before after old.turn turn number made h) did.city agents good.1
    (decided_answers w steady.past id number did.one did.basis did.there did.rests steady.good steady.answers)
    (decided_among (is_here old.agents) w steady.past id number did.one did.basis (here_at old.agents id place is) did.there did.rests steady.good steady.among)
    steady
