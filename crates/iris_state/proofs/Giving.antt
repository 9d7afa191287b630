-- A move, as it changes a city.
use Rattle.std.proofs.Common.{◌≡◌, ℕ, suc, ◌<◌, true, false, List, [], Option, Some, None, All, fold, get_or, length, refl, sym, ap, ◌∙◌, subst, arith}
use Rattle.std.proofs.lemmas.List.Elements.{All-nil, All-cons}
use Rattle.std.proofs.lemmas.Option.{slice_get_read}
use Rattle.std.specs.Option.{IsSomeAnd}
use Rattle.std.specs.Prelude.{IsSome, is_some, slice_get, slice_set, unwrap_or}
use Rattle.iris_base.specs.declared.name.Label.{Label}
use Rattle.iris_tree.specs.Universe.{node_at}
use Rattle.iris_fragment.specs.declared.status.Status.TheVariants.{Owned}
use Rattle.iris_fragment.specs.Contents.{status}
use Rattle.iris_json.specs.declared.out.Out.{Out}
use Rattle.iris_route.specs.Titles.{Title, Titles, IsNewer, title_at, with_title}
use Rattle.iris_book.specs.Book.{History, Recorded, with_entry}
use Rattle.iris_migrate.specs.Titles.{seat_at}
use Rattle.iris_agent.specs.declared.give.Move.{Move}
use Rattle.iris_agent.specs.declared.step.Step.{Step}
use Rattle.iris_agent.specs.declared.turn.Turn.{Turn}
use Rattle.iris_agent.specs.Gives.{gives}
use Rattle.iris_agent.specs.Handled.{Does, Handled}
use Rattle.iris_agent.specs.Outside.{Seen, KeptEntries, Entered}
use Rattle.iris_agent.specs.Tables.{Holdings, Tables, tables_of}
use Rattle.iris_posts.specs.Posts.{Queue}
use Rattle.iris_outbox.specs.Lines.{lines_of}
use Rattle.iris_outbox.specs.Outbox.{Readiness, answers_in, IsMadeFor, IsPrepared}
use Rattle.iris_protocol.specs.Table.{AgentId, agents}
use Rattle.iris_runs.specs.Happenings.{given, move_of}
use Rattle.iris_runs.specs.Worlds.{World, epoch_of, owner_of, stepped, title_of}
use Rattle.iris_runs.proofs.Acting.{owner_owns}
use Rattle.iris_runs.proofs.AmongCities.{given_among}
use Rattle.iris_runs.proofs.AnswersRight.{given_answers}
use Rattle.iris_runs.proofs.StayGiven.{given_good}
use Rattle.iris_state.specs.Agents.{is_here, place_in}
use Rattle.iris_state.specs.City.{IsSteady}
use Rattle.iris_state.specs.Events.{HasGiven, giving}
use Rattle.iris_state.specs.Whole.{IsOf, Whole, world_of}
use Rattle.iris_state.proofs.AgentEvents.{acted, followed, steady_acted}
use Rattle.iris_state.proofs.DecidedAt.{agent_there}
use Rattle.iris_state.proofs.QuietEvents.{here_none}

-- ---- the owner

-- the title that was looked up
owner_is : (old : Whole) (name : List Label) (o : Option Title) (title : Title) → o ≡ title_at old.registry name → o ≡ Some title → title ≡ title_of old.registry name
owner_is old name o title looked is = ap (λ (one : Option Title). unwrap_or one ([], 0)) (sym is ∙ looked)

pub owner_place : (old : Whole) (name : List Label) (o : Option Title) (title : Title) (slice : List Holdings) (place : Option ℕ)
    → o ≡ title_at old.registry name
    → o ≡ Some title
    → slice ≡ old.agents
    → place ≡ place_in title.0 slice
    → place_in (owner_of old.registry name) old.agents ≡ place
owner_place old name o title slice place looked is agents found =
    ap (λ (t : Title). place_in t.0 old.agents) (sym (owner_is old name o title looked is)) ∙ ap (place_in title.0) (sym agents) ∙ sym found

-- the owner is of the city
pub owner_here : (old : Whole) (name : List Label) → place_in (owner_of old.registry name) old.agents ≡ None → IsSome (title_at old.registry name) → IsSteady old → ⊥
unfolding world_of
owner_here old name none title steady =
    let nobody = here_none old.agents (owner_of old.registry name) none in
    let here = steady.among.owners name title in
    absurd (cc)

-- its next move
pub next_move_is : (old now : Whole) (name copy : List Label) (to : AgentId) (o : Option Title) (title : Title) (epoch : ℕ)
    → old ≡ now
    → o ≡ title_at old.registry name
    → o ≡ Some title
    → copy ≡ name
    → epoch ≡ suc title.1
    → record { name = copy; to = to; epoch = epoch } ≡ move_of (world_of now) name to
unfolding world_of
next_move_is old now name copy to o title epoch same looked is copied next =
    let number : epoch ≡ suc (epoch_of now.registry name) = next ∙ ap (λ (t : Title). suc t.1) (owner_is old name o title looked is) ∙ ap (λ (c : Whole). suc (epoch_of c.registry name)) same in
    (λ i. record { name = copied i; to = to; epoch = number i })

-- the next move of a node has a greater number
next_newer : (registry : Titles) (name : List Label) (epoch : ℕ) → IsSome (title_at registry name) → epoch ≡ suc (epoch_of registry name) → IsNewer registry name epoch
next_newer registry name epoch title is = by (title_at registry name) title is
  where
    by : (o : Option Title) → IsSome o → epoch ≡ suc (unwrap_or o ([], 0)).1 → IsSomeAnd o (λ t. t.1 < epoch)
    by None there next = absurd (cc)
    by (Some t) there next = omega (arith, next)

-- ---- the node

-- a node with a title is there
pub node_there : (old : Whole) (name : List Label) → IsSome (title_at old.registry name) → IsSteady old → IsSome (node_at old.book.history.start name)
unfolding world_of
node_there old name title steady = sym (steady.good.registered name) ∙ title

-- its owner has its number and its value
pub seat_there : (old : Whole) (id : AgentId) (place : ℕ) (name : List Label) (before : Holdings) → place_in id old.agents ≡ Some place → slice_get old.agents place ≡ Some before
    → IsSome (((world_of old).agent id).seat name).last → IsSome (seat_at before.titles name).last
unfolding tables_of
seat_there old id place name before is there owned = ap (λ (t : Tables). is_some (t.seat name).last) (sym (agent_there old id place before is there)) ∙ owned

pub status_there : (old : Whole) (id : AgentId) (place : ℕ) (name : List Label) (before : Holdings) → place_in id old.agents ≡ Some place → slice_get old.agents place ≡ Some before
    → IsSome (title_at old.registry name)
    → IsSome (((world_of old).agent id).seat name).last → IsSteady old → status before.cache.contents name ≡ Some Owned
unfolding world_of tables_of
status_there old id place name before is there title owned steady =
    ap (λ (t : Tables). status t.cache.contents name) (sym (agent_there old id place before is there))
    ∙ owner_owns (world_of old) steady.past steady.good id name (node_there old name title steady) owned

-- All that is known as the owner of a node, at that place, gives it away.
pub record Gives (old : Whole) (name : List Label) (to : AgentId) (place : ℕ) (before : Holdings) (moved : Move) : Type 0 where
  pub place_is : place_in (owner_of old.registry name) old.agents ≡ Some place
  pub there : slice_get old.agents place ≡ Some before
  pub move : moved ≡ move_of (world_of old) name to
  pub title : IsSome (title_at old.registry name)
  pub owned : IsSome (((world_of old).agent (owner_of old.registry name)).seat name).last
  pub here : is_here old.agents to ≡ true
  pub apart : agents.same to (owner_of old.registry name) ≡ false
  pub steady : IsSteady old

pub gives_there : (old now : Whole) (name : List Label) (to : AgentId) (place : ℕ) (before : Holdings) (moved : Move)
    → old ≡ now
    → place_in (owner_of now.registry name) now.agents ≡ Some place
    → place < length now.agents
    → before ≡ get_or old.agents place before
    → moved ≡ move_of (world_of now) name to
    → IsSome (title_at now.registry name)
    → IsSome (((world_of now).agent (owner_of now.registry name)).seat name).last
    → is_here now.agents to ≡ true
    → agents.same to (owner_of now.registry name) ≡ false
    → IsSteady now
    → Gives old name to place before moved
gives_there old now name to place before moved same place_is within is move title owned here apart steady =
    subst (λ (o : Whole). Gives o name to place before moved) (sym same) (record {
      place_is = place_is;
      there = slice_get_read now.agents (length now.agents) place before refl within (is ∙ ap (λ (o : Whole). get_or o.agents place before) same);
      move = move;
      title = title;
      owned = owned;
      here = here;
      apart = apart;
      steady = steady;
    })

pub title_given : (old : Whole) (name : List Label) (to : AgentId) (place : ℕ) (before : Holdings) (moved : Move) → Gives old name to place before moved → IsSome (seat_at before.titles moved.name).last
title_given old name to place before moved g =
    subst (λ (n : List Label). IsSome (seat_at before.titles n).last) (sym (ap (λ (m : Move). m.name) g.move)) (seat_there old (owner_of old.registry name) place name before g.place_is g.there g.owned)

pub status_given : (old : Whole) (name : List Label) (to : AgentId) (place : ℕ) (before : Holdings) (moved : Move) → Gives old name to place before moved → status before.cache.contents moved.name ≡ Some Owned
status_given old name to place before moved g =
    ap (status before.cache.contents) (ap (λ (m : Move). m.name) g.move) ∙ status_there old (owner_of old.registry name) place name before g.place_is g.there g.title g.owned g.steady

pub newer_given : (old : Whole) (name : List Label) (to : AgentId) (place : ℕ) (before : Holdings) (moved : Move) → Gives old name to place before moved → IsNewer old.registry name moved.epoch
unfolding world_of
newer_given old name to place before moved g = next_newer old.registry name moved.epoch g.title (ap (λ (m : Move). m.epoch) g.move)

-- the registry names the new owner
pub registry_given : (old : Whole) (registry : Titles) (name : List Label) (to : AgentId) (place : ℕ) (before : Holdings) (moved : Move) → Gives old name to place before moved
    → registry ≡ with_title old.registry name (to, moved.epoch) → registry ≡ with_title old.registry name (to, suc (epoch_of old.registry name))
unfolding world_of
registry_given old registry name to place before moved g is = is ∙ ap (λ (m : Move). with_title old.registry name (to, m.epoch)) g.move

-- ---- the step

-- there is room for the handover, and it is no outcome
pub given_ready : (posts later : Queue) (r : Readiness) (made : List Step) → IsPrepared posts later r made → IsMadeFor posts r made
given_ready posts later r made prepared = subst (λ (q : Queue). IsMadeFor q r made) prepared.same prepared.made_for

pub given_answers_none : (before after : Holdings) (turn : Turn) (made : List Step) (moved : Move) → Does after turn made (gives (tables_of before) turn moved) → answers_in made ≡ 0
given_answers_none before after turn made moved h = ap answers_in h.steps

pub given_requests : (requests : ℕ) (before after : Holdings) (turn : Turn) (made : List Step) (moved : Move) → Does after turn made (gives (tables_of before) turn moved) → All (IsOf requests) made
given_requests requests before after turn made moved h = subst (All (IsOf requests)) (sym h.steps) (All-cons (IsOf requests) _ [] tt (All-nil (IsOf requests)))

-- ---- the event

-- the giver keeps its id
pub gave_id : (before after : Holdings) (turn : Turn) (steps : List Step) (moved : Move) → Does after turn steps (gives (tables_of before) turn moved) → after.id ≡ before.id
unfolding tables_of
gave_id before after turn steps moved h = ap (λ (t : Tables). t.id) h.tables

-- what the owner did, the city did
pub given_at : (old mid new : Whole) (place : ℕ) (name : List Label) (to : AgentId) (moved : Move) (before after : Holdings) (made : List Step) (lines : List Out) (book : Recorded) (keeper told : Seen)
    → place_in (owner_of old.registry name) old.agents ≡ Some place
    → slice_get old.agents place ≡ Some before
    → moved ≡ move_of (world_of old) name to
    → Does after old.turn made (gives (tables_of before) old.turn moved)
    → Entered book mid.book (gives (tables_of before) old.turn moved).entries
    → KeptEntries keeper told (gives (tables_of before) old.turn moved).entries
    → book.history ≡ old.book.history
    → mid.registry ≡ with_title old.registry name (to, suc (epoch_of old.registry name))
    → mid.turn ≡ old.turn
    → mid ≡ record old { registry = mid.registry; agents = slice_set old.agents place after; outbox = mid.outbox; turn = mid.turn; book = mid.book }
    → mid.outbox.posts.kept ≡ old.outbox.posts.kept
    → mid.outbox.posts.made ≡ old.outbox.posts.made
    → world_of new ≡ fold stepped (world_of mid) made
    → lines ≡ lines_of mid.outbox.posts.made mid.book.history made
    → HasGiven (world_of old) name to (world_of new) lines keeper told
unfolding world_of tables_of
given_at old mid new place name to moved before after made lines book keeper told is there move h entered kept history registry turn rest posts made_same folded lines_are =
    let w = world_of old in
    let owner = owner_of old.registry name in
    let titles = with_title old.registry name (to, suc (epoch_of old.registry name)) in
    let titled : Whole = record old { registry = titles } in
    let agent : w.agent owner ≡ tables_of before = agent_there old owner place before is there in
    let does : Tables → Move → Handled = (λ (t : Tables) (m : Move). gives t old.turn m) in
    let same : does (tables_of before) moved ≡ giving w name to = (λ i. does (sym agent i) (move i)) in
    let written : mid.book.history ≡ fold with_entry w.history (giving w name to).entries = entered ∙ (λ i. fold with_entry (history i) (same i).entries) in
    record {
      city = followed (world_of titled) (world_of mid) (world_of new) owner (tables_of after) mid.turn mid.book.history made (giving w name to)
          (acted titled mid owner place before after is there (gave_id before after old.turn made moved h) (ap (λ (b : History). b.start) written)
          (rest ∙ ap (λ (r : Titles). record old { registry = r; agents = slice_set old.agents place after; outbox = mid.outbox; turn = mid.turn; book = mid.book }) registry)
          posts made_same)
          (h.tables ∙ ap (λ (x : Handled). x.tables) same)
          (turn ∙ ap (λ (x : Handled). x.turn) same)
          written
          (h.steps ∙ ap (λ (x : Handled). x.steps) same)
          folded;
      lines_are = lines_are ∙ (λ i. lines_of (made_same i) mid.book.history ((h.steps ∙ ap (λ (x : Handled). x.steps) same) i));
      row = subst (λ (x : Handled). KeptEntries keeper told x.entries) same kept;
    }

-- of two cities that are equal the same is told
pub given_same : (old now : Whole) (name : List Label) (to : AgentId) (new : World) (lines : List Out) (keeper told : Seen) → old ≡ now → HasGiven (world_of old) name to new lines keeper told → HasGiven (world_of now) name to new lines keeper told
given_same old now name to new lines keeper told same h = subst (λ (c : Whole). HasGiven (world_of c) name to new lines keeper told) same h

-- and it is steady then
pub steady_given : (old new : Whole) (place : ℕ) (name : List Label) (to : AgentId) (before after : Holdings) (lines : List Out) (keeper told : Seen)
    → slice_get old.agents place ≡ Some before
    → after.id ≡ before.id
    → new.agents ≡ slice_set old.agents place after
    → IsSome (title_at old.registry name)
    → IsSome (((world_of old).agent (owner_of old.registry name)).seat name).last
    → is_here old.agents to ≡ true
    → agents.same to (owner_of old.registry name) ≡ false
    → HasGiven (world_of old) name to (world_of new) lines keeper told
    → IsSteady old
    → IsSteady new
unfolding world_of
steady_given old new place name to before after lines keeper told there same agents title owned here apart gave steady =
    let w = world_of old in
    let good = given_good w steady.past name to apart (node_there old name title steady) owned steady.good in
    steady_acted old new (given w name to) good.0 place before after there same gave.city agents good.1 (given_answers w name to steady.answers) (given_among (is_here old.agents) w name to here steady.among) steady
