-- An evaluation that comes back, as it changes a city.
use Rattle.std.proofs.Common.{◌≡◌, ℕ, zero, suc, Bool, true, false, List, [], ◌∷◌, Option, Some, None, refl, sym, ap, ◌∙◌, subst, if◌then◌else◌}
use Rattle.std.specs.Prelude.{IfSome, slice_get, slice_set, option_map}
use Rattle.iris_need.specs.declared.need.Need.{Need}
use Rattle.iris_gather.specs.OpenGathers.{is_ready, is_none_left}
use Rattle.iris_agent.specs.declared.commit.CommitError.{CommitError}
use Rattle.iris_agent.specs.declared.commit.CommitError.TheVariants.{Moved, Memory}
use Rattle.iris_agent.specs.declared.commit.Done.{Done}
use Rattle.iris_agent.specs.Commits.{HasMoved, MayCommit, Refuses}
use Rattle.iris_agent.specs.Tables.{Holdings, Tables, tables_of, with_gather}
use Rattle.iris_gather.specs.OpenGathers.{with_lent}
use Rattle.iris_protocol.specs.Table.{AgentId}
use Rattle.iris_runs.specs.Worlds.{World, with_agent}
use Rattle.iris_state.specs.Agents.{has_id, held_by, place_in}
use Rattle.iris_state.specs.City.{IsSteady}
use Rattle.iris_state.specs.Events.{HasRefused}
use Rattle.iris_state.specs.Whole.{Whole, world_of}
use Rattle.iris_state.proofs.AgentEvents.{agent_changed, unacted}
use Rattle.iris_state.proofs.ChangedAgent.{set_there}
use Rattle.iris_state.proofs.DecidedAt.{agent_there}
use Rattle.iris_state.proofs.QuietEvents.{same_id, steady_back_at}
use Rattle.iris_state.proofs.SteadyCities.{steady_same}

-- the agent at the place of an id is the one that has it
pub held_there : (hs : List Holdings) (id : AgentId) (place : ℕ) (h : Holdings) → place_in id hs ≡ Some place → slice_get hs place ≡ Some h → held_by id hs ≡ Some h
held_there [] id place h is there = absurd (cc)
held_there (x ∷ hs) id place h is there = either (λ m at there. held_there hs id m h at there) (has_id id x) place is there
  where
    later : ((m : ℕ) → place_in id hs ≡ Some m → slice_get hs m ≡ Some h → held_by id hs ≡ Some h) → (o : Option ℕ) → place_in id hs ≡ o → (place : ℕ) → option_map suc o ≡ Some place → slice_get (x ∷ hs) place ≡ Some h
        → held_by id hs ≡ Some h
    later go None at place is there = absurd (cc)
    later go (Some n) at zero is there = absurd (cc)
    later go (Some n) at (suc m) is there = go m (at ∙ cc) there

    either : ((m : ℕ) → place_in id hs ≡ Some m → slice_get hs m ≡ Some h → held_by id hs ≡ Some h)
        → (b : Bool) (place : ℕ) → (if b then Some 0 else option_map suc (place_in id hs)) ≡ Some place → slice_get (x ∷ hs) place ≡ Some h → (if b then Some x else held_by id hs) ≡ Some h
    either go true zero is there = there
    either go true (suc n) is there = absurd (cc)
    either go false place is there = later go (place_in id hs) refl place is there

-- a gather that is lent for a job waits for nothing
pub committed_ready : (old : Whole) (id : AgentId) (place : ℕ) (done : Done) (before : Holdings) → place_in id old.agents ≡ Some place → slice_get old.agents place ≡ Some before → MayCommit before old.turn.now done
    → is_ready (((world_of old).agent id).gather done.job.gather) ≡ true
unfolding tables_of
committed_ready old id place done before is there may =
    ap (λ (t : Tables). is_ready (t.gather done.job.gather)) (agent_there old id place before is there) ∙ ap is_ready may.lent.there ∙ ap (λ (asks : List (ℕ × Need)). is_none_left asks) may.lent.idle

-- ---- where it was not taken

pub refused_at : (old mid : Whole) (id : AgentId) (place : ℕ) (done : Done) (before after : Holdings) (e : CommitError)
    → place_in id old.agents ≡ Some place
    → slice_get old.agents place ≡ Some before
    → Refuses before after old.turn.now done e
    → mid.turn ≡ old.turn
    → mid.book.history ≡ old.book.history
    → mid ≡ record old { agents = slice_set old.agents place after; turn = mid.turn; book = mid.book }
    → HasRefused (world_of old) (held_by id old.agents) id done (world_of mid) e
unfolding world_of tables_of
refused_at old mid id place done before after (Moved name) is there refuses turn history rest = (
  subst (λ (o : Option Holdings). IfSome o (λ h. HasMoved h old.turn.now done name)) (sym (held_there old.agents id place before is there)) refuses.0,
  agent_changed old mid id place before after is there (same_id before after done.job.gather false refuses.1) turn history rest
      ∙ ap (with_agent (world_of old) id) refuses.1
      ∙ ap (λ (t : Tables). with_agent (world_of old) id (with_gather t done.job.gather (option_map (with_lent false) (t.gather done.job.gather)))) (sym (agent_there old id place before is there)),
)
refused_at old mid id place done before after Memory is there same turn history rest =
    let agents = set_there old.agents place before after there same in
    let now = ap (λ (o : Whole). o.agents) rest in
    unacted old mid (rest ∙ ap (λ (hs : List Holdings). record old { agents = hs; turn = mid.turn; book = mid.book }) (sym now)) (now ∙ agents) turn history

-- the agent keeps its id
pub refused_id : (now : ℕ) (done : Done) (before after : Holdings) (e : CommitError) → Refuses before after now done e → after.id ≡ before.id
refused_id now done before after (Moved name) refuses = same_id before after done.job.gather false refuses.1
refused_id now done before after Memory same = ap (λ (h : Holdings). h.id) same

-- of two cities that are equal the same is told
pub refused_same : (old now : Whole) (mid : World) (id : AgentId) (done : Done) (e : CommitError) → old ≡ now → HasRefused (world_of old) (held_by id old.agents) id done mid e → HasRefused (world_of now) (held_by id now.agents) id done mid e
refused_same old now mid id done e same h = subst (λ (o : Whole). HasRefused (world_of o) (held_by id o.agents) id done mid e) same h

pub steady_refused : (old mid : Whole) (id : AgentId) (place : ℕ) (done : Done) (before after : Holdings) (e : CommitError)
    → slice_get old.agents place ≡ Some before
    → Refuses before after old.turn.now done e
    → HasRefused (world_of old) (held_by id old.agents) id done (world_of mid) e
    → mid.agents ≡ slice_set old.agents place after
    → IsSteady old
    → IsSteady mid
steady_refused old mid id place done before after (Moved name) there refuses refused agents steady =
    steady_back_at old mid id place done.job.gather before after there (same_id before after done.job.gather false refuses.1) refused.1 agents steady
steady_refused old mid id place done before after Memory there same refused agents steady =
    steady_same old mid refused (agents ∙ set_there old.agents place before after there same) steady
