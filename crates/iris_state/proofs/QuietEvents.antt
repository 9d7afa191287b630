-- Gathers that are lent and given back, and copies that are evicted: one agent changes, and nothing follows.
use Rattle.std.proofs.Common.{◌≡◌, ℕ, suc, Bool, true, false, List, [], ◌∷◌, ◌||◌, Option, Some, None, if◌then◌else◌, refl, sym, ap, ◌∙◌, subst}
use Rattle.std.specs.Prelude.{Result, Ok, Err, OnOk, OnErr, slice_get, slice_set, option_map}
use Rattle.iris_base.specs.declared.name.Label.{Label}
use Rattle.iris_fragment.specs.declared.error.EvictError.{EvictError}
use Rattle.iris_fragment.specs.declared.status.Status.{Status}
use Rattle.iris_fragment.specs.declared.status.Status.TheVariants.{Complete, Owned, IdComplete, Incomplete}
use Rattle.iris_fragment.specs.Changes.{evict_answer}
use Rattle.iris_fragment.specs.Contents.{status}
use Rattle.iris_cache.specs.Recency.{evicted_from, is_complete, is_of_complete}
use Rattle.iris_gather.specs.OpenGathers.{is_due, with_lent}
use Rattle.iris_agent.specs.Changes.{HasCache}
use Rattle.iris_agent.specs.Jobs.{with_lent_at}
use Rattle.iris_agent.specs.Tables.{Holdings, Tables, tables_of, with_cache, with_gather}
use Rattle.iris_protocol.specs.Table.{AgentId}
use Rattle.iris_runs.specs.Happenings.{lent_there, evicted_at}
use Rattle.iris_runs.specs.Worlds.{with_agent}
use Rattle.iris_runs.proofs.AmongCities.{evicted_among, lent_among}
use Rattle.iris_runs.proofs.StayQuiet.{evicted_good, lent_good, back_good}
use Rattle.iris_state.specs.Agents.{has_id, is_here, place_in}
use Rattle.iris_state.specs.City.{IsSteady}
use Rattle.iris_state.specs.Whole.{Whole, world_of}
use Rattle.iris_state.proofs.AgentEvents.{acted, steady_acted}
use Rattle.iris_state.proofs.ChangedAgent.{set_there}
use Rattle.iris_state.proofs.DecidedAt.{agent_there}

-- one agent changed
pub one_changed : (old new : Whole) (id : AgentId) (place : ℕ) (before after : Holdings)
    → place_in id old.agents ≡ Some place
    → slice_get old.agents place ≡ Some before
    → after.id ≡ before.id
    → new ≡ record old { agents = slice_set old.agents place after }
    → world_of new ≡ with_agent (world_of old) id (tables_of after)
unfolding world_of
one_changed old new id place before after is there same rest =
    ap world_of rest ∙ acted old (record old { agents = slice_set old.agents place after }) id place before after is there same refl refl refl refl

-- ---- lent gathers

pub same_id : (before after : Holdings) (number : ℕ) (lent : Bool) → tables_of after ≡ with_lent_at before number lent → after.id ≡ before.id
unfolding tables_of
same_id before after number lent is = ap (λ (t : Tables). t.id) is

pub lent_one : (old new : Whole) (id : AgentId) (place number : ℕ) (lent : Bool) (before after : Holdings)
    → place_in id old.agents ≡ Some place
    → slice_get old.agents place ≡ Some before
    → tables_of after ≡ with_lent_at before number lent
    → new ≡ record old { agents = slice_set old.agents place after }
    → world_of new ≡ lent_there (world_of old) id number lent
unfolding tables_of
lent_one old new id place number lent before after is there tables rest =
    one_changed old new id place before after is there (same_id before after number lent tables) rest
    ∙ ap (with_agent (world_of old) id) tables
    ∙ ap (λ (t : Tables). with_agent (world_of old) id (with_gather t number (option_map (with_lent lent) (t.gather number)))) (sym (agent_there old id place before is there))

pub steady_lent : (old new : Whole) (id : AgentId) (place number : ℕ) (before after : Holdings)
    → place_in id old.agents ≡ Some place
    → slice_get old.agents place ≡ Some before
    → is_due (((world_of old).agent id).gather number) ≡ true
    → tables_of after ≡ with_lent_at before number true
    → new ≡ record old { agents = slice_set old.agents place after }
    → IsSteady old
    → IsSteady new
steady_lent old new id place number before after is there due tables rest steady =
    let w = world_of old in
    let good = lent_good w steady.past id number due steady.good in
    steady_acted old new (lent_there w id number true) good.0 place before after there (same_id before after number true tables) (lent_one old new id place number true before after is there tables rest)
    (ap (λ (o : Whole). o.agents) rest) good.1 steady.answers (lent_among (is_here old.agents) w id number true steady.among) steady

pub steady_back_at : (old new : Whole) (id : AgentId) (place number : ℕ) (before after : Holdings)
    → slice_get old.agents place ≡ Some before
    → after.id ≡ before.id
    → world_of new ≡ lent_there (world_of old) id number false
    → new.agents ≡ slice_set old.agents place after
    → IsSteady old
    → IsSteady new
steady_back_at old new id place number before after there same back agents steady =
    let w = world_of old in
    let good = back_good w steady.past id number steady.good in
    steady_acted old new (lent_there w id number false) good.0 place before after there same back agents good.1 steady.answers (lent_among (is_here old.agents) w id number false steady.among) steady

pub steady_back : (old new : Whole) (id : AgentId) (place number : ℕ) (before after : Holdings)
    → place_in id old.agents ≡ Some place
    → slice_get old.agents place ≡ Some before
    → tables_of after ≡ with_lent_at before number false
    → new ≡ record old { agents = slice_set old.agents place after }
    → IsSteady old
    → IsSteady new
steady_back old new id place number before after is there tables rest steady =
    steady_back_at old new id place number before after there (same_id before after number false tables) (lent_one old new id place number false before after is there tables rest) (ap (λ (o : Whole). o.agents) rest) steady

-- ---- evicted copies

pub evicted_one : (old new : Whole) (id : AgentId) (place : ℕ) (name : List Label) (before after : Holdings)
    → place_in id old.agents ≡ Some place
    → slice_get old.agents place ≡ Some before
    → HasCache before after (evicted_from before.cache name)
    → new ≡ record old { agents = slice_set old.agents place after }
    → world_of new ≡ evicted_at (world_of old) id name
unfolding tables_of
evicted_one old new id place name before after is there has rest =
    one_changed old new id place before after is there (ap (λ (h : Holdings). h.id) has) rest
    ∙ ap (λ (h : Holdings). with_agent (world_of old) id (tables_of h)) has
    ∙ ap (λ (t : Tables). with_agent (world_of old) id (with_cache t (evicted_from t.cache name))) (sym (agent_there old id place before is there))

pub steady_evicted : (old new : Whole) (id : AgentId) (place : ℕ) (name : List Label) (before after : Holdings)
    → place_in id old.agents ≡ Some place
    → slice_get old.agents place ≡ Some before
    → is_complete before.cache.contents name ≡ true
    → HasCache before after (evicted_from before.cache name)
    → new ≡ record old { agents = slice_set old.agents place after }
    → IsSteady old
    → IsSteady new
unfolding tables_of
steady_evicted old new id place name before after is there complete has rest steady =
    let w = world_of old in
    steady_acted old new (evicted_at w id name) steady.past place before after there (ap (λ (h : Holdings). h.id) has) (evicted_one old new id place name before after is there has rest)
    (ap (λ (o : Whole). o.agents) rest)
    (evicted_good w steady.past id name (ap (λ (t : Tables). is_complete t.cache.contents name) (agent_there old id place before is there) ∙ complete) steady.good)
    steady.answers (evicted_among (is_here old.agents) w id name steady.among) steady

-- ---- by what the agent answers

steady_kept : (old new : Whole) (place : ℕ) (before after : Holdings) → slice_get old.agents place ≡ Some before → after ≡ before → new ≡ record old { agents = slice_set old.agents place after } → IsSteady old → IsSteady new
steady_kept old new place before after there same rest steady =
    let agents = set_there old.agents place before after there same in
    subst IsSteady (sym (rest ∙ ap (λ (hs : List Holdings). record old { agents = hs }) agents)) steady

pub steady_job : {T E : Type 0} (r : Result T E) (old new : Whole) (id : AgentId) (place number : ℕ) (before after : Holdings)
    → place_in id old.agents ≡ Some place
    → slice_get old.agents place ≡ Some before
    → is_due (((world_of old).agent id).gather number) ≡ true
    → OnOk r (tables_of after ≡ with_lent_at before number true)
    → OnErr r (after ≡ before)
    → new ≡ record old { agents = slice_set old.agents place after }
    → IsSteady old
    → IsSteady new
steady_job (Ok job) old new id place number before after is there due lent same rest steady = steady_lent old new id place number before after is there due lent rest steady
steady_job (Err e) old new id place number before after is there due lent same rest steady = steady_kept old new place before after there same rest steady

-- what may be evicted is a copy
was_complete : (o : Option Status) (kept : Bool) (left : Status) → Ok left ≡ evict_answer o kept → is_of_complete o ≡ true
was_complete (Some Complete) kept left is = refl
was_complete (Some Owned) kept left is = absurd (cc)
was_complete (Some IdComplete) kept left is = absurd (cc)
was_complete (Some Incomplete) kept left is = absurd (cc)
was_complete None kept left is = absurd (cc)

pub steady_evict : (r : Result Status EvictError) (old new : Whole) (id : AgentId) (place : ℕ) (name : List Label) (kept : Bool) (before after : Holdings)
    → place_in id old.agents ≡ Some place
    → slice_get old.agents place ≡ Some before
    → r ≡ evict_answer (status before.cache.contents name) kept
    → OnOk r (HasCache before after (evicted_from before.cache name))
    → OnErr r (after ≡ before)
    → new ≡ record old { agents = slice_set old.agents place after }
    → IsSteady old
    → IsSteady new
steady_evict (Ok left) old new id place name kept before after is there answer has same rest steady =
    steady_evicted old new id place name before after is there (was_complete (status before.cache.contents name) kept left answer) has rest steady
steady_evict (Err e) old new id place name kept before after is there answer has same rest steady = steady_kept old new place before after there same rest steady

-- the agent keeps its id
pub job_id : {T E : Type 0} (r : Result T E) (number : ℕ) (before after : Holdings) → OnOk r (tables_of after ≡ with_lent_at before number true) → OnErr r (after ≡ before) → after.id ≡ before.id
job_id (Ok job) number before after lent same = same_id before after number true lent
job_id (Err e) number before after lent same = ap (λ (h : Holdings). h.id) same

pub evict_id : {T E : Type 0} (r : Result T E) (name : List Label) (before after : Holdings) → OnOk r (HasCache before after (evicted_from before.cache name)) → OnErr r (after ≡ before) → after.id ≡ before.id
evict_id (Ok left) name before after has same = ap (λ (h : Holdings). h.id) has
evict_id (Err e) name before after has same = ap (λ (h : Holdings). h.id) same

-- an agent that is here has a place
pub here_none : (hs : List Holdings) (id : AgentId) → place_in id hs ≡ None → is_here hs id ≡ false
here_none [] id is = refl
here_none (x ∷ hs) id is = either (λ at. here_none hs id at) (has_id id x) is
  where
    later : (place_in id hs ≡ None → is_here hs id ≡ false) → (o : Option ℕ) → place_in id hs ≡ o → option_map suc o ≡ None → is_here hs id ≡ false
    later go None at is = go at
    later go (Some n) at is = absurd (cc)

    either : (place_in id hs ≡ None → is_here hs id ≡ false) → (b : Bool) → (if b then Some 0 else option_map suc (place_in id hs)) ≡ None → (b || is_here hs id) ≡ false
    either go true is = absurd (cc)
    either go false is = later go (place_in id hs) refl is

-- so it is found
pub missing_here : (old now : Whole) (id : AgentId) (slice : List Holdings) (place : Option ℕ) → old ≡ now → slice ≡ old.agents → place ≡ place_in id slice → place ≡ None → is_here now.agents id ≡ true → ⊥
missing_here old now id slice place same agents found none here =
    let nobody = here_none now.agents id (ap (λ (o : Whole). place_in id o.agents) (sym same) ∙ ap (place_in id) (sym agents) ∙ sym found ∙ none) in
    absurd (cc)
