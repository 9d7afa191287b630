-- A steady city stays one as requests are made and time passes.
use Rattle.std.proofs.Common.{◌≡◌, ℕ, ◌≤◌, List, sym, ◌∙◌, subst}
use Rattle.std.specs.Prelude.{IsSome}
use Rattle.iris_base.specs.declared.name.Label.{Label}
use Rattle.iris_tree.specs.declared.change.Change.{Change}
use Rattle.iris_xpath.specs.Syntax.{Syntax}
use Rattle.iris_route.specs.Titles.{Titles, title_at}
use Rattle.iris_book.specs.Book.{Recorded}
use Rattle.iris_agent.specs.Tables.{Holdings}
use Rattle.iris_runs.specs.Among.{AreAmong}
use Rattle.iris_runs.specs.Answers.{AnswersRightly}
use Rattle.iris_runs.specs.Good.{Past, IsGood}
use Rattle.iris_runs.specs.Happenings.{query_posted, update_posted, advanced, counted}
use Rattle.iris_runs.specs.Worlds.{World}
use Rattle.iris_runs.proofs.AnswersAllowed.{none_answered, answers_later}
use Rattle.iris_runs.proofs.AmongCities.{begun_among, query_among, update_among, advanced_among}
use Rattle.iris_runs.proofs.StartGood.{begun_good}
use Rattle.iris_runs.proofs.StayPosted.{query_good, update_good, counted_good}
use Rattle.iris_runs.proofs.StayQuiet.{advanced_good}
use Rattle.iris_state.specs.Agents.{is_here}
use Rattle.iris_state.specs.City.{HaveOwnPlaces, IsSteady, MayBegin}
use Rattle.iris_state.specs.Whole.{Whole, begun, world_of}

-- with the same agents by their ids and places
pub steady_of : (new : Whole) (w : World) (agents : List Holdings) (past : Past) → world_of new ≡ w → new.agents ≡ agents → IsGood w past → AnswersRightly w → AreAmong (is_here agents) w
    → HaveOwnPlaces agents → IsSteady new
steady_of new w agents past city same good answers among ids = record {
  past = past;
  good = subst (λ (v : World). IsGood v past) (sym city) good;
  answers = subst AnswersRightly (sym city) answers;
  among = subst (λ (v : World). AreAmong (is_here new.agents) v) (sym city) (subst (λ (hs : List Holdings). AreAmong (is_here hs) w) (sym same) among);
  ids = subst HaveOwnPlaces (sym same) ids;
}

pub steady_same : (old new : Whole) → world_of new ≡ world_of old → new.agents ≡ old.agents → IsSteady old → IsSteady new
steady_same old new city same steady = steady_of new (world_of old) old.agents steady.past city same steady.good steady.answers steady.among steady.ids

pub steady_query : (old new : Whole) (asked : Syntax) (name : List Label) (floor : ℕ)
    → world_of new ≡ query_posted (world_of old) asked name floor
    → new.agents ≡ old.agents
    → IsSome (title_at (world_of old).registry name)
    → floor ≤ (world_of old).turn.now
    → IsSteady old
    → IsSteady new
steady_query old new asked name floor city same title before steady =
    let good = query_good (world_of old) steady.past asked name floor (sym (steady.good.registered name) ∙ title) before steady.good in
    steady_of new (query_posted (world_of old) asked name floor) old.agents good.0 city same good.1 steady.answers (query_among (is_here old.agents) (world_of old) asked name floor title steady.among) steady.ids

pub steady_update : (old new : Whole) (name : List Label) (number : ℕ) (changes : List Change)
    → world_of new ≡ update_posted (world_of old) name number changes
    → new.agents ≡ old.agents
    → IsSome (title_at (world_of old).registry name)
    → IsSteady old
    → IsSteady new
steady_update old new name number changes city same title steady =
    let good = update_good (world_of old) steady.past name number changes (sym (steady.good.registered name) ∙ title) steady.good in
    steady_of new (update_posted (world_of old) name number changes) old.agents good.0 city same good.1 steady.answers (update_among (is_here old.agents) (world_of old) name number changes title steady.among) steady.ids

pub steady_advanced : (old new : Whole) (moment : ℕ) → world_of new ≡ advanced (world_of old) moment → new.agents ≡ old.agents → (world_of old).turn.now ≤ moment → IsSteady old → IsSteady new
steady_advanced old new moment city same later steady =
    steady_of new (advanced (world_of old) moment) old.agents steady.past city same (advanced_good (world_of old) steady.past moment later steady.good)
    (answers_later (world_of old).history (world_of old).turn.now moment later steady.answers) (advanced_among (is_here old.agents) (world_of old) moment steady.among) steady.ids

pub steady_counted : (old new : Whole) → world_of new ≡ counted (world_of old) → new.agents ≡ old.agents → IsSteady old → IsSteady new
steady_counted old new city same steady =
    steady_of new (counted (world_of old)) old.agents steady.past city same (counted_good (world_of old) steady.past steady.good) steady.answers
    (record { owners = steady.among.owners; agents = steady.among.agents; posts = steady.among.posts }) steady.ids

pub steady_begun : (registry : Titles) (agents : List Holdings) (book : Recorded) (new : Whole) → world_of new ≡ world_of (begun registry agents book) → new.agents ≡ agents → MayBegin registry agents book → IsSteady new
unfolding world_of
steady_begun registry agents book new city same may =
    let w = world_of (begun registry agents book) in
    let good = begun_good may.rows w may.start in
    steady_of new w agents good.0 city same good.1 (none_answered w.history w.turn.now may.start.lasting) (begun_among (is_here agents) may.rows w may.owned may.start) may.ids
