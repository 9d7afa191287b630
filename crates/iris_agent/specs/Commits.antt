-- When an evaluation that was made elsewhere is taken.
use Rattle.std.specs.Prelude.{◌≡◌, ◌⊎◌, ℕ, true, false, List, [], Some, Result, Ok, Err}
use Rattle.iris_base.specs.declared.name.Label.{Label}
use Rattle.iris_gather.specs.declared.basis.Basis.{Basis}
use Rattle.iris_gather.specs.declared.entries.OpenGather.{OpenGather}
use Rattle.iris_gather.specs.OpenGathers.{gather_at}
use Rattle.iris_gather.specs.Validation.{IsStillValid, IsFirstChanged}
use Rattle.iris_agent.specs.declared.commit.CommitError.{CommitError}
use Rattle.iris_agent.specs.declared.commit.CommitError.TheVariants.{Moved, Memory}
use Rattle.iris_agent.specs.declared.commit.Done.{Done}
use Rattle.iris_agent.specs.declared.job.Job.{Job}
use Rattle.iris_agent.specs.Decisions.{laid_view, IsBasis}
use Rattle.iris_agent.specs.Jobs.{with_lent_at}
use Rattle.iris_agent.specs.Tables.{Holdings, tables_of}

-- The gather of a job is lent, waits for nothing, and has its query and its start.
pub record IsLentFor (h : Holdings) (job : Job) (one : OpenGather) : Type 0 where
  pub there : gather_at h.gathers job.gather ≡ Some one
  pub lent : one.lent ≡ true
  pub idle : one.gather.pending ≡ []
  pub query : one.gather.query ≡ job.query
  pub start : one.gather.start ≡ job.start

-- The gather is lent for the job, and what its verdict rests on is had now as it was in the job's view; of what it lacks no more is had.
pub record MayCommit (h : Holdings) (now : ℕ) (done : Done) : Type 0 where
  pub one : OpenGather
  pub lent : IsLentFor h done.job one
  pub valid : IsStillValid done.job.view (laid_view h now one.gather) done.verdict

-- That is not so, and this is the first name for which it isn't: the start's, where no gather is lent for the job, or the first at which the verdict isn't valid any more.
abbrev pub HasMoved : Holdings → ℕ → Done → List Label → Type 0
HasMoved h now done name =
    ((name ≡ done.job.start.name) × ((one : OpenGather) → IsLentFor h done.job one → ⊥))
    ⊎ ((one : OpenGather) × IsLentFor h done.job one × IsFirstChanged done.job.view (laid_view h now one.gather) done.verdict name)

-- why a commit was refused, and what is left: the gather is not lent any more, or all is as before
abbrev pub Refuses : Holdings → Holdings → ℕ → Done → CommitError → Type 0
Refuses old new now done (Moved name) = HasMoved old now done name × (tables_of new ≡ with_lent_at old done.job.gather false)
Refuses old new now done Memory = new ≡ old

-- A verdict of before is one of now, with what it rests on now; or it has moved.
abbrev pub IsValidated : Holdings → ℕ → Done → Result Basis (List Label) → Type 0
IsValidated h now done (Ok basis) = MayCommit h now done × ((one : OpenGather) → IsLentFor h done.job one → IsBasis one.gather.query one.gather.start (laid_view h now one.gather) basis)
IsValidated h now done (Err name) = HasMoved h now done name
