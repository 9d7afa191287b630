-- Evaluations that are made elsewhere.
use Rattle.std.specs.Prelude.{ℕ, Bool, option_map}
use Rattle.iris_gather.specs.Gathers.{Gathering}
use Rattle.iris_gather.specs.OpenGathers.{gather_at, with_lent}
use Rattle.iris_agent.specs.declared.job.Job.{Job}
use Rattle.iris_agent.specs.Decisions.{laid_view}
use Rattle.iris_agent.specs.Tables.{Holdings, Tables, tables_of, with_gather}

-- the evaluation of a gather, over its view laid over what the agent may use now
abbrev pub job_of : Holdings → ℕ → ℕ → Gathering → Job
job_of h now number g = record { gather = number; query = g.query; start = g.start; view = laid_view h now g }

-- the gather of that number, if there is one, is lent, or is not
abbrev pub with_lent_at : Holdings → ℕ → Bool → Tables
with_lent_at h number lent = with_gather (tables_of h) number (option_map (with_lent lent) (gather_at h.gathers number))
