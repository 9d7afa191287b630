-- The requests of a city's clients.
use Rattle.std.specs.Prelude.{◌≡◌, ℕ, ◌<◌, nat_lt, Bool, true, not, ◌&&◌, ◌||◌, List}
use Rattle.iris_agent.specs.Tables.{is_among}

-- how many were made, and the numbers of the queries and of the updates that have no outcome yet
pub record Asked : Type 0 where
  pub made : ℕ
  pub queries : List ℕ
  pub updates : List ℕ

-- whether a request has no outcome yet
abbrev pub is_open : Asked → ℕ → Bool
is_open r request = is_among r.queries request || is_among r.updates request

-- whether a request was made and has its outcome
abbrev pub is_closed : Asked → ℕ → Bool
is_closed r request = nat_lt request r.made && not (is_open r request)

-- what has no outcome yet was made
abbrev pub AreMade : Asked → Type 0
AreMade r = (request : ℕ) → is_open r request ≡ true → request < r.made
