-- A city in which nothing is under way, and one at rest.
use Rattle.std.specs.Prelude.{◌≡◌, ℕ, ◌<◌, true, false, List, [], Some, None, IsSome}
use Rattle.iris_base.specs.declared.name.Label.{Label}
use Rattle.iris_gather.specs.OpenGathers.{is_due, is_lent}
use Rattle.iris_runs.specs.Letters.{seat_of}
use Rattle.iris_runs.specs.Worlds.{Sent, World, owner_of}

-- Each kept post was delivered, and no gather is due or lent.
pub record IsStill (w : World) : Type 0 where
  pub delivered : (k : ℕ) (sent : Sent) → w.post k ≡ Some sent → w.seen k ≡ true
  pub none_due : (a : List ℕ) (number : ℕ) → is_due ((w.agent a).gather number) ≡ false
  pub none_lent : (a : List ℕ) (number : ℕ) → is_lent ((w.agent a).gather number) ≡ false

-- Each node is owned by the agent that the registry names, no gather is open, no query, ask or update is parked, and each request has its outcome.
pub record IsAtRest (w : World) : Type 0 where
  pub owned : (name : List Label) → IsSome ((w.agent (owner_of w.registry name)).seat name).last
  pub closed : (a : List ℕ) (number : ℕ) → (w.agent a).gather number ≡ None
  pub parked : (a : List ℕ) (name : List Label) → (seat_of ((w.agent a).seat name)).parked ≡ []
  pub answered : (request : ℕ) → request < w.requests → w.closed request ≡ true
