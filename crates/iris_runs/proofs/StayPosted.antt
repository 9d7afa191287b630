-- A good city stays good as a client's request is posted, and as one has its outcome at once.
use Rattle.std.proofs.Common.{ℕ, ◌≤◌, List, IsSome}
use Rattle.std.specs.Prelude.{suc}
use Rattle.iris_base.specs.declared.name.Label.{Label}
use Rattle.iris_tree.specs.Universe.{node_at}
use Rattle.iris_tree.specs.declared.change.Change.{Change}
use Rattle.iris_xpath.specs.Syntax.{Syntax}
use Rattle.iris_migrate.specs.declared.message.Message.{Message}
use Rattle.iris_migrate.specs.declared.message.Message.TheVariants.{Query, Update}
use Rattle.iris_runs.specs.Good.{Past, IsGood, IsPostAt}
use Rattle.iris_runs.specs.Happenings.{query_posted, update_posted, counted}
use Rattle.iris_runs.specs.Moments.{Wanted}
use Rattle.iris_runs.specs.Worlds.{World, owner_of, epoch_of, posting, closes}
use Rattle.iris_runs.proofs.Counted.{counted_known}
use Rattle.iris_runs.proofs.Knowing.{query_known, update_known}
use Rattle.iris_runs.proofs.StayGood.{IsRight, right_of, good_of, some_weaker, posting_right, closed_right}

-- of how many requests there were no other clause speaks
requested_right : (w : World) (wanted : ℕ → Wanted) (requests : ℕ) → IsRight w wanted → IsRight (record w { requests = requests }) wanted
requested_right w wanted requests right = record {
  present = right.present;
  labels = right.labels;
  ids = right.ids;
  agents_are = right.agents_are;
  asks = right.asks;
  registered = right.registered;
  posts_are = λ k. some_weaker (IsPostAt w wanted) _ (w.post k) (λ sent there is. record { message = is.message; place = is.place; newest = is.newest }) (right.posts_are k);
}

pub query_good : (w : World) (past : Past) (asked : Syntax) (name : List Label) (floor : ℕ)
    → IsSome (node_at w.history.start name)
    → floor ≤ w.turn.now
    → IsGood w past
    → (after : Past) × IsGood (query_posted w asked name floor) after
query_good w past asked name floor place before good = (
  past,
  good_of (query_posted w asked name floor) past (query_known w past.accepted asked name floor good.known) good.entered
      (requested_right (posting w (owner_of w.registry name) message) past.wanted (suc w.requests)
      (posting_right w past.wanted (owner_of w.registry name) message (record { message = before; place = place; newest = tt }) (right_of w past good))),
)
  where
    message : Message
    message = Query w.requests asked name (epoch_of w.registry name) floor

pub update_good : (w : World) (past : Past) (name : List Label) (number : ℕ) (changes : List Change)
    → IsSome (node_at w.history.start name)
    → IsGood w past
    → (after : Past) × IsGood (update_posted w name number changes) after
update_good w past name number changes place good = (
  past,
  good_of (update_posted w name number changes) past (update_known w past.accepted name number changes good.known) good.entered
      (requested_right (posting w (owner_of w.registry name) message) past.wanted (suc w.requests)
      (posting_right w past.wanted (owner_of w.registry name) message (record { message = tt; place = place; newest = tt }) (right_of w past good))),
)
  where
    message : Message
    message = Update w.requests name (epoch_of w.registry name) number changes

pub counted_good : (w : World) (past : Past) → IsGood w past → IsGood (counted w) past
counted_good w past good =
    good_of (counted w) past (counted_known w past.accepted good.known) good.entered
    (requested_right (closes w w.requests) past.wanted (suc w.requests) (closed_right w past.wanted w.requests (right_of w past good)))
