use Rattle.std.proofs.Common.{◌≡◌, sym, true, is_some, rules}
use Rattle.iris_migrate.specs.Titles.{noted_at}
use Rattle.iris_migrate.proofs.Noted.{with_ready}
use Rattle.iris_migrate.proofs.seats.Seats.ready.Goals as goal

pub returns-else-not-contains_key-clause-ok : goal.returns-else-not-contains_key-clause-ok
returns-else-not-contains_key-clause-ok c =
    let there : is_some (noted_at c.args.self.now c.args.name.now) ≡ true = search rules in
    sym (with_ready _ _ there)
