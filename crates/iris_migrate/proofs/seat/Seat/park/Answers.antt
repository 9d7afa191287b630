use Rattle.std.proofs.Common.{◌≡◌, ◌∙◌, ◌++◌, ◌∷◌, [], List, ap, Some, rules, tests}
use Rattle.iris_migrate.specs.declared.message.Message.{Message}
use Rattle.iris_migrate.specs.declared.key.Key.{Key}
use Rattle.iris_migrate.specs.declared.key.Key.TheVariants.{Request, Ask}
use Rattle.iris_migrate.specs.contracts.key.KeyPartialEq.TheImpl.{eq-value}
use Rattle.iris_migrate.specs.Messages.{key_eq}
use Rattle.iris_migrate.specs.Titles.{Seat, is_parked}
use Rattle.iris_migrate.proofs.Parking.{keys_parked}
use Rattle.iris_migrate.proofs.seat.Seat.park.Goals as goal

-- `==` of keys is the word of the contracts
alike : (j k : Key) → (eq-value).it j k ≡ key_eq j k
alike (Request r) (Request s) = search (rules, tests)
alike (Request r) (Ask i) = search (rules, tests)
alike (Ask i) (Request r) = search (rules, tests)
alike (Ask i) (Ask j) = search (rules, tests)

pub invariant_of-self-2 : goal.invariant_of-self-2
invariant_of-self-2 c =
    keys_parked _ alike c.self.inside.parked.items _ c.args.message c.args.key _ _ c.requires.key (ap (λ (s : Seat). is_parked s (Some c.args.key)) c.self.view_is ∙ c.requires.fresh) c.self.invariant
    c.in_ok-insert.ensures.keys (c.push_reserved.ensures.items ∙ ap (λ (ms : List Message). ms ++ c.args.message ∷ []) c.reserve.ensures.items)
