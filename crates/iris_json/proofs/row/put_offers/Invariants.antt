use Rattle.std.proofs.Common.{◌≡◌, ◌++◌, take}
use Rattle.iris_json.specs.Rows.{offer_data}
use Rattle.iris_json.proofs.Written.{all_tokens}
use Rattle.iris_json.proofs.row.put_offers.Given as goal

abbrev pub invariant-loop-offer : goal.invariant-loop-offer
invariant-loop-offer l = l.out ≡ l.initial.out ++ all_tokens offer_data (take l.offer-index l.offers)
