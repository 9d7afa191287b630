use Rattle.std.proofs.Common.{◌≡◌, take, None}
use Rattle.std.specs.Prelude.{find}
use Rattle.std.specs.List.{flat_map}
use Rattle.iris_finder.specs.Offers.{is_bad, item_offers}
use Rattle.iris_finder.proofs.offering.offers.Given as goal

-- the offers of the items so far, none of which lacks a tariff
abbrev pub invariant-loop-item : goal.invariant-loop-item
invariant-loop-item l = record {
  none_bad : find is_bad (take l.item-index l.items) ≡ None;
  offered : l.all.items ≡ flat_map (item_offers l.find.stay l.arrival) (take l.item-index l.items);
}
