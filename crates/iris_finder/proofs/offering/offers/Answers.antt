use Rattle.std.proofs.Common.{◌≡◌, ℕ, ◌+◌, ◌<◌, true, List, [], ◌∷◌, ◌++◌, Option, None, Some, Err, take, length, get_or, sym, ap, ◌∙◌}
use Rattle.std.specs.Prelude.{find}
use Rattle.std.specs.List.{flat_map}
use Rattle.std.proofs.lemmas.List.{take_more, flat_map_more}
use Rattle.std.proofs.lemmas.Result.{err_from_is_err_and}
use Rattle.iris_base.specs.declared.name.Label.{Label}
use Rattle.iris_tree.specs.declared.item.Item.{Item}
use Rattle.iris_json.specs.declared.find.Arrival.{Arrival}
use Rattle.iris_json.specs.declared.find.Find.{Find}
use Rattle.iris_json.specs.declared.find.Offer.{Offer}
use Rattle.iris_finder.specs.declared.offering.OfferError.TheVariants as errors
use Rattle.iris_finder.specs.Offers.{item_offers, is_bad, offers_of, offers_but}
use Rattle.iris_finder.proofs.Found.{find_here, find_none_more}
use Rattle.iris_finder.proofs.offering.offers.Goals as goal

told_bad : (items : List Item) (question : Find) (arrival : Arrival) (i : ℕ) (item : Item) (name : List Label) → i < length items → item ≡ get_or items i item → find is_bad (take i items) ≡ None
    → is_bad item ≡ true → item.at ≡ name → offers_of items question arrival ≡ Err name
told_bad items question arrival i item name within is none bad at =
    let here : is_bad (get_or items i item) ≡ true = ap is_bad (sym is) ∙ bad in
    let found : find is_bad items ≡ Some item = find_here is_bad items i item within none here ∙ ap Some (sym is) in
    ap (λ (o : Option Item). offers_but o question.top (flat_map (item_offers question.stay arrival) items)) found ∙ ap Err at

offered_more : (f : Item → List Offer) (items : List Item) (i : ℕ) (item : Item) (old new : List Offer) → i < length items → item ≡ get_or items i item → old ≡ flat_map f (take i items) → new ≡ old ++ f item → new ≡ flat_map f (take (i + 1) items)
offered_more f items i item old new within is before added =
    added ∙ ap (λ (os : List Offer). os ++ f item) before ∙ flat_map_more f [] (take i items) item ∙ ap (λ (x : Item). flat_map f (take i items ++ x ∷ [])) is ∙ ap (flat_map f) (sym (take_more items i item within))

pub returns-in_err-push_offers-clause-bad_tariff : goal.returns-in_err-push_offers-clause-bad_tariff
returns-in_err-push_offers-clause-bad_tariff c = λ name e.
    let p = err_from_is_err_and c.from_residual.result c.from_residual.ensures.1 in
    let error : p.0 ≡ errors.BadTariff name = cc (p.1, e) in
    let same : c.push_offers.result ≡ Err (errors.BadTariff name) = c.in_err-push_offers.was {u = tt} ∙ ap Err (sym p.2 ∙ error) in
    let told = c.push_offers.ensures.bad_tariff name same in
    told_bad c.args.items.now c.args.find.now c.args.arrival.now c.loop-item.item-index c.item-item.result name c.loop-item-test.true c.item-item.is c.loop-item.invariant.none_bad told.0 told.1

pub loop-item-preserved : goal.loop-item-preserved
loop-item-preserved c =
    let item = c.item-item.result in
    record {
      none_bad = find_none_more is_bad c.args.items.now c.loop-item.item-index item c.loop-item-test.true c.loop-item.invariant.none_bad (ap is_bad (sym c.item-item.is) ∙ c.in_ok-push_offers.ensures.has_tariff);
      offered = offered_more (item_offers c.args.find.now.stay c.args.arrival.now) c.args.items.now c.loop-item.item-index item _ _ c.loop-item-test.true c.item-item.is c.loop-item.invariant.offered c.in_ok-push_offers.ensures.added;
    }
