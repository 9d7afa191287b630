use Rattle.std.proofs.Common.{◌≡◌, ◌++◌, rules, append_assoc, take, take_all}
use Rattle.iris_tree.specs.LocalText.{value_tokens}
use Rattle.iris_json.specs.Rows.{offer_data}
use Rattle.iris_json.proofs.Written.{tokens_more, array_written}
use Rattle.iris_json.proofs.row.put_offers.Goals as goal

pub loop-offer-preserved : goal.loop-offer-preserved
loop-offer-preserved c =
    let wrote : c.put_offer.new.out ≡ c.loop-offer.out ++ value_tokens (offer_data c.offer-item.result) = search rules in
    let more = tokens_more offer_data _ c.loop-offer.offer-index c.offer-item.result c.loop-offer-test.true c.offer-item.is in
    rw (wrote, c.loop-offer.invariant, more) (simp append_assoc)

pub returns : goal.returns
returns c =
    let all : take c.loop-offer.offer-index c.args.offers.now ≡ c.args.offers.now = take_all _ _ c.loop-offer-test.false in
    rw (
      c.in_ok-end_array.ensures,
      c.loop-offer.invariant,
      all,
      c.in_ok-begin_array.ensures,
      array_written offer_data c.args.offers.now,
    )
    (simp append_assoc)
