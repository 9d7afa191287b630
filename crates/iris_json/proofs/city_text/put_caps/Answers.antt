use Rattle.std.proofs.Common.{◌≡◌, ◌++◌, ◌∙◌, refl, append_assoc, take, take_all, get_or}
use Rattle.std.proofs.lemmas.List.{get_or_default}
use Rattle.iris_tree.specs.LocalText.{value_tokens}
use Rattle.iris_json.specs.CityKeys.{cap_data}
use Rattle.iris_json.proofs.Written.{tokens_more, array_written, cap_written}
use Rattle.iris_json.proofs.city_text.put_caps.Goals as goal

pub loop-cap-preserved : goal.loop-cap-preserved
loop-cap-preserved c =
    let cap = get_or c.args.caps.now c.loop-cap.cap-index 0 in
    let wrote : c.number.new.self ≡ c.loop-cap.out ++ value_tokens (cap_data cap) = c.in_ok-number.ensures ∙ rw (cap_written cap) refl in
    let more = tokens_more cap_data c.args.caps.now c.loop-cap.cap-index cap c.loop-cap-test.true (get_or_default c.args.caps.now c.loop-cap.cap-index 0 cap c.loop-cap-test.true) in
    rw (wrote, c.loop-cap.invariant, more) (simp append_assoc)

pub returns : goal.returns
returns c =
    let all : take c.loop-cap.cap-index c.args.caps.now ≡ c.args.caps.now = take_all _ _ c.loop-cap-test.false in
    rw (
      c.in_ok-end_array.ensures,
      c.loop-cap.invariant,
      all,
      c.in_ok-begin_array.ensures,
      array_written cap_data c.args.caps.now,
    )
    (simp append_assoc)
