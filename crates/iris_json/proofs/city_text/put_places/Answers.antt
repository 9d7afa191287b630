use Rattle.std.proofs.Common.{◌≡◌, append_assoc, take, take_all}
use Rattle.iris_json.specs.CityKeys.{place_data}
use Rattle.iris_json.proofs.Written.{array_written}
use Rattle.iris_json.proofs.city_text.put_places.Goals as goal

pub returns : goal.returns
returns c =
    let all : take c.loop-name.name-index c.args.places.now ≡ c.args.places.now = take_all _ _ c.loop-name-test.false in
    rw (
      c.in_ok-end_array.ensures,
      c.loop-name.invariant,
      all,
      c.in_ok-begin_array.ensures,
      array_written place_data c.args.places.now,
    )
    (simp append_assoc)
