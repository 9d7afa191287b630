use Rattle.std.proofs.Common.{◌≡◌, ◌++◌, take}
use Rattle.iris_json.specs.CityKeys.{cap_data}
use Rattle.iris_json.proofs.Written.{all_tokens}
use Rattle.iris_json.proofs.city_text.put_caps.Given as goal

abbrev pub invariant-loop-cap : goal.invariant-loop-cap
invariant-loop-cap l = l.out ≡ l.initial.out ++ all_tokens cap_data (take l.cap-index l.caps)
