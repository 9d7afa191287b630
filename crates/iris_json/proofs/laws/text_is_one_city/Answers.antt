use Rattle.iris_json.proofs.CityReading.{city_once}
use Rattle.iris_json.proofs.laws.text_is_one_city.Goals as goal

pub returns : goal.returns
returns c = record { once = city_once }
