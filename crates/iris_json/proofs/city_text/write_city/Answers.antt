use Rattle.std.proofs.Common.{◌∙◌, ap, refl}
use Rattle.json.specs.Print.{print}
use Rattle.iris_tree.proofs.ValueTokens.{printed}
use Rattle.iris_json.specs.CityText.{city_data}
use Rattle.iris_json.proofs.CityWriting.{city_reads}
use Rattle.iris_json.proofs.city_text.write_city.Goals as goal

pub returns-clause-text : goal.returns-clause-text
returns-clause-text c = c.into_bytes.ensures ∙ ap print (c.in_ok-put_city.ensures.text ∙ rw c.new-out.ensures refl) ∙ printed (city_data c.args.city.now)

pub returns-clause-read_again : goal.returns-clause-read_again
returns-clause-read_again c short = city_reads c.args.city.now c.in_ok-put_city.ensures.ordered c.in_ok-put_city.ensures.zone c.in_ok-put_city.ensures.utf8 _ (returns-clause-text c) short
