use Rattle.std.proofs.Common.{ap, ◌∙◌, Some}
use Rattle.std.proofs.lemmas.Result.{IfOk-weaker, IfErr-weaker}
use Rattle.serde_json.specs.Data.{Items, array}
use Rattle.iris_json.proofs.KindReading.{array_there}
use Rattle.iris_json.proofs.PlaceReading.{none_at}
use Rattle.iris_json.proofs.city_place.read_place.Goals as goal

pub returns-in-Some-clause-found : goal.returns-in-Some-clause-found
returns-in-Some-clause-found c =
    IfOk-weaker c.read_pairs.result _ _ (λ place at. ((array_there _ _ c.in-Some.ensures ∙ ap (λ (ds : Items). Some (array ds)) at.are, at.names), at.placed)) c.read_pairs.ensures.found

pub returns-in-Some-clause-refused : goal.returns-in-Some-clause-refused
returns-in-Some-clause-refused c =
    IfErr-weaker c.read_pairs.result _ _ (λ e. none_at c.args.agents.now c.args.tree.now _ _ e c.in-Some.ensures) c.read_pairs.ensures.refused
