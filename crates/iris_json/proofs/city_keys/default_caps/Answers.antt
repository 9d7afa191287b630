use Rattle.std.proofs.Common.{List, ℕ, ◌∙◌, sym, subst}
use Rattle.iris_json.specs.CityForm.{AreCapacities}
use Rattle.iris_json.proofs.KindReading.{defaults_fit}
use Rattle.iris_json.proofs.city_keys.default_caps.Goals as goal

pub returns : goal.returns
returns c =
    let same = c.from_vec.ensures ∙ c.in_ok-vec.ensures.items_if_clones_equal (λ y same. same) in
    (same, subst (AreCapacities c.args.agents) (sym same) (defaults_fit c.args.agents c.requires))
