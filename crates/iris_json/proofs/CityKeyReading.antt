-- From the keys of an object to what they say of a city.
use Rattle.std.proofs.Common.{◌≡◌, ◌↔◌, ℕ, Bool, true, List, [], ◌∷◌, codes, Option, Some, None, is_some, refl, sym, ◌∙◌, subst}
use Rattle.std.specs.Prelude.{IfSome, IsTrue}
use Rattle.serde_json.specs.Data.{Data}
use Rattle.iris_json.specs.declared.city.Show.{Show}
use Rattle.iris_json.specs.CityKeys.{ShowAt}

-- whether there is a word of what is shown
pub some_show : (d : Data) (o : Option Show) (b : Bool) → IfSome o (ShowAt d) → (o ≡ None → (show : Show) → ShowAt d show → ⊥) → b ≡ is_some o → IsTrue b ↔ ((show : Show) × ShowAt d show)
some_show d None b found missing is = (λ h. absurd (cc), λ at. absurd (missing refl at.0 at.1))
some_show d (Some show) b found missing is = (λ h. (show, found), λ at. is)
