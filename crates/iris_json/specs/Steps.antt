-- How far a walk over nodes comes.
use Rattle.std.specs.Prelude.{◌≡◌, ◌↔◌, ℕ, Bool, List, ◌∷◌, length, false, IsTrue, MatchBool}
use Rattle.std.specs.List.{AllByRecursion}
use Rattle.iris_json.specs.declared.city_nodes.Steps.{Steps}
use Rattle.serde_json.specs.Data.{Data}
use Rattle.iris_base.specs.declared.name.Label.{Label}
use Rattle.iris_json.specs.declared.city.CityWhy.{CityWhy}
use Rattle.iris_json.specs.declared.city.CityWhy.TheVariants.{Twin}
use Rattle.iris_json.specs.CityKeys.{LabelAt}
use Rattle.iris_json.specs.CityParts.{Spot, FirstFails, told}
use Rattle.iris_json.specs.CityRows.{IsNoTwin}

-- the walk came to the first that fails, or over all of them, and tells how many passed
abbrev pub Walks : (Spot → Type 0) → List Spot → Steps → Type 0
Walks Has spots steps = MatchBool steps.failed
    ((before : ℕ) × FirstFails Has spots before × (steps.passed ≡ told before))
    (AllByRecursion Has spots × (steps.passed ≡ told (length spots)))

-- a set has just the labels of these siblings
abbrev pub AreLabelsOf : List (List ℕ) → (Label → Bool) → List Data → Type 0
AreLabelsOf kinds has siblings = (label : Label) → (has label ≡ false) ↔ AllByRecursion (λ d. LabelAt kinds d label → ⊥) siblings

-- the answer tells whether no earlier sibling has the label of a value, and the set has its label too from then on
abbrev pub IsNewLabel : List (List ℕ) → (Label → Bool) → List Data → Data → Bool → Type 0
IsNewLabel kinds has earlier d answer = (IsTrue answer ↔ IsNoTwin kinds (record { earlier = earlier; value = d })) × AreLabelsOf kinds has (d ∷ earlier)

-- the answer tells whether a fact of a node holds, and in the row of twins the set has its label too from then on unless it does not
abbrev pub DoesHave : (Spot → Type 0) → CityWhy → List (List ℕ) → (Label → Bool) → List Data → Data → Bool → Type 0
DoesHave Has why kinds set earlier d answer = (IsTrue answer ↔ Has (record { earlier = earlier; value = d })) × (IsTrue answer → why ≡ Twin → AreLabelsOf kinds set (d ∷ earlier))
