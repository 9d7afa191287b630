-- Tables as functions of names, agents and numbers, and what holds of each or of one element of a list.
use Rattle.std.specs.Prelude.{◌≡◌, ◌⊎◌, ℕ, Bool, nat_eq, if◌then◌else◌, List, [], ◌∷◌, Option, Some, None, refl}
use Rattle.std.specs.Bool.{Decides}
use Rattle.std.specs.Cmp.{unsigned_Decides}
use Rattle.std.specs.Cmp.Lexicographic.{pointwise}
use Rattle.std.proofs.lemmas.Slice.Eq.{slice_eq-Decides}
use Rattle.iris_base.specs.declared.name.Label.{Label}
use Rattle.iris_base.specs.NameOrder.{label_eq}
use Rattle.iris_base.proofs.Labels.{label_eq-Decides}

-- the name of a node: its labels from the top node's down
abbrev pub Name : Type 0
Name = List Label

-- the id of an agent
abbrev pub AgentId : Type 0
AgentId = List ℕ

-- a test of equality
pub record Keys (K : Type 0) : Type 0 where
  pub same : K → K → Bool
  pub decides : (j k : K) → Decides (same j k) (j ≡ k)

-- names are equal label by label
abbrev pub names : Keys Name
names = record { same = pointwise label_eq; decides = λ j k. slice_eq-Decides label_eq-Decides j k (pointwise label_eq j k) refl }

-- ids of agents are equal byte by byte
abbrev pub agents : Keys AgentId
agents = record { same = pointwise nat_eq; decides = λ j k. slice_eq-Decides unsigned_Decides j k (pointwise nat_eq j k) refl }

abbrev pub numbers : Keys ℕ
numbers = record { same = nat_eq; decides = unsigned_Decides }

-- the table with another value at that key
abbrev pub set_at : {K A : Type 0} → Keys K → (K → A) → K → A → K → A
set_at keys f k v j = if keys.same j k then v else f j

-- a table of tables, with another value at an agent and a number
abbrev pub set_in : {A : Type 0} → (AgentId → ℕ → A) → AgentId → ℕ → A → AgentId → ℕ → A
set_in f a g v = set_at agents f a (set_at numbers (f a) g v)

abbrev pub OfSome : {A : Type 0} → (A → Type 0) → Option A → Type 0
OfSome P None = Unit {0}
OfSome P (Some x) = P x

abbrev pub Each : {A : Type 0} → (A → Type 0) → List A → Type 0
Each P [] = Unit {0}
Each P (x ∷ xs) = P x × Each P xs

abbrev pub Among : {A : Type 0} → (A → Type 0) → List A → Type 0
Among P [] = ⊥
Among P (x ∷ xs) = P x ⊎ Among P xs

-- no two are the same
abbrev pub Distinct : {A : Type 0} → List A → Type 0
Distinct [] = Unit {0}
Distinct (x ∷ xs) = (Among (λ y. y ≡ x) xs → ⊥) × Distinct xs
