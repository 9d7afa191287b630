-- How the updates of nodes lie: in one list, each linked to earlier ones of its node.
use Rattle.std.specs.Prelude.{◌≡◌, ℕ, ◌+◌, ◌<◌, ◌≤◌, ◌==◌, List, [], length, take, filter, slice_index, slice_index_or, refl}
use Rattle.std.specs.Coded.{Coded, code_by, coded×, coded_ℕ, coded_list}
use Rattle.std.specs.List.{IsDistinct}
use Rattle.std.specs.Cmp.Lexicographic.{pointwise}
use Rattle.iris_base.specs.declared.name.Label.{Label}
use Rattle.iris_base.specs.NameOrder.{label_eq}
use Rattle.iris_book.specs.declared.update.NodeUpdate.{NodeUpdate}
use Rattle.iris_book.specs.declared.linked.LinkedUpdate.{LinkedUpdate}
use Rattle.iris_book.specs.Book.{Updates}

-- the updates in their order, and how many more take no memory
pub record AcceptedUpdates : Type 0 where
  pub updates : Updates
  pub spare : ℕ

-- how proofs store them
abbrev pub accepted_updates_code : Coded Label → Coded NodeUpdate → Coded AcceptedUpdates
accepted_updates_code label update =
    code_by (Updates × ℕ) (coded× (coded_list (coded× (coded_list label) update)) coded_ℕ) (λ a. (a.updates, a.spare)) (λ p. record { updates = p.0; spare = p.1 }) (λ _. refl)

-- an update with the name of its node
abbrev pub named_update : List (List Label) → LinkedUpdate → List Label × NodeUpdate
named_update names e = (slice_index_or names e.node [], e.update)

-- those of the node of that number
abbrev pub of_node : ℕ → List LinkedUpdate → List LinkedUpdate
of_node node es = filter (λ e. e.node == node) es

-- at that place is an update of that node, with so many before it
pub record IsAt (es : List LinkedUpdate) (place node before : ℕ) : Type 0 where
  pub within : place < length es
  pub node_is : (d : LinkedUpdate) → (slice_index_or es place d).node ≡ node
  pub before_is : (d : LinkedUpdate) → (slice_index_or es place d).before ≡ before

-- at that place is an update of the same node, with fewer before it than before e, but at least so many
pub record IsStep (es : List LinkedUpdate) (at : ℕ) (e : LinkedUpdate) (number place : ℕ) : Type 0 where
  pub before : ℕ
  pub here : IsAt es place e.node before
  pub enough : number ≤ before
  pub fewer : before < e.before

-- how an update is linked to those before it
pub record IsLinked (es : List LinkedUpdate) (place : ℕ) (e : LinkedUpdate) : Type 0 where
  pub counted : e.before ≡ length (of_node e.node (take place es))
  pub earlier : (n : ℕ) → e.before ≡ n + 1 → IsAt es e.earlier e.node n
  pub jump : (n : ℕ) × IsAt es e.jump e.node n × (n ≤ e.before) × (0 < e.before → n < e.before)

-- all are linked to those before them
abbrev pub AllLinked : List LinkedUpdate → Type 0
AllLinked es = (place : ℕ) (d : LinkedUpdate) → place < length es → IsLinked es place (slice_index_or es place d)

-- all are linked, and of each node the last update is known
pub record AreLinked (nodes : ℕ) (last : List ℕ) (es : List LinkedUpdate) : Type 0 where
  pub links : AllLinked es
  pub known : (place : ℕ) (d : LinkedUpdate) → place < length es → (slice_index_or es place d).node < nodes
  pub lasts : length last ≡ nodes
  pub ends : (node : ℕ) → node < nodes → (n : ℕ) × (length (of_node node es) ≡ n + 1) × IsAt es (slice_index last node) node n

-- the names are apart, and the updates are linked
pub record AreOrderly (names : List (List Label)) (last : List ℕ) (es : List LinkedUpdate) : Type 0 where
  pub apart : IsDistinct (pointwise label_eq) names
  pub linked : AreLinked (length names) last es
