-- What the nodes of a city hold, each by its name.
use Rattle.std.proofs.Common.{◌≡◌, ℕ, zero, suc, Bool, true, false, List, [], ◌∷◌, Option, Some, None, option_and_then, if◌then◌else◌, refl, subst}
use Rattle.std.specs.Prelude.{option_map}
use Rattle.std.specs.List.{find}
use Rattle.iris_base.specs.declared.name.Label.{Label}
use Rattle.iris_base.specs.NameOrder.{label_eq}
use Rattle.iris_tree.specs.declared.local.Local.{Local}
use Rattle.iris_tree.specs.NamesId.{NamesNoIdAnywhere}
use Rattle.iris_tree.specs.PlainOrder.{IsCanonical, EachLocal}
use Rattle.iris_tree.specs.Universe.{Node, node, Nodes, no_nodes, nodes, list_of, label_of, local_of, child_of, part_at}
use Rattle.iris_json.specs.CityForm.{IsCityOwn, IsCityNode, AreCityNodes}

child_fits : (kinds : List (List ℕ)) (levels : ℕ) (label : Label) (ns : Nodes) (child : Node) → AreCityNodes kinds levels ns → child_of label (list_of ns) ≡ Some child → IsCityNode kinds levels child
child_fits kinds levels label no_nodes child fit at = absurd (cc)
child_fits kinds levels label (nodes n ns) child fit at = by (label_eq (label_of n) label) at (child_fits kinds levels label ns child fit.1)
  where
    by : (b : Bool) → (if b then Some n else find (λ m. label_eq (label_of m) label) (list_of ns)) ≡ Some child → (child_of label (list_of ns) ≡ Some child → IsCityNode kinds levels child) → IsCityNode kinds levels child
    by true found rest = let same : n ≡ child = cc in subst (IsCityNode kinds levels) same fit.0
    by false found rest = rest found

-- a node below a node of a city
part_fits : (kinds : List (List ℕ)) (levels : ℕ) (n : Node) (labels : List Label) (m : Node) → IsCityNode kinds levels n → part_at n labels ≡ Some m → IsCityOwn kinds (label_of m) (local_of m)
part_fits kinds zero n labels m fits at = absurd fits
part_fits kinds (suc levels) (node called held below) [] m fits at =
    let same : node called held below ≡ m = cc in subst (λ (x : Node). IsCityOwn kinds (label_of x) (local_of x)) same fits.0
part_fits kinds (suc levels) (node called held below) (label ∷ labels) m fits at = by (child_of label (list_of below)) refl at (λ child fit found. part_fits kinds levels child labels m fit found)
  where
    by : (o : Option Node) → child_of label (list_of below) ≡ o → option_and_then (λ child. part_at child labels) o ≡ Some m → ((child : Node) → IsCityNode kinds levels child → part_at child labels ≡ Some m → IsCityOwn kinds (label_of m) (local_of m)) → IsCityOwn kinds (label_of m) (local_of m)
    by None is found rest = absurd (cc)
    by (Some child) is found rest = rest child (child_fits kinds levels label below child fits.2 is) found

-- what holds of all that a node of a city may hold holds of what each node of the tree holds
pub each_local : (kinds : List (List ℕ)) (levels : ℕ) (P : Local → Type 0) → ((label : Label) (l : Local) → IsCityOwn kinds label l → P l) → (tree : Node) → IsCityNode kinds levels tree → EachLocal P tree
each_local kinds levels P own tree fits [] l at = absurd (cc)
each_local kinds levels P own tree fits (label ∷ labels) l at = by (label_eq (label_of tree) label) (part_at tree labels) refl at
  where
    by : (b : Bool) (o : Option Node) → part_at tree labels ≡ o → option_map local_of (if b then o else None) ≡ Some l → P l
    by false o is found = absurd (cc)
    by true None is found = absurd (cc)
    by true (Some m) is found = let same : local_of m ≡ l = cc in subst P same (own (label_of m) (local_of m) (part_fits kinds levels tree labels m fits is))

-- the plain elements of a city are canonical
pub city_canonical : (kinds : List (List ℕ)) (levels : ℕ) (tree : Node) → IsCityNode kinds levels tree → EachLocal IsCanonical tree
city_canonical kinds levels = each_local kinds levels IsCanonical (λ label l own. own.canonical)

-- no attribute of a city is named `id`
pub city_names_no_id : (kinds : List (List ℕ)) (levels : ℕ) (tree : Node) → IsCityNode kinds levels tree → NamesNoIdAnywhere tree
city_names_no_id kinds levels = each_local kinds levels _ (λ label l own. own.no_id)
