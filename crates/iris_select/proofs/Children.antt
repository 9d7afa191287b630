-- What stands right below a place, one after another.
use Rattle.std.proofs.Common.{◌≡◌, ℕ, zero, suc, ◌+◌, ◌-◌, ◌<◌, ◌≤◌, Bool, ◌||◌, List, [], ◌∷◌, ◌++◌, map, length, drop, refl, ap, sym, ◌∙◌, subst, Option, Some, None, get_or, slice_get, option_map, option_and_then, arith}
use Rattle.std.specs.List.{list_any}
use Rattle.std.proofs.lemmas.List.{length-append, length-map}
use Rattle.std.proofs.lemmas.Option.{slice_get-get_or}
use Rattle.iris_base.specs.declared.name.Label.{Label}
use Rattle.iris_tree.specs.declared.plain.Plain.{Plain}
use Rattle.iris_tree.specs.Universe.{Node, label_of}
use Rattle.iris_tree.specs.Document.{Edge, position, label, Place, Part, whole, a_node, a_plain, part_at_place}
use Rattle.iris_xpath.proofs.Passes.{or_assoc}
use Rattle.iris_select.specs.Parts.{Child, child, plain_children, node_child, children, child_part, part_below, places_in}

-- how many plain elements there are
pub length_plain : (i : ℕ) (ps : List Plain) → length (plain_children i ps) ≡ length ps
length_plain i [] = refl
length_plain i (p ∷ ps) = ap suc (length_plain (i + 1) ps)

length_nodes : (ns : List Node) → length (map node_child ns) ≡ length ns
length_nodes [] = refl
length_nodes (n ∷ ns) = ap suc (length_nodes ns)

-- how many there are
pub length_all : (ps : List Plain) (ns : List Node) → length ps + length ns ≡ length (plain_children 0 ps ++ map node_child ns)
length_all ps ns = omega (arith, length-append (plain_children 0 ps) (map node_child ns), length_plain 0 ps, length_nodes ns)

plain_from : (i k : ℕ) (ps : List Plain) (more : List Child) (p : Plain) → slice_get ps k ≡ Some p → slice_get (plain_children i ps ++ more) k ≡ Some (child (position (i + k)) (a_plain p))
plain_from i k [] more p h = absurd (cc)
plain_from i zero (q ∷ ps) more p h =
    let same : q ≡ p = cc in
    let e : i ≡ i + 0 = omega arith in
    ap (λ (r : Plain). Some (child (position i) (a_plain r))) same ∙ ap (λ m. Some (child (position m) (a_plain p))) e
plain_from i (suc k) (q ∷ ps) more p h =
    plain_from (i + 1) k ps more p h ∙ ap (λ m. Some (child (position m) (a_plain p))) (let e : (i + 1) + k ≡ i + suc k = omega arith in e)

-- a plain element among them
pub plain_get : (ps : List Plain) (more : List Child) (k : ℕ) (p : Plain) → k < length ps → p ≡ get_or ps k p → slice_get (plain_children 0 ps ++ more) k ≡ Some (child (position k) (a_plain p))
plain_get ps more k p within is =
    let e : 0 + k ≡ k = omega arith in
    plain_from 0 k ps more p (slice_get-get_or ps k p within ∙ ap (λ (q : Plain). Some q) (sym is)) ∙ ap (λ m. Some (child (position m) (a_plain p))) e

skip_plain : (i k : ℕ) (ps : List Plain) (more : List Child) → slice_get (plain_children i ps ++ more) (length ps + k) ≡ slice_get more k
skip_plain i k [] more = let e : 0 + k ≡ k = omega arith in ap (λ m. slice_get more m) e
skip_plain i k (p ∷ ps) more =
    let e : suc (length ps) + k ≡ suc (length ps + k) = omega arith in
    ap (λ m. slice_get (plain_children i (p ∷ ps) ++ more) m) e ∙ skip_plain (i + 1) k ps more

get_mapped : {A B : Type 0} (f : A → B) (xs : List A) (k : ℕ) → slice_get (map f xs) k ≡ option_map f (slice_get xs k)
get_mapped f [] k = refl
get_mapped f (x ∷ xs) zero = refl
get_mapped f (x ∷ xs) (suc k) = get_mapped f xs k

-- whether that position is one of a node
pub node_within : (ps : List Plain) (ns : List Node) (k : ℕ) → k < length (plain_children 0 ps ++ map node_child ns) → length ps ≤ k → k - length ps < length ns
node_within ps ns k within past = omega (arith, length_all ps ns)

-- a node among them
pub node_get : (ps : List Plain) (ns : List Node) (k : ℕ) (n : Node) (l : Label) → length ps ≤ k → k - length ps < length ns → n ≡ get_or ns (k - length ps) n → l ≡ label_of n
    → slice_get (plain_children 0 ps ++ map node_child ns) k ≡ Some (child (label l) (a_node n))
node_get ps ns k n l past within is labelled =
    let j = k - length ps in
    let split : k ≡ length ps + j = omega arith in
    ap (λ (m : ℕ). slice_get (plain_children 0 ps ++ map node_child ns) m) split
    ∙ skip_plain 0 j ps (map node_child ns)
    ∙ get_mapped node_child ns j
    ∙ ap (option_map node_child) (slice_get-get_or ns j n within ∙ ap (λ (m : Node). Some m) (sym is))
    ∙ ap (λ (m : Label). Some (child (label m) (a_node n))) (sym labelled)

-- the one in hand, and those that are left
pub drop_one : {A : Type 0} (xs : List A) (k : ℕ) (x : A) → slice_get xs k ≡ Some x → drop k xs ≡ x ∷ drop (k + 1) xs
drop_one [] k x h = absurd (cc)
drop_one (y ∷ ys) zero x h =
    let same : y ≡ x = cc in
    let e : suc 0 ≡ 0 + 1 = omega arith in
    ap (λ z. z ∷ ys) same ∙ ap (λ m. x ∷ drop m (y ∷ ys)) e
drop_one (y ∷ ys) (suc k) x h =
    let e : suc (k + 1) ≡ suc k + 1 = omega arith in
    drop_one ys k x h ∙ ap (λ m. x ∷ drop m (y ∷ ys)) e
