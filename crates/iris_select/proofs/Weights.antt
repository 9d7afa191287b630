-- Why evaluation ends: what is evaluated is smaller, or stands lower.
use Rattle.std.proofs.Common.{◌≡◌, ℕ, zero, suc, ◌+◌, ◌*◌, ◌<◌, ◌≤◌, Bool, true, false, ◌&&◌, ◌||◌, List, [], ◌∷◌, ◌++◌, map, length, refl, ap, sym, ◌∙◌, subst, Option, Some, None, get_or, slice_get, option_and_then, arith}
use Rattle.std.proofs.Math.Dec.{leb}
use Rattle.std.proofs.lemmas.Bool.{leb-false, lt-leb}
use Rattle.std.proofs.Math.Nat.{mul-le-mul_right, suc-mul}
use Rattle.std.specs.List.{list_any, flat_map}
use Rattle.std.proofs.lemmas.List.{length-append}
use Rattle.iris_tree.specs.Universe.{Node, IsOrdered}
use Rattle.iris_tree.specs.Document.{Edge, Place, Part, whole, part_at_place, places}
use Rattle.iris_xpath.specs.Places.{edge_eq}
use Rattle.iris_xpath.proofs.Below.{first_found}
use Rattle.iris_xpath.proofs.Passes.{and_never}
use Rattle.iris_select.specs.Parts.{Child, child, children, child_part, part_below, places_in, InOrder}
use Rattle.iris_select.proofs.Parts.{under, places_form, one_child, part_here, part_step, order_below}

-- ---- places

-- how many places lie at and below a part
abbrev pub size_in : Node → Part → ℕ
size_in document part = length (places_in document part)

length_mapped : {A B : Type 0} (f : A → B) (xs : List A) → length (map f xs) ≡ length xs
length_mapped f [] = refl
length_mapped f (x ∷ xs) = ap suc (length_mapped f xs)

length_under : (document : Node) (c : Child) → length (under document c) ≡ size_in document c.part
length_under document c = length_mapped (λ place. c.edge ∷ place) (places_in document c.part)

one_smaller : (document : Node) (cs : List Child) (k : ℕ) (c : Child) → slice_get cs k ≡ Some c → size_in document c.part ≤ length (flat_map (under document) cs)
one_smaller document [] k c h = absurd (cc)
one_smaller document (d ∷ ds) zero c h =
    let same : d ≡ c = cc in
    let e : size_in document d.part ≡ size_in document c.part = ap (λ (x : Child). size_in document x.part) same in
    omega (arith, length-append (under document d) (flat_map (under document) ds), length_under document d, e)
one_smaller document (d ∷ ds) (suc k) c h =
    omega (arith, length-append (under document d) (flat_map (under document) ds), one_smaller document ds k c h)

size_form : (document : Node) (part : Part) → size_in document part ≡ suc (length (flat_map (under document) (children document part)))
size_form document part = ap (λ (ps : List Place). length ps) (places_form document part)

-- what stands right below is smaller
pub child_smaller : (document : Node) (part : Part) (k : ℕ) (c : Child) → slice_get (children document part) k ≡ Some c → size_in document c.part < size_in document part
child_smaller document part k c h = omega (arith, size_form document part, one_smaller document (children document part) k c h)

none_larger : (document : Node) (e : Edge) (n : ℕ) (cs : List Child) → length (flat_map (under document) cs) < n → list_any (λ c. edge_eq e c.edge && leb n (size_in document c.part)) cs ≡ false
none_larger document e n [] h = refl
none_larger document e n (c ∷ cs) h =
    let whole_length : length (under document c ++ flat_map (under document) cs) ≡ length (under document c) + length (flat_map (under document) cs) = length-append (under document c) (flat_map (under document) cs) in
    let here : size_in document c.part < n = omega (arith, length_under document c, whole_length) in
    rw (lt-leb n (size_in document c.part) here, and_never (edge_eq e c.edge)) (none_larger document e n cs (omega (arith, whole_length)))

-- what stands at an edge is smaller
pub edge_smaller : (document : Node) (part y : Part) (e : Edge) → InOrder document part → child_part document part e ≡ Some y → size_in document y < size_in document part
edge_smaller document part y e ordered h =
    let n = size_in document part in
    let none : leb n (size_in document y) ≡ false = sym (one_child document part y e (λ c. leb n (size_in document c.part)) ordered h) ∙ none_larger document e n (children document part) (omega (arith, size_form document part)) in
    omega (arith, leb-false n (size_in document y) none)

path_smaller : (document : Node) (part : Part) (path : Place) (y : Part) → InOrder document part → part_below document part path ≡ Some y → size_in document y ≤ size_in document part
path_smaller document part [] y ordered h =
    let it : part ≡ y = let here : part_below document part [] ≡ Some part = part_here document part in cc in
    omega (arith, ap (λ (x : Part). size_in document x) it)
path_smaller document part (e ∷ path) y ordered h =
    let c = first_found (λ at. part_below document at path) (child_part document part e) y (sym (part_step document part e path) ∙ h) in
    omega (arith, edge_smaller document part c.0 e ordered c.1, path_smaller document c.0 path y (order_below document part c.0 e ordered c.1) c.2)

-- what stands at a place is no larger than the document
pub part_smaller : (document : Node) (place : Place) (part : Part) → IsOrdered document → part_at_place document place ≡ Some part → size_in document part ≤ length (places document)
part_smaller document place part ordered there = path_smaller document whole place part ordered there

-- ---- both

-- above all places
abbrev pub room : Node → ℕ
room document = 2 * length (places document) + 3

-- first by what is evaluated, then by how high it stands
abbrev pub rank : Node → ℕ → ℕ → ℕ
rank document size height = size * room document + height

-- what is smaller is lower
pub falls : (document : Node) (e' e t' t : ℕ) → e' < e → t' < room document → rank document e' t' < rank document e t
falls document e' e t' t less fits =
    let upto : suc e' ≤ e = omega (arith, less) in
    let more : suc e' * room document ≤ e * room document = mul-le-mul_right (room document) upto in
    let one : suc e' * room document ≡ e' * room document + room document = suc-mul e' (room document) in
    omega (arith, more, one)
