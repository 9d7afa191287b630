-- The members of an object, and the keys that it may have.
use Rattle.std.proofs.Common.{◌≡◌, ℕ, true, false, List, [], ◌∷◌, ◌++◌, ◌||◌, Some, refl, ap, subst, map, String, Global, Bor, bytes_eq, string_bytes}
use Rattle.std.specs.Cmp.Lexicographic.{nat_list_eq_equiv}
use Rattle.std.specs.List.{list_any, list_all}
use Rattle.serde_json.specs.declared.value.Value.{Value}
use Rattle.serde_json.specs.Data.{Data, null, boolean, number, string, array, object, Members}
use Rattle.serde_json.specs.Find.{as_object}
use Rattle.serde_json.specs.View.{view, members_view}
use Rattle.iris_json.specs.CityRows.{EachMember}
use Rattle.iris_json.specs.Objects.{is_among, all_among}

-- a test of what has keys is one of the keys
pub any_of_keys : {X : Type 0} (key_of : X → List ℕ) (key : List ℕ) (known : List X) → list_any (λ x. bytes_eq (key_of x) key) known ≡ is_among (map key_of known) key
any_of_keys key_of key [] = refl
any_of_keys key_of key (x ∷ known) = ap (λ b. bytes_eq (key_of x) key || b) (any_of_keys key_of key known)

-- a test of the keys of a map is one of the members that it is seen as
pub all_of_members : (keys : List (List ℕ)) (es : List (String Global × Value)) → list_all (λ key. is_among keys (string_bytes key)) (map (λ (e : String Global × Value). e.0) es) ≡ all_among keys (members_view es)
all_of_members keys [] = refl
all_of_members keys (e ∷ es) = rw (all_of_members keys es) refl

-- and so is one of the keys that references lead to
pub all_of_keys : (known : List (Bor (List ℕ))) (es : List (String Global × Value))
    → list_all (λ key. list_any (λ (k : Bor (List ℕ)). bytes_eq k.now (string_bytes key)) known) (map (λ (e : String Global × Value). e.0) es)
    ≡ all_among (map (λ (k : Bor (List ℕ)). k.now) known) (members_view es)
all_of_keys known [] = refl
all_of_keys known (e ∷ es) = rw (any_of_keys (λ (k : Bor (List ℕ)). k.now) (string_bytes e.0) known, all_of_keys known es) refl

-- a value with members is the object of these members
pub object_of : (d : Data) (ms : Members) → Some ms ≡ as_object d → d ≡ object ms
object_of null ms h = absurd (cc)
object_of (boolean b) ms h = absurd (cc)
object_of (number n) ms h = absurd (cc)
object_of (string s) ms h = absurd (cc)
object_of (array ds) ms h = absurd (cc)
object_of (object ns) ms h = cc

-- two words that a test tells apart
pub differ : (v w : List ℕ) → v ≡ w → bytes_eq v w ≡ false → ⊥
differ v w same apart = let equal : bytes_eq v w ≡ true = subst (λ (x : List ℕ). bytes_eq v x ≡ true) same (nat_list_eq_equiv.refl v) in absurd (cc (equal, apart))

-- ---- a fact of each member

-- of one member more
pub each_push : (P : List ℕ → Data → Type 0) (done : List (String Global × Value)) (e : String Global × Value) → EachMember P (members_view done) → P (string_bytes e.0) (view e.1) → EachMember P (members_view (done ++ e ∷ []))
each_push P [] e each here = (here, tt)
each_push P (d ∷ done) e each here = (each.0, each_push P done e each.1 here)

-- of a member among others
pub each_here : (P : List ℕ → Data → Type 0) (done : List (String Global × Value)) (e : String Global × Value) (more : List (String Global × Value)) → EachMember P (members_view (done ++ e ∷ more)) → P (string_bytes e.0) (view e.1)
each_here P [] e more each = each.0
each_here P (d ∷ done) e more each = each_here P done e more each.1
