-- Attributes as the list of their names and values, in the order of the names.
use Rattle.std.specs.Prelude.{◌≡◌, ℕ, ◌<◌, ◌≤◌, List, length, slice_index_or, Option, Bool, nat_eq, ◌&&◌}
use Rattle.std.specs.declared.cmp.Ordering.{Ordering}
use Rattle.std.specs.declared.cmp.Ordering.TheVariants.{Less, Equal, Greater}
use Rattle.std.specs.Ordering.{nat_cmp}
use Rattle.std.specs.Cmp.Lexicographic.{slice_cmp, pointwise, nat_list_eq_equiv}
use Rattle.std.specs.Cmp.{IsEquivalence, on_equiv, and_equiv}
use Rattle.std.specs.List.Sorted.{IsStrictlySortedBy}
use Rattle.std.specs.Map.{keys_of, lookup, remove_entry}
use Rattle.std.specs.BTreeMap.{is_at, insert_entry}

-- a name and a value for each attribute
abbrev pub Pairs : Type 0
Pairs = List (List ℕ × List ℕ)

-- the value of the attribute of that name
abbrev pub value_of : Pairs → List ℕ → Option (List ℕ)
value_of pairs name = lookup (is_at (slice_cmp nat_cmp name)) pairs

-- the attributes with that value at that name
abbrev pub with_attr : Pairs → List ℕ → List ℕ → Pairs
with_attr pairs name value = insert_entry (slice_cmp nat_cmp) pairs name value

-- the attributes but that of that name
abbrev pub without_attr : Pairs → List ℕ → Pairs
without_attr pairs name = remove_entry (is_at (slice_cmp nat_cmp name)) pairs

-- ---- their order

-- the order of names
abbrev pub name_cmp : List ℕ → List ℕ → Ordering
name_cmp = slice_cmp nat_cmp

-- the names rise, so no two attributes have the same one
abbrev pub AreInNameOrder : Pairs → Type 0
AreInNameOrder pairs = IsStrictlySortedBy name_cmp (keys_of pairs)

-- the names before that place are less
abbrev pub AreLessUpTo : ℕ → Pairs → List ℕ → Type 0
AreLessUpTo at pairs name = (i : ℕ) (d : List ℕ × List ℕ) → i < at → name_cmp name (slice_index_or pairs i d).0 ≡ Greater

-- the attribute of that name stands at that place
abbrev pub StandsAt : Pairs → List ℕ → ℕ → Type 0
StandsAt pairs name at = (at < length pairs) × AreLessUpTo at pairs name × ((d : List ℕ × List ℕ) → name_cmp name (slice_index_or pairs at d).0 ≡ Equal)

-- no attribute has that name, and one that had it would stand at that place
abbrev pub WouldStandAt : Pairs → List ℕ → ℕ → Type 0
WouldStandAt pairs name at = (at ≤ length pairs) × AreLessUpTo at pairs name × ((d : List ℕ × List ℕ) → at < length pairs → name_cmp name (slice_index_or pairs at d).0 ≡ Less)

-- ---- equality

-- the same name and the same value
abbrev pub pair_eq : List ℕ × List ℕ → List ℕ × List ℕ → Bool
pair_eq p q = pointwise nat_eq p.0 q.0 && pointwise nat_eq p.1 q.1

-- that is an equivalence
pub pair_equiv : IsEquivalence pair_eq
pair_equiv = and_equiv (on_equiv (λ p. p.0) nat_list_eq_equiv) (on_equiv (λ p. p.1) nat_list_eq_equiv)
