-- The level of the need for a name, among needs in the order of names.
use Rattle.std.proofs.Common.{◌≡◌, ℕ, ◌<◌, ◌≤◌, Bool, true, false, cond, ◌⊎◌, inl, inr, List, [], ◌∷◌, map, length, get_or, Contains, Some, None, Result, Ok, Err, MatchResult, refl, sym, ◌∙◌, ap, subst, arith}
use Rattle.std.specs.Cmp.Lexicographic.{pointwise}
use Rattle.std.specs.List.{AllByRecursion}
use Rattle.std.specs.List.Sorted.{IsStrictlySortedBy, IsBinarySearchResult, IsSearchInRange}
use Rattle.std.specs.Ordering.{is_eq}
use Rattle.std.specs.declared.cmp.Ordering.{Ordering}
use Rattle.std.specs.declared.cmp.Ordering.TheVariants.{Less, Greater}
use Rattle.std.proofs.lemmas.Bool.{cases_lt}
use Rattle.std.proofs.lemmas.List.Elements.{All-from_recursion, All-contains, All-contains_itself, recursion_from_All}
use Rattle.iris_base.specs.declared.name.Label.{Label}
use Rattle.iris_base.specs.NameOrder.{label_eq, names_total, names_ties}
use Rattle.iris_tree.proofs.Rising.{comparisons_rise}
use Rattle.iris_fragment.specs.declared.piece.Level.{Level}
use Rattle.iris_fragment.proofs.Names.{name_exact, alike_self, alike_exact}
use Rattle.iris_need.specs.declared.need.Need.{Need}
use Rattle.iris_need.specs.HeldParts.{level_at}
use Rattle.iris_need.specs.Laws.{need_cmp, AreOrderedNeeds}
use Rattle.iris_need.proofs.Pieces.{names_cmp}
use Rattle.iris_need.proofs.Run.{contains_first, contains_later, first_or_later}

-- names that are not equal in their order are not alike
unlike : (m n : List Label) (o : Ordering) → names_cmp m n ≡ o → is_eq o ≡ false → pointwise label_eq m n ≡ false
unlike m n o h e = names_ties m n ∙ ap is_eq h ∙ e

first_level : (need : Need) (needs : List Need) (name : List Label) (b : Bool) → pointwise label_eq need.name name ≡ b → level_at (need ∷ needs) name ≡ cond b (Some need.level) (level_at needs name)
first_level need needs name b h = ap (λ (c : Bool). cond c (Some need.level) (level_at needs name)) h

-- the need for a name tells its level
pub level_there : (needs : List Need) (need : Need) → AreOrderedNeeds needs → Contains needs need → level_at needs need.name ≡ Some need.level
unfolding IsStrictlySortedBy
level_there [] need ordered there = absurd (omega (arith, there.1))
level_there (first ∷ needs) need ordered there = elim (first_or_later first needs need there) [
  | inl same ↦ subst (λ (n : Need). level_at (first ∷ needs) n.name ≡ Some n.level) same (first_level first needs first.name true (alike_self first.name))
  | inr later ↦
      let less : names_cmp first.name need.name ≡ Less = All-contains (λ n. need_cmp first n ≡ Less) needs need (All-from_recursion (λ n. need_cmp first n ≡ Less) needs ordered.0) later in
      first_level first needs need.name false (unlike first.name need.name Less less refl) ∙ level_there needs need ordered.1 later
]

none_alike : (needs : List Need) (name : List Label) → AllByRecursion (λ need. pointwise label_eq need.name name ≡ false) needs → level_at needs name ≡ None
none_alike [] name h = refl
none_alike (need ∷ needs) name h = first_level need needs name false h.0 ∙ none_alike needs name h.1

names_after : (first : Need) (needs : List Need) → AllByRecursion (λ need. need_cmp first need ≡ Less) needs → AllByRecursion (λ name. names_cmp first.name name ≡ Less) (map (λ need. need.name) needs)
names_after first [] h = tt
names_after first (need ∷ needs) h = (h.0, names_after first needs h.1)

names_rise : (needs : List Need) → AreOrderedNeeds needs → IsStrictlySortedBy names_cmp (map (λ need. need.name) needs)
unfolding IsStrictlySortedBy
names_rise [] h = tt
names_rise (need ∷ needs) h = (names_after need needs h.0, names_rise needs h.1)

-- where a search for a name found a need, and where it found none
pub searched_level : (needs : List Need) (name : List Label) (r : Result ℕ ℕ) → AreOrderedNeeds needs → IsSearchInRange r (length needs) → IsBinarySearchResult (λ need. names_cmp need.name name) needs r
    → MatchResult r (λ at. (d : Need) → Some (get_or needs at d).level ≡ level_at needs name) (λ at. None ≡ level_at needs name)
searched_level needs name (Ok at) ordered within same = λ d.
    let need = get_or needs at d in
    sym (ap (level_at needs) (sym (name_exact need.name name (same d))) ∙ level_there needs need ordered (All-contains_itself needs at d within))
searched_level needs name (Err at) ordered within parted =
    sym (none_alike needs name (recursion_from_All (λ need. pointwise label_eq need.name name ≡ false) needs (λ k d lt. by k d lt (cases_lt k at))))
  where
    by : (k : ℕ) (d : Need) → k < length needs → (k < at) ⊎ (at ≤ k) → pointwise label_eq (get_or needs k d).name name ≡ false
    by k d lt (inl before) = unlike (get_or needs k d).name name Less ((parted (comparisons_rise names_total (λ need. need.name) needs name (names_rise needs ordered))).0 k d (omega arith) before) refl
    by k d lt (inr after) = unlike (get_or needs k d).name name Greater ((parted (comparisons_rise names_total (λ need. need.name) needs name (names_rise needs ordered))).1 k d after lt) refl

-- a level that is told is that of a need for the name
pub level_from : (needs : List Need) (name : List Label) (level : Level) → level_at needs name ≡ Some level → (need : Need) × Contains needs need × (need.name ≡ name) × (need.level ≡ level)
level_from [] name level h = absurd (cc)
level_from (need ∷ needs) name level h = by (pointwise label_eq need.name name) refl h (λ at. level_from needs name level at)
  where
    by : (b : Bool) → pointwise label_eq need.name name ≡ b → cond b (Some need.level) (level_at needs name) ≡ Some level → (level_at needs name ≡ Some level → (n : Need) × Contains needs n × (n.name ≡ name) × (n.level ≡ level))
        → (n : Need) × Contains (need ∷ needs) n × (n.name ≡ name) × (n.level ≡ level)
    by true same at later = let is : need.level ≡ level = cc in (need, contains_first need needs, alike_exact need.name name same, is)
    by false other at later = let found = later at in (found.0, contains_later need needs found.0 found.1, found.2, found.3)
