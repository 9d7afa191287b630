-- Looks merged by name: each look is covered by a need of its name, at its level or a greater one.
use Rattle.std.proofs.Common.{◌≡◌, Bool, true, false, cond, ◌⊎◌, inl, inr, List, [], ◌∷◌, map, filter, fold, Contains, refl, sym, ap, subst, ◌∙◌, arith}
use Rattle.std.specs.Cmp.Lexicographic.{slice_cmp}
use Rattle.std.specs.declared.cmp.Ordering.{Ordering}
use Rattle.std.specs.declared.cmp.Ordering.TheVariants.{Less, Equal, Greater}
use Rattle.iris_base.specs.declared.name.Label.{Label}
use Rattle.iris_base.specs.NameOrder.{label_cmp}
use Rattle.iris_fragment.specs.declared.piece.Level.{Level}
use Rattle.iris_fragment.specs.declared.piece.Level.TheVariants.{Ids, Full}
use Rattle.iris_fragment.proofs.Names.{name_exact}
use Rattle.iris_xpath.specs.Syntax.{Syntax}
use Rattle.iris_need.specs.declared.need.Need.{Need}
use Rattle.iris_need.specs.declared.need.Start.{Start}
use Rattle.iris_need.specs.Run.{View, meets}
use Rattle.iris_need.specs.Needs.{seen_from, looks, is_missing, missing_in, support_in, greater, put_look, with_look, merged, without_states}
use Rattle.iris_need.specs.Alike.{Reaches, IsCoveredBy}
use Rattle.iris_need.proofs.Run.{contains_first, contains_later, first_or_later}

-- one of these needs is of that name, at that level or a greater one
abbrev pub Covers : List Need → List Label → Level → Type 0
Covers [] name l = ⊥
Covers (need ∷ needs) name l = ((need.name ≡ name) × Reaches need.level l) ⊎ Covers needs name l

reaches_itself : (l : Level) → Reaches l l
reaches_itself Ids = tt
reaches_itself Full = tt

reaches_first : (m n l : Level) → Reaches m l → Reaches (greater m n) l
reaches_first Full n l h = h
reaches_first Ids Ids l h = h
reaches_first Ids Full l h = tt

reaches_second : (m n l : Level) → Reaches n l → Reaches (greater m n) l
reaches_second Full n l h = tt
reaches_second Ids n l h = h

put_new : (o : Ordering) (look need : Need) (needs more : List Need) → slice_cmp label_cmp look.name need.name ≡ o → Covers more look.name look.level → Covers (put_look o look need needs more) look.name look.level
put_new Less look need needs more at h = inl (refl, reaches_itself look.level)
put_new Equal look need needs more at h = inl (sym (name_exact look.name need.name at), reaches_second need.level look.level look.level (reaches_itself look.level))
put_new Greater look need needs more at h = inr h

covers_new : (needs : List Need) (look : Need) → Covers (with_look needs look) look.name look.level
covers_new [] look = inl (refl, reaches_itself look.level)
covers_new (need ∷ needs) look = put_new (slice_cmp label_cmp look.name need.name) look need needs (with_look needs look) refl (covers_new needs look)

put_old : (o : Ordering) (look need : Need) (needs more : List Need) (name : List Label) (l : Level) → (Covers needs name l → Covers more name l) → Covers (need ∷ needs) name l → Covers (put_look o look need needs more) name l
put_old Less look need needs more name l f h = inr h
put_old Equal look need needs more name l f (inl h) = inl (h.0, reaches_first need.level look.level l h.1)
put_old Equal look need needs more name l f (inr h) = inr h
put_old Greater look need needs more name l f (inl h) = inl h
put_old Greater look need needs more name l f (inr h) = inr (f h)

covers_old : (needs : List Need) (look : Need) (name : List Label) (l : Level) → Covers needs name l → Covers (with_look needs look) name l
covers_old [] look name l h = absurd h
covers_old (need ∷ needs) look name l h = put_old (slice_cmp label_cmp look.name need.name) look need needs (with_look needs look) name l (covers_old needs look name l) h

fold_old : (looks needs : List Need) (name : List Label) (l : Level) → Covers needs name l → Covers (fold with_look needs looks) name l
fold_old [] needs name l h = h
fold_old (look ∷ looks) needs name l h = fold_old looks (with_look needs look) name l (covers_old needs look name l h)

fold_covers : (looks needs : List Need) (look : Need) → Contains looks look → Covers (fold with_look needs looks) look.name look.level
fold_covers [] needs look there = absurd (omega (arith, there.1))
fold_covers (first ∷ looks) needs look there = elim (first_or_later first looks look there) [
  | inl same ↦ subst (λ (n : Need). Covers (fold with_look (with_look needs first) looks) n.name n.level) same (fold_old looks (with_look needs first) first.name first.level (covers_new needs first))
  | inr later ↦ fold_covers looks (with_look needs first) look later
]

-- each look is covered by what is merged of all
pub merged_covers : (looks : List Need) (look : Need) → Contains looks look → Covers (merged looks) look.name look.level
merged_covers looks look there = fold_covers looks [] look there

bare_there : (looks : List Need) (look : Need) → Contains looks look → Contains (map without_states looks) (without_states look)
bare_there [] look there = absurd (omega (arith, there.1))
bare_there (first ∷ looks) look there = elim (first_or_later first looks look there) [
  | inl same ↦ subst (λ (n : Need). Contains (map without_states (first ∷ looks)) (without_states n)) same (contains_first (without_states first) (map without_states looks))
  | inr later ↦ contains_later (without_states first) (map without_states looks) (without_states look) (bare_there looks look later)
]

-- also without states
pub bare_covers : (looks : List Need) (look : Need) → Contains looks look → Covers (merged (map without_states looks)) look.name look.level
bare_covers looks look there = merged_covers (map without_states looks) (without_states look) (bare_there looks look there)

-- an element that passes is among what a filter keeps
pub filtered : {X : Type 0} (p : X → Bool) (x : X) → p x ≡ true → (xs : List X) → Contains xs x → Contains (filter p xs) x
filtered p x pass [] there = absurd (omega (arith, there.1))
filtered {X = X} p x pass (first ∷ xs) there = by (p first) refl (first_or_later first xs x there) (filtered p x pass xs)
  where
    by : (b : Bool) → p first ≡ b → (first ≡ x) ⊎ Contains xs x → (Contains xs x → Contains (filter p xs) x) → Contains (cond b (first ∷ filter p xs) (filter p xs)) x
    by true at (inl same) rest = subst (λ (y : X). Contains (first ∷ filter p xs) y) same (contains_first first (filter p xs))
    by true at (inr later) rest = contains_later first (filter p xs) x (rest later)
    by false at (inr later) rest = rest later
    by false at (inl same) rest =
        let bad : false ≡ true = sym at ∙ ap p same ∙ pass in
        absurd (cc)

-- what covers is one of the needs
pub covering : (needs : List Need) (name : List Label) (l : Level) → Covers needs name l → (need : Need) × Contains needs need × (need.name ≡ name) × Reaches need.level l
covering [] name l h = absurd h
covering (need ∷ needs) name l (inl h) = (need, contains_first need needs, h.0, h.1)
covering (need ∷ needs) name l (inr h) = let rest = covering needs name l h in (rest.0, contains_later need needs rest.0 rest.1, rest.2, rest.3)

-- a look that is met is covered by what an evaluation rests on
pub met_covered : (query : Syntax) (start : Start) (w : View) (look : Need) → Contains (looks query start w) look → meets (seen_from start.name w) look ≡ true → IsCoveredBy (support_in query start w) look
met_covered query start w look there met =
    let passes = meets (seen_from start.name w) in
    covering (support_in query start w) look.name look.level (bare_covers (filter passes (looks query start w)) look (filtered passes look met (looks query start w) there))

-- and one that is missing by what is missing
pub unmet_covered : (query : Syntax) (start : Start) (w : View) (look : Need) → Contains (looks query start w) look → is_missing start w look ≡ true → IsCoveredBy (missing_in query start w) look
unmet_covered query start w look there lacks =
    covering (missing_in query start w) look.name look.level (merged_covers (filter (is_missing start w) (looks query start w)) look (filtered (is_missing start w) look lacks (looks query start w) there))
