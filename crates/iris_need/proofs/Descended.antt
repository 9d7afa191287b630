-- What is looked at: names that are known at the start, and children of nodes whose ids are seen.
use Rattle.std.proofs.Common.{◌≡◌, ◌≢◌, ◌⊎◌, inl, inr, true, List, [], ◌∷◌, ◌++◌, Contains, Option, Some, None, is_some, refl, sym, ◌∙◌, ap, subst, arith}
use Rattle.std.proofs.lemmas.List.Elements.{Contains-append_left, Contains-append_right, Contains-append_cases}
use Rattle.iris_base.specs.declared.name.Label.{Label}
use Rattle.iris_tree.specs.declared.local.Local.{Local}
use Rattle.iris_fragment.specs.declared.piece.Level.TheVariants.{Ids, Full}
use Rattle.iris_need.specs.declared.need.Need.{Need}
use Rattle.iris_need.specs.Run.{Known, View, Run, give, see_ids, see_full, both, next, Out, ids_known, Seen, full_known, after_ids, after_full, after, run, meets_known, meets}
use Rattle.iris_need.proofs.Run.{contains_first, contains_later, first_or_later}
use Rattle.iris_xpath.specs.Syntax.{Syntax}
use Rattle.iris_need.specs.declared.need.Start.{Start}
use Rattle.iris_need.specs.Needs.{seen_from, looks}
use Rattle.iris_need.specs.Program.{program}
use Rattle.iris_need.proofs.Descending.{program_descends, IsChildOf, Descends}
use Rattle.iris_need.specs.Descents.{IsAtStart, IsBelowMet}

below_more : (w : View) (looks more : List Need) (m : List Label) → ((look : Need) → Contains looks look → Contains more look) → IsBelowMet w looks m → IsBelowMet w more m
below_more w looks more m f h = record { above = h.above; label = h.label; ids = h.ids; look = h.look; is = h.is; listed = h.listed; known = h.known; there = f h.look h.there; named = h.named; met = h.met }

abbrev Comes : View → (List Label → Type 0) → List Need → List Label → Type 0
Comes w P looks m = P m ⊎ IsBelowMet w looks m

comes_more : (w : View) (P : List Label → Type 0) (looks more : List Need) (m : List Label) → ((look : Need) → Contains looks look → Contains more look) → Comes w P looks m → Comes w P more m
comes_more w P looks more m f (inl p) = inl p
comes_more w P looks more m f (inr b) = inr (below_more w looks more m f b)

-- below a look that is met
comes_below : (w : View) (P : List Label → Type 0) (first : Need) (looks : List Need) (ids : List Label) (m : List Label) → ids_known (w first.name) ≡ Some ids → meets w first ≡ true
    → Comes w (λ n. P n ⊎ IsChildOf first.name ids n) looks m → Comes w P (first ∷ looks) m
comes_below w P first looks ids m known met (inl (inl p)) = inl p
comes_below w P first looks ids m known met (inl (inr child)) =
    inr record { above = first.name; label = child.0; ids = ids; look = first; is = child.2; listed = child.1; known = known; there = contains_first first looks; named = refl; met = met }
comes_below w P first looks ids m known met (inr b) = inr (below_more w looks (first ∷ looks) m (λ look there. contains_later first looks look there) b)

first_comes : (w : View) (P : List Label → Type 0) (first : Need) (looks : List Need) (look : Need) → P first.name → first ≡ look → Comes w P looks look.name
first_comes w P first looks look p same = inl (subst (λ (n : Need). P n.name) same p)

ids_met : (o : Option Known) (ids : List Label) → ids_known o ≡ Some ids → meets_known Ids o ≡ true
ids_met None ids h = absurd (cc)
ids_met (Some k) ids h = refl

ids_come : {A : Type 0} (w : View) (P : List Label → Type 0) (first : Need) (x : Option (List Label)) (f : List Label → Out A) → first.level ≡ Ids → ids_known (w first.name) ≡ x → P first.name
    → ((ids : List Label) (look : Need) → Contains (f ids).log look → Comes w (λ n. P n ⊎ IsChildOf first.name ids n) (f ids).log look.name)
    → (look : Need) → Contains (after_ids first x f).log look → Comes w P (after_ids first x f).log look.name
ids_come w P first None f level known p h look there = elim (first_or_later first [] look there) [ inl same ↦ first_comes w P first (first ∷ []) look p same | inr none ↦ absurd (omega (arith, none.1)) ]
ids_come w P first (Some ids) f level known p h look there = elim (first_or_later first (f ids).log look there) [
  | inl same ↦ first_comes w P first (first ∷ (f ids).log) look p same
  | inr later ↦ comes_below w P first (f ids).log ids look.name known (ap (λ l. meets_known l (w first.name)) level ∙ ids_met (w first.name) ids known) (h ids look later)
]

full_ids : (ids : List Label) (o : Option Local) (seen : Seen) → full_known (Some (record { ids = ids; local = o })) ≡ Some seen → (ids ≡ seen.ids) × (is_some o ≡ true)
full_ids ids None seen h = absurd (cc)
full_ids ids (Some local) seen h = (let e : record { ids = ids; local = local } ≡ seen = cc in ap (λ (s : Seen). s.ids) e, refl)

full_met : (o : Option Known) (seen : Seen) → full_known o ≡ Some seen → (ids_known o ≡ Some seen.ids) × (meets_known Full o ≡ true)
full_met None seen h = absurd (cc)
full_met (Some k) seen h = let both = full_ids k.ids k.local seen h in (ap (λ (ids : List Label). Some ids) both.0, both.1)

full_comes : {A : Type 0} (w : View) (P : List Label → Type 0) (first : Need) (x : Option Seen) (f : List Label → Local → Out A) → first.level ≡ Full → full_known (w first.name) ≡ x → P first.name
    → ((ids : List Label) (local : Local) (look : Need) → Contains (f ids local).log look → Comes w (λ n. P n ⊎ IsChildOf first.name ids n) (f ids local).log look.name)
    → (look : Need) → Contains (after_full first x f).log look → Comes w P (after_full first x f).log look.name
full_comes w P first None f level known p h look there = elim (first_or_later first [] look there) [ inl same ↦ first_comes w P first (first ∷ []) look p same | inr none ↦ absurd (omega (arith, none.1)) ]
full_comes w P first (Some s) f level known p h look there = elim (first_or_later first (f s.ids s.local).log look there) [
  | inl same ↦ first_comes w P first (first ∷ (f s.ids s.local).log) look p same
  | inr later ↦
      let met = full_met (w first.name) s known in
      comes_below w P first (f s.ids s.local).log s.ids look.name met.0 (ap (λ l. meets_known l (w first.name)) level ∙ met.1) (h s.ids s.local look later)
]

next_comes : {A B : Type 0} (w : View) (P : List Label → Type 0) (before : List Need) (x : Option A) (f : A → Out B) → ((look : Need) → Contains before look → Comes w P before look.name) → ((a : A) (look : Need) → Contains (f a).log look → Comes w P (f a).log look.name)
    → (look : Need) → Contains (after before x f).log look → Comes w P (after before x f).log look.name
next_comes w P before None f h r look there = h look there
next_comes w P before (Some a) f h r look there = elim (Contains-append_cases before (f a).log look there) [
  | inl one ↦ comes_more w P before (before ++ (f a).log) look.name (λ l i. Contains-append_left before (f a).log l i) (h look one)
  | inr two ↦ comes_more w P (f a).log (before ++ (f a).log) look.name (λ l i. Contains-append_right before (f a).log l i) (r a look two)
]

both_come : (w : View) (P : List Label → Type 0) (one two : List Need) → ((look : Need) → Contains one look → Comes w P one look.name) → ((look : Need) → Contains two look → Comes w P two look.name)
    → (look : Need) → Contains (one ++ two) look → Comes w P (one ++ two) look.name
both_come w P one two h r look there = elim (Contains-append_cases one two look there) [
  | inl a ↦ comes_more w P one (one ++ two) look.name (λ l i. Contains-append_left one two l i) (h look a)
  | inr b ↦ comes_more w P two (one ++ two) look.name (λ l i. Contains-append_right one two l i) (r look b)
]

-- of a program that descends, each look is at a name that is known at the start, or right below one at which a look is met
pub descended : (w : View) (P : List Label → Type 0) {A : Type 0} → (t : Run A) → Descends P t → (look : Need) → Contains (run w t).log look → P look.name ⊎ IsBelowMet w (run w t).log look.name
descended w P (give a) d look there = absurd (omega (arith, there.1))
descended w P (see_ids name states k) d look there =
    ids_come w P (record { name = name; level = Ids; states = states }) (ids_known (w name)) (λ ids. run w (k ids)) refl refl d.0 (λ ids. descended w (λ m. P m ⊎ IsChildOf name ids m) (k ids) (d.1 ids)) look there
descended w P (see_full name states k) d look there =
    full_comes w P (record { name = name; level = Full; states = states }) (full_known (w name)) (λ ids local. run w (k ids local)) refl refl d.0 (λ ids local. descended w (λ m. P m ⊎ IsChildOf name ids m) (k ids local) (d.1 ids local)) look there
descended w P (both f r s) d look there = both_come w P (run w r).log (run w s).log (descended w P r d.0) (descended w P s d.1) look there
descended w P (next r k) d look there = next_comes w P (run w r).log (run w r).value (λ a. run w (k a)) (descended w P r d.0) (λ a. descended w P (k a) (d.1 a)) look there

-- each look of an evaluation is at its start, or right below a name at which a look is met
pub looked_where : (query : Syntax) (start : Start) (w : View) (look : Need) → Contains (looks query start w) look → IsAtStart start look.name ⊎ IsBelowMet (seen_from start.name w) (looks query start w) look.name
looked_where query start w = descended (seen_from start.name w) (IsAtStart start) (program query start) (program_descends query start)

ends_some : (name : List Label) (l : Label) → name ++ l ∷ [] ≢ []
ends_some [] l e = cc
ends_some (x ∷ name) l e = cc

-- no evaluation looks at the document itself
pub looked_some : (query : Syntax) (start : Start) (w : View) (look : Need) → Contains (looks query start w) look → look.name ≢ []
looked_some query start w look there = by (looked_where query start w look there)
  where
    by : IsAtStart start look.name ⊎ IsBelowMet (seen_from start.name w) (looks query start w) look.name → look.name ≢ []
    by (inl (inl top)) none = let bad : [] ≡ start.top ∷ [] = sym none ∙ top in cc
    by (inl (inr h)) none = h.2 none
    by (inr b) none = ends_some b.above b.label (sym b.is ∙ none)
