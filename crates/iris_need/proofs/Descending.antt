-- The program of every query descends from its start.
use Rattle.std.proofs.Common.{◌≡◌, ◌≢◌, ◌⊎◌, inl, inr, ℕ, zero, suc, ◌+◌, Bool, true, false, List, [], ◌∷◌, ◌++◌, map, drop, Contains, Option, refl, sym, ◌∙◌, ap, subst, append-nil, append_assoc, arith}
use Rattle.iris_base.specs.declared.name.Label.{Label}
use Rattle.iris_tree.specs.declared.local.Local.{Local}
use Rattle.iris_tree.specs.Document.{Place}
use Rattle.iris_xpath.specs.declared.expression.Separator.{Separator}
use Rattle.iris_xpath.specs.declared.expression.Separator.TheVariants.{Slash, DoubleSlash}
use Rattle.iris_xpath.specs.declared.expression.NameTest.{NameTest}
use Rattle.iris_xpath.specs.declared.expression.NameTest.TheVariants.{Any, Kind, Tag}
use Rattle.iris_xpath.specs.Syntax.{Syntax, Condition, any_of, all_of, not_so, selects, compares, Conditions, no_conditions, conditions, Side, values_of, literal, number, Steps, here, attribute, itself, parent, step, MainStep, main_of}
use Rattle.iris_fragment.specs.declared.piece.Level.{Level}
use Rattle.iris_fragment.specs.declared.piece.Level.TheVariants.{Ids, Full}
use Rattle.iris_tree.specs.declared.item.Item.{Item}
use Rattle.iris_base.specs.declared.state.State.{State}
use Rattle.iris_base.specs.declared.state.State.TheVariants as states
use Rattle.iris_need.specs.declared.need.Start.{Start}
use Rattle.iris_need.specs.Run.{Run, give, see_ids, see_full, both, next}
use Rattle.iris_need.specs.Program.{each, join, gather, where_so, and_so, Spot, document_spot, node_spot, element_spot, room, last_label, without_last, spot_of, above_name, above_element, spots_above, step_elements, Marks, passes_label, go_from, go_to, from_node, reach, see_attribute, attributes_from, own_attribute, attributes, ends, values, holds, any_holds, each_holds, all_hold, subtree, found, tested, tested_at, goes, go_at, seek_at, test_at, enter, own_look, program_from, program}
use Rattle.iris_base.specs.Attribute.{is_id}
use Rattle.iris_need.proofs.Run.{contains_first, contains_later, first_or_later}
use Rattle.iris_need.specs.Descents.{IsAtStart}

-- the name of a child with one of these labels
abbrev pub IsChildOf : List Label → List Label → List Label → Type 0
IsChildOf name ids child = (l : Label) × Contains ids l × (child ≡ name ++ l ∷ [])

-- a program looks at these names, and then at children that it was told of
abbrev pub Descends : (List Label → Type 0) → {A : Type 0} → Run A → Type 0
Descends P (give a) = Unit {0}
Descends P (see_ids name states k) = P name × ((ids : List Label) → Descends (λ m. P m ⊎ IsChildOf name ids m) (k ids))
Descends P (see_full name states k) = P name × ((ids : List Label) (local : Local) → Descends (λ m. P m ⊎ IsChildOf name ids m) (k ids local))
Descends P (both f r s) = Descends P r × Descends P s
Descends P (next {A = A} r k) = Descends P r × ((a : A) → Descends P (k a))

abbrev Names : Type 1
Names = List Label → Type 0

abbrev Within : Names → Names → Type 0
Within P Q = (m : List Label) → P m → Q m

-- ---- more names

child_within : (P Q : Names) (name ids : List Label) → Within P Q → Within (λ m. P m ⊎ IsChildOf name ids m) (λ m. Q m ⊎ IsChildOf name ids m)
child_within P Q name ids more m (inl p) = inl (more m p)
child_within P Q name ids more m (inr c) = inr c

-- it descends from more names too
pub descends_within : (P Q : Names) → Within P Q → {A : Type 0} → (t : Run A) → Descends P t → Descends Q t
descends_within P Q more (give a) d = tt
descends_within P Q more (see_ids name marks k) d = (more name d.0, λ ids. descends_within (λ m. P m ⊎ IsChildOf name ids m) (λ m. Q m ⊎ IsChildOf name ids m) (child_within P Q name ids more) (k ids) (d.1 ids))
descends_within P Q more (see_full name marks k) d = (more name d.0, λ ids local. descends_within (λ m. P m ⊎ IsChildOf name ids m) (λ m. Q m ⊎ IsChildOf name ids m) (child_within P Q name ids more) (k ids local) (d.1 ids local))
descends_within P Q more (both f r s) d = (descends_within P Q more r d.0, descends_within P Q more s d.1)
descends_within P Q more (next r k) d = (descends_within P Q more r d.0, λ a. descends_within P Q more (k a) (d.1 a))

-- ---- names that are known with all above them

abbrev Known : Names → List Label → Type 0
Known P name = P name × ((front back : List Label) → name ≡ front ++ back → front ≢ [] → P front)

known_within : (P Q : Names) → Within P Q → (name : List Label) → Known P name → Known Q name
known_within P Q more name k = (more name k.0, λ front back e some. more front (k.1 front back e some))

-- a beginning of a name with one label more
pub beginning : (name : List Label) (l : Label) (front back : List Label) → name ++ l ∷ [] ≡ front ++ back → (front ≡ name ++ l ∷ []) ⊎ ((rest : List Label) × (name ≡ front ++ rest))
beginning name l [] back e = inr (name, refl)
beginning [] l (x ∷ front) back e = inl (by front (let t : [] ≡ front ++ back = cc in t) (let h : l ≡ x = cc in h))
  where
    by : (fs : List Label) → [] ≡ fs ++ back → l ≡ x → x ∷ fs ≡ l ∷ []
    by [] t h = cc
    by (y ∷ ys) t h = absurd (cc)
beginning (n ∷ name) l (x ∷ front) back e =
    let h : n ≡ x = cc in
    let t : name ++ l ∷ [] ≡ front ++ back = cc in
    elim (beginning name l front back t) [
      | inl same ↦ inl (λ i. sym h i ∷ same i)
      | inr more ↦ inr (more.0, λ i. h i ∷ more.1 i)
    ]

-- a child that was told of
known_child : (P : Names) (name ids : List Label) (l : Label) → Known P name → Contains ids l → Known (λ m. P m ⊎ IsChildOf name ids m) (name ++ l ∷ [])
known_child P name ids l k there = (
  inr (l, there, refl),
  λ front back e some. elim (beginning name l front back e) [
    | inl same ↦ inr (l, there, same)
    | inr more ↦ inl (k.1 front more.0 more.1 some)
  ],
)

abbrev KnownSpot : Names → Spot → Type 0
KnownSpot P document_spot = Unit {0}
KnownSpot P (node_spot name l) = Known P name
KnownSpot P (element_spot name local path) = Known P name

-- what goes on from a spot descends, whatever more is known by then
abbrev GoesOn : Names → {A : Type 0} → (Spot → Run (List A)) → Type 1
GoesOn P k = (Q : Names) → Within P Q → (spot : Spot) → KnownSpot Q spot → Descends Q (k spot)

on_within : (P Q : Names) → Within P Q → {A : Type 0} → (k : Spot → Run (List A)) → GoesOn P k → GoesOn Q k
on_within P Q more k on R further spot known = on R (λ m p. further m (more m p)) spot known

-- ---- words of programs

gathers : (P : Names) {X A : Type 0} → (f : X → Run (List A)) → (xs : List X) → ((x : X) → Contains xs x → Descends P (f x)) → Descends P (gather f xs)
gathers P f [] h = tt
gathers P f (x ∷ xs) h = (h x (contains_first x xs), gathers P f xs (λ y i. h y (contains_later x xs y i)))

does_each : (P : Names) {X A : Type 0} → (f : X → Run A) → (xs : List X) → ((x : X) → Contains xs x → Descends P (f x)) → Descends P (each f xs)
does_each P f [] h = tt
does_each P f (x ∷ xs) h = (h x (contains_first x xs), does_each P f xs (λ y i. h y (contains_later x xs y i)))

where_it : (P : Names) {A : Type 0} → (b : Bool) → (r : Run (List A)) → Descends P r → Descends P (where_so b r)
where_it P true r d = d
where_it P false r d = tt

and_it : (P : Names) (b : Bool) (r : Run Bool) → Descends P r → Descends P (and_so b r)
and_it P true r d = d
and_it P false r d = tt

-- ---- one step

goes_from : (P : Names) {A : Type 0} → (test : NameTest) (name : List Label) (marks : List State) (nodes : List Label → Run (List A)) (elements : Local → Run (List A)) → P name
    → ((ids : List Label) → Descends (λ m. P m ⊎ IsChildOf name ids m) (nodes ids))
    → ((ids : List Label) (local : Local) → Descends (λ m. P m ⊎ IsChildOf name ids m) (elements local))
    → Descends P (go_from test name marks nodes elements)
goes_from P (Kind kind) name marks nodes elements p n e = (p, n)
goes_from P (Tag tag) name marks nodes elements p n e = (p, λ ids local. (n ids, e ids local))
goes_from P Any name marks nodes elements p n e = (p, λ ids local. (n ids, e ids local))

goes_to : (P : Names) {A : Type 0} → (separator : Separator) (test : NameTest) (name : List Label) (child : Label) (k : Spot → Run (List A)) (deeper : Run (List A)) → Known P (name ++ child ∷ []) → GoesOn P k → Descends P deeper
    → Descends P (go_to separator test name child k deeper)
goes_to P Slash test name child k deeper known on d = where_it P (passes_label child test) (k (node_spot (name ++ child ∷ []) child)) (on P (λ m p. p) (node_spot (name ++ child ∷ []) child) known)
goes_to P DoubleSlash test name child k deeper known on d = (where_it P (passes_label child test) (k (node_spot (name ++ child ∷ []) child)) (on P (λ m p. p) (node_spot (name ++ child ∷ []) child) known), d)

elements_on : (P : Names) {A : Type 0} → (k : Spot → Run (List A)) (name ids : List Label) (local : Local) (paths : List Place) → Known P name → GoesOn P k → Descends (λ m. P m ⊎ IsChildOf name ids m) (gather (λ path. k (element_spot name local path)) paths)
elements_on P k name ids local paths known on =
    gathers (λ m. P m ⊎ IsChildOf name ids m) (λ path. k (element_spot name local path)) paths (λ path there.
    on (λ m. P m ⊎ IsChildOf name ids m) (λ m p. inl p) (element_spot name local path) (known_within P (λ m. P m ⊎ IsChildOf name ids m) (λ m p. inl p) name known))

from_nodes : (P : Names) {A : Type 0} → (levels : ℕ) (separator : Separator) (test : NameTest) (own lower : Marks) (name : List Label) (k : Spot → Run (List A)) → Known P name → GoesOn P k → Descends P (from_node levels separator test own lower name k)
from_nodes P zero separator test own lower name k known on =
    goes_from P test name (own name) (gather (λ child. go_to Slash test name child k (give []))) (λ local. gather (λ path. k (element_spot name local path)) (step_elements separator test local [])) known.0
    (λ ids. gathers (λ m. P m ⊎ IsChildOf name ids m) (λ child. go_to Slash test name child k (give [])) ids (λ child there.
    goes_to (λ m. P m ⊎ IsChildOf name ids m) Slash test name child k (give []) (known_child P name ids child known there) (on_within P (λ m. P m ⊎ IsChildOf name ids m) (λ m p. inl p) k on) tt))
    (λ ids local. elements_on P k name ids local (step_elements separator test local []) known on)
from_nodes P (suc levels) separator test own lower name k known on =
    goes_from P test name (own name) (gather (λ child. go_to separator test name child k (from_node levels separator test lower lower (name ++ child ∷ []) k))) (λ local. gather (λ path. k (element_spot name local path)) (step_elements separator test local [])) known.0
    (λ ids. gathers (λ m. P m ⊎ IsChildOf name ids m) (λ child. go_to separator test name child k (from_node levels separator test lower lower (name ++ child ∷ []) k)) ids (λ child there.
    goes_to (λ m. P m ⊎ IsChildOf name ids m) separator test name child k (from_node levels separator test lower lower (name ++ child ∷ []) k) (known_child P name ids child known there) (on_within P (λ m. P m ⊎ IsChildOf name ids m) (λ m p. inl p) k on)
    (from_nodes (λ m. P m ⊎ IsChildOf name ids m) levels separator test lower lower (name ++ child ∷ []) k (known_child P name ids child known there) (on_within P (λ m. P m ⊎ IsChildOf name ids m) (λ m p. inl p) k on))))
    (λ ids local. elements_on P k name ids local (step_elements separator test local []) known on)

-- the top node is known from the first
top_known : (P : Names) (top : Label) → P (top ∷ []) → Known P (top ∷ [])
top_known P top p = (p, by)
  where
    by : (front back : List Label) → top ∷ [] ≡ front ++ back → front ≢ [] → P front
    by [] back e some = absurd (some refl)
    by (x ∷ []) back e some = let h : top ∷ [] ≡ x ∷ [] = (let i : top ≡ x = cc in ap (λ (l : Label). l ∷ []) i) in subst P h p
    by (x ∷ y ∷ front) back e some = absurd (cc)

reaches : (P : Names) {A : Type 0} → (top : Label) (separator : Separator) (test : NameTest) (own lower : Marks) (spot : Spot) (k : Spot → Run (List A)) → P (top ∷ []) → KnownSpot P spot → GoesOn P k → Descends P (reach top separator test own lower spot k)
reaches P top separator test own lower document_spot k first known on =
    goes_to P separator test [] top k (from_node (room (top ∷ [])) separator test lower lower (top ∷ []) k) (top_known P top first) on (from_nodes P (room (top ∷ [])) separator test lower lower (top ∷ []) k (top_known P top first) on)
reaches P top separator test own lower (node_spot name l) k first known on = from_nodes P (room name) separator test own lower name k known on
reaches P top separator test own lower (element_spot name local above) k first known on = gathers P (λ path. k (element_spot name local path)) (step_elements separator test local above) (λ path there. on P (λ m p. p) (element_spot name local path) known)

-- ---- attributes

sees_attribute : (P : Names) {A : Type 0} → (by_id : Bool) (attr : List ℕ) (name : List Label) (l : Label) (marks : List State) (k : List (Option (List ℕ)) → List Label → List (Option (List ℕ)) → Run A) → P name
    → ((own : List (Option (List ℕ))) (ids : List Label) (more : List (Option (List ℕ))) → Descends (λ m. P m ⊎ IsChildOf name ids m) (k own ids more)) → Descends P (see_attribute by_id attr name l marks k)
sees_attribute P true attr name l marks k p h = (p, λ ids. h _ ids _)
sees_attribute P false attr name l marks k p h = (p, λ ids local. h _ ids _)

attributes_below : (P : Names) (levels : ℕ) (marks : Marks) (attr : List ℕ) (name : List Label) (l : Label) → Known P name → Descends P (attributes_from levels marks attr name l)
attributes_below P zero marks attr name l known = sees_attribute P (is_id attr) attr name l (marks name) (λ own ids more. give (own ++ more)) known.0 (λ own ids more. tt)
attributes_below P (suc levels) marks attr name l known =
    sees_attribute P (is_id attr) attr name l (marks name) (λ own ids more. join (give (own ++ more)) (gather (λ child. attributes_from levels marks attr (name ++ child ∷ []) child) ids)) known.0 (λ own ids more.
    (tt, gathers (λ m. P m ⊎ IsChildOf name ids m) (λ child. attributes_from levels marks attr (name ++ child ∷ []) child) ids (λ child there. attributes_below (λ m. P m ⊎ IsChildOf name ids m) levels marks attr (name ++ child ∷ []) child (known_child P name ids child known there))))

has_own : (P : Names) (by_id : Bool) (marks : Marks) (attr : List ℕ) (name : List Label) (l : Label) → P name → Descends P (own_attribute by_id marks attr name l)
has_own P true marks attr name l p = tt
has_own P false marks attr name l p = (p, λ ids local. tt)

has_attributes : (P : Names) (top : Label) (marks : Marks) (separator : Separator) (attr : List ℕ) (spot : Spot) → P (top ∷ []) → KnownSpot P spot → Descends P (attributes top marks separator attr spot)
has_attributes P top marks Slash attr document_spot first known = tt
has_attributes P top marks Slash attr (node_spot name l) first known = has_own P (is_id attr) marks attr name l known.0
has_attributes P top marks Slash attr (element_spot name local path) first known = tt
has_attributes P top marks DoubleSlash attr document_spot first known = attributes_below P (room (top ∷ [])) marks attr (top ∷ []) top (top_known P top first)
has_attributes P top marks DoubleSlash attr (node_spot name l) first known = attributes_below P (room name) marks attr name l known
has_attributes P top marks DoubleSlash attr (element_spot name local path) first known = tt

-- ---- places above

spot_known : (P : Names) (name : List Label) → Known P name → KnownSpot P (spot_of name)
spot_known P [] known = tt
spot_known P (l ∷ name) known = known

split_last : (l : Label) (name : List Label) → l ∷ name ≡ without_last l name ++ last_label l name ∷ []
split_last l [] = refl
split_last l (m ∷ ms) = ap (λ (ls : List Label). l ∷ ls) (split_last m ms)

-- a beginning of a known name
known_front : (P : Names) (name front back : List Label) → name ≡ front ++ back → front ≢ [] → Known P name → Known P front
known_front P name front back e some known = (known.1 front back e some, λ f b d s. known.1 f (b ++ back) (e ∙ ap (λ (ls : List Label). ls ++ back) d ∙ append_assoc f b back) s)

front_spot : (P : Names) (name front back : List Label) → name ≡ front ++ back → Known P name → KnownSpot P (spot_of front)
front_spot P name [] back e known = tt
front_spot P name (l ∷ front) back e known = known_front P name (l ∷ front) back e (λ none. (cc)) known

one_there : {X : Type 0} (x y : X) → Contains (x ∷ []) y → x ≡ y
one_there x y h = elim (first_or_later x [] y h) [ inl same ↦ same | inr none ↦ absurd (omega (arith, none.1)) ]

above_known : (P : Names) (name : List Label) → Known P name → (spot : Spot) → Contains (above_name name) spot → KnownSpot P spot
above_known P [] known spot there = absurd (omega (arith, there.1))
above_known P (l ∷ name) known spot there = subst (KnownSpot P) (one_there _ spot there) (front_spot P (l ∷ name) (without_last l name) (last_label l name ∷ []) (split_last l name) known)

element_above : (P : Names) (name : List Label) (local : Local) (path : Place) → Known P name → KnownSpot P (above_element name local path)
element_above P name local [] known = spot_known P name known
element_above P name local (e ∷ []) known = spot_known P name known
element_above P name local (e ∷ f ∷ path) known = known

spots_known : (P : Names) (spot : Spot) → KnownSpot P spot → (above : Spot) → Contains (spots_above spot) above → KnownSpot P above
spots_known P document_spot known above there = absurd (omega (arith, there.1))
spots_known P (node_spot name l) known above there = above_known P name known above there
spots_known P (element_spot name local path) known above there = subst (KnownSpot P) (one_there _ above there) (element_above P name local path known)

-- ---- predicates

mutual
  ends_on : (P : Names) (top : Label) (marks : Marks) (steps : Steps) (spot : Spot) → P (top ∷ []) → KnownSpot P spot → Descends P (ends top marks steps spot)
  ends_on P top marks here spot first known = tt
  ends_on P top marks (attribute separator attr) spot first known = has_attributes P top marks separator attr spot first known
  ends_on P top marks (itself steps) spot first known = ends_on P top marks steps spot first known
  ends_on P top marks (parent steps) spot first known = gathers P (ends top marks steps) (spots_above spot) (λ above there. ends_on P top marks steps above first (spots_known P spot known above there))
  ends_on P top marks (step separator test cs steps) spot first known =
      reaches P top separator test marks marks spot (λ at. next (all_hold top marks cs at) (λ b. where_so b (ends top marks steps at))) first known (λ Q more at ok. (all_on Q top marks cs at (more (top ∷ []) first) ok, λ b. where_it Q b (ends top marks steps at) (ends_on Q top marks steps at (more (top ∷ []) first) ok)))

  values_on : (P : Names) (top : Label) (marks : Marks) (side : Side) (spot : Spot) → P (top ∷ []) → KnownSpot P spot → Descends P (values top marks side spot)
  values_on P top marks (values_of steps) spot first known = (ends_on P top marks steps spot first known, λ found. tt)
  values_on P top marks (literal text) spot first known = tt
  values_on P top marks (number n) spot first known = tt

  holds_on : (P : Names) (top : Label) (marks : Marks) (c : Condition) (spot : Spot) → P (top ∷ []) → KnownSpot P spot → Descends P (holds top marks c spot)
  holds_on P top marks (any_of cs) spot first known = any_on P top marks cs spot first known
  holds_on P top marks (all_of cs) spot first known = each_on P top marks cs spot first known
  holds_on P top marks (not_so c) spot first known = (holds_on P top marks c spot first known, λ b. tt)
  holds_on P top marks (selects steps) spot first known = (ends_on P top marks steps spot first known, λ found. tt)
  holds_on P top marks (compares left comparison right) spot first known = (values_on P top marks left spot first known, values_on P top marks right spot first known)

  any_on : (P : Names) (top : Label) (marks : Marks) (cs : Conditions) (spot : Spot) → P (top ∷ []) → KnownSpot P spot → Descends P (any_holds top marks cs spot)
  any_on P top marks no_conditions spot first known = tt
  any_on P top marks (conditions c cs) spot first known = (holds_on P top marks c spot first known, any_on P top marks cs spot first known)

  each_on : (P : Names) (top : Label) (marks : Marks) (cs : Conditions) (spot : Spot) → P (top ∷ []) → KnownSpot P spot → Descends P (each_holds top marks cs spot)
  each_on P top marks no_conditions spot first known = tt
  each_on P top marks (conditions c cs) spot first known = (holds_on P top marks c spot first known, each_on P top marks cs spot first known)

  all_on : (P : Names) (top : Label) (marks : Marks) (cs : Conditions) (spot : Spot) → P (top ∷ []) → KnownSpot P spot → Descends P (all_hold top marks cs spot)
  all_on P top marks no_conditions spot first known = tt
  all_on P top marks (conditions c cs) spot first known = (holds_on P top marks c spot first known, λ b. and_it P b (all_hold top marks cs spot) (all_on P top marks cs spot first known))

-- ---- selected places and the main path

subtree_on : (P : Names) (levels : ℕ) (l : Label) (name : List Label) → Known P name → Descends P (subtree levels l name)
subtree_on P zero l name known = (known.0, λ ids local. tt)
subtree_on P (suc levels) l name known = (known.0, λ ids local. (does_each (λ m. P m ⊎ IsChildOf name ids m) (λ child. subtree levels child (name ++ child ∷ [])) ids (λ child there. subtree_on (λ m. P m ⊎ IsChildOf name ids m) levels child (name ++ child ∷ []) (known_child P name ids child known there)), λ below. tt))

found_on : (P : Names) (spot : Spot) → KnownSpot P spot → Descends P (found spot)
found_on P document_spot known = tt
found_on P (node_spot name l) known = (subtree_on P (room name) l name known, λ n. tt)
found_on P (element_spot name local path) known = tt

tested_on : (P : Names) (top : Label) (i : ℕ) (s : MainStep) (spot : Spot) (r : Run (List Item)) → P (top ∷ []) → KnownSpot P spot → Descends P r → Descends P (tested top i s spot r)
tested_on P top i s spot r first known d = (all_on P top (tested_at (states.Test i) spot) s.conditions spot first known, λ b. where_it P b r d)

goes_all : (P : Names) (top : Label) (i : ℕ) (ss : List MainStep) (spot : Spot) → P (top ∷ []) → KnownSpot P spot → Descends P (goes top i ss spot)
goes_all P top i [] spot first known = found_on P spot known
goes_all P top i (s ∷ ss) spot first known =
    reaches P top s.separator s.test (λ name. states.At i ∷ []) (λ name. states.Seek i ∷ []) spot (λ at. tested top i s at (goes top (i + 1) ss at)) first known (λ Q more at ok. tested_on Q top i s at (goes top (i + 1) ss at) (more (top ∷ []) first) ok (goes_all Q top (i + 1) ss at (more (top ∷ []) first) ok))

go_on : (P : Names) (top : Label) (i : ℕ) (ss : List MainStep) (spot : Spot) → P (top ∷ []) → KnownSpot P spot → Descends P (go_at top i ss spot)
go_on P top i [] spot first known = tt
go_on P top i (s ∷ ss) spot first known = goes_all P top i (s ∷ ss) spot first known

seek_on : (P : Names) (top : Label) (i : ℕ) (ss : List MainStep) (spot : Spot) → P (top ∷ []) → KnownSpot P spot → Descends P (seek_at top i ss spot)
seek_on P top i [] spot first known = tt
seek_on P top i (s ∷ ss) spot first known =
    reaches P top s.separator s.test (λ name. states.Seek i ∷ []) (λ name. states.Seek i ∷ []) spot (λ at. tested top i s at (goes top (i + 1) ss at)) first known (λ Q more at ok. tested_on Q top i s at (goes top (i + 1) ss at) (more (top ∷ []) first) ok (goes_all Q top (i + 1) ss at (more (top ∷ []) first) ok))

test_on : (P : Names) (top : Label) (i : ℕ) (ss : List MainStep) (spot : Spot) → P (top ∷ []) → KnownSpot P spot → Descends P (test_at top i ss spot)
test_on P top i [] spot first known = tt
test_on P top i (s ∷ ss) spot first known = tested_on P top i s spot (goes top (i + 1) ss spot) first known (goes_all P top (i + 1) ss spot first known)

enter_on : (P : Names) (top : Label) (q : List MainStep) (spot : Spot) (state : State) → P (top ∷ []) → KnownSpot P spot → Descends P (enter top q spot state)
enter_on P top q spot (states.At i) first known = go_on P top i (drop i q) spot first known
enter_on P top q spot (states.Seek i) first known = seek_on P top i (drop i q) spot first known
enter_on P top q spot (states.Test i) first known = test_on P top i (drop i q) spot first known
enter_on P top q spot states.Whole first known = found_on P spot known

own_on : (P : Names) (name : List Label) (l : Level) → P name → Descends P (own_look name l)
own_on P name Ids p = (p, λ ids. tt)
own_on P name Full p = (p, λ ids local. tt)

from_on : (P : Names) (top : Label) (q : List MainStep) (name : List Label) (l : Level) (ss : List State) → P (top ∷ []) → (name ≢ [] → Known P name) → Descends P (program_from top q name l ss)
from_on P top q [] l ss first known = gathers P (enter top q document_spot) ss (λ state there. enter_on P top q document_spot state first tt)
from_on P top q (x ∷ name) l ss first known =
    let here : Known P (x ∷ name) = known (λ none. (cc)) in
    (own_on P (x ∷ name) l here.0, gathers P (enter top q (spot_of (x ∷ name))) ss (λ state there. enter_on P top q (node_spot (x ∷ name) (last_label x name)) state first here))

start_known : (start : Start) → start.name ≢ [] → Known (IsAtStart start) start.name
start_known start more = (inr ([], sym (append-nil start.name), more), λ front back e some. inr (back, e, some))

-- the program of a query descends from its start
pub program_descends : (query : Syntax) (start : Start) → Descends (IsAtStart start) (program query start)
program_descends query start = from_on (IsAtStart start) start.top (map main_of query) start.name start.level start.states (inl refl) (start_known start)
