-- Names at, under and right above others.
use Rattle.std.proofs.Common.{◌≡◌, ◌≢◌, ◌⊎◌, inl, inr, ◌+◌, Bool, true, ◌&&◌, List, [], ◌∷◌, ◌++◌, length, refl, sym, ◌∙◌, ap, arith, length-append, append-nil, append_assoc}
use Rattle.iris_base.specs.declared.name.Label.{Label}
use Rattle.iris_base.specs.NameOrder.{label_eq, labels_equiv}
use Rattle.iris_base.proofs.Labels.{label_eq-Decides}
use Rattle.iris_xpath.proofs.SelectedPlaces.{and_true}
use Rattle.iris_need.specs.Needs.{is_under}
use Rattle.iris_need.proofs.Descending.{beginning}

-- what is left of a name behind the one that it is at or under
pub under_rest : (name top : List Label) → is_under name top ≡ true → (rest : List Label) × (name ≡ top ++ rest)
under_rest name [] h = (name, refl)
under_rest [] (t ∷ top) h = absurd (cc)
under_rest (l ∷ name) (t ∷ top) h =
    let both = and_true (label_eq t l) (is_under name top) h in
    let rest = under_rest name top both.1 in
    let same : t ≡ l = (label_eq-Decides t l).0 both.0 in
    (rest.0, λ i. sym same i ∷ rest.1 i)

-- a name under another is no part of the other's beginning, once a label is added
pub not_above : (top above back : List Label) (l : Label) → is_under above top ≡ true → top ≡ (above ++ l ∷ []) ++ back → ⊥
not_above top above back l under e =
    let rest = under_rest above top under in
    let one : length above ≡ length top + length rest.0 = ap length rest.1 ∙ length-append top rest.0 in
    let two : length top ≡ length above + 1 + length back = ap length e ∙ length-append (above ++ l ∷ []) back ∙ ap (λ n. n + length back) (length-append above (l ∷ [])) in
    omega arith

-- a child of a node is no top node
pub some_label : (above : List Label) (l m : Label) → above ≢ [] → above ++ l ∷ [] ≡ m ∷ [] → ⊥
some_label [] l m some e = some refl
some_label (a ∷ []) l m some e = cc
some_label (a ∷ b ∷ above) l m some e = cc

-- a name has one node right above it
pub last_same : (front above : List Label) (l m : Label) → front ++ l ∷ [] ≡ above ++ m ∷ [] → (front ≡ above) × (l ≡ m)
last_same [] [] l m e = (refl, (let h : l ≡ m = cc in h))
last_same [] (a ∷ []) l m e = absurd (cc)
last_same [] (a ∷ b ∷ above) l m e = absurd (cc)
last_same (f ∷ []) [] l m e = absurd (cc)
last_same (f ∷ g ∷ front) [] l m e = absurd (cc)
last_same (f ∷ front) (a ∷ above) l m e =
    let h : f ≡ a = cc in
    let t : front ++ l ∷ [] ≡ above ++ m ∷ [] = cc in
    let rest = last_same front above l m t in
    (λ i. h i ∷ rest.0 i, rest.1)

-- names that are beginnings of one another are one
pub both_ways : (m n more back : List Label) → m ≡ n ++ more → n ≡ m ++ back → m ≡ n
both_ways m n more back one two = by back two none
  where
    none : length back ≡ 0
    none =
        let a : length m ≡ length n + length more = ap length one ∙ length-append n more in
        let b : length n ≡ length m + length back = ap length two ∙ length-append m back in
        omega arith

    by : (b : List Label) → n ≡ m ++ b → length b ≡ 0 → m ≡ n
    by [] d h = sym (d ∙ append-nil m)
    by (x ∷ b) d h = absurd (omega arith)

under_more : (top rest : List Label) → is_under (top ++ rest) top ≡ true
under_more [] rest = refl
under_more (t ∷ top) rest = ap (λ (b : Bool). b && is_under (top ++ rest) top) (labels_equiv.refl t) ∙ under_more top rest

pub under_itself : (name : List Label) → is_under name name ≡ true
under_itself name = ap (λ (n : List Label). is_under n name) (sym (append-nil name)) ∙ under_more name []

pub under_further : (name middle top : List Label) → is_under name middle ≡ true → is_under middle top ≡ true → is_under name top ≡ true
under_further name middle top one two =
    let rest = under_rest name middle one in
    let more = under_rest middle top two in
    ap (λ (n : List Label). is_under n top) (rest.1 ∙ ap (λ (m : List Label). m ++ rest.0) more.1 ∙ append_assoc top more.0 rest.0) ∙ under_more top (more.0 ++ rest.0)

-- a name at or under another is the other, or what is right above it is at or under the other
pub under_split : (above : List Label) (l : Label) (top : List Label) → is_under (above ++ l ∷ []) top ≡ true → (top ≡ above ++ l ∷ []) ⊎ (is_under above top ≡ true)
under_split above l top under =
    let rest = under_rest (above ++ l ∷ []) top under in
    elim (beginning above l top rest.0 rest.1) [
      | inl same ↦ inl same
      | inr more ↦ inr (ap (λ (n : List Label). is_under n top) more.1 ∙ under_more top more.0)
    ]

no_rest : (top rest : List Label) → top ++ rest ≡ top → rest ≡ []
no_rest [] rest e = e
no_rest (t ∷ top) rest e =
    let tail : top ++ rest ≡ top = cc in
    no_rest top rest tail

-- a name at or under another is the other, or is not
pub same_or_under : (name top : List Label) → is_under name top ≡ true → (name ≡ top) ⊎ (name ≢ top)
same_or_under name top under = by rest.0 rest.1
  where
    rest : (rest : List Label) × (name ≡ top ++ rest)
    rest = under_rest name top under

    by : (back : List Label) → name ≡ top ++ back → (name ≡ top) ⊎ (name ≢ top)
    by [] e = inl (e ∙ append-nil top)
    by (l ∷ back) e = inr (λ same. let none = no_rest top (l ∷ back) (sym e ∙ same) in cc)
