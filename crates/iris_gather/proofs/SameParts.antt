-- What comparisons of local information say.
use Rattle.std.proofs.Common.{◌≡◌, ◌≢◌, Bool, true, false, not, ℕ, ◌==◌, List, length, [], ◌∷◌, MatchBool, sym, ◌∙◌, ap, refl, subst}
use Rattle.std.specs.Bool.{Decides}
use Rattle.std.specs.Cmp.Lexicographic.{pointwise}
use Rattle.std.proofs.Math.Dec.{eqb-suc-zero}
use Rattle.std.proofs.lemmas.Slice.Eq.{bytes_eq-Decides, slice_eq-Decides}
use Rattle.iris_base.proofs.Labels.{both}
use Rattle.iris_tree.specs.Attrs.{Pairs, pair_eq, pair_equiv}
use Rattle.iris_tree.specs.declared.local.Local.{Local}
use Rattle.iris_tree.specs.declared.plain.Plain.{Plain}
use Rattle.iris_tree.specs.declared.plain.Plain.TheViews.{out-Plain, roll-Plain, roll-out-Plain}
use Rattle.iris_gather.specs.Equal.{IsSameHead}

pair_eq-Decides : (p q : List ℕ × List ℕ) → Decides (pair_eq p q) (p ≡ q)
pair_eq-Decides p q = (
  (λ h.
      let parts = both _ _ h in
      let one : p.0 ≡ q.0 = (bytes_eq-Decides p.0 q.0).0 parts.0 in
      let two : p.1 ≡ q.1 = (bytes_eq-Decides p.1 q.1).0 parts.1 in
      λ i. (one i, two i)),
  (λ e. subst (λ (x : List ℕ × List ℕ). pair_eq p x ≡ true) e (pair_equiv.refl p)),
)

-- attributes that compare as equal are equal
pub attrs_eq-Decides : (xs ys : Pairs) (r : Bool) → r ≡ pointwise pair_eq xs ys → Decides r (xs ≡ ys)
attrs_eq-Decides = slice_eq-Decides pair_eq-Decides

-- ---- two lists, element by element

-- what is left of the one is what is left of the other exactly where the lists are the same
pub record AreSameIf {X : Type 0} (xs ys left rest : List X) : Type 0 where
  pub so : left ≡ rest → xs ≡ ys
  pub back : xs ≡ ys → left ≡ rest

pub first_same : {X : Type 0} (xs ys : List X) → AreSameIf xs ys xs ys
first_same xs ys = record { so = λ h. h; back = λ h. h }

pub next_same : {X : Type 0} (xs ys left rest : List X) (x y : X) (more later : List X) → AreSameIf xs ys left rest → left ≡ x ∷ more → rest ≡ y ∷ later → x ≡ y → AreSameIf xs ys more later
next_same xs ys left rest x y more later h l r e = record {
  so = λ (k : more ≡ later). h.so (l ∙ (λ i. e i ∷ k i) ∙ sym r);
  back = λ k. let both : x ∷ more ≡ y ∷ later = sym l ∙ h.back k ∙ r in cc;
}

pub not_same : {X : Type 0} (xs ys left rest : List X) (x y : X) (more later : List X) → AreSameIf xs ys left rest → left ≡ x ∷ more → rest ≡ y ∷ later → x ≢ y → xs ≢ ys
not_same xs ys left rest x y more later h l r e k = let both : x ∷ more ≡ y ∷ later = sym l ∙ h.back k ∙ r in e (cc)

pub longer : {X : Type 0} (xs ys left rest : List X) (x : X) (more : List X) → AreSameIf xs ys left rest → left ≡ x ∷ more → rest ≡ [] → xs ≢ ys
longer xs ys left rest x more h l r k = let both : x ∷ more ≡ [] = sym l ∙ h.back k ∙ r in cc

-- ---- what the code finds

-- a test that decides a fact
pub match_from_decides : {P : Type 0} (b : Bool) → Decides b P → MatchBool b P (P → ⊥)
match_from_decides true d = d.0 refl
match_from_decides false d = λ p. let bad : false ≡ true = d.1 p in cc

-- a test that failed
pub not_decided : {P : Type 0} (b r : Bool) → r ≡ not b → r ≡ true → Decides b P → P → ⊥
not_decided b r e h d p = let f : r ≡ false = e ∙ ap not (d.1 p) in cc

-- a test that passed
pub decided_not : {P : Type 0} (b r : Bool) → r ≡ not b → r ≡ false → Decides b P → P
decided_not true r e h d = d.0 refl
decided_not false r e h d = absurd (cc)

-- elements are the same but for their kids where their texts are, once the rest is
pub head_same : (one other : Plain) (r : Bool) → (out-Plain one).tag ≡ (out-Plain other).tag → (out-Plain one).attrs ≡ (out-Plain other).attrs → Decides r ((out-Plain one).text ≡ (out-Plain other).text)
    → MatchBool r (IsSameHead one other) (IsSameHead one other → ⊥)
head_same one other true tag attrs d = record { tag = tag; attrs = attrs; text = d.0 refl }
head_same one other false tag attrs d = λ same. let bad : false ≡ true = d.1 same.text in cc

parts_same : (one other : Plain) → IsSameHead one other → (out-Plain one).kids ≡ (out-Plain other).kids → one ≡ other
parts_same one other head kids =
    sym (roll-out-Plain one)
    ∙ (λ i. roll-Plain (record { tag = head.tag i; attrs = head.attrs i; text = head.text i; kids = kids i }))
    ∙ roll-out-Plain other

-- once the one list is at its end, the lists are the same where the other is too
pub all_same : {X : Type 0} (xs ys left rest : List X) (r : Bool) → AreSameIf xs ys left rest → left ≡ [] → r ≡ (length rest == 0) → MatchBool r (xs ≡ ys) (xs ≢ ys)
all_same xs ys left [] true h l e = h.so l
all_same xs ys left [] false h l e = absurd (cc)
all_same xs ys left (y ∷ rest) true h l e = let bad : true ≡ false = e ∙ eqb-suc-zero (length rest) in absurd (cc)
all_same xs ys left (y ∷ rest) false h l e = λ k. let bad : [] ≡ y ∷ rest = sym l ∙ h.back k in cc

pub plain_same : (one other : Plain) (r : Bool) → IsSameHead one other → MatchBool r ((out-Plain one).kids ≡ (out-Plain other).kids) ((out-Plain one).kids ≢ (out-Plain other).kids) → MatchBool r (one ≡ other) (one ≢ other)
plain_same one other true head kids = parts_same one other head kids
plain_same one other false head kids = λ same. kids (ap (λ (p : Plain). (out-Plain p).kids) same)

pub local_same : (one other : Local) (r : Bool) → one.attrs ≡ other.attrs → MatchBool r (one.plain ≡ other.plain) (one.plain ≢ other.plain) → MatchBool r (one ≡ other) (one ≢ other)
local_same one other true attrs plain = λ i. record { attrs = attrs i; plain = plain i }
local_same one other false attrs plain = λ same. plain (ap (λ (l : Local). l.plain) same)
