-- Anchored steps, one after another.
use Rattle.std.proofs.Common.{◌≡◌, ℕ, zero, suc, ◌<◌, ◌≤◌, ◌+◌, List, [], ◌∷◌, ◌++◌, refl, ap, sym, ◌∙◌, subst, arith, length, take, drop, get_or}
use Rattle.std.proofs.lemmas.List.{take_more, drop_more, take-append-drop, length-take-le}
use Rattle.iris_base.specs.declared.name.Label.{Label}
use Rattle.iris_xpath.specs.declared.expression.Step.{Step}
use Rattle.iris_xpath.specs.declared.expression.Expression.{Expression}
use Rattle.iris_xpath.specs.Syntax.{Syntax}
use Rattle.iris_xpath.specs.Anchor.{IsIdPredicate, HasNoId, FirstId, Anchored, IsAnchored, AllAnchored, HaveLabels, Lca, LcaName}

no_id_end : (es : List Expression) (e : Expression) → HasNoId es → ((id : List ℕ) → IsIdPredicate id e → ⊥) → HasNoId (es ++ e ∷ [])
no_id_end [] e h f = (f, tt)
no_id_end (x ∷ es) e h f = (h.0, no_id_end es e h.1 f)

-- one expression more that is no id predicate
pub no_id_more : (es : List Expression) (i : ℕ) (e : Expression) → i < length es → e ≡ get_or es i e → HasNoId (take i es) → ((id : List ℕ) → IsIdPredicate id e → ⊥) → HasNoId (take (i + 1) es)
no_id_more es i e l h n f = rw (take_more es i e l, ← h) (no_id_end (take i es) e n f)

-- the first id predicate is at this index
pub first_at : (es : List Expression) (i : ℕ) (e : Expression) (id : List ℕ) → i < length es → e ≡ get_or es i e → HasNoId (take i es) → IsIdPredicate id e → FirstId id es
first_at es i e id l h n f =
    record { front = take i es; predicate = e; back = drop (i + 1) es; parts = sym (take-append-drop i es) ∙ ap (λ (z : List Expression). take i es ++ z) (drop_more es i e l ∙ ap (λ (z : Expression). z ∷ drop (i + 1) es) (sym h)); none_before = n; is_id = f }

no_id_in : (front : List Expression) (e : Expression) (back : List Expression) (id : List ℕ) → HasNoId (front ++ e ∷ back) → IsIdPredicate id e → ⊥
no_id_in [] e back id h f = h.0 id f
no_id_in (x ∷ front) e back id h f = no_id_in front e back id h.1 f

-- a step with no id predicate is not anchored
pub no_anchor : (s : Step Expression) → HasNoId s.predicates → IsAnchored s → ⊥
no_anchor s h a = let f : FirstId a.0.id s.predicates = a.1.id in no_id_in f.front f.predicate f.back a.0.id (subst HasNoId f.parts h) f.is_id

all_end : (q : Syntax) (s : Step Expression) → AllAnchored q → IsAnchored s → AllAnchored (q ++ s ∷ [])
all_end [] s h a = (a, tt)
all_end (x ∷ q) s h a = (h.0, all_end q s h.1 a)

-- one anchored step more
pub all_more : (q : Syntax) (i : ℕ) (s : Step Expression) (label : Label) → i < length q → s ≡ get_or q i s → AllAnchored (take i q) → Anchored s label → AllAnchored (take (i + 1) q)
all_more q i s label l h n a = rw (take_more q i s l, ← h) (all_end (take i q) s n (label, a))

labels_end : (q : Syntax) (s : Step Expression) (name : List Label) (label : Label) → HaveLabels q name → Anchored s label → HaveLabels (q ++ s ∷ []) (name ++ label ∷ [])
labels_end [] s [] label h a = (a, tt)
labels_end [] s (l ∷ ls) label h a = absurd h
labels_end (x ∷ q) s [] label h a = absurd h
labels_end (x ∷ q) s (l ∷ ls) label h a = (h.0, labels_end q s ls label h.1 a)

-- one anchored step more, and its label
pub labels_more : (q : Syntax) (i : ℕ) (s : Step Expression) (name new : List Label) (label : Label) → i < length q → s ≡ get_or q i s → HaveLabels (take i q) name → Anchored s label → new ≡ name ++ label ∷ [] → HaveLabels (take (i + 1) q) new
labels_more q i s name new label l h n a e = rw (take_more q i s l, ← h, e) (labels_end (take i q) s name label n a)

labels_all : (q : Syntax) (name : List Label) → HaveLabels q name → AllAnchored q
labels_all [] name h = tt
labels_all (s ∷ q) [] h = absurd h
labels_all (s ∷ q) (l ∷ ls) h = ((l, h.0), labels_all q ls h.1)

labels_length : (q : Syntax) (name : List Label) → HaveLabels q name → length name ≡ length q
labels_length [] [] h = refl
labels_length [] (l ∷ ls) h = absurd h
labels_length (s ∷ q) [] h = absurd h
labels_length (s ∷ q) (l ∷ ls) h = ap suc (labels_length q ls h.1)

-- among the first m steps stands each before them
all_at : (q : Syntax) (m i : ℕ) (s : Step Expression) → i < m → i < length q → AllAnchored (take m q) → IsAnchored (get_or q i s)
all_at [] m i s h l a = absurd (omega (arith, l))
all_at (x ∷ q) zero i s h l a = absurd (omega (arith, h))
all_at (x ∷ q) (suc m) zero s h l a = a.0
all_at (x ∷ q) (suc m) (suc i) s h l a = all_at q m i s (omega (arith, h)) (omega (arith, l)) a.1

not_more : (i m : ℕ) → (i < m → ⊥) → m ≤ i
not_more i m h = grind arith

-- the count where the next step is not anchored
pub lca_at : (q : Syntax) (i n : ℕ) (s : Step Expression) → i < length q → s ≡ get_or q i s → n ≡ i → AllAnchored (take i q) → (IsAnchored s → ⊥) → Lca q n
lca_at q i n s l h e a f =
    rw e (record { within = omega (arith, l); all = a; greatest = λ m k b. not_more i m (λ j. f (subst IsAnchored (sym h) (all_at q m i s j l b))) })

-- the count where every step is anchored
pub lca_all : (q : Syntax) (i n : ℕ) → i ≡ length q → n ≡ i → AllAnchored (take i q) → Lca q n
lca_all q i n l e a = rw e (record { within = omega (arith, l); all = a; greatest = λ m k b. omega (arith, l, k) })

-- the name where the next step is not anchored
pub name_at : (q : Syntax) (i : ℕ) (name : List Label) (s : Step Expression) → i < length q → s ≡ get_or q i s → HaveLabels (take i q) name → (IsAnchored s → ⊥) → LcaName q name
name_at q i name s l h n f =
    let e : length name ≡ i = labels_length (take i q) name n ∙ length-take-le i q (omega (arith, l)) in
    record { count = lca_at q i (length name) s l h e (labels_all (take i q) name n) f; labels = rw e n }

-- the name where every step is anchored
pub name_all : (q : Syntax) (i : ℕ) (name : List Label) → i ≡ length q → HaveLabels (take i q) name → LcaName q name
name_all q i name l n =
    let e : length name ≡ i = labels_length (take i q) name n ∙ length-take-le i q (omega (arith, l)) in
    record { count = lca_all q i (length name) l e (labels_all (take i q) name n); labels = rw e n }

-- two numbers, neither greater than the other
pub same : (i k : ℕ) → i ≤ k → k ≤ i → i ≡ k
same i k h l = omega (arith, h, l)
