-- Updates by the names of their nodes.
use Rattle.std.proofs.Common.{◌≡◌, ℕ, zero, suc, ◌+◌, ◌<◌, ◌≤◌, ◌==◌, Bool, true, false, cond, if◌then◌else◌, List, [], ◌∷◌, ◌++◌, length, get_or, slice_get, map, position, not, ◌||◌, option_map, Option, Some, None, refl, sym, ◌∙◌, ap, subst, arith, eqb, eq-eqb, ◌⊎◌, inl, inr}
use Rattle.std.specs.Prelude.{slice_index}
use Rattle.std.specs.List.{IsDistinct, AllByRecursion, cons_option, list_any}
use Rattle.std.proofs.lemmas.List.Quantifiers.{position-Some}
use Rattle.std.proofs.lemmas.List.Filters.{length-filter_both}
use Rattle.std.proofs.lemmas.Option.{slice_get-map, slice_get_past}
use Rattle.std.specs.Cmp.Lexicographic.{pointwise}
use Rattle.std.proofs.lemmas.Bool.Decides.{eqb_tells}
use Rattle.std.proofs.lemmas.List.{length-map, get_or_read}
use Rattle.std.proofs.Math.ListN.{get_or-append}
use Rattle.std.proofs.lemmas.Slice.Eq.{slice_eq-Decides}
use Rattle.iris_base.specs.declared.name.Label.{Label}
use Rattle.iris_base.specs.NameOrder.{label_eq}
use Rattle.iris_base.proofs.Labels.{label_eq-Decides}
use Rattle.iris_book.specs.declared.update.NodeUpdate.{NodeUpdate}
use Rattle.iris_book.specs.declared.linked.LinkedUpdate.{LinkedUpdate}
use Rattle.iris_book.specs.Book.{updates_of}
use Rattle.iris_book.specs.Linked.{named_update, of_node, IsAt, AreOrderly}
use Rattle.iris_book.proofs.LinkSteps.{found}

-- the names of nodes, by their numbers
abbrev pub Names : Type 0
Names = List (List Label)

-- the numbers of nodes are below that one
abbrev pub KnownBelow : ℕ → List LinkedUpdate → Type 0
KnownBelow nodes es = (at : ℕ) (d : LinkedUpdate) → at < length es → (get_or es at d).node < nodes

-- that number alone is one of that name
pub record IsNumberOf (names : Names) (name : List Label) (node : ℕ) : Type 0 where
  pub here : pointwise label_eq name (get_or names node []) ≡ true
  pub only : (other : ℕ) → other < length names → pointwise label_eq name (get_or names other []) ≡ true → other ≡ node

by_test : (a b : Bool) → (a ≡ true → b ≡ true) → (b ≡ true → a ≡ true) → a ≡ b
by_test true true f g = refl
by_test true false f g = sym (f refl)
by_test false true f g = g refl
by_test false false f g = refl

test_is : (names : Names) (name : List Label) (node : ℕ) → IsNumberOf names name node → (other : ℕ) → other < length names → pointwise label_eq name (get_or names other []) ≡ (other == node)
test_is names name node is other within = by_test _ _ (λ h. eq-eqb other node (is.only other within h)) (λ h. tells (eqb_tells other node) h)
  where
    tells : ((eqb other node ≡ true) × (other ≡ node)) ⊎ ((eqb other node ≡ false) × (other ≡ node → ⊥)) → eqb other node ≡ true → pointwise label_eq name (get_or names other []) ≡ true
    tells (inl same) h = ap (λ k. pointwise label_eq name (get_or names k [])) same.1 ∙ is.here
    tells (inr unlike) h = absurd (cc)

one_more : (b c : Bool) (e : LinkedUpdate) (us : List NodeUpdate) (rest : List LinkedUpdate) → b ≡ c → us ≡ map (λ (x : LinkedUpdate). x.update) rest
    → cons_option (if b then Some e.update else None) us ≡ map (λ (x : LinkedUpdate). x.update) (cond c (e ∷ rest) rest)
one_more true true e us rest same h = ap (λ (ys : List NodeUpdate). e.update ∷ ys) h
one_more true false e us rest same h = absurd (cc)
one_more false true e us rest same h = absurd (cc)
one_more false false e us rest same h = h

-- the updates of a name are those of its number
pub named_of : (names : Names) (name : List Label) (node : ℕ) (es : List LinkedUpdate) → IsNumberOf names name node → KnownBelow (length names) es
    → updates_of (map (named_update names) es) name ≡ map (λ (x : LinkedUpdate). x.update) (of_node node es)
named_of names name node [] is known = refl
named_of names name node (e ∷ es) is known =
    one_more _ _ e _ _ (test_is names name node is e.node (known 0 e (omega arith))) (named_of names name node es is (λ at d h. known (suc at) d (omega arith)))

none_more : (b : Bool) (u : NodeUpdate) (us : List NodeUpdate) → b ≡ false → us ≡ [] → cons_option (if b then Some u else None) us ≡ []
none_more true u us off h = absurd (cc)
none_more false u us off h = h

-- a name without a number has none
pub unnamed : (names : Names) (name : List Label) (es : List LinkedUpdate) → ((other : ℕ) → other < length names → pointwise label_eq name (get_or names other []) ≡ false) → KnownBelow (length names) es
    → updates_of (map (named_update names) es) name ≡ []
unnamed names name [] absent known = refl
unnamed names name (e ∷ es) absent known = none_more _ e.update _ (absent e.node (known 0 e (omega arith))) (unnamed names name es absent (λ at d h. known (suc at) d (omega arith)))

-- ---- numbers of names

-- names that are alike are equal
pub name_exact : (m n : List Label) → pointwise label_eq m n ≡ true → m ≡ n
name_exact m n h = (slice_eq-Decides label_eq-Decides m n _ refl).0 h

all_apart : (x : List Label) (names : Names) (k : ℕ) → AllByRecursion (λ y. pointwise label_eq x y ≡ false) names → k < length names → pointwise label_eq x (get_or names k []) ≡ false
all_apart x [] k h within = absurd (omega arith)
all_apart x (n ∷ ns) zero h within = h.0
all_apart x (n ∷ ns) (suc k) h within = all_apart x ns k h.1 (omega arith)

-- of names that are apart one alone is like a given one
pub only_one : (names : Names) (name : List Label) (i j : ℕ) → IsDistinct (pointwise label_eq) names → i < length names → j < length names
    → pointwise label_eq name (get_or names i []) ≡ true → pointwise label_eq name (get_or names j []) ≡ true → j ≡ i
unfolding IsDistinct
only_one [] name i j apart within within' h h' = absurd (omega arith)
only_one (n ∷ ns) name zero zero apart within within' h h' = refl
only_one (n ∷ ns) name zero (suc j) apart within within' h h' =
    let off : pointwise label_eq n (get_or ns j []) ≡ false = all_apart n ns j apart.0 (omega arith) in
    let yes : pointwise label_eq n (get_or ns j []) ≡ true = subst (λ (x : List Label). pointwise label_eq x (get_or ns j []) ≡ true) (name_exact name n h) h' in
    absurd (cc)
only_one (n ∷ ns) name (suc i) zero apart within within' h h' =
    let off : pointwise label_eq n (get_or ns i []) ≡ false = all_apart n ns i apart.0 (omega arith) in
    let yes : pointwise label_eq n (get_or ns i []) ≡ true = subst (λ (x : List Label). pointwise label_eq x (get_or ns i []) ≡ true) (name_exact name n h') h in
    absurd (cc)
only_one (n ∷ ns) name (suc i) (suc j) apart within within' h h' = ap suc (only_one ns name i j apart.1 (omega arith) (omega arith) h h')

-- the number that a look-up found
pub number_found : (names : Names) (name : List Label) (node : ℕ) → IsDistinct (pointwise label_eq) names → Some node ≡ position (pointwise label_eq name) names → IsNumberOf names name node
number_found names name node apart h =
    let at = position-Some (pointwise label_eq name) names node [] (sym h) in
    record { here = at.1; only = λ other within same. only_one names name node other apart at.0 within at.1 same }

any_none : (p : List Label → Bool) (names : Names) (k : ℕ) → list_any p names ≡ false → k < length names → p (get_or names k []) ≡ false
any_none p [] k h within = absurd (omega arith)
any_none p (n ∷ ns) zero h within = by (p n) (list_any p ns) h
  where
    by : (b c : Bool) → (b || c) ≡ false → b ≡ false
    by true c h = h
    by false c h = refl
any_none p (n ∷ ns) (suc k) h within = any_none p ns k (by (p n) (list_any p ns) h) (omega arith)
  where
    by : (b c : Bool) → (b || c) ≡ false → c ≡ false
    by true c h = absurd (cc)
    by false c h = h

-- a name that no look-up finds
pub number_absent : (names : Names) (name : List Label) → list_any (pointwise label_eq name) names ≡ false → (other : ℕ) → other < length names → pointwise label_eq name (get_or names other []) ≡ false
number_absent names name h other within = any_none (pointwise label_eq name) names other h within

-- ---- as the code has them

few : (node : ℕ) (es : List LinkedUpdate) → length (of_node node es) ≤ length es
few node es = omega (arith, length-filter_both (λ (e : LinkedUpdate). e.node == node) (λ (e : LinkedUpdate). not (e.node == node)) (λ _. refl) es)

-- the last update of a node that was found
pub last_here : (names : Names) (last : List ℕ) (es : List LinkedUpdate) (node at : ℕ) → AreOrderly names last es → node < length names → at ≡ get_or last node at
    → (n : ℕ) × (length (of_node node es) ≡ n + 1) × IsAt es at node n
last_here names last es node at kept within is =
    let ended = kept.linked.ends node within in
    let read : at ≡ slice_index last node = get_or_read last node at (omega (arith, kept.linked.lasts)) is 0 in
    (ended.0, ended.1, subst (λ k. IsAt es k node ended.0) (sym read) ended.2)

-- the number of updates of a node is no more than that of all
pub count_fits : (names : Names) (last : List ℕ) (es : List LinkedUpdate) (node at : ℕ) (e : LinkedUpdate) → AreOrderly names last es → node < length names → at ≡ get_or last node at → e ≡ get_or es at e → e.before + 1 ≤ length es
count_fits names last es node at e kept within is read =
    let here = last_here names last es node at kept within is in
    let before = ap (λ (x : LinkedUpdate). x.before) read ∙ here.2.before_is e in
    omega (arith, before, here.1, few node es)

-- the last update of a node tells their number
pub count_is : (names : Names) (last : List ℕ) (es : List LinkedUpdate) (name : List Label) (node at : ℕ) (e : LinkedUpdate) → AreOrderly names last es → node < length names → Some node ≡ position (pointwise label_eq name) names
    → at ≡ get_or last node at → e ≡ get_or es at e → e.before + 1 ≡ length (updates_of (map (named_update names) es) name)
count_is names last es name node at e kept within numbered is read =
    let here = last_here names last es node at kept within is in
    let before : e.before ≡ here.0 = ap (λ (x : LinkedUpdate). x.before) read ∙ here.2.before_is e in
    ap (λ n. n + 1) before ∙ sym here.1 ∙ sym (length-map (of_node node es) (λ (x : LinkedUpdate). x.update))
    ∙ sym (ap (λ (us : List NodeUpdate). length us) (named_of names name node es (number_found names name node kept.apart numbered) kept.linked.known))

-- a name that no look-up finds has no updates
pub count_none : (names : Names) (last : List ℕ) (es : List LinkedUpdate) (name : List Label) → AreOrderly names last es → list_any (pointwise label_eq name) names ≡ false → updates_of (map (named_update names) es) name ≡ []
count_none names last es name kept absent = unnamed names name es (number_absent names name absent) kept.linked.known

-- the update at a place is that of its node by its number
pub get_is : (names : Names) (last : List ℕ) (es : List LinkedUpdate) (name : List Label) (node at number : ℕ) (e : LinkedUpdate) → AreOrderly names last es → Some node ≡ position (pointwise label_eq name) names
    → IsAt es at node number → e ≡ get_or es at e → Some e.update ≡ slice_get (updates_of (map (named_update names) es) name) number
get_is names last es name node at number e kept found_at here read =
    ap (λ (x : LinkedUpdate). Some x.update) read ∙ sym (ap (λ (o : Option LinkedUpdate). option_map (λ (x : LinkedUpdate). x.update) o) (found es at node number e kept.linked.links here))
    ∙ sym (slice_get-map (λ (x : LinkedUpdate). x.update) (of_node node es) number)
    ∙ sym (ap (λ (us : List NodeUpdate). slice_get us number) (named_of names name node es (number_found names name node kept.apart found_at) kept.linked.known))

-- there is none past the last
pub get_past : (names : Names) (last : List ℕ) (es : List LinkedUpdate) (name : List Label) (node at number : ℕ) (e : LinkedUpdate) → AreOrderly names last es → node < length names → Some node ≡ position (pointwise label_eq name) names
    → at ≡ get_or last node at → e ≡ get_or es at e → e.before < number → None ≡ slice_get (updates_of (map (named_update names) es) name) number
get_past names last es name node at number e kept within numbered is read past =
    let count = count_is names last es name node at e kept within numbered is read in
    sym (slice_get_past (updates_of (map (named_update names) es) name) number (omega (arith, count)))

-- ---- one more

-- a name more changes nothing of what is named
pub named_more : (names : Names) (x : List Label) (es : List LinkedUpdate) → KnownBelow (length names) es → map (named_update (names ++ x ∷ [])) es ≡ map (named_update names) es
named_more names x [] known = refl
named_more names x (e ∷ es) known =
    λ i. (get_or-append names (x ∷ []) [] e.node (known 0 e (omega arith)) i, e.update) ∷ named_more names x es (λ at d h. known (suc at) d (omega arith)) i
