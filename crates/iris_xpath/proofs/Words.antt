-- What a word tests.
use Rattle.std.proofs.Common.{◌≡◌, ℕ, Bool, true, false, ◌||◌, List, [], ◌∷◌, ◌++◌, refl, ap, sym, ◌∙◌, arith, codes, length}
use Rattle.std.specs.Str.{bytes_eq}
use Rattle.iris_xpath.specs.declared.expression.NameTest.{NameTest}
use Rattle.iris_xpath.specs.declared.expression.NameTest.TheVariants.{Kind}
use Rattle.iris_xpath.specs.Trees.{is_name, named, has}
use Rattle.std.proofs.Common.{zero, suc, take, get_or, ◌<◌, ◌+◌}
use Rattle.std.proofs.lemmas.List.{take_more}
use Rattle.std.proofs.lemmas.Slice.Eq.{bytes_eq-Decides}
use Rattle.iris_xpath.proofs.Leads.{Tells, on_test}
use Rattle.iris_xpath.proofs.Runs.{Knows}

-- only the word `not` tests for `not`
pub tells : (kinds : List (List ℕ)) → Tells (named kinds)
tells kinds w = on_test (λ (t : NameTest). is_name (codes "not") t ≡ true → w ≡ codes "not") (has kinds w) _ _ (λ _ h. (bytes_eq-Decides w (codes "not")).0 h) (λ _ h. (bytes_eq-Decides w (codes "not")).0 h)

-- the word `not` tests for `not`
pub knows : (kinds : List (List ℕ)) → Knows (named kinds)
knows kinds = on_test (λ (t : NameTest). is_name (codes "not") t ≡ true) (has kinds (codes "not")) _ _ (λ _. refl) (λ _. refl)

or_same : (x y : Bool) → y ≡ true → (x || y) ≡ true
or_same true y h = refl
or_same false y h = h

-- the word is the kind at an index
pub has_at : (kinds : List (List ℕ)) (i : ℕ) (w d : List ℕ) → i < length kinds → bytes_eq (get_or kinds i d) w ≡ true → has kinds w ≡ true
has_at [] i w d l e = absurd (omega arith)
has_at (k ∷ ks) zero w d l e = rw e refl
has_at (k ∷ ks) (suc i) w d l e = or_same (bytes_eq k w) (has ks w) (has_at ks i w d (omega arith) e)

-- the word tests that kind
pub named_at : (kinds : List (List ℕ)) (i : ℕ) (k s t w : List ℕ) → i < length kinds → k ≡ get_or kinds i k → s ≡ k → t ≡ w → true ≡ bytes_eq s t → Kind k ≡ named kinds w
named_at kinds i k s t w l f g h j =
    let q : bytes_eq k w ≡ true = ap (λ (x : List ℕ). bytes_eq x w) (sym g) ∙ ap (bytes_eq s) (sym h) ∙ sym j in
    let r : bytes_eq (get_or kinds i k) w ≡ true = ap (λ (x : List ℕ). bytes_eq x w) (sym f) ∙ q in
    rw (has_at kinds i w k l r) (ap (λ (x : List ℕ). Kind x) ((bytes_eq-Decides k w).0 q))

has_cons : (x y z : Bool) → (x || y) ≡ false → (y ≡ false → z ≡ false) → (x || z) ≡ false
has_cons true y z h f = absurd (cc)
has_cons false y z h f = f h

has_end : (xs : List (List ℕ)) (k w : List ℕ) → has xs w ≡ false → bytes_eq k w ≡ false → has (xs ++ k ∷ []) w ≡ false
has_end [] k w h e = rw e refl
has_end (x ∷ xs) k w h e = has_cons (bytes_eq x w) (has xs w) (has (xs ++ k ∷ []) w) h (λ i. has_end xs k w i e)

-- one kind more that is another word
pub has_more : (kinds : List (List ℕ)) (i : ℕ) (k s t w : List ℕ) → i < length kinds → has (take i kinds) w ≡ false → k ≡ get_or kinds i k → s ≡ k → t ≡ w → false ≡ bytes_eq s t → has (take (i + 1) kinds) w ≡ false
has_more kinds i k s t w l h f g e j =
    let q : bytes_eq k w ≡ false = ap (λ (x : List ℕ). bytes_eq x w) (sym g) ∙ ap (bytes_eq s) (sym e) ∙ sym j in
    rw (take_more kinds i k l) (has_end (take i kinds) (get_or kinds i k) w h (ap (λ (x : List ℕ). bytes_eq x w) (sym f) ∙ q))
