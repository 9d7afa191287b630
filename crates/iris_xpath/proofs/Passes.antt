-- Whether an element of a list passes a test: the laws of the words that make lists.
use Rattle.std.proofs.Common.{◌≡◌, Bool, true, false, cond, ◌&&◌, ◌||◌, List, [], ◌∷◌, map, filter, refl, ap, sym, ◌∙◌, Option, Some, None}
use Rattle.std.specs.List.{list_any, flat_map, filter_map, cons_option}
use Rattle.std.proofs.lemmas.List.Folds.{list_any-append}
use Rattle.iris_xpath.specs.Meaning.{has_some}
use Rattle.iris_xpath.specs.Same.{some_passes}

-- ---- Bool

-- false at the right
pub or_false : (a : Bool) → (a || false) ≡ a
or_false true = refl
or_false false = refl

-- three that are joined in either order
pub or_assoc : (a b c : Bool) → ((a || b) || c) ≡ (a || (b || c))
or_assoc true b c = refl
or_assoc false b c = refl

-- either one first
pub or_comm : (a b : Bool) → (a || b) ≡ (b || a)
or_comm true true = refl
or_comm true false = refl
or_comm false true = refl
or_comm false false = refl

-- two pairs, joined the other way
pub or_cross : (a b c d : Bool) → ((a || b) || (c || d)) ≡ ((a || c) || (b || d))
or_cross true b c d = refl
or_cross false true true d = refl
or_cross false true false d = refl
or_cross false false c d = refl

-- three that are all asked for
pub and_assoc : (a b c : Bool) → ((a && b) && c) ≡ (a && (b && c))
and_assoc true b c = refl
and_assoc false b c = refl

-- what is asked for besides, in each part
pub and_or : (a b c : Bool) → (a && (b || c)) ≡ ((a && b) || (a && c))
and_or true b c = refl
and_or false b c = refl

-- false at the right
pub and_never : (a : Bool) → (a && false) ≡ false
and_never true = refl
and_never false = refl

-- true at the right changes nothing
pub and_always : (a : Bool) → (a && true) ≡ a
and_always true = refl
and_always false = refl

-- ---- tests

-- tests that agree find the same
pub any_alike : {A : Type 0} (t u : A → Bool) → ((x : A) → t x ≡ u x) → (xs : List A) → list_any t xs ≡ list_any u xs
any_alike t u h [] = refl
any_alike t u h (x ∷ xs) = ap (λ b. b || list_any t xs) (h x) ∙ ap (λ b. u x || b) (any_alike t u h xs)

-- a test that always fails finds nothing
pub any_never : {A : Type 0} (xs : List A) → list_any (λ x. false) xs ≡ false
any_never [] = refl
any_never (x ∷ xs) = any_never xs

-- nor does one that fails at each element
pub any_fails : {A : Type 0} (t : A → Bool) → ((x : A) → t x ≡ false) → (xs : List A) → list_any t xs ≡ false
any_fails t h xs = any_alike t (λ x. false) h xs ∙ any_never xs

-- among images
pub any_map : {A B : Type 0} (t : B → Bool) (f : A → B) (xs : List A) → list_any t (map f xs) ≡ list_any (λ x. t (f x)) xs
any_map t f [] = refl
any_map t f (x ∷ xs) = ap (λ b. t (f x) || b) (any_map t f xs)

any_kept : {A : Type 0} (t : A → Bool) (b : Bool) (x : A) (xs : List A) → list_any t (cond b (x ∷ xs) xs) ≡ ((b && t x) || list_any t xs)
any_kept t true x xs = refl
any_kept t false x xs = refl

-- among what a filter keeps
pub any_filter : {A : Type 0} (t p : A → Bool) (xs : List A) → list_any t (filter p xs) ≡ list_any (λ x. p x && t x) xs
any_filter t p [] = refl
any_filter t p (x ∷ xs) = any_kept t (p x) x (filter p xs) ∙ ap (λ b. (p x && t x) || b) (any_filter t p xs)

any_put : {A : Type 0} (t : A → Bool) (o : Option A) (xs : List A) → list_any t (cons_option o xs) ≡ (some_passes t o || list_any t xs)
any_put t None xs = refl
any_put t (Some x) xs = refl

-- among the images that there are
pub any_filter_map : {A B : Type 0} (t : B → Bool) (f : A → Option B) (xs : List A) → list_any t (filter_map f xs) ≡ list_any (λ x. some_passes t (f x)) xs
any_filter_map t f [] = refl
any_filter_map t f (x ∷ xs) = any_put t (f x) (filter_map f xs) ∙ ap (λ b. some_passes t (f x) || b) (any_filter_map t f xs)

-- among lists put after one another
pub any_flat : {A B : Type 0} (t : B → Bool) (f : A → List B) (xs : List A) → list_any t (flat_map f xs) ≡ list_any (λ x. list_any t (f x)) xs
any_flat t f [] = refl
any_flat t f (x ∷ xs) = list_any-append t (f x) (flat_map f xs) ∙ ap (λ b. list_any t (f x) || b) (any_flat t f xs)

-- one of two tests
pub any_or : {A : Type 0} (t u : A → Bool) (xs : List A) → list_any (λ x. t x || u x) xs ≡ (list_any t xs || list_any u xs)
any_or t u [] = refl
any_or t u (x ∷ xs) = ap (λ b. (t x || u x) || b) (any_or t u xs) ∙ or_cross (t x) (u x) (list_any t xs) (list_any u xs)

-- a test with a fact beside it
pub any_and : {A : Type 0} (b : Bool) (t : A → Bool) (xs : List A) → list_any (λ x. b && t x) xs ≡ (b && list_any t xs)
any_and true t xs = refl
any_and false t xs = any_never xs

-- two lists may be gone over in either order
pub any_swap : {A B : Type 0} (t : A → B → Bool) (xs : List A) (ys : List B) → list_any (λ x. list_any (t x) ys) xs ≡ list_any (λ y. list_any (λ x. t x y) xs) ys
any_swap t [] ys = sym (any_never ys)
any_swap t (x ∷ xs) ys = ap (λ b. list_any (t x) ys || b) (any_swap t xs ys) ∙ sym (any_or (t x) (λ y. list_any (λ x. t x y) xs) ys)

-- a list has an element where one passes any test
pub some_is_any : {A : Type 0} (xs : List A) → has_some xs ≡ list_any (λ x. true) xs
some_is_any [] = refl
some_is_any (x ∷ xs) = refl
