-- Lists that grow: what is there so far, and what is left.
use Rattle.std.proofs.Common.{◌≡◌, ℕ, zero, suc, ◌+◌, ◌≤◌, Bool, ◌||◌, List, [], ◌∷◌, drop, length, refl, ap, sym, ◌∙◌, Some, slice_get, arith}
use Rattle.std.specs.List.{list_any}
use Rattle.iris_xpath.proofs.Passes.{or_assoc, or_false}
use Rattle.iris_select.proofs.Children.{drop_one}

-- one more was gone over: what it gave is there now
pub one_gone : {A B : Type 0} (given : A → Bool) (xs : List A) (k : ℕ) (x : A) (t : B → Bool) (new old : List B) (all : Bool) → slice_get xs k ≡ Some x
    → list_any t new ≡ (list_any t old || given x) → (list_any t old || list_any given (drop k xs)) ≡ all → (list_any t new || list_any given (drop (k + 1) xs)) ≡ all
one_gone given xs k x t new old all is h sofar =
    ap (λ b. b || list_any given (drop (k + 1) xs)) h
    ∙ or_assoc (list_any t old) (given x) (list_any given (drop (k + 1) xs))
    ∙ ap (λ ys. list_any t old || list_any given ys) (sym (drop_one xs k x is))
    ∙ sofar

-- before the first
pub none_gone : {A B : Type 0} (given : A → Bool) (xs : List A) (t : B → Bool) (new old : List B) (first whole : Bool) → list_any t new ≡ (list_any t old || first) → whole ≡ (first || list_any given xs) → (list_any t new || list_any given xs) ≡ (list_any t old || whole)
none_gone given xs t new old first whole h is =
    ap (λ b. b || list_any given xs) h ∙ or_assoc (list_any t old) first (list_any given xs) ∙ ap (λ b. list_any t old || b) (sym is)

-- after the last nothing is left
pub nothing_left : {A : Type 0} (xs : List A) (k : ℕ) → length xs ≤ k → drop k xs ≡ []
nothing_left [] zero h = refl
nothing_left [] (suc k) h = refl
nothing_left (x ∷ xs) zero h = absurd (omega arith)
nothing_left (x ∷ xs) (suc k) h = nothing_left xs k (omega arith)

-- after the last
pub all_gone : {A B : Type 0} (given : A → Bool) (xs : List A) (k : ℕ) (t : B → Bool) (new : List B) (all : Bool) → length xs ≤ k → (list_any t new || list_any given (drop k xs)) ≡ all → list_any t new ≡ all
all_gone given xs k t new all past sofar = sym (or_false (list_any t new)) ∙ ap (λ ys. list_any t new || list_any given ys) (sym (nothing_left xs k past)) ∙ sofar
