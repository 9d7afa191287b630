-- Entries whose keys rise: they rise still, once one is put or left out.
use Rattle.std.proofs.Common.{◌≡◌, ℕ, ◌+◌, ◌<◌, Bool, true, false, cond, List, [], ◌∷◌, refl, ◌∙◌, ap, arith}
use Rattle.std.specs.declared.cmp.Ordering.{Ordering}
use Rattle.std.specs.declared.cmp.Ordering.TheVariants.{Less, Equal, Greater}
use Rattle.std.specs.Ordering.{match_ordering, ordering_reverse, nat_cmp}
use Rattle.std.specs.Cmp.{IsTotalOrder}
use Rattle.std.specs.Cmp.Lexicographic.{slice_cmp}
use Rattle.std.specs.List.{AllByRecursion, enumerate_from}
use Rattle.std.specs.List.Sorted.{IsStrictlySortedBy}
use Rattle.std.specs.Map.{keys_of, remove_entry}
use Rattle.std.specs.BTreeMap.{insert_entry}
use Rattle.iris_base.specs.NameOrder.{label_cmp, names_total}
use Rattle.iris_fragment.specs.declared.piece.Piece.{Piece}
use Rattle.iris_need.specs.Pieces.{Pieces, AreNamed, piece_at, joined_pieces, with_piece, laid_over}
use Rattle.iris_need.proofs.Pieces.{with_piece_named}

-- ---- one is put

after_put : {K X : Type 0} (R : K → K → Ordering) (x : K) (es : List (K × X)) (k : K) (v : X) → R x k ≡ Less → AllByRecursion (λ y. R x y ≡ Less) (keys_of es) → AllByRecursion (λ y. R x y ≡ Less) (keys_of (insert_entry R es k v))
after_put R x [] k v new all = (new, tt)
after_put {K = K} {X = X} R x (e ∷ es) k v new all = one (R k e.0) (after_put R x es k v new all.1)
  where
    one : (o : Ordering) → AllByRecursion (λ y. R x y ≡ Less) (keys_of (insert_entry R es k v))
        → AllByRecursion (λ y. R x y ≡ Less) (keys_of (match_ordering o ((k, v) ∷ e ∷ es) ((e.0, v) ∷ es) (e ∷ insert_entry R es k v)))
    one Less rest = (new, all)
    one Equal rest = all
    one Greater rest = (all.0, rest)

after_more : {K : Type 0} {R : K → K → Ordering} → IsTotalOrder R → (x y : K) (keys : List K) → R x y ≡ Less → AllByRecursion (λ z. R y z ≡ Less) keys → AllByRecursion (λ z. R x z ≡ Less) keys
after_more o x y [] less all = tt
after_more o x y (z ∷ keys) less all = (o.trans x y z less all.0, after_more o x y keys less all.1)

sorted_one : {K X : Type 0} {R : K → K → Ordering} → IsTotalOrder R → (e : K × X) (es : List (K × X)) (k : K) (v : X) (c : Ordering) → R k e.0 ≡ c → IsStrictlySortedBy R (keys_of (e ∷ es)) → IsStrictlySortedBy R (keys_of (insert_entry R es k v))
    → IsStrictlySortedBy R (keys_of (match_ordering c ((k, v) ∷ e ∷ es) ((e.0, v) ∷ es) (e ∷ insert_entry R es k v)))
unfolding IsStrictlySortedBy
sorted_one o e es k v Less at sorted rest = ((at, after_more o k e.0 (keys_of es) at sorted.0), sorted)
sorted_one o e es k v Equal at sorted rest = sorted
sorted_one {R = R} o e es k v Greater at sorted rest = (after_put R e.0 es k v (o.antisymm e.0 k ∙ ap ordering_reverse at) sorted.0, rest)

pub sorted_put : {K X : Type 0} {R : K → K → Ordering} → IsTotalOrder R → (es : List (K × X)) (k : K) (v : X) → IsStrictlySortedBy R (keys_of es) → IsStrictlySortedBy R (keys_of (insert_entry R es k v))
unfolding IsStrictlySortedBy
sorted_put o [] k v sorted = (tt, tt)
sorted_put {R = R} o (e ∷ es) k v sorted = sorted_one o e es k v (R k e.0) refl sorted (sorted_put o es k v sorted.1)

-- ---- one is left out

fewer : {K X : Type 0} (P : K → Type 0) (test : K → Bool) (es : List (K × X)) → AllByRecursion P (keys_of es) → AllByRecursion P (keys_of (remove_entry test es))
fewer P test [] all = tt
fewer {K = K} {X = X} P test (e ∷ es) all = one (test e.0) (fewer P test es all.1)
  where
    one : (b : Bool) → AllByRecursion P (keys_of (remove_entry test es)) → AllByRecursion P (keys_of (cond b es (e ∷ remove_entry test es)))
    one true rest = all.1
    one false rest = (all.0, rest)

removed_one : {K X : Type 0} (R : K → K → Ordering) (test : K → Bool) (e : K × X) (es : List (K × X)) (b : Bool) → IsStrictlySortedBy R (keys_of (e ∷ es)) → IsStrictlySortedBy R (keys_of (remove_entry test es)) → IsStrictlySortedBy R (keys_of (cond b es (e ∷ remove_entry test es)))
unfolding IsStrictlySortedBy
removed_one R test e es true sorted rest = sorted.1
removed_one R test e es false sorted rest = (fewer (λ y. R e.0 y ≡ Less) test es sorted.0, rest)

pub sorted_removed : {K X : Type 0} (R : K → K → Ordering) (test : K → Bool) (es : List (K × X)) → IsStrictlySortedBy R (keys_of es) → IsStrictlySortedBy R (keys_of (remove_entry test es))
unfolding IsStrictlySortedBy
sorted_removed R test [] sorted = tt
sorted_removed R test (e ∷ es) sorted = removed_one R test e es (test e.0) sorted (sorted_removed R test es sorted.1)

-- ---- numbers one after another

numbers_after : {X : Type 0} (m n : ℕ) (xs : List X) → m < n → AllByRecursion (λ k. nat_cmp m k ≡ Less) (keys_of (enumerate_from n xs))
numbers_after m n [] less = tt
numbers_after m n (x ∷ xs) less = (grind arith, numbers_after m (n + 1) xs (omega arith))

pub numbers_rise : {X : Type 0} (n : ℕ) (xs : List X) → IsStrictlySortedBy nat_cmp (keys_of (enumerate_from n xs))
unfolding IsStrictlySortedBy
numbers_rise n [] = tt
numbers_rise n (x ∷ xs) = (numbers_after n (n + 1) xs (omega arith), numbers_rise (n + 1) xs)

-- ---- pieces of a view

pub laid_ordered : (view : Pieces) (pieces : List Piece) → IsStrictlySortedBy (slice_cmp label_cmp) (keys_of view) → IsStrictlySortedBy (slice_cmp label_cmp) (keys_of (laid_over pieces view))
laid_ordered view [] sorted = sorted
laid_ordered view (piece ∷ pieces) sorted = laid_ordered (with_piece view piece) pieces (sorted_put names_total view piece.name (joined_pieces (piece_at view piece.name) piece) sorted)

pub laid_named : (view : Pieces) (pieces : List Piece) → AreNamed view → AreNamed (laid_over pieces view)
laid_named view [] named = named
laid_named view (piece ∷ pieces) named = laid_named (with_piece view piece) pieces (with_piece_named view piece named)
