-- What is collected over a program, and what it gives, part by part.
use Rattle.std.proofs.Common.{◌≡◌, ℕ, ◌+◌, ◌<◌, ◌≤◌, true, List, [], ◌∷◌, ◌++◌, length, get_or, drop, fold, Option, Some, None, option_map, option_and_then, refl, sym, ap, ◌∙◌, append-nil, add-one, drop-cons, arith, MatchOption}
use Rattle.std.proofs.lemmas.List.{drop_all}
use Rattle.std.proofs.lemmas.List.Sums.{fold-append}
use Rattle.iris_base.specs.declared.name.Label.{Label}
use Rattle.iris_tree.specs.declared.local.Local.{Local}
use Rattle.iris_fragment.specs.declared.piece.Full.{Full}
use Rattle.iris_fragment.specs.declared.piece.Piece.{Piece}
use Rattle.iris_need.specs.declared.need.Need.{Need}
use Rattle.iris_need.specs.declared.looks.Looks.{Looks}
use Rattle.iris_need.specs.Pieces.{Pieces, piece_at, known_of, view_of}
use Rattle.iris_need.specs.Needs.{is_under, seen_from}
use Rattle.iris_need.specs.Run.{Known, View, Run, give, both, next, Out, Seen, pair_value, ids_known, full_known, seen_with, after, after_ids, after_full, run}
use Rattle.iris_need.specs.Program.{each, gather}
use Rattle.iris_need.specs.Collected.{take_look, collected, value_given, full_in, full_of}

-- ---- lists

-- a list without elements
pub empty_is : {X : Type 0} (xs : List X) → length xs ≡ 0 → xs ≡ []
empty_is [] h = refl
empty_is (x ∷ xs) h = absurd (omega (arith, h))

-- ---- one look

seen_under : (above name : List Label) (w : View) → is_under name above ≡ true → seen_from above w name ≡ w name
seen_under above name w h = rw h refl

-- ---- lists of looks

abbrev sees : List Label → Pieces → View
sees above pieces = seen_from above (view_of pieces)

ids_unknown : (t : List Need → Need → List Need) (needs : List Need) (look : Need) (o : Option Known) {A : Type 0} (f : List Label → Out A) → o ≡ None → (fold t needs (after_ids look (ids_known o) f).log ≡ t needs look) × ((after_ids look (ids_known o) f).value ≡ None)
ids_unknown t needs look o f e = rw e (refl, refl)

full_unknown : (t : List Need → Need → List Need) (needs : List Need) (look : Need) (o : Option Seen) {A : Type 0} (f : List Label → Local → Out A) → o ≡ None → (fold t needs (after_full look o f).log ≡ t needs look) × ((after_full look o f).value ≡ None)
full_unknown t needs look o f e = rw e (refl, refl)

-- ---- what is seen at a name

-- what is known in full of a piece
pub full_known_is : (o : Option Piece) → full_known (option_map known_of o) ≡ option_and_then full_of o
full_known_is None = refl
full_known_is (Some piece) = by_full piece.full
  where
    by_full : (full : Option Full) → seen_with piece.ids (option_map (λ f. f.local) full) ≡ option_map (full_in piece) full
    by_full None = refl
    by_full (Some full) = refl

ids_seen : (above : List Label) (pieces : Pieces) (name : List Label) (o : Option Piece) → is_under name above ≡ true → piece_at pieces name ≡ o → sees above pieces name ≡ option_map known_of o
ids_seen above pieces name o u p = seen_under above name (view_of pieces) u ∙ ap (option_map known_of) p

-- ---- programs one after another

-- a value takes no look
pub collected_give : (which : Looks) (above : List Label) (pieces : Pieces) (needs : List Need) {A : Type 0} (a : A) → collected which above pieces needs (give a) ≡ needs
unfolding collected
collected_give which above pieces needs a = refl

-- a value is given
pub given_give : (above : List Label) (pieces : Pieces) {A : Type 0} (a : A) → value_given above pieces (give a) ≡ Some a
unfolding value_given
given_give above pieces a = refl

after_none : (t : List Need → Need → List Need) (needs looks : List Need) {A B : Type 0} (o : Option A) (f : A → Out B) → o ≡ None → (fold t needs (after looks o f).log ≡ fold t needs looks) × ((after looks o f).value ≡ None)
after_none t needs looks o f e = rw e (refl, refl)

after_some : (t : List Need → Need → List Need) (needs looks : List Need) {A B : Type 0} (o : Option A) (a : A) (f : A → Out B) → o ≡ Some a → (fold t needs (after looks o f).log ≡ fold t (fold t needs looks) (f a).log) × ((after looks o f).value ≡ (f a).value)
after_some t needs looks o a f e = rw e (fold-append t needs looks (f a).log, refl)

-- an undecided program ends what follows
pub next_undecided : (which : Looks) (above : List Label) (pieces : Pieces) (needs : List Need) {A B : Type 0} (r : Run A) (k : A → Run B) → value_given above pieces r ≡ None
    → (collected which above pieces needs (next r k) ≡ collected which above pieces needs r) × (value_given above pieces (next r k) ≡ None)
unfolding collected value_given
next_undecided which above pieces needs r k e = after_none (take_look which above (view_of pieces)) needs (run (sees above pieces) r).log (run (sees above pieces) r).value (λ a. run (sees above pieces) (k a)) e

-- a decided program gives its value on
pub next_decided : (which : Looks) (above : List Label) (pieces : Pieces) (needs : List Need) {A B : Type 0} (r : Run A) (a : A) (k : A → Run B) → value_given above pieces r ≡ Some a
    → (collected which above pieces needs (next r k) ≡ collected which above pieces (collected which above pieces needs r) (k a)) × (value_given above pieces (next r k) ≡ value_given above pieces (k a))
unfolding collected value_given
next_decided which above pieces needs r a k e = after_some (take_look which above (view_of pieces)) needs (run (sees above pieces) r).log (run (sees above pieces) r).value a (λ x. run (sees above pieces) (k x)) e

after_giving : (t : List Need → Need → List Need) (needs looks : List Need) {A B : Type 0} (o : Option A) (f : A → B) → fold t needs (after looks o (λ a. record { log = []; value = Some (f a) })).log ≡ fold t needs looks
after_giving t needs looks None f = refl
after_giving t needs looks (Some a) f = ap (fold t needs) (append-nil looks)

-- what is made of a program's value takes no look
pub next_giving : (which : Looks) (above : List Label) (pieces : Pieces) (needs : List Need) {A B : Type 0} (r : Run A) (f : A → B) → collected which above pieces needs (next r (λ a. give (f a))) ≡ collected which above pieces needs r
unfolding collected
next_giving which above pieces needs r f = after_giving (take_look which above (view_of pieces)) needs (run (sees above pieces) r).log (run (sees above pieces) r).value f

-- of two programs the looks follow one another
pub collected_both : (which : Looks) (above : List Label) (pieces : Pieces) (needs : List Need) {A B C : Type 0} (f : A → B → C) (r : Run A) (s : Run B) → collected which above pieces needs (both f r s) ≡ collected which above pieces (collected which above pieces needs r) s
unfolding collected
collected_both which above pieces needs f r s = fold-append (take_look which above (view_of pieces)) needs (run (sees above pieces) r).log (run (sees above pieces) s).log

-- ---- what programs give

value_of_giving : {A B : Type 0} (o : Option A) (f : A → B) (looks : List _) → (after looks o (λ a. record { log = []; value = Some (f a) })).value ≡ option_map f o
value_of_giving None f looks = refl
value_of_giving (Some a) f looks = refl

-- what is made of a program's value
pub given_next : (above : List Label) (pieces : Pieces) {A B : Type 0} (r : Run A) (f : A → B) → value_given above pieces (next r (λ a. give (f a))) ≡ option_map f (value_given above pieces r)
unfolding value_given
given_next above pieces r f = value_of_giving (run (seen_from above (view_of pieces)) r).value f (run (seen_from above (view_of pieces)) r).log

-- two programs give a value where each gives one
pub given_both : (above : List Label) (pieces : Pieces) {A B C : Type 0} (f : A → B → C) (r : Run A) (s : Run B) → value_given above pieces (both f r s) ≡ pair_value f (value_given above pieces r) (value_given above pieces s)
unfolding value_given
given_both above pieces f r s = refl

-- ---- loops over children, where what is left to do stands in the invariant

-- the elements from an index on
pub cut_at : {X : Type 0} (xs : List X) (i : ℕ) (x d : X) → i < length xs → x ≡ get_or xs i d → drop i xs ≡ x ∷ drop (i + 1) xs
cut_at {X = X} xs i x d h e = rw add-one (drop-cons xs i d h) ∙ ap (λ (y : X). y ∷ drop (i + 1) xs) (sym e)

-- one more element is done
pub one_more : (which : Looks) (above : List Label) (pieces : Pieces) {X A : Type 0} (F : X → Run (List A)) (xs : List X) (i : ℕ) (x d : X) (old new all : List Need) → i < length xs → x ≡ get_or xs i d → new ≡ collected which above pieces old (F x)
    → collected which above pieces old (gather F (drop i xs)) ≡ all → collected which above pieces new (gather F (drop (i + 1) xs)) ≡ all
one_more which above pieces F xs i x d old new all h e n o =
    ap (λ (ns : List Need). collected which above pieces ns (gather F (drop (i + 1) xs))) n
    ∙ sym (collected_both which above pieces old (λ ys zs. ys ++ zs) (F x) (gather F (drop (i + 1) xs)))
    ∙ ap (λ ys. collected which above pieces old (gather F ys)) (sym (cut_at xs i x d h e)) ∙ o

-- after the last element nothing is left
pub all_done : (which : Looks) (above : List Label) (pieces : Pieces) {X A : Type 0} (F : X → Run (List A)) (xs : List X) (i : ℕ) (new all : List Need) → length xs ≤ i → collected which above pieces new (gather F (drop i xs)) ≡ all → new ≡ all
all_done which above pieces F xs i new all h o =
    sym (collected_give which above pieces new []) ∙ ap (λ ys. collected which above pieces new (gather F ys)) (sym (drop_all i xs h)) ∙ o

-- one more element is done, of programs with one value each
pub each_more : (which : Looks) (above : List Label) (pieces : Pieces) {X A : Type 0} (F : X → Run A) (xs : List X) (i : ℕ) (x d : X) (old new all : List Need) → i < length xs → x ≡ get_or xs i d → new ≡ collected which above pieces old (F x)
    → collected which above pieces old (each F (drop i xs)) ≡ all → collected which above pieces new (each F (drop (i + 1) xs)) ≡ all
each_more which above pieces F xs i x d old new all h e n o =
    ap (λ (ns : List Need). collected which above pieces ns (each F (drop (i + 1) xs))) n
    ∙ sym (collected_both which above pieces old (λ y ys. y ∷ ys) (F x) (each F (drop (i + 1) xs)))
    ∙ ap (λ ys. collected which above pieces old (each F ys)) (sym (cut_at xs i x d h e)) ∙ o

-- after the last element nothing is left, of programs with one value each
pub each_done : (which : Looks) (above : List Label) (pieces : Pieces) {X A : Type 0} (F : X → Run A) (xs : List X) (i : ℕ) (new all : List Need) → length xs ≤ i → collected which above pieces new (each F (drop i xs)) ≡ all → new ≡ all
each_done which above pieces F xs i new all h o =
    sym (collected_give which above pieces new []) ∙ ap (λ ys. collected which above pieces new (each F ys)) (sym (drop_all i xs h)) ∙ o

-- ---- a name pushed and popped

not_pushed : {X : Type 0} (name : List X) (l : X) → name ++ l ∷ [] ≡ [] → ⊥
not_pushed [] l h = cc
not_pushed (m ∷ name) l h = cc

same_above : {X : Type 0} (m n : List X) (a b : X) → m ++ a ∷ [] ≡ n ++ b ∷ [] → m ≡ n
same_above [] [] a b h = refl
same_above [] (x ∷ n) a b h =
    let e : n ++ b ∷ [] ≡ [] = cc in
    absurd (not_pushed n b e)
same_above (x ∷ m) [] a b h =
    let e : m ++ a ∷ [] ≡ [] = cc in
    absurd (not_pushed m a e)
same_above {X = X} (x ∷ m) (y ∷ n) a b h =
    let first : x ≡ y = cc in
    let rest : m ++ a ∷ [] ≡ n ++ b ∷ [] = cc in
    rw first (ap (λ (ls : List X). y ∷ ls) (same_above m n a b rest))

-- a pushed label is popped
pub popped : {X : Type 0} (o : Option X) (pushed after name : List X) (l : X) → MatchOption o ((pushed ≡ []) × (after ≡ [])) (λ bottom. pushed ≡ after ++ bottom ∷ []) → pushed ≡ name ++ l ∷ [] → after ≡ name
popped None pushed after name l p h = absurd (not_pushed name l (sym h ∙ p.0))
popped (Some b) pushed after name l p h = same_above after name b l (sym p ∙ h)
