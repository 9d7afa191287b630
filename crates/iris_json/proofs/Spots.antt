-- What stands below a value of a city line, as walks over lists come to it.
use Rattle.std.proofs.Common.{◌≡◌, ℕ, zero, suc, ◌+◌, ◌-◌, ◌<◌, ◌≤◌, ◌^◌, min, List, [], ◌∷◌, ◌++◌, append_assoc, length, length-append, take, drop, get_or, Option, Some, None, option_and_then, refl, ap, sym, ◌∙◌, subst, arith}
use Rattle.std.proofs.lemmas.List.{append-nil, take_more, take_all}
use Rattle.std.specs.declared.cmp.Ordering.{Ordering}
use Rattle.std.specs.declared.cmp.Ordering.TheVariants.{Less, Equal, Greater}
use Rattle.std.specs.Ordering.{nat_cmp, match_ordering}
use Rattle.std.specs.Cmp.Lexicographic.{slice_cmp}
use Rattle.std.specs.List.{AllByRecursion}
use Rattle.serde_json.specs.declared.value.Value.{Value}
use Rattle.serde_json.specs.Data.{Data, null, boolean, number, string, array, object, Items, no_items, item, Members, no_members, member}
use Rattle.serde_json.specs.Find.{get, get_member, as_array, as_object}
use Rattle.serde_json.specs.View.{view, items_view}
use Rattle.iris_json.specs.CityParts.{Spot, spots_below, spots_at, spots_in, spots_of, listed, FirstFails, told}
use Rattle.iris_json.proofs.KindReading.{array_there, parted}
use Rattle.iris_json.proofs.MemberKeys.{object_of}

-- ---- lists at a key

in_is : (key : List ℕ) (d : Data) → spots_in key d ≡ spots_of key [] (listed (Some d))
in_is key null = refl
in_is key (boolean b) = refl
in_is key (number n) = refl
in_is key (string s) = refl
in_is key (array ds) = refl
in_is key (object ms) = refl

at_is : (key : List ℕ) (ms : Members) → spots_at key ms ≡ spots_of key [] (listed (get_member key ms))
at_is key no_members = refl
at_is key (member l d ms) = by (slice_cmp nat_cmp key l) (at_is key ms)
  where
    by : (o : Ordering) → spots_at key ms ≡ spots_of key [] (listed (get_member key ms)) → match_ordering o (spots_at key ms) (spots_in key d) (spots_at key ms) ≡ spots_of key [] (listed (match_ordering o (get_member key ms) (Some d) (get_member key ms)))
    by Less rest = rest
    by Equal rest = in_is key d
    by Greater rest = rest

-- what stands below a value is what its list at the key has
pub below_is : (key : List ℕ) (d : Data) → spots_below key d ≡ spots_of key [] (listed (get key d))
below_is key null = refl
below_is key (boolean b) = refl
below_is key (number n) = refl
below_is key (string s) = refl
below_is key (array ds) = refl
below_is key (object ms) = at_is key ms

pub listed_there : (o : Option Data) (items : Items) → Some items ≡ option_and_then as_array o → items ≡ listed o
listed_there o items at = rw (array_there o items at) refl

pub none_listed : (o : Option Data) → None ≡ option_and_then as_array o → no_items ≡ listed o
none_listed None h = refl
none_listed (Some null) h = refl
none_listed (Some (boolean b)) h = refl
none_listed (Some (number n)) h = refl
none_listed (Some (string s)) h = refl
none_listed (Some (array ds)) h = absurd (cc)
none_listed (Some (object ms)) h = refl

pub no_object : (key : List ℕ) (d : Data) → None ≡ as_object d → get key d ≡ None
no_object key null h = refl
no_object key (boolean b) h = refl
no_object key (number n) h = refl
no_object key (string s) h = refl
no_object key (array ds) h = refl
no_object key (object ms) h = absurd (cc)

pub no_object_listed : (key : List ℕ) (d : Data) → None ≡ as_object d → no_items ≡ listed (get key d)
no_object_listed key d h = rw (no_object key d h) refl

-- ---- one value after another

-- the earlier siblings of the next value after these
abbrev pub earlier_after : List Data → List Value → List Data
earlier_after earlier [] = earlier
earlier_after earlier (v ∷ vs) = earlier_after (view v ∷ earlier) vs

pub after_more : (earlier : List Data) (vs : List Value) (v : Value) → earlier_after earlier (vs ++ v ∷ []) ≡ view v ∷ earlier_after earlier vs
after_more earlier [] v = refl
after_more earlier (w ∷ vs) v = after_more (view w ∷ earlier) vs v

pub spots_split : (key : List ℕ) (earlier : List Data) (vs ws : List Value) → spots_of key earlier (items_view (vs ++ ws)) ≡ spots_of key earlier (items_view vs) ++ spots_of key (earlier_after earlier vs) (items_view ws)
spots_split key earlier [] ws = refl
spots_split key earlier (v ∷ vs) ws =
    let here : Spot = record { earlier = earlier; value = view v } in
    ap (λ (later : List Spot). here ∷ (spots_below key (view v) ++ later)) (spots_split key (view v ∷ earlier) vs ws)
    ∙ ap (λ (later : List Spot). here ∷ later) (sym (append_assoc (spots_below key (view v)) (spots_of key (view v ∷ earlier) (items_view vs)) (spots_of key (earlier_after (view v ∷ earlier) vs) (items_view ws))))

-- the spot of the next value
abbrev pub next_spot : List Value → ℕ → Value → Spot
next_spot vs i v = record { earlier = earlier_after [] (take i vs); value = view v }

pub spots_parted : (key : List ℕ) (vs : List Value) (i : ℕ) (v : Value) → i < length vs → v ≡ get_or vs i v
    → spots_of key [] (items_view vs) ≡ spots_of key [] (items_view (take i vs)) ++ (next_spot vs i v ∷ (spots_below key (view v) ++ spots_of key (view v ∷ earlier_after [] (take i vs)) (items_view (drop (suc i) vs))))
spots_parted key vs i v within is = ap (λ (xs : List Value). spots_of key [] (items_view xs)) (parted vs i v within is) ∙ spots_split key [] (take i vs) (v ∷ drop (suc i) vs)

pub spots_more : (key : List ℕ) (vs : List Value) (i : ℕ) (v : Value) → take (i + 1) vs ≡ take i vs ++ v ∷ []
    → spots_of key [] (items_view (take (i + 1) vs)) ≡ spots_of key [] (items_view (take i vs)) ++ (next_spot vs i v ∷ spots_below key (view v))
spots_more key vs i v more =
    ap (λ (xs : List Value). spots_of key [] (items_view xs)) more ∙ spots_split key [] (take i vs) (v ∷ [])
    ∙ ap (λ (later : List Spot). spots_of key [] (items_view (take i vs)) ++ (next_spot vs i v ∷ later)) (append-nil (spots_below key (view v)))

-- ---- facts of all, and the first that fails

pub all_both : (P : Spot → Type 0) (xs ys : List Spot) → AllByRecursion P xs → AllByRecursion P ys → AllByRecursion P (xs ++ ys)
all_both P [] ys all also = also
all_both P (x ∷ xs) ys all also = (all.0, all_both P xs ys all.1 also)

pub all_first : (P : Spot → Type 0) (xs ys : List Spot) → AllByRecursion P (xs ++ ys) → AllByRecursion P xs
all_first P [] ys all = tt
all_first P (x ∷ xs) ys all = (all.0, all_first P xs ys all.1)

pub all_last : (P : Spot → Type 0) (xs ys : List Spot) → AllByRecursion P (xs ++ ys) → AllByRecursion P ys
all_last P [] ys all = all
all_last P (x ∷ xs) ys all = all_last P xs ys all.1

pub fails_before : (P : Spot → Type 0) (xs ys : List Spot) (k : ℕ) → FirstFails P xs k → FirstFails P (xs ++ ys) k
fails_before P [] ys k fails = absurd fails
fails_before P (x ∷ xs) ys zero fails = fails
fails_before P (x ∷ xs) ys (suc k) fails = (fails.0, fails_before P xs ys k fails.1)

pub fails_after : (P : Spot → Type 0) (xs ys : List Spot) (k m : ℕ) → m ≡ length xs + k → AllByRecursion P xs → FirstFails P ys k → FirstFails P (xs ++ ys) m
fails_after P [] ys k m is all fails = subst (FirstFails P ys) (omega (arith, is)) fails
fails_after P (x ∷ xs) ys k zero is all fails = absurd (omega (arith, is))
fails_after P (x ∷ xs) ys k (suc m) is all fails = (all.0, fails_after P xs ys k m (omega (arith, is)) all.1 fails)

pub fails_not_all : (P : Spot → Type 0) (xs : List Spot) (k : ℕ) → FirstFails P xs k → AllByRecursion P xs → ⊥
fails_not_all P [] k fails all = fails
fails_not_all P (x ∷ xs) zero fails all = fails all.0
fails_not_all P (x ∷ xs) (suc k) fails all = fails_not_all P xs k fails.1 all.1

-- ---- loops over the values of a list

-- each spot of the first i of these values has it
abbrev pub AllSoFar : (Spot → Type 0) → List ℕ → List Value → ℕ → Type 0
AllSoFar P key vs i = AllByRecursion P (spots_of key [] (items_view (take i vs)))

pub so_far_more : (P : Spot → Type 0) (key : List ℕ) (vs : List Value) (i : ℕ) (v : Value) → i < length vs → v ≡ get_or vs i v → AllSoFar P key vs i → P (next_spot vs i v) → AllByRecursion P (spots_below key (view v)) → AllSoFar P key vs (i + 1)
so_far_more P key vs i v within is all here below =
    let more : take (i + 1) vs ≡ take i vs ++ v ∷ [] = take_more vs i v within ∙ ap (λ (x : Value). take i vs ++ x ∷ []) (sym is) in
    subst (AllByRecursion P) (sym (spots_more key vs i v more)) (all_both P (spots_of key [] (items_view (take i vs))) (next_spot vs i v ∷ spots_below key (view v)) all (here, below))

pub so_far_whole : (P : Spot → Type 0) (key : List ℕ) (vs : List Value) (i : ℕ) → length vs ≤ i → AllSoFar P key vs i → AllByRecursion P (spots_of key [] (items_view vs))
so_far_whole P key vs i end all = subst (λ (xs : List Value). AllByRecursion P (spots_of key [] (items_view xs))) (take_all i vs end) all

pub all_here : (P : Spot → Type 0) (key : List ℕ) (vs : List Value) (i : ℕ) (v : Value) → i < length vs → v ≡ get_or vs i v → AllByRecursion P (spots_of key [] (items_view vs)) → P (next_spot vs i v) × AllByRecursion P (spots_below key (view v))
all_here P key vs i v within is all =
    let last = all_last P (spots_of key [] (items_view (take i vs))) (next_spot vs i v ∷ (spots_below key (view v) ++ spots_of key (view v ∷ earlier_after [] (take i vs)) (items_view (drop (suc i) vs)))) (subst (AllByRecursion P) (spots_parted key vs i v within is) all) in
    (last.0, all_first P (spots_below key (view v)) (spots_of key (view v ∷ earlier_after [] (take i vs)) (items_view (drop (suc i) vs))) last.1)
