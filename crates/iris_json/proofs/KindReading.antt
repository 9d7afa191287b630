-- From a list of texts to kinds.
use Rattle.std.proofs.Common.{◌≡◌, ℕ, zero, suc, ◌+◌, ◌*◌, ◌<◌, ◌≤◌, Bool, true, false, List, [], ◌∷◌, ◌++◌, length, take, drop, get_or, map, replicate, Option, Some, None, option_and_then, refl, ap, sym, ◌∙◌, subst, arith, ◌≢◌, bytes_eq, rules, ◌==◌}
use Rattle.std.specs.Cmp.Lexicographic.{nat_list_eq_equiv}
use Rattle.std.proofs.lemmas.Bool.{or_from}
use Rattle.std.proofs.lemmas.List.{take_more, take_all, take-append-drop}
use Rattle.std.proofs.lemmas.Map.Keys.{IsDistinct-push}
use Rattle.std.proofs.Math.Seq.{drop-cons}
use Rattle.std.specs.List.{AllByRecursion, IsDistinct, list_any, sum}
use Rattle.serde_json.specs.declared.value.Value.{Value}
use Rattle.serde_json.specs.Data.{Data, null, boolean, number, string, array, object, Items, no_items, item}
use Rattle.serde_json.specs.Find.{as_array}
use Rattle.serde_json.specs.View.{view, items_view, items_of}
use Rattle.std.proofs.lemmas.List.{length-replicate}
use Rattle.std.proofs.lemmas.List.Sums.{sum_by-append}
use Rattle.iris_base.specs.declared.limits.TheConstants.{MAX_AGENTS, MAX_CAPACITY, MAX_CAPACITIES, DEFAULT_CAPACITY}
use Rattle.iris_json.specs.CityForm.{AreWords, AreCapacities}
use Rattle.iris_json.specs.CityKeys.{texts_data, cap_data, default_caps}
use Rattle.iris_json.specs.CityRows.{EachItem, IsTextPair}

-- a list at a key is an array there
pub array_there : (o : Option Data) (items : Items) → Some items ≡ option_and_then as_array o → o ≡ Some (array items)
array_there None items h = absurd (cc)
array_there (Some null) items h = absurd (cc)
array_there (Some (boolean b)) items h = absurd (cc)
array_there (Some (number n)) items h = absurd (cc)
array_there (Some (string s)) items h = absurd (cc)
array_there (Some (array ds)) items h = cc
array_there (Some (object ms)) items h = absurd (cc)

-- a list of one value
pub sole : (o : Option Data) (vs : List Value) (v : Value) → Some (items_view vs) ≡ option_and_then as_array o → length vs ≡ 1 → v ≡ get_or vs 0 v → o ≡ Some (array (item (view v) no_items))
sole o [] v at one is = absurd (omega arith)
sole o (w ∷ []) v at one is = array_there o (items_view (w ∷ [])) at ∙ ap (λ (x : Value). Some (array (item (view x) no_items))) (sym is)
sole o (w ∷ x ∷ vs) v at one is = absurd (omega arith)

-- a list of more or fewer
pub not_sole : (o : Option Data) (vs : List Value) (d : Data) → Some (items_view vs) ≡ option_and_then as_array o → length vs ≢ 1 → o ≡ Some (array (item d no_items)) → ⊥
not_sole o [] d at other is = let e = array_there o no_items at in absurd (cc)
not_sole o (w ∷ []) d at other is = other refl
not_sole o (w ∷ x ∷ vs) d at other is = let e = array_there o (items_view (w ∷ x ∷ vs)) at in absurd (cc)

-- what `is_empty` answered
pub empty : (b : Bool) (n : ℕ) → b ≡ (n == 0) → b ≡ true → n ≡ 0
empty b n e is = search (rules, e, is)

pub not_empty : (b : Bool) (n : ℕ) → b ≡ (n == 0) → b ≡ false → 0 < n
not_empty b zero e is = absurd (cc)
not_empty b (suc n) e is = omega arith

-- ---- lists of values of one sort

-- as many values as there are
pub mapped_len : {A : Type 0} (f : A → Data) (vs : List Value) (xs : List A) → items_view vs ≡ items_of (map f xs) → length xs ≡ length vs
mapped_len f [] [] same = refl
mapped_len f [] (x ∷ xs) same = absurd (cc)
mapped_len f (v ∷ vs) [] same = absurd (cc)
mapped_len f (v ∷ vs) (x ∷ xs) same = let rest : items_view vs ≡ items_of (map f xs) = cc in ap suc (mapped_len f vs xs rest)

-- a list is of the same values only
pub mapped_same : {A : Type 0} (f : A → Data) → ((a b : A) → f a ≡ f b → a ≡ b) → (xs ys : List A) → items_of (map f xs) ≡ items_of (map f ys) → xs ≡ ys
mapped_same f one [] [] same = refl
mapped_same f one [] (y ∷ ys) same = absurd (cc)
mapped_same f one (x ∷ xs) [] same = absurd (cc)
mapped_same f one (x ∷ xs) (y ∷ ys) same =
    let rest : items_of (map f xs) ≡ items_of (map f ys) = cc in
    let first : f x ≡ f y = cc in
    let tail = mapped_same f one xs ys rest in
    rw (one x y first, tail) refl

-- the next value, after those that were read
pub mapped_here : {A : Type 0} (f : A → Data) → ((a b : A) → f a ≡ f b → a ≡ b) → (vs : List Value) (v : Value) (after : List Value) (done xs : List A) → items_view (vs ++ v ∷ after) ≡ items_of (map f xs) → items_view vs ≡ items_of (map f done)
    → (x : A) × (rest : List A) × (xs ≡ done ++ x ∷ rest) × (view v ≡ f x)
mapped_here f one [] v after [] [] whole front = absurd (cc)
mapped_here f one [] v after [] (x ∷ xs) whole front = let is : view v ≡ f x = cc in (x, xs, refl, is)
mapped_here f one [] v after (d ∷ done) xs whole front = absurd (cc)
mapped_here f one (w ∷ vs) v after [] xs whole front = absurd (cc)
mapped_here f one (w ∷ vs) v after (d ∷ done) [] whole front = absurd (cc)
mapped_here {A = A} f one (w ∷ vs) v after (d ∷ done) (x ∷ xs) whole front =
    let rest_whole : items_view (vs ++ v ∷ after) ≡ items_of (map f xs) = cc in
    let rest_front : items_view vs ≡ items_of (map f done) = cc in
    let first : f x ≡ f d = cc in
    let same = one x d first in
    let later = mapped_here f one vs v after done xs rest_whole rest_front in
    let joined : x ∷ xs ≡ d ∷ (done ++ later.0 ∷ later.1) = ap (λ (ks : List A). x ∷ ks) later.2 ∙ ap (λ (j : A). j ∷ (done ++ later.0 ∷ later.1)) same in
    (later.0, later.1, joined, later.3)

-- one value more
pub mapped_more : {A : Type 0} (f : A → Data) (vs : List Value) (v : Value) (done : List A) (x : A) → items_view vs ≡ items_of (map f done) → view v ≡ f x → items_view (vs ++ v ∷ []) ≡ items_of (map f (done ++ x ∷ []))
mapped_more f [] v [] x same is = ap (λ (d : Data). item d no_items) is
mapped_more f [] v (d ∷ done) x same is = absurd (cc)
mapped_more f (w ∷ vs) v [] x same is = absurd (cc)
mapped_more f (w ∷ vs) v (d ∷ done) x same is =
    let rest : items_view vs ≡ items_of (map f done) = cc in
    let first : view w ≡ f d = cc in
    rw (first, mapped_more f vs v done x rest is) refl

-- the values up to the next, it, and those after it
pub parted : (vs : List Value) (i : ℕ) (v : Value) → i < length vs → v ≡ get_or vs i v → vs ≡ take i vs ++ v ∷ drop (suc i) vs
parted vs i v within is = sym (take-append-drop i vs) ∙ ap (λ (xs : List Value). take i vs ++ xs) (drop-cons vs i v within ∙ ap (λ (x : Value). x ∷ drop (suc i) vs) (sym is))

pub string_once : (a b : List ℕ) → string a ≡ string b → a ≡ b
string_once a b same = cc

-- a list is of the same texts only
pub texts_same : (kinds others : List (List ℕ)) → items_of (map string kinds) ≡ items_of (map string others) → kinds ≡ others
texts_same = mapped_same string string_once

-- ---- different words

pub each_more : {A : Type 0} (P : A → Type 0) (xs : List A) (x : A) → AllByRecursion P xs → P x → AllByRecursion P (xs ++ x ∷ [])
each_more P [] x each is = (is, tt)
each_more P (y ∷ xs) x each is = (each.0, each_more P xs x each.1 is)

pub one_here : {A : Type 0} (P : A → Type 0) (done : List A) (x : A) (rest : List A) → AllByRecursion P (done ++ x ∷ rest) → P x
one_here P [] x rest each = each.0
one_here P (d ∷ done) x rest each = one_here P done x rest each.1

-- of different keys none stands before itself
pub none_before : {A : Type 0} (eq : A → A → Bool) (done : List A) (k : A) (rest : List A) → IsDistinct eq (done ++ k ∷ rest) → list_any (λ y. eq y k) done ≡ false
unfolding IsDistinct
none_before eq [] k rest differ = refl
none_before eq (d ∷ done) k rest differ = or_from (eq d k) (list_any (λ y. eq y k) done) (one_here (λ y. eq d y ≡ false) done k rest differ.0) (none_before eq done k rest differ.1)

pub turned : {A : Type 0} (eq : A → A → Bool) → ((a b : A) → eq a b ≡ eq b a) → (ks : List A) (k : A) → list_any (eq k) ks ≡ list_any (λ y. eq y k) ks
turned eq flips [] k = refl
turned eq flips (j ∷ ks) k = rw (turned eq flips ks k, flips k j) refl

-- the first i of these values are different words
pub record WordsSo (P : List ℕ → Type 0) (items : List Value) (i : ℕ) (words : List (List ℕ)) : Type 0 where
  pub same : items_view (take i items) ≡ items_of (map string words)
  pub each : AllByRecursion P words
  pub differ : IsDistinct bytes_eq words

pub so_start : (P : List ℕ → Type 0) (items : List Value) (words : List (List ℕ)) → words ≡ [] → WordsSo P items 0 words
unfolding IsDistinct
so_start P items [] none = record { same = refl; each = tt; differ = tt }
so_start P items (w ∷ words) none = absurd (cc)

-- one word more
pub so_step : (P : List ℕ → Type 0) (items : List Value) (i : ℕ) (words : List (List ℕ)) → WordsSo P items i words → (v : Value) → i < length items → v ≡ get_or items i v → (w : List ℕ) → (view v ≡ string w) × P w
    → false ≡ list_any (λ y. bytes_eq y w) words → (new : List (List ℕ)) → new ≡ words ++ w ∷ [] → WordsSo P items (i + 1) new
so_step P items i words s v within is w read fresh new made =
    let items_are : take (i + 1) items ≡ take i items ++ v ∷ [] = take_more items i v within ∙ ap (λ (x : Value). take i items ++ x ∷ []) (sym is) in
    let differ_all = IsDistinct-push nat_list_eq_equiv words w s.differ (turned bytes_eq nat_list_eq_equiv.symm words w ∙ sym fresh) in
    record {
      same = ap items_view items_are ∙ mapped_more string (take i items) v words w s.same read.0 ∙ ap (λ (ws : List (List ℕ)). items_of (map string ws)) (sym made);
      each = subst (AllByRecursion P) (sym made) (each_more P words w s.each read.1);
      differ = subst (IsDistinct bytes_eq) (sym made) differ_all;
    }

-- the word that the next value is in any reading
pub next_word : (P : List ℕ → Type 0) (most : ℕ) (items : List Value) (i : ℕ) (done words : List (List ℕ)) → WordsSo P items i done → (v : Value) → i < length items → v ≡ get_or items i v → items_view items ≡ items_of (map string words) → AreWords P most words
    → (w : List ℕ) × (view v ≡ string w) × P w × (list_any (λ y. bytes_eq y w) done ≡ false)
next_word P most items i done words s v within is same are =
    let here = mapped_here string string_once (take i items) v (drop (suc i) items) done words (ap items_view (sym (parted items i v within is)) ∙ same) s.same in
    let each = subst (AllByRecursion P) here.2 are.each in
    let differ = subst (IsDistinct bytes_eq) here.2 are.differ in
    (here.0, here.3, one_here P done here.0 here.1 each, none_before bytes_eq done here.0 here.1 differ)

-- all of the values are words
pub so_found : (P : List ℕ → Type 0) (most : ℕ) (items : List Value) (i : ℕ) (words : List (List ℕ)) → WordsSo P items i words → length items ≤ i → 0 < length items → length items ≤ most → (items_view items ≡ items_of (map string words)) × AreWords P most words
so_found P most items i words s end some few =
    let same : items_view items ≡ items_of (map string words) = ap items_view (sym (take_all i items end)) ∙ s.same in
    let len = mapped_len string items words same in
    (same, record { some = omega (arith, len, some); few = omega (arith, len, few); each = s.each; differ = s.differ })

-- the texts at a key, which has these values
pub texts_at : (o : Option Data) (vs : List Value) (kinds : List (List ℕ)) → Some (items_view vs) ≡ option_and_then as_array o → o ≡ Some (texts_data kinds) → items_view vs ≡ items_of (map string kinds)
texts_at o vs kinds at is = let e = array_there o (items_view vs) at in cc

-- ---- pairs

pub pair_len : (d : Data) (vs : List Value) → Some (items_view vs) ≡ as_array d → IsTextPair d → length vs ≡ 2
pair_len d vs at pair = by vs (array_there (Some d) (items_view vs) at)
  where
    by : (vs : List Value) → Some d ≡ Some (array (items_view vs)) → length vs ≡ 2
    by [] e = absurd (cc (pair.2))
    by (a ∷ []) e = absurd (cc (pair.2))
    by (a ∷ b ∷ []) e = refl
    by (a ∷ b ∷ c ∷ vs) e = absurd (cc (pair.2))

pub pair_of : (d : Data) (vs : List Value) (v w : Value) → Some (items_view vs) ≡ as_array d → length vs ≡ 2 → v ≡ get_or vs 0 v → w ≡ get_or vs 1 w → d ≡ array (item (view v) (item (view w) no_items))
pair_of d [] v w at two first second = absurd (omega arith)
pair_of d (a ∷ []) v w at two first second = absurd (omega arith)
pair_of d (a ∷ b ∷ []) v w at two first second = let e = array_there (Some d) (items_view (a ∷ b ∷ [])) at in cc
pair_of d (a ∷ b ∷ c ∷ vs) v w at two first second = absurd (omega arith)

-- ---- values one after another

pub item_push : (P : Data → Type 0) (vs : List Value) (v : Value) → EachItem P (items_view vs) → P (view v) → EachItem P (items_view (vs ++ v ∷ []))
item_push P [] v each here = (here, tt)
item_push P (w ∷ vs) v each here = (each.0, item_push P vs v each.1 here)

pub item_here : (P : Data → Type 0) (vs : List Value) (v : Value) (after : List Value) → EachItem P (items_view (vs ++ v ∷ after)) → P (view v)
item_here P [] v after each = each.0
item_here P (w ∷ vs) v after each = item_here P vs v after each.1

-- as a loop over the values knows them
pub items_more : (P : Data → Type 0) (vs : List Value) (i : ℕ) (v : Value) → i < length vs → v ≡ get_or vs i v → EachItem P (items_view (take i vs)) → P (view v) → EachItem P (items_view (take (i + 1) vs))
items_more P vs i v within is each here =
    let taken : take (i + 1) vs ≡ take i vs ++ v ∷ [] = take_more vs i v within ∙ ap (λ (x : Value). take i vs ++ x ∷ []) (sym is) in
    subst (λ (xs : List Value). EachItem P (items_view xs)) (sym taken) (item_push P (take i vs) v each here)

pub items_here : (P : Data → Type 0) (vs : List Value) (i : ℕ) (v : Value) → i < length vs → v ≡ get_or vs i v → EachItem P (items_view vs) → P (view v)
items_here P vs i v within is each = item_here P (take i vs) v (drop (suc i) vs) (subst (λ (xs : List Value). EachItem P (items_view xs)) (parted vs i v within is) each)

pub items_whole : (P : Data → Type 0) (vs : List Value) (i : ℕ) → length vs ≤ i → EachItem P (items_view (take i vs)) → EachItem P (items_view vs)
items_whole P vs i end each = subst (λ (xs : List Value). EachItem P (items_view xs)) (take_all i vs end) each

-- ---- capacities

pub cap_once : (a b : ℕ) → cap_data a ≡ cap_data b → a ≡ b
cap_once a b same = cc

-- the first i of these values are capacities
pub record CapsSo (items : List Value) (i : ℕ) (caps : List ℕ) (together : ℕ) : Type 0 where
  pub same : items_view (take i items) ≡ items_of (map cap_data caps)
  pub some : AllByRecursion (λ cap. 0 < cap) caps
  pub fits : AllByRecursion (λ cap. cap ≤ MAX_CAPACITY) caps
  pub sum_is : together ≡ sum caps
  pub few : together ≤ MAX_CAPACITIES

pub caps_start : (items : List Value) (caps : List ℕ) → caps ≡ [] → CapsSo items 0 caps 0
caps_start items [] none = record { same = refl; some = tt; fits = tt; sum_is = refl; few = omega arith }
caps_start items (c ∷ caps) none = absurd (cc)

sum_more : (xs : List ℕ) (x : ℕ) (ys : List ℕ) → sum (xs ++ x ∷ ys) ≡ sum xs + (x + sum ys)
sum_more xs x ys = omega (arith, sum_by-append (λ n. n) xs (x ∷ ys), sum_by-append (λ n. n) (x ∷ []) ys)

pub caps_step : (items : List Value) (i : ℕ) (caps : List ℕ) (together sum_now : ℕ) → CapsSo items i caps together → (v : Value) → i < length items → v ≡ get_or items i v → (cap : ℕ) → (view v ≡ cap_data cap) × (0 < cap) × (cap ≤ MAX_CAPACITY)
    → sum_now ≡ together + cap → sum_now ≤ MAX_CAPACITIES → (new : List ℕ) → new ≡ caps ++ cap ∷ [] → CapsSo items (i + 1) new sum_now
caps_step items i caps together sum_now s v within is cap read added few new made =
    let items_are : take (i + 1) items ≡ take i items ++ v ∷ [] = take_more items i v within ∙ ap (λ (x : Value). take i items ++ x ∷ []) (sym is) in
    record {
      same = ap items_view items_are ∙ mapped_more cap_data (take i items) v caps cap s.same read.0 ∙ ap (λ (cs : List ℕ). items_of (map cap_data cs)) (sym made);
      some = subst (AllByRecursion (λ c. 0 < c)) (sym made) (each_more (λ c. 0 < c) caps cap s.some read.1);
      fits = subst (AllByRecursion (λ c. c ≤ MAX_CAPACITY)) (sym made) (each_more (λ c. c ≤ MAX_CAPACITY) caps cap s.fits read.2);
      sum_is = omega (arith, added, s.sum_is, sum_more caps cap [], ap sum made);
      few = few;
    }

-- the capacity that the next value is in any reading, and how much it makes with those before
pub next_cap : (items : List Value) (i agents : ℕ) (done caps : List ℕ) (together : ℕ) → CapsSo items i done together → (v : Value) → i < length items → v ≡ get_or items i v → items_view items ≡ items_of (map cap_data caps) → AreCapacities agents caps
    → (cap : ℕ) × (view v ≡ cap_data cap) × (0 < cap) × (cap ≤ MAX_CAPACITY) × (together + cap ≤ MAX_CAPACITIES)
next_cap items i agents done caps together s v within is same are =
    let here = mapped_here cap_data cap_once (take i items) v (drop (suc i) items) done caps (ap items_view (sym (parted items i v within is)) ∙ same) s.same in
    (here.0, here.3, one_here (λ c. 0 < c) done here.0 here.1 (subst (AllByRecursion (λ c. 0 < c)) here.2 are.some), one_here (λ c. c ≤ MAX_CAPACITY) done here.0 here.1 (subst (AllByRecursion (λ c. c ≤ MAX_CAPACITY)) here.2 are.fits), omega (arith, s.sum_is, are.together, sum_more done here.0 here.1, ap sum here.2))

pub caps_found : (items : List Value) (i agents : ℕ) (caps : List ℕ) (together : ℕ) → CapsSo items i caps together → length items ≤ i → length items ≡ agents → (items_view items ≡ items_of (map cap_data caps)) × AreCapacities agents caps
caps_found items i agents caps together s end has =
    let same : items_view items ≡ items_of (map cap_data caps) = ap items_view (sym (take_all i items end)) ∙ s.same in
    (same, record { each_has = mapped_len cap_data items caps same ∙ has; some = s.some; fits = s.fits; together = omega (arith, s.sum_is, s.few) })

pub defaults_fit : (agents : ℕ) → agents ≤ MAX_AGENTS → AreCapacities agents (default_caps agents)
defaults_fit agents few = record { each_has = length-replicate agents DEFAULT_CAPACITY; some = all_same (λ c. 0 < c) agents (omega arith); fits = all_same (λ c. c ≤ MAX_CAPACITY) agents (omega arith); together = omega (arith, few, sum_same agents) }
  where
    all_same : (P : ℕ → Type 0) (n : ℕ) → P DEFAULT_CAPACITY → AllByRecursion P (replicate n DEFAULT_CAPACITY)
    all_same P zero h = tt
    all_same P (suc n) h = (h, all_same P n h)

    sum_same : (n : ℕ) → sum (replicate n DEFAULT_CAPACITY) ≡ n * DEFAULT_CAPACITY
    sum_same zero = refl
    sum_same (suc n) = omega (arith, sum_by-append (λ m. m) (DEFAULT_CAPACITY ∷ []) (replicate n DEFAULT_CAPACITY), sum_same n)
