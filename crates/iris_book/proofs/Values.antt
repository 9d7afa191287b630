-- Values of nodes, as updates come one after another.
use Rattle.std.proofs.Common.{◌≡◌, ℕ, zero, suc, ◌+◌, ◌-◌, ◌<◌, ◌≤◌, Bool, true, false, cond, if◌then◌else◌, List, [], ◌∷◌, ◌++◌, length, slice_get, take, Option, Some, None, option_and_then, option_map, Result, Ok, refl, sym, ◌∙◌, ap, subst, arith, ◌⊎◌, inl, inr, length-append, append-nil}
use Rattle.std.specs.Option.{option_map_or}
use Rattle.std.specs.Result.{result_ok}
use Rattle.std.specs.List.{cons_option}
use Rattle.std.proofs.lemmas.List.Sorted.{IsNonDecreasingBy-push}
use Rattle.std.specs.Cmp.Lexicographic.{pointwise}
use Rattle.std.proofs.lemmas.Bool.{cases_lt, le-leb, lt-leb}
use Rattle.std.proofs.lemmas.List.{take-append-le, take_more}
use Rattle.std.proofs.lemmas.List.Elements.{filter_map-append}
use Rattle.std.proofs.lemmas.Option.{slice_get_within, get_or_from_slice_get}
use Rattle.iris_base.specs.declared.name.Label.{Label}
use Rattle.iris_base.specs.NameOrder.{label_eq}
use Rattle.iris_tree.specs.declared.local.Local.{Local}
use Rattle.iris_tree.specs.Universe.{Node, node_at, local_of}
use Rattle.iris_tree.specs.Document.{local_at}
use Rattle.iris_tree.specs.Changes.{apply_changes}
use Rattle.iris_book.specs.declared.update.NodeUpdate.{NodeUpdate}
use Rattle.iris_book.proofs.Named.{name_exact}
use Rattle.iris_book.specs.declared.entry.Entry.{Entry}
use Rattle.iris_book.specs.Book.{Recorded, Updates, if_of, updates_of, changed_by, first_of, value_after, History, updates_in, updates_at, update_count, latest, last_number_at, IsNext, AreSound, IsSound}

-- ---- lists

first_is : (xs : List NodeUpdate) (n : ℕ) → n ≤ length xs → first_of n xs ≡ Some (take n xs)
first_is xs n h = ap (λ (b : Bool). if b then Some (take n xs) else None) (le-leb n (length xs) h)

take_one_more : (xs : List NodeUpdate) (n : ℕ) (x : NodeUpdate) → slice_get xs n ≡ Some x → take (n + 1) xs ≡ take n xs ++ x ∷ []
take_one_more xs n x h = take_more xs n x (slice_get_within xs n x h) ∙ ap (λ (y : NodeUpdate). take n xs ++ y ∷ []) (get_or_from_slice_get xs n x x h)

-- one more list of changes
pub changed_by-push : (l : Local) (us : List NodeUpdate) (u : NodeUpdate) → changed_by l (us ++ u ∷ []) ≡ option_and_then (λ c. result_ok (apply_changes c u.changes)) (changed_by l us)
changed_by-push l [] u = last (result_ok (apply_changes l u.changes))
  where
    last : (o : Option Local) → option_and_then (λ changed. Some changed) o ≡ o
    last None = refl
    last (Some x) = refl
changed_by-push l (v ∷ us) u = by (result_ok (apply_changes l v.changes)) (λ m. changed_by-push m us u)
  where
    by : (o : Option Local) → ((m : Local) → changed_by m (us ++ u ∷ []) ≡ option_and_then (λ c. result_ok (apply_changes c u.changes)) (changed_by m us))
        → option_and_then (λ m. changed_by m (us ++ u ∷ [])) o ≡ option_and_then (λ c. result_ok (apply_changes c u.changes)) (option_and_then (λ m. changed_by m us) o)
    by None h = refl
    by (Some m) h = h m

slice_get_some : (xs : List NodeUpdate) (n : ℕ) → n < length xs → (x : NodeUpdate) × (slice_get xs n ≡ Some x)
slice_get_some [] n h = absurd (omega arith)
slice_get_some (x ∷ xs) zero h = (x, refl)
slice_get_some (x ∷ xs) (suc n) h = slice_get_some xs n (omega arith)

-- ---- one more update

-- the updates of a node after one more update
pub updates_more : (us : Updates) (name n : List Label) (u : NodeUpdate) → updates_of (us ++ (name, u) ∷ []) n ≡ updates_of us n ++ cond (pointwise label_eq n name) (u ∷ []) []
updates_more us name n u = filter_map-append (if_of n) us ((name, u) ∷ []) ∙ ap (λ (xs : List NodeUpdate). updates_of us n ++ xs) (by (pointwise label_eq n name))
  where
    by : (b : Bool) → cons_option (if b then Some u else None) [] ≡ cond b (u ∷ []) []
    by true = refl
    by false = refl

-- versions that there are stay as they are, whatever follows
pub value_stays : (start : Node) (us vs : Updates) (n : List Label) (more : List NodeUpdate) (version : ℕ) → updates_of vs n ≡ updates_of us n ++ more → version ≤ length (updates_of us n) → value_after start vs n version ≡ value_after start us n version
value_stays start us vs n more version grown within =
    let now : first_of version (updates_of vs n) ≡ Some (take version (updates_of us n)) =
    ap (λ (xs : List NodeUpdate). first_of version xs) grown ∙ first_is (updates_of us n ++ more) version (omega (arith, length-append (updates_of us n) more))
    ∙ ap (λ (xs : List NodeUpdate). Some xs) (take-append-le version (updates_of us n) more within) in
    ap (λ (o : Option (List NodeUpdate)). option_and_then (λ local. option_and_then (changed_by local) o) (local_at start n)) (now ∙ sym (first_is (updates_of us n) version within))

-- the next version is made by its changes
pub value_next : (start : Node) (us : Updates) (n : List Label) (version : ℕ) (u : NodeUpdate) (old : Local) → slice_get (updates_of us n) version ≡ Some u → value_after start us n version ≡ Some old → apply_changes old u.changes ≡ Ok u.local
    → value_after start us n (version + 1) ≡ Some u.local
value_next start us n version u old there was made = by (local_at start n) was
  where
    within : version < length (updates_of us n)
    within = slice_get_within (updates_of us n) version u there

    taken : (local : Local) → changed_by local (take (version + 1) (updates_of us n)) ≡ option_and_then (λ c. result_ok (apply_changes c u.changes)) (changed_by local (take version (updates_of us n)))
    taken local = ap (λ (xs : List NodeUpdate). changed_by local xs) (take_one_more (updates_of us n) version u there) ∙ changed_by-push local (take version (updates_of us n)) u

    by : (o : Option Local) → option_and_then (λ local. option_and_then (changed_by local) (first_of version (updates_of us n))) o ≡ Some old
        → option_and_then (λ local. option_and_then (changed_by local) (first_of (version + 1) (updates_of us n))) o ≡ Some u.local
    by None h = absurd (cc)
    by (Some local) h =
        let before : changed_by local (take version (updates_of us n)) ≡ Some old = sym (ap (λ (x : Option (List NodeUpdate)). option_and_then (changed_by local) x) (first_is (updates_of us n) version (omega (arith, within)))) ∙ h in
        ap (λ (x : Option (List NodeUpdate)). option_and_then (changed_by local) x) (first_is (updates_of us n) (version + 1) (omega (arith, within))) ∙ taken local
        ∙ ap (λ (x : Option Local). option_and_then (λ c. result_ok (apply_changes c u.changes)) x) before ∙ ap (λ (r : Result Local ℕ). result_ok r) made

-- what an update left is the value of the version that it made
pub value_is : (start : Node) (us : Updates) (n : List Label) (version : ℕ) (u : NodeUpdate) → AreSound start us → slice_get (updates_of us n) version ≡ Some u → value_after start us n (version + 1) ≡ Some u.local
value_is start us n version u sound there =
    let made = sound.values n version u there in
    value_next start us n version u made.0 there made.1 made.2

-- the value at the start
pub value_zero : (start : Node) (us : Updates) (n : List Label) → value_after start us n 0 ≡ local_at start n
value_zero start us n = by (local_at start n) (first_is (updates_of us n) 0 (omega arith))
  where
    by : (o : Option Local) → first_of 0 (updates_of us n) ≡ Some [] → option_and_then (λ local. option_and_then (changed_by local) (first_of 0 (updates_of us n))) o ≡ o
    by None h = refl
    by (Some l) h = ap (λ (x : Option (List NodeUpdate)). option_and_then (changed_by l) x) h

-- no value where there are fewer updates, or no node
pub value_past : (start : Node) (us : Updates) (n : List Label) (version : ℕ) → length (updates_of us n) < version → value_after start us n version ≡ None
value_past start us n version past = by (local_at start n) (ap (λ (b : Bool). if b then Some (take version (updates_of us n)) else None) (lt-leb version (length (updates_of us n)) past))
  where
    by : (o : Option Local) → first_of version (updates_of us n) ≡ None → option_and_then (λ local. option_and_then (changed_by local) (first_of version (updates_of us n))) o ≡ None
    by None h = refl
    by (Some l) h = ap (λ (x : Option (List NodeUpdate)). option_and_then (changed_by l) x) h

-- without the update that makes a version there is no such version
pub value_absent : (start : Node) (us : Updates) (n : List Label) (version : ℕ) → slice_get (updates_of us n) version ≡ None → value_after start us n (version + 1) ≡ None
value_absent start us n version none = by (cases_lt version (length (updates_of us n)))
  where
    by : (version < length (updates_of us n)) ⊎ (length (updates_of us n) ≤ version) → value_after start us n (version + 1) ≡ None
    by (inl within) =
        let there = slice_get_some (updates_of us n) version within in
        let bad : None ≡ Some there.0 = sym none ∙ there.1 in
        absurd (cc)
    by (inr past) = value_past start us n (version + 1) (omega arith)

-- without a node there is none
pub value_nowhere : (start : Node) (us : Updates) (n : List Label) (version : ℕ) → local_at start n ≡ None → value_after start us n version ≡ None
value_nowhere start us n version none = ap (λ (o : Option Local). option_and_then (λ local. option_and_then (changed_by local) (first_of version (updates_of us n))) o) none

-- ---- what a node holds now

-- what a node holds now, of a city with that start document and these updates
pub record IsNewest (start : Node) (us : Updates) (n : List Label) (local : Local) (version number : ℕ) : Type 0 where
  pub has_version : Some version ≡ option_map (λ _. length (updates_of us n)) (node_at start n)
  pub has_value : value_after start us n version ≡ Some local
  pub has_number : number ≡ option_map_or (λ u. u.no) (slice_get (updates_of us n) (length (updates_of us n) - 1)) 0

-- a node that had an update is one of the start document
pub updated_there : (start : Node) (us : Updates) (n : List Label) (version : ℕ) (u : NodeUpdate) → AreSound start us → slice_get (updates_of us n) version ≡ Some u → (t : Node) × (node_at start n ≡ Some t)
updated_there start us n version u sound there = by (node_at start n) refl
  where
    by : (o : Option Node) → node_at start n ≡ o → (t : Node) × (node_at start n ≡ Some t)
    by None none =
        let made = sound.values n version u there in
        let bad : None ≡ Some made.0 = sym (value_nowhere start us n version (ap (λ (o : Option Node). option_map local_of o) none)) ∙ made.1 in
        absurd (cc)
    by (Some t) is = (t, is)

-- what a node holds after its last update
pub newest_updated : (start : Node) (us : Updates) (n : List Label) (before : ℕ) (u : NodeUpdate) → AreSound start us → slice_get (updates_of us n) before ≡ Some u → before + 1 ≡ length (updates_of us n) → IsNewest start us n u.local (before + 1) u.no
newest_updated start us n before u sound last count = record {
  has_version = ap (λ k. Some k) count ∙ sym (ap (λ (o : Option Node). option_map (λ (x : Node). length (updates_of us n)) o) (updated_there start us n before u sound last).1);
  has_value = value_is start us n before u sound last;
  has_number =
      let at : length (updates_of us n) - 1 ≡ before = omega (arith, count) in
      sym (ap (λ k. option_map_or (λ v. v.no) (slice_get (updates_of us n) k) 0) at ∙ ap (λ (o : Option NodeUpdate). option_map_or (λ v. v.no) o 0) last);
}

no_updates : (xs : List NodeUpdate) → 0 ≡ length xs → xs ≡ []
no_updates [] h = refl
no_updates (x ∷ xs) h = absurd (omega arith)

-- what a node holds that had no update
pub newest_at_start : (start : Node) (us : Updates) (n : List Label) (t : Node) → 0 ≡ length (updates_of us n) → Some t ≡ node_at start n → IsNewest start us n (local_of t) 0 0
newest_at_start start us n t none is = record {
  has_version = ap (λ k. Some k) none ∙ ap (λ (o : Option Node). option_map (λ (x : Node). length (updates_of us n)) o) is;
  has_value = value_zero start us n ∙ ap (λ (o : Option Node). option_map local_of o) (sym is);
  has_number = sym (ap (λ (vs : List NodeUpdate). option_map_or (λ u. u.no) (slice_get vs (length vs - 1)) 0) (no_updates (updates_of us n) none));
}

-- the same of a book, whose updates these are
pub newest_in : (start : Node) (es : List Entry) (us : Updates) (n : List Label) (local : Local) (version number spare : ℕ) (now : Recorded) → updates_in es ≡ us → record { history = record { start = start; entries = es }; spare = spare } ≡ now
    → IsNewest start us n local version number → IsNewest now.history.start (updates_in now.history.entries) n local version number
newest_in start es us n local version number spare now same is new =
    subst (λ (r : Recorded). IsNewest r.history.start (updates_in r.history.entries) n local version number) is (subst (λ (vs : Updates). IsNewest start vs n local version number) (sym same) new)

-- where no such node is, there is no update of it
pub number_nowhere : (h : History) (n : List Label) → IsSound h → latest h n ≡ None → last_number_at h n ≡ 0
number_nowhere h n sound none = by (slice_get (updates_at h n) (update_count h n - 1)) refl
  where
    by : (o : Option NodeUpdate) → slice_get (updates_at h n) (update_count h n - 1) ≡ o → last_number_at h n ≡ 0
    by None is = ap (λ (o : Option NodeUpdate). option_map_or (λ u. u.no) o 0) is
    by (Some u) is =
        let there = updated_there h.start (updates_in h.entries) n (update_count h n - 1) u sound is in
        let bad : None ≡ Some (update_count h n) = sym none ∙ ap (λ (o : Option Node). option_map (λ (x : Node). update_count h n) o) there.1 in
        absurd (cc)

-- ---- soundness

-- an update makes the next version of that one
abbrev pub IsMade : Node → Updates → List Label → ℕ → NodeUpdate → Type 0
IsMade start us n version u = (old : Local) × (value_after start us n version ≡ Some old) × (apply_changes old u.changes ≡ Ok u.local)

made_same : (start : Node) (us vs : Updates) (n : List Label) (more : List NodeUpdate) (version : ℕ) (u : NodeUpdate) → updates_of vs n ≡ updates_of us n ++ more → version ≤ length (updates_of us n) → IsMade start us n version u → IsMade start vs n version u
made_same start us vs n more version u grown within made = (made.0, value_stays start us vs n more version grown within ∙ made.1, made.2)

get_before : (xs : List NodeUpdate) (more : List NodeUpdate) (n : ℕ) (u : NodeUpdate) → n < length xs → slice_get (xs ++ more) n ≡ Some u → slice_get xs n ≡ Some u
get_before [] more n u within h = absurd (omega arith)
get_before (x ∷ xs) more zero u within h = h
get_before (x ∷ xs) more (suc n) u within h = get_before xs more n u (omega arith) h

get_last : (xs : List NodeUpdate) (x u : NodeUpdate) (n : ℕ) → length xs ≤ n → slice_get (xs ++ x ∷ []) n ≡ Some u → (n ≡ length xs) × (x ≡ u)
get_last [] x u zero past h = (refl, (let is : x ≡ u = cc in is))
get_last [] x u (suc n) past h = absurd (cc)
get_last (y ∷ xs) x u zero past h = absurd (omega arith)
get_last (y ∷ xs) x u (suc n) past h = let rest = get_last xs x u n (omega arith) h in (ap suc rest.0, rest.1)

-- an update that may come next keeps the book sound
pub values_more : (start : Node) (us : Updates) (name : List Label) (u : NodeUpdate) → AreSound start us → IsNext start us name u
    → (n : List Label) (version : ℕ) (v : NodeUpdate) → slice_get (updates_of (us ++ (name, u) ∷ []) n) version ≡ Some v → IsMade start (us ++ (name, u) ∷ []) n version v
values_more start us name u sound next n version v there = by (pointwise label_eq n name) refl
  where
    grown : updates_of (us ++ (name, u) ∷ []) n ≡ updates_of us n ++ cond (pointwise label_eq n name) (u ∷ []) []
    grown = updates_more us name n u

    old_one : (more : List NodeUpdate) → updates_of (us ++ (name, u) ∷ []) n ≡ updates_of us n ++ more → version < length (updates_of us n) → IsMade start (us ++ (name, u) ∷ []) n version v
    old_one more grows within =
        made_same start us (us ++ (name, u) ∷ []) n more version v grows (omega arith)
        (sound.values n version v (get_before (updates_of us n) more version v within (ap (λ (xs : List NodeUpdate). slice_get xs version) (sym grows) ∙ there)))

    by : (b : Bool) → pointwise label_eq n name ≡ b → IsMade start (us ++ (name, u) ∷ []) n version v
    by true same = at (cases_lt version (length (updates_of us n)))
      where
        grows : updates_of (us ++ (name, u) ∷ []) n ≡ updates_of us n ++ u ∷ []
        grows = grown ∙ ap (λ (b : Bool). updates_of us n ++ cond b (u ∷ []) []) same

        at : (version < length (updates_of us n)) ⊎ (length (updates_of us n) ≤ version) → IsMade start (us ++ (name, u) ∷ []) n version v
        at (inl within) = old_one (u ∷ []) grows within
        at (inr past) =
            let here = get_last (updates_of us n) u v version past (ap (λ (xs : List NodeUpdate). slice_get xs version) (sym grows) ∙ there) in
            let mine : IsMade start us n (length (updates_of us n)) u = subst (λ (m : List Label). IsMade start us m (length (updates_of us m)) u) (sym (name_exact n name same)) next.value in
            made_same start us (us ++ (name, u) ∷ []) n (u ∷ []) version v grows (omega (arith, here.0))
            (subst (λ (w : NodeUpdate). IsMade start us n version w) here.1 (subst (λ k. IsMade start us n k u) (sym here.0) mine))
    by false other =
        let grows : updates_of (us ++ (name, u) ∷ []) n ≡ updates_of us n ++ [] = grown ∙ ap (λ (b : Bool). updates_of us n ++ cond b (u ∷ []) []) other in
        let within : version < length (updates_of us n) =
        slice_get_within (updates_of us n) version v (ap (λ (xs : List NodeUpdate). slice_get xs version) (sym (grows ∙ append-nil (updates_of us n))) ∙ there) in
        old_one [] grows within

-- one more update that may come next leaves them sound
pub sound_more : (start : Node) (us : Updates) (name : List Label) (u : NodeUpdate) → AreSound start us → IsNext start us name u → AreSound start (us ++ (name, u) ∷ [])
sound_more start us name u sound next = record {
  values = values_more start us name u sound next;
  moments = IsNonDecreasingBy-push (λ v. v.1.at) us (name, u) sound.moments (λ d some. next.later (length us - 1) d (omega arith));
}
