-- What a new entry changes, and what it leaves.
use Rattle.std.proofs.Common.{◌≡◌, ℕ, zero, suc, ◌+◌, ◌<◌, ◌≤◌, Bool, true, false, cond, if◌then◌else◌, List, [], ◌∷◌, ◌++◌, length, slice_get, Option, None, IsSome, IfSome, refl, sym, ◌∙◌, ap, subst, arith, ◌⊎◌, inl, inr, length-append, append-nil}
use Rattle.std.specs.Cmp.Lexicographic.{pointwise}
use Rattle.std.proofs.lemmas.Bool.{cases_lt}
use Rattle.std.proofs.lemmas.List.Elements.{filter_map-append}
use Rattle.iris_base.specs.declared.name.Label.{Label}
use Rattle.iris_base.specs.NameOrder.{label_eq}
use Rattle.iris_tree.specs.declared.local.Local.{Local}
use Rattle.iris_book.specs.declared.update.NodeUpdate.{NodeUpdate}
use Rattle.iris_book.specs.declared.entry.Entry.{Entry}
use Rattle.iris_book.specs.declared.entry.Entry.TheVariants.{Updated, Gave, Answered}
use Rattle.iris_book.specs.Book.{History, Updates, with_entry, updates_in, update_in, updates_of, updates_at, update_count, value_at, today, today_of, HadVersion}
use Rattle.iris_book.specs.Entering.{after_entry, updates_by, IsBy, KeepsEarlier}
use Rattle.iris_book.proofs.NewestDocument.{today_more}
use Rattle.iris_book.proofs.Values.{updates_more, value_stays, value_past}

-- the updates of a node that an entry is
abbrev pub by_entry : Entry → List Label → List NodeUpdate
by_entry (Updated name number changes local at) n = cond (pointwise label_eq n name) ((record { no = number; changes = changes; local = local; at = at }) ∷ []) []
by_entry (Gave name to epoch) n = []
by_entry (Answered request query floor cites) n = []

-- the updates of a node after an entry
pub updates_entry : (h : History) (e : Entry) (n : List Label) → updates_at (with_entry h e) n ≡ updates_at h n ++ by_entry e n
updates_entry h (Updated name number changes local at) n =
    ap (λ (us : Updates). updates_of us n) (filter_map-append update_in h.entries (Updated name number changes local at ∷ []))
    ∙ updates_more (updates_in h.entries) name n (record { no = number; changes = changes; local = local; at = at })
updates_entry h (Gave name to epoch) n =
    ap (λ (us : Updates). updates_of us n) (filter_map-append update_in h.entries (Gave name to epoch ∷ []) ∙ append-nil (updates_in h.entries)) ∙ sym (append-nil (updates_at h n))
updates_entry h (Answered request query floor cites) n =
    ap (λ (us : Updates). updates_of us n) (filter_map-append update_in h.entries (Answered request query floor cites ∷ []) ∙ append-nil (updates_in h.entries)) ∙ sym (append-nil (updates_at h n))

-- today's document after an update has its local information at its node, and is else as it was
pub today_entry : (h : History) (e : Entry) → today (with_entry h e) ≡ after_entry (today h) e
today_entry h (Updated name number changes local at) =
    ap (today_of h.start) (filter_map-append update_in h.entries (Updated name number changes local at ∷ []))
    ∙ today_more h.start (updates_in h.entries) name (record { no = number; changes = changes; local = local; at = at })
today_entry h (Gave name to epoch) = ap (today_of h.start) (filter_map-append update_in h.entries (Gave name to epoch ∷ []) ∙ append-nil (updates_in h.entries))
today_entry h (Answered request query floor cites) = ap (today_of h.start) (filter_map-append update_in h.entries (Answered request query floor cites ∷ []) ∙ append-nil (updates_in h.entries))

counted_by : (e : Entry) (n : List Label) → length (by_entry e n) ≡ updates_by e n
counted_by (Updated name number changes local at) n = by (pointwise label_eq n name)
  where
    by : (b : Bool) → length {A = NodeUpdate} (cond b ((record { no = number; changes = changes; local = local; at = at }) ∷ []) []) ≡ (if b then 1 else 0)
    by true = refl
    by false = refl
counted_by (Gave name to epoch) n = refl
counted_by (Answered request query floor cites) n = refl

-- the newest version rises by one for the node of an update, and for no other
pub newest_entry : (h : History) (e : Entry) (n : List Label) → update_count (with_entry h e) n ≡ update_count h n + updates_by e n
newest_entry h e n = ap length (updates_entry h e n) ∙ length-append (updates_at h n) (by_entry e n) ∙ ap (λ k. update_count h n + k) (counted_by e n)

-- versions that there were have their values
pub values_entry : (h : History) (e : Entry) (n : List Label) (version : ℕ) → version ≤ update_count h n → value_at (with_entry h e) n version ≡ value_at h n version
values_entry h e n version within = value_stays h.start (updates_in h.entries) (updates_in (h.entries ++ e ∷ [])) n (by_entry e n) version (updates_entry h e n) within

get_left : (xs ys : List NodeUpdate) (k : ℕ) → k < length xs → slice_get (xs ++ ys) k ≡ slice_get xs k
get_left [] ys k h = absurd (omega arith)
get_left (x ∷ xs) ys zero h = refl
get_left (x ∷ xs) ys (suc k) h = get_left xs ys k (omega arith)

-- what stands behind the old updates is the entry's own
get_new : (P : NodeUpdate → Type 0) (xs ys : List NodeUpdate) (k : ℕ) → length xs ≤ k → ((j : ℕ) → IfSome (slice_get ys j) P) → IfSome (slice_get (xs ++ ys) k) P
get_new P [] ys k past each = each k
get_new P (x ∷ xs) ys zero past each = absurd (omega arith)
get_new P (x ∷ xs) ys (suc k) past each = get_new P xs ys k (omega arith) each

new_by : (e : Entry) (n : List Label) (stamp : ℕ) → IsBy stamp e → (j : ℕ) → IfSome (slice_get (by_entry e n) j) (λ u. stamp ≤ u.at)
new_by (Updated name number changes local at) n stamp before j = by (pointwise label_eq n name) j
  where
    by : (b : Bool) (k : ℕ) → IfSome {T = NodeUpdate} (slice_get (cond b ((record { no = number; changes = changes; local = local; at = at }) ∷ []) []) k) (λ u. stamp ≤ u.at)
    by true zero = before
    by true (suc k) = tt
    by false k = tt
new_by (Gave name to epoch) n stamp before j = tt
new_by (Answered request query floor cites) n stamp before j = tt

known_within : (h : History) (n : List Label) (version : ℕ) → IsSome (value_at h n version) → version ≤ update_count h n
known_within h n version there = by (cases_lt (update_count h n) version)
  where
    by : (update_count h n < version) ⊎ (version ≤ update_count h n) → version ≤ update_count h n
    by (inl past) =
        let bad : IsSome {T = Local} None = subst (λ (o : Option Local). IsSome o) (value_past h.start (updates_in h.entries) n version past) there in
        absurd (cc)
    by (inr within) = within

-- a version that a node had up to the moment of the entry it still had
pub held_entry : (h : History) (e : Entry) (n : List Label) (version stamp : ℕ) → HadVersion h n version stamp → IsBy stamp e → HadVersion (with_entry h e) n version stamp
held_entry h e n version stamp held before = record {
  there = subst (λ (o : Option Local). IsSome o) (sym (values_entry h e n version within)) held.there;
  begun = λ k next. subst (λ (o : Option NodeUpdate). IfSome o (λ u. u.at ≤ stamp)) (sym (ap (λ (us : List NodeUpdate). slice_get us k) (updates_entry h e n) ∙ get_left (updates_at h n) (by_entry e n) k (omega (arith, next, within)))) (held.begun k next);
  not_over = subst (λ (us : List NodeUpdate). IfSome (slice_get us version) (λ u. stamp ≤ u.at)) (sym (updates_entry h e n)) (by (cases_lt version (update_count h n)));
}
  where
    within : version ≤ update_count h n
    within = known_within h n version held.there

    by : (version < update_count h n) ⊎ (update_count h n ≤ version) → IfSome (slice_get (updates_at h n ++ by_entry e n) version) (λ u. stamp ≤ u.at)
    by (inl less) = subst (λ (o : Option NodeUpdate). IfSome o (λ u. stamp ≤ u.at)) (sym (get_left (updates_at h n) (by_entry e n) version less)) held.not_over
    by (inr past) = get_new (λ u. stamp ≤ u.at) (updates_at h n) (by_entry e n) version past (new_by e n stamp before)

-- an entry keeps what was before
pub keeps_entry : (h : History) (e : Entry) → KeepsEarlier h (with_entry h e) e
keeps_entry h e = record { values = values_entry h e; held = held_entry h e }
