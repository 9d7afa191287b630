-- What was held stays so, as the book grows and as time passes.
use Rattle.std.proofs.Common.{◌≡◌, ℕ, zero, suc, ◌+◌, ◌<◌, ◌≤◌, Bool, true, false, cond, if◌then◌else◌, List, [], ◌∷◌, ◌++◌, length, slice_get, All, Option, Some, None, IsSome, IfSome, refl, sym, ◌∙◌, ap, subst, arith, ◌⊎◌, inl, inr, append-nil, filter}
use Rattle.std.specs.List.{cons_option}
use Rattle.std.specs.Cmp.Lexicographic.{pointwise}
use Rattle.std.proofs.lemmas.Bool.{cases_lt}
use Rattle.std.proofs.lemmas.List.Sorted.{IsNonDecreasingBy-short}
use Rattle.std.proofs.lemmas.Option.{slice_get_past}
use Rattle.std.proofs.lemmas.List.Elements.{All-nil, All-head, All-tail, All-push, filter_map-append}
use Rattle.iris_base.specs.declared.name.Label.{Label}
use Rattle.iris_base.specs.NameOrder.{label_eq, names_equiv}
use Rattle.iris_tree.specs.declared.change.Change.{Change}
use Rattle.iris_tree.specs.declared.local.Local.{Local}
use Rattle.iris_tree.specs.Universe.{Node}
use Rattle.iris_tree.specs.Document.{local_at}
use Rattle.iris_tree.specs.NamesId.{NamesNoIdAnywhere}
use Rattle.iris_need.specs.Documents.{IsDocument}
use Rattle.iris_fragment.specs.declared.piece.Full.{Full}
use Rattle.iris_book.specs.declared.update.NodeUpdate.{NodeUpdate}
use Rattle.iris_book.specs.declared.entry.Entry.{Entry}
use Rattle.iris_book.specs.declared.entry.Entry.TheVariants.{Updated, Gave, Answered}
use Rattle.iris_book.specs.Book.{History, Updates, with_entry, update_in, updates_in, updates_of, updates_at, update_count, value_after, value_at, left_by, AreSound, MayBeEntered}
use Rattle.iris_book.specs.Entering.{updates_by, IsBy, is_lasting, without_answers}
use Rattle.iris_book.proofs.Entering.{held_entry, newest_entry, values_entry, updates_entry}
use Rattle.iris_book.proofs.Values.{value_is, value_past, value_zero, sound_more}
use Rattle.iris_copies.specs.Copies.{IsPresent, ComesAt, WasHeld, GoesOn, IsNewest}

-- ---- nothing was entered yet

pub present_first : (start : Node) (now : ℕ) → IsDocument start → NamesNoIdAnywhere start → IsPresent (record { start = start; entries = [] }) now
present_first start now is none = record {
  start = is;
  no_ids = none;
  sound = record { values = λ name version u found. absurd (cc); moments = IsNonDecreasingBy-short (λ (u : List Label × NodeUpdate). u.1.at) [] (omega arith) };
  past = All-nil (λ (u : List Label × NodeUpdate). u.1.at ≤ now);
}

-- ---- time passes

pub was_held_later : (h : History) (now at : ℕ) (name : List Label) (full : Full) → now ≤ at → WasHeld h now name full → WasHeld h at name full
was_held_later h now at name full later was = record { value = was.value; held = was.held; past = omega (arith, was.past) }

pub present_later : (h : History) (now at : ℕ) → now ≤ at → IsPresent h now → IsPresent h at
present_later h now at later is = record { start = is.start; no_ids = is.no_ids; sound = is.sound; past = λ k d within. omega (arith, is.past k d within) }

-- ---- the book grows

-- an entry is not before what was stamped earlier
by_entry : (now stamp : ℕ) (e : Entry) → ComesAt now e → stamp ≤ now → IsBy stamp e
by_entry now stamp (Updated name number changes local at) comes le = omega arith
by_entry now stamp (Gave name to epoch) comes le = tt
by_entry now stamp (Answered request query floor cites) comes le = tt

-- a version with a value is one that there is
known : (h : History) (name : List Label) (version : ℕ) (local : Local) → value_at h name version ≡ Some local → version ≤ update_count h name
known h name version local there = by (cases_lt (update_count h name) version)
  where
    by : (update_count h name < version) ⊎ (version ≤ update_count h name) → version ≤ update_count h name
    by (inl past) =
        let bad : None ≡ Some local = sym (value_past h.start (updates_in h.entries) name version past) ∙ there in
        absurd (cc)
    by (inr within) = within

pub was_held_entry : (h : History) (now : ℕ) (e : Entry) (name : List Label) (full : Full) → ComesAt now e → WasHeld h now name full → WasHeld (with_entry h e) now name full
was_held_entry h now e name full comes was = record {
  value = values_entry h e name full.version (known h name full.version full.local was.value) ∙ was.value;
  held = held_entry h e name full.version full.stamp was.held (by_entry now full.stamp e comes was.past);
  past = was.past;
}

with_nothing : (h : History) (e : Entry) → update_in e ≡ None → updates_in (with_entry h e).entries ≡ updates_in h.entries
with_nothing h e none = filter_map-append update_in h.entries (e ∷ []) ∙ ap (λ (o : Option (List Label × NodeUpdate)). updates_in h.entries ++ cons_option o []) none ∙ append-nil (updates_in h.entries)

same_present : (h : History) (now : ℕ) (e : Entry) → update_in e ≡ None → IsPresent h now → IsPresent (with_entry h e) now
same_present h now e none is = record {
  start = is.start;
  no_ids = is.no_ids;
  sound = subst (λ (us : Updates). AreSound h.start us) (sym (with_nothing h e none)) is.sound;
  past = subst (λ (us : Updates). All (λ u. u.1.at ≤ now) us) (sym (with_nothing h e none)) is.past;
}

-- an entry of the present moment, which may follow, keeps the book so
pub present_entry : (h : History) (now : ℕ) (e : Entry) → MayBeEntered h e → ComesAt now e → IsPresent h now → IsPresent (with_entry h e) now
present_entry h now (Gave name to epoch) may comes is = same_present h now (Gave name to epoch) refl is
present_entry h now (Answered request query floor cites) may comes is = same_present h now (Answered request query floor cites) refl is
present_entry h now (Updated name number changes local at) may comes is =
    let u : NodeUpdate = record { no = number; changes = changes; local = local; at = at } in
    let more : updates_in (with_entry h (Updated name number changes local at)).entries ≡ updates_in h.entries ++ (name, u) ∷ [] = filter_map-append update_in h.entries (Updated name number changes local at ∷ []) in
    record {
      start = is.start;
      no_ids = is.no_ids;
      sound = subst (λ (us : Updates). AreSound h.start us) (sym more) (sound_more h.start (updates_in h.entries) name u is.sound may);
      past = subst (λ (us : Updates). All (λ u. u.1.at ≤ now) us) (sym more) (All-push (λ u. u.1.at ≤ now) (updates_in h.entries) (name, u) is.past (omega arith));
    }

-- ---- answers are forgotten

kept_updates : (es : List Entry) → updates_in (filter is_lasting es) ≡ updates_in es
kept_updates [] = refl
kept_updates (Updated name number changes local at ∷ es) = ap (λ (us : Updates). (name, record { no = number; changes = changes; local = local; at = at }) ∷ us) (kept_updates es)
kept_updates (Gave name to epoch ∷ es) = kept_updates es
kept_updates (Answered request query floor cites ∷ es) = kept_updates es

pub same_updates : (h : History) → updates_in h.entries ≡ updates_in (without_answers h).entries
same_updates h = sym (kept_updates h.entries)

pub present_forgotten : (h : History) (now : ℕ) → IsPresent h now → IsPresent (without_answers h) now
present_forgotten h now is = record {
  start = is.start;
  no_ids = is.no_ids;
  sound = subst (λ (us : Updates). AreSound h.start us) (same_updates h) is.sound;
  past = subst (λ (us : Updates). All (λ u. u.1.at ≤ now) us) (same_updates h) is.past;
}

was_held_forgotten : (h : History) (now : ℕ) (name : List Label) (full : Full) → WasHeld h now name full → WasHeld (without_answers h) now name full
was_held_forgotten h now name full was = record {
  value = subst (λ (us : Updates). value_after h.start us name full.version ≡ Some full.local) (same_updates h) was.value;
  held = record {
    there = subst (λ (us : Updates). IsSome (value_after h.start us name full.version)) (same_updates h) was.held.there;
    begun = λ before next. subst (λ (us : Updates). IfSome (slice_get (updates_of us name) before) (λ u. u.at ≤ full.stamp)) (same_updates h) (was.held.begun before next);
    not_over = subst (λ (us : Updates). IfSome (slice_get (updates_of us name) full.version) (λ u. full.stamp ≤ u.at)) (same_updates h) was.held.not_over;
  };
  past = was.past;
}

pub newest_forgotten : (h : History) (name : List Label) (local : Local) (version : ℕ) → IsNewest h name local version → IsNewest (without_answers h) name local version
newest_forgotten h name local version is = record {
  version_is = subst (λ (us : Updates). version ≡ length (updates_of us name)) (same_updates h) is.version_is;
  value = subst (λ (us : Updates). value_after h.start us name version ≡ Some local) (same_updates h) is.value;
}

-- ---- the book and the moment go on

pub time_goes_on : (h : History) (now at : ℕ) → now ≤ at → GoesOn h now h at
time_goes_on h now at later = record { start = refl; time = later; held = λ name full was. was_held_later h now at name full later was }

pub entry_goes_on : (h : History) (now : ℕ) (e : Entry) → ComesAt now e → GoesOn h now (with_entry h e) now
entry_goes_on h now e comes = record { start = refl; time = omega arith; held = λ name full was. was_held_entry h now e name full comes was }

pub forgotten_goes_on : (h : History) (now : ℕ) → GoesOn h now (without_answers h) now
forgotten_goes_on h now = record { start = refl; time = omega arith; held = λ name full was. was_held_forgotten h now name full was }

pub onward : (h : History) (now : ℕ) (next : History) (at : ℕ) (last : History) (later : ℕ) → GoesOn h now next at → GoesOn next at last later → GoesOn h now last later
onward h now next at last later first second = record {
  start = second.start ∙ first.start;
  time = omega (arith, first.time, second.time);
  held = λ name full was. second.held name full (first.held name full was);
}

-- ---- the newest

-- no update of a node came after that moment, where none came at all
past_of : (now : ℕ) (us : Updates) (name : List Label) (k : ℕ) → All (λ u. u.1.at ≤ now) us → IfSome (slice_get (updates_of us name) k) (λ u. u.at ≤ now)
past_of now [] name k past = tt
past_of now (u ∷ us) name k past = by (pointwise label_eq name u.0) k (λ i. past_of now us name i (All-tail (λ v. v.1.at ≤ now) u us past))
  where
    by : (b : Bool) (i : ℕ) → ((j : ℕ) → IfSome (slice_get (updates_of us name) j) (λ v. v.at ≤ now)) → IfSome (slice_get (cons_option (if b then Some u.1 else None) (updates_of us name)) i) (λ v. v.at ≤ now)
    by true zero rest = All-head (λ v. v.1.at ≤ now) u us past
    by true (suc i) rest = rest i
    by false i rest = rest i

-- the newest value is held at the present moment
pub newest_held : (h : History) (now : ℕ) (name : List Label) (local : Local) (version : ℕ) → IsPresent h now → IsNewest h name local version → WasHeld h now name (record { local = local; version = version; stamp = now })
newest_held h now name local version is newest_is = record {
  value = newest_is.value;
  held = record {
    there = subst (λ (o : Option Local). IsSome o) (sym newest_is.value) refl;
    begun = λ before next. past_of now (updates_in h.entries) name before is.past;
    not_over = subst (λ (o : Option NodeUpdate). IfSome o (λ u. now ≤ u.at)) (sym (slice_get_past (updates_at h name) version (omega (arith, newest_is.version_is)))) tt;
  };
  past = omega arith;
}

-- where an entry is no update of a node, the newest of the node stays
pub newest_stays : (h : History) (e : Entry) (name : List Label) (local : Local) (version : ℕ) → updates_by e name ≡ 0 → IsNewest h name local version → IsNewest (with_entry h e) name local version
newest_stays h e name local version none is = record {
  version_is = omega (arith, newest_entry h e name, is.version_is, none);
  value = values_entry h e name version (omega (arith, is.version_is)) ∙ is.value;
}

at_end : (xs : List NodeUpdate) (u : NodeUpdate) → slice_get (xs ++ u ∷ []) (length xs) ≡ Some u
at_end [] u = refl
at_end (x ∷ xs) u = at_end xs u

-- after an update of a node, what it left is the newest
pub newest_made : (h : History) (now : ℕ) (name : List Label) (number : ℕ) (changes : List Change) (local : Local) (at version : ℕ) → IsPresent h now → MayBeEntered h (Updated name number changes local at) → at ≡ now → version ≡ update_count h name
    → IsNewest (with_entry h (Updated name number changes local at)) name local (version + 1)
newest_made h now name number changes local at version is may comes was =
    let e : Entry = Updated name number changes local at in
    let u : NodeUpdate = record { no = number; changes = changes; local = local; at = at } in
    let own : pointwise label_eq name name ≡ true = names_equiv.refl name in
    let there : slice_get (updates_at (with_entry h e) name) (update_count h name) ≡ Some u =
    ap (λ (xs : List NodeUpdate). slice_get xs (update_count h name)) (updates_entry h e name ∙ ap (λ b. updates_at h name ++ cond b (u ∷ []) []) own) ∙ at_end (updates_at h name) u in
    let next : AreSound h.start (updates_in (with_entry h e).entries) = (present_entry h now e may comes is).sound in
    record {
      version_is = omega (arith, newest_entry h e name, was, ap {B = ℕ} (λ (b : Bool). if b then 1 else 0) own);
      value = ap (λ n. value_at (with_entry h e) name (n + 1)) was ∙ value_is h.start (updates_in (with_entry h e).entries) name (update_count h name) u next there;
    }

-- ---- the newest value is what the updates left

last_update : (x : NodeUpdate) (xs : List NodeUpdate) (old : Local) → (u : NodeUpdate) × (slice_get (x ∷ xs) (length xs) ≡ Some u) × (left_by old (x ∷ xs) ≡ u.local)
last_update x [] old = (x, refl, refl)
last_update x (y ∷ ys) old = let last = last_update y ys x.local in (last.0, last.1, last.2)

pub value_newest : (start : Node) (us : Updates) (name : List Label) (old : Local) → AreSound start us → local_at start name ≡ Some old → value_after start us name (length (updates_of us name)) ≡ Some (left_by old (updates_of us name))
value_newest start us name old sound there = by (updates_of us name) refl
  where
    by : (xs : List NodeUpdate) → updates_of us name ≡ xs → value_after start us name (length xs) ≡ Some (left_by old xs)
    by [] same = value_zero start us name ∙ there
    by (x ∷ xs) same =
        let last = last_update x xs old in
        let next : suc (length xs) ≡ length xs + 1 = omega arith in
        ap (λ n. value_after start us name n) next
        ∙ value_is start us name (length xs) last.0 sound (ap (λ (ys : List NodeUpdate). slice_get ys (length xs)) same ∙ last.1)
        ∙ ap (λ (l : Local). Some l) (sym last.2)
