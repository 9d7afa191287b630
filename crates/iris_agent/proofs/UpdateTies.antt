-- What the service of an update comes to.
use Rattle.std.proofs.Common.{◌≡◌, ℕ, suc, ◌≤◌, Bool, true, false, if◌then◌else◌, List, [], ◌∷◌, All, refl, ap, sym, ◌∙◌, subst, Option, Some, None, option_map, nat_le, Result, Ok, Err}
use Rattle.std.specs.Prelude.{IfOk, OnOk}
use Rattle.std.specs.Option.{option_map_or, IsSomeAnd}
use Rattle.iris_base.specs.declared.name.Label.{Label}
use Rattle.iris_tree.specs.declared.local.Local.{Local}
use Rattle.iris_tree.specs.declared.change.Change.{Change}
use Rattle.iris_tree.specs.Changes.{apply_changes}
use Rattle.iris_tree.specs.Universe.{Node, node_at}
use Rattle.iris_book.specs.declared.entry.Entry.{Entry}
use Rattle.iris_book.specs.declared.entry.Entry.TheVariants.{Updated}
use Rattle.iris_book.specs.Book.{History, Recorded, updates_in, update_count, value_at, latest, with_entry, MayBeEntered}
use Rattle.iris_fragment.specs.declared.held.Part.{Part}
use Rattle.iris_fragment.specs.declared.held.Part.TheVariants.{Own, Copied, Bare}
use Rattle.iris_fragment.specs.Contents.{held_at}
use Rattle.iris_fragment.specs.Changes.{part_in, own_version, version_at}
use Rattle.iris_cache.specs.Recency.{renewed_in}
use Rattle.iris_migrate.specs.Titles.{seat_at, with_last}
use Rattle.iris_agent.specs.declared.step.Step.{Step}
use Rattle.iris_agent.specs.declared.step.Step.TheVariants as steps
use Rattle.iris_agent.specs.declared.step.Refusal.{Refusal}
use Rattle.iris_agent.specs.declared.step.Refusal.TheVariants as refusals
use Rattle.iris_keeper.specs.declared.kept.Kept.{Kept}
use Rattle.iris_keeper.specs.declared.kept.Kept.TheVariants as rows
use Rattle.iris_agent.specs.declared.turn.Turn.{Turn}
use Rattle.iris_agent.specs.Changes.{HasNode}
use Rattle.iris_agent.specs.CityChanges.{fails_at, changes_but, changes_in_city}
use Rattle.iris_agent.specs.Events.{IsBookOf, Happened}
use Rattle.iris_agent.specs.Handled.{Handled, Does, only_change}
use Rattle.iris_agent.specs.Outside.{Seen, KeptRow, WasKept}
use Rattle.iris_agent.specs.Tables.{Holdings, Tables, tables_of}
use Rattle.iris_agent.specs.Updates.{own_value, value_owned, or_bad_change, made_of, update_accepted, update_kept, update_made, update_of, update_served}
use Rattle.iris_agent.proofs.NodeTies.{node_tie}

-- ---- an accepted update

version_told : (was : Option ℕ) (next : ℕ) → IsSomeAnd was (λ version. next ≡ suc version) → next ≡ option_map_or suc was 0
version_told None next h = absurd h
version_told (Some version) next h = h

pub accepted : (old new : Holdings) (turn : Turn) (request : ℕ) (name : List Label) (number : ℕ) (changes : List Change) (local : Local) (made : List Step) (next : ℕ)
    → HasNode old new (renewed_in old.cache name local) name (with_last (seat_at old.titles name) number)
    → IsSomeAnd (version_at old.cache.contents name) (λ version. next ≡ suc version) → made ≡ steps.Accepted request next ∷ [] → Does new turn made (update_accepted (tables_of old) turn request name number changes local)
unfolding tables_of
accepted old new turn request name number changes local made next h version is = record {
  tables = node_tie old new (renewed_in old.cache name local) name (with_last (seat_at old.titles name) number) h;
  turn = refl;
  steps = is ∙ ap (λ (v : ℕ). steps.Accepted request v ∷ []) (version_told (version_at old.cache.contents name) next version);
}

-- ---- what may be entered

not_made : (at : ℕ) (before : Result Local ℕ) (made : Local) → fails_at at before ≡ Ok made → ⊥
not_made at (Ok before) made e = absurd (cc)
not_made at (Err earlier) made e = absurd (cc)

made_but : (l : Local) (cs : List Change) (first : Option ℕ) (made : Local) → changes_but l cs first ≡ Ok made → apply_changes l cs ≡ Ok made
made_but l cs None made e = e
made_but l cs (Some at) made e = absurd (not_made at _ made e)

was_changed : (changed : Result Local ℕ) (local : Local) → or_bad_change changed ≡ Ok local → changed ≡ Ok local
was_changed (Ok l) local e = let same : l ≡ local = cc in ap (λ (v : Local). Ok v) same
was_changed (Err at) local e = absurd (cc)

was_new : (old : Bool) (refusal : Refusal) (changed : Result Local ℕ) (local : Local) → (if old then Err refusal else or_bad_change changed) ≡ Ok local → changed ≡ Ok local
was_new true refusal changed local e = absurd (cc)
was_new false refusal changed local e = was_changed changed local e

was_made : (kinds : List (List ℕ)) (old : Local) (last number : ℕ) (changes : List Change) (local : Local) → made_of kinds old last number changes ≡ Ok local → apply_changes old changes ≡ Ok local
was_made kinds old last number changes local e = made_but old changes _ local (was_new (nat_le number last) _ (changes_in_city kinds old changes) local e)

counted : (here : Option Node) (n version : ℕ) → Some version ≡ option_map (λ _. n) here → version ≡ n
counted None n version e = absurd (cc)
counted (Some there) n version e = cc

pub may_follow : (h : History) (kinds : List (List ℕ)) (name : List Label) (version last number now : ℕ) (changes : List Change) (old local : Local) → Some version ≡ latest h name → value_at h name version ≡ Some old
    → made_of kinds old last number changes ≡ Ok local → All (λ u. u.1.at ≤ now) (updates_in h.entries) → MayBeEntered h (Updated name number changes local now)
may_follow h kinds name version last number now changes old local newest value made past = record {
  value = (old, ap (value_at h name) (sym (counted (node_at h.start name) (update_count h name) version newest)) ∙ value, was_made kinds old last number changes local made);
  later = past;
}

-- ---- what is served

not_own : (part : Part) → own_version part ≡ None → own_value part ≡ None
not_own (Own local version) e = absurd (cc)
not_own (Copied full) e = refl
not_own Bare e = refl

-- the book's newest value is the agent's own
pub own_newest : (h : Holdings) (book : Recorded) (name : List Label) (version newest : ℕ) (local : Local) → IsBookOf h book → version_at h.cache.contents name ≡ Some version → Some newest ≡ latest book.history name
    → value_at book.history name newest ≡ Some local → value_owned h.cache.contents name ≡ Some local
own_newest h book name version newest local of at told value =
    let both = of name version at in
    let same : version ≡ newest = let e : Some version ≡ Some newest = sym both.0 ∙ sym told in cc in
    sym both.1 ∙ ap (value_at book.history name) same ∙ value

pub served_made : (old : Holdings) (turn : Turn) (request : ℕ) (name : List Label) (number : ℕ) (changes : List Change) (local : Local) (last : ℕ) (made : Result Local Refusal)
    → value_owned old.cache.contents name ≡ Some local → (seat_at old.titles name).last ≡ Some last → made ≡ made_of old.kinds local last number changes
    → (kept : Bool) → update_served kept (tables_of old) turn request name number changes ≡ update_made kept (tables_of old) turn request name number changes made
unfolding tables_of
served_made old turn request name number changes local last made value last_is is kept =
    ap (λ (v : Option Local). update_of kept (tables_of old) turn request name number changes v (seat_at old.titles name).last) value
    ∙ ap (λ (n : Option ℕ). update_of kept (tables_of old) turn request name number changes (Some local) n) last_is
    ∙ ap (λ (m : Result Local Refusal). update_made kept (tables_of old) turn request name number changes m) (sym is)

no_number : (t : Tables) (turn : Turn) (request : ℕ) (name : List Label) (number : ℕ) (changes : List Change) (kept : Bool) (value : Option Local) → update_of kept t turn request name number changes value None ≡ only_change t turn
no_number t turn request name number changes kept None = refl
no_number t turn request name number changes kept (Some local) = refl

-- nothing comes of an update of a node without a number, or without a value
pub served_unknown : (old : Holdings) (turn : Turn) (request : ℕ) (name : List Label) (number : ℕ) (changes : List Change) → (seat_at old.titles name).last ≡ None
    → (kept : Bool) → update_served kept (tables_of old) turn request name number changes ≡ only_change (tables_of old) turn
unfolding tables_of
served_unknown old turn request name number changes none kept =
    ap (λ (n : Option ℕ). update_of kept (tables_of old) turn request name number changes (value_owned old.cache.contents name) n) none
    ∙ no_number (tables_of old) turn request name number changes kept (value_owned old.cache.contents name)

pub served_unheld : (old : Holdings) (turn : Turn) (request : ℕ) (name : List Label) (number : ℕ) (changes : List Change) → version_at old.cache.contents name ≡ None
    → (kept : Bool) → update_served kept (tables_of old) turn request name number changes ≡ only_change (tables_of old) turn
unfolding tables_of
served_unheld old turn request name number changes none kept =
    ap (λ (v : Option Local). update_of kept (tables_of old) turn request name number changes v (seat_at old.titles name).last) (not_own (part_in (held_at old.cache.contents.nodes name)) none)

-- an event that comes to another happened where that one did
pub happened_as : (event other : Bool → Handled) → ((kept : Bool) → event kept ≡ other kept) → (new : Holdings) (after : Turn) (made : List Step) (book written : Recorded) (before told : Seen) (has_room : List Step → Type 0)
    → Happened other new after made book written before told has_room → Happened event new after made book written before told has_room
happened_as event other same new after made book written before told has_room h =
    let all : other ≡ event = λ i kept. sym (same kept) i in subst (λ (e : Bool → Handled). Happened e new after made book written before told has_room) all h

-- an update whose row was kept
pub happened_kept : (old new : Holdings) (turn : Turn) (request : ℕ) (name : List Label) (number : ℕ) (changes : List Change) (local : Local) (made : List Step) (next : ℕ) (book written : Recorded) (entry : Entry) (row : Kept) (before told : Seen) (has_room : List Step → Type 0) (kept : Bool)
    → HasNode old new (renewed_in old.cache name local) name (with_last (seat_at old.titles name) number) → IsSomeAnd (version_at old.cache.contents name) (λ version. next ≡ suc version) → made ≡ steps.Accepted request next ∷ []
    → entry ≡ Updated name number changes local turn.now → row ≡ rows.Update name number changes → written.history ≡ with_entry book.history entry → WasKept kept before told row → kept ≡ true → has_room made
    → Happened (λ done. update_kept done (tables_of old) turn request name number changes local) new turn made book written before told has_room
happened_kept old new turn request name number changes local made next book written entry row before told has_room kept node version is entered told_by more was is_kept room =
    let done = accepted old new turn request name number changes local made next node version is in
    let kept_row = subst (λ (b : Bool). WasKept b before told row) is_kept was in record {
      kept = true;
      does = done;
      entered = more ∙ ap (λ (e : Entry). with_entry book.history e) entered;
      rows = subst (λ (r : Kept). KeptRow before told r) told_by kept_row;
      cause = tt;
      room = subst has_room done.steps room;
    }

-- an update whose row was not kept
pub happened_unkept : (old : Holdings) (turn : Turn) (request : ℕ) (name : List Label) (number : ℕ) (changes : List Change) (local : Local) (made asked : List Step) (next : ℕ) (book : Recorded) (row : Kept) (before told : Seen) (has_room : List Step → Type 0) (kept : Bool)
    → IsSomeAnd (version_at old.cache.contents name) (λ version. next ≡ suc version) → made ≡ steps.Refused request refusals.Unkept ∷ [] → asked ≡ steps.Accepted request next ∷ [] → WasKept kept before told row → kept ≡ false → has_room asked
    → Happened (λ done. update_kept done (tables_of old) turn request name number changes local) old turn made book book before told has_room
unfolding tables_of
happened_unkept old turn request name number changes local made asked next book row before told has_room kept version is asked_is was not_kept room =
    let failed = subst (λ (b : Bool). WasKept b before told row) not_kept was in record {
      kept = false;
      does = record { tables = refl; turn = refl; steps = is };
      entered = refl;
      rows = failed.0;
      cause = failed.1;
      room = subst has_room (asked_is ∙ ap (λ (v : ℕ). steps.Accepted request v ∷ []) (version_told (version_at old.cache.contents name) next version)) room;
    }

-- what is so of a result that is Ok
pub if_ok_both : {T E : Type 0} (r : Result T E) (P Q : T → Type 0) (R : Type 0) → IfOk r P → OnOk r R → ((x : T) → P x → R → Q x) → IfOk r Q
if_ok_both (Ok x) P Q R p r f = f x p r
if_ok_both (Err e) P Q R p r f = tt

pub if_ok_as : {T E : Type 0} (r : Result T E) (P Q : T → Type 0) → IfOk r P → ((x : T) → P x → Q x) → IfOk r Q
if_ok_as (Ok x) P Q p f = f x p
if_ok_as (Err e) P Q p f = tt

-- what is told of nothing is not told of something
pub not_none : {T : Type 0} (o : Option T) (f : T → ℕ) (told : Option ℕ) (v : ℕ) → o ≡ None → option_map f o ≡ told → told ≡ Some v → ⊥
not_none o f told v none is some = let e : None ≡ Some v = sym (ap (option_map f) none) ∙ is ∙ some in absurd (cc)

pub if_ok_two : {T E : Type 0} (r : Result T E) (P R Q : T → Type 0) → IfOk r P → IfOk r R → ((x : T) → P x → R x → Q x) → IfOk r Q
if_ok_two (Ok x) P R Q p q f = f x p q
if_ok_two (Err e) P R Q p q f = tt
