-- What an update makes of a node's newest value.
use Rattle.std.proofs.Common.{◌≡◌, ℕ, zero, suc, ◌≤◌, arith, Bool, true, false, if◌then◌else◌, List, [], ◌∷◌, ◌++◌, All, refl, ap, sym, ◌∙◌, subst, Option, Some, None, option_map, nat_le, Result, Ok, Err}
use Rattle.std.specs.Option.{option_map_or}
use Rattle.std.proofs.lemmas.List.Elements.{filter_map-append, All-append}
use Rattle.iris_base.specs.declared.name.Label.{Label}
use Rattle.iris_tree.specs.declared.local.Local.{Local}
use Rattle.iris_tree.specs.Changes.{apply_changes}
use Rattle.iris_tree.specs.Universe.{Node, node_at, local_of}
use Rattle.iris_json.specs.declared.out.Out.{Out}
use Rattle.iris_json.specs.declared.out.Out.TheVariants as outs
use Rattle.iris_book.specs.declared.entry.Entry.{Entry}
use Rattle.iris_book.specs.declared.entry.Entry.TheVariants.{Updated}
use Rattle.iris_book.specs.declared.update.NodeUpdate as accepted
use Rattle.iris_book.specs.Book.{History, Updates, with_entry, update_in, updates_in, updates_of, left_by, today_of, today, update_count, value_at, latest, last_number_at, IsNext}
use Rattle.iris_book.specs.Entering.{after_entry}
use Rattle.iris_tree.specs.declared.change.Change.{Change}
use Rattle.iris_tree.specs.Document.{with_local}
use Rattle.iris_tree.proofs.WithLocals.{locals_kept}
use Rattle.iris_book.proofs.Values.{value_nowhere}
use Rattle.iris_cli.specs.declared.event.SentUpdate.{SentUpdate}
use Rattle.iris_cli.specs.CityChanges.{changes_in_city}
use Rattle.iris_cli.proofs.CityChanges.{made_in_city}
use Rattle.iris_cli.specs.Run.{SiteState, version_of, last_number, or_bad_change, made_of, made_by}

was_changed : (request : ℕ) (changed : Result Local ℕ) (local : Local) → or_bad_change request changed ≡ Ok local → changed ≡ Ok local
was_changed request (Ok l) local e = let same : l ≡ local = cc in ap (λ (v : Local). Ok v) same
was_changed request (Err at) local e = absurd (cc)

was_new : (old : Bool) (out : Out) (request : ℕ) (changed : Result Local ℕ) (local : Local) → (if old then Err out else or_bad_change request changed) ≡ Ok local → changed ≡ Ok local
was_new true out request changed local e = absurd (cc)
was_new false out request changed local e = was_changed request changed local e

was_made : (kinds : List (List ℕ)) (value : Option Local) (last request : ℕ) (u : SentUpdate) (local : Local) → made_of kinds request value last u ≡ Ok local → (before : Local) × (value ≡ Some before) × (apply_changes before u.changes ≡ Ok local)
was_made kinds None last request u local e = absurd (cc)
was_made kinds (Some before) last request u local e =
    (before, refl, made_in_city kinds before u.changes local (was_new (nat_le u.no last) _ request (changes_in_city kinds before u.changes) local e))

-- the version of a node that is there is its newest
at_node : (here : Option Node) (n : ℕ) (value : ℕ → Option Local) (before : Local) → (here ≡ None → value 0 ≡ None) → value (option_map_or (λ version. version) (option_map (λ _. n) here) 0) ≡ Some before → value n ≡ Some before
at_node None n value before none e = absurd (let z = none refl in cc)
at_node (Some here) n value before none e = e

-- of a node that is there, what an update makes of what the book tells of it
version_told : (latest : Option ℕ) (version : ℕ) → Some version ≡ latest → option_map_or (λ v. v) latest 0 ≡ version
version_told None version e = absurd (cc)
version_told (Some v) version e = cc

pub made_there : (s : SiteState) (request : ℕ) (u : SentUpdate) (local : Local) (version number : ℕ) → Some version ≡ latest s.history u.name → value_at s.history u.name version ≡ Some local
    → number ≡ last_number_at s.history u.name → made_by s request u ≡ made_of s.kinds request (Some local) number u
made_there s request u local version number told value last =
    let at : version_of s u.name ≡ version = version_told (latest s.history u.name) version told in
    ap (λ v. made_of s.kinds request (value_at s.history u.name v) (last_number s u.name) u) at
    ∙ ap (λ (o : Option Local). made_of s.kinds request o (last_number s u.name) u) value ∙ ap (λ n. made_of s.kinds request (Some local) n u) (sym last)

-- of a node that is not there, it is told so
no_value : (here : Option Node) (n : ℕ) → None ≡ option_map (λ _. n) here → option_map local_of here ≡ None
no_value None n e = refl
no_value (Some there) n e = absurd (cc)

pub made_nowhere : (s : SiteState) (request : ℕ) (u : SentUpdate) → None ≡ latest s.history u.name → made_by s request u ≡ Err (outs.NoSuchNode (Some request))
made_nowhere s request u none =
    let gone = no_value (node_at s.history.start u.name) (update_count s.history u.name) none in
    ap (λ (o : Option Local). made_of s.kinds request o (last_number s u.name) u) (value_nowhere s.history.start (updates_in s.history.entries) u.name (version_of s u.name) gone)

-- an update that makes this local information may come next
pub made_next : (h : SiteState) (request : ℕ) (u : SentUpdate) (local : Local) → made_by h request u ≡ Ok local → All (λ v. v.1.at ≤ h.now) (updates_in h.history.entries)
    → IsNext h.history.start (updates_in h.history.entries) u.name (record { no = u.no; changes = u.changes; local = local; at = h.now })
made_next h request u local e past =
    let made = was_made h.kinds (value_at h.history u.name (version_of h u.name)) (last_number h u.name) request u local e in
    let value = λ (version : ℕ). value_at h.history u.name version in
    record {
      value = (made.0, at_node (node_at h.history.start u.name) (update_count h.history u.name) value made.0 (λ z. value_nowhere h.history.start (updates_in h.history.entries) u.name 0 (ap (option_map local_of) z)) made.1, made.2);
      later = past;
    }

-- ---- what a site keeps

-- where nothing was accepted, today's document is the start's
pub nothing_accepted : (h : History) (tree : Node) → h.start ≡ tree → h.entries ≡ [] → tree ≡ today h
nothing_accepted h tree s e =
    sym (ap (λ (es : List Entry). today_of h.start (updates_in es)) e ∙ locals_kept h.start (λ name old. left_by old (updates_of [] name)) (λ l m old. refl) ∙ s)

pub no_past : (h : History) (now : ℕ) → h.entries ≡ [] → All (λ v. v.1.at ≤ now) (updates_in h.entries)
no_past h now e = subst (λ (es : List Entry). All (λ v. v.1.at ≤ now) (updates_in es)) (sym e) (λ k d l. absurd (omega (arith, l)))

-- the document is today's still, after an update
pub today_kept : (h held after : History) (entry : Entry) (document put : Node) (name : List Label) (local : Local) → document ≡ today h → held ≡ h → put ≡ with_local document name local → today after ≡ after_entry (today held) entry
    → after_entry (today held) entry ≡ with_local (today held) name local → put ≡ today after
today_kept h held after entry document put name local is same puts next by =
    puts ∙ ap (λ (d : Node). with_local d name local) (is ∙ ap today (sym same)) ∙ sym (next ∙ by)

one_now : (now : ℕ) (v : List Label × accepted.NodeUpdate) → v.1.at ≡ now → All (λ w. w.1.at ≤ now) (v ∷ [])
one_now now v e zero d l = omega (arith, e)
one_now now v e (suc k) d l = absurd (omega (arith, l))

pub past_more : (h held after : History) (now n : ℕ) (name : List Label) (changes : List Change) (local : Local) → All (λ v. v.1.at ≤ now) (updates_in h.entries) → held ≡ h → after ≡ with_entry held (Updated name n changes local now)
    → All (λ v. v.1.at ≤ now) (updates_in after.entries)
past_more h held after now n name changes local past same next =
    let more : updates_in after.entries ≡ updates_in h.entries ++ (name, record { no = n; changes = changes; local = local; at = now }) ∷ [] =
    ap (λ (x : History). updates_in x.entries) (next ∙ ap (λ (x : History). with_entry x (Updated name n changes local now)) same) ∙ filter_map-append update_in h.entries (Updated name n changes local now ∷ []) in
    let newest : List Label × accepted.NodeUpdate = (name, record { no = n; changes = changes; local = local; at = now }) in
    subst (λ (us : Updates). All (λ v. v.1.at ≤ now) us) (sym more) (All-append (λ v. v.1.at ≤ now) (updates_in h.entries) (newest ∷ []) past (one_now now newest refl))
