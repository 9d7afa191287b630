-- What an update leaves that is served is right.
use Rattle.std.proofs.Common.{◌≡◌, ℕ, suc, nat_le, Bool, true, false, if◌then◌else◌, is_some, List, [], ◌∷◌, All, Option, Some, None, Result, Ok, Err, refl, sym, ap, subst, ◌∙◌}
use Rattle.std.specs.Cmp.Lexicographic.{pointwise}
use Rattle.std.proofs.lemmas.List.Elements.{All-nil, All-cons, All-weaker}
use Rattle.std.proofs.lemmas.Option.{IfSome_then}
use Rattle.iris_base.specs.declared.name.Label.{Label}
use Rattle.iris_base.specs.NameOrder.{label_eq}
use Rattle.iris_tree.specs.declared.change.Change.{Change}
use Rattle.iris_tree.specs.declared.local.Local.{Local}
use Rattle.iris_tree.specs.Changes.{apply_changes}
use Rattle.iris_fragment.specs.declared.held.HeldNode.{HeldNode}
use Rattle.iris_fragment.specs.declared.held.Part.{Part}
use Rattle.iris_fragment.specs.declared.held.Part.TheVariants.{Own, Copied, Bare}
use Rattle.iris_fragment.specs.Changes.{part_in, version_at}
use Rattle.iris_fragment.specs.Contents.{held_at}
use Rattle.iris_book.specs.Book.{MayBeEntered, value_at}
use Rattle.iris_book.specs.declared.entry.Entry.{Entry}
use Rattle.iris_book.specs.declared.entry.Entry.TheVariants.{Updated}
use Rattle.iris_migrate.specs.Messages.{node_of}
use Rattle.iris_migrate.specs.Titles.{with_last}
use Rattle.iris_fragment.proofs.Names.{alike_exact}
use Rattle.std.specs.Option.{option_map_or}
use Rattle.iris_agent.specs.declared.step.Step.{Step}
use Rattle.iris_agent.specs.declared.step.Step.TheVariants as steps
use Rattle.iris_agent.specs.declared.step.Refusal.{Refusal}
use Rattle.iris_agent.specs.declared.step.Refusal.TheVariants as refusals
use Rattle.iris_agent.specs.declared.turn.Turn.{Turn}
use Rattle.iris_agent.specs.CityChanges.{changes_but, changes_in_city, fails_at}
use Rattle.iris_agent.specs.Handled.{Handled, only_change, only_step}
use Rattle.iris_agent.specs.Tables.{Tables}
use Rattle.iris_agent.specs.Updates.{own_value, value_owned, or_bad_change, made_of, update_accepted, update_made, update_of, update_served}
use Rattle.iris_copies.specs.Copies.{ComesAt, IsPresent, IsNewest, IsPartAt, HoldsCopies}
use Rattle.iris_copies.proofs.Fragments.{renewed_holds}
use Rattle.iris_runs.specs.Moments.{Moment, with_entries, IsMessageAt, IsAgentAt, IsLater, IsStepAt}
use Rattle.iris_runs.proofs.CacheRight.{renewed_orderly, version_renewed}
use Rattle.iris_runs.proofs.StayRight.{gather_later, message_later, later_entry}

-- ---- what may be entered

not_made : (at : ℕ) (before : Result Local ℕ) (made : Local) → fails_at at before ≡ Ok made → ⊥
not_made at (Ok before) made e = absurd (cc)
not_made at (Err earlier) made e = absurd (cc)

made_but : (local : Local) (changes : List Change) (first : Option ℕ) (made : Local) → changes_but local changes first ≡ Ok made → apply_changes local changes ≡ Ok made
made_but local changes None made e = e
made_but local changes (Some at) made e = absurd (not_made at _ made e)

was_changed : (changed : Result Local ℕ) (made : Local) → or_bad_change changed ≡ Ok made → changed ≡ Ok made
was_changed (Ok local) made e = let same : local ≡ made = cc in ap (λ (l : Local). Ok l) same
was_changed (Err at) made e = absurd (cc)

was_new : (old : Bool) (refusal : Refusal) (changed : Result Local ℕ) (made : Local) → (if old then Err refusal else or_bad_change changed) ≡ Ok made → changed ≡ Ok made
was_new true refusal changed made e = absurd (cc)
was_new false refusal changed made e = was_changed changed made e

was_made : (kinds : List (List ℕ)) (local : Local) (last number : ℕ) (changes : List Change) (made : Local) → made_of kinds local last number changes ≡ Ok made → apply_changes local changes ≡ Ok made
was_made kinds local last number changes made e = made_but local changes _ made (was_new (nat_le number last) _ (changes_in_city kinds local changes) made e)

-- an owned value is the newest
owned_newest : (m : Moment) (t : Tables) (name : List Label) (local : Local) → HoldsCopies m.history m.now t.cache.contents → value_owned t.cache.contents name ≡ Some local → (version : ℕ) × IsNewest m.history name local version
owned_newest m t name local holds owned = go (held_at t.cache.contents.nodes name) refl owned
  where
    part : (p : Part) → IsPartAt m.history m.now name p → own_value p ≡ Some local → (version : ℕ) × IsNewest m.history name local version
    part (Own own version) is e = let same : own ≡ local = cc in (version, subst (λ l. IsNewest m.history name l version) same is)
    part (Copied full) is e = absurd (cc)
    part Bare is e = absurd (cc)

    go : (held : Option HeldNode) → held_at t.cache.contents.nodes name ≡ held → own_value (part_in held) ≡ Some local → (version : ℕ) × IsNewest m.history name local version
    go None at e = absurd (cc)
    go (Some node) at e = part node.part (holds.parts name node at) e

may_follow : (m : Moment) (t : Tables) (name : List Label) (local made : Local) (last number : ℕ) (changes : List Change)
    → IsPresent m.history m.now → HoldsCopies m.history m.now t.cache.contents → value_owned t.cache.contents name ≡ Some local → made_of t.kinds local last number changes ≡ Ok made
    → MayBeEntered m.history (Updated name number changes made m.now)
may_follow m t name local made last number changes present holds owned is = record {
  value = (local, subst (λ version. value_at m.history name version ≡ Some local) newest.1.version_is newest.1.value, was_made t.kinds local last number changes made is);
  later = present.past;
}
  where
    newest : (version : ℕ) × IsNewest m.history name local version
    newest = owned_newest m t name local holds owned

-- ---- what is accepted

accepted_right : (m : Moment) (t : Tables) (turn : Turn) (request : ℕ) (name : List Label) (local made : Local) (last number : ℕ) (changes : List Change)
    → turn.now ≡ m.now
    → IsPresent m.history m.now
    → value_owned t.cache.contents name ≡ Some local
    → (t.seat name).last ≡ Some last
    → made_of t.kinds local last number changes ≡ Ok made
    → IsAgentAt m t
    → IsAgentAt (with_entries m (update_accepted t turn request name number changes made).entries) (update_accepted t turn request name number changes made).tables
accepted_right m t turn request name local made last number changes at present owned has_last is_made is = subst (λ now. IsAgentAt (with_entries m (Updated name number changes made now ∷ [])) (update_accepted t turn request name number changes made).tables) (sym at) record {
  top = is.top;
  copies = renewed_holds m.history m.now name number changes made t.cache.contents present follows is.copies;
  orderly = renewed_orderly t.cache name made is.orderly;
  owns = λ other there. version_renewed t.cache.contents name made other ∙ (is.owns other there ∙ seat_last other (pointwise label_eq other name) refl);
  gathers = λ other. IfSome_then (t.gather other) (is.gathers other) (λ one there. gather_later m next one.gather on there);
  parked = λ other. parked other (pointwise label_eq other name) refl;
  placed = λ other. placed other (pointwise label_eq other name) refl;
}
  where
    follows : MayBeEntered m.history (Updated name number changes made m.now)
    follows = may_follow m t name local made last number changes present is.copies owned is_made

    next : Moment
    next = with_entries m (Updated name number changes made m.now ∷ [])

    on : IsLater m next
    on = later_entry m (Updated name number changes made m.now) refl

    seat_last : (other : List Label) (b : Bool) → pointwise label_eq other name ≡ b → is_some (t.seat other).last ≡ is_some (if pointwise label_eq other name then with_last (t.seat name) number else t.seat other).last
    seat_last other true e = rw e (ap (λ n. is_some (t.seat n).last) (alike_exact other name e) ∙ ap is_some has_last)
    seat_last other false e = rw e refl

    parked : (other : List Label) (b : Bool) → pointwise label_eq other name ≡ b → All (IsMessageAt next) (if pointwise label_eq other name then with_last (t.seat name) number else t.seat other).parked
    parked other true e = rw e (All-weaker (IsMessageAt m) (IsMessageAt next) (λ message there. message_later m next message on there) (t.seat name).parked (is.parked name))
    parked other false e = rw e (All-weaker (IsMessageAt m) (IsMessageAt next) (λ message there. message_later m next message on there) (t.seat other).parked (is.parked other))

    placed : (other : List Label) (b : Bool) → pointwise label_eq other name ≡ b → All (λ message. node_of message ≡ Some other) (if pointwise label_eq other name then with_last (t.seat name) number else t.seat other).parked
    placed other true e = rw e (subst (λ n. All (λ message. node_of message ≡ Some n) (t.seat name).parked) (sym (alike_exact other name e)) (is.placed name))
    placed other false e = rw e (is.placed other)

-- ---- what is served

-- what an update leaves that is served
pub record IsServed (m : Moment) (h : Handled) : Type 0 where
  pub agent : IsAgentAt (with_entries m h.entries) h.tables
  pub steps : All (IsStepAt (with_entries m h.entries)) h.steps
  pub entered : All (MayBeEntered m.history) h.entries
  pub comes : All (ComesAt m.now) h.entries

-- where one step follows that tells no answer and sends nothing, and nothing changes
told_alone : (m : Moment) (t : Tables) (turn : Turn) (step : Step) → IsStepAt m step → IsAgentAt m t → IsServed m (only_step t turn step)
told_alone m t turn step told is = record {
  agent = is;
  steps = All-cons (IsStepAt m) step [] told (All-nil (IsStepAt m));
  entered = All-nil (MayBeEntered m.history);
  comes = All-nil (ComesAt m.now);
}

pub nothing_told : (m : Moment) (t : Tables) (turn : Turn) → IsAgentAt m t → IsServed m (only_change t turn)
nothing_told m t turn is = record { agent = is; steps = All-nil (IsStepAt m); entered = All-nil (MayBeEntered m.history); comes = All-nil (ComesAt m.now) }

pub served_right : (m : Moment) (kept : Bool) (t : Tables) (turn : Turn) (request : ℕ) (name : List Label) (number : ℕ) (changes : List Change) → turn.now ≡ m.now → IsPresent m.history m.now → IsAgentAt m t → IsServed m (update_served kept t turn request name number changes)
served_right m kept t turn request name number changes at present is = go (value_owned t.cache.contents name) (t.seat name).last refl refl
  where
    made_so : (local : Local) (last : ℕ) → value_owned t.cache.contents name ≡ Some local → (t.seat name).last ≡ Some last → (result : Result Local Refusal) → made_of t.kinds local last number changes ≡ result → (keeps : Bool)
        → IsServed m (update_made keeps t turn request name number changes result)
    made_so local last owned has_last (Err refusal) e keeps = told_alone m t turn (steps.Refused request refusal) tt is
    made_so local last owned has_last (Ok made) e false = told_alone m t turn (steps.Refused request refusals.Unkept) tt is
    made_so local last owned has_last (Ok made) e true =
        let entry : Entry = Updated name number changes made turn.now in
        let follows : MayBeEntered m.history entry = subst (λ now. MayBeEntered m.history (Updated name number changes made now)) (sym at) (may_follow m t name local made last number changes present is.copies owned e) in
        record {
          agent = accepted_right m t turn request name local made last number changes at present owned has_last e is;
          steps = All-cons (IsStepAt (with_entries m (entry ∷ []))) (steps.Accepted request (option_map_or suc (version_at t.cache.contents name) 0)) [] tt (All-nil (IsStepAt (with_entries m (entry ∷ []))));
          entered = All-cons (MayBeEntered m.history) entry [] follows (All-nil (MayBeEntered m.history));
          comes = All-cons (ComesAt m.now) entry [] at (All-nil (ComesAt m.now));
        }

    go : (value : Option Local) (last : Option ℕ) → value_owned t.cache.contents name ≡ value → (t.seat name).last ≡ last → IsServed m (update_of kept t turn request name number changes value last)
    go (Some local) (Some last) owned has_last = made_so local last owned has_last (made_of t.kinds local last number changes) refl kept
    go (Some local) None owned has_last = nothing_told m t turn is
    go None last owned has_last = nothing_told m t turn is
