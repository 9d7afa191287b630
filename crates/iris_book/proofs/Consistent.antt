-- A book with one entry more.
use Rattle.std.proofs.Common.{◌≡◌, ℕ, ◌+◌, ◌-◌, ◌≤◌, Bool, false, cond, append-nil, List, [], ◌∷◌, ◌++◌, length, filter, refl, sym, ◌∙◌, ap, subst, arith, length-append}
use Rattle.std.proofs.lemmas.List.Elements.{filter-append}
use Rattle.iris_base.specs.declared.name.Label.{Label}
use Rattle.iris_tree.specs.Universe.{Node}
use Rattle.iris_tree.specs.TextLen.{saturated}
use Rattle.iris_book.specs.declared.update.NodeUpdate.{NodeUpdate}
use Rattle.iris_book.specs.declared.entry.Entry.{Entry}
use Rattle.iris_book.specs.declared.log.Slot.{Slot}
use Rattle.iris_book.specs.declared.log.Slot.TheVariants as slot
use Rattle.iris_book.specs.Book.{Updates, AreSound, IsNext, weight}
use Rattle.iris_book.specs.Consistent.{IsConsistent, lasting_weight, answered_weight}
use Rattle.iris_book.specs.Linked.{AcceptedUpdates}
use Rattle.iris_book.specs.Log.{updated, entries_of, is_update}
use Rattle.iris_book.proofs.LogEntries.{Counted, IsSlotOf, entries_push, entries_push_update, lasting_more, answered_same}
use Rattle.iris_book.proofs.Values.{sound_more}

-- the entries of the parts after an update, and after another entry
pub update_entered : (slots slots' : List Slot) (us us' : Updates) (u : List Label × NodeUpdate) → Counted slots us → slots' ≡ slots ++ slot.Update ∷ [] → us' ≡ us ++ u ∷ [] → entries_of slots' us' ≡ entries_of slots us ++ updated u ∷ []
update_entered slots slots' us us' u count grown more =
    ap (λ (ss : List Slot). entries_of ss us') grown ∙ ap (λ (vs : Updates). entries_of (slots ++ slot.Update ∷ []) vs) more ∙ entries_push_update slots us u count

-- and after another entry
pub other_entered : (slots slots' : List Slot) (us : Updates) (s : Slot) (e : Entry) → IsSlotOf s e → Counted slots us → slots' ≡ slots ++ s ∷ [] → entries_of slots' us ≡ entries_of slots us ++ e ∷ []
other_entered slots slots' us s e is count grown = ap (λ (ss : List Slot). entries_of ss us) grown ∙ entries_push slots us s e is count

-- what the parts keep to after an update
pub kept_update : (start : Node) (linked linked' : AcceptedUpdates) (slots slots' : List Slot) (room room' lasting lasting' answered spare : ℕ) (name : List Label) (u : NodeUpdate) → IsConsistent start linked slots room lasting answered spare
    → IsNext start linked.updates name u → 1 ≤ spare → slots' ≡ slots ++ slot.Update ∷ [] → linked'.updates ≡ linked.updates ++ (name, u) ∷ [] → linked.spare ≤ linked'.spare + 1 → room ≤ room' + 1
    → lasting' ≡ saturated (lasting + saturated (weight (updated (name, u)))) → IsConsistent start linked' slots' room' lasting' answered (spare - 1)
kept_update start linked linked' slots slots' room room' lasting lasting' answered spare name u kept next some grown more linked_room log_room sum =
    let entries = update_entered slots slots' linked.updates linked'.updates (name, u) kept.counted grown more in
    record {
      sound = subst (λ (us : Updates). AreSound start us) (sym more) (sound_more start linked.updates name u kept.sound next);
      counted = ap (λ (ss : List Slot). length (filter is_update ss)) grown ∙ ap length (filter-append is_update slots (slot.Update ∷ [])) ∙ length-append (filter is_update slots) (slot.Update ∷ [])
          ∙ ap (λ n. n + 1) kept.counted ∙ sym (length-append linked.updates ((name, u) ∷ [])) ∙ sym (ap (λ (us : Updates). length us) more);
      lasting_is = sum ∙ ap (λ n. saturated (n + saturated (weight (updated (name, u))))) kept.lasting_is ∙ sym (lasting_more (entries_of slots linked.updates) (updated (name, u)) refl) ∙ sym (ap lasting_weight entries);
      answered_is = kept.answered_is ∙ sym (answered_same (entries_of slots linked.updates) (updated (name, u)) refl) ∙ sym (ap answered_weight entries);
      linked_room = omega (arith, kept.linked_room, linked_room, some);
      log_room = omega (arith, kept.log_room, log_room, some);
    }

-- and after a move, or an answer
pub kept_other : (start : Node) (linked : AcceptedUpdates) (slots slots' : List Slot) (room room' lasting lasting' answered answered' spare : ℕ) (s : Slot) (e : Entry) → IsConsistent start linked slots room lasting answered spare → IsSlotOf s e → is_update s ≡ false
    → 1 ≤ spare → slots' ≡ slots ++ s ∷ [] → room ≤ room' + 1 → lasting' ≡ lasting_weight (entries_of slots linked.updates ++ e ∷ []) → answered' ≡ answered_weight (entries_of slots linked.updates ++ e ∷ [])
    → IsConsistent start linked slots' room' lasting' answered' (spare - 1)
kept_other start linked slots slots' room room' lasting lasting' answered answered' spare s e kept is no_update some grown log_room lasts answers =
    let entries = other_entered slots slots' linked.updates s e is kept.counted grown in
    record {
      sound = kept.sound;
      counted = ap (λ (ss : List Slot). length (filter is_update ss)) grown ∙ ap length (filter-append is_update slots (s ∷ []) ∙ ap (λ (b : Bool). filter is_update slots ++ cond b (s ∷ []) []) no_update ∙ append-nil (filter is_update slots)) ∙ kept.counted;
      lasting_is = lasts ∙ sym (ap lasting_weight entries);
      answered_is = answers ∙ sym (ap answered_weight entries);
      linked_room = omega (arith, kept.linked_room, some);
      log_room = omega (arith, kept.log_room, log_room, some);
    }
