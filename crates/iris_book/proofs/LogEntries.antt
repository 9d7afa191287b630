-- Entries as a log and the updates beside it.
use Rattle.std.proofs.Common.{◌≡◌, suc, ◌+◌, Bool, true, false, cond, not, List, [], ◌∷◌, ◌++◌, length, filter, refl, ◌∙◌, ap, arith, sum_by, append-nil}
use Rattle.iris_base.specs.declared.name.Label.{Label}
use Rattle.iris_book.specs.declared.entry.Entry.{Entry}
use Rattle.iris_book.specs.declared.entry.Entry.TheVariants as entry
use Rattle.iris_book.specs.declared.log.Slot.{Slot}
use Rattle.iris_book.specs.declared.log.Slot.TheVariants as slot
use Rattle.iris_book.specs.declared.update.NodeUpdate.{NodeUpdate}
use Rattle.std.proofs.lemmas.List.Elements.{filter-append}
use Rattle.std.proofs.lemmas.List.Sums.{sum_by-append}
use Rattle.iris_tree.specs.TextLen.{saturated}
use Rattle.iris_book.specs.Book.{Updates, updates_in, weight}
use Rattle.iris_book.specs.Consistent.{lasting_weight, answered_weight}
use Rattle.iris_book.specs.Entering.{is_lasting}
use Rattle.iris_book.specs.Log.{updated, entries_of, is_update, stays}

-- the log has a slot for each update
abbrev pub Counted : List Slot → Updates → Type 0
Counted slots us = length (filter is_update slots) ≡ length us

-- there are as many entries as slots
pub length-entries_of : (slots : List Slot) (us : Updates) → Counted slots us → length (entries_of slots us) ≡ length slots
length-entries_of [] us h = refl
length-entries_of (slot.Update ∷ slots) [] h = absurd (omega arith)
length-entries_of (slot.Update ∷ slots) (u ∷ us) h = ap suc (length-entries_of slots us (omega arith))
length-entries_of (slot.Gave name to epoch ∷ slots) us h = ap suc (length-entries_of slots us h)
length-entries_of (slot.Answered request query floor cites ∷ slots) us h = ap suc (length-entries_of slots us h)

-- the updates among the entries are those beside the log
pub updates_in-entries_of : (slots : List Slot) (us : Updates) → Counted slots us → updates_in (entries_of slots us) ≡ us
updates_in-entries_of [] [] h = refl
updates_in-entries_of [] (u ∷ us) h = absurd (omega arith)
updates_in-entries_of (slot.Update ∷ slots) [] h = absurd (omega arith)
updates_in-entries_of (slot.Update ∷ slots) (u ∷ us) h = ap (λ (vs : Updates). u ∷ vs) (updates_in-entries_of slots us (omega arith))
updates_in-entries_of (slot.Gave name to epoch ∷ slots) us h = updates_in-entries_of slots us h
updates_in-entries_of (slot.Answered request query floor cites ∷ slots) us h = updates_in-entries_of slots us h

-- an update more is an entry more
pub entries_push_update : (slots : List Slot) (us : Updates) (u : List Label × NodeUpdate) → Counted slots us → entries_of (slots ++ slot.Update ∷ []) (us ++ u ∷ []) ≡ entries_of slots us ++ updated u ∷ []
entries_push_update [] [] u h = refl
entries_push_update [] (v ∷ us) u h = absurd (omega arith)
entries_push_update (slot.Update ∷ slots) [] u h = absurd (omega arith)
entries_push_update (slot.Update ∷ slots) (v ∷ us) u h = ap (λ (es : List Entry). updated v ∷ es) (entries_push_update slots us u (omega arith))
entries_push_update (slot.Gave name to epoch ∷ slots) us u h = ap (λ (es : List Entry). entry.Gave name to epoch ∷ es) (entries_push_update slots us u h)
entries_push_update (slot.Answered request query floor cites ∷ slots) us u h = ap (λ (es : List Entry). entry.Answered request query floor cites ∷ es) (entries_push_update slots us u h)

-- a slot that is the entry itself
abbrev pub IsSlotOf : Slot → Entry → Type 0
IsSlotOf s e = (us : Updates) (slots : List Slot) → entries_of (s ∷ slots) us ≡ e ∷ entries_of slots us

-- so is another slot
pub entries_push : (slots : List Slot) (us : Updates) (s : Slot) (e : Entry) → IsSlotOf s e → Counted slots us → entries_of (slots ++ s ∷ []) us ≡ entries_of slots us ++ e ∷ []
entries_push [] [] s e is h = is [] []
entries_push [] (v ∷ us) s e is h = is (v ∷ us) []
entries_push (slot.Update ∷ slots) [] s e is h = absurd (omega arith)
entries_push (slot.Update ∷ slots) (v ∷ us) s e is h = ap (λ (es : List Entry). updated v ∷ es) (entries_push slots us s e is (omega arith))
entries_push (slot.Gave name to epoch ∷ slots) us s e is h = ap (λ (es : List Entry). entry.Gave name to epoch ∷ es) (entries_push slots us s e is h)
entries_push (slot.Answered request query floor cites ∷ slots) us s e is h = ap (λ (es : List Entry). entry.Answered request query floor cites ∷ es) (entries_push slots us s e is h)

-- without the slots of answers there are no answers among the entries
pub entries_without_answers : (slots : List Slot) (us : Updates) → entries_of (filter stays slots) us ≡ filter is_lasting (entries_of slots us)
entries_without_answers [] us = refl
entries_without_answers (slot.Update ∷ slots) [] = refl
entries_without_answers (slot.Update ∷ slots) (u ∷ us) = ap (λ (es : List Entry). updated u ∷ es) (entries_without_answers slots us)
entries_without_answers (slot.Gave name to epoch ∷ slots) us = ap (λ (es : List Entry). entry.Gave name to epoch ∷ es) (entries_without_answers slots us)
entries_without_answers (slot.Answered request query floor cites ∷ slots) us = entries_without_answers slots us

-- the slots of updates are the same then
pub updates_stay : (slots : List Slot) → filter is_update (filter stays slots) ≡ filter is_update slots
updates_stay [] = refl
updates_stay (slot.Update ∷ slots) = ap (λ (ss : List Slot). slot.Update ∷ ss) (updates_stay slots)
updates_stay (slot.Gave name to epoch ∷ slots) = updates_stay slots
updates_stay (slot.Answered request query floor cites ∷ slots) = updates_stay slots

-- ---- weights

lasting_twice : (es : List Entry) → filter is_lasting (filter is_lasting es) ≡ filter is_lasting es
lasting_twice [] = refl
lasting_twice (entry.Updated name number changes local at ∷ es) = ap (λ (xs : List Entry). entry.Updated name number changes local at ∷ xs) (lasting_twice es)
lasting_twice (entry.Gave name to epoch ∷ es) = ap (λ (xs : List Entry). entry.Gave name to epoch ∷ xs) (lasting_twice es)
lasting_twice (entry.Answered request query floor cites ∷ es) = lasting_twice es

none_answered : (es : List Entry) → filter (λ e. not (is_lasting e)) (filter is_lasting es) ≡ []
none_answered [] = refl
none_answered (entry.Updated name number changes local at ∷ es) = none_answered es
none_answered (entry.Gave name to epoch ∷ es) = none_answered es
none_answered (entry.Answered request query floor cites ∷ es) = none_answered es

-- what lasts weighs the same without the answers
pub lasting_stays : (es : List Entry) → lasting_weight (filter is_lasting es) ≡ lasting_weight es
lasting_stays es = ap (λ (xs : List Entry). saturated (sum_by weight xs)) (lasting_twice es)

-- the answers weigh nothing then
pub answered_none : (es : List Entry) → answered_weight (filter is_lasting es) ≡ 0
answered_none es = ap (λ (xs : List Entry). saturated (sum_by weight xs)) (none_answered es)

sum_by_push : (es : List Entry) (e : Entry) → sum_by weight (es ++ e ∷ []) ≡ sum_by weight es + weight e
sum_by_push es e = simp sum_by-append (omega arith)

-- an entry that lasts is added to the one sum, and an answer to the other
pub lasting_more : (es : List Entry) (e : Entry) → is_lasting e ≡ true → lasting_weight (es ++ e ∷ []) ≡ saturated (lasting_weight es + saturated (weight e))
lasting_more es e is =
    let grown : filter is_lasting (es ++ e ∷ []) ≡ filter is_lasting es ++ e ∷ [] = filter-append is_lasting es (e ∷ []) ∙ ap (λ (b : Bool). filter is_lasting es ++ cond b (e ∷ []) []) is in
    let sum = ap (sum_by weight) grown ∙ sum_by_push (filter is_lasting es) e in
    omega (arith, sum)

-- an entry that lasts adds nothing to the answers
pub answered_same : (es : List Entry) (e : Entry) → is_lasting e ≡ true → answered_weight (es ++ e ∷ []) ≡ answered_weight es
answered_same es e is =
    ap (λ (xs : List Entry). saturated (sum_by weight xs))
    (filter-append (λ x. not (is_lasting x)) es (e ∷ []) ∙ ap (λ (b : Bool). filter (λ x. not (is_lasting x)) es ++ cond (not b) (e ∷ []) []) is ∙ append-nil (filter (λ x. not (is_lasting x)) es))

-- an answer adds its weight to them
pub answered_more : (es : List Entry) (e : Entry) → is_lasting e ≡ false → answered_weight (es ++ e ∷ []) ≡ saturated (answered_weight es + saturated (weight e))
answered_more es e is =
    let grown : filter (λ x. not (is_lasting x)) (es ++ e ∷ []) ≡ filter (λ x. not (is_lasting x)) es ++ e ∷ [] =
    filter-append (λ x. not (is_lasting x)) es (e ∷ []) ∙ ap (λ (b : Bool). filter (λ x. not (is_lasting x)) es ++ cond (not b) (e ∷ []) []) is in
    let sum = ap (sum_by weight) grown ∙ sum_by_push (filter (λ x. not (is_lasting x)) es) e in
    omega (arith, sum)

-- and nothing to what lasts
pub lasting_same : (es : List Entry) (e : Entry) → is_lasting e ≡ false → lasting_weight (es ++ e ∷ []) ≡ lasting_weight es
lasting_same es e is =
    ap (λ (xs : List Entry). saturated (sum_by weight xs)) (filter-append is_lasting es (e ∷ []) ∙ ap (λ (b : Bool). filter is_lasting es ++ cond b (e ∷ []) []) is ∙ append-nil (filter is_lasting es))
