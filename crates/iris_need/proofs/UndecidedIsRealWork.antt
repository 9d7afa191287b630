-- What is missing is looked at over each document that agrees, and where nothing is missing, all is as over all of that document.
use Rattle.std.proofs.Common.{◌≡◌, Bool, true, false, cond, not, ◌⊎◌, inl, inr, List, [], ◌∷◌, map, filter, Option, Some, None, option_map, Contains, refl, sym, ap, subst, ◌∙◌, arith}
use Rattle.std.specs.Option.{option_map_or}
use Rattle.std.proofs.lemmas.List.Elements.{All-contains, All-contains_itself, All-filter, filter_passes}
use Rattle.iris_base.specs.declared.name.Label.{Label}
use Rattle.iris_tree.specs.declared.local.Local.{Local}
use Rattle.iris_tree.specs.Universe.{Node, label_of, local_of, ids_of}
use Rattle.iris_fragment.specs.declared.piece.Full.{Full}
use Rattle.iris_fragment.specs.declared.piece.Piece.{Piece}
use Rattle.iris_fragment.specs.declared.piece.Level.{Level}
use Rattle.iris_fragment.specs.declared.piece.Level.TheVariants as level
use Rattle.iris_tree.specs.declared.item.Item.{Item}
use Rattle.iris_xpath.specs.Syntax.{Syntax}
use Rattle.iris_xpath.proofs.SelectedPlaces.{and_true}
use Rattle.iris_need.specs.declared.need.Need.{Need}
use Rattle.iris_need.specs.declared.need.Start.{Start}
use Rattle.iris_need.specs.Run.{Known, View, Out, eval, all_of, ids_in, local_in, no_local, LocalBelow, KnownBelow, Below, meets_known, meets}
use Rattle.iris_need.specs.Pieces.{Pieces, piece_at, known_of, view_of, IsLocalOf, IsPieceAt, Agrees}
use Rattle.iris_need.specs.Program.{program}
use Rattle.iris_need.specs.Needs.{is_under, seen_from, evaluation, looks, is_missing, missing_of, merged, without_states, support_of, full_part, full_names, from_document}
use Rattle.iris_need.specs.Laws.{HasLook, IsOpenAtStart}
use Rattle.iris_need.proofs.Run.{contains_first, contains_later, first_or_later, grows, determined, AllMet}
use Rattle.iris_need.proofs.Merged.{merged_have, merged_empty}
use Rattle.iris_need.proofs.Pieces.{found_there}

-- ---- a view of pieces is part of all of each document that agrees

local_below : (full : Option Full) (n : Node) (more : Local) → IsLocalOf n full → local_of n ≡ more → LocalBelow (option_map (λ f. f.local) full) (Some more)
local_below None n more h e = tt
local_below (Some full) n more h e = h ∙ e

piece_below : (document : Node) (name : List Label) (o : Option Piece) → ((piece : Piece) → o ≡ Some piece → IsPieceAt document name piece) → KnownBelow (option_map known_of o) (all_of document name)
piece_below document name None h = tt
piece_below document name (Some piece) h =
    let is = h piece refl in
    let ids : ids_of is.0 ≡ ids_in document name = sym (ap (λ o. option_map_or ids_of o []) is.1) in
    let local : local_of is.0 ≡ local_in document name = sym (ap (λ o. option_map_or local_of o no_local) is.1) in
    (is.2 ∙ ids, local_below piece.full is.0 (local_in document name) is.3 local)

-- a view whose pieces are so of a document knows less than all of it
pub told_below : (document : Node) (view : Pieces) → ((name : List Label) (piece : Piece) → piece_at view name ≡ Some piece → IsPieceAt document name piece) → Below (view_of view) (all_of document)
told_below document view each name = piece_below document name (piece_at view name) (each name)

-- the pieces of a view know less than the whole document
pub pieces_below : (document : Node) (pieces : Pieces) → Agrees document pieces → Below (view_of pieces) (all_of document)
pieces_below document pieces agrees name = piece_below document name (piece_at pieces name) (λ piece found.
    All-contains (λ entry. IsPieceAt document entry.0 entry.1) pieces (name, piece) agrees (found_there pieces name piece found))

below_if : (b : Bool) (p q : Option Known) → KnownBelow p q → KnownBelow (cond b p None) (cond b q None)
below_if true p q h = h
below_if false p q h = tt

-- what is seen under a name of a view that knows more
pub seen_below : (above : List Label) (w v : View) → Below w v → Below (seen_from above w) (seen_from above v)
seen_below above w v below name = below_if (is_under name above) (w name) (v name) (below name)

-- ---- filters

-- an element of a filtered list is there and passes
pub contains_filtered : {X : Type 0} (p : X → Bool) (xs : List X) (x : X) → Contains (filter p xs) x → Contains xs x × (p x ≡ true)
contains_filtered p xs x h =
    (All-contains (Contains xs) (filter p xs) x (All-filter p (Contains xs) xs (All-contains_itself xs)) h, All-contains (λ y. p y ≡ true) (filter p xs) x (filter_passes p xs) h)

none_kept : {X : Type 0} (b : Bool) (x : X) (xs : List X) → cond b (x ∷ xs) xs ≡ [] → (b ≡ false) × (xs ≡ [])
none_kept true x xs e = absurd (cc)
none_kept false x xs e = (refl, e)

-- where a filter keeps nothing, no element passes
pub none_pass : {X : Type 0} (p : X → Bool) (xs : List X) → filter p xs ≡ [] → (x : X) → Contains xs x → p x ≡ false
none_pass p [] e x h = absurd (omega (arith, h.1))
none_pass p (y ∷ ys) e x h =
    let t = none_kept (p y) y (filter p ys) e in
    elim (first_or_later y ys x h) [ inl same ↦ sym (ap p same) ∙ t.0 | inr later ↦ none_pass p ys t.1 x later ]

-- where each element passes, a filter keeps them all
pub all_pass : {X : Type 0} (p : X → Bool) (xs : List X) → ((x : X) → Contains xs x → p x ≡ true) → filter p xs ≡ xs
all_pass p [] h = refl
all_pass p (x ∷ xs) h = ap (λ b. cond b (x ∷ filter p xs) (filter p xs)) (h x (contains_first x xs)) ∙ ap (λ ys. x ∷ ys) (all_pass p xs (λ y i. h y (contains_later x xs y i)))

-- ---- nothing missing from the document on

-- what is not false is true
pub not_false : (b : Bool) → not b ≡ false → b ≡ true
not_false true e = refl
not_false false e = absurd (cc)

-- every look is met
pub all_met : (query : Syntax) (top : Label) (view : Pieces) → missing_of query (from_document top) view ≡ [] → AllMet (view_of view) (looks query (from_document top) (view_of view))
all_met query top view none look h = not_false (meets (view_of view) look)
    (none_pass (is_missing (from_document top) (view_of view)) (looks query (from_document top) (view_of view)) (merged_empty _ none) look h)

same_run : (query : Syntax) (top : Label) (view : Pieces) (document : Node) → Agrees document view → missing_of query (from_document top) view ≡ []
    → (evaluation query (from_document top) (view_of view) ≡ evaluation query (from_document top) (all_of document))
    × ((evaluation query (from_document top) (view_of view)).value ≡ Some (eval document (program query (from_document top))))
same_run query top view document agrees none = determined document (view_of view) (pieces_below document view agrees) (program query (from_document top)) (all_met query top view none)

-- the evaluation over the view is that over all of the document
pub same_evaluation : (query : Syntax) (view : Pieces) (document : Node) → Agrees document view → missing_of query (from_document (label_of document)) view ≡ []
    → evaluation query (from_document (label_of document)) (view_of view) ≡ evaluation query (from_document (label_of document)) (all_of document)
same_evaluation query view document agrees none = (same_run query (label_of document) view document agrees none).0

-- and it is decided
pub determined_from : (query : Syntax) (view : Pieces) (document : Node) → Agrees document view → missing_of query (from_document (label_of document)) view ≡ []
    → (evaluation query (from_document (label_of document)) (view_of view)).value ≡ Some (eval document (program query (from_document (label_of document))))
determined_from query view document agrees none = (same_run query (label_of document) view document agrees none).1

-- ---- what the support has in full

-- where nothing is missing, the evaluation rests on the full names
pub support_full : (query : Syntax) (view : Pieces) (document : Node) → Agrees document view → missing_of query (from_document (label_of document)) view ≡ []
    → full_part (support_of query (from_document (label_of document)) view) ≡ full_names query document
support_full query view document agrees none =
    let start = from_document (label_of document) in
    ap (λ met. full_part (merged (map without_states met))) (all_pass (meets (view_of view)) (looks query start (view_of view)) (all_met query (label_of document) view none))
    ∙ ap (λ (o : Out (List Item)). full_part (merged (map without_states o.log))) (same_evaluation query view document agrees none)

-- ---- what is missing is looked at

-- a missing need is for a look that is under the start's name, and that the view doesn't meet
pub missing_look : (query : Syntax) (start : Start) (view : Pieces) (need : Need) → Contains (missing_of query start view) need
    → (look : Need) × Contains (looks query start (view_of view)) look × (look.name ≡ need.name) × (look.level ≡ need.level) × (is_under look.name start.name ≡ true) × (not (meets (seen_from start.name (view_of view)) look) ≡ true)
missing_look query start view need h =
    let lacking = filter (is_missing start (view_of view)) (looks query start (view_of view)) in
    let stands = All-contains (λ need. HasLook lacking need.name need.level) (missing_of query start view) need
    (merged_have (HasLook lacking) lacking (λ k d i. (_, All-contains_itself lacking k d i, refl, refl))) h in
    let kept = contains_filtered (is_missing start (view_of view)) (looks query start (view_of view)) stands.0 stands.1 in
    let both = and_true (is_under stands.0.name start.name) (not (meets (seen_from start.name (view_of view)) stands.0)) kept.1 in
    (stands.0, kept.0, stands.2, stands.3, both.0, both.1)

-- what is missing is looked at over each document that agrees
pub real_work : (query : Syntax) (start : Start) (view : Pieces) (document : Node) → Agrees document view → (need : Need) → Contains (missing_of query start view) need
    → HasLook (looks query start (all_of document)) need.name need.level
real_work query start view document agrees need h =
    let s = missing_look query start view need h in
    let below = seen_below start.name (view_of view) (all_of document) (pieces_below document view agrees) in
    (s.0, (grows (seen_from start.name (view_of view)) (seen_from start.name (all_of document)) below (program query start)).looks s.0 s.1, s.2, s.3)

-- ---- where it lies

-- what is missing is at or under the start's name
pub missing_under : (query : Syntax) (start : Start) (view : Pieces) (need : Need) → Contains (missing_of query start view) need → is_under need.name start.name ≡ true
missing_under query start view need h =
    let s = missing_look query start view need h in
    subst (λ name. is_under name start.name ≡ true) s.2 s.4

not_so : (b : Bool) → not b ≡ true → b ≡ false
not_so true e = absurd (cc)
not_so false e = refl

unmet_at : (above : List Label) (w : View) (look : Need) (name : List Label) (l : Level) → look.name ≡ name → look.level ≡ l
    → is_under look.name above ≡ true → not (meets (seen_from above w) look) ≡ true → meets_known l (w name) ≡ false
unmet_at above w look name l e f under h =
    let here : not (meets_known look.level (w look.name)) ≡ true = subst (λ b. not (meets_known look.level (cond b (w look.name) None)) ≡ true) under h in
    not_so (meets_known l (w name)) (subst (λ n. not (meets_known l (w n)) ≡ true) e (subst (λ m. not (meets_known m (w look.name)) ≡ true) f here))

-- what is missing is not met
pub missing_unmet : (query : Syntax) (start : Start) (view : Pieces) (need : Need) → Contains (missing_of query start view) need → meets (view_of view) need ≡ false
missing_unmet query start view need h =
    let s = missing_look query start view need h in
    unmet_at start.name (view_of view) s.0 need.name need.level s.2 s.3 s.4 s.5

-- what is not met at one level, at another
open_at : (l m : Level) (k : Option Known) → meets_known l k ≡ false → ((l ≡ level.Full) × (m ≡ level.Ids)) ⊎ (meets_known m k ≡ false)
open_at level.Ids m (Some k) h = absurd (cc)
open_at level.Ids m None h = inr refl
open_at level.Full level.Ids k h = inl (refl, refl)
open_at level.Full level.Full k h = inr h

-- what is missing at the start's name is what its own look leaves open
pub missing_here : (query : Syntax) (start : Start) (view : Pieces) (need : Need) → Contains (missing_of query start view) need → need.name ≡ start.name → IsOpenAtStart start view need
missing_here query start view need h e =
    open_at need.level start.level (view_of view start.name) (subst (λ name. meets_known need.level (view_of view name) ≡ false) e (missing_unmet query start view need h))
