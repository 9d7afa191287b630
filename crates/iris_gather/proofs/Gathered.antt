-- The view of a gather: it lies at or under the start's name, is closed upward to it, and has what the start looks at.
use Rattle.std.proofs.Common.{◌≡◌, ◌≢◌, ◌⊎◌, inl, inr, true, List, [], ◌∷◌, ◌++◌, map, filter, All, Contains, Option, Some, None, is_some, IsSome, option_map, refl, sym, ◌∙◌, ap, subst, arith, append-nil}
use Rattle.std.specs.Map.{keys_of}
use Rattle.std.specs.Cmp.Lexicographic.{slice_cmp}
use Rattle.std.specs.List.Sorted.{IsStrictlySortedBy}
use Rattle.std.specs.List.{AllByRecursion, cons_option}
use Rattle.std.specs.Ordering.{match_ordering, eq_by_cmp}
use Rattle.std.specs.declared.cmp.Ordering.{Ordering}
use Rattle.std.specs.declared.cmp.Ordering.TheVariants.{Less, Equal, Greater}
use Rattle.std.specs.BTreeMap.{insert_entry}
use Rattle.std.specs.Cmp.{eq_by_cmp_equiv}
use Rattle.std.proofs.lemmas.List.Elements.{All-nil, All-head, All-tail, All-contains, All-contains_itself, All-map, All-filter, All-weaker, All-from_recursion, recursion_from_All, filter_passes}
use Rattle.std.proofs.lemmas.Map.Views.{lookup-from_Contains}
use Rattle.std.proofs.lemmas.Map.Keys.{IsDistinct-from_sorted}
use Rattle.iris_base.specs.declared.name.Label.{Label}
use Rattle.iris_base.specs.NameOrder.{label_cmp, names_total}
use Rattle.iris_fragment.specs.declared.piece.Level.{Level}
use Rattle.iris_fragment.specs.declared.piece.Level.TheVariants as level
use Rattle.iris_fragment.specs.declared.piece.Full.{Full}
use Rattle.iris_fragment.specs.declared.piece.Piece.{Piece}
use Rattle.iris_fragment.proofs.Names.{name_exact}
use Rattle.iris_xpath.specs.Syntax.{Syntax}
use Rattle.iris_need.specs.declared.need.Need.{Need}
use Rattle.iris_need.specs.declared.need.Start.{Start}
use Rattle.iris_need.specs.Decided.{IsAtLevel, at_level, pieces_for, decided}
use Rattle.iris_need.specs.Descents.{IsAtStart, IsBelowMet, HasAbove}
use Rattle.iris_need.specs.Run.{Known, meets_known, meets}
use Rattle.iris_need.specs.Laws.{look_at_start}
use Rattle.iris_need.specs.Needs.{is_under, seen_from, looks, support_of, without_states, from_document}
use Rattle.iris_need.specs.Pieces.{Pieces, AreNamed, piece_at, pieces_in, joined_pieces, known_of, view_of, with_piece, laid_over}
use Rattle.iris_need.proofs.Asked.{seen_under, level_named, decided_meets}
use Rattle.iris_need.proofs.Descended.{looked_where}
use Rattle.iris_need.proofs.Laid.{laid_grows, met_grows, added_meets, came_from, is_there}
use Rattle.iris_need.proofs.Merged.{merged_have}
use Rattle.iris_need.proofs.Pieces.{found_there, piece_named}
use Rattle.iris_need.proofs.Run.{contains_first, contains_later, first_or_later}
use Rattle.iris_gather.specs.Gathers.{HasName, IsReplyTo, IsClosedTo, IsGathered}
use Rattle.iris_gather.proofs.Under.{not_above, some_label, last_same, both_ways, under_rest, under_itself, under_further, under_split}
use Rattle.iris_gather.proofs.Rising.{laid_ordered, laid_named}

abbrev names_cmp : List Label → List Label → Ordering
names_cmp = slice_cmp label_cmp

-- ---- what is there

pub stays_there : (view : Pieces) (pieces : List Piece) (name : List Label) → IsSome (piece_at view name) → IsSome (piece_at (laid_over pieces view) name)
stays_there view pieces name there =
    is_there (laid_over pieces view) name
    ∙ met_grows (view_of view) (view_of (laid_over pieces view)) (record { name = name; level = level.Ids; states = [] }) (laid_grows view pieces) (sym (is_there view name) ∙ there)

added_there : (view : Pieces) (pieces : List Piece) (name : List Label) → HasName pieces name → IsSome (piece_at (laid_over pieces view) name)
added_there view pieces name has = subst (λ (n : List Label). IsSome (piece_at (laid_over pieces view) n)) has.2 (is_there (laid_over pieces view) has.0.name ∙ added_meets view pieces has.0 level.Ids has.1 tt)

-- what has a node above it in a view has it there still
pub above_stays : (view : Pieces) (pieces : List Piece) (start : Start) (name : List Label) → HasAbove view start name → HasAbove (laid_over pieces view) start name
above_stays view pieces start name (inl same) = inl same
above_stays view pieces start name (inr (inl top)) = inr (inl top)
above_stays view pieces start name (inr (inr h)) = inr (inr (h.0, h.1, h.2, stays_there view pieces h.0 h.3))

-- ---- all lies at or under a name

put_each : (Q : List Label × Piece → Type 0) (es : Pieces) (k : List Label) (v : Piece) → Q (k, v) → AllByRecursion Q es → AllByRecursion Q (insert_entry names_cmp es k v)
put_each Q [] k v new all = (new, tt)
put_each Q (e ∷ es) k v new all = one (names_cmp k e.0) refl (put_each Q es k v new all.1)
  where
    one : (o : Ordering) → names_cmp k e.0 ≡ o → AllByRecursion Q (insert_entry names_cmp es k v) → AllByRecursion Q (match_ordering o ((k, v) ∷ e ∷ es) ((e.0, v) ∷ es) (e ∷ insert_entry names_cmp es k v))
    one Less at rest = (new, all)
    one Equal at rest = (subst (λ (n : List Label). Q (n, v)) (name_exact k e.0 at) new, all.1)
    one Greater at rest = (all.0, rest)

under_one : (top : List Label) (view : Pieces) (piece : Piece) → is_under piece.name top ≡ true → All (λ entry. is_under entry.0 top ≡ true) view → All (λ entry. is_under entry.0 top ≡ true) (with_piece view piece)
under_one top view piece under all =
    All-from_recursion (λ entry. is_under entry.0 top ≡ true) (with_piece view piece)
    (put_each (λ entry. is_under entry.0 top ≡ true) view piece.name (joined_pieces (piece_at view piece.name) piece) under (recursion_from_All (λ entry. is_under entry.0 top ≡ true) view all))

under_all : (top : List Label) (view : Pieces) (pieces : List Piece) → All (λ piece. is_under piece.name top ≡ true) pieces → All (λ entry. is_under entry.0 top ≡ true) view → All (λ entry. is_under entry.0 top ≡ true) (laid_over pieces view)
under_all top view [] new all = all
under_all top view (piece ∷ pieces) new all =
    under_all top (with_piece view piece) pieces (All-tail (λ p. is_under p.name top ≡ true) piece pieces new) (under_one top view piece (All-head (λ p. is_under p.name top ≡ true) piece pieces new) all)

-- ---- a gather is opened

nothing_there : (name : List Label) → IsSome (piece_at [] name) → ⊥
nothing_there name h = cc

nothing_ordered : IsStrictlySortedBy names_cmp (keys_of {X = Piece} [])
unfolding IsStrictlySortedBy
nothing_ordered = tt

pub opened_at_document : (top : Label) → IsGathered (from_document top) []
opened_at_document top = record {
  ordered = nothing_ordered;
  named = All-nil (λ entry. entry.0 ≡ entry.1.name);
  under = All-nil (λ entry. is_under entry.0 [] ≡ true);
  closed = λ above l there under some. absurd (nothing_there (above ++ l ∷ []) there);
  own = λ some. absurd (some refl);
}

pub opened_for_ask : (start : Start) (piece : Piece) → piece.name ≡ start.name → IsAtLevel start.level piece → IsGathered start (laid_over (piece ∷ []) [])
opened_for_ask start piece same at = record {
  ordered = laid_ordered [] (piece ∷ []) nothing_ordered;
  named = laid_named [] (piece ∷ []) (All-nil (λ entry. entry.0 ≡ entry.1.name));
  under = under_all start.name [] (piece ∷ []) one (All-nil (λ entry. is_under entry.0 start.name ≡ true));
  closed = λ above l there under some. elim (came_from [] (piece ∷ []) (above ++ l ∷ []) there) [
    | inl before ↦ absurd (nothing_there (above ++ l ∷ []) before)
    | inr added ↦ absurd (alone above l under added)
  ];
  own = λ some. subst (λ (n : List Label). meets_known start.level (view_of (laid_over (piece ∷ []) []) n) ≡ true) same (added_meets [] (piece ∷ []) piece start.level (contains_first piece []) at);
}
  where
    one : All (λ p. is_under p.name start.name ≡ true) (piece ∷ [])
    one = All-from_recursion (λ p. is_under p.name start.name ≡ true) (piece ∷ []) (ap (λ (n : List Label). is_under n start.name) same ∙ under_itself start.name, tt)

    alone : (above : List Label) (l : Label) → is_under above start.name ≡ true → HasName (piece ∷ []) (above ++ l ∷ []) → ⊥
    alone above l under has = elim (first_or_later piece [] has.0 has.1) [
      | inl first ↦ not_above start.name above [] l under (sym same ∙ ap (λ (p : Piece). p.name) first ∙ has.2 ∙ sym (append-nil (above ++ l ∷ [])))
      | inr none ↦ absurd (omega (arith, none.1))
    ]

-- ---- a decision

-- each need of the support stands for a look that is met
abbrev IsMetLook : Syntax → Start → Pieces → List Label → Type 0
IsMetLook query start over name = (look : Need) × Contains (looks query start (view_of over)) look × (look.name ≡ name) × (meets (seen_from start.name (view_of over)) look ≡ true)

support_met : (query : Syntax) (start : Start) (over : Pieces) → All (λ need. IsMetLook query start over need.name) (support_of query start over)
support_met query start over =
    let w = seen_from start.name (view_of over) in
    let ls = looks query start (view_of over) in
    merged_have (λ name l. IsMetLook query start over name) (map without_states (filter (meets w) ls))
    (All-map (λ look. IsMetLook query start over look.name) without_states (filter (meets w) ls)
    (All-weaker (λ look. Contains ls look × (meets w look ≡ true)) (λ look. IsMetLook query start over look.name) (λ look both. (look, both.0, refl, both.1)) (filter (meets w) ls) pairs))
  where
    pairs : All (λ look. Contains (looks query start (view_of over)) look × (meets (seen_from start.name (view_of over)) look ≡ true)) (filter (meets (seen_from start.name (view_of over))) (looks query start (view_of over)))
    pairs k d within = (All-filter (meets (seen_from start.name (view_of over))) (Contains (looks query start (view_of over))) (looks query start (view_of over)) (All-contains_itself (looks query start (view_of over))) k d within, filter_passes (meets (seen_from start.name (view_of over))) (looks query start (view_of over)) k d within)

-- each piece that is taken is of a need
abbrev IsOfNeed : List Need → Piece → Type 0
IsOfNeed needs piece = (need : Need) × Contains needs need × (piece.name ≡ need.name)

taken_for : (over : Pieces) (needs : List Need) → AreNamed over → (piece : Piece) → Contains (pieces_for over needs) piece → IsOfNeed needs piece
taken_for over [] named piece there = absurd (omega (arith, there.1))
taken_for over (need ∷ needs) named piece there = by (piece_at over need.name) refl (λ h. taken_for over needs named piece h) there
  where
    later : IsOfNeed needs piece → IsOfNeed (need ∷ needs) piece
    later h = (h.0, contains_later need needs h.0 h.1, h.2)

    by : (o : Option Piece) → piece_at over need.name ≡ o → (Contains (pieces_for over needs) piece → IsOfNeed needs piece) → Contains (cons_option (option_map (at_level need.level) o) (pieces_for over needs)) piece → IsOfNeed (need ∷ needs) piece
    by None found again h = later (again h)
    by (Some p) found again h = elim (first_or_later (at_level need.level p) (pieces_for over needs) piece h) [
      | inl same ↦ (need, contains_first need needs, ap (λ (x : Piece). x.name) (sym same) ∙ level_named need.level p ∙ piece_named over need.name p named found)
      | inr rest ↦ later (again rest)
    ]

-- and so of a look that is met
taken_look : (query : Syntax) (start : Start) (over : Pieces) → AreNamed over → (piece : Piece) → Contains (pieces_for over (support_of query start over)) piece → IsMetLook query start over piece.name
taken_look query start over named piece there =
    let need = taken_for over (support_of query start over) named piece there in
    subst (IsMetLook query start over) (sym need.2) (All-contains (λ n. IsMetLook query start over n.name) (support_of query start over) need.0 (support_met query start over) need.1)

taken_under : (query : Syntax) (start : Start) (over : Pieces) → AreNamed over → All (λ piece. is_under piece.name start.name ≡ true) (pieces_for over (support_of query start over))
taken_under query start over named =
    let taken = pieces_for over (support_of query start over) in
    All-weaker (Contains taken) (λ piece. is_under piece.name start.name ≡ true) (λ piece there.
    let look = taken_look query start over named piece there in
    ap (λ (n : List Label). is_under n start.name) (sym look.2) ∙ (seen_under start.name (view_of over) look.0 look.3).0)
    taken (All-contains_itself taken)

-- where a look lies: right below a node that the view has then
looked_above : (query : Syntax) (start : Start) (view over : Pieces) (look : Need) → AreNamed over → Contains (looks query start (view_of over)) look → is_under look.name start.name ≡ true → HasAbove (decided query start over view) start look.name
looked_above query start view over look named there under = by (looked_where query start (view_of over) look there)
  where
    ids_only : (o : Option Known) (l : Level) → meets_known l o ≡ true → meets_known level.Ids o ≡ true
    ids_only None l h = h
    ids_only (Some k) l h = refl

    by : IsAtStart start look.name ⊎ IsBelowMet (seen_from start.name (view_of over)) (looks query start (view_of over)) look.name → HasAbove (decided query start over view) start look.name
    by (inl (inl top)) = inr (inl top)
    by (inl (inr h)) =
        let rest = under_rest look.name start.name under in
        inl (both_ways look.name start.name rest.0 h.0 rest.1 h.1)
    by (inr b) =
        let met = decided_meets query start view over b.look named b.there b.met in
        let some : IsSome (piece_at (decided query start over view) b.look.name) = is_there (decided query start over view) b.look.name ∙ ids_only (view_of (decided query start over view) b.look.name) b.look.level met in
        inr (inr (b.above, b.label, b.is, subst (λ (n : List Label). IsSome (piece_at (decided query start over view) n)) b.named some))

closed_decided : (query : Syntax) (start : Start) (view over : Pieces) → AreNamed over → IsClosedTo start.name view → IsClosedTo start.name (decided query start over view)
closed_decided query start view over named closed above l there under some = elim (came_from view (pieces_for over (support_of query start over)) (above ++ l ∷ []) there) [
  | inl before ↦ stays_there view (pieces_for over (support_of query start over)) above (closed above l before under some)
  | inr added ↦ new added
]
  where
    right_above : HasAbove (decided query start over view) start (above ++ l ∷ []) → IsSome (piece_at (decided query start over view) above)
    right_above (inl same) = absurd (not_above start.name above [] l under (sym (append-nil (above ++ l ∷ []) ∙ same)))
    right_above (inr (inl top)) = absurd (some_label above l start.top some top)
    right_above (inr (inr h)) =
        let same = last_same above h.0 l h.1 h.2 in
        subst (λ (n : List Label). IsSome (piece_at (decided query start over view) n)) (sym same.0) h.3

    new : (piece : Piece) × Contains (pieces_for over (support_of query start over)) piece × (piece.name ≡ above ++ l ∷ []) → IsSome (piece_at (decided query start over view) above)
    new added =
        let look = taken_look query start over named added.0 added.1 in
        right_above (subst (HasAbove (decided query start over view) start) (look.2 ∙ added.2) (looked_above query start view over look.0 named look.1 (seen_under start.name (view_of over) look.0 look.3).0))

pub decided_gathers : (query : Syntax) (start : Start) (view over : Pieces) → AreNamed over → IsGathered start view → IsGathered start (decided query start over view)
decided_gathers query start view over named is =
    let taken = pieces_for over (support_of query start over) in
    record {
      ordered = laid_ordered view taken is.ordered;
      named = laid_named view taken is.named;
      under = under_all start.name view taken (taken_under query start over named) is.under;
      closed = closed_decided query start view over named is.closed;
      own = λ some. met_grows (view_of view) (view_of (decided query start over view)) (look_at_start start) (laid_grows view taken) (is.own some);
    }

-- ---- a reply comes

pub reply_gathers : (start : Start) (view : Pieces) (name : List Label) (l : Level) (pieces : List Piece) → is_under name start.name ≡ true → HasAbove view start name → IsReplyTo name l pieces → IsGathered start view → IsGathered start (laid_over pieces view)
reply_gathers start view name l pieces under above reply is = record {
  ordered = laid_ordered view pieces is.ordered;
  named = laid_named view pieces is.named;
  under = under_all start.name view pieces (All-weaker (λ piece. is_under piece.name name ≡ true) (λ piece. is_under piece.name start.name ≡ true) (λ piece below. under_further piece.name name start.name below under) pieces reply.under) is.under;
  closed = λ front label there below some. elim (came_from view pieces (front ++ label ∷ []) there) [
    | inl before ↦ stays_there view pieces front (is.closed front label before below some)
    | inr added ↦ new front label below some added
  ];
  own = λ some. met_grows (view_of view) (view_of (laid_over pieces view)) (look_at_start start) (laid_grows view pieces) (is.own some);
}
  where
    asked : (front : List Label) (label : Label) → is_under front start.name ≡ true → front ≢ [] → name ≡ front ++ label ∷ [] → HasAbove view start name → IsSome (piece_at (laid_over pieces view) front)
    asked front label below some same (inl own) = absurd (not_above start.name front [] label below (sym own ∙ same ∙ sym (append-nil (front ++ label ∷ []))))
    asked front label below some same (inr (inl top)) = absurd (some_label front label start.top some (sym same ∙ top))
    asked front label below some same (inr (inr h)) =
        let one = last_same front h.0 label h.1 (sym same ∙ h.2) in
        stays_there view pieces front (subst (λ (n : List Label). IsSome (piece_at view n)) (sym one.0) h.3)

    new : (front : List Label) (label : Label) → is_under front start.name ≡ true → front ≢ [] → HasName pieces (front ++ label ∷ []) → IsSome (piece_at (laid_over pieces view) front)
    new front label below some has =
        let lies : is_under (front ++ label ∷ []) name ≡ true = subst (λ (n : List Label). is_under n name ≡ true) has.2 (All-contains (λ piece. is_under piece.name name ≡ true) pieces has.0 reply.under has.1) in
        elim (under_split front label name lies) [
          | inl same ↦ asked front label below some same above
          | inr inside ↦ added_there view pieces front (reply.closed front label has inside some)
        ]

-- a reply makes the view meet what was asked
pub reply_meets : (view : Pieces) (name : List Label) (l : Level) (pieces : List Piece) → IsReplyTo name l pieces → meets_known l (view_of (laid_over pieces view) name) ≡ true
reply_meets view name l pieces reply = subst (λ (n : List Label). meets_known l (view_of (laid_over pieces view) n) ≡ true) reply.asked.2 (added_meets view pieces reply.asked.0 l reply.asked.1 reply.asked.3)

-- ---- what a gather replies

there_found : (view : Pieces) (entry : List Label × Piece) → IsStrictlySortedBy names_cmp (keys_of view) → Contains view entry → piece_at view entry.0 ≡ Some entry.1
there_found view entry ordered there = lookup-from_Contains {eq = eq_by_cmp names_cmp} (eq_by_cmp_equiv names_total) entry.0 entry.1 view (IsDistinct-from_sorted _ _ ordered) there

in_pieces : (view : Pieces) (entry : List Label × Piece) → Contains view entry → Contains (pieces_in view) entry.1
in_pieces [] entry there = absurd (omega (arith, there.1))
in_pieces (first ∷ view) entry there = elim (first_or_later first view entry there) [
  | inl same ↦ subst (λ (e : List Label × Piece). Contains (pieces_in (first ∷ view)) e.1) same (contains_first first.1 (pieces_in view))
  | inr later ↦ contains_later first.1 (pieces_in view) entry.1 (in_pieces view entry later)
]

from_pieces : (view : Pieces) (piece : Piece) → Contains (pieces_in view) piece → (entry : List Label × Piece) × Contains view entry × (entry.1 ≡ piece)
from_pieces [] piece there = absurd (omega (arith, there.1))
from_pieces (first ∷ view) piece there = elim (first_or_later first.1 (pieces_in view) piece there) [
  | inl same ↦ (first, contains_first first view, same)
  | inr later ↦ let rest = from_pieces view piece later in (rest.0, contains_later first view rest.0 rest.1, rest.2)
]

named_in : (view : Pieces) (name : List Label) → AreNamed view → IsSome (piece_at view name) → HasName (pieces_in view) name
named_in view name named there = by (piece_at view name) refl there
  where
    by : (o : Option Piece) → piece_at view name ≡ o → IsSome o → HasName (pieces_in view) name
    by None found h = absurd (cc)
    by (Some piece) found h = (piece, in_pieces view (name, piece) (found_there view name piece found), piece_named view name piece named found)

there_in : (view : Pieces) (name : List Label) → AreNamed view → IsStrictlySortedBy names_cmp (keys_of view) → HasName (pieces_in view) name → IsSome (piece_at view name)
there_in view name named ordered has =
    let entry = from_pieces view has.0 has.1 in
    let same : entry.0.0 ≡ name = All-contains (λ e. e.0 ≡ e.1.name) view entry.0 named entry.1 ∙ ap (λ (p : Piece). p.name) entry.2 ∙ has.2 in
    subst (λ (n : List Label). IsSome (piece_at view n)) same (ap (λ (o : Option Piece). is_some o) (there_found view entry.0 ordered entry.1))

-- all pieces of a gather's view reply to the ask that it was opened for
pub gathered_replies : (start : Start) (view : Pieces) → start.name ≢ [] → IsGathered start view → IsReplyTo start.name start.level (pieces_in view)
gathered_replies start view some is = record {
  asked = by (piece_at view start.name) refl (is.own some);
  under = All-map (λ piece. is_under piece.name start.name ≡ true) (λ (e : List Label × Piece). e.1) view
      (All-weaker (Contains view) (λ e. is_under e.1.name start.name ≡ true) (λ e there. ap (λ (n : List Label). is_under n start.name) (sym (All-contains (λ x. x.0 ≡ x.1.name) view e is.named there)) ∙ All-contains (λ x. is_under x.0 start.name ≡ true) view e is.under there) view (All-contains_itself view));
  closed = λ above l has under more. named_in view above is.named (is.closed above l (there_in view (above ++ l ∷ []) is.named is.ordered has) under more);
}
  where
    enough : (l : Level) (piece : Piece) → meets_known l (Some (known_of piece)) ≡ true → IsAtLevel l piece
    enough level.Ids piece met = tt
    enough level.Full piece met = full piece.full met
      where
        full : (o : Option Full) → is_some (option_map (λ (f : Full). f.local) o) ≡ true → IsSome o
        full None h = absurd (cc)
        full (Some f) h = refl

    by : (o : Option Piece) → piece_at view start.name ≡ o → meets_known start.level (option_map known_of o) ≡ true → (piece : Piece) × Contains (pieces_in view) piece × (piece.name ≡ start.name) × IsAtLevel start.level piece
    by None found met = absurd (cc)
    by (Some piece) found met = (piece, in_pieces view (start.name, piece) (found_there view start.name piece found), piece_named view start.name piece is.named found, enough start.level piece met)
