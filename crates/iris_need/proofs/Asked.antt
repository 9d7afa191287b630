-- What is missing: where it lies, that it is there, and that it is not asked for twice.
use Rattle.std.proofs.Common.{◌≡◌, ◌≢◌, ◌⊎◌, inl, inr, ◌+◌, Bool, true, false, cond, if◌then◌else◌, List, [], ◌∷◌, ◌++◌, length, filter, All, Contains, Option, Some, None, is_some, IsSome, option_map, option_and_then, refl, sym, ◌∙◌, ap, subst, arith, length-append, append-nil}
use Rattle.std.specs.List.{cons_option}
use Rattle.std.proofs.lemmas.List.Elements.{All-contains, All-contains_itself, All-weaker}
use Rattle.iris_base.specs.declared.name.Label.{Label}
use Rattle.iris_base.specs.NameOrder.{label_eq, labels_equiv}
use Rattle.iris_base.proofs.Labels.{label_eq-Decides}
use Rattle.iris_tree.specs.Universe.{Node, label_of, labels_of, ids_of, children_of, child_of, node_at}
use Rattle.iris_fragment.specs.declared.piece.Full.{Full}
use Rattle.iris_fragment.specs.declared.piece.Level.{Level}
use Rattle.iris_fragment.specs.declared.piece.Level.TheVariants as level
use Rattle.iris_fragment.specs.declared.piece.Piece.{Piece}
use Rattle.iris_fragment.specs.Shape.{ids_at, IsPieceOf}
use Rattle.iris_fragment.proofs.Cities.{node_last}
use Rattle.iris_xpath.specs.Syntax.{Syntax}
use Rattle.iris_xpath.proofs.SelectedPlaces.{and_true}
use Rattle.iris_need.specs.declared.need.Need.{Need}
use Rattle.iris_need.specs.declared.need.Start.{Start}
use Rattle.iris_need.specs.Alike.{Reaches}
use Rattle.iris_need.specs.Decided.{at_level, pieces_for, decided, IsAtLevel}
use Rattle.iris_need.specs.Descents.{IsAtStart, IsBelowMet, HasAbove, IsStartIn}
use Rattle.iris_need.specs.Laws.{look_at_start}
use Rattle.iris_need.specs.Needs.{is_under, seen_from, looks, missing_of, support_of}
use Rattle.iris_need.specs.Pieces.{Pieces, AreNamed, piece_at, known_of, view_of, IsPieceAt, Agrees}
use Rattle.iris_need.specs.Run.{Known, View, Below, ids_known, meets_known, meets}
use Rattle.iris_need.proofs.Covered.{Covers, bare_covers, filtered}
use Rattle.iris_need.proofs.Descended.{looked_where, looked_some}
use Rattle.iris_need.proofs.Laid.{met_grows, added_meets, is_there}
use Rattle.iris_need.proofs.Pieces.{found_there, piece_named}
use Rattle.iris_need.proofs.Run.{contains_first, contains_later, first_or_later}
use Rattle.iris_need.proofs.UndecidedIsRealWork.{missing_look, missing_unmet, missing_here}

-- ---- names under names

under_rest : (name top : List Label) → is_under name top ≡ true → (rest : List Label) × (name ≡ top ++ rest)
under_rest name [] h = (name, refl)
under_rest [] (t ∷ top) h = absurd (cc)
under_rest (l ∷ name) (t ∷ top) h =
    let both = and_true (label_eq t l) (is_under name top) h in
    let rest = under_rest name top both.1 in
    let same : t ≡ l = (label_eq-Decides t l).0 both.0 in
    (rest.0, λ i. sym same i ∷ rest.1 i)

-- names that are beginnings of one another
both_ways : (m n more back : List Label) → m ≡ n ++ more → n ≡ m ++ back → m ≡ n
both_ways m n more back one two = by back two none
  where
    none : length back ≡ 0
    none =
        let a : length m ≡ length n + length more = ap length one ∙ length-append n more in
        let b : length n ≡ length m + length back = ap length two ∙ length-append m back in
        omega arith

    by : (b : List Label) → n ≡ m ++ b → length b ≡ 0 → m ≡ n
    by [] d h = sym (d ∙ append-nil m)
    by (x ∷ b) d h = absurd (omega arith)

-- ---- what a view from a start meets

-- what is met from a start is met, and at or under its name
pub seen_under : (above : List Label) (w : View) (look : Need) → meets (seen_from above w) look ≡ true → (is_under look.name above ≡ true) × (meets w look ≡ true)
seen_under above w look h = by (is_under look.name above) refl h
  where
    none : (l : Level) → meets_known l None ≡ true → ⊥
    none l e = cc

    by : (b : Bool) → is_under look.name above ≡ b → meets_known look.level (cond b (w look.name) None) ≡ true → (is_under look.name above ≡ true) × (meets w look ≡ true)
    by true at met = (at, met)
    by false at met = absurd (none look.level met)

-- ---- what a view takes of another one

-- a piece keeps its name at each level
pub level_named : (l : Level) (piece : Piece) → (at_level l piece).name ≡ piece.name
level_named level.Ids piece = refl
level_named level.Full piece = refl

at_level_enough : (l m : Level) (piece : Piece) → Reaches l m → meets_known m (Some (known_of piece)) ≡ true → IsAtLevel m (at_level l piece)
at_level_enough level.Ids level.Ids piece r met = tt
at_level_enough level.Ids level.Full piece r met = absurd r
at_level_enough level.Full level.Ids piece r met = tt
at_level_enough level.Full level.Full piece r met = by piece.full met
  where
    by : (o : Option Full) → is_some (option_map (λ (f : Full). f.local) o) ≡ true → IsSome o
    by None h = absurd (cc)
    by (Some f) h = refl

-- of each need that the view meets there is a piece
pieces_there : (over : Pieces) (needs : List Need) (name : List Label) (l : Level) → AreNamed over → Covers needs name l → meets_known l (view_of over name) ≡ true → (piece : Piece) × Contains (pieces_for over needs) piece × (piece.name ≡ name) × IsAtLevel l piece
pieces_there over [] name l named covers met = absurd covers
pieces_there over (need ∷ needs) name l named (inl h) met = by (piece_at over need.name) refl (subst (λ (n : List Label). meets_known l (view_of over n) ≡ true) (sym h.0) met)
  where
    by : (o : Option Piece) → piece_at over need.name ≡ o → meets_known l (option_map known_of o) ≡ true
        → (piece : Piece) × Contains (cons_option (option_map (at_level need.level) o) (pieces_for over needs)) piece × (piece.name ≡ name) × IsAtLevel l piece
    by None found m = absurd (cc)
    by (Some piece) found m =
        (at_level need.level piece, contains_first (at_level need.level piece) (pieces_for over needs), level_named need.level piece ∙ piece_named over need.name piece named found ∙ h.0, at_level_enough need.level l piece h.1 m)
pieces_there over (need ∷ needs) name l named (inr h) met = let rest = pieces_there over needs name l named h met in (rest.0, more (option_map (at_level need.level) (piece_at over need.name)) rest.0 rest.1, rest.2, rest.3)
  where
    more : (o : Option Piece) (piece : Piece) → Contains (pieces_for over needs) piece → Contains (cons_option o (pieces_for over needs)) piece
    more None piece there = there
    more (Some first) piece there = contains_later first (pieces_for over needs) piece there

-- what the evaluation met is in the view then
pub decided_meets : (query : Syntax) (start : Start) (view over : Pieces) (look : Need) → AreNamed over → Contains (looks query start (view_of over)) look → meets (seen_from start.name (view_of over)) look ≡ true
    → meets (view_of (decided query start over view)) look ≡ true
decided_meets query start view over look named there met =
    let inside = pieces_there over (support_of query start over) look.name look.level named (bare_covers (filter (meets (seen_from start.name (view_of over))) (looks query start (view_of over))) look (filtered (meets (seen_from start.name (view_of over))) look met (looks query start (view_of over)) there)) (seen_under start.name (view_of over) look met).1 in
    subst (λ (n : List Label). meets_known look.level (view_of (decided query start over view) n) ≡ true) inside.2
    (added_meets view (pieces_for over (support_of query start over)) inside.0 look.level inside.1 inside.3)

-- ---- what is missing has a node above it

at_or_above : (start : Start) (name : List Label) → IsAtStart start name → is_under name start.name ≡ true → (name ≡ start.name) ⊎ (name ≡ start.top ∷ [])
at_or_above start name (inl top) under = inr top
at_or_above start name (inr h) under = let rest = under_rest name start.name under in inl (both_ways name start.name rest.0 h.0 rest.1 h.1)

looked_above : (query : Syntax) (start : Start) (view over : Pieces) (look : Need) → AreNamed over → Contains (looks query start (view_of over)) look → is_under look.name start.name ≡ true → HasAbove (decided query start over view) start look.name
looked_above query start view over look named there under = by (looked_where query start (view_of over) look there)
  where
    ids_only : (o : Option Known) (l : Level) → meets_known l o ≡ true → meets_known level.Ids o ≡ true
    ids_only None l h = h
    ids_only (Some k) l h = refl

    by : IsAtStart start look.name ⊎ IsBelowMet (seen_from start.name (view_of over)) (looks query start (view_of over)) look.name → HasAbove (decided query start over view) start look.name
    by (inl h) = elim (at_or_above start look.name h under) [ inl same ↦ inl same | inr top ↦ inr (inl top) ]
    by (inr b) =
        let met = decided_meets query start view over b.look named b.there b.met in
        let some : IsSome (piece_at (decided query start over view) b.look.name) = is_there (decided query start over view) b.look.name ∙ ids_only (view_of (decided query start over view) b.look.name) b.look.level met in
        inr (inr (b.above, b.label, b.is, subst (λ (n : List Label). IsSome (piece_at (decided query start over view) n)) b.named some))

-- what is missing is the start's own name, the top node, or a child of a node that the view has then
pub missing_above : (query : Syntax) (start : Start) (view over : Pieces) (need : Need) → AreNamed over → Contains (missing_of query start over) need → HasAbove (decided query start over view) start need.name
missing_above query start view over need named there =
    let s = missing_look query start over need there in
    subst (HasAbove (decided query start over view) start) s.2 (looked_above query start view over s.0 named s.1 s.4)

-- ---- what is missing is there

label_there : (ns : List Node) (l : Label) → Contains (labels_of ns) l → IsSome (child_of l ns)
label_there [] l there = absurd (omega (arith, there.1))
label_there (n ∷ ns) l there = by (label_eq (label_of n) l) refl (first_or_later (label_of n) (labels_of ns) l there) (label_there ns l)
  where
    by : (b : Bool) → label_eq (label_of n) l ≡ b → (label_of n ≡ l) ⊎ Contains (labels_of ns) l → (Contains (labels_of ns) l → IsSome (child_of l ns)) → IsSome (if b then Some n else child_of l ns)
    by true at where_is rest = refl
    by false at (inr later) rest = rest later
    by false at (inl same) rest =
        let bad : true ≡ false = sym (labels_equiv.refl (label_of n)) ∙ ap (label_eq (label_of n)) same ∙ at in
        absurd (cc)

child_there : (city : Node) (above ids : List Label) (l : Label) → ids_at city above ≡ Some ids → Contains ids l → IsSome (node_at city (above ++ l ∷ []))
child_there city [] ids l h there = absurd (cc)
child_there city (a ∷ above) ids l h there = ap (λ (o : Option Node). is_some o) (node_last city a above l) ∙ by (node_at city (a ∷ above)) h
  where
    by : (o : Option Node) → option_map ids_of o ≡ Some ids → is_some (option_and_then (λ (p : Node). child_of l (children_of p)) o) ≡ true
    by None e = absurd (cc)
    by (Some p) e =
        let same : ids_of p ≡ ids = cc in
        label_there (children_of p) l (subst (λ (ls : List Label). Contains ls l) (sym same) there)

top_there : (city : Node) → IsSome (node_at city (label_of city ∷ []))
top_there city = ap (λ (b : Bool). is_some (if b then Some city else None)) (labels_equiv.refl (label_of city))

start_there : (city : Node) (start : Start) (name : List Label) → IsStartIn city start → IsAtStart start name → is_under name start.name ≡ true → IsSome (node_at city name)
start_there city start name is (inl top) under = subst (λ (n : List Label). IsSome (node_at city n)) (ap (λ (l : Label). l ∷ []) (sym is.top) ∙ sym top) (top_there city)
start_there city start name is (inr h) under =
    let rest = under_rest name start.name under in
    let same : name ≡ start.name = both_ways name start.name rest.0 h.0 rest.1 h.1 in
    subst (λ (n : List Label). IsSome (node_at city n)) (sym same) (is.there (λ none. h.2 (same ∙ none)))

-- the ids that a view knows are those of the nodes
abbrev HasIds : Node → Pieces → Type 0
HasIds city over = (name ids : List Label) → ids_known (view_of over name) ≡ Some ids → ids_at city name ≡ Some ids

missing_in_place : (city : Node) (query : Syntax) (start : Start) (over : Pieces) → IsStartIn city start → HasIds city over → (need : Need) → Contains (missing_of query start over) need → IsSome (node_at city need.name)
missing_in_place city query start over is has need there =
    let s = missing_look query start over need there in
    subst (λ (n : List Label). IsSome (node_at city n)) s.2 (by s.0 s.4 (looked_where query start (view_of over) s.0 s.1))
  where
    under : (above ids : List Label) (b : Bool) → ids_known (cond b (view_of over above) None) ≡ Some ids → ids_at city above ≡ Some ids
    under above ids true e = has above ids e
    under above ids false e = absurd (cc)

    by : (look : Need) → is_under look.name start.name ≡ true → IsAtStart start look.name ⊎ IsBelowMet (seen_from start.name (view_of over)) (looks query start (view_of over)) look.name → IsSome (node_at city look.name)
    by look at (inl h) = start_there city start look.name is h at
    by look at (inr b) = subst (λ (n : List Label). IsSome (node_at city n)) (sym b.is) (child_there city b.above b.ids b.label (under b.above b.ids (is_under b.above start.name) b.known) b.listed)

from_pieces : (city : Node) (over : Pieces) → ((name : List Label) (piece : Piece) → Contains over (name, piece) → ids_at city name ≡ Some piece.ids) → HasIds city over
from_pieces city over each name ids h = piece (piece_at over name) refl h
  where
    piece : (o : Option Piece) → piece_at over name ≡ o → ids_known (option_map known_of o) ≡ Some ids → ids_at city name ≡ Some ids
    piece None found e = absurd (cc)
    piece (Some p) found e =
        let same : p.ids ≡ ids = cc in
        each name p (found_there over name p found) ∙ ap (λ (i : List Label). Some i) same

all_needs : (P : Need → Type 0) (needs : List Need) → ((need : Need) → Contains needs need → P need) → All P needs
all_needs P needs each = All-weaker (Contains needs) P each needs (All-contains_itself needs)

-- what is missing are nodes of a document of which each piece has the ids
pub missing_there : (document : Node) (query : Syntax) (start : Start) (view : Pieces) → IsStartIn document start → AreNamed view → All (λ entry. IsPieceOf document entry.1) view → All (λ need. IsSome (node_at document need.name)) (missing_of query start view)
missing_there document query start view is named pieces =
    all_needs (λ need. IsSome (node_at document need.name)) (missing_of query start view) (missing_in_place document query start view is (from_pieces document view (λ name piece there.
    ap (ids_at document) (All-contains (λ e. e.0 ≡ e.1.name) view (name, piece) named there) ∙ All-contains (λ e. IsPieceOf document e.1) view (name, piece) pieces there)))

-- and of a document that agrees with the view
pub missing_agreed : (document : Node) (query : Syntax) (start : Start) (view : Pieces) → IsStartIn document start → Agrees document view → All (λ need. IsSome (node_at document need.name)) (missing_of query start view)
missing_agreed document query start view is agrees =
    all_needs (λ need. IsSome (node_at document need.name)) (missing_of query start view) (missing_in_place document query start view is (from_pieces document view (λ name piece there.
    let at : IsPieceAt document name piece = All-contains (λ e. IsPieceAt document e.0 e.1) view (name, piece) agrees there in
    ap (option_map ids_of) at.1 ∙ ap (λ (i : List Label). Some i) (sym at.2))))

-- ---- what is missing again

-- what a view meets is not missing from one that has more
pub not_again : (query : Syntax) (start : Start) (view over : Pieces) (asked need : Need) → Below (view_of view) (view_of over) → meets (view_of view) asked ≡ true → Contains (missing_of query start over) need → need.name ≡ asked.name → Reaches asked.level need.level → ⊥
not_again query start view over asked need below met there same enough = cc (met_need, missing_unmet query start over need there)
  where
    lower : (l m : Level) (o : Option Known) → Reaches l m → meets_known l o ≡ true → meets_known m o ≡ true
    lower level.Ids level.Ids o r h = h
    lower level.Ids level.Full o r h = absurd r
    lower level.Full level.Full o r h = h
    lower level.Full level.Ids None r h = h
    lower level.Full level.Ids (Some k) r h = refl

    met_need : meets (view_of over) need ≡ true
    met_need = lower asked.level need.level (view_of over need.name) enough (subst (λ (n : List Label). meets_known asked.level (view_of over n) ≡ true) (sym same) (met_grows (view_of view) (view_of over) asked below met))

-- of the start's own name the full part alone is missing, where the start looks at the ids
pub missing_own : (query : Syntax) (start : Start) (view over : Pieces) (need : Need) → (start.name ≢ [] → meets (view_of view) (look_at_start start) ≡ true) → Below (view_of view) (view_of over) → Contains (missing_of query start over) need → need.name ≡ start.name
    → (need.level ≡ level.Full) × (start.level ≡ level.Ids)
missing_own query start view over need own below there same = by (missing_here query start over need there same)
  where
    some : start.name ≢ []
    some none =
        let s = missing_look query start over need there in
        looked_some query start (view_of over) s.0 s.1 (s.2 ∙ same ∙ none)

    met : meets (view_of over) (look_at_start start) ≡ true
    met = met_grows (view_of view) (view_of over) (look_at_start start) below (own some)

    by : ((need.level ≡ level.Full) × (start.level ≡ level.Ids)) ⊎ (meets (view_of over) (look_at_start start) ≡ false) → (need.level ≡ level.Full) × (start.level ≡ level.Ids)
    by (inl h) = h
    by (inr unmet) =
        let bad : true ≡ false = sym met ∙ unmet in
        absurd (cc)
