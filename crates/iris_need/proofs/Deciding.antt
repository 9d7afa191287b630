-- Once a view took what an evaluation over another one rests on, it tells the same as the other.
use Rattle.std.proofs.Common.{◌≡◌, Bool, true, false, cond, not, ◌&&◌, List, [], ◌∷◌, map, filter, All, Contains, ◌⊎◌, inl, inr, Option, Some, None, is_some, IfSome, option_map, option_and_then, refl, sym, ◌∙◌, ap, subst, arith}
use Rattle.std.specs.List.{cons_option, filter_map}
use Rattle.std.proofs.lemmas.List.Elements.{All-nil, All-cons, All-head, All-tail}
use Rattle.std.specs.BTreeMap.{is_at}
use Rattle.iris_base.specs.declared.name.Label.{Label}
use Rattle.iris_tree.specs.declared.local.Local.{Local}
use Rattle.iris_tree.specs.declared.item.Item.{Item}
use Rattle.iris_fragment.specs.declared.piece.Full.{Full}
use Rattle.iris_fragment.specs.declared.piece.Level.{Level}
use Rattle.iris_fragment.specs.declared.piece.Level.TheVariants as level
use Rattle.iris_fragment.specs.declared.piece.Piece.{Piece}
use Rattle.iris_xpath.specs.Syntax.{Syntax}
use Rattle.iris_need.specs.declared.need.Need.{Need}
use Rattle.iris_need.specs.declared.need.Start.{Start}
use Rattle.iris_need.specs.Alike.{IsAlike, AreAlike}
use Rattle.iris_need.specs.Decided.{at_level, pieces_for, decided, full_part_at, FullBelow, PieceBelow, IsPartOfView}
use Rattle.iris_need.specs.Needs.{is_under, seen_from, evaluation, looks, is_missing, missing_of, merged, without_states, support_of}
use Rattle.iris_need.specs.Pieces.{Pieces, AreNamed, piece_at, first_full, joined_pieces, with_piece, known_of, view_of, laid_over}
use Rattle.iris_need.specs.Program.{program}
use Rattle.iris_need.specs.Run.{Known, Out, ids_known, full_known, LocalBelow, KnownBelow, meets_known, meets}
use Rattle.iris_need.proofs.Asked.{decided_meets, seen_under, level_named}
use Rattle.iris_need.proofs.Laid.{found_with, same_name}
use Rattle.iris_need.proofs.Pieces.{names_cmp, piece_named}
use Rattle.iris_need.proofs.Restricted.{same_run, filter_same, alike_met}
use Rattle.iris_need.proofs.Run.{contains_first, contains_later, first_or_later}
use Rattle.iris_need.proofs.Supported.{support_meets}

-- ---- parts of views

full_itself : (o : Option Full) → FullBelow o o
full_itself None = tt
full_itself (Some f) = refl

piece_itself : (o : Option Piece) → PieceBelow o o
piece_itself None = tt
piece_itself (Some p) = (refl, full_itself p.full)

full_further : (o p q : Option Full) → FullBelow o p → FullBelow p q → FullBelow o q
full_further None p q h k = tt
full_further (Some f) p q h k = subst (λ (x : Option Full). FullBelow x q) h k

piece_further : (o p q : Option Piece) → PieceBelow o p → PieceBelow p q → PieceBelow o q
piece_further None p q h k = tt
piece_further (Some a) None q h k = absurd h
piece_further (Some a) (Some b) None h k = absurd k
piece_further (Some a) (Some b) (Some c) h k = (h.0 ∙ k.0, full_further a.full b.full c.full h.1 k.1)

first_grows : (o more : Option Full) → FullBelow o (first_full o more)
first_grows None more = tt
first_grows (Some f) more = refl

joined_grows : (o : Option Piece) (piece : Piece) → PieceBelow o (Some (joined_pieces o piece))
joined_grows None piece = tt
joined_grows (Some old) piece = (refl, first_grows old.full piece.full)

with_part : (view : Pieces) (piece : Piece) → IsPartOfView view (with_piece view piece)
with_part view piece name = subst (λ (o : Option Piece). PieceBelow (piece_at view name) o) (sym (found_with view piece name)) (either (is_at (names_cmp name) piece.name) refl)
  where
    either : (b : Bool) → is_at (names_cmp name) piece.name ≡ b → PieceBelow (piece_at view name) (cond b (Some (joined_pieces (piece_at view piece.name) piece)) (piece_at view name))
    either true same = subst (λ (n : List Label). PieceBelow (piece_at view n) (Some (joined_pieces (piece_at view piece.name) piece))) (sym (same_name name piece.name same)) (joined_grows (piece_at view piece.name) piece)
    either false other = piece_itself (piece_at view name)

-- a view is part of what it is laid over
pub laid_part : (view : Pieces) (pieces : List Piece) → IsPartOfView view (laid_over pieces view)
laid_part view [] name = piece_itself (piece_at view name)
laid_part view (piece ∷ pieces) name = piece_further (piece_at view name) (piece_at (with_piece view piece) name) (piece_at (laid_over pieces (with_piece view piece)) name) (with_part view piece name) (laid_part (with_piece view piece) pieces name)

first_below : (o more all : Option Full) → FullBelow o all → FullBelow more all → FullBelow (first_full o more) all
first_below None more all h k = k
first_below (Some f) more all h k = h

joined_below : (o : Option Piece) (piece : Piece) (all : Option Piece) → PieceBelow o all → PieceBelow (Some piece) all → PieceBelow (Some (joined_pieces o piece)) all
joined_below None piece all h k = k
joined_below (Some old) piece None h k = absurd h
joined_below (Some old) piece (Some all) h k = (h.0, first_below old.full piece.full all.full h.1 k.1)

-- pieces that are part of a view, added to one that is
laid_within : (all view : Pieces) (pieces : List Piece) → IsPartOfView view all → All (λ piece. PieceBelow (Some piece) (piece_at all piece.name)) pieces → IsPartOfView (laid_over pieces view) all
laid_within all view [] part each = part
laid_within all view (piece ∷ pieces) part each = laid_within all (with_piece view piece) pieces one (All-tail (λ p. PieceBelow (Some p) (piece_at all p.name)) piece pieces each)
  where
    one : IsPartOfView (with_piece view piece) all
    one name = subst (λ (o : Option Piece). PieceBelow o (piece_at all name)) (sym (found_with view piece name)) (either (is_at (names_cmp name) piece.name) refl)
      where
        either : (b : Bool) → is_at (names_cmp name) piece.name ≡ b → PieceBelow (cond b (Some (joined_pieces (piece_at view piece.name) piece)) (piece_at view name)) (piece_at all name)
        either true same =
            subst (λ (n : List Label). PieceBelow (Some (joined_pieces (piece_at view piece.name) piece)) (piece_at all n)) (sym (same_name name piece.name same))
            (joined_below (piece_at view piece.name) piece (piece_at all piece.name) (part piece.name) (All-head (λ p. PieceBelow (Some p) (piece_at all p.name)) piece pieces each))
        either false other = part name

level_within : (l : Level) (piece : Piece) (o : Option Piece) → o ≡ Some piece → PieceBelow (Some (at_level l piece)) o
level_within level.Ids piece None e = absurd (cc)
level_within level.Full piece None e = absurd (cc)
level_within level.Ids piece (Some p) e = let same : piece ≡ p = cc in (ap (λ (x : Piece). x.ids) same, tt)
level_within level.Full piece (Some p) e = let same : piece ≡ p = cc in subst (λ (x : Piece). PieceBelow (Some piece) (Some x)) same (piece_itself (Some piece))

-- what is so of each image
each_of : {X Y : Type 0} (P : Y → Type 0) (g : X → Option Y) (xs : List X) → ((x : X) → Contains xs x → IfSome (g x) P) → All P (filter_map g xs)
each_of P g [] f = All-nil P
each_of {Y = Y} P g (x ∷ xs) f = one (g x) (f x (contains_first x xs)) (each_of P g xs (λ y i. f y (contains_later x xs y i)))
  where
    one : (o : Option Y) → IfSome o P → All P (filter_map g xs) → All P (cons_option o (filter_map g xs))
    one None h rest = rest
    one (Some z) h rest = All-cons P z (filter_map g xs) h rest

-- of each image that is so, if it is so of all
pub image_is : {X Y : Type 0} (P : Y → Type 0) (g : X → Option Y) (xs : List X) (x : X) (y : Y) → All P (filter_map g xs) → Contains xs x → g x ≡ Some y → P y
image_is P g [] x y all there is = absurd (omega (arith, there.1))
image_is {Y = Y} P g (first ∷ xs) x y all there is = elim (first_or_later first xs x there) [
  | inl same ↦ here (g first) (ap g same ∙ is) all
  | inr later ↦ image_is P g xs x y (rest (g first) all) later is
]
  where
    here : (o : Option Y) → o ≡ Some y → All P (cons_option o (filter_map g xs)) → P y
    here None e h = absurd (cc)
    here (Some z) e h = let same : z ≡ y = cc in subst P same (All-head P z (filter_map g xs) h)

    rest : (o : Option Y) → All P (cons_option o (filter_map g xs)) → All P (filter_map g xs)
    rest None h = h
    rest (Some z) h = All-tail P z (filter_map g xs) h

pieces_within : (over : Pieces) (needs : List Need) → AreNamed over → All (λ piece. PieceBelow (Some piece) (piece_at over piece.name)) (pieces_for over needs)
pieces_within over needs named = each_of (λ piece. PieceBelow (Some piece) (piece_at over piece.name)) (λ need. option_map (at_level need.level) (piece_at over need.name)) needs (λ need there. by need.level need.name (piece_at over need.name) refl)
  where
    by : (l : Level) (name : List Label) (o : Option Piece) → piece_at over name ≡ o → IfSome (option_map (at_level l) o) (λ piece. PieceBelow (Some piece) (piece_at over piece.name))
    by l name None found = tt
    by l name (Some piece) found =
        let same : (at_level l piece).name ≡ name = level_named l piece ∙ piece_named over name piece named found in
        subst (λ (n : List Label). PieceBelow (Some (at_level l piece)) (piece_at over n)) (sym same) (level_within l piece (piece_at over name) found)

-- it is still part of the other
decided_within : (query : Syntax) (start : Start) (view over : Pieces) → AreNamed over → IsPartOfView view over → IsPartOfView (decided query start over view) over
decided_within query start view over named part = laid_within over view (pieces_for over (support_of query start over)) part (pieces_within over (support_of query start over) named)

-- ---- alike at each look

local_below : (o p : Option Full) → FullBelow o p → LocalBelow (option_map (λ (f : Full). f.local) o) (option_map (λ (f : Full). f.local) p)
local_below None p h = tt
local_below (Some f) None h = absurd (cc)
local_below (Some f) (Some g) h = let same : g ≡ f = cc in ap (λ (x : Full). x.local) (sym same)

known_below : (o p : Option Piece) → PieceBelow o p → KnownBelow (option_map known_of o) (option_map known_of p)
known_below None p h = tt
known_below (Some a) None h = absurd h
known_below (Some a) (Some b) h = (h.0, local_below a.full b.full h.1)

seen_alike : (ids more : List Label) (a b : Option Local) → ids ≡ more → LocalBelow a b → is_some a ≡ true → IsAlike level.Full (Some (record { ids = more; local = b })) (Some (record { ids = ids; local = a }))
seen_alike ids more None b e h m = absurd (cc)
seen_alike ids more (Some a) None e h m = absurd h
seen_alike ids more (Some a) (Some b) e h m = λ i. Some (record { ids = sym e i; local = sym h i })

-- what is met is known the same where more is known
pub met_alike : (l : Level) (d o : Option Known) → KnownBelow d o → meets_known l d ≡ true → IsAlike l o d
met_alike l None o h m = absurd (cc)
met_alike l (Some a) None h m = absurd h
met_alike level.Ids (Some a) (Some b) h m = ap (λ (ids : List Label). Some ids) (sym h.0)
met_alike level.Full (Some a) (Some b) h m = seen_alike a.ids b.ids a.local b.local h.0 h.1 m

full_unmet : (ids : List Label) (o : Option Local) → is_some o ≡ false → full_known (Some (record { ids = ids; local = o })) ≡ None
full_unmet ids None h = refl
full_unmet ids (Some l) h = absurd (cc)

unknown_full : (k : Option Known) → meets_known level.Full k ≡ false → full_known k ≡ None
unknown_full None h = refl
unknown_full (Some k) h = full_unmet k.ids k.local h

unknown_ids : (k : Option Known) → meets_known level.Ids k ≡ false → ids_known k ≡ None
unknown_ids None h = refl
unknown_ids (Some k) h = absurd (cc)

unmet_alike : (l : Level) (d o : Option Known) → meets_known l d ≡ false → meets_known l o ≡ false → IsAlike l o d
unmet_alike level.Ids d o h k = unknown_ids o k ∙ sym (unknown_ids d h)
unmet_alike level.Full d o h k = unknown_full o k ∙ sym (unknown_full d h)

decided_alike : (query : Syntax) (start : Start) (view over : Pieces) → AreNamed over → IsPartOfView view over
    → AreAlike (seen_from start.name (view_of over)) (seen_from start.name (view_of (decided query start over view))) (looks query start (view_of over))
decided_alike query start view over named part look there = by (meets (seen_from start.name (view_of over)) look) refl
  where
    within : KnownBelow (view_of (decided query start over view) look.name) (view_of over look.name)
    within = known_below (piece_at (decided query start over view) look.name) (piece_at over look.name) (decided_within query start view over named part look.name)

    seen : (b : Bool) (l : Level) (o d : Option Known) → IsAlike l o d → IsAlike l (cond b o None) (cond b d None)
    seen true l o d h = h
    seen false level.Ids o d h = refl
    seen false level.Full o d h = refl

    nothing : (l : Level) → IsAlike l None None
    nothing level.Ids = refl
    nothing level.Full = refl

    none : (l : Level) (d o : Option Known) → KnownBelow d o → meets_known l o ≡ false → (c : Bool) → meets_known l d ≡ c → c ≡ false
    none l d o h m false e = refl
    none l d o h m true e = let bad : true ≡ false = sym (higher l d o h e) ∙ m in absurd (cc)
      where
        local : (a b : Option Local) → LocalBelow a b → is_some a ≡ true → is_some b ≡ true
        local None b h s = absurd (cc)
        local (Some x) None h s = absurd h
        local (Some x) (Some y) h s = refl

        higher : (l : Level) (d o : Option Known) → KnownBelow d o → meets_known l d ≡ true → meets_known l o ≡ true
        higher l None o h m = absurd (cc)
        higher l (Some a) None h m = absurd h
        higher level.Ids (Some a) (Some b) h m = refl
        higher level.Full (Some a) (Some b) h m = local a.local b.local h.1 m

    outside : (b : Bool) → is_under look.name start.name ≡ b → meets_known look.level (cond b (view_of over look.name) None) ≡ false → IsAlike look.level (cond b (view_of over look.name) None) (cond b (view_of (decided query start over view) look.name) None)
    outside false at m = nothing look.level
    outside true at m = unmet_alike look.level (view_of (decided query start over view) look.name) (view_of over look.name) (none look.level (view_of (decided query start over view) look.name) (view_of over look.name) within m (meets_known look.level (view_of (decided query start over view) look.name)) refl) m

    by : (b : Bool) → meets (seen_from start.name (view_of over)) look ≡ b → IsAlike look.level (seen_from start.name (view_of over) look.name) (seen_from start.name (view_of (decided query start over view)) look.name)
    by true met =
        seen (is_under look.name start.name) look.level (view_of over look.name) (view_of (decided query start over view) look.name)
        (met_alike look.level (view_of (decided query start over view) look.name) (view_of over look.name) within (decided_meets query start view over look named there met))
    by false unmet = outside (is_under look.name start.name) refl unmet

-- ---- so all is the same

-- the evaluation is the same
pub decided_evaluation : (query : Syntax) (start : Start) (view over : Pieces) → AreNamed over → IsPartOfView view over → evaluation query start (view_of (decided query start over view)) ≡ evaluation query start (view_of over)
decided_evaluation query start view over named part = same_run (seen_from start.name (view_of over)) (seen_from start.name (view_of (decided query start over view))) (program query start) (decided_alike query start view over named part)

met_same : (query : Syntax) (start : Start) (view over : Pieces) → AreNamed over → IsPartOfView view over → (look : Need) → Contains (looks query start (view_of over)) look
    → meets (seen_from start.name (view_of (decided query start over view))) look ≡ meets (seen_from start.name (view_of over)) look
met_same query start view over named part look there =
    alike_met look.level (seen_from start.name (view_of over) look.name) (seen_from start.name (view_of (decided query start over view)) look.name) (decided_alike query start view over named part look there)

-- and what is missing
pub decided_missing : (query : Syntax) (start : Start) (view over : Pieces) → AreNamed over → IsPartOfView view over → missing_of query start (decided query start over view) ≡ missing_of query start over
decided_missing query start view over named part =
    let mine = view_of (decided query start over view) in
    ap (λ (o : Out (List Item)). merged (filter (is_missing start mine) o.log)) (decided_evaluation query start view over named part)
    ∙ ap merged (filter_same (is_missing start (view_of over)) (is_missing start mine) (looks query start (view_of over)) (λ look there. ap (λ (b : Bool). is_under look.name start.name && not b) (met_same query start view over named part look there)))

-- and what it rests on
pub decided_support : (query : Syntax) (start : Start) (view over : Pieces) → AreNamed over → IsPartOfView view over → support_of query start (decided query start over view) ≡ support_of query start over
decided_support query start view over named part =
    let mine = view_of (decided query start over view) in
    ap (λ (o : Out (List Item)). merged (map without_states (filter (meets (seen_from start.name mine)) o.log))) (decided_evaluation query start view over named part)
    ∙ ap (λ (ls : List Need). merged (map without_states ls)) (filter_same (meets (seen_from start.name (view_of over))) (meets (seen_from start.name mine)) (looks query start (view_of over)) (λ look there. met_same query start view over named part look there))

-- what is met in full is there with its version and stamp
full_same : (d o : Option Piece) → PieceBelow d o → meets_known level.Full (option_map known_of d) ≡ true → option_and_then (λ (p : Piece). p.full) d ≡ option_and_then (λ (p : Piece). p.full) o
full_same None o h m = absurd (cc)
full_same (Some a) None h m = absurd h
full_same (Some a) (Some b) h m = by a.full h.1 m
  where
    by : (f : Option Full) → FullBelow f b.full → is_some (option_map (λ (x : Full). x.local) f) ≡ true → f ≡ b.full
    by None k e = absurd (cc)
    by (Some x) k e = sym k

-- what it rests on in full is there with the same version and stamp
pub decided_full : (query : Syntax) (start : Start) (view over : Pieces) (need : Need) → AreNamed over → IsPartOfView view over → Contains (support_of query start over) need → need.level ≡ level.Full
    → full_part_at (decided query start over view) need.name ≡ full_part_at over need.name
decided_full query start view over need named part there full =
    let mine = decided query start over view in
    let also : Contains (support_of query start mine) need = subst (λ (needs : List Need). Contains needs need) (sym (decided_support query start view over named part)) there in
    let met : meets_known need.level (view_of mine need.name) ≡ true = (seen_under start.name (view_of mine) need (support_meets query start (view_of mine) need also)).1 in
    full_same (piece_at mine need.name) (piece_at over need.name) (decided_within query start view over named part need.name) (subst (λ l. meets_known l (view_of mine need.name) ≡ true) full met)
