-- Cites are those of the full parts; a decision stands, once its pieces were taken.
use Rattle.std.proofs.Common.{◌≡◌, cond, ℕ, List, [], ◌∷◌, map, filter, Contains, Option, Some, None, option_map, option_and_then, refl, sym, ◌∙◌, ap, subst}
use Rattle.std.specs.List.{cons_option, filter_map}
use Rattle.iris_base.specs.declared.cite.Cite.{Cite}
use Rattle.iris_base.specs.declared.name.Label.{Label}
use Rattle.iris_fragment.specs.declared.piece.Level.{Level}
use Rattle.iris_fragment.specs.declared.piece.Level.TheVariants as level
use Rattle.iris_fragment.specs.declared.piece.Piece.{Piece}
use Rattle.iris_fragment.specs.Contents.{Contents}
use Rattle.iris_fragment.specs.Usable.{usable_piece}
use Rattle.iris_xpath.specs.Syntax.{Syntax}
use Rattle.iris_need.specs.declared.need.Need.{Need}
use Rattle.iris_need.specs.declared.need.Start.{Start}
use Rattle.iris_need.specs.Decided.{at_level, decided, full_part_at, pieces_for}
use Rattle.iris_need.specs.Needs.{support_of, missing_of, is_full, is_full_level, full_part}
use Rattle.iris_need.specs.Pieces.{Pieces, AreNamed, piece_at, with_piece, laid_over}
use Rattle.iris_need.proofs.Deciding.{laid_part, decided_missing, decided_support, decided_full}
use Rattle.iris_need.proofs.Pieces.{piece_named, with_piece_named}
use Rattle.iris_need.proofs.Run.{contains_first, contains_later}
use Rattle.iris_gather.specs.Basis.{cite_of, cites_told, cites_in, cites_of}
use Rattle.iris_gather.specs.declared.verdict.Verdict.{Verdict}
use Rattle.iris_gather.specs.declared.verdict.Verdict.TheVariants.{Done, Asks}
use Rattle.iris_gather.specs.Laid.{laid, TellsSame}
use Rattle.iris_gather.specs.Verdicts.{AreDetermined, IsVerdict, asks_of, rests_on}

-- cites of names at which two views have the same full parts
pub cites_same : (v w : Pieces) (needs : List Need) → ((need : Need) → Contains needs need → need.level ≡ level.Full → full_part_at v need.name ≡ full_part_at w need.name) → cites_in v (full_part needs) ≡ cites_in w (full_part needs)
cites_same v w [] same = refl
cites_same v w (need ∷ needs) same = by need.level (same need (contains_first need needs)) (cites_same v w needs (λ n there. same n (contains_later need needs n there)))
  where
    by : (l : Level) → (l ≡ level.Full → full_part_at v need.name ≡ full_part_at w need.name) → cites_in v (full_part needs) ≡ cites_in w (full_part needs)
        → cites_in v (map (λ (n : Need). n.name) (cond (is_full_level l) (need ∷ filter is_full needs) (filter is_full needs))) ≡ cites_in w (map (λ (n : Need). n.name) (cond (is_full_level l) (need ∷ filter is_full needs) (filter is_full needs)))
    by level.Ids alike rest = rest
    by level.Full alike rest = λ i. cons_option (option_map (cite_of need.name) (alike refl i)) (rest i)

-- the pieces of needs tell their cites: one of level Ids is not full
pub told_cites : (view : Pieces) (needs : List Need) → AreNamed view → cites_told (pieces_for view needs) ≡ cites_in view (full_part needs)
told_cites view [] named = refl
told_cites view (need ∷ needs) named = by need.level (told_cites view needs named)
  where
    ids : (o : Option Piece) → cites_told (cons_option (option_map (at_level level.Ids) o) (pieces_for view needs)) ≡ cites_told (pieces_for view needs)
    ids None = refl
    ids (Some piece) = refl

    full : (o : Option Piece) → ((piece : Piece) → o ≡ Some piece → piece.name ≡ need.name)
        → cites_told (cons_option (option_map (at_level level.Full) o) (pieces_for view needs)) ≡ cons_option (option_map (cite_of need.name) (option_and_then (λ (piece : Piece). piece.full) o)) (cites_told (pieces_for view needs))
    full None at = refl
    full (Some piece) at = ap (λ (n : List Label). cons_option (option_map (cite_of n) piece.full) (cites_told (pieces_for view needs))) (at piece refl)

    by : (l : Level) → cites_told (pieces_for view needs) ≡ cites_in view (full_part needs)
        → cites_told (cons_option (option_map (at_level l) (piece_at view need.name)) (pieces_for view needs)) ≡ cites_in view (map (λ (n : Need). n.name) (cond (is_full_level l) (need ∷ filter is_full needs) (filter is_full needs)))
    by level.Ids rest = ids (piece_at view need.name) ∙ rest
    by level.Full rest =
        full (piece_at view need.name) (λ piece there. piece_named view need.name piece named there)
        ∙ ap (λ (cites : List Cite). cons_option (option_map (cite_of need.name) (full_part_at view need.name)) cites) rest

-- ---- verdicts

-- a verdict over a part that tells the same is one over all of it
pub verdict_same : (query : Syntax) (start : Start) (over all : Pieces) (verdict : Verdict) → TellsSame query start over all → IsVerdict query start over verdict → IsVerdict query start all verdict
verdict_same query start over all (Done support items) same h = record {
  whole = sym same.missing ∙ h.whole;
  support_is = h.support_is ∙ same.support;
  items_are = λ none. subst (λ (pieces : List Piece). AreDetermined query start.top pieces items) (ap (pieces_for over) same.support ∙ same.pieces) (h.items_are none);
  no_items = h.no_items;
}
verdict_same query start over all (Asks support missing) same h = record {
  some = h.some;
  support_is = h.support_is ∙ same.support;
  missing_is = h.missing_is ∙ same.missing;
}

-- what is asked for is what is missing
pub asks_missing : (query : Syntax) (start : Start) (view : Pieces) (verdict : Verdict) → IsVerdict query start view verdict → asks_of verdict ≡ missing_of query start view
asks_missing query start view (Done support items) h = sym h.whole
asks_missing query start view (Asks support missing) h = h.missing_is

-- a verdict tells what it rests on
pub rests_on_support : (query : Syntax) (start : Start) (view : Pieces) (verdict : Verdict) → IsVerdict query start view verdict → rests_on verdict ≡ support_of query start view
rests_on_support query start view (Done support items) h = h.support_is
rests_on_support query start view (Asks support missing) h = h.support_is

-- ---- decisions stand

-- pieces laid over a view leave each under its name
laid_named : (pieces : List Piece) (view : Pieces) → AreNamed view → AreNamed (laid_over pieces view)
laid_named [] view named = named
laid_named (piece ∷ pieces) view named = laid_named pieces (with_piece view piece) (with_piece_named view piece named)

-- what is missing stays so
pub stands_missing : (query : Syntax) (start : Start) (f : Contents) (floor now : ℕ) (view : Pieces) → AreNamed view → missing_of query start (decided query start (laid f floor now view) view) ≡ missing_of query start (laid f floor now view)
stands_missing query start f floor now view named = decided_missing query start view (laid f floor now view) (laid_named (filter_map (usable_piece floor now) f.nodes) view named) (laid_part view (filter_map (usable_piece floor now) f.nodes))

-- and what the decision rests on
pub stands_support : (query : Syntax) (start : Start) (f : Contents) (floor now : ℕ) (view : Pieces) → AreNamed view → support_of query start (decided query start (laid f floor now view) view) ≡ support_of query start (laid f floor now view)
stands_support query start f floor now view named = decided_support query start view (laid f floor now view) (laid_named (filter_map (usable_piece floor now) f.nodes) view named) (laid_part view (filter_map (usable_piece floor now) f.nodes))

-- and its cites
pub stands_cites : (query : Syntax) (start : Start) (f : Contents) (floor now : ℕ) (view : Pieces) → AreNamed view → cites_of query start (decided query start (laid f floor now view) view) ≡ cites_of query start (laid f floor now view)
stands_cites query start f floor now view named =
    let all = laid f floor now view in
    let mine = decided query start all view in
    ap (λ (needs : List Need). cites_in mine (full_part needs)) (stands_support query start f floor now view named)
    ∙ cites_same mine all (support_of query start all) (λ need there full. decided_full query start view all need (laid_named (filter_map (usable_piece floor now) f.nodes) view named) (laid_part view (filter_map (usable_piece floor now) f.nodes)) there full)

-- a laid view has each piece under its name
pub laid_view_named : (f : Contents) (floor now : ℕ) (view : Pieces) → AreNamed view → AreNamed (laid f floor now view)
laid_view_named f floor now view named = laid_named (filter_map (usable_piece floor now) f.nodes) view named
