-- A verdict that is still valid is that of an evaluation over the view of now.
use Rattle.std.proofs.Common.{◌≡◌, Bool, true, false, cond, not, ◌&&◌, List, [], ◌∷◌, filter, Contains, Option, Some, None, is_some, option_map, refl, sym, ◌∙◌, ap, subst}
use Rattle.std.specs.List.{cons_option}
use Rattle.std.proofs.lemmas.List.Elements.{All-cons, All-head, All-tail}
use Rattle.iris_base.specs.declared.name.Label.{Label}
use Rattle.iris_tree.specs.Universe.{Node, node_at}
use Rattle.iris_fragment.specs.declared.piece.Full.{Full}
use Rattle.iris_fragment.specs.declared.piece.Level.{Level}
use Rattle.iris_fragment.specs.declared.piece.Level.TheVariants as level
use Rattle.iris_fragment.specs.declared.piece.Piece.{Piece}
use Rattle.iris_xpath.specs.Syntax.{Syntax}
use Rattle.iris_need.specs.declared.need.Need.{Need}
use Rattle.iris_need.specs.declared.need.Start.{Start}
use Rattle.iris_need.specs.Alike.{Reaches, IsAlike, AreAlike, IsCoveredBy}
use Rattle.iris_need.specs.Decided.{at_level, pieces_for}
use Rattle.iris_need.specs.Laws.{AreOrderedNeeds}
use Rattle.iris_need.specs.Needs.{is_under, seen_from, looks, is_missing, missing_of, support_of}
use Rattle.iris_need.specs.Pieces.{Pieces, AreNamed, AgreesWith, IsLocalOf, IsPieceAt, piece_at, known_of, view_of}
use Rattle.iris_need.specs.Run.{seen_with, meets_known, meets}
use Rattle.iris_need.proofs.Covered.{met_covered, unmet_covered}
use Rattle.iris_need.proofs.Merged.{merged_ordered, support_ordered}
use Rattle.iris_need.proofs.Pieces.{piece_named}
use Rattle.iris_need.proofs.Run.{contains_first, contains_later}
use Rattle.iris_gather.specs.Validation.{IsSameFull, IsSamePiece, IsSameAt, NoMoreFull, NoMore, IsSameFor, IsStillValid}
use Rattle.iris_gather.specs.Verdicts.{IsVerdict, asks_of, rests_on}
use Rattle.iris_gather.specs.declared.verdict.Verdict.{Verdict}
use Rattle.iris_gather.specs.declared.verdict.Verdict.TheVariants.{Done, Asks}
use Rattle.iris_gather.proofs.Same.{alike_missing, alike_support, nothing_alike, unmet_alike}
use Rattle.iris_gather.proofs.Stand.{asks_missing, rests_on_support}

-- ---- at one node

seen_same : (ids more : List Label) (o n : Option Full) → ids ≡ more → IsSameFull o n → seen_with ids (option_map (λ (f : Full). f.local) o) ≡ seen_with more (option_map (λ (f : Full). f.local) n)
seen_same ids more None n e h = absurd h
seen_same ids more (Some f) None e h = absurd h
seen_same ids more (Some f) (Some g) e h = λ i. seen_with (e i) (Some (h.1 i))

-- what is had as it was is known the same, up to its level
same_alike : (l m : Level) (o n : Option Piece) → Reaches l m → IsSameAt l o n → IsAlike m (option_map known_of o) (option_map known_of n)
same_alike l m None n r h = absurd h
same_alike l m (Some p) None r h = absurd h
same_alike level.Ids level.Ids (Some p) (Some q) r h = ap (λ (ids : List Label). Some ids) h
same_alike level.Ids level.Full (Some p) (Some q) r h = absurd r
same_alike level.Full level.Ids (Some p) (Some q) r h = ap (λ (ids : List Label). Some ids) h.0
same_alike level.Full level.Full (Some p) (Some q) r h = seen_same p.ids q.ids p.full q.full h.0 h.1

nothing_met : (m : Level) → meets_known m None ≡ false
nothing_met level.Ids = refl
nothing_met level.Full = refl

-- where no more is had, what was not met is not met now
no_more_unmet : (m : Level) (o n : Option Piece) → NoMore o n → meets_known m (option_map known_of o) ≡ false → meets_known m (option_map known_of n) ≡ false
no_more_unmet m o None h unmet = nothing_met m
no_more_unmet m None (Some q) h unmet = absurd h
no_more_unmet level.Ids (Some p) (Some q) h unmet = absurd (cc)
no_more_unmet level.Full (Some p) (Some q) h unmet = by p.full q.full h unmet
  where
    by : (o n : Option Full) → NoMoreFull o n → is_some (option_map (λ (f : Full). f.local) o) ≡ false → is_some (option_map (λ (f : Full). f.local) n) ≡ false
    by o None k e = refl
    by None (Some g) k e = absurd k
    by (Some f) (Some g) k e = absurd (cc)

-- ---- at each look

looks_alike : (query : Syntax) (start : Start) (old now : Pieces) (verdict : Verdict) → IsVerdict query start old verdict → IsStillValid old now verdict
    → AreAlike (seen_from start.name (view_of old)) (seen_from start.name (view_of now)) (looks query start (view_of old))
looks_alike query start old now verdict is valid look there = by (is_under look.name start.name) refl
  where
    same : IsCoveredBy (support_of query start old) look → IsAlike look.level (view_of old look.name) (view_of now look.name)
    same covered =
        let need = covered.0 in
        let rests : Contains (rests_on verdict) need = subst (λ (needs : List Need). Contains needs need) (sym (rests_on_support query start old verdict is)) covered.1 in
        subst (λ (n : List Label). IsAlike look.level (view_of old n) (view_of now n)) covered.2
        (same_alike need.level look.level (piece_at old need.name) (piece_at now need.name) covered.3 ((valid look.name).same need rests covered.2))

    still : meets_known look.level (view_of old look.name) ≡ false → IsCoveredBy (missing_of query start old) look → meets_known look.level (view_of now look.name) ≡ false
    still unmet covered =
        let need = covered.0 in
        let asked : Contains (asks_of verdict) need = subst (λ (needs : List Need). Contains needs need) (sym (asks_missing query start old verdict is)) covered.1 in
        let none : NoMore (piece_at old look.name) (piece_at now look.name) = subst (λ (n : List Label). NoMore (piece_at old n) (piece_at now n)) covered.2 ((valid look.name).no_more need asked covered.2) in
        no_more_unmet look.level (piece_at old look.name) (piece_at now look.name) none unmet

    seen : is_under look.name start.name ≡ true → meets_known look.level (view_of old look.name) ≡ true → meets (seen_from start.name (view_of old)) look ≡ true
    seen at met = ap (λ (b : Bool). meets_known look.level (cond b (view_of old look.name) None)) at ∙ met

    lacks : is_under look.name start.name ≡ true → meets_known look.level (view_of old look.name) ≡ false → is_missing start (view_of old) look ≡ true
    lacks at unmet = ap (λ (b : Bool). b && not (meets_known look.level (cond b (view_of old look.name) None))) at ∙ ap not unmet

    inside : is_under look.name start.name ≡ true → (b : Bool) → meets_known look.level (view_of old look.name) ≡ b → IsAlike look.level (view_of old look.name) (view_of now look.name)
    inside at true met = same (met_covered query start (view_of old) look there (seen at met))
    inside at false unmet = unmet_alike look.level (view_of old look.name) (view_of now look.name) unmet (still unmet (unmet_covered query start (view_of old) look there (lacks at unmet)))

    by : (b : Bool) → is_under look.name start.name ≡ b → IsAlike look.level (cond b (view_of old look.name) None) (cond b (view_of now look.name) None)
    by true at = inside at (meets_known look.level (view_of old look.name)) refl
    by false at = nothing_alike look.level

-- ---- documents that agree

local_same : (n : Node) (o m : Option Full) → IsSameFull o m → IsLocalOf n m → IsLocalOf n o
local_same n None m h k = absurd h
local_same n (Some f) None h k = absurd h
local_same n (Some f) (Some g) h k = h.1 ∙ k

-- a document of which the piece of now tells has it as the one of before tells
piece_agrees : (document : Node) (l : Level) (p q : Piece) → p.name ≡ q.name → IsSamePiece l p q → IsPieceAt document (at_level l q).name (at_level l q) → IsPieceAt document (at_level l p).name (at_level l p)
piece_agrees document level.Ids p q named h (n, there, ids, local) = (n, subst (λ (name : List Label). node_at document name ≡ Some n) (sym named) there, h ∙ ids, tt)
piece_agrees document level.Full p q named h (n, there, ids, local) = (n, subst (λ (name : List Label). node_at document name ≡ Some n) (sym named) there, h.0 ∙ ids, local_same n p.full q.full h.1 local)

-- the same with one piece more
one_agrees : (document : Node) (need : Need) (o n : Option Piece) (before after : List Piece) → ((p : Piece) → o ≡ Some p → p.name ≡ need.name) → ((q : Piece) → n ≡ Some q → q.name ≡ need.name)
    → IsSameAt need.level o n → (AgreesWith document after → AgreesWith document before)
    → AgreesWith document (cons_option (option_map (at_level need.level) n) after) → AgreesWith document (cons_option (option_map (at_level need.level) o) before)
one_agrees document need None n before after f g h rest k = absurd h
one_agrees document need (Some p) None before after f g h rest k = absurd h
one_agrees document need (Some p) (Some q) before after f g h rest k =
    All-cons (λ piece. IsPieceAt document piece.name piece) (at_level need.level p) before
    (piece_agrees document need.level p q (f p refl ∙ sym (g q refl)) h (All-head (λ piece. IsPieceAt document piece.name piece) (at_level need.level q) after k))
    (rest (All-tail (λ piece. IsPieceAt document piece.name piece) (at_level need.level q) after k))

-- a document that agrees with the pieces of now agrees with those of before
pieces_agree : (document : Node) (old now : Pieces) (needs : List Need) → AreNamed old → AreNamed now → ((need : Need) → Contains needs need → IsSameFor old now need) → AgreesWith document (pieces_for now needs) → AgreesWith document (pieces_for old needs)
pieces_agree document old now [] named also same agrees = agrees
pieces_agree document old now (need ∷ needs) named also same agrees =
    one_agrees document need (piece_at old need.name) (piece_at now need.name) (pieces_for old needs) (pieces_for now needs) (λ p e. piece_named old need.name p named e) (λ q e. piece_named now need.name q also e)
    (same need (contains_first need needs)) (pieces_agree document old now needs named also (λ n there. same n (contains_later need needs n there))) agrees

-- ---- the verdict

-- a verdict that is still valid is that of an evaluation over the view of now
pub verdict_valid : (query : Syntax) (start : Start) (old now : Pieces) (verdict : Verdict) → AreNamed old → AreNamed now → IsVerdict query start old verdict → IsStillValid old now verdict → IsVerdict query start now verdict
verdict_valid query start old now (Done support items) named also is valid = record {
  whole = alike_missing query start old now alike ∙ is.whole;
  support_is = is.support_is ∙ sym same_support;
  items_are = λ none document are ids top agrees. is.items_are none document are ids top
      (pieces_agree document old now (support_of query start old) named also same (subst (λ (needs : List Need). AgreesWith document (pieces_for now needs)) same_support agrees));
  no_items = is.no_items;
}
  where
    alike : AreAlike (seen_from start.name (view_of old)) (seen_from start.name (view_of now)) (looks query start (view_of old))
    alike = looks_alike query start old now (Done support items) is valid

    same_support : support_of query start now ≡ support_of query start old
    same_support = alike_support query start old now alike

    same : (need : Need) → Contains (support_of query start old) need → IsSameFor old now need
    same need there = (valid need.name).same need (subst (λ (needs : List Need). Contains needs need) (sym is.support_is) there) refl
verdict_valid query start old now (Asks support missing) named also is valid = record {
  some = is.some;
  support_is = is.support_is ∙ sym (alike_support query start old now alike);
  missing_is = is.missing_is ∙ sym (alike_missing query start old now alike);
}
  where
    alike : AreAlike (seen_from start.name (view_of old)) (seen_from start.name (view_of now)) (looks query start (view_of old))
    alike = looks_alike query start old now (Asks support missing) is valid

-- ---- the order of its needs

-- what a verdict rests on stands in the order of names
pub support_rises : (query : Syntax) (start : Start) (view : Pieces) (verdict : Verdict) → IsVerdict query start view verdict → AreOrderedNeeds (rests_on verdict)
support_rises query start view verdict is = subst AreOrderedNeeds (sym (rests_on_support query start view verdict is)) (support_ordered query start view)

-- so does what it asks for
pub asks_rise : (query : Syntax) (start : Start) (view : Pieces) (verdict : Verdict) → IsVerdict query start view verdict → AreOrderedNeeds (asks_of verdict)
asks_rise query start view verdict is = subst AreOrderedNeeds (sym (asks_missing query start view verdict is)) (merged_ordered (filter (is_missing start (view_of view)) (looks query start (view_of view))))
