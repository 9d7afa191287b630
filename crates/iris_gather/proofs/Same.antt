-- Where nothing is left to take for what is missing, a part of the laid view tells the same as all of it.
use Rattle.std.proofs.Common.{◌≡◌, Bool, true, false, cond, not, ◌&&◌, ℕ, List, [], ◌∷◌, map, filter, All, Contains, Option, Some, None, is_some, option_map, refl, sym, ◌∙◌, ap, subst}
use Rattle.std.specs.List.{cons_option, filter_map}
use Rattle.std.proofs.lemmas.List.Elements.{All-contains}
use Rattle.iris_base.specs.declared.name.Label.{Label}
use Rattle.iris_tree.specs.declared.local.Local.{Local}
use Rattle.iris_tree.specs.declared.item.Item.{Item}
use Rattle.iris_fragment.specs.declared.piece.Full.{Full}
use Rattle.iris_fragment.specs.declared.piece.Level.{Level}
use Rattle.iris_fragment.specs.declared.piece.Level.TheVariants as level
use Rattle.iris_fragment.specs.declared.piece.Piece.{Piece}
use Rattle.iris_fragment.specs.Contents.{Contents, held_at}
use Rattle.iris_fragment.specs.Shape.{HaveRisingNames}
use Rattle.iris_xpath.specs.Syntax.{Syntax}
use Rattle.iris_need.specs.declared.need.Need.{Need}
use Rattle.iris_need.specs.declared.need.Start.{Start}
use Rattle.iris_need.specs.Alike.{IsAlike, AreAlike, IsCoveredBy}
use Rattle.iris_need.specs.Decided.{at_level, FullBelow, PieceBelow}
use Rattle.iris_need.specs.Needs.{is_under, seen_from, looks, is_missing, missing_of, merged, without_states, support_of}
use Rattle.iris_need.specs.Pieces.{Pieces, piece_at, known_of, view_of}
use Rattle.iris_need.specs.Program.{program}
use Rattle.iris_need.specs.Run.{Known, Out, seen_with, ids_known, full_known, meets_known, meets}
use Rattle.iris_need.proofs.Asked.{seen_under}
use Rattle.iris_need.proofs.Covered.{unmet_covered}
use Rattle.iris_need.proofs.Restricted.{same_run, filter_same, alike_met}
use Rattle.iris_need.proofs.Run.{contains_first, contains_later}
use Rattle.iris_need.proofs.Supported.{support_meets}
use Rattle.iris_gather.specs.Laid.{laid, TellsSame}
use Rattle.iris_gather.specs.Taking.{piece_taken, IsWithin, IsBetween}
use Rattle.iris_gather.proofs.Between.{still_unmet}
use Rattle.iris_gather.proofs.LaidAt.{laid_at}

-- ---- alike at one name

seen_same : (ids more : List Label) (a b : Option Full) → ids ≡ more → FullBelow a b → is_some (option_map (λ (f : Full). f.local) a) ≡ true
    → seen_with ids (option_map (λ (f : Full). f.local) a) ≡ seen_with more (option_map (λ (f : Full). f.local) b)
seen_same ids more None b e h m = absurd (cc)
seen_same ids more (Some f) b e h m =
    ap (λ (ls : List Label). seen_with ls (Some f.local)) e ∙ ap (λ (x : Option Full). seen_with more (option_map (λ (g : Full). g.local) x)) (sym h)

-- what is met is known the same where more is known
met_alike : (l : Level) (o a : Option Piece) → IsWithin o a → meets_known l (option_map known_of o) ≡ true → IsAlike l (option_map known_of o) (option_map known_of a)
met_alike level.Ids None a h m = absurd (cc)
met_alike level.Full None a h m = absurd (cc)
met_alike l (Some p) None h m = absurd h
met_alike level.Ids (Some p) (Some q) h m = ap (λ (ids : List Label). Some ids) h.1
met_alike level.Full (Some p) (Some q) h m = seen_same p.ids q.ids p.full q.full h.1 h.2 m

full_unmet : (ids : List Label) (o : Option Local) → is_some o ≡ false → full_known (Some (record { ids = ids; local = o })) ≡ None
full_unmet ids None h = refl
full_unmet ids (Some l) h = absurd (cc)

unknown_full : (k : Option Known) → meets_known level.Full k ≡ false → full_known k ≡ None
unknown_full None h = refl
unknown_full (Some k) h = full_unmet k.ids k.local h

unknown_ids : (k : Option Known) → meets_known level.Ids k ≡ false → ids_known k ≡ None
unknown_ids None h = refl
unknown_ids (Some k) h = absurd (cc)

pub unmet_alike : (l : Level) (k m : Option Known) → meets_known l k ≡ false → meets_known l m ≡ false → IsAlike l k m
unmet_alike level.Ids k m h j = unknown_ids k h ∙ sym (unknown_ids m j)
unmet_alike level.Full k m h j = unknown_full k h ∙ sym (unknown_full m j)

pub nothing_alike : (l : Level) → IsAlike l None None
nothing_alike level.Ids = refl
nothing_alike level.Full = refl

-- ---- alike at each look

within_laid : (f : Contents) (floor now : ℕ) (view over : Pieces) → HaveRisingNames f.nodes → IsBetween f floor now view over → (name : List Label) → IsWithin (piece_at over name) (piece_at (laid f floor now view) name)
within_laid f floor now view over rising between name = subst (λ (o : Option Piece). IsWithin (piece_at over name) o) (sym (laid_at f floor now view name rising)) (between.within name)

looks_alike : (query : Syntax) (start : Start) (f : Contents) (floor now : ℕ) (view over : Pieces) → HaveRisingNames f.nodes → IsBetween f floor now view over
    → All (λ need. piece_taken f floor now over need ≡ None) (missing_of query start over)
    → AreAlike (seen_from start.name (view_of over)) (seen_from start.name (view_of (laid f floor now view))) (looks query start (view_of over))
looks_alike query start f floor now view over rising between none look there = by (is_under look.name start.name) refl
  where
    all : Pieces
    all = laid f floor now view

    -- a look that is not met, covered by a need for which there is nothing to take
    unmet_by : IsCoveredBy (missing_of query start over) look → meets_known look.level (view_of over look.name) ≡ false → meets_known look.level (view_of all look.name) ≡ false
    unmet_by covered unmet =
        let need = covered.0 in
        let here : meets_known look.level (view_of over need.name) ≡ false = subst (λ (n : List Label). meets_known look.level (view_of over n) ≡ false) (sym covered.2) unmet in
        let still = still_unmet need.name (held_at f.nodes need.name) floor now need.level look.level (piece_at view need.name) (piece_at over need.name) covered.3 here (between.has need.name)
        (All-contains (λ n. piece_taken f floor now over n ≡ None) (missing_of query start over) need none covered.1) in
        subst (λ (n : List Label). meets_known look.level (view_of all n) ≡ false) covered.2 (ap (λ (o : Option Piece). meets_known look.level (option_map known_of o)) (laid_at f floor now view need.name rising) ∙ still)

    lacks : is_under look.name start.name ≡ true → meets_known look.level (view_of over look.name) ≡ false → is_missing start (view_of over) look ≡ true
    lacks at unmet = ap (λ (b : Bool). b && not (meets_known look.level (cond b (view_of over look.name) None))) at ∙ ap not unmet

    inside : is_under look.name start.name ≡ true → (b : Bool) → meets_known look.level (view_of over look.name) ≡ b → IsAlike look.level (view_of over look.name) (view_of all look.name)
    inside at true met = met_alike look.level (piece_at over look.name) (piece_at all look.name) (within_laid f floor now view over rising between look.name) met
    inside at false unmet = unmet_alike look.level (view_of over look.name) (view_of all look.name) unmet (unmet_by (unmet_covered query start (view_of over) look there (lacks at unmet)) unmet)

    by : (b : Bool) → is_under look.name start.name ≡ b → IsAlike look.level (cond b (view_of over look.name) None) (cond b (view_of all look.name) None)
    by true at = inside at (meets_known look.level (view_of over look.name)) refl
    by false at = nothing_alike look.level

-- ---- so all is the same

met_same : (start : Start) (over all : Pieces) (ls : List Need) → AreAlike (seen_from start.name (view_of over)) (seen_from start.name (view_of all)) ls
    → (look : Need) → Contains ls look → meets (seen_from start.name (view_of all)) look ≡ meets (seen_from start.name (view_of over)) look
met_same start over all ls alike look there = alike_met look.level (seen_from start.name (view_of over) look.name) (seen_from start.name (view_of all) look.name) (alike look there)

pub alike_missing : (query : Syntax) (start : Start) (over all : Pieces) → AreAlike (seen_from start.name (view_of over)) (seen_from start.name (view_of all)) (looks query start (view_of over)) → missing_of query start all ≡ missing_of query start over
alike_missing query start over all alike =
    ap (λ (o : Out (List Item)). merged (filter (is_missing start (view_of all)) o.log)) (same_run (seen_from start.name (view_of over)) (seen_from start.name (view_of all)) (program query start) alike)
    ∙ ap merged (filter_same (is_missing start (view_of over)) (is_missing start (view_of all)) (looks query start (view_of over)) (λ look there. ap (λ (b : Bool). is_under look.name start.name && not b) (met_same start over all (looks query start (view_of over)) alike look there)))

pub alike_support : (query : Syntax) (start : Start) (over all : Pieces) → AreAlike (seen_from start.name (view_of over)) (seen_from start.name (view_of all)) (looks query start (view_of over)) → support_of query start all ≡ support_of query start over
alike_support query start over all alike =
    ap (λ (o : Out (List Item)). merged (map without_states (filter (meets (seen_from start.name (view_of all))) o.log))) (same_run (seen_from start.name (view_of over)) (seen_from start.name (view_of all)) (program query start) alike)
    ∙ ap (λ (ls : List Need). merged (map without_states ls)) (filter_same (meets (seen_from start.name (view_of over))) (meets (seen_from start.name (view_of all))) (looks query start (view_of over)) (met_same start over all (looks query start (view_of over)) alike))

-- ---- the pieces

-- a full part that is there is the other's
full_same : (o a : Option Full) → FullBelow o a → is_some (option_map (λ (f : Full). f.local) o) ≡ true → o ≡ a
full_same None a h m = absurd (cc)
full_same (Some f) a h m = sym h

-- the piece that is met, as far as its level asks
level_same : (l : Level) (o a : Option Piece) → IsWithin o a → meets_known l (option_map known_of o) ≡ true → option_map (at_level l) o ≡ option_map (at_level l) a
level_same level.Ids None a h m = absurd (cc)
level_same level.Full None a h m = absurd (cc)
level_same l (Some p) None h m = absurd h
level_same level.Ids (Some p) (Some q) h m = λ i. Some (record { name = h.0 i; ids = h.1 i; full = None })
level_same level.Full (Some p) (Some q) h m = λ i. Some (record { name = h.0 i; ids = h.1 i; full = full_same p.full q.full h.2 m i })

-- images that are the same of each element
images_same : {X Y : Type 0} (g h : X → Option Y) (xs : List X) → ((x : X) → Contains xs x → g x ≡ h x) → filter_map g xs ≡ filter_map h xs
images_same g h [] same = refl
images_same g h (x ∷ xs) same = λ i. cons_option (same x (contains_first x xs) i) (images_same g h xs (λ y there. same y (contains_later x xs y there)) i)

below_within : (o a : Option Piece) → IsWithin o a → PieceBelow o a
below_within None a h = tt
below_within (Some p) None h = h
below_within (Some p) (Some q) h = (h.1, h.2)

-- a part over which nothing is left to take tells the same
pub tells_same : (query : Syntax) (start : Start) (f : Contents) (floor now : ℕ) (view over : Pieces) → HaveRisingNames f.nodes → IsBetween f floor now view over
    → All (λ need. piece_taken f floor now over need ≡ None) (missing_of query start over) → TellsSame query start over (laid f floor now view)
tells_same query start f floor now view over rising between none = record {
  part = λ name. below_within (piece_at over name) (piece_at all name) (within name);
  missing = sym (alike_missing query start over all alike);
  support = sym support;
  pieces = images_same (λ need. option_map (at_level need.level) (piece_at over need.name)) (λ need. option_map (at_level need.level) (piece_at all need.name)) (support_of query start all)
      (λ need there. level_same need.level (piece_at over need.name) (piece_at all need.name) (within need.name) (met need there));
}
  where
    all : Pieces
    all = laid f floor now view

    within : (name : List Label) → IsWithin (piece_at over name) (piece_at all name)
    within = within_laid f floor now view over rising between

    alike : AreAlike (seen_from start.name (view_of over)) (seen_from start.name (view_of all)) (looks query start (view_of over))
    alike = looks_alike query start f floor now view over rising between none

    support : support_of query start all ≡ support_of query start over
    support = alike_support query start over all alike

    met : (need : Need) → Contains (support_of query start all) need → meets_known need.level (view_of over need.name) ≡ true
    met need there = (seen_under start.name (view_of over) need (support_meets query start (view_of over) need (subst (λ (needs : List Need). Contains needs need) support there))).1
