-- Where nothing is missing, the support alone decides.
use Rattle.std.proofs.Common.{◌≡◌, Bool, true, false, cond, not, ◌&&◌, List, [], map, filter, Contains, Option, Some, None, is_some, refl, sym, ◌∙◌, ap, subst}
use Rattle.iris_base.specs.declared.name.Label.{Label}
use Rattle.iris_tree.specs.declared.local.Local.{Local}
use Rattle.iris_fragment.specs.declared.piece.Level.{Level}
use Rattle.iris_fragment.specs.declared.piece.Level.TheVariants as level
use Rattle.iris_xpath.specs.Syntax.{Syntax}
use Rattle.iris_need.specs.declared.need.Need.{Need}
use Rattle.iris_need.specs.declared.need.Start.{Start}
use Rattle.iris_need.specs.Run.{Known, View, Seen, seen_with, ids_known, full_known, meets_known, meets}
use Rattle.iris_need.specs.Needs.{is_under, seen_from, evaluation, looks, is_missing, missing_in, without_states, support_in}
use Rattle.iris_need.specs.Program.{program}
use Rattle.iris_need.proofs.Merged.{merged_have, merged_empty}
use Rattle.std.proofs.lemmas.List.Elements.{All-contains, All-map, filter_passes}
use Rattle.iris_need.proofs.UndecidedIsRealWork.{not_false, none_pass}
use Rattle.iris_need.specs.Alike.{IsAlike, AreAlike, Reaches}
use Rattle.iris_need.proofs.Covered.{covering, bare_covers, filtered}
use Rattle.iris_need.proofs.Restricted.{same_run}

-- what is alike in full is alike by its ids
full_ids : (ids : List Label) (local : Option Local) (seen : Seen) → seen_with ids local ≡ Some seen → ids ≡ seen.ids
full_ids ids None seen h = absurd (cc)
full_ids ids (Some l) seen h = (let e : record { ids = ids; local = l } ≡ seen = cc in ap (λ (s : Seen). s.ids) e)

seen_ids : (k : Option Known) (seen : Seen) → full_known k ≡ Some seen → ids_known k ≡ Some seen.ids
seen_ids None seen h = absurd (cc)
seen_ids (Some k) seen h = ap (λ (ids : List Label). Some ids) (full_ids k.ids k.local seen h)

full_is : (ids : List Label) (local : Option Local) → is_some local ≡ true → (seen : Seen) × (seen_with ids local ≡ Some seen)
full_is ids None h = absurd (cc)
full_is ids (Some l) h = (record { ids = ids; local = l }, refl)

met_full : (k : Option Known) → meets_known level.Full k ≡ true → (seen : Seen) × (full_known k ≡ Some seen)
met_full None h = absurd (cc)
met_full (Some k) h = full_is k.ids k.local h

lower_alike : (l m : Level) (j k : Option Known) → Reaches l m → meets_known l j ≡ true → IsAlike l j k → IsAlike m j k
lower_alike level.Ids level.Ids j k r met h = h
lower_alike level.Ids level.Full j k r met h = absurd r
lower_alike level.Full level.Full j k r met h = h
lower_alike level.Full level.Ids j k r met h =
    let seen = met_full j met in
    seen_ids j seen.0 seen.1 ∙ sym (seen_ids k seen.0 (sym h ∙ seen.1))

-- a view meets what an evaluation over it rests on
pub support_meets : (query : Syntax) (start : Start) (w : View) (need : Need) → Contains (support_in query start w) need → meets (seen_from start.name w) need ≡ true
support_meets query start w need there =
    All-contains (λ n. meets_known n.level (seen_from start.name w n.name) ≡ true) (support_in query start w) need
    (merged_have (λ name l. meets_known l (seen_from start.name w name) ≡ true) (map without_states (filter (meets (seen_from start.name w)) (looks query start w)))
    (All-map (λ n. meets_known n.level (seen_from start.name w n.name) ≡ true) without_states (filter (meets (seen_from start.name w)) (looks query start w)) (filter_passes (meets (seen_from start.name w)) (looks query start w)))) there

-- where nothing is missing, an evaluation is the same over each view that is alike at its support
pub same_by_support : (query : Syntax) (start : Start) (w v : View) → missing_in query start w ≡ []
    → AreAlike w v (support_in query start w) → evaluation query start v ≡ evaluation query start w
same_by_support query start w v none alike = same_run (seen_from start.name w) (seen_from start.name v) (program query start) each
  where
    ls : List Need
    ls = looks query start w

    missing_none : (look : Need) → Contains ls look → (is_under look.name start.name && not (meets (seen_from start.name w) look)) ≡ false
    missing_none look there = none_pass (is_missing start w) ls (merged_empty _ none) look there

    outside : (l : Level) (j k : Option Known) → IsAlike l (cond false j None) (cond false k None)
    outside level.Ids j k = refl
    outside level.Full j k = refl

    kept : (look : Need) → meets (seen_from start.name w) look ≡ true → (xs : List Need) → Contains xs look → Contains (filter (meets (seen_from start.name w)) xs) look
    kept look met xs there = filtered (meets (seen_from start.name w)) look met xs there

    inside : (look : Need) → Contains ls look → meets (seen_from start.name w) look ≡ true → is_under look.name start.name ≡ true → IsAlike look.level (w look.name) (v look.name)
    inside look there met under =
        let need = covering (support_in query start w) look.name look.level (bare_covers (filter (meets (seen_from start.name w)) ls) look (kept look met ls there)) in
        let met_need : meets_known need.0.level (seen_from start.name w need.0.name) ≡ true = support_meets query start w need.0 need.1 in
        let here : meets_known need.0.level (w look.name) ≡ true =
        subst (λ (b : Bool). meets_known need.0.level (cond b (w look.name) None) ≡ true) under (subst (λ (n : List Label). meets_known need.0.level (seen_from start.name w n) ≡ true) need.2 met_need) in
        lower_alike need.0.level look.level (w look.name) (v look.name) need.3 here (subst (λ (n : List Label). IsAlike need.0.level (w n) (v n)) need.2 (alike need.0 need.1))

    each : (look : Need) → Contains ls look → IsAlike look.level (seen_from start.name w look.name) (seen_from start.name v look.name)
    each look there = by (is_under look.name start.name) refl (missing_none look there)
      where
        by : (b : Bool) → is_under look.name start.name ≡ b → (b && not (meets (seen_from start.name w) look)) ≡ false → IsAlike look.level (cond b (w look.name) None) (cond b (v look.name) None)
        by false at h = outside look.level (w look.name) (v look.name)
        by true at h = inside look there (not_false (meets (seen_from start.name w) look) h) at
