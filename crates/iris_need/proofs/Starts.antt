-- What is missing and what an evaluation rests on, of the looks that are collected.
use Rattle.std.proofs.Common.{◌≡◌, Bool, true, false, cond, List, [], ◌∷◌, map, filter, fold, refl, ◌∙◌}
use Rattle.iris_base.specs.declared.name.Label.{Label}
use Rattle.iris_xpath.specs.Syntax.{Syntax}
use Rattle.iris_need.specs.declared.need.Need.{Need}
use Rattle.iris_need.specs.declared.need.Start.{Start}
use Rattle.iris_need.specs.declared.looks.Looks.TheVariants.{Unmet, Met}
use Rattle.iris_need.specs.Pieces.{Pieces, view_of}
use Rattle.iris_need.specs.Needs.{with_look, seen_from, is_missing, without_states, missing_of, support_of, looks}
use Rattle.iris_need.specs.Run.{View, meets}
use Rattle.iris_need.specs.Program.{program}
use Rattle.iris_need.specs.Collected.{take_look, collected}

take_unmet : (above : List Label) (w : View) (missing : Bool) (needs : List Need) (look : Need) (more : List Need) → fold with_look (cond missing (with_look needs look) needs) more ≡ fold with_look needs (cond missing (look ∷ more) more)
take_unmet above w true needs look more = refl
take_unmet above w false needs look more = refl

unmet_are : (start : Start) (w : View) (needs xs : List Need) → fold (take_look Unmet start.name w) needs xs ≡ fold with_look needs (filter (is_missing start w) xs)
unmet_are start w needs [] = refl
unmet_are start w needs (look ∷ xs) = unmet_are start w (take_look Unmet start.name w needs look) xs ∙ take_unmet start.name w (is_missing start w look) needs look (filter (is_missing start w) xs)

take_met : (met : Bool) (needs : List Need) (look : Need) (more : List Need) → fold with_look (cond met (with_look needs (without_states look)) needs) (map without_states more) ≡ fold with_look needs (map without_states (cond met (look ∷ more) more))
take_met true needs look more = refl
take_met false needs look more = refl

met_are : (start : Start) (w : View) (needs xs : List Need) → fold (take_look Met start.name w) needs xs ≡ fold with_look needs (map without_states (filter (meets (seen_from start.name w)) xs))
met_are start w needs [] = refl
met_are start w needs (look ∷ xs) = met_are start w (take_look Met start.name w needs look) xs ∙ take_met (meets (seen_from start.name w) look) needs look (filter (meets (seen_from start.name w)) xs)

-- the unmet looks are what is missing
pub missing_is : (query : Syntax) (start : Start) (pieces : Pieces) → collected Unmet start.name pieces [] (program query start) ≡ missing_of query start pieces
unfolding collected
missing_is query start pieces = unmet_are start (view_of pieces) [] (looks query start (view_of pieces))

-- the met looks are what the evaluation rests on
pub support_is : (query : Syntax) (start : Start) (pieces : Pieces) → collected Met start.name pieces [] (program query start) ≡ support_of query start pieces
unfolding collected
support_is query start pieces = met_are start (view_of pieces) [] (looks query start (view_of pieces))
