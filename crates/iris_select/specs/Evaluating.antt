-- Where an evaluation stands, and what it finds from there.
use Rattle.std.specs.Prelude.{◌≡◌, ℕ, Bool, ◌&&◌, ◌||◌, if◌then◌else◌, List, [], ◌∷◌, map, Option, Some, None, option_map}
use Rattle.std.proofs.Common.{Bor}
use Rattle.std.specs.List.{list_any, filter_map}
use Rattle.iris_tree.specs.Universe.{Node, IsOrdered}
use Rattle.iris_tree.specs.Document.{Place, part_at_place}
use Rattle.iris_tree.specs.Document.{Part as DocumentPart}
use Rattle.iris_xpath.specs.declared.expression.Expression.{Expression}
use Rattle.iris_xpath.specs.declared.expression.Part.{Part}
use Rattle.iris_xpath.specs.declared.expression.Step.{Step}
use Rattle.iris_xpath.specs.declared.expression.Attribute.{Attribute}
use Rattle.iris_xpath.specs.Syntax.{Steps}
use Rattle.iris_xpath.specs.Said.{all_conditions, steps_from, step_on}
use Rattle.iris_xpath.specs.Meaning.{passes, all_hold, ends, attribute_at}
use Rattle.iris_xpath.specs.declared.expression.Separator.{Separator}
use Rattle.iris_xpath.specs.declared.expression.Separator.TheVariants.{Slash, DoubleSlash}
use Rattle.iris_select.specs.declared.evaluator.Evaluator.{Evaluator}
use Rattle.iris_select.specs.declared.spot.Spot.{Spot}
use Rattle.iris_select.specs.Parts.{place_at, part_of, part_below, places_in}

-- the document
abbrev pub document_of : Evaluator → Node
document_of e = e.top.now

-- the place in hand
abbrev pub place_in : Evaluator → Place
place_in e = place_at e.trail.items

-- the document is in order, and that stands at the place in hand
pub record Stands (e : Evaluator) (spot : Spot) : Type 0 where
  pub in_order : IsOrdered (document_of e)
  pub there : part_at_place (document_of e) (place_in e) ≡ Some (part_of spot)

-- the evaluation is back at the place in hand
pub record IsBack (old new : Evaluator) : Type 0 where
  pub document : new.top ≡ old.top
  pub trail : new.trail.items ≡ old.trail.items

-- the ends of paths, as the meaning has them
abbrev pub ends_of : List (Option (Bor (List ℕ))) → List (Option (List ℕ))
ends_of found = map (option_map (λ text. text.now)) found

-- one list has the elements of another and further ones
abbrev pub HasMore : {A : Type 0} → List A → List A → List A → Type 0
HasMore {A} new old more = (test : A → Bool) → list_any test new ≡ (list_any test old || list_any test more)

-- what a path finds further on from a place that a step reaches, where it fits the step
abbrev pub ends_at : Node → Step Expression → List (Part Expression) → Option Attribute → Place → List (Option (List ℕ))
ends_at document s ps a place =
    if passes (part_at_place document place) s.test && all_hold document (all_conditions s.predicates) place then ends document (steps_from ps a) place else []

-- what it finds from there by the same step, which goes on with `//` alone
abbrev pub ends_beyond : Node → Separator → Steps → Place → List (Option (List ℕ))
ends_beyond document Slash steps place = []
ends_beyond document DoubleSlash steps place = ends document steps place

-- what it finds at and below a place to which it may have gone, by the same step
abbrev pub ends_deeper : Node → Step Expression → List (Part Expression) → Option Attribute → Place → List (Option (List ℕ))
ends_deeper document s ps a place = ends_beyond document s.separator (step_on s ps a) place

-- the values of an attribute at a part and all below it
abbrev pub attributes_in : Node → DocumentPart → List ℕ → List (Option (List ℕ))
attributes_in document part name = map (λ value. Some value) (filter_map (λ at. attribute_at name (part_below document part at)) (places_in document part))

-- the end at an attribute, if there is one
abbrev pub ends_with : Option (List ℕ) → List (Option (List ℕ))
ends_with None = []
ends_with (Some value) = Some value ∷ []
