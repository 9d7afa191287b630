-- What a query selects: a filter over all places of a document, step by step (XPath 1.0, 2 and 3.3 to 3.4).
use Rattle.std.specs.Prelude.{ℕ, ℤ, pos, neg_ℤ, int_lt, int_le, Bool, true, false, not, ◌&&◌, ◌||◌, ◌==◌, nat_le, if◌then◌else◌, List, [], ◌∷◌, length, reverse, map, filter, Option, Some, None, option_map}
use Rattle.std.specs.List.{list_any, list_all, flat_map, filter_map}
use Rattle.std.specs.Str.{bytes_eq}
use Rattle.std.specs.Str.Parse.{digits_value}
use Rattle.iris_tree.specs.Universe.{Node, label_of}
use Rattle.iris_tree.specs.declared.plain.Plain.{Plain}
use Rattle.iris_tree.specs.declared.plain.Plain.TheViews.{out-Plain}
use Rattle.iris_tree.specs.Document.{Edge, Place, Part, whole, a_node, a_plain, part_at_place, places}
use Rattle.iris_xpath.specs.declared.expression.Separator.{Separator}
use Rattle.iris_xpath.specs.declared.expression.Separator.TheVariants.{Slash, DoubleSlash}
use Rattle.iris_xpath.specs.declared.expression.NameTest.{NameTest}
use Rattle.iris_xpath.specs.declared.expression.NameTest.TheVariants.{Any, Kind, Tag}
use Rattle.iris_xpath.specs.declared.expression.Comparison.{Comparison}
use Rattle.iris_xpath.specs.declared.expression.Comparison.TheVariants.{Equal, NotEqual, Less, LessOrEqual, Greater, GreaterOrEqual}
use Rattle.iris_xpath.specs.Syntax.{Syntax, Condition, any_of, all_of, not_so, selects, compares, Conditions, no_conditions, conditions, Side, values_of, literal, number, Steps, here, attribute, itself, parent, step, MainStep, main_of}
use Rattle.iris_xpath.specs.Places.{place_eq, is_parent, is_above, attribute_of}

-- whether a list has an element
abbrev pub has_some : {X : Type 0} → List X → Bool
has_some [] = false
has_some (x ∷ xs) = true

-- ---- numbers

abbrev pub is_blank : ℕ → Bool
is_blank b = (b == 32) || (b == 9) || (b == 10) || (b == 13)

abbrev pub without_leading_blanks : List ℕ → List ℕ
without_leading_blanks [] = []
without_leading_blanks (b ∷ bs) = if is_blank b then without_leading_blanks bs else b ∷ bs

abbrev pub trimmed : List ℕ → List ℕ
trimmed text = reverse (without_leading_blanks (reverse (without_leading_blanks text)))

abbrev pub is_digit : ℕ → Bool
is_digit b = nat_le 48 b && nat_le b 57

-- the number that 1 to 18 digits write
abbrev pub number_of_digits : List ℕ → Option ℕ
number_of_digits ds = if nat_le 1 (length ds) && nat_le (length ds) 18 && list_all is_digit ds then Some (digits_value 10 ds) else None

abbrev pub number_in : List ℕ → Option ℤ
number_in [] = None
number_in (b ∷ bs) = if b == 45 then option_map (λ n. neg_ℤ (pos n)) (number_of_digits bs) else option_map pos (number_of_digits (b ∷ bs))

-- the number that a text is, without the blanks at its ends; any other text is not a number
abbrev pub number_of : List ℕ → Option ℤ
number_of text = number_in (trimmed text)

-- ---- values and their comparison

-- a value: a text, or a number as the query writes it
pub data Value : Type 0 where
  of_text : List ℕ → Value
  of_number : ℤ → Value

abbrev pub as_number : Value → Option ℤ
as_number (of_text text) = number_of text
as_number (of_number n) = Some n

-- two numbers compare so; what is not a number never does
abbrev pub numbers_compare : (ℤ → ℤ → Bool) → Option ℤ → Option ℤ → Bool
numbers_compare is_so None n = false
numbers_compare is_so (Some m) None = false
numbers_compare is_so (Some m) (Some n) = is_so m n

abbrev pub int_eq : ℤ → ℤ → Bool
int_eq m n = int_le m n && int_le n m

-- texts are compared as texts, and as numbers where a side is a written number
abbrev pub are_equal : Value → Value → Bool
are_equal (of_text s) (of_text t) = bytes_eq s t
are_equal (of_text s) (of_number n) = numbers_compare int_eq (number_of s) (Some n)
are_equal (of_number m) v = numbers_compare int_eq (Some m) (as_number v)

abbrev pub compare : Comparison → Value → Value → Bool
compare Equal u v = are_equal u v
compare NotEqual u v = not (are_equal u v)
compare Less u v = numbers_compare int_lt (as_number u) (as_number v)
compare LessOrEqual u v = numbers_compare int_le (as_number u) (as_number v)
compare Greater u v = numbers_compare int_lt (as_number v) (as_number u)
compare GreaterOrEqual u v = numbers_compare int_le (as_number v) (as_number u)

-- ---- places

-- whether a step with that separator goes from a place to another
abbrev pub is_reached : Separator → Place → Place → Bool
is_reached Slash above place = is_parent above place
is_reached DoubleSlash above place = is_above above place && not (place_eq above place)

-- the place right above; the document has none
abbrev pub front : Edge → Place → Place
front e [] = []
front e (f ∷ place) = e ∷ front f place

abbrev pub parents_of : Place → List Place
parents_of [] = []
parents_of (e ∷ place) = front e place ∷ []

-- whether what stands at a place is what a step goes to
abbrev pub passes : Option Part → NameTest → Bool
passes None test = false
passes (Some whole) test = false
passes (Some (a_node n)) Any = true
passes (Some (a_node n)) (Kind kind) = bytes_eq (label_of n).kind kind
passes (Some (a_node n)) (Tag tag) = false
passes (Some (a_plain p)) Any = true
passes (Some (a_plain p)) (Kind kind) = false
passes (Some (a_plain p)) (Tag tag) = bytes_eq (out-Plain p).tag tag

-- the text of a plain element without kids; nothing else has a value
abbrev pub plain_value : Plain → Option (List ℕ)
plain_value p = if has_some (out-Plain p).kids then None else Some (out-Plain p).text

abbrev pub value_of : Option Part → Option (List ℕ)
value_of None = None
value_of (Some whole) = None
value_of (Some (a_node n)) = None
value_of (Some (a_plain p)) = plain_value p

abbrev pub attribute_at : List ℕ → Option Part → Option (List ℕ)
attribute_at name None = None
attribute_at name (Some part) = attribute_of part name

-- the places whose attributes are taken: the place itself, and with `//` all below it
abbrev pub from_here : Node → Separator → Place → List Place
from_here document Slash place = place ∷ []
from_here document DoubleSlash place = filter (is_above place) (places document)

-- ---- predicates

-- what a path selects, each with its value if it has one; what a condition says of a place
abbrev mutual
  pub ends : Node → Steps → Place → List (Option (List ℕ))
  ends document here place = value_of (part_at_place document place) ∷ []
  ends document (attribute separator name) place = map (λ value. Some value) (filter_map (λ at. attribute_at name (part_at_place document at)) (from_here document separator place))
  ends document (itself steps) place = ends document steps place
  ends document (parent steps) place = flat_map (ends document steps) (parents_of place)
  ends document (step separator test cs steps) place =
      flat_map (ends document steps) (filter (λ at. is_reached separator place at && passes (part_at_place document at) test && all_hold document cs at) (places document))

  pub values : Node → Side → Place → List Value
  values document (values_of steps) place = map of_text (filter_map (λ end. end) (ends document steps place))
  values document (literal text) place = of_text text ∷ []
  values document (number n) place = of_number n ∷ []

  pub holds : Node → Condition → Place → Bool
  holds document (any_of cs) place = any_holds document cs place
  holds document (all_of cs) place = all_hold document cs place
  holds document (not_so c) place = not (holds document c place)
  holds document (selects steps) place = has_some (ends document steps place)
  holds document (compares left comparison right) place = list_any (λ u. list_any (compare comparison u) (values document right place)) (values document left place)

  pub any_holds : Node → Conditions → Place → Bool
  any_holds document no_conditions place = false
  any_holds document (conditions c cs) place = holds document c place || any_holds document cs place

  pub all_hold : Node → Conditions → Place → Bool
  all_hold document no_conditions place = true
  all_hold document (conditions c cs) place = holds document c place && all_hold document cs place

-- ---- the main path

-- what stands there passes the test, and the predicates hold one after another
abbrev pub fits : Node → MainStep → Place → Bool
fits document s place = passes (part_at_place document place) s.test && all_hold document s.conditions place

-- the places that a step reaches from the context, and that fit it
abbrev pub step_to : Node → List Place → MainStep → List Place
step_to document context s = filter (λ place. list_any (λ above. is_reached s.separator above place) context && fits document s place) (places document)

abbrev pub steps_to : Node → List Place → List MainStep → List Place
steps_to document context [] = context
steps_to document context (s ∷ ss) = steps_to document (step_to document context s) ss

-- what a query selects: its path begins at the document
abbrev pub selected : Node → Syntax → List Place
selected document query = steps_to document ([] ∷ []) (map main_of query)
