-- What an answer's items offer for a stay.
use Rattle.std.specs.Prelude.{ℕ, Bool, false, ◌&&◌, if◌then◌else◌, List, [], ◌∷◌, ◌++◌, map, filter, find, take, Option, Some, None, Result, Ok, Err, is_none, codes}
use Rattle.std.specs.List.{flat_map}
use Rattle.std.specs.List.Sorted.{IsPermutation, IsSorted}
use Rattle.std.specs.Str.{bytes_eq}
use Rattle.std.specs.Ordering.{nat_cmp, is_lt, on, then_cmp}
use Rattle.std.specs.declared.cmp.Ordering.{Ordering}
use Rattle.std.specs.Cmp.Lexicographic.{slice_cmp}
use Rattle.iris_base.specs.declared.name.Label.{Label}
use Rattle.iris_base.specs.NameOrder.{label_cmp}
use Rattle.iris_tree.specs.Attrs.{value_of}
use Rattle.iris_tree.specs.Universe.{Node, label_of, local_of, children_of}
use Rattle.iris_tree.specs.declared.item.Element.{Element}
use Rattle.iris_tree.specs.declared.item.Element.TheVariants as elements
use Rattle.iris_tree.specs.declared.item.Item.{Item}
use Rattle.iris_json.specs.declared.find.Arrival.{Arrival}
use Rattle.iris_json.specs.declared.find.Find.{Find}
use Rattle.iris_json.specs.declared.find.Offer.{Offer}
use Rattle.iris_finder.specs.Tariff.{Terms, terms_of}
use Rattle.iris_finder.specs.Price.{price_of, is_too_long}
use Rattle.iris_finder.specs.Ranked.{in_order}

-- ---- the spaces of a block

-- whether a value is that text
abbrev pub is_value : List ℕ → Option (List ℕ) → Bool
is_value text None = false
is_value text (Some value) = bytes_eq value text

-- whether a node is a space that is free
abbrev pub is_free_space : Node → Bool
is_free_space n = bytes_eq (label_of n).kind (codes "space") && is_value (codes "yes") (value_of (local_of n).attrs (codes "free"))

-- a node below that name, offered at that price
abbrev pub offer_of : List Label → ℕ → Node → Offer
offer_of at price n = record { name = at ++ label_of n ∷ []; price = price }

-- the free ones of these nodes, each at that price
abbrev pub free_spaces : List Label → ℕ → List Node → List Offer
free_spaces at price ns = map (offer_of at price) (filter is_free_space ns)

-- ---- what an item offers

-- what a block offers by what its tariff says: each free space at the price of the stay, and nothing where the stay is too long
abbrev pub block_offers : Option Terms → ℕ → Arrival → List Label → Node → List Offer
block_offers None stay arrival at block = []
block_offers (Some t) stay arrival at block = if is_too_long t stay then [] else free_spaces at (price_of t arrival stay) (children_of block)

-- what an element at that name offers; a plain one nothing
abbrev pub element_offers : ℕ → Arrival → List Label → Element → List Offer
element_offers stay arrival at (elements.Node block) = block_offers (terms_of (local_of block).attrs) stay arrival at block
element_offers stay arrival at (elements.Plain plain) = []

-- what an item offers
abbrev pub item_offers : ℕ → Arrival → Item → List Offer
item_offers stay arrival item = element_offers stay arrival item.at item.is

-- whether an element is a block whose attributes say no tariff
abbrev pub lacks_tariff : Element → Bool
lacks_tariff (elements.Node block) = is_none (terms_of (local_of block).attrs)
lacks_tariff (elements.Plain plain) = false

-- the same of an item
abbrev pub is_bad : Item → Bool
is_bad item = lacks_tariff item.is

-- ---- their rank

-- by price, and then by name
abbrev pub offer_cmp : Offer → Offer → Ordering
offer_cmp = then_cmp (on (λ o. o.price) nat_cmp) (on (λ o. o.name) (slice_cmp label_cmp))

-- whether an offer comes before another
abbrev pub is_before : Offer → Offer → Bool
is_before a b = is_lt (offer_cmp a b)

-- offers by price and then by name
abbrev pub ranked : List Offer → List Offer
ranked offers = in_order is_before offers

-- ---- the offers of an answer

-- the first so many of all that the items offer, or the name of the first block without a tariff
abbrev pub offers_but : Option Item → ℕ → List Offer → Result (List Offer) (List Label)
offers_but None top all = Ok (take top (ranked all))
offers_but (Some bad) top all = Err bad.at

-- what the items of an answer offer for a stay, or the name of the first block whose attributes say no tariff
abbrev pub offers_of : List Item → Find → Arrival → Result (List Offer) (List Label)
offers_of items question arrival = offers_but (find is_bad items) question.top (flat_map (item_offers question.stay arrival) items)

-- the same offers, none before one that is cheaper, or as cheap with a lesser name
pub record AreRanked (given ordered : List Offer) : Type 0 where
  pub same : IsPermutation given ordered
  pub rise : IsSorted offer_cmp ordered
