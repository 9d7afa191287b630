-- The program of a query that tells each item with its place, so that an answer can be put in order.
use Rattle.std.specs.Prelude.{List, [], ◌∷◌, map, fold, option_map}
use Rattle.std.specs.List.{filter_map}
use Rattle.std.specs.declared.cmp.Ordering.{Ordering}
use Rattle.std.specs.declared.cmp.Ordering.TheVariants.{Less, Equal, Greater}
use Rattle.iris_base.specs.declared.name.Label.{Label}
use Rattle.iris_tree.specs.Universe.{Node}
use Rattle.iris_tree.specs.Document.{Place}
use Rattle.iris_tree.specs.declared.item.Item.{Item}
use Rattle.iris_xpath.specs.PlaceOrder.{place_cmp}
use Rattle.iris_xpath.specs.Syntax.{Syntax, main_of}
use Rattle.iris_tree.specs.Items.{item_at}
use Rattle.iris_need.specs.Program.{Spot, document_spot, found}
use Rattle.iris_need.specs.Run.{Run, give, next}
use Rattle.iris_need.specs.Found.{goes_then}
use Rattle.iris_need.specs.Spots.{place_at}

-- an item and its place
pub record Placed : Type 0 where
  pub place : Place
  pub item : Item

-- an item at its place
abbrev pub placed : Place → Item → Placed
placed place item = record { place = place; item = item }

-- what is found, with its place; the looks are those of `found`
abbrev pub found_there : Spot → Run (List Placed)
found_there spot = next (found spot) (λ items. give (map (placed (place_at spot)) items))

-- the program of a query from the document on
abbrev pub placed_program : Syntax → Label → Run (List Placed)
placed_program query top = goes_then top 0 (map main_of query) found_there document_spot

-- the items of places, with the places
abbrev pub placed_in : Node → List Place → List Placed
placed_in document places = filter_map (λ place. option_map (placed place) (item_at document place)) places

-- ---- in place order, each place once

-- an item before another one, in its stead, or among those after it
abbrev pub put_found : Ordering → Placed → Placed → List Placed → List Placed → List Placed
put_found Less x y ys more = x ∷ y ∷ ys
put_found Equal x y ys more = y ∷ ys
put_found Greater x y ys more = y ∷ more

-- items in the order of their places with one more, if none is at its place yet
abbrev pub with_found : List Placed → Placed → List Placed
with_found [] x = x ∷ []
with_found (y ∷ ys) x = put_found (place_cmp x.place y.place) x y ys (with_found ys x)

-- items in the order of their places, each place once
abbrev pub in_order : List Placed → List Placed
in_order xs = fold with_found [] xs

-- the items, in the order of their places
abbrev pub answer_of_found : List Placed → List Item
answer_of_found xs = map (λ x. x.item) (in_order xs)
