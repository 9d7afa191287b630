-- What a query's program gives over all of a document is what the query means there.
use Rattle.std.proofs.Common.{◌≡◌, List, [], ap, sym, ◌∙◌, Some}
use Rattle.std.specs.List.{list_any}
use Rattle.std.specs.List.Sorted.{IsStrictlySortedBy}
use Rattle.iris_tree.specs.Universe.{Node, label_of}
use Rattle.iris_tree.specs.Document.{Place}
use Rattle.iris_xpath.proofs.PlaceOrder.{selected_rise}
use Rattle.iris_xpath.specs.Meaning.{selected}
use Rattle.iris_xpath.specs.PlaceOrder.{place_cmp, in_place_order}
use Rattle.iris_xpath.specs.Syntax.{Syntax}
use Rattle.iris_tree.specs.Items.{item_at, items_at}
use Rattle.iris_need.specs.Needs.{evaluation, missing_of, from_document}
use Rattle.iris_need.specs.Pieces.{Pieces, view_of, Agrees}
use Rattle.iris_need.specs.Program.{program}
use Rattle.iris_need.specs.Run.{eval}
use Rattle.iris_need.proofs.UndecidedIsRealWork.{determined_from}
use Rattle.iris_need.specs.Found.{reached_places}
use Rattle.iris_xpath.specs.Same.{HaveSame, some_passes}
use Rattle.iris_need.proofs.Items.{program_items}
use Rattle.iris_xpath.proofs.Order.{order_rises, order_same, one_order}
use Rattle.iris_need.proofs.Paths.{reached_same}
use Rattle.iris_xpath.proofs.Passes.{any_filter_map}
use Rattle.iris_need.proofs.Attributes.{IsCity}

-- the places that the program reaches, put in place order, are the selected ones
pub ordered_selected : (document : Node) (query : Syntax) → IsCity document → in_place_order (reached_places document query) ≡ selected document query
ordered_selected document query city =
    one_order (in_place_order (reached_places document query)) (selected document query) (order_rises (reached_places document query)) (selected_rise document query city.in_order.0)
    (λ t. order_same (reached_places document query) t ∙ reached_same document query city t)

-- so is any other list of the same places in place order, whatever puts it in order
pub any_order_selected : (document : Node) (query : Syntax) (places : List Place) → IsCity document → IsStrictlySortedBy place_cmp places → HaveSame places (reached_places document query) → places ≡ selected document query
any_order_selected document query places city rise same =
    one_order places (selected document query) rise (selected_rise document query city.in_order.0) (λ t. same t ∙ reached_same document query city t)

-- the program itself gives the same items, maybe several times and in another order
pub program_same : (document : Node) (query : Syntax) → IsCity document → HaveSame (eval document (program query (from_document (label_of document)))) (items_at document (selected document query))
program_same document query city t =
    ap (list_any t) (program_items document query city.in_order)
    ∙ any_filter_map t (item_at document) (reached_places document query)
    ∙ reached_same document query city (λ place. some_passes t (item_at document place))
    ∙ sym (any_filter_map t (item_at document) (selected document query))

-- where nothing is missing from the document on, an evaluation gives the items of the places that the program reaches in each document that agrees, and these places in order are what the query selects there
pub evaluation_meant : (query : Syntax) (view : Pieces) (document : Node) → IsCity document → Agrees document view → missing_of query (from_document (label_of document)) view ≡ []
    → ((evaluation query (from_document (label_of document)) (view_of view)).value ≡ Some (items_at document (reached_places document query))) × (in_place_order (reached_places document query) ≡ selected document query)
evaluation_meant query view document city agrees none = (determined_from query view document agrees none ∙ ap Some (program_items document query city.in_order), ordered_selected document query city)
