-- The program that tells places gives the answer.
use Rattle.std.proofs.Common.{◌≡◌, Bool, cond, ◌&&◌, List, [], ◌∷◌, map, filter, fold, refl, ap, sym, ◌∙◌, Option, Some, None, is_some, option_map}
use Rattle.std.specs.List.{AllByRecursion, list_any, cons_option}
use Rattle.std.specs.declared.cmp.Ordering.{Ordering}
use Rattle.std.specs.declared.cmp.Ordering.TheVariants.{Less, Equal, Greater}
use Rattle.std.proofs.lemmas.List.Elements.{filter_map-append}
use Rattle.std.proofs.lemmas.List.Kept.{IsStrictlySortedBy-filter}
use Rattle.iris_tree.specs.Universe.{Node, label_of}
use Rattle.iris_tree.specs.Document.{Place}
use Rattle.iris_tree.specs.declared.item.Item.{Item}
use Rattle.iris_xpath.proofs.PlaceOrder.{selected_rise}
use Rattle.iris_xpath.specs.Meaning.{selected}
use Rattle.iris_xpath.specs.PlaceOrder.{place_cmp, put_place, with_place, in_place_order}
use Rattle.iris_xpath.specs.Syntax.{Syntax, main_of}
use Rattle.iris_need.specs.Documents.{IsDocument}
use Rattle.iris_tree.specs.Items.{item_at, items_at}
use Rattle.iris_need.specs.Needs.{from_document}
use Rattle.iris_need.specs.Program.{document_spot, program}
use Rattle.iris_need.specs.Run.{give, eval}
use Rattle.iris_need.specs.Found.{reached_places}
use Rattle.iris_need.specs.Placed.{Placed, placed, found_there, placed_program, placed_in, put_found, with_found, in_order, answer_of_found}
use Rattle.iris_xpath.specs.Same.{some_passes}
use Rattle.iris_need.specs.Spots.{place_at}
use Rattle.iris_need.proofs.Items.{Gives, then_gives, found_is, program_items}
use Rattle.iris_xpath.proofs.Order.{order_rises, order_same, one_order}
use Rattle.iris_need.proofs.Paths.{reached_same}
use Rattle.iris_xpath.proofs.Passes.{any_alike, any_map, any_filter, any_filter_map}
use Rattle.iris_need.proofs.Attributes.{IsCity}

-- ---- what it gives

with_place_of : (place : Place) (o : Option Item) → map (placed place) (cons_option o []) ≡ cons_option (option_map (placed place) o) []
with_place_of place None = refl
with_place_of place (Some item) = refl

there_is : (document : Node) → IsDocument document → Gives document (placed_in document) found_there (λ spot. give (place_at spot ∷ []))
there_is document in_order spot is = ap (map (placed (place_at spot))) (found_is document in_order spot is) ∙ with_place_of (place_at spot) (item_at document (place_at spot))

-- each place that is reached, with its item
pub placed_items : (document : Node) (query : Syntax) → IsDocument document → eval document (placed_program query (label_of document)) ≡ placed_in document (reached_places document query)
placed_items document query in_order =
    then_gives document (placed_in document) (record { nothing = refl; parts = filter_map-append (λ place. option_map (placed place) (item_at document place)) }) 0 (map main_of query) found_there (λ spot. give (place_at spot ∷ [])) in_order
    (there_is document in_order) document_spot tt

-- ---- in order

put_at : (o : Ordering) (x y : Placed) (ys more : List Placed) → map (λ z. z.place) (put_found o x y ys more) ≡ put_place o x.place y.place (map (λ z. z.place) ys) (map (λ z. z.place) more)
put_at Less x y ys more = refl
put_at Equal x y ys more = refl
put_at Greater x y ys more = refl

with_at : (ys : List Placed) (x : Placed) → map (λ z. z.place) (with_found ys x) ≡ with_place (map (λ z. z.place) ys) x.place
with_at [] x = refl
with_at (y ∷ ys) x = put_at (place_cmp x.place y.place) x y ys (with_found ys x) ∙ ap (put_place (place_cmp x.place y.place) x.place y.place (map (λ z. z.place) ys)) (with_at ys x)

fold_at : (xs ys : List Placed) → map (λ z. z.place) (fold with_found ys xs) ≡ fold with_place (map (λ z. z.place) ys) (map (λ z. z.place) xs)
fold_at [] ys = refl
fold_at (x ∷ xs) ys = fold_at xs (with_found ys x) ∙ ap (λ (ps : List Place). fold with_place ps (map (λ z. z.place) xs)) (with_at ys x)

-- each is the item of its place
abbrev AreItems : Node → List Placed → Type 0
AreItems document = AllByRecursion (λ x. item_at document x.place ≡ Some x.item)

put_items : (document : Node) (o : Ordering) (x y : Placed) (ys more : List Placed) → item_at document x.place ≡ Some x.item → item_at document y.place ≡ Some y.item → AreItems document ys → AreItems document more → AreItems document (put_found o x y ys more)
put_items document Less x y ys more h k rest also = (h, (k, rest))
put_items document Equal x y ys more h k rest also = (k, rest)
put_items document Greater x y ys more h k rest also = (k, also)

with_items : (document : Node) (ys : List Placed) (x : Placed) → item_at document x.place ≡ Some x.item → AreItems document ys → AreItems document (with_found ys x)
with_items document [] x h k = (h, tt)
with_items document (y ∷ ys) x h k = put_items document (place_cmp x.place y.place) x y ys (with_found ys x) h k.0 k.1 (with_items document ys x h k.1)

fold_items : (document : Node) (xs ys : List Placed) → AreItems document xs → AreItems document ys → AreItems document (fold with_found ys xs)
fold_items document [] ys h k = k
fold_items document (x ∷ xs) ys h k = fold_items document xs (with_found ys x) h.1 (with_items document ys x h.0 k)

put_item : (document : Node) (place : Place) (o : Option Item) → item_at document place ≡ o → (xs : List Placed) → AreItems document xs → AreItems document (cons_option (option_map (placed place) o) xs)
put_item document place None e xs h = h
put_item document place (Some item) e xs h = (e, h)

placed_are_items : (document : Node) (places : List Place) → AreItems document (placed_in document places)
placed_are_items document [] = tt
placed_are_items document (p ∷ ps) = put_item document p (item_at document p) refl (placed_in document ps) (placed_are_items document ps)

-- the items are those of the places
items_of_placed : (document : Node) (xs : List Placed) → AreItems document xs → map (λ x. x.item) xs ≡ items_at document (map (λ x. x.place) xs)
items_of_placed document [] h = refl
items_of_placed document (x ∷ xs) h = ap (λ (ys : List Item). x.item ∷ ys) (items_of_placed document xs h.1) ∙ ap (λ (o : Option Item). cons_option o (items_at document (map (λ z. z.place) xs))) (sym h.0)

-- whether a place has an item; the document has none
abbrev has_item : Node → Place → Bool
has_item document place = is_some (item_at document place)

item_or_none : (t : Place → Bool) (place : Place) (o : Option Item) → some_passes (λ (x : Placed). t x.place) (option_map (placed place) o) ≡ (is_some o && t place)
item_or_none t place None = refl
item_or_none t place (Some item) = refl

placed_any : (document : Node) (t : Place → Bool) (places : List Place) → list_any t (map (λ x. x.place) (placed_in document places)) ≡ list_any (λ place. has_item document place && t place) places
placed_any document t places =
    any_map t (λ (x : Placed). x.place) (placed_in document places)
    ∙ any_filter_map (λ (x : Placed). t x.place) (λ place. option_map (placed place) (item_at document place)) places
    ∙ any_alike _ _ (λ place. item_or_none t place (item_at document place)) places

kept_items : (document : Node) (p : Place) (ps : List Place) (o : Option Item) → item_at document p ≡ o → items_at document (cond (is_some o) (p ∷ ps) ps) ≡ cons_option o (items_at document ps)
kept_items document p ps None e = refl
kept_items document p ps (Some item) e = ap (λ (o : Option Item). cons_option o (items_at document ps)) e

-- what has no item adds none
items_kept : (document : Node) (ps : List Place) → items_at document (filter (has_item document) ps) ≡ items_at document ps
items_kept document [] = refl
items_kept document (p ∷ ps) = kept_items document p (filter (has_item document) ps) (item_at document p) refl ∙ ap (cons_option (item_at document p)) (items_kept document ps)

places_with_items : (document : Node) (query : Syntax) → IsCity document → in_place_order (map (λ x. x.place) (placed_in document (reached_places document query))) ≡ filter (has_item document) (selected document query)
places_with_items document query city =
    let ps = map (λ (x : Placed). x.place) (placed_in document (reached_places document query)) in
    one_order (in_place_order ps) (filter (has_item document) (selected document query)) (order_rises ps)
    (IsStrictlySortedBy-filter place_cmp (has_item document) (selected document query) (selected_rise document query city.in_order.0))
    (λ t. order_same ps t ∙ placed_any document t (reached_places document query) ∙ reached_same document query city (λ place. has_item document place && t place) ∙ sym (any_filter t (has_item document) (selected document query)))

-- put in order by the places, its items are the answer
pub placed_meant : (document : Node) (query : Syntax) → IsCity document → answer_of_found (eval document (placed_program query (label_of document))) ≡ items_at document (selected document query)
placed_meant document query city =
    let xs = placed_in document (reached_places document query) in
    ap answer_of_found (placed_items document query city.in_order)
    ∙ items_of_placed document (in_order xs) (fold_items document xs [] (placed_are_items document (reached_places document query)) tt)
    ∙ ap (items_at document) (fold_at xs [] ∙ places_with_items document query city)
    ∙ items_kept document (selected document query)

-- its items are those of the program, one for one
pub placed_same : (document : Node) (query : Syntax) → IsDocument document → map (λ x. x.item) (eval document (placed_program query (label_of document))) ≡ eval document (program query (from_document (label_of document)))
placed_same document query in_order =
    ap (map (λ (x : Placed). x.item)) (placed_items document query in_order)
    ∙ items_of_placed document (placed_in document (reached_places document query)) (placed_are_items document (reached_places document query))
    ∙ listed (reached_places document query)
    ∙ sym (program_items document query in_order)
  where
    one : (place : Place) (o : Option Item) → item_at document place ≡ o → (ps : List Place) → items_at document (map (λ (x : Placed). x.place) (cons_option (option_map (placed place) o) (placed_in document ps))) ≡ cons_option o (items_at document (map (λ (x : Placed). x.place) (placed_in document ps)))
    one place None e ps = refl
    one place (Some item) e ps = ap (λ (o : Option Item). cons_option o (items_at document (map (λ (x : Placed). x.place) (placed_in document ps)))) e

    listed : (ps : List Place) → items_at document (map (λ (x : Placed). x.place) (placed_in document ps)) ≡ items_at document ps
    listed [] = refl
    listed (p ∷ ps) = one p (item_at document p) refl ps ∙ ap (cons_option (item_at document p)) (listed ps)
