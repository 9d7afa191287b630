-- The attributes that a program finds from a place are those that a path of the query takes there.
use Rattle.std.proofs.Common.{◌≡◌, ℕ, zero, suc, ◌-◌, Bool, true, false, cond, ◌&&◌, ◌||◌, List, [], ◌∷◌, ◌++◌, map, filter, refl, ap, sym, ◌∙◌, append-nil, codes, Option, Some, None}
use Rattle.std.specs.List.{list_any, filter_map}
use Rattle.std.proofs.lemmas.List.Folds.{list_any-append}
use Rattle.std.proofs.lemmas.Slice.Eq.{bytes_eq-Decides}
use Rattle.iris_base.specs.declared.name.Label.{Label}
use Rattle.iris_base.specs.declared.limits.TheConstants.{MAX_LABELS}
use Rattle.iris_tree.specs.Attrs.{value_of}
use Rattle.iris_tree.specs.declared.local.Local.{Local}
use Rattle.iris_tree.specs.Universe.{Node, node, Nodes, no_nodes, nodes, label_of, local_of, node_at}
use Rattle.iris_tree.specs.Document.{label, Place, place_of, Part, whole, a_node, a_plain, part_at_place, node_places, all_node_places, places}
use Rattle.iris_xpath.specs.Places.{is_above, element_at, element_paths, IsElementPath}
use Rattle.iris_xpath.specs.Meaning.{attribute_at, from_here}
use Rattle.iris_xpath.specs.declared.expression.Separator.{Separator}
use Rattle.iris_xpath.specs.declared.expression.Separator.TheVariants.{Slash, DoubleSlash}
use Rattle.iris_base.specs.declared.state.State.{State}
use Rattle.iris_need.specs.Program.{gather, join, Spot, document_spot, node_spot, element_spot, room, Marks, some_end, element_ends, see_attribute, attributes_from, own_attribute, attributes}
use Rattle.iris_base.specs.Attribute.{is_id}
use Rattle.iris_need.specs.Run.{Run, give, eval, ids_in}
use Rattle.iris_need.proofs.Documents.{Stands, children_stand, top_stands, room_is, ids_are, local_is, standing}
use Rattle.iris_xpath.specs.Same.{some_passes}
use Rattle.iris_need.specs.Spots.{place_at, IsSpot}
use Rattle.iris_need.specs.Documents.{IsDocument, HasNoPlainId, HasIdsAtNodesAlone}
use Rattle.iris_xpath.proofs.Below.{never_a_node, below, node_form, begins, always, elements_alike, elements_fail, above_begins, begins_twice, below_name, part_node, part_element, one_label_more}
use Rattle.iris_need.proofs.Steps.{children_any, below_element}
use Rattle.iris_xpath.proofs.Passes.{any_alike, any_map, any_filter, any_filter_map, or_false, or_assoc}

-- a document in which nodes alone have ids
pub record IsCity (document : Node) : Type 0 where
  pub in_order : IsDocument document
  pub plain_ids : HasIdsAtNodesAlone document

-- ---- values of attributes

-- whether there is an attribute at a place whose value passes
abbrev pub has_passing : Node → List ℕ → (Option (List ℕ) → Bool) → Place → Bool
has_passing document attr t place = some_passes (λ v. t (Some v)) (attribute_at attr (part_at_place document place))

some_end_any : (t : Option (List ℕ) → Bool) (o : Option (List ℕ)) → list_any t (some_end o) ≡ some_passes (λ v. t (Some v)) o
some_end_any t None = refl
some_end_any t (Some v) = or_false (t (Some v))

found_any : {X : Type 0} (t : Option (List ℕ) → Bool) (f : X → Option (List ℕ)) (xs : List X) → list_any t (map (λ v. Some v) (filter_map f xs)) ≡ list_any (λ x. some_passes (λ v. t (Some v)) (f x)) xs
found_any t f xs = any_map t (λ v. Some v) (filter_map f xs) ∙ any_filter_map (λ v. t (Some v)) f xs

-- ---- a node

-- what an attribute of a node has: `@id` is told by the label
abbrev of_node : Bool → List ℕ → Node → Option (List ℕ)
of_node by_id attr n = cond by_id (Some (label_of n).id) (value_of (local_of n).attrs attr)

own_any : (document : Node) (by_id : Bool) (marks : Marks) (attr : List ℕ) (name : List Label) (n : Node) (t : Option (List ℕ) → Bool) → node_at document name ≡ Some n
    → list_any t (eval document (own_attribute by_id marks attr name (label_of n))) ≡ some_passes (λ v. t (Some v)) (of_node by_id attr n)
own_any document true marks attr name n t h = or_false (t (Some (label_of n).id))
own_any document false marks attr name n t h = ap (λ (local : Local). list_any t (some_end (value_of local.attrs attr))) (local_is document name n h) ∙ some_end_any t (value_of (local_of n).attrs attr)

-- at the place of a node
at_node : (document : Node) (attr : List ℕ) (name : List Label) (n : Node) (t : Option (List ℕ) → Bool) → node_at document name ≡ Some n → some_passes (λ v. t (Some v)) (of_node (is_id attr) attr n) ≡ has_passing document attr t (place_of name)
at_node document attr name n t h = ap (λ (o : Option Part). some_passes (λ v. t (Some v)) (attribute_at attr o)) (sym (part_node document name n h))

-- ---- plain elements

ends_any : (document : Node) (attr : List ℕ) (name : List Label) (n : Node) (t : Option (List ℕ) → Bool) → node_at document name ≡ Some n
    → list_any t (element_ends attr (local_of n) (element_paths (local_of n))) ≡ list_any (λ q. has_passing document attr t (place_of name ++ q)) (element_paths (local_of n))
ends_any document attr name n t h =
    found_any t (λ path. attribute_at attr (element_at (local_of n) path)) (element_paths (local_of n))
    ∙ elements_alike _ _ (λ path is. ap (λ (o : Option Part). some_passes (λ v. t (Some v)) (attribute_at attr o)) (sym (part_element document name n path h is))) (local_of n)

no_id_passes : (o : Option Part) (t : Option (List ℕ) → Bool) (n : Node) (path : Place) → IsElementPath path → o ≡ element_at (local_of n) path → HasNoPlainId o → some_passes (λ v. t (Some v)) (attribute_at (codes "id") o) ≡ false
no_id_passes None t n path is e h = refl
no_id_passes (Some whole) t n path is e h = refl
no_id_passes (Some (a_node m)) t n path is e h = absurd (never_a_node m n path is e)
no_id_passes (Some (a_plain p)) t n path is e h = ap (some_passes (λ v. t (Some v))) h

-- no plain element has an attribute `id`
no_ids : (document : Node) (attr : List ℕ) (name : List Label) (n : Node) (t : Option (List ℕ) → Bool) → IsCity document → node_at document name ≡ Some n → is_id attr ≡ true
    → list_any (λ q. has_passing document attr t (place_of name ++ q)) (element_paths (local_of n)) ≡ false
no_ids document attr name n t city h is =
    elements_fail _ (λ path e.
    ap (λ (a : List ℕ). has_passing document a t (place_of name ++ path)) ((bytes_eq-Decides attr (codes "id")).0 is)
    ∙ no_id_passes (part_at_place document (place_of name ++ path)) t n path e (part_element document name n path h e) (city.plain_ids (place_of name ++ path))) (local_of n)

-- ---- a node with all below it

-- what a look at a node finds, with what further nodes give
see_any : (document : Node) (by_id : Bool) (attr : List ℕ) (name : List Label) (n : Node) (marks : List State) (k : List (Option (List ℕ)) → List Label → List (Option (List ℕ)) → Run (List (Option (List ℕ)))) (t : Option (List ℕ) → Bool) (further : Bool)
    → node_at document name ≡ Some n → ((own more : List (Option (List ℕ))) → list_any t (eval document (k own (ids_in document name) more)) ≡ ((list_any t own || list_any t more) || further))
    → (by_id ≡ true → list_any (λ q. has_passing document attr t (place_of name ++ q)) (element_paths (local_of n)) ≡ false)
    → list_any t (eval document (see_attribute by_id attr name (label_of n) marks k))
    ≡ ((some_passes (λ v. t (Some v)) (of_node by_id attr n) || list_any (λ q. has_passing document attr t (place_of name ++ q)) (element_paths (local_of n))) || further)
see_any document true attr name n marks k t further there gives none =
    gives (Some (label_of n).id ∷ []) []
    ∙ ap (λ b. (b || false) || further) (or_false (t (Some (label_of n).id)))
    ∙ ap (λ b. (t (Some (label_of n).id) || b) || further) (sym (none refl))
see_any document false attr name n marks k t further there gives none =
    ap (λ (local : Local). list_any t (eval document (k (some_end (value_of local.attrs attr)) (ids_in document name) (element_ends attr local (element_paths local))))) (local_is document name n there)
    ∙ gives (some_end (value_of (local_of n).attrs attr)) (element_ends attr (local_of n) (element_paths (local_of n)))
    ∙ ap (λ b. (b || list_any t (element_ends attr (local_of n) (element_paths (local_of n)))) || further) (some_end_any t (value_of (local_of n).attrs attr))
    ∙ ap (λ b. (some_passes (λ v. t (Some v)) (value_of (local_of n).attrs attr) || b) || further) (ends_any document attr name n t there)

-- the places at or below a node: its own, its plain elements and those of nodes
pub all_places : (there : Place → Bool) (l : Label) (local : Local) (ns : Nodes) (name : List Label)
    → list_any (λ q. there (place_of name ++ q)) (below (node l local ns)) ≡ ((there (place_of name) || list_any (λ q. there (place_of name ++ q)) (element_paths local)) || list_any (λ q. there (place_of name ++ q)) (all_node_places ns))
all_places there l local ns name =
    ap (λ (p : Place). there p || list_any (λ q. there (place_of name ++ q)) (element_paths local ++ all_node_places ns)) (append-nil (place_of name))
    ∙ ap (λ b. there (place_of name) || b) (list_any-append (λ q. there (place_of name ++ q)) (element_paths local) (all_node_places ns))
    ∙ sym (or_assoc (there (place_of name)) (list_any (λ q. there (place_of name ++ q)) (element_paths local)) (list_any (λ q. there (place_of name ++ q)) (all_node_places ns)))

-- the places of a child, from the child on
pub child_places : (there : Place → Bool) (name : List Label) (c : Node) → list_any (λ q. there (place_of (name ++ label_of c ∷ []) ++ q)) (below c) ≡ list_any (λ q. there (place_of name ++ q)) (node_places c)
child_places there name c =
    any_alike _ _ (λ q. ap there (one_label_more name (label_of c) q)) (below c)
    ∙ sym (ap (list_any (λ q. there (place_of name ++ q))) (node_form c) ∙ any_map (λ q. there (place_of name ++ q)) (λ place. label (label_of c) ∷ place) (below c))

from_any : (document : Node) (levels : ℕ) (marks : Marks) (attr : List ℕ) (name : List Label) (n : Node) (t : Option (List ℕ) → Bool) → IsCity document → Stands document name n levels
    → list_any t (eval document (attributes_from levels marks attr name (label_of n))) ≡ list_any (λ q. has_passing document attr t (place_of name ++ q)) (below n)
from_any document zero marks attr name (node l local no_nodes) t city h =
    let n = node l local no_nodes in
    see_any document (is_id attr) attr name n (marks name) (λ own ids more. give (own ++ more)) t false h.there
    (λ own more. list_any-append t own more ∙ sym (or_false (list_any t own || list_any t more)))
    (no_ids document attr name n t city h.there)
    ∙ ap (λ b. (b || list_any (λ q. has_passing document attr t (place_of name ++ q)) (element_paths local)) || false) (at_node document attr name n t h.there)
    ∙ sym (all_places (has_passing document attr t) l local no_nodes name)
from_any document zero marks attr name (node l local (nodes c cs)) t city h = absurd h.bounded
from_any document (suc levels) marks attr name (node l local below) t city h =
    let n = node l local below in
    let child = λ (c : Label). attributes_from levels marks attr (name ++ c ∷ []) c in
    let further = list_any (λ q. has_passing document attr t (place_of name ++ q)) (all_node_places below) in
    let lower : list_any t (eval document (gather child (ids_in document name))) ≡ further =
    ap (λ (ids : List Label). list_any t (eval document (gather child ids))) (ids_are document name n h.there)
    ∙ children_any document name levels child t (λ q. has_passing document attr t (place_of name ++ q))
    (λ c stands. from_any document levels marks attr (name ++ label_of c ∷ []) c t city stands ∙ child_places (has_passing document attr t) name c)
    below (children_stand document name l local below (suc levels) h) in
    see_any document (is_id attr) attr name n (marks name) (λ own ids more. join (give (own ++ more)) (gather child ids)) t further h.there
    (λ own more. list_any-append t (own ++ more) (eval document (gather child (ids_in document name))) ∙ ap (λ b. b || list_any t (eval document (gather child (ids_in document name)))) (list_any-append t own more) ∙ ap (λ b. (list_any t own || list_any t more) || b) lower)
    (no_ids document attr name n t city h.there)
    ∙ ap (λ b. (b || list_any (λ q. has_passing document attr t (place_of name ++ q)) (element_paths local)) || further) (at_node document attr name n t h.there)
    ∙ sym (all_places (has_passing document attr t) l local below name)

-- ---- any place

meant_any : (document : Node) (s : Separator) (attr : List ℕ) (t : Option (List ℕ) → Bool) (place : Place)
    → list_any t (map (λ value. Some value) (filter_map (λ at. attribute_at attr (part_at_place document at)) (from_here document s place))) ≡ list_any (has_passing document attr t) (from_here document s place)
meant_any document s attr t place = found_any t (λ at. attribute_at attr (part_at_place document at)) (from_here document s place)

here_any : (document : Node) (attr : List ℕ) (t : Option (List ℕ) → Bool) (place : Place) → list_any (has_passing document attr t) (from_here document Slash place) ≡ has_passing document attr t place
here_any document attr t place = or_false (has_passing document attr t place)

deep_any : (document : Node) (attr : List ℕ) (t : Option (List ℕ) → Bool) (place : Place) → list_any (has_passing document attr t) (from_here document DoubleSlash place) ≡ list_any (λ q. begins always place q && has_passing document attr t q) (places document)
deep_any document attr t place =
    any_filter (has_passing document attr t) (is_above place) (places document) ∙ any_alike _ _ (λ q. ap (λ b. b && has_passing document attr t q) (above_begins place q)) (places document)

-- the attributes of a path's end
pub attributes_any : (document : Node) (marks : Marks) (s : Separator) (attr : List ℕ) (spot : Spot) (t : Option (List ℕ) → Bool) → IsCity document → IsSpot document spot
    → list_any t (eval document (attributes (label_of document) marks s attr spot)) ≡ list_any t (map (λ value. Some value) (filter_map (λ at. attribute_at attr (part_at_place document at)) (from_here document s (place_at spot))))
attributes_any document marks Slash attr document_spot t city is = refl
attributes_any document marks Slash attr (node_spot name l) t city is =
    ap (λ (m : Label). list_any t (eval document (own_attribute (is_id attr) marks attr name m))) (sym is.label_is)
    ∙ own_any document (is_id attr) marks attr name is.node t is.there
    ∙ at_node document attr name is.node t is.there
    ∙ sym (meant_any document Slash attr t (place_of name) ∙ here_any document attr t (place_of name))
attributes_any document marks Slash attr (element_spot name local path) t city is =
    found_any t (λ p. attribute_at attr (element_at local p)) (path ∷ [])
    ∙ or_false (some_passes (λ v. t (Some v)) (attribute_at attr (element_at local path)))
    ∙ ap (λ (x : Local). some_passes (λ v. t (Some v)) (attribute_at attr (element_at x path))) (sym is.local_is)
    ∙ ap (λ (o : Option Part). some_passes (λ v. t (Some v)) (attribute_at attr o)) (sym (part_element document name is.node path is.there is.path_is))
    ∙ sym (meant_any document Slash attr t (place_of name ++ path) ∙ here_any document attr t (place_of name ++ path))
attributes_any document marks DoubleSlash attr document_spot t city is =
    let top = label_of document in
    let stands = top_stands document city.in_order in
    ap (λ levels. list_any t (eval document (attributes_from levels marks attr (top ∷ []) top))) (room_is document (top ∷ []) document (MAX_LABELS - 1) stands)
    ∙ from_any document (MAX_LABELS - 1) marks attr (top ∷ []) document t city stands
    ∙ child_places (has_passing document attr t) [] document
    ∙ sym (meant_any document DoubleSlash attr t [] ∙ deep_any document attr t [])
attributes_any document marks DoubleSlash attr (node_spot name l) t city is =
    let stands = standing document name is.node city.in_order is.there in
    ap (λ (m : Label). list_any t (eval document (attributes_from (room name) marks attr name m))) (sym is.label_is)
    ∙ ap (λ levels. list_any t (eval document (attributes_from levels marks attr name (label_of is.node)))) (room_is document name is.node stands.0 stands.1)
    ∙ from_any document stands.0 marks attr name is.node t city stands.1
    ∙ sym (meant_any document DoubleSlash attr t (place_of name) ∙ deep_any document attr t (place_of name) ∙ below_name always (has_passing document attr t) document name is.node city.in_order.0 is.there)
attributes_any document marks DoubleSlash attr (element_spot name local path) t city is =
    ap (λ (x : Local). list_any t (element_ends attr x (filter (is_above path) (element_paths x)))) (sym is.local_is)
    ∙ found_any t (λ p. attribute_at attr (element_at (local_of is.node) p)) (filter (is_above path) (element_paths (local_of is.node)))
    ∙ any_filter (λ p. some_passes (λ v. t (Some v)) (attribute_at attr (element_at (local_of is.node) p))) (is_above path) (element_paths (local_of is.node))
    ∙ elements_alike _ _ (λ q e.
    ap (λ b. b && some_passes (λ v. t (Some v)) (attribute_at attr (element_at (local_of is.node) q))) (above_begins path q)
    ∙ ap (λ (o : Option Part). begins always path q && some_passes (λ v. t (Some v)) (attribute_at attr o)) (sym (part_element document name is.node q is.there e))) (local_of is.node)
    ∙ sym (meant_any document DoubleSlash attr t (place_of name ++ path)
    ∙ deep_any document attr t (place_of name ++ path)
    ∙ any_alike _ _ (λ q. ap (λ b. b && has_passing document attr t q) (begins_twice always (place_of name) path q)) (places document)
    ∙ below_name (begins always path) (has_passing document attr t) document name is.node city.in_order.0 is.there
    ∙ below_element always (λ q. has_passing document attr t (place_of name ++ q)) path is.node is.path_is)
