-- The program of a query looks at the nodes at which the query looks.
use Rattle.std.proofs.Common.{◌≡◌, ℕ, zero, suc, ◌-◌, ◌+◌, Bool, true, false, ◌&&◌, ◌||◌, List, [], ◌∷◌, ◌++◌, map, refl, ap, sym, ◌∙◌, append-nil, Option, Some}
use Rattle.std.specs.List.{list_any}
use Rattle.std.proofs.lemmas.List.Folds.{list_any-append}
use Rattle.iris_base.specs.declared.name.Label.{Label}
use Rattle.iris_base.specs.declared.limits.TheConstants.{MAX_LABELS}
use Rattle.iris_tree.specs.declared.local.Local.{Local}
use Rattle.iris_tree.specs.Universe.{Node, node, Nodes, no_nodes, nodes, list_of, label_of, labels_of, node_at}
use Rattle.iris_tree.specs.Document.{label, Place, place_of, node_places, all_node_places}
use Rattle.iris_xpath.specs.Meaning as meaning
use Rattle.iris_xpath.specs.Syntax.{Syntax, Condition, any_of, all_of, not_so, selects, compares, Conditions, no_conditions, conditions, Side, values_of, literal, number, Steps, here, attribute, itself, parent, step, MainStep, main_of}
use Rattle.iris_xpath.specs.declared.expression.Separator.{Separator}
use Rattle.iris_xpath.specs.declared.expression.Separator.TheVariants.{Slash, DoubleSlash}
use Rattle.iris_need.specs.declared.need.Need.{Need}
use Rattle.iris_base.specs.declared.state.State.{State}
use Rattle.iris_base.specs.declared.state.State.TheVariants as states
use Rattle.iris_need.specs.Documents.{IsDocument}
use Rattle.iris_need.specs.Needs.{from_document, extent_of_level}
use Rattle.iris_need.specs.Needs as needs
use Rattle.iris_need.specs.Program.{each, gather, join, Spot, document_spot, node_spot, element_spot, room, Marks, where_so, and_so, see_attribute, attributes_from, own_attribute, attributes, subtree, found, tested, tested_at, goes, go_at, spots_above}
use Rattle.iris_base.specs.Attribute.{is_id}
use Rattle.iris_need.specs.Program as program
use Rattle.iris_need.specs.Run as runs
use Rattle.iris_need.specs.Run.{Run, give, next, run, eval, ids_in, local_in}
use Rattle.iris_need.proofs.Documents.{Stands, AllStand, children_stand, top_stands, room_is, ids_are, standing}
use Rattle.iris_xpath.specs.Looks as extents
use Rattle.iris_xpath.specs.Looks.{Extent, Looks, look_at, looks_from, attribute_looks, ends_look, side_looks, condition_looks, each_look, all_look, whole_looks, path_looks, query_looks}
use Rattle.iris_need.specs.Spots.{place_at, IsSpot}
use Rattle.iris_need.proofs.Attributes.{IsCity, all_places, child_places}
use Rattle.iris_xpath.proofs.Below.{below, node_form, has_edge, elements_fail, first_and_below}
use Rattle.iris_need.proofs.Looking.{looking, log_looking, gather_looking, where_looking, children_looking, LooksWhere, look_node, look_element, stays, from_node_place, from_element_place, from_top_place, reach_looking}
use Rattle.iris_need.proofs.Predicates.{parents_any, holds_is, all_hold_is}
use Rattle.iris_xpath.proofs.Passes.{any_fails, any_map, or_false}

-- ---- a place alone

not_here : (b : Bool) (q : Place) → (has_edge q && (stays Slash q && b)) ≡ false
not_here b [] = refl
not_here b (e ∷ q) = refl

-- the node at a place
here_only : (document : Node) (looks : Looks) (extent : Extent) (name : List Label) (n : Node) → IsDocument document → node_at document name ≡ Some n → looks_from document looks Slash extent (place_of name) ≡ looks name extent
here_only document looks extent name n h there =
    let look = λ (q : Place). look_at document looks extent (place_of name ++ q) in
    from_node_place document looks Slash extent name n h there
    ∙ first_and_below (λ q. stays Slash q && look q) n
    ∙ ap (λ b. look [] || b) (any_fails _ (λ q. not_here (look q) q) (below n))
    ∙ or_false (look [])
    ∙ ap (look_at document looks extent) (append-nil (place_of name))
    ∙ look_node document looks extent name n there

-- the document is not looked at
none_at_document : (document : Node) (looks : Looks) (extent : Extent) → looks_from document looks Slash extent [] ≡ false
none_at_document document looks extent =
    from_top_place document looks Slash extent
    ∙ ap (list_any (λ q. stays Slash q && look_at document looks extent q)) (node_form document)
    ∙ any_map (λ q. stays Slash q && look_at document looks extent q) (λ place. label (label_of document) ∷ place) (below document)
    ∙ any_fails _ (λ q. refl) (below document)

-- ---- a node with all below it

-- its own place, and those of the nodes below it
node_looks : (document : Node) (looks : Looks) (extent : Extent) (name : List Label) (l : Label) (local : Local) (ns : Nodes) → node_at document name ≡ Some (node l local ns)
    → list_any (λ q. look_at document looks extent (place_of name ++ q)) (below (node l local ns)) ≡ (looks name extent || list_any (λ q. look_at document looks extent (place_of name ++ q)) (all_node_places ns))
node_looks document looks extent name l local ns there =
    let n = node l local ns in
    let further = list_any (λ q. look_at document looks extent (place_of name ++ q)) (all_node_places ns) in
    all_places (look_at document looks extent) l local ns name
    ∙ ap (λ b. (look_at document looks extent (place_of name) || b) || further) (elements_fail _ (λ path is. look_element document looks extent name n path there is) local)
    ∙ ap (λ b. b || further) (or_false (look_at document looks extent (place_of name)))
    ∙ ap (λ b. b || further) (look_node document looks extent name n there)

each_looking : (document : Node) (looks : Looks) (name : List Label) (levels : ℕ) → ((c : Node) → Stands document (name ++ label_of c ∷ []) c levels → looking document looks (subtree levels (label_of c) (name ++ label_of c ∷ [])) ≡ list_any (λ q. look_at document looks extents.full (place_of name ++ q)) (node_places c))
    → (ns : Nodes) → AllStand document name ns (suc levels) → looking document looks (each (λ child. subtree levels child (name ++ child ∷ [])) (labels_of (list_of ns))) ≡ list_any (λ q. look_at document looks extents.full (place_of name ++ q)) (all_node_places ns)
each_looking document looks name levels so no_nodes h = refl
each_looking document looks name levels so (nodes c cs) h =
    ap (λ b. b || looking document looks (each (λ child. subtree levels child (name ++ child ∷ [])) (labels_of (list_of cs)))) (so c h.0)
    ∙ ap (λ b. list_any (λ q. look_at document looks extents.full (place_of name ++ q)) (node_places c) || b) (each_looking document looks name levels so cs h.1)
    ∙ sym (list_any-append (λ q. look_at document looks extents.full (place_of name ++ q)) (node_places c) (all_node_places cs))

subtree_looking : (document : Node) (looks : Looks) (levels : ℕ) (n : Node) (name : List Label) → Stands document name n levels
    → looking document looks (subtree levels (label_of n) name) ≡ list_any (λ q. look_at document looks extents.full (place_of name ++ q)) (below n)
subtree_looking document looks zero (node l local no_nodes) name h = sym (node_looks document looks extents.full name l local no_nodes h.there)
subtree_looking document looks zero (node l local (nodes c cs)) name h = absurd h.bounded
subtree_looking document looks (suc levels) (node l local below) name h =
    let child = λ (c : Label). subtree levels c (name ++ c ∷ []) in
    ap (λ b. looks name extents.full || b)
    (or_false (looking document looks (each child (ids_in document name)))
    ∙ ap (λ (ids : List Label). looking document looks (each child ids)) (ids_are document name (node l local below) h.there)
    ∙ each_looking document looks name levels (λ c s. subtree_looking document looks levels c (name ++ label_of c ∷ []) s ∙ child_places (look_at document looks extents.full) name c) below (children_stand document name l local below (suc levels) h))
    ∙ sym (node_looks document looks extents.full name l local below h.there)

from_whole : (document : Node) (looks : Looks) (name : List Label) (n : Node) → node_at document name ≡ Some n → whole_looks document looks (place_of name) ≡ looks_from document looks DoubleSlash extents.full (place_of name)
from_whole document looks [] n there = absurd (cc)
from_whole document looks (l ∷ name) n there = refl

from_whole_element : (document : Node) (looks : Looks) (name : List Label) (path : Place) (n : Node) → node_at document name ≡ Some n → whole_looks document looks (place_of name ++ path) ≡ looks_from document looks DoubleSlash extents.full (place_of name ++ path)
from_whole_element document looks [] path n there = absurd (cc)
from_whole_element document looks (l ∷ name) path n there = refl

found_looking : (document : Node) (looks : Looks) → IsDocument document → LooksWhere document looks found (whole_looks document looks)
found_looking document looks h document_spot is = refl
found_looking document looks h (node_spot name l) is =
    let n = is.node in
    let stands = standing document name n h is.there in
    or_false (looking document looks (subtree (room name) l name))
    ∙ ap (λ (m : Label). looking document looks (subtree (room name) m name)) (sym is.label_is)
    ∙ ap (λ levels. looking document looks (subtree levels (label_of n) name)) (room_is document name n stands.0 stands.1)
    ∙ subtree_looking document looks stands.0 n name stands.1
    ∙ sym (from_whole document looks name n is.there ∙ from_node_place document looks DoubleSlash extents.full name n h is.there)
found_looking document looks h (element_spot name local path) is =
    sym (from_whole_element document looks name path is.node is.there ∙ from_element_place document looks DoubleSlash extents.full name is.node path h is.there is.path_is)

-- ---- attributes

abbrev attribute_extent : Bool → Extent
attribute_extent true = extents.ids
attribute_extent false = extents.full

see_looking : (document : Node) (looks : Looks) (by_id : Bool) (attr : List ℕ) (name : List Label) (l : Label) (marks : List State) (k : List (Option (List ℕ)) → List Label → List (Option (List ℕ)) → Run (List (Option (List ℕ)))) (further : Bool)
    → ((own more : List (Option (List ℕ))) → looking document looks (k own (ids_in document name) more) ≡ further) → looking document looks (see_attribute by_id attr name l marks k) ≡ (looks name (attribute_extent by_id) || further)
see_looking document looks true attr name l marks k further h = ap (λ b. looks name extents.ids || b) (h _ _)
see_looking document looks false attr name l marks k further h = ap (λ b. looks name extents.full || b) (h _ _)

from_looking : (document : Node) (looks : Looks) (levels : ℕ) (marks : Marks) (attr : List ℕ) (name : List Label) (n : Node) → Stands document name n levels
    → looking document looks (attributes_from levels marks attr name (label_of n)) ≡ list_any (λ q. look_at document looks (attribute_extent (is_id attr)) (place_of name ++ q)) (below n)
from_looking document looks zero marks attr name (node l local no_nodes) h =
    see_looking document looks (is_id attr) attr name l (marks name) (λ own ids more. give (own ++ more)) false (λ own more. refl)
    ∙ sym (node_looks document looks (attribute_extent (is_id attr)) name l local no_nodes h.there)
from_looking document looks zero marks attr name (node l local (nodes c cs)) h = absurd h.bounded
from_looking document looks (suc levels) marks attr name (node l local below) h =
    let child = λ (c : Label). attributes_from levels marks attr (name ++ c ∷ []) c in
    let extent = attribute_extent (is_id attr) in
    see_looking document looks (is_id attr) attr name l (marks name) (λ own ids more. join (give (own ++ more)) (gather child ids)) (list_any (λ q. look_at document looks extent (place_of name ++ q)) (all_node_places below))
    (λ own more. ap (λ (ids : List Label). looking document looks (gather child ids)) (ids_are document name (node l local below) h.there)
    ∙ children_looking document looks name levels child (λ q. look_at document looks extent (place_of name ++ q))
    (λ c s. from_looking document looks levels marks attr (name ++ label_of c ∷ []) c s ∙ child_places (look_at document looks extent) name c) below (children_stand document name l local below (suc levels) h))
    ∙ sym (node_looks document looks extent name l local below h.there)

deep_looks : (document : Node) (looks : Looks) (by_id : Bool) (place : Place) → attribute_looks document looks DoubleSlash by_id place ≡ looks_from document looks DoubleSlash (attribute_extent by_id) place
deep_looks document looks true place = refl
deep_looks document looks false place = refl

slash_document : (document : Node) (looks : Looks) (by_id : Bool) → attribute_looks document looks Slash by_id [] ≡ false
slash_document document looks true = refl
slash_document document looks false = none_at_document document looks extents.full

slash_node : (document : Node) (looks : Looks) (by_id : Bool) (marks : Marks) (attr : List ℕ) (name : List Label) (l : Label) (n : Node) → IsDocument document → node_at document name ≡ Some n
    → looking document looks (own_attribute by_id marks attr name l) ≡ attribute_looks document looks Slash by_id (place_of name)
slash_node document looks true marks attr name l n h there = refl
slash_node document looks false marks attr name l n h there = or_false (looks name extents.full) ∙ sym (here_only document looks extents.full name n h there)

slash_element : (document : Node) (looks : Looks) (by_id : Bool) (place : Place) → looks_from document looks Slash extents.full place ≡ false → attribute_looks document looks Slash by_id place ≡ false
slash_element document looks true place h = refl
slash_element document looks false place h = h

attributes_looking : (document : Node) (looks : Looks) (marks : Marks) (s : Separator) (attr : List ℕ) (spot : Spot) → IsDocument document → IsSpot document spot
    → looking document looks (attributes (label_of document) marks s attr spot) ≡ attribute_looks document looks s (is_id attr) (place_at spot)
attributes_looking document looks marks Slash attr document_spot h is = sym (slash_document document looks (is_id attr))
attributes_looking document looks marks Slash attr (node_spot name l) h is = slash_node document looks (is_id attr) marks attr name l is.node h is.there
attributes_looking document looks marks Slash attr (element_spot name local path) h is =
    sym (slash_element document looks (is_id attr) (place_of name ++ path) (from_element_place document looks Slash extents.full name is.node path h is.there is.path_is))
attributes_looking document looks marks DoubleSlash attr document_spot h is =
    let top = label_of document in
    let stands = top_stands document h in
    ap (λ levels. looking document looks (attributes_from levels marks attr (top ∷ []) top)) (room_is document (top ∷ []) document (MAX_LABELS - 1) stands)
    ∙ from_looking document looks (MAX_LABELS - 1) marks attr (top ∷ []) document stands
    ∙ child_places (look_at document looks (attribute_extent (is_id attr))) [] document
    ∙ sym (deep_looks document looks (is_id attr) [] ∙ from_top_place document looks DoubleSlash (attribute_extent (is_id attr)))
attributes_looking document looks marks DoubleSlash attr (node_spot name l) h is =
    let n = is.node in
    let stands = standing document name n h is.there in
    ap (λ (m : Label). looking document looks (attributes_from (room name) marks attr name m)) (sym is.label_is)
    ∙ ap (λ levels. looking document looks (attributes_from levels marks attr name (label_of n))) (room_is document name n stands.0 stands.1)
    ∙ from_looking document looks stands.0 marks attr name n stands.1
    ∙ sym (deep_looks document looks (is_id attr) (place_of name) ∙ from_node_place document looks DoubleSlash (attribute_extent (is_id attr)) name n h is.there)
attributes_looking document looks marks DoubleSlash attr (element_spot name local path) h is =
    sym (deep_looks document looks (is_id attr) (place_of name ++ path) ∙ from_element_place document looks DoubleSlash (attribute_extent (is_id attr)) name is.node path h is.there is.path_is)

-- ---- predicates

and_looking : (document : Node) (looks : Looks) (b : Bool) (r : Run Bool) → looking document looks (and_so b r) ≡ (b && looking document looks r)
and_looking document looks true r = refl
and_looking document looks false r = refl

-- where predicates hold a program goes on
then_looking : {A : Type 0} (document : Node) (looks : Looks) (r : Run Bool) (s : Run (List A)) (first later holds : Bool) → looking document looks r ≡ first → eval document r ≡ holds → looking document looks s ≡ later
    → looking document looks (next r (λ b. where_so b s)) ≡ (first || (holds && later))
then_looking document looks r s first later holds e f g =
    ap (λ b. b || looking document looks (where_so (eval document r) s)) e
    ∙ ap (λ b. first || b) (where_looking document looks (eval document r) s ∙ ap (λ b. b && looking document looks s) f ∙ ap (λ b. holds && b) g)

-- What a path, a condition and predicates look at is what they do in the document.
mutual
  ends_looking : (document : Node) (looks : Looks) (marks : Marks) → IsCity document → (steps : Steps) (spot : Spot) → IsSpot document spot → looking document looks (program.ends (label_of document) marks steps spot) ≡ ends_look document looks steps (place_at spot)
  ends_looking document looks marks city here spot is = refl
  ends_looking document looks marks city (attribute separator attr) spot is = attributes_looking document looks marks separator attr spot city.in_order is
  ends_looking document looks marks city (itself steps) spot is = ends_looking document looks marks city steps spot is
  ends_looking document looks marks city (parent steps) spot is =
      gather_looking document looks (program.ends (label_of document) marks steps) (spots_above spot)
      ∙ parents_any document spot (λ s. looking document looks (program.ends (label_of document) marks steps s)) (ends_look document looks steps) is (λ s h. ends_looking document looks marks city steps s h)
  ends_looking document looks marks city (step separator test cs steps) spot is =
      let top = label_of document in
      reach_looking document looks separator test marks marks spot (λ at. next (program.all_hold top marks cs at) (λ b. where_so b (program.ends top marks steps at)))
      (λ at. all_look document looks cs at || (meaning.all_hold document cs at && ends_look document looks steps at)) city.in_order is
      (λ at h. then_looking document looks (program.all_hold top marks cs at) (program.ends top marks steps at) (all_look document looks cs (place_at at)) (ends_look document looks steps (place_at at)) (meaning.all_hold document cs (place_at at))
      (all_looking document looks marks city cs at h) (all_hold_is document marks city cs at h) (ends_looking document looks marks city steps at h))

  side_looking : (document : Node) (looks : Looks) (marks : Marks) → IsCity document → (side : Side) (spot : Spot) → IsSpot document spot → looking document looks (program.values (label_of document) marks side spot) ≡ side_looks document looks side (place_at spot)
  side_looking document looks marks city (values_of steps) spot is = or_false (looking document looks (program.ends (label_of document) marks steps spot)) ∙ ends_looking document looks marks city steps spot is
  side_looking document looks marks city (literal text) spot is = refl
  side_looking document looks marks city (number n) spot is = refl

  condition_looking : (document : Node) (looks : Looks) (marks : Marks) → IsCity document → (c : Condition) (spot : Spot) → IsSpot document spot → looking document looks (program.holds (label_of document) marks c spot) ≡ condition_looks document looks c (place_at spot)
  condition_looking document looks marks city (any_of cs) spot is = any_looking document looks marks city cs spot is
  condition_looking document looks marks city (all_of cs) spot is = each_condition document looks marks city cs spot is
  condition_looking document looks marks city (not_so c) spot is = or_false (looking document looks (program.holds (label_of document) marks c spot)) ∙ condition_looking document looks marks city c spot is
  condition_looking document looks marks city (selects steps) spot is = or_false (looking document looks (program.ends (label_of document) marks steps spot)) ∙ ends_looking document looks marks city steps spot is
  condition_looking document looks marks city (compares left comparison right) spot is =
      ap (λ b. b || looking document looks (program.values (label_of document) marks right spot)) (side_looking document looks marks city left spot is)
      ∙ ap (λ b. side_looks document looks left (place_at spot) || b) (side_looking document looks marks city right spot is)

  any_looking : (document : Node) (looks : Looks) (marks : Marks) → IsCity document → (cs : Conditions) (spot : Spot) → IsSpot document spot → looking document looks (program.any_holds (label_of document) marks cs spot) ≡ each_look document looks cs (place_at spot)
  any_looking document looks marks city no_conditions spot is = refl
  any_looking document looks marks city (conditions c cs) spot is =
      ap (λ b. b || looking document looks (program.any_holds (label_of document) marks cs spot)) (condition_looking document looks marks city c spot is)
      ∙ ap (λ b. condition_looks document looks c (place_at spot) || b) (any_looking document looks marks city cs spot is)

  each_condition : (document : Node) (looks : Looks) (marks : Marks) → IsCity document → (cs : Conditions) (spot : Spot) → IsSpot document spot → looking document looks (program.each_holds (label_of document) marks cs spot) ≡ each_look document looks cs (place_at spot)
  each_condition document looks marks city no_conditions spot is = refl
  each_condition document looks marks city (conditions c cs) spot is =
      ap (λ b. b || looking document looks (program.each_holds (label_of document) marks cs spot)) (condition_looking document looks marks city c spot is)
      ∙ ap (λ b. condition_looks document looks c (place_at spot) || b) (each_condition document looks marks city cs spot is)

  all_looking : (document : Node) (looks : Looks) (marks : Marks) → IsCity document → (cs : Conditions) (spot : Spot) → IsSpot document spot → looking document looks (program.all_hold (label_of document) marks cs spot) ≡ all_look document looks cs (place_at spot)
  all_looking document looks marks city no_conditions spot is = refl
  all_looking document looks marks city (conditions c cs) spot is =
      let r = program.holds (label_of document) marks c spot in
      let later = program.all_hold (label_of document) marks cs spot in
      ap (λ b. b || looking document looks (and_so (eval document r) later)) (condition_looking document looks marks city c spot is)
      ∙ ap (λ b. condition_looks document looks c (place_at spot) || b)
      (and_looking document looks (eval document r) later
      ∙ ap (λ b. b && looking document looks later) (holds_is document marks city c spot is)
      ∙ ap (λ b. meaning.holds document c (place_at spot) && b) (all_looking document looks marks city cs spot is))

-- ---- the main path

path_looking : (document : Node) (looks : Looks) (i : ℕ) (ss : List MainStep) → IsCity document → LooksWhere document looks (goes (label_of document) i ss) (path_looks document looks ss)
path_looking document looks i [] city spot is = found_looking document looks city.in_order spot is
path_looking document looks i (s ∷ ss) city spot is =
    let top = label_of document in
    reach_looking document looks s.separator s.test (λ name. states.At i ∷ []) (λ name. states.Seek i ∷ []) spot (λ at. tested top i s at (goes top (i + 1) ss at))
    (λ at. all_look document looks s.conditions at || (meaning.all_hold document s.conditions at && path_looks document looks ss at)) city.in_order is
    (λ at h.
    let marks = tested_at (states.Test i) at in
    then_looking document looks (program.all_hold top marks s.conditions at) (goes top (i + 1) ss at) (all_look document looks s.conditions (place_at at)) (path_looks document looks ss (place_at at)) (meaning.all_hold document s.conditions (place_at at))
    (all_looking document looks marks city s.conditions at h) (all_hold_is document marks city s.conditions at h) (path_looking document looks (i + 1) ss city at h))

go_looking : (document : Node) (looks : Looks) (ss : List MainStep) → IsCity document → looking document looks (go_at (label_of document) 0 ss document_spot) ≡ path_looks document looks ss []
go_looking document looks [] city = refl
go_looking document looks (s ∷ ss) city = path_looking document looks 0 (s ∷ ss) city document_spot tt

-- a look is made just where the query makes it
pub looks_meant : (document : Node) (query : Syntax) (looks : Looks) → IsCity document → list_any (λ (need : Need). looks need.name (extent_of_level need.level)) (needs.looks query (from_document (label_of document)) (runs.all_of document)) ≡ query_looks document looks query
looks_meant document query looks city =
    log_looking document looks (program.program query (from_document (label_of document)))
    ∙ or_false (looking document looks (go_at (label_of document) 0 (map main_of query) document_spot))
    ∙ go_looking document looks (map main_of query) city
