-- One step of a program looks at the nodes at which a step of the query looks.
use Rattle.std.proofs.Common.{◌≡◌, ℕ, zero, suc, ◌-◌, Bool, true, false, ◌&&◌, ◌||◌, List, [], ◌∷◌, ◌++◌, refl, ap, sym, ◌∙◌, append-nil, Option, Some, None}
use Rattle.std.specs.List.{list_any}
use Rattle.std.proofs.lemmas.List.Folds.{list_any-append}
use Rattle.iris_base.specs.declared.name.Label.{Label}
use Rattle.iris_base.specs.declared.limits.TheConstants.{MAX_LABELS}
use Rattle.iris_tree.specs.declared.local.Local.{Local}
use Rattle.iris_tree.specs.Universe.{Node, node, Nodes, no_nodes, nodes, list_of, label_of, labels_of, local_of, node_at}
use Rattle.iris_tree.specs.Document.{label, Place, place_of, name_of, Part, whole, a_node, a_plain, part_at_place, node_places, all_node_places, places}
use Rattle.iris_xpath.specs.Places.{edge_eq, element_at, element_paths, IsElementPath}
use Rattle.iris_xpath.specs.Meaning.{is_reached, passes}
use Rattle.iris_xpath.specs.declared.expression.NameTest.{NameTest}
use Rattle.iris_xpath.specs.declared.expression.NameTest.TheVariants.{Any, Kind, Tag}
use Rattle.iris_xpath.specs.declared.expression.Separator.{Separator}
use Rattle.iris_xpath.specs.declared.expression.Separator.TheVariants.{Slash, DoubleSlash}
use Rattle.iris_need.specs.declared.need.Need.{Need}
use Rattle.iris_base.specs.declared.state.State.{State}
use Rattle.iris_need.specs.Documents.{IsDocument}
use Rattle.iris_need.specs.Needs.{extent_of_level}
use Rattle.iris_need.specs.Program.{gather, where_so, Spot, document_spot, node_spot, element_spot, room, step_elements, Marks, passes_label, go_from, go_to, from_node, reach}
use Rattle.iris_need.specs.Run.{Run, give, see_ids, see_full, both, next, run, all_of, eval, ids_in, local_in}
use Rattle.iris_need.proofs.Run.{next_log}
use Rattle.iris_need.proofs.Documents.{name_is, Stands, AllStand, children_stand, top_stands, room_is, ids_are, local_is, standing}
use Rattle.iris_xpath.specs.Looks as extents
use Rattle.iris_xpath.specs.Looks.{Extent, Looks, is_look, look_at, is_sought, looks_from, extent_of, step_looks}
use Rattle.iris_need.specs.Spots.{place_at, IsSpot}
use Rattle.iris_xpath.proofs.Below.{never_a_node, below, node_form, begins, is_edge, has_edge, goes_down, elements_alike, elements_fail, first_and_below, reached_begins, begins_twice, below_name, part_node, part_element, one_label_more}
use Rattle.iris_need.proofs.Steps.{passing, stepping, below_element, label_passes, no_deeper, one_more, as_begins, no_document, none_of_kind}
use Rattle.iris_xpath.proofs.Passes.{any_alike, any_fails, any_map, any_filter, any_or, or_false, or_comm, and_assoc, and_never}

-- ---- looks of a program

-- whether a program makes one of these looks over all of a document
abbrev pub looking : Node → Looks → {A : Type 0} → Run A → Bool
looking document looks (give a) = false
looking document looks (see_ids name marks k) = looks name extents.ids || looking document looks (k (ids_in document name))
looking document looks (see_full name marks k) = looks name extents.full || looking document looks (k (ids_in document name) (local_in document name))
looking document looks (both f r s) = looking document looks r || looking document looks s
looking document looks (next r k) = looking document looks r || looking document looks (k (eval document r))

-- it does where one of the looks that it made is one of these
pub log_looking : (document : Node) (looks : Looks) {A : Type 0} (t : Run A) → list_any (λ (need : Need). looks need.name (extent_of_level need.level)) (run (all_of document) t).log ≡ looking document looks t
log_looking document looks (give a) = refl
log_looking document looks (see_ids name marks k) = ap (λ b. looks name extents.ids || b) (log_looking document looks (k (ids_in document name)))
log_looking document looks (see_full name marks k) = ap (λ b. looks name extents.full || b) (log_looking document looks (k (ids_in document name) (local_in document name)))
log_looking document looks (both f r s) =
    list_any-append (λ (need : Need). looks need.name (extent_of_level need.level)) (run (all_of document) r).log (run (all_of document) s).log
    ∙ ap (λ b. b || list_any (λ (need : Need). looks need.name (extent_of_level need.level)) (run (all_of document) s).log) (log_looking document looks r) ∙ ap (λ b. looking document looks r || b) (log_looking document looks s)
log_looking document looks (next r k) =
    ap (list_any (λ (need : Need). looks need.name (extent_of_level need.level))) (next_log document r k)
    ∙ list_any-append (λ (need : Need). looks need.name (extent_of_level need.level)) (run (all_of document) r).log (run (all_of document) (k (eval document r))).log
    ∙ ap (λ b. b || list_any (λ (need : Need). looks need.name (extent_of_level need.level)) (run (all_of document) (k (eval document r))).log) (log_looking document looks r)
    ∙ ap (λ b. looking document looks r || b) (log_looking document looks (k (eval document r)))

-- of programs one after another
pub gather_looking : {X A : Type 0} (document : Node) (looks : Looks) (f : X → Run (List A)) (xs : List X) → looking document looks (gather f xs) ≡ list_any (λ x. looking document looks (f x)) xs
gather_looking document looks f [] = refl
gather_looking document looks f (x ∷ xs) = ap (λ b. looking document looks (f x) || b) (gather_looking document looks f xs)

-- where something is so
pub where_looking : {A : Type 0} (document : Node) (looks : Looks) (b : Bool) (r : Run (List A)) → looking document looks (where_so b r) ≡ (b && looking document looks r)
where_looking document looks true r = refl
where_looking document looks false r = refl

-- what is done at a place makes a look just where the place is wanted
abbrev pub LooksWhere : {A : Type 0} → Node → Looks → (Spot → Run (List A)) → (Place → Bool) → Type 0
LooksWhere document looks k wanted = (spot : Spot) → IsSpot document spot → looking document looks (k spot) ≡ wanted (place_at spot)

-- ---- looks at places

-- a look at the place of a node
pub look_node : (document : Node) (looks : Looks) (extent : Extent) (name : List Label) (n : Node) → node_at document name ≡ Some n → look_at document looks extent (place_of name) ≡ looks name extent
look_node document looks extent name n h =
    ap (is_look looks extent (name_of (place_of name))) (part_node document name n h) ∙ ap (λ (m : List Label). looks m extent) (name_is name)

no_look : (looks : Looks) (extent : Extent) (name : List Label) (n : Node) (path : Place) (o : Option Part) → IsElementPath path → o ≡ element_at (local_of n) path → is_look looks extent name o ≡ false
no_look looks extent name n path None h e = refl
no_look looks extent name n path (Some whole) h e = refl
no_look looks extent name n path (Some (a_node m)) h e = absurd (never_a_node m n path h e)
no_look looks extent name n path (Some (a_plain p)) h e = refl

-- no look is at a plain element
pub look_element : (document : Node) (looks : Looks) (extent : Extent) (name : List Label) (n : Node) (path : Place) → node_at document name ≡ Some n → IsElementPath path → look_at document looks extent (place_of name ++ path) ≡ false
look_element document looks extent name n path h is =
    no_look looks extent (name_of (place_of name ++ path)) n path (part_at_place document (place_of name ++ path)) is (part_element document name n path h is)

-- a place alone, or with `//` all from it on
abbrev pub stays : Separator → Place → Bool
stays Slash [] = true
stays Slash (e ∷ place) = false
stays DoubleSlash place = true

-- what is sought begins with the place from which it is
pub sought_begins : (s : Separator) (above place : Place) → is_sought s above place ≡ begins (stays s) above place
sought_begins Slash [] [] = refl
sought_begins Slash [] (f ∷ place) = refl
sought_begins Slash (e ∷ above) [] = refl
sought_begins Slash (e ∷ above) (f ∷ place) = ap (λ b. edge_eq e f && b) (sought_begins Slash above place)
sought_begins DoubleSlash [] place = refl
sought_begins DoubleSlash (e ∷ above) [] = refl
sought_begins DoubleSlash (e ∷ above) (f ∷ place) = ap (λ b. edge_eq e f && b) (sought_begins DoubleSlash above place)

-- a look at a place, or at what is done at a place to which the step goes
abbrev stirs : Node → Looks → Separator → NameTest → (Place → Bool) → List Label → Place → Bool
stirs document looks s test wanted name q = (stays s q && look_at document looks (extent_of test) (place_of name ++ q)) || (goes_down s q && passing document test wanted (place_of name ++ q))

-- ---- plain elements

elements_looking : {A : Type 0} (document : Node) (looks : Looks) (s : Separator) (test : NameTest) (name : List Label) (n : Node) (above : Place) (k : Spot → Run (List A)) (wanted : Place → Bool) → node_at document name ≡ Some n → LooksWhere document looks k wanted
    → looking document looks (gather (λ path. k (element_spot name (local_of n) path)) (step_elements s test (local_of n) above)) ≡ list_any (λ q. begins (goes_down s) above q && passing document test wanted (place_of name ++ q)) (element_paths (local_of n))
elements_looking document looks s test name n above k wanted there finds =
    gather_looking document looks (λ path. k (element_spot name (local_of n) path)) (step_elements s test (local_of n) above)
    ∙ any_filter (λ path. looking document looks (k (element_spot name (local_of n) path))) (λ path. is_reached s above path && passes (element_at (local_of n) path) test) (element_paths (local_of n))
    ∙ elements_alike _ _ one (local_of n)
  where
    one : (path : Place) → IsElementPath path
        → ((is_reached s above path && passes (element_at (local_of n) path) test) && looking document looks (k (element_spot name (local_of n) path))) ≡ (begins (goes_down s) above path && passing document test wanted (place_of name ++ path))
    one path h =
        ap (λ b. (is_reached s above path && passes (element_at (local_of n) path) test) && b) (finds (element_spot name (local_of n) path) (record { node = n; there = there; local_is = refl; path_is = h }))
        ∙ and_assoc (is_reached s above path) (passes (element_at (local_of n) path) test) (wanted (place_of name ++ path))
        ∙ ap (λ b. b && (passes (element_at (local_of n) path) test && wanted (place_of name ++ path))) (reached_begins s above path)
        ∙ ap (λ (o : Option Part). begins (goes_down s) above path && (passes o test && wanted (place_of name ++ path))) (sym (part_element document name n path there h))

-- ---- a child

child_looking : {A : Type 0} (document : Node) (looks : Looks) (test : NameTest) (name : List Label) (c : Node) (k : Spot → Run (List A)) (wanted : Place → Bool) → node_at document (name ++ label_of c ∷ []) ≡ Some c → LooksWhere document looks k wanted
    → looking document looks (where_so (passes_label (label_of c) test) (k (node_spot (name ++ label_of c ∷ []) (label_of c)))) ≡ passing document test wanted (place_of name ++ label (label_of c) ∷ [])
child_looking document looks test name c k wanted there finds =
    let l = label_of c in
    where_looking document looks (passes_label l test) (k (node_spot (name ++ l ∷ []) l))
    ∙ ap (λ b. passes_label l test && b) (finds (node_spot (name ++ l ∷ []) l) (record { node = c; there = there; label_is = refl }))
    ∙ ap (λ b. b && wanted (place_of (name ++ l ∷ []))) (label_passes c test)
    ∙ ap (λ (o : Option Part). passes o test && wanted (place_of (name ++ l ∷ []))) (sym (part_node document (name ++ l ∷ []) c there))
    ∙ ap (passing document test wanted) (one_more name l)

-- the child, and with `//` all below it
go_to_looking : {A : Type 0} (document : Node) (looks : Looks) (s : Separator) (test : NameTest) (name : List Label) (c : Node) (k : Spot → Run (List A)) (deeper : Run (List A)) (wanted : Place → Bool) → node_at document (name ++ label_of c ∷ []) ≡ Some c → LooksWhere document looks k wanted
    → (s ≡ DoubleSlash → looking document looks deeper ≡ list_any (stirs document looks DoubleSlash test wanted (name ++ label_of c ∷ [])) (below c))
    → looking document looks (go_to s test name (label_of c) k deeper) ≡ list_any (stirs document looks s test wanted name) (node_places c)
go_to_looking document looks Slash test name c k deeper wanted there finds lower =
    let l = label (label_of c) in
    let there_too = λ (q : Place). is_edge (l ∷ q) && passing document test wanted (place_of name ++ l ∷ q) in
    child_looking document looks test name c k wanted there finds
    ∙ sym (ap (list_any (stirs document looks Slash test wanted name)) (node_form c)
    ∙ any_map (stirs document looks Slash test wanted name) (λ place. l ∷ place) (below c)
    ∙ first_and_below there_too c
    ∙ ap (λ b. passing document test wanted (place_of name ++ l ∷ []) || b) (any_fails (λ q. has_edge q && there_too q) (λ q. no_deeper l q (passing document test wanted (place_of name ++ l ∷ q))) (below c))
    ∙ or_false (passing document test wanted (place_of name ++ l ∷ [])))
go_to_looking document looks DoubleSlash test name c k deeper wanted there finds lower =
    let l = label (label_of c) in
    let look = λ (q : Place). look_at document looks (extent_of test) (place_of name ++ l ∷ q) in
    let pass = λ (q : Place). passing document test wanted (place_of name ++ l ∷ q) in
    ap (λ b. b || looking document looks deeper) (child_looking document looks test name c k wanted there finds)
    ∙ ap (λ b. pass [] || b)
    (lower refl
    ∙ any_alike _ _ (λ q. ap (λ (p : Place). look_at document looks (extent_of test) p || (has_edge q && passing document test wanted p)) (one_label_more name (label_of c) q)) (below c)
    ∙ any_or look (λ q. has_edge q && pass q) (below c))
    ∙ in_front (pass []) (list_any look (below c)) (list_any (λ q. has_edge q && pass q) (below c))
    ∙ ap (λ b. list_any look (below c) || b) (sym (first_and_below pass c))
    ∙ sym (any_or look pass (below c))
    ∙ sym (ap (list_any (stirs document looks DoubleSlash test wanted name)) (node_form c) ∙ any_map (stirs document looks DoubleSlash test wanted name) (λ place. l ∷ place) (below c))
  where
    in_front : (a b d : Bool) → (a || (b || d)) ≡ (b || (a || d))
    in_front true true d = refl
    in_front true false d = refl
    in_front false b d = refl

-- at all children
pub children_looking : {A : Type 0} (document : Node) (looks : Looks) (name : List Label) (levels : ℕ) (child : Label → Run (List A)) (there : Place → Bool)
    → ((c : Node) → Stands document (name ++ label_of c ∷ []) c levels → looking document looks (child (label_of c)) ≡ list_any there (node_places c))
    → (ns : Nodes) → AllStand document name ns (suc levels) → looking document looks (gather child (labels_of (list_of ns))) ≡ list_any there (all_node_places ns)
children_looking document looks name levels child there each no_nodes h = refl
children_looking document looks name levels child there each (nodes c cs) h =
    ap (λ b. b || looking document looks (gather child (labels_of (list_of cs)))) (each c h.0)
    ∙ ap (λ b. list_any there (node_places c) || b) (children_looking document looks name levels child there each cs h.1)
    ∙ sym (list_any-append there (node_places c) (all_node_places cs))

-- ---- a node

go_from_looking : {A : Type 0} (document : Node) (looks : Looks) (test : NameTest) (name : List Label) (marks : List State) (nodes_run : List Label → Run (List A)) (elements : Local → Run (List A)) (in_nodes in_elements : Bool)
    → looking document looks (nodes_run (ids_in document name)) ≡ in_nodes → looking document looks (elements (local_in document name)) ≡ in_elements → ((kind : List ℕ) → test ≡ Kind kind → in_elements ≡ false)
    → looking document looks (go_from test name marks nodes_run elements) ≡ (looks name (extent_of test) || (in_elements || in_nodes))
go_from_looking document looks (Kind kind) name marks nodes_run elements in_nodes in_elements h e none = ap (λ b. looks name extents.ids || b) (h ∙ ap (λ b. b || in_nodes) (sym (none kind refl)))
go_from_looking document looks (Tag tag) name marks nodes_run elements in_nodes in_elements h e none =
    ap (λ b. looks name extents.full || b) (ap (λ b. b || looking document looks (elements (local_in document name))) h ∙ ap (λ b. in_nodes || b) e ∙ or_comm in_nodes in_elements)
go_from_looking document looks Any name marks nodes_run elements in_nodes in_elements h e none =
    ap (λ b. looks name extents.full || b) (ap (λ b. b || looking document looks (elements (local_in document name))) h ∙ ap (λ b. in_nodes || b) e ∙ or_comm in_nodes in_elements)

own_looking : {A : Type 0} (document : Node) (looks : Looks) (s : Separator) (test : NameTest) (name : List Label) (n : Node) (k : Spot → Run (List A)) (wanted : Place → Bool) → node_at document name ≡ Some n → LooksWhere document looks k wanted
    → looking document looks (gather (λ path. k (element_spot name (local_in document name) path)) (step_elements s test (local_in document name) [])) ≡ list_any (λ q. goes_down s q && passing document test wanted (place_of name ++ q)) (element_paths (local_of n))
own_looking document looks s test name n k wanted there finds =
    ap (λ (local : Local). looking document looks (gather (λ path. k (element_spot name local path)) (step_elements s test local []))) (local_is document name n there)
    ∙ elements_looking document looks s test name n [] k wanted there finds

-- of a node's places, its own is looked at, and its plain elements are not
stirs_parts : (document : Node) (looks : Looks) (s : Separator) (test : NameTest) (wanted : Place → Bool) (name : List Label) (l : Label) (local : Local) (ns : Nodes) → node_at document name ≡ Some (node l local ns)
    → list_any (stirs document looks s test wanted name) (below (node l local ns))
    ≡ (looks name (extent_of test) || (list_any (λ q. goes_down s q && passing document test wanted (place_of name ++ q)) (element_paths local) || list_any (stirs document looks s test wanted name) (all_node_places ns)))
stirs_parts document looks s test wanted name l local ns there =
    let n = node l local ns in
    let t = stirs document looks s test wanted name in
    ap (λ b. b || list_any t (element_paths local ++ all_node_places ns)) (first s)
    ∙ ap (λ b. looks name (extent_of test) || b)
    (list_any-append t (element_paths local) (all_node_places ns)
    ∙ ap (λ b. b || list_any t (all_node_places ns)) (elements_alike t (λ q. goes_down s q && passing document test wanted (place_of name ++ q)) (λ path h.
    ap (λ b. (stays s path && b) || (goes_down s path && passing document test wanted (place_of name ++ path))) (look_element document looks (extent_of test) name n path there h) ∙ not_there (stays s path) (goes_down s path && passing document test wanted (place_of name ++ path))) local))
  where
    not_there : (a b : Bool) → ((a && false) || b) ≡ b
    not_there true b = refl
    not_there false b = refl

    first : (s : Separator) → stirs document looks s test wanted name [] ≡ looks name (extent_of test)
    first Slash = or_false _ ∙ ap (look_at document looks (extent_of test)) (append-nil (place_of name)) ∙ look_node document looks (extent_of test) name (node l local ns) there
    first DoubleSlash = or_false _ ∙ ap (look_at document looks (extent_of test)) (append-nil (place_of name)) ∙ look_node document looks (extent_of test) name (node l local ns) there

from_node_looking : {A : Type 0} (document : Node) (looks : Looks) (levels : ℕ) (s : Separator) (test : NameTest) (own lower : Marks) (name : List Label) (n : Node) (k : Spot → Run (List A)) (wanted : Place → Bool) → Stands document name n levels → LooksWhere document looks k wanted
    → looking document looks (from_node levels s test own lower name k) ≡ list_any (stirs document looks s test wanted name) (below n)
from_node_looking document looks zero s test own lower name (node l local no_nodes) k wanted h finds =
    let n = node l local no_nodes in
    go_from_looking document looks test name (own name) (gather (λ child. go_to Slash test name child k (give []))) (λ local. gather (λ path. k (element_spot name local path)) (step_elements s test local [])) false _
    (ap (λ (ids : List Label). looking document looks (gather (λ child. go_to Slash test name child k (give [])) ids)) (ids_are document name n h.there))
    (own_looking document looks s test name n k wanted h.there finds) (none_of_kind document s test name n wanted h.there)
    ∙ sym (stirs_parts document looks s test wanted name l local no_nodes h.there)
from_node_looking document looks zero s test own lower name (node l local (nodes c cs)) k wanted h finds = absurd h.bounded
from_node_looking document looks (suc levels) s test own lower name (node l local below) k wanted h finds =
    let n = node l local below in
    let child = λ (c : Label). go_to s test name c k (from_node levels s test lower lower (name ++ c ∷ []) k) in
    go_from_looking document looks test name (own name) (gather child) (λ local. gather (λ path. k (element_spot name local path)) (step_elements s test local []))
    (list_any (stirs document looks s test wanted name) (all_node_places below)) _
    (ap (λ (ids : List Label). looking document looks (gather child ids)) (ids_are document name n h.there)
    ∙ children_looking document looks name levels child (stirs document looks s test wanted name)
    (λ c stands. go_to_looking document looks s test name c k (from_node levels s test lower lower (name ++ label_of c ∷ []) k) wanted stands.there finds
    (λ deep. ap (λ (u : Separator). looking document looks (from_node levels u test lower lower (name ++ label_of c ∷ []) k)) deep ∙ from_node_looking document looks levels DoubleSlash test lower lower (name ++ label_of c ∷ []) c k wanted stands finds))
    below (children_stand document name l local below (suc levels) h))
    (own_looking document looks s test name n k wanted h.there finds) (none_of_kind document s test name n wanted h.there)
    ∙ sym (stirs_parts document looks s test wanted name l local below h.there)

-- ---- any place

-- both parts of what a step stirs
stirs_apart : (document : Node) (looks : Looks) (s : Separator) (test : NameTest) (wanted : Place → Bool) (name : List Label) (ps : List Place)
    → list_any (stirs document looks s test wanted name) ps ≡ (list_any (λ q. stays s q && look_at document looks (extent_of test) (place_of name ++ q)) ps || list_any (λ q. goes_down s q && passing document test wanted (place_of name ++ q)) ps)
stirs_apart document looks s test wanted name ps = any_or (λ q. stays s q && look_at document looks (extent_of test) (place_of name ++ q)) (λ q. goes_down s q && passing document test wanted (place_of name ++ q)) ps

from_begins : (document : Node) (looks : Looks) (s : Separator) (extent : Extent) (above : Place) → looks_from document looks s extent above ≡ list_any (λ place. begins (stays s) above place && look_at document looks extent place) (places document)
from_begins document looks s extent above = any_alike _ _ (λ place. ap (λ b. b && look_at document looks extent place) (sought_begins s above place)) (places document)

-- the nodes looked at from a node
pub from_node_place : (document : Node) (looks : Looks) (s : Separator) (extent : Extent) (name : List Label) (n : Node) → IsDocument document → node_at document name ≡ Some n
    → looks_from document looks s extent (place_of name) ≡ list_any (λ q. stays s q && look_at document looks extent (place_of name ++ q)) (below n)
from_node_place document looks s extent name n h there = from_begins document looks s extent (place_of name) ∙ below_name (stays s) (look_at document looks extent) document name n h.0 there

-- from a plain element no node is looked at
pub from_element_place : (document : Node) (looks : Looks) (s : Separator) (extent : Extent) (name : List Label) (n : Node) (path : Place) → IsDocument document → node_at document name ≡ Some n → IsElementPath path
    → looks_from document looks s extent (place_of name ++ path) ≡ false
from_element_place document looks s extent name n path h there is =
    from_begins document looks s extent (place_of name ++ path)
    ∙ any_alike _ _ (λ place. ap (λ b. b && look_at document looks extent place) (begins_twice (stays s) (place_of name) path place)) (places document)
    ∙ below_name (begins (stays s) path) (look_at document looks extent) document name n h.0 there
    ∙ below_element (stays s) (λ q. look_at document looks extent (place_of name ++ q)) path n is
    ∙ elements_fail _ (λ q e. ap (λ b. begins (stays s) path q && b) (look_element document looks extent name n q there e) ∙ and_never (begins (stays s) path q)) (local_of n)

-- from the document, those of the top node with `//`
pub from_top_place : (document : Node) (looks : Looks) (s : Separator) (extent : Extent) → looks_from document looks s extent [] ≡ list_any (λ q. stays s q && look_at document looks extent q) (node_places document)
from_top_place document looks Slash extent = from_begins document looks Slash extent []
from_top_place document looks DoubleSlash extent = from_begins document looks DoubleSlash extent []

-- a step of a program looks where a step of the query does
pub reach_looking : {A : Type 0} (document : Node) (looks : Looks) (s : Separator) (test : NameTest) (own lower : Marks) (spot : Spot) (k : Spot → Run (List A)) (wanted : Place → Bool) → IsDocument document → IsSpot document spot → LooksWhere document looks k wanted
    → looking document looks (reach (label_of document) s test own lower spot k) ≡ step_looks document looks s test (place_at spot) wanted
reach_looking document looks s test own lower document_spot k wanted h is finds =
    let top = label_of document in
    let stands = top_stands document h in
    go_to_looking document looks s test [] document k (from_node (room (top ∷ [])) s test lower lower (top ∷ []) k) wanted stands.there finds
    (λ deep. ap (λ (u : Separator). looking document looks (from_node (room (top ∷ [])) u test lower lower (top ∷ []) k)) deep
    ∙ ap (λ levels. looking document looks (from_node levels DoubleSlash test lower lower (top ∷ []) k)) (room_is document (top ∷ []) document (MAX_LABELS - 1) stands)
    ∙ from_node_looking document looks (MAX_LABELS - 1) DoubleSlash test lower lower (top ∷ []) document k wanted stands finds)
    ∙ stirs_apart document looks s test wanted [] (node_places document)
    ∙ ap (λ b. b || list_any (λ q. goes_down s q && passing document test wanted q) (node_places document)) (sym (from_top_place document looks s (extent_of test)))
    ∙ ap (λ b. looks_from document looks s (extent_of test) [] || b) (sym (as_begins document s test [] wanted ∙ no_document document s (passing document test wanted)))
reach_looking document looks s test own lower (node_spot name l) k wanted h is finds =
    let n = is.node in
    let stands = standing document name n h is.there in
    ap (λ levels. looking document looks (from_node levels s test own lower name k)) (room_is document name n stands.0 stands.1)
    ∙ from_node_looking document looks stands.0 s test own lower name n k wanted stands.1 finds
    ∙ stirs_apart document looks s test wanted name (below n)
    ∙ ap (λ b. b || list_any (λ q. goes_down s q && passing document test wanted (place_of name ++ q)) (below n)) (sym (from_node_place document looks s (extent_of test) name n h is.there))
    ∙ ap (λ b. looks_from document looks s (extent_of test) (place_of name) || b) (sym (as_begins document s test (place_of name) wanted ∙ below_name (goes_down s) (passing document test wanted) document name n h.0 is.there))
reach_looking document looks s test own lower (element_spot name local path) k wanted h is finds =
    ap (λ (x : Local). looking document looks (gather (λ p. k (element_spot name x p)) (step_elements s test x path))) (sym is.local_is)
    ∙ elements_looking document looks s test name is.node path k wanted is.there finds
    ∙ sym (as_begins document s test (place_of name ++ path) wanted
    ∙ any_alike _ _ (λ place. ap (λ b. b && passing document test wanted place) (begins_twice (goes_down s) (place_of name) path place)) (places document)
    ∙ below_name (begins (goes_down s) path) (passing document test wanted) document name is.node h.0 is.there
    ∙ below_element (goes_down s) (λ q. passing document test wanted (place_of name ++ q)) path is.node is.path_is)
    ∙ ap (λ b. b || stepping document s test (place_of name ++ path) wanted) (sym (from_element_place document looks s (extent_of test) name is.node path h is.there is.path_is))
