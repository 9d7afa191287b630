-- One step of a program goes to the places to which a step of the query goes.
use Rattle.std.proofs.Common.{◌≡◌, ℕ, zero, suc, ◌-◌, Bool, true, false, ◌&&◌, ◌||◌, List, [], ◌∷◌, ◌++◌, refl, ap, sym, ◌∙◌, Option, Some, None, option_and_then, slice_get}
use Rattle.std.specs.List.{list_any}
use Rattle.std.proofs.lemmas.List.{map-append}
use Rattle.std.proofs.lemmas.List.Folds.{list_any-append}
use Rattle.iris_base.specs.declared.name.Label.{Label}
use Rattle.iris_base.specs.declared.limits.TheConstants.{MAX_LABELS}
use Rattle.iris_tree.specs.declared.local.Local.{Local}
use Rattle.iris_tree.specs.declared.plain.Plain.{Plain}
use Rattle.iris_tree.specs.declared.plain.Plain.TheViews.{out-Plain}
use Rattle.iris_tree.specs.Universe.{Node, node, Nodes, no_nodes, nodes, list_of, label_of, labels_of, local_of, node_at}
use Rattle.iris_tree.specs.Document.{Edge, position, label, Place, place_of, Part, a_node, below_plain, part_at_place, node_places, all_node_places, places}
use Rattle.iris_xpath.specs.Meaning.{is_reached, passes}
use Rattle.iris_xpath.specs.declared.expression.NameTest.{NameTest}
use Rattle.iris_xpath.specs.declared.expression.NameTest.TheVariants.{Any, Kind, Tag}
use Rattle.iris_xpath.specs.declared.expression.Separator.{Separator}
use Rattle.iris_xpath.specs.declared.expression.Separator.TheVariants.{Slash, DoubleSlash}
use Rattle.iris_base.specs.declared.state.State.{State}
use Rattle.iris_need.specs.Documents.{IsDocument}
use Rattle.iris_need.specs.Program.{gather, where_so, Spot, document_spot, node_spot, element_spot, room, step_elements, Marks, passes_label, go_from, go_to, from_node, reach}
use Rattle.iris_xpath.specs.Places.{element_at, element_paths, IsElementPath}
use Rattle.iris_need.specs.Run.{Run, give, eval, ids_in, local_in}
use Rattle.iris_need.proofs.Documents.{Stands, AllStand, children_stand, top_stands, room_is, ids_are, local_is, standing}
use Rattle.iris_need.specs.Spots.{place_at, IsSpot}
use Rattle.iris_xpath.proofs.Below.{below, node_form, begins, is_edge, has_edge, goes_down, elements_alike, elements_fail, nodes_fail, first_and_below, reached_begins, begins_twice, below_name, part_node, part_element, one_label_more}
use Rattle.iris_xpath.proofs.Passes.{any_alike, any_fails, any_map, any_filter, or_false, or_comm, and_assoc, and_never}

-- ---- words of programs

-- what is found one after another is found in one of the programs
pub gather_any : {X A : Type 0} (document : Node) (t : A → Bool) (f : X → Run (List A)) (xs : List X) → list_any t (eval document (gather f xs)) ≡ list_any (λ x. list_any t (eval document (f x))) xs
gather_any document t f [] = refl
gather_any document t f (x ∷ xs) = list_any-append t (eval document (f x)) (eval document (gather f xs)) ∙ ap (λ b. list_any t (eval document (f x)) || b) (gather_any document t f xs)

-- what is found where something is so
pub where_any : {A : Type 0} (document : Node) (t : A → Bool) (b : Bool) (r : Run (List A)) → list_any t (eval document (where_so b r)) ≡ (b && list_any t (eval document r))
where_any document t true r = refl
where_any document t false r = refl

-- what is done at a place finds a passing value just where the place is wanted
abbrev pub Finds : {A : Type 0} → Node → (A → Bool) → (Spot → Run (List A)) → (Place → Bool) → Type 0
Finds document t k wanted = (spot : Spot) → IsSpot document spot → list_any t (eval document (k spot)) ≡ wanted (place_at spot)

-- what stands at a place passes the test, and the place is wanted
abbrev pub passing : Node → NameTest → (Place → Bool) → Place → Bool
passing document test wanted place = passes (part_at_place document place) test && wanted place

-- ---- plain elements

kid_never : (kind : List ℕ) (path : Place) (o : Option Plain) → ((kid : Plain) → passes (below_plain kid path) (Kind kind) ≡ false) → passes (option_and_then (λ kid. below_plain kid path) o) (Kind kind) ≡ false
kid_never kind path None h = refl
kid_never kind path (Some kid) h = h kid

never_of_kind : (kind : List ℕ) (p : Plain) (path : Place) → passes (below_plain p path) (Kind kind) ≡ false
never_of_kind kind p [] = refl
never_of_kind kind p (position i ∷ path) = kid_never kind path (slice_get (out-Plain p).kids i) (λ kid. never_of_kind kind kid path)
never_of_kind kind p (label l ∷ path) = refl

-- no plain element is of a kind
element_never : (kind : List ℕ) (local : Local) (path : Place) → IsElementPath path → passes (element_at local path) (Kind kind) ≡ false
element_never kind local [] h = absurd h
element_never kind local (position i ∷ path) h = kid_never kind path (slice_get local.plain i) (λ p. never_of_kind kind p path)
element_never kind local (label l ∷ path) h = absurd h

-- a step to the plain elements of a node, from the node or from one of them
elements_any : {A : Type 0} (document : Node) (s : Separator) (test : NameTest) (name : List Label) (n : Node) (above : Place) (k : Spot → Run (List A)) (t : A → Bool) (wanted : Place → Bool) → node_at document name ≡ Some n → Finds document t k wanted
    → list_any t (eval document (gather (λ path. k (element_spot name (local_of n) path)) (step_elements s test (local_of n) above))) ≡ list_any (λ q. begins (goes_down s) above q && passing document test wanted (place_of name ++ q)) (element_paths (local_of n))
elements_any document s test name n above k t wanted there finds =
    gather_any document t (λ path. k (element_spot name (local_of n) path)) (step_elements s test (local_of n) above)
    ∙ any_filter (λ path. list_any t (eval document (k (element_spot name (local_of n) path)))) (λ path. is_reached s above path && passes (element_at (local_of n) path) test) (element_paths (local_of n))
    ∙ elements_alike _ _ one (local_of n)
  where
    one : (path : Place) → IsElementPath path
        → ((is_reached s above path && passes (element_at (local_of n) path) test) && list_any t (eval document (k (element_spot name (local_of n) path)))) ≡ (begins (goes_down s) above path && passing document test wanted (place_of name ++ path))
    one path h =
        ap (λ b. (is_reached s above path && passes (element_at (local_of n) path) test) && b) (finds (element_spot name (local_of n) path) (record { node = n; there = there; local_is = refl; path_is = h }))
        ∙ and_assoc (is_reached s above path) (passes (element_at (local_of n) path) test) (wanted (place_of name ++ path))
        ∙ ap (λ b. b && (passes (element_at (local_of n) path) test && wanted (place_of name ++ path))) (reached_begins s above path)
        ∙ ap (λ (o : Option Part). begins (goes_down s) above path && (passes o test && wanted (place_of name ++ path))) (sym (part_element document name n path there h))

-- ---- a child

-- a label passes the test where its node does
pub label_passes : (c : Node) (test : NameTest) → passes_label (label_of c) test ≡ passes (Some (a_node c)) test
label_passes c Any = refl
label_passes c (Kind kind) = refl
label_passes c (Tag tag) = refl

-- below one edge there is no further one
pub no_deeper : (e : Edge) (q : Place) (b : Bool) → (has_edge q && (is_edge (e ∷ q) && b)) ≡ false
no_deeper e [] b = refl
no_deeper e (f ∷ q) b = refl

-- the place of a name with one label more
pub one_more : (name : List Label) (l : Label) → place_of (name ++ l ∷ []) ≡ place_of name ++ label l ∷ []
one_more name l = map-append label name (l ∷ [])

-- the child itself
child_any : {A : Type 0} (document : Node) (test : NameTest) (name : List Label) (c : Node) (k : Spot → Run (List A)) (t : A → Bool) (wanted : Place → Bool) → node_at document (name ++ label_of c ∷ []) ≡ Some c → Finds document t k wanted
    → list_any t (eval document (where_so (passes_label (label_of c) test) (k (node_spot (name ++ label_of c ∷ []) (label_of c))))) ≡ passing document test wanted (place_of name ++ label (label_of c) ∷ [])
child_any document test name c k t wanted there finds =
    let l = label_of c in
    where_any document t (passes_label l test) (k (node_spot (name ++ l ∷ []) l))
    ∙ ap (λ b. passes_label l test && b) (finds (node_spot (name ++ l ∷ []) l) (record { node = c; there = there; label_is = refl }))
    ∙ ap (λ b. b && wanted (place_of (name ++ l ∷ []))) (label_passes c test)
    ∙ ap (λ (o : Option Part). passes o test && wanted (place_of (name ++ l ∷ []))) (sym (part_node document (name ++ l ∷ []) c there))
    ∙ ap (passing document test wanted) (one_more name l)

-- the child, and with `//` all below it
go_to_any : {A : Type 0} (document : Node) (s : Separator) (test : NameTest) (name : List Label) (c : Node) (k : Spot → Run (List A)) (deeper : Run (List A)) (t : A → Bool) (wanted : Place → Bool) → node_at document (name ++ label_of c ∷ []) ≡ Some c → Finds document t k wanted
    → (s ≡ DoubleSlash → list_any t (eval document deeper) ≡ list_any (λ q. has_edge q && passing document test wanted (place_of (name ++ label_of c ∷ []) ++ q)) (below c))
    → list_any t (eval document (go_to s test name (label_of c) k deeper)) ≡ list_any (λ q. goes_down s q && passing document test wanted (place_of name ++ q)) (node_places c)
go_to_any document Slash test name c k deeper t wanted there finds lower =
    let l = label (label_of c) in
    let there_too = λ (q : Place). is_edge (l ∷ q) && passing document test wanted (place_of name ++ l ∷ q) in
    child_any document test name c k t wanted there finds
    ∙ sym (ap (list_any (λ q. is_edge q && passing document test wanted (place_of name ++ q))) (node_form c)
    ∙ any_map (λ q. is_edge q && passing document test wanted (place_of name ++ q)) (λ place. l ∷ place) (below c)
    ∙ first_and_below there_too c
    ∙ ap (λ b. passing document test wanted (place_of name ++ l ∷ []) || b) (any_fails (λ q. has_edge q && there_too q) (λ q. no_deeper l q (passing document test wanted (place_of name ++ l ∷ q))) (below c))
    ∙ or_false (passing document test wanted (place_of name ++ l ∷ [])))
go_to_any document DoubleSlash test name c k deeper t wanted there finds lower =
    let l = label (label_of c) in
    let itself = where_so (passes_label (label_of c) test) (k (node_spot (name ++ label_of c ∷ []) (label_of c))) in
    list_any-append t (eval document itself) (eval document deeper)
    ∙ ap (λ b. b || list_any t (eval document deeper)) (child_any document test name c k t wanted there finds)
    ∙ ap (λ b. passing document test wanted (place_of name ++ l ∷ []) || b) (lower refl ∙ any_alike _ _ (λ q. ap (λ (p : Place). has_edge q && passing document test wanted p) (one_label_more name (label_of c) q)) (below c))
    ∙ sym (ap (list_any (λ q. has_edge q && passing document test wanted (place_of name ++ q))) (node_form c)
    ∙ any_map (λ q. has_edge q && passing document test wanted (place_of name ++ q)) (λ place. l ∷ place) (below c)
    ∙ first_and_below (λ q. passing document test wanted (place_of name ++ l ∷ q)) c)

-- all children
pub children_any : {A : Type 0} (document : Node) (name : List Label) (levels : ℕ) (child : Label → Run (List A)) (t : A → Bool) (there : Place → Bool)
    → ((c : Node) → Stands document (name ++ label_of c ∷ []) c levels → list_any t (eval document (child (label_of c))) ≡ list_any there (node_places c))
    → (ns : Nodes) → AllStand document name ns (suc levels) → list_any t (eval document (gather child (labels_of (list_of ns)))) ≡ list_any there (all_node_places ns)
children_any document name levels child t there each no_nodes h = refl
children_any document name levels child t there each (nodes c cs) h =
    list_any-append t (eval document (child (label_of c))) (eval document (gather child (labels_of (list_of cs))))
    ∙ ap (λ b. b || list_any t (eval document (gather child (labels_of (list_of cs))))) (each c h.0)
    ∙ ap (λ b. list_any there (node_places c) || b) (children_any document name levels child t there each cs h.1)
    ∙ sym (list_any-append there (node_places c) (all_node_places cs))

-- ---- a node

-- a test by kind sees the children alone, any other the plain elements too
go_from_any : {A : Type 0} (document : Node) (test : NameTest) (name : List Label) (marks : List State) (nodes_run : List Label → Run (List A)) (elements : Local → Run (List A)) (t : A → Bool) (in_nodes in_elements : Bool)
    → list_any t (eval document (nodes_run (ids_in document name))) ≡ in_nodes → list_any t (eval document (elements (local_in document name))) ≡ in_elements → ((kind : List ℕ) → test ≡ Kind kind → in_elements ≡ false)
    → list_any t (eval document (go_from test name marks nodes_run elements)) ≡ (in_elements || in_nodes)
go_from_any document (Kind kind) name marks nodes_run elements t in_nodes in_elements h e none = h ∙ ap (λ b. b || in_nodes) (sym (none kind refl))
go_from_any document (Tag tag) name marks nodes_run elements t in_nodes in_elements h e none =
    list_any-append t (eval document (nodes_run (ids_in document name))) (eval document (elements (local_in document name)))
    ∙ ap (λ b. b || list_any t (eval document (elements (local_in document name)))) h ∙ ap (λ b. in_nodes || b) e ∙ or_comm in_nodes in_elements
go_from_any document Any name marks nodes_run elements t in_nodes in_elements h e none =
    list_any-append t (eval document (nodes_run (ids_in document name))) (eval document (elements (local_in document name)))
    ∙ ap (λ b. b || list_any t (eval document (elements (local_in document name)))) h ∙ ap (λ b. in_nodes || b) e ∙ or_comm in_nodes in_elements

-- the step is on the places below, by those of plain elements and by those of nodes
pub below_parts : (s : Separator) (there : Place → Bool) (l : Label) (local : Local) (ns : Nodes)
    → list_any (λ q. goes_down s q && there q) (below (node l local ns)) ≡ (list_any (λ q. goes_down s q && there q) (element_paths local) || list_any (λ q. goes_down s q && there q) (all_node_places ns))
below_parts Slash there l local ns = list_any-append (λ q. is_edge q && there q) (element_paths local) (all_node_places ns)
below_parts DoubleSlash there l local ns = list_any-append (λ q. has_edge q && there q) (element_paths local) (all_node_places ns)

-- the plain elements of a node
own_elements : {A : Type 0} (document : Node) (s : Separator) (test : NameTest) (name : List Label) (n : Node) (k : Spot → Run (List A)) (t : A → Bool) (wanted : Place → Bool) → node_at document name ≡ Some n → Finds document t k wanted
    → list_any t (eval document (gather (λ path. k (element_spot name (local_in document name) path)) (step_elements s test (local_in document name) []))) ≡ list_any (λ q. goes_down s q && passing document test wanted (place_of name ++ q)) (element_paths (local_of n))
own_elements document s test name n k t wanted there finds =
    ap (λ (local : Local). list_any t (eval document (gather (λ path. k (element_spot name local path)) (step_elements s test local [])))) (local_is document name n there)
    ∙ elements_any document s test name n [] k t wanted there finds

-- no plain element of a node is of a kind
pub none_of_kind : (document : Node) (s : Separator) (test : NameTest) (name : List Label) (n : Node) (wanted : Place → Bool) → node_at document name ≡ Some n → (kind : List ℕ) → test ≡ Kind kind
    → list_any (λ q. goes_down s q && passing document test wanted (place_of name ++ q)) (element_paths (local_of n)) ≡ false
none_of_kind document s test name n wanted there kind is = elements_fail _ none (local_of n)
  where
    none : (path : Place) → IsElementPath path → (goes_down s path && passing document test wanted (place_of name ++ path)) ≡ false
    none path h =
        ap (λ (u : NameTest). goes_down s path && (passes (part_at_place document (place_of name ++ path)) u && wanted (place_of name ++ path))) is
        ∙ ap (λ (o : Option Part). goes_down s path && (passes o (Kind kind) && wanted (place_of name ++ path))) (part_element document name n path there h)
        ∙ ap (λ b. goes_down s path && (b && wanted (place_of name ++ path))) (element_never kind (local_of n) path h)
        ∙ and_never (goes_down s path)

-- from a node, to its children and plain elements, or to all below it
from_node_any : {A : Type 0} (document : Node) (levels : ℕ) (s : Separator) (test : NameTest) (own lower : Marks) (name : List Label) (n : Node) (k : Spot → Run (List A)) (t : A → Bool) (wanted : Place → Bool) → Stands document name n levels → Finds document t k wanted
    → list_any t (eval document (from_node levels s test own lower name k)) ≡ list_any (λ q. goes_down s q && passing document test wanted (place_of name ++ q)) (below n)
from_node_any document zero s test own lower name (node l local no_nodes) k t wanted h finds =
    let n = node l local no_nodes in
    go_from_any document test name (own name) (gather (λ child. go_to Slash test name child k (give []))) (λ local. gather (λ path. k (element_spot name local path)) (step_elements s test local [])) t false _
    (ap (λ (ids : List Label). list_any t (eval document (gather (λ child. go_to Slash test name child k (give [])) ids))) (ids_are document name n h.there))
    (own_elements document s test name n k t wanted h.there finds) (none_of_kind document s test name n wanted h.there)
    ∙ sym (below_parts s (λ q. passing document test wanted (place_of name ++ q)) l local no_nodes)
from_node_any document zero s test own lower name (node l local (nodes c cs)) k t wanted h finds = absurd h.bounded
from_node_any document (suc levels) s test own lower name (node l local below) k t wanted h finds =
    let n = node l local below in
    let child = λ (c : Label). go_to s test name c k (from_node levels s test lower lower (name ++ c ∷ []) k) in
    go_from_any document test name (own name) (gather child) (λ local. gather (λ path. k (element_spot name local path)) (step_elements s test local [])) t
    (list_any (λ q. goes_down s q && passing document test wanted (place_of name ++ q)) (all_node_places below)) _
    (ap (λ (ids : List Label). list_any t (eval document (gather child ids))) (ids_are document name n h.there)
    ∙ children_any document name levels child t (λ q. goes_down s q && passing document test wanted (place_of name ++ q))
    (λ c stands. go_to_any document s test name c k (from_node levels s test lower lower (name ++ label_of c ∷ []) k) t wanted stands.there finds
    (λ deep. ap (λ (u : Separator). list_any t (eval document (from_node levels u test lower lower (name ++ label_of c ∷ []) k))) deep ∙ from_node_any document levels DoubleSlash test lower lower (name ++ label_of c ∷ []) c k t wanted stands finds))
    below (children_stand document name l local below (suc levels) h))
    (own_elements document s test name n k t wanted h.there finds) (none_of_kind document s test name n wanted h.there)
    ∙ sym (below_parts s (λ q. passing document test wanted (place_of name ++ q)) l local below)

-- ---- any place

-- the places to which a step goes from one place, and that are wanted
abbrev pub stepping : Node → Separator → NameTest → Place → (Place → Bool) → Bool
stepping document s test above wanted = list_any (λ place. (is_reached s above place && passes (part_at_place document place) test) && wanted place) (places document)

-- a step goes to the places that go on from one
pub as_begins : (document : Node) (s : Separator) (test : NameTest) (above : Place) (wanted : Place → Bool) → stepping document s test above wanted ≡ list_any (λ place. begins (goes_down s) above place && passing document test wanted place) (places document)
as_begins document s test above wanted =
    any_alike _ _ (λ place.
    and_assoc (is_reached s above place) (passes (part_at_place document place) test) (wanted place) ∙ ap (λ b. b && passing document test wanted place) (reached_begins s above place)) (places document)

-- of all places below a node, those at or below one of its plain elements are plain elements
pub below_element : (t test : Place → Bool) (path : Place) (n : Node) → IsElementPath path → list_any (λ q. begins t path q && test q) (below n) ≡ list_any (λ q. begins t path q && test q) (element_paths (local_of n))
below_element t test [] n h = absurd h
below_element t test (position i ∷ path) (node l local ns) h =
    let there = λ (q : Place). begins t (position i ∷ path) q && test q in
    list_any-append there (element_paths local) (all_node_places ns)
    ∙ ap (λ b. list_any there (element_paths local) || b) (nodes_fail there (λ m q. refl) ns)
    ∙ or_false (list_any there (element_paths local))
below_element t test (label l ∷ path) n h = absurd h

-- none of them is the document
pub no_document : (document : Node) (s : Separator) (there : Place → Bool) → list_any (λ place. begins (goes_down s) [] place && there place) (places document) ≡ list_any (λ q. goes_down s q && there q) (node_places document)
no_document document Slash there = refl
no_document document DoubleSlash there = refl

-- a step of a program finds just what is wanted where a step of the query goes
pub reach_any : {A : Type 0} (document : Node) (s : Separator) (test : NameTest) (own lower : Marks) (spot : Spot) (k : Spot → Run (List A)) (t : A → Bool) (wanted : Place → Bool) → IsDocument document → IsSpot document spot → Finds document t k wanted
    → list_any t (eval document (reach (label_of document) s test own lower spot k)) ≡ stepping document s test (place_at spot) wanted
reach_any document s test own lower document_spot k t wanted h is finds =
    let top = label_of document in
    let stands = top_stands document h in
    go_to_any document s test [] document k (from_node (room (top ∷ [])) s test lower lower (top ∷ []) k) t wanted stands.there finds
    (λ deep. ap (λ (u : Separator). list_any t (eval document (from_node (room (top ∷ [])) u test lower lower (top ∷ []) k))) deep
    ∙ ap (λ levels. list_any t (eval document (from_node levels DoubleSlash test lower lower (top ∷ []) k))) (room_is document (top ∷ []) document (MAX_LABELS - 1) stands)
    ∙ from_node_any document (MAX_LABELS - 1) DoubleSlash test lower lower (top ∷ []) document k t wanted stands finds)
    ∙ sym (as_begins document s test [] wanted ∙ no_document document s (passing document test wanted))
reach_any document s test own lower (node_spot name l) k t wanted h is finds =
    let stands = standing document name is.node h is.there in
    ap (λ levels. list_any t (eval document (from_node levels s test own lower name k))) (room_is document name is.node stands.0 stands.1)
    ∙ from_node_any document stands.0 s test own lower name is.node k t wanted stands.1 finds
    ∙ sym (as_begins document s test (place_of name) wanted ∙ below_name (goes_down s) (passing document test wanted) document name is.node h.0 is.there)
reach_any document s test own lower (element_spot name local path) k t wanted h is finds =
    ap (λ (x : Local). list_any t (eval document (gather (λ p. k (element_spot name x p)) (step_elements s test x path)))) (sym is.local_is)
    ∙ elements_any document s test name is.node path k t wanted is.there finds
    ∙ sym (as_begins document s test (place_of name ++ path) wanted
    ∙ any_alike _ _ (λ place. ap (λ b. b && passing document test wanted place) (begins_twice (goes_down s) (place_of name) path place)) (places document)
    ∙ below_name (begins (goes_down s) path) (passing document test wanted) document name is.node h.0 is.there
    ∙ below_element (goes_down s) (λ q. passing document test wanted (place_of name ++ q)) path is.node is.path_is)
