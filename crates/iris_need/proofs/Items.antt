-- What a program gives at the places that it reaches, one after another.
use Rattle.std.proofs.Common.{◌≡◌, ℕ, zero, suc, ◌-◌, ◌+◌, Bool, true, false, cond, ◌&&◌, List, [], ◌∷◌, ◌++◌, map, filter, refl, ap, sym, ◌∙◌, subst, append-nil, Option, Some, None, option_and_then}
use Rattle.std.specs.List.{AllByRecursion, cons_option}
use Rattle.std.proofs.lemmas.List.Elements.{filter_map-append}
use Rattle.iris_base.specs.declared.name.Label.{Label}
use Rattle.iris_base.specs.declared.limits.TheConstants.{MAX_LABELS}
use Rattle.iris_tree.specs.NodeCode.{nodes_of-list_of}
use Rattle.iris_tree.specs.declared.local.Local.{Local}
use Rattle.iris_tree.specs.declared.plain.Plain.{Plain}
use Rattle.iris_tree.specs.declared.plain.Plain.TheViews.{out-Plain}
use Rattle.iris_tree.specs.Universe.{Node, node, Nodes, no_nodes, nodes, nodes_of, list_of, label_of, labels_of, local_of, node_at}
use Rattle.iris_tree.specs.Document.{position, label, Place, place_of, name_of, Part, whole, a_node, a_plain, part_at_place, numbered, plain_places}
use Rattle.iris_tree.specs.declared.item.Element.TheVariants as elements
use Rattle.iris_tree.specs.declared.item.Item.{Item}
use Rattle.iris_xpath.specs.Meaning.{is_reached, passes}
use Rattle.iris_xpath.specs.Syntax.{Syntax, MainStep, main_of}
use Rattle.iris_xpath.specs.declared.expression.NameTest.{NameTest}
use Rattle.iris_xpath.specs.declared.expression.NameTest.TheVariants.{Any, Kind, Tag}
use Rattle.iris_xpath.specs.declared.expression.Separator.{Separator}
use Rattle.iris_xpath.specs.declared.expression.Separator.TheVariants.{Slash, DoubleSlash}
use Rattle.iris_base.specs.declared.state.State.{State}
use Rattle.iris_base.specs.declared.state.State.TheVariants as states
use Rattle.iris_need.specs.Documents.{IsDocument}
use Rattle.iris_tree.specs.Items.{item_of, item_at, items_at}
use Rattle.iris_need.specs.Needs.{from_document}
use Rattle.iris_need.specs.Program.{each, gather, where_so, Spot, document_spot, node_spot, element_spot, room, step_elements, Marks, passes_label, go_from, go_to, from_node, reach, subtree, element_item, found, tested, tested_at, all_hold, goes, go_at, program}
use Rattle.iris_xpath.specs.Places.{element_at, element_paths, IsElementPath}
use Rattle.iris_need.specs.Run.{Run, give, eval, ids_in, local_in}
use Rattle.iris_need.proofs.Documents.{Stands, AllStand, children_stand, top_stands, room_is, ids_are, local_is, item_is, standing}
use Rattle.iris_need.specs.Found.{goes_then, reached_places}
use Rattle.iris_need.specs.Spots.{place_at, IsSpot}
use Rattle.iris_xpath.proofs.Below.{plain_form, never_a_node, part_element}

-- ---- paths of plain elements

paths_append : (ps qs : List Place) → AllByRecursion IsElementPath ps → AllByRecursion IsElementPath qs → AllByRecursion IsElementPath (ps ++ qs)
paths_append [] qs h k = k
paths_append (p ∷ ps) qs h k = (h.0, paths_append ps qs h.1 k)

paths_at : (i : ℕ) (ps : List Place) → AllByRecursion IsElementPath (map (λ place. position i ∷ place) ps)
paths_at i [] = tt
paths_at i (p ∷ ps) = (tt, paths_at i ps)

paths_numbered : (ps : List Plain) (i : ℕ) → AllByRecursion IsElementPath (numbered i (map plain_places ps))
paths_numbered [] i = tt
paths_numbered (p ∷ ps) i =
    paths_append (plain_places p i) (numbered (i + 1) (map plain_places ps))
    (subst (λ (qs : List Place). AllByRecursion IsElementPath qs) (sym (plain_form p i)) (paths_at i ([] ∷ numbered 0 (map plain_places (out-Plain p).kids)))) (paths_numbered ps (i + 1))

kept_path : (b : Bool) (p : Place) (ps : List Place) → IsElementPath p → AllByRecursion IsElementPath ps → AllByRecursion IsElementPath (cond b (p ∷ ps) ps)
kept_path true p ps h k = (h, k)
kept_path false p ps h k = k

paths_kept : (keeps : Place → Bool) (ps : List Place) → AllByRecursion IsElementPath ps → AllByRecursion IsElementPath (filter keeps ps)
paths_kept keeps [] h = tt
paths_kept keeps (p ∷ ps) h = kept_path (keeps p) p (filter keeps ps) h.0 (paths_kept keeps ps h.1)

step_paths : (s : Separator) (test : NameTest) (local : Local) (above : Place) → AllByRecursion IsElementPath (step_elements s test local above)
step_paths s test local above = paths_kept (λ path. is_reached s above path && passes (element_at local path) test) (element_paths local) (paths_numbered local.plain 0)

-- ---- one program gives what a change makes of what another gives

-- the nodes right below one
abbrev below_of : Node → Nodes
below_of (node l local below) = below

-- so it does at each place
abbrev pub Gives : {A B : Type 0} → Node → (List A → List B) → (Spot → Run (List B)) → (Spot → Run (List A)) → Type 0
Gives document h k j = (spot : Spot) → IsSpot document spot → eval document (k spot) ≡ h (eval document (j spot))

-- a change that goes through a list part by part
pub record IsByParts {A B : Type 0} (h : List A → List B) : Type 0 where
  pub nothing : h [] ≡ []
  pub parts : (xs ys : List A) → h (xs ++ ys) ≡ h xs ++ h ys

module _ {A B : Type 0} (document : Node) (h : List A → List B) (by : IsByParts h) where
  gather_gives : {X : Type 0} (P : X → Type 0) (f : X → Run (List B)) (g : X → Run (List A)) → ((x : X) → P x → eval document (f x) ≡ h (eval document (g x))) → (xs : List X) → AllByRecursion P xs → eval document (gather f xs) ≡ h (eval document (gather g xs))
  gather_gives P f g each [] all = sym by.nothing
  gather_gives P f g each (x ∷ xs) all =
      ap (λ (ys : List B). ys ++ eval document (gather f xs)) (each x all.0) ∙ ap (λ (ys : List B). h (eval document (g x)) ++ ys) (gather_gives P f g each xs all.1)
      ∙ sym (by.parts (eval document (g x)) (eval document (gather g xs)))

  where_gives : (b : Bool) (r : Run (List B)) (s : Run (List A)) → eval document r ≡ h (eval document s) → eval document (where_so b r) ≡ h (eval document (where_so b s))
  where_gives true r s e = e
  where_gives false r s e = sym by.nothing

  both_give : (xs ys : List B) (us vs : List A) → xs ≡ h us → ys ≡ h vs → (xs ++ ys) ≡ h (us ++ vs)
  both_give xs ys us vs e f = ap (λ (zs : List B). zs ++ ys) e ∙ ap (λ (zs : List B). h us ++ zs) f ∙ sym (by.parts us vs)

  elements_give : (s : Separator) (test : NameTest) (name : List Label) (n : Node) (local : Local) (above : Place) (k : Spot → Run (List B)) (j : Spot → Run (List A)) → node_at document name ≡ Some n → local_of n ≡ local → Gives document h k j
      → eval document (gather (λ path. k (element_spot name local path)) (step_elements s test local above)) ≡ h (eval document (gather (λ path. j (element_spot name local path)) (step_elements s test local above)))
  elements_give s test name n local above k j there is gives =
      gather_gives IsElementPath (λ path. k (element_spot name local path)) (λ path. j (element_spot name local path))
      (λ path p. gives (element_spot name local path) (record { node = n; there = there; local_is = is; path_is = p })) (step_elements s test local above) (step_paths s test local above)

  go_to_gives : (s : Separator) (test : NameTest) (name : List Label) (c : Node) (k : Spot → Run (List B)) (j : Spot → Run (List A)) (deeper : Run (List B)) (lower : Run (List A)) → node_at document (name ++ label_of c ∷ []) ≡ Some c → Gives document h k j
      → (s ≡ DoubleSlash → eval document deeper ≡ h (eval document lower)) → eval document (go_to s test name (label_of c) k deeper) ≡ h (eval document (go_to s test name (label_of c) j lower))
  go_to_gives Slash test name c k j deeper lower there gives below =
      let at = node_spot (name ++ label_of c ∷ []) (label_of c) in
      where_gives (passes_label (label_of c) test) (k at) (j at) (gives at (record { node = c; there = there; label_is = refl }))
  go_to_gives DoubleSlash test name c k j deeper lower there gives below =
      let at = node_spot (name ++ label_of c ∷ []) (label_of c) in
      let passed = passes_label (label_of c) test in
      both_give (eval document (where_so passed (k at))) (eval document deeper) (eval document (where_so passed (j at))) (eval document lower)
      (where_gives passed (k at) (j at) (gives at (record { node = c; there = there; label_is = refl }))) (below refl)

  go_from_gives : (test : NameTest) (name : List Label) (marks : List State) (f : List Label → Run (List B)) (g : List Label → Run (List A)) (d : Local → Run (List B)) (e : Local → Run (List A))
      → eval document (f (ids_in document name)) ≡ h (eval document (g (ids_in document name))) → eval document (d (local_in document name)) ≡ h (eval document (e (local_in document name)))
      → eval document (go_from test name marks f d) ≡ h (eval document (go_from test name marks g e))
  go_from_gives (Kind kind) name marks f g d e nodes_too elements_too = nodes_too
  go_from_gives (Tag tag) name marks f g d e nodes_too elements_too = both_give _ _ _ _ nodes_too elements_too
  go_from_gives Any name marks f g d e nodes_too elements_too = both_give _ _ _ _ nodes_too elements_too

  children_give : (name : List Label) (levels : ℕ) (f : Label → Run (List B)) (g : Label → Run (List A)) → ((c : Node) → Stands document (name ++ label_of c ∷ []) c levels → eval document (f (label_of c)) ≡ h (eval document (g (label_of c))))
      → (ns : Nodes) → AllStand document name ns (suc levels) → eval document (gather f (labels_of (list_of ns))) ≡ h (eval document (gather g (labels_of (list_of ns))))
  children_give name levels f g each no_nodes all = sym by.nothing
  children_give name levels f g each (nodes c cs) all =
      both_give (eval document (f (label_of c))) (eval document (gather f (labels_of (list_of cs)))) (eval document (g (label_of c))) (eval document (gather g (labels_of (list_of cs))))
      (each c all.0) (children_give name levels f g each cs all.1)

  at_ids : (name : List Label) (n : Node) (f : List Label → Run (List B)) (g : List Label → Run (List A)) → node_at document name ≡ Some n → eval document (f (labels_of (list_of (below_of n)))) ≡ h (eval document (g (labels_of (list_of (below_of n)))))
      → eval document (f (ids_in document name)) ≡ h (eval document (g (ids_in document name)))
  at_ids name (node l local below) f g there e =
      ap (λ (ids : List Label). eval document (f ids)) (ids_are document name (node l local below) there) ∙ e ∙ sym (ap (λ (ids : List Label). h (eval document (g ids))) (ids_are document name (node l local below) there))

  from_node_gives : (levels : ℕ) (s : Separator) (test : NameTest) (own lower : Marks) (name : List Label) (n : Node) (k : Spot → Run (List B)) (j : Spot → Run (List A)) → Stands document name n levels → Gives document h k j
      → eval document (from_node levels s test own lower name k) ≡ h (eval document (from_node levels s test own lower name j))
  from_node_gives zero s test own lower name (node l local no_nodes) k j stands gives =
      let n = node l local no_nodes in
      go_from_gives test name (own name) (gather (λ child. go_to Slash test name child k (give []))) (gather (λ child. go_to Slash test name child j (give [])))
      (λ x. gather (λ path. k (element_spot name x path)) (step_elements s test x [])) (λ x. gather (λ path. j (element_spot name x path)) (step_elements s test x []))
      (at_ids name n (gather (λ child. go_to Slash test name child k (give []))) (gather (λ child. go_to Slash test name child j (give []))) stands.there (sym by.nothing))
      (elements_give s test name n (local_in document name) [] k j stands.there (sym (local_is document name n stands.there)) gives)
  from_node_gives zero s test own lower name (node l local (nodes c cs)) k j stands gives = absurd stands.bounded
  from_node_gives (suc levels) s test own lower name (node l local below) k j stands gives =
      let n = node l local below in
      let f = λ (child : Label). go_to s test name child k (from_node levels s test lower lower (name ++ child ∷ []) k) in
      let g = λ (child : Label). go_to s test name child j (from_node levels s test lower lower (name ++ child ∷ []) j) in
      go_from_gives test name (own name) (gather f) (gather g)
      (λ x. gather (λ path. k (element_spot name x path)) (step_elements s test x [])) (λ x. gather (λ path. j (element_spot name x path)) (step_elements s test x []))
      (at_ids name n (gather f) (gather g) stands.there
      (children_give name levels f g
      (λ c there. go_to_gives s test name c k j (from_node levels s test lower lower (name ++ label_of c ∷ []) k) (from_node levels s test lower lower (name ++ label_of c ∷ []) j) there.there gives
      (λ deep. from_node_gives levels s test lower lower (name ++ label_of c ∷ []) c k j there gives)) below (children_stand document name l local below (suc levels) stands)))
      (elements_give s test name n (local_in document name) [] k j stands.there (sym (local_is document name n stands.there)) gives)

  reach_gives : (s : Separator) (test : NameTest) (own lower : Marks) (spot : Spot) (k : Spot → Run (List B)) (j : Spot → Run (List A)) → IsDocument document → IsSpot document spot → Gives document h k j
      → eval document (reach (label_of document) s test own lower spot k) ≡ h (eval document (reach (label_of document) s test own lower spot j))
  reach_gives s test own lower document_spot k j in_order is gives =
      let top = label_of document in
      let stands = top_stands document in_order in
      go_to_gives s test [] document k j (from_node (room (top ∷ [])) s test lower lower (top ∷ []) k) (from_node (room (top ∷ [])) s test lower lower (top ∷ []) j) stands.there gives
      (λ deep. subst (λ levels. eval document (from_node levels s test lower lower (top ∷ []) k) ≡ h (eval document (from_node levels s test lower lower (top ∷ []) j))) (sym (room_is document (top ∷ []) document (MAX_LABELS - 1) stands))
      (from_node_gives (MAX_LABELS - 1) s test lower lower (top ∷ []) document k j stands gives))
  reach_gives s test own lower (node_spot name l) k j in_order is gives =
      let stands = standing document name is.node in_order is.there in
      subst (λ levels. eval document (from_node levels s test own lower name k) ≡ h (eval document (from_node levels s test own lower name j))) (sym (room_is document name is.node stands.0 stands.1))
      (from_node_gives stands.0 s test own lower name is.node k j stands.1 gives)
  reach_gives s test own lower (element_spot name local path) k j in_order is gives = elements_give s test name is.node local path k j is.there is.local_is gives

  tested_gives : (i : ℕ) (s : MainStep) (spot : Spot) (r : Run (List B)) (q : Run (List A)) → eval document r ≡ h (eval document q) → eval document (tested (label_of document) i s spot r) ≡ h (eval document (tested (label_of document) i s spot q))
  tested_gives i s spot r q e = where_gives (eval document (all_hold (label_of document) (tested_at (states.Test i) spot) s.conditions spot)) r q e

  -- what is done at the end of a path
  pub then_gives : (i : ℕ) (ss : List MainStep) (end : Spot → Run (List B)) (other : Spot → Run (List A)) → IsDocument document → Gives document h end other → Gives document h (goes_then (label_of document) i ss end) (goes_then (label_of document) i ss other)
  then_gives i [] end other in_order gives spot is = gives spot is
  then_gives i (s ∷ ss) end other in_order gives spot is =
      reach_gives s.separator s.test (λ name. states.At i ∷ []) (λ name. states.Seek i ∷ []) spot
      (λ at. tested (label_of document) i s at (goes_then (label_of document) (i + 1) ss end at)) (λ at. tested (label_of document) i s at (goes_then (label_of document) (i + 1) ss other at)) in_order is
      (λ at there. tested_gives i s at (goes_then (label_of document) (i + 1) ss end at) (goes_then (label_of document) (i + 1) ss other at) (then_gives (i + 1) ss end other in_order gives at there))

-- ---- the program

-- the list itself is such a change
pub itself_by_parts : {A : Type 0} → IsByParts {A = A} (λ xs. xs)
itself_by_parts = record { nothing = refl; parts = λ xs ys. refl }

-- it is the one that does at the end what `found` does
goes_found : (document : Node) (i : ℕ) (ss : List MainStep) → IsDocument document → Gives document (λ (xs : List Item). xs) (goes (label_of document) i ss) (goes_then (label_of document) i ss found)
goes_found document i [] in_order spot is = refl
goes_found document i (s ∷ ss) in_order spot is =
    reach_gives document (λ xs. xs) itself_by_parts s.separator s.test (λ name. states.At i ∷ []) (λ name. states.Seek i ∷ []) spot
    (λ at. tested (label_of document) i s at (goes (label_of document) (i + 1) ss at)) (λ at. tested (label_of document) i s at (goes_then (label_of document) (i + 1) ss found at)) in_order is
    (λ at there. tested_gives document (λ xs. xs) itself_by_parts i s at (goes (label_of document) (i + 1) ss at) (goes_then (label_of document) (i + 1) ss found at) (goes_found document (i + 1) ss in_order at there))

-- ---- the item at a place

each_below : (document : Node) (name : List Label) (levels : ℕ) → ((c : Node) (at : List Label) → Stands document at c levels → eval document (subtree levels (label_of c) at) ≡ c) → (ns : Nodes) → AllStand document name ns (suc levels)
    → eval document (each (λ child. subtree levels child (name ++ child ∷ [])) (labels_of (list_of ns))) ≡ list_of ns
each_below document name levels same no_nodes h = refl
each_below document name levels same (nodes c cs) h =
    ap (λ (n : Node). n ∷ eval document (each (λ child. subtree levels child (name ++ child ∷ [])) (labels_of (list_of cs)))) (same c (name ++ label_of c ∷ []) h.0)
    ∙ ap (λ (ns : List Node). c ∷ ns) (each_below document name levels same cs h.1)

-- at the last level there is no node below
pub none_below : (document : Node) (name : List Label) (below : Nodes) → AllStand document name below zero → no_nodes ≡ below
none_below document name no_nodes h = refl
none_below document name (nodes c cs) h = absurd h

-- the subtree of a node is the node
pub subtree_is : (document : Node) (levels : ℕ) (n : Node) (name : List Label) → Stands document name n levels → eval document (subtree levels (label_of n) name) ≡ n
subtree_is document zero (node l local below) name h =
    ap (λ (x : Local). node l x no_nodes) (local_is document name (node l local below) h.there) ∙ ap (node l local) (none_below document name below (children_stand document name l local below zero h))
subtree_is document (suc levels) (node l local below) name h =
    let n = node l local below in
    let rest = λ (ids : List Label). nodes_of (eval document (each (λ child. subtree levels child (name ++ child ∷ [])) ids)) in
    ap (λ (x : Local). node l x (rest (ids_in document name))) (local_is document name n h.there) ∙ ap (λ (ids : List Label). node l local (rest ids)) (ids_are document name n h.there)
    ∙ ap (λ (ns : List Node). node l local (nodes_of ns)) (each_below document name levels (λ c at s. subtree_is document levels c at s) below (children_stand document name l local below (suc levels) h))
    ∙ ap (node l local) (nodes_of-list_of below)

name_before : (name : List Label) (path : Place) → IsElementPath path → name_of (place_of name ++ path) ≡ name
name_before [] [] h = absurd h
name_before [] (position i ∷ path) h = refl
name_before [] (label l ∷ path) h = absurd h
name_before (l ∷ name) path h = ap (λ (ls : List Label). l ∷ ls) (name_before name path h)

item_at_element : (name : List Label) (n : Node) (path : Place) → IsElementPath path → (o : Option Part) → o ≡ element_at (local_of n) path → element_item name o ≡ cons_option (option_and_then (item_of name) o) []
item_at_element name n path h None e = refl
item_at_element name n path h (Some whole) e = refl
item_at_element name n path h (Some (a_node m)) e = absurd (never_a_node m n path h e)
item_at_element name n path h (Some (a_plain p)) e = refl

-- what is found at a place is its item
pub found_is : (document : Node) → IsDocument document → Gives document (items_at document) found (λ spot. give (place_at spot ∷ []))
found_is document in_order document_spot is = refl
found_is document in_order (node_spot name l) is =
    let n = is.node in
    let stands = standing document name n in_order is.there in
    ap (λ (m : Label). record { at = name; is = elements.Node (eval document (subtree (room name) m name)) } ∷ []) (sym is.label_is)
    ∙ ap (λ levels. record { at = name; is = elements.Node (eval document (subtree levels (label_of n) name)) } ∷ []) (room_is document name n stands.0 stands.1)
    ∙ ap (λ (m : Node). record { at = name; is = elements.Node m } ∷ []) (subtree_is document stands.0 n name stands.1)
    ∙ sym (ap (λ (o : Option Item). cons_option o []) (item_is document name n is.there))
found_is document in_order (element_spot name local path) is =
    let n = is.node in
    ap (λ (x : Local). element_item name (element_at x path)) (sym is.local_is)
    ∙ item_at_element name n path is.path_is (element_at (local_of n) path) refl
    ∙ ap (λ (o : Option Part). cons_option (option_and_then (item_of name) o) []) (sym (part_element document name n path is.there is.path_is))
    ∙ ap (λ (m : List Label). cons_option (option_and_then (item_of m) (part_at_place document (place_of name ++ path))) []) (sym (name_before name path is.path_is))

items_by_parts : (document : Node) → IsByParts (items_at document)
items_by_parts document = record { nothing = refl; parts = filter_map-append (item_at document) }

-- the program gives the items of the places that it reaches, in its order
go_items : (document : Node) (ss : List MainStep) → IsDocument document → eval document (go_at (label_of document) 0 ss document_spot) ≡ items_at document (eval document (goes_then (label_of document) 0 ss (λ spot. give (place_at spot ∷ [])) document_spot))
go_items document [] in_order = refl
go_items document (s ∷ ss) in_order =
    goes_found document 0 (s ∷ ss) in_order document_spot tt
    ∙ then_gives document (items_at document) (items_by_parts document) 0 (s ∷ ss) found (λ spot. give (place_at spot ∷ [])) in_order (found_is document in_order) document_spot tt

-- from the document on
pub program_items : (document : Node) (query : Syntax) → IsDocument document → eval document (program query (from_document (label_of document))) ≡ items_at document (reached_places document query)
program_items document query in_order = append-nil (eval document (go_at (label_of document) 0 (map main_of query) document_spot)) ∙ go_items document (map main_of query) in_order
