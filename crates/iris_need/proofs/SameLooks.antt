-- The program that tells places makes the looks of the other, over every view.
use Rattle.std.proofs.Common.{◌≡◌, ℕ, zero, suc, ◌+◌, Bool, true, false, List, [], ◌∷◌, ◌++◌, map, refl, ap, sym, ◌∙◌, append-nil, Option, Some, None, option_map}
use Rattle.std.proofs.lemmas.List.{map-append}
use Rattle.iris_base.specs.declared.name.Label.{Label}
use Rattle.iris_tree.specs.declared.local.Local.{Local}
use Rattle.iris_tree.specs.Document.{Place}
use Rattle.iris_tree.specs.declared.item.Item.{Item}
use Rattle.iris_xpath.specs.Syntax.{Syntax, MainStep, main_of}
use Rattle.iris_xpath.specs.declared.expression.NameTest.{NameTest}
use Rattle.iris_xpath.specs.declared.expression.NameTest.TheVariants.{Any, Kind, Tag}
use Rattle.iris_xpath.specs.declared.expression.Separator.{Separator}
use Rattle.iris_xpath.specs.declared.expression.Separator.TheVariants.{Slash, DoubleSlash}
use Rattle.iris_need.specs.declared.need.Need.{Need}
use Rattle.iris_base.specs.declared.state.State.{State}
use Rattle.iris_base.specs.declared.state.State.TheVariants as states
use Rattle.iris_need.specs.Needs.{from_document}
use Rattle.iris_need.specs.Program.{gather, where_so, Spot, document_spot, node_spot, element_spot, room, step_elements, Marks, passes_label, go_from, go_to, from_node, reach, found, tested, tested_at, all_hold, goes, go_at, program}
use Rattle.iris_need.specs.Run.{Run, View, Out, Seen, give, run, pair_value, after_ids, after_full, after, ids_known, full_known}
use Rattle.iris_need.specs.Found.{goes_then}
use Rattle.iris_need.specs.Placed.{Placed, placed, found_there, placed_program}
use Rattle.iris_need.specs.Spots.{place_at}
use Rattle.iris_need.proofs.Items.{IsByParts}

-- the same looks, and the one value made of the other
pub record IsAlike {A B : Type 0} (h : List A → List B) (o : Out (List B)) (p : Out (List A)) : Type 0 where
  pub log : o.log ≡ p.log
  pub value : o.value ≡ option_map h p.value

module _ {A B : Type 0} (h : List A → List B) (by : IsByParts h) (w : View) where
  ids_alike : (look : Need) (x : Option (List Label)) (f : List Label → Out (List B)) (g : List Label → Out (List A)) → ((ids : List Label) → IsAlike h (f ids) (g ids)) → IsAlike h (after_ids look x f) (after_ids look x g)
  ids_alike look None f g a = record { log = refl; value = refl }
  ids_alike look (Some ids) f g a = record { log = ap (λ (looks : List Need). look ∷ looks) (a ids).log; value = (a ids).value }

  full_alike : (look : Need) (x : Option Seen) (f : List Label → Local → Out (List B)) (g : List Label → Local → Out (List A)) → ((ids : List Label) (local : Local) → IsAlike h (f ids local) (g ids local)) → IsAlike h (after_full look x f) (after_full look x g)
  full_alike look None f g a = record { log = refl; value = refl }
  full_alike look (Some seen) f g a = record { log = ap (λ (looks : List Need). look ∷ looks) (a seen.ids seen.local).log; value = (a seen.ids seen.local).value }

  after_alike : {X : Type 0} (looks : List Need) (x : Option X) (f : X → Out (List B)) (g : X → Out (List A)) → ((a : X) → IsAlike h (f a) (g a)) → IsAlike h (after looks x f) (after looks x g)
  after_alike looks None f g a = record { log = refl; value = refl }
  after_alike looks (Some x) f g a = record { log = ap (λ (more : List Need). looks ++ more) (a x).log; value = (a x).value }

  pairs : (x y : Option (List A)) → pair_value (λ us vs. us ++ vs) (option_map h x) (option_map h y) ≡ option_map h (pair_value (λ us vs. us ++ vs) x y)
  pairs None y = refl
  pairs (Some x) None = refl
  pairs (Some x) (Some y) = ap Some (sym (by.parts x y))

  -- programs alike over the view
  abbrev Alike : Run (List B) → Run (List A) → Type 0
  Alike r s = IsAlike h (run w r) (run w s)

  join_alike : (r u : Run (List B)) (s v : Run (List A)) → Alike r s → Alike u v → IsAlike h (record { log = (run w r).log ++ (run w u).log; value = pair_value (λ xs ys. xs ++ ys) (run w r).value (run w u).value }) (record { log = (run w s).log ++ (run w v).log; value = pair_value (λ xs ys. xs ++ ys) (run w s).value (run w v).value })
  join_alike r u s v a b = record {
    log = ap (λ (looks : List Need). looks ++ (run w u).log) a.log ∙ ap (λ (looks : List Need). (run w s).log ++ looks) b.log;
    value = ap (λ (x : Option (List B)). pair_value (λ xs ys. xs ++ ys) x (run w u).value) a.value ∙ ap (λ (y : Option (List B)). pair_value (λ xs ys. xs ++ ys) (option_map h (run w s).value) y) b.value ∙ pairs (run w s).value (run w v).value;
  }

  nothing_alike : Alike (give []) (give [])
  nothing_alike = record { log = refl; value = ap Some (sym by.nothing) }

  gather_alike : {X : Type 0} (f : X → Run (List B)) (g : X → Run (List A)) → ((x : X) → Alike (f x) (g x)) → (xs : List X) → Alike (gather f xs) (gather g xs)
  gather_alike f g a [] = nothing_alike
  gather_alike f g a (x ∷ xs) = join_alike (f x) (gather f xs) (g x) (gather g xs) (a x) (gather_alike f g a xs)

  where_alike : (b : Bool) (r : Run (List B)) (s : Run (List A)) → Alike r s → Alike (where_so b r) (where_so b s)
  where_alike true r s a = a
  where_alike false r s a = nothing_alike

  module _ (k : Spot → Run (List B)) (j : Spot → Run (List A)) (same : (spot : Spot) → Alike (k spot) (j spot)) where
    go_to_alike : (s : Separator) (test : NameTest) (name : List Label) (child : Label) (deeper : Run (List B)) (lower : Run (List A)) → Alike deeper lower → Alike (go_to s test name child k deeper) (go_to s test name child j lower)
    go_to_alike Slash test name child deeper lower a = where_alike (passes_label child test) (k (node_spot (name ++ child ∷ []) child)) (j (node_spot (name ++ child ∷ []) child)) (same (node_spot (name ++ child ∷ []) child))
    go_to_alike DoubleSlash test name child deeper lower a =
        let at = node_spot (name ++ child ∷ []) child in
        join_alike (where_so (passes_label child test) (k at)) deeper (where_so (passes_label child test) (j at)) lower (where_alike (passes_label child test) (k at) (j at) (same at)) a

    elements_alike : (s : Separator) (test : NameTest) (name : List Label) (above : Place) (local : Local) → Alike (gather (λ path. k (element_spot name local path)) (step_elements s test local above)) (gather (λ path. j (element_spot name local path)) (step_elements s test local above))
    elements_alike s test name above local = gather_alike (λ path. k (element_spot name local path)) (λ path. j (element_spot name local path)) (λ path. same (element_spot name local path)) (step_elements s test local above)

    go_from_alike : (s : Separator) (test : NameTest) (name : List Label) (marks : List State) (f : List Label → Run (List B)) (g : List Label → Run (List A)) → ((ids : List Label) → Alike (f ids) (g ids))
        → Alike (go_from test name marks f (λ local. gather (λ path. k (element_spot name local path)) (step_elements s test local []))) (go_from test name marks g (λ local. gather (λ path. j (element_spot name local path)) (step_elements s test local [])))
    go_from_alike s (Kind kind) name marks f g a = ids_alike _ (ids_known (w name)) (λ ids. run w (f ids)) (λ ids. run w (g ids)) a
    go_from_alike s (Tag tag) name marks f g a = full_alike _ (full_known (w name)) _ _ (λ ids local. join_alike (f ids) (gather (λ path. k (element_spot name local path)) (step_elements s (Tag tag) local [])) (g ids) (gather (λ path. j (element_spot name local path)) (step_elements s (Tag tag) local [])) (a ids) (elements_alike s (Tag tag) name [] local))
    go_from_alike s Any name marks f g a = full_alike _ (full_known (w name)) _ _ (λ ids local. join_alike (f ids) (gather (λ path. k (element_spot name local path)) (step_elements s Any local [])) (g ids) (gather (λ path. j (element_spot name local path)) (step_elements s Any local [])) (a ids) (elements_alike s Any name [] local))

    from_node_alike : (levels : ℕ) (s : Separator) (test : NameTest) (own lower : Marks) (name : List Label) → Alike (from_node levels s test own lower name k) (from_node levels s test own lower name j)
    from_node_alike zero s test own lower name =
        go_from_alike s test name (own name) (gather (λ child. go_to Slash test name child k (give []))) (gather (λ child. go_to Slash test name child j (give [])))
        (gather_alike (λ child. go_to Slash test name child k (give [])) (λ child. go_to Slash test name child j (give [])) (λ child. go_to_alike Slash test name child (give []) (give []) nothing_alike))
    from_node_alike (suc levels) s test own lower name =
        let f = λ (child : Label). go_to s test name child k (from_node levels s test lower lower (name ++ child ∷ []) k) in
        let g = λ (child : Label). go_to s test name child j (from_node levels s test lower lower (name ++ child ∷ []) j) in
        go_from_alike s test name (own name) (gather f) (gather g)
        (gather_alike f g (λ child. go_to_alike s test name child (from_node levels s test lower lower (name ++ child ∷ []) k) (from_node levels s test lower lower (name ++ child ∷ []) j) (from_node_alike levels s test lower lower (name ++ child ∷ []))))

    reach_alike : (top : Label) (s : Separator) (test : NameTest) (own lower : Marks) (spot : Spot) → Alike (reach top s test own lower spot k) (reach top s test own lower spot j)
    reach_alike top s test own lower document_spot = go_to_alike s test [] top (from_node (room (top ∷ [])) s test lower lower (top ∷ []) k) (from_node (room (top ∷ [])) s test lower lower (top ∷ []) j) (from_node_alike (room (top ∷ [])) s test lower lower (top ∷ []))
    reach_alike top s test own lower (node_spot name l) = from_node_alike (room name) s test own lower name
    reach_alike top s test own lower (element_spot name local path) = elements_alike s test name path local

-- what is found with its place makes the same looks
found_alike : (w : View) (spot : Spot) → IsAlike (λ xs. map (λ (x : Placed). x.item) xs) (run w (found spot)) (run w (found_there spot))
found_alike w spot = by_value (run w (found spot)).log (run w (found spot)).value
  where
    items_again : (xs : List Item) → xs ≡ map (λ (x : Placed). x.item) (map (placed (place_at spot)) xs)
    items_again [] = refl
    items_again (x ∷ xs) = ap (λ (ys : List Item). x ∷ ys) (items_again xs)

    by_value : (looks : List Need) (o : Option (List Item)) → IsAlike (λ xs. map (λ (x : Placed). x.item) xs) (record { log = looks; value = o }) (after looks o (λ items. run w (give (map (placed (place_at spot)) items))))
    by_value looks None = record { log = refl; value = refl }
    by_value looks (Some items) = record { log = sym (append-nil looks); value = ap Some (items_again items) }

item_parts : IsByParts (λ (xs : List Placed). map (λ x. x.item) xs)
item_parts = record { nothing = refl; parts = map-append (λ (x : Placed). x.item) }

-- a step and all further ones make the same looks, and the items of the one are those of the other, decided or not
pub goes_alike : (w : View) (top : Label) (i : ℕ) (ss : List MainStep) (spot : Spot) → IsAlike (λ xs. map (λ (x : Placed). x.item) xs) (run w (goes top i ss spot)) (run w (goes_then top i ss found_there spot))
goes_alike w top i [] spot = found_alike w spot
goes_alike w top i (s ∷ ss) spot =
    let items = λ (xs : List Placed). map (λ x. x.item) xs in
    reach_alike items item_parts w (λ at. tested top i s at (goes top (i + 1) ss at)) (λ at. tested top i s at (goes_then top (i + 1) ss found_there at))
    (λ at.
    let r = all_hold top (tested_at (states.Test i) at) s.conditions at in
    after_alike items item_parts w (run w r).log (run w r).value (λ b. run w (where_so b (goes top (i + 1) ss at))) (λ b. run w (where_so b (goes_then top (i + 1) ss found_there at)))
    (λ b. where_alike items item_parts w b (goes top (i + 1) ss at) (goes_then top (i + 1) ss found_there at) (goes_alike w top (i + 1) ss at)))
    top s.separator s.test (λ name. states.At i ∷ []) (λ name. states.Seek i ∷ []) spot

start_alike : (w : View) (top : Label) (ss : List MainStep) → (run w (go_at top 0 ss document_spot)).log ++ [] ≡ (run w (goes_then top 0 ss found_there document_spot)).log
start_alike w top [] = refl
start_alike w top (s ∷ ss) = append-nil (run w (go_at top 0 (s ∷ ss) document_spot)).log ∙ (goes_alike w top 0 (s ∷ ss) document_spot).log

-- from the document on
pub program_alike : (query : Syntax) (top : Label) (w : View) → (run w (placed_program query top)).log ≡ (run w (program query (from_document top))).log
program_alike query top w = sym (start_alike w top (map main_of query))
