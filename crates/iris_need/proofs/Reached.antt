-- Steps of a walk, part by part.
use Rattle.std.proofs.Common.{◌≡◌, ◌⊎◌, inl, inr, ℕ, zero, suc, Bool, true, false, ◌&&◌, List, [], ◌∷◌, ◌++◌, map, Option, Some, None, refl, sym, ap, ◌∙◌, subst, unwrap_or}
use Rattle.iris_base.specs.declared.name.Label.{Label}
use Rattle.iris_base.specs.declared.state.State.{State}
use Rattle.iris_tree.specs.declared.local.Local.{Local}
use Rattle.iris_tree.specs.Document.{Place}
use Rattle.iris_fragment.specs.declared.piece.Level.TheVariants.{Ids, Full}
use Rattle.iris_xpath.specs.declared.expression.Separator.{Separator}
use Rattle.iris_xpath.specs.declared.expression.Separator.TheVariants.{Slash, DoubleSlash}
use Rattle.iris_xpath.specs.declared.expression.NameTest.{NameTest}
use Rattle.iris_xpath.specs.declared.expression.NameTest.TheVariants.{Any, Kind, Tag}
use Rattle.iris_need.specs.declared.need.Need.{Need}
use Rattle.iris_need.specs.declared.looks.Marks.{Marks as CodeMarks}
use Rattle.iris_need.specs.declared.further.Further.{Further}
use Rattle.iris_need.specs.declared.walk.Walk.{Walk}
use Rattle.iris_need.specs.Program.{document_spot, Marks, gather, join, where_so, room, go_from, go_to, element_spot, node_spot, passes_label, step_elements}
use Rattle.iris_need.specs.Run.{Run, give, next, see_ids, see_full, Seen}
use Rattle.iris_need.specs.Walk.{look_added, given, ids_at, full_at, path_of, paths_of, Finding, HasFound, step_in, lower_of, further_program, reached, node_reached, child_reached, label_reached, further_down, deeper_reached, elements_reached}
use Rattle.iris_need.proofs.Collected.{collected_give, given_give, collected_both, given_both, next_undecided, next_decided}
use Rattle.iris_need.proofs.Walked.{Ends, adding, put_together, together_right, ids_unknown, ids_seen_on, full_unknown, full_seen_on, found_join}

-- ---- where something holds

-- undecided: nothing follows
pub where_none : (w : Walk) (needs : List Need) {A : Type 0} (tests : Run Bool) (r : Run (List A)) → given w tests ≡ None
    → (adding w needs (next tests (λ b. where_so b r)) ≡ adding w needs tests) × (given w (next tests (λ b. where_so b r)) ≡ None)
where_none w needs tests r h = next_undecided w.takes w.above.now w.view.now needs tests (λ b. where_so b r) h

-- false: nothing follows
pub where_false : (w : Walk) (needs : List Need) {A : Type 0} (tests : Run Bool) (r : Run (List A)) → given w tests ≡ Some false
    → (adding w needs (next tests (λ b. where_so b r)) ≡ adding w needs tests) × (given w (next tests (λ b. where_so b r)) ≡ Some [])
where_false w needs tests r h =
    let k = next_decided w.takes w.above.now w.view.now needs tests false (λ b. where_so b r) h in
    (k.0 ∙ collected_give w.takes w.above.now w.view.now _ [], k.1 ∙ given_give w.above.now w.view.now [])

-- true: the rest follows
pub where_true : (w : Walk) (needs : List Need) {A : Type 0} (tests : Run Bool) (r : Run (List A)) → given w tests ≡ Some true
    → (adding w needs (next tests (λ b. where_so b r)) ≡ adding w (adding w needs tests) r) × (given w (next tests (λ b. where_so b r)) ≡ given w r)
where_true w needs tests r h = next_decided w.takes w.above.now w.view.now needs tests true (λ b. where_so b r) h

-- where it is false or undecided nothing follows
pub where_stops : (w : Walk) (needs : List Need) {A : Type 0} (tests : Run Bool) (r : Run (List A)) (o : Option Bool) → o ≡ given w tests → unwrap_or o false ≡ false → adding w needs (next tests (λ b. where_so b r)) ≡ adding w needs tests
where_stops w needs tests r None h e = (where_none w needs tests r (sym h)).0
where_stops w needs tests r (Some true) h e = absurd (cc)
where_stops w needs tests r (Some false) h e = (where_false w needs tests r (sym h)).0

-- where it is true the rest follows
pub where_goes : (w : Walk) (needs : List Need) {A : Type 0} (tests : Run Bool) (r : Run (List A)) (o : Option Bool) → o ≡ given w tests → unwrap_or o false ≡ true → adding w needs (next tests (λ b. where_so b r)) ≡ adding w (adding w needs tests) r
where_goes w needs tests r None h e = absurd (cc)
where_goes w needs tests r (Some true) h e = (where_true w needs tests r (sym h)).0
where_goes w needs tests r (Some false) h e = absurd (cc)

-- ---- two programs

-- a program and nothing further
pub join_none : (w : Walk) (needs : List Need) {A : Type 0} (r : Run (List A))
    → (adding w needs r ≡ adding w (adding w needs r) (give {A = List A} [])) × (given w r ≡ put_together (given w r) (given w (give {A = List A} [])))
join_none w needs {A = A} r =
    (sym (collected_give w.takes w.above.now w.view.now (adding w needs r) {A = List A} []), sym (ap (put_together (given w r)) (given_give w.above.now w.view.now {A = List A} []) ∙ together_right (given w r)))

-- one after another
pub join_is : (w : Walk) (needs : List Need) {A : Type 0} (r s : Run (List A))
    → (adding w needs (join r s) ≡ adding w (adding w needs r) s) × (given w (join r s) ≡ put_together (given w r) (given w s))
join_is w needs r s = (collected_both w.takes w.above.now w.view.now needs (λ xs ys. xs ++ ys) r s, given_both w.above.now w.view.now (λ xs ys. xs ++ ys) r s)

-- one place alone
pub gather_one : (w : Walk) (needs : List Need) {X A : Type 0} (F : X → Run (List A)) (x : X)
    → (adding w needs (gather F (x ∷ [])) ≡ adding w needs (F x)) × (given w (gather F (x ∷ [])) ≡ given w (F x))
gather_one w needs {A = A} F x =
    let two = join_is w needs (F x) (give {A = List A} []) in
    let none = join_none w needs (F x) in
    (two.0 ∙ sym none.0, two.1 ∙ sym none.1)

-- ---- a child

-- a step to a child: to its label, and then on from it
pub child_is : (w : Walk) (needs : List Need) (levels : ℕ) (f : Further) (name : List Label) (child : Label)
    → (adding w needs (child_reached w levels f name child) ≡ adding w (adding w needs (label_reached w f (name ++ child ∷ []) child)) (deeper_reached w levels f (name ++ child ∷ [])))
    × (given w (child_reached w levels f name child) ≡ put_together (given w (label_reached w f (name ++ child ∷ []) child)) (given w (deeper_reached w levels f (name ++ child ∷ []))))
child_is w needs zero f name child = join_none w needs (label_reached w f (name ++ child ∷ []) child)
child_is w needs (suc levels) f name child = by_separator (step_in f).separator
  where
    by_separator : (s : Separator)
        → (adding w needs (go_to s (step_in f).test name child (further_program w.top f) (node_reached w levels f (lower_of f) (name ++ child ∷ []))) ≡ adding w (adding w needs (label_reached w f (name ++ child ∷ []) child)) (further_down w s levels f (name ++ child ∷ [])))
        × (given w (go_to s (step_in f).test name child (further_program w.top f) (node_reached w levels f (lower_of f) (name ++ child ∷ []))) ≡ put_together (given w (label_reached w f (name ++ child ∷ []) child)) (given w (further_down w s levels f (name ++ child ∷ []))))
    by_separator Slash = join_none w needs (label_reached w f (name ++ child ∷ []) child)
    by_separator DoubleSlash = join_is w needs (label_reached w f (name ++ child ∷ []) child) (node_reached w levels f (lower_of f) (name ++ child ∷ []))

-- ---- a node

-- a step from a node: to its children, and to its plain elements
pub node_is : (w : Walk) (levels : ℕ) (f : Further) (own : Marks) (name : List Label)
    → node_reached w levels f own name ≡ go_from (step_in f).test name (own name) (gather (child_reached w levels f name)) (λ local. elements_reached w f local [] name)
node_is w zero f own name = refl
node_is w (suc levels) f own name = refl

-- no test but one by kind
abbrev pub IsNoKind : NameTest → Type 0
IsNoKind Any = Unit {0}
IsNoKind (Tag tag) = Unit {0}
IsNoKind (Kind kind) = ⊥

-- a test by kind needs the ids alone
pub from_ids : {A : Type 0} (test : NameTest) (kind : List ℕ) (name : List Label) (marks : List State) (nodes : List Label → Run (List A)) (elements : Local → Run (List A)) → test ≡ Kind kind → go_from test name marks nodes elements ≡ see_ids name marks nodes
from_ids test kind name marks nodes elements h = rw h refl

-- any other test needs the plain elements too
pub from_full : {A : Type 0} (test : NameTest) (name : List Label) (marks : List State) (nodes : List Label → Run (List A)) (elements : Local → Run (List A)) → IsNoKind test → go_from test name marks nodes elements ≡ see_full name marks (λ ids local. join (nodes ids) (elements local))
from_full Any name marks nodes elements h = refl
from_full (Tag tag) name marks nodes elements h = refl
from_full (Kind kind) name marks nodes elements h = absurd h

-- ---- the document

-- a step from the document goes to the top node
pub document_is : (w : Walk) (f : Further) (own : CodeMarks) → reached w f own document_spot ≡ child_reached w 16 f [] w.top
unfolding room
document_is w f own = refl

-- the looks at a child: those at its label, and those further down
pub child_done : (w : Walk) (needs mid new : List Need) (levels : ℕ) (f : Further) (name pushed named : List Label) (child : Label) → pushed ≡ name ++ child ∷ [] → named ≡ pushed
    → mid ≡ adding w needs (label_reached w f pushed child) → new ≡ adding w mid (deeper_reached w levels f named) → new ≡ adding w needs (child_reached w levels f name child)
child_done w needs mid new levels f name pushed named child p n h k =
    k ∙ ap (λ (m : List Label). adding w mid (deeper_reached w levels f m)) (n ∙ p)
    ∙ ap (λ (ns : List Need). adding w ns (deeper_reached w levels f (name ++ child ∷ []))) (h ∙ ap (λ (m : List Label). adding w needs (label_reached w f m child)) p)
    ∙ sym (child_is w needs levels f name child).0

-- what is found at a child: that at its label, and that further down
pub child_found : (w : Walk) (needs : List Need) (levels : ℕ) (f : Further) (name pushed named : List Label) (child : Label) (t u : Bool) (a b c : Ends) → pushed ≡ name ++ child ∷ [] → named ≡ pushed
    → HasFound f t a b (given w (label_reached w f pushed child)) → HasFound f u b c (given w (deeper_reached w levels f named)) → HasFound f (t && u) a c (given w (child_reached w levels f name child))
child_found w needs levels f name pushed named child t u a b c p n h k =
    let first = subst (λ (m : List Label). HasFound f t a b (given w (label_reached w f m child))) p h in
    let second = subst (λ (m : List Label). HasFound f u b c (given w (deeper_reached w levels f m))) (n ∙ p) k in
    subst (λ (v : Option (List (Finding f))). HasFound f (t && u) a c v) (sym (child_is w needs levels f name child).1)
    (found_join f t u a b c (given w (label_reached w f (name ++ child ∷ []) child)) (given w (deeper_reached w levels f (name ++ child ∷ []))) first second)

-- ---- a node by its test

-- a test by kind, where the ids are not seen
pub kind_unknown : (w : Walk) (needs : List Need) (levels : ℕ) (f : Further) (own : Marks) (name : List Label) (kind : List ℕ) → (step_in f).test ≡ Kind kind → ids_at w name ≡ None
    → (adding w needs (node_reached w levels f own name) ≡ look_added w needs (record { name = name; level = Ids; states = own name })) × (given w (node_reached w levels f own name) ≡ None)
kind_unknown w needs levels f own name kind t h =
    subst (λ (r : Run (List (Finding f))). (adding w needs r ≡ look_added w needs (record { name = name; level = Ids; states = own name })) × (given w r ≡ None))
    (sym (node_is w levels f own name ∙ from_ids (step_in f).test kind name (own name) (gather (child_reached w levels f name)) (λ local. elements_reached w f local [] name) t))
    (ids_unknown w needs name (own name) (gather (child_reached w levels f name)) h)

-- a test by kind, where they are
pub kind_known : (w : Walk) (needs : List Need) (levels : ℕ) (f : Further) (own : Marks) (name ids : List Label) (kind : List ℕ) → (step_in f).test ≡ Kind kind → ids_at w name ≡ Some ids
    → (adding w needs (node_reached w levels f own name) ≡ adding w (look_added w needs (record { name = name; level = Ids; states = own name })) (gather (child_reached w levels f name) ids))
    × (given w (node_reached w levels f own name) ≡ given w (gather (child_reached w levels f name) ids))
kind_known w needs levels f own name ids kind t h =
    subst (λ (r : Run (List (Finding f))). (adding w needs r ≡ adding w (look_added w needs (record { name = name; level = Ids; states = own name })) (gather (child_reached w levels f name) ids)) × (given w r ≡ given w (gather (child_reached w levels f name) ids)))
    (sym (node_is w levels f own name ∙ from_ids (step_in f).test kind name (own name) (gather (child_reached w levels f name)) (λ local. elements_reached w f local [] name) t))
    (ids_seen_on w needs name (own name) ids (gather (child_reached w levels f name)) h)

-- any other test, where the local information is not seen
pub other_unknown : (w : Walk) (needs : List Need) (levels : ℕ) (f : Further) (own : Marks) (name : List Label) → IsNoKind (step_in f).test → full_at w name ≡ None
    → (adding w needs (node_reached w levels f own name) ≡ look_added w needs (record { name = name; level = Full; states = own name })) × (given w (node_reached w levels f own name) ≡ None)
other_unknown w needs levels f own name t h =
    subst (λ (r : Run (List (Finding f))). (adding w needs r ≡ look_added w needs (record { name = name; level = Full; states = own name })) × (given w r ≡ None))
    (sym (node_is w levels f own name ∙ from_full (step_in f).test name (own name) (gather (child_reached w levels f name)) (λ local. elements_reached w f local [] name) t))
    (full_unknown w needs name (own name) (λ ids local. join (gather (child_reached w levels f name) ids) (elements_reached w f local [] name)) h)

-- any other test, where it is: the children, and then the plain elements
pub other_known : (w : Walk) (needs : List Need) (levels : ℕ) (f : Further) (own : Marks) (name : List Label) (s : Seen) → IsNoKind (step_in f).test → full_at w name ≡ Some s
    → (adding w needs (node_reached w levels f own name) ≡ adding w (adding w (look_added w needs (record { name = name; level = Full; states = own name })) (gather (child_reached w levels f name) s.ids)) (elements_reached w f s.local [] name))
    × (given w (node_reached w levels f own name) ≡ put_together (given w (gather (child_reached w levels f name) s.ids)) (given w (elements_reached w f s.local [] name)))
other_known w needs levels f own name s t h =
    let k = full_seen_on w needs name (own name) s (λ ids local. join (gather (child_reached w levels f name) ids) (elements_reached w f local [] name)) h in
    let two = join_is w (look_added w needs (record { name = name; level = Full; states = own name })) (gather (child_reached w levels f name) s.ids) (elements_reached w f s.local [] name) in
    subst (λ (r : Run (List (Finding f))). (adding w needs r ≡ adding w (adding w (look_added w needs (record { name = name; level = Full; states = own name })) (gather (child_reached w levels f name) s.ids)) (elements_reached w f s.local [] name))
    × (given w r ≡ put_together (given w (gather (child_reached w levels f name) s.ids)) (given w (elements_reached w f s.local [] name))))
    (sym (node_is w levels f own name ∙ from_full (step_in f).test name (own name) (gather (child_reached w levels f name)) (λ local. elements_reached w f local [] name) t))
    (k.0 ∙ two.0, k.1 ∙ two.1)

-- ---- plain elements

gather_map : {X Y A : Type 0} (F : Y → Run (List A)) (g : X → Y) (xs : List X) → gather F (map g xs) ≡ gather (λ (x : X). F (g x)) xs
gather_map F g [] = refl
gather_map {A = A} F g (x ∷ xs) = ap (λ (r : Run (List A)). join (F (g x)) r) (gather_map F g xs)

-- a step to plain elements goes to those at the paths to which it goes
pub elements_are : (w : Walk) (f : Further) (local : Local) (above : Place) (name : List Label) (ps : List (List ℕ)) → paths_of ps ≡ step_elements (step_in f).separator (step_in f).test local above
    → gather (λ (path : List ℕ). further_program w.top f (element_spot name local (path_of path))) ps ≡ elements_reached w f local above name
elements_are w f local above name ps h =
    sym (gather_map (λ (path : Place). further_program w.top f (element_spot name local path)) path_of ps) ∙ ap (λ (qs : List Place). gather (λ (path : Place). further_program w.top f (element_spot name local path)) qs) h

-- ---- where a step ends

-- a test that is none by kind
pub no_kind : (test other : NameTest) → test ≡ other → (other ≡ Any) ⊎ ((tag : List ℕ) × (other ≡ Tag tag)) → IsNoKind test
no_kind test other h (inl any) = subst (λ (t : NameTest). IsNoKind t) (sym (h ∙ any)) tt
no_kind test other h (inr tag) = subst (λ (t : NameTest). IsNoKind t) (sym (h ∙ tag.1)) tt

-- at the last level nothing is further down
pub deeper_none : (w : Walk) (needs : List Need) (levels : ℕ) (f : Further) (name : List Label) → levels ≡ 0 → (adding w needs (deeper_reached w levels f name) ≡ needs) × (given w (deeper_reached w levels f name) ≡ Some [])
deeper_none w needs zero f name h = (collected_give w.takes w.above.now w.view.now needs {A = List (Finding f)} [], given_give w.above.now w.view.now {A = List (Finding f)} [])
deeper_none w needs (suc levels) f name h = absurd (cc)

-- a step by `/` doesn't go further down
pub deeper_slash : (w : Walk) (needs : List Need) (levels : ℕ) (f : Further) (name : List Label) → (step_in f).separator ≡ Slash → (adding w needs (deeper_reached w levels f name) ≡ needs) × (given w (deeper_reached w levels f name) ≡ Some [])
deeper_slash w needs zero f name h = (collected_give w.takes w.above.now w.view.now needs {A = List (Finding f)} [], given_give w.above.now w.view.now {A = List (Finding f)} [])
deeper_slash w needs (suc levels) f name h =
    subst (λ (s : Separator). (adding w needs (further_down w s levels f name) ≡ needs) × (given w (further_down w s levels f name) ≡ Some [])) (sym h)
    (collected_give w.takes w.above.now w.view.now needs {A = List (Finding f)} [], given_give w.above.now w.view.now {A = List (Finding f)} [])

-- nothing is done at a label to which the step doesn't go
pub label_other : (w : Walk) (needs : List Need) (f : Further) (name : List Label) (l : Label) → passes_label l (step_in f).test ≡ false → (adding w needs (label_reached w f name l) ≡ needs) × (given w (label_reached w f name l) ≡ Some [])
label_other w needs f name l h =
    subst (λ (b : Bool). (adding w needs (where_so b (further_program w.top f (node_spot name l))) ≡ needs) × (given w (where_so b (further_program w.top f (node_spot name l))) ≡ Some [])) (sym h)
    (collected_give w.takes w.above.now w.view.now needs {A = List (Finding f)} [], given_give w.above.now w.view.now {A = List (Finding f)} [])
