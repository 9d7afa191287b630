-- What programs do over the view of a walk, part by part.
use Rattle.std.proofs.Common.{IsTrue, arith, ◌≡◌, ℕ, zero, suc, ◌+◌, ◌-◌, ◌<◌, ◌≤◌, Bool, true, false, cond, ◌&&◌, List, [], ◌∷◌, ◌++◌, length, get_or, drop, fold, Option, Some, None, option_map, refl, sym, ap, ◌∙◌, append-nil, append_assoc, subst}
use Rattle.std.proofs.lemmas.List.{drop_all}
use Rattle.iris_base.specs.declared.name.Label.{Label}
use Rattle.iris_base.specs.NameOrder.{label_eq, labels_equiv}
use Rattle.iris_base.specs.Under.{Under}
use Rattle.iris_base.proofs.Labels.{label_eq-Decides}
use Rattle.iris_base.specs.declared.state.State.{State}
use Rattle.iris_tree.specs.declared.local.Local.{Local}
use Rattle.iris_fragment.specs.declared.piece.Piece.{Piece}
use Rattle.iris_fragment.specs.declared.piece.Level.{Level}
use Rattle.iris_fragment.specs.declared.piece.Level.TheVariants.{Ids, Full}
use Rattle.iris_xpath.proofs.SelectedPlaces.{and_true}
use Rattle.iris_need.specs.declared.need.Need.{Need}
use Rattle.iris_need.specs.declared.further.Further.{Further}
use Rattle.iris_need.specs.declared.further.Further.TheVariants.{Main, Path}
use Rattle.iris_need.specs.declared.walk.Walk.{Walk}
use Rattle.iris_need.specs.Pieces.{piece_at, known_of, view_of}
use Rattle.iris_need.specs.Needs.{is_under, seen_from}
use Rattle.iris_need.specs.Run.{Run, see_ids, see_full, Out, Seen, ids_known, full_known, after_ids, after_full, pair_value, run}
use Rattle.iris_base.specs.declared.state.State.TheVariants as states
use Rattle.iris_tree.specs.Universe.{node, nodes_of}
use Rattle.iris_need.specs.Program.{gather, each, room, subtree, found, node_spot, own_look}
use Rattle.iris_need.specs.Collected.{take_look, collected, value_given}
use Rattle.iris_need.specs.Collected as known
use Rattle.iris_need.specs.Walk.{look_added, given, ids_at, full_at, FindsEnds, Finding, HasFound}
use Rattle.iris_need.proofs.Collected.{full_known_is, cut_at, collected_give, given_give, given_both, next_giving}

-- ---- names

under_from : (name above : List Label) → is_under name above ≡ true → Under name above
under_from name [] h = (name, refl)
under_from [] (t ∷ ts) h = absurd (cc)
under_from (l ∷ name) (t ∷ ts) h =
    let both = and_true (label_eq t l) (is_under name ts) h in
    let rest = under_from name ts both.1 in
    (rest.0, ap (λ (m : Label). m ∷ name) (sym ((label_eq-Decides t l).0 both.0)) ∙ ap (λ (ns : List Label). t ∷ ns) rest.1)

under_rest : (above rest : List Label) → is_under (above ++ rest) above ≡ true
under_rest [] rest = refl
under_rest (t ∷ ts) rest = rw (labels_equiv.refl t) (under_rest ts rest)

-- the test of a name is that of its labels
pub under_is : (r : Bool) (name above : List Label) → (IsTrue r → Under name above) × (Under name above → IsTrue r) → r ≡ is_under name above
under_is r name above h = by_test r (is_under name above) (λ (t : r ≡ true). let u = h.0 t in ap (λ (n : List Label). is_under n above) u.1 ∙ under_rest above u.0) (λ (t : is_under name above ≡ true). h.1 (under_from name above t))
  where
    by_test : (a b : Bool) → (a ≡ true → b ≡ true) → (b ≡ true → a ≡ true) → a ≡ b
    by_test true b f g = sym (f refl)
    by_test false true f g = g refl
    by_test false false f g = refl

-- ---- one look

ids_seen : (under : Bool) (o : Option Piece) → ids_known (cond under (option_map known_of o) None) ≡ cond under (option_map (λ piece. piece.ids) o) None
ids_seen true None = refl
ids_seen true (Some piece) = refl
ids_seen false o = refl

ids_are : (w : Walk) (name : List Label) → ids_known (seen_from w.above.now (view_of w.view.now) name) ≡ ids_at w name
ids_are w name = ids_seen (is_under name w.above.now) (piece_at w.view.now name)

full_is : (w : Walk) (name : List Label) → full_known (seen_from w.above.now (view_of w.view.now) name) ≡ full_at w name
full_is w name = by_under (is_under name w.above.now)
  where
    by_under : (under : Bool) → full_known (cond under (view_of w.view.now name) None) ≡ cond under (known.full_at w.view.now name) None
    by_under true = full_known_is (piece_at w.view.now name)
    by_under false = refl

ids_none : (t : List Need → Need → List Need) (needs : List Need) (look : Need) (o : Option (List Label)) {A : Type 0} (f : List Label → Out A) → o ≡ None → (fold t needs (after_ids look o f).log ≡ t needs look) × ((after_ids look o f).value ≡ None)
ids_none t needs look o f e = rw e (refl, refl)

ids_some : (t : List Need → Need → List Need) (needs : List Need) (look : Need) (o : Option (List Label)) (ids : List Label) {A : Type 0} (f : List Label → Out A) → o ≡ Some ids
    → (fold t needs (after_ids look o f).log ≡ fold t (t needs look) (f ids).log) × ((after_ids look o f).value ≡ (f ids).value)
ids_some t needs look o ids f e = rw e (refl, refl)

full_none : (t : List Need → Need → List Need) (needs : List Need) (look : Need) (o : Option Seen) {A : Type 0} (f : List Label → Local → Out A) → o ≡ None → (fold t needs (after_full look o f).log ≡ t needs look) × ((after_full look o f).value ≡ None)
full_none t needs look o f e = rw e (refl, refl)

full_some : (t : List Need → Need → List Need) (needs : List Need) (look : Need) (o : Option Seen) (s : Seen) {A : Type 0} (f : List Label → Local → Out A) → o ≡ Some s
    → (fold t needs (after_full look o f).log ≡ fold t (t needs look) (f s.ids s.local).log) × ((after_full look o f).value ≡ (f s.ids s.local).value)
full_some t needs look o s f e = rw e (refl, refl)

-- the needs after all looks of a program
abbrev pub adding : Walk → List Need → {A : Type 0} → Run A → List Need
adding w needs r = collected w.takes w.above.now w.view.now needs r

-- ids that are not seen end the program
pub ids_unknown : (w : Walk) (needs : List Need) (name : List Label) (marks : List State) {A : Type 0} (k : List Label → Run A) → ids_at w name ≡ None
    → (adding w needs (see_ids name marks k) ≡ look_added w needs (record { name = name; level = Ids; states = marks })) × (given w (see_ids name marks k) ≡ None)
unfolding collected value_given
ids_unknown w needs name marks k h =
    ids_none (look_added w) needs (record { name = name; level = Ids; states = marks }) (ids_known (seen_from w.above.now (view_of w.view.now) name)) (λ ids. run (seen_from w.above.now (view_of w.view.now)) (k ids)) (ids_are w name ∙ h)

-- ids that are seen are given on
pub ids_seen_on : (w : Walk) (needs : List Need) (name : List Label) (marks : List State) (ids : List Label) {A : Type 0} (k : List Label → Run A) → ids_at w name ≡ Some ids
    → (adding w needs (see_ids name marks k) ≡ adding w (look_added w needs (record { name = name; level = Ids; states = marks })) (k ids)) × (given w (see_ids name marks k) ≡ given w (k ids))
unfolding collected value_given
ids_seen_on w needs name marks ids k h =
    ids_some (look_added w) needs (record { name = name; level = Ids; states = marks }) (ids_known (seen_from w.above.now (view_of w.view.now) name)) ids (λ x. run (seen_from w.above.now (view_of w.view.now)) (k x)) (ids_are w name ∙ h)

-- local information that is not seen ends the program
pub full_unknown : (w : Walk) (needs : List Need) (name : List Label) (marks : List State) {A : Type 0} (k : List Label → Local → Run A) → full_at w name ≡ None
    → (adding w needs (see_full name marks k) ≡ look_added w needs (record { name = name; level = Full; states = marks })) × (given w (see_full name marks k) ≡ None)
unfolding collected value_given
full_unknown w needs name marks k h =
    full_none (look_added w) needs (record { name = name; level = Full; states = marks }) (full_known (seen_from w.above.now (view_of w.view.now) name)) (λ ids local. run (seen_from w.above.now (view_of w.view.now)) (k ids local)) (full_is w name ∙ h)

-- local information that is seen is given on
pub full_seen_on : (w : Walk) (needs : List Need) (name : List Label) (marks : List State) (s : Seen) {A : Type 0} (k : List Label → Local → Run A) → full_at w name ≡ Some s
    → (adding w needs (see_full name marks k) ≡ adding w (look_added w needs (record { name = name; level = Full; states = marks })) (k s.ids s.local)) × (given w (see_full name marks k) ≡ given w (k s.ids s.local))
unfolding collected value_given
full_seen_on w needs name marks s k h =
    full_some (look_added w) needs (record { name = name; level = Full; states = marks }) (full_known (seen_from w.above.now (view_of w.view.now) name)) s (λ ids local. run (seen_from w.above.now (view_of w.view.now)) (k ids local)) (full_is w name ∙ h)

-- ---- values of two programs

-- of two lists of found things
abbrev pub put_together : {A : Type 0} → Option (List A) → Option (List A) → Option (List A)
put_together x y = pair_value (λ xs ys. xs ++ ys) x y

-- nothing before
pub together_left : {A : Type 0} (y : Option (List A)) → put_together (Some []) y ≡ y
together_left None = refl
together_left (Some ys) = refl

-- nothing after
pub together_right : {A : Type 0} (x : Option (List A)) → put_together x (Some []) ≡ x
together_right None = refl
together_right (Some xs) = ap Some (append-nil xs)

pub together_three : {A : Type 0} (x y z : Option (List A)) → put_together (put_together x y) z ≡ put_together x (put_together y z)
together_three None y z = refl
together_three (Some xs) None z = refl
together_three (Some xs) (Some ys) None = refl
together_three (Some xs) (Some ys) (Some zs) = ap Some (append_assoc xs ys zs)

-- ---- found ends

-- no further end
pub no_ends : (old : List (Option (List ℕ))) → FindsEnds true old old (Some [])
no_ends old = ap Some (sym (append-nil old))

-- some further ends
pub more_ends : (old new more : List (Option (List ℕ))) → new ≡ old ++ more → FindsEnds true old new (Some more)
more_ends old new more h = ap Some h

-- ends found one after another
pub ends_join : (t u : Bool) (a b c : List (Option (List ℕ))) (x y : Option (List (Option (List ℕ)))) → FindsEnds t a b x → FindsEnds u b c y → FindsEnds (t && u) a c (put_together x y)
ends_join false u a b c None y h k = refl
ends_join false u a b c (Some xs) y h k = absurd (cc)
ends_join true u a b c None y h k = absurd (cc)
ends_join true false a b c (Some xs) None h k = refl
ends_join true false a b c (Some xs) (Some ys) h k = absurd (cc)
ends_join true true a b c (Some xs) None h k = absurd (cc)
ends_join true true a b c (Some xs) (Some ys) h k =
    let first : b ≡ a ++ xs = cc in
    let second : c ≡ b ++ ys = cc in
    ap Some (second ∙ ap (λ (zs : List (Option (List ℕ))). zs ++ ys) first ∙ append_assoc a xs ys)

-- ---- found by what is done further on

-- nothing
pub found_none : (f : Further) (old : List (Option (List ℕ))) → HasFound f true old old (Some [])
found_none (Main route) old = tt
found_none (Path s trail) old = no_ends old

-- what is not told
pub found_untold : (f : Further) (old : List (Option (List ℕ))) → HasFound f false old old None
found_untold (Main route) old = tt
found_untold (Path s trail) old = refl

-- one after another
pub found_join : (f : Further) (t u : Bool) (a b c : List (Option (List ℕ))) (x y : Option (List (Finding f))) → HasFound f t a b x → HasFound f u b c y → HasFound f (t && u) a c (put_together x y)
found_join (Main route) t u a b c x y h k = tt
found_join (Path s trail) t u a b c x y h k = ends_join t u a b c x y h k

-- ---- loops

-- lists of ends
abbrev pub Ends : Type 0
Ends = List (Option (List ℕ))

-- what was found so far, and what programs of those that are left give
pub record IsFound (w : Walk) {A : Type 0} (Has : Bool → Ends → Ends → Option (List A) → Type 0) {X : Type 0} (F : X → Run (List A)) (told : Bool) (old new : Ends) (xs : List X) (i : ℕ) : Type 0 where
  pub done : Option (List A)
  pub found : Has told old new done
  pub left : put_together done (given w (gather F (drop i xs))) ≡ given w (gather F xs)

-- before the first
pub found_begin : (w : Walk) {A : Type 0} (Has : Bool → Ends → Ends → Option (List A) → Type 0) {X : Type 0} (F : X → Run (List A)) (old : Ends) (xs : List X) → Has true old old (Some []) → IsFound w Has F true old old xs 0
found_begin w Has F old xs none = record { done = Some []; found = none; left = together_left (given w (gather F xs)) }

gather_cut : (w : Walk) {X A : Type 0} (F : X → Run (List A)) (xs : List X) (i : ℕ) (x d : X) → i < length xs → x ≡ get_or xs i d → given w (gather F (drop i xs)) ≡ put_together (given w (F x)) (given w (gather F (drop (i + 1) xs)))
gather_cut w F xs i x d h e =
    ap (λ ys. given w (gather F ys)) (cut_at xs i x d h e) ∙ given_both w.above.now w.view.now (λ ys zs. ys ++ zs) (F x) (gather F (drop (i + 1) xs))

-- one more is done
pub found_more : (w : Walk) {A : Type 0} (Has : Bool → Ends → Ends → Option (List A) → Type 0) {X : Type 0} (F : X → Run (List A)) (t u : Bool) (a b c : Ends) (xs : List X) (i : ℕ) (x d : X) → i < length xs → x ≡ get_or xs i d
    → ((x y : Option (List A)) → Has t a b x → Has u b c y → Has (t && u) a c (put_together x y))
    → IsFound w Has F t a b xs i → Has u b c (given w (F x)) → IsFound w Has F (t && u) a c xs (i + 1)
found_more w Has F t u a b c xs i x d h e join so k = record {
  done = put_together so.done (given w (F x));
  found = join so.done (given w (F x)) so.found k;
  left = together_three so.done (given w (F x)) (given w (gather F (drop (i + 1) xs))) ∙ ap (put_together so.done) (sym (gather_cut w F xs i x d h e)) ∙ so.left;
}

-- after the last
pub found_end : (w : Walk) {A : Type 0} (Has : Bool → Ends → Ends → Option (List A) → Type 0) {X : Type 0} (F : X → Run (List A)) (told : Bool) (old new : Ends) (xs : List X) (i : ℕ) → length xs ≤ i → IsFound w Has F told old new xs i → Has told old new (given w (gather F xs))
found_end w {A = A} Has F told old new xs i h so =
    let none : given w (gather F (drop i xs)) ≡ Some [] = ap (λ ys. given w (gather F ys)) (drop_all i xs h) ∙ given_give w.above.now w.view.now [] in
    let all : so.done ≡ given w (gather F xs) = sym (together_right so.done) ∙ ap (put_together so.done) (sym none) ∙ so.left in
    subst (λ (v : Option (List A)). Has told old new v) all so.found

-- ---- a selected node

-- below a node that is not known nothing is looked at
pub subtree_unknown : (w : Walk) (needs : List Need) (levels : ℕ) (l : Label) (name : List Label) → full_at w name ≡ None
    → adding w needs (subtree levels l name) ≡ look_added w needs (record { name = name; level = Full; states = states.Whole ∷ [] })
subtree_unknown w needs zero l name h = (full_unknown w needs name (states.Whole ∷ []) _ h).0
subtree_unknown w needs (suc levels) l name h = (full_unknown w needs name (states.Whole ∷ []) _ h).0

-- at the last level the node alone is looked at
pub subtree_last : (w : Walk) (needs : List Need) (levels : ℕ) (l : Label) (name : List Label) (s : Seen) → full_at w name ≡ Some s → levels ≡ 0
    → adding w needs (subtree levels l name) ≡ look_added w needs (record { name = name; level = Full; states = states.Whole ∷ [] })
subtree_last w needs zero l name s h z = (full_seen_on w needs name (states.Whole ∷ []) s _ h).0 ∙ collected_give w.takes w.above.now w.view.now _ _
subtree_last w needs (suc levels) l name s h z = absurd (cc)

-- else its children are looked at too
pub subtree_more : (w : Walk) (needs : List Need) (levels : ℕ) (l : Label) (name : List Label) (s : Seen) → full_at w name ≡ Some s → 0 < levels
    → adding w needs (subtree levels l name) ≡ adding w (look_added w needs (record { name = name; level = Full; states = states.Whole ∷ [] })) (each (λ child. subtree (levels - 1) child (name ++ child ∷ [])) s.ids)
subtree_more w needs zero l name s h z = absurd (omega arith)
subtree_more w needs (suc levels) l name s h z =
    let down : suc levels - 1 ≡ levels = omega arith in
    rw down ((full_seen_on w needs name (states.Whole ∷ []) s _ h).0 ∙ next_giving w.takes w.above.now w.view.now _ (each (λ child. subtree levels child (name ++ child ∷ [])) s.ids) (λ below. node l s.local (nodes_of below)))

-- a selected node is looked at with all below it
pub whole_is : (w : Walk) (needs : List Need) (l : Label) (name : List Label) → adding w needs (found (node_spot name l)) ≡ adding w needs (subtree (room name) l name)
whole_is w needs l name = next_giving w.takes w.above.now w.view.now needs (subtree (room name) l name) _

-- ---- the start's own node

-- the look at its ids
pub own_ids : (w : Walk) (needs : List Need) (name : List Label) (level : Level) → level ≡ Ids → adding w needs (own_look name level) ≡ look_added w needs (record { name = name; level = Ids; states = [] })
own_ids w needs name level h = rw h (by_ids (ids_at w name) refl)
  where
    by_ids : (o : Option (List Label)) → ids_at w name ≡ o → adding w needs (own_look name Ids) ≡ look_added w needs (record { name = name; level = Ids; states = [] })
    by_ids None e = (ids_unknown w needs name [] _ e).0
    by_ids (Some ids) e = (ids_seen_on w needs name [] ids _ e).0 ∙ collected_give w.takes w.above.now w.view.now _ []

-- the look at its local information
pub own_full : (w : Walk) (needs : List Need) (name : List Label) (level : Level) → level ≡ Full → adding w needs (own_look name level) ≡ look_added w needs (record { name = name; level = Full; states = [] })
own_full w needs name level h = rw h (by_seen (full_at w name) refl)
  where
    by_seen : (o : Option Seen) → full_at w name ≡ o → adding w needs (own_look name Full) ≡ look_added w needs (record { name = name; level = Full; states = [] })
    by_seen None e = (full_unknown w needs name [] _ e).0
    by_seen (Some s) e = (full_seen_on w needs name [] s _ e).0 ∙ collected_give w.takes w.above.now w.view.now _ []
