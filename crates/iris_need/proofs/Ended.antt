-- The ends of paths over the view of a walk.
use Rattle.std.proofs.Common.{◌≡◌, ℕ, zero, suc, ◌-◌, ◌<◌, Bool, true, false, List, [], ◌∷◌, ◌++◌, filter, Option, Some, None, refl, sym, ap, ◌∙◌, append_assoc, arith}
use Rattle.iris_base.specs.declared.name.Label.{Label}
use Rattle.iris_base.specs.declared.state.State.{State}
use Rattle.iris_base.specs.Attribute.{is_id}
use Rattle.iris_fragment.specs.declared.piece.Level.TheVariants.{Ids, Full}
use Rattle.iris_tree.specs.Attrs.{value_of}
use Rattle.iris_tree.specs.declared.local.Local.{Local}
use Rattle.iris_tree.specs.Document.{Place}
use Rattle.iris_xpath.specs.Places.{is_above, element_paths}
use Rattle.iris_need.specs.declared.need.Need.{Need}
use Rattle.iris_need.specs.declared.walk.Walk.{Walk}
use Rattle.iris_need.specs.Program.{Marks, gather, join, some_end, element_ends, see_attribute, own_attribute, attributes_from}
use Rattle.iris_need.specs.Run.{Run, give, Seen}
use Rattle.iris_need.specs.Walk.{look_added, given, ids_at, full_at}
use Rattle.iris_need.proofs.Collected.{collected_give, given_give}
use Rattle.iris_need.proofs.ElementPaths.{all_below}
use Rattle.iris_need.proofs.Reached.{join_is}
use Rattle.iris_need.proofs.Walked.{Ends, adding, put_together, ids_unknown, ids_seen_on, full_unknown, full_seen_on}

-- ---- the attribute of a node alone

-- `@id` is told by the label
pub own_id : (w : Walk) (needs : List Need) (b : Bool) (marks : Marks) (attr : List ℕ) (name : List Label) (l : Label) → b ≡ true
    → (adding w needs (own_attribute b marks attr name l) ≡ needs) × (given w (own_attribute b marks attr name l) ≡ Some (Some l.id ∷ []))
own_id w needs true marks attr name l h = (collected_give w.takes w.above.now w.view.now needs (Some l.id ∷ []), given_give w.above.now w.view.now (Some l.id ∷ []))
own_id w needs false marks attr name l h = absurd (cc)

-- where the node is not known, no other is told
pub own_unknown : (w : Walk) (needs : List Need) (b : Bool) (marks : Marks) (attr : List ℕ) (name : List Label) (l : Label) → b ≡ false → full_at w name ≡ None
    → (adding w needs (own_attribute b marks attr name l) ≡ look_added w needs (record { name = name; level = Full; states = marks name })) × (given w (own_attribute b marks attr name l) ≡ None)
own_unknown w needs true marks attr name l h e = absurd (cc)
own_unknown w needs false marks attr name l h e = full_unknown w needs name (marks name) (λ ids local. give (some_end (value_of local.attrs attr))) e

-- where it is, another one is told by its local information
pub own_known : (w : Walk) (needs : List Need) (b : Bool) (marks : Marks) (attr : List ℕ) (name : List Label) (l : Label) (s : Seen) → b ≡ false → full_at w name ≡ Some s
    → (adding w needs (own_attribute b marks attr name l) ≡ look_added w needs (record { name = name; level = Full; states = marks name })) × (given w (own_attribute b marks attr name l) ≡ Some (some_end (value_of s.local.attrs attr)))
own_known w needs true marks attr name l s h e = absurd (cc)
own_known w needs false marks attr name l s h e =
    let k = full_seen_on w needs name (marks name) s (λ ids local. give (some_end (value_of local.attrs attr))) e in
    (k.0 ∙ collected_give w.takes w.above.now w.view.now _ (some_end (value_of s.local.attrs attr)), k.1 ∙ given_give w.above.now w.view.now (some_end (value_of s.local.attrs attr)))

-- ---- the attributes of a node and of its plain elements

-- what is found there, and the ids
abbrev pub here : Bool → List ℕ → List Label → Label → List State → Run (Ends × List Label)
here b attr name l marks = see_attribute b attr name l marks (λ own ids more. give (own ++ more, ids))

-- ids that are not seen
pub here_no_ids : (w : Walk) (needs : List Need) (b : Bool) (attr : List ℕ) (name : List Label) (l : Label) (marks : List State) → b ≡ true → ids_at w name ≡ None
    → (adding w needs (here b attr name l marks) ≡ look_added w needs (record { name = name; level = Ids; states = marks })) × (given w (here b attr name l marks) ≡ None)
here_no_ids w needs true attr name l marks h e = ids_unknown w needs name marks (λ ids. give (Some l.id ∷ [], ids)) e
here_no_ids w needs false attr name l marks h e = absurd (cc)

-- the id
pub here_id : (w : Walk) (needs : List Need) (b : Bool) (attr : List ℕ) (name : List Label) (l : Label) (marks : List State) (ids : List Label) → b ≡ true → ids_at w name ≡ Some ids
    → (adding w needs (here b attr name l marks) ≡ look_added w needs (record { name = name; level = Ids; states = marks })) × (given w (here b attr name l marks) ≡ Some (Some l.id ∷ [], ids))
here_id w needs true attr name l marks ids h e =
    let k = ids_seen_on w needs name marks ids (λ (xs : List Label). give {A = Ends × List Label} (Some l.id ∷ [], xs)) e in
    (k.0 ∙ collected_give w.takes w.above.now w.view.now _ {A = Ends × List Label} (Some l.id ∷ [], ids), k.1 ∙ given_give w.above.now w.view.now {A = Ends × List Label} (Some l.id ∷ [], ids))
here_id w needs false attr name l marks ids h e = absurd (cc)

-- local information that is not seen
pub here_no_full : (w : Walk) (needs : List Need) (b : Bool) (attr : List ℕ) (name : List Label) (l : Label) (marks : List State) → b ≡ false → full_at w name ≡ None
    → (adding w needs (here b attr name l marks) ≡ look_added w needs (record { name = name; level = Full; states = marks })) × (given w (here b attr name l marks) ≡ None)
here_no_full w needs true attr name l marks h e = absurd (cc)
here_no_full w needs false attr name l marks h e = full_unknown w needs name marks (λ ids local. give (some_end (value_of local.attrs attr) ++ element_ends attr local (element_paths local), ids)) e

-- the attribute of the node, and those of its plain elements
pub here_full : (w : Walk) (needs : List Need) (b : Bool) (attr : List ℕ) (name : List Label) (l : Label) (marks : List State) (s : Seen) → b ≡ false → full_at w name ≡ Some s
    → (adding w needs (here b attr name l marks) ≡ look_added w needs (record { name = name; level = Full; states = marks }))
    × (given w (here b attr name l marks) ≡ Some (some_end (value_of s.local.attrs attr) ++ element_ends attr s.local (element_paths s.local), s.ids))
here_full w needs true attr name l marks s h e = absurd (cc)
here_full w needs false attr name l marks s h e =
    let k = full_seen_on w needs name marks s (λ (ids : List Label) (local : Local). give {A = Ends × List Label} (some_end (value_of local.attrs attr) ++ element_ends attr local (element_paths local), ids)) e in
    (k.0 ∙ collected_give w.takes w.above.now w.view.now _ {A = Ends × List Label} (some_end (value_of s.local.attrs attr) ++ element_ends attr s.local (element_paths s.local), s.ids), k.1 ∙ given_give w.above.now w.view.now {A = Ends × List Label} (some_end (value_of s.local.attrs attr) ++ element_ends attr s.local (element_paths s.local), s.ids))

abbrev first_of : Option (Ends × List Label) → Ends → Ends
first_of None d = d
first_of (Some p) d = p.0

abbrev second_of : Option (Ends × List Label) → List Label → List Label
second_of None d = d
second_of (Some p) d = p.1

-- what is done with it, where it is not told
pub from_here_none : (w : Walk) (needs : List Need) (b : Bool) (attr : List ℕ) (name : List Label) (l : Label) (marks : List State) {A : Type 0} (j : Ends → List Label → Run A) → given w (here b attr name l marks) ≡ None
    → (adding w needs (see_attribute b attr name l marks (λ own ids more. j (own ++ more) ids)) ≡ adding w needs (here b attr name l marks)) × (given w (see_attribute b attr name l marks (λ own ids more. j (own ++ more) ids)) ≡ None)
from_here_none w needs true attr name l marks j none = by_ids (ids_at w name) refl
  where
    by_ids : (o : Option (List Label)) → ids_at w name ≡ o
        → (adding w needs (see_attribute true attr name l marks (λ own ids more. j (own ++ more) ids)) ≡ adding w needs (here true attr name l marks)) × (given w (see_attribute true attr name l marks (λ own ids more. j (own ++ more) ids)) ≡ None)
    by_ids None e =
        let k = ids_unknown w needs name marks (λ (ids : List Label). j (Some l.id ∷ []) ids) e in
        (k.0 ∙ sym (here_no_ids w needs true attr name l marks refl e).0, k.1)
    by_ids (Some ids) e =
        let bad = sym none ∙ (here_id w needs true attr name l marks ids refl e).1 in
        absurd (cc)
from_here_none w needs false attr name l marks j none = by_seen (full_at w name) refl
  where
    by_seen : (o : Option Seen) → full_at w name ≡ o
        → (adding w needs (see_attribute false attr name l marks (λ own ids more. j (own ++ more) ids)) ≡ adding w needs (here false attr name l marks)) × (given w (see_attribute false attr name l marks (λ own ids more. j (own ++ more) ids)) ≡ None)
    by_seen None e =
        let k = full_unknown w needs name marks (λ (ids : List Label) (local : Local). j (some_end (value_of local.attrs attr) ++ element_ends attr local (element_paths local)) ids) e in
        (k.0 ∙ sym (here_no_full w needs false attr name l marks refl e).0, k.1)
    by_seen (Some s) e =
        let bad = sym none ∙ (here_full w needs false attr name l marks s refl e).1 in
        absurd (cc)

-- what is done with it, where it is told
pub from_here_some : (w : Walk) (needs : List Need) (b : Bool) (attr : List ℕ) (name : List Label) (l : Label) (marks : List State) {A : Type 0} (j : Ends → List Label → Run A) (found : Ends) (ids : List Label) → given w (here b attr name l marks) ≡ Some (found, ids)
    → (adding w needs (see_attribute b attr name l marks (λ own xs more. j (own ++ more) xs)) ≡ adding w (adding w needs (here b attr name l marks)) (j found ids)) × (given w (see_attribute b attr name l marks (λ own xs more. j (own ++ more) xs)) ≡ given w (j found ids))
from_here_some w needs true attr name l marks j found ids some = by_ids (ids_at w name) refl
  where
    by_ids : (o : Option (List Label)) → ids_at w name ≡ o
        → (adding w needs (see_attribute true attr name l marks (λ own xs more. j (own ++ more) xs)) ≡ adding w (adding w needs (here true attr name l marks)) (j found ids)) × (given w (see_attribute true attr name l marks (λ own xs more. j (own ++ more) xs)) ≡ given w (j found ids))
    by_ids None e =
        let bad = sym some ∙ (here_no_ids w needs true attr name l marks refl e).1 in
        absurd (cc)
    by_ids (Some xs) e =
        let k = ids_seen_on w needs name marks xs (λ (ys : List Label). j (Some l.id ∷ []) ys) e in
        let h = here_id w needs true attr name l marks xs refl e in
        let same = sym h.1 ∙ some in
        let first : Some l.id ∷ [] ≡ found = ap (λ (o : Option (Ends × List Label)). first_of o found) same in
        let second : xs ≡ ids = ap (λ (o : Option (Ends × List Label)). second_of o ids) same in (
          k.0 ∙ ap (λ (ns : List Need). adding w ns (j (Some l.id ∷ []) xs)) (sym h.0) ∙ ap (λ (fs : Ends). adding w (adding w needs (here true attr name l marks)) (j fs xs)) first ∙ ap (λ (ys : List Label). adding w (adding w needs (here true attr name l marks)) (j found ys)) second,
          k.1 ∙ ap (λ (fs : Ends). given w (j fs xs)) first ∙ ap (λ (ys : List Label). given w (j found ys)) second,
        )
from_here_some w needs false attr name l marks j found ids some = by_seen (full_at w name) refl
  where
    by_seen : (o : Option Seen) → full_at w name ≡ o
        → (adding w needs (see_attribute false attr name l marks (λ own xs more. j (own ++ more) xs)) ≡ adding w (adding w needs (here false attr name l marks)) (j found ids)) × (given w (see_attribute false attr name l marks (λ own xs more. j (own ++ more) xs)) ≡ given w (j found ids))
    by_seen None e =
        let bad = sym some ∙ (here_no_full w needs false attr name l marks refl e).1 in
        absurd (cc)
    by_seen (Some s) e =
        let all = some_end (value_of s.local.attrs attr) ++ element_ends attr s.local (element_paths s.local) in
        let k = full_seen_on w needs name marks s (λ (ys : List Label) (local : Local). j (some_end (value_of local.attrs attr) ++ element_ends attr local (element_paths local)) ys) e in
        let h = here_full w needs false attr name l marks s refl e in
        let same = sym h.1 ∙ some in
        let first : all ≡ found = ap (λ (o : Option (Ends × List Label)). first_of o found) same in
        let second : s.ids ≡ ids = ap (λ (o : Option (Ends × List Label)). second_of o ids) same in (
          k.0 ∙ ap (λ (ns : List Need). adding w ns (j all s.ids)) (sym h.0) ∙ ap (λ (fs : Ends). adding w (adding w needs (here false attr name l marks)) (j fs s.ids)) first ∙ ap (λ (ys : List Label). adding w (adding w needs (here false attr name l marks)) (j found ys)) second,
          k.1 ∙ ap (λ (fs : Ends). given w (j fs s.ids)) first ∙ ap (λ (ys : List Label). given w (j found ys)) second,
        )

-- the ends of the node and of its plain elements
pub here_found : (attr : List ℕ) (local : Local) (old own new : Ends) → own ≡ old ++ some_end (value_of local.attrs attr) → new ≡ own ++ element_ends attr local (filter (is_above []) (element_paths local)) → new ≡ old ++ (some_end (value_of local.attrs attr) ++ element_ends attr local (element_paths local))
here_found attr local old own new h k =
    k ∙ ap (λ (es : Ends). es ++ element_ends attr local (filter (is_above []) (element_paths local))) h
    ∙ append_assoc old (some_end (value_of local.attrs attr)) (element_ends attr local (filter (is_above []) (element_paths local)))
    ∙ ap (λ (ps : List Place). old ++ (some_end (value_of local.attrs attr) ++ element_ends attr local ps)) (all_below (element_paths local))

-- ---- the attributes of a node and of all below it

-- those of the children
abbrev pub below : ℕ → Marks → List ℕ → List Label → Label → Run Ends
below levels marks attr name child = attributes_from (levels - 1) marks attr (name ++ child ∷ []) child

-- what is not told at the node
pub from_none : (w : Walk) (needs : List Need) (levels : ℕ) (marks : Marks) (attr : List ℕ) (name : List Label) (l : Label) → given w (here (is_id attr) attr name l (marks name)) ≡ None
    → (adding w needs (attributes_from levels marks attr name l) ≡ adding w needs (here (is_id attr) attr name l (marks name))) × (given w (attributes_from levels marks attr name l) ≡ None)
from_none w needs zero marks attr name l h = from_here_none w needs (is_id attr) attr name l (marks name) (λ found ids. give found) h
from_none w needs (suc levels) marks attr name l h =
    from_here_none w needs (is_id attr) attr name l (marks name) (λ found ids. join (give found) (gather (λ child. attributes_from levels marks attr (name ++ child ∷ []) child) ids)) h

-- at the last level the node alone
pub from_last : (w : Walk) (needs : List Need) (levels : ℕ) (marks : Marks) (attr : List ℕ) (name : List Label) (l : Label) (found : Ends) (ids : List Label) → levels ≡ 0 → given w (here (is_id attr) attr name l (marks name)) ≡ Some (found, ids)
    → (adding w needs (attributes_from levels marks attr name l) ≡ adding w needs (here (is_id attr) attr name l (marks name))) × (given w (attributes_from levels marks attr name l) ≡ Some found)
from_last w needs zero marks attr name l found ids z h =
    let k = from_here_some w needs (is_id attr) attr name l (marks name) (λ (fs : Ends) (xs : List Label). give fs) found ids h in
    (k.0 ∙ collected_give w.takes w.above.now w.view.now _ found, k.1 ∙ given_give w.above.now w.view.now found)
from_last w needs (suc levels) marks attr name l found ids z h = absurd (cc)

-- else the node, and then its children
pub from_more : (w : Walk) (needs : List Need) (levels : ℕ) (marks : Marks) (attr : List ℕ) (name : List Label) (l : Label) (found : Ends) (ids : List Label) → 0 < levels → given w (here (is_id attr) attr name l (marks name)) ≡ Some (found, ids)
    → (adding w needs (attributes_from levels marks attr name l) ≡ adding w (adding w needs (here (is_id attr) attr name l (marks name))) (gather (below levels marks attr name) ids))
    × (given w (attributes_from levels marks attr name l) ≡ put_together (Some found) (given w (gather (below levels marks attr name) ids)))
from_more w needs zero marks attr name l found ids z h = absurd (omega arith)
from_more w needs (suc levels) marks attr name l found ids z h = by_level (suc levels - 1) (omega arith)
  where
    by_level : (m : ℕ) → m ≡ levels
        → (adding w needs (attributes_from (suc levels) marks attr name l) ≡ adding w (adding w needs (here (is_id attr) attr name l (marks name))) (gather (λ (child : Label). attributes_from m marks attr (name ++ child ∷ []) child) ids))
        × (given w (attributes_from (suc levels) marks attr name l) ≡ put_together (Some found) (given w (gather (λ (child : Label). attributes_from m marks attr (name ++ child ∷ []) child) ids)))
    by_level m e =
        let children = λ (child : Label). attributes_from levels marks attr (name ++ child ∷ []) child in
        let k = from_here_some w needs (is_id attr) attr name l (marks name) (λ (fs : Ends) (xs : List Label). join (give fs) (gather children xs)) found ids h in
        let two = join_is w (adding w needs (here (is_id attr) attr name l (marks name))) (give found) (gather children ids) in
        rw e
        ((
          k.0 ∙ two.0 ∙ ap (λ (ns : List Need). adding w ns (gather children ids)) (collected_give w.takes w.above.now w.view.now (adding w needs (here (is_id attr) attr name l (marks name))) found),
          k.1 ∙ two.1 ∙ ap (λ (v : Option Ends). put_together v (given w (gather children ids))) (given_give w.above.now w.view.now found),
        ))
