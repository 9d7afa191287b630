-- One more update, linked to those before it.
use Rattle.std.proofs.Common.{◌≡◌, ℕ, suc, ◌+◌, ◌<◌, ◌≤◌, List, [], ◌∷◌, ◌++◌, length, get_or, set, map, refl, sym, ◌∙◌, ap, subst, arith, ne_eqb, length-append, length-set, get_or-set_same, get_or-set_other}
use Rattle.std.specs.Prelude.{slice_index}
use Rattle.std.specs.List.{IsDistinct}
use Rattle.std.specs.Cmp.Lexicographic.{pointwise}
use Rattle.std.proofs.lemmas.List.{map-append}
use Rattle.std.proofs.Math.ListN.{get_or-append}
use Rattle.std.proofs.Math.Seq.{get_or-append_seam}
use Rattle.iris_base.specs.declared.name.Label.{Label}
use Rattle.iris_base.specs.NameOrder.{label_eq}
use Rattle.iris_book.specs.declared.update.NodeUpdate.{NodeUpdate}
use Rattle.iris_book.specs.declared.linked.LinkedUpdate.{LinkedUpdate}
use Rattle.iris_book.specs.Book.{Updates}
use Rattle.iris_book.specs.Linked.{named_update, of_node, IsAt, AreOrderly}
use Rattle.iris_book.proofs.LinkSteps.{IsNew, at_more, at_last, are_linked_more}
use Rattle.iris_book.proofs.Named.{Names, KnownBelow, IsNumberOf, name_exact, last_here, named_more}

-- an update of a node that had one keeps all in order
pub orderly_again : (names : Names) (last : List ℕ) (es es' : List LinkedUpdate) (node p place j : ℕ) (update : NodeUpdate) (e : LinkedUpdate) → AreOrderly names last es → node < length names → p ≡ get_or last node p → e ≡ get_or es p e
    → ((d : LinkedUpdate) → (n : ℕ) × IsAt es j (get_or es p d).node n × (n ≤ (get_or es p d).before)) → place ≡ length es
    → es' ≡ es ++ (record { node = node; update = update; before = e.before + 1; earlier = p; jump = j }) ∷ [] → AreOrderly names (set last node place) es'
orderly_again names last es es' node p place j update e kept within read read_e jumps is items =
    subst (λ (xs : List LinkedUpdate). AreOrderly names (set last node place) xs) (sym items)
    record { apart = kept.apart; linked = are_linked_more (length names) (length names) last (set last node place) es x kept.linked new (omega arith) within (length-set last node place ∙ kept.linked.lasts) here others }
  where
    x : LinkedUpdate
    x = record { node = node; update = update; before = e.before + 1; earlier = p; jump = j }

    end : (n : ℕ) × (length (of_node node es) ≡ n + 1) × IsAt es p node n
    end = last_here names last es node p kept within read

    before : e.before ≡ end.0
    before = ap (λ (y : LinkedUpdate). y.before) read_e ∙ end.2.before_is e

    far : (n : ℕ) × IsAt es j (get_or es p e).node n × (n ≤ (get_or es p e).before)
    far = jumps e

    few : far.0 ≤ end.0
    few = omega (arith, far.2, end.2.before_is e)

    new : IsNew es x
    new = record {
      counted = ap (λ n. n + 1) before ∙ sym end.1;
      earlier = λ n h. subst (λ k. IsAt es p node k) (let same : end.0 ≡ n = omega (arith, before, h) in same) end.2;
      jump = (far.0, at_more es x j node far.0 (subst (λ k. IsAt es j k far.0) (end.2.node_is e) far.1), omega (arith, few, before), λ _. omega (arith, few, before));
    }

    in_last : node < length last
    in_last = omega (arith, kept.linked.lasts)

    here : slice_index (set last node place) node ≡ length es
    here = let lt : node < length last = in_last in rw get_or-set_same is

    others : (k : ℕ) → k < length names → (node ≡ k → ⊥) → (k < length names) × (slice_index (set last node place) k ≡ slice_index last k)
    others k h unlike = (h, (let ne : k ≡ node → ⊥ = λ same. unlike (sym same) in rw get_or-set_other refl))

none_of_node : (n : ℕ) (es : List LinkedUpdate) → KnownBelow n es → of_node n es ≡ []
none_of_node n [] known = refl
none_of_node n (e ∷ es) known =
    let less : e.node < n = known 0 e (omega arith) in
    let other : e.node ≡ n → ⊥ = λ same. omega arith in
    rw (ne_eqb e.node n other) (none_of_node n es (λ at d h. known (suc at) d (omega arith)))

-- so does the first of a node
pub orderly_first : (names names' : Names) (last last' : List ℕ) (es es' : List LinkedUpdate) (node place : ℕ) (name : List Label) (update : NodeUpdate) → AreOrderly names last es → IsDistinct (pointwise label_eq) names' → names' ≡ names ++ name ∷ []
    → node ≡ length last → place ≡ length es → last' ≡ last ++ place ∷ [] → es' ≡ es ++ (record { node = node; update = update; before = 0; earlier = place; jump = place }) ∷ [] → AreOrderly names' last' es'
orderly_first names names' last last' es es' node place name update kept apart grown is is_place lasts items =
    subst (λ (xs : List LinkedUpdate). AreOrderly names' last' xs) (sym items)
    record { apart = apart; linked = are_linked_more (length names) (length names') last last' es x kept.linked new (omega (arith, longer)) (omega (arith, longer, number)) long here others }
  where
    x : LinkedUpdate
    x = record { node = node; update = update; before = 0; earlier = place; jump = place }

    number : node ≡ length names
    number = is ∙ kept.linked.lasts

    longer : length names' ≡ length names + 1
    longer = ap (λ (ns : Names). length ns) grown ∙ length-append names (name ∷ [])

    known : KnownBelow node es
    known = λ at d h. omega (arith, kept.linked.known at d h, number)

    new : IsNew es x
    new = record {
      counted = sym (ap (λ (ys : List LinkedUpdate). length ys) (none_of_node node es known));
      earlier = λ n h. absurd (omega (arith, h));
      jump = (0, subst (λ k. IsAt (es ++ x ∷ []) k node 0) (sym is_place) (at_last es x), omega arith, λ h. absurd (omega (arith, h)));
    }

    long : length last' ≡ length names'
    long = ap (λ (ns : List ℕ). length ns) lasts ∙ length-append last (place ∷ []) ∙ ap (λ n. n + 1) kept.linked.lasts ∙ sym longer

    here : slice_index last' node ≡ length es
    here = ap (λ (ns : List ℕ). slice_index ns node) lasts ∙ ap (λ k. slice_index (last ++ place ∷ []) k) is ∙ get_or-append_seam last place [] 0 ∙ is_place

    others : (k : ℕ) → k < length names' → (node ≡ k → ⊥) → (k < length names) × (slice_index last' k ≡ slice_index last k)
    others k h unlike =
        let small : k < length names = omega (arith, longer, number, h) in
        let in_last : k < length last = omega (arith, kept.linked.lasts) in
        (small, ap (λ (ns : List ℕ). slice_index ns k) lasts ∙ get_or-append last (place ∷ []) 0 k in_last)

-- it is the last of the updates
pub updates_again : (names : Names) (es es' : List LinkedUpdate) (us : Updates) (name : List Label) (x : LinkedUpdate) → map (named_update names) es ≡ us → IsNumberOf names name x.node → es' ≡ es ++ x ∷ [] → map (named_update names) es' ≡ us ++ (name, x.update) ∷ []
updates_again names es es' us name x view is items =
    ap (λ (ys : List LinkedUpdate). map (named_update names) ys) items ∙ map-append (named_update names) es (x ∷ []) ∙ ap (λ (vs : Updates). vs ++ named_update names x ∷ []) view
    ∙ ap (λ (n : List Label). us ++ (n, x.update) ∷ []) (sym (name_exact name (get_or names x.node []) is.here))

-- and so is that
pub updates_first : (names names' : Names) (es es' : List LinkedUpdate) (us : Updates) (name : List Label) (x : LinkedUpdate) → map (named_update names) es ≡ us → KnownBelow (length names) es → x.node ≡ length names → names' ≡ names ++ name ∷ [] → es' ≡ es ++ x ∷ []
    → map (named_update names') es' ≡ us ++ (name, x.update) ∷ []
updates_first names names' es es' us name x view known is grown items =
    ap (λ (ns : Names). map (named_update ns) es') grown ∙ ap (λ (ys : List LinkedUpdate). map (named_update (names ++ name ∷ [])) ys) items ∙ map-append (named_update (names ++ name ∷ [])) es (x ∷ [])
    ∙ ap (λ (vs : Updates). vs ++ named_update (names ++ name ∷ []) x ∷ []) (named_more names name es known ∙ view)
    ∙ ap (λ (n : List Label). us ++ (n, x.update) ∷ []) (ap (λ k. get_or (names ++ name ∷ []) k []) is ∙ get_or-append_seam names name [] [])
