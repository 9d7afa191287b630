-- Updates that are linked to earlier ones of their nodes.
use Rattle.std.proofs.Common.{◌≡◌, ◌≢◌, ℕ, zero, suc, ◌+◌, ◌<◌, ◌≤◌, ◌==◌, Bool, true, false, cond, List, [], ◌∷◌, ◌++◌, length, get_or, slice_get, take, Some, refl, sym, ◌∙◌, ap, subst, arith, eqb, eq-eqb, ne_eqb, ◌⊎◌, inl, inr, length-append, append-nil}
use Rattle.std.specs.Prelude.{slice_index}
use Rattle.std.proofs.lemmas.List.{get_or_default, take-append-le}
use Rattle.std.proofs.lemmas.List.Elements.{filter-append}
use Rattle.std.proofs.lemmas.Bool.{cases_lt}
use Rattle.std.proofs.lemmas.Bool.Decides.{eqb_tells}
use Rattle.std.proofs.Math.ListN.{get_or-append}
use Rattle.std.proofs.Math.Seq.{get_or-append_seam, take-append_seam}
use Rattle.iris_book.specs.declared.linked.LinkedUpdate.{LinkedUpdate}
use Rattle.iris_book.specs.Linked.{of_node, IsAt, IsStep, IsLinked, AllLinked, AreLinked}

-- how many updates of its node came before the one at that place
abbrev pub before_at : List LinkedUpdate → ℕ → ℕ
before_at [] at = 0
before_at (e ∷ es) zero = e.before
before_at (e ∷ es) (suc at) = before_at es at

-- that is what a read there says
pub before_at_is : (es : List LinkedUpdate) (at : ℕ) (d : LinkedUpdate) → at < length es → before_at es at ≡ (get_or es at d).before
before_at_is [] at d within = absurd (omega arith)
before_at_is (e ∷ es) zero d within = refl
before_at_is (e ∷ es) (suc at) d within = before_at_is es at d (omega arith)

-- what stands at a place, as a read has it
pub stands : (es : List LinkedUpdate) (at : ℕ) (d e : LinkedUpdate) → at < length es → e ≡ get_or es at e → get_or es at d ≡ e
stands es at d e within is = get_or_default es at d e within ∙ sym is

-- an update is at its own place
pub at_itself : (es : List LinkedUpdate) (at : ℕ) (d : LinkedUpdate) → at < length es → IsAt es at (get_or es at d).node (get_or es at d).before
at_itself es at d within = record {
  within = within;
  node_is = λ e. ap (λ (x : LinkedUpdate). x.node) (get_or_default es at e d within);
  before_is = λ e. ap (λ (x : LinkedUpdate). x.before) (get_or_default es at e d within);
}

linked_here : (es : List LinkedUpdate) (at : ℕ) (e : LinkedUpdate) → AllLinked es → at < length es → e ≡ get_or es at e → IsLinked es at e
linked_here es at e links within is = subst (λ (x : LinkedUpdate). IsLinked es at x) (sym is) (links at e within)

-- a step by the second link
pub step_jump : (es : List LinkedUpdate) (at number : ℕ) (d e far : LinkedUpdate) → AllLinked es → at < length es → ((x : LinkedUpdate) → number < (get_or es at x).before) → e ≡ get_or es at e → number ≤ (get_or es e.jump far).before
    → IsStep es at (get_or es at d) number e.jump
step_jump es at number d e far links within later is enough =
    let link = linked_here es at e links within is in
    let many : number < e.before = subst (λ (x : LinkedUpdate). number < x.before) (sym is) (later e) in
    let known : (get_or es e.jump far).before ≡ link.jump.0 = link.jump.1.before_is far in
    let some : 0 < e.before = omega arith in
    subst (λ (x : LinkedUpdate). IsStep es at x number e.jump) (sym (stands es at d e within is))
    record { before = link.jump.0; here = link.jump.1; enough = omega (arith, known); fewer = link.jump.3 some }

-- an update with enough before it is the same however it is read
pub still_later : (es : List LinkedUpdate) (at number : ℕ) (d e : LinkedUpdate) → at < length es → e ≡ get_or es at e → number ≤ e.before → number ≤ (get_or es at d).before
still_later es at number d e within is later = subst (λ (x : LinkedUpdate). number ≤ x.before) (sym (stands es at d e within is)) later

-- a step to the update before
pub step_earlier : (es : List LinkedUpdate) (at number : ℕ) (d e : LinkedUpdate) → AllLinked es → at < length es → ((x : LinkedUpdate) → number < (get_or es at x).before) → e ≡ get_or es at e → IsStep es at (get_or es at d) number e.earlier
step_earlier es at number d e links within later is =
    let link = linked_here es at e links within is in
    let many : number < e.before = subst (λ (x : LinkedUpdate). number < x.before) (sym is) (later e) in
    by e.before refl many link
  where
    by : (b : ℕ) → e.before ≡ b → number < e.before → IsLinked es at e → IsStep es at (get_or es at d) number e.earlier
    by zero none many link = absurd (omega arith)
    by (suc b) some many link =
        subst (λ (x : LinkedUpdate). IsStep es at x number e.earlier) (sym (stands es at d e within is))
        record { before = b; here = link.earlier b (omega arith); enough = omega arith; fewer = omega arith }

-- the update with so many of its node before it is at that place among those of its node
pub nth_of_node : (es : List LinkedUpdate) (at node : ℕ) (d : LinkedUpdate) → at < length es → (get_or es at d).node ≡ node → slice_get (of_node node es) (length (of_node node (take at es))) ≡ Some (get_or es at d)
nth_of_node [] at node d within is = absurd (omega arith)
nth_of_node (e ∷ es) zero node d within is = rw (eq-eqb e.node node is) refl
nth_of_node (e ∷ es) (suc at) node d within is = by (e.node == node) (nth_of_node es at node d (omega arith) is)
  where
    by : (b : Bool) → slice_get (of_node node es) (length (of_node node (take at es))) ≡ Some (get_or es at d)
        → slice_get (cond b (e ∷ of_node node es) (of_node node es)) (length (cond b (e ∷ of_node node (take at es)) (of_node node (take at es)))) ≡ Some (get_or es at d)
    by true h = h
    by false h = h

-- the update with so many before it is that of its node by that number
pub found : (es : List LinkedUpdate) (at node number : ℕ) (d : LinkedUpdate) → AllLinked es → IsAt es at node number → slice_get (of_node node es) number ≡ Some (get_or es at d)
found es at node number d links here =
    let link = links at d here.within in
    let count : length (of_node node (take at es)) ≡ number = ap (λ n. length (of_node n (take at es))) (sym (here.node_is d)) ∙ sym link.counted ∙ here.before_is d in
    ap (λ n. slice_get (of_node node es) n) (sym count) ∙ nth_of_node es at node d here.within (here.node_is d)

-- ---- one more

-- what is at a place stays there when one more comes
pub at_more : (es : List LinkedUpdate) (e : LinkedUpdate) (at node before : ℕ) → IsAt es at node before → IsAt (es ++ e ∷ []) at node before
at_more es e at node before here = record {
  within = omega (arith, length-append es (e ∷ []), here.within);
  node_is = λ d. ap (λ (x : LinkedUpdate). x.node) (get_or-append es (e ∷ []) d at here.within) ∙ here.node_is d;
  before_is = λ d. ap (λ (x : LinkedUpdate). x.before) (get_or-append es (e ∷ []) d at here.within) ∙ here.before_is d;
}

-- the new one is at the end
pub at_last : (es : List LinkedUpdate) (e : LinkedUpdate) → IsAt (es ++ e ∷ []) (length es) e.node e.before
at_last es e = record {
  within = omega (arith, length-append es (e ∷ []));
  node_is = λ d. ap (λ (x : LinkedUpdate). x.node) (get_or-append_seam es e [] d);
  before_is = λ d. ap (λ (x : LinkedUpdate). x.before) (get_or-append_seam es e [] d);
}

link_more : (es : List LinkedUpdate) (e x : LinkedUpdate) (at : ℕ) → at < length es → IsLinked es at x → IsLinked (es ++ e ∷ []) at x
link_more es e x at within link = record {
  counted = link.counted ∙ ap (λ ys. length (of_node x.node ys)) (sym (take-append-le at es (e ∷ []) (omega arith)));
  earlier = λ n h. at_more es e x.earlier x.node n (link.earlier n h);
  jump = (link.jump.0, at_more es e x.jump x.node link.jump.0 link.jump.1, link.jump.2, link.jump.3);
}

-- how a new update is to be linked
pub record IsNew (es : List LinkedUpdate) (e : LinkedUpdate) : Type 0 where
  pub counted : e.before ≡ length (of_node e.node es)
  pub earlier : (n : ℕ) → e.before ≡ n + 1 → IsAt es e.earlier e.node n
  pub jump : (n : ℕ) × IsAt (es ++ e ∷ []) e.jump e.node n × (n ≤ e.before) × (0 < e.before → n < e.before)

link_new : (es : List LinkedUpdate) (e : LinkedUpdate) → IsNew es e → IsLinked (es ++ e ∷ []) (length es) e
link_new es e new = record {
  counted = new.counted ∙ ap (λ ys. length (of_node e.node ys)) (sym (take-append_seam es (e ∷ [])));
  earlier = λ n h. at_more es e e.earlier e.node n (new.earlier n h);
  jump = new.jump;
}

-- all are linked when one more is
pub linked_more : (es : List LinkedUpdate) (e : LinkedUpdate) → AllLinked es → IsNew es e → AllLinked (es ++ e ∷ [])
linked_more es e links new at d within = by (cases_lt at (length es))
  where
    by : (at < length es) ⊎ (length es ≤ at) → IsLinked (es ++ e ∷ []) at (get_or (es ++ e ∷ []) at d)
    by (inl before) = subst (λ (x : LinkedUpdate). IsLinked (es ++ e ∷ []) at x) (sym (get_or-append es (e ∷ []) d at before)) (link_more es e (get_or es at d) at before (links at d before))
    by (inr last) =
        let here : at ≡ length es = omega (arith, length-append es (e ∷ [])) in
        subst (λ k. IsLinked (es ++ e ∷ []) k (get_or (es ++ e ∷ []) k d)) (sym here)
        (subst (λ (x : LinkedUpdate). IsLinked (es ++ e ∷ []) (length es) x) (sym (get_or-append_seam es e [] d)) (link_new es e new))

-- the numbers of nodes stay below their bound
pub known_more : (es : List LinkedUpdate) (e : LinkedUpdate) (nodes nodes' : ℕ) → nodes ≤ nodes' → e.node < nodes' → ((at : ℕ) (d : LinkedUpdate) → at < length es → (get_or es at d).node < nodes)
    → (at : ℕ) (d : LinkedUpdate) → at < length (es ++ e ∷ []) → (get_or (es ++ e ∷ []) at d).node < nodes'
known_more es e nodes nodes' le new known at d within = by (cases_lt at (length es))
  where
    by : (at < length es) ⊎ (length es ≤ at) → (get_or (es ++ e ∷ []) at d).node < nodes'
    by (inl before) =
        let same = ap (λ (x : LinkedUpdate). x.node) (get_or-append es (e ∷ []) d at before) in
        omega (arith, same, known at d before)
    by (inr last) =
        let here : at ≡ length es = omega (arith, length-append es (e ∷ [])) in
        let same = ap (λ k. (get_or (es ++ e ∷ []) k d).node) here ∙ ap (λ (x : LinkedUpdate). x.node) (get_or-append_seam es e [] d) in
        omega (arith, same)

of_node_same : (es : List LinkedUpdate) (e : LinkedUpdate) → length (of_node e.node (es ++ e ∷ [])) ≡ length (of_node e.node es) + 1
of_node_same es e = ap length (filter-append (λ (x : LinkedUpdate). x.node == e.node) es (e ∷ []) ∙ ap (λ (b : Bool). of_node e.node es ++ cond b (e ∷ []) []) (eq-eqb e.node e.node refl)) ∙ length-append (of_node e.node es) (e ∷ [])

of_node_other : (es : List LinkedUpdate) (e : LinkedUpdate) (node : ℕ) → (e.node ≡ node → ⊥) → of_node node (es ++ e ∷ []) ≡ of_node node es
of_node_other es e node other = filter-append (λ (x : LinkedUpdate). x.node == node) es (e ∷ []) ∙ ap (λ (b : Bool). of_node node es ++ cond b (e ∷ []) []) (ne_eqb e.node node other) ∙ append-nil (of_node node es)

-- all are linked after one more, where its place is that of the last of its node
pub are_linked_more : (nodes nodes' : ℕ) (last last' : List ℕ) (es : List LinkedUpdate) (e : LinkedUpdate) → AreLinked nodes last es → IsNew es e → nodes ≤ nodes' → e.node < nodes' → length last' ≡ nodes'
    → slice_index last' e.node ≡ length es → ((node : ℕ) → node < nodes' → (e.node ≡ node → ⊥) → (node < nodes) × (slice_index last' node ≡ slice_index last node)) → AreLinked nodes' last' (es ++ e ∷ [])
are_linked_more nodes nodes' last last' es e old new le within lasts here others = record {
  links = linked_more es e old.links new;
  known = known_more es e nodes nodes' le within old.known;
  lasts = lasts;
  ends = λ node h. by node h (eqb_tells e.node node);
}
  where
    by : (node : ℕ) → node < nodes' → ((eqb e.node node ≡ true) × (e.node ≡ node)) ⊎ ((eqb e.node node ≡ false) × (e.node ≢ node)) → (n : ℕ) × (length (of_node node (es ++ e ∷ [])) ≡ n + 1) × IsAt (es ++ e ∷ []) (slice_index last' node) node n
    by node h (inl same) =
        subst (λ k. (n : ℕ) × (length (of_node k (es ++ e ∷ [])) ≡ n + 1) × IsAt (es ++ e ∷ []) (slice_index last' k) k n) same.1
        (e.before, of_node_same es e ∙ ap (λ n. n + 1) (sym new.counted), subst (λ k. IsAt (es ++ e ∷ []) k e.node e.before) (sym here) (at_last es e))
    by node h (inr other) =
        let was = others node h other.1 in
        let ended = old.ends node was.0 in
        (ended.0, ap length (of_node_other es e node other.1) ∙ ended.1, subst (λ k. IsAt (es ++ e ∷ []) k node ended.0) (sym was.1) (at_more es e (slice_index last node) node ended.0 ended.2))
