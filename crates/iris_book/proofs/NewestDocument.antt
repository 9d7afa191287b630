-- The newest document, node by node, and after one more update.
use Rattle.std.proofs.Common.{◌≡◌, ℕ, zero, suc, ◌+◌, ◌<◌, ◌≤◌, ◌||◌, Bool, true, false, cond, if◌then◌else◌, List, [], ◌∷◌, ◌++◌, length, get_or, slice_get, take, map, Option, Some, option_map, refl, sym, ◌∙◌, ap, subst, arith, take_all}
use Rattle.std.specs.List.{list_any, IsDistinct}
use Rattle.std.specs.Cmp.Lexicographic.{pointwise}
use Rattle.std.proofs.lemmas.List.{take_more, length-map, get_or_default}
use Rattle.std.proofs.lemmas.List.Sums.{fold-append}
use Rattle.std.proofs.lemmas.Option.{slice_get-map}
use Rattle.iris_base.specs.declared.name.Label.{Label}
use Rattle.iris_base.specs.NameOrder.{label_eq, names_equiv}
use Rattle.iris_tree.specs.declared.local.Local.{Local}
use Rattle.iris_tree.specs.Universe.{Node}
use Rattle.iris_tree.specs.Document.{with_locals, local_put, with_local}
use Rattle.iris_tree.proofs.WithLocals.{locals_same, locals_then}
use Rattle.iris_book.specs.declared.update.NodeUpdate.{NodeUpdate}
use Rattle.iris_book.specs.declared.linked.LinkedUpdate.{LinkedUpdate}
use Rattle.iris_book.specs.Book.{Updates, updates_of, left_by, today_of}
use Rattle.iris_book.specs.Linked.{named_update, of_node, AreOrderly}
use Rattle.iris_book.proofs.LinkSteps.{found}
use Rattle.iris_book.proofs.Named.{Names, name_exact, named_of, IsNumberOf, only_one, count_none, last_here}
use Rattle.iris_book.proofs.Values.{updates_more}

-- the newest values of the first nodes alone
abbrev pub put_some : Names → Updates → ℕ → List Label → Local → Local
put_some names us k n old = if list_any (pointwise label_eq n) (take k names) then left_by old (updates_of us n) else old

-- what the last update left
pub left_by_last : (us : List NodeUpdate) (n : ℕ) (u : NodeUpdate) (old : Local) → length us ≡ n + 1 → slice_get us n ≡ Some u → left_by old us ≡ u.local
left_by_last [] n u old long last = absurd (omega arith)
left_by_last (x ∷ []) zero u old long last = let is : x ≡ u = cc in ap (λ (y : NodeUpdate). y.local) is
left_by_last (x ∷ []) (suc n) u old long last = absurd (cc)
left_by_last (x ∷ y ∷ us) zero u old long last = absurd (omega arith)
left_by_last (x ∷ y ∷ us) (suc n) u old long last = left_by_last (y ∷ us) n u x.local (omega arith) last

any_push : (p : List Label → Bool) (ns : Names) (n : List Label) → list_any p (ns ++ n ∷ []) ≡ (list_any p ns || p n)
any_push p [] n = by (p n)
  where
    by : (b : Bool) → (b || false) ≡ b
    by true = refl
    by false = refl
any_push p (m ∷ ns) n = by (p m) (any_push p ns n)
  where
    by : (b : Bool) → list_any p (ns ++ n ∷ []) ≡ (list_any p ns || p n) → (b || list_any p (ns ++ n ∷ [])) ≡ ((b || list_any p ns) || p n)
    by true h = refl
    by false h = h

-- one node more
pub put_one : (names : Names) (us : Updates) (k : ℕ) (name : List Label) (local : Local) (n : List Label) (old : Local) → k < length names → name ≡ get_or names k name → ((o : Local) → left_by o (updates_of us name) ≡ local)
    → local_put name local n (put_some names us k n old) ≡ put_some names us (k + 1) n old
put_one names us k name local n old within is value = by (pointwise label_eq n name) refl ∙ sym (ap (λ (b : Bool). if b then left_by old (updates_of us n) else old) more)
  where
    more : list_any (pointwise label_eq n) (take (k + 1) names) ≡ (list_any (pointwise label_eq n) (take k names) || pointwise label_eq n name)
    more = ap (list_any (pointwise label_eq n)) (take_more names k name within ∙ ap (λ (x : List Label). take k names ++ x ∷ []) (sym is)) ∙ any_push (pointwise label_eq n) (take k names) name

    or_true : (b : Bool) → (b || true) ≡ true
    or_true true = refl
    or_true false = refl

    or_false : (b : Bool) → (b || false) ≡ b
    or_false true = refl
    or_false false = refl

    by : (b : Bool) → pointwise label_eq n name ≡ b → (if b then local else put_some names us k n old) ≡ (if (list_any (pointwise label_eq n) (take k names) || b) then left_by old (updates_of us n) else old)
    by true same = sym (value old) ∙ ap (λ (x : List Label). left_by old (updates_of us x)) (sym (name_exact n name same)) ∙ sym (ap (λ (b : Bool). if b then left_by old (updates_of us n) else old) (or_true (list_any (pointwise label_eq n) (take k names))))
    by false other = sym (ap (λ (b : Bool). if b then left_by old (updates_of us n) else old) (or_false (list_any (pointwise label_eq n) (take k names))))

-- what the last update of a node left
pub newest_local : (names : Names) (last : List ℕ) (es : List LinkedUpdate) (node at : ℕ) (name : List Label) (e : LinkedUpdate) → AreOrderly names last es → IsNumberOf names name node → node < length names → at ≡ get_or last node at → e ≡ get_or es at e
    → (old : Local) → left_by old (updates_of (map (named_update names) es) name) ≡ e.update.local
newest_local names last es node at name e kept is within read read_e old =
    let end = last_here names last es node at kept within read in
    let mine : updates_of (map (named_update names) es) name ≡ map (λ (x : LinkedUpdate). x.update) (of_node node es) = named_of names name node es is kept.linked.known in
    let there : slice_get (map (λ (x : LinkedUpdate). x.update) (of_node node es)) end.0 ≡ Some e.update =
    slice_get-map (λ (x : LinkedUpdate). x.update) (of_node node es) end.0 ∙ ap (λ (o : Option LinkedUpdate). option_map (λ (x : LinkedUpdate). x.update) o) (found es at node end.0 e kept.linked.links end.2)
    ∙ ap (λ (x : LinkedUpdate). Some x.update) (sym read_e) in
    ap (λ (us : List NodeUpdate). left_by old us) mine ∙ left_by_last (map (λ (x : LinkedUpdate). x.update) (of_node node es)) end.0 e.update old (length-map (of_node node es) (λ (x : LinkedUpdate). x.update) ∙ end.1) there

-- after all nodes
pub put_all : (names : Names) (last : List ℕ) (es : List LinkedUpdate) (k : ℕ) → AreOrderly names last es → length names ≤ k → (n : List Label) (old : Local)
    → put_some names (map (named_update names) es) k n old ≡ left_by old (updates_of (map (named_update names) es) n)
put_all names last es k kept past n old = by (list_any (pointwise label_eq n) (take k names)) refl
  where
    by : (b : Bool) → list_any (pointwise label_eq n) (take k names) ≡ b → (if b then left_by old (updates_of (map (named_update names) es) n) else old) ≡ left_by old (updates_of (map (named_update names) es) n)
    by true there = refl
    by false absent =
        let all : list_any (pointwise label_eq n) names ≡ false = ap (list_any (pointwise label_eq n)) (sym (take_all k names past)) ∙ absent in
        sym (ap (λ (us : List NodeUpdate). left_by old us) (count_none names last es n kept all))

-- today's document, once all nodes were put
pub today_put : (start : Node) (names : Names) (last : List ℕ) (es : List LinkedUpdate) (k : ℕ) → AreOrderly names last es → length names ≤ k → with_locals start (put_some names (map (named_update names) es) k) ≡ today_of start (map (named_update names) es)
today_put start names last es k kept past = locals_same start (put_some names (map (named_update names) es) k) (λ n old. left_by old (updates_of (map (named_update names) es) n)) (put_all names last es k kept past)

-- today's document after one more update has its local information at its node
pub today_more : (start : Node) (us : Updates) (name : List Label) (u : NodeUpdate) → today_of start (us ++ (name, u) ∷ []) ≡ with_local (today_of start us) name u.local
today_more start us name u =
    locals_same start (λ n old. left_by old (updates_of (us ++ (name, u) ∷ []) n)) (λ n old. local_put name u.local n (left_by old (updates_of us n))) each
    ∙ sym (locals_then start (λ n old. left_by old (updates_of us n)) (local_put name u.local))
  where
    by : (b : Bool) (old : Local) (xs : List NodeUpdate) → left_by old (xs ++ cond b (u ∷ []) []) ≡ (if b then u.local else left_by old xs)
    by true old xs = fold-append (λ _ (x : NodeUpdate). x.local) old xs (u ∷ [])
    by false old xs = fold-append (λ _ (x : NodeUpdate). x.local) old xs []

    each : (n : List Label) (old : Local) → left_by old (updates_of (us ++ (name, u) ∷ []) n) ≡ local_put name u.local n (left_by old (updates_of us n))
    each n old = ap (λ (xs : List NodeUpdate). left_by old xs) (updates_more us name n u) ∙ by (pointwise label_eq n name) old (updates_of us n)

-- the number of a name that is at a place
pub number_at : (names : Names) (node : ℕ) (name : List Label) → IsDistinct (pointwise label_eq) names → node < length names → name ≡ get_or names node name → IsNumberOf names name node
number_at names node name apart within is =
    let same : name ≡ get_or names node [] = is ∙ get_or_default names node name [] within in
    let here : pointwise label_eq name (get_or names node []) ≡ true = subst (λ (n : List Label). pointwise label_eq name n ≡ true) same (names_equiv.refl name) in
    record { here = here; only = λ other h there. only_one names name node other apart within h here there }

-- the document once one node more has its newest value
pub put_step : (start now after : Node) (names : Names) (last : List ℕ) (es : List LinkedUpdate) (us : Updates) (k at : ℕ) (name : List Label) (e : LinkedUpdate) → AreOrderly names last es → map (named_update names) es ≡ us → k < length names
    → name ≡ get_or names k name → at ≡ get_or last k at → e ≡ get_or es at e → now ≡ with_locals start (put_some names us k) → after ≡ with_local now name e.update.local → after ≡ with_locals start (put_some names us (k + 1))
put_step start now after names last es us k at name e kept view within is read read_e before put =
    let value : (o : Local) → left_by o (updates_of us name) ≡ e.update.local =
    subst (λ (vs : Updates). (o : Local) → left_by o (updates_of vs name) ≡ e.update.local) view (newest_local names last es k at name e kept (number_at names k name kept.apart within is) within read read_e) in
    put ∙ ap (λ (d : Node). with_local d name e.update.local) before ∙ locals_then start (put_some names us k) (local_put name e.update.local)
    ∙ locals_same start (λ m old. local_put name e.update.local m (put_some names us k m old)) (put_some names us (k + 1)) (λ n old. put_one names us k name e.update.local n old within is value)
