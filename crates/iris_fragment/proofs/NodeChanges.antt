-- What stays so when nodes change: each name's parent is held, and ids are those of a city.
use Rattle.std.proofs.Common.{option_map, ◌≡◌, Bool, true, false, cond, List, [], ◌∷◌, ◌++◌, Option, Some, None, is_some, refl, sym, ap, subst, ◌∙◌}
use Rattle.std.specs.declared.cmp.Ordering.{Ordering}
use Rattle.std.specs.declared.cmp.Ordering.TheVariants.{Less, Equal, Greater}
use Rattle.std.specs.Ordering.{match_ordering, eq_by_cmp}
use Rattle.std.specs.Cmp.{eq_by_cmp_equiv}
use Rattle.std.specs.Cmp.Lexicographic.{slice_cmp, pointwise}
use Rattle.std.specs.BTreeMap.{is_at}
use Rattle.std.proofs.lemmas.Map.{lookup-set_value, lookup-remove_entry}
use Rattle.std.proofs.lemmas.Map.Keys.{IsDistinct-from_sorted}
use Rattle.iris_base.specs.declared.name.Label.{Label}
use Rattle.iris_base.specs.NameOrder.{label_eq, label_cmp, names_total, names_ties, names_equiv}
use Rattle.iris_tree.specs.Universe.{Node}
use Rattle.iris_fragment.specs.declared.held.HeldNode.{HeldNode}
use Rattle.iris_fragment.specs.declared.held.Part.{Part}
use Rattle.iris_fragment.specs.Contents.{Nodes, Contents, held_at, is_held, stands, stands_above, has_place, cut}
use Rattle.iris_fragment.specs.Changes.{with_node, without_node, replaced, with_part, with_part_in, has_child}
use Rattle.iris_fragment.specs.Shape.{HaveRisingNames, IsRooted, HaveIdsOf, IsFragmentOf, ids_at}
use Rattle.iris_fragment.proofs.Names.{alike_exact, name_exact, name_self, equal_from_is_eq, cut_joined}
use Rattle.iris_fragment.proofs.Children.{child_found}

-- ---- look-ups after a change

same_name : (m n : List Label) → is_at (slice_cmp label_cmp m) n ≡ true → m ≡ n
same_name m n h = name_exact m n (equal_from_is_eq _ h)

put_first : (o : Ordering) (k : List Label) (v : HeldNode) (e : List Label × HeldNode) (es more : Nodes) (q : List Label) → slice_cmp label_cmp k e.0 ≡ o
    → held_at more q ≡ cond (is_at (slice_cmp label_cmp q) k) (Some v) (held_at es q)
    → held_at (match_ordering o ((k, v) ∷ e ∷ es) ((e.0, v) ∷ es) (e ∷ more)) q ≡ cond (is_at (slice_cmp label_cmp q) k) (Some v) (held_at (e ∷ es) q)
put_first Less k v e es more q at h = refl
put_first Equal k v e es more q at h =
    let same = name_exact k e.0 at in
    subst (λ (m : List Label). held_at ((e.0, v) ∷ es) q ≡ cond (is_at (slice_cmp label_cmp q) m) (Some v) (held_at (e ∷ es) q)) (sym same)
    (either (is_at (slice_cmp label_cmp q) e.0))
  where
    either : (b : Bool) → cond b (Some v) (held_at es q) ≡ cond b (Some v) (cond b (Some e.1) (held_at es q))
    either true = refl
    either false = refl
put_first Greater k v e es more q at h = rw h (either _ _ refl refl)
  where
    either : (b d : Bool) → is_at (slice_cmp label_cmp q) e.0 ≡ b → is_at (slice_cmp label_cmp q) k ≡ d
        → cond b (Some e.1) (cond d (Some v) (held_at es q)) ≡ cond d (Some v) (cond b (Some e.1) (held_at es q))
    either true true first here =
        let same : k ≡ e.0 = sym (same_name q k here) ∙ same_name q e.0 first in
        let bad : Equal ≡ Greater = sym (name_self e.0) ∙ subst (λ (m : List Label). slice_cmp label_cmp m e.0 ≡ Greater) same at in
        absurd (cc)
    either true false first here = refl
    either false true first here = refl
    either false false first here = refl

-- what is held once a node was put under a name
pub held-with_node : (nodes : Nodes) (k : List Label) (v : HeldNode) (q : List Label) → held_at (with_node nodes k v) q ≡ cond (is_at (slice_cmp label_cmp q) k) (Some v) (held_at nodes q)
held-with_node [] k v q = refl
held-with_node (e ∷ es) k v q = put_first (slice_cmp label_cmp k e.0) k v e es (with_node es k v) q refl (held-with_node es k v q)

one_name : (name x y : List Label) → is_at (slice_cmp label_cmp name) x ≡ true → is_at (slice_cmp label_cmp name) y ≡ eq_by_cmp (slice_cmp label_cmp) x y
one_name name x y h = ap (λ (m : List Label). is_at (slice_cmp label_cmp m) y) (same_name name x h)

-- what is held once a held node was replaced
pub held-replaced : (nodes : Nodes) (name : List Label) (v : HeldNode) (q : List Label) → is_held nodes name ≡ true
    → held_at (replaced nodes name v) q ≡ cond (is_at (slice_cmp label_cmp name) q) (Some v) (held_at nodes q)
held-replaced nodes name v q held = lookup-set_value (eq_by_cmp_equiv names_total) (is_at (slice_cmp label_cmp name)) (one_name name) q v nodes held

-- what is held once a node was left out
pub held-without : (nodes : Nodes) (name q : List Label) → HaveRisingNames nodes → held_at (without_node nodes name) q ≡ cond (is_at (slice_cmp label_cmp name) q) None (held_at nodes q)
held-without nodes name q ordered = lookup-remove_entry (eq_by_cmp_equiv names_total) (is_at (slice_cmp label_cmp name)) (one_name name) q nodes (IsDistinct-from_sorted _ _ ordered)

-- what is held under a name once a part was put
held-part_in : (nodes : Nodes) (name : List Label) (part : Part) (q : List Label) (o : Option HeldNode) → held_at nodes name ≡ o → is_held (with_part_in o nodes name part) q ≡ is_held nodes q
held-part_in nodes name part q None h = refl
held-part_in nodes name part q (Some node) h =
    ap (λ (o : Option HeldNode). is_some o) (held-replaced nodes name (record { ids = node.ids; part = part }) q (ap (λ (o : Option HeldNode). is_some o) h)) ∙ either _ refl
  where
    either : (b : Bool) → is_at (slice_cmp label_cmp name) q ≡ b → is_some (cond b (Some (record { ids = node.ids; part = part })) (held_at nodes q)) ≡ is_held nodes q
    either true at = sym (ap (λ (o : Option HeldNode). is_some o) (subst (λ (m : List Label). held_at nodes m ≡ Some node) (same_name name q at) h))
    either false at = refl

-- the same names are held once a part was put
pub held-part : (nodes : Nodes) (name : List Label) (part : Part) (q : List Label) → is_held (with_part nodes name part) q ≡ is_held nodes q
held-part nodes name part q = held-part_in nodes name part q (held_at nodes name) refl

alike_at : (m n : List Label) → is_at (slice_cmp label_cmp m) n ≡ pointwise label_eq m n
alike_at m n = sym (names_ties m n)

-- the law of a node that is put
pub look_up_put : (nodes : Nodes) (name other : List Label) (node : HeldNode) → held_at (with_node nodes name node) other ≡ cond (pointwise label_eq name other) (Some node) (held_at nodes other)
look_up_put nodes name other node =
    held-with_node nodes name node other ∙ ap (λ (b : Bool). cond b (Some node) (held_at nodes other)) (alike_at other name ∙ names_equiv.symm other name)

-- the law of a node that is left out
pub look_up_left_out : (nodes : Nodes) (name other : List Label) → HaveRisingNames nodes → held_at (without_node nodes name) other ≡ cond (pointwise label_eq name other) None (held_at nodes other)
look_up_left_out nodes name other ordered = held-without nodes name other ordered ∙ ap (λ (b : Bool). cond b None (held_at nodes other)) (alike_at name other)

replaced_in : (nodes : Nodes) (name other : List Label) (part : Part) (o : Option HeldNode) → held_at nodes name ≡ o
    → held_at (with_part_in o nodes name part) other ≡ cond (pointwise label_eq name other) (option_map (λ node. record { ids = node.ids; part = part }) o) (held_at nodes other)
replaced_in nodes name other part None at = either _ refl
  where
    either : (b : Bool) → pointwise label_eq name other ≡ b → held_at nodes other ≡ cond b None (held_at nodes other)
    either true same = subst (λ (n : List Label). held_at nodes n ≡ None) (alike_exact name other same) at
    either false same = refl
replaced_in nodes name other part (Some node) at =
    held-replaced nodes name (record { ids = node.ids; part = part }) other (ap (λ (o : Option HeldNode). is_some o) at)
    ∙ ap (λ (b : Bool). cond b (Some (record { ids = node.ids; part = part })) (held_at nodes other)) (alike_at name other)

-- the law of a part that is put
pub look_up_replaced : (nodes : Nodes) (name other : List Label) (part : Part)
    → held_at (with_part nodes name part) other ≡ cond (pointwise label_eq name other) (option_map (λ node. record { ids = node.ids; part = part }) (held_at nodes name)) (held_at nodes other)
look_up_replaced nodes name other part = replaced_in nodes name other part (held_at nodes name) refl

-- ---- names above held names

stands_still : (old new : Nodes) → ((q : List Label) → is_held old q ≡ true → is_held new q ≡ true) → (n : List Label) → stands old n ≡ true → stands new n ≡ true
stands_still old new more [] h = refl
stands_still old new more (l ∷ ls) h = more (l ∷ ls) h

above_still : (old new : Nodes) → ((q : List Label) → is_held old q ≡ true → is_held new q ≡ true) → (o : Option (List Label × Label)) → stands_above old o ≡ true → stands_above new o ≡ true
above_still old new more None h = h
above_still old new more (Some p) h = stands_still old new more p.0 h

place_still : (old new : Nodes) → ((q : List Label) → is_held old q ≡ true → is_held new q ≡ true) → (n : List Label) → has_place old n ≡ true → has_place new n ≡ true
place_still old new more n h = above_still old new more (cut n) h

-- a part that is put leaves the names rooted
pub rooted_part : (nodes : Nodes) (name : List Label) (part : Part) → IsRooted nodes → IsRooted (with_part nodes name part)
rooted_part nodes name part rooted n h =
    place_still nodes (with_part nodes name part) (λ q k. held-part nodes name part q ∙ k) n (rooted n (sym (held-part nodes name part n) ∙ h))

-- so does a node that is put where it has a place
pub rooted_node : (nodes : Nodes) (name : List Label) (v : HeldNode) → has_place nodes name ≡ true → IsRooted nodes → IsRooted (with_node nodes name v)
rooted_node nodes name v place rooted n h = place_still nodes (with_node nodes name v) more n (here _ refl (sym (ap (λ (o : Option HeldNode). is_some o) (held-with_node nodes name v n)) ∙ h))
  where
    either : (b : Bool) (o : Option HeldNode) → is_some o ≡ true → is_some (cond b (Some v) o) ≡ true
    either true o k = refl
    either false o k = k

    more : (q : List Label) → is_held nodes q ≡ true → is_held (with_node nodes name v) q ≡ true
    more q k = ap (λ (o : Option HeldNode). is_some o) (held-with_node nodes name v q) ∙ either _ _ k

    here : (b : Bool) → is_at (slice_cmp label_cmp n) name ≡ b → is_some (cond b (Some v) (held_at nodes n)) ≡ true → has_place nodes n ≡ true
    here true at k = subst (λ (m : List Label). has_place nodes m ≡ true) (sym (same_name n name at)) place
    here false at k = rooted n k

apart_from_child : (nodes : Nodes) (name n : List Label) (p : List Label × Label) → has_child nodes name ≡ false → is_held nodes n ≡ true → cut n ≡ Some p → is_at (slice_cmp label_cmp name) p.0 ≡ false
apart_from_child nodes name n p none held at = by_test _ refl
  where
    by_test : (b : Bool) → is_at (slice_cmp label_cmp name) p.0 ≡ b → b ≡ false
    by_test false e = refl
    by_test true e =
        let is : n ≡ name ++ p.1 ∷ [] = cut_joined n p at ∙ ap (λ (m : List Label). m ++ p.1 ∷ []) (sym (same_name name p.0 e)) in
        let child = child_found nodes name p.1 (subst (λ (m : List Label). is_held nodes m ≡ true) is held) in
        let bad : false ≡ true = sym none ∙ child in
        absurd (cc)

held_apart : (nodes : Nodes) (name q : List Label) → HaveRisingNames nodes → is_at (slice_cmp label_cmp name) q ≡ false → is_held (without_node nodes name) q ≡ is_held nodes q
held_apart nodes name q ordered apart = ap (λ (o : Option HeldNode). is_some o) (held-without nodes name q ordered ∙ rw apart refl)

stands_apart : (nodes : Nodes) (name q : List Label) → HaveRisingNames nodes → is_at (slice_cmp label_cmp name) q ≡ false → stands nodes q ≡ true → stands (without_node nodes name) q ≡ true
stands_apart nodes name [] ordered apart h = refl
stands_apart nodes name (l ∷ ls) ordered apart h = held_apart nodes name (l ∷ ls) ordered apart ∙ h

-- the name above a held name still stands once a node without held children was left out
pub above_apart : (nodes : Nodes) (name n : List Label) → HaveRisingNames nodes → has_child nodes name ≡ false → is_held nodes n ≡ true → (o : Option (List Label × Label)) → cut n ≡ o
    → stands_above nodes o ≡ true → stands_above (without_node nodes name) o ≡ true
above_apart nodes name n ordered none held None at h = h
above_apart nodes name n ordered none held (Some p) at h = stands_apart nodes name p.0 ordered (apart_from_child nodes name n p none held at) h

-- what is held without a node was held before
pub still_held : (nodes : Nodes) (name n : List Label) → HaveRisingNames nodes → is_held (without_node nodes name) n ≡ true → is_held nodes n ≡ true
still_held nodes name n ordered h = either _ _ (sym (ap (λ (o : Option HeldNode). is_some o) (held-without nodes name n ordered)) ∙ h)
  where
    either : (b : Bool) (o : Option HeldNode) → is_some (cond b None o) ≡ true → is_some o ≡ true
    either true o k = absurd (cc)
    either false o k = k

-- a node without held children is left out
pub rooted_without : (nodes : Nodes) (name : List Label) → HaveRisingNames nodes → has_child nodes name ≡ false → IsRooted nodes → IsRooted (without_node nodes name)
rooted_without nodes name ordered none rooted n h =
    let held = still_held nodes name n ordered h in
    above_apart nodes name n ordered none held (cut n) refl (rooted n held)

-- ---- the ids of a city

-- ids are those of a city once a node with its ids was put
pub ids_node : (city : Node) (nodes : Nodes) (name : List Label) (v : HeldNode) → ids_at city name ≡ Some v.ids → HaveIdsOf city nodes → HaveIdsOf city (with_node nodes name v)
ids_node city nodes name v right of_city n node h = either _ refl (sym (held-with_node nodes name v n) ∙ h)
  where
    either : (b : Bool) → is_at (slice_cmp label_cmp n) name ≡ b → cond b (Some v) (held_at nodes n) ≡ Some node → ids_at city n ≡ Some node.ids
    either true at k =
        let is : v ≡ node = cc in
        subst (λ (m : List Label). ids_at city m ≡ Some node.ids) (sym (same_name n name at)) (right ∙ ap (λ (w : HeldNode). Some w.ids) is)
    either false at k = of_city n node k

ids_part_in : (city : Node) (nodes : Nodes) (name : List Label) (part : Part) (o : Option HeldNode) → held_at nodes name ≡ o → HaveIdsOf city nodes → HaveIdsOf city (with_part_in o nodes name part)
ids_part_in city nodes name part None is of_city n node h = of_city n node h
ids_part_in city nodes name part (Some old) is of_city n node h =
    either _ refl (sym (held-replaced nodes name (record { ids = old.ids; part = part }) n (ap (λ (o : Option HeldNode). is_some o) is)) ∙ h)
  where
    either : (b : Bool) → is_at (slice_cmp label_cmp name) n ≡ b → cond b (Some (record { ids = old.ids; part = part })) (held_at nodes n) ≡ Some node → ids_at city n ≡ Some node.ids
    either true at k =
        let same : record { ids = old.ids; part = part } ≡ node = cc in
        subst (λ (m : List Label). ids_at city m ≡ Some node.ids) (same_name name n at) (of_city name old is ∙ ap (λ (w : HeldNode). Some w.ids) same)
    either false at k = of_city n node k

-- and once a part was put
pub ids_part : (city : Node) (nodes : Nodes) (name : List Label) (part : Part) → HaveIdsOf city nodes → HaveIdsOf city (with_part nodes name part)
ids_part city nodes name part = ids_part_in city nodes name part (held_at nodes name) refl

-- and once a node was left out
pub ids_without : (city : Node) (nodes : Nodes) (name : List Label) → HaveRisingNames nodes → HaveIdsOf city nodes → HaveIdsOf city (without_node nodes name)
ids_without city nodes name ordered of_city n node h = of_city n node (either _ (sym (held-without nodes name n ordered) ∙ h))
  where
    either : (b : Bool) → cond b None (held_at nodes n) ≡ Some node → held_at nodes n ≡ Some node
    either true k = absurd (cc)
    either false k = k

-- a fragment of a city, once its nodes changed
pub part_of_city : (city : Node) (top : Label) (old new : Nodes) (now : Contents) → record { top = top; nodes = old } ≡ now → (HaveIdsOf city old → HaveIdsOf city new) → IsFragmentOf city now
    → IsFragmentOf city (record { top = top; nodes = new })
part_of_city city top old new now is step h =
    let was = subst (λ (f : Contents). IsFragmentOf city f) (sym is) h in
    record { top = was.top; ids = step was.ids }
