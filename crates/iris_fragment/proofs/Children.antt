-- Held nodes below held nodes.
use Rattle.std.proofs.lemmas.List.{reverse-append, reverse-reverse, append-nil}
use Rattle.std.proofs.Common.{◌≡◌, Bool, true, false, cond, ◌||◌, List, [], ◌∷◌, ◌++◌, reverse, length, ◌==◌, Option, Some, None, is_some, refl, sym, ap, ◌∙◌, subst, append_assoc}
use Rattle.std.specs.declared.cmp.Ordering.TheVariants.{Less}
use Rattle.std.specs.Ordering.{is_eq, is_gt}
use Rattle.std.specs.List.{list_any}
use Rattle.std.specs.BTreeMap.{is_at}
use Rattle.std.specs.Cmp.Lexicographic.{slice_cmp}
use Rattle.iris_base.specs.declared.name.Label.{Label}
use Rattle.iris_base.specs.NameOrder.{label_cmp}
use Rattle.iris_base.specs.Under.{Under}
use Rattle.iris_fragment.specs.declared.held.HeldNode.{HeldNode}
use Rattle.iris_fragment.specs.Contents.{Nodes, held_at, is_held, stands, stands_above, has_place, cut}
use Rattle.iris_fragment.specs.Changes.{is_right_above, has_child}
use Rattle.iris_fragment.specs.Shape.{IsRooted}
use Rattle.iris_fragment.proofs.Names.{name_exact, name_self, alike_self, alike_exact, equal_from_is_eq, less_below, under_between, cut_last, cut_joined}

-- two tests that imply one another answer the same
pub same_bool : (a b : Bool) → (a ≡ true → b ≡ true) → (b ≡ true → a ≡ true) → a ≡ b
same_bool true b to from = sym (to refl)
same_bool false true to from = from refl
same_bool false false to from = refl

-- ---- names above held names

-- the name of a held node stands
pub stands_if_held : (nodes : Nodes) (n : List Label) → is_held nodes n ≡ true → stands nodes n ≡ true
stands_if_held nodes [] h = refl
stands_if_held nodes (l ∷ ls) h = h

-- a name that is not the document's stands just where its node is held
pub stands_unless_empty : (nodes : Nodes) (n : List Label) → (length n == 0) ≡ false → stands nodes n ≡ is_held nodes n
stands_unless_empty nodes [] h = absurd (cc)
stands_unless_empty nodes (l ∷ ls) h = refl

-- the same of a name with a last label
pub held_last : (nodes : Nodes) (front : List Label) (x : Label) → stands nodes (front ++ x ∷ []) ≡ is_held nodes (front ++ x ∷ [])
held_last nodes [] x = refl
held_last nodes (l ∷ ls) x = refl

-- a name has a place just where the name above it stands
pub place_last : (nodes : Nodes) (front : List Label) (x : Label) → has_place nodes (front ++ x ∷ []) ≡ stands nodes front
place_last nodes front x = ap (stands_above nodes) (cut_last front x)

above_back : (nodes : Nodes) → IsRooted nodes → (m back : List Label) → stands nodes (m ++ reverse back) ≡ true → stands nodes m ≡ true
above_back nodes rooted m [] h = subst (λ (n : List Label). stands nodes n ≡ true) (append-nil m) h
above_back nodes rooted m (b ∷ back) h =
    let longer : m ++ reverse (b ∷ back) ≡ (m ++ reverse back) ++ b ∷ [] = ap (λ (n : List Label). m ++ n) (reverse-append (b ∷ []) back) ∙ sym (append_assoc m (reverse back) (b ∷ [])) in
    let one = subst (λ (n : List Label). stands nodes n ≡ true) longer h in
    let held = sym (held_last nodes (m ++ reverse back) b) ∙ one in
    above_back nodes rooted m back (sym (place_last nodes (m ++ reverse back) b) ∙ rooted _ held)

-- each name above a held one is the document's or a held one
pub stands_above_held : (nodes : Nodes) → IsRooted nodes → (m rest : List Label) → is_held nodes (m ++ rest) ≡ true → stands nodes m ≡ true
stands_above_held nodes rooted m rest h =
    above_back nodes rooted m (reverse rest)
    (subst (λ (n : List Label). stands nodes (m ++ n) ≡ true) (sym (reverse-reverse rest)) (stands_if_held nodes (m ++ rest) h))

-- ---- children

or_right : (a b : Bool) → b ≡ true → (a || b) ≡ true
or_right true b h = refl
or_right false b h = h

or_cases : (a b : Bool) → (a || b) ≡ true → a ≡ false → b ≡ true
or_cases true b h e = absurd (cc)
or_cases false b h e = h

child_of_head : (nodes : Nodes) (n : List Label) (x : Label) (e : List Label × HeldNode) (b : Bool) → is_at (slice_cmp label_cmp (n ++ x ∷ [])) e.0 ≡ b
    → (is_held nodes (n ++ x ∷ []) ≡ true → list_any (λ e. is_right_above n (cut e.0)) nodes ≡ true)
    → is_some (cond b (Some e.1) (held_at nodes (n ++ x ∷ []))) ≡ true → (is_right_above n (cut e.0) || list_any (λ e. is_right_above n (cut e.0)) nodes) ≡ true
child_of_head nodes n x e true at more h =
    let same = name_exact (n ++ x ∷ []) e.0 (equal_from_is_eq _ at) in
    let right : is_right_above n (cut e.0) ≡ true = rw (← same) (rw (cut_last n x) (alike_self n)) in
    rw right refl
child_of_head nodes n x e false at more h = or_right _ _ (more h)

-- a held child is found
pub child_found : (nodes : Nodes) (n : List Label) (x : Label) → is_held nodes (n ++ x ∷ []) ≡ true → has_child nodes n ≡ true
child_found [] n x h = absurd (cc)
child_found (e ∷ nodes) n x h = child_of_head nodes n x e _ refl (child_found nodes n x) h

some_either : (b : Bool) (v : HeldNode) (o : Option HeldNode) → is_some o ≡ true → is_some (cond b (Some v) o) ≡ true
some_either true v o h = refl
some_either false v o h = h

right_above : (n : List Label) (o : Option (List Label × Label)) → is_right_above n o ≡ true → (p : List Label × Label) × (o ≡ Some p) × (n ≡ p.0)
right_above n None h = absurd (cc)
right_above n (Some p) h = (p, refl, alike_exact n p.0 h)

there : (nodes : Nodes) (n : List Label) (e : List Label × HeldNode) (b : Bool) → is_right_above n (cut e.0) ≡ b
    → (has_child nodes n ≡ true → (x : Label) × (is_held nodes (n ++ x ∷ []) ≡ true))
    → (b || has_child nodes n) ≡ true → (x : Label) × (is_held (e ∷ nodes) (n ++ x ∷ []) ≡ true)
there nodes n e true right more h =
    let p = right_above n (cut e.0) right in
    let name : e.0 ≡ n ++ p.0.1 ∷ [] = cut_joined e.0 p.0 p.1 ∙ ap (λ (m : List Label). m ++ p.0.1 ∷ []) (sym p.2) in
    let hit : is_at (slice_cmp label_cmp (n ++ p.0.1 ∷ [])) e.0 ≡ true =
    subst (λ (m : List Label). is_at (slice_cmp label_cmp (n ++ p.0.1 ∷ [])) m ≡ true) (sym name) (ap is_eq (name_self (n ++ p.0.1 ∷ []))) in
    (p.0.1, rw hit refl)
there nodes n e false right more h = let rest = more h in (rest.0, some_either _ e.1 _ rest.1)

-- a child that is found is held
pub child_there : (nodes : Nodes) (n : List Label) → has_child nodes n ≡ true → (x : Label) × (is_held nodes (n ++ x ∷ []) ≡ true)
child_there [] n h = absurd (cc)
child_there (e ∷ nodes) n h = there nodes n e _ refl (child_there nodes n) h

-- ---- what follows a name in the order

-- where no held name follows, no child is held
pub none_after : (nodes : Nodes) (n : List Label) → ((q : List Label) → slice_cmp label_cmp n q ≡ Less → is_held nodes q ≡ true → ⊥) → false ≡ has_child nodes n
none_after nodes n none = same_bool false (has_child nodes n) (λ h. absurd (cc)) (λ h. let c = child_there nodes n h in absurd (none _ (less_below n c.0 []) c.1))

below_next : (nodes : Nodes) → IsRooted nodes → (n rest : List Label) → slice_cmp label_cmp n (n ++ rest) ≡ Less → is_held nodes (n ++ rest) ≡ true → has_child nodes n ≡ true
below_next nodes rooted n [] after h =
    let bad = sym (name_self n) ∙ subst (λ (m : List Label). slice_cmp label_cmp n m ≡ Less) (append-nil n) after in
    absurd (cc)
below_next nodes rooted n (x ∷ xs) after h =
    let longer : is_held nodes ((n ++ x ∷ []) ++ xs) ≡ true = simp append_assoc h in
    child_found nodes n x (sym (held_last nodes n x) ∙ stands_above_held nodes rooted (n ++ x ∷ []) xs longer)

-- a child of a held node is held just where the name that follows it is under it
pub child_next : (nodes : Nodes) → IsRooted nodes → (n next : List Label) → slice_cmp label_cmp n next ≡ Less → is_held nodes next ≡ true
    → ((q : List Label) → slice_cmp label_cmp n q ≡ Less → is_held nodes q ≡ true → is_gt (slice_cmp label_cmp next q) ≡ false)
    → (b : Bool) → (b ≡ true → Under next n) → (Under next n → b ≡ true) → b ≡ has_child nodes n
child_next nodes rooted n next after held least b under is_under =
    same_bool b (has_child nodes n)
    (λ h.
    let u = under h in
    below_next nodes rooted n u.0 (subst (λ (m : List Label). slice_cmp label_cmp n m ≡ Less) u.1 after) (subst (λ (m : List Label). is_held nodes m ≡ true) u.1 held))
    (λ h. let c = child_there nodes n h in is_under (under_between n next (c.0 ∷ []) after (least _ (less_below n c.0 []) c.1)))
