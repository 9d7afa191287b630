-- Entries under lists of labels, wherever the lists lie: what a map's calls do to them.
use Rattle.std.proofs.Common.{◌≡◌, Bool, true, false, cond, List, [], ◌∷◌, Option, Some, None, is_some, IsSome, IfSome, refl, sym, ap, subst, ◌∙◌}
use Rattle.std.specs.Prelude.{Vec}
use Rattle.std.specs.declared.alloc.Global.{Global}
use Rattle.std.specs.declared.cmp.Ordering.{Ordering}
use Rattle.std.specs.declared.cmp.Ordering.TheVariants.{Less, Equal, Greater}
use Rattle.std.specs.Ordering.{match_ordering, is_gt}
use Rattle.std.specs.List.{AllByRecursion, slice_get}
use Rattle.std.specs.List.Sorted.{IsStrictlySortedBy}
use Rattle.std.specs.Map.{lookup, keys_of, remove_entry, set_value}
use Rattle.std.specs.BTreeMap.{BTreeMap, is_at, insert_entry}
use Rattle.std.specs.BTreeMap.Range.{IsRangeOf, IsEntryInRange, IsLeBy}
use Rattle.std.specs.declared.ops.Bound.TheVariants.{Excluded, Unbounded}
use Rattle.std.proofs.lemmas.Map.Entries.{place_from_lookup}
use Rattle.std.specs.Cmp.Lexicographic.{slice_cmp}
use Rattle.iris_base.specs.declared.name.Label.{Label}
use Rattle.iris_base.specs.NameOrder.{label_cmp}
use Rattle.iris_fragment.specs.declared.held.HeldNode.{HeldNode}
use Rattle.iris_fragment.specs.declared.held.Part.{Part}
use Rattle.iris_base.specs.Under.{Under}
use Rattle.iris_fragment.specs.Contents.{Nodes, held_at, is_held}
use Rattle.iris_fragment.specs.Stored.{entries_named}
use Rattle.iris_fragment.specs.Changes.{with_node, without_node, replaced, with_part, with_part_in, has_child}
use Rattle.iris_fragment.specs.Shape.{IsRooted}
use Rattle.iris_fragment.proofs.Names.{name_exact, equal_from_is_eq}
use Rattle.iris_fragment.proofs.Children.{none_after, child_next}

-- a name as the map has it
abbrev pub Key : Type 0
Key = Vec Label Global

-- the entries of the map
abbrev pub Entries : Type 0
Entries = List (Key × HeldNode)

-- keys by their labels
abbrev pub key_cmp : Key → Key → Ordering
key_cmp a b = slice_cmp label_cmp a.items b.items

-- a name against a key
abbrev pub against : List Label → Key → Ordering
against name k = slice_cmp label_cmp name k.items

-- a look-up by labels is one by name
pub held-named : (name : List Label) (es : Entries) → held_at (entries_named es) name ≡ lookup (is_at (against name)) es
held-named name [] = refl
held-named name (e ∷ es) = ap (cond (is_at (against name) e.0) (Some e.1)) (held-named name es)

put_first : (o : Ordering) (k : Key) (v : HeldNode) (e : Key × HeldNode) (es rest : Entries) (more : Nodes) → entries_named rest ≡ more
    → entries_named (match_ordering o ((k, v) ∷ e ∷ es) ((e.0, v) ∷ es) (e ∷ rest)) ≡ match_ordering o ((k.items, v) ∷ entries_named (e ∷ es)) ((e.0.items, v) ∷ entries_named es) ((e.0.items, e.1) ∷ more)
put_first Less k v e es rest more h = refl
put_first Equal k v e es rest more h = refl
put_first Greater k v e es rest more h = ap (λ (ns : Nodes). (e.0.items, e.1) ∷ ns) h

-- an entry that is put is a node that is put
pub named-insert : (es : Entries) (k : Key) (v : HeldNode) → entries_named (insert_entry key_cmp es k v) ≡ with_node (entries_named es) k.items v
named-insert [] k v = refl
named-insert (e ∷ es) k v = put_first (key_cmp k e.0) k v e es _ _ (named-insert es k v)

take_first : (b : Bool) (e : Key × HeldNode) (es rest : Entries) (less : Nodes) → entries_named rest ≡ less → entries_named (cond b es (e ∷ rest)) ≡ cond b (entries_named es) ((e.0.items, e.1) ∷ less)
take_first true e es rest less h = refl
take_first false e es rest less h = ap (λ (ns : Nodes). (e.0.items, e.1) ∷ ns) h

-- an entry that is removed is a node that is left out
pub named-remove : (name : List Label) (es : Entries) → entries_named (remove_entry (is_at (against name)) es) ≡ without_node (entries_named es) name
named-remove name [] = refl
named-remove name (e ∷ es) = take_first (is_at (against name) e.0) e es _ _ (named-remove name es)

set_first : (b : Bool) (v : HeldNode) (e : Key × HeldNode) (es rest : Entries) (more : Nodes) → entries_named rest ≡ more
    → entries_named (cond b ((e.0, v) ∷ es) (e ∷ rest)) ≡ cond b ((e.0.items, v) ∷ entries_named es) ((e.0.items, e.1) ∷ more)
set_first true v e es rest more h = refl
set_first false v e es rest more h = ap (λ (ns : Nodes). (e.0.items, e.1) ∷ ns) h

-- an entry whose value is replaced is a node that is replaced
pub named-set : (name : List Label) (es : Entries) (v : HeldNode) → entries_named (set_value (is_at (against name)) es v) ≡ replaced (entries_named es) name v
named-set name [] v = refl
named-set name (e ∷ es) v = set_first (is_at (against name) e.0) v e es _ _ (named-set name es v)

all_after : (k : Key) (es : Entries) → AllByRecursion (λ x. key_cmp k x ≡ Less) (keys_of es) → AllByRecursion (λ n. slice_cmp label_cmp k.items n ≡ Less) (keys_of (entries_named es))
all_after k [] h = h
all_after k (e ∷ es) h = (h.0, all_after k es h.1)

-- the names rise as the keys do
pub sorted-named : (es : Entries) → IsStrictlySortedBy key_cmp (keys_of es) → IsStrictlySortedBy (slice_cmp label_cmp) (keys_of (entries_named es))
unfolding IsStrictlySortedBy
sorted-named [] h = h
sorted-named (e ∷ es) h = (all_after e.0 es h.0, sorted-named es h.1)

-- what a look-up among the entries found is held
pub held_now : (es : Entries) (ns : Nodes) (name : List Label) (o : Option HeldNode) → entries_named es ≡ ns → o ≡ lookup (is_at (against name)) es → held_at ns name ≡ o
held_now es ns name o same found = ap (λ (ms : Nodes). held_at ms name) (sym same) ∙ held-named name es ∙ sym found

-- a part that is put into an entry that was found
pub part_put : (es new : Entries) (ns : Nodes) (name : List Label) (node : HeldNode) (part : Part) → entries_named es ≡ ns → Some node ≡ lookup (is_at (against name)) es
    → new ≡ set_value (is_at (against name)) es (record { ids = node.ids; part = part }) → entries_named new ≡ with_part ns name part
part_put es new ns name node part same found set =
    let held = held_now es ns name (Some node) same found in
    ap (λ (fs : Entries). entries_named fs) set ∙ named-set name es (record { ids = node.ids; part = part })
    ∙ ap (λ (ms : Nodes). replaced ms name (record { ids = node.ids; part = part })) same
    ∙ ap (λ (o : Option HeldNode). with_part_in o ns name part) (sym held)

-- no part is put where no entry was found
pub part_not_put : (es : Entries) (ns : Nodes) (name : List Label) (part : Part) → entries_named es ≡ ns → None ≡ lookup (is_at (against name)) es → entries_named es ≡ with_part ns name part
part_not_put es ns name part same found =
    same ∙ ap (λ (o : Option HeldNode). with_part_in o ns name part) (sym (held_now es ns name None same found))

-- a held name is that of a key
pub key_of_held : (es : Entries) (name : List Label) → is_held (entries_named es) name ≡ true → (k : Key) × (k.items ≡ name) × IsSome (lookup (is_at (key_cmp k)) es)
key_of_held es name h = by_found (lookup (is_at (against name)) es) refl
  where
    by_found : (o : Option HeldNode) → lookup (is_at (against name)) es ≡ o → (k : Key) × (k.items ≡ name) × IsSome (lookup (is_at (key_cmp k)) es)
    by_found None e =
        let bad : false ≡ true = sym (ap (λ (p : Option HeldNode). is_some p) (held-named name es ∙ e)) ∙ h in
        absurd (cc)
    by_found (Some v) e =
        let place = place_from_lookup (is_at (against name)) es v e in
        let k = place.1 in
        let same : name ≡ k.items = name_exact name k.items (equal_from_is_eq _ place.3) in
        let found : lookup (is_at (against k.items)) es ≡ Some v = subst (λ (n : List Label). lookup (is_at (against n)) es ≡ Some v) same e in
        (k, sym same, ap (λ (p : Option HeldNode). is_some p) found)

-- the entries behind a key, none
pub no_child_behind : (m : BTreeMap Key HeldNode) (r : Entries) (key : Key) (nodes : Nodes) (name : List Label) → entries_named m.entries ≡ nodes → name ≡ key.items
    → IsRangeOf key_cmp (Excluded key) Unbounded m r → r ≡ [] → false ≡ has_child nodes name
no_child_behind m r key nodes name same is range empty =
    subst (λ (ns : Nodes). false ≡ has_child ns name) same
    (none_after (entries_named m.entries) name
    (λ q after held.
    let k = key_of_held m.entries q held in
    let behind : key_cmp key k.0 ≡ Less = rw (k.1, ← is) after in
    let none = range.5 empty k.0 (behind, tt) in
    let bad : false ≡ true = sym (ap (λ (p : Option HeldNode). is_some p) none) ∙ k.2 in
    cc))

-- the entries behind a key, the first of which is at hand
pub child_behind : (m : BTreeMap Key HeldNode) (r t : Entries) (key : Key) (e : Key × HeldNode) (nodes : Nodes) (name : List Label) → entries_named m.entries ≡ nodes → name ≡ key.items → IsRooted nodes
    → IsRangeOf key_cmp (Excluded key) Unbounded m r → r ≡ e ∷ t → (b : Bool) → (b ≡ true → Under e.0.items name) → (Under e.0.items name → b ≡ true) → b ≡ has_child nodes name
child_behind m r t key e nodes name same is rooted range first b under is_under =
    let here = subst (λ (es : Entries). IfSome (slice_get es 0) (IsEntryInRange key_cmp (Excluded key) Unbounded m)) first range.1 in
    let least : (q : List Label) → slice_cmp label_cmp name q ≡ Less → is_held nodes q ≡ true → is_gt (slice_cmp label_cmp e.0.items q) ≡ false = λ q after held.
    let k = key_of_held m.entries q (rw same held) in
    let behind : key_cmp key k.0 ≡ Less = rw (k.1, ← is) after in
    let le = subst (λ (es : Entries). IfSome (slice_get es 0) (λ x. IsLeBy key_cmp x.0 k.0)) first (range.2 k.0 (behind, tt) k.2) in
    subst (λ (n : List Label). is_gt (slice_cmp label_cmp e.0.items n) ≡ false) k.1 le in
    let after : slice_cmp label_cmp name e.0.items ≡ Less = rw is here.0.0 in
    let held : is_held nodes e.0.items ≡ true = rw (← same) (ap (λ (o : Option HeldNode). is_some o) (held-named e.0.items m.entries ∙ here.1)) in
    child_next nodes rooted name e.0.items after held least b under is_under
