-- Fragments of a city: which names they know.
use Rattle.std.proofs.Common.{◌≡◌, ℕ, Bool, true, false, cond, ◌&&◌, ◌||◌, if◌then◌else◌, List, [], ◌∷◌, ◌++◌, Option, Some, None, is_some, IsSome, option_map, refl, sym, ap, ◌∙◌}
use Rattle.std.specs.Prelude.{option_and_then, ◌↔◌}
use Rattle.std.specs.Ordering.{is_eq}
use Rattle.std.specs.declared.cmp.Ordering.{Ordering}
use Rattle.std.specs.List.{list_any}
use Rattle.iris_base.specs.declared.name.Label.{Label}
use Rattle.iris_base.specs.NameOrder.{label_eq}
use Rattle.iris_tree.specs.Universe.{Node, label_of, labels_of, ids_of, children_of, child_of, part_at, node_at}
use Rattle.iris_fragment.specs.declared.held.HeldNode.{HeldNode}
use Rattle.iris_fragment.specs.declared.held.Part.{Part}
use Rattle.iris_fragment.specs.declared.held.Part.TheVariants.{Own, Copied, Bare}
use Rattle.iris_fragment.specs.declared.piece.Level.{Level}
use Rattle.iris_fragment.specs.declared.piece.Level.TheVariants as level
use Rattle.iris_fragment.specs.declared.status.Status.TheVariants.{IdComplete, Incomplete}
use Rattle.iris_fragment.specs.Contents.{Nodes, Contents, held_at, is_held, has_place, stands, stands_above, cut, ids_held, listed_at, listed_above, is_listed, status, part_status, status_or, holds_at, is_held_at}
use Rattle.iris_fragment.specs.Usable.{piece_of, held_piece}
use Rattle.iris_fragment.specs.Changes.{replaced, with_part, with_part_in, without_node, has_child}
use Rattle.iris_fragment.specs.Shape.{HaveRisingNames, IsRooted, IsFragmentOf}
use Rattle.iris_fragment.proofs.Names.{name_self, cut_joined}
use Rattle.iris_fragment.proofs.NodeChanges.{held-replaced, held-without, above_apart, ids_without}

-- ---- the nodes of a city

find_any_first : (b : Bool) (n : Node) (o : Option Node) (any : Bool) → is_some o ≡ any → is_some (cond b (Some n) o) ≡ (b || any)
find_any_first true n o any h = refl
find_any_first false n o any h = h

-- a child is found where its label is listed
find_any : (x : Label) (ns : List Node) → is_some (child_of x ns) ≡ list_any (λ label. label_eq label x) (labels_of ns)
find_any x [] = refl
find_any x (n ∷ ns) = find_any_first (label_eq (label_of n) x) n (child_of x ns) _ (find_any x ns)

and_some : (o : Option Node) → option_and_then (λ n. Some n) o ≡ o
and_some None = refl
and_some (Some n) = refl

below_last : (o : Option Node) (ls : List Label) (x : Label) → ((n : Node) → part_at n (ls ++ x ∷ []) ≡ option_and_then (λ p. child_of x (children_of p)) (part_at n ls))
    → option_and_then (λ child. part_at child (ls ++ x ∷ [])) o ≡ option_and_then (λ p. child_of x (children_of p)) (option_and_then (λ child. part_at child ls) o)
below_last None ls x h = refl
below_last (Some n) ls x h = h n

part_last : (n : Node) (ls : List Label) (x : Label) → part_at n (ls ++ x ∷ []) ≡ option_and_then (λ p. child_of x (children_of p)) (part_at n ls)
part_last n [] x = and_some (child_of x (children_of n))
part_last n (l ∷ ls) x = below_last (child_of l (children_of n)) ls x (λ m. part_last m ls x)

-- a node is found among the children of the node above it
pub node_last : (city : Node) (a : Label) (ls : List Label) (x : Label) → node_at city (a ∷ ls ++ x ∷ []) ≡ option_and_then (λ p. child_of x (children_of p)) (node_at city (a ∷ ls))
node_last city a ls x = by_top (label_eq (label_of city) a)
  where
    by_top : (b : Bool) → (if b then part_at city (ls ++ x ∷ []) else None) ≡ option_and_then (λ p. child_of x (children_of p)) (if b then part_at city ls else None)
    by_top true = part_last city ls x
    by_top false = refl

-- ---- which names a fragment of a city lists

or_none : (b : Bool) → (b || false) ≡ b
or_none true = refl
or_none false = refl

top_listed : (b : Bool) (city : Node) → b ≡ is_some (if b then Some city else None)
top_listed true city = refl
top_listed false city = refl

listed_by : (x : Label) (ids : List Label) (o : Option Node) → option_map ids_of o ≡ Some ids → list_any (λ label. label_eq label x) ids ≡ is_some (option_and_then (λ p. child_of x (children_of p)) o)
listed_by x ids None h = absurd (cc)
listed_by x ids (Some p) h =
    let same : ids_of p ≡ ids = cc in
    ap (λ (labels : List Label). list_any (λ label. label_eq label x) labels) (sym same) ∙ sym (find_any x (children_of p))

listed_held : (city : Node) (f : Contents) → IsFragmentOf city f → (a : Label) (ls : List Label) (x : Label) (o : Option HeldNode) → held_at f.nodes (a ∷ ls) ≡ o
    → list_any (λ label. label_eq label x) (ids_held o) ≡ (is_some o && is_some (node_at city (a ∷ ls ++ x ∷ [])))
listed_held city f part a ls x None at = refl
listed_held city f part a ls x (Some node) at = listed_by x node.ids (node_at city (a ∷ ls)) (part.ids (a ∷ ls) node at) ∙ ap (λ (o : Option Node). is_some o) (sym (node_last city a ls x))

listed_below : (city : Node) (f : Contents) → IsFragmentOf city f → (above : List Label) (x : Label)
    → list_any (λ label. label_eq label x) (listed_at f above) ≡ (stands f.nodes above && is_some (node_at city (above ++ x ∷ [])))
listed_below city f part [] x = or_none (label_eq f.top x) ∙ ap (λ (l : Label). label_eq l x) part.top ∙ top_listed (label_eq (label_of city) x) city
listed_below city f part (a ∷ ls) x = listed_held city f part a ls x (held_at f.nodes (a ∷ ls)) refl

listed_cut : (city : Node) (f : Contents) → IsFragmentOf city f → (name : List Label) (o : Option (List Label × Label)) → cut name ≡ o
    → listed_above f o ≡ (stands_above f.nodes o && is_some (node_at city name))
listed_cut city f part name None at = refl
listed_cut city f part name (Some p) at =
    listed_below city f part p.0 p.1 ∙ ap (λ (n : List Label). stands f.nodes p.0 && is_some (node_at city n)) (sym (cut_joined name p at))

-- a fragment lists the nodes of the city whose parent is held or is the document
pub listed_is : (city : Node) (f : Contents) → IsFragmentOf city f → (name : List Label) → is_listed f name ≡ (has_place f.nodes name && is_some (node_at city name))
listed_is city f part name = listed_cut city f part name (cut name) refl

-- ---- statuses

both_true : (a b : Bool) → a ≡ true → b ≡ true → (a && b) ≡ true
both_true a b h k = rw (h, k) refl

first_true : (a b : Bool) → (a && b) ≡ true → a ≡ true
first_true true b h = refl
first_true false b h = absurd (cc)

second_true : (a b : Bool) → (a && b) ≡ true → b ≡ true
second_true true b h = h
second_true false b h = absurd (cc)

not_incomplete : (part : Part) → part_status part ≡ Incomplete → ⊥
not_incomplete (Own local version) h = cc
not_incomplete (Copied full) h = cc
not_incomplete Bare h = cc

incomplete_if : (listed : Bool) (o : Option HeldNode) → status_or listed o ≡ Some Incomplete → (is_some o ≡ false) × (listed ≡ true)
incomplete_if listed (Some node) h = let same : part_status node.part ≡ Incomplete = cc in absurd (not_incomplete node.part same)
incomplete_if true None h = (refl, refl)
incomplete_if false None h = absurd (cc)

incomplete_then : (listed : Bool) (o : Option HeldNode) → is_some o ≡ false → listed ≡ true → status_or listed o ≡ Some Incomplete
incomplete_then listed (Some node) h k = absurd (cc)
incomplete_then true None h k = refl
incomplete_then false None h k = absurd (cc)

-- a node is incomplete just where it is not held and its parent is held or is the document
pub incomplete_is : (city : Node) (f : Contents) → IsFragmentOf city f → (name : List Label) → IsSome (node_at city name)
    → (status f name ≡ Some Incomplete) ↔ ((is_held f.nodes name ≡ false) × (has_place f.nodes name ≡ true))
incomplete_is city f part name there = (
  (λ h. let p = incomplete_if (is_listed f name) (held_at f.nodes name) h in (p.0, first_true _ _ (sym (listed_is city f part name) ∙ p.1))),
  (λ h. incomplete_then (is_listed f name) (held_at f.nodes name) h.0 (listed_is city f part name ∙ both_true _ _ h.1 there)),
)

some_ids : (o : Option Node) (ids : List Label) → option_map ids_of o ≡ Some ids → is_some o ≡ true
some_ids None ids h = absurd (cc)
some_ids (Some n) ids h = refl

known_in : (city : Node) (f : Contents) → IsFragmentOf city f → (name : List Label) (listed : Bool) (o : Option HeldNode) → held_at f.nodes name ≡ o → (listed ≡ true → IsSome (node_at city name))
    → IsSome (status_or listed o) → IsSome (node_at city name)
known_in city f part name listed (Some node) at more h = some_ids _ _ (part.ids name node at)
known_in city f part name true None at more h = more refl
known_in city f part name false None at more h = absurd (cc)

-- no other name has a status
pub known_is : (city : Node) (f : Contents) → IsFragmentOf city f → (name : List Label) → IsSome (status f name) → IsSome (node_at city name)
known_is city f part name = known_in city f part name (is_listed f name) (held_at f.nodes name) refl (λ h. second_true _ _ (sym (listed_is city f part name) ∙ h))

-- ---- what is held at a level

held_part_at : (name : List Label) (node : HeldNode) (part : Part) (level : Level) (now : ℕ) → is_some (piece_of name (record { ids = node.ids; part = part }) level now) ≡ holds_at (Some (part_status part)) level
held_part_at name node (Own local version) level.Ids now = refl
held_part_at name node (Own local version) level.Full now = refl
held_part_at name node (Copied full) level.Ids now = refl
held_part_at name node (Copied full) level.Full now = refl
held_part_at name node Bare level.Ids now = refl
held_part_at name node Bare level.Full now = refl

held_level_in : (name : List Label) (listed : Bool) (o : Option HeldNode) (level : Level) (now : ℕ) → is_some (option_and_then (λ node. piece_of name node level now) o) ≡ holds_at (status_or listed o) level
held_level_in name true None level now = refl
held_level_in name false None level now = refl
held_level_in name listed (Some node) level now = held_part_at name node node.part level now

-- there is a piece just where the node is held at that level
pub held_level : (f : Contents) (name : List Label) (level : Level) (now : ℕ) → is_some (held_piece f name level now) ≡ is_held_at f name level
held_level f name level now = held_level_in name (is_listed f name) (held_at f.nodes name) level now

-- ---- the status after an eviction

bare_in : (top : Label) (nodes : Nodes) (name : List Label) (o : Option HeldNode) → held_at nodes name ≡ o → is_some o ≡ true → status (record { top = top; nodes = with_part_in o nodes name Bare }) name ≡ Some IdComplete
bare_in top nodes name None at h = absurd (cc)
bare_in top nodes name (Some node) at h =
    let put : HeldNode = record { ids = node.ids; part = Bare } in
    let there : held_at (replaced nodes name put) name ≡ Some put =
    held-replaced nodes name put name (ap (λ (o : Option HeldNode). is_some o) at) ∙ ap (λ (r : Ordering). cond (is_eq r) (Some put) (held_at nodes name)) (name_self name) in
    ap (λ (o : Option HeldNode). status_or (is_listed (record { top = top; nodes = replaced nodes name put }) name) o) there

-- a held node whose part is dropped is held by its ids
pub status_bare : (top : Label) (nodes : Nodes) (name : List Label) → is_held nodes name ≡ true → status (record { top = top; nodes = with_part nodes name Bare }) name ≡ Some IdComplete
status_bare top nodes name held = bare_in top nodes name (held_at nodes name) refl held

held_some : (o : Option HeldNode) → is_some o ≡ true → (node : HeldNode) × (o ≡ Some node)
held_some None h = absurd (cc)
held_some (Some node) h = (node, refl)

-- a node that is left out is known by its id alone
pub status_left : (city : Node) (top : Label) (nodes : Nodes) (name : List Label) → IsFragmentOf city (record { top = top; nodes = nodes }) → HaveRisingNames nodes → IsRooted nodes → is_held nodes name ≡ true
    → has_child nodes name ≡ false → status (record { top = top; nodes = without_node nodes name }) name ≡ Some Incomplete
status_left city top nodes name part ordered rooted held none =
    let after : IsFragmentOf city (record { top = top; nodes = without_node nodes name }) = record { top = part.top; ids = ids_without city nodes name ordered part.ids } in
    let node = held_some (held_at nodes name) held in
    let there = some_ids (node_at city name) node.0.ids (part.ids name node.0 node.1) in
    let gone : held_at (without_node nodes name) name ≡ None = held-without nodes name name ordered ∙ ap (λ (r : Ordering). cond (is_eq r) None (held_at nodes name)) (name_self name) in
    (incomplete_is city (record { top = top; nodes = without_node nodes name }) after name there).1
    (ap (λ (o : Option HeldNode). is_some o) gone, above_apart nodes name name ordered none held (cut name) refl (rooted name held))
