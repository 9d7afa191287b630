-- A tree that is built from a view by needs is the part of each document that agrees.
use Rattle.std.proofs.Common.{◌≡◌, ℕ, zero, suc, ◌+◌, ◌-◌, ◌<◌, ◌≤◌, ◌⊎◌, inl, inr, true, List, [], ◌∷◌, ◌++◌, length, map, get_or, take, Option, Some, None, option_map, refl, sym, ap, ◌∙◌, subst, add-one, arith}
use Rattle.std.specs.List.{AllByRecursion}
use Rattle.std.specs.List.Sorted.{IsStrictlySortedBy}
use Rattle.std.specs.declared.cmp.Ordering.TheVariants.{Less, Equal}
use Rattle.std.proofs.lemmas.List.{map-append, take_all, length-append, length-map}
use Rattle.std.proofs.Math.Seq.{take-suc}
use Rattle.iris_base.specs.declared.name.Label.{Label}
use Rattle.iris_base.specs.NameOrder.{label_cmp}
use Rattle.iris_fragment.specs.declared.piece.Full.{Full as FullPart}
use Rattle.iris_fragment.specs.declared.piece.Level.{Level}
use Rattle.iris_fragment.specs.declared.piece.Level.TheVariants.{Ids, Full}
use Rattle.iris_fragment.specs.declared.piece.Piece.{Piece}
use Rattle.iris_fragment.proofs.Names.{label_self}
use Rattle.iris_tree.specs.declared.local.Local.{Local}
use Rattle.iris_tree.specs.NodeCode.{nodes_of-list_of}
use Rattle.iris_tree.specs.Universe.{Node, node, Nodes, no_nodes, nodes_of, list_of, label_of, local_of, children_of, labels_of, ids_of, child_of, node_at, insert_node, with_child, IsOrdered, AreOrdered}
use Rattle.iris_tree.proofs.Siblings.{list_of-nodes_of, labels_sorted, found_at, node_parts, greater, not_equal}
use Rattle.iris_need.specs.declared.need.Need.{Need}
use Rattle.iris_need.specs.Decided.{at_level}
use Rattle.iris_need.specs.HeldParts.{level_at, local_held, local_told, nodes_held, held_part, held_below, AreBefore, IsHeldAt}
use Rattle.iris_need.specs.Pieces.{Pieces, piece_at, known_of, view_of, IsLocalOf, IsPieceAt}
use Rattle.iris_need.specs.Program.{room}
use Rattle.iris_need.specs.Run.{no_local, meets_known}
use Rattle.iris_need.proofs.Asked.{level_named}
use Rattle.iris_need.proofs.Deciding.{image_is}
use Rattle.iris_need.proofs.Documents.{AllStand, child_at, children_stand, room_is, standing}
use Rattle.iris_need.proofs.HeldParts.{held_child, held_label, children_held}
use Rattle.iris_need.proofs.Items.{none_below}
use Rattle.iris_need.proofs.Levels.{level_from}
use Rattle.iris_need.proofs.Pieces.{piece_named}

-- ---- the last child

-- a node with the greatest label goes to the end
insert_greatest : (ns : List Node) (below : Node) → AreBefore (labels_of ns) (label_of below) → insert_node below ns ≡ ns ++ below ∷ []
insert_greatest [] below h = refl
insert_greatest (n ∷ ns) below h = rw (greater (label_of n) (label_of below) h.0) (ap (λ (ms : List Node). n ∷ ms) (insert_greatest ns below h.1))

no_twin : (ns : List Node) (l : Label) → AreBefore (labels_of ns) l → child_of l ns ≡ None
no_twin [] l h = refl
no_twin (n ∷ ns) l h = rw (not_equal (label_of n) l h.0) (no_twin ns l h.1)

-- no child has a label greater than those of all children
pub twin_is_none : (tree below : Node) → AreBefore (labels_of (children_of tree)) (label_of below) → child_of (label_of below) (children_of tree) ≡ None
twin_is_none tree below h = no_twin (children_of tree) (label_of below) h

-- a child whose label is the greatest is put last
pub child_last : (tree below : Node) → AreBefore (labels_of (children_of tree)) (label_of below) → (children_of (with_child tree below) ≡ children_of tree ++ below ∷ []) × (label_of (with_child tree below) ≡ label_of tree) × (local_of (with_child tree below) ≡ local_of tree)
child_last (node l local ns) below h = (list_of-nodes_of (insert_node below (list_of ns)) ∙ insert_greatest (list_of ns) below h, refl, refl)

-- ---- labels of children

labels_rise : (n : Node) → IsOrdered n → IsStrictlySortedBy label_cmp (labels_of (children_of n))
labels_rise (node l local ns) o = labels_sorted (list_of ns) (subst (λ (ms : Nodes). AreOrdered ms) (sym (nodes_of-list_of ns)) o)

label_here : (ns : List Node) (i : ℕ) (d : Label) (m : Node) → i < length (labels_of ns) → get_or (labels_of ns) i d ≡ label_of (get_or ns i m)
label_here [] i d m h = absurd (omega arith)
label_here (n ∷ ns) zero d m h = refl
label_here (n ∷ ns) (suc i) d m h = label_here ns i d m (omega arith)

all_before : (m : Label) (ns : List Node) (i : ℕ) (c : Node) → AllByRecursion (λ l. label_cmp m l ≡ Less) (labels_of ns) → i < length ns → label_cmp m (label_of (get_or ns i c)) ≡ Less
all_before m [] i c h lt = absurd (omega arith)
all_before m (n ∷ ns) zero c h lt = h.0
all_before m (n ∷ ns) (suc i) c h lt = all_before m ns i c h.1 (omega arith)

-- of children in order, those before one have lesser labels
labels_before : (ns : List Node) (i : ℕ) (c : Node) → IsStrictlySortedBy label_cmp (labels_of ns) → i < length ns → AreBefore (labels_of (take i ns)) (label_of (get_or ns i c))
unfolding IsStrictlySortedBy
labels_before [] i c s h = absurd (omega arith)
labels_before (n ∷ ns) zero c s h = tt
labels_before (n ∷ ns) (suc i) c s h = (all_before (label_of n) ns i c s.0 (omega arith), labels_before ns i c s.1 (omega arith))

part_labels : (needs : List Need) (name : List Label) (ns : List Node) → labels_of (map (held_child needs name) ns) ≡ labels_of ns
part_labels needs name [] = refl
part_labels needs name (n ∷ ns) = ap (λ (l : Label). l ∷ labels_of (map (held_child needs name) ns)) (held_label needs (name ++ label_of n ∷ []) n) ∙ ap (λ (ls : List Label). label_of n ∷ ls) (part_labels needs name ns)

-- ---- what the view tells of a node

-- what a piece has as far as a level asks
level_ids : (level : Level) (piece : Piece) → (at_level level piece).ids ≡ piece.ids
level_ids Ids piece = refl
level_ids Full piece = refl

level_local : (level : Level) (piece : Piece) (n : Node) → IsLocalOf n (at_level level piece).full → level ≡ Full → IsLocalOf n piece.full
level_local Ids piece n h full = absurd (cc)
level_local Full piece n h full = h

piece_of_node : (document : Node) (view : Pieces) (needs : List Need) (name : List Label) (n : Node) (level : Level) (piece : Piece) → IsHeldAt document view needs name n → level_at needs name ≡ Some level → piece_at view name ≡ Some piece
    → (piece.ids ≡ ids_of n) × (level ≡ Full → IsLocalOf n piece.full)
piece_of_node document view needs name n level piece h at found =
    let need = level_from needs name level at in
    let told : Piece = at_level level piece in
    let has : option_map (at_level need.0.level) (piece_at view need.0.name) ≡ Some told =
    ap (λ (l : Level). option_map (at_level l) (piece_at view need.0.name)) need.3 ∙ ap (λ (m : List Label). option_map (at_level level) (piece_at view m)) need.2 ∙ ap (option_map (at_level level)) found in
    let is : IsPieceAt document told.name told = image_is (λ p. IsPieceAt document p.name p) (λ x. option_map (at_level x.level) (piece_at view x.name)) needs need.0 told h.agrees need.1 has in
    let named : told.name ≡ name = level_named level piece ∙ piece_named view name piece h.named found in
    let same : is.0 ≡ n = by is.0 (ap (node_at document) (sym named) ∙ is.1) in
    (sym (level_ids level piece) ∙ is.2 ∙ ap ids_of same, level_local level piece n (subst (λ (m : Node). IsLocalOf m told.full) same is.3))
  where
    by : (m : Node) → node_at document name ≡ Some m → m ≡ n
    by m there = let both : Some m ≡ Some n = sym there ∙ h.there in cc

-- the ids of the piece are the labels of the node's children
pub piece_ids : (document : Node) (view : Pieces) (needs : List Need) (name : List Label) (n : Node) (level : Level) (piece : Piece) → IsHeldAt document view needs name n → level_at needs name ≡ Some level → piece_at view name ≡ Some piece → piece.ids ≡ labels_of (children_of n)
piece_ids document view needs name n level piece h at found = (piece_of_node document view needs name n level piece h at found).0

met_at : (document : Node) (view : Pieces) (needs : List Need) (name : List Label) (n : Node) (level : Level) → IsHeldAt document view needs name n → level_at needs name ≡ Some level → meets_known level (view_of view name) ≡ true
met_at document view needs name n level h at =
    let need = level_from needs name level at in
    subst (λ (l : Level). meets_known l (view_of view name) ≡ true) need.3 (subst (λ (m : List Label). meets_known need.0.level (view_of view m) ≡ true) need.2 (h.met need.0 need.1))

told_is : (level : Level) (full : Option FullPart) (n : Node) (ids : List Label) → (level ≡ Full → IsLocalOf n full) → meets_known level (Some (record { ids = ids; local = option_map (λ (f : FullPart). f.local) full })) ≡ true → local_told level full ≡ local_held (Some level) (local_of n)
told_is Ids full n ids h m = refl
told_is Full None n ids h m = absurd (cc)
told_is Full (Some f) n ids h m = h refl

local_is : (document : Node) (view : Pieces) (needs : List Need) (name : List Label) (n : Node) (level : Level) (piece : Piece) → IsHeldAt document view needs name n → level_at needs name ≡ Some level → piece_at view name ≡ Some piece → local_told level piece.full ≡ local_held (level_at needs name) (local_of n)
local_is document view needs name n level piece h at found =
    told_is level piece.full n piece.ids (piece_of_node document view needs name n level piece h at found).1
    (subst (λ (o : Option Piece). meets_known level (option_map known_of o) ≡ true) found (met_at document view needs name n level h at))
    ∙ ap (λ (o : Option Level). local_held o (local_of n)) (sym at)

part_unheld : (needs : List Need) (name : List Label) (n : Node) (label : Label) → label_of n ≡ label → level_at needs name ≡ None → node label no_local no_nodes ≡ held_part needs name n
part_unheld needs name (node l local below) label same none = ap (λ (k : Label). node k no_local no_nodes) (sym same) ∙ ap (λ (o : Option Level). node l (local_held o local) (nodes_held o (held_below needs name below))) (sym none)

-- what has no need, or no piece, has nothing in it
pub part_untold : (document : Node) (view : Pieces) (needs : List Need) (name : List Label) (n : Node) (label : Label) (local : Local) → IsHeldAt document view needs name n → label_of n ≡ label → local ≡ no_local → (level_at needs name ≡ None) ⊎ (piece_at view name ≡ None)
    → node label local no_nodes ≡ held_part needs name n
part_untold document view needs name n label local h same empty untold = ap (λ (x : Local). node label x no_nodes) empty ∙ part_unheld needs name n label same (by (level_at needs name) refl untold)
  where
    by : (o : Option Level) → level_at needs name ≡ o → (level_at needs name ≡ None) ⊎ (piece_at view name ≡ None) → level_at needs name ≡ None
    by None at untold = at
    by (Some level) at (inl none) = none
    by (Some level) at (inr none) =
        let bad : meets_known level None ≡ true = subst (λ (o : Option Piece). meets_known level (option_map known_of o) ≡ true) none (met_at document view needs name n level h at) in
        absurd (cc)

none_right_below : (document : Node) (view : Pieces) (needs : List Need) (name : List Label) (l : Label) (local : Local) (below : Nodes) (levels : ℕ) → IsHeldAt document view needs name (node l local below) → levels ≡ room name → levels ≡ 0 → no_nodes ≡ below
none_right_below document view needs name l local below levels h r z =
    let n = node l local below in
    let stands = standing document name n h.is h.there in
    let left : stands.0 ≡ 0 = sym (room_is document name n stands.0 stands.1) ∙ sym r ∙ z in
    none_below document name below (subst (λ (k : ℕ). AllStand document name below k) left (children_stand document name l local below stands.0 stands.1))

-- at the last level a node has no children
pub part_last : (document : Node) (view : Pieces) (needs : List Need) (name : List Label) (n : Node) (label : Label) (local : Local) (level : Level) (piece : Piece) (levels : ℕ) → IsHeldAt document view needs name n → label_of n ≡ label → level_at needs name ≡ Some level → piece_at view name ≡ Some piece
    → local ≡ local_told level piece.full → levels ≡ room name → levels ≡ 0 → node label local no_nodes ≡ held_part needs name n
part_last document view needs name (node l own below) label local level piece levels h same at found told r z =
    let n = node l own below in
    ap (λ (k : Label). node k local no_nodes) (sym same)
    ∙ ap (λ (x : Local). node l x no_nodes) (told ∙ local_is document view needs name n level piece h at found)
    ∙ ap (λ (ms : Nodes). node l (local_held (level_at needs name) own) ms) (none (level_at needs name))
    ∙ ap (λ (ns : Nodes). node l (local_held (level_at needs name) own) (nodes_held (level_at needs name) (held_below needs name ns))) (none_right_below document view needs name l own below levels h r z)
  where
    none : (o : Option Level) → no_nodes ≡ nodes_held o no_nodes
    none None = refl
    none (Some k) = refl

-- ---- a tree that grows by its children

-- the tree so far: the node with the parts of its children up to one
pub record IsGrown (needs : List Need) (name : List Label) (n tree : Node) (i : ℕ) : Type 0 where
  pub children : children_of tree ≡ map (held_child needs name) (take i (children_of n))
  pub label : label_of tree ≡ label_of n
  pub local : local_of tree ≡ local_held (level_at needs name) (local_of n)

-- it begins with no child
pub grown_start : (document : Node) (view : Pieces) (needs : List Need) (name : List Label) (n : Node) (label : Label) (local : Local) (level : Level) (piece : Piece) → IsHeldAt document view needs name n → label_of n ≡ label → level_at needs name ≡ Some level → piece_at view name ≡ Some piece
    → local ≡ local_told level piece.full → IsGrown needs name n (node label local no_nodes) 0
grown_start document view needs name n label local level piece h same at found told = record {
  children = refl;
  label = sym same;
  local = told ∙ local_is document view needs name n level piece h at found;
}

-- the next child of a node, by its label: it is there in the document
pub record IsNext (document : Node) (view : Pieces) (needs : List Need) (name : List Label) (n : Node) (i : ℕ) (x : Label) : Type 0 where
  pub child : Node
  pub held : IsHeldAt document view needs (name ++ x ∷ []) child
  pub label : label_of child ≡ x
  pub before : AreBefore (labels_of (take i (children_of n))) x
  pub taken : take (i + 1) (children_of n) ≡ take i (children_of n) ++ child ∷ []

equal_labels : (l x : Label) → l ≡ x → label_cmp l x ≡ Equal
equal_labels l x h = ap (label_cmp l) (sym h) ∙ label_self l

-- the label at a place among the ids is that of the child there
pub next_child : (document : Node) (view : Pieces) (needs : List Need) (name : List Label) (n : Node) (ids : List Label) (i : ℕ) (x d : Label) → IsHeldAt document view needs name n → ids ≡ labels_of (children_of n) → i < length ids → x ≡ get_or ids i d → IsNext document view needs name n i x
next_child document view needs name n ids i x d h same lt is =
    let ns = children_of n in
    let c = get_or ns i n in
    let within : i < length (labels_of ns) = subst (λ (ls : List Label). i < length ls) same lt in
    let inside : i < length ns = subst (λ (k : ℕ). i < k) (length-map ns label_of) within in
    let label_is : label_of c ≡ x = sym (label_here ns i d n within) ∙ ap (λ (ls : List Label). get_or ls i d) (sym same) ∙ sym is in
    let stands = standing document name n h.is h.there in
    let rise = labels_rise n stands.1.ordered in
    let found : child_of x ns ≡ Some c = found_at ns x i n rise inside (equal_labels (label_of c) x label_is) in
    record {
      child = c;
      held = record { is = h.is; named = h.named; agrees = h.agrees; met = h.met; there = child_at document name x n h.there ∙ found };
      label = label_is;
      before = subst (λ (l : Label). AreBefore (labels_of (take i ns)) l) label_is (labels_before ns i n rise inside);
      taken = rw add-one (take-suc ns i n inside);
    }

-- the labels of the tree so far are less than that of the part of the next child
pub grown_before : (document : Node) (view : Pieces) (needs : List Need) (name : List Label) (n tree below : Node) (i : ℕ) (x : Label) → IsGrown needs name n tree i → (next : IsNext document view needs name n i x) → below ≡ held_part needs (name ++ x ∷ []) next.child
    → AreBefore (labels_of (children_of tree)) (label_of below)
grown_before document view needs name n tree below i x g next is =
    let label_is : label_of below ≡ x = ap label_of is ∙ held_label needs (name ++ x ∷ []) next.child ∙ next.label in
    subst (λ (l : Label). AreBefore (labels_of (children_of tree)) l) (sym label_is) (subst (λ (ls : List Label). AreBefore ls x) (sym (ap labels_of g.children ∙ part_labels needs name (take i (children_of n)))) next.before)

-- one child more
pub grown_more : (document : Node) (view : Pieces) (needs : List Need) (name : List Label) (n tree after below : Node) (i : ℕ) (x : Label) → IsGrown needs name n tree i → (next : IsNext document view needs name n i x) → below ≡ held_part needs (name ++ x ∷ []) next.child
    → children_of after ≡ children_of tree ++ below ∷ [] → label_of after ≡ label_of tree → local_of after ≡ local_of tree → IsGrown needs name n after (i + 1)
grown_more document view needs name n tree after below i x g next is c l m =
    let part : below ≡ held_child needs name next.child = is ∙ ap (λ (k : Label). held_part needs (name ++ k ∷ []) next.child) (sym next.label) in
    record {
      children = c ∙ ap (λ (ns : List Node). ns ++ below ∷ []) g.children ∙ ap (λ (b : Node). map (held_child needs name) (take i (children_of n)) ++ b ∷ []) part
          ∙ sym (map-append (held_child needs name) (take i (children_of n)) (next.child ∷ [])) ∙ ap (map (held_child needs name)) (sym next.taken);
      label = l ∙ g.label;
      local = m ∙ g.local;
    }

-- after the last child the tree is the part
pub grown_done : (needs : List Need) (name : List Label) (n tree : Node) (ids : List Label) (level : Level) (i : ℕ) → level_at needs name ≡ Some level → ids ≡ labels_of (children_of n) → length ids ≤ i → IsGrown needs name n tree i → tree ≡ held_part needs name n
grown_done needs name (node l local below) tree ids level i at same h g =
    let inside : length (list_of below) ≤ i = subst (λ (k : ℕ). k ≤ i) (ap length same ∙ length-map (list_of below) label_of) h in
    let whole : children_of tree ≡ list_of (held_below needs name below) = g.children ∙ ap (map (held_child needs name)) (take_all i (list_of below) inside) ∙ sym (children_held needs name below) in
    sym (node_parts tree)
    ∙ ap (λ (k : Label). node k (local_of tree) (nodes_of (children_of tree))) g.label
    ∙ ap (λ (x : Local). node l x (nodes_of (children_of tree))) g.local
    ∙ ap (λ (ns : List Node). node l (local_held (level_at needs name) local) (nodes_of ns)) whole
    ∙ ap (node l (local_held (level_at needs name) local)) (nodes_of-list_of (held_below needs name below) ∙ ap (λ (o : Option Level). nodes_held o (held_below needs name below)) (sym at))

-- one level less is below a child
pub room_of_child : (levels : ℕ) (name : List Label) (l : Label) → levels ≡ room name → levels - 1 ≡ room (name ++ l ∷ [])
unfolding room
room_of_child levels name l h = omega (arith, h, length-append name (l ∷ []))
