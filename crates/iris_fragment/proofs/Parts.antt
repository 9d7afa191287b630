-- Parts that stay as they are.
use Rattle.std.proofs.Common.{◌≡◌, ℕ, map, Bool, true, false, cond, if◌then◌else◌, List, [], ◌∷◌, ◌++◌, Option, Some, None, is_some, option_map, refl, sym, ap, ◌∙◌}
use Rattle.std.specs.declared.cmp.Ordering.{Ordering}
use Rattle.std.specs.Ordering.{is_eq}
use Rattle.std.specs.List.{list_any, filter_map, cons_option}
use Rattle.std.proofs.lemmas.List.Elements.{filter_map-append}
use Rattle.std.specs.Map.{set_value, keys_of}
use Rattle.std.specs.BTreeMap.{is_at}
use Rattle.std.specs.Cmp.Lexicographic.{slice_cmp}
use Rattle.std.proofs.lemmas.Map.Steps.{set_value_same}
use Rattle.iris_base.specs.declared.name.Label.{Label}
use Rattle.iris_base.specs.NameOrder.{label_eq, label_cmp}
use Rattle.iris_fragment.specs.declared.held.HeldNode.{HeldNode}
use Rattle.iris_fragment.specs.declared.held.Part.{Part}
use Rattle.iris_fragment.specs.declared.held.Part.TheVariants.{Own, Copied, Bare}
use Rattle.iris_fragment.specs.declared.piece.Full.{Full}
use Rattle.iris_fragment.specs.declared.piece.Piece.{Piece}
use Rattle.iris_fragment.specs.Contents.{Nodes, Contents, held_at, is_held, has_place, is_listed, listed_above, listed_at}
use Rattle.std.specs.Prelude.{option_and_then, option_to_list}
use Rattle.iris_fragment.specs.declared.piece.Level.TheVariants as level
use Rattle.iris_fragment.specs.Usable.{is_usable, piece_of, usable_piece}
use Rattle.iris_fragment.specs.Changes.{replaced, with_part, with_part_in, part_in, takes_any, joined_part, after_taking, taken_at, changed, changed_in}
use Rattle.iris_fragment.proofs.Names.{name_self, cut_last}
use Rattle.iris_fragment.proofs.NodeChanges.{held-replaced}

same_part_in : (nodes : Nodes) (name : List Label) (o : Option HeldNode) → held_at nodes name ≡ o → with_part_in o nodes name (part_in o) ≡ nodes
same_part_in nodes name None h = refl
same_part_in nodes name (Some node) h = set_value_same _ nodes node h

-- a part put where it is
pub same_part : (nodes : Nodes) (name : List Label) → with_part nodes name (part_in (held_at nodes name)) ≡ nodes
same_part nodes name = same_part_in nodes name (held_at nodes name) refl

not_joined : (part : Part) (o : Option Full) → takes_any part o ≡ false → joined_part part o ≡ part
not_joined part None h = refl
not_joined part (Some full) h = rw h refl

-- a full part that is not placed
pub not_placed : (nodes : Nodes) (name : List Label) (o : Option Full) → takes_any (part_in (held_at nodes name)) o ≡ false → nodes ≡ with_part nodes name (joined_part (part_in (held_at nodes name)) o)
not_placed nodes name o h = sym (same_part nodes name) ∙ ap (λ (part : Part). with_part nodes name part) (sym (not_joined (part_in (held_at nodes name)) o h))

-- ---- whole fragments

-- a label is listed above a name
pub listed_last : (f : Contents) (above : List Label) (label : Label) → is_listed f (above ++ label ∷ []) ≡ list_any (λ listed. label_eq listed label) (listed_at f above)
listed_last f above label = ap (listed_above f) (cut_last above label)

-- a piece of a held node changes its part alone
pub taken_at_held : (o : Option HeldNode) (nodes : Nodes) (piece : Piece) → is_some o ≡ true → taken_at o nodes piece ≡ with_part nodes piece.name (joined_part (part_in o) piece.full)
taken_at_held None nodes piece h = absurd (cc)
taken_at_held (Some node) nodes piece h = refl

-- a piece of a held node was taken in
pub taken_held : (top : Label) (old new : Nodes) (now : Contents) (piece : Piece) → record { top = top; nodes = old } ≡ now → has_place old piece.name ≡ true → is_held old piece.name ≡ true
    → new ≡ with_part old piece.name (joined_part (part_in (held_at old piece.name)) piece.full) → record { top = top; nodes = new } ≡ after_taking now piece
taken_held top old new now piece is place held after =
    let inside : new ≡ (if has_place old piece.name then taken_at (held_at old piece.name) old piece else old) = rw place (after ∙ sym (taken_at_held (held_at old piece.name) old piece held)) in
    ap (λ (ns : Nodes). record { top = top; nodes = ns }) inside ∙ ap (λ (f : Contents). after_taking f piece) is

-- ---- what was owned

put_twice_first : (b : Bool) (test : List Label → Bool) (v w : HeldNode) (e : List Label × HeldNode) (es : Nodes) → test e.0 ≡ b → set_value test (set_value test es v) w ≡ set_value test es w
    → set_value test (cond b ((e.0, v) ∷ es) (e ∷ set_value test es v)) w ≡ cond b ((e.0, w) ∷ es) (e ∷ set_value test es w)
put_twice_first true test v w e es at h = rw at refl
put_twice_first false test v w e es at h = rw at (ap (λ (ns : Nodes). e ∷ ns) h)

-- the later of two nodes put under one name stays
pub put_twice : (test : List Label → Bool) (v w : HeldNode) (es : Nodes) → set_value test (set_value test es v) w ≡ set_value test es w
put_twice test v w [] = refl
put_twice test v w (e ∷ es) = put_twice_first (test e.0) test v w e es refl (put_twice test v w es)

part_twice_in : (nodes : Nodes) (name : List Label) (p q : Part) (o : Option HeldNode) → held_at nodes name ≡ o → with_part (with_part_in o nodes name p) name q ≡ with_part_in o nodes name q
part_twice_in nodes name p q None h = ap (λ (o : Option HeldNode). with_part_in o nodes name q) h
part_twice_in nodes name p q (Some node) h =
    let put : HeldNode = record { ids = node.ids; part = p } in
    let there : held_at (replaced nodes name put) name ≡ Some put =
    held-replaced nodes name put name (ap (λ (o : Option HeldNode). is_some o) h) ∙ ap (λ (r : Ordering). cond (is_eq r) (Some put) (held_at nodes name)) (name_self name) in
    ap (λ (o : Option HeldNode). with_part_in o (replaced nodes name put) name q) there ∙ put_twice (is_at (slice_cmp label_cmp name)) put (record { ids = node.ids; part = q }) nodes

-- of two parts that are put one after another the later stays
pub part_twice : (nodes : Nodes) (name : List Label) (p q : Part) → with_part (with_part nodes name p) name q ≡ with_part nodes name q
part_twice nodes name p q = part_twice_in nodes name p q (held_at nodes name) refl

-- one part put after another, under names that are one
pub part_then : (old mid new : Nodes) (m n name : List Label) (p q : Part) → m ≡ name → n ≡ name → mid ≡ with_part old m p → new ≡ with_part mid n q → new ≡ with_part old name q
part_then old mid new m n name p q first second put then_put =
    then_put ∙ rw (put, first, second) (part_twice old name p q)

changed_part_in : (change : Part → Part) (nodes : Nodes) (name : List Label) (part : Part) (o : Option HeldNode) → option_map (λ node. node.part) o ≡ Some part
    → changed_in o change nodes name ≡ with_part nodes name (change part)
changed_part_in change nodes name part None h = absurd (cc)
changed_part_in change nodes name part (Some node) h =
    let is : node.part ≡ part = cc in
    ap (λ (p : Part). with_part nodes name (change p)) is

-- a change of what is beside the ids
pub changed_part : (change : Part → Part) (top : Label) (old new : Nodes) (now : Contents) (name : List Label) (part : Part) → record { top = top; nodes = old } ≡ now
    → option_map (λ node. node.part) (held_at old name) ≡ Some part → new ≡ with_part old name (change part) → record { top = top; nodes = new } ≡ changed change now name
changed_part change top old new now name part is was after =
    ap (λ (ns : Nodes). record { top = top; nodes = ns }) (after ∙ sym (changed_part_in change old name part (held_at old name) was)) ∙ ap (λ (f : Contents). changed change f name) is

-- ---- pieces

last_piece : (o : Option Piece) → cons_option o [] ≡ option_to_list o
last_piece None = refl
last_piece (Some piece) = refl

-- one more node, whose piece is added, if it has one
pub one_more_piece : (h : List Label × HeldNode → Option Piece) (nodes : Nodes) (e : List Label × HeldNode) (pieces : List Piece) (o : Option Piece) → o ≡ h e → pieces ≡ filter_map h nodes
    → pieces ++ option_to_list o ≡ filter_map h (nodes ++ e ∷ [])
one_more_piece h nodes e pieces o is so_far =
    let last : filter_map h (e ∷ []) ≡ option_to_list o = rw (← is) (last_piece o) in
    rw so_far (sym (filter_map-append h nodes (e ∷ []) ∙ ap (λ (ps : List Piece). filter_map h nodes ++ ps) last))

named_piece : (floor now : ℕ) (e : List Label × HeldNode) (part : Part) (full : Bool) → is_usable part level.Full floor ≡ full
    → option_map (λ piece. piece.name) (option_and_then (λ level. piece_of e.0 (record { ids = e.1.ids; part = part }) level now) (if full then Some level.Full else Some level.Ids)) ≡ Some e.0
named_piece floor now e (Own local version) true h = refl
named_piece floor now e (Own local version) false h = refl
named_piece floor now e (Copied full) true h = refl
named_piece floor now e (Copied full) false h = refl
named_piece floor now e Bare true h = absurd (cc)
named_piece floor now e Bare false h = refl

one_name_more : (o : Option Piece) (name : List Label) (pieces : List Piece) (names : List (List Label)) → option_map (λ piece. piece.name) o ≡ Some name → map (λ piece. piece.name) pieces ≡ names
    → map (λ piece. piece.name) (cons_option o pieces) ≡ name ∷ names
one_name_more None name pieces names h k = absurd (cc)
one_name_more (Some piece) name pieces names h k =
    let same : piece.name ≡ name = cc in
    rw (same, k) refl

-- each held node has a piece
pub names_of_pieces : (floor now : ℕ) (nodes : Nodes) → map (λ piece. piece.name) (filter_map (usable_piece floor now) nodes) ≡ keys_of nodes
names_of_pieces floor now [] = refl
names_of_pieces floor now (e ∷ nodes) =
    one_name_more (usable_piece floor now e) e.0 (filter_map (usable_piece floor now) nodes) (keys_of nodes) (named_piece floor now e e.1.part _ refl) (names_of_pieces floor now nodes)
