-- Fragments hold copies, whatever is done to them.
use Rattle.std.proofs.Common.{◌≡◌, ℕ, ◌≤◌, Bool, true, false, cond, if◌then◌else◌, List, [], Option, Some, None, IfSome, option_map, refl, sym, ◌∙◌, ap, subst}
use Rattle.std.proofs.lemmas.Map.{keys-set_value}
use Rattle.std.specs.Cmp.Lexicographic.{pointwise, slice_cmp}
use Rattle.std.specs.List.Sorted.{IsStrictlySortedBy}
use Rattle.iris_base.specs.NameOrder.{label_cmp, label_eq, names_equiv, names_total}
use Rattle.iris_base.specs.declared.name.Label.{Label}
use Rattle.iris_tree.specs.Universe.{Node, label_of}
use Rattle.iris_tree.specs.declared.change.Change.{Change}
use Rattle.iris_tree.specs.declared.local.Local.{Local}
use Rattle.iris_fragment.specs.Changes.{with_node, without_node, with_part, with_part_in, joined_part, takes, after_taking, taken_at, has_child, evicted, owned, owned_by, changed_in, renewed, renewed_part, released, released_part, own_version, part_in, version_at}
use Rattle.iris_fragment.specs.Contents.{Nodes, Contents, held_at, has_place}
use Rattle.iris_fragment.specs.Shape.{HaveRisingNames, HaveIdsOf, IsPieceOf}
use Rattle.iris_fragment.specs.declared.held.HeldNode.{HeldNode}
use Rattle.iris_fragment.specs.declared.held.Part.TheVariants.{Own, Copied, Bare}
use Rattle.iris_fragment.specs.declared.held.Part.{Part}
use Rattle.iris_fragment.specs.declared.piece.Full.{Full}
use Rattle.iris_fragment.specs.declared.piece.Piece.{Piece}
use Rattle.iris_fragment.proofs.Names.{alike_exact}
use Rattle.iris_fragment.proofs.NodeChanges.{look_up_put, look_up_left_out, look_up_replaced, ids_node, ids_part, ids_without}
use Rattle.iris_book.specs.Book.{History, with_entry, MayBeEntered}
use Rattle.iris_book.specs.Entering.{updates_by, without_answers}
use Rattle.iris_book.specs.declared.entry.Entry.TheVariants.{Updated, Gave, Answered}
use Rattle.iris_book.specs.declared.entry.Entry.{Entry}
use Rattle.iris_gather.proofs.Rising.{sorted_put, sorted_removed}
use Rattle.iris_copies.specs.Copies.{IsPresent, ComesAt, WasHeld, IsCopy, IsNewest, IsPartAt, HoldsCopies, IsElsewhere}
use Rattle.iris_copies.proofs.Times.{newest_forgotten, forgotten_goes_on, was_held_later, was_held_entry, newest_held, newest_stays, newest_made}

-- ---- names stay in order

ordered_part : (o : Option HeldNode) (nodes : Nodes) (name : List Label) (part : Part) → HaveRisingNames nodes → HaveRisingNames (with_part_in o nodes name part)
ordered_part None nodes name part ordered = ordered
ordered_part (Some node) nodes name part ordered = subst (λ (names : List (List Label)). IsStrictlySortedBy (slice_cmp label_cmp) names) (sym (keys-set_value _ nodes (record { ids = node.ids; part = part }))) ordered

ordered_taken : (o : Option HeldNode) (nodes : Nodes) (piece : Piece) → HaveRisingNames nodes → HaveRisingNames (taken_at o nodes piece)
ordered_taken None nodes piece ordered = sorted_put names_total nodes piece.name (record { ids = piece.ids; part = joined_part Bare piece.full }) ordered
ordered_taken (Some node) nodes piece ordered = ordered_part (held_at nodes piece.name) nodes piece.name (joined_part node.part piece.full) ordered

-- ---- what changes one node

-- what is beside the ids of each held node is so
abbrev HaveParts : History → ℕ → Nodes → Type 0
HaveParts h now nodes = (name : List Label) (node : HeldNode) → held_at nodes name ≡ Some node → IsPartAt h now name node.part

put_node : (h : History) (now : ℕ) (nodes : Nodes) (name : List Label) (v : HeldNode) → IsPartAt h now name v.part → HaveParts h now nodes → HaveParts h now (with_node nodes name v)
put_node h now nodes name v right parts n node at = either _ refl (sym (look_up_put nodes name n v) ∙ at)
  where
    either : (b : Bool) → pointwise label_eq name n ≡ b → cond b (Some v) (held_at nodes n) ≡ Some node → IsPartAt h now n node.part
    either true same found =
        let is : v ≡ node = cc in
        subst (λ (m : List Label). IsPartAt h now m node.part) (alike_exact name n same) (subst (λ (w : HeldNode). IsPartAt h now name w.part) is right)
    either false other found = parts n node found

leave_out : (h : History) (now : ℕ) (nodes : Nodes) (name : List Label) → HaveRisingNames nodes → HaveParts h now nodes → HaveParts h now (without_node nodes name)
leave_out h now nodes name ordered parts n node at = either (pointwise label_eq name n) (sym (look_up_left_out nodes name n ordered) ∙ at)
  where
    either : (b : Bool) → cond b None (held_at nodes n) ≡ Some node → IsPartAt h now n node.part
    either true found = absurd (cc)
    either false found = parts n node found

put_part : (h : History) (now : ℕ) (nodes : Nodes) (name : List Label) (part : Part) → ((old : HeldNode) → held_at nodes name ≡ Some old → IsPartAt h now name part) → HaveParts h now nodes → HaveParts h now (with_part nodes name part)
put_part h now nodes name part right parts n node at = either _ refl (sym (look_up_replaced nodes name n part) ∙ at)
  where
    there : (o : Option HeldNode) → held_at nodes name ≡ o → option_map (λ (old : HeldNode). record { ids = old.ids; part = part }) o ≡ Some node → IsPartAt h now name node.part
    there None is found = absurd (cc)
    there (Some old) is found =
        let same : record { ids = old.ids; part = part } ≡ node = cc in
        subst (λ (w : HeldNode). IsPartAt h now name w.part) same (right old is)

    either : (b : Bool) → pointwise label_eq name n ≡ b → cond b (option_map (λ (old : HeldNode). record { ids = old.ids; part = part }) (held_at nodes name)) (held_at nodes n) ≡ Some node → IsPartAt h now n node.part
    either true same found = subst (λ (m : List Label). IsPartAt h now m node.part) (alike_exact name n same) (there (held_at nodes name) refl found)
    either false other found = parts n node found

-- ---- taking in

joined_is : (h : History) (now : ℕ) (name : List Label) (part : Part) (o : Option Full) → IsPartAt h now name part → IfSome o (WasHeld h now name) → IsPartAt h now name (joined_part part o)
joined_is h now name part None was full = was
joined_is h now name part (Some full) was new = either (takes part full)
  where
    either : (b : Bool) → IsPartAt h now name (if b then Copied full else part)
    either true = new
    either false = was

taken_parts : (h : History) (now : ℕ) (nodes : Nodes) (piece : Piece) (o : Option HeldNode) → held_at nodes piece.name ≡ o → IsCopy h now piece → HaveParts h now nodes → HaveParts h now (taken_at o nodes piece)
taken_parts h now nodes piece None at is parts = put_node h now nodes piece.name (record { ids = piece.ids; part = joined_part Bare piece.full }) (joined_is h now piece.name Bare piece.full tt is.full) parts
taken_parts h now nodes piece (Some node) at is parts =
    put_part h now nodes piece.name (joined_part node.part piece.full) (λ old there. joined_is h now piece.name node.part piece.full (parts piece.name node at) is.full) parts

taken_ids : (city : Node) (nodes : Nodes) (piece : Piece) (o : Option HeldNode) → IsPieceOf city piece → HaveIdsOf city nodes → HaveIdsOf city (taken_at o nodes piece)
taken_ids city nodes piece None is ids = ids_node city nodes piece.name (record { ids = piece.ids; part = joined_part Bare piece.full }) is ids
taken_ids city nodes piece (Some node) is ids = ids_part city nodes piece.name (joined_part node.part piece.full) ids

pub taken_holds : (h : History) (now : ℕ) (f : Contents) (piece : Piece) → IsCopy h now piece → HoldsCopies h now f → HoldsCopies h now (after_taking f piece)
taken_holds h now f piece is holds = either (has_place f.nodes piece.name)
  where
    either : (b : Bool) → HoldsCopies h now (record f { nodes = if b then taken_at (held_at f.nodes piece.name) f.nodes piece else f.nodes })
    either true = record {
      ordered = ordered_taken (held_at f.nodes piece.name) f.nodes piece holds.ordered;
      city = record { top = holds.city.top; ids = taken_ids h.start f.nodes piece (held_at f.nodes piece.name) is.ids holds.city.ids };
      parts = taken_parts h now f.nodes piece (held_at f.nodes piece.name) refl is holds.parts;
    }
    either false = holds

-- ---- eviction

pub evicted_holds : (h : History) (now : ℕ) (f : Contents) (name : List Label) → HoldsCopies h now f → HoldsCopies h now (evicted f name)
evicted_holds h now f name holds = either (has_child f.nodes name)
  where
    either : (b : Bool) → HoldsCopies h now (record f { nodes = if b then with_part f.nodes name Bare else without_node f.nodes name })
    either true = record {
      ordered = ordered_part (held_at f.nodes name) f.nodes name Bare holds.ordered;
      city = record { top = holds.city.top; ids = ids_part h.start f.nodes name Bare holds.city.ids };
      parts = put_part h now f.nodes name Bare (λ old there. tt) holds.parts;
    }
    either false = record {
      ordered = sorted_removed (slice_cmp label_cmp) _ f.nodes holds.ordered;
      city = record { top = holds.city.top; ids = ids_without h.start f.nodes name holds.ordered holds.city.ids };
      parts = leave_out h now f.nodes name holds.ordered holds.parts;
    }

-- ---- what is owned

-- the newest value of a node comes into a fragment, with the ids of the node
pub owned_holds : (h : History) (now : ℕ) (f : Contents) (piece : Piece) → IsPieceOf h.start piece → IfSome piece.full (λ full. IsNewest h piece.name full.local full.version) → HoldsCopies h now f → HoldsCopies h now (owned f piece)
owned_holds h now f piece is newest_is holds = by piece.full newest_is
  where
    by : (o : Option Full) → IfSome o (λ full. IsNewest h piece.name full.local full.version) → HoldsCopies h now (owned_by o f piece)
    by None new = holds
    by (Some full) new =
        let node : HeldNode = record { ids = piece.ids; part = Own full.local full.version } in
        record {
          ordered = sorted_put names_total f.nodes piece.name node holds.ordered;
          city = record { top = holds.city.top; ids = ids_node h.start f.nodes piece.name node is holds.city.ids };
          parts = put_node h now f.nodes piece.name node new holds.parts;
        }

-- one part is changed
changed_holds : (h : History) (now : ℕ) (f : Contents) (name : List Label) (change : Part → Part) → ((old : HeldNode) → held_at f.nodes name ≡ Some old → IsPartAt h now name (change old.part)) → HoldsCopies h now f
    → HoldsCopies h now (record f { nodes = changed_in (held_at f.nodes name) change f.nodes name })
changed_holds h now f name change right holds = by (held_at f.nodes name) refl
  where
    by : (o : Option HeldNode) → held_at f.nodes name ≡ o → HoldsCopies h now (record f { nodes = changed_in o change f.nodes name })
    by None at = holds
    by (Some node) at = record {
      ordered = ordered_part (held_at f.nodes name) f.nodes name (change node.part) holds.ordered;
      city = record { top = holds.city.top; ids = ids_part h.start f.nodes name (change node.part) holds.city.ids };
      parts = put_part h now f.nodes name (change node.part) (λ old there. right node at) holds.parts;
    }

-- an owned node is given away, and a copy stays, stamped with the present moment
pub released_holds : (h : History) (now : ℕ) (f : Contents) (name : List Label) → IsPresent h now → HoldsCopies h now f → HoldsCopies h now (released f name now)
released_holds h now f name is holds = changed_holds h now f name (released_part now) (λ old there. by old.part (holds.parts name old there)) holds
  where
    by : (part : Part) → IsPartAt h now name part → IsPartAt h now name (released_part now part)
    by (Own local version) was = newest_held h now name local version is was
    by (Copied full) was = was
    by Bare was = tt

-- ---- time passes, and the book grows

pub holds_later : (h : History) (now at : ℕ) (f : Contents) → now ≤ at → HoldsCopies h now f → HoldsCopies h at f
holds_later h now at f later holds = record { ordered = holds.ordered; city = holds.city; parts = λ name node there. by name node.part (holds.parts name node there) }
  where
    by : (name : List Label) (part : Part) → IsPartAt h now name part → IsPartAt h at name part
    by name (Own local version) was = was
    by name (Copied full) was = was_held_later h now at name full later was
    by name Bare was = tt

part_entry : (h : History) (now : ℕ) (e : Entry) (name : List Label) (part : Part) → ComesAt now e → ((local : Local) (version : ℕ) → part ≡ Own local version → updates_by e name ≡ 0) → IsPartAt h now name part → IsPartAt (with_entry h e) now name part
part_entry h now e name (Own local version) comes other was = newest_stays h e name local version (other local version refl) was
part_entry h now e name (Copied full) comes other was = was_held_entry h now e name full comes was
part_entry h now e name Bare comes other was = tt

-- an update of a node is none of another
elsewhere : (f : Contents) (e : Entry) → IsElsewhere f e → (name : List Label) (node : HeldNode) → held_at f.nodes name ≡ Some node → (local : Local) (version : ℕ) → node.part ≡ Own local version → updates_by e name ≡ 0
elsewhere f (Gave other to epoch) out name node at local version own = refl
elsewhere f (Answered request query floor cites) out name node at local version own = refl
elsewhere f (Updated other number changes new moment) out name node at local version own = by (pointwise label_eq name other) refl
  where
    one : Bool → ℕ
    one b = if b then 1 else 0

    by : (b : Bool) → pointwise label_eq name other ≡ b → one b ≡ 0
    by false apart = refl
    by true same =
        let here : version_at f other ≡ Some version =
        ap (λ (n : List Label). version_at f n) (sym (alike_exact name other same)) ∙ ap (λ (o : Option HeldNode). own_version (part_in o)) at ∙ ap own_version own in
        let bad : None ≡ Some version = sym out ∙ here in
        absurd (cc)

-- an entry that updates no node that the fragment owns
pub entry_holds : (h : History) (now : ℕ) (e : Entry) (f : Contents) → ComesAt now e → IsElsewhere f e → HoldsCopies h now f → HoldsCopies (with_entry h e) now f
entry_holds h now e f comes out holds = record {
  ordered = holds.ordered;
  city = holds.city;
  parts = λ name node there. part_entry h now e name node.part comes (elsewhere f e out name node there) (holds.parts name node there);
}

-- an update of a node that the fragment owns, once the fragment has the new value
pub renewed_holds : (h : History) (now : ℕ) (name : List Label) (number : ℕ) (changes : List Change) (local : Local) (f : Contents) → IsPresent h now → MayBeEntered h (Updated name number changes local now)
    → HoldsCopies h now f → HoldsCopies (with_entry h (Updated name number changes local now)) now (renewed f name local)
renewed_holds h now name number changes local f is may holds = by (held_at f.nodes name) refl
  where
    e : Entry
    e = Updated name number changes local now

    other : (n : List Label) → pointwise label_eq name n ≡ false → updates_by e n ≡ 0
    other n apart = ap {B = ℕ} (λ (b : Bool). if b then 1 else 0) (names_equiv.symm n name ∙ apart)

    renewed_is : (part : Part) → IsPartAt h now name part → IsPartAt (with_entry h e) now name (renewed_part local part)
    renewed_is (Own old version) was = newest_made h now name number changes local now version is may refl was.version_is
    renewed_is (Copied full) was = was_held_entry h now e name full refl was
    renewed_is Bare was = tt

    by : (o : Option HeldNode) → held_at f.nodes name ≡ o → HoldsCopies (with_entry h e) now (record f { nodes = changed_in o (renewed_part local) f.nodes name })
    by None at = record {
      ordered = holds.ordered;
      city = holds.city;
      parts = λ n node there. part_entry h now e n node.part refl (λ old version own. other n (apart n node there)) (holds.parts n node there);
    }
      where
        apart : (n : List Label) (node : HeldNode) → held_at f.nodes n ≡ Some node → pointwise label_eq name n ≡ false
        apart n node there = either (pointwise label_eq name n) refl
          where
            either : (b : Bool) → pointwise label_eq name n ≡ b → b ≡ false
            either false q = refl
            either true q =
                let bad : None ≡ Some node = sym at ∙ ap (λ (m : List Label). held_at f.nodes m) (alike_exact name n q) ∙ there in
                absurd (cc)
    by (Some old) at = record {
      ordered = ordered_part (held_at f.nodes name) f.nodes name (renewed_part local old.part) holds.ordered;
      city = record { top = holds.city.top; ids = ids_part h.start f.nodes name (renewed_part local old.part) holds.city.ids };
      parts = λ n node there. either n node (pointwise label_eq name n) refl (sym (look_up_replaced f.nodes name n (renewed_part local old.part)) ∙ there);
    }
      where
        either : (n : List Label) (node : HeldNode) (b : Bool) → pointwise label_eq name n ≡ b → cond b (option_map (λ (v : HeldNode). record { ids = v.ids; part = renewed_part local old.part }) (held_at f.nodes name)) (held_at f.nodes n) ≡ Some node → IsPartAt (with_entry h e) now n node.part
        either n node true q found =
            let here : Some (record { ids = old.ids; part = renewed_part local old.part }) ≡ Some node = sym (ap (λ (o : Option HeldNode). option_map (λ (v : HeldNode). record { ids = v.ids; part = renewed_part local old.part }) o) at) ∙ found in
            let same : record { ids = old.ids; part = renewed_part local old.part } ≡ node = cc in
            subst (λ (m : List Label). IsPartAt (with_entry h e) now m node.part) (alike_exact name n q)
            (subst (λ (w : HeldNode). IsPartAt (with_entry h e) now name w.part) same (renewed_is old.part (holds.parts name old at)))
        either n node false q found = part_entry h now e n node.part refl (λ old version own. other n q) (holds.parts n node found)

-- once answers are forgotten
pub forgotten_holds : (h : History) (now : ℕ) (f : Contents) → HoldsCopies h now f → HoldsCopies (without_answers h) now f
forgotten_holds h now f holds = record { ordered = holds.ordered; city = holds.city; parts = λ name node there. by name node.part (holds.parts name node there) }
  where
    by : (name : List Label) (part : Part) → IsPartAt h now name part → IsPartAt (without_answers h) now name part
    by name (Own local version) was = newest_forgotten h name local version was
    by name (Copied full) was = (forgotten_goes_on h now).held name full was
    by name Bare was = tt

-- ---- the start

-- a fragment that holds nothing
pub nothing_held : (h : History) (now : ℕ) → HoldsCopies h now (record { top = label_of h.start; nodes = [] })
unfolding IsStrictlySortedBy
nothing_held h now = record {
  ordered = tt;
  city = record { top = refl; ids = λ name node there. absurd (cc) };
  parts = λ name node there. absurd (cc);
}
