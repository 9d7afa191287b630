-- The pieces with which an agent begins find their places: a node's piece stands in front of those of the nodes below it.
use Rattle.std.proofs.Common.{◌≡◌, Bool, true, false, cond, if◌then◌else◌, is_some, List, [], ◌∷◌, ◌++◌, fold, Option, Some, None, refl, sym, ◌∙◌, ap}
use Rattle.std.specs.Cmp.Lexicographic.{pointwise}
use Rattle.iris_base.specs.declared.name.Label.{Label}
use Rattle.iris_base.specs.NameOrder.{label_eq, names_equiv}
use Rattle.iris_tree.specs.Universe.{Node, node, Nodes, no_nodes, nodes, list_of, labels_of}
use Rattle.iris_fragment.specs.declared.held.HeldNode.{HeldNode}
use Rattle.iris_fragment.specs.declared.held.Part.TheVariants.{Own, Bare}
use Rattle.iris_fragment.specs.declared.piece.Full.{Full}
use Rattle.iris_fragment.specs.declared.piece.Piece.{Piece}
use Rattle.iris_fragment.specs.Changes.{with_node, after_taking, taken_at, joined_part, owned, owned_by}
use Rattle.iris_fragment.specs.Contents.{Nodes as Held, Contents, held_at, is_held, stands, has_place}
use Rattle.iris_fragment.proofs.AfterTaking.{held_then}
use Rattle.iris_fragment.proofs.Children.{held_last, place_last}
use Rattle.iris_fragment.proofs.NodeChanges.{look_up_put, held-part}
use Rattle.iris_cache.specs.Order.{in_front as used_now}
use Rattle.iris_cache.specs.Recency.{Cache, taken_by, trimmed, owned_in}
use Rattle.iris_cache.proofs.Completeness.{ids_not_placed}
use Rattle.iris_agent.specs.Starts.{AreBegun, piece_begun}
use Rattle.iris_start.specs.Pieces.{in_front, pieces_at, pieces_among}
use Rattle.iris_start.proofs.Caches.{none_full}

-- what is held is held still, and so is the node of that name
record HoldsAlso (old new : Held) (name : List Label) : Type 0 where
  still : (q : List Label) → is_held old q ≡ true → is_held new q ≡ true
  also : is_held new name ≡ true

put_also : (held : Held) (name : List Label) (v : HeldNode) → HoldsAlso held (with_node held name v) name
put_also held name v = record {
  still = λ q h. ap (λ (o : Option HeldNode). is_some o) (look_up_put held name q v) ∙ either (pointwise label_eq name q) (held_at held q) h;
  also = ap (λ (o : Option HeldNode). is_some o) (look_up_put held name name v) ∙ ap (λ (b : Bool). is_some (cond b (Some v) (held_at held name))) (names_equiv.refl name);
}
  where
    either : (b : Bool) (o : Option HeldNode) → is_some o ≡ true → is_some (cond b (Some v) o) ≡ true
    either true o h = refl
    either false o h = h

own_also : (f : Contents) (piece : Piece) → is_some piece.full ≡ true → HoldsAlso f.nodes (owned f piece).nodes piece.name
own_also f piece full = by piece.full full
  where
    by : (o : Option Full) → is_some o ≡ true → HoldsAlso f.nodes (owned_by o f piece).nodes piece.name
    by None some = absurd (cc)
    by (Some it) some = put_also f.nodes piece.name (record { ids = piece.ids; part = Own it.local it.version })

take_also : (f : Contents) (piece : Piece) → has_place f.nodes piece.name ≡ true → HoldsAlso f.nodes (after_taking f piece).nodes piece.name
take_also f piece place = record { still = λ q h. by (has_place f.nodes piece.name) q h; also = held_then f piece place }
  where
    held : (o : Option HeldNode) (q : List Label) → is_held f.nodes q ≡ true → is_held (taken_at o f.nodes piece) q ≡ true
    held None q h = (put_also f.nodes piece.name (record { ids = piece.ids; part = joined_part Bare piece.full })).still q h
    held (Some there) q h = held-part f.nodes piece.name (joined_part there.part piece.full) q ∙ h

    by : (b : Bool) (q : List Label) → is_held f.nodes q ≡ true → is_held (if b then taken_at (held_at f.nodes piece.name) f.nodes piece else f.nodes) q ≡ true
    by true q h = held (held_at f.nodes piece.name) q h
    by false q h = h

-- once an agent began with a piece, its node is held, and what was held before
begun_also : (c : Cache) (piece : Piece) → has_place c.contents.nodes piece.name ≡ true → HoldsAlso c.contents.nodes (piece_begun c piece).contents.nodes piece.name
begun_also c piece place = either (is_some piece.full) refl
  where
    taken : (b : Bool) → b ≡ false
        → HoldsAlso c.contents.nodes (if b then trimmed (record c { contents = after_taking c.contents piece; order = used_now c.order piece.name }) else record c { contents = after_taking c.contents piece }).contents.nodes piece.name
    taken true none = absurd (cc)
    taken false none = take_also c.contents piece place

    either : (b : Bool) → is_some piece.full ≡ b → HoldsAlso c.contents.nodes (if b then owned_in c piece else taken_by c piece).contents.nodes piece.name
    either true full = own_also c.contents piece full
    either false bare = taken _ (ids_not_placed c.contents piece (none_full piece.full bare))

-- ---- one piece after another

still_all : (c : Cache) (pieces : List Piece) → AreBegun c pieces → (q : List Label) → is_held c.contents.nodes q ≡ true → is_held (fold piece_begun c pieces).contents.nodes q ≡ true
still_all c [] begun q h = h
still_all c (piece ∷ pieces) begun q h = still_all (piece_begun c piece) pieces begun.1 q ((begun_also c piece begun.0).still q h)

stands_all : (c : Cache) (pieces : List Piece) → AreBegun c pieces → (q : List Label) → stands c.contents.nodes q ≡ true → stands (fold piece_begun c pieces).contents.nodes q ≡ true
stands_all c pieces begun [] h = refl
stands_all c pieces begun (l ∷ ls) h = still_all c pieces begun (l ∷ ls) h

begun_append : (c : Cache) (ps qs : List Piece) → AreBegun c ps → AreBegun (fold piece_begun c ps) qs → AreBegun c (ps ++ qs)
begun_append c [] qs first rest = rest
begun_append c (p ∷ ps) qs first rest = (first.0, begun_append (piece_begun c p) ps qs first.1 rest)

begun_front : (c : Cache) (piece : Piece) (pieces : List Piece) → has_place c.contents.nodes piece.name ≡ true → AreBegun (piece_begun c piece) pieces → AreBegun c (in_front piece pieces)
begun_front c piece [] place rest = either (is_some piece.full)
  where
    either : (b : Bool) → AreBegun c (if b then piece ∷ [] else [])
    either true = (place, tt)
    either false = tt
begun_front c piece (p ∷ ps) place rest = (place, rest)

mutual
  -- those of a node and of all below it, where the node above is held or is the document
  pub begun_at : (c : Cache) (full : List Label → Option Full) (path : List Label) (n : Node) → stands c.contents.nodes path ≡ true → AreBegun c (pieces_at full path n)
  begun_at c full path (node label local below) h =
      let piece : Piece = record { name = path ++ label ∷ []; ids = labels_of (list_of below); full = full (path ++ label ∷ []) } in
      let place : has_place c.contents.nodes (path ++ label ∷ []) ≡ true = place_last c.contents.nodes path label ∙ h in
      begun_front c piece (pieces_among full (path ++ label ∷ []) below) place
      (begun_among (piece_begun c piece) full (path ++ label ∷ []) below (held_last (piece_begun c piece).contents.nodes path label ∙ (begun_also c piece place).also))

  begun_among : (c : Cache) (full : List Label → Option Full) (path : List Label) (ns : Nodes) → stands c.contents.nodes path ≡ true → AreBegun c (pieces_among full path ns)
  begun_among c full path no_nodes h = tt
  begun_among c full path (nodes n ns) h =
      let first = begun_at c full path n h in
      begun_append c (pieces_at full path n) (pieces_among full path ns) first (begun_among (fold piece_begun c (pieces_at full path n)) full path ns (stands_all c (pieces_at full path n) first path h))
