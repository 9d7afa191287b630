-- What a cache leaves in order, and which nodes it owns, as it takes pieces in, and as it owns or renews a node.
use Rattle.std.proofs.Common.{◌≡◌, ℕ, Bool, true, false, cond, if◌then◌else◌, is_some, List, [], ◌∷◌, Option, Some, None, IsSome, option_map, refl, sym, ◌∙◌, ap}
use Rattle.std.specs.Cmp.Lexicographic.{pointwise}
use Rattle.std.proofs.lemmas.List.Elements.{All-nil, All-cons, All-head, All-tail}
use Rattle.iris_base.specs.declared.name.Label.{Label}
use Rattle.iris_base.specs.NameOrder.{label_eq}
use Rattle.iris_tree.specs.declared.local.Local.{Local}
use Rattle.iris_book.specs.Book.{History}
use Rattle.iris_fragment.specs.declared.held.HeldNode.{HeldNode}
use Rattle.iris_fragment.specs.declared.held.Part.{Part}
use Rattle.iris_fragment.specs.declared.held.Part.TheVariants.{Own, Copied, Bare}
use Rattle.iris_fragment.specs.declared.piece.Full.{Full}
use Rattle.iris_fragment.specs.declared.piece.Piece.{Piece}
use Rattle.iris_fragment.specs.Changes.{takes, joined_part, taken_at, after_taking, places_piece, owned, owned_by, renewed, renewed_part, changed_in, own_version, part_in, version_at}
use Rattle.iris_fragment.specs.Contents.{Contents, held_at, has_place}
use Rattle.iris_fragment.specs.Shape.{IsRooted}
use Rattle.iris_fragment.proofs.Names.{alike_exact}
use Rattle.iris_fragment.proofs.NodeChanges.{look_up_put, look_up_replaced, rooted_part, rooted_node}
use Rattle.iris_cache.specs.Order.{in_front, without}
use Rattle.iris_cache.specs.Recency.{Cache, ListsComplete, trimmed, taken_by, taken_all, owned_in, renewed_in}
use Rattle.iris_cache.proofs.Completeness.{stays_placed, stays_kept, stays_owned, stays_renewed}
use Rattle.iris_copies.specs.Copies.{IsCopy, AreCopies, HoldsCopies}
use Rattle.iris_copies.proofs.Caches.{taken_all_holds}
use Rattle.iris_copies.proofs.Fragments.{taken_holds}
use Rattle.iris_runs.specs.Moments.{IsOrderly}
use Rattle.iris_runs.proofs.KeptOrderly.{trimmed_orderly, version_trimmed}

-- the version of what is held, where it is owned
abbrev owned_version : Option HeldNode → Option ℕ
owned_version o = own_version (part_in o)

-- ---- a piece that is taken in

joined_version : (part : Part) (full : Option Full) → own_version (joined_part part full) ≡ own_version part
joined_version part None = refl
joined_version (Own local version) (Some full) = refl
joined_version (Copied old) (Some full) = go (takes (Copied old) full)
  where
    go : (b : Bool) → own_version (if b then Copied full else Copied old) ≡ None
    go true = refl
    go false = refl
joined_version Bare (Some full) = refl

rooted_taken : (f : Contents) (piece : Piece) → IsRooted f.nodes → IsRooted (after_taking f piece).nodes
rooted_taken f piece rooted = place (has_place f.nodes piece.name) refl
  where
    held : has_place f.nodes piece.name ≡ true → (o : Option HeldNode) → IsRooted (taken_at o f.nodes piece)
    held there None = rooted_node f.nodes piece.name (record { ids = piece.ids; part = joined_part Bare piece.full }) there rooted
    held there (Some node) = rooted_part f.nodes piece.name (joined_part node.part piece.full) rooted

    place : (b : Bool) → has_place f.nodes piece.name ≡ b → IsRooted (if b then taken_at (held_at f.nodes piece.name) f.nodes piece else f.nodes)
    place true there = held there (held_at f.nodes piece.name)
    place false none = rooted

-- what is owned stays
version_joined : (f : Contents) (piece : Piece) (other : List Label) → version_at (after_taking f piece) other ≡ version_at f other
version_joined f piece other = place (has_place f.nodes piece.name)
  where
    same : (o : Option HeldNode) → held_at f.nodes piece.name ≡ o → (there : Option HeldNode) → owned_version there ≡ owned_version o → (b : Bool) → pointwise label_eq piece.name other ≡ b → owned_version (cond b there (held_at f.nodes other)) ≡ version_at f other
    same o at there alike true e = alike ∙ sym (ap owned_version at) ∙ ap (version_at f) (alike_exact piece.name other e)
    same o at there alike false e = refl

    part_there : (o : Option HeldNode) (full : Option Full) (part : Part) → owned_version o ≡ own_version part → owned_version (option_map (λ held. record { ids = held.ids; part = joined_part part full }) o) ≡ owned_version o
    part_there None full part e = refl
    part_there (Some node) full part e = joined_version part full ∙ sym e

    held : (o : Option HeldNode) → held_at f.nodes piece.name ≡ o → owned_version (held_at (taken_at o f.nodes piece) other) ≡ version_at f other
    held None at = ap owned_version (look_up_put f.nodes piece.name other (record { ids = piece.ids; part = joined_part Bare piece.full }))
        ∙ same None at (Some (record { ids = piece.ids; part = joined_part Bare piece.full })) (joined_version Bare piece.full) (pointwise label_eq piece.name other) refl
    held (Some node) at = ap owned_version (look_up_replaced f.nodes piece.name other (joined_part node.part piece.full))
        ∙ same (held_at f.nodes piece.name) refl (option_map (λ old. record { ids = old.ids; part = joined_part node.part piece.full }) (held_at f.nodes piece.name)) (part_there (held_at f.nodes piece.name) piece.full node.part (ap owned_version at)) (pointwise label_eq piece.name other) refl

    place : (b : Bool) → owned_version (held_at (if b then taken_at (held_at f.nodes piece.name) f.nodes piece else f.nodes) other) ≡ version_at f other
    place true = held (held_at f.nodes piece.name) refl
    place false = refl

-- a cache that took a piece in is in order, and owns what it owned
pub record IsKept (old new : Cache) : Type 0 where
  pub orderly : IsOrderly new
  pub same : (name : List Label) → version_at new.contents name ≡ version_at old.contents name

taken_kept : (h : History) (now : ℕ) (c : Cache) (piece : Piece) → IsCopy h now piece → HoldsCopies h now c.contents → IsOrderly c → IsKept c (taken_by c piece)
taken_kept h now c piece copy holds is = either (places_piece c.contents piece) refl
  where
    taken : Contents
    taken = after_taking c.contents piece

    next : HoldsCopies h now taken
    next = taken_holds h now c.contents piece copy holds

    placed_in : Cache
    placed_in = record c { contents = taken; order = in_front c.order piece.name }

    kept_in : Cache
    kept_in = record c { contents = taken }

    either : (b : Bool) → places_piece c.contents piece ≡ b → IsKept c (if b then trimmed placed_in else kept_in)
    either true placed = record {
      orderly = trimmed_orderly placed_in next.ordered (record { rooted = rooted_taken c.contents piece is.rooted; listed = listed });
      same = λ name. version_trimmed placed_in next.ordered listed name ∙ version_joined c.contents piece name;
    }
      where
        listed : ListsComplete taken (in_front c.order piece.name)
        listed = stays_placed c.contents taken c.order (in_front c.order piece.name) piece placed is.listed refl refl
    either false none = record {
      orderly = record { rooted = rooted_taken c.contents piece is.rooted; listed = stays_kept c.contents taken c.order c.order piece none is.listed refl refl };
      same = λ name. version_joined c.contents piece name;
    }

kept_on : (old mid new : Cache) → IsKept old mid → IsKept mid new → IsKept old new
kept_on old mid new first rest = record { orderly = rest.orderly; same = λ name. rest.same name ∙ first.same name }

pub taken_all_kept : (h : History) (now : ℕ) (c : Cache) (pieces : List Piece) → AreCopies h now pieces → HoldsCopies h now c.contents → IsOrderly c → IsKept c (taken_all c pieces)
taken_all_kept h now c [] copies holds is = record { orderly = is; same = λ name. refl }
taken_all_kept h now c (piece ∷ pieces) copies holds is =
    let copy = All-head (IsCopy h now) piece pieces copies in
    let first = taken_kept h now c piece copy holds is in
    let one = taken_all_holds h now c (piece ∷ []) (All-cons (IsCopy h now) piece [] copy (All-nil (IsCopy h now))) holds in
    kept_on c (taken_by c piece) (taken_all (taken_by c piece) pieces) first (taken_all_kept h now (taken_by c piece) pieces (All-tail (IsCopy h now) piece pieces copies) one first.orderly)

-- ---- what is owned

-- the node of a full piece is owned then, and what was owned is still
pub owned_orderly : (c : Cache) (piece : Piece) → IsSome piece.full → has_place c.contents.nodes piece.name ≡ true → IsOrderly c → IsOrderly (owned_in c piece)
owned_orderly c piece whole place is = record {
  rooted = rooted piece.full;
  listed = stays_owned c.contents (owned c.contents piece) c.order (without c.order piece.name) piece whole is.listed refl refl;
}
  where
    rooted : (full : Option Full) → IsRooted (owned_by full c.contents piece).nodes
    rooted None = is.rooted
    rooted (Some full) = rooted_node c.contents.nodes piece.name (record { ids = piece.ids; part = Own full.local full.version }) place is.rooted

pub version_owned : (f : Contents) (piece : Piece) → IsSome piece.full → (other : List Label) → is_some (version_at (owned f piece) other) ≡ cond (pointwise label_eq piece.name other) true (is_some (version_at f other))
version_owned f piece whole other = by piece.full whole
  where
    by : (full : Option Full) → IsSome full → is_some (version_at (owned_by full f piece) other) ≡ cond (pointwise label_eq piece.name other) true (is_some (version_at f other))
    by None none = absurd (cc)
    by (Some full) some = ap (λ o. is_some (owned_version o)) (look_up_put f.nodes piece.name other (record { ids = piece.ids; part = Own full.local full.version })) ∙ either (pointwise label_eq piece.name other)
      where
        either : (b : Bool) → is_some (owned_version (cond b (Some (record { ids = piece.ids; part = Own full.local full.version })) (held_at f.nodes other))) ≡ cond b true (is_some (version_at f other))
        either true = refl
        either false = refl

-- ---- an update

renewed_owned : (local : Local) (part : Part) → is_some (own_version (renewed_part local part)) ≡ is_some (own_version part)
renewed_owned local (Own old version) = refl
renewed_owned local (Copied full) = refl
renewed_owned local Bare = refl

pub renewed_orderly : (c : Cache) (name : List Label) (local : Local) → IsOrderly c → IsOrderly (renewed_in c name local)
renewed_orderly c name local is = record {
  rooted = rooted (held_at c.contents.nodes name);
  listed = stays_renewed c.contents (renewed c.contents name local) c.order name local is.listed refl;
}
  where
    rooted : (o : Option HeldNode) → IsRooted (changed_in o (renewed_part local) c.contents.nodes name)
    rooted None = is.rooted
    rooted (Some node) = rooted_part c.contents.nodes name (renewed_part local node.part) is.rooted

-- the same nodes are owned
pub version_renewed : (f : Contents) (name : List Label) (local : Local) (other : List Label) → is_some (version_at (renewed f name local) other) ≡ is_some (version_at f other)
version_renewed f name local other = by (held_at f.nodes name) refl
  where
    by : (o : Option HeldNode) → held_at f.nodes name ≡ o → is_some (owned_version (held_at (changed_in o (renewed_part local) f.nodes name) other)) ≡ is_some (version_at f other)
    by None at = refl
    by (Some node) at = ap (λ o. is_some (owned_version o)) (look_up_replaced f.nodes name other (renewed_part local node.part)) ∙ either (pointwise label_eq name other) refl
      where
        there : (o : Option HeldNode) → owned_version o ≡ own_version node.part → is_some (owned_version (option_map (λ old. record { ids = old.ids; part = renewed_part local node.part }) o)) ≡ is_some (owned_version o)
        there None same = refl
        there (Some old) same = renewed_owned local node.part ∙ ap is_some (sym same)

        either : (b : Bool) → pointwise label_eq name other ≡ b → is_some (owned_version (cond b (option_map (λ old. record { ids = old.ids; part = renewed_part local node.part }) (held_at f.nodes name)) (held_at f.nodes other))) ≡ is_some (version_at f other)
        either true e = there (held_at f.nodes name) (ap owned_version at) ∙ ap (λ n. is_some (version_at f n)) (alike_exact name other e)
        either false e = refl
