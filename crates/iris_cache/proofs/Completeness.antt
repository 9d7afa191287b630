-- Which nodes are complete once a fragment changed.
use Rattle.std.proofs.Common.{◌≡◌, ℕ, Bool, true, false, cond, not, ◌&&◌, ◌||◌, if◌then◌else◌, List, Option, Some, None, is_some, IsSome, option_map, refl, sym, ap, subst, ◌∙◌}
use Rattle.std.specs.Prelude.{◌↔◌, Result, OnOk}
use Rattle.iris_base.specs.declared.name.Label.{Label}
use Rattle.iris_tree.specs.declared.local.Local.{Local}
use Rattle.iris_fragment.specs.declared.error.EvictError.{EvictError}
use Rattle.iris_fragment.specs.declared.held.HeldNode.{HeldNode}
use Rattle.iris_fragment.specs.declared.held.Part.{Part}
use Rattle.iris_fragment.specs.declared.held.Part.TheVariants.{Own, Copied, Bare}
use Rattle.iris_fragment.specs.declared.piece.Full.{Full}
use Rattle.iris_fragment.specs.declared.piece.Piece.{Piece}
use Rattle.iris_fragment.specs.declared.status.Status.{Status}
use Rattle.iris_fragment.specs.declared.status.Status.TheVariants.{Owned, Complete, IdComplete, Incomplete}
use Rattle.iris_fragment.specs.Contents.{Nodes, Contents, held_at, has_place, is_listed, status, part_status, status_or}
use Rattle.iris_fragment.specs.Changes.{with_node, without_node, with_part, part_in, takes, takes_any, joined_part, taken_at, after_taking, places_piece, has_child, evicted, evict_answer, owned, owned_by, renewed, renewed_part, released, released_part, changed_in}
use Rattle.iris_fragment.specs.Shape.{HaveRisingNames}
use Rattle.iris_fragment.proofs.Names.{alike_exact}
use Rattle.iris_fragment.proofs.NodeChanges.{look_up_put, look_up_left_out, look_up_replaced}
use Rattle.iris_cache.specs.Order.{Order, lists, without, in_front}
use Rattle.iris_cache.specs.Recency.{is_of_complete, is_complete, ListsComplete}
use Rattle.iris_cache.specs.Ready.{Recent}
use Rattle.iris_cache.specs.Stored.{Ordered}
use Rattle.iris_cache.proofs.Orders.{alike, lists_without, lists_in_front}

-- whether what is beside the ids is a copy
abbrev pub is_copy : Part → Bool
is_copy (Own local version) = false
is_copy (Copied full) = true
is_copy Bare = false

-- whether a copy is held
abbrev pub copy_in : Option HeldNode → Bool
copy_in o = is_copy (part_in o)

of_part : (part : Part) → is_of_complete (Some (part_status part)) ≡ is_copy part
of_part (Own local version) = refl
of_part (Copied full) = refl
of_part Bare = refl

of_node : (listed : Bool) (o : Option HeldNode) → is_of_complete (status_or listed o) ≡ copy_in o
of_node listed (Some node) = of_part node.part
of_node true None = refl
of_node false None = refl

-- a node is complete just where a copy of it is held
pub complete_is : (f : Contents) (name : List Label) → is_complete f name ≡ copy_in (held_at f.nodes name)
complete_is f name = of_node (is_listed f name) (held_at f.nodes name)

-- ---- the three changes

copy_if : (b : Bool) (x y : Option HeldNode) → copy_in (cond b x y) ≡ cond b (copy_in x) (copy_in y)
copy_if true x y = refl
copy_if false x y = refl

copy_put : (nodes : Nodes) (name other : List Label) (node : HeldNode) → copy_in (held_at (with_node nodes name node) other) ≡ cond (alike name other) (is_copy node.part) (copy_in (held_at nodes other))
copy_put nodes name other node = ap (λ (o : Option HeldNode). copy_in o) (look_up_put nodes name other node) ∙ copy_if (alike name other) (Some node) (held_at nodes other)

copy_left_out : (nodes : Nodes) (name other : List Label) → HaveRisingNames nodes → copy_in (held_at (without_node nodes name) other) ≡ cond (alike name other) false (copy_in (held_at nodes other))
copy_left_out nodes name other ordered = ap (λ (o : Option HeldNode). copy_in o) (look_up_left_out nodes name other ordered) ∙ copy_if (alike name other) None (held_at nodes other)

-- whether a copy is held where a held node's part was put
abbrev pub copy_with : Part → Option HeldNode → Bool
copy_with part o = copy_in (option_map (λ node. record { ids = node.ids; part = part }) o)

copy_replaced : (nodes : Nodes) (name other : List Label) (part : Part) → copy_in (held_at (with_part nodes name part) other) ≡ cond (alike name other) (copy_with part (held_at nodes name)) (copy_in (held_at nodes other))
copy_replaced nodes name other part =
    ap (λ (o : Option HeldNode). copy_in o) (look_up_replaced nodes name other part)
    ∙ copy_if (alike name other) (option_map (λ node. record { ids = node.ids; part = part }) (held_at nodes name)) (held_at nodes other)

bare_not_copy : (o : Option HeldNode) → copy_with Bare o ≡ false
bare_not_copy None = refl
bare_not_copy (Some node) = refl

gone : (b c : Bool) → cond b false c ≡ (not b && c)
gone true c = refl
gone false c = refl

-- ---- eviction

-- after an eviction the node is not complete, and every other is as it was
pub complete_evicted : (f : Contents) (name other : List Label) → HaveRisingNames f.nodes → is_complete (evicted f name) other ≡ (not (alike name other) && is_complete f other)
complete_evicted f name other ordered =
    complete_is (evicted f name) other ∙ by (has_child f.nodes name) ∙ gone (alike name other) (copy_in (held_at f.nodes other))
    ∙ ap (λ (c : Bool). not (alike name other) && c) (sym (complete_is f other))
  where
    by : (b : Bool) → copy_in (held_at (if b then with_part f.nodes name Bare else without_node f.nodes name) other) ≡ cond (alike name other) false (copy_in (held_at f.nodes other))
    by true = copy_replaced f.nodes name other Bare ∙ ap (λ (c : Bool). cond (alike name other) c (copy_in (held_at f.nodes other))) (bare_not_copy (held_at f.nodes name))
    by false = copy_left_out f.nodes name other ordered

-- ---- pieces

joined_copy : (part : Part) (full : Option Full) → is_copy (joined_part part full) ≡ (takes_any part full || is_copy part)
joined_copy part None = refl
joined_copy part (Some full) = by (takes part full)
  where
    by : (b : Bool) → is_copy (if b then Copied full else part) ≡ (b || is_copy part)
    by true = refl
    by false = refl

-- under the name of the piece, or under another
put_or_kept : (e placed was now : Bool) → (e ≡ true → now ≡ was) → cond e (placed || was) now ≡ ((placed && e) || now)
put_or_kept true true was now h = refl
put_or_kept true false was now h = sym (h refl)
put_or_kept false true was now h = refl
put_or_kept false false was now h = refl

same_copy : (nodes : Nodes) (name other : List Label) → alike name other ≡ true → copy_in (held_at nodes other) ≡ copy_in (held_at nodes name)
same_copy nodes name other h = ap (λ (n : List Label). copy_in (held_at nodes n)) (sym (alike_exact name other h))

taken_copy : (nodes : Nodes) (piece : Piece) (other : List Label) (o : Option HeldNode) → held_at nodes piece.name ≡ o
    → copy_in (held_at (taken_at o nodes piece) other) ≡ cond (alike piece.name other) (takes_any (part_in o) piece.full || copy_in o) (copy_in (held_at nodes other))
taken_copy nodes piece other None at =
    copy_put nodes piece.name other (record { ids = piece.ids; part = joined_part Bare piece.full })
    ∙ ap (λ (b : Bool). cond (alike piece.name other) b (copy_in (held_at nodes other))) (joined_copy Bare piece.full)
taken_copy nodes piece other (Some node) at =
    copy_replaced nodes piece.name other (joined_part node.part piece.full)
    ∙ ap (λ (b : Bool). cond (alike piece.name other) b (copy_in (held_at nodes other)))
    (ap (λ (o : Option HeldNode). copy_with (joined_part node.part piece.full) o) at ∙ joined_copy node.part piece.full)

-- after a piece was taken in its node is complete where the piece was placed, and else every node is as it was
pub complete_taken : (f : Contents) (piece : Piece) (other : List Label) → is_complete (after_taking f piece) other ≡ ((places_piece f piece && alike piece.name other) || is_complete f other)
complete_taken f piece other =
    complete_is (after_taking f piece) other ∙ by (has_place f.nodes piece.name) ∙ ap (λ (c : Bool). (places_piece f piece && alike piece.name other) || c) (sym (complete_is f other))
  where
    by : (b : Bool) → copy_in (held_at (if b then taken_at (held_at f.nodes piece.name) f.nodes piece else f.nodes) other)
        ≡ (((b && takes_any (part_in (held_at f.nodes piece.name)) piece.full) && alike piece.name other) || copy_in (held_at f.nodes other))
    by true =
        taken_copy f.nodes piece other (held_at f.nodes piece.name) refl
        ∙ put_or_kept (alike piece.name other) (takes_any (part_in (held_at f.nodes piece.name)) piece.full) (copy_in (held_at f.nodes piece.name)) (copy_in (held_at f.nodes other)) (same_copy f.nodes piece.name other)
    by false = refl

-- ---- what is owned

-- a node that is owned is not complete, and every other is as it was
pub complete_owned : (f : Contents) (piece : Piece) (other : List Label) → IsSome piece.full → is_complete (owned f piece) other ≡ (not (alike piece.name other) && is_complete f other)
complete_owned f piece other some =
    complete_is (owned f piece) other ∙ by piece.full some ∙ gone (alike piece.name other) (copy_in (held_at f.nodes other)) ∙ ap (λ (c : Bool). not (alike piece.name other) && c) (sym (complete_is f other))
  where
    by : (o : Option Full) → IsSome o → copy_in (held_at (owned_by o f piece).nodes other) ≡ cond (alike piece.name other) false (copy_in (held_at f.nodes other))
    by None some = absurd (cc)
    by (Some full) some = copy_put f.nodes piece.name other (record { ids = piece.ids; part = Own full.local full.version })

changed_copy : (change : Part → Part) (nodes : Nodes) (name other : List Label) (o : Option HeldNode) → held_at nodes name ≡ o
    → copy_in (held_at (changed_in o change nodes name) other) ≡ cond (alike name other) (is_copy (change (part_in o)) && is_some o) (copy_in (held_at nodes other))
changed_copy change nodes name other None at = by (alike name other) refl
  where
    and_none : (b : Bool) → (b && false) ≡ false
    and_none true = refl
    and_none false = refl

    by : (b : Bool) → alike name other ≡ b → copy_in (held_at nodes other) ≡ cond b (is_copy (change Bare) && false) (copy_in (held_at nodes other))
    by true h = ap (λ (n : List Label). copy_in (held_at nodes n)) (sym (alike_exact name other h)) ∙ ap (λ (o : Option HeldNode). copy_in o) at ∙ sym (and_none (is_copy (change Bare)))
    by false h = refl
changed_copy change nodes name other (Some node) at =
    copy_replaced nodes name other (change node.part)
    ∙ ap (λ (b : Bool). cond (alike name other) b (copy_in (held_at nodes other))) (ap (λ (o : Option HeldNode). copy_with (change node.part) o) at ∙ sym (and_true (is_copy (change node.part))))
  where
    and_true : (b : Bool) → (b && true) ≡ b
    and_true true = refl
    and_true false = refl

renewed_copy : (local : Local) (o : Option HeldNode) → (is_copy (renewed_part local (part_in o)) && is_some o) ≡ copy_in o
renewed_copy local None = refl
renewed_copy local (Some node) = by node.part
  where
    by : (part : Part) → (is_copy (renewed_part local part) && true) ≡ is_copy part
    by (Own old version) = refl
    by (Copied full) = refl
    by Bare = refl

kept_both : (b c d : Bool) → (b ≡ true → d ≡ c) → cond b c d ≡ d
kept_both true c d h = sym (h refl)
kept_both false c d h = refl

-- an update of an owned node leaves every node as it was
pub complete_renewed : (f : Contents) (name : List Label) (local : Local) (other : List Label) → is_complete (renewed f name local) other ≡ is_complete f other
complete_renewed f name local other =
    complete_is (renewed f name local) other ∙ changed_copy (renewed_part local) f.nodes name other (held_at f.nodes name) refl
    ∙ ap (λ (b : Bool). cond (alike name other) b (copy_in (held_at f.nodes other))) (renewed_copy local (held_at f.nodes name))
    ∙ kept_both (alike name other) (copy_in (held_at f.nodes name)) (copy_in (held_at f.nodes other)) (same_copy f.nodes name other) ∙ sym (complete_is f other)

released_copy : (now : ℕ) (listed : Bool) (o : Option HeldNode) → status_or listed o ≡ Some Owned → (is_copy (released_part now (part_in o)) && is_some o) ≡ true
released_copy now true None h = absurd (cc)
released_copy now false None h = absurd (cc)
released_copy now listed (Some node) h = by node.part h
  where
    by : (part : Part) → Some (part_status part) ≡ Some Owned → (is_copy (released_part now part) && true) ≡ true
    by (Own local version) k = refl
    by (Copied full) k = refl
    by Bare k = absurd (cc)

here_or_kept : (b c : Bool) → cond b true c ≡ (b || c)
here_or_kept true c = refl
here_or_kept false c = refl

-- a node that is owned no longer is complete, and every other is as it was
pub complete_released : (f : Contents) (name : List Label) (now : ℕ) (other : List Label) → status f name ≡ Some Owned → is_complete (released f name now) other ≡ (alike name other || is_complete f other)
complete_released f name now other owns =
    complete_is (released f name now) other ∙ changed_copy (released_part now) f.nodes name other (held_at f.nodes name) refl
    ∙ ap (λ (b : Bool). cond (alike name other) b (copy_in (held_at f.nodes other))) (released_copy now (is_listed f name) (held_at f.nodes name) owns)
    ∙ here_or_kept (alike name other) (copy_in (held_at f.nodes other)) ∙ ap (λ (c : Bool). alike name other || c) (sym (complete_is f other))

-- ---- the order of a fragment's copies

without_stays : (f new : Contents) (order left : Order) (name : List Label) → ListsComplete f order → ((other : List Label) → is_complete new other ≡ (not (alike name other) && is_complete f other)) → left ≡ without order name
    → ListsComplete new left
without_stays f new order left name now gone is other =
    ap (λ (o : Order). lists o other) is ∙ lists_without order name other ∙ ap (λ (b : Bool). not (alike name other) && b) (now other) ∙ sym (gone other)

in_front_stays : (f new : Contents) (order moved : Order) (name : List Label) → ListsComplete f order → ((other : List Label) → is_complete new other ≡ (alike name other || is_complete f other)) → moved ≡ in_front order name
    → ListsComplete new moved
in_front_stays f new order moved name now more is other =
    ap (λ (o : Order). lists o other) is ∙ lists_in_front order name other ∙ ap (λ (b : Bool). alike name other || b) (now other) ∙ sym (more other)

-- the order lists the complete nodes once one of them was evicted
pub stays_evicted : (f new : Contents) (order left : Order) (name : List Label) → HaveRisingNames f.nodes → ListsComplete f order → new ≡ evicted f name → left ≡ without order name → ListsComplete new left
stays_evicted f new order left name ordered now after is = without_stays f new order left name now (λ other. ap (λ (g : Contents). is_complete g other) after ∙ complete_evicted f name other ordered) is

-- once a node was owned
pub stays_owned : (f new : Contents) (order left : Order) (piece : Piece) → IsSome piece.full → ListsComplete f order → new ≡ owned f piece → left ≡ without order piece.name → ListsComplete new left
stays_owned f new order left piece some now after is = without_stays f new order left piece.name now (λ other. ap (λ (g : Contents). is_complete g other) after ∙ complete_owned f piece other some) is

-- once an owned node was updated
pub stays_renewed : (f new : Contents) (order : Order) (name : List Label) (local : Local) → ListsComplete f order → new ≡ renewed f name local → ListsComplete new order
stays_renewed f new order name local now after other = now other ∙ sym (ap (λ (g : Contents). is_complete g other) after ∙ complete_renewed f name local other)

-- once an owned node was released
pub stays_released : (f new : Contents) (order moved : Order) (name : List Label) (moment : ℕ) → status f name ≡ Some Owned → ListsComplete f order → new ≡ released f name moment → moved ≡ in_front order name → ListsComplete new moved
stays_released f new order moved name moment owns now after is =
    in_front_stays f new order moved name now (λ other. ap (λ (g : Contents). is_complete g other) after ∙ complete_released f name moment other owns) is

-- once a piece was taken in and placed
pub stays_placed : (f new : Contents) (order moved : Order) (piece : Piece) → places_piece f piece ≡ true → ListsComplete f order → new ≡ after_taking f piece → moved ≡ in_front order piece.name → ListsComplete new moved
stays_placed f new order moved piece placed now after is =
    in_front_stays f new order moved piece.name now
    (λ other. ap (λ (g : Contents). is_complete g other) after ∙ complete_taken f piece other ∙ ap (λ (b : Bool). (b && alike piece.name other) || is_complete f other) placed) is

-- or not placed
pub stays_kept : (f new : Contents) (order same : Order) (piece : Piece) → places_piece f piece ≡ false → ListsComplete f order → new ≡ after_taking f piece → same ≡ order → ListsComplete new same
stays_kept f new order same piece placed now after is other =
    ap (λ (o : Order). lists o other) is ∙ now other
    ∙ sym (ap (λ (g : Contents). is_complete g other) after ∙ complete_taken f piece other ∙ ap (λ (b : Bool). (b && alike piece.name other) || is_complete f other) placed)

-- a piece without a full part is not placed
pub ids_not_placed : (f : Contents) (piece : Piece) → piece.full ≡ None → places_piece f piece ≡ false
ids_not_placed f piece none = ap (λ (full : Option Full). has_place f.nodes piece.name && takes_any (part_in (held_at f.nodes piece.name)) full) none ∙ never (has_place f.nodes piece.name)
  where
    never : (b : Bool) → (b && false) ≡ false
    never true = refl
    never false = refl

-- once a name was used
pub stays_used : (f : Contents) (order used : Order) (name : List Label) → ListsComplete f order → used ≡ (if lists order name then in_front order name else order) → ListsComplete f used
stays_used f order used name now is other = ap (λ (o : Order). lists o other) is ∙ by (lists order name) refl ∙ now other
  where
    also : (b l : Bool) → (b ≡ true → l ≡ true) → (b || l) ≡ l
    also true l h = sym (h refl)
    also false l h = refl

    by : (b : Bool) → lists order name ≡ b → lists (if b then in_front order name else order) other ≡ lists order other
    by true there = lists_in_front order name other ∙ also (alike name other) (lists order other) (λ h. subst (λ (n : List Label). lists order n ≡ true) (alike_exact name other h) there)
    by false there = refl

-- ---- what the tests say

-- an owned node is not complete
pub owned_incomplete : (f : Contents) (name : List Label) → status f name ≡ Some Owned → is_complete f name ≡ false
owned_incomplete f name h = ap (λ (s : Option Status). is_of_complete s) h

-- and so not in the order
pub owned_absent : (f : Contents) (order : Order) (name : List Label) → ListsComplete f order → status f name ≡ Some Owned → lists order name ≡ false
owned_absent f order name now h = now name ∙ owned_incomplete f name h

-- an owned node of a fragment with an order, inside of it
pub owned_inside : (f : Contents) (r : Recent) (seen : Ordered) (name : List Label) → record { contents = f; recent = r } ≡ seen → status seen.contents name ≡ Some Owned → status f name ≡ Some Owned
owned_inside f r seen name is h = subst (λ (o : Ordered). status o.contents name ≡ Some Owned) (sym is) h

complete_some : (s : Option Status) → is_of_complete s ≡ true → s ≡ Some Complete
complete_some (Some Owned) h = absurd (cc)
complete_some (Some Complete) h = refl
complete_some (Some IdComplete) h = absurd (cc)
complete_some (Some Incomplete) h = absurd (cc)
complete_some None h = absurd (cc)

-- a node is complete just where its status says so
pub complete_by_status : (f : Contents) (name : List Label) → (is_complete f name ≡ true) ↔ (status f name ≡ Some Complete)
complete_by_status f name = (complete_some (status f name), λ h. ap (λ (s : Option Status). is_of_complete s) h)

-- what an eviction of a complete node leaves
pub evict_done : (f new : Contents) (name : List Label) (r : Result Status EvictError) → is_complete f name ≡ true → r ≡ evict_answer (status f name) (has_child f.nodes name) → OnOk r (new ≡ evicted f name) → new ≡ evicted f name
evict_done f new name r complete answer ok =
    let here : r ≡ evict_answer (Some Complete) (has_child f.nodes name) = answer ∙ ap (λ (s : Option Status). evict_answer s (has_child f.nodes name)) (complete_some (status f name) complete) in
    subst (λ (q : Result Status EvictError). OnOk q (new ≡ evicted f name)) here ok
