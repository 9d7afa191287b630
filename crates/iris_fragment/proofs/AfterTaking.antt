-- What taking in a piece comes to, in the words of its rule.
use Rattle.std.proofs.Common.{◌≡◌, ℕ, Bool, true, false, cond, ◌&&◌, List, Option, Some, None, is_some, option_map, refl, sym, ap, subst, ◌∙◌}
use Rattle.std.specs.Cmp.Lexicographic.{pointwise}
use Rattle.iris_base.specs.declared.name.Label.{Label}
use Rattle.iris_base.specs.NameOrder.{label_eq}
use Rattle.iris_fragment.specs.declared.held.HeldNode.{HeldNode}
use Rattle.iris_fragment.specs.declared.held.Part.{Part}
use Rattle.iris_fragment.specs.declared.held.Part.TheVariants.{Own, Copied, Bare}
use Rattle.iris_fragment.specs.declared.piece.Full.{Full}
use Rattle.iris_fragment.specs.declared.piece.Piece.{Piece}
use Rattle.iris_fragment.specs.declared.status.Status.TheVariants.{Owned}
use Rattle.iris_fragment.specs.Contents.{Nodes, Contents, held_at, is_held, has_place, is_listed, status, part_status, status_or}
use Rattle.iris_fragment.specs.Usable.{full_held}
use Rattle.iris_fragment.specs.Changes.{with_part, part_in, takes_any, joined_part, after_taking, taken_at, places_piece}
use Rattle.iris_fragment.proofs.Names.{alike_self, alike_exact}
use Rattle.iris_fragment.proofs.NodeChanges.{look_up_put, look_up_replaced}
use Rattle.iris_fragment.proofs.Parts.{not_placed, taken_at_held}

-- a piece without a place changes nothing
pub skipped : (f : Contents) (piece : Piece) → has_place f.nodes piece.name ≡ false → after_taking f piece ≡ f
skipped f piece h = rw h refl

taken_nodes : (f : Contents) (piece : Piece) → has_place f.nodes piece.name ≡ true → (after_taking f piece).nodes ≡ taken_at (held_at f.nodes piece.name) f.nodes piece
taken_nodes f piece h = rw h refl

-- ---- under the name of the piece

put_here : (nodes : Nodes) (name : List Label) (part : Part) (old : HeldNode) → held_at nodes name ≡ Some old → held_at (with_part nodes name part) name ≡ Some (record { ids = old.ids; part = part })
put_here nodes name part old at =
    look_up_replaced nodes name name part
    ∙ ap (λ (b : Bool). cond b (option_map (λ node. record { ids = node.ids; part = part }) (held_at nodes name)) (held_at nodes name)) (alike_self name)
    ∙ ap (λ (o : Option HeldNode). option_map (λ (node : HeldNode). record { ids = node.ids; part = part }) o) at

put_back : (nodes : Nodes) (m name : List Label) (part : Part) (old node : HeldNode) → m ≡ name → held_at nodes m ≡ Some old → old ≡ node → part ≡ old.part → held_at (with_part nodes m part) name ≡ Some node
put_back nodes m name part old node is at one stays =
    subst (λ (n : List Label). held_at (with_part nodes m part) n ≡ Some node) is
    (put_here nodes m part old at ∙ ap (λ (p : Part). Some (record { ids = old.ids; part = p })) stays ∙ ap (λ (n : HeldNode). Some n) one)

here_at : (nodes : Nodes) (piece : Piece) (o : Option HeldNode) → held_at nodes piece.name ≡ o
    → (node : HeldNode) × (held_at (taken_at o nodes piece) piece.name ≡ Some node) × (node.part ≡ joined_part (part_in o) piece.full)
here_at nodes piece None at =
    let node : HeldNode = record { ids = piece.ids; part = joined_part Bare piece.full } in
    (node, look_up_put nodes piece.name piece.name node ∙ ap (λ (b : Bool). cond b (Some node) (held_at nodes piece.name)) (alike_self piece.name), refl)
here_at nodes piece (Some old) at =
    let node : HeldNode = record { ids = old.ids; part = joined_part old.part piece.full } in
    (node, put_here nodes piece.name (joined_part old.part piece.full) old at, refl)

here : (f : Contents) (piece : Piece) → has_place f.nodes piece.name ≡ true
    → (node : HeldNode) × (held_at (after_taking f piece).nodes piece.name ≡ Some node) × (node.part ≡ joined_part (part_in (held_at f.nodes piece.name)) piece.full)
here f piece h =
    let at = here_at f.nodes piece (held_at f.nodes piece.name) refl in
    (at.0, ap (λ (ns : Nodes). held_at ns piece.name) (taken_nodes f piece h) ∙ at.1, at.2)

-- the node of any other is held then
pub held_then : (f : Contents) (piece : Piece) → has_place f.nodes piece.name ≡ true → is_held (after_taking f piece).nodes piece.name ≡ true
held_then f piece h = ap (λ (o : Option HeldNode). is_some o) (here f piece h).1

both : (a b : Bool) → (a && b) ≡ true → (a ≡ true) × (b ≡ true)
both true b h = (refl, h)
both false b h = absurd (cc)

put_full : (part : Part) (o : Option Full) (now : ℕ) → takes_any part o ≡ true → full_held (joined_part part o) now ≡ o
put_full part None now h = absurd (cc)
put_full part (Some full) now h = rw h refl

-- a full part that is placed is there then
pub placed_then : (f : Contents) (piece : Piece) (now : ℕ) → places_piece f piece ≡ true → full_held (part_in (held_at (after_taking f piece).nodes piece.name)) now ≡ piece.full
placed_then f piece now h =
    let both_hold = both _ _ h in
    let at = here f piece both_hold.0 in
    ap (λ (o : Option HeldNode). full_held (part_in o) now) at.1 ∙ ap (λ (part : Part). full_held part now) at.2 ∙ put_full _ piece.full now both_hold.1

-- nothing changes where the node is held and no full part is placed
pub stays_if_held : (f : Contents) (piece : Piece) → is_held f.nodes piece.name ≡ true → places_piece f piece ≡ false → after_taking f piece ≡ f
stays_if_held f piece held none = by_place _ refl
  where
    by_place : (b : Bool) → has_place f.nodes piece.name ≡ b → after_taking f piece ≡ f
    by_place false at = skipped f piece at
    by_place true at =
        let not_taken : takes_any (part_in (held_at f.nodes piece.name)) piece.full ≡ false = rw at at none in
        let same = taken_nodes f piece at ∙ taken_at_held (held_at f.nodes piece.name) f.nodes piece held ∙ sym (not_placed f.nodes piece.name piece.full not_taken) in
        ap (λ (ns : Nodes). record f { nodes = ns }) same

-- ---- owned nodes

is_own : (part : Part) (o : Option Full) → part_status part ≡ Owned → joined_part part o ≡ part
is_own (Own local version) None h = refl
is_own (Own local version) (Some full) h = refl
is_own (Copied full) o h = absurd (cc)
is_own Bare o h = absurd (cc)

owned_node : (listed : Bool) (o : Option HeldNode) → status_or listed o ≡ Some Owned → (node : HeldNode) × (o ≡ Some node) × (part_status node.part ≡ Owned)
owned_node listed (Some node) h = (node, refl, (cc))
owned_node true None h = absurd (cc)
owned_node false None h = absurd (cc)

owned_at : (nodes : Nodes) (piece : Piece) (name : List Label) (node : HeldNode) → held_at nodes name ≡ Some node → part_status node.part ≡ Owned → (o : Option HeldNode) → held_at nodes piece.name ≡ o
    → (b : Bool) → pointwise label_eq piece.name name ≡ b → held_at (taken_at o nodes piece) name ≡ held_at nodes name
owned_at nodes piece name node held own None at false apart = look_up_put nodes piece.name name _ ∙ ap (λ (b : Bool). cond b (Some (record { ids = piece.ids; part = joined_part Bare piece.full })) (held_at nodes name)) apart
owned_at nodes piece name node held own None at true same =
    let is = alike_exact piece.name name same in
    let bad = sym held ∙ subst (λ (n : List Label). held_at nodes n ≡ None) is at in
    absurd (cc)
owned_at nodes piece name node held own (Some old) at false apart =
    look_up_replaced nodes piece.name name (joined_part old.part piece.full)
    ∙ ap (λ (b : Bool). cond b (option_map (λ node. record { ids = node.ids; part = joined_part old.part piece.full }) (held_at nodes piece.name)) (held_at nodes name)) apart
owned_at nodes piece name node held own (Some old) at true same =
    let is = alike_exact piece.name name same in
    let one : old ≡ node = (let e = sym (subst (λ (n : List Label). held_at nodes n ≡ Some old) is at) ∙ held in cc) in
    let stays : joined_part old.part piece.full ≡ old.part = is_own old.part piece.full (ap (λ (n : HeldNode). part_status n.part) one ∙ own) in
    put_back nodes piece.name name (joined_part old.part piece.full) old node is at one stays ∙ sym held

-- an owned node stays, whatever piece is taken in
pub owned_stays : (f : Contents) (piece : Piece) (name : List Label) → status f name ≡ Some Owned → held_at (after_taking f piece).nodes name ≡ held_at f.nodes name
owned_stays f piece name h = by_place _ refl
  where
    by_place : (b : Bool) → has_place f.nodes piece.name ≡ b → held_at (after_taking f piece).nodes name ≡ held_at f.nodes name
    by_place false at = ap (λ (g : Contents). held_at g.nodes name) (skipped f piece at)
    by_place true at =
        let node = owned_node (is_listed f name) (held_at f.nodes name) h in
        ap (λ (ns : Nodes). held_at ns name) (taken_nodes f piece at) ∙ owned_at f.nodes piece name node.0 node.1 node.2 (held_at f.nodes piece.name) refl _ refl
