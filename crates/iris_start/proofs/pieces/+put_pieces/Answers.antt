use Rattle.std.proofs.Common.{◌≡◌, ◌+◌, ◌∙◌, [], ◌∷◌, ◌++◌, ℕ, List, length, take, Option, inl, inr, refl, sym, ap, arith}
use Rattle.iris_base.specs.declared.name.Label.{Label}
use Rattle.iris_tree.specs.Universe.{Node, label_of, labels_of, nodes_of}
use Rattle.iris_tree.specs.NodeCode.{size_of-found}
use Rattle.iris_fragment.specs.declared.piece.Full.{Full}
use Rattle.iris_fragment.specs.declared.piece.Piece.{Piece}
use Rattle.iris_start.specs.Pieces.{own_full, pieces_among}
use Rattle.iris_start.proofs.Added.{no_child, own_piece, below_of, put_lone, put_whole}
use Rattle.iris_start.proofs.pieces.+put_pieces.Goals.{then-not-owned+then-len-place, else-not-owned, else-not-owned-via-then-not-owned+else-len-place, else-not-owned-via-else-not-owned}
use Rattle.iris_start.proofs.pieces.+put_pieces.Goals as goal

pub put_pieces-requires : goal.put_pieces-requires
put_pieces-requires t c = (size_of-found _ _ _ _ _ c.children-child-items.ensures.value c.loop-child-test.true c.child-item.is c.decreases, tt)

pub returns-clause-pieces : goal.returns-clause-pieces
returns-clause-pieces t c =
    let full : List Label → Option Full = own_full c.args.registry.now c.args.book.now.history c.args.id.now in
    let path : List Label = c.args.path.now in
    let n : Node = c.args.node.now in
    let old : List Piece = c.args.pieces.now.items in
    let own : Piece = record { name = c.in_ok-copy.field-0; ids = c.in_ok-ids.ids; full = c.in_ok-full.full } in
    let named : c.in_ok-name.name ≡ path ++ label_of n ∷ [] = c.in_ok-name.ensures ∙ ap (λ (l : Label). path ++ l ∷ []) c.label.ensures in
    let copied : c.in_ok-copy.field-0 ≡ path ++ label_of n ∷ [] = c.in_ok-copy.ensures ∙ named in
    let ids : c.in_ok-ids.ids ≡ labels_of _ = c.in_ok-ids.ensures ∙ ap labels_of c.children.ensures.value in
    let value : c.in_ok-full.full ≡ full (path ++ label_of n ∷ []) = c.in_ok-full.ensures ∙ ap full named in
    let is : own ≡ own_piece full path n = λ i. record { name = copied i; ids = ids i; full = value i } in
    let last : List Piece = c.loop-child.pieces.items in
    let cs : List Node = c.children-child-items.result.now in
    let all : last ≡ (old ++ own ∷ []) ++ below_of full path n =
    no_child full (path ++ label_of n ∷ []) cs c.loop-child.child-index c.push.new.self.items last c.loop-child-test.false c.loop-child.invariant.so_far
    ∙ (λ i. c.in_ok-push.ensures.items i ++ pieces_among full (path ++ label_of n ∷ []) (nodes_of (c.children-child-items.ensures.value i))) in
    let place : c.len-place.result ≡ length old = c.len-place.ensures ∙ c.args.pieces.now.ok.0 in
    let next : c.len-place.result + 1 ≡ length old + 1 = ap (λ (k : ℕ). k + 1) place in
    elim c.if-not-owned.branch [
      | then-not-owned+then-len-place w ↦
          ap (λ v. v.items) w.pieces-is ∙ w.truncate.ensures.items ∙ ap (λ (k : ℕ). take k last) place
          ∙ put_lone full path n old last own is all (sym c.is_some-owned.ensures ∙ w.if-not-owned.true) (sym (w.len.ensures ∙ c.loop-child.pieces.ok.0) ∙ w.if-len-place.true ∙ next)
      | else-not-owned w ↦ ap (λ v. v.items) w.pieces-is ∙ put_whole full path n old last own is all (elim w.else-not-owned.branch [
        | else-not-owned-via-then-not-owned+else-len-place x ↦ inr (λ one. x.if-len-place.false (x.len.ensures ∙ c.loop-child.pieces.ok.0 ∙ one ∙ sym next))
        | else-not-owned-via-else-not-owned x ↦ inl (sym c.is_some-owned.ensures ∙ x.if-not-owned.false)
      ])
    ]
