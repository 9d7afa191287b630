use Rattle.std.proofs.Common.{◌≡◌, [], ◌∷◌, ◌++◌, drop}
use Rattle.iris_tree.specs.Universe.{label_of, nodes_of}
use Rattle.iris_tree.specs.NodeCode.{size_of}
use Rattle.iris_start.specs.Pieces.{own_full, pieces_among}
use Rattle.iris_start.proofs.pieces.+put_pieces.Given as goal

abbrev pub decreases-put_pieces : goal.decreases-put_pieces
decreases-put_pieces l = size_of l.node.now

-- the pieces so far, and then those of the children that are left, are all that are put in
abbrev pub invariant-loop-child : goal.invariant-loop-child
invariant-loop-child l = record {
  so_far : l.pieces.items ++ pieces_among (own_full l.registry l.book.history l.id) (l.path ++ label_of l.node ∷ []) (nodes_of (drop l.child-index l.child-items))
      ≡ l.initial.pieces.items ++ pieces_among (own_full l.registry l.book.history l.id) (l.path ++ label_of l.node ∷ []) (nodes_of l.child-items);
}
