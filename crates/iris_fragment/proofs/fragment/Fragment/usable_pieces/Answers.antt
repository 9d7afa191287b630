use Rattle.std.proofs.Common.{◌≡◌, ◌∙◌, sym, ap, rules, List, [], ◌∷◌, ◌++◌, map, filter_map}
use Rattle.std.specs.Map.Iter.{deref_pair}
use Rattle.std.proofs.lemmas.List.{map-append}
use Rattle.std.proofs.lemmas.Map.Iter.{iter_end}
use Rattle.iris_fragment.specs.declared.piece.Piece.{Piece}
use Rattle.iris_base.specs.declared.name.Label.{Label}
use Rattle.iris_fragment.specs.declared.held.HeldNode.{HeldNode}
use Rattle.iris_fragment.specs.Contents.{Nodes}
use Rattle.iris_fragment.specs.Stored.{entries_named}
use Rattle.iris_fragment.specs.Usable.{usable_piece, usable_pieces}
use Rattle.iris_fragment.proofs.Parts.{one_more_piece, names_of_pieces}
use Rattle.iris_fragment.proofs.fragment.Fragment.usable_pieces.Goals as goal

pub loop-name-preserved : goal.loop-name-preserved
loop-name-preserved c =
    let h = usable_piece c.args.floor c.args.now in
    let node : List Label × HeldNode = (c.in-Some.name.now.items, c.in-Some.node.now) in
    let so_far = entries_named (map deref_pair c.loop-name.yielded) in
    let more : entries_named (map deref_pair (c.loop-name.yielded ++ (c.in-Some.name, c.in-Some.node) ∷ [])) ≡ so_far ++ node ∷ [] = simp map-append in
    let gives : c.in_ok-piece.piece ≡ usable_piece c.args.floor c.args.now node = search rules in
    c.in_ok-add.ensures ∙ one_more_piece h so_far node c.loop-name.pieces.items c.in_ok-piece.piece gives c.loop-name.invariant ∙ ap (λ (ns : Nodes). filter_map h ns) (sym more)

pub returns-clause-names : goal.returns-clause-names
returns-clause-names c =
    let all : c.loop-name.pieces.items ≡ usable_pieces c.args.self.now c.args.floor c.args.now = search (rules, iter_end) in
    ap (λ (ps : List Piece). map (λ piece. piece.name) ps) all ∙ names_of_pieces c.args.floor c.args.now c.args.self.now.nodes
