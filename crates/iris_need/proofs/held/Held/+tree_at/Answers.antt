use Rattle.std.proofs.Common.{◌≡◌, ◌∙◌, ◌++◌, ◌∷◌, [], List, sym, ap, refl, subst, arith}
use Rattle.iris_base.specs.declared.name.Label.{Label}
use Rattle.iris_tree.specs.Universe.{Node}
use Rattle.iris_need.specs.HeldParts.{held_part, IsHeldAt}
use Rattle.iris_need.specs.Program.{room}
use Rattle.iris_need.specs.Run.{no_local}
use Rattle.iris_need.proofs.Collected.{popped}
use Rattle.iris_need.proofs.Grown.{IsGrown, piece_ids, part_untold, part_last, grown_start, next_child, grown_before, grown_more, grown_done, room_of_child}
use Rattle.iris_need.proofs.held.Held.+tree_at.Goals as goal

pub returns-in_default-clause-tree : goal.returns-in_default-clause-tree
returns-in_default-clause-tree t c = λ document n held same.
    let empty : c.new.result ≡ no_local = λ i. record { attrs = c.new.ensures.attrs i; plain = c.new.ensures.plain i } in
    c.new-in_default.ensures ∙ part_untold document c.args.self.now.view.now c.args.self.now.needs.now c.args.name.now n c.args.label c.new.result held same empty c.in_default.ensures

pub returns-then-levels-eq0-clause-tree : goal.returns-then-levels-eq0-clause-tree
returns-then-levels-eq0-clause-tree t c = λ document n held same.
    c.new-tree.ensures
    ∙ part_last document c.args.self.now.view.now c.args.self.now.needs.now c.args.name.now n c.args.label c.in_ok-local_told.field-0 c.in-Some.level c.in-Some.piece.now c.args.levels held same c.in-Some.ensures.0 c.in-Some.ensures.1 c.in_ok-local_told.ensures c.requires.levels c.if-levels-eq0.true

pub loop-child-init : goal.loop-child-init
loop-child-init t c = record {
  tree = λ document n held same.
      subst (λ (tree : Node). IsGrown c.args.self.now.needs.now c.args.name.now n tree 0) (sym c.new-tree.ensures)
      (grown_start document c.args.self.now.view.now c.args.self.now.needs.now c.args.name.now n c.args.label c.in_ok-local_told.field-0 c.in-Some.level c.in-Some.piece.now held same c.in-Some.ensures.0 c.in-Some.ensures.1 c.in_ok-local_told.ensures);
  name = refl;
}

pub tree_at-requires : goal.tree_at-requires
tree_at-requires t c =
    let pushed : c.push.new.self ≡ c.args.name.now ++ c.child-item.result ∷ [] = c.in_ok-push.ensures.ok ∙ ap (λ (n : List Label). n ++ c.child-item.result ∷ []) c.loop-child.invariant.name in
    (omega (arith, c.decreases, c.if-levels-eq0.false), room_of_child c.args.levels c.args.name.now c.child-item.result c.requires.levels ∙ ap room (sym pushed))

pub loop-child-preserved : goal.loop-child-preserved
loop-child-preserved t c =
    let name = c.args.name.now in
    let view = c.args.self.now.view.now in
    let needs = c.args.self.now.needs.now in
    let pushed : c.push.new.self ≡ name ++ c.child-item.result ∷ [] = c.in_ok-push.ensures.ok ∙ ap (λ (n : List Label). n ++ c.child-item.result ∷ []) c.loop-child.invariant.name in
    record {
      tree = λ document n held same.
          let next = next_child document view needs name n c.as_slice-child-items.result.now c.loop-child.child-index c.child-item.result c.child-item.result held
          (c.as_slice-child-items.ensures ∙ piece_ids document view needs name n c.in-Some.level c.in-Some.piece.now held c.in-Some.ensures.0 c.in-Some.ensures.1) c.loop-child-test.true c.child-item.is in
          let below : c.in_ok-below.below ≡ held_part needs (name ++ c.child-item.result ∷ []) next.child =
          c.in_ok-below.ensures.tree document next.child (subst (λ (m : List Label). IsHeldAt document view needs m next.child) (sym pushed) next.held) next.label ∙ ap (λ (m : List Label). held_part needs m next.child) pushed in
          let grown = c.loop-child.invariant.tree document n held same in
          let added = c.in_ok-add_below.ensures (grown_before document view needs name n c.loop-child.tree c.in_ok-below.below c.loop-child.child-index c.child-item.result grown next below) in
          grown_more document view needs name n c.loop-child.tree c.add_below.new.tree c.in_ok-below.below c.loop-child.child-index c.child-item.result grown next below added.0 added.1 added.2;
      name = popped c.pop.result c.tree_at.new.name c.pop.new.self name c.child-item.result c.pop.ensures (c.in_ok-below.ensures.name ∙ pushed);
    }

pub returns-clause-tree : goal.returns-clause-tree
returns-clause-tree t c = λ document n held same.
    grown_done c.args.self.now.needs.now c.args.name.now n c.loop-child.tree c.as_slice-child-items.result.now c.in-Some.level c.loop-child.child-index c.in-Some.ensures.0
    (c.as_slice-child-items.ensures ∙ piece_ids document c.args.self.now.view.now c.args.self.now.needs.now c.args.name.now n c.in-Some.level c.in-Some.piece.now held c.in-Some.ensures.0 c.in-Some.ensures.1) c.loop-child-test.false (c.loop-child.invariant.tree document n held same)
