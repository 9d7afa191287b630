use Rattle.std.proofs.Common.{◌≡◌, ◌<◌, ◌∙◌, List, [], ◌∷◌, ◌++◌, ap, subst, refl, length, get_or, ◌≤◌, rules}
use Rattle.iris_tree.specs.NodeCode.{size_of-found}
use Rattle.iris_tree.specs.Universe.{Node, label_of, children_of}
use Rattle.iris_base.specs.declared.name.Label.{Label}
use Rattle.iris_xpath.specs.Walk.{names_from}
use Rattle.iris_select.proofs.Marking.{all_start, all_step, all_end, popped}
use Rattle.iris_select.proofs.marks.+add_all.Goals as goal

pub loop-child-init : goal.loop-child-init
loop-child-init t c =
    let pushed : c.push.new.self.items ≡ c.args.full.now.items ++ c.args.name.now ∷ [] = search rules in
    record { name = refl; full = all_start c.args.name.now c.args.node.now c.args.full.now.items c.push.new.self.items pushed }

pub add_all-requires : goal.add_all-requires
add_all-requires t c = (size_of-found _ _ _ _ _ c.children-child-items.ensures.value c.loop-child-test.true c.child-item.is c.decreases, tt)

pub loop-child-preserved : goal.loop-child-preserved
loop-child-preserved t c =
    let child = c.child-item.result in
    let ns = c.children-child-items.ensures.value in
    let pushed : c.push-in-loop-child.new.self ≡ c.args.name.now ++ label_of child ∷ [] =
    c.in_ok-push-2.ensures.ok ∙ ap (λ (m : List Label). m ++ c.label.result.now ∷ []) c.loop-child.invariant.name ∙ ap (λ (l : Label). c.args.name.now ++ l ∷ []) c.label.ensures in
    record {
      name = popped c.pop.result c.add_all.new.name c.pop.new.self c.args.name.now (label_of child) c.pop.ensures (c.in_ok-add_all.ensures.name ∙ pushed);
      full = all_step c.args.name.now (children_of c.args.node.now) c.loop-child.child-index child c.loop-child.full.items c.add_all.new.full.items _ (subst (λ (ms : List Node). c.loop-child.child-index < length ms) ns c.loop-child-test.true)
          (c.child-item.is ∙ ap (λ (ms : List Node). get_or ms c.loop-child.child-index child) ns) (c.in_ok-add_all.ensures.full ∙ ap (λ (m : List Label). c.loop-child.full.items ++ names_from m child) pushed) c.loop-child.invariant.full;
    }

pub returns-clause-full : goal.returns-clause-full
returns-clause-full t c =
    let past = subst (λ (ns : List Node). length ns ≤ c.loop-child.child-index) c.children-child-items.ensures.value c.loop-child-test.false in
    all_end c.args.name.now _ c.loop-child.child-index c.loop-child.full.items _ past c.loop-child.invariant.full
