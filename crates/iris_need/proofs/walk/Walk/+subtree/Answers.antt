use Rattle.std.proofs.Common.{◌≡◌, ◌∙◌, ◌<◌, ◌-◌, ◌++◌, ◌∷◌, [], sym, ap, refl, rules, List, Some, None, arith}
use Rattle.iris_base.specs.declared.name.Label.{Label}
use Rattle.iris_need.specs.declared.need.Need.{Need}
use Rattle.iris_need.specs.Program.{each, subtree}
use Rattle.iris_need.specs.Walk.{full_at}
use Rattle.iris_need.proofs.Collected.{popped, each_more, each_done}
use Rattle.iris_need.proofs.Walked.{adding, subtree_unknown, subtree_last, subtree_more}
use Rattle.iris_need.proofs.walk.Walk.+subtree.Goals as goal

pub returns-in_default-clause-adds : goal.returns-in_default-clause-adds
returns-in_default-clause-adds t c =
    let none : full_at c.args.self.now c.args.name.now ≡ None = search rules in
    c.in_ok-ids.ensures.look ∙ sym (subtree_unknown c.args.self.now c.args.needs.now c.args.levels c.args.label c.args.name.now none)

pub returns-then-levels-eq0-clause-adds : goal.returns-then-levels-eq0-clause-adds
returns-then-levels-eq0-clause-adds t c =
    let some : full_at c.args.self.now c.args.name.now ≡ Some (record { ids = c.in-Some.ids.now; local = c.in-Some.field-0-1.now }) = search rules in
    c.in_ok-ids.ensures.look ∙ sym (subtree_last c.args.self.now c.args.needs.now c.args.levels c.args.label c.args.name.now (record { ids = c.in-Some.ids.now; local = c.in-Some.field-0-1.now }) some c.if-levels-eq0.true)

pub loop-child-init : goal.loop-child-init
loop-child-init t c =
    let some : full_at c.args.self.now c.args.name.now ≡ Some (record { ids = c.in-Some.ids.now; local = c.in-Some.field-0-1.now }) = search rules in
    let more : 0 < c.args.levels = omega (arith, c.if-levels-eq0.false) in
    record {
      looks = ap (λ (ns : List Need). adding c.args.self.now ns (each (λ child. subtree (c.args.levels - 1) child (c.args.name.now ++ child ∷ [])) c.in-Some.ids.now)) c.in_ok-ids.ensures.look
          ∙ sym (subtree_more c.args.self.now c.args.needs.now c.args.levels c.args.label c.args.name.now (record { ids = c.in-Some.ids.now; local = c.in-Some.field-0-1.now }) some more);
      name = refl;
    }

pub loop-child-preserved : goal.loop-child-preserved
loop-child-preserved t c =
    let pushed : c.push.new.self ≡ c.args.name.now ++ c.child-item.result ∷ [] = c.in_ok-push.ensures.ok ∙ ap (λ (n : List Label). n ++ c.child-item.result ∷ []) c.loop-child.invariant.name in
    let looks : c.subtree.new.needs ≡ adding c.args.self.now c.loop-child.needs (subtree (c.args.levels - 1) c.child-item.result (c.args.name.now ++ c.child-item.result ∷ [])) =
    c.in_ok-subtree.ensures.adds ∙ ap (λ (n : List Label). adding c.args.self.now c.loop-child.needs (subtree (c.args.levels - 1) c.child-item.result n)) pushed in
    record {
      looks = each_more c.args.self.now.takes c.args.self.now.above.now c.args.self.now.view.now (λ child. subtree (c.args.levels - 1) child (c.args.name.now ++ child ∷ [])) c.in-Some.ids.now c.loop-child.child-index c.child-item.result c.child-item.result c.loop-child.needs c.subtree.new.needs _ c.loop-child-test.true c.child-item.is looks c.loop-child.invariant.looks;
      name = popped c.pop.result c.subtree.new.name c.pop.new.self c.args.name.now c.child-item.result c.pop.ensures (c.in_ok-subtree.ensures.name ∙ pushed);
    }

pub returns-clause-adds : goal.returns-clause-adds
returns-clause-adds t c = each_done c.args.self.now.takes c.args.self.now.above.now c.args.self.now.view.now (λ child. subtree (c.args.levels - 1) child (c.args.name.now ++ child ∷ [])) c.in-Some.ids.now c.loop-child.child-index c.loop-child.needs _ c.loop-child-test.false c.loop-child.invariant.looks
