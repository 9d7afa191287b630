use Rattle.std.proofs.Common.{◌≡◌, ◌∙◌, ◌<◌, ◌-◌, ◌++◌, ◌∷◌, [], sym, ap, refl, rules, List, Some, None, true, arith}
use Rattle.iris_base.specs.declared.name.Label.{Label}
use Rattle.iris_base.specs.Attribute.{is_id}
use Rattle.iris_need.specs.declared.need.Need.{Need}
use Rattle.iris_need.specs.Program.{gather, attributes_from}
use Rattle.iris_need.specs.Walk.{given, marks_of, ends_after, FindsEnds}
use Rattle.iris_need.proofs.Collected.{popped, one_more, all_done}
use Rattle.iris_need.proofs.Ended.{below, here, from_none, from_last, from_more}
use Rattle.iris_need.proofs.Walked.{Ends, adding, no_ends, more_ends, ends_join, found_begin, found_more, found_end}
use Rattle.iris_need.proofs.walk.Walk.+attributes_from.Goals as goal

pub returns-in_default-clause-adds : goal.returns-in_default-clause-adds
returns-in_default-clause-adds t c =
    let none : given c.args.self.now (here (is_id c.args.sought.now.attribute.now) c.args.sought.now.attribute.now c.args.name.now c.args.label (marks_of c.args.sought.now.marks c.args.name.now)) ≡ None = search rules in
    c.in_ok-ids.ensures.adds ∙ sym (from_none c.args.self.now c.args.needs.now c.args.levels (marks_of c.args.sought.now.marks) c.args.sought.now.attribute.now c.args.name.now c.args.label none).0

pub returns-in_default-clause-gives : goal.returns-in_default-clause-gives
returns-in_default-clause-gives t c =
    let none : given c.args.self.now (here (is_id c.args.sought.now.attribute.now) c.args.sought.now.attribute.now c.args.name.now c.args.label (marks_of c.args.sought.now.marks c.args.name.now)) ≡ None = search rules in
    ap (ends_after c.args.ends.now.items) (sym (from_none c.args.self.now c.args.needs.now c.args.levels (marks_of c.args.sought.now.marks) c.args.sought.now.attribute.now c.args.name.now c.args.label none).1)

pub returns-then-levels-eq0-clause-adds : goal.returns-then-levels-eq0-clause-adds
returns-then-levels-eq0-clause-adds t c =
    let has : (found : Ends) × (given c.args.self.now (here (is_id c.args.sought.now.attribute.now) c.args.sought.now.attribute.now c.args.name.now c.args.label (marks_of c.args.sought.now.marks c.args.name.now)) ≡ Some (found, c.in-Some.ids.now)) × (c.see_attribute.new.ends.items ≡ c.args.ends.now.items ++ found) = search rules in
    c.in_ok-ids.ensures.adds ∙ sym (from_last c.args.self.now c.args.needs.now c.args.levels (marks_of c.args.sought.now.marks) c.args.sought.now.attribute.now c.args.name.now c.args.label has.0 c.in-Some.ids.now c.if-levels-eq0.true has.1).0

pub returns-then-levels-eq0-clause-gives : goal.returns-then-levels-eq0-clause-gives
returns-then-levels-eq0-clause-gives t c =
    let has : (found : Ends) × (given c.args.self.now (here (is_id c.args.sought.now.attribute.now) c.args.sought.now.attribute.now c.args.name.now c.args.label (marks_of c.args.sought.now.marks c.args.name.now)) ≡ Some (found, c.in-Some.ids.now)) × (c.see_attribute.new.ends.items ≡ c.args.ends.now.items ++ found) = search rules in
    more_ends c.args.ends.now.items c.see_attribute.new.ends.items has.0 has.2 ∙ ap (ends_after c.args.ends.now.items) (sym (from_last c.args.self.now c.args.needs.now c.args.levels (marks_of c.args.sought.now.marks) c.args.sought.now.attribute.now c.args.name.now c.args.label has.0 c.in-Some.ids.now c.if-levels-eq0.true has.1).1)

pub loop-child-init : goal.loop-child-init
loop-child-init t c = record {
  name = refl;
  adds = refl;
  gives = found_begin c.args.self.now FindsEnds (below c.args.levels (marks_of c.args.sought.now.marks) c.args.sought.now.attribute.now c.args.name.now) c.see_attribute.new.ends.items c.in-Some.ids.now (no_ends c.see_attribute.new.ends.items);
}

pub loop-child-preserved : goal.loop-child-preserved
loop-child-preserved t c =
    let w = c.args.self.now in
    let pushed : c.push.new.self ≡ c.args.name.now ++ c.child-item.result ∷ [] = c.in_ok-push.ensures.ok ∙ ap (λ (n : List Label). n ++ c.child-item.result ∷ []) c.loop-child.invariant.name in
    let adds : c.attributes_from.new.needs ≡ adding w c.loop-child.needs ((below c.args.levels (marks_of c.args.sought.now.marks) c.args.sought.now.attribute.now c.args.name.now) c.child-item.result) =
    c.in_ok-here.ensures.adds ∙ ap (λ (n : List Label). adding w c.loop-child.needs (attributes_from (c.args.levels - 1) (marks_of c.args.sought.now.marks) c.args.sought.now.attribute.now n c.child-item.result)) pushed in
    let gives : FindsEnds c.in_ok-here.here c.loop-child.ends.items c.attributes_from.new.ends.items (given w ((below c.args.levels (marks_of c.args.sought.now.marks) c.args.sought.now.attribute.now c.args.name.now) c.child-item.result)) =
    c.in_ok-here.ensures.gives ∙ ap (λ (n : List Label). ends_after c.loop-child.ends.items (given w (attributes_from (c.args.levels - 1) (marks_of c.args.sought.now.marks) c.args.sought.now.attribute.now n c.child-item.result))) pushed in
    record {
      name = popped c.pop.result c.attributes_from.new.name c.pop.new.self c.args.name.now c.child-item.result c.pop.ensures (c.in_ok-here.ensures.name ∙ pushed);
      adds = one_more w.takes w.above.now w.view.now (below c.args.levels (marks_of c.args.sought.now.marks) c.args.sought.now.attribute.now c.args.name.now) c.in-Some.ids.now c.loop-child.child-index c.child-item.result c.child-item.result c.loop-child.needs c.attributes_from.new.needs _ c.loop-child-test.true c.child-item.is adds c.loop-child.invariant.adds;
      gives = rw c.both_told-told.ensures (found_more w FindsEnds (below c.args.levels (marks_of c.args.sought.now.marks) c.args.sought.now.attribute.now c.args.name.now) c.loop-child.told c.in_ok-here.here c.see_attribute.new.ends.items c.loop-child.ends.items c.attributes_from.new.ends.items c.in-Some.ids.now c.loop-child.child-index c.child-item.result c.child-item.result c.loop-child-test.true c.child-item.is
          (ends_join c.loop-child.told c.in_ok-here.here c.see_attribute.new.ends.items c.loop-child.ends.items c.attributes_from.new.ends.items) c.loop-child.invariant.gives gives);
    }

pub returns-clause-name : goal.returns-clause-name
returns-clause-name t c = c.loop-child.invariant.name

pub returns-clause-adds : goal.returns-clause-adds
returns-clause-adds t c =
    let w = c.args.self.now in
    let has : (found : Ends) × (given w (here (is_id c.args.sought.now.attribute.now) c.args.sought.now.attribute.now c.args.name.now c.args.label (marks_of c.args.sought.now.marks c.args.name.now)) ≡ Some (found, c.in-Some.ids.now)) × (c.see_attribute.new.ends.items ≡ c.args.ends.now.items ++ found) = search rules in
    let more : 0 < c.args.levels = omega (arith, c.if-levels-eq0.false) in
    all_done w.takes w.above.now w.view.now (below c.args.levels (marks_of c.args.sought.now.marks) c.args.sought.now.attribute.now c.args.name.now) c.in-Some.ids.now c.loop-child.child-index c.loop-child.needs _ c.loop-child-test.false c.loop-child.invariant.adds
    ∙ ap (λ (ns : List Need). adding w ns (gather (below c.args.levels (marks_of c.args.sought.now.marks) c.args.sought.now.attribute.now c.args.name.now) c.in-Some.ids.now)) c.in_ok-ids.ensures.adds ∙ sym (from_more c.args.self.now c.args.needs.now c.args.levels (marks_of c.args.sought.now.marks) c.args.sought.now.attribute.now c.args.name.now c.args.label has.0 c.in-Some.ids.now more has.1).0

pub returns-clause-gives : goal.returns-clause-gives
returns-clause-gives t c =
    let w = c.args.self.now in
    let has : (found : Ends) × (given w (here (is_id c.args.sought.now.attribute.now) c.args.sought.now.attribute.now c.args.name.now c.args.label (marks_of c.args.sought.now.marks c.args.name.now)) ≡ Some (found, c.in-Some.ids.now)) × (c.see_attribute.new.ends.items ≡ c.args.ends.now.items ++ found) = search rules in
    let more : 0 < c.args.levels = omega (arith, c.if-levels-eq0.false) in
    ends_join true c.loop-child.told c.args.ends.now.items c.see_attribute.new.ends.items c.loop-child.ends.items (Some has.0) _
    (more_ends c.args.ends.now.items c.see_attribute.new.ends.items has.0 has.2)
    (found_end w FindsEnds (below c.args.levels (marks_of c.args.sought.now.marks) c.args.sought.now.attribute.now c.args.name.now) c.loop-child.told c.see_attribute.new.ends.items c.loop-child.ends.items c.in-Some.ids.now c.loop-child.child-index c.loop-child-test.false c.loop-child.invariant.gives)
    ∙ ap (ends_after c.args.ends.now.items) (sym (from_more c.args.self.now c.args.needs.now c.args.levels (marks_of c.args.sought.now.marks) c.args.sought.now.attribute.now c.args.name.now c.args.label has.0 c.in-Some.ids.now more has.1).1)
