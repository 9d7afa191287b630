use Rattle.std.proofs.Common.{◌≡◌, ◌∙◌, ◌++◌, ◌∷◌, [], sym, ap, rules, List, Some, None}
use Rattle.iris_base.specs.declared.state.State.{State}
use Rattle.iris_base.specs.Attribute.{is_id}
use Rattle.iris_fragment.specs.declared.piece.Level.TheVariants.{Ids, Full}
use Rattle.iris_need.specs.Walk.{look_added, ids_at, full_at, marks_of}
use Rattle.iris_tree.specs.Attrs.{value_of}
use Rattle.iris_xpath.specs.Places.{element_paths}
use Rattle.iris_need.specs.Program.{some_end, element_ends}
use Rattle.iris_need.proofs.Ended.{here_no_ids, here_id, here_no_full, here_full, here_found}
use Rattle.iris_need.proofs.walk.Walk.see_attribute.Goals as goal

pub returns-in_default-clause-adds : goal.returns-in_default-clause-adds
returns-in_default-clause-adds c =
    let none : ids_at c.args.self.now c.args.name.now ≡ None = search rules in
    c.in_ok-ids.ensures.look ∙ ap (λ (ss : List State). look_added c.args.self.now c.args.needs.now (record { name = c.args.name.now; level = Ids; states = ss })) c.state_at-state.ensures ∙ sym (here_no_ids c.args.self.now c.args.needs.now (is_id c.args.sought.now.attribute.now) c.args.sought.now.attribute.now c.args.name.now c.args.label (marks_of c.args.sought.now.marks c.args.name.now) (sym c.is_id.ensures ∙ c.if-is_id.true) none).0

pub returns-in_default-clause-gives : goal.returns-in_default-clause-gives
returns-in_default-clause-gives c =
    let none : ids_at c.args.self.now c.args.name.now ≡ None = search rules in
    (here_no_ids c.args.self.now c.args.needs.now (is_id c.args.sought.now.attribute.now) c.args.sought.now.attribute.now c.args.name.now c.args.label (marks_of c.args.sought.now.marks c.args.name.now) (sym c.is_id.ensures ∙ c.if-is_id.true) none).1

pub returns-then-is_id-clause-adds : goal.returns-then-is_id-clause-adds
returns-then-is_id-clause-adds c =
    let some : ids_at c.args.self.now c.args.name.now ≡ Some c.in-Some.ids.now = search rules in
    c.in_ok-ids.ensures.look ∙ ap (λ (ss : List State). look_added c.args.self.now c.args.needs.now (record { name = c.args.name.now; level = Ids; states = ss })) c.state_at-state.ensures ∙ sym (here_id c.args.self.now c.args.needs.now (is_id c.args.sought.now.attribute.now) c.args.sought.now.attribute.now c.args.name.now c.args.label (marks_of c.args.sought.now.marks c.args.name.now) c.in-Some.ids.now (sym c.is_id.ensures ∙ c.if-is_id.true) some).0

pub returns-then-is_id-clause-gives : goal.returns-then-is_id-clause-gives
returns-then-is_id-clause-gives c =
    let some : ids_at c.args.self.now c.args.name.now ≡ Some c.in-Some.ids.now = search rules in
    (Some c.args.label.id ∷ [], (here_id c.args.self.now c.args.needs.now (is_id c.args.sought.now.attribute.now) c.args.sought.now.attribute.now c.args.name.now c.args.label (marks_of c.args.sought.now.marks c.args.name.now) c.in-Some.ids.now (sym c.is_id.ensures ∙ c.if-is_id.true) some).1, c.in_ok-add_id.ensures)

pub returns-in_default-2-clause-adds : goal.returns-in_default-2-clause-adds
returns-in_default-2-clause-adds c =
    let none : full_at c.args.self.now c.args.name.now ≡ None = search rules in
    c.in_ok-ids-2.ensures.look ∙ ap (λ (ss : List State). look_added c.args.self.now c.args.needs.now (record { name = c.args.name.now; level = Full; states = ss })) c.state_at-state.ensures ∙ sym (here_no_full c.args.self.now c.args.needs.now (is_id c.args.sought.now.attribute.now) c.args.sought.now.attribute.now c.args.name.now c.args.label (marks_of c.args.sought.now.marks c.args.name.now) (sym c.is_id.ensures ∙ c.if-is_id.false) none).0

pub returns-in_default-2-clause-gives : goal.returns-in_default-2-clause-gives
returns-in_default-2-clause-gives c =
    let none : full_at c.args.self.now c.args.name.now ≡ None = search rules in
    (here_no_full c.args.self.now c.args.needs.now (is_id c.args.sought.now.attribute.now) c.args.sought.now.attribute.now c.args.name.now c.args.label (marks_of c.args.sought.now.marks c.args.name.now) (sym c.is_id.ensures ∙ c.if-is_id.false) none).1

pub returns-clause-adds : goal.returns-clause-adds
returns-clause-adds c =
    let some : full_at c.args.self.now c.args.name.now ≡ Some (record { ids = c.in-Some-2.ids.now; local = c.in-Some-2.local.now }) = search rules in
    c.in_ok-ids-2.ensures.look ∙ ap (λ (ss : List State). look_added c.args.self.now c.args.needs.now (record { name = c.args.name.now; level = Full; states = ss })) c.state_at-state.ensures ∙ sym (here_full c.args.self.now c.args.needs.now (is_id c.args.sought.now.attribute.now) c.args.sought.now.attribute.now c.args.name.now c.args.label (marks_of c.args.sought.now.marks c.args.name.now) _ (sym c.is_id.ensures ∙ c.if-is_id.false) some).0

pub returns-clause-gives : goal.returns-clause-gives
returns-clause-gives c =
    let some : full_at c.args.self.now c.args.name.now ≡ Some (record { ids = c.in-Some-2.ids.now; local = c.in-Some-2.local.now }) = search rules in (
      some_end (value_of c.in-Some-2.local.now.attrs c.args.sought.now.attribute.now) ++ element_ends c.args.sought.now.attribute.now c.in-Some-2.local.now (element_paths c.in-Some-2.local.now),
      (here_full c.args.self.now c.args.needs.now (is_id c.args.sought.now.attribute.now) c.args.sought.now.attribute.now c.args.name.now c.args.label (marks_of c.args.sought.now.marks c.args.name.now) _ (sym c.is_id.ensures ∙ c.if-is_id.false) some).1,
      here_found c.args.sought.now.attribute.now c.in-Some-2.local.now c.args.ends.now.items c.add_own.new.ends.items c.add_attributes_below.new.ends.items c.in_ok-add_own.ensures c.in_ok-add_attributes_below.ensures,
    )
