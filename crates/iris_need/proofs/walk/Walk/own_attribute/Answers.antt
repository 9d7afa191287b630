use Rattle.std.proofs.Common.{◌≡◌, ◌∙◌, ◌∷◌, [], sym, ap, rules, List, Some, None}
use Rattle.iris_base.specs.declared.state.State.{State}
use Rattle.iris_base.specs.Attribute.{is_id}
use Rattle.iris_fragment.specs.declared.piece.Level.TheVariants.{Full}
use Rattle.iris_need.specs.Walk.{look_added, full_at, marks_of, ends_after}
use Rattle.iris_need.proofs.Ended.{own_id, own_unknown, own_known}
use Rattle.iris_need.proofs.Walked.{more_ends}
use Rattle.iris_need.proofs.walk.Walk.own_attribute.Goals as goal

pub returns-then-is_id-clause-adds : goal.returns-then-is_id-clause-adds
returns-then-is_id-clause-adds c = sym (own_id c.args.self.now c.args.needs.now (is_id c.args.sought.now.attribute.now) (marks_of c.args.sought.now.marks) c.args.sought.now.attribute.now c.args.name.now c.args.label (sym c.is_id.ensures ∙ c.if-is_id.true)).0

pub returns-then-is_id-clause-gives : goal.returns-then-is_id-clause-gives
returns-then-is_id-clause-gives c =
    more_ends c.args.ends.now.items c.add_id.new.ends.items (Some c.args.label.id ∷ []) c.in_ok-add_id.ensures
    ∙ ap (ends_after c.args.ends.now.items) (sym (own_id c.args.self.now c.args.needs.now (is_id c.args.sought.now.attribute.now) (marks_of c.args.sought.now.marks) c.args.sought.now.attribute.now c.args.name.now c.args.label (sym c.is_id.ensures ∙ c.if-is_id.true)).1)

pub returns-in_default-clause-adds : goal.returns-in_default-clause-adds
returns-in_default-clause-adds c =
    let none : full_at c.args.self.now c.args.name.now ≡ None = search rules in
    c.in_ok-local.ensures.look ∙ ap (λ (ss : List State). look_added c.args.self.now c.args.needs.now (record { name = c.args.name.now; level = Full; states = ss })) c.state_at-state.ensures
    ∙ sym (own_unknown c.args.self.now c.args.needs.now (is_id c.args.sought.now.attribute.now) (marks_of c.args.sought.now.marks) c.args.sought.now.attribute.now c.args.name.now c.args.label (sym c.is_id.ensures ∙ c.if-is_id.false) none).0

pub returns-in_default-clause-gives : goal.returns-in_default-clause-gives
returns-in_default-clause-gives c =
    let none : full_at c.args.self.now c.args.name.now ≡ None = search rules in
    ap (ends_after c.args.ends.now.items) (sym (own_unknown c.args.self.now c.args.needs.now (is_id c.args.sought.now.attribute.now) (marks_of c.args.sought.now.marks) c.args.sought.now.attribute.now c.args.name.now c.args.label (sym c.is_id.ensures ∙ c.if-is_id.false) none).1)

pub returns-clause-adds : goal.returns-clause-adds
returns-clause-adds c =
    let some : full_at c.args.self.now c.args.name.now ≡ Some (record { ids = c.in-Some.field-0-0.now; local = c.in-Some.local.now }) = search rules in
    c.in_ok-local.ensures.look ∙ ap (λ (ss : List State). look_added c.args.self.now c.args.needs.now (record { name = c.args.name.now; level = Full; states = ss })) c.state_at-state.ensures
    ∙ sym (own_known c.args.self.now c.args.needs.now (is_id c.args.sought.now.attribute.now) (marks_of c.args.sought.now.marks) c.args.sought.now.attribute.now c.args.name.now c.args.label _ (sym c.is_id.ensures ∙ c.if-is_id.false) some).0

pub returns-clause-gives : goal.returns-clause-gives
returns-clause-gives c =
    let some : full_at c.args.self.now c.args.name.now ≡ Some (record { ids = c.in-Some.field-0-0.now; local = c.in-Some.local.now }) = search rules in
    more_ends c.args.ends.now.items c.add_own.new.ends.items _ c.in_ok-add_own.ensures
    ∙ ap (ends_after c.args.ends.now.items) (sym (own_known c.args.self.now c.args.needs.now (is_id c.args.sought.now.attribute.now) (marks_of c.args.sought.now.marks) c.args.sought.now.attribute.now c.args.name.now c.args.label _ (sym c.is_id.ensures ∙ c.if-is_id.false) some).1)
