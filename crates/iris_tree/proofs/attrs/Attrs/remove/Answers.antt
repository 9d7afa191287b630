use Rattle.std.proofs.Common.{◌∙◌, sym, ap, subst, is_some}
use Rattle.iris_tree.specs.Attrs.{Pairs, value_of, without_attr, AreInNameOrder}
use Rattle.iris_tree.proofs.AttrPlaces.{stands_at_same, would_stand_at_same, value_of-there, value_of-absent, without_attr-there, without_attr-absent, ordered_without}
use Rattle.iris_tree.proofs.attrs.Attrs.remove.Goals as goal

pub returns-in_default-clause-was : goal.returns-in_default-clause-was
returns-in_default-clause-was c =
    let items = c.self.inside.pairs.items in
    let absent = would_stand_at_same _ items _ c.args.name.now c.in_default.field-0 c.deref.ensures.value c.as_str.ensures.value c.in_default.ensures.absent in
    sym (ap is_some (value_of-absent items c.args.name.now c.in_default.field-0 c.self.invariant absent)) ∙ ap (λ (ps : Pairs). is_some (value_of ps c.args.name.now)) c.self.view_is

pub returns-in_default-clause-attrs : goal.returns-in_default-clause-attrs
returns-in_default-clause-attrs c =
    let items = c.self.inside.pairs.items in
    let absent = would_stand_at_same _ items _ c.args.name.now c.in_default.field-0 c.deref.ensures.value c.as_str.ensures.value c.in_default.ensures.absent in
    sym c.self.view_is ∙ sym (without_attr-absent items c.args.name.now c.in_default.field-0 c.self.invariant absent) ∙ ap (λ (ps : Pairs). without_attr ps c.args.name.now) c.self.view_is

pub invariant_of-self : goal.invariant_of-self
invariant_of-self c =
    let items = c.self.inside.pairs.items in
    let there = stands_at_same _ items _ c.args.name.now c.in-Ok.at c.deref.ensures.value c.as_str.ensures.value c.in-Ok.ensures.there in
    subst (λ (ps : Pairs). AreInNameOrder ps) (sym c.remove.ensures.items) (ordered_without items c.in-Ok.at there.0 c.self.invariant)

pub returns-clause-was : goal.returns-clause-was
returns-clause-was c =
    let items = c.self.inside.pairs.items in
    let there = stands_at_same _ items _ c.args.name.now c.in-Ok.at c.deref.ensures.value c.as_str.ensures.value c.in-Ok.ensures.there in
    sym (ap is_some (value_of-there items c.args.name.now c.in-Ok.at c.remove.result there)) ∙ ap (λ (ps : Pairs). is_some (value_of ps c.args.name.now)) c.self.view_is

pub returns-clause-attrs : goal.returns-clause-attrs
returns-clause-attrs c =
    let items = c.self.inside.pairs.items in
    let there = stands_at_same _ items _ c.args.name.now c.in-Ok.at c.deref.ensures.value c.as_str.ensures.value c.in-Ok.ensures.there in
    c.remove.ensures.items ∙ sym (without_attr-there items c.args.name.now c.in-Ok.at there) ∙ ap (λ (ps : Pairs). without_attr ps c.args.name.now) c.self.view_is
