use Rattle.std.proofs.Common.{◌∙◌, sym, ap, subst, List, ℕ}
use Rattle.std.specs.Prelude.{slice_set}
use Rattle.iris_tree.specs.Attrs.{Pairs, with_attr, AreInNameOrder}
use Rattle.iris_tree.proofs.AttrPlaces.{stands_at_same, would_stand_at_same, with_attr-there, with_attr-absent, ordered_with_value, ordered_with_new}
use Rattle.iris_tree.proofs.attrs.Attrs.insert.Goals as goal

pub invariant_of-self : goal.invariant_of-self
invariant_of-self c =
    let items = c.self.inside.pairs.items in
    subst (λ (p : List ℕ × List ℕ). AreInNameOrder (slice_set items c.in-Ok.at (p.0, c.args.value))) (sym c.index_mut.ensures.value)
    (ordered_with_value items c.in-Ok.at c.args.value c.index_mut.result.now c.self.invariant)

pub invariant_of-self-in-Continue-1 : goal.invariant_of-self-in-Continue-1
invariant_of-self-in-Continue-1 c =
    let items = c.self.inside.pairs.items in
    let absent = would_stand_at_same _ items _ c.args.name c.in-Err.at c.deref.ensures.value c.as_str.ensures.value c.in-Err.ensures.absent in
    subst (λ (ps : Pairs). AreInNameOrder ps) (sym c.in_ok-insert-in-Err.ensures.items) (ordered_with_new items c.args.name c.args.value c.in-Err.at c.self.invariant absent)

pub returns-in-Ok-clause-ok : goal.returns-in-Ok-clause-ok
returns-in-Ok-clause-ok c =
    let items = c.self.inside.pairs.items in
    let there = stands_at_same _ items _ c.args.name c.in-Ok.at c.deref.ensures.value c.as_str.ensures.value c.in-Ok.ensures.there in
    ap (λ (p : List ℕ × List ℕ). slice_set items c.in-Ok.at (p.0, c.args.value)) c.index_mut.ensures.value
    ∙ sym (with_attr-there items c.args.name c.args.value c.in-Ok.at c.index_mut.result.now there) ∙ ap (λ (ps : Pairs). with_attr ps c.args.name c.args.value) c.self.view_is

pub returns-in_ok-insert-in-Err-clause-ok : goal.returns-in_ok-insert-in-Err-clause-ok
returns-in_ok-insert-in-Err-clause-ok c =
    let items = c.self.inside.pairs.items in
    let absent = would_stand_at_same _ items _ c.args.name c.in-Err.at c.deref.ensures.value c.as_str.ensures.value c.in-Err.ensures.absent in
    c.in_ok-insert-in-Err.ensures.items ∙ sym (with_attr-absent items c.args.name c.args.value c.in-Err.at absent) ∙ ap (λ (ps : Pairs). with_attr ps c.args.name c.args.value) c.self.view_is
