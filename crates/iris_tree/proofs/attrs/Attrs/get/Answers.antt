use Rattle.std.proofs.Common.{◌∙◌, sym, ap, refl, List, ℕ, Some}
use Rattle.iris_tree.specs.Attrs.{Pairs, value_of}
use Rattle.iris_tree.proofs.AttrPlaces.{stands_at_same, would_stand_at_same, value_of-there, value_of-absent}
use Rattle.iris_tree.proofs.attrs.Attrs.get.Goals as goal

pub returns-in-Ok : goal.returns-in-Ok
returns-in-Ok c =
    let items = c.self.inside.pairs.items in
    let there = stands_at_same _ items _ _ c.in-Ok.at c.deref.ensures.value refl c.in-Ok.ensures.there in
    ap Some c.as_str.ensures ∙ ap (λ (p : List ℕ × List ℕ). Some p.1) c.index.ensures
    ∙ sym (value_of-there items c.args.name.now c.in-Ok.at c.index.result.now there) ∙ ap (λ (ps : Pairs). value_of ps c.args.name.now) c.self.view_is

pub returns-in-Err : goal.returns-in-Err
returns-in-Err c =
    let items = c.self.inside.pairs.items in
    let absent = would_stand_at_same _ items _ _ c.in-Err.field-0 c.deref.ensures.value refl c.in-Err.ensures.absent in
    sym (value_of-absent items c.args.name.now c.in-Err.field-0 c.self.invariant absent) ∙ ap (λ (ps : Pairs). value_of ps c.args.name.now) c.self.view_is
