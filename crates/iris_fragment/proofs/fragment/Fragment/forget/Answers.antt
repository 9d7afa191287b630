use Rattle.std.proofs.Common.{◌≡◌, ◌∙◌, sym, ap, rules, subst, List, true, false}
use Rattle.iris_base.specs.declared.name.Label.{Label}
use Rattle.iris_fragment.specs.declared.held.Part.TheVariants.{Bare}
use Rattle.iris_fragment.specs.Contents.{Nodes, Contents, is_held, status}
use Rattle.iris_fragment.specs.Changes.{has_child, with_part, without_node}
use Rattle.iris_fragment.specs.Shape.{IsRooted, HaveIdsOf, IsFragmentOf}
use Rattle.iris_fragment.proofs.NodeChanges.{rooted_part, rooted_without, ids_part, ids_without, part_of_city}
use Rattle.iris_fragment.proofs.Cities.{status_bare, status_left}
use Rattle.iris_fragment.proofs.fragment.Fragment.forget.Goals as goal

pub invariant_of-self : goal.invariant_of-self
invariant_of-self c = subst (λ (ns : Nodes). IsRooted ns) (sym c.set_part.ensures) (rooted_part _ _ _ c.self.invariant)

pub invariant_of-self-2 : goal.invariant_of-self-2
invariant_of-self-2 c =
    let none : has_child c.self.inside.nodes c.as_slice-2.result.now ≡ false = search rules in
    subst (λ (ns : Nodes). IsRooted ns) (sym c.remove.ensures.nodes) (rooted_without _ _ c.remove.ensures.was_ordered none c.self.invariant)

pub returns-then-has_child-clause-of_city : goal.returns-then-has_child-clause-of_city
returns-then-has_child-clause-of_city c = λ city part.
    part_of_city city c.self.inside.top c.self.inside.nodes _ c.args.self.now c.self.view_is
    (λ h. subst (λ (ns : Nodes). HaveIdsOf city ns) (sym c.set_part.ensures) (ids_part city _ _ _ h)) part

pub returns-clause-of_city : goal.returns-clause-of_city
returns-clause-of_city c = λ city part.
    part_of_city city c.self.inside.top c.self.inside.nodes _ c.args.self.now c.self.view_is
    (λ h. subst (λ (ns : Nodes). HaveIdsOf city ns) (sym c.remove.ensures.nodes) (ids_without city _ _ c.remove.ensures.was_ordered h)) part

pub returns-then-has_child-clause-known : goal.returns-then-has_child-clause-known
returns-then-has_child-clause-known c = λ city part.
    let held = subst (λ (f : Contents). is_held f.nodes c.args.name.now ≡ true) (sym c.self.view_is) c.requires in
    let after = subst (λ (n : List Label). c.set_part.new.self ≡ with_part c.self.inside.nodes n Bare) c.as_slice-then-has_child.ensures c.set_part.ensures in
    ap (λ (ns : Nodes). status (record { top = c.self.inside.top; nodes = ns }) c.args.name.now) after ∙ status_bare c.self.inside.top c.self.inside.nodes c.args.name.now held

pub returns-clause-known : goal.returns-clause-known
returns-clause-known c = λ city part.
    let held = subst (λ (f : Contents). is_held f.nodes c.args.name.now ≡ true) (sym c.self.view_is) c.requires in
    let was = subst (λ (f : Contents). IsFragmentOf city f) (sym c.self.view_is) part in
    let none = subst (λ (n : List Label). has_child c.self.inside.nodes n ≡ false) c.as_slice.ensures (sym c.has_child.ensures ∙ c.if-has_child.false) in
    let after = subst (λ (n : List Label). c.remove.new.self ≡ without_node c.self.inside.nodes n) c.as_slice-2.ensures c.remove.ensures.nodes in
    ap (λ (ns : Nodes). status (record { top = c.self.inside.top; nodes = ns }) c.args.name.now) after
    ∙ status_left city c.self.inside.top c.self.inside.nodes c.args.name.now was c.remove.ensures.was_ordered c.self.invariant held none
