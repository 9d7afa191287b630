use Rattle.std.proofs.Common.{◌≡◌, ◌∙◌, sym, rules, subst, Some, option_map}
use Rattle.iris_fragment.specs.declared.held.HeldNode.{HeldNode}
use Rattle.iris_fragment.specs.declared.held.Part.TheVariants.{Own, Bare}
use Rattle.iris_fragment.specs.Contents.{Nodes, held_at}
use Rattle.iris_fragment.specs.Changes.{released_part}
use Rattle.iris_fragment.proofs.Parts.{part_then, changed_part}
use Rattle.iris_fragment.specs.Shape.{IsRooted, HaveIdsOf}
use Rattle.iris_fragment.proofs.NodeChanges.{rooted_part, ids_part, part_of_city}
use Rattle.iris_fragment.proofs.fragment.Fragment.release.Goals as goal

pub invariant_of-self : goal.invariant_of-self
invariant_of-self c =
    subst (λ (ns : Nodes). IsRooted ns) (sym c.set_part.ensures) (rooted_part _ _ _ (subst (λ (ns : Nodes). IsRooted ns) (sym c.replace-part.ensures.nodes) (rooted_part _ _ _ c.self.invariant)))

pub returns-in-Some-Own-clause-of_city : goal.returns-in-Some-Own-clause-of_city
returns-in-Some-Own-clause-of_city c = λ city part.
    part_of_city city c.self.inside.top c.self.inside.nodes _ c.args.self.now c.self.view_is
    (λ h.
    subst (λ (ns : Nodes). HaveIdsOf city ns) (sym c.set_part.ensures)
    (ids_part city _ _ _ (subst (λ (ns : Nodes). HaveIdsOf city ns) (sym c.replace-part.ensures.nodes) (ids_part city _ _ _ h))))
    part

pub returns-in-Some-Own-clause-after : goal.returns-in-Some-Own-clause-after
returns-in-Some-Own-clause-after c =
    let own = Own c.in-Some-Own.local c.in-Some-Own.version in
    let was : option_map (λ (node : HeldNode). node.part) (held_at c.self.inside.nodes c.args.name.now) ≡ Some own =
    rw (← c.as_slice.ensures) (sym c.replace-part.ensures.part ∙ search rules) in
    changed_part (released_part c.args.now) c.self.inside.top c.self.inside.nodes c.set_part.new.self c.args.self.now c.args.name.now own c.self.view_is was
    (part_then c.self.inside.nodes c.replace-part.new.self c.set_part.new.self _ _ c.args.name.now Bare _ c.as_slice.ensures c.as_slice-in-Some-Own.ensures c.replace-part.ensures.nodes c.set_part.ensures)
