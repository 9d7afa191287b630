use Rattle.std.proofs.Common.{sym, subst}
use Rattle.iris_fragment.specs.Contents.{Nodes}
use Rattle.iris_fragment.specs.Shape.{IsRooted, HaveIdsOf}
use Rattle.iris_fragment.proofs.NodeChanges.{rooted_part, ids_part, part_of_city}
use Rattle.iris_fragment.proofs.fragment.Fragment.renew.Goals as goal

pub invariant_of-self : goal.invariant_of-self
invariant_of-self c = subst (λ (ns : Nodes). IsRooted ns) (sym c.set_part.ensures) (rooted_part _ _ _ c.self.invariant)

pub returns-in-Some-clause-of_city : goal.returns-in-Some-clause-of_city
returns-in-Some-clause-of_city c = λ city part.
    part_of_city city c.self.inside.top c.self.inside.nodes _ c.args.self.now c.self.view_is
    (λ h. subst (λ (ns : Nodes). HaveIdsOf city ns) (sym c.set_part.ensures) (ids_part city _ _ _ h)) part
