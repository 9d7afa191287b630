use Rattle.std.proofs.Common.{◌≡◌, sym, rules, subst, true, Some}
use Rattle.iris_fragment.specs.Contents.{Nodes, has_place}
use Rattle.iris_fragment.specs.Shape.{IsRooted, HaveIdsOf, ids_at}
use Rattle.iris_fragment.proofs.NodeChanges.{rooted_node, ids_node, part_of_city}
use Rattle.iris_fragment.proofs.fragment.Fragment.set_owned.Goals as goal

pub invariant_of-self-2 : goal.invariant_of-self-2
invariant_of-self-2 c =
    let place : has_place c.self.inside.nodes c.as_slice.result.now ≡ true = search rules in
    subst (λ (ns : Nodes). IsRooted ns) (sym c.in_ok-insert.ensures.ok) (rooted_node _ _ _ place c.self.invariant)

pub returns-clause-of_city : goal.returns-clause-of_city
returns-clause-of_city c = λ city of part.
    let right : ids_at city c.as_slice.result.now ≡ Some c.args.piece.ids = rw c.as_slice.ensures of in
    part_of_city city c.self.inside.top c.self.inside.nodes _ c.args.self.now c.self.view_is
    (λ h. subst (λ (ns : Nodes). HaveIdsOf city ns) (sym c.in_ok-insert.ensures.ok) (ids_node city _ _ _ right h)) part
