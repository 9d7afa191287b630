use Rattle.std.proofs.Common.{◌≡◌, sym, rules, subst, List, true, Some}
use Rattle.iris_base.specs.declared.name.Label.{Label}
use Rattle.iris_fragment.specs.Contents.{Nodes, held_at, has_place, is_held}
use Rattle.iris_fragment.specs.Changes.{with_part, joined_part, part_in}
use Rattle.iris_fragment.specs.Shape.{IsRooted, HaveIdsOf, ids_at}
use Rattle.iris_fragment.proofs.NodeChanges.{rooted_part, rooted_node, ids_part, ids_node, part_of_city}
use Rattle.iris_fragment.proofs.Parts.{taken_held}
use Rattle.iris_fragment.proofs.fragment.Fragment.take_in.Goals as goal

pub invariant_of-self : goal.invariant_of-self
invariant_of-self c = subst (λ (ns : Nodes). IsRooted ns) (sym c.join.ensures.nodes) (rooted_part _ _ _ c.self.invariant)

pub returns-then-contains-clause-ok : goal.returns-then-contains-clause-ok
returns-then-contains-clause-ok c =
    let place : has_place c.self.inside.nodes c.args.piece.name ≡ true = search rules in
    let held : is_held c.self.inside.nodes c.args.piece.name ≡ true = search rules in
    let after = subst (λ (n : List Label). c.join.new.self ≡ with_part c.self.inside.nodes n (joined_part (part_in (held_at c.self.inside.nodes n)) c.args.piece.full)) c.as_slice-then-contains.ensures c.join.ensures.nodes in
    taken_held c.self.inside.top c.self.inside.nodes _ c.args.self.now c.args.piece c.self.view_is place held after

pub returns-then-contains-clause-of_city : goal.returns-then-contains-clause-of_city
returns-then-contains-clause-of_city c = λ city of piece.
    part_of_city city c.self.inside.top c.self.inside.nodes _ c.args.self.now c.self.view_is
    (λ h. subst (λ (ns : Nodes). HaveIdsOf city ns) (sym c.join.ensures.nodes) (ids_part city _ _ _ h)) piece

pub invariant_of-self-2 : goal.invariant_of-self-2
invariant_of-self-2 c =
    let place : has_place c.self.inside.nodes c.as_slice-3.result.now ≡ true = search rules in
    subst (λ (ns : Nodes). IsRooted ns) (sym c.in_ok-insert.ensures.ok) (rooted_node _ _ _ place c.self.invariant)

pub returns-clause-of_city : goal.returns-clause-of_city
returns-clause-of_city c = λ city of part.
    let right : ids_at city c.as_slice-3.result.now ≡ Some c.args.piece.ids = rw c.as_slice-3.ensures of in
    part_of_city city c.self.inside.top c.self.inside.nodes _ c.args.self.now c.self.view_is
    (λ h. subst (λ (ns : Nodes). HaveIdsOf city ns) (sym c.in_ok-insert.ensures.ok) (ids_node city _ _ _ right h)) part
