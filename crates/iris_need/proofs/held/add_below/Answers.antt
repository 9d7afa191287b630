use Rattle.std.proofs.Common.{◌∙◌, ap, rules, IsSome}
use Rattle.iris_tree.specs.Universe.{label_of, local_of, children_of, child_of}
use Rattle.iris_need.proofs.Grown.{twin_is_none, child_last}
use Rattle.iris_need.proofs.held.add_below.Goals as goal

pub returns-in-Ok : goal.returns-in-Ok
returns-in-Ok c = λ before.
    let last = child_last c.args.tree.now c.args.below before in
    let new = c.in-Ok.ensures.ok in
    (ap children_of new ∙ last.0, ap label_of new ∙ last.1, ap local_of new ∙ last.2)

pub returns-in-Err-Twin : goal.returns-in-Err-Twin
returns-in-Err-Twin c = λ before.
    let none = twin_is_none c.args.tree.now c.args.below before in
    let some : IsSome (child_of (label_of c.args.below) (children_of c.args.tree.now)) = c.in-Err-Twin.ensures.twin.0 (search rules) in
    let bad = rw none at some in
    absurd (search rules)
