use Rattle.std.proofs.Common.{drop}
use Rattle.std.proofs.lemmas.List.{drop_all}
use Rattle.iris_tree.specs.declared.plain.Plain.TheViews.{out-Plain}
use Rattle.iris_gather.proofs.SameParts.{all_same, plain_same}
use Rattle.iris_gather.specs.Equal.{IsSameHead}
use Rattle.iris_gather.proofs.equal.+same_plain.Goals as goal

pub returns : goal.returns
returns t c =
    let one = c.args.one.now in
    let other = c.args.other.now in
    let head : IsSameHead one other = rw c.if-not-same_head.false at c.same_head.ensures in
    plain_same one other c.is_empty.result head
    (all_same (out-Plain one).kids (out-Plain other).kids (drop c.loop-kid.kid-index c.as_slice-kid-items.result.now) c.loop-kid.rest.now c.is_empty.result c.loop-kid.invariant
    (drop_all c.loop-kid.kid-index c.as_slice-kid-items.result.now c.loop-kid-test.false) c.is_empty.ensures)
