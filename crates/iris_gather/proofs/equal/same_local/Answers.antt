use Rattle.std.proofs.Common.{◌≡◌, true, false, ap}
use Rattle.iris_tree.specs.declared.local.Local.{Local}
use Rattle.iris_gather.proofs.SameParts.{attrs_eq-Decides, local_same}
use Rattle.iris_gather.proofs.equal.same_local.Goals as goal

pub returns-then-eq : goal.returns-then-eq
returns-then-eq c =
    let one = c.args.one.now in
    let other = c.args.other.now in
    local_same one other c.same_all.result ((attrs_eq-Decides one.attrs other.attrs c.eq.result c.eq.ensures).0 c.if-eq.true)
    (rw (← c.as_slice.ensures, ← c.as_slice-then-eq.ensures) c.same_all.ensures)

pub returns-else-eq : goal.returns-else-eq
returns-else-eq c =
    rw c.if-eq.false
    (λ same.
    let bad : c.eq.result ≡ true = (attrs_eq-Decides c.args.one.now.attrs c.args.other.now.attrs c.eq.result c.eq.ensures).1 (ap (λ (l : Local). l.attrs) same) in
    let good : c.eq.result ≡ false = c.if-eq.false in
    cc)
