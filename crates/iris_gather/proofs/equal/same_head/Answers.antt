use Rattle.std.proofs.Common.{refl}
use Rattle.std.proofs.lemmas.Bool.Decides.{Decides-eqb}
use Rattle.std.proofs.lemmas.Slice.Eq.{bytes_eq-Decides, slice_eq-Decides}
use Rattle.iris_tree.specs.declared.plain.Plain.TheViews.{out-Plain}
use Rattle.iris_gather.proofs.SameParts.{attrs_eq-Decides, not_decided, decided_not, head_same}
use Rattle.iris_gather.proofs.equal.same_head.Goals as goal
use Rattle.iris_gather.proofs.equal.same_head.Goals.{then-ne-via-then-ne, then-ne-via-else-ne+then-ne-2}

pub returns-then-ne : goal.returns-then-ne
returns-then-ne c = elim c.then-ne.branch [
  | then-ne-via-then-ne w ↦ λ same. not_decided _ c.ne.result c.ne.ensures w.if-ne.true (bytes_eq-Decides (out-Plain c.args.one.now).tag (out-Plain c.args.other.now).tag) same.tag
  | then-ne-via-else-ne+then-ne-2 w ↦ λ same. not_decided _ w.ne-else-ne.result w.ne-else-ne.ensures w.if-ne-2.true (attrs_eq-Decides (out-Plain c.args.one.now).attrs (out-Plain c.args.other.now).attrs _ refl) same.attrs
]

pub returns : goal.returns
returns c =
    let one = out-Plain c.args.one.now in
    let other = out-Plain c.args.other.now in
    head_same c.args.one.now c.args.other.now c.eq.result
    (decided_not _ c.ne.result c.ne.ensures c.if-ne.false (bytes_eq-Decides one.tag other.tag))
    (decided_not _ c.ne-else-ne.result c.ne-else-ne.ensures c.if-ne-2.false (attrs_eq-Decides one.attrs other.attrs _ refl))
    (slice_eq-Decides Decides-eqb one.text other.text c.eq.result c.eq.ensures)
