use Rattle.std.proofs.Common.{All, List, subst}
use Rattle.std.proofs.lemmas.List.{take_all}
use Rattle.iris_need.specs.declared.need.Need.{Need}
use Rattle.iris_gather.specs.Laid.{laid}
use Rattle.iris_gather.specs.Validation.{IsSameFor}
use Rattle.iris_gather.proofs.FirstChanged.{fails_at, holds_more, not_same, same_for, pieces_more}
use Rattle.iris_gather.proofs.laid_view.LaidView.unchanged.Goals as goal

pub returns-then-not-is_same-clause-changed : goal.returns-then-not-is_same-clause-changed
returns-then-not-is_same-clause-changed c =
    let s = c.args.self.now in
    let now = laid s.usable.fragment.now s.usable.floor s.usable.moment s.view.now in
    let need = c.need-item.result in
    fails_at (IsSameFor c.args.old.now now) c.args.needs.now c.loop-need.need-index need c.in_ok-copy.field-0 c.loop-need-test.true c.need-item.is c.loop-need.invariant.same c.in_ok-copy.ensures
    (not_same c.args.old.now now need c.in_ok-now.now c.in_ok-now.ensures (rw c.if-not-is_same.true at c.is_same.ensures))

pub loop-need-preserved : goal.loop-need-preserved
loop-need-preserved c =
    let s = c.args.self.now in
    let now = laid s.usable.fragment.now s.usable.floor s.usable.moment s.view.now in
    let need = c.need-item.result in
    record {
      made = pieces_more now c.args.needs.now c.loop-need.need-index need c.loop-need.pieces.items c.add.new.items.items c.in_ok-now.now c.as_asked.result
          c.loop-need-test.true c.need-item.is c.in_ok-now.ensures c.as_asked.ensures c.in_ok-add.ensures c.loop-need.invariant.made;
      same = holds_more (IsSameFor c.args.old.now now) c.args.needs.now c.loop-need.need-index need c.loop-need-test.true c.need-item.is c.loop-need.invariant.same
          (same_for c.args.old.now now need c.in_ok-now.now c.in_ok-now.ensures (rw c.if-not-is_same.false at c.is_same.ensures));
    }

pub returns-clause-same : goal.returns-clause-same
returns-clause-same c =
    let s = c.args.self.now in
    let now = laid s.usable.fragment.now s.usable.floor s.usable.moment s.view.now in
    subst (λ (needs : List Need). All (IsSameFor c.args.old.now now) needs) (take_all c.loop-need.need-index c.args.needs.now c.loop-need-test.false) c.loop-need.invariant.same
