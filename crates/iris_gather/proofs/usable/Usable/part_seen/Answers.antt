use Rattle.std.proofs.Common.{◌≡◌, ◌∙◌, List, All, sym, subst}
use Rattle.iris_need.specs.declared.need.Need.{Need}
use Rattle.iris_need.specs.Needs.{missing_of}
use Rattle.iris_need.specs.Pieces.{Pieces}
use Rattle.iris_gather.specs.Laid.{laid, TellsSame}
use Rattle.iris_gather.proofs.Rounds.{LacksNothing, where_none}
use Rattle.iris_gather.proofs.Same.{tells_same}
use Rattle.iris_gather.proofs.usable.Usable.part_seen.Goals as goal

pub returns-then-not-branch : goal.returns-then-not-branch
returns-then-not-branch c =
    let s = c.args.self.now in
    let query = c.args.query.now in
    let start = c.args.start.now in
    let over = c.loop-over.over in
    let added = c.in_ok-add_all.field-0 in
    let none : All (LacksNothing s.fragment.now s.floor s.moment over) c.deref.result.now = where_none added c.if-not-branch.true c.in_ok-add_all.ensures.none in
    let all : All (LacksNothing s.fragment.now s.floor s.moment over) (missing_of query start over) = subst (λ (needs : List Need). All (LacksNothing s.fragment.now s.floor s.moment over) needs) (c.deref.ensures.value ∙ c.in_ok-needs.ensures) none in
    let same : c.add_all.new.view ≡ over = where_none added c.if-not-branch.true c.in_ok-add_all.ensures.same in
    record {
      same = subst (λ (v : Pieces). TellsSame query start v (laid s.fragment.now s.floor s.moment c.args.view.now)) (sym same)
          (tells_same query start s.fragment.now s.floor s.moment c.args.view.now over c.keeps_shape.ensures.ordered c.loop-over.invariant all);
    }
