use Rattle.std.proofs.Common.{◌∙◌, List, ap, sym, subst}
use Rattle.iris_need.specs.declared.need.Need.{Need}
use Rattle.iris_need.specs.Needs.{full_part}
use Rattle.iris_gather.specs.Basis.{cites_told, cites_in}
use Rattle.iris_gather.specs.Laid.{laid}
use Rattle.iris_gather.specs.Verdicts.{IsVerdict}
use Rattle.iris_gather.specs.declared.verdict.Verdict.{Verdict}
use Rattle.iris_gather.proofs.Stand.{verdict_same, told_cites, laid_view_named, rests_on_support}
use Rattle.iris_gather.proofs.basis.Basis.of.Goals as goal

pub returns-clause-verdict : goal.returns-clause-verdict
returns-clause-verdict c =
    let query = c.args.query.now in
    let start = c.args.start.now in
    let all = laid c.args.fragment.now c.args.floor c.args.now c.args.view.now in
    subst (λ (verdict : Verdict). IsVerdict query start all verdict) (sym c.in_ok-with_pieces.ensures.verdict)
    (verdict_same query start c.in_ok-over.over all c.in_ok-verdict.verdict c.in_ok-over.ensures.same c.in_ok-verdict.ensures)

pub returns-clause-cites : goal.returns-clause-cites
returns-clause-cites c =
    let query = c.args.query.now in
    let start = c.args.start.now in
    let all = laid c.args.fragment.now c.args.floor c.args.now c.args.view.now in
    let is = verdict_same query start c.in_ok-over.over all c.in_ok-verdict.verdict c.in_ok-over.ensures.same c.in_ok-verdict.ensures in
    c.in_ok-with_pieces.ensures.cites ∙ ap cites_told c.in_ok-pieces.ensures
    ∙ told_cites all c.support.result.now (laid_view_named c.args.fragment.now c.args.floor c.args.now c.args.view.now c.keeps_shape.ensures.named)
    ∙ ap (λ (needs : List Need). cites_in all (full_part needs)) (c.support.ensures ∙ rests_on_support query start all c.in_ok-verdict.verdict is)
