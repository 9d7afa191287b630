use Rattle.std.proofs.Common.{◌≡◌, ◌∙◌, All, List, ap, sym, subst}
use Rattle.iris_base.specs.declared.name.Label.{Label}
use Rattle.iris_need.specs.declared.need.Need.{Need}
use Rattle.iris_need.specs.Decided.{pieces_for}
use Rattle.iris_need.specs.Needs.{full_part}
use Rattle.iris_gather.specs.Basis.{cites_told, cites_in}
use Rattle.iris_gather.specs.Laid.{laid}
use Rattle.iris_gather.specs.Validation.{IsSameFor, NoMoreFor, IsFirstChanged, FailsFirst, IsFirstFailing}
use Rattle.iris_gather.specs.Verdicts.{IsVerdict}
use Rattle.iris_gather.specs.declared.verdict.Verdict.{Verdict}
use Rattle.iris_gather.proofs.FirstChanged.{still_valid, come_first, lesser_first}
use Rattle.iris_gather.proofs.Stand.{told_cites, laid_view_named, rests_on_support}
use Rattle.iris_gather.proofs.Validated.{verdict_valid, support_rises, asks_rise}
use Rattle.iris_gather.proofs.basis.Basis.validate.Goals as goal

pub returns-in_ok-with_pieces-in-Ok-None-clause-valid : goal.returns-in_ok-with_pieces-in-Ok-None-clause-valid
returns-in_ok-with_pieces-in-Ok-None-clause-valid c =
    let old = c.args.evaluated.now.view.now in
    let now = laid c.args.fragment.now c.args.floor c.args.now c.args.view.now in
    let same : All (IsSameFor old now) c.support.result.now = rw c.in-Ok-None.is-0 at c.in_ok-pieces.ensures.same in
    let none : All (NoMoreFor old now) c.asks.result.now = rw c.in-Ok-None.is-1 at c.in_ok-come.ensures in
    still_valid old now c.args.evaluated.now.verdict.now (subst (All (IsSameFor old now)) c.support.ensures same) (subst (All (NoMoreFor old now)) c.asks.ensures none)

pub returns-in_ok-with_pieces-in-Ok-None-clause-verdict : goal.returns-in_ok-with_pieces-in-Ok-None-clause-verdict
returns-in_ok-with_pieces-in-Ok-None-clause-verdict c =
    let s = c.args.evaluated.now in
    let now = laid c.args.fragment.now c.args.floor c.args.now c.args.view.now in
    let copied : s.verdict.now ≡ c.in_ok-with_pieces-in-Ok-None.field-0.verdict = sym (c.in_ok-with_pieces-in-Ok-None.ensures.verdict ∙ c.in_ok-copy-in-Ok-None.ensures) in
    subst (λ (verdict : Verdict). IsVerdict s.query.now s.start.now now verdict) copied
    (verdict_valid s.query.now s.start.now s.view.now now s.verdict.now c.keeps_shape.ensures.named (laid_view_named c.args.fragment.now c.args.floor c.args.now c.args.view.now c.keeps_shape-2.ensures.named) c.requires
    (returns-in_ok-with_pieces-in-Ok-None-clause-valid c))

pub returns-in_ok-with_pieces-in-Ok-None-clause-pieces : goal.returns-in_ok-with_pieces-in-Ok-None-clause-pieces
returns-in_ok-with_pieces-in-Ok-None-clause-pieces c =
    let s = c.args.evaluated.now in
    let now = laid c.args.fragment.now c.args.floor c.args.now c.args.view.now in
    let is = verdict_valid s.query.now s.start.now s.view.now now s.verdict.now c.keeps_shape.ensures.named (laid_view_named c.args.fragment.now c.args.floor c.args.now c.args.view.now c.keeps_shape-2.ensures.named) c.requires
    (returns-in_ok-with_pieces-in-Ok-None-clause-valid c) in
    let made : c.in-Ok-None.pieces.items ≡ pieces_for now c.support.result.now = rw c.in-Ok-None.is-0 at c.in_ok-pieces.ensures.pieces in
    c.in_ok-with_pieces-in-Ok-None.ensures.pieces ∙ made ∙ ap (pieces_for now) (c.support.ensures ∙ rests_on_support s.query.now s.start.now now s.verdict.now is)

pub returns-in_ok-with_pieces-in-Ok-None-clause-cites : goal.returns-in_ok-with_pieces-in-Ok-None-clause-cites
returns-in_ok-with_pieces-in-Ok-None-clause-cites c =
    let s = c.args.evaluated.now in
    let now = laid c.args.fragment.now c.args.floor c.args.now c.args.view.now in
    let named = laid_view_named c.args.fragment.now c.args.floor c.args.now c.args.view.now c.keeps_shape-2.ensures.named in
    let is = verdict_valid s.query.now s.start.now s.view.now now s.verdict.now c.keeps_shape.ensures.named named c.requires (returns-in_ok-with_pieces-in-Ok-None-clause-valid c) in
    let made : c.in-Ok-None.pieces.items ≡ pieces_for now c.support.result.now = rw c.in-Ok-None.is-0 at c.in_ok-pieces.ensures.pieces in
    c.in_ok-with_pieces-in-Ok-None.ensures.cites ∙ ap cites_told made ∙ told_cites now c.support.result.now named
    ∙ ap (λ (needs : List Need). cites_in now (full_part needs)) (c.support.ensures ∙ rests_on_support s.query.now s.start.now now s.verdict.now is)

pub returns-in-Ok-Some-clause-changed : goal.returns-in-Ok-Some-clause-changed
returns-in-Ok-Some-clause-changed c =
    let s = c.args.evaluated.now in
    let now = laid c.args.fragment.now c.args.floor c.args.now c.args.view.now in
    let same : All (IsSameFor s.view.now now) c.support.result.now = rw c.in-Ok-Some.is-0 at c.in_ok-pieces.ensures.same in
    let more : FailsFirst (NoMoreFor s.view.now now) c.asks.result.now c.in-Ok-Some.name = rw c.in-Ok-Some.is-1 at c.in_ok-come.ensures in
    come_first s.view.now now s.verdict.now c.in-Ok-Some.name (asks_rise s.query.now s.start.now s.view.now s.verdict.now c.requires)
    (subst (All (IsSameFor s.view.now now)) c.support.ensures same) (subst (λ (needs : List Need). FailsFirst (NoMoreFor s.view.now now) needs c.in-Ok-Some.name) c.asks.ensures more)

pub returns-in-Err-default-clause-changed : goal.returns-in-Err-default-clause-changed
returns-in-Err-default-clause-changed c =
    let s = c.args.evaluated.now in
    let now = laid c.args.fragment.now c.args.floor c.args.now c.args.view.now in
    let fails : FailsFirst (IsSameFor s.view.now now) c.support.result.now c.in-Err-default.name = rw c.in-Err-default.is-0 at c.in_ok-pieces.ensures.changed in
    subst (λ (name : List Label). IsFirstChanged s.view.now now s.verdict.now name) (sym c.lesser.ensures)
    (lesser_first s.view.now now s.verdict.now c.in-Err-default.name c.in_ok-come.come
    (support_rises s.query.now s.start.now s.view.now s.verdict.now c.requires) (asks_rise s.query.now s.start.now s.view.now s.verdict.now c.requires)
    (subst (λ (needs : List Need). FailsFirst (IsSameFor s.view.now now) needs c.in-Err-default.name) c.support.ensures fails)
    (subst (λ (needs : List Need). IsFirstFailing (NoMoreFor s.view.now now) needs c.in_ok-come.come) c.asks.ensures c.in_ok-come.ensures))
