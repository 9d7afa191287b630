use Rattle.std.proofs.Common.{subst}
use Rattle.std.proofs.lemmas.Result.{IfOk-weaker}
use Rattle.iris_need.specs.declared.need.Start.{Start}
use Rattle.iris_need.specs.Decided.{pieces_for}
use Rattle.iris_need.specs.Needs.{from_document, support_of}
use Rattle.iris_need.specs.Pieces.{AgreesWith}
use Rattle.iris_gather.specs.Verdicts.{AreDetermined}
use Rattle.iris_gather.proofs.verdict.items_of.Goals as goal

pub returns-then-is_document-clause-document : goal.returns-then-is_document-clause-document
returns-then-is_document-clause-document c =
    let query = c.args.query.now in
    let start = c.args.start.now in
    let view = c.args.view.now in
    IfOk-weaker c.answer_of.result (λ items. AreDetermined query start.top (pieces_for view (support_of query (from_document start.top) view)) items.items) _
    (λ items determined none document is ids top agrees.
    determined document is ids top (subst (λ (s : Start). AgreesWith document (pieces_for view (support_of query s view))) (c.requires.client none) agrees))
    c.answer_of.ensures.determined
