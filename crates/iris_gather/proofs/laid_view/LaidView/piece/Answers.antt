use Rattle.iris_gather.proofs.LaidAt.{laid_joined, laid_alone}
use Rattle.iris_gather.proofs.laid_view.LaidView.piece.Goals as goal

pub returns-in_ok-copy-in-Some : goal.returns-in_ok-copy-in-Some
returns-in_ok-copy-in-Some c =
    let s = c.args.self.now in
    laid_joined s.usable.fragment.now s.usable.floor s.usable.moment s.view.now c.args.name.now c.keeps_shape.ensures.ordered
    c.in-Some.held.now c.in_ok-copy-in-Some.field-0 c.in_ok-usable.usable c.joined.result c.in-Some.ensures c.in_ok-copy-in-Some.ensures c.in_ok-usable.ensures c.joined.ensures

pub returns-in-None : goal.returns-in-None
returns-in-None c =
    let s = c.args.self.now in
    laid_alone s.usable.fragment.now s.usable.floor s.usable.moment s.view.now c.args.name.now c.keeps_shape.ensures.ordered c.in_ok-usable.usable c.in-None.ensures c.in_ok-usable.ensures
