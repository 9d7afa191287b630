use Rattle.std.proofs.Common.{◌∙◌, sym, ap, ℕ, []}
use Rattle.std.proofs.lemmas.Result.{on_ok_weaker}
use Rattle.iris_need.specs.declared.spot.Spot.{Spot}
use Rattle.iris_need.specs.Program.{subtree, found}
use Rattle.iris_need.specs.Walk.{spot_in}
use Rattle.iris_need.proofs.Collected.{collected_give}
use Rattle.iris_need.proofs.Walked.{adding, whole_is}
use Rattle.iris_need.proofs.walk.Walk.whole.Goals as goal

pub returns-in-Node-clause-adds : goal.returns-in-Node-clause-adds
returns-in-Node-clause-adds c =
    let w = c.args.self.now in
    on_ok_weaker c.subtree.result (λ h. h ∙ ap (λ (levels : ℕ). adding w c.args.needs.now (subtree levels c.in-Node.label c.args.name.now)) c.room.ensures ∙ sym (whole_is w c.args.needs.now c.in-Node.label c.args.name.now)
    ∙ ap (λ (s : Spot). adding w c.args.needs.now (found (spot_in c.args.name.now s))) (sym c.in-Node.is)) c.subtree.ensures.adds

pub returns-in-Document-clause-adds : goal.returns-in-Document-clause-adds
returns-in-Document-clause-adds c =
    let w = c.args.self.now in
    sym (collected_give w.takes w.above.now w.view.now c.args.needs.now []) ∙ ap (λ (s : Spot). adding w c.args.needs.now (found (spot_in c.args.name.now s))) (sym c.in-Document.is)

pub returns-in-Element-clause-adds : goal.returns-in-Element-clause-adds
returns-in-Element-clause-adds c =
    let w = c.args.self.now in
    sym (collected_give w.takes w.above.now w.view.now c.args.needs.now _) ∙ ap (λ (s : Spot). adding w c.args.needs.now (found (spot_in c.args.name.now s))) (sym c.in-Element.is)
