use Rattle.std.proofs.Common.{◌≡◌, ◌∙◌, List, [], drop, Some, refl, ap, sym}
use Rattle.std.proofs.lemmas.Result.{on_ok_weaker}
use Rattle.iris_tree.specs.Document.{Place, place_of, a_node, whole, part_at_place}
use Rattle.iris_xpath.specs.Looks.{is_sought}
use Rattle.iris_select.specs.declared.spot.Edge.{Edge}
use Rattle.iris_select.specs.declared.spot.Spot.{Spot}
use Rattle.iris_select.specs.Evaluating.{place_in}
use Rattle.iris_select.specs.Parts.{part_of, place_at}
use Rattle.iris_select.proofs.MarkingLooks.{look_made, look_at_plain, look_at_document, sought_below, sought_anywhere}
use Rattle.iris_select.proofs.evaluator.Evaluator.look.Goals as goal

pub returns-in-Plain-clause-looks : goal.returns-in-Plain-clause-looks
returns-in-Plain-clause-looks c =
    let stands = c.requires.stands in
    look_at_plain c.args.self.now c.args.separator c.in-Plain.field-0.now stands.in_order (stands.there ∙ ap (λ (s : Spot). Some (part_of s)) c.in-Plain.is)

pub returns-in-Node-clause-looks : goal.returns-in-Node-clause-looks
returns-in-Node-clause-looks c =
    let stands = c.requires.stands in
    let e = c.args.self.now in
    let there : part_at_place e.top.now (place_in e) ≡ Some (a_node c.in-Node.field-0.now) = stands.there ∙ ap (λ (s : Spot). Some (part_of s)) c.in-Node.is in
    let path = ap place_at (c.below_top.ensures ∙ ap (λ (edges : List Edge). drop 1 edges) c.deref.ensures.value) in
    on_ok_weaker c.mark.result (λ marks. look_made e _ c.args.separator (place_at c.below_top.result.now) refl stands.in_order marks
    (λ l name top. sought_below e.top.now c.in-Node.field-0.now e.trail.items c.args.separator l name there top ∙ ap (λ (p : Place). is_sought c.args.separator p (place_of name)) (sym path))) c.mark.ensures

pub returns-in-Slash-clause-looks : goal.returns-in-Slash-clause-looks
returns-in-Slash-clause-looks c =
    let stands = c.requires.stands in
    look_at_document c.args.self.now c.args.separator c.in-Slash.is stands.in_order (stands.there ∙ ap (λ (s : Spot). Some (part_of s)) c.in-Document.is)

pub returns-in-DoubleSlash-clause-looks : goal.returns-in-DoubleSlash-clause-looks
returns-in-DoubleSlash-clause-looks c =
    let stands = c.requires.stands in
    let e = c.args.self.now in
    let there : part_at_place e.top.now (place_in e) ≡ Some whole = stands.there ∙ ap (λ (s : Spot). Some (part_of s)) c.in-Document.is in
    on_ok_weaker c.mark-in-DoubleSlash.result (λ marks. look_made e _ c.args.separator [] refl stands.in_order marks
    (λ l name top. sought_anywhere e.top.now (place_in e) [] c.args.separator c.in-DoubleSlash.is there refl l name)) c.mark-in-DoubleSlash.ensures
