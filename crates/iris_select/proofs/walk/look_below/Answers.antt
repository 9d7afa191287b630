use Rattle.std.proofs.Common.{refl, ap, ◌∙◌, ◌&&◌, Some}
use Rattle.iris_tree.specs.Document.{Place}
use Rattle.iris_xpath.specs.Looks.{whole_looks}
use Rattle.iris_xpath.proofs.Passes.{and_never}
use Rattle.iris_select.specs.declared.spot.Spot.{Spot}
use Rattle.iris_select.specs.Evaluating.{document_of, place_in}
use Rattle.iris_select.specs.Parts.{part_of}
use Rattle.iris_select.proofs.Looked.{looked_none}
use Rattle.iris_select.proofs.MarkingLooks.{whole_place}
use Rattle.iris_select.proofs.walk.look_below.Goals as goal

pub returns-in-Document-clause-looks : goal.returns-in-Document-clause-looks
returns-in-Document-clause-looks c =
    let e = c.args.evaluator.now in
    looked_none e e _ refl refl
    (λ looks. ap (λ (p : Place). c.args.is_selected && whole_looks (document_of e) looks p) (whole_place (document_of e) (place_in e) (c.requires.stands.there ∙ ap (λ (s : Spot). Some (part_of s)) c.in-Document.is)) ∙ and_never c.args.is_selected)
