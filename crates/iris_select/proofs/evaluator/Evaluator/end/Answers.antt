use Rattle.std.proofs.Common.{◌≡◌, ◌∙◌, ◌||◌, ap, sym, ℕ, Bool, List, Option, Bor}
use Rattle.std.specs.List.{list_any}
use Rattle.std.proofs.lemmas.Result.{on_ok_weaker}
use Rattle.iris_tree.specs.Universe.{Node}
use Rattle.iris_xpath.specs.declared.expression.Separator.{Separator}
use Rattle.iris_xpath.specs.declared.expression.Attribute.{Attribute}
use Rattle.iris_xpath.specs.Places.{attribute_of}
use Rattle.iris_xpath.specs.Meaning.{ends}
use Rattle.iris_xpath.specs.Syntax.{attribute, end_of}
use Rattle.iris_select.specs.Parts.{part_of}
use Rattle.iris_select.specs.Evaluating.{document_of, place_in, ends_of, ends_with, attributes_in}
use Rattle.iris_select.proofs.Ends.{own_attribute, all_attributes}
use Rattle.iris_select.proofs.evaluator.Evaluator.end.Goals as goal

pub returns-in-DoubleSlash-clause-value : goal.returns-in-DoubleSlash-clause-value
returns-in-DoubleSlash-clause-value c =
    let e = c.args.self.now in
    let name = c.in-Some.attribute.name in
    on_ok_weaker c.add_attributes.result (λ h test. h test ∙ ap (λ b. list_any test (ends_of c.args.found.now.items) || b)
    (ap (λ (r : Bor Node). list_any test (attributes_in r.now (part_of c.args.spot) c.as_str-name.result.now)) c.in_ok-look_for_attribute.ensures.back.document
    ∙ ap (λ (m : List ℕ). list_any test (attributes_in (document_of e) (part_of c.args.spot) m)) c.as_str-name.ensures
    ∙ all_attributes (document_of e) name (place_in e) (part_of c.args.spot) c.requires.stands.in_order c.requires.stands.there test
    ∙ ap (λ (s : Separator). list_any test (ends (document_of e) (attribute s name) (place_in e))) (sym c.in-DoubleSlash.is)
    ∙ ap (λ (a : Option Attribute). list_any test (ends (document_of e) (end_of a) (place_in e))) (sym c.in-Some.is)))
    c.add_attributes.ensures

pub returns-in-Slash-clause-value : goal.returns-in-Slash-clause-value
returns-in-Slash-clause-value c =
    let e = c.args.self.now in
    let name = c.in-Some.attribute.name in
    on_ok_weaker c.add_attribute.result (λ h test. h test ∙ ap (λ b. list_any test (ends_of c.args.found.now.items) || b)
    (ap (λ (m : List ℕ). list_any test (ends_with (attribute_of (part_of c.args.spot) m))) c.as_str-name.ensures
    ∙ own_attribute (document_of e) name (place_in e) (part_of c.args.spot) c.requires.stands.there test
    ∙ ap (λ (s : Separator). list_any test (ends (document_of e) (attribute s name) (place_in e))) (sym c.in-Slash.is)
    ∙ ap (λ (a : Option Attribute). list_any test (ends (document_of e) (end_of a) (place_in e))) (sym c.in-Some.is)))
    c.add_attribute.ensures
