use Rattle.iris_tree.specs.Universe.{label_of}
use Rattle.iris_copies.proofs.Answered.{cites_are, cites_rise, same_over_cited}
use Rattle.iris_copies.proofs.answer_laws.cites_are_in_order.Goals as goal

pub returns-clause-cites : goal.returns-clause-cites
returns-clause-cites c h now floor query view present is none = cites_are h now floor query view is none present

pub returns-clause-names : goal.returns-clause-names
returns-clause-names c h now floor query view present is none = cites_rise query (label_of h.start) view

pub returns-clause-same : goal.returns-clause-same
returns-clause-same c h now floor query view present is none = same_over_cited h now floor query view is none
