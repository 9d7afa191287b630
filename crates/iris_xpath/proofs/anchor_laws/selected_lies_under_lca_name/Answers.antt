use Rattle.iris_xpath.proofs.UnderAnchors.{selected_under, selected_under_above}
use Rattle.iris_xpath.proofs.anchor_laws.selected_lies_under_lca_name.Goals as goal

pub returns-clause-name : goal.returns-clause-name
returns-clause-name c = selected_under

pub returns-clause-above : goal.returns-clause-above
returns-clause-above c = selected_under_above
