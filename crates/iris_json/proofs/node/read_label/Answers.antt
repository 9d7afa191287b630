use Rattle.iris_json.proofs.LabelReading.{label_found, label_only, label_missing}
use Rattle.iris_json.proofs.node.read_label.Goals as goal

pub returns-in_default-kind_of-clause-only : goal.returns-in_default-kind_of-clause-only
returns-in_default-kind_of-clause-only c label has = label_missing c.args.kinds.now _ _ label.kind c.in-Some.ensures c.in_default-kind_of.ensures has.0 has.2

pub returns-in-Ok-clause-found : goal.returns-in-Ok-clause-found
returns-in-Ok-clause-found c = label_found c.args.kinds.now _ _ _ _ _ _ c.in-Some.ensures c.in-Some-text_at.ensures c.in-Some-kind_of.ensures c.in-Ok.ensures.ok c.in-Ok.ensures.form

pub returns-in-Ok-clause-only : goal.returns-in-Ok-clause-only
returns-in-Ok-clause-only c = label_only c.args.kinds.now _ _ _ _ _ _ c.in-Some.ensures c.in-Some-text_at.ensures c.in-Some-kind_of.ensures c.in-Ok.ensures.ok
