use Rattle.std.proofs.Common.{codes, refl, rules}
use Rattle.serde_json.specs.Data.{object}
use Rattle.serde_json.specs.View.{members_view}
use Rattle.iris_json.specs.LineTable.{audit_keys}
use Rattle.iris_json.proofs.PartReading.{shaped}
use Rattle.iris_json.proofs.line.audit_of.Goals as goal

pub returns-clause-found : goal.returns-clause-found
returns-clause-found c = let d = object (members_view c.args.members.now.entries) in record {
  keys = audit_keys;
  shape = shaped (codes "audit") audit_keys d c.has_slots.result refl c.requires.does c.has_slots.ensures (search rules);
  names = (λ v at. tt, tt);
  numbers = (λ v at. tt, tt);
  changes = (λ v at. tt, tt);
  says = (c.requires.does, search (rules, c.text_of.ensures));
}
