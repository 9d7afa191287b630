use Rattle.serde_json.specs.Data.{object}
use Rattle.serde_json.specs.View.{view, members_view}
use Rattle.iris_json.proofs.CityFaults.{no_shape}
use Rattle.iris_json.proofs.city_fault.shaped_tree.Goals as goal

pub returns-then-branch-clause-missing : goal.returns-then-branch-clause-missing
returns-then-branch-clause-missing c e shape = no_shape (object (members_view c.args.members.now.entries)) (view c.in-Some.tree.now) c.in_ok-walk_nodes.field-0 c.in-Some.ensures c.in_ok-walk_nodes.ensures c.if-branch.true shape
