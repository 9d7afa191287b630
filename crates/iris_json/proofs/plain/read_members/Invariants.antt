use Rattle.std.proofs.Common.{◌≡◌, map}
use Rattle.std.specs.List.{AllByRecursion}
use Rattle.std.specs.Map.Iter.{deref_pair}
use Rattle.serde_json.specs.View.{members_view}
use Rattle.iris_tree.specs.LocalText.{attrs_members}
use Rattle.iris_json.proofs.AttrReading.{IsAttr}
use Rattle.iris_json.proofs.plain.read_members.Given as goal

abbrev pub invariant-loop-name : goal.invariant-loop-name
invariant-loop-name l = (members_view (map deref_pair l.yielded) ≡ attrs_members l.attrs) × AllByRecursion IsAttr l.attrs
