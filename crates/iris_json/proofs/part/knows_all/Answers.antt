use Rattle.std.proofs.Common.{◌∙◌, ◌∷◌, codes, map}
use Rattle.iris_json.specs.Slots.{slot_key}
use Rattle.iris_json.proofs.MemberKeys.{all_of_members}
use Rattle.iris_json.proofs.part.knows_all.Goals as goal

pub returns : goal.returns
returns c = c.are_known.ensures ∙ all_of_members (codes "do" ∷ map slot_key c.args.slots.now) c.args.members.now.entries
