use Rattle.std.proofs.Common.{◌∙◌}
use Rattle.iris_json.proofs.MemberKeys.{all_of_keys}
use Rattle.iris_json.proofs.keys.has_only.Goals as goal

pub returns : goal.returns
returns c = c.are_among.ensures ∙ all_of_keys c.args.known.now c.args.members.now.entries
