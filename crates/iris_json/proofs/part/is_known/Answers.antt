use Rattle.std.proofs.Common.{◌≡◌, ◌∙◌, false, codes, bytes_eq, rules}
use Rattle.iris_json.specs.Slots.{slot_key}
use Rattle.iris_json.proofs.MemberKeys.{any_of_keys}
use Rattle.iris_json.proofs.part.is_known.Goals as goal

pub returns-else-eq : goal.returns-else-eq
returns-else-eq c =
    let apart : bytes_eq (codes "do") c.args.key.now ≡ false = search (rules, c.eq.ensures, c.if-eq.false) in
    rw apart (c.is_key_of.ensures ∙ any_of_keys slot_key c.args.key.now c.args.slots.now)
