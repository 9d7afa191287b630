use Rattle.std.proofs.Common.{◌≡◌, ◌∷◌, take}
use Rattle.json.specs.Token.{Token}
use Rattle.iris_json.specs.Rows.{fields_of}
use Rattle.iris_json.proofs.Written.{member_tokens}
use Rattle.iris_json.proofs.row.write_row.Given as goal

abbrev pub invariant-loop-key : goal.invariant-loop-key
invariant-loop-key l = l.out ≡ Token.begin_object ∷ member_tokens (fields_of (take l.key-index l.row))
