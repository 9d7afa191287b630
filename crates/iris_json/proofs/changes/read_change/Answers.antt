use Rattle.std.proofs.Common.{refl, rules}
use Rattle.iris_json.proofs.ChangeReading.{no_change}
use Rattle.iris_json.proofs.changes.read_change.Goals as goal

pub returns-in_default-as_slice-clause-refused : goal.returns-in_default-as_slice-clause-refused
returns-in_default-as_slice-clause-refused c =
    (refl, λ change is. no_change _ _ change c.in-Some.ensures (λ e. search (rules, e, c.as_slice.ensures)) (λ e. search (rules, e, c.as_slice.ensures)) is)
