use Rattle.std.proofs.Common.{rules}
use Rattle.iris_json.proofs.city_nodes.has.Goals as goal

pub returns : goal.returns
returns c earlier labels =
    let own = c.in_ok-has_own.ensures earlier labels in (
      (λ h. (own.0.0 (search rules), c.all_have.ensures.0 h), λ all. c.all_have.ensures.1 all.1),
      λ h twin. own.1 (search rules) twin,
    )
