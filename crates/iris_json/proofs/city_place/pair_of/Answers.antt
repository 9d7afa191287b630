use Rattle.std.proofs.Common.{arith}
use Rattle.serde_json.specs.View.{view}
use Rattle.iris_json.proofs.KindReading.{pair_len}
use Rattle.iris_json.proofs.city_place.pair_of.Goals as goal

pub returns-then-len-ne2-clause-missing : goal.returns-then-len-ne2-clause-missing
returns-then-len-ne2-clause-missing c e pair = let two = pair_len (view c.args.value.now) _ c.in_ok-items.ensures pair in absurd (omega (arith, two, c.if-len-ne2.true, c.len.ensures))
