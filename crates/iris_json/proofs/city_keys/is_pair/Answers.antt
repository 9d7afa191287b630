use Rattle.std.proofs.Common.{true≢false, sym, arith}
use Rattle.serde_json.specs.View.{view}
use Rattle.iris_json.proofs.KindReading.{pair_len}
use Rattle.iris_json.proofs.city_keys.is_pair.Goals as goal

pub returns-then-len-ne2 : goal.returns-then-len-ne2
returns-then-len-ne2 c = (λ h. absurd (true≢false (sym h)), λ pair. let two = pair_len (view c.args.value.now) _ c.in-Some.ensures pair in absurd (omega (arith, two, c.if-len-ne2.true, c.len.ensures)))
