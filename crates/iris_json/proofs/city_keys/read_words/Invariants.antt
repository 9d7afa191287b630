use Rattle.iris_base.specs.Forms.{IsWord}
use Rattle.iris_json.proofs.KindReading.{WordsSo}
use Rattle.iris_json.proofs.city_keys.read_words.Given as goal

abbrev pub invariant-loop-item : goal.invariant-loop-item
invariant-loop-item g l = WordsSo (IsWord g.F.Spelled.form.first g.F.Spelled.form.later g.F.Spelled.form.most) l.items l.item-index l.words.items
