use Rattle.std.proofs.Common.{◌≡◌, ◌≢◌, MatchBool, Bool, true, false, refl}
use Rattle.std.proofs.lemmas.Slice.Eq.{slice_eq-Decides}
use Rattle.iris_base.proofs.Labels.{label_eq-Decides}
use Rattle.iris_agent.proofs.equality.same_name.Goals as goal

pub returns : goal.returns
returns c =
    let same = slice_eq-Decides label_eq-Decides c.args.one.now c.args.other.now c.eq.result c.eq.ensures in
    by c.eq.result same.0 same.1
  where
    by : (b : Bool) → (b ≡ true → c.args.one.now ≡ c.args.other.now) → (c.args.one.now ≡ c.args.other.now → b ≡ true) → MatchBool b (c.args.one.now ≡ c.args.other.now) (c.args.one.now ≢ c.args.other.now)
    by true so back = so refl
    by false so back = λ is. let bad : false ≡ true = back is in absurd (cc)
