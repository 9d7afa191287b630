use Rattle.std.proofs.Common.{◌∙◌, inl, inr, ◌≡◌, sym, arith, length}
use Rattle.std.proofs.lemmas.Grind.{common_steps}
use Rattle.iris_base.proofs.Words.{stops, stops_empty}
use Rattle.iris_base.proofs.letters.Form.bad_at.Goals as goal
use Rattle.iris_base.proofs.letters.Form.bad_at.Goals.{then-i-self-via-then-i-self, then-i-self-via-else-i-self+then-not-allows}

pub returns-then-i-self : goal.returns-then-i-self
returns-then-i-self c =
    stops _ _ _ _ _ c.requires c.loop-i.invariant.0 c.loop-i-test.true c.loop-i.invariant.1
    (elim c.then-i-self.branch [
      | then-i-self-via-then-i-self w ↦ inl w.if-i-self.true
      | then-i-self-via-else-i-self+then-not-allows w ↦ inr (sym w.allows.ensures ∙ w.if-not-allows.true)
    ])

pub returns-then-is_empty : goal.returns-then-is_empty
returns-then-is_empty c =
    stops_empty _ _ _ _ c.requires (let h : length c.args.bytes.now ≡ 0 = grind (arith, common_steps) in h)
