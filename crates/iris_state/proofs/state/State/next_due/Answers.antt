use Rattle.std.proofs.Common.{ℕ, ◌≤◌, length, ap, ◌∙◌, subst}
use Rattle.iris_state.specs.Whole.{Whole}
use Rattle.iris_state.proofs.NextDue.{next_there, none_next}
use Rattle.iris_state.proofs.state.State.next_due.Goals as goal

pub returns-clause-some : goal.returns-clause-some
returns-clause-some c =
    let all = subst (λ (n : ℕ). n ≤ c.loop-at.at) (c.len.ensures ∙ c.self.inside.agents.ok.0 ∙ ap (λ (o : Whole). length o.agents) c.self.view_is) c.loop-at-test.false in
    next_there c.args.self.now c.loop-at.at c.loop-at.next all c.loop-at.invariant c.requires

pub returns-clause-none : goal.returns-clause-none
returns-clause-none c =
    let all = subst (λ (n : ℕ). n ≤ c.loop-at.at) (c.len.ensures ∙ c.self.inside.agents.ok.0 ∙ ap (λ (o : Whole). length o.agents) c.self.view_is) c.loop-at-test.false in
    none_next c.args.self.now c.loop-at.at c.loop-at.next all c.loop-at.invariant
