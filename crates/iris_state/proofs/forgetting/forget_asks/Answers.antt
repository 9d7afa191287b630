use Rattle.std.proofs.Common.{rules, List, [], ◌∷◌, ◌++◌, arith, sym, ap, ◌∙◌}
use Rattle.iris_agent.specs.Tables.{Holdings}
use Rattle.iris_state.proofs.Naming.{round_begun, round_on, round_over}
use Rattle.iris_state.proofs.forgetting.forget_asks.Goals as goal

pub loop-left-init : goal.loop-left-init
loop-left-init c = round_begun c.args.agents.now.items c.len-left.result (c.len-left.ensures ∙ c.args.agents.now.ok.0)

pub loop-left-preserved : goal.loop-left-preserved
loop-left-preserved c =
    round_on c.args.agents.now.items c.loop-left.agents.items c.as_slice-others.result.now _ c.loop-left.left c.remove-first.result c.forget.new.self _ c.loop-left.invariant c.loop-left-test.true
    c.remove-first.ensures.value (c.as_slice-others.ensures.value ∙ c.remove-first.ensures.items) (λ ask answer fits called. search rules) c.forget.ensures
    (c.push_reserved.ensures.items ∙ ap (λ (hs : List Holdings). hs ++ c.forget.new.self ∷ []) (sym c.as_slice-others.ensures.value))

pub returns : goal.returns
returns c = let none = c.loop-left-test.false in round_over c.args.agents.now.items c.loop-left.agents.items c.loop-left.left c.loop-left.invariant (omega (arith, none))
