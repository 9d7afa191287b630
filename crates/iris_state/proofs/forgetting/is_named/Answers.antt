use Rattle.std.proofs.Common.{Bool, length, arith, refl, subst}
use Rattle.std.proofs.lemmas.Option.{slice_get_read, slice_get_within}
use Rattle.std.specs.Prelude.{MatchBool}
use Rattle.iris_agent.specs.NamedAsks.{NamesAsk, NamesNoAsk}
use Rattle.iris_state.proofs.Naming.{named_at, unnamed_all, unnamed_next}
use Rattle.iris_state.proofs.forgetting.is_named.Goals as goal

pub returns-then-names : goal.returns-then-names
returns-then-names c =
    let at = c.loop-at.at in
    let x = c.index-agents-at.result in
    let there = slice_get_read c.args.agents.now (length c.args.agents.now) at x refl c.loop-at-test.true c.index-agents-at.is in
    named_at c.args.agents.now at x c.args.ask there (subst (λ (b : Bool). MatchBool b (NamesAsk x.titles x.gathers c.args.ask) (NamesNoAsk x.titles x.gathers c.args.ask)) c.if-names.true c.names.ensures)

pub loop-at-preserved : goal.loop-at-preserved
loop-at-preserved c =
    let at = c.loop-at.at in
    let x = c.index-agents-at.result in
    let there = slice_get_read c.args.agents.now (length c.args.agents.now) at x refl c.loop-at-test.true c.index-agents-at.is in
    let low = c.loop-at-test.true in
    record {
      within = omega (arith, low);
      unnamed = unnamed_next c.args.agents.now at x c.args.ask c.loop-at.invariant.unnamed there
          (subst (λ (b : Bool). MatchBool b (NamesAsk x.titles x.gathers c.args.ask) (NamesNoAsk x.titles x.gathers c.args.ask)) c.if-names.false c.names.ensures);
    }

pub returns : goal.returns
returns c = unnamed_all c.args.agents.now c.args.ask (λ place h is.
    let within = slice_get_within c.args.agents.now place h is in
    let all = c.loop-at-test.false in
    c.loop-at.invariant.unnamed place h (omega (arith, within, all)) is)
