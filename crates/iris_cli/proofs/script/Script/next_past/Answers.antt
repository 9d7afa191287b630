use Rattle.std.proofs.Common.{◌≢◌, ap, ◌∙◌, sym, arith}
use Rattle.iris_cli.specs.declared.line.NextLine.TheVariants as lines
use Rattle.iris_cli.specs.Taken.{ScriptState}
use Rattle.iris_cli.proofs.Taken.{takes_past_script, takes_past_lines}
use Rattle.iris_cli.proofs.script.Script.next_past.Goals as goal

pub returns-then-self-eq0-clause-took : goal.returns-then-self-eq0-clause-took
returns-then-self-eq0-clause-took g c =
    let room = ap (λ (s : ScriptState). s.room) c.self.view_is in
    let more : c.in-Ok.next ≢ lines.End = λ e. absurd (let same = rw (e, c.if-eq.false) at c.eq.ensures in cc) in
    rw c.past.ensures (takes_past_script c.args.self.now c.args.self.now _ _ c.take_line.new.line.items c.in-Ok.next c.in-Ok.ensures.took more (sym room ∙ c.if-self-eq0.true))

pub returns-clause-took : goal.returns-clause-took
returns-clause-took g c =
    let room = ap (λ (s : ScriptState). s.room) c.self.view_is in
    let more : c.in-Ok.next ≢ lines.End = λ e. absurd (let same = rw (e, c.if-eq.false) at c.eq.ensures in cc) in
    let free = c.if-self-eq0.false in
    rw c.past-2.ensures (takes_past_lines c.args.self.now c.args.self.now _ _ c.take_line.new.line.items c.in-Ok.next c.in-Ok.ensures.took more c.requires.full (omega (arith, room, free)))
