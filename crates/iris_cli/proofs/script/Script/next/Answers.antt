use Rattle.std.proofs.Common.{◌≡◌, ◌<◌, ap, ◌∙◌, arith}
use Rattle.iris_base.specs.declared.limits.TheConstants.{MAX_LINES}
use Rattle.iris_cli.specs.Lines.{ended}
use Rattle.iris_cli.specs.Taken.{ScriptState, max_line_bytes, IsWithinLimits, empty, truncated}
use Rattle.iris_cli.proofs.Taken.{past_line, past_script, past_script_at_lf}
use Rattle.iris_cli.proofs.script.Script.next.Goals as goal

pub returns-in-Ok-Long-clause-took : goal.returns-in-Ok-Long-clause-took
returns-in-Ok-Long-clause-took g c =
    let number = ap (λ (s : ScriptState). s.number) c.self.view_is in
    let room = ap (λ (s : ScriptState). s.room) c.self.view_is in
    let most : c.max_line_bytes-most.result ≡ max_line_bytes c.args.self.now.number = c.max_line_bytes-most.ensures ∙ ap max_line_bytes number in
    let few : c.args.self.now.number < MAX_LINES = omega (arith, number, c.self.invariant.0, c.if-self-eq-MAX_LINES.false) in
    let took = rw c.in-Ok-Long.field-0-is at c.in-Ok-Long.ensures.took in
    let long = took.2 in
    let least = c.min.ensures in
    let fits = c.if-most-self.true in
    let line = c.take_line.new.line.items in
    rw (c.past-in-Ok-Long.ensures, most) (line, took.0, past_line c.args.self.now.number c.args.self.now.room line few took.1 (omega (arith, long, least, most, fits)) (omega (arith, most, fits, room)))

pub returns-in-Ok-Long-2-clause-took : goal.returns-in-Ok-Long-2-clause-took
returns-in-Ok-Long-2-clause-took g c =
    let number = ap (λ (s : ScriptState). s.number) c.self.view_is in
    let room = ap (λ (s : ScriptState). s.room) c.self.view_is in
    let most : c.max_line_bytes-most.result ≡ max_line_bytes c.args.self.now.number = c.max_line_bytes-most.ensures ∙ ap max_line_bytes number in
    let few : c.args.self.now.number < MAX_LINES = omega (arith, number, c.self.invariant.0, c.if-self-eq-MAX_LINES.false) in
    let took = rw c.in-Ok-Long.field-0-is at c.in-Ok-Long.ensures.took in
    let long = took.2 in
    let least = c.min.ensures in
    let short = c.if-most-self.false in
    let line = c.take_line.new.line.items in
    rw c.past-in-Ok-Long-2.ensures (line, took.0, past_script c.args.self.now.number c.args.self.now.room line few took.1 (omega (arith, long, least, most, short, room)) (omega (arith, most, short, room)))

pub returns-in-Ok-Whole-2-clause-took : goal.returns-in-Ok-Whole-2-clause-took
returns-in-Ok-Whole-2-clause-took g c =
    let number = ap (λ (s : ScriptState). s.number) c.self.view_is in
    let room = ap (λ (s : ScriptState). s.room) c.self.view_is in
    let most : c.max_line_bytes-most.result ≡ max_line_bytes c.args.self.now.number = c.max_line_bytes-most.ensures ∙ ap max_line_bytes number in
    let few : c.args.self.now.number < MAX_LINES = omega (arith, number, c.self.invariant.0, c.if-self-eq-MAX_LINES.false) in
    let took = rw c.in-Ok-Whole-2.field-0-is at c.in-Ok-Whole.ensures.took in
    let short = took.1.1 in
    let least = c.min.ensures in
    let line = c.take_line.new.line.items in
    rw c.past.ensures (ended line, took.0, past_script_at_lf c.args.self.now.number c.args.self.now.room line few (took.1.0, omega (arith, short, least, most)) (omega (arith, c.if-len-self.false, c.len.ensures, short, least, room)))

pub returns-in-Ok-End-clause-took : goal.returns-in-Ok-End-clause-took
returns-in-Ok-End-clause-took g c =
    let number = ap (λ (s : ScriptState). s.number) c.self.view_is in
    let took = rw c.in-Ok-End.field-0-is at c.in-Ok-End.ensures.took in
    rw c.bad_line.ensures (empty took.0 took.1 (omega (arith, number, c.if-first.true)) (omega (arith, number)))

pub returns-in-Ok-Cut-clause-took : goal.returns-in-Ok-Cut-clause-took
returns-in-Ok-Cut-clause-took g c =
    let number = ap (λ (s : ScriptState). s.number) c.self.view_is in
    let room = ap (λ (s : ScriptState). s.room) c.self.view_is in
    let most : c.max_line_bytes-most.result ≡ max_line_bytes c.args.self.now.number = c.max_line_bytes-most.ensures ∙ ap max_line_bytes number in
    let few : c.args.self.now.number < MAX_LINES = omega (arith, number, c.self.invariant.0, c.if-self-eq-MAX_LINES.false) in
    let took = rw c.in-Ok-Cut.field-0-is at c.in-Ok-Cut.ensures.took in
    let short = took.1.1 in
    let least = c.min.ensures in
    let within : IsWithinLimits c.args.self.now.number c.args.self.now.room c.take_line.new.line.items = record { no_lf = took.1.0; line = omega (arith, short, least, most); script = omega (arith, short, least, room); lines = λ some. few } in
    rw c.bad_line-in-Ok-Cut.ensures (truncated c.take_line.new.line.items took.0 within took.2 took.3 (omega (arith, number)))
