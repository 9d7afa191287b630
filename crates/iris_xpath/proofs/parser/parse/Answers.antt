use Rattle.std.proofs.Common.{ap, ◌∙◌}
use Rattle.std.proofs.lemmas.Result.{err_from_is_err_and}
use Rattle.iris_xpath.specs.Syntax.{Syntax}
use Rattle.iris_xpath.specs.Tally.{limit_of}
use Rattle.iris_xpath.specs.Trees.{named}
use Rattle.iris_xpath.proofs.Words.{knows}
use Rattle.iris_xpath.proofs.Exact.{refused_gives, over_gives, same_gives, reads_once}
use Rattle.iris_xpath.proofs.parser.parse.Goals as goal

pub returns-in_err-steps-clause-only : goal.returns-in_err-steps-clause-only
returns-in_err-steps-clause-only c q f =
    let p = err_from_is_err_and c.from_residual.result c.from_residual.ensures.1 in
    rw (p.1, p.2) (refused_gives (named c.args.kinds.now) (knows c.args.kinds.now) c.args.text.now c.in_err-steps.field-0.0 c.in_err-steps.ensures.refused q f)

pub returns-in-Some-clause-only : goal.returns-in-Some-clause-only
returns-in-Some-clause-only c = over_gives (named c.args.kinds.now) (knows c.args.kinds.now) c.args.text.now c.in_ok-steps.steps c.in_ok-steps.parens c.in-Some.which c.in_ok-steps.ensures.found (c.in-Some.ensures ∙ ap (λ (q : Syntax). limit_of q c.in_ok-steps.parens) c.as_slice.ensures)

pub returns-in-None-clause-only : goal.returns-in-None-clause-only
returns-in-None-clause-only c = λ q f. c.new.ensures ∙ same_gives (named c.args.kinds.now) (knows c.args.kinds.now) c.args.text.now c.in_ok-steps.steps c.in_ok-steps.parens c.in_ok-steps.ensures.found q f

pub returns-then-text-gt-MAX_QUERY_BYTES-clause-once : goal.returns-then-text-gt-MAX_QUERY_BYTES-clause-once
returns-then-text-gt-MAX_QUERY_BYTES-clause-once c = reads_once c.args.kinds.now c.args.text.now

pub returns-in_err-steps-clause-once : goal.returns-in_err-steps-clause-once
returns-in_err-steps-clause-once c = reads_once c.args.kinds.now c.args.text.now

pub returns-in-Some-clause-once : goal.returns-in-Some-clause-once
returns-in-Some-clause-once c = reads_once c.args.kinds.now c.args.text.now

pub returns-in-None-clause-once : goal.returns-in-None-clause-once
returns-in-None-clause-once c = reads_once c.args.kinds.now c.args.text.now
