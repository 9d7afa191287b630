use Rattle.std.proofs.Common.{sym, subst, max}
use Rattle.iris_xpath.specs.declared.state.State.{State}
use Rattle.iris_xpath.specs.declared.state.State.TheVariants as states
use Rattle.iris_xpath.specs.Parens.{parens_in}
use Rattle.iris_xpath.specs.Reading.{Reached, Traced}
use Rattle.iris_xpath.specs.Trees.{named, step_of}
use Rattle.iris_xpath.proofs.Words.{tells, knows}
use Rattle.iris_xpath.proofs.Judging.{quote_kept, literal_step, judged_open, refused_end, traced_literal}
use Rattle.iris_xpath.proofs.EqualityRuns.{reached_equality, traced_equality, name_opens}
use Rattle.iris_xpath.proofs.parser.advance.Goals as goal

pub read_literal-requires : goal.read_literal-requires
read_literal-requires c = quote_kept (named c.args.kinds.now) (tells c.args.kinds.now) c.args.text.now c.args.rest.now c.in-InLiteral.quote c.in-InLiteral.side c.args.stack.now (rw c.in-InLiteral.is at c.requires.reached)

pub returns-in-Ok-Some-clause-ok : goal.returns-in-Ok-Some-clause-ok
returns-in-Ok-Some-clause-ok c = literal_step (named c.args.kinds.now) c.args.text.now c.in-InLiteral.quote c.in-InLiteral.side c.args.stack.now c.args.rest.now _ _ (rw c.in-InLiteral.is at c.requires.reached) (rw c.in-Ok-Some.field-0-is at c.in-Ok-Some.ensures)

pub returns-in-Ok-None-clause-err : goal.returns-in-Ok-None-clause-err
returns-in-Ok-None-clause-err c =
    let r = rw c.in-InLiteral.is at c.requires.reached in
    refused_end (named c.args.kinds.now) c.args.text.now (judged_open (named c.args.kinds.now) (tells c.args.kinds.now) (knows c.args.kinds.now) c.args.text.now r.0 c.args.rest.now c.in-InLiteral.quote c.in-InLiteral.side c.args.stack.now r.1 r.2 (rw c.in-Ok-None.field-0-is at c.in-Ok-None.ensures))

pub returns-in-Ok-Some-clause-traced : goal.returns-in-Ok-Some-clause-traced
returns-in-Ok-Some-clause-traced c d t = traced_literal (named c.args.kinds.now) c.args.text.now c.in-InLiteral.quote c.in-InLiteral.side c.args.stack.now c.args.rest.now _ _ d (rw c.in-InLiteral.is at t) (rw c.in-Ok-Some.field-0-is at c.in-Ok-Some.ensures)

pub returns-in-Ok-clause-ok : goal.returns-in-Ok-clause-ok
returns-in-Ok-clause-ok c =
    let n = named c.args.kinds.now in
    let w = c.in-InWord in
    let found = c.in-Ok-Some-split_equality in
    subst (λ (x : State). Reached n c.args.text.now x c.args.stack.now found.after.now) (sym c.in-Ok.ensures)
    (reached_equality n c.args.text.now (states.InWord w.separator w.word w.spot) (step_of w.separator (n w.word)) w.spot c.args.stack.now c.args.rest.now found.after.now found.predicate (name_opens n w.separator w.word w.spot c.args.stack.now) (rw c.in-InWord.is at c.requires.reached)
    (rw c.in-Ok-Some-split_equality.field-0-is at c.in-Ok-Some-split_equality.ensures))

pub returns-in-Ok-clause-traced : goal.returns-in-Ok-clause-traced
returns-in-Ok-clause-traced c d t =
    let n = named c.args.kinds.now in
    let w = c.in-InWord in
    let found = c.in-Ok-Some-split_equality in
    subst (λ (x : State). Traced n c.args.text.now x c.args.stack.now found.after.now (max d (parens_in c.args.stack.now))) (sym c.in-Ok.ensures)
    (traced_equality n c.args.text.now (states.InWord w.separator w.word w.spot) (step_of w.separator (n w.word)) w.spot c.args.stack.now c.args.rest.now found.after.now found.predicate d (name_opens n w.separator w.word w.spot c.args.stack.now) (rw c.in-InWord.is at t)
    (rw c.in-Ok-Some-split_equality.field-0-is at c.in-Ok-Some-split_equality.ensures))
