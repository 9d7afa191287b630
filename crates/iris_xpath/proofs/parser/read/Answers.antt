use Rattle.std.proofs.Common.{rules, arith, max, subst, ap, sym, ◌∙◌}
use Rattle.iris_xpath.specs.Trees.{named}
use Rattle.iris_xpath.specs.Parens.{parens_in}
use Rattle.iris_xpath.specs.Reading.{Traced}
use Rattle.iris_xpath.proofs.Words.{tells, knows}
use Rattle.iris_xpath.proofs.WordRuns.{reached_on, traced_on, within_max, no_longer}
use Rattle.iris_xpath.proofs.Judging.{found_end, stop_end, empty_is, refused_end}
use Rattle.iris_xpath.proofs.parser.read.Goals as goal

pub returns-in-Ok-Some-clause-found : goal.returns-in-Ok-Some-clause-found
returns-in-Ok-Some-clause-found c =
    found_end (named c.args.kinds.now) (tells c.args.kinds.now) (knows c.args.kinds.now) c.args.text.now c.bytes.state c.bytes.stack c.bytes.rest.now c.in-Ok-Some.steps c.bytes.parens c.bytes.invariant.reached c.bytes.invariant.traced (empty_is c.bytes.rest.now c.bytes-test.ensures) (rw c.in-Ok-Some.field-0-is at (c.in-Ok-Some.ensures c.bytes.stack))

pub returns-in-Ok-None-clause-refused : goal.returns-in-Ok-None-clause-refused
returns-in-Ok-None-clause-refused c =
    refused_end (named c.args.kinds.now) c.args.text.now (stop_end (named c.args.kinds.now) (tells c.args.kinds.now) (knows c.args.kinds.now) c.args.text.now c.bytes.state c.bytes.stack c.bytes.rest.now c.bytes.invariant.reached (empty_is c.bytes.rest.now c.bytes-test.ensures) (rw c.in-Ok-None.field-0-is at (c.in-Ok-None.ensures c.bytes.stack)))

pub bytes-preserved : goal.bytes-preserved
bytes-preserved c =
    let k = c.in-Ok.ensures in
    let r = c.in-Ok-read_word.ensures in
    let deepest = max c.bytes.parens (parens_in c.advance.new.stack) in
    record {
      utf8 = search rules;
      traced = subst (Traced (named c.args.kinds.now) c.args.text.now c.read_word.new.state c.advance.new.stack c.in-Ok-read_word.after.now) (sym (c.max-parens.ensures ∙ ap (max c.bytes.parens) c.parens.ensures)) (traced_on (named c.args.kinds.now) c.args.text.now c.in-Ok.next c.read_word.new.state c.advance.new.stack c.in-Ok.after.now c.in-Ok-read_word.after.now deepest (k.traced c.bytes.parens c.bytes.invariant.traced) (within_max c.bytes.parens (parens_in c.advance.new.stack)) r);
      reached = reached_on (named c.args.kinds.now) c.args.text.now c.in-Ok.next c.read_word.new.state c.advance.new.stack c.in-Ok.after.now c.in-Ok-read_word.after.now k.ok r;
    }

pub bytes-smaller : goal.bytes-smaller
bytes-smaller c =
    let k = c.in-Ok.ensures.shorter in
    let l = no_longer c.in-Ok.next c.read_word.new.state c.in-Ok.after.now c.in-Ok-read_word.after.now c.in-Ok-read_word.ensures in
    omega (arith, k, l)
