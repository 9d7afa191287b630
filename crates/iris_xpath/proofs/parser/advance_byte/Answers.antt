use Rattle.std.proofs.Common.{refl}
use Rattle.iris_xpath.specs.Trees.{named}
use Rattle.iris_xpath.proofs.Words.{tells, knows}
use Rattle.iris_xpath.proofs.Judging.{rest_within, byte_step, shorter_byte, byte_stop, traced_byte}
use Rattle.iris_xpath.proofs.parser.advance_byte.Goals as goal

pub refusal-requires : goal.refusal-requires
refusal-requires c = rest_within c.args.text.now c.requires.reached.0 c.args.rest.now c.requires.reached.1

pub returns-in-Ok-Some : goal.returns-in-Ok-Some
returns-in-Ok-Some c =
    let k = rw c.in-Ok-Some.field-0-is at c.in-Ok-Some.ensures in
    record {
      ok = byte_step (named c.args.kinds.now) c.args.text.now c.args.state c.args.state _ c.args.stack.now c.read_byte.new.stack c.args.rest.now _ c.requires.reached refl k;
      traced = λ d t. traced_byte (named c.args.kinds.now) c.args.text.now c.args.state _ c.args.stack.now c.read_byte.new.stack c.args.rest.now _ d t k;
      shorter = shorter_byte c.args.rest.now _ k.0 k.1;
      err = tt;
    }

pub returns-in-Ok-None : goal.returns-in-Ok-None
returns-in-Ok-None c = record {
  ok = tt;
  traced = λ _ _. tt;
  shorter = tt;
  err = byte_stop (named c.args.kinds.now) (tells c.args.kinds.now) (knows c.args.kinds.now) c.args.text.now c.args.state c.args.stack.now c.args.rest.now _ c.of-last.result c.requires.reached c.requires.some (rw c.in-Ok-None.field-0-is at c.in-Ok-None.ensures) c.of-last.ensures c.refusal.ensures;
}
