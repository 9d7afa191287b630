use Rattle.std.proofs.Common.{List, ℕ, [], subst, ◌∙◌, Ok}
use Rattle.std.specs.Io.Buffered.{reader_remaining}
use Rattle.iris_cli.specs.Lines.{TakesPart}
use Rattle.iris_cli.proofs.Bytes.{part_after, nothing_taken, nothing_kept, fault_part}
use Rattle.iris_cli.proofs.source.StdSourceSource.take_until_lf.Goals as goal

pub returns-in-Ok-clause-took : goal.returns-in-Ok-clause-took
returns-in-Ok-clause-took g c =
    let first = reader_remaining g.R.Read.remaining c.args.self.now.reader in
    let mid = reader_remaining g.R.Read.remaining c.loop.self.reader in
    let new = reader_remaining g.R.Read.remaining c.take_part.new.reader in
    let after = c.take_part.new.line.items in
    let took = part_after c.args.most first mid new c.loop.line.items after (Ok c.in-Ok.part) c.loop.invariant.left c.in-Ok.ensures.ok in
    subst (λ (v : List ℕ). TakesPart c.args.most first new v after (Ok c.in-Ok.part)) c.loop.invariant.kept took

pub returns-in-Err-2-clause-took : goal.returns-in-Err-2-clause-took
returns-in-Err-2-clause-took g c = ([], nothing_taken _ _ _ c.loop.invariant.left c.in-Err.ensures.err.1, tt)

pub returns-in-Err-3-clause-took : goal.returns-in-Err-3-clause-took
returns-in-Err-3-clause-took g c =
    fault_part c.args.most _ _ c.args.line.now.items c.take_part.new.line.items c.count_fault.result (c.in-Err.ensures.err.0 ∙ c.loop.invariant.kept) (nothing_taken _ _ _ c.loop.invariant.left c.in-Err.ensures.err.1)

pub returns-clause-took : goal.returns-clause-took
returns-clause-took g c = fault_part c.args.most _ _ c.args.line.now.items c.loop.line.items c.count_fault-2.result c.loop.invariant.kept (nothing_kept _ _ c.loop.invariant.left)
