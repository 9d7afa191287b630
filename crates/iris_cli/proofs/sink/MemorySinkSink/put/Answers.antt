use Rattle.std.proofs.Common.{rules, ◌≡◌, ◌++◌, sym, take, drop}
use Rattle.std.proofs.lemmas.List.{take-append-drop}
use Rattle.iris_cli.proofs.sink.MemorySinkSink.put.Goals as goal

pub returns-then-fails-2-clause-bytes : goal.returns-then-fails-2-clause-bytes
returns-then-fails-2-clause-bytes c =
    let bytes = c.args.bytes.now in
    let count = c.if-fails.count in
    let added : c.extend_from_slice.new.self.items ≡ c.args.self.now.bytes.items ++ take count bytes = search rules in
    (take count bytes, drop count bytes, sym (take-append-drop count bytes), added)
