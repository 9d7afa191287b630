use Rattle.std.proofs.Common.{◌≡◌, ◌≤◌, ◌<◌, ◌-◌, ◌+◌, ℕ, List, min, length, take, drop, ap, ◌∙◌, arith}
use Rattle.iris_cli.proofs.Bytes.{taken_bytes}
use Rattle.iris_cli.proofs.source.MemorySourceSource.take.Goals as goal

pub returns-clause-bytes : goal.returns-clause-bytes
returns-clause-bytes c =
    let w : c.args.self.now.position ≤ length c.args.self.now.bytes.items = c.args.self.now.within in
    let m : 0 < c.args.self.now.step = c.args.self.now.moves in
    let k : c.min-count.result ≡ min (min (length c.args.self.now.bytes.items - c.args.self.now.position) (length c.args.room.now)) c.args.self.now.step =
    c.min-count.ensures ∙ ap (λ n. min n c.args.self.now.step) (c.min.ensures ∙ ap (λ n. min (n - c.args.self.now.position) (length c.args.room.now)) (c.len.ensures ∙ c.args.self.now.bytes.ok.0)) in
    let f = c.copy_from_slice.ensures.after ∙ ap (λ (v : List ℕ). take (c.args.self.now.position + c.min-count.result - c.args.self.now.position) (drop c.args.self.now.position v)) c.deref-2.ensures.value in
    let r : length c.args.self.now.bytes.items - c.args.self.now.position + c.args.self.now.position ≡ length c.args.self.now.bytes.items = omega (arith, w) in
    taken_bytes c.args.self.now.bytes.items c.args.room.now _ c.args.self.now.position c.min-count.result (length c.args.self.now.bytes.items - c.args.self.now.position) c.args.self.now.step w r m k f
