use Rattle.std.proofs.Common.{◌≡◌, [], refl, rules}
use Rattle.iris_cli.proofs.Bytes.{at_its_end, left_so}
use Rattle.iris_cli.proofs.source.take_part.Goals as goal

pub returns-then-is_empty-clause-ok : goal.returns-then-is_empty-clause-ok
returns-then-is_empty-clause-ok g c =
    let none = left_so (g.B.Read.remaining c.args.reader.now) _ (λ xs. xs ≡ []) (λ xs ends. ends (search rules)) c.in_ok-bytes.ensures.end in
    let end = at_its_end _ _ none c.fill_buf.follows.holds-at-none.0 in
    (refl, end.0, end.1)
