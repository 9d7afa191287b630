use Rattle.std.proofs.Common.{◌≡◌, rules, drop, take, length}
use Rattle.std.specs.Cmp.Lexicographic.{pointwise}
use Rattle.std.proofs.lemmas.Slice.Eq.{starts_is}
use Rattle.iris_base.specs.NameOrder.{label_eq}
use Rattle.iris_base.proofs.Labels.{label_eq-Decides}
use Rattle.iris_base.proofs.name.Name.is_under.Goals as goal

pub returns : goal.returns
returns c =
    let test : c.starts_with.result ≡ pointwise label_eq c.args.top.now (take (length c.args.top.now) c.args.self.now) = search rules in
    let both = starts_is {E = label_eq} label_eq-Decides c.args.self.now c.args.top.now c.starts_with.result test in
    ((λ h. (drop (length c.args.top.now) c.args.self.now, both.0 (search rules))), (λ u. let yes = both.1 u.0 u.1 in search rules))
