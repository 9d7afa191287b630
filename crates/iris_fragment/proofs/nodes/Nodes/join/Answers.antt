use Rattle.std.proofs.Common.{◌≡◌, ◌∙◌, sym, refl, rules, None, false}
use Rattle.iris_fragment.specs.Contents.{held_at}
use Rattle.iris_fragment.specs.Changes.{part_in, takes_any}
use Rattle.iris_fragment.proofs.Parts.{not_placed}
use Rattle.iris_fragment.proofs.nodes.Nodes.join.Goals as goal

pub returns-in_default-clause-nodes : goal.returns-in_default-clause-nodes
returns-in_default-clause-nodes c =
    let none : c.args.full ≡ None = search rules in
    not_placed c.args.self.now c.args.name.now c.args.full (rw none refl)

pub returns-then-not-takes-clause-nodes : goal.returns-then-not-takes-clause-nodes
returns-then-not-takes-clause-nodes c =
    let no : takes_any (part_in (held_at c.args.self.now c.args.name.now)) c.args.full ≡ false = rw c.in-Some.is (sym c.takes.ensures ∙ search rules) in
    not_placed c.args.self.now c.args.name.now c.args.full no
