use Rattle.std.proofs.Common.{◌≡◌, ◌≤◌, ◌-◌, length, arith, refl, sym, ap, ◌∙◌, Some}
use Rattle.iris_tree.specs.Universe.{label_of}
use Rattle.iris_select.specs.Parts.{Child}
use Rattle.iris_select.proofs.Children.{plain_get, node_within, node_get}
use Rattle.iris_select.proofs.spot.Children.get.Goals as goal

pub returns-then-at-plain : goal.returns-then-at-plain
returns-then-at-plain c = plain_get c.args.self.now.plain.now _ c.args.at _ c.if-at-plain.true c.index-plain-at.is

pub unreachable-requires : goal.unreachable-requires
unreachable-requires c = absurd (omega (arith, node_within c.args.self.now.plain.now c.args.self.now.nodes.now c.args.at c.requires (omega arith)))

pub returns : goal.returns
returns c =
    let n = c.index-nodes-place.result in
    node_get c.args.self.now.plain.now c.args.self.now.nodes.now c.args.at n (label_of n) (omega arith) (omega arith) c.index-nodes-place.is refl ∙ ap (λ (x : Child). Some x) (sym c.node_at.ensures)
