use Rattle.std.proofs.Common.{◌≡◌, ◌∙◌, ap, refl, rules, Some, None}
use Rattle.std.specs.Map.{lookup}
use Rattle.std.specs.BTreeMap.{is_at}
use Rattle.iris_fragment.specs.declared.held.Part.{Part}
use Rattle.iris_fragment.specs.Stored.{entries_named}
use Rattle.iris_fragment.proofs.NodeEntries.{Entries, against, held_now, part_put, part_not_put, sorted-named}
use Rattle.iris_fragment.proofs.nodes.Nodes.replace.Goals as goal

pub returns-in_err-node-clause-part : goal.returns-in_err-node-clause-part
returns-in_err-node-clause-part c =
    let none : None ≡ lookup (is_at (against c.args.name.now)) c.self.inside.map.entries = search rules in
    let held = held_now c.self.inside.map.entries c.args.self.now c.args.name.now None c.self.view_is none in
    rw held (search rules)

pub returns-in_err-node-clause-nodes : goal.returns-in_err-node-clause-nodes
returns-in_err-node-clause-nodes c =
    let none : None ≡ lookup (is_at (against c.args.name.now)) c.self.inside.map.entries = search rules in
    ap (λ (es : Entries). entries_named es) (ap (λ m. m.entries) (c.get_mut.follows.holds-at-none)) ∙ part_not_put c.self.inside.map.entries c.args.self.now c.args.name.now c.args.part c.self.view_is none

pub invariant_of-self-2 : goal.invariant_of-self-2
invariant_of-self-2 c = sorted-named _ (c.get_mut.follows.holds _).4

pub returns-clause-part : goal.returns-clause-part
returns-clause-part c =
    let held = held_now c.self.inside.map.entries c.args.self.now c.args.name.now (Some c.in_ok-node.node.now) c.self.view_is c.in_ok-node.ensures.value in
    rw held (ap (λ (p : Part). Some p) c.replace.ensures.value)

pub returns-clause-nodes : goal.returns-clause-nodes
returns-clause-nodes c =
    part_put c.self.inside.map.entries _ c.args.self.now c.args.name.now c.in_ok-node.node.now c.args.part c.self.view_is c.in_ok-node.ensures.value
    ((c.get_mut.follows.holds _).0 ∙ rw c.replace.ensures.after refl)
