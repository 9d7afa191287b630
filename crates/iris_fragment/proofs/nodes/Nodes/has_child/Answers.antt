use Rattle.std.proofs.Common.{◌≡◌, ◌∙◌, sym, ap, rules, None, false, true, drop, take, length, is_some, Option}
use Rattle.std.specs.Cmp.Lexicographic.{pointwise}
use Rattle.std.proofs.lemmas.Slice.Eq.{starts_is}
use Rattle.iris_base.specs.NameOrder.{label_eq}
use Rattle.iris_base.proofs.Labels.{label_eq-Decides}
use Rattle.iris_fragment.specs.declared.held.HeldNode.{HeldNode}
use Rattle.iris_fragment.specs.Contents.{held_at}
use Rattle.iris_fragment.proofs.Names.{name_exact}
use Rattle.iris_fragment.proofs.NodeEntries.{held_now, no_child_behind, child_behind}
use Rattle.iris_fragment.proofs.nodes.Nodes.has_child.Goals as goal

pub returns-in_default : goal.returns-in_default
returns-in_default c =
    let none : held_at c.args.self.now c.args.name.now ≡ None = held_now c.self.inside.map.entries c.args.self.now c.args.name.now None c.self.view_is (search rules) in
    let bad : false ≡ true = sym (ap (λ (o : Option HeldNode). is_some o) none) ∙ c.requires.held in
    absurd (cc)

pub returns-in-None : goal.returns-in-None
returns-in-None c =
    no_child_behind c.self.inside.map c.range.result c.in-Some.key.now c.args.self.now c.args.name.now c.self.view_is (name_exact _ _ c.in-Some.ensures.same_key)
    (c.range.ensures.in_range tt) c.in-None.ensures.steps.0

pub returns-in-Some-next : goal.returns-in-Some-next
returns-in-Some-next c =
    let test : c.starts_with.result ≡ pointwise label_eq c.args.name.now (take (length c.args.name.now) c.in-Some-next.next.now.items) = search rules in
    let both = starts_is {E = label_eq} label_eq-Decides c.in-Some-next.next.now.items c.args.name.now c.starts_with.result test in
    child_behind c.self.inside.map c.range.result c.next.new.self c.in-Some.key.now (c.in-Some-next.next.now, c.in-Some-next.field-0-1.now) c.args.self.now c.args.name.now
    c.self.view_is (name_exact _ _ c.in-Some.ensures.same_key) c.requires.rooted (c.range.ensures.in_range tt) c.in-Some-next.ensures.steps c.starts_with.result
    (λ h. (drop (length c.args.name.now) c.in-Some-next.next.now.items, both.0 h)) (λ u. both.1 u.0 u.1)
