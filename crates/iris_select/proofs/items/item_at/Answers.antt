use Rattle.std.proofs.Common.{◌≡◌, ◌∙◌, List, ℕ, None, Some, ap}
use Rattle.iris_base.specs.declared.name.Label.{Label}
use Rattle.iris_tree.specs.declared.local.Local.{Local}
use Rattle.iris_tree.specs.declared.plain.Plain.{Plain}
use Rattle.iris_tree.specs.Universe.{local_of}
use Rattle.iris_select.specs.Places.{element_at}
use Rattle.iris_select.proofs.ItemAt.{plain_item, item_none, item_node, item_plain}
use Rattle.iris_select.proofs.items.item_at.Goals as goal

pub returns-in_default : goal.returns-in_default
returns-in_default c = item_none c.args.tree.now c.args.place.now.name c.args.place.now.path c.in_default.ensures

pub returns-then-is_empty : goal.returns-then-is_empty
returns-then-is_empty c = item_node c.args.tree.now c.args.place.now.name _ c.args.place.now.path c.in-Some.node.now _ c.in-Some.ensures (c.is_empty.ensures.0 c.if-is_empty.true) c.in_ok-copy.ensures c.in_ok-copy-2.ensures

pub returns-in_ok-copy-in-Some-plain_at-2 : goal.returns-in_ok-copy-in-Some-plain_at-2
returns-in_ok-copy-in-Some-plain_at-2 c =
    let there : Some c.in-Some-plain_at.plain.now ≡ element_at (local_of c.in-Some.node.now).plain c.args.place.now.path =
    c.in-Some-plain_at.ensures ∙ ap (λ (l : Local). element_at l.plain c.as_slice.result.now) c.local.ensures ∙ ap (λ (path : List ℕ). element_at (local_of c.in-Some.node.now).plain path) c.as_slice.ensures in
    ap (λ (m : List Label). Some (plain_item m c.in_ok-copy-in-Some-plain_at-2.field-0)) c.in_ok-copy-in-Some-plain_at.ensures
    ∙ ap (λ (p : Plain). Some (plain_item c.args.place.now.name p)) c.in_ok-copy-in-Some-plain_at-2.ensures
    ∙ item_plain c.args.tree.now c.args.place.now.name c.args.place.now.path c.in-Some.node.now (Some c.in-Some-plain_at.plain.now) c.in-Some.ensures c.if-is_empty.ensures.1 there

pub returns-in-None : goal.returns-in-None
returns-in-None c =
    let there : None ≡ element_at (local_of c.in-Some.node.now).plain c.args.place.now.path =
    c.in-None.ensures ∙ ap (λ (l : Local). element_at l.plain c.as_slice.result.now) c.local.ensures ∙ ap (λ (path : List ℕ). element_at (local_of c.in-Some.node.now).plain path) c.as_slice.ensures in
    item_plain c.args.tree.now c.args.place.now.name c.args.place.now.path c.in-Some.node.now None c.in-Some.ensures c.if-is_empty.ensures.1 there
