use Rattle.std.proofs.Common.{◌≡◌, ◌<◌, ◌∙◌, sym, ap, subst, rules, arith, length, false, None, slice_get, option_copied, get_or}
use Rattle.std.specs.List.{list_any}
use Rattle.std.specs.Cmp.Lexicographic.{pointwise}
use Rattle.iris_base.specs.NameOrder.{label_eq}
use Rattle.iris_book.specs.Book.{updates_of}
use Rattle.iris_book.specs.Linked.{AcceptedUpdates, IsAt}
use Rattle.iris_book.proofs.LinkSteps.{still_later}
use Rattle.iris_book.proofs.Named.{last_here, count_none, get_is, get_past}
use Rattle.iris_book.proofs.linked.LinkedUpdates.get.Goals as goal

pub returns-in_err-node : goal.returns-in_err-node
returns-in_err-node c =
    let none : c.from_residual.result ≡ None = search rules in
    let absent : list_any (pointwise label_eq c.args.name.now) c.self.inside.names.keys ≡ false = search rules in
    ap option_copied none ∙ sym (ap (λ us. slice_get us c.args.number) (count_none _ _ _ c.args.name.now c.self.invariant absent))
    ∙ ap (λ (a : AcceptedUpdates). slice_get (updates_of a.updates c.args.name.now) c.args.number) c.self.view_is

pub index-requires : goal.index-requires
index-requires c =
    let in_names : c.in_ok-node.node < length c.self.inside.names.keys = search rules in
    let here = last_here _ _ _ c.in_ok-node.node c.index-last.result.now c.self.invariant in_names c.index-last.ensures in
    omega (arith, here.2.within, c.self.inside.entered.ok.0)

pub returns-then-index-number : goal.returns-then-index-number
returns-then-index-number c =
    let in_names : c.in_ok-node.node < length c.self.inside.names.keys = search rules in
    get_past _ _ _ c.args.name.now c.in_ok-node.node c.index-last.result.now c.args.number c.index.result.now c.self.invariant in_names c.in_ok-node.ensures.index c.index-last.ensures c.index.ensures c.if-index-number.true
    ∙ ap (λ (a : AcceptedUpdates). slice_get (updates_of a.updates c.args.name.now) c.args.number) c.self.view_is

pub step_back-at-requires-clause-last : goal.step_back-at-requires-clause-last
step_back-at-requires-clause-last c =
    let in_names : c.in_ok-node.node < length c.self.inside.names.keys = search rules in
    rw c.deref.ensures.value (last_here _ _ _ c.in_ok-node.node c.index-last.result.now c.self.invariant in_names c.index-last.ensures).2.within

pub step_back-at-requires-clause-later : goal.step_back-at-requires-clause-later
step_back-at-requires-clause-later c = λ d.
    let in_names : c.in_ok-node.node < length c.self.inside.names.keys = search rules in
    let within = (last_here _ _ _ c.in_ok-node.node c.index-last.result.now c.self.invariant in_names c.index-last.ensures).2.within in
    rw c.deref.ensures.value (still_later _ c.index-last.result.now c.args.number d c.index.result.now within c.index.ensures c.if-index-number.false)

pub index-requires-2 : goal.index-requires-2
index-requires-2 c =
    let within = (c.step_back-at.ensures c.index.result.now).within in
    omega (arith, within, c.deref.ensures.len, c.self.inside.entered.ok.0)

pub returns : goal.returns
returns c =
    let in_names : c.in_ok-node.node < length c.self.inside.names.keys = search rules in
    let e = c.index.result.now in
    let end = last_here _ _ _ c.in_ok-node.node c.index-last.result.now c.self.invariant in_names c.index-last.ensures in
    let at : IsAt c.self.inside.entered.items c.step_back-at.result (get_or c.self.inside.entered.items c.index-last.result.now e).node c.args.number = rw c.deref.ensures.value at (c.step_back-at.ensures e) in
    let here : IsAt c.self.inside.entered.items c.step_back-at.result c.in_ok-node.node c.args.number = subst (λ k. IsAt c.self.inside.entered.items c.step_back-at.result k c.args.number) (end.2.node_is e) at in
    get_is _ _ _ c.args.name.now c.in_ok-node.node c.step_back-at.result c.args.number c.index-2.result.now c.self.invariant c.in_ok-node.ensures.index here c.index-2.ensures
    ∙ ap (λ (a : AcceptedUpdates). slice_get (updates_of a.updates c.args.name.now) c.args.number) c.self.view_is
