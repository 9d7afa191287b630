use Rattle.std.proofs.Common.{◌≡◌, ◌+◌, ◌<◌, ◌∙◌, sym, ap, subst, rules, arith, length, false, None, slice_get}
use Rattle.std.specs.List.{list_any}
use Rattle.std.specs.Option.{option_map_or}
use Rattle.std.specs.Cmp.Lexicographic.{pointwise}
use Rattle.iris_base.specs.NameOrder.{label_eq}
use Rattle.iris_book.specs.declared.linked.LinkedUpdate.{LinkedUpdate}
use Rattle.iris_book.specs.Book.{updates_of}
use Rattle.iris_book.specs.Linked.{AcceptedUpdates, IsAt}
use Rattle.iris_book.proofs.Named.{last_here, count_fits, count_is, count_none, get_is}
use Rattle.iris_book.proofs.linked.LinkedUpdates.last.Goals as goal

pub returns-in_err-node-clause-count : goal.returns-in_err-node-clause-count
returns-in_err-node-clause-count c =
    let none : c.from_residual.result ≡ None = search rules in
    let absent : list_any (pointwise label_eq c.args.name.now) c.self.inside.names.keys ≡ false = search rules in
    ap (λ o. option_map_or (λ last. last.now.before + 1) o 0) none
    ∙ sym (ap length (count_none _ _ _ c.args.name.now c.self.invariant absent)) ∙ ap (λ (a : AcceptedUpdates). length (updates_of a.updates c.args.name.now)) c.self.view_is

pub index-requires : goal.index-requires
index-requires c =
    let in_names : c.in_ok-node.node < length c.self.inside.names.keys = search rules in
    let here = last_here _ _ _ c.in_ok-node.node c.index-last.result.now c.self.invariant in_names c.index-last.ensures in
    omega (arith, here.2.within, c.self.inside.entered.ok.0)

pub returns-clause-last : goal.returns-clause-last
returns-clause-last c =
    let in_names : c.in_ok-node.node < length c.self.inside.names.keys = search rules in
    let e = c.index.result.now in
    let end = last_here _ _ _ c.in_ok-node.node c.index-last.result.now c.self.invariant in_names c.index-last.ensures in
    let before : e.before ≡ end.0 = ap (λ (x : LinkedUpdate). x.before) c.index.ensures ∙ end.2.before_is e in
    let here : IsAt c.self.inside.entered.items c.index-last.result.now c.in_ok-node.node e.before = subst (λ k. IsAt c.self.inside.entered.items c.index-last.result.now c.in_ok-node.node k) (sym before) end.2 in
    sym (get_is _ _ _ c.args.name.now c.in_ok-node.node c.index-last.result.now e.before e c.self.invariant c.in_ok-node.ensures.index here c.index.ensures
    ∙ ap (λ (a : AcceptedUpdates). slice_get (updates_of a.updates c.args.name.now) e.before) c.self.view_is)

pub returns-clause-count : goal.returns-clause-count
returns-clause-count c =
    let in_names : c.in_ok-node.node < length c.self.inside.names.keys = search rules in
    count_is _ _ _ c.args.name.now c.in_ok-node.node c.index-last.result.now c.index.result.now c.self.invariant in_names c.in_ok-node.ensures.index c.index-last.ensures c.index.ensures
    ∙ ap (λ (a : AcceptedUpdates). length (updates_of a.updates c.args.name.now)) c.self.view_is

pub returns-clause-fits : goal.returns-clause-fits
returns-clause-fits c =
    let in_names : c.in_ok-node.node < length c.self.inside.names.keys = search rules in
    let fits = count_fits _ _ _ c.in_ok-node.node c.index-last.result.now c.index.result.now c.self.invariant in_names c.index-last.ensures c.index.ensures in
    omega (arith, fits, c.self.inside.entered.ok.0, c.self.inside.entered.ok.1, c.self.inside.entered.small)
