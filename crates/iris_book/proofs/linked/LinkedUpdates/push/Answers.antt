use Rattle.std.proofs.Common.{◌≡◌, ◌<◌, ◌++◌, ◌∷◌, [], ◌∙◌, ap, rules, arith, length, false, Bool, if◌then◌else◌}
use Rattle.std.specs.List.{list_any}
use Rattle.std.specs.Cmp.Lexicographic.{pointwise}
use Rattle.iris_base.specs.NameOrder.{label_eq}
use Rattle.iris_book.specs.Linked.{AcceptedUpdates}
use Rattle.iris_book.proofs.Named.{last_here, count_fits, number_found}
use Rattle.iris_book.proofs.Pushed.{orderly_again, orderly_first, updates_again, updates_first}
use Rattle.iris_book.proofs.linked.LinkedUpdates.push.Goals as goal

pub index-requires : goal.index-requires
index-requires c =
    let in_names : c.in-Some.node < length c.self.inside.names.keys = search rules in
    let here = last_here _ _ _ c.in-Some.node c.index-earlier.result.now c.self.invariant in_names c.index-earlier.ensures in
    omega (arith, here.2.within, c.self.inside.entered.ok.0)

pub overflow_add-entered : goal.overflow_add-entered
overflow_add-entered c =
    let in_names : c.in-Some.node < length c.self.inside.names.keys = search rules in
    let fits = count_fits _ _ _ c.in-Some.node c.index-earlier.result.now c.index.result.now c.self.invariant in_names c.index-earlier.ensures c.index.ensures in
    omega (arith, fits, c.self.inside.entered.ok.0, c.self.inside.entered.small)

pub jump_from-requires-clause-earlier : goal.jump_from-requires-clause-earlier
jump_from-requires-clause-earlier c =
    let in_names : c.in-Some.node < length c.self.inside.names.keys = search rules in
    rw c.deref.ensures.value (last_here _ _ _ c.in-Some.node c.index-earlier.result.now c.self.invariant in_names c.index-earlier.ensures).2.within

pub invariant_of-self : goal.invariant_of-self
invariant_of-self c =
    let in_names : c.in-Some.node < length c.self.inside.names.keys = search rules in
    let jumps = rw c.deref.ensures.value at c.jump_from.ensures in
    orderly_again _ _ _ _ c.in-Some.node c.index-earlier.result.now c.len-place.result c.jump_from.result c.args.update c.index.result.now c.self.invariant in_names c.index-earlier.ensures c.index.ensures jumps
    (c.len-place.ensures ∙ c.self.inside.entered.ok.0) c.push_reserved.ensures.items

pub returns-in-Some-clause-updates : goal.returns-in-Some-clause-updates
returns-in-Some-clause-updates c =
    updates_again _ _ _ _ c.args.name _ (ap (λ (a : AcceptedUpdates). a.updates) c.self.view_is) (number_found _ _ c.in-Some.node c.self.invariant.apart c.in-Some.ensures.index) c.push_reserved.ensures.items

pub invariant_of-self-2 : goal.invariant_of-self-2
invariant_of-self-2 c =
    let absent : list_any (pointwise label_eq c.args.name) c.self.inside.names.keys ≡ false = search rules in
    let keys = rw c.unwrap.ensures at c.insert.ensures.keys in
    let grown : c.insert.new.self.keys ≡ c.self.inside.names.keys ++ c.args.name ∷ [] = keys ∙ ap (λ (b : Bool). if b then c.self.inside.names.keys else c.self.inside.names.keys ++ c.args.name ∷ []) absent in
    orderly_first _ _ _ _ _ _ c.len-node.result c.len-place.result c.args.name c.args.update c.self.invariant c.insert.ensures.unique grown
    (c.len-node.ensures ∙ c.self.inside.last.ok.0) (c.len-place.ensures ∙ c.self.inside.entered.ok.0) c.push_reserved-2.ensures.items c.push_reserved-3.ensures.items

pub returns-clause-updates : goal.returns-clause-updates
returns-clause-updates c =
    let absent : list_any (pointwise label_eq c.args.name) c.self.inside.names.keys ≡ false = search rules in
    let keys = rw c.unwrap.ensures at c.insert.ensures.keys in
    let grown : c.insert.new.self.keys ≡ c.self.inside.names.keys ++ c.args.name ∷ [] = keys ∙ ap (λ (b : Bool). if b then c.self.inside.names.keys else c.self.inside.names.keys ++ c.args.name ∷ []) absent in
    updates_first _ _ _ _ _ c.args.name _ (ap (λ (a : AcceptedUpdates). a.updates) c.self.view_is) c.self.invariant.linked.known (c.len-node.ensures ∙ c.self.inside.last.ok.0 ∙ c.self.invariant.linked.lasts) grown c.push_reserved-3.ensures.items
