use Rattle.std.proofs.Common.{refl, codes}
use Rattle.std.proofs.lemmas.Result.{err_from_is_err_and}
use Rattle.iris_tree.specs.Universe.{label_of, local_of}
use Rattle.iris_json.proofs.AttrReading.{same_error}
use Rattle.iris_json.proofs.CityNodes.{form_found}
use Rattle.iris_json.proofs.NodeReading.{so_start, so_step, so_found, so_distinct, node_there, node_once, below_it, own_of, nodes_of_it}
use Rattle.iris_json.proofs.PlainReading.{less_deep}
use Rattle.iris_json.proofs.node.+read_node.Goals as goal

pub returns-in_err-label-clause-only : goal.returns-in_err-label-clause-only
returns-in_err-label-clause-only t c tree is =
    let p = err_from_is_err_and c.from_residual.result c.from_residual.ensures.1 in
    let own = own_of c.args.kinds.now _ _ tree c.in-Some.ensures is in
    rw (p.1, p.2) (same_error _ _ tree (c.in_err-label.ensures.only (label_of tree) (local_of tree) own))

pub returns-in_err-nodes-clause-only : goal.returns-in_err-nodes-clause-only
returns-in_err-nodes-clause-only t c tree is =
    let at = nodes_of_it c.args.kinds.now _ _ tree c.in-Some.ensures is in
    absurd (c.in_err-nodes.ensures.refused at.0 at.1)

pub loop-node-init : goal.loop-node-init
loop-node-init t c = so_start _ _ _ c.in_ok-children.ensures.items

pub returns-in_err-read_node-clause-only : goal.returns-in_err-read_node-clause-only
returns-in_err-read_node-clause-only t c tree is =
    let p = err_from_is_err_and c.from_residual-in_err-read_node.result c.from_residual-in_err-read_node.ensures.1 in
    let b = below_it c.args.kinds.now _ _ c.in_ok-nodes.nodes.now tree c.in-Some.ensures c.in_ok-nodes.ensures.only is in
    let next = node_there c.args.kinds.now _ b.0 _ c.node-item.result b.1 c.loop-node-test.true c.node-item.is in
    rw (p.1, p.2) (same_error _ _ tree (c.in_err-read_node.ensures.only next.0 next.1))

pub loop-node-preserved : goal.loop-node-preserved
loop-node-preserved t c =
    so_step _ _ _ _ c.loop-node.invariant c.node-item.result c.loop-node-test.true c.node-item.is c.in_ok-read_node.field-0 c.in_ok-read_node.ensures.found c.in_ok-read_node.ensures.form _ c.in_ok-push.ensures.items

pub read_node-requires : goal.read_node-requires
read_node-requires t c = (less_deep (codes "nodes") t _ _ _ _ c.node-item.result c.in-Some.ensures c.in_ok-nodes.ensures.found c.loop-node-test.true c.node-item.is c.decreases, c.requires.kinds)

pub returns-in-Some-with_children-clause-found : goal.returns-in-Some-with_children-clause-found
returns-in-Some-with_children-clause-found t c =
    so_found c.args.kinds.now _ _ _ _ _ _ c.loop-node.invariant c.in-Some.ensures c.in_ok-label.label c.in_ok-label.local c.in_ok-label.ensures.found c.in_ok-nodes.ensures.found c.loop-node-test.false
    c.in-Some-with_children.ensures.label c.in-Some-with_children.ensures.local c.in-Some-with_children.ensures.children

pub returns-in-Some-with_children-clause-form : goal.returns-in-Some-with_children-clause-form
returns-in-Some-with_children-clause-form t c =
    form_found _ c.in_ok-label.local _ c.in-Some-with_children.ensures.local c.in_ok-label.ensures.form c.in-Some-with_children.ensures.children c.loop-node.invariant.form

pub returns-in-Some-with_children-clause-only : goal.returns-in-Some-with_children-clause-only
returns-in-Some-with_children-clause-only t c tree is = node_once c.args.kinds.now _ _ tree (returns-in-Some-with_children-clause-found t c) is

pub returns-in-None-clause-only : goal.returns-in-None-clause-only
returns-in-None-clause-only t c tree is =
    let b = below_it c.args.kinds.now _ _ c.in_ok-nodes.nodes.now tree c.in-Some.ensures c.in_ok-nodes.ensures.only is in
    c.in-None.ensures.twins.0 refl (so_distinct c.args.kinds.now _ _ _ c.loop-node.invariant c.loop-node-test.false b.0 _ b.1 b.2)
