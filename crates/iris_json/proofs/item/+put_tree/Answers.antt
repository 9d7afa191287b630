use Rattle.std.proofs.Common.{◌≡◌, ◌++◌, ◌∙◌, ap, rules, append_assoc, take, take_all}
use Rattle.iris_tree.specs.declared.local.Local.{Local}
use Rattle.iris_tree.specs.LocalText.{plain_data, value_tokens}
use Rattle.iris_tree.specs.NodeCode.{size_of-found}
use Rattle.iris_tree.specs.Universe.{local_of, children_of}
use Rattle.iris_json.specs.Render.{node_data}
use Rattle.iris_json.proofs.Written.{tokens_more, node_written}
use Rattle.iris_json.proofs.item.+put_tree.Goals as goal

pub put_tree-requires : goal.put_tree-requires
put_tree-requires t c = (size_of-found _ _ _ _ _ c.children-node-items.ensures.value c.loop-node-test.true c.node-item.is c.decreases, tt)

pub loop-node-preserved : goal.loop-node-preserved
loop-node-preserved t c =
    let wrote : c.put_tree.new.out ≡ c.loop-node.out ++ value_tokens (node_data c.node-item.result) = search rules in
    let more = tokens_more node_data _ c.loop-node.node-index c.node-item.result c.loop-node-test.true c.node-item.is in
    rw (wrote, c.loop-node.invariant, more) (simp append_assoc)

pub loop-element-preserved : goal.loop-element-preserved
loop-element-preserved t c =
    let wrote : c.write.new.out ≡ c.loop-element.out ++ value_tokens (plain_data c.element-item.result) = search rules in
    let more = tokens_more plain_data _ c.loop-element.element-index c.element-item.result c.loop-element-test.true c.element-item.is in
    rw (wrote, c.loop-element.invariant, more) (simp append_assoc)

pub returns-clause-text : goal.returns-clause-text
returns-clause-text t c =
    let nodes : take c.loop-node.node-index c.children-node-items.result.now ≡ children_of c.args.tree.now = take_all _ _ c.loop-node-test.false ∙ c.children-node-items.ensures.value in
    let plain : take c.loop-element.element-index c.as_slice-element-items.result.now ≡ (local_of c.args.tree.now).plain =
    take_all _ _ c.loop-element-test.false ∙ c.as_slice-element-items.ensures ∙ ap (λ (l : Local). l.plain) c.local.ensures in
    rw (
      c.in_ok-end_object.ensures,
      c.in_ok-end_array-2.ensures,
      c.loop-element.invariant,
      plain,
      c.in_ok-begin_array.ensures,
      c.in_ok-key.ensures,
      c.in_ok-end_array.ensures,
      c.loop-node.invariant,
      nodes,
      c.in_ok-begin_node.ensures,
      node_written c.args.tree.now,
    )
    (simp append_assoc)
