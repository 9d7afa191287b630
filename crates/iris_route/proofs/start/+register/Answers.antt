use Rattle.std.proofs.Common.{◌∙◌, ◌++◌, ◌∷◌, [], List, Option, ap}
use Rattle.std.specs.Prelude.{unwrap_or}
use Rattle.std.specs.Cmp.Lexicographic.{pointwise}
use Rattle.indexmap.specs.IndexMap.{insert_entry}
use Rattle.iris_base.specs.declared.name.Label.{Label}
use Rattle.iris_base.specs.NameOrder.{label_eq}
use Rattle.iris_tree.specs.NodeCode.{size_of-found}
use Rattle.iris_route.specs.Titles.{Title, title_at}
use Rattle.iris_route.proofs.Starting.{put_below}
use Rattle.iris_route.proofs.start.+register.Goals as goal

pub register-requires : goal.register-requires
register-requires t c = (size_of-found _ _ _ _ _ c.children-child-items.ensures.value c.loop-child-test.true c.child-item.is c.decreases, tt)

pub returns-clause-titles : goal.returns-clause-titles
returns-clause-titles t c =
    put_below c.args.placed.now c.args.path.now.items c.push.new.self.items c.args.above.now c.unwrap_or-title.result c.args.node.now c.children-child-items.result.now c.args.titles.now c.insert.new.self c.loop-child.titles c.loop-child.child-index
    (c.in_ok-push.ensures.items ∙ ap (λ (l : Label). c.args.path.now.items ++ l ∷ []) c.label.ensures)
    (c.unwrap_or-title.ensures ∙ ap (λ (o : Option Title). unwrap_or o c.args.above.now) (c.get.ensures ∙ ap (title_at c.args.placed.now) c.deref.ensures.value))
    (c.in_ok-insert.ensures.ok ∙ ap (λ (n : List Label). insert_entry (pointwise label_eq) c.args.titles.now n c.unwrap_or-title.result) c.deref-2.ensures.value)
    c.children-child-items.ensures.value c.loop-child-test.false c.loop-child.invariant.titles
