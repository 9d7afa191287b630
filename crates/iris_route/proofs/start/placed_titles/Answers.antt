use Rattle.std.proofs.Common.{◌∙◌, [], List, ap}
use Rattle.std.specs.Cmp.Lexicographic.{pointwise}
use Rattle.std.proofs.lemmas.List.{take_all}
use Rattle.indexmap.specs.IndexMap.{insert_entry}
use Rattle.iris_base.specs.declared.name.Label.{Label}
use Rattle.iris_base.specs.NameOrder.{label_eq}
use Rattle.iris_route.specs.Start.{Places, placed_titles, put_all}
use Rattle.iris_route.proofs.Starting.{place_more, placed_as_they_are}
use Rattle.iris_route.proofs.start.placed_titles.Goals as goal

pub loop-name-preserved : goal.loop-name-preserved
loop-name-preserved c =
    place_more c.args.place.now c.loop-name.name-index c.loop-name-item.result c.loop-name.placed c.insert.new.self c.loop-name-test.true c.loop-name-item.is c.loop-name.invariant
    (c.in_ok-insert.ensures.ok ∙ ap (λ (n : List Label). insert_entry (pointwise label_eq) c.loop-name.placed n (c.loop-name-item.result.1, 0)) c.as_slice.ensures)

pub returns : goal.returns
returns c =
    c.loop-name.invariant ∙ ap (λ (ps : Places). put_all [] (placed_titles ps)) (take_all c.loop-name.name-index c.args.place.now c.loop-name-test.false) ∙ placed_as_they_are c.args.place.now c.requires
