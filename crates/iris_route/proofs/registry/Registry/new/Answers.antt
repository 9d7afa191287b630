use Rattle.std.proofs.Common.{◌∙◌, ap}
use Rattle.iris_route.specs.Start.{Places, start_titles}
use Rattle.iris_route.proofs.Beginning.{owner_told}
use Rattle.iris_route.proofs.registry.Registry.new.Goals as goal

pub returns-clause-titles : goal.returns-clause-titles
returns-clause-titles c = c.in_ok-titles_at_start.ensures.titles ∙ ap (λ (place : Places). start_titles place c.args.city.now.tree) c.as_slice.ensures

pub returns-clause-owners : goal.returns-clause-owners
returns-clause-owners c = λ name.
    owner_told c.args.city.now.place c.args.city.now.tree c.in_ok-titles_at_start.field-0 name c.in_ok-titles_at_start.ensures.ordered
    (c.in_ok-titles_at_start.ensures.titles ∙ ap (λ (place : Places). start_titles place c.args.city.now.tree) c.as_slice.ensures)
