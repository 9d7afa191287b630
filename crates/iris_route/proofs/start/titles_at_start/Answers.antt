use Rattle.std.proofs.Common.{◌≡◌, ◌∙◌, [], ◌∷◌, Option, Some, None, rules}
use Rattle.std.specs.Option.{IsSome}
use Rattle.iris_tree.specs.Universe.{label_of}
use Rattle.iris_route.specs.Titles.{Title, title_at}
use Rattle.iris_route.specs.Start.{titles_below, put_all}
use Rattle.iris_route.proofs.Starting.{start_is, top_found}
use Rattle.iris_route.proofs.start.titles_at_start.Goals as goal

some_is : (o : Option Title) (t : Title) → o ≡ Some t → IsSome o
some_is None t h = absurd (cc)
some_is (Some x) t h = search rules

pub unwrap-top-requires : goal.unwrap-top-requires
unwrap-top-requires c =
    let top = top_found c.args.place.now (label_of c.args.tree.now ∷ []) c.get.result
    (c.get.ensures ∙ (λ k. title_at (c.in_ok-placed.ensures k) (c.label.ensures k ∷ []))) c.requires.top in
    some_is c.get.result top.0 top.1

pub returns-clause-titles : goal.returns-clause-titles
returns-clause-titles c =
    c.in_ok-register.ensures.titles ∙ (λ k. put_all (c.new-titles.ensures k) (titles_below (c.in_ok-placed.ensures k) (c.new-path.ensures.items k) c.unwrap-top.result c.args.tree.now))
    ∙ start_is c.args.place.now c.args.tree.now c.unwrap-top.result c.in_ok-register.ensures.ordered c.requires.top
