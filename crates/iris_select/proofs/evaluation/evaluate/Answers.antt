use Rattle.std.proofs.Common.{List, ap, sym, subst, ◌∙◌, map}
use Rattle.std.specs.List.Sorted.{IsStrictlySortedBy}
use Rattle.iris_tree.specs.Document.{Place}
use Rattle.iris_xpath.specs.PlaceOrder.{place_cmp}
use Rattle.iris_xpath.proofs.PlaceOrder.{selected_rise}
use Rattle.iris_select.specs.Places.{edges_of}
use Rattle.iris_select.specs.Selected.{place_of_selected}
use Rattle.iris_select.proofs.Walking.{map_map}
use Rattle.iris_select.proofs.evaluation.evaluate.Goals as goal

pub returns-clause-places : goal.returns-clause-places
returns-clause-places c = ap (map edges_of) c.in_ok-places_of.ensures ∙ map_map edges_of place_of_selected c.in_ok-found.found.selected.items ∙ c.in_ok-found.ensures.places

pub returns-clause-ordered : goal.returns-clause-ordered
returns-clause-ordered c =
    subst (λ (ps : List Place). IsStrictlySortedBy place_cmp ps) (sym (ap (map edges_of) c.in_ok-places_of.ensures ∙ map_map edges_of place_of_selected c.in_ok-found.found.selected.items ∙ c.in_ok-found.ensures.places))
    (selected_rise c.args.tree.now c.args.query.now c.in_ok-found.ensures.ordered)
