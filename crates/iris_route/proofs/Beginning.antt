-- The registry at the start of a city.
use Rattle.std.proofs.Common.{◌≡◌, Bool, true, is_some, if◌then◌else◌, List, Option, Some, None, refl, ap, ◌∙◌}
use Rattle.iris_base.specs.declared.name.Label.{Label}
use Rattle.iris_tree.specs.Universe.{Node, node, node_at, IsOrdered}
use Rattle.iris_tree.specs.Document.{names_of}
use Rattle.iris_xpath.proofs.Names.{names_are}
use Rattle.iris_route.specs.Titles.{Title, Titles, title_at, begins_at_top}
use Rattle.iris_route.specs.Start.{Places, start_owner, start_titles}
use Rattle.iris_route.proofs.TitleMaps.{look_named}

-- the top node's name stands first
pub begins_first : (place : Places) (tree : Node) → begins_at_top (start_titles place tree) ≡ true
begins_first place (node label local below) = refl

-- each node has its owner, and nothing else has one
pub owner_told : (place : Places) (tree : Node) (titles : Titles) (name : List Label) → IsOrdered tree → titles ≡ start_titles place tree
    → ◌≡◌ {A = Option Title} (title_at titles name) (if is_some (node_at tree name) then Some (start_owner place name, 0) else None)
owner_told place tree titles name ordered is =
    let entry : List Label → Title = λ n. (start_owner place n, 0) in
    let at : Bool → Option Title = λ b. if b then Some (start_owner place name, 0) else None in
    ap (λ (ts : Titles). title_at ts name) is ∙ look_named entry (names_of tree) name ∙ ap at (names_are tree name ordered)
