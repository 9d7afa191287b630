-- Who owns each node at the start of a city.
use Rattle.std.specs.Prelude.{◌≡◌, ℕ, ◌<◌, List, [], ◌∷◌, ◌++◌, length, map, Option, Some, None, unwrap_or}
use Rattle.std.specs.Map.{lookup}
use Rattle.std.specs.Cmp.Lexicographic.{pointwise}
use Rattle.indexmap.specs.IndexMap.{insert_all}
use Rattle.iris_base.specs.declared.name.Label.{Label}
use Rattle.iris_base.specs.NameOrder.{label_eq}
use Rattle.iris_base.specs.Under.{Under}
use Rattle.iris_tree.specs.Universe.{Node}
use Rattle.iris_tree.specs.Document.{names_of}
use Rattle.iris_route.specs.Titles.{Title, Titles, title_at}

-- names that are placed, each at an agent
abbrev pub Places : Type 0
Places = List (List Label × List ℕ)

-- the agent at which a name is placed
abbrev pub agent_at : Places → List Label → Option (List ℕ)
agent_at place name = lookup (pointwise label_eq name) place

-- the owner that is handed down along these labels: at each that agent at which its name is placed, and else the one above
abbrev pub owner_down : Places → List Label → List ℕ → List Label → List ℕ
owner_down place path agent [] = agent
owner_down place path agent (l ∷ ls) = owner_down place (path ++ l ∷ []) (unwrap_or (agent_at place (path ++ l ∷ [])) agent) ls

-- the owner of a node at the start
abbrev pub start_owner : Places → List Label → List ℕ
start_owner place name = owner_down place [] [] name

-- each node with its owner at the start, in the order of names; none moved yet
abbrev pub start_titles : Places → Node → Titles
start_titles place tree = map (λ name. (name, (start_owner place name, 0))) (names_of tree)

-- the agent is that of the nearest placed name at or above that name
pub record IsNearestPlaced (place : Places) (name : List Label) (agent : List ℕ) : Type 0 where
  pub above : List Label
  pub at_or_above : Under name above
  pub placed : agent_at place above ≡ Some agent
  pub nearest : (other : List Label) → Under name other → length above < length other → agent_at place other ≡ None

-- ---- for the code: titles in place of agents

-- the titles of the placed names
abbrev pub placed_titles : Places → Titles
placed_titles place = map (λ p. (p.0, (p.1, 0))) place

-- the title that is handed down
abbrev pub title_down : Titles → List Label → Title → List Label → Title
title_down placed path title [] = title
title_down placed path title (l ∷ ls) = title_down placed (path ++ l ∷ []) (unwrap_or (title_at placed (path ++ l ∷ [])) title) ls

-- the titles of a node and of all below it, where the node above has that name and that title
abbrev pub titles_below : Titles → List Label → Title → Node → Titles
titles_below placed path title n = map (λ name. (path ++ name, title_down placed path title name)) (names_of n)

-- titles put in one after another
abbrev pub put_all : Titles → Titles → Titles
put_all titles more = insert_all (pointwise label_eq) titles more
