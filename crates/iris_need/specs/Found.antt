-- The places that the program of a query reaches.
use Rattle.std.specs.Prelude.{ℕ, ◌+◌, List, [], ◌∷◌, map}
use Rattle.iris_base.specs.declared.name.Label.{Label}
use Rattle.iris_tree.specs.Universe.{Node, label_of}
use Rattle.iris_tree.specs.Document.{Place}
use Rattle.iris_xpath.specs.Syntax.{Syntax, MainStep, main_of}
use Rattle.iris_base.specs.declared.state.State.TheVariants as states
use Rattle.iris_need.specs.Program.{Spot, document_spot, reach, tested}
use Rattle.iris_need.specs.Run.{Run, give, eval}
use Rattle.iris_need.specs.Spots.{place_at}

-- a step and all further ones, and what is done at each place to which the last one leads
abbrev pub goes_then : {A : Type 0} → Label → ℕ → List MainStep → (Spot → Run (List A)) → Spot → Run (List A)
goes_then top i [] end spot = end spot
goes_then top i (s ∷ ss) end spot = reach top s.separator s.test (λ name. states.At i ∷ []) (λ name. states.Seek i ∷ []) spot (λ at. tested top i s at (goes_then top (i + 1) ss end at))

-- the places that a query reaches in a document, in the order in which its program comes to them; some may come several times
abbrev pub reached_places : Node → Syntax → List Place
reached_places document query = eval document (goes_then (label_of document) 0 (map main_of query) (λ spot. give (place_at spot ∷ [])) document_spot)
