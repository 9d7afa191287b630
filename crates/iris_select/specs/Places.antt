-- Places as their edges from the document, and the plain elements at them.
use Rattle.std.specs.Prelude.{ℕ, List, [], ◌∷◌, ◌++◌, map, Option, Some, None, option_and_then, slice_get}
use Rattle.iris_tree.specs.declared.plain.Plain.{Plain}
use Rattle.iris_tree.specs.declared.plain.Plain.TheViews.{out-Plain}
use Rattle.iris_tree.specs.Document.{Edge, position, place_of}
use Rattle.iris_select.specs.declared.place.Place.{Place}

-- the labels of its name, and then the positions of its path
abbrev pub edges_of : Place → List Edge
edges_of place = place_of place.name ++ map position place.path

-- the element at the end of a path below a plain element
abbrev pub kid_at : Plain → List ℕ → Option Plain
kid_at p [] = Some p
kid_at p (i ∷ path) = option_and_then (λ kid. kid_at kid path) (slice_get (out-Plain p).kids i)

-- the element at the end of a path that begins among these elements
abbrev pub element_at : List Plain → List ℕ → Option Plain
element_at ps [] = None
element_at ps (i ∷ path) = option_and_then (λ p. kid_at p path) (slice_get ps i)
