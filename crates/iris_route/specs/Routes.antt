-- The nearest node to a name, and the route of a query.
use Rattle.std.specs.Prelude.{ℕ, zero, suc, is_some, ◌==◌, if◌then◌else◌, List, length, take}
use Rattle.iris_base.specs.declared.name.Label.{Label}
use Rattle.iris_route.specs.Titles.{Titles, title_at, top_name}

-- the length of the longest prefix of at most so many labels that is a node's name, and 0 where there is none
abbrev pub longest_upto : Titles → List Label → ℕ → ℕ
longest_upto titles name zero = zero
longest_upto titles name (suc n) = if is_some (title_at titles (take (suc n) name)) then suc n else longest_upto titles name n

-- the length of the longest prefix that is a node's name
abbrev pub longest_prefix : Titles → List Label → ℕ
longest_prefix titles name = longest_upto titles name (length name)

-- the longest prefix that is a node's name, and the top node's name where there is none
abbrev pub nearest_name : Titles → List Label → List Label
nearest_name titles name = if longest_prefix titles name == 0 then top_name titles else take (longest_prefix titles name) name
