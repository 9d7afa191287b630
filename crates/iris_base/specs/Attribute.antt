-- The one name that no attribute has.
use Rattle.std.specs.Prelude.{ℕ, Bool, List, codes}
use Rattle.std.specs.Str.{bytes_eq}

-- whether a name is `id`, which tells a node's id in queries
abbrev pub is_id : List ℕ → Bool
is_id name = bytes_eq name (codes "id")
