-- How many plain elements there are, how deep they are nested, and how many attributes they have.
use Rattle.std.specs.Prelude.{ℕ, ◌+◌, max, List, [], ◌∷◌, length, map}
use Rattle.std.specs.List.{sum}
use Rattle.iris_tree.specs.declared.plain.Plain.{Plain}
use Rattle.iris_tree.specs.declared.plain.Plain.TheOpen.{Plain-F}
use Rattle.iris_tree.specs.declared.plain.Plain.TheFolds.{fold-Plain}

-- the greatest of these numbers, or 0 of none
abbrev pub greatest : List ℕ → ℕ
greatest [] = 0
greatest (n ∷ ns) = max n (greatest ns)

-- one more than the counts of its kids
abbrev pub count_step : Plain-F ℕ → ℕ
count_step p = 1 + sum p.kids

-- an element and all below it
abbrev pub plain_count : Plain → ℕ
plain_count = fold-Plain ℕ count_step

-- these elements and all below them
abbrev pub plains_count : List Plain → ℕ
plains_count ps = sum (map plain_count ps)

-- one more than the depth of its deepest kid
abbrev pub depth_step : Plain-F ℕ → ℕ
depth_step p = 1 + greatest p.kids

-- the levels of an element: 1 where it has no kids
abbrev pub plain_depth : Plain → ℕ
plain_depth = fold-Plain ℕ depth_step

-- the levels of these elements: 0 where there are none
abbrev pub plains_depth : List Plain → ℕ
plains_depth ps = greatest (map plain_depth ps)

-- its own attributes, or those of the kid that has most
abbrev pub attributes_step : Plain-F ℕ → ℕ
attributes_step p = max (length p.attrs) (greatest p.kids)

-- the most attributes that an element has, or one below it
abbrev pub plain_attributes : Plain → ℕ
plain_attributes = fold-Plain ℕ attributes_step

-- the most attributes that one of these elements has, or one below them
abbrev pub plains_attributes : List Plain → ℕ
plains_attributes ps = greatest (map plain_attributes ps)
