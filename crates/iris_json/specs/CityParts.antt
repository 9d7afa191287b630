-- What stands below a value of a city line: its nodes, and a node's plain elements.
use Rattle.std.specs.Prelude.{ℕ, zero, suc, ◌-◌, ◌^◌, min, List, [], ◌∷◌, ◌++◌, codes, Option, Some, None}
use Rattle.std.specs.Ordering.{nat_cmp, match_ordering}
use Rattle.std.specs.Cmp.Lexicographic.{slice_cmp}
use Rattle.serde_json.specs.Data.{Num, Data, null, boolean, number, string, array, object, Items, no_items, item, Members, no_members, member}
use Rattle.serde_json.specs.Find.{get}

-- a value in a list, after those of its earlier siblings, of which the nearest is the first
pub record Spot : Type 0 where
  pub earlier : List Data
  pub value : Data

-- ---- what is listed at a key, at every depth, parents first

abbrev mutual
  -- what is listed at the key of a value
  pub spots_below : List ℕ → Data → List Spot
  spots_below key null = []
  spots_below key (boolean b) = []
  spots_below key (number n) = []
  spots_below key (string s) = []
  spots_below key (array ds) = []
  spots_below key (object ms) = spots_at key ms

  -- what is listed at the key of these members
  pub spots_at : List ℕ → Members → List Spot
  spots_at key no_members = []
  spots_at key (member l d ms) = match_ordering (slice_cmp nat_cmp key l) (spots_at key ms) (spots_in key d) (spots_at key ms)

  -- what a value lists, if it is a list
  pub spots_in : List ℕ → Data → List Spot
  spots_in key null = []
  spots_in key (boolean b) = []
  spots_in key (number n) = []
  spots_in key (string s) = []
  spots_in key (array ds) = spots_of key [] ds
  spots_in key (object ms) = []

  -- these values, each before all that stands below it
  pub spots_of : List ℕ → List Data → Items → List Spot
  spots_of key earlier no_items = []
  spots_of key earlier (item d ds) = (record { earlier = earlier; value = d }) ∷ (spots_below key d ++ spots_of key (d ∷ earlier) ds)

-- the values of a list, where a value is one
abbrev pub listed : Option Data → Items
listed None = no_items
listed (Some null) = no_items
listed (Some (boolean b)) = no_items
listed (Some (number n)) = no_items
listed (Some (string s)) = no_items
listed (Some (array ds)) = ds
listed (Some (object ms)) = no_items

-- a node and all nodes below it, in the order of the line, parents first
abbrev pub nodes_in : Data → List Spot
nodes_in tree = (record { earlier = []; value = tree }) ∷ spots_below (codes "nodes") tree

-- the plain elements of a node, at every depth
abbrev pub plains_in : Data → List Spot
plains_in node = spots_of (codes "kids") [] (listed (get (codes "plain") node))

-- ---- the first that fails

-- of these values the first without that has just so many before it
abbrev pub FirstFails : (Spot → Type 0) → List Spot → ℕ → Type 0
FirstFails Has [] before = ⊥
FirstFails Has (s ∷ spots) zero = Has s → ⊥
FirstFails Has (s ∷ spots) (suc before) = Has s × FirstFails Has spots before

-- the number by which a node is told, as a `u32` tells it,, which has so many before it
abbrev pub told : ℕ → ℕ
told before = min before (2 ^ 32 - 1)
