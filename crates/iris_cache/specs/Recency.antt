-- A fragment that holds a bounded number of copies, in the order of their use.
use Rattle.std.specs.Prelude.{◌≡◌, ℕ, ◌≤◌, Bool, true, false, nat_le, List, length, take, Option, Some, None, fold, if◌then◌else◌}
use Rattle.iris_base.specs.declared.name.Label.{Label}
use Rattle.iris_base.specs.declared.limits.TheConstants.{MAX_CAPACITY}
use Rattle.iris_tree.specs.declared.local.Local.{Local}
use Rattle.iris_fragment.specs.declared.piece.Piece.{Piece}
use Rattle.iris_fragment.specs.declared.status.Status.{Status}
use Rattle.iris_fragment.specs.declared.status.Status.TheVariants.{Owned, Complete, IdComplete, Incomplete}
use Rattle.iris_fragment.specs.Contents.{Contents, status}
use Rattle.iris_fragment.specs.Changes.{after_taking, places_piece, evicted, owned, renewed, released}
use Rattle.iris_cache.specs.Order.{Order, lists, without, without_any, in_front, last_of}

-- a fragment, the names of its complete nodes, the one used last in front, and how many it may have
pub record Cache : Type 0 where
  pub capacity : ℕ
  pub contents : Contents
  pub order : Order

-- a cache, and the name whose release takes no memory, if there is one
pub record Prepared : Type 0 where
  pub cache : Cache
  pub ready : Option (List Label)

-- whether that is how a complete node stands
abbrev pub is_of_complete : Option Status → Bool
is_of_complete (Some Owned) = false
is_of_complete (Some Complete) = true
is_of_complete (Some IdComplete) = false
is_of_complete (Some Incomplete) = false
is_of_complete None = false

-- whether the node of that name is complete
abbrev pub is_complete : Contents → List Label → Bool
is_complete f name = is_of_complete (status f name)

-- ---- eviction

-- a cache once a complete node was evicted
abbrev pub evicted_from : Cache → List Label → Cache
evicted_from c name = record c { contents = evicted c.contents name; order = without c.order name }

-- what is held once the node of that name was evicted, if there is one
abbrev pub contents_without : Contents → Option (List Label) → Contents
contents_without f None = f
contents_without f (Some name) = evicted f name

-- a cache once the copy was evicted whose last use is the longest ago
abbrev pub last_evicted : Cache → Cache
last_evicted c = record c { contents = contents_without c.contents (last_of c.order); order = without_any c.order (last_of c.order) }

-- where more nodes are complete than the cache may have, the one whose last use is the longest ago is evicted
abbrev pub trimmed : Cache → Cache
trimmed c = if nat_le (length c.order) c.capacity then c else last_evicted c

-- ---- pieces

-- a cache once a piece was taken in: a node that was made complete or replaced goes to the front, and then the cache is trimmed
abbrev pub taken_by : Cache → Piece → Cache
taken_by c piece =
    if places_piece c.contents piece then trimmed (record c { contents = after_taking c.contents piece; order = in_front c.order piece.name })
    else record c { contents = after_taking c.contents piece }

-- a cache once these pieces were taken in, one after another
abbrev pub taken_all : Cache → List Piece → Cache
taken_all c pieces = fold taken_by c pieces

-- of the pieces some first ones were taken in, and no other
pub record TookFirst (old : Cache) (pieces : List Piece) (new : Cache) : Type 0 where
  pub count : ℕ
  pub within : count ≤ length pieces
  pub after : new ≡ taken_all old (take count pieces)

-- ---- uses

-- a cache once a node was used: a complete one goes to the front
abbrev pub touched : Cache → List Label → Cache
touched c name = if is_complete c.contents name then record c { order = in_front c.order name } else c

-- ---- what is owned

-- a cache that owns the node of a full piece, which is no copy then
abbrev pub owned_in : Cache → Piece → Cache
owned_in c piece = record c { contents = owned c.contents piece; order = without c.order piece.name }

-- a cache once an update of an owned node was accepted
abbrev pub renewed_in : Cache → List Label → Local → Cache
renewed_in c name local = record c { contents = renewed c.contents name local }

-- a cache that keeps a copy of what it owned: the copy goes to the front, and then the cache is trimmed
abbrev pub released_in : Cache → List Label → ℕ → Cache
released_in c name now = trimmed (record c { contents = released c.contents name now; order = in_front c.order name })

-- ---- what holds of every cache

-- the order has the names of the complete nodes and no other
abbrev pub ListsComplete : Contents → Order → Type 0
ListsComplete f order = (name : List Label) → lists order name ≡ is_complete f name

-- the names are no more than the capacity, which is from 1 to the greatest
pub record IsBounded (capacity : ℕ) (order : Order) : Type 0 where
  pub within : length order ≤ capacity
  pub least : 1 ≤ capacity
  pub most : capacity ≤ MAX_CAPACITY
