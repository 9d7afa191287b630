-- How a fragment changes.
use Rattle.std.specs.Prelude.{ℕ, ◌+◌, Bool, true, false, ltb, eqb, ◌||◌, ◌&&◌, List, Option, Some, None, Result, Ok, Err, if◌then◌else◌}
use Rattle.std.specs.List.{list_any}
use Rattle.std.specs.Map.{remove_entry, set_value}
use Rattle.std.specs.BTreeMap.{is_at, insert_entry}
use Rattle.std.specs.Cmp.Lexicographic.{slice_cmp, pointwise}
use Rattle.iris_base.specs.declared.name.Label.{Label}
use Rattle.iris_base.specs.NameOrder.{label_eq, label_cmp}
use Rattle.iris_tree.specs.declared.local.Local.{Local}
use Rattle.iris_fragment.specs.declared.error.EvictError.{EvictError}
use Rattle.iris_fragment.specs.declared.error.EvictError.TheVariants.{NotHeld, IsOwned}
use Rattle.iris_fragment.specs.declared.held.HeldNode.{HeldNode}
use Rattle.iris_fragment.specs.declared.held.Part.{Part}
use Rattle.iris_fragment.specs.declared.held.Part.TheVariants.{Own, Copied, Bare}
use Rattle.iris_fragment.specs.declared.piece.Full.{Full}
use Rattle.iris_fragment.specs.declared.piece.Piece.{Piece}
use Rattle.iris_fragment.specs.declared.status.Status.{Status}
use Rattle.iris_fragment.specs.declared.status.Status.TheVariants.{Owned, Complete, IdComplete, Incomplete}
use Rattle.iris_fragment.specs.Contents.{Nodes, Contents, held_at, has_place, cut}

-- ---- one node

-- the nodes, with that one under that name
abbrev pub with_node : Nodes → List Label → HeldNode → Nodes
with_node nodes name node = insert_entry (slice_cmp label_cmp) nodes name node

-- the nodes without the one of that name
abbrev pub without_node : Nodes → List Label → Nodes
without_node nodes name = remove_entry (is_at (slice_cmp label_cmp name)) nodes

-- the nodes, with that one in the place of the held one of that name
abbrev pub replaced : Nodes → List Label → HeldNode → Nodes
replaced nodes name node = set_value (is_at (slice_cmp label_cmp name)) nodes node

-- the nodes, with that beside the ids of what is held under that name, where something is
abbrev pub with_part_in : Option HeldNode → Nodes → List Label → Part → Nodes
with_part_in None nodes name part = nodes
with_part_in (Some node) nodes name part = replaced nodes name (record { ids = node.ids; part = part })

-- the nodes, with that beside the ids of the held node of that name
abbrev pub with_part : Nodes → List Label → Part → Nodes
with_part nodes name part = with_part_in (held_at nodes name) nodes name part

-- ---- taking in a piece

-- the later stamp, or at an equal one the greater version
abbrev pub is_newer : Full → Full → Bool
is_newer full old = ltb old.stamp full.stamp || (eqb old.stamp full.stamp && ltb old.version full.version)

-- whether a full part that arrives is placed: never over an owned value, and over a copy where it is newer
abbrev pub takes : Part → Full → Bool
takes (Own local version) full = false
takes (Copied old) full = is_newer full old
takes Bare full = true

-- whether a full part arrives and is placed
abbrev pub takes_any : Part → Option Full → Bool
takes_any part None = false
takes_any part (Some full) = takes part full

-- what is beside the ids once a full part arrived, or none
abbrev pub joined_part : Part → Option Full → Part
joined_part part None = part
joined_part part (Some full) = if takes part full then Copied full else part

-- what is beside the ids of a node that is held or not
abbrev pub part_in : Option HeldNode → Part
part_in None = Bare
part_in (Some node) = node.part

-- the nodes once a piece was taken in, by what is held under its name
abbrev pub taken_at : Option HeldNode → Nodes → Piece → Nodes
taken_at None nodes piece = with_node nodes piece.name (record { ids = piece.ids; part = joined_part Bare piece.full })
taken_at (Some node) nodes piece = with_part nodes piece.name (joined_part node.part piece.full)

-- A fragment once a piece was taken in. One whose parent is neither held nor the document is skipped. Its ids are
-- held from then on, those of a held node stay, and its full part is placed or not.
abbrev pub after_taking : Contents → Piece → Contents
after_taking f piece = record f { nodes = if has_place f.nodes piece.name then taken_at (held_at f.nodes piece.name) f.nodes piece else f.nodes }

-- whether the full part of a piece that is taken in is placed
abbrev pub places_piece : Contents → Piece → Bool
places_piece f piece = has_place f.nodes piece.name && takes_any (part_in (held_at f.nodes piece.name)) piece.full

-- ---- eviction

-- whether a cut name is of a child of the node of that name
abbrev pub is_right_above : List Label → Option (List Label × Label) → Bool
is_right_above name None = false
is_right_above name (Some p) = pointwise label_eq name p.0

-- whether a child of the node of that name is held
abbrev pub has_child : Nodes → List Label → Bool
has_child nodes name = list_any (λ e. is_right_above name (cut e.0)) nodes

-- a fragment once a complete node was evicted: its ids are still held where a child is
abbrev pub evicted : Contents → List Label → Contents
evicted f name = record f { nodes = if has_child f.nodes name then with_part f.nodes name Bare else without_node f.nodes name }

-- what an eviction answers, by the node's status and whether a child of it is held
abbrev pub evict_answer : Option Status → Bool → Result Status EvictError
evict_answer (Some Complete) kept = Ok (if kept then IdComplete else Incomplete)
evict_answer (Some Owned) kept = Err IsOwned
evict_answer (Some IdComplete) kept = Err (NotHeld (Some IdComplete))
evict_answer (Some Incomplete) kept = Err (NotHeld (Some Incomplete))
evict_answer None kept = Err (NotHeld None)

-- ---- what is owned

-- a fragment that owns the node of a piece with that full part, if it has one
abbrev pub owned_by : Option Full → Contents → Piece → Contents
owned_by None f piece = f
owned_by (Some full) f piece = record f { nodes = with_node f.nodes piece.name (record { ids = piece.ids; part = Own full.local full.version }) }

-- a fragment that owns the node of a full piece, with the value and version of the piece
abbrev pub owned : Contents → Piece → Contents
owned f piece = owned_by piece.full f piece

-- the nodes with what is held under that name changed, where something is
abbrev pub changed_in : Option HeldNode → (Part → Part) → Nodes → List Label → Nodes
changed_in None change nodes name = nodes
changed_in (Some node) change nodes name = with_part nodes name (change node.part)

-- a fragment with one part changed
abbrev pub changed : (Part → Part) → Contents → List Label → Contents
changed change f name = record f { nodes = changed_in (held_at f.nodes name) change f.nodes name }

-- an owned value replaced by that one, one version later
abbrev pub renewed_part : Local → Part → Part
renewed_part local (Own old version) = Own local (version + 1)
renewed_part local (Copied full) = Copied full
renewed_part local Bare = Bare

-- a fragment once an update of an owned node was accepted
abbrev pub renewed : Contents → List Label → Local → Contents
renewed f name local = changed (renewed_part local) f name

-- a copy of what was owned, stamped with that moment
abbrev pub released_part : ℕ → Part → Part
released_part now (Own local version) = Copied (record { local = local; version = version; stamp = now })
released_part now (Copied full) = Copied full
released_part now Bare = Bare

-- a fragment that keeps a copy of what it owned, stamped with that moment
abbrev pub released : Contents → List Label → ℕ → Contents
released f name now = changed (released_part now) f name

-- the version of an owned node
abbrev pub own_version : Part → Option ℕ
own_version (Own local version) = Some version
own_version (Copied full) = None
own_version Bare = None

-- the version of the node of that name, where it is owned
abbrev pub version_at : Contents → List Label → Option ℕ
version_at f name = own_version (part_in (held_at f.nodes name))
