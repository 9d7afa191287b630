-- The pieces with which an agent begins.
use Rattle.std.specs.Prelude.{ℕ, is_some, if◌then◌else◌, List, [], ◌∷◌, ◌++◌, Option, None, option_map, option_and_then}
use Rattle.iris_base.specs.declared.name.Label.{Label}
use Rattle.iris_tree.specs.Universe.{Node, node, Nodes, no_nodes, nodes, list_of, labels_of}
use Rattle.iris_fragment.specs.declared.piece.Full.{Full}
use Rattle.iris_fragment.specs.declared.piece.Piece.{Piece}
use Rattle.iris_book.specs.Book.{History, update_count, value_at}
use Rattle.iris_route.specs.Titles.{Titles, title_at}
use Rattle.iris_protocol.specs.Table.{AgentId, agents}

-- the newest value of a node; an owner's needs no stamp
abbrev pub newest_full : History → List Label → Option Full
newest_full h name = option_map (λ local. record { local = local; version = update_count h name; stamp = 0 }) (value_at h name (update_count h name))

-- the newest value of a node, where the registry gives the node to that agent
abbrev pub own_full : Titles → History → AgentId → List Label → Option Full
own_full registry h id name = option_and_then (λ title. if agents.same id title.0 then newest_full h name else None) (title_at registry name)

-- a piece in front of those of the nodes below it; none where it is not full and there are none of those
abbrev pub in_front : Piece → List Piece → List Piece
in_front piece [] = if is_some piece.full then piece ∷ [] else []
in_front piece (below ∷ more) = piece ∷ below ∷ more

-- For a node with all below it, where the node above has that name: a piece of each node that has a full part and of each above such a one, a node before those below it.
abbrev mutual
  pub pieces_at : (List Label → Option Full) → List Label → Node → List Piece
  pieces_at full path (node label local below) = in_front (record { name = path ++ label ∷ []; ids = labels_of (list_of below); full = full (path ++ label ∷ []) }) (pieces_among full (path ++ label ∷ []) below)

  -- the same of siblings
  pub pieces_among : (List Label → Option Full) → List Label → Nodes → List Piece
  pieces_among full path no_nodes = []
  pieces_among full path (nodes n ns) = pieces_at full path n ++ pieces_among full path ns

-- the pieces with which an agent begins: the newest values of its nodes, and the ids of the nodes above those
abbrev pub start_pieces : Titles → History → AgentId → Node → List Piece
start_pieces registry h id document = pieces_at (own_full registry h id) [] document
