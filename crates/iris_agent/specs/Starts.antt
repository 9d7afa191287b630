-- Agents as a city starts.
use Rattle.std.specs.Prelude.{◌≡◌, ℕ, max, true, false, is_some, if◌then◌else◌, List, [], ◌∷◌, map, filter, fold, None, option_map}
use Rattle.std.specs.List.{list_any}
use Rattle.std.specs.Cmp.Lexicographic.{pointwise}
use Rattle.iris_base.specs.declared.name.Label.{Label}
use Rattle.iris_base.specs.NameOrder.{label_eq}
use Rattle.iris_tree.specs.PlainCounts.{greatest}
use Rattle.iris_fragment.specs.declared.piece.Piece.{Piece}
use Rattle.iris_fragment.specs.Contents.{has_place}
use Rattle.iris_cache.specs.Recency.{Cache, taken_by, owned_in}
use Rattle.iris_keeper.specs.declared.kept.Kept.{Kept}
use Rattle.iris_keeper.specs.declared.kept.Kept.TheVariants as rows
use Rattle.iris_migrate.specs.Titles.{Seat, empty_seat, with_last}
use Rattle.iris_agent.specs.Tables.{Tables}

-- a cache that holds nothing
abbrev pub empty_cache : ℕ → Label → Cache
empty_cache capacity top = record { capacity = capacity; contents = record { top = top; nodes = [] }; order = [] }

-- a piece of the start: the node of a full one is owned, and of another the ids are held
abbrev pub piece_begun : Cache → Piece → Cache
piece_begun cache piece = if is_some piece.full then owned_in cache piece else taken_by cache piece

-- the names of the full pieces
abbrev pub owned_names : List Piece → List (List Label)
owned_names pieces = map (λ piece. piece.name) (filter (λ piece. is_some piece.full) pieces)

-- the node above that of each piece is held when its turn comes, or is the document
abbrev pub AreBegun : Cache → List Piece → Type 0
AreBegun cache [] = Unit {0}
AreBegun cache (piece ∷ pieces) = (has_place cache.contents.nodes piece.name ≡ true) × AreBegun (piece_begun cache piece) pieces

-- the number of an update of that node, and 0 of any other row
abbrev pub update_number : List Label → Kept → ℕ
update_number name (rows.Update own number changes) = if pointwise label_eq name own then number else 0
update_number name (rows.Gave own to epoch) = 0

-- the greatest number of the updates of that node among the rows, and 0 where there is none
abbrev pub last_in : List Kept → List Label → ℕ
last_in kept name = greatest (map (update_number name) kept)

-- An agent that owns the nodes of the full pieces, each with the last number that the keeper's rows tell, and holds the ids of the others. It has no gather, and met no ask.
abbrev pub started : List ℕ → List (List ℕ) → Label → ℕ → List Piece → List Kept → Tables
started id kinds top capacity pieces kept = record {
  id = id;
  kinds = kinds;
  top = top;
  cache = fold piece_begun (empty_cache capacity top) pieces;
  seat = λ name. if list_any (pointwise label_eq name) (owned_names pieces) then with_last empty_seat (last_in kept name) else empty_seat;
  gather = λ number. None;
  asked = λ ask. false;
}

-- ---- for the code

-- an owned node's last number is at least that
abbrev pub raised : Seat → ℕ → Seat
raised seat number = record seat { last = option_map (λ last. max number last) seat.last }
