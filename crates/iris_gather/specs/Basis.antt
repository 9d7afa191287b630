-- What a decision rests on.
use Rattle.std.specs.Prelude.{List, option_map}
use Rattle.std.specs.List.{filter_map}
use Rattle.iris_base.specs.declared.name.Label.{Label}
use Rattle.iris_base.specs.declared.cite.Cite.{Cite}
use Rattle.iris_fragment.specs.declared.piece.Full.{Full}
use Rattle.iris_fragment.specs.declared.piece.Piece.{Piece}
use Rattle.iris_xpath.specs.Syntax.{Syntax}
use Rattle.iris_need.specs.declared.need.Start.{Start}
use Rattle.iris_need.specs.Decided.{full_part_at}
use Rattle.iris_need.specs.Needs.{support_of, full_part}
use Rattle.iris_need.specs.Pieces.{Pieces}

-- the cite of a full part of the node of that name
abbrev pub cite_of : List Label → Full → Cite
cite_of name full = record { name = name; version = full.version; stamp = full.stamp }

-- the cites of these pieces, of those that are full
abbrev pub cites_told : List Piece → List Cite
cites_told pieces = filter_map (λ piece. option_map (cite_of piece.name) piece.full) pieces

-- cites of these nodes as a view has them, where it has them in full
abbrev pub cites_in : Pieces → List (List Label) → List Cite
cites_in view names = filter_map (λ name. option_map (cite_of name) (full_part_at view name)) names

-- the cites of an evaluation: what it rests on at level Full, in the order of names
abbrev pub cites_of : Syntax → Start → Pieces → List Cite
cites_of query start view = cites_in view (full_part (support_of query start view))
