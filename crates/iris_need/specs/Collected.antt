-- Looks as they are collected one after another: the unmet ones, or those that are met.
use Rattle.std.specs.Prelude.{Bool, not, ◌&&◌, if◌then◌else◌, List, map, fold, Option, option_map, option_and_then}
use Rattle.iris_base.specs.declared.name.Label.{Label}
use Rattle.iris_fragment.specs.declared.piece.Full.{Full}
use Rattle.iris_fragment.specs.declared.piece.Piece.{Piece}
use Rattle.iris_need.specs.declared.need.Need.{Need}
use Rattle.iris_need.specs.declared.needs.Asked.{Asked}
use Rattle.iris_need.specs.declared.looks.Looks.{Looks}
use Rattle.iris_need.specs.declared.looks.Looks.TheVariants.{Unmet, Met}
use Rattle.iris_need.specs.Pieces.{Pieces, piece_at, view_of}
use Rattle.iris_need.specs.Needs.{with_look, without_states, is_under, seen_from}
use Rattle.iris_need.specs.Run.{View, Run, run, Seen, meets}

-- ---- as the code holds them

abbrev pub need_of : List Label × Asked → Need
need_of e = record { name = e.0; level = e.1.level; states = e.1.states.items }

abbrev pub needs_of : List (List Label × Asked) → List Need
needs_of entries = map need_of entries

-- ---- one look more

abbrev pub look_taken : Looks → Bool → List Need → Need → List Need
look_taken Unmet met needs look = if met then needs else with_look needs look
look_taken Met met needs look = if met then with_look needs (without_states look) else needs

-- only what is at or under a name is ever missing
abbrev pub look_taken_under : Looks → Bool → Bool → List Need → Need → List Need
look_taken_under Unmet under met needs look = if under && not met then with_look needs look else needs
look_taken_under Met under met needs look = if met then with_look needs (without_states look) else needs

abbrev pub take_look : Looks → List Label → View → List Need → Need → List Need
take_look which above w needs look = look_taken_under which (is_under look.name above) (meets (seen_from above w) look) needs look

-- the needs after all looks of a program
unfoldable pub collected : Looks → List Label → Pieces → List Need → {A : Type 0} → Run A → List Need
collected which above pieces needs r = fold (take_look which above (view_of pieces)) needs (run (seen_from above (view_of pieces)) r).log

-- what a program gives over the pieces under a name
unfoldable pub value_given : List Label → Pieces → {A : Type 0} → Run A → Option A
value_given above pieces r = (run (seen_from above (view_of pieces)) r).value

-- ---- what is known of a node

abbrev pub full_in : Piece → Full → Seen
full_in piece full = record { ids = piece.ids; local = full.local }

abbrev pub full_of : Piece → Option Seen
full_of piece = option_map (full_in piece) piece.full

-- the ids and the local information at a name, where both are known
abbrev pub full_at : Pieces → List Label → Option Seen
full_at pieces name = option_and_then full_of (piece_at pieces name)
