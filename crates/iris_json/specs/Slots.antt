-- The slots of a row of the table of lines.
use Rattle.std.specs.Prelude.{ℕ, Bool, true, false, ◌&&◌, List, ◌∷◌, map, codes}
use Rattle.std.specs.List.{list_all}
use Rattle.serde_json.specs.Data.{Data}
use Rattle.serde_json.specs.Find.{get}
use Rattle.iris_json.specs.declared.part.Slot.{Slot}
use Rattle.iris_json.specs.declared.part.Slot.TheVariants.{Has, May}
use Rattle.iris_json.specs.Objects.{has_only}
use Rattle.iris_json.specs.LineTable.{stands}

-- the key of a slot
abbrev pub slot_key : Slot → List ℕ
slot_key (Has key of) = key.now
slot_key (May key of) = key.now

-- whether what stands at a slot's key is as the slot asks
abbrev pub slot_stands : Data → Slot → Bool
slot_stands d (Has key of) = stands of true (get key.now d)
slot_stands d (May key of) = stands of false (get key.now d)

-- whether an object has, beside `do`, just the keys of these slots, each as its slot asks
abbrev pub has_slots : List Slot → Data → Bool
has_slots slots d = has_only (codes "do" ∷ map slot_key slots) d && list_all (slot_stands d) slots
