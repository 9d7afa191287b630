-- Views that are alike where an evaluation looks.
use Rattle.std.specs.Prelude.{◌≡◌, List, Option, Contains}
use Rattle.iris_fragment.specs.declared.piece.Level.{Level}
use Rattle.iris_fragment.specs.declared.piece.Level.TheVariants.{Ids, Full}
use Rattle.iris_need.specs.declared.need.Need.{Need}
use Rattle.iris_need.specs.Run.{Known, View, ids_known, full_known}

-- the same is known of a node, as far as the level asks
abbrev pub IsAlike : Level → Option Known → Option Known → Type 0
IsAlike Ids k m = ids_known k ≡ ids_known m
IsAlike Full k m = full_known k ≡ full_known m

-- the two views are alike at each of these looks: both meet it, and know the same, or neither meets it
abbrev pub AreAlike : View → View → List Need → Type 0
AreAlike w v looks = (look : Need) → Contains looks look → IsAlike look.level (w look.name) (v look.name)

-- a level is enough for another
abbrev pub Reaches : Level → Level → Type 0
Reaches Full l = Unit {0}
Reaches Ids Ids = Unit {0}
Reaches Ids Full = ⊥

-- a need for the name of the look, at its level or a greater one
abbrev pub IsCoveredBy : List Need → Need → Type 0
IsCoveredBy needs look = (need : Need) × Contains needs need × (need.name ≡ look.name) × Reaches need.level look.level
