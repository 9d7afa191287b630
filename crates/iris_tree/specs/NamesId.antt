-- Attributes that are named `id`, which no attribute may be.
use Rattle.std.specs.Prelude.{◌≡◌, Bool, false, is_some, ◌||◌, List, codes, map}
use Rattle.std.specs.List.{list_any}
use Rattle.iris_tree.specs.declared.local.Local.{Local}
use Rattle.iris_tree.specs.declared.plain.Plain.{Plain}
use Rattle.iris_tree.specs.declared.plain.Plain.TheOpen.{Plain-F}
use Rattle.iris_tree.specs.declared.plain.Plain.TheFolds.{fold-Plain}
use Rattle.iris_tree.specs.Attrs.{Pairs, value_of}
use Rattle.iris_tree.specs.Universe.{Node}
use Rattle.iris_tree.specs.PlainOrder.{EachLocal}

-- whether one of these attributes is named `id`
abbrev pub has_id : Pairs → Bool
has_id pairs = is_some (value_of pairs (codes "id"))

-- its own, or one of its kids'
abbrev pub names_id_step : Plain-F Bool → Bool
names_id_step p = has_id p.attrs || list_any (λ found. found) p.kids

-- whether an element, or one below it, has an attribute named `id`
abbrev pub names_id : Plain → Bool
names_id = fold-Plain Bool names_id_step

-- whether one of these elements does, or one below them
abbrev pub plains_name_id : List Plain → Bool
plains_name_id ps = list_any (λ found. found) (map names_id ps)

-- whether a node, or one of its plain elements at any depth, has one
abbrev pub local_names_id : Local → Bool
local_names_id l = has_id l.attrs || plains_name_id l.plain

-- no attribute of a node, nor of its plain elements, is named `id`
abbrev pub NamesNoId : Local → Type 0
NamesNoId l = local_names_id l ≡ false

-- no attribute of a document is named `id`
abbrev pub NamesNoIdAnywhere : Node → Type 0
NamesNoIdAnywhere document = EachLocal NamesNoId document
