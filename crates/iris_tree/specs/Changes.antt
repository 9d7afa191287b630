-- Changes of local information.
use Rattle.std.specs.Prelude.{◌≡◌, ℕ, ◌+◌, Bool, not, nat_le, is_some, ◌&&◌, map, List, [], ◌∷◌, length, Option, Some, None, Result, Ok, Err, codes, if◌then◌else◌}
use Rattle.std.specs.Option.{option_map_or}
use Rattle.std.specs.List.{filter}
use Rattle.std.specs.Str.{bytes_eq}
use Rattle.serde_json.specs.Data.{Data, string, array}
use Rattle.serde_json.specs.View.{items_of}
use Rattle.serde_json.specs.Written.{compact_text}
use Rattle.iris_base.specs.declared.limits.TheConstants.{MAX_ATTRIBUTES, MAX_LOCAL_BYTES, MAX_PLAIN, MAX_PLAIN_DEPTH}
use Rattle.iris_base.specs.Attribute.{is_id}
use Rattle.iris_tree.specs.declared.local.Local.{Local}
use Rattle.iris_tree.specs.declared.plain.Plain.{Plain}
use Rattle.iris_tree.specs.declared.plain.Plain.TheViews.{out-Plain}
use Rattle.iris_tree.specs.declared.change.Change.{Change}
use Rattle.iris_tree.specs.declared.change.Change.TheVariants.{Attr, Drop, Put}
use Rattle.iris_tree.specs.declared.change.ChangeError.{ChangeError}
use Rattle.iris_tree.specs.declared.change.ChangeError.TheVariants.{BadChange, Memory}
use Rattle.iris_tree.specs.LocalText.{plain_data, local_text}
use Rattle.iris_tree.specs.Attrs.{value_of, with_attr, without_attr}
use Rattle.iris_tree.specs.NamesId.{names_id}
use Rattle.iris_tree.specs.PlainCounts.{plains_count, plains_depth, plains_attributes}
use Rattle.iris_tree.specs.PlainOrder.{in_text_order, canonical_plain}

-- ---- making changes

-- no element, of these or below them, has too many attributes, and they are neither too many nor nested too deep
abbrev pub plains_fit : List Plain → Bool
plains_fit ps = nat_le (plains_attributes ps) MAX_ATTRIBUTES && nat_le (plains_count ps) MAX_PLAIN && nat_le (plains_depth ps) MAX_PLAIN_DEPTH

-- the limits of attributes, of plain elements and of the canonical text
abbrev pub fits : Local → Bool
fits l = nat_le (length l.attrs) MAX_ATTRIBUTES && plains_fit l.plain && nat_le (length (local_text l)) MAX_LOCAL_BYTES

-- that local information, unless it passes a limit
abbrev pub within_limits : Local → Option Local
within_limits l = if fits l then Some l else None

-- whether an element has another tag
abbrev pub has_other_tag : List ℕ → Plain → Bool
has_other_tag tag p = not (bytes_eq (out-Plain p).tag tag)

-- the element, in canonical form, in place of all of its tag: siblings in the order of their texts
abbrev pub with_plain : List Plain → Plain → List Plain
with_plain ps p = in_text_order (canonical_plain p ∷ filter (has_other_tag (out-Plain p).tag) ps)

-- the local information after one change. A change fails that names an attribute `id`, drops an absent attribute, or passes a limit.
abbrev pub apply_change : Local → Change → Option Local
apply_change l (Attr name value) = if is_id name then None else within_limits (record { attrs = with_attr l.attrs name value; plain = l.plain })
apply_change l (Drop name) =
    if is_id name then None else (if is_some (value_of l.attrs name) then within_limits (record { attrs = without_attr l.attrs name; plain = l.plain }) else None)
apply_change l (Put p) = if names_id p then None else within_limits (record { attrs = l.attrs; plain = with_plain l.plain p })

-- the changes in order, the first of them at that place, or the place of the first that fails
abbrev pub apply_from : ℕ → Local → List Change → Result Local ℕ
apply_from at l [] = Ok l
apply_from at l (c ∷ cs) = option_map_or (λ changed. apply_from (at + 1) changed cs) (apply_change l c) (Err at)

-- the local information after these changes, or the place of the first that fails
abbrev pub apply_changes : Local → List Change → Result Local ℕ
apply_changes l cs = apply_from 0 l cs

-- the error is just the place of the first change that fails, or memory ran out
abbrev pub RefusesChanges : Local → List Change → ChangeError → Type 0
RefusesChanges l cs (BadChange at) = apply_changes l cs ≡ Err at
RefusesChanges l cs Memory = Unit {0}

-- ---- as JSON

-- a change as an array: what it does, the attribute's name, and the value where one is set; or the element that is put
abbrev pub change_data : Change → Data
change_data (Attr name value) = array (items_of (string (codes "attr") ∷ string name ∷ string value ∷ []))
change_data (Drop name) = array (items_of (string (codes "drop") ∷ string name ∷ []))
change_data (Put p) = array (items_of (string (codes "put") ∷ plain_data p ∷ []))

-- changes as an array, in their order
abbrev pub changes_data : List Change → Data
changes_data cs = array (items_of (map change_data cs))

-- the text of changes, with no space
abbrev pub changes_text : List Change → List ℕ
changes_text cs = compact_text (changes_data cs)
