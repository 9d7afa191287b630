-- The canonical order of plain elements: siblings stand in the order of the bytes of their JSON texts.
use Rattle.std.specs.Prelude.{◌≡◌, ℕ, List, [], ◌∷◌, Some, if◌then◌else◌}
use Rattle.std.specs.declared.cmp.Ordering.{Ordering}
use Rattle.std.specs.Ordering.{nat_cmp, is_lt}
use Rattle.std.specs.Cmp.Lexicographic.{slice_cmp}
use Rattle.std.specs.List.{All}
use Rattle.std.specs.List.Sorted.{IsPermutation, IsSortedByKey}
use Rattle.serde_json.specs.Written.{compact_text}
use Rattle.iris_base.specs.declared.name.Label.{Label}
use Rattle.iris_tree.specs.declared.local.Local.{Local}
use Rattle.iris_tree.specs.declared.plain.Plain.{Plain}
use Rattle.iris_tree.specs.declared.plain.Plain.TheOpen.{Plain-F}
use Rattle.iris_tree.specs.declared.plain.Plain.TheViews.{out-Plain, roll-Plain}
use Rattle.iris_tree.specs.declared.plain.Plain.TheFolds.{fold-Plain}
use Rattle.iris_tree.specs.LocalText.{plain_data}
use Rattle.iris_tree.specs.Universe.{Node}
use Rattle.iris_tree.specs.Document.{Place, a_plain, below_plain, local_at}

-- the text of an element, with no space
abbrev pub plain_text : Plain → List ℕ
plain_text p = compact_text (plain_data p)

-- the order of the bytes of texts
abbrev pub text_cmp : List ℕ → List ℕ → Ordering
text_cmp = slice_cmp nat_cmp

-- no text is less than the one before it; equal elements may stand side by side
abbrev pub AreInTextOrder : List Plain → Type 0
AreInTextOrder ps = IsSortedByKey plain_text text_cmp ps

-- the given elements rearranged, so that they are in the order of their texts
pub record IsTextOrder (given ordered : List Plain) : Type 0 where
  pub same : IsPermutation given ordered
  pub rise : AreInTextOrder ordered

-- ---- at every depth

-- an element whose kids are in the order of their texts, as are those of each element below it
abbrev pub IsCanonicalPlain : Plain → Type 0
IsCanonicalPlain p = (place : Place) (q : Plain) → below_plain p place ≡ Some (a_plain q) → AreInTextOrder (out-Plain q).kids

-- siblings in the order of their texts, each of them canonical
abbrev pub AreCanonical : List Plain → Type 0
AreCanonical ps = AreInTextOrder ps × All IsCanonicalPlain ps

-- local information whose plain elements are canonical
abbrev pub IsCanonical : Local → Type 0
IsCanonical l = AreCanonical l.plain

-- a fact of the local information of each node of a document
abbrev pub EachLocal : (Local → Type 0) → Node → Type 0
EachLocal P document = (name : List Label) (l : Local) → local_at document name ≡ Some l → P l

-- ---- the canonical form

-- an element put before the first of these whose text is not less
abbrev pub insert_plain : Plain → List Plain → List Plain
insert_plain p [] = p ∷ []
insert_plain p (q ∷ qs) = if is_lt (text_cmp (plain_text q) (plain_text p)) then q ∷ insert_plain p qs else p ∷ q ∷ qs

-- these elements in the order of their texts
abbrev pub in_text_order : List Plain → List Plain
in_text_order [] = []
in_text_order (p ∷ ps) = insert_plain p (in_text_order ps)

-- an element of the same tag, attributes and text, whose kids, each canonical, are in the order of their texts
abbrev pub canonical_step : Plain-F Plain → Plain
canonical_step p = roll-Plain (record { tag = p.tag; attrs = p.attrs; text = p.text; kids = in_text_order p.kids })

-- an element in canonical form
abbrev pub canonical_plain : Plain → Plain
canonical_plain = fold-Plain Plain canonical_step
