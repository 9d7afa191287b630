-- What attributes and plain elements keep to, beside any text of them.
use Rattle.std.specs.Prelude.{◌≡◌, ◌<◌, Some, List, length}
use Rattle.std.specs.List.{AllByRecursion}
use Rattle.std.specs.List.Sorted.{IsStrictlySortedBy}
use Rattle.std.specs.Map.{keys_of}
use Rattle.std.specs.Ordering.{nat_cmp}
use Rattle.std.specs.Cmp.Lexicographic.{slice_cmp}
use Rattle.std.specs.Str.{IsUtf8}
use Rattle.iris_base.specs.Forms.{IsTag}
use Rattle.iris_tree.specs.declared.plain.Plain.{Plain}
use Rattle.iris_tree.specs.declared.plain.Plain.TheOpen.{Plain-F}
use Rattle.iris_tree.specs.declared.plain.Plain.TheViews.{out-Plain}
use Rattle.iris_tree.specs.Attrs.{Pairs}
use Rattle.iris_tree.specs.Document.{Place, a_plain, below_plain}

-- the names of attributes are of their form
abbrev pub AreNames : Pairs → Type 0
AreNames = AllByRecursion (λ p. IsTag p.0)

-- attributes in the order of their names, with texts as their values
pub record AreTexts (pairs : Pairs) : Type 0 where
  pub rise : IsStrictlySortedBy (slice_cmp nat_cmp) (keys_of pairs)
  pub utf8 : AllByRecursion (λ p. IsUtf8 p.1) pairs

-- an element with kids has no text
abbrev pub IsTextOrKids : Plain-F Plain → Type 0
IsTextOrKids p = 0 < length p.kids → length p.text ≡ 0

-- what a plain element holds itself: a tag, attributes, and a text or kids
pub record IsPlainOwn (p : Plain-F Plain) : Type 0 where
  pub tag : IsTag p.tag
  pub names : AreNames p.attrs
  pub texts : AreTexts p.attrs
  pub utf8 : IsUtf8 p.text
  pub apart : IsTextOrKids p

-- a fact of a plain element, and of each element below it
abbrev pub EachPlain : (Plain → Type 0) → Plain → Type 0
EachPlain P p = (place : Place) (q : Plain) → below_plain p place ≡ Some (a_plain q) → P q

-- an element, and each below it, is of its form
abbrev pub IsPlainForm : Plain → Type 0
IsPlainForm = EachPlain (λ p. IsPlainOwn (out-Plain p))

-- each of these elements is of its form, at any depth
abbrev pub ArePlainForms : List Plain → Type 0
ArePlainForms = AllByRecursion IsPlainForm
