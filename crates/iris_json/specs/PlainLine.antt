-- Attributes and plain elements of a line, as relations between JSON values and what they are.
use Rattle.std.specs.Prelude.{◌≡◌, ◌⊎◌, ℕ, true, List, [], ◌∷◌, codes, Some, None}
use Rattle.serde_json.specs.Data.{Data, array, Items, no_items, item}
use Rattle.serde_json.specs.Find.{get}
use Rattle.iris_base.specs.Forms.{IsTag}
use Rattle.iris_tree.specs.declared.plain.Plain.{Plain}
use Rattle.iris_tree.specs.declared.plain.Plain.TheViews.{out-Plain}
use Rattle.iris_tree.specs.Attrs.{Pairs}
use Rattle.iris_tree.specs.LocalText.{attrs_data}
use Rattle.iris_tree.specs.PlainOrder.{in_text_order}
use Rattle.iris_json.specs.Objects.{has_only, TextAt}
use Rattle.iris_json.specs.PlainForm.{AreNames, IsTextOrKids}

-- the list at a key; absent means the empty one
abbrev pub ItemsAt : List ℕ → Data → Items → Type 0
ItemsAt key d items = (get key d ≡ Some (array items)) ⊎ ((get key d ≡ None) × (items ≡ no_items))

-- the names and texts at the key `attrs`; absent means none
abbrev pub AttrsGiven : Data → Pairs → Type 0
AttrsGiven d pairs = (get (codes "attrs") d ≡ Some (attrs_data pairs)) ⊎ ((get (codes "attrs") d ≡ None) × (pairs ≡ []))

-- these are attributes, whose names are of their form
abbrev pub AttrsAt : Data → Pairs → Type 0
AttrsAt d pairs = AttrsGiven d pairs × AreNames pairs

-- the text at the key `text`; absent means the empty one
abbrev pub OwnTextAt : Data → List ℕ → Type 0
OwnTextAt d text = TextAt (codes "text") d text ⊎ ((get (codes "text") d ≡ None) × (text ≡ []))

-- an object with the keys of a plain element, and the tag, the attributes and the text in it
pub record PlainOwnAt (d : Data) (tag : List ℕ) (attrs : Pairs) (text : List ℕ) : Type 0 where
  pub only : has_only (codes "tag" ∷ codes "attrs" ∷ codes "text" ∷ codes "kids" ∷ []) d ≡ true
  pub tag_at : TextAt (codes "tag") d tag
  pub is_tag : IsTag tag
  pub attrs_at : AttrsAt d attrs
  pub text_at : OwnTextAt d text

-- a value is a plain element: its kids are those of its list, in the order of their texts
mutual
  pub data IsPlain : Data → Plain → Type 0 where
    is_plain : (d : Data) (p : Plain) (items : Items) (given : List Plain)
        → PlainOwnAt d (out-Plain p).tag (out-Plain p).attrs (out-Plain p).text → ItemsAt (codes "kids") d items → ArePlains items given
        → (out-Plain p).kids ≡ in_text_order given → IsTextOrKids (out-Plain p) → IsPlain d p

  -- each of these values is the element at its place of the list
  pub data ArePlains : Items → List Plain → Type 0 where
    no_plains : ArePlains no_items []
    more_plains : (d : Data) (p : Plain) (items : Items) (ps : List Plain) → IsPlain d p → ArePlains items ps → ArePlains (item d items) (p ∷ ps)

-- the plain elements at the key `plain`, in the order of their texts; absent means none
abbrev pub PlainsAt : Data → List Plain → Type 0
PlainsAt d ps = (items : Items) × (given : List Plain) × ItemsAt (codes "plain") d items × ArePlains items given × (ps ≡ in_text_order given)
