-- The text of a name, label by label.
use Rattle.std.proofs.Common.{◌≡◌, ℕ, List, [], ◌∷◌, ◌++◌, refl, append_assoc}
use Rattle.iris_base.specs.declared.name.Label.{Label}
use Rattle.iris_base.specs.NameText.{label_text, dotted}

-- the text of two lists of labels, one behind the other
pub dotted-append : (xs ys : List Label) → dotted (xs ++ ys) ≡ dotted xs ++ dotted ys
dotted-append [] ys = refl
dotted-append (x ∷ xs) ys = rw (dotted-append xs ys) (simp append_assoc)

-- one more label with its dot
pub dotted_more : (front now with_label new : List ℕ) (ls : List Label) (l : Label) → now ≡ front ++ dotted ls → with_label ≡ now ++ label_text l → new ≡ with_label ++ 46 ∷ []
    → new ≡ front ++ dotted (ls ++ l ∷ [])
dotted_more front now with_label new ls l a b c = rw (c, b, a, dotted-append ls (l ∷ [])) (simp append_assoc)
