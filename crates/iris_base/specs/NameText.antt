-- The text of a name.
use Rattle.std.specs.Prelude.{◌≡◌, ℕ, ◌<◌, ◌≤◌, List, [], ◌∷◌, ◌++◌, length, reverse}
use Rattle.iris_base.specs.declared.name.Label.{Label}
use Rattle.iris_base.specs.declared.letters.TheConstants.{DASH, DOT}
use Rattle.iris_base.specs.declared.limits.TheConstants.{MAX_LABELS}
use Rattle.iris_base.specs.Forms.{IsKind, IsId}

-- kind-id
abbrev pub label_text : Label → List ℕ
label_text l = l.kind ++ DASH ∷ l.id

-- each label, and a dot behind it
abbrev pub dotted : List Label → List ℕ
dotted [] = []
dotted (l ∷ ls) = label_text l ++ DOT ∷ dotted ls

-- the labels from the node up to the top, with dots between
abbrev pub name_text : List Label → List ℕ
name_text [] = []
name_text (top ∷ below) = dotted (reverse below) ++ label_text top

-- ---- which names have a text

pub record IsLabel (l : Label) : Type 0 where
  pub kind : IsKind l.kind
  pub id : IsId l.id

abbrev pub AreLabels : List Label → Type 0
AreLabels [] = Unit {0}
AreLabels (l ∷ ls) = IsLabel l × AreLabels ls

-- it has labels, and not too many of them
pub record IsName (name : List Label) : Type 0 where
  pub some : 0 < length name
  pub few : length name ≤ MAX_LABELS
  pub labels : AreLabels name

-- the text of such a name
abbrev pub IsNameText : List ℕ → Type 0
IsNameText text = (name : List Label) × IsName name × (text ≡ name_text name)
