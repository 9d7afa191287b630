-- The JSON of local information.
use Rattle.std.specs.Prelude.{◌≡◌, ℕ, List, [], ◌∷◌, ◌++◌, codes, map, Result, MatchResult}
use Rattle.json.specs.Token.{Token}
use Rattle.json.specs.Tree.{json_tokens}
use Rattle.serde_json.specs.Data.{Data, string, array, object, Members, no_members, member}
use Rattle.serde_json.specs.View.{items_of}
use Rattle.serde_json.specs.Written.{outline, compact_text}
use Rattle.iris_tree.specs.declared.local.Local.{Local}
use Rattle.iris_tree.specs.declared.plain.Plain.{Plain}
use Rattle.iris_tree.specs.declared.plain.Plain.TheOpen.{Plain-F}
use Rattle.iris_tree.specs.declared.plain.Plain.TheFolds.{fold-Plain}
use Rattle.iris_tree.specs.Attrs.{Pairs}

-- a string for each attribute, in the order of the names
abbrev pub attrs_members : Pairs → Members
attrs_members [] = no_members
attrs_members (pair ∷ pairs) = member pair.0 (string pair.1) (attrs_members pairs)

-- attributes as an object
abbrev pub attrs_data : Pairs → Data
attrs_data pairs = object (attrs_members pairs)

-- an element as an object, with its kids as they are written
unfoldable pub plain_step : Plain-F Data → Data
plain_step p =
    object (member (codes "attrs") (attrs_data p.attrs) (member (codes "kids") (array (items_of p.kids)) (member (codes "tag") (string p.tag) (member (codes "text") (string p.text) no_members))))

-- an element as an object
abbrev pub plain_data : Plain → Data
plain_data = fold-Plain Data plain_step

-- local information as an object
abbrev pub local_data : Local → Data
local_data l = object (member (codes "attrs") (attrs_data l.attrs) (member (codes "plain") (array (items_of (map plain_data l.plain))) no_members))

-- the text of local information, with no space
abbrev pub local_text : Local → List ℕ
local_text l = compact_text (local_data l)

-- ---- as tokens, for those who write

-- what is written for a value
unfoldable pub value_tokens : Data → List Token
value_tokens d = json_tokens (outline d)

-- what is written for an attribute
abbrev pub pair_tokens : List ℕ × List ℕ → List Token
pair_tokens pair = Token.key pair.0 ∷ Token.string pair.1 ∷ []

-- the token is appended, or at an error nothing is
abbrev pub AppendsWhole : {E : Type 0} → Result (Unit {0}) E → List Token → List Token → Token → Type 0
AppendsWhole result old new token = MatchResult result (λ _. new ≡ old ++ token ∷ []) (λ _. new ≡ old)
