-- What a city line must have, row by row, and the first of the rows that it lacks.
use Rattle.std.specs.Prelude.{◌≡◌, ◌⊎◌, ℕ, true, false, List, [], ◌∷◌, codes, Some, None, ⊤}
use Rattle.std.specs.List.{AllByRecursion}
use Rattle.serde_json.specs.Data.{Num, Data, number, string, array, object, Items, no_items, item, Members, no_members, member}
use Rattle.serde_json.specs.Find.{get}
use Rattle.iris_base.specs.declared.name.Label.{Label}
use Rattle.iris_base.specs.Forms.{IsTag}
use Rattle.iris_tree.specs.NamesKind.{is_kind_of}
use Rattle.iris_tree.specs.Universe.{Node}
use Rattle.iris_json.specs.declared.city.CityWhy.{CityWhy}
use Rattle.iris_json.specs.declared.city.CityWhy.TheVariants.{Shape, Kinds, Agents, Capacities, Label as label_row, Twin, Attribute, Plain, Place, Zone}
use Rattle.iris_json.specs.declared.city.Show.{Show}
use Rattle.iris_json.specs.Objects.{has_only, TextAt}
use Rattle.iris_json.specs.CityForm.{ArePlaced}
use Rattle.iris_json.specs.CityParts.{Spot, listed, nodes_in, plains_in, FirstFails}
use Rattle.iris_json.specs.CityKeys.{texts_data, LabelAt, KindsAt, AgentsAt, CapsAt, TreeAt, PlaceAt, ZoneAt, ShowAt}
use Rattle.iris_json.specs.Zones.{IsZone}

-- ---- keys and JSON types

-- a fact of each member: of its key and its value
abbrev pub EachMember : (List ℕ → Data → Type 0) → Members → Type 0
EachMember P no_members = ⊤
EachMember P (member key d ms) = P key d × EachMember P ms

-- a value is a text
abbrev pub IsTextData : Data → Type 0
IsTextData d = (text : List ℕ) × (d ≡ string text)

-- a key has a text, or is missing
abbrev pub MayHaveText : List ℕ → Data → Type 0
MayHaveText key d = (get key d ≡ None) ⊎ ((text : List ℕ) × (get key d ≡ Some (string text)))

-- a key has a list, or is missing
abbrev pub MayHaveList : List ℕ → Data → Type 0
MayHaveList key d = (get key d ≡ None) ⊎ ((items : Items) × (get key d ≡ Some (array items)))

-- the attributes, if there are any, are an object of texts
abbrev pub HasTextAttrs : Data → Type 0
HasTextAttrs d = (get (codes "attrs") d ≡ None) ⊎ ((ms : Members) × (get (codes "attrs") d ≡ Some (object ms)) × EachMember (λ key value. IsTextData value) ms)

-- a plain element has the right keys, and at each a value of the right type
pub record HasPlainShape (d : Data) : Type 0 where
  pub keys : has_only (codes "tag" ∷ codes "attrs" ∷ codes "text" ∷ codes "kids" ∷ []) d ≡ true
  pub tag : (tag : List ℕ) × TextAt (codes "tag") d tag
  pub attrs : HasTextAttrs d
  pub text : MayHaveText (codes "text") d
  pub kids : MayHaveList (codes "kids") d

-- so has a node
pub record HasNodeShape (d : Data) : Type 0 where
  pub keys : has_only (codes "kind" ∷ codes "id" ∷ codes "attrs" ∷ codes "plain" ∷ codes "nodes" ∷ []) d ≡ true
  pub kind : (kind : List ℕ) × TextAt (codes "kind") d kind
  pub id : (id : List ℕ) × TextAt (codes "id") d id
  pub attrs : HasTextAttrs d
  pub plain : MayHaveList (codes "plain") d
  pub nodes : MayHaveList (codes "nodes") d

-- a fact of each value of a list
abbrev pub EachItem : (Data → Type 0) → Items → Type 0
EachItem P no_items = ⊤
EachItem P (item d ds) = P d × EachItem P ds

-- a key has a list, of values that are each such
abbrev pub HasListOf : (Data → Type 0) → List ℕ → Data → Type 0
HasListOf P key d = (items : Items) × (get key d ≡ Some (array items)) × EachItem P items

-- a value is a number
abbrev pub IsNumberData : Data → Type 0
IsNumberData d = (n : Num) × (d ≡ number n)

-- a value is a list of two texts
abbrev pub IsTextPair : Data → Type 0
IsTextPair d = (one : List ℕ) × (other : List ℕ) × (d ≡ texts_data (one ∷ other ∷ []))

-- the keys of a city line
abbrev pub city_keys : List (List ℕ)
city_keys = codes "kinds" ∷ codes "agents" ∷ codes "caps" ∷ codes "place" ∷ codes "tree" ∷ codes "zone" ∷ codes "show" ∷ []

-- a city has the right keys, and at each a value of the right type, beside its nodes
pub record HasCityKeys (d : Data) : Type 0 where
  pub keys : has_only city_keys d ≡ true
  pub kinds : HasListOf IsTextData (codes "kinds") d
  pub agents : HasListOf IsTextData (codes "agents") d
  pub caps : (get (codes "caps") d ≡ None) ⊎ HasListOf IsNumberData (codes "caps") d
  pub place : HasListOf IsTextPair (codes "place") d
  pub zone : MayHaveText (codes "zone") d
  pub show : (show : Show) × ShowAt d show

-- ---- labels

-- a node's kind is one of the kinds, and its id is well formed
abbrev pub HasLabel : List (List ℕ) → Data → Type 0
HasLabel kinds d = (label : Label) × LabelAt kinds d label

-- no earlier sibling has a node's label
abbrev pub IsNoTwin : List (List ℕ) → Spot → Type 0
IsNoTwin kinds n = (label : Label) → LabelAt kinds n.value label → AllByRecursion (λ other. LabelAt kinds other label → ⊥) n.earlier

-- ---- attributes and plain elements

-- the name of an attribute is well formed and not `id`
abbrev pub IsAttrName : List ℕ → Type 0
IsAttrName name = IsTag name × (name ≡ codes "id" → ⊥)

-- each name of the attributes is such
abbrev pub HasAttrNames : Data → Type 0
HasAttrNames d = (ms : Members) → get (codes "attrs") d ≡ Some (object ms) → EachMember (λ name value. IsAttrName name) ms

-- the tag of a plain element is well formed and no kind
abbrev pub HasFreeTag : List (List ℕ) → Data → Type 0
HasFreeTag kinds d = (tag : List ℕ) → TextAt (codes "tag") d tag → IsTag tag × (is_kind_of kinds tag ≡ false)

-- it has no kids beside a text
abbrev pub HasTextOrKids : Data → Type 0
HasTextOrKids d = (text : List ℕ) → TextAt (codes "text") d text → (text ≡ []) ⊎ (listed (get (codes "kids") d) ≡ no_items)

-- ---- rows of the nodes

-- a node has what the row asks of a node itself
abbrev pub NodeHas : CityWhy → List (List ℕ) → Spot → Type 0
NodeHas Shape kinds n = HasNodeShape n.value
NodeHas Kinds kinds n = ⊤
NodeHas Agents kinds n = ⊤
NodeHas Capacities kinds n = ⊤
NodeHas label_row kinds n = HasLabel kinds n.value
NodeHas Twin kinds n = IsNoTwin kinds n
NodeHas Attribute kinds n = HasAttrNames n.value
NodeHas Plain kinds n = ⊤
NodeHas Place kinds n = ⊤
NodeHas Zone kinds n = ⊤

-- a plain element has what the row asks of one
abbrev pub PlainHas : CityWhy → List (List ℕ) → Spot → Type 0
PlainHas Shape kinds p = HasPlainShape p.value
PlainHas Kinds kinds p = ⊤
PlainHas Agents kinds p = ⊤
PlainHas Capacities kinds p = ⊤
PlainHas label_row kinds p = ⊤
PlainHas Twin kinds p = ⊤
PlainHas Attribute kinds p = HasAttrNames p.value
PlainHas Plain kinds p = HasFreeTag kinds p.value × HasTextOrKids p.value
PlainHas Place kinds p = ⊤
PlainHas Zone kinds p = ⊤

-- a node does, and each of its plain elements
abbrev pub AllHas : CityWhy → List (List ℕ) → Spot → Type 0
AllHas why kinds n = NodeHas why kinds n × AllByRecursion (PlainHas why kinds) (plains_in n.value)

-- each node of a city does
abbrev pub EachNodeHas : CityWhy → Data → Type 0
EachNodeHas why d = (kinds : List (List ℕ)) (tree : Data) → KindsAt d kinds → get (codes "tree") d ≡ Some tree → AllByRecursion (AllHas why kinds) (nodes_in tree)

-- of the nodes of a city that many stand before the first that does not
abbrev pub FirstNodeFails : CityWhy → Data → ℕ → Type 0
FirstNodeFails why d node = (kinds : List (List ℕ)) × (tree : Data) × KindsAt d kinds × (get (codes "tree") d ≡ Some tree) × FirstFails (AllHas why kinds) (nodes_in tree) node

-- ---- all rows

-- the keys of a city, of its nodes and of their plain elements are right, and at each is a value of the right type
abbrev pub HasCityShape : Data → Type 0
HasCityShape d = HasCityKeys d × ((tree : Data) × (get (codes "tree") d ≡ Some tree) × AllByRecursion (AllHas Shape []) (nodes_in tree))

-- the names that are placed, each with its agent: nodes of the city and agents of its list
abbrev pub HasPlaces : Data → Type 0
HasPlaces d = (kinds : List (List ℕ)) × (agents : List (List ℕ)) × (tree : Node) × (place : List (List Label × List ℕ)) × KindsAt d kinds × AgentsAt d agents × TreeAt kinds d tree × PlaceAt d place × ArePlaced agents tree place

-- a line has what the row asks
abbrev pub HasRow : CityWhy → Data → Type 0
HasRow Shape d = HasCityShape d
HasRow Kinds d = (kinds : List (List ℕ)) × KindsAt d kinds
HasRow Agents d = (agents : List (List ℕ)) × AgentsAt d agents
HasRow Capacities d = (agents : List (List ℕ)) × (caps : List ℕ) × AgentsAt d agents × CapsAt d agents caps
HasRow label_row d = EachNodeHas label_row d
HasRow Twin d = EachNodeHas Twin d
HasRow Attribute d = EachNodeHas Attribute d
HasRow Plain d = EachNodeHas Plain d
HasRow Place d = HasPlaces d
HasRow Zone d = (zone : List ℕ) × ZoneAt d zone × IsZone zone

-- a line lacks what the row of no node asks
abbrev pub LineFails : CityWhy → Data → ℕ → Type 0
LineFails why d node = (node ≡ 0) × (HasRow why d → ⊥)

-- a line lacks what the row asks, a row of the nodes first at that node
abbrev pub FailsRow : CityWhy → Data → ℕ → Type 0
FailsRow Shape d node = LineFails Shape d node
FailsRow Kinds d node = LineFails Kinds d node
FailsRow Agents d node = LineFails Agents d node
FailsRow Capacities d node = LineFails Capacities d node
FailsRow label_row d node = FirstNodeFails label_row d node
FailsRow Twin d node = FirstNodeFails Twin d node
FailsRow Attribute d node = FirstNodeFails Attribute d node
FailsRow Plain d node = FirstNodeFails Plain d node
FailsRow Place d node = LineFails Place d node
FailsRow Zone d node = LineFails Zone d node

-- the rows, in their order
abbrev pub rows : List CityWhy
rows = Shape ∷ Kinds ∷ Agents ∷ Capacities ∷ label_row ∷ Twin ∷ Attribute ∷ Plain ∷ Place ∷ Zone ∷ []

-- a row is the first of a list of rows that a line lacks: all before it in the list it has
pub data FirstLack (d : Data) (why : CityWhy) (node : ℕ) : List CityWhy → Type 0 where
  this_row : (later : List CityWhy) → FailsRow why d node → FirstLack d why node (why ∷ later)
  later_row : (row : CityWhy) (later : List CityWhy) → HasRow row d → FirstLack d why node later → FirstLack d why node (row ∷ later)

-- the first row that a line lacks
abbrev pub CityLacks : CityWhy → Data → ℕ → Type 0
CityLacks why d node = FirstLack d why node rows
