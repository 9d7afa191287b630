-- What the keys of a city line say.
use Rattle.std.specs.Prelude.{◌≡◌, ◌⊎◌, ℕ, false, true, Contains, List, [], ◌∷◌, map, length, replicate, codes, Some, None, Result, Ok, Err}
use Rattle.std.specs.List.{AllByRecursion}
use Rattle.serde_json.specs.Data.{unsigned, Data, number, string, array, Items, no_items, item}
use Rattle.serde_json.specs.Find.{get}
use Rattle.serde_json.specs.View.{items_of}
use Rattle.iris_base.specs.declared.limits.TheConstants.{DEFAULT_CAPACITY}
use Rattle.iris_base.specs.declared.name.Label.{Label}
use Rattle.iris_base.specs.Forms.{IsId}
use Rattle.iris_base.specs.NameText.{name_text, IsName}
use Rattle.iris_tree.specs.declared.local.Local.{Local}
use Rattle.iris_tree.specs.NamesId.{NamesNoId}
use Rattle.iris_tree.specs.NamesKind.{plains_name_kind}
use Rattle.iris_tree.specs.Siblings.{IsLabelOrder}
use Rattle.iris_tree.specs.Universe.{Node, node, nodes_of}
use Rattle.iris_json.specs.declared.city.FormError.{FormError}
use Rattle.iris_json.specs.declared.city.FormError.TheVariants.{Shape}
use Rattle.iris_json.specs.declared.city.FormError.TheVariants as forms
use Rattle.iris_json.specs.declared.city.Show.{Show}
use Rattle.iris_json.specs.declared.city.Show.TheVariants.{All, Summary}
use Rattle.iris_json.specs.Objects.{has_only, TextAt}
use Rattle.iris_json.specs.PlainLine.{ItemsAt, AttrsAt, PlainsAt}
use Rattle.iris_json.specs.CityForm.{AreKinds, AreAgents, AreCapacities}

-- a list of texts
abbrev pub texts_data : List (List ℕ) → Data
texts_data ts = array (items_of (map string ts))

-- the kinds at the key `kinds`
abbrev pub KindsAt : Data → List (List ℕ) → Type 0
KindsAt d kinds = (get (codes "kinds") d ≡ Some (texts_data kinds)) × AreKinds kinds

-- the agents at the key `agents`
abbrev pub AgentsAt : Data → List (List ℕ) → Type 0
AgentsAt d agents = (get (codes "agents") d ≡ Some (texts_data agents)) × AreAgents agents

-- a capacity as a number
abbrev pub cap_data : ℕ → Data
cap_data cap = number (unsigned cap)

-- a list of whole numbers
abbrev pub numbers_data : List ℕ → Data
numbers_data ns = array (items_of (map cap_data ns))

-- the capacities of so many agents where the line tells none
abbrev pub default_caps : ℕ → List ℕ
default_caps agents = replicate agents DEFAULT_CAPACITY

-- the capacities at the key `caps`, one for each agent
abbrev pub CapsAt : Data → List (List ℕ) → List ℕ → Type 0
CapsAt d agents caps = ((get (codes "caps") d ≡ Some (numbers_data caps)) ⊎ ((get (codes "caps") d ≡ None) × (caps ≡ default_caps (length agents)))) × AreCapacities (length agents) caps

-- what a node holds itself: attributes and plain elements, no attribute of them named `id`, and no tag that is a kind
pub record LocalAt (kinds : List (List ℕ)) (d : Data) (local : Local) : Type 0 where
  pub attrs_at : AttrsAt d local.attrs
  pub plain_at : PlainsAt d local.plain
  pub no_id : NamesNoId local
  pub no_kind : plains_name_kind kinds local.plain ≡ false

-- the list at the key `nodes`; absent means none
abbrev pub NodesAt : Data → Items → Type 0
NodesAt d items = ItemsAt (codes "nodes") d items

-- the label at the keys `kind` and `id`, of one of the kinds
abbrev pub LabelAt : List (List ℕ) → Data → Label → Type 0
LabelAt kinds d label = (get (codes "kind") d ≡ Some (string label.kind)) × (get (codes "id") d ≡ Some (string label.id)) × Contains kinds label.kind × IsId label.id

-- an object with the keys of a node, and the label and the local information in it
abbrev pub OwnAt : List (List ℕ) → Data → Label → Local → Type 0
OwnAt kinds d label local = (has_only (codes "kind" ∷ codes "id" ∷ codes "attrs" ∷ codes "plain" ∷ codes "nodes" ∷ []) d ≡ true) × LabelAt kinds d label × LocalAt kinds d local

-- a value is a node: the nodes below it are those of its list, in the order of their labels
mutual
  pub data IsNode (kinds : List (List ℕ)) : Data → Node → Type 0 where
    is_node : (d : Data) (label : Label) (local : Local) (items : Items) (given ordered : List Node)
        → OwnAt kinds d label local → NodesAt d items → AreNodes kinds items given → IsLabelOrder given ordered
        → IsNode kinds d (node label local (nodes_of ordered))

  -- each of these values is the node at its place of the list
  pub data AreNodes (kinds : List (List ℕ)) : Items → List Node → Type 0 where
    none : AreNodes kinds no_items []
    more : (d : Data) (n : Node) (items : Items) (ns : List Node) → IsNode kinds d n → AreNodes kinds items ns → AreNodes kinds (item d items) (n ∷ ns)

-- the node at the key `tree`
abbrev pub TreeAt : List (List ℕ) → Data → Node → Type 0
TreeAt kinds d tree = (value : Data) × (get (codes "tree") d ≡ Some value) × IsNode kinds value tree

-- a name that is placed, and its agent
abbrev pub place_data : List Label × List ℕ → Data
place_data p = texts_data (name_text p.0 ∷ p.1 ∷ [])

-- a list of what is placed
abbrev pub places_data : List (List Label × List ℕ) → Data
places_data place = array (items_of (map place_data place))

-- the names that are placed and their agents, at the key `place`
abbrev pub PlaceAt : Data → List (List Label × List ℕ) → Type 0
PlaceAt d place = (get (codes "place") d ≡ Some (places_data place)) × AllByRecursion (λ p. IsName p.0) place

-- the text of the zone at the key `zone`; absent means that of UTC
abbrev pub ZoneAt : Data → List ℕ → Type 0
ZoneAt d zone = TextAt (codes "zone") d zone ⊎ ((get (codes "zone") d ≡ None) × (zone ≡ codes "UTC0"))

-- the word of what is shown
abbrev pub show_text : Show → List ℕ
show_text All = codes "all"
show_text Summary = codes "summary"

-- what is shown, at the key `show`; absent means all
abbrev pub ShowAt : Data → Show → Type 0
ShowAt d show = TextAt (codes "show") d (show_text show) ⊎ ((get (codes "show") d ≡ None) × (show ≡ All))

-- ---- what a reader of a node answers

-- a reader gives that value, unless there was no memory
abbrev pub GivesCityPart : {X : Type 0} → Result X FormError → X → Type 0
GivesCityPart (Ok found) x = found ≡ x
GivesCityPart (Err Shape) x = ⊥
GivesCityPart (Err forms.Memory) x = Unit {0}
