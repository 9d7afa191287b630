-- What a city keeps to, beside any text of it: its kinds, and its nodes.
use Rattle.std.specs.Prelude.{◌≡◌, ℕ, zero, suc, ◌<◌, ◌≤◌, false, true, ⊤, List, [], ◌∷◌, length, map, is_some}
use Rattle.std.specs.List.{AllByRecursion, IsDistinct, list_any, sum}
use Rattle.std.specs.Cmp.Lexicographic.{pointwise}
use Rattle.std.specs.Str.{bytes_eq}
use Rattle.std.proofs.Props.{props}
use Rattle.iris_base.specs.declared.limits.TheConstants.{MAX_KINDS, MAX_CHILDREN, MAX_AGENTS, MAX_CAPACITY, MAX_CAPACITIES}
use Rattle.iris_base.specs.declared.name.Label.{Label}
use Rattle.iris_base.specs.Forms.{IsKind, IsId, IsAgentId}
use Rattle.iris_base.specs.NameOrder.{label_eq}
use Rattle.iris_tree.specs.declared.local.Local.{Local}
use Rattle.iris_tree.specs.Changes.{fits}
use Rattle.iris_tree.specs.NamesId.{NamesNoId}
use Rattle.iris_tree.specs.PlainOrder.{IsCanonical}
use Rattle.iris_tree.specs.Universe.{Node, node, Nodes, no_nodes, nodes, list_of, label_of, node_at}
use Rattle.iris_json.specs.PlainForm.{AreNames, AreTexts, ArePlainForms}
use Rattle.iris_tree.specs.NamesKind.{plains_name_kind}

-- some different texts of a form, and no more than so many
pub record AreWords (Is : List ℕ → Type 0) (most : ℕ) (words : List (List ℕ)) : Type 0 where
  pub some : 0 < length words
  pub few : length words ≤ most
  pub each : AllByRecursion Is words
  pub differ : IsDistinct bytes_eq words

-- some different kinds, and no more than a city may have
abbrev pub AreKinds : List (List ℕ) → Type 0
AreKinds = AreWords IsKind MAX_KINDS

-- some different agents, and no more than a city may have
abbrev pub AreAgents : List (List ℕ) → Type 0
AreAgents = AreWords IsAgentId MAX_AGENTS

-- a capacity for each of so many agents, none of them too large, nor all of them together
pub record AreCapacities (agents : ℕ) (caps : List ℕ) : Type 0 where
  pub each_has : length caps ≡ agents
  pub some : AllByRecursion (λ cap. 0 < cap) caps
  pub fits : AllByRecursion (λ cap. cap ≤ MAX_CAPACITY) caps
  pub together : sum caps ≤ MAX_CAPACITIES

-- the names that are placed
abbrev pub placed_names : List (List Label × List ℕ) → List (List Label)
placed_names place = map (λ p. p.0) place

-- nodes of the tree, each placed once at one of the agents, and the top node among them
pub record ArePlaced (agents : List (List ℕ)) (tree : Node) (place : List (List Label × List ℕ)) : Type 0 where
  pub are_nodes : AllByRecursion (λ p. is_some (node_at tree p.0) ≡ true) place
  pub once : IsDistinct (pointwise label_eq) (placed_names place)
  pub listed : AllByRecursion (λ p. list_any (bytes_eq p.1) agents ≡ true) place
  pub top : list_any (pointwise label_eq (label_of tree ∷ [])) (placed_names place) ≡ true

-- what a node of a city is called and holds itself: it is of one of the kinds; its attributes and plain elements are of their form, none of them named `id` and none of a tag that is a kind; the plain elements stand in the order of their texts at every depth; and no limit is passed
pub record IsCityOwn (kinds : List (List ℕ)) (label : Label) (local : Local) : Type 0 where
  pub kind : list_any (bytes_eq label.kind) kinds ≡ true
  pub id : IsId label.id
  pub names : AreNames local.attrs
  pub texts : AreTexts local.attrs
  pub plain : ArePlainForms local.plain
  pub no_id : NamesNoId local
  pub no_kind : plains_name_kind kinds local.plain ≡ false
  pub canonical : IsCanonical local
  pub fits : fits local ≡ true

-- what each node of a tree is called and holds itself is such
abbrev mutual
  pub EachOwn : (Label → Local → Type 0) → Node → Type 0
  EachOwn Such (node label local below) = Such label local × EachOwns Such below

  -- and what each of all nodes of these is
  pub EachOwns : (Label → Local → Type 0) → Nodes → Type 0
  EachOwns Such no_nodes = ⊤
  EachOwns Such (nodes n ns) = EachOwn Such n × EachOwns Such ns

-- the form of what a node holds itself, as each reader of one keeps it: attributes in the order of their names, plain elements of their form in the order of their texts
pub record IsLocalForm (local : Local) : Type 0 where
  pub attrs : AreTexts local.attrs
  pub plain : ArePlainForms local.plain
  pub canonical : IsCanonical local

-- what each node of a tree holds is of that form
abbrev pub EachLocalForm : Node → Type 0
EachLocalForm = EachOwn (λ label local. IsLocalForm local)

-- what each node of these trees holds is
abbrev pub AllLocalForms : Nodes → Type 0
AllLocalForms = EachOwns (λ label local. IsLocalForm local)

-- a node of a city, with at most so many levels of nodes and no more children than each may have
abbrev mutual
  pub IsCityNode : List (List ℕ) → ℕ → Node → Type 0
  IsCityNode kinds zero n = ⊥
  IsCityNode kinds (suc levels) (node label local below) = IsCityOwn kinds label local × (length (list_of below) ≤ MAX_CHILDREN) × AreCityNodes kinds levels below

  -- nodes of a city, each with at most so many levels of nodes
  pub AreCityNodes : List (List ℕ) → ℕ → Nodes → Type 0
  AreCityNodes kinds levels no_nodes = ⊤
  AreCityNodes kinds levels (nodes n ns) = IsCityNode kinds levels n × AreCityNodes kinds levels ns

-- ---- each of these facts has one proof, since a city keeps them

-- of the kinds
pub AreKinds-prop : (kinds : List (List ℕ)) → IsProp (AreKinds kinds)
AreKinds-prop kinds = hlevel props

-- of the agents
pub AreAgents-prop : (agents : List (List ℕ)) → IsProp (AreAgents agents)
AreAgents-prop agents = hlevel props

-- of their capacities
pub AreCapacities-prop : (agents : ℕ) (caps : List ℕ) → IsProp (AreCapacities agents caps)
AreCapacities-prop agents caps = hlevel props

-- of what is placed
pub ArePlaced-prop : (agents : List (List ℕ)) (tree : Node) (place : List (List Label × List ℕ)) → IsProp (ArePlaced agents tree place)
ArePlaced-prop agents tree place = hlevel props

-- of what a node of a city is called and holds itself
pub IsCityOwn-prop : (kinds : List (List ℕ)) (label : Label) (local : Local) → IsProp (IsCityOwn kinds label local)
IsCityOwn-prop kinds label local = hlevel props

mutual
  -- of a node of a city
  pub IsCityNode-prop : (kinds : List (List ℕ)) (levels : ℕ) (n : Node) → IsProp (IsCityNode kinds levels n)
  IsCityNode-prop kinds zero n = hlevel props
  IsCityNode-prop kinds (suc levels) (node label local below) = hlevel (IsCityOwn-prop kinds label local, AreCityNodes-prop kinds levels below, props)

  AreCityNodes-prop : (kinds : List (List ℕ)) (levels : ℕ) (ns : Nodes) → IsProp (AreCityNodes kinds levels ns)
  AreCityNodes-prop kinds levels no_nodes = hlevel props
  AreCityNodes-prop kinds levels (nodes n ns) = hlevel (IsCityNode-prop kinds levels n, AreCityNodes-prop kinds levels ns, props)
