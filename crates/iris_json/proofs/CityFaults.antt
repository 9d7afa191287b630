-- What a line lacks first, of what is known of its rows.
use Rattle.std.specs.Prelude.{MatchBool, IfSome}
use Rattle.std.proofs.Common.{◌≡◌, ℕ, Bool, true, length, List, [], ◌∷◌, map, codes, Option, Some, None, refl, ap, sym, ◌∙◌, subst}
use Rattle.std.specs.List.{AllByRecursion}
use Rattle.serde_json.specs.Data.{Data, string}
use Rattle.serde_json.specs.Find.{get}
use Rattle.serde_json.specs.View.{items_of}
use Rattle.iris_base.specs.declared.name.Label.{Label}
use Rattle.iris_tree.specs.Universe.{Node}
use Rattle.iris_json.specs.declared.city.CityWhy.{CityWhy}
use Rattle.iris_json.specs.declared.city.CityWhy.TheVariants.{Shape, Kinds, Agents, Capacities, Label as label_row, Twin, Attribute, Plain, Place, Zone}
use Rattle.iris_json.specs.declared.city.FormError.{FormError}
use Rattle.iris_json.specs.declared.city.FormError.TheVariants as forms
use Rattle.iris_json.specs.declared.city.Show.{Show}
use Rattle.iris_json.specs.declared.city_fault.Fault.{Fault}
use Rattle.iris_json.specs.Zones.{IsZone}
use Rattle.iris_json.specs.CityForm.{ArePlaced}
use Rattle.iris_json.specs.CityKeys.{KindsAt, AgentsAt, CapsAt, TreeAt, PlaceAt, ZoneAt, IsNode}
use Rattle.iris_json.specs.CityLine.{SaysCity, IsBadCity}
use Rattle.iris_json.specs.CityParts.{Spot, nodes_in, FirstFails, told}
use Rattle.iris_json.specs.CityFaults.{IsShaped, TellsNode}
use Rattle.iris_json.specs.CityReads.{HasNone, IsNoCity}
use Rattle.iris_json.specs.CityRows.{AllHas, EachNodeHas, FirstNodeFails, HasRow, FailsRow, rows, FirstLack, this_row, later_row, CityLacks, HasPlaces}
use Rattle.iris_json.proofs.KindReading.{texts_same}
use Rattle.iris_json.specs.declared.city_nodes.Steps.{Steps}
use Rattle.iris_json.specs.Steps.{Walks}
use Rattle.iris_json.proofs.NodeReading.{node_once}
use Rattle.iris_json.proofs.Spots.{fails_not_all}

-- what a reader has none of, where it found none
pub has_none : (e : FormError) (nothing : Type 0) → e ≡ forms.Shape → HasNone nothing e → nothing
has_none forms.Shape nothing is none = none
has_none forms.Memory nothing is none = absurd (cc)

-- ---- the rows one by one

-- what is known once kinds, agents and capacities are read
pub record Front (d tree : Data) (kinds agents : List (List ℕ)) : Type 0 where
  pub shape : IsShaped d tree
  pub kinds_at : KindsAt d kinds
  pub agents_at : AgentsAt d agents
  pub caps : HasRow Capacities d

shape_row : (d tree : Data) → IsShaped d tree → HasRow Shape d
shape_row d tree s = (s.keys, (tree, s.tree_at, s.nodes))

pub lacks_shape : (d : Data) → (HasRow Shape d → ⊥) → IsBadCity d 0 Shape
lacks_shape d none = (0, this_row _ (refl, none), refl)

pub lacks_kinds : (d tree : Data) → IsShaped d tree → ((kinds : List (List ℕ)) → KindsAt d kinds → ⊥) → IsBadCity d 0 Kinds
lacks_kinds d tree s none = (0, later_row Shape _ (shape_row d tree s) (this_row _ (refl, λ has. none has.0 has.1)), refl)

pub lacks_agents : (d tree : Data) (kinds : List (List ℕ)) → IsShaped d tree → KindsAt d kinds → ((agents : List (List ℕ)) → AgentsAt d agents → ⊥) → IsBadCity d 0 Agents
lacks_agents d tree kinds s at none = (0, later_row Shape _ (shape_row d tree s) (later_row Kinds _ (kinds, at) (this_row _ (refl, λ has. none has.0 has.1))), refl)

pub lacks_caps : (d tree : Data) (kinds agents : List (List ℕ)) → IsShaped d tree → KindsAt d kinds → AgentsAt d agents → ((caps : List ℕ) → CapsAt d agents caps → ⊥) → IsBadCity d 0 Capacities
lacks_caps d tree kinds agents s at also none =
    (0, later_row Shape _ (shape_row d tree s) (later_row Kinds _ (kinds, at) (later_row Agents _ (agents, also) (this_row _ (refl, lacks)))), refl)
  where
    lacks : HasRow Capacities d → ⊥
    lacks has =
        let texts : items_of (map string has.0) ≡ items_of (map string agents) = cc (has.2.0, also.0) in
        none has.1 (subst (λ (ids : List (List ℕ)). CapsAt d ids has.1) (texts_same has.0 agents texts) has.3)

front_rows : (d tree : Data) (kinds agents : List (List ℕ)) (why : CityWhy) (node : ℕ) → Front d tree kinds agents → FirstLack d why node (label_row ∷ Twin ∷ Attribute ∷ Plain ∷ Place ∷ Zone ∷ []) → CityLacks why d node
front_rows d tree kinds agents why node f lacks =
    later_row Shape _ (shape_row d tree f.shape) (later_row Kinds _ (kinds, f.kinds_at) (later_row Agents _ (agents, f.agents_at) (later_row Capacities _ f.caps lacks)))

-- ---- rows of the nodes

each_node : (why : CityWhy) (d tree : Data) (kinds agents : List (List ℕ)) → Front d tree kinds agents → AllByRecursion (AllHas why kinds) (nodes_in tree) → EachNodeHas why d
each_node why d tree kinds agents f all others other at there =
    let texts : items_of (map string kinds) ≡ items_of (map string others) = cc (f.kinds_at.0, at.0) in
    let same : tree ≡ other = cc (f.shape.tree_at, there) in
    subst (λ (ks : List (List ℕ)). AllByRecursion (AllHas why ks) (nodes_in other)) (texts_same kinds others texts) (subst (λ (t : Data). AllByRecursion (AllHas why kinds) (nodes_in t)) same all)

pub told_none : (why : CityWhy) (kinds : List (List ℕ)) (tree : Data) (o : Option Fault) → TellsNode why kinds tree o → o ≡ None → AllByRecursion (AllHas why kinds) (nodes_in tree)
told_none why kinds tree None tells is = tells
told_none why kinds tree (Some fault) tells is = absurd (cc)

abbrev Told : CityWhy → List (List ℕ) → Data → Fault → Type 0
Told why kinds tree fault = (fault.why ≡ why) × ((before : ℕ) × FirstFails (AllHas why kinds) (nodes_in tree) before × (fault.node ≡ told before))

pub told_some : (why : CityWhy) (kinds : List (List ℕ)) (tree : Data) (o : Option Fault) (fault : Fault) → TellsNode why kinds tree o → o ≡ Some fault → Told why kinds tree fault
told_some why kinds tree None fault tells is = absurd (cc)
told_some why kinds tree (Some other) fault tells is = let same : other ≡ fault = cc in subst (Told why kinds tree) same tells

-- what is told of a node
node_told : (why : CityWhy) (d tree : Data) (kinds : List (List ℕ)) (fault : Fault) → Told why kinds tree fault → ((before : ℕ) → FirstFails (AllHas why kinds) (nodes_in tree) before → CityLacks why d before) → IsBadCity d fault.node fault.why
node_told why d tree kinds fault t lacks = subst (IsBadCity d fault.node) (sym t.0) (t.1.0, lacks t.1.0 t.1.1, t.1.2)

fails_node : (why : CityWhy) (d tree : Data) (kinds agents : List (List ℕ)) (before : ℕ) → Front d tree kinds agents → FirstFails (AllHas why kinds) (nodes_in tree) before → FirstNodeFails why d before
fails_node why d tree kinds agents before f fails = (kinds, tree, f.kinds_at, f.shape.tree_at, fails)

pub lacks_label : (d tree : Data) (kinds agents : List (List ℕ)) (fault : Fault) → Front d tree kinds agents → Told label_row kinds tree fault → IsBadCity d fault.node fault.why
lacks_label d tree kinds agents fault f t = node_told label_row d tree kinds fault t (λ before fails. front_rows d tree kinds agents label_row before f (this_row _ (fails_node label_row d tree kinds agents before f fails)))

-- what is known once labels are right, and so on
abbrev pub Labels : Data → List (List ℕ) → Type 0
Labels tree kinds = AllByRecursion (AllHas label_row kinds) (nodes_in tree)

abbrev pub Twins : Data → List (List ℕ) → Type 0
Twins tree kinds = AllByRecursion (AllHas Twin kinds) (nodes_in tree)

abbrev pub Names : Data → List (List ℕ) → Type 0
Names tree kinds = AllByRecursion (AllHas Attribute kinds) (nodes_in tree)

abbrev pub Plains : Data → List (List ℕ) → Type 0
Plains tree kinds = AllByRecursion (AllHas Plain kinds) (nodes_in tree)

pub lacks_twin : (d tree : Data) (kinds agents : List (List ℕ)) (fault : Fault) → Front d tree kinds agents → Labels tree kinds → Told Twin kinds tree fault → IsBadCity d fault.node fault.why
lacks_twin d tree kinds agents fault f labels t =
    node_told Twin d tree kinds fault t (λ before fails. front_rows d tree kinds agents Twin before f (later_row label_row _ (each_node label_row d tree kinds agents f labels) (this_row _ (fails_node Twin d tree kinds agents before f fails))))

pub lacks_attribute : (d tree : Data) (kinds agents : List (List ℕ)) (fault : Fault) → Front d tree kinds agents → Labels tree kinds → Twins tree kinds → Told Attribute kinds tree fault → IsBadCity d fault.node fault.why
lacks_attribute d tree kinds agents fault f labels twins t =
    node_told Attribute d tree kinds fault t (λ before fails. front_rows d tree kinds agents Attribute before f (later_row label_row _ (each_node label_row d tree kinds agents f labels) (later_row Twin _ (each_node Twin d tree kinds agents f twins) (this_row _ (fails_node Attribute d tree kinds agents before f fails)))))

pub lacks_plain : (d tree : Data) (kinds agents : List (List ℕ)) (fault : Fault) → Front d tree kinds agents → Labels tree kinds → Twins tree kinds → Names tree kinds → Told Plain kinds tree fault → IsBadCity d fault.node fault.why
lacks_plain d tree kinds agents fault f labels twins names t =
    node_told Plain d tree kinds fault t (λ before fails. front_rows d tree kinds agents Plain before f (later_row label_row _ (each_node label_row d tree kinds agents f labels) (later_row Twin _ (each_node Twin d tree kinds agents f twins) (later_row Attribute _ (each_node Attribute d tree kinds agents f names) (this_row _ (fails_node Plain d tree kinds agents before f fails))))))

node_rows : (d tree : Data) (kinds agents : List (List ℕ)) (why : CityWhy) → Front d tree kinds agents → Labels tree kinds → Twins tree kinds → Names tree kinds → Plains tree kinds → FirstLack d why 0 (Place ∷ Zone ∷ []) → CityLacks why d 0
node_rows d tree kinds agents why f labels twins names plains lacks =
    front_rows d tree kinds agents why 0 f (later_row label_row _ (each_node label_row d tree kinds agents f labels) (later_row Twin _ (each_node Twin d tree kinds agents f twins) (later_row Attribute _ (each_node Attribute d tree kinds agents f names) (later_row Plain _ (each_node Plain d tree kinds agents f plains) lacks))))

-- ---- places and the zone

pub lacks_place : (d tree : Data) (kinds agents : List (List ℕ)) (top : Node) → Front d tree kinds agents → Labels tree kinds → Twins tree kinds → Names tree kinds → Plains tree kinds → IsNode kinds tree top
    → ((place : List (List Label × List ℕ)) → PlaceAt d place → ArePlaced agents top place → ⊥) → IsBadCity d 0 Place
lacks_place d tree kinds agents top f labels twins names plains is none = (0, node_rows d tree kinds agents Place f labels twins names plains (this_row _ (refl, lacks)), refl)
  where
    lacks : HasPlaces d → ⊥
    lacks (others, also, other, place, kinds_at, agents_at, tree_at, place_at, placed) =
        let kinds_texts : items_of (map string others) ≡ items_of (map string kinds) = cc (kinds_at.0, f.kinds_at.0) in
        let agents_texts : items_of (map string also) ≡ items_of (map string agents) = cc (agents_at.0, f.agents_at.0) in
        let values : tree_at.0 ≡ tree = cc (tree_at.1, f.shape.tree_at) in
        let there : IsNode kinds tree other = subst (λ (ks : List (List ℕ)). IsNode ks tree other) (texts_same others kinds kinds_texts) (subst (λ (v : Data). IsNode others v other) values tree_at.2) in
        none place place_at (subst (λ (ids : List (List ℕ)). ArePlaced ids top place) (texts_same also agents agents_texts) (subst (λ (t : Node). ArePlaced also t place) (node_once kinds tree other top there is) placed))

pub lacks_zone : (d tree : Data) (kinds agents : List (List ℕ)) (top : Node) (place : List (List Label × List ℕ)) → Front d tree kinds agents → Labels tree kinds → Twins tree kinds → Names tree kinds → Plains tree kinds → IsNode kinds tree top
    → PlaceAt d place → ArePlaced agents top place → IsNoCity d → IsBadCity d 0 Zone
lacks_zone d tree kinds agents top place f labels twins names plains is place_at placed none =
    (0, node_rows d tree kinds agents Zone f labels twins names plains (later_row Place _ (kinds, agents, top, place, f.kinds_at, f.agents_at, (tree, f.shape.tree_at, is), place_at, placed) (this_row _ (refl, lacks))), refl)
  where
    lacks : HasRow Zone d → ⊥
    lacks (zone, zone_at, is_zone) =
        let texts : items_of (map string f.caps.0) ≡ items_of (map string agents) = cc (f.caps.2.0, f.agents_at.0) in
        none kinds agents f.caps.1 place top zone f.shape.keys.show.0 (record {
          keys = f.shape.keys.keys;
          kinds_at = f.kinds_at;
          agents_at = f.agents_at;
          caps_at = subst (λ (ids : List (List ℕ)). CapsAt d ids f.caps.1) (texts_same f.caps.0 agents texts) f.caps.3;
          tree_at = (tree, f.shape.tree_at, is);
          place_at = place_at;
          placed = placed;
          zone_at = zone_at;
          is_zone = is_zone;
          show_at = f.shape.keys.show.1;
        })

-- a fault of a row of no node
pub line_told : (d : Data) (fault : Fault) (why : CityWhy) → fault.node ≡ 0 → fault.why ≡ why → IsBadCity d 0 why → IsBadCity d fault.node fault.why
line_told d fault why node is bad = subst (λ (n : ℕ). IsBadCity d n fault.why) (sym node) (subst (IsBadCity d 0) (sym is) bad)

-- a tree that a walk finds a fault in is of no shape
pub no_shape : (d tree : Data) (steps : Steps) → Some tree ≡ get (codes "tree") d → Walks (AllHas Shape []) (nodes_in tree) steps → steps.failed ≡ true → HasRow Shape d → ⊥
no_shape d tree steps at walks failed (keys, (other, there, all)) =
    let w : (before : ℕ) × FirstFails (AllHas Shape []) (nodes_in tree) before × (steps.passed ≡ told before) = subst (λ (c : Bool). MatchBool c ((before : ℕ) × FirstFails (AllHas Shape []) (nodes_in tree) before × (steps.passed ≡ told before)) (AllByRecursion (AllHas Shape []) (nodes_in tree) × (steps.passed ≡ told (length (nodes_in tree))))) failed walks in
    let same : other ≡ tree = cc (at, there) in
    fails_not_all (AllHas Shape []) (nodes_in tree) w.0 w.1 (subst (λ (t : Data). AllByRecursion (AllHas Shape []) (nodes_in t)) same all)

-- a fact of what there is
pub if_some : {X : Type 0} (P : X → Type 0) (o : Option X) (x : X) → IfSome o P → o ≡ Some x → P x
if_some P None x found is = absurd (cc)
if_some P (Some y) x found is = let same : y ≡ x = cc in subst P same found
