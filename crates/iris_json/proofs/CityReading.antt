-- From an object to the bytes that are the text of a city.
use Rattle.std.proofs.Common.{◌≡◌, ℕ, ◌≤◌, true, List, [], ◌∷◌, map, Some, None, Err, length, inl, inr, refl, ap, sym, ◌∙◌, subst}
use Rattle.serde_json.specs.Data.{Data, null, boolean, number, string, array, object}
use Rattle.serde_json.specs.Find.{as_object}
use Rattle.serde_json.specs.View.{items_of}
use Rattle.iris_base.specs.declared.limits.TheConstants.{MAX_LABELS, MAX_NODES}
use Rattle.iris_base.specs.declared.name.Label.{Label}
use Rattle.iris_tree.specs.NodeCode.{size_of}
use Rattle.iris_tree.specs.Universe.{Node}
use Rattle.iris_json.specs.declared.city.City.{City}
use Rattle.iris_json.specs.declared.city.CityError.{CityError}
use Rattle.iris_json.specs.declared.city.CityError.TheVariants.{NotJson, BadCity, CityLimit, Memory}
use Rattle.iris_json.specs.declared.city.FormError.{FormError}
use Rattle.iris_json.specs.declared.city.FormError.TheVariants as forms
use Rattle.iris_json.specs.declared.city.Show.{Show}
use Rattle.iris_json.specs.declared.city.Show.TheVariants.{All, Summary}
use Rattle.iris_json.specs.declared.city_line.Parts.{Parts}
use Rattle.iris_json.specs.declared.out.Which.{Which}
use Rattle.iris_json.specs.Objects.{has_only}
use Rattle.iris_json.specs.Lines.{IsJson}
use mathlib.Core.HLevel.{is_prop→PathP}
use Rattle.std.specs.Coded.{le_prop}
use Rattle.iris_json.specs.CityForm.{AreKinds, AreAgents, AreCapacities, ArePlaced, IsCityNode, AreKinds-prop, AreAgents-prop, AreCapacities-prop, ArePlaced-prop, IsCityNode-prop}
use Rattle.iris_json.specs.CityKeys.{KindsAt, AgentsAt, CapsAt, TreeAt, PlaceAt, ZoneAt, ShowAt, IsNode, cap_data, place_data, show_text}
use Rattle.iris_json.specs.CityLine.{SaysCity, IsCity, ReadsCity, GivesCity, IsShortCityLine, RefusesCity}
use Rattle.iris_json.specs.CityLimits.{passed_limit}
use Rattle.iris_json.specs.CityReads.{HasNone, IsNoCity, LacksRow, FindsNone, AreParts}
use Rattle.iris_json.proofs.CityNodes.{city_passes_none}
use Rattle.iris_json.proofs.KindReading.{texts_same, mapped_same, cap_once}
use Rattle.iris_json.proofs.LineReading.{json_unique}
use Rattle.iris_json.proofs.NodeReading.{node_once}
use Rattle.iris_json.proofs.PlaceReading.{places_same}

-- ---- one city at most

abbrev Once : Data → List (List ℕ) → List (List ℕ) → List ℕ → List (List Label × List ℕ) → Node → List ℕ → Show → List (List ℕ) → List (List ℕ) → List ℕ → List (List Label × List ℕ) → Node → List ℕ → Show → Type 0
Once d ks as_ cs ps t z w ls bs ds qs u y v = (ks ≡ ls) × (as_ ≡ bs) × (cs ≡ ds) × (ps ≡ qs) × (t ≡ u) × (z ≡ y) × (w ≡ v)

caps_same : (d : Data) (agents : List (List ℕ)) (one other : List ℕ) → CapsAt d agents one → CapsAt d agents other → one ≡ other
caps_same d agents one other (inl h, fits) (inl k, fit) = let values : items_of (map cap_data one) ≡ items_of (map cap_data other) = cc (h, k) in mapped_same cap_data cap_once one other values
caps_same d agents one other (inl h, fits) (inr k, fit) = absurd (cc (h, k.0))
caps_same d agents one other (inr h, fits) (inl k, fit) = absurd (cc (h.0, k))
caps_same d agents one other (inr h, fits) (inr k, fit) = h.1 ∙ sym k.1

zone_same : (d : Data) (one other : List ℕ) → ZoneAt d one → ZoneAt d other → one ≡ other
zone_same d one other (inl h) (inl k) = cc (h, k)
zone_same d one other (inl h) (inr k) = absurd (cc (h, k.0))
zone_same d one other (inr h) (inl k) = absurd (cc (h.0, k))
zone_same d one other (inr h) (inr k) = h.1 ∙ sym k.1

words_same : (one other : Show) → show_text one ≡ show_text other → one ≡ other
words_same All All same = refl
words_same All Summary same = absurd (cc)
words_same Summary All same = absurd (cc)
words_same Summary Summary same = refl

show_same : (d : Data) (one other : Show) → ShowAt d one → ShowAt d other → one ≡ other
show_same d one other (inl h) (inl k) = let texts : show_text one ≡ show_text other = cc (h, k) in words_same one other texts
show_same d one other (inl h) (inr k) = absurd (cc (h, k.0))
show_same d one other (inr h) (inl k) = absurd (cc (h.0, k))
show_same d one other (inr h) (inr k) = h.1 ∙ sym k.1

-- a value says one thing of a city at most
pub says_once : (d : Data) (ks as_ : List (List ℕ)) (cs : List ℕ) (ps : List (List Label × List ℕ)) (t : Node) (z : List ℕ) (w : Show) (ls bs : List (List ℕ)) (ds : List ℕ) (qs : List (List Label × List ℕ)) (u : Node) (y : List ℕ) (v : Show)
    → SaysCity d ks as_ cs ps t z w → SaysCity d ls bs ds qs u y v → Once d ks as_ cs ps t z w ls bs ds qs u y v
says_once d ks as_ cs ps t z w ls bs ds qs u y v one two =
    let kinds : ks ≡ ls = texts_same ks ls (cc (one.kinds_at.0, two.kinds_at.0)) in
    let agents : as_ ≡ bs = texts_same as_ bs (cc (one.agents_at.0, two.agents_at.0)) in
    let places : items_of (map place_data ps) ≡ items_of (map place_data qs) = cc (one.place_at.0, two.place_at.0) in
    let values : two.tree_at.0 ≡ one.tree_at.0 = cc (one.tree_at.1, two.tree_at.1) in
    let is : IsNode ks one.tree_at.0 u = subst (λ (k : List (List ℕ)). IsNode k one.tree_at.0 u) (sym kinds) (subst (λ (x : Data). IsNode ls x u) values two.tree_at.2) in (
      kinds,
      agents,
      caps_same d bs cs ds (subst (λ (a : List (List ℕ)). CapsAt d a cs) agents one.caps_at) two.caps_at,
      places_same ps qs one.place_at.1 two.place_at.1 places,
      node_once ks one.tree_at.0 t u one.tree_at.2 is,
      zone_same d z y one.zone_at two.zone_at,
      show_same d w v one.show_at two.show_at,
    )

-- cities with the same parts are the same
pub same_city : (a b : City) → (a.kinds ≡ b.kinds) × (a.agents ≡ b.agents) × (a.caps ≡ b.caps) × (a.place ≡ b.place) × (a.tree ≡ b.tree) × (a.zone ≡ b.zone) × (a.show ≡ b.show) → a ≡ b
same_city a b (kinds, agents, caps, place, tree, zone, show) = λ i. record {
  kinds = kinds i;
  agents = agents i;
  caps = caps i;
  place = place i;
  tree = tree i;
  zone = zone i;
  show = show i;
  kinds_fit = is_prop→PathP (λ j. AreKinds (kinds j)) (λ j. AreKinds-prop (kinds j)) a.kinds_fit b.kinds_fit i;
  agents_fit = is_prop→PathP (λ j. AreAgents (agents j)) (λ j. AreAgents-prop (agents j)) a.agents_fit b.agents_fit i;
  caps_fit = is_prop→PathP (λ j. AreCapacities (length (agents j)) (caps j)) (λ j. AreCapacities-prop (length (agents j)) (caps j)) a.caps_fit b.caps_fit i;
  placed = is_prop→PathP (λ j. ArePlaced (agents j) (tree j) (place j)) (λ j. ArePlaced-prop (agents j) (tree j) (place j)) a.placed b.placed i;
  nodes_fit = is_prop→PathP (λ j. IsCityNode (kinds j) MAX_LABELS (tree j)) (λ j. IsCityNode-prop (kinds j) MAX_LABELS (tree j)) a.nodes_fit b.nodes_fit i;
  few_nodes = is_prop→PathP (λ j. size_of (tree j) ≤ MAX_NODES) (λ j. le_prop) a.few_nodes b.few_nodes i;
}

-- a text is of one city at most
pub city_once : (bytes : List ℕ) (one other : City) → ReadsCity bytes one → ReadsCity bytes other → one ≡ other
city_once bytes one other (short, (d, j, is)) (shorter, (e, k, also)) =
    same_city one other (says_once d one.kinds one.agents one.caps one.place one.tree one.zone one.show other.kinds other.agents other.caps other.place other.tree other.zone other.show is (subst (λ (v : Data). IsCity v other) (json_unique bytes e d k j) also))

-- ---- readers of the parts

pub caps_none : (d : Data) (ids agents : List (List ℕ)) (e : FormError) → ids ≡ agents → AgentsAt d agents → HasNone ((caps : List ℕ) → CapsAt d ids caps → ⊥) e → HasNone (IsNoCity d) e
caps_none d ids agents forms.Shape same at none = λ kinds others caps place tree zone show says.
    let texts : items_of (map string others) ≡ items_of (map string agents) = cc (says.agents_at.0, at.0) in
    none caps (subst (λ (a : List (List ℕ)). CapsAt d a caps) (texts_same others agents texts ∙ sym same) says.caps_at)
caps_none d ids agents forms.Memory same at none = tt

pub tree_none : (d : Data) (ks kinds : List (List ℕ)) (e : FormError) → ks ≡ kinds → KindsAt d kinds → HasNone ((tree : Node) → TreeAt ks d tree → ⊥) e → HasNone (IsNoCity d) e
tree_none d ks kinds forms.Shape same at none = λ others agents caps place tree zone show says.
    let texts : items_of (map string others) ≡ items_of (map string kinds) = cc (says.kinds_at.0, at.0) in
    none tree (subst (λ (k : List (List ℕ)). TreeAt k d tree) (texts_same others kinds texts ∙ sym same) says.tree_at)
tree_none d ks kinds forms.Memory same at none = tt

pub place_none : (d : Data) (ids agents ks kinds : List (List ℕ)) (t tree : Node) (e : FormError) → ids ≡ agents → AgentsAt d agents → ks ≡ kinds → KindsAt d kinds → t ≡ tree → TreeAt ks d tree → HasNone ((place : List (List Label × List ℕ)) → PlaceAt d place → ArePlaced ids t place → ⊥) e → HasNone (IsNoCity d) e
place_none d ids agents ks kinds t tree forms.Shape same at same_kinds kinds_at same_tree tree_at none = λ others also caps place other zone show says.
    let kinds_texts : items_of (map string others) ≡ items_of (map string kinds) = cc (says.kinds_at.0, kinds_at.0) in
    let agents_texts : items_of (map string also) ≡ items_of (map string agents) = cc (says.agents_at.0, at.0) in
    let values : says.tree_at.0 ≡ tree_at.0 = cc (says.tree_at.1, tree_at.1) in
    let there : IsNode ks tree_at.0 other = subst (λ (k : List (List ℕ)). IsNode k tree_at.0 other) (texts_same others kinds kinds_texts ∙ sym same_kinds) (subst (λ (v : Data). IsNode others v other) values says.tree_at.2) in
    let trees : other ≡ t = node_once ks tree_at.0 other tree there tree_at.2 ∙ sym same_tree in
    none place says.place_at (subst (λ (a : List (List ℕ)). ArePlaced a t place) (texts_same also agents agents_texts ∙ sym same) (subst (λ (n : Node). ArePlaced also n place) trees says.placed))
place_none d ids agents ks kinds t tree forms.Memory same at same_kinds kinds_at same_tree tree_at none = tt

-- a value that is no object has no shape
pub no_members : (keys : List (List ℕ)) (d : Data) → None ≡ as_object d → has_only keys d ≡ true → ⊥
no_members keys null h is = absurd (cc)
no_members keys (boolean b) h is = absurd (cc)
no_members keys (number n) h is = absurd (cc)
no_members keys (string s) h is = absurd (cc)
no_members keys (array ds) h is = absurd (cc)
no_members keys (object ms) h is = absurd (cc)

-- ---- the whole line

-- a reader that finds none gives none
pub none_given : (bytes : List ℕ) (d : Data) (e : CityError) → IsJson bytes d → FindsNone d e → (city : City) → ReadsCity bytes city → GivesCity (Err e) city
none_given bytes d NotJson j none city reads = none
none_given bytes d (BadCity node why) j none city (short, (e, k, is)) = let says = subst (λ (v : Data). IsCity v city) (json_unique bytes e d k j) is in none city.kinds city.agents city.caps city.place city.tree city.zone city.show says
none_given bytes d (CityLimit which count) j none city reads = none
none_given bytes d Memory j none city reads = tt

-- what is told of a line that is short
pub row_refused : (bytes : List ℕ) (d : Data) (e : CityError) → IsShortCityLine bytes → IsJson bytes d → LacksRow d e → RefusesCity bytes e
row_refused bytes d NotJson short j lacks = absurd lacks
row_refused bytes d (BadCity node why) short j lacks = (short, (d, j, lacks))
row_refused bytes d (CityLimit which count) short j lacks = absurd lacks
row_refused bytes d Memory short j lacks = short

-- the parts are those of the city
pub parts_of : (bytes : List ℕ) (d : Data) (parts : Parts) (city : City) → IsJson bytes d → AreParts d parts → ReadsCity bytes city
    → Once d parts.kinds parts.agents parts.caps parts.place parts.tree parts.zone parts.show city.kinds city.agents city.caps city.place city.tree city.zone city.show
parts_of bytes d parts city j are (short, (e, k, is)) =
    says_once d parts.kinds parts.agents parts.caps parts.place parts.tree parts.zone parts.show city.kinds city.agents city.caps city.place city.tree city.zone city.show are (subst (λ (v : Data). IsCity v city) (json_unique bytes e d k j) is)

-- a city is past no limit
pub no_limit : (bytes : List ℕ) (d : Data) (parts : Parts) (city : City) (which : Which) (count : ℕ) → IsJson bytes d → AreParts d parts → passed_limit parts.tree ≡ Some (which, count) → ReadsCity bytes city → ⊥
no_limit bytes d parts city which count j are passed reads =
    let same = (parts_of bytes d parts city j are reads).4 in
    let none = ap passed_limit same ∙ city_passes_none city.kinds city.tree city.nodes_fit city.few_nodes in
    absurd (cc (passed, none))
