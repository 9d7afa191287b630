-- The written line of a city reads as that city.
use Rattle.std.proofs.Common.{◌≡◌, ℕ, zero, suc, ◌+◌, ◌≤◌, Bool, true, false, true≢false, ◌||◌, List, [], ◌∷◌, ◌++◌, length, map, reverse, Option, Some, None, is_some, option_and_then, if◌then◌else◌, codes, max, inl, bytes_eq, refl, ap, sym, ◌∙◌, subst, arith}
use Rattle.std.specs.List.{AllByRecursion, list_any, find}
use Rattle.std.specs.Str.{IsUtf8}
use Rattle.std.proofs.Math.Nat.{max-le}
use Rattle.std.proofs.lemmas.List.{reverse-append}
use Rattle.std.proofs.lemmas.List.Elements.{recursion_from_All}
use Rattle.std.proofs.lemmas.Map.Views.{Contains-from_any}
use Rattle.std.proofs.lemmas.Slice.Eq.{bytes_eq-Decides}
use Rattle.std.proofs.lemmas.Str.{IsUtf8-nil, IsUtf8-append}
use Rattle.serde_json.specs.Read.{max_depth}
use Rattle.json.proofs.Printed.Utf8.{IsUtf8-are_ascii}
use Rattle.serde_json.specs.Data.{string, depth, items_depth, members_depth}
use Rattle.serde_json.specs.View.{items_of}
use Rattle.serde_json.specs.Written.{compact_text}
use Rattle.iris_base.specs.declared.limits.TheConstants.{MAX_KIND_BYTES, MAX_ID_BYTES, MAX_AGENT_BYTES, MAX_LABELS, MAX_PLAIN_DEPTH, MAX_CITY_BYTES, MAX_CAPACITY}
use Rattle.iris_base.specs.declared.letters.TheConstants.{DASH, DOT}
use Rattle.iris_base.specs.declared.letters.Letters.TheVariants.{Lower, LowerOrDigit, Word}
use Rattle.iris_base.specs.declared.name.Label.{Label}
use Rattle.iris_base.specs.Forms.{IsKind, IsAgentId}
use Rattle.iris_base.specs.NameText.{label_text, dotted, name_text, IsLabel, AreLabels, IsName}
use Rattle.iris_base.specs.NameOrder.{label_eq}
use Rattle.iris_base.proofs.Labels.{label_eq-Decides}
use Rattle.iris_base.proofs.NameTexts.{dotted-append}
use Rattle.iris_tree.specs.declared.local.Local.{Local}
use Rattle.iris_tree.specs.LocalText.{attrs_members, plain_data}
use Rattle.iris_tree.specs.NodeCode.{nodes_of-list_of}
use Rattle.iris_tree.specs.Universe.{Node, node, Nodes, no_nodes, nodes, list_of, label_of, child_of, part_at, node_at, IsOrdered, AreOrdered}
use Rattle.iris_tree.specs.PlainOrder.{IsCanonicalPlain}
use Rattle.iris_tree.proofs.Siblings.{already_in_order}
use Rattle.iris_tree.proofs.TextOrder.{already_ordered}
use Rattle.iris_json.specs.declared.city.City.{City}
use Rattle.iris_json.specs.Lines.{IsJson}
use Rattle.iris_json.specs.Render.{node_data, nodes_data}
use Rattle.iris_json.specs.CityForm.{IsCityOwn, IsCityNode, AreCityNodes}
use Rattle.iris_json.specs.declared.city.Show.{Show}
use Rattle.iris_json.specs.declared.city.Show.TheVariants.{All, Summary}
use Rattle.iris_json.specs.Zones.{IsZone}
use Rattle.iris_json.specs.CityKeys.{OwnAt, IsNode, AreNodes, none, more, cap_data, place_data, show_text}
use Rattle.iris_json.specs.CityLine.{IsCity, ReadsCity}
use Rattle.iris_json.specs.CityText.{city_data}
use Rattle.iris_json.proofs.CityNodes.{within_of}
use Rattle.iris_json.proofs.NodeReading.{from_parts}
use Rattle.iris_json.proofs.PlainWriting.{word_texts, attrs_texts, attrs_depth, plains_read, plains_texts, plains_nest}
use Rattle.iris_json.proofs.TextValues.{IsOfTexts, AreOfTexts, text_is_json}

-- ---- a node that is written is read

own_at : (kinds : List (List ℕ)) (label : Label) (local : Local) (below : Nodes) → IsCityOwn kinds label local → OwnAt kinds (node_data (node label local below)) label local
own_at kinds label local below own = (
  refl,
  (refl, refl, Contains-from_any (λ x y. (bytes_eq-Decides x y).0) label.kind kinds own.kind, own.id),
  record {
    attrs_at = (inl refl, own.names);
    plain_at = (items_of (map plain_data local.plain), local.plain, inl refl, plains_read MAX_PLAIN_DEPTH local.plain (within_of local own.fits).depth own.plain (recursion_from_All IsCanonicalPlain local.plain own.canonical.1), sym (already_ordered local.plain own.canonical.0));
    no_id = own.no_id;
    no_kind = own.no_kind;
  },
)

mutual
  node_reads : (kinds : List (List ℕ)) (levels : ℕ) (n : Node) → IsCityNode kinds levels n → IsOrdered n → IsNode kinds (node_data n) n
  node_reads kinds zero n h ordered = absurd h
  node_reads kinds (suc levels) (node label local below) h ordered =
      from_parts kinds (node_data (node label local below)) (node label local below) (nodes_data below) (list_of below)
      (own_at kinds label local below h.0) (inl refl) (nodes_read kinds levels below h.2 ordered) (already_in_order (list_of below) (subst AreOrdered (sym (nodes_of-list_of below)) ordered))

  nodes_read : (kinds : List (List ℕ)) (levels : ℕ) (ns : Nodes) → AreCityNodes kinds levels ns → AreOrdered ns → AreNodes kinds (nodes_data ns) (list_of ns)
  nodes_read kinds levels no_nodes h ordered = none
  nodes_read kinds levels (nodes n ns) h ordered =
      more (node_data n) n (nodes_data ns) (list_of ns) (node_reads kinds levels n h.0 ordered.0) (nodes_read kinds levels ns h.1 ordered.2)

-- ---- what is written is of texts

kind_step : (b : Bool) (kind k : List ℕ) (kinds : List (List ℕ)) → bytes_eq kind k ≡ b → (b || list_any (bytes_eq kind) kinds) ≡ true → IsKind k → (list_any (bytes_eq kind) kinds ≡ true → IsKind kind) → IsKind kind
kind_step true kind k kinds is h first rest = subst IsKind (sym ((bytes_eq-Decides kind k).0 is)) first
kind_step false kind k kinds is h first rest = rest h

-- one of the kinds
is_kind : (kinds : List (List ℕ)) (kind : List ℕ) → AllByRecursion IsKind kinds → list_any (bytes_eq kind) kinds ≡ true → IsKind kind
is_kind [] kind each h = absurd (true≢false (sym h))
is_kind (k ∷ kinds) kind each h = kind_step (bytes_eq kind k) kind k kinds refl h each.0 (is_kind kinds kind each.1)

kinds_texts : (kinds : List (List ℕ)) → AllByRecursion IsKind kinds → AreOfTexts (items_of (map string kinds))
kinds_texts [] each = tt
kinds_texts (k ∷ kinds) each = (word_texts Lower Lower MAX_KIND_BYTES k each.0, kinds_texts kinds each.1)

mutual
  node_texts : (kinds : List (List ℕ)) (levels : ℕ) (n : Node) → AllByRecursion IsKind kinds → IsCityNode kinds levels n → IsOfTexts (node_data n)
  node_texts kinds zero n each h = absurd h
  node_texts kinds (suc levels) (node label local below) each h =
      let kind = word_texts Lower Lower MAX_KIND_BYTES label.kind (is_kind kinds label.kind each h.0.kind) in
      let id = word_texts Word Word MAX_ID_BYTES label.id h.0.id in (
        IsUtf8-are_ascii (codes "attrs") refl,
        attrs_texts local.attrs h.0.names h.0.texts.utf8 h.0.texts.rise,
        (refl, (refl, (refl, (refl, tt)))),
        (
          IsUtf8-are_ascii (codes "id") refl,
          id,
          (refl, (refl, (refl, tt))),
          (
            IsUtf8-are_ascii (codes "kind") refl,
            kind,
            (refl, (refl, tt)),
            (
              IsUtf8-are_ascii (codes "nodes") refl,
              nodes_texts kinds levels below each h.2,
              (refl, tt),
              (IsUtf8-are_ascii (codes "plain") refl, plains_texts MAX_PLAIN_DEPTH local.plain (within_of local h.0.fits).depth h.0.plain, tt, tt),
            ),
          ),
        ),
      )

  nodes_texts : (kinds : List (List ℕ)) (levels : ℕ) (ns : Nodes) → AllByRecursion IsKind kinds → AreCityNodes kinds levels ns → AreOfTexts (nodes_data ns)
  nodes_texts kinds levels no_nodes each h = tt
  nodes_texts kinds levels (nodes n ns) each h = (node_texts kinds levels n each h.0, nodes_texts kinds levels ns each h.1)

-- ---- what is written nests little

texts_depth : (ts : List (List ℕ)) → items_depth (items_of (map string ts)) ≡ 0
texts_depth [] = refl
texts_depth (t ∷ ts) = rw (texts_depth ts) refl

-- plain elements nest twice as deep as their levels
abbrev most_plain : ℕ
most_plain = MAX_PLAIN_DEPTH + MAX_PLAIN_DEPTH

-- an object of attributes, two texts and two arrays
own_depth : (attrs below plain most : ℕ) → attrs ≡ 0 → below ≤ most → plain ≤ most → suc (max (suc attrs) (max 0 (max 0 (max (suc below) (max (suc plain) 0))))) ≤ suc (suc most)
own_depth attrs below plain most no_depth fits also =
    let inner : max (suc attrs) (max 0 (max 0 (max (suc below) (max (suc plain) 0)))) ≤ suc most =
    max-le (omega (arith, no_depth)) (max-le (omega arith) (max-le (omega arith) (max-le (omega (arith, fits)) (max-le (omega (arith, also)) (omega arith))))) in
    omega (arith, inner)

mutual
  node_depth : (kinds : List (List ℕ)) (levels : ℕ) (n : Node) → IsCityNode kinds levels n → depth (node_data n) ≤ levels + levels + most_plain
  node_depth kinds zero n h = absurd h
  node_depth kinds (suc levels) (node label local below) h =
      let most = levels + levels + most_plain in
      let plain : items_depth (items_of (map plain_data local.plain)) ≤ most = omega (arith, plains_nest MAX_PLAIN_DEPTH local.plain (within_of local h.0.fits).depth) in
      omega (arith, own_depth (members_depth (attrs_members local.attrs)) (items_depth (nodes_data below)) (items_depth (items_of (map plain_data local.plain))) most (attrs_depth local.attrs) (nodes_depth kinds levels below h.2) plain)

  nodes_depth : (kinds : List (List ℕ)) (levels : ℕ) (ns : Nodes) → AreCityNodes kinds levels ns → items_depth (nodes_data ns) ≤ levels + levels + most_plain
  nodes_depth kinds levels no_nodes h = omega arith
  nodes_depth kinds levels (nodes n ns) h = max-le (node_depth kinds levels n h.0) (nodes_depth kinds levels ns h.1)

-- ---- names that are placed

own_label : (kinds : List (List ℕ)) (levels : ℕ) (n : Node) → AllByRecursion IsKind kinds → IsCityNode kinds levels n → IsLabel (label_of n)
own_label kinds zero n each h = absurd h
own_label kinds (suc levels) (node label local below) each h = record { kind = is_kind kinds label.kind each h.0.kind; id = h.0.id }

same_label : (a b : Label) → label_eq a b ≡ true → a ≡ b
same_label a b h = (label_eq-Decides a b).0 h

child_there : (kinds : List (List ℕ)) (levels : ℕ) (l : Label) (ns : Nodes) (child : Node) → AreCityNodes kinds levels ns → child_of l (list_of ns) ≡ Some child → IsCityNode kinds levels child × (label_of child ≡ l)
child_there kinds levels l no_nodes child fit at = absurd (cc)
child_there kinds levels l (nodes n ns) child fit at = by (label_eq (label_of n) l) refl at (child_there kinds levels l ns child fit.1)
  where
    by : (b : Bool) → label_eq (label_of n) l ≡ b → (if b then Some n else find (λ m. label_eq (label_of m) l) (list_of ns)) ≡ Some child → (child_of l (list_of ns) ≡ Some child → IsCityNode kinds levels child × (label_of child ≡ l)) → IsCityNode kinds levels child × (label_of child ≡ l)
    by true is found rest = let same : n ≡ child = cc in (subst (IsCityNode kinds levels) same fit.0, ap label_of (sym same) ∙ same_label (label_of n) l is)
    by false is found rest = rest found

part_labels : (kinds : List (List ℕ)) (levels : ℕ) (n : Node) (ls : List Label) → AllByRecursion IsKind kinds → IsCityNode kinds levels n → is_some (part_at n ls) ≡ true → AreLabels ls × (suc (length ls) ≤ levels)
part_labels kinds zero n ls each h there = absurd h
part_labels kinds (suc levels) (node label local below) [] each h there = (tt, omega arith)
part_labels kinds (suc levels) (node label local below) (l ∷ ls) each h there = by (child_of l (list_of below)) refl there (λ child fit. part_labels kinds levels child ls each fit)
  where
    by : (o : Option Node) → child_of l (list_of below) ≡ o → is_some (option_and_then (λ child. part_at child ls) o) ≡ true → ((child : Node) → IsCityNode kinds levels child → is_some (part_at child ls) ≡ true → AreLabels ls × (suc (length ls) ≤ levels)) → AreLabels (l ∷ ls) × (suc (length (l ∷ ls)) ≤ suc levels)
    by None is found rest = absurd (cc)
    by (Some child) is found rest =
        let c = child_there kinds levels l below child h.2 is in
        let later = rest child c.0 found in
        ((subst IsLabel c.1 (own_label kinds levels child each c.0), later.0), omega (arith, later.1))

-- the name of a node is well formed
is_name : (kinds : List (List ℕ)) (levels : ℕ) (tree : Node) (name : List Label) → levels ≤ MAX_LABELS → AllByRecursion IsKind kinds → IsCityNode kinds levels tree → is_some (node_at tree name) ≡ true → IsName name
is_name kinds levels tree [] few each fits there = absurd (cc)
is_name kinds levels tree (l ∷ ls) few each fits there = by (label_eq (label_of tree) l) refl there
  where
    by : (b : Bool) → label_eq (label_of tree) l ≡ b → is_some (if b then part_at tree ls else None) ≡ true → IsName (l ∷ ls)
    by false is found = absurd (cc)
    by true is found =
        let later = part_labels kinds levels tree ls each fits found in
        record { some = omega arith; few = omega (arith, few, later.1); labels = (subst IsLabel (same_label (label_of tree) l is) (own_label kinds levels tree each fits), later.0) }

label_texts : (l : Label) → IsLabel l → IsUtf8 (label_text l)
label_texts l is =
    IsUtf8-append l.kind (DASH ∷ l.id) (word_texts Lower Lower MAX_KIND_BYTES l.kind is.kind)
    (IsUtf8-append (DASH ∷ []) l.id (IsUtf8-are_ascii (DASH ∷ []) refl) (word_texts Word Word MAX_ID_BYTES l.id is.id))

-- of labels from the node up
dotted_texts : (ls : List Label) → AreLabels ls → IsUtf8 (dotted (reverse ls))
dotted_texts [] are = IsUtf8-nil
dotted_texts (l ∷ ls) are =
    let text : IsUtf8 (dotted (reverse ls) ++ dotted (l ∷ [])) =
    IsUtf8-append (dotted (reverse ls)) (dotted (l ∷ [])) (dotted_texts ls are.1) (IsUtf8-append (label_text l) (DOT ∷ []) (label_texts l are.0) (IsUtf8-are_ascii (DOT ∷ []) refl)) in
    subst IsUtf8 (sym (ap dotted (reverse-append (l ∷ []) ls) ∙ dotted-append (reverse ls) (l ∷ []))) text

name_texts : (name : List Label) → IsName name → IsUtf8 (name_text name)
name_texts [] is = IsUtf8-nil
name_texts (top ∷ below) is = IsUtf8-append (dotted (reverse below)) (label_text top) (dotted_texts below is.labels.1) (label_texts top is.labels.0)

agent_is : (agents : List (List ℕ)) (a : List ℕ) → AllByRecursion IsAgentId agents → list_any (bytes_eq a) agents ≡ true → IsAgentId a
agent_is [] a each h = absurd (true≢false (sym h))
agent_is (k ∷ agents) a each h = by (bytes_eq a k) refl h (agent_is agents a each.1)
  where
    by : (b : Bool) → bytes_eq a k ≡ b → (b || list_any (bytes_eq a) agents) ≡ true → (list_any (bytes_eq a) agents ≡ true → IsAgentId a) → IsAgentId a
    by true is h rest = subst IsAgentId (sym ((bytes_eq-Decides a k).0 is)) each.0
    by false is h rest = rest h

names_fit : (kinds : List (List ℕ)) (tree : Node) (place : List (List Label × List ℕ)) → AllByRecursion IsKind kinds → IsCityNode kinds MAX_LABELS tree → AllByRecursion (λ p. is_some (node_at tree p.0) ≡ true) place → AllByRecursion (λ p. IsName p.0) place
names_fit kinds tree [] each fits there = tt
names_fit kinds tree (p ∷ place) each fits there = (is_name kinds MAX_LABELS tree p.0 (omega arith) each fits there.0, names_fit kinds tree place each fits there.1)

-- ---- lists of texts, numbers and pairs

agents_texts : (agents : List (List ℕ)) → AllByRecursion IsAgentId agents → AreOfTexts (items_of (map string agents))
agents_texts [] each = tt
agents_texts (a ∷ agents) each = (word_texts LowerOrDigit LowerOrDigit MAX_AGENT_BYTES a each.0, agents_texts agents each.1)

caps_texts : (caps : List ℕ) → AllByRecursion (λ cap. cap ≤ MAX_CAPACITY) caps → AreOfTexts (items_of (map cap_data caps))
caps_texts [] fits = tt
caps_texts (c ∷ caps) fits = (omega (arith, fits.0), caps_texts caps fits.1)

place_texts : (agents : List (List ℕ)) (place : List (List Label × List ℕ)) → AllByRecursion IsAgentId agents → AllByRecursion (λ p. IsName p.0) place → AllByRecursion (λ p. list_any (bytes_eq p.1) agents ≡ true) place → AreOfTexts (items_of (map place_data place))
place_texts agents [] each named listed = tt
place_texts agents (p ∷ place) each named listed = ((name_texts p.0 named.0, (word_texts LowerOrDigit LowerOrDigit MAX_AGENT_BYTES p.1 (agent_is agents p.1 each listed.0), tt)), place_texts agents place each named.1 listed.1)

show_texts : (show : Show) → IsUtf8 (show_text show)
show_texts All = IsUtf8-are_ascii (codes "all") refl
show_texts Summary = IsUtf8-are_ascii (codes "summary") refl

caps_depth : (caps : List ℕ) → items_depth (items_of (map cap_data caps)) ≡ 0
caps_depth [] = refl
caps_depth (c ∷ caps) = rw (caps_depth caps) refl

place_depth : (place : List (List Label × List ℕ)) → items_depth (items_of (map place_data place)) ≤ 1
place_depth [] = omega arith
place_depth (p ∷ place) = max-le (omega arith) (place_depth place)

-- ---- the line of a city

city_names : (city : City) → AllByRecursion (λ p. IsName p.0) city.place
city_names city = names_fit city.kinds city.tree city.place city.kinds_fit.each city.nodes_fit city.placed.are_nodes

line_is_city : (city : City) → IsOrdered city.tree → IsZone city.zone → IsCity (city_data city) city
line_is_city city ordered is = record {
  keys = refl;
  kinds_at = (refl, city.kinds_fit);
  agents_at = (refl, city.agents_fit);
  caps_at = (inl refl, city.caps_fit);
  tree_at = (node_data city.tree, refl, node_reads city.kinds MAX_LABELS city.tree city.nodes_fit ordered);
  place_at = (refl, city_names city);
  placed = city.placed;
  zone_at = inl refl;
  is_zone = is;
  show_at = inl refl;
}

line_texts : (city : City) → IsUtf8 city.zone → IsOfTexts (city_data city)
line_texts city zone = (
  IsUtf8-are_ascii (codes "agents") refl,
  agents_texts city.agents city.agents_fit.each,
  (refl, (refl, (refl, (refl, (refl, (refl, tt)))))),
  (
    IsUtf8-are_ascii (codes "caps") refl,
    caps_texts city.caps city.caps_fit.fits,
    (refl, (refl, (refl, (refl, (refl, tt))))),
    (
      IsUtf8-are_ascii (codes "kinds") refl,
      kinds_texts city.kinds city.kinds_fit.each,
      (refl, (refl, (refl, (refl, tt)))),
      (
        IsUtf8-are_ascii (codes "place") refl,
        place_texts city.agents city.place city.agents_fit.each (city_names city) city.placed.listed,
        (refl, (refl, (refl, tt))),
        (
          IsUtf8-are_ascii (codes "show") refl,
          show_texts city.show,
          (refl, (refl, tt)),
          (IsUtf8-are_ascii (codes "tree") refl, node_texts city.kinds MAX_LABELS city.tree city.kinds_fit.each city.nodes_fit, (refl, tt), (IsUtf8-are_ascii (codes "zone") refl, zone, tt, tt)),
        ),
      ),
    ),
  ),
)

line_depth : (city : City) → depth (city_data city) ≤ max_depth
line_depth city =
    let below : depth (node_data city.tree) ≤ MAX_LABELS + MAX_LABELS + most_plain = node_depth city.kinds MAX_LABELS city.tree city.nodes_fit in
    let inner : max (suc (items_depth (items_of (map string city.agents)))) (max (suc (items_depth (items_of (map cap_data city.caps)))) (max (suc (items_depth (items_of (map string city.kinds)))) (max (suc (items_depth (items_of (map place_data city.place)))) (max 0 (max (depth (node_data city.tree)) (max 0 0)))))) ≤ MAX_LABELS + MAX_LABELS + most_plain =
    max-le (omega (arith, texts_depth city.agents)) (max-le (omega (arith, caps_depth city.caps)) (max-le (omega (arith, texts_depth city.kinds)) (max-le (omega (arith, place_depth city.place)) (max-le (omega arith) (max-le (omega (arith, below)) (omega arith)))))) in
    omega (arith, inner)

-- the compact text of a city's line is a spelling of it
pub city_reads : (city : City) → IsOrdered city.tree → IsZone city.zone → IsUtf8 city.zone → (line : List ℕ) → line ≡ compact_text (city_data city) → length line ≤ MAX_CITY_BYTES → ReadsCity line city
city_reads city ordered is text line written short =
    let json = text_is_json (city_data city) (line_texts city text) (line_depth city) in
    (short, (city_data city, subst (λ (bytes : List ℕ). IsJson bytes (city_data city)) (sym written) json, line_is_city city ordered is))
