-- What a reader of nodes gives are nodes of a city.
use Rattle.std.proofs.Common.{◌≡◌, ℕ, zero, suc, ◌≤◌, max, Bool, true, false, ◌&&◌, List, [], ◌∷◌, length, None, bytes_eq, refl, sym, subst, arith}
use Rattle.std.specs.Prelude.{nat_le}
use Rattle.std.proofs.lemmas.Bool.{leb-true, le-leb}
use Rattle.std.specs.List.{AllByRecursion, list_any}
use Rattle.std.proofs.lemmas.List.Elements.{All-from_recursion, recursion_from_All}
use Rattle.std.proofs.lemmas.List.Sorted.{All-permutation}
use Rattle.std.specs.Cmp.Lexicographic.{nat_list_eq_equiv}
use Rattle.std.proofs.lemmas.Map.Views.{list_any-from_Contains}
use Rattle.serde_json.specs.Data.{Data, Items}
use Rattle.iris_base.specs.declared.limits.TheConstants.{MAX_LABELS, MAX_NODES, MAX_CHILDREN, MAX_ATTRIBUTES, MAX_PLAIN, MAX_PLAIN_DEPTH, MAX_LOCAL_BYTES}
use Rattle.iris_base.specs.declared.name.Label.{Label}
use Rattle.iris_base.specs.Forms.{IsId}
use Rattle.iris_tree.specs.declared.local.Local.{Local}
use Rattle.iris_tree.specs.Changes.{fits, plains_fit}
use Rattle.iris_tree.specs.LocalText.{local_text}
use Rattle.iris_tree.specs.NamesId.{NamesNoId}
use Rattle.iris_tree.specs.PlainCounts.{plains_count, plains_depth, plains_attributes}
use Rattle.iris_tree.specs.NodeCode.{size_of, nodes_of-list_of}
use Rattle.iris_tree.specs.Siblings.{IsLabelOrder}
use Rattle.iris_tree.specs.Universe.{Node, node, Nodes, no_nodes, nodes, nodes_of, list_of, local_of, children_of}
use Rattle.iris_json.specs.CityForm.{EachOwn, EachOwns, IsLocalForm, EachLocalForm, AllLocalForms, IsCityNode, AreCityNodes}
use Rattle.iris_json.specs.CityLimits.{levels_of, levels_below, greatest_count, greatest_below, count_children, count_attributes, count_plain, count_plain_depth, count_local, passed_limit}
use Rattle.iris_json.specs.PlainForm.{AreNames}
use Rattle.iris_tree.specs.NamesKind.{plains_name_kind}
use Rattle.iris_json.specs.CityKeys.{OwnAt, IsNode, is_node, AreNodes, none, more}
use Rattle.iris_json.proofs.Extents.{within_none, none_within}

-- ---- the form, beside the limits

abbrev HasOwnForm : List (List ℕ) → Label → Local → Type 0
HasOwnForm kinds label local = (list_any (bytes_eq label.kind) kinds ≡ true) × IsId label.id × AreNames local.attrs × NamesNoId local × (plains_name_kind kinds local.plain ≡ false)

abbrev HasForm : List (List ℕ) → Node → Type 0
HasForm kinds = EachOwn (HasOwnForm kinds)

abbrev HaveForm : List (List ℕ) → Nodes → Type 0
HaveForm kinds = EachOwns (HasOwnForm kinds)

each_owns : (Such : Label → Local → Type 0) (ns : List Node) → EachOwns Such (nodes_of ns) → AllByRecursion (EachOwn Such) ns
each_owns Such [] all = tt
each_owns Such (n ∷ ns) all = (all.0, each_owns Such ns all.1)

from_each : (Such : Label → Local → Type 0) (ns : List Node) → AllByRecursion (EachOwn Such) ns → EachOwns Such (nodes_of ns)
from_each Such [] all = tt
from_each Such (n ∷ ns) all = (all.0, from_each Such ns all.1)

-- what each of some nodes is, each is in another order
each_in_order : (Such : Label → Local → Type 0) (given ordered : List Node) → IsLabelOrder given ordered → EachOwns Such (nodes_of given) → EachOwns Such (nodes_of ordered)
each_in_order Such given ordered order all =
    from_each Such ordered (recursion_from_All (EachOwn Such) ordered
    (All-permutation (EachOwn Such) given ordered order.same (All-from_recursion (EachOwn Such) given (each_owns Such given all))))

own_form : (kinds : List (List ℕ)) (d : Data) (label : Label) (local : Local) → OwnAt kinds d label local → HasOwnForm kinds label local
own_form kinds d label local own = (list_any-from_Contains nat_list_eq_equiv label.kind kinds own.1.2, own.1.3, own.2.attrs_at.1, own.2.no_id, own.2.no_kind)

-- a value that is a node has the form of one
mutual
  node_form : (kinds : List (List ℕ)) (d : Data) (n : Node) → IsNode kinds d n → HasForm kinds n
  node_form kinds d n (is_node same label local items given ordered own at are order) =
      (own_form kinds d label local own, each_in_order (HasOwnForm kinds) given ordered order (nodes_form kinds items given are))

  nodes_form : (kinds : List (List ℕ)) (items : Items) (ns : List Node) → AreNodes kinds items ns → HaveForm kinds (nodes_of ns)
  nodes_form kinds items ns none = tt
  nodes_form kinds items ns (more d n rest ms one all) = (node_form kinds d n one, nodes_form kinds rest ms all)

-- ---- the attributes, as the loop over the children reads them

-- all children are read, and the node itself before them
pub form_found : (tree : Node) (local : Local) (given : List Node) → local_of tree ≡ local → IsLocalForm local → IsLabelOrder given (children_of tree) → AllLocalForms (nodes_of given) → EachLocalForm tree
form_found (node called held below) local given same own order all =
    (subst IsLocalForm (sym same) own, subst AllLocalForms (nodes_of-list_of below) (each_in_order (λ label local. IsLocalForm local) given (list_of below) order all))

-- ---- the limits of local information

-- it passes none
pub record IsLocalWithin (l : Local) : Type 0 where
  pub attrs : length l.attrs ≤ MAX_ATTRIBUTES
  pub inner : plains_attributes l.plain ≤ MAX_ATTRIBUTES
  pub count : plains_count l.plain ≤ MAX_PLAIN
  pub depth : plains_depth l.plain ≤ MAX_PLAIN_DEPTH
  pub short : length (local_text l) ≤ MAX_LOCAL_BYTES

and_true : (a b : Bool) → (a && b) ≡ true → (a ≡ true) × (b ≡ true)
and_true true b h = (refl, h)
and_true false b h = absurd (cc)

-- from the test
pub within_of : (l : Local) → fits l ≡ true → IsLocalWithin l
within_of l h =
    let all = and_true (nat_le (length l.attrs) MAX_ATTRIBUTES && plains_fit l.plain) (nat_le (length (local_text l)) MAX_LOCAL_BYTES) h in
    let first = and_true (nat_le (length l.attrs) MAX_ATTRIBUTES) (plains_fit l.plain) all.0 in
    let plain = and_true (nat_le (plains_attributes l.plain) MAX_ATTRIBUTES && nat_le (plains_count l.plain) MAX_PLAIN) (nat_le (plains_depth l.plain) MAX_PLAIN_DEPTH) first.1 in
    let counts = and_true (nat_le (plains_attributes l.plain) MAX_ATTRIBUTES) (nat_le (plains_count l.plain) MAX_PLAIN) plain.0 in
    record {
      attrs = leb-true (length l.attrs) MAX_ATTRIBUTES first.0;
      inner = leb-true (plains_attributes l.plain) MAX_ATTRIBUTES counts.0;
      count = leb-true (plains_count l.plain) MAX_PLAIN counts.1;
      depth = leb-true (plains_depth l.plain) MAX_PLAIN_DEPTH plain.1;
      short = leb-true (length (local_text l)) MAX_LOCAL_BYTES all.1;
    }

-- and back
fits_of : (l : Local) → IsLocalWithin l → fits l ≡ true
fits_of l w =
    rw (
      le-leb (length l.attrs) MAX_ATTRIBUTES w.attrs,
      le-leb (plains_attributes l.plain) MAX_ATTRIBUTES w.inner,
      le-leb (plains_count l.plain) MAX_PLAIN w.count,
      le-leb (plains_depth l.plain) MAX_PLAIN_DEPTH w.depth,
      le-leb (length (local_text l)) MAX_LOCAL_BYTES w.short,
    )
    refl

-- ---- the form within the limits

-- the counts of some nodes pass no limit
abbrev CountsFit : ℕ → ℕ → ℕ → ℕ → ℕ → Type 0
CountsFit children attributes plain depth local = (children ≤ MAX_CHILDREN) × (attributes ≤ MAX_ATTRIBUTES) × (plain ≤ MAX_PLAIN) × (depth ≤ MAX_PLAIN_DEPTH) × (local ≤ MAX_LOCAL_BYTES)

abbrev NodeFits : Node → Type 0
NodeFits n = CountsFit (greatest_count count_children n) (greatest_count count_attributes n) (greatest_count count_plain n) (greatest_count count_plain_depth n) (greatest_count count_local n)

abbrev NodesFit : Nodes → Type 0
NodesFit ns = CountsFit (greatest_below count_children ns) (greatest_below count_attributes ns) (greatest_below count_plain ns) (greatest_below count_plain_depth ns) (greatest_below count_local ns)

left_fits : (a b c d e f g h i j : ℕ) → CountsFit (max a f) (max b g) (max c h) (max d i) (max e j) → CountsFit a b c d e
left_fits a b c d e f g h i j w = (omega (arith, w.0), omega (arith, w.1), omega (arith, w.2), omega (arith, w.3), omega (arith, w.4))

right_fits : (a b c d e f g h i j : ℕ) → CountsFit (max a f) (max b g) (max c h) (max d i) (max e j) → CountsFit f g h i j
right_fits a b c d e f g h i j w = (omega (arith, w.0), omega (arith, w.1), omega (arith, w.2), omega (arith, w.3), omega (arith, w.4))

both_fit : (a b c d e f g h i j : ℕ) → CountsFit a b c d e → CountsFit f g h i j → CountsFit (max a f) (max b g) (max c h) (max d i) (max e j)
both_fit a b c d e f g h i j v w = (omega (arith, v.0, w.0), omega (arith, v.1, w.1), omega (arith, v.2, w.2), omega (arith, v.3, w.3), omega (arith, v.4, w.4))

-- a node's own counts
own_within : (n : Node) (local : Local) → local_of n ≡ local → CountsFit (count_children n) (count_attributes n) (count_plain n) (count_plain_depth n) (count_local n) → IsLocalWithin local
own_within (node label held below) local same w =
    subst IsLocalWithin same (record { attrs = omega (arith, w.1); inner = omega (arith, w.1); count = w.2; depth = w.3; short = w.4 })

within_own : (n : Node) → length (children_of n) ≤ MAX_CHILDREN → IsLocalWithin (local_of n) → CountsFit (count_children n) (count_attributes n) (count_plain n) (count_plain_depth n) (count_local n)
within_own n few w = (few, omega (arith, w.attrs, w.inner), w.count, w.depth, w.short)

mutual
  form_fits : (kinds : List (List ℕ)) (levels : ℕ) (n : Node) → HasForm kinds n → EachLocalForm n → levels_of n ≤ levels → NodeFits n → IsCityNode kinds levels n
  form_fits kinds zero (node label local below) form held deep w = absurd (omega (arith, deep))
  form_fits kinds (suc levels) (node label local below) form held deep w =
      let n = node label local below in
      let own = left_fits (count_children n) (count_attributes n) (count_plain n) (count_plain_depth n) (count_local n) _ _ _ _ _ w in
      let rest = right_fits (count_children n) (count_attributes n) (count_plain n) (count_plain_depth n) (count_local n) _ _ _ _ _ w in (
        record {
          kind = form.0.0;
          id = form.0.1;
          names = form.0.2;
          texts = held.0.attrs;
          plain = held.0.plain;
          no_id = form.0.3;
          no_kind = form.0.4;
          canonical = held.0.canonical;
          fits = fits_of local (own_within n local refl own);
        },
        own.0,
        forms_fit kinds levels below form.1 held.1 (omega (arith, deep)) rest,
      )

  forms_fit : (kinds : List (List ℕ)) (levels : ℕ) (ns : Nodes) → HaveForm kinds ns → AllLocalForms ns → levels_below ns ≤ levels → NodesFit ns → AreCityNodes kinds levels ns
  forms_fit kinds levels no_nodes form held deep w = tt
  forms_fit kinds levels (nodes n ns) form held deep w = (
    form_fits kinds levels n form.0 held.0 (omega (arith, deep)) (left_fits _ _ _ _ _ _ _ _ _ _ w),
    forms_fit kinds levels ns form.1 held.1 (omega (arith, deep)) (right_fits _ _ _ _ _ _ _ _ _ _ w),
  )

-- a tree that is read and passes no limit has the nodes of a city
pub tree_fits : (kinds : List (List ℕ)) (value : Data) (tree : Node) → IsNode kinds value tree → EachLocalForm tree → passed_limit tree ≡ None → IsCityNode kinds MAX_LABELS tree
tree_fits kinds value tree is held within =
    let w = within_none tree within in
    form_fits kinds MAX_LABELS tree (node_form kinds value tree is) held w.labels (w.children, w.attributes, w.plain, w.plain_depth, w.local)

-- ---- and back

mutual
  bounded : (kinds : List (List ℕ)) (levels : ℕ) (n : Node) → IsCityNode kinds levels n → (levels_of n ≤ levels) × NodeFits n
  bounded kinds zero n fits = absurd fits
  bounded kinds (suc levels) (node label local below) fits =
      let b = all_bounded kinds levels below fits.2 in
      let own = within_own (node label local below) fits.1 (within_of local fits.0.fits) in
      (omega (arith, b.0), both_fit _ _ _ _ _ _ _ _ _ _ own b.1)

  all_bounded : (kinds : List (List ℕ)) (levels : ℕ) (ns : Nodes) → AreCityNodes kinds levels ns → (levels_below ns ≤ levels) × NodesFit ns
  all_bounded kinds levels no_nodes fit = (omega arith, (omega arith, omega arith, omega arith, omega arith, omega arith))
  all_bounded kinds levels (nodes n ns) fit =
      let one = bounded kinds levels n fit.0 in
      let all = all_bounded kinds levels ns fit.1 in
      (omega (arith, one.0, all.0), both_fit _ _ _ _ _ _ _ _ _ _ one.1 all.1)

-- a city passes no limit
pub city_passes_none : (kinds : List (List ℕ)) (tree : Node) → IsCityNode kinds MAX_LABELS tree → size_of tree ≤ MAX_NODES → passed_limit tree ≡ None
city_passes_none kinds tree fits few =
    let b = bounded kinds MAX_LABELS tree fits in
    let w : NodeFits tree = b.1 in
    none_within tree (record { nodes = few; labels = b.0; children = w.0; attributes = w.1; plain = w.2; plain_depth = w.3; local = w.4 })
