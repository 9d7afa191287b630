-- Attributes that are not named `id`: a change brings none in that is.
use Rattle.std.proofs.Common.{◌≡◌, ℕ, Bool, true, false, cond, ◌||◌, List, [], ◌∷◌, map, Some, refl, sym, ◌∙◌, ap, subst, is_some, codes}
use Rattle.std.specs.List.{filter, AllByRecursion}
use Rattle.std.specs.Map.{keys_of, lookup}
use Rattle.std.specs.BTreeMap.{is_at}
use Rattle.std.specs.Cmp.Lexicographic.{slice_cmp}
use Rattle.std.specs.Ordering.{nat_cmp}
use Rattle.std.specs.Str.{bytes_eq}
use Rattle.std.proofs.lemmas.List.Elements.{All-from_recursion, recursion_from_All}
use Rattle.std.proofs.lemmas.Map.Text.{is_eq-slice_cmp}
use Rattle.std.proofs.lemmas.Map.Views.{All-keys-insert_entry, All-map-remove_entry}
use Rattle.std.proofs.lemmas.Slice.Eq.{bytes_eq-Decides}
use Rattle.iris_base.specs.Attribute.{is_id}
use Rattle.iris_tree.specs.declared.plain.Plain.{Plain}
use Rattle.iris_tree.specs.declared.plain.Plain.TheViews.{out-Plain}
use Rattle.iris_tree.specs.declared.plain.Plain.TheFolds.{fold-roll-Plain, ind-Plain}
use Rattle.iris_tree.specs.Attrs.{Pairs, with_attr, without_attr}
use Rattle.iris_tree.specs.Changes.{with_plain, has_other_tag}
use Rattle.iris_tree.specs.NamesId.{has_id, names_id_step, names_id, plains_name_id, NamesNoId}
use Rattle.iris_tree.specs.PlainOrder.{in_text_order, canonical_step, canonical_plain}
use Rattle.iris_tree.proofs.Canonical.{all_filtered}
use Rattle.iris_tree.proofs.Changed.{IsKept}
use Rattle.iris_tree.proofs.TextOrder.{all_ordered}

neither : (a b : Bool) → a || b ≡ false → (a ≡ false) × (b ≡ false)
neither false b h = (refl, h)
neither true b h = absurd (cc)

-- ---- attributes

abbrev finds_id : List ℕ → Bool
finds_id = is_at (slice_cmp nat_cmp (codes "id"))

abbrev IsOther : List ℕ → Type 0
IsOther name = finds_id name ≡ false

other_name : (name : List ℕ) → is_id name ≡ false → IsOther name
other_name name other = by (bytes_eq (codes "id") name) refl
  where
    by : (b : Bool) → bytes_eq (codes "id") name ≡ b → IsOther name
    by false h = is_eq-slice_cmp (codes "id") name ∙ h
    by true h =
        let same : codes "id" ≡ name = (bytes_eq-Decides (codes "id") name).0 h in
        let back : is_id name ≡ true = (bytes_eq-Decides name (codes "id")).1 (sym same) in
        absurd (cc)

others_from : (pairs : Pairs) → has_id pairs ≡ false → AllByRecursion IsOther (keys_of pairs)
others_from [] h = tt
others_from (pair ∷ pairs) h = by (finds_id pair.0) refl h (others_from pairs)
  where
    by : (b : Bool) → finds_id pair.0 ≡ b → is_some (cond b (Some pair.1) (lookup finds_id pairs)) ≡ false
        → (has_id pairs ≡ false → AllByRecursion IsOther (keys_of pairs)) → AllByRecursion IsOther (keys_of (pair ∷ pairs))
    by false other none rest = (other, rest none)
    by true found none rest = absurd (cc)

others_to : (pairs : Pairs) → AllByRecursion IsOther (keys_of pairs) → has_id pairs ≡ false
others_to [] each = refl
others_to (pair ∷ pairs) each = rw each.0 (others_to pairs each.1)

id_not_added : (pairs : Pairs) (name value : List ℕ) → is_id name ≡ false → has_id pairs ≡ false → has_id (with_attr pairs name value) ≡ false
id_not_added pairs name value other none =
    let each = All-from_recursion IsOther (keys_of pairs) (others_from pairs none) in
    others_to (with_attr pairs name value) (recursion_from_All IsOther _ (All-keys-insert_entry (slice_cmp nat_cmp) name value IsOther pairs each (other_name name other)))

id_not_left : (pairs : Pairs) (name : List ℕ) → has_id pairs ≡ false → has_id (without_attr pairs name) ≡ false
id_not_left pairs name none =
    let each = All-from_recursion IsOther (keys_of pairs) (others_from pairs none) in
    others_to (without_attr pairs name) (recursion_from_All IsOther _ (All-map-remove_entry (is_at (slice_cmp nat_cmp name)) (λ pair. pair.0) IsOther pairs each))

-- ---- plain elements

abbrev HasNone : Plain → Type 0
HasNone p = names_id p ≡ false

none_from : (ps : List Plain) → plains_name_id ps ≡ false → AllByRecursion HasNone ps
none_from [] h = tt
none_from (p ∷ ps) h = let both = neither (names_id p) (plains_name_id ps) h in (both.0, none_from ps both.1)

none_to : (ps : List Plain) → AllByRecursion HasNone ps → plains_name_id ps ≡ false
none_to [] each = refl
none_to (p ∷ ps) each = rw each.0 (none_to ps each.1)

abbrev IsKeptBelow : Plain → Type 0
IsKeptBelow p = names_id p ≡ false → names_id (canonical_plain p) ≡ false

each_kept : (es : List ((p : Plain) × IsKeptBelow p)) → AllByRecursion HasNone (map (λ e. e.0) es) → AllByRecursion HasNone (map canonical_plain (map (λ e. e.0) es))
each_kept [] each = tt
each_kept (e ∷ es) each = (e.1 each.0, each_kept es each.1)

-- y is x with a proof beside each kid
canonical_has_none : (p : Plain) → IsKeptBelow p
canonical_has_none = ind-Plain IsKeptBelow (λ x y is none.
    let both = neither (has_id x.attrs) (plains_name_id x.kids) (sym (fold-roll-Plain Bool names_id_step x) ∙ none) in
    let kids = subst (λ z. AllByRecursion HasNone z.kids → AllByRecursion HasNone (map canonical_plain z.kids)) is (each_kept y.kids) (none_from x.kids both.1) in
    let ordered = none_to (in_text_order (map canonical_plain x.kids)) (all_ordered HasNone (map canonical_plain x.kids) kids) in
    ap names_id (fold-roll-Plain Plain canonical_step x) ∙ fold-roll-Plain Bool names_id_step _ ∙ rw (both.0, ordered) refl)

id_not_put : (ps : List Plain) (p : Plain) → names_id p ≡ false → plains_name_id ps ≡ false → plains_name_id (with_plain ps p) ≡ false
id_not_put ps p here none =
    let others = filter (has_other_tag (out-Plain p).tag) ps in
    let each : AllByRecursion HasNone (canonical_plain p ∷ others) = (canonical_has_none p here, all_filtered HasNone (has_other_tag (out-Plain p).tag) ps (none_from ps none)) in
    none_to (with_plain ps p) (all_ordered HasNone (canonical_plain p ∷ others) each)

-- ---- changes

-- changes bring in no attribute named `id`
pub no_ids_kept : IsKept NamesNoId
no_ids_kept = record {
  attr = λ l name value other none. let both = neither (has_id l.attrs) (plains_name_id l.plain) none in rw (id_not_added l.attrs name value other both.0) both.1;
  drop = λ l name none. let both = neither (has_id l.attrs) (plains_name_id l.plain) none in rw (id_not_left l.attrs name both.0) both.1;
  put = λ l p here none. let both = neither (has_id l.attrs) (plains_name_id l.plain) none in rw both.0 (id_not_put l.plain p here both.1);
}
