-- The document of cites names no attribute `id`, so nodes alone have ids in it.
use Rattle.std.proofs.Common.{◌≡◌, ℕ, zero, suc, Bool, true, false, ◌||◌, if◌then◌else◌, List, [], ◌∷◌, Option, Some, None, is_some, option_map, option_and_then, Result, Ok, Err, refl, sym, ◌∙◌, ap, subst, codes}
use Rattle.std.specs.List.{slice_get}
use Rattle.std.specs.Option.{option_map_or}
use Rattle.std.specs.Result.{result_ok}
use Rattle.iris_base.specs.NameOrder.{label_eq, labels_equiv}
use Rattle.iris_base.specs.declared.cite.Cite.{Cite}
use Rattle.iris_base.specs.declared.name.Label.{Label}
use Rattle.iris_tree.proofs.Changed.{changes_keep}
use Rattle.iris_tree.proofs.NoIds.{no_ids_kept}
use Rattle.iris_tree.specs.Attrs.{value_of}
use Rattle.iris_tree.specs.Changes.{apply_changes}
use Rattle.iris_tree.specs.Document.{Place, position, label, local_at, below_plain, below_node}
use Rattle.iris_tree.specs.NamesId.{has_id, names_id_step, names_id, plains_name_id, NamesNoId, NamesNoIdAnywhere}
use Rattle.iris_tree.specs.Universe.{Node, label_of, local_of, children_of, child_of, part_at}
use Rattle.iris_tree.specs.declared.local.Local.{Local}
use Rattle.iris_tree.specs.declared.plain.Plain.TheFolds.{fold_out-Plain}
use Rattle.iris_tree.specs.declared.plain.Plain.TheViews.{out-Plain}
use Rattle.iris_tree.specs.declared.plain.Plain.{Plain}
use Rattle.iris_need.specs.Documents.{HasNoPlainId, HasIdsAtNodesAlone}
use Rattle.iris_book.specs.Book.{History, Updates, changed_by, first_of, updates_of, updates_in, value_after, value_at}
use Rattle.iris_book.specs.declared.update.NodeUpdate.{NodeUpdate}
use Rattle.iris_copies.specs.Cited.{version_by, document_of_cites}
use Rattle.iris_copies.proofs.Locals.{local_then}

neither : (a b : Bool) → a || b ≡ false → (a ≡ false) × (b ≡ false)
neither false b h = (refl, h)
neither true b h = absurd (cc)

-- ---- plain elements

one_of : (ps : List Plain) (i : ℕ) (p : Plain) → plains_name_id ps ≡ false → slice_get ps i ≡ Some p → names_id p ≡ false
one_of [] i p none found = absurd (cc)
one_of (q ∷ ps) zero p none found =
    let same : q ≡ p = cc in
    subst (λ (x : Plain). names_id x ≡ false) same (neither (names_id q) (plains_name_id ps) none).0
one_of (q ∷ ps) (suc i) p none found = one_of ps i p (neither (names_id q) (plains_name_id ps) none).1 found

own_and_kids : (p : Plain) → names_id p ≡ false → (has_id (out-Plain p).attrs ≡ false) × (plains_name_id (out-Plain p).kids ≡ false)
own_and_kids p none = neither (has_id (out-Plain p).attrs) (plains_name_id (out-Plain p).kids) (sym (fold_out-Plain Bool names_id_step p) ∙ none)

no_value : (o : Option (List ℕ)) → is_some o ≡ false → o ≡ None
no_value None none = refl
no_value (Some v) none = absurd (cc)

no_id_in : (place : Place) (p : Plain) → names_id p ≡ false → HasNoPlainId (below_plain p place)
no_id_in [] p none = no_value (value_of (out-Plain p).attrs (codes "id")) (own_and_kids p none).0
no_id_in (label l ∷ place) p none = tt
no_id_in (position i ∷ place) p none = by (slice_get (out-Plain p).kids i) refl (λ kid. no_id_in place kid)
  where
    by : (o : Option Plain) → slice_get (out-Plain p).kids i ≡ o → ((kid : Plain) → names_id kid ≡ false → HasNoPlainId (below_plain kid place)) → HasNoPlainId (option_and_then (λ kid. below_plain kid place) o)
    by None found rest = tt
    by (Some kid) found rest = rest kid (one_of (out-Plain p).kids i kid (own_and_kids p none).1 found)

-- ---- nodes

-- no node at or below that one names an attribute `id`
abbrev NamesNoneBelow : Node → Type 0
NamesNoneBelow n = (ls : List Label) (l : Local) → option_map local_of (part_at n ls) ≡ Some l → NamesNoId l

no_id_below : (place : Place) (n : Node) → NamesNoneBelow n → HasNoPlainId (below_node n place)
no_id_below [] n none = tt
no_id_below (position i ∷ place) n none = by (slice_get (local_of n).plain i) refl
  where
    by : (o : Option Plain) → slice_get (local_of n).plain i ≡ o → HasNoPlainId (option_and_then (λ p. below_plain p place) o)
    by None found = tt
    by (Some p) found = no_id_in place p (one_of (local_of n).plain i p (neither (has_id (local_of n).attrs) (plains_name_id (local_of n).plain) (none [] (local_of n) refl)).1 found)
no_id_below (label l ∷ place) n none = by (child_of l (children_of n)) refl (λ child. no_id_below place child)
  where
    by : (o : Option Node) → child_of l (children_of n) ≡ o → ((child : Node) → NamesNoneBelow child → HasNoPlainId (below_node child place)) → HasNoPlainId (option_and_then (λ child. below_node child place) o)
    by None found rest = tt
    by (Some child) found rest = rest child (λ ls local at. none (l ∷ ls) local (ap (λ (o : Option Node). option_map local_of (option_and_then (λ c. part_at c ls) o)) found ∙ at))

-- a document that names no attribute `id` has ids at nodes alone
pub ids_at_nodes : (document : Node) → NamesNoIdAnywhere document → HasIdsAtNodesAlone document
ids_at_nodes document none [] = tt
ids_at_nodes document none (position i ∷ place) = tt
ids_at_nodes document none (label l ∷ place) = by (label_eq (label_of document) l)
  where
    below : NamesNoneBelow document
    below ls local at = none (label_of document ∷ ls) local (ap (λ (b : Bool). option_map local_of (if b then part_at document ls else None)) (labels_equiv.refl (label_of document)) ∙ at)

    by : (b : Bool) → HasNoPlainId (if b then below_node document place else None)
    by true = no_id_below place document below
    by false = tt

-- ---- values of a book

changed_none : (us : List NodeUpdate) (l changed : Local) → changed_by l us ≡ Some changed → NamesNoId l → NamesNoId changed
changed_none [] l changed done none = let same : l ≡ changed = cc in subst NamesNoId same none
changed_none (u ∷ us) l changed done none = by (apply_changes l u.changes) refl done (λ next. changed_none us next changed)
  where
    by : (r : Result Local ℕ) → apply_changes l u.changes ≡ r → option_and_then (λ (next : Local). changed_by next us) (result_ok r) ≡ Some changed → ((next : Local) → changed_by next us ≡ Some changed → NamesNoId next → NamesNoId changed) → NamesNoId changed
    by (Err at) made h rest = absurd (cc)
    by (Ok next) made h rest = rest next h (changes_keep NamesNoId no_ids_kept l u.changes next made none)

value_none : (start : Node) (us : Updates) (name : List Label) (version : ℕ) (local : Local) → NamesNoIdAnywhere start → value_after start us name version ≡ Some local → NamesNoId local
value_none start us name version local none there = by (local_at start name) refl (first_of version (updates_of us name)) there
  where
    by : (o : Option Local) → local_at start name ≡ o → (made : Option (List NodeUpdate)) → option_and_then (λ (l : Local). option_and_then (changed_by l) made) o ≡ Some local → NamesNoId local
    by None at made h = absurd (cc)
    by (Some old) at None h = absurd (cc)
    by (Some old) at (Some made) h = changed_none made old local h (none name old at)

-- the document of cites names none, where the start names none
pub cited_no_ids : (h : History) (cites : List Cite) → NamesNoIdAnywhere h.start → NamesNoIdAnywhere (document_of_cites h cites)
cited_no_ids h cites none name l there = by (local_at h.start name) refl (sym (local_then h.start _ name) ∙ there)
  where
    value : (o : Option Local) → value_at h name (version_by h cites name) ≡ o → (old : Local) → NamesNoId old → Some (option_map_or (λ (local : Local). local) o old) ≡ Some l → NamesNoId l
    value None is old was h = let same : old ≡ l = cc in subst NamesNoId same was
    value (Some local) is old was e =
        let same : local ≡ l = cc in
        subst NamesNoId same (value_none h.start (updates_in h.entries) name (version_by h cites name) local none is)

    by : (o : Option Local) → local_at h.start name ≡ o → option_map (λ (old : Local). option_map_or (λ (local : Local). local) (value_at h name (version_by h cites name)) old) o ≡ Some l → NamesNoId l
    by None at e = absurd (cc)
    by (Some old) at e = value (value_at h name (version_by h cites name)) refl old (none name old at) e
