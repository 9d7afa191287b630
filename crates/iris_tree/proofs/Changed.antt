-- What changes keep of local information.
use Rattle.std.proofs.Common.{◌≡◌, ℕ, ◌+◌, Bool, true, false, if◌then◌else◌, List, [], ◌∷◌, Option, Some, None, Ok, Err, refl, subst, is_some}
use Rattle.std.specs.Option.{option_map_or}
use Rattle.iris_base.specs.Attribute.{is_id}
use Rattle.iris_tree.specs.declared.local.Local.{Local}
use Rattle.iris_tree.specs.declared.plain.Plain.{Plain}
use Rattle.iris_tree.specs.declared.change.Change.{Change}
use Rattle.iris_tree.specs.declared.change.Change.TheVariants.{Attr, Drop, Put}
use Rattle.iris_tree.specs.Attrs.{value_of, with_attr, without_attr}
use Rattle.iris_tree.specs.Changes.{fits, within_limits, with_plain, apply_change, apply_from}
use Rattle.iris_tree.specs.NamesId.{names_id}

-- a fact that each kind of change keeps, of names that are not `id`
pub record IsKept (P : Local → Type 0) : Type 0 where
  pub attr : (l : Local) (name value : List ℕ) → is_id name ≡ false → P l → P (record { attrs = with_attr l.attrs name value; plain = l.plain })
  pub drop : (l : Local) (name : List ℕ) → P l → P (record { attrs = without_attr l.attrs name; plain = l.plain })
  pub put : (l : Local) (p : Plain) → names_id p ≡ false → P l → P (record { attrs = l.attrs; plain = with_plain l.plain p })

within_same : (l changed : Local) → within_limits l ≡ Some changed → l ≡ changed
within_same l changed done = by (fits l) done
  where
    by : (b : Bool) → (if b then Some l else None) ≡ Some changed → l ≡ changed
    by false h = absurd (cc)
    by true h = cc

module _ (P : Local → Type 0) (kept : IsKept P) where
  made_kept : (made changed : Local) → within_limits made ≡ Some changed → P made → P changed
  made_kept made changed done holds = subst P (within_same made changed done) holds

  one_kept : (l : Local) (c : Change) (changed : Local) → apply_change l c ≡ Some changed → P l → P changed
  one_kept l (Attr name value) changed done holds = by (is_id name) refl done
    where
      by : (bad : Bool) → is_id name ≡ bad → (if bad then None else within_limits (record { attrs = with_attr l.attrs name value; plain = l.plain })) ≡ Some changed → P changed
      by true is h = absurd (cc)
      by false is h = made_kept _ changed h (kept.attr l name value is holds)
  one_kept l (Drop name) changed done holds = by (is_id name) (is_some (value_of l.attrs name)) done
    where
      by : (bad there : Bool) → (if bad then None else (if there then within_limits (record { attrs = without_attr l.attrs name; plain = l.plain }) else None)) ≡ Some changed → P changed
      by true there h = absurd (cc)
      by false false h = absurd (cc)
      by false true h = made_kept _ changed h (kept.drop l name holds)
  one_kept l (Put p) changed done holds = by (names_id p) refl done
    where
      by : (bad : Bool) → names_id p ≡ bad → (if bad then None else within_limits (record { attrs = l.attrs; plain = with_plain l.plain p })) ≡ Some changed → P changed
      by true is h = absurd (cc)
      by false is h = made_kept _ changed h (kept.put l p is holds)

  all_kept : (cs : List Change) (at : ℕ) (l changed : Local) → apply_from at l cs ≡ Ok changed → P l → P changed
  all_kept [] at l changed done holds = let same : l ≡ changed = cc in subst P same holds
  all_kept (c ∷ cs) at l changed done holds = by (apply_change l c) refl done (λ next. all_kept cs (at + 1) next changed)
    where
      by : (o : Option Local) → apply_change l c ≡ o → option_map_or (λ next. apply_from (at + 1) next cs) o (Err at) ≡ Ok changed
          → ((next : Local) → apply_from (at + 1) next cs ≡ Ok changed → P next → P changed) → P changed
      by None made h rest = absurd (cc)
      by (Some next) made h rest = rest next h (one_kept l c next made holds)

  -- what each change keeps, changes keep
  pub changes_keep : (l : Local) (cs : List Change) (changed : Local) → apply_from 0 l cs ≡ Ok changed → P l → P changed
  changes_keep l cs changed = all_kept cs 0 l changed
