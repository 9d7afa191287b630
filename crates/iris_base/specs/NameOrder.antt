-- The order of labels and of names, and its laws.
use Rattle.std.specs.Prelude.{◌≡◌, Bool, true, Some, nat_eq, refl, List, ◌++◌}
use Rattle.std.proofs.Common.{rules}
use Rattle.std.specs.Ordering.{nat_cmp, on, then_cmp, eq_of_both, eq_by_cmp}
use Rattle.std.specs.declared.cmp.Ordering.{Ordering}
use Rattle.std.specs.Cmp.{IsTotalOrder, IsEquivalence, IsPartialEquivalence, IsPartialOrder, partial_equiv_from_equiv, partial_order_from_agreeing_total}
use Rattle.std.specs.Cmp.Rules.{comparing, hashing}
use Rattle.std.specs.Hash as fed
use Rattle.std.specs.Cmp.Lexicographic.{pointwise, slice_cmp, lists_equiv, lists_total, lists_ties}
use Rattle.iris_base.specs.declared.name.Label.{Label}

-- equal kinds and equal ids
abbrev pub label_eq : Label → Label → Bool
label_eq = eq_of_both (on (λ l. l.kind) (pointwise nat_eq)) (on (λ l. l.id) (pointwise nat_eq))

-- by the bytes of the kind and then of the id
abbrev pub label_cmp : Label → Label → Ordering
label_cmp = then_cmp (on (λ l. l.kind) (slice_cmp nat_cmp)) (on (λ l. l.id) (slice_cmp nat_cmp))

pub labels_equiv : IsEquivalence label_eq
labels_equiv = search (comparing, rules)

pub labels_total : IsTotalOrder label_cmp
labels_total = search (comparing, rules)

pub labels_ties : (x y : Label) → label_eq x y ≡ eq_by_cmp label_cmp x y
labels_ties = search (comparing, rules)

pub names_equiv : IsEquivalence (pointwise label_eq)
names_equiv = lists_equiv labels_equiv

pub names_per : IsPartialEquivalence (pointwise label_eq)
names_per = partial_equiv_from_equiv names_equiv

pub names_total : IsTotalOrder (slice_cmp label_cmp)
names_total = lists_total labels_total

pub names_ties : (xs ys : List Label) → pointwise label_eq xs ys ≡ eq_by_cmp (slice_cmp label_cmp) xs ys
names_ties = lists_ties label_cmp labels_ties

pub names_po : IsPartialOrder (pointwise label_eq) (λ x y. Some (slice_cmp label_cmp x y))
names_po = partial_order_from_agreeing_total (slice_cmp label_cmp) names_total (λ x y. refl) names_ties

-- what a hasher is fed of a label
abbrev pub label_fed : Label → fed.HashWrites
label_fed l = fed.str l.kind ++ fed.str l.id

pub labels_alike : fed.Alike label_eq label_fed
labels_alike = record { fed = search (hashing, rules) }

pub names_alike : (ms ns : List Label) → pointwise label_eq ms ns ≡ true → fed.slice label_fed ms ≡ fed.slice label_fed ns
names_alike = (fed.items_Alike labels_alike).fed
