-- The rank of offers.
use Rattle.std.proofs.Common.{◌≡◌, ℕ, ◌<◌, false, List, refl, ap, ◌∙◌, rules}
use Rattle.std.specs.declared.cmp.Ordering.{Ordering}
use Rattle.std.specs.declared.cmp.Ordering.TheVariants.{Less, Equal, Greater}
use Rattle.std.specs.Ordering.{nat_cmp, is_lt, is_eq, ordering_then, ordering_reverse, MatchOrdering}
use Rattle.std.specs.FinMap.{slice_cmp-IsAntisymmetric}
use Rattle.std.specs.Cmp.{IsTotalOrder, IsStrictWeakOrder, ranks}
use Rattle.std.specs.Cmp.Rules.{comparing}
use Rattle.std.specs.Cmp.Lexicographic.{slice_cmp}
use Rattle.std.specs.List.Sorted.{IsPermutation, IsSorted}
use Rattle.std.proofs.lemmas.List.MinMax.{ranks_by}
use Rattle.iris_base.specs.declared.name.Label.{Label}
use Rattle.iris_base.specs.NameOrder.{label_cmp, labels_ties, names_total}
use Rattle.iris_base.proofs.Labels.{label_eq-Decides}
use Rattle.iris_json.specs.declared.find.Offer.{Offer}
use Rattle.iris_finder.specs.Offers.{offer_cmp, is_before, ranked, AreRanked}
use Rattle.iris_finder.proofs.Order.{order_rises, order_same, order_once}

-- it is a total order
pub offers_total : IsTotalOrder offer_cmp
offers_total = search (comparing, names_total, rules)

-- and so the test of a sort is one
pub before_weak : IsStrictWeakOrder is_before
before_weak = ranks_by offers_total (λ (o : Offer). o)

name_exact : (m n : List Label) → slice_cmp label_cmp m n ≡ Equal → m ≡ n
name_exact = slice_cmp-IsAntisymmetric (λ x y e. (label_eq-Decides x y).0 (labels_ties x y ∙ ap is_eq e))

price_exact : (m n : ℕ) (o : Ordering) → o ≡ Equal → MatchOrdering o (m < n) (m ≡ n) (n < m) → m ≡ n
price_exact m n Less h k = absurd (cc)
price_exact m n Equal h k = k
price_exact m n Greater h k = absurd (cc)

both_equal : (r s : Ordering) → ordering_then r s ≡ Equal → (r ≡ Equal) × (s ≡ Equal)
both_equal Less s h = absurd (cc)
both_equal Equal s h = (refl, h)
both_equal Greater s h = absurd (cc)

neither : (r s : Ordering) → r ≡ ordering_reverse s → is_lt r ≡ false → is_lt s ≡ false → r ≡ Equal
neither Equal s h p q = refl
neither Less s h p q = absurd (cc)
neither Greater Less h p q = absurd (cc)
neither Greater Equal h p q = absurd (cc)
neither Greater Greater h p q = absurd (cc)

-- offers that tie are equal
pub offers_exact : (a b : Offer) → is_before a b ≡ false → is_before b a ≡ false → a ≡ b
offers_exact a b p q =
    let tie : offer_cmp a b ≡ Equal = neither (offer_cmp a b) (offer_cmp b a) (offers_total.antisymm a b) p q in
    let two = both_equal (nat_cmp a.price b.price) (slice_cmp label_cmp a.name b.name) tie in
    let prices : a.price ≡ b.price = price_exact a.price b.price (nat_cmp a.price b.price) two.0 (ranks a.price b.price) in
    let names : a.name ≡ b.name = name_exact a.name b.name two.1 in
    λ i. record { name = names i; price = prices i }

-- ranked offers are the same offers, in order
pub ranked_is : (offers : List Offer) → AreRanked offers (ranked offers)
ranked_is offers = record { same = order_same is_before before_weak offers; rise = order_rises is_before before_weak offers }

-- and there is no other order of them
pub ranked_once : (offers ordered : List Offer) → IsPermutation offers ordered → IsSorted offer_cmp ordered → ordered ≡ ranked offers
ranked_once offers ordered same rise = order_once is_before before_weak offers_exact offers ordered same rise
