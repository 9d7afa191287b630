-- How a cache lies in the code, and how proofs store it.
use Rattle.std.specs.Prelude.{ℕ, List, Option, refl}
use Rattle.std.specs.Coded.{Coded, coded×, coded_list, coded_option, coded_ℕ, code_by}
use Rattle.iris_base.specs.declared.name.Label.{Label}
use Rattle.iris_fragment.specs.Contents.{Contents}
use Rattle.iris_cache.specs.Order.{Order}
use Rattle.iris_cache.specs.Ready.{Recent, recent_code}
use Rattle.iris_cache.specs.Recency.{Cache, Prepared}

-- a fragment with the order of its copies
pub record Ordered : Type 0 where
  pub contents : Contents
  pub recent : Recent

-- the cache that a fragment with an order is, for so many copies
abbrev pub cache_of : ℕ → Ordered → Cache
cache_of capacity o = record { capacity = capacity; contents = o.contents; order = o.recent.order }

-- how proofs store a fragment with an order
abbrev pub ordered_code : Coded Label → Coded Contents → Coded Ordered
ordered_code label contents = code_by (Contents × Recent) (coded× contents (recent_code label)) (λ o. (o.contents, o.recent)) (λ p. record { contents = p.0; recent = p.1 }) (λ _. refl)

-- how proofs store a cache
abbrev pub prepared_code : Coded Label → Coded Contents → Coded Prepared
prepared_code label contents =
    code_by ((ℕ × Contents) × (Order × Option (List Label))) (coded× (coded× coded_ℕ contents) (coded× (coded_list (coded_list label)) (coded_option (coded_list label))))
    (λ r. ((r.cache.capacity, r.cache.contents), (r.cache.order, r.ready)))
    (λ p. record { cache = record { capacity = p.0.0; contents = p.0.1; order = p.1.0 }; ready = p.1.1 })
    (λ _. refl)
