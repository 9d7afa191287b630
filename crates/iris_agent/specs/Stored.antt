-- How proofs store what an agent has.
use Rattle.std.specs.Prelude.{ℕ, List, refl}
use Rattle.std.specs.Coded.{Coded, code_by, coded×, coded_ℕ, coded_list}
use Rattle.iris_base.specs.declared.name.Label.{Label}
use Rattle.iris_fragment.specs.Contents.{Contents}
use Rattle.iris_cache.specs.Order.{Order}
use Rattle.iris_cache.specs.Recency.{Cache}
use Rattle.iris_migrate.specs.Titles.{Seats}
use Rattle.iris_gather.specs.declared.entries.OpenGather.{OpenGather}
use Rattle.iris_gather.specs.OpenGathers.{OpenGathers}
use Rattle.iris_agent.specs.Tables.{Holdings}

abbrev pub cache_code : Coded Label → Coded Contents → Coded Cache
cache_code label contents =
    code_by (ℕ × (Contents × Order)) (coded× coded_ℕ (coded× contents (coded_list (coded_list label)))) (λ c. (c.capacity, (c.contents, c.order))) (λ p. record { capacity = p.0; contents = p.1.0; order = p.1.1 }) (λ _. refl)

abbrev pub holdings_code : Coded Label → Coded Cache → Coded Seats → Coded OpenGather → Coded Holdings
holdings_code label cache seats gather =
    code_by ((List ℕ × List (List ℕ)) × ((Label × Cache) × (Seats × (OpenGathers × List ℕ))))
    (coded× (coded× (coded_list coded_ℕ) (coded_list (coded_list coded_ℕ))) (coded× (coded× label cache) (coded× seats (coded× (coded_list (coded× coded_ℕ gather)) (coded_list coded_ℕ)))))
    (λ h. ((h.id, h.kinds), ((h.top, h.cache), (h.titles, (h.gathers, h.asked)))))
    (λ p. record { id = p.0.0; kinds = p.0.1; top = p.1.0.0; cache = p.1.0.1; titles = p.1.1.0; gathers = p.1.1.1.0; asked = p.1.1.1.1 })
    (λ _. refl)
