-- How an order lies in the code, with a name among its own that is ready to be put in front.
use Rattle.std.specs.Prelude.{◌≡◌, ◌-◌, ◌^◌, Bool, true, false, List, Option, Some, None, refl}
use Rattle.std.specs.Coded.{Coded, coded×, coded_list, coded_option, code_by}
use Rattle.std.specs.Cmp.Lexicographic.{pointwise}
use Rattle.std.specs.List.{IsDistinct}
use Rattle.std.specs.Map.{keys_of}
use Rattle.lru.specs.LruCache.{LruCache}
use Rattle.iris_base.specs.declared.name.Label.{Label}
use Rattle.iris_base.specs.NameOrder.{label_eq}
use Rattle.iris_cache.specs.Order.{Order, lists, without_any}

-- an order, and the name that is ready, if there is one
pub record Recent : Type 0 where
  pub order : Order
  pub ready : Option (List Label)

-- whether that is the ready name
abbrev pub is_ready : Option (List Label) → List Label → Bool
is_ready None name = false
is_ready (Some ready) name = pointwise label_eq ready name

-- the order of entries, without the ready name
abbrev pub order_among : List (List Label × Unit {0}) → Option (List Label) → Order
order_among entries ready = without_any (keys_of entries) ready

-- each name is there once, the ready one is among them, and there may be more entries than memory holds
pub record IsOrderly (names : LruCache (List Label) (Unit {0})) (ready : Option (List Label)) : Type 0 where
  pub once : IsDistinct (pointwise label_eq) (keys_of names.entries)
  pub among : (name : List Label) → ready ≡ Some name → lists (keys_of names.entries) name ≡ true
  pub room : names.cap ≡ 2 ^ 64 - 1

-- how proofs store an order with a ready name
abbrev pub recent_code : Coded Label → Coded Recent
recent_code label =
    code_by (Order × Option (List Label)) (coded× (coded_list (coded_list label)) (coded_option (coded_list label))) (λ r. (r.order, r.ready)) (λ p. record { order = p.0; ready = p.1 }) (λ _. refl)
