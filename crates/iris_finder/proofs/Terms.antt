-- What attributes say of a tariff, as a value and part by part.
use Rattle.std.proofs.Common.{◌≡◌, ◌<◌, Bool, true, false, if◌then◌else◌, Option, Some, None, refl, subst}
use Rattle.std.specs.Prelude.{nat_lt}
use Rattle.std.proofs.lemmas.Bool.{ltb-true, lt-ltb}
use Rattle.iris_tree.specs.Attrs.{Pairs}
use Rattle.iris_finder.specs.Tariff.{Terms, Say, given, charging, terms_of, rate_of, unit_of, free_of, cap_of, most_of, from_of, to_of, charged_days_of}

given_some : {A B : Type 0} (o : Option A) (f : A → Option B) (b : B) → given o f ≡ Some b → (a : A) × (o ≡ Some a) × (f a ≡ Some b)
given_some None f b h = absurd (cc)
given_some (Some a) f b h = (a, refl, h)

charging_some : (s t : Terms) → charging s ≡ Some t → (s ≡ t) × (s.from < s.to)
charging_some s t h = by (nat_lt s.from s.to) refl h
  where
    by : (b : Bool) → nat_lt s.from s.to ≡ b → (if b then Some s else None) ≡ Some t → (s ≡ t) × (s.from < s.to)
    by true less e = (cc, ltb-true s.from s.to less)
    by false less e = absurd (cc)

-- what they say is what each of them tells
pub said_by_parts : (attrs : Pairs) (t : Terms) → terms_of attrs ≡ Some t → Say attrs t
said_by_parts attrs t h =
    let rate = given_some (rate_of attrs) _ t h in
    let unit = given_some (unit_of attrs) _ t rate.2 in
    let free = given_some (free_of attrs) _ t unit.2 in
    let cap = given_some (cap_of attrs) _ t free.2 in
    let most = given_some (most_of attrs) _ t cap.2 in
    let from = given_some (from_of attrs) _ t most.2 in
    let to = given_some (to_of attrs) _ t from.2 in
    let days = given_some (charged_days_of attrs) _ t to.2 in
    let s : Terms = record { rate = rate.0; unit = unit.0; free = free.0; cap = cap.0; most = most.0; from = from.0; to = to.0; days = days.0 } in
    let same = charging_some s t days.2 in
    let is : Say attrs s = record { rate = rate.1; unit = unit.1; free = free.1; cap = cap.1; most = most.1; from = from.1; to = to.1; days = days.1; charged = same.1 } in
    let P : Terms → Type 0 = Say attrs in subst P same.0 is

-- what each of them tells is what they say
pub said_together : (attrs : Pairs) (t : Terms) → Say attrs t → terms_of attrs ≡ Some t
said_together attrs t s = rw (s.rate, s.unit, s.free, s.cap, s.most, s.from, s.to, s.days, lt-ltb t.from t.to s.charged) refl
