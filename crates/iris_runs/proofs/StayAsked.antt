-- What an agent knows of its asks, as its tables change.
use Rattle.std.proofs.Common.{◌≡◌, ℕ, ◌≤◌, Bool, true, false, if◌then◌else◌, nat_eq, List, Option, Some, None, refl, sym, ap, ◌∙◌, subst, arith}
use Rattle.std.specs.Prelude.{option_map}
use Rattle.std.proofs.lemmas.Bool.{eqb-true}
use Rattle.std.specs.Cmp.Lexicographic.{pointwise}
use Rattle.iris_base.specs.declared.name.Label.{Label}
use Rattle.iris_base.specs.NameOrder.{label_eq}
use Rattle.iris_route.proofs.TitleMaps.{name_exact}
use Rattle.iris_cache.specs.Recency.{Cache}
use Rattle.iris_migrate.specs.declared.key.Key.TheVariants as keys
use Rattle.iris_migrate.specs.Titles.{Seat, is_parked}
use Rattle.iris_gather.specs.declared.entries.OpenGather.{OpenGather}
use Rattle.iris_gather.specs.OpenGathers.{serves_ask, with_lent}
use Rattle.iris_agent.specs.Tables.{Tables, at_number, at_name, with_cache, with_seat, with_gather}
use Rattle.iris_runs.specs.Good.{KnowsItsAsks}

-- of what is held it says nothing
pub asks_cached : (t : Tables) (cache : Cache) → KnowsItsAsks t → KnowsItsAsks (with_cache t cache)
asks_cached t cache knows = record { opened = knows.opened; parked = knows.parked; apart = knows.apart }

-- what is not so is false
pub not_true : (b : Bool) → (b ≡ true → ⊥) → b ≡ false
not_true true h = absurd (h refl)
not_true false h = refl

-- with other gathers, where each serves no ask that the one of its number did not serve
pub asks_served : (t : Tables) (gather : ℕ → Option OpenGather) → ((ask number : ℕ) → serves_ask ask (gather number) ≡ true → serves_ask ask (t.gather number) ≡ true) → KnowsItsAsks t → KnowsItsAsks (record t { gather = gather })
asks_served t gather serves knows = record {
  opened = λ number ask h. knows.opened number ask (serves ask number h);
  parked = knows.parked;
  apart = λ name ask number h. not_true (serves_ask ask (gather number)) (λ is. let one = serves ask number is in let none = knows.apart name ask number h in cc);
}

-- with another gather of that number
pub asks_gathered : (t : Tables) (number : ℕ) (one : Option OpenGather) → ((ask : ℕ) → serves_ask ask one ≡ true → serves_ask ask (t.gather number) ≡ true) → KnowsItsAsks t → KnowsItsAsks (with_gather t number one)
asks_gathered t number one serves knows = asks_served t (at_number t.gather number one) (λ ask other. by ask other (nat_eq other number) refl) knows
  where
    by : (ask other : ℕ) (b : Bool) → nat_eq other number ≡ b → serves_ask ask (if b then one else t.gather other) ≡ true → serves_ask ask (t.gather other) ≡ true
    by ask other true same h = ap (λ (n : ℕ). serves_ask ask (t.gather n)) (eqb-true other number same) ∙ serves ask h
    by ask other false apart h = h

-- as a gather is lent or is not any more
pub asks_lent : (t : Tables) (number : ℕ) (lent : Bool) → KnowsItsAsks t → KnowsItsAsks (with_gather t number (option_map (with_lent lent) (t.gather number)))
asks_lent t number lent knows = asks_gathered t number (option_map (with_lent lent) (t.gather number)) (λ ask. by ask (t.gather number)) knows
  where
    by : (ask : ℕ) (o : Option OpenGather) → serves_ask ask (option_map (with_lent lent) o) ≡ true → serves_ask ask o ≡ true
    by ask None h = h
    by ask (Some one) h = h

-- as asks are forgotten that no gather and nothing parked names
pub asks_forgotten : (t : Tables) (stays : ℕ → Bool)
    → ((ask number : ℕ) → serves_ask ask (t.gather number) ≡ true → stays ask ≡ true)
    → ((name : List Label) (ask : ℕ) → is_parked (t.seat name) (Some (keys.Ask ask)) ≡ true → stays ask ≡ true)
    → KnowsItsAsks t
    → KnowsItsAsks (record t { asked = λ number. if stays number then t.asked number else false })
asks_forgotten t stays serves parks knows = record {
  opened = λ number ask h. ap (λ (b : Bool). if b then t.asked ask else false) (serves ask number h) ∙ knows.opened number ask h;
  parked = λ name ask h. ap (λ (b : Bool). if b then t.asked ask else false) (parks name ask h) ∙ knows.parked name ask h;
  apart = knows.apart;
}

-- with another seat of a node, where nothing more is parked
pub asks_seated : (t : Tables) (name : List Label) (seat : Seat) → ((ask : ℕ) → is_parked seat (Some (keys.Ask ask)) ≡ true → is_parked (t.seat name) (Some (keys.Ask ask)) ≡ true) → KnowsItsAsks t → KnowsItsAsks (with_seat t name seat)
asks_seated t name seat less knows = record {
  opened = knows.opened;
  parked = λ other ask h. knows.parked other ask (before other ask h);
  apart = λ other ask number h. knows.apart other ask number (before other ask h);
}
  where
    before : (other : List Label) (ask : ℕ) → is_parked (at_name t.seat name seat other) (Some (keys.Ask ask)) ≡ true → is_parked (t.seat other) (Some (keys.Ask ask)) ≡ true
    before other ask = go (pointwise label_eq other name) refl
      where
        go : (b : Bool) → pointwise label_eq other name ≡ b → is_parked (if b then seat else t.seat other) (Some (keys.Ask ask)) ≡ true → is_parked (t.seat other) (Some (keys.Ask ask)) ≡ true
        go true same h = ap (λ (n : List Label). is_parked (t.seat n) (Some (keys.Ask ask))) (name_exact other name same) ∙ less ask h
        go false apart h = h

-- the epoch of the last handover that was taken falls at no node
pub taken_seated : (t : Tables) (name : List Label) (seat : Seat) → (t.seat name).taken ≤ seat.taken → (other : List Label) → (t.seat other).taken ≤ ((with_seat t name seat).seat other).taken
taken_seated t name seat le other = go (pointwise label_eq other name) refl
  where
    go : (b : Bool) → pointwise label_eq other name ≡ b → (t.seat other).taken ≤ (if b then seat else t.seat other).taken
    go true same = subst (λ (n : List Label). (t.seat n).taken ≤ seat.taken) (sym (name_exact other name same)) le
    go false apart = omega arith
