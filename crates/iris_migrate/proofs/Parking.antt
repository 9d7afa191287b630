-- Messages that are parked, and their keys.
use Rattle.std.proofs.Common.{◌≡◌, ℕ, ◌+◌, ◌<◌, length, take, get_or, Bool, true, false, cond, ◌||◌, if◌then◌else◌, List, [], ◌∷◌, ◌++◌, Option, Some, None, IsSome, refl, sym, ap, ◌∙◌, subst, arith}
use Rattle.std.specs.Prelude.{sum_by, nat_eq}
use Rattle.std.specs.List.{list_any, filter_map, IsDistinct}
use Rattle.std.specs.Cmp.{IsEquivalence}
use Rattle.std.proofs.lemmas.Cmp.{nat_eq_equiv}
use Rattle.std.proofs.lemmas.List.{take_more}
use Rattle.std.proofs.lemmas.List.Elements.{filter_map-append, All-nil, All-push}
use Rattle.std.proofs.lemmas.List.Sums.{sum_by-append}
use Rattle.std.proofs.lemmas.Map.Keys.{IsDistinct-push}
use Rattle.iris_base.specs.declared.name.Label.{Label}
use Rattle.iris_migrate.specs.declared.key.Key.{Key}
use Rattle.iris_migrate.specs.declared.key.Key.TheVariants as key
use Rattle.iris_migrate.specs.declared.message.Message.{Message}
use Rattle.iris_migrate.specs.declared.message.Message.TheVariants.{Query, Ask, Reply, Update, Handover}
use Rattle.iris_migrate.specs.Messages.{node_of, key_of, keys_in, key_eq, is_among, one_of_ask, asks_among}
use Rattle.iris_migrate.specs.Titles.{Seat, AreParked, is_parked, parking, place_of, with_parked}

-- ---- keys

keys_self : (k : Key) → key_eq k k ≡ true
keys_self (key.Request r) = nat_eq_equiv.refl r
keys_self (key.Ask i) = nat_eq_equiv.refl i

keys_flip : (k l : Key) → key_eq k l ≡ key_eq l k
keys_flip (key.Request r) (key.Request s) = nat_eq_equiv.symm r s
keys_flip (key.Request r) (key.Ask i) = refl
keys_flip (key.Ask i) (key.Request r) = refl
keys_flip (key.Ask i) (key.Ask j) = nat_eq_equiv.symm i j

keys_through : (k l m : Key) → key_eq k l ≡ true → key_eq k m ≡ key_eq l m
keys_through (key.Request r) (key.Request s) (key.Request t) h = nat_eq_equiv.congr r s t h
keys_through (key.Request r) (key.Request s) (key.Ask i) h = refl
keys_through (key.Request r) (key.Ask i) m h = absurd (cc)
keys_through (key.Ask i) (key.Request r) m h = absurd (cc)
keys_through (key.Ask i) (key.Ask j) (key.Request r) h = refl
keys_through (key.Ask i) (key.Ask j) (key.Ask k) h = nat_eq_equiv.congr i j k h

pub keys_equiv : IsEquivalence key_eq
keys_equiv = record { refl = keys_self; symm = keys_flip; congr = keys_through }

-- the keys with one message more
pub keys_push : (ms : List Message) (m : Message) (k : Key) → key_of m ≡ Some k → keys_in (ms ++ m ∷ []) ≡ keys_in ms ++ k ∷ []
keys_push ms m k h = filter_map-append key_of ms (m ∷ []) ∙ ap (λ (ks : List Key). keys_in ms ++ ks) (one (key_of m) h)
  where
    one : (o : Option Key) → o ≡ Some k → filter_map (λ (x : Option Key). x) (o ∷ []) ≡ k ∷ []
    one None h = absurd (cc)
    one (Some l) h = let same : l ≡ k = cc in ap (λ (j : Key). j ∷ []) same

-- ---- what is parked for a node

-- nothing is parked as it is to be
pub parked_none : (name : List Label) → AreParked name []
unfolding IsDistinct
parked_none name = record { own = All-nil (λ (x : Message). node_of x ≡ Some name); wanting = All-nil (λ (x : Message). IsSome (key_of x)); once = tt }

-- so is what was, and behind it a message of that node whose key is new
pub parked_more : (name : List Label) (ms : List Message) (m : Message) (k : Key) → AreParked name ms → node_of m ≡ Some name → key_of m ≡ Some k → is_among k ms ≡ false → AreParked name (ms ++ m ∷ [])
parked_more name ms m k h node key fresh = record {
  own = All-push (λ (x : Message). node_of x ≡ Some name) ms m h.own node;
  wanting = All-push (λ (x : Message). IsSome (key_of x)) ms m h.wanting (subst (λ (o : Option Key). IsSome o) (sym key) refl);
  once = subst (λ (ks : List Key). IsDistinct key_eq ks) (sym (keys_push ms m k key)) (IsDistinct-push keys_equiv (keys_in ms) k h.once fresh);
}

-- ---- how often an ask is among messages

pub asks_append : (ask : ℕ) (ms more : List Message) → asks_among ask (ms ++ more) ≡ asks_among ask ms + asks_among ask more
asks_append ask ms more = ap (sum_by (one_of_ask ask)) (filter_map-append key_of ms more) ∙ sum_by-append (one_of_ask ask) (keys_in ms) (keys_in more)

pub asks_one : (ask : ℕ) (m : Message) (k : Key) → key_of m ≡ Some k → asks_among ask (m ∷ []) ≡ one_of_ask ask k
asks_one ask m k key = let only = ap (sum_by (one_of_ask ask)) (keys_push [] m k key) in omega (arith, only)

pub asks_more : (ask : ℕ) (ms : List Message) (m : Message) (k : Key) → key_of m ≡ Some k → asks_among ask (ms ++ m ∷ []) ≡ asks_among ask ms + one_of_ask ask k
asks_more ask ms m k key =
    omega (arith, asks_append ask ms (m ∷ []), asks_one ask m k key)

-- among so many messages and the next
pub asks_step : (ask : ℕ) (ms : List Message) (i : ℕ) (m : Message) → i < length ms → m ≡ get_or ms i m → asks_among ask (take (i + 1) ms) ≡ asks_among ask (take i ms) + asks_among ask (m ∷ [])
asks_step ask ms i m within at =
    ap (asks_among ask) (take_more ms i m within ∙ ap (λ (x : Message). take i ms ++ x ∷ []) (sym at)) ∙ asks_append ask (take i ms) (m ∷ [])

count_cons : (ask : ℕ) (k : Key) (ks : List Key) → sum_by (one_of_ask ask) (k ∷ ks) ≡ one_of_ask ask k + sum_by (one_of_ask ask) ks
count_cons ask k ks = let parts = sum_by-append (one_of_ask ask) (k ∷ []) ks in omega (arith, parts)

-- an ask that is counted is there
pub some_counted : (ask : ℕ) (ks : List Key) → list_any (key_eq (key.Ask ask)) ks ≡ true → 0 < sum_by (one_of_ask ask) ks
some_counted ask [] h = absurd (cc)
some_counted ask (key.Request r ∷ ks) h = some_counted ask ks h
some_counted ask (key.Ask i ∷ ks) h =
    let here : 0 < one_of_ask ask (key.Ask i) + sum_by (one_of_ask ask) ks = by (nat_eq ask i) h (some_counted ask ks) in
    omega (arith, count_cons ask (key.Ask i) ks, here)
  where
    by : (b : Bool) → (b || list_any (key_eq (key.Ask ask)) ks) ≡ true → (list_any (key_eq (key.Ask ask)) ks ≡ true → 0 < sum_by (one_of_ask ask) ks) → 0 < cond b 1 0 + sum_by (one_of_ask ask) ks
    by true h rest = omega arith
    by false h rest = let more = rest h in omega (arith, more)

-- and one that is not there is not counted
pub none_counted : (ask : ℕ) (ks : List Key) → list_any (key_eq (key.Ask ask)) ks ≡ false → sum_by (one_of_ask ask) ks ≡ 0
none_counted ask [] h = refl
none_counted ask (key.Request r ∷ ks) h = none_counted ask ks h
none_counted ask (key.Ask i ∷ ks) h =
    let here : one_of_ask ask (key.Ask i) + sum_by (one_of_ask ask) ks ≡ 0 = by (nat_eq ask i) h (none_counted ask ks) in
    omega (arith, count_cons ask (key.Ask i) ks, here)
  where
    by : (b : Bool) → (b || list_any (key_eq (key.Ask ask)) ks) ≡ false → (list_any (key_eq (key.Ask ask)) ks ≡ false → sum_by (one_of_ask ask) ks ≡ 0) → cond b 1 0 + sum_by (one_of_ask ask) ks ≡ 0
    by true h rest = absurd (cc)
    by false h rest = let more = rest h in omega (arith, more)

-- ---- as the code has it

-- a message with a key has a node
pub node_from_key : (m : Message) (k : Key) → key_of m ≡ Some k → node_of m ≡ Some (place_of m)
node_from_key (Query request query name epoch floor) k h = refl
node_from_key (Ask ask from query start epoch floor) k h = refl
node_from_key (Reply ask pieces) k h = absurd (cc)
node_from_key (Update request name epoch number changes) k h = refl
node_from_key (Handover handover) k h = absurd (cc)

-- the keys that are kept beside the parked messages, when one is parked, where `eq` compares keys
pub keys_parked : (eq : Key → Key → Bool) → ((j k : Key) → eq j k ≡ key_eq j k) → (ms items : List Message) (m : Message) (k : Key) (old new : List Key) → key_of m ≡ Some k → is_among k ms ≡ false → old ≡ keys_in ms
    → new ≡ (if list_any (eq k) old then old else old ++ k ∷ []) → items ≡ ms ++ m ∷ [] → new ≡ keys_in items
keys_parked eq alike ms items m k old new key fresh kept is grown =
    is ∙ ap (λ (ks : List Key). if list_any (eq k) ks then ks else ks ++ k ∷ []) kept
    ∙ ap (λ (p : Key → Bool). if list_any p (keys_in ms) then keys_in ms else keys_in ms ++ k ∷ []) (λ i x. alike k x i)
    ∙ ap (λ (b : Bool). if b then keys_in ms else keys_in ms ++ k ∷ []) fresh
    ∙ sym (keys_push ms m k key) ∙ sym (ap keys_in grown)

-- what parking a message with a new key does
pub parking_new : (seat : Seat) (m : Message) (k : Key) → key_of m ≡ Some k → is_parked seat (Some k) ≡ false → parking seat m ≡ with_parked seat m
parking_new seat m k key fresh =
    ap (λ (o : Option Key). if is_parked seat o then seat else with_parked seat m) key ∙ ap (λ (b : Bool). if b then seat else with_parked seat m) fresh
