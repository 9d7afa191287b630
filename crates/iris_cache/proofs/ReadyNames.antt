-- An order among whose names a ready one lies.
use Rattle.std.proofs.Common.{◌≡◌, ℕ, suc, ◌-◌, ◌^◌, ◌<◌, ◌≤◌, Bool, true, false, not, ◌&&◌, ◌||◌, if◌then◌else◌, List, ◌∷◌, ◌++◌, length, take, Option, Some, None, is_some, option_map, refl, sym, ap, subst, ◌∙◌, arith}
use Rattle.std.specs.Prelude.{option_to_list}
use Rattle.std.specs.Option.{option_map_or}
use Rattle.std.specs.List.{IsDistinct}
use Rattle.std.specs.Map.{keys_of, lookup, lookup_entry, remove_entry}
use Rattle.std.proofs.lemmas.Map.Entries.{length-keys_of}
use Rattle.std.proofs.lemmas.List.{take_all}
use Rattle.lru.specs.LruCache.{LruCache, lru_cache, promoted, put_entries, last_entry}
use Rattle.iris_base.specs.declared.name.Label.{Label}
use Rattle.iris_base.specs.NameOrder.{names_equiv}
use Rattle.iris_fragment.proofs.Names.{alike_self, alike_exact}
use Rattle.iris_cache.specs.Order.{Order, lists, without, without_any, in_front, last_of}
use Rattle.iris_cache.specs.Ready.{Recent, is_ready, order_among, IsOrderly}
use Rattle.iris_cache.proofs.Orders.{alike, without_absent, lists_without, without_swapped, without_twice, absent_without, distinct_without, length_without, lists_in_front, distinct_in_front, in_front_absent, front_is_without_last}
use Rattle.iris_cache.proofs.Entries.{Entries, keys_removed, keys_promoted, entry_found, value_found, last_name, front_names}

-- the entries of the code
abbrev pub Names : Type 0
Names = LruCache (List Label) (Unit {0})

-- what contracts see of them
abbrev pub seen : Names → Option (List Label) → Recent
seen names ready = record { order = order_among names.entries ready; ready = ready }

-- an order with a ready name, if there is one
abbrev pub recent : Order → Option (List Label) → Recent
recent order ready = record { order = order; ready = ready }

-- ---- the ready name

-- it is not in the order
pub ready_absent : (es : Entries) (ready : Option (List Label)) (n : List Label) → is_ready ready n ≡ true → lists (order_among es ready) n ≡ false
ready_absent es None n h = absurd (cc)
ready_absent es (Some r) n h = subst (λ (m : List Label). lists (without (keys_of es) r) m ≡ false) (alike_exact r n h) (absent_without (keys_of es) r)

not_also : (b l : Bool) → b ≡ false → (not b && l) ≡ l
not_also b l h = rw h refl

-- any other name is in the order where it is among the entries
pub listed_among : (es : Entries) (ready : Option (List Label)) (n : List Label) → is_ready ready n ≡ false → lists (order_among es ready) n ≡ lists (keys_of es) n
listed_among es None n h = refl
listed_among es (Some r) n h = lists_without (keys_of es) r n ∙ not_also (alike r n) (lists (keys_of es) n) h

-- ---- a name that is used

in_front_among : (ks : Order) (ready : Option (List Label)) (n : List Label) → is_ready ready n ≡ false → without_any (in_front ks n) ready ≡ in_front (without_any ks ready) n
in_front_among ks None n h = refl
in_front_among ks (Some r) n h = rw h (ap (λ (l : Order). n ∷ l) (without_swapped ks n r))

used : (es : Entries) (ready : Option (List Label)) (n : List Label) → is_ready ready n ≡ false → (b : Bool)
    → without_any (if b then in_front (keys_of es) n else keys_of es) ready ≡ (if b then in_front (order_among es ready) n else order_among es ready)
used es ready n h true = in_front_among (keys_of es) ready n h
used es ready n h false = refl

-- the order once a name was used that is not ready
pub promoted_order : (names new : Names) (ready : Option (List Label)) (now : Recent) (n : List Label) → seen names ready ≡ now → IsOrderly names ready → new ≡ lru_cache (promoted (alike n) names.entries) names.cap
    → is_ready now.ready n ≡ false → order_among new.entries ready ≡ (if lists now.order n then in_front now.order n else now.order)
promoted_order names new ready now n is orderly after other =
    let apart : is_ready ready n ≡ false = subst (λ (r : Recent). is_ready r.ready n ≡ false) (sym is) other in
    subst (λ (r : Recent). order_among new.entries ready ≡ (if lists r.order n then in_front r.order n else r.order)) is
    (ap (λ (c : Names). order_among c.entries ready) after ∙ ap (λ (ks : Order). without_any ks ready) (keys_promoted names.entries n orderly.once)
    ∙ used names.entries ready n apart (lists (keys_of names.entries) n)
    ∙ ap (λ (b : Bool). if b then in_front (order_among names.entries ready) n else order_among names.entries ready) (sym (listed_among names.entries ready n apart)))

listed_used : (es : Entries) (ready : Option (List Label)) (n m : List Label) (b : Bool) → lists (keys_of es) m ≡ true → lists (if b then in_front (keys_of es) n else keys_of es) m ≡ true
listed_used es ready n m true h = lists_in_front (keys_of es) n m ∙ either (alike n m) (lists (keys_of es) m) h
  where
    either : (a b : Bool) → b ≡ true → (a || b) ≡ true
    either true b h = refl
    either false b h = h
listed_used es ready n m false h = h

once_used : (es : Entries) (n : List Label) (b : Bool) → IsDistinct alike (keys_of es) → IsDistinct alike (if b then in_front (keys_of es) n else keys_of es)
once_used es n true once = distinct_in_front (keys_of es) n once
once_used es n false once = once

-- the entries stay orderly once a name was used
pub promoted_orderly : (names new : Names) (ready : Option (List Label)) (n : List Label) → IsOrderly names ready → new ≡ lru_cache (promoted (alike n) names.entries) names.cap → IsOrderly new ready
promoted_orderly names new ready n orderly after =
    let keys : keys_of new.entries ≡ (if lists (keys_of names.entries) n then in_front (keys_of names.entries) n else keys_of names.entries) = ap (λ (c : Names). keys_of c.entries) after ∙ keys_promoted names.entries n orderly.once in
    record {
      once = subst (λ (ks : Order). IsDistinct alike ks) (sym keys) (once_used names.entries n (lists (keys_of names.entries) n) orderly.once);
      among = λ m is. subst (λ (ks : Order). lists ks m ≡ true) (sym keys) (listed_used names.entries ready n m (lists (keys_of names.entries) n) (orderly.among m is));
      room = ap (λ (c : Names). c.cap) after ∙ orderly.room;
    }

-- a ready name that is used is not in the order
pub ready_used : (names : Names) (ready : Option (List Label)) (now : Recent) (n : List Label) → seen names ready ≡ now → is_ready now.ready n ≡ true → now.order ≡ (if lists now.order n then in_front now.order n else now.order)
ready_used names ready now n is same =
    let absent : lists now.order n ≡ false = subst (λ (r : Recent). is_ready r.ready n ≡ true → lists r.order n ≡ false) is (λ h. ready_absent names.entries ready n h) same in
    rw absent refl

-- ---- a name taken out

out_among : (ks : Order) (ready : Option (List Label)) (n : List Label) → without_any (without ks n) ready ≡ without (without_any ks ready) n
out_among ks None n = refl
out_among ks (Some r) n = without_swapped ks n r

-- the order once a name was taken out
pub removed_order : (names new : Names) (ready : Option (List Label)) (now : Recent) (n : List Label) → seen names ready ≡ now → IsOrderly names ready → new ≡ lru_cache (remove_entry (alike n) names.entries) names.cap
    → order_among new.entries ready ≡ without now.order n
removed_order names new ready now n is orderly after =
    subst (λ (r : Recent). order_among new.entries ready ≡ without r.order n) is
    (ap (λ (c : Names). order_among c.entries ready) after ∙ ap (λ (ks : Order). without_any ks ready) (keys_removed names.entries n orderly.once) ∙ out_among (keys_of names.entries) ready n)

removed_keys : (names new : Names) (n : List Label) → IsDistinct alike (keys_of names.entries) → new ≡ lru_cache (remove_entry (alike n) names.entries) names.cap → keys_of new.entries ≡ without (keys_of names.entries) n
removed_keys names new n once after = ap (λ (c : Names). keys_of c.entries) after ∙ keys_removed names.entries n once

-- each name is still there once
pub removed_once : (names new : Names) (n : List Label) → IsDistinct alike (keys_of names.entries) → new ≡ lru_cache (remove_entry (alike n) names.entries) names.cap → IsDistinct alike (keys_of new.entries)
removed_once names new n once after = subst (λ (ks : Order). IsDistinct alike ks) (sym (removed_keys names new n once after)) (distinct_without (keys_of names.entries) n once)

-- the entries stay orderly once a name was taken out that is not ready
pub removed_orderly : (names new : Names) (ready : Option (List Label)) (n : List Label) → IsOrderly names ready → new ≡ lru_cache (remove_entry (alike n) names.entries) names.cap → is_ready ready n ≡ false → IsOrderly new ready
removed_orderly names new ready n orderly after other =
    let keys = removed_keys names new n orderly.once after in
    record {
      once = removed_once names new n orderly.once after;
      among = λ m is. subst (λ (ks : Order). lists ks m ≡ true) (sym keys) (still m is);
      room = ap (λ (c : Names). c.cap) after ∙ orderly.room;
    }
  where
    still : (m : List Label) → ready ≡ Some m → lists (without (keys_of names.entries) n) m ≡ true
    still m is =
        let apart : alike m n ≡ false = subst (λ (r : Option (List Label)). is_ready r n ≡ false) is other in
        lists_without (keys_of names.entries) n m ∙ not_also (alike n m) (lists (keys_of names.entries) m) (names_equiv.symm n m ∙ apart) ∙ orderly.among m is

-- a ready name is not there to be taken out
pub ready_removed : (names : Names) (ready : Option (List Label)) (now : Recent) (n : List Label) → seen names ready ≡ now → is_ready now.ready n ≡ true → now.order ≡ without now.order n
ready_removed names ready now n is same =
    sym (without_absent now.order n (subst (λ (r : Recent). is_ready r.ready n ≡ true → lists r.order n ≡ false) is (λ h. ready_absent names.entries ready n h) same))

-- ---- the ready name, put in front or given up

-- no name is ready: any entries are orderly that have each name once
pub none_ready : (names new : Names) (ready : Option (List Label)) → IsOrderly names ready → IsDistinct alike (keys_of new.entries) → new.cap ≡ names.cap → IsOrderly new None
none_ready names new ready orderly once cap = record { once = once; among = λ m is. absurd (cc); room = cap ∙ orderly.room }

-- the ready name goes to the front
pub admitted : (names new : Names) (ready : Option (List Label)) (now : Recent) (n : List Label) → seen names ready ≡ now → IsOrderly names ready → ready ≡ Some n → new ≡ lru_cache (promoted (alike n) names.entries) names.cap
    → seen new None ≡ record { order = option_to_list now.ready ++ now.order; ready = None }
admitted names new ready now n is orderly here after =
    let keys : keys_of new.entries ≡ in_front (keys_of names.entries) n =
    ap (λ (c : Names). keys_of c.entries) after ∙ keys_promoted names.entries n orderly.once
    ∙ ap (λ (b : Bool). if b then in_front (keys_of names.entries) n else keys_of names.entries) (orderly.among n here) in
    subst (λ (r : Recent). seen new None ≡ record { order = option_to_list r.ready ++ r.order; ready = None }) is
    (ap (λ (ks : Order). recent ks None) keys
    ∙ subst (λ (o : Option (List Label)). recent (in_front (keys_of names.entries) n) None ≡ recent (option_to_list o ++ order_among names.entries o) None) (sym here) refl)

-- the ready name is given up
pub given_up : (names new : Names) (ready : Option (List Label)) (now : Recent) (n : List Label) → seen names ready ≡ now → IsOrderly names ready → ready ≡ Some n → new ≡ lru_cache (remove_entry (alike n) names.entries) names.cap
    → seen new None ≡ record { order = now.order; ready = None }
given_up names new ready now n is orderly here after =
    subst (λ (r : Recent). seen new None ≡ record { order = r.order; ready = None }) is
    (ap (λ (ks : Order). recent ks None) (removed_keys names new n orderly.once after)
    ∙ subst (λ (o : Option (List Label)). recent (without (keys_of names.entries) n) None ≡ recent (order_among names.entries o) None) (sym here) refl)

-- ---- the number of names

counted : (es : Entries) (ready : Option (List Label)) → IsDistinct alike (keys_of es) → ((m : List Label) → ready ≡ Some m → lists (keys_of es) m ≡ true) → is_some ready ≡ true → length es ≡ suc (length (order_among es ready))
counted es None once among h = absurd (cc)
counted es (Some r) once among h = sym (length-keys_of es) ∙ length_without (keys_of es) r once (among r refl)

-- there is one entry more than names in the order, where a name is ready
pub one_more : (names : Names) (ready : Option (List Label)) (now : Recent) → seen names ready ≡ now → IsOrderly names ready → is_some ready ≡ true → length names.entries ≡ suc (length now.order)
one_more names ready now is orderly some = subst (λ (r : Recent). length names.entries ≡ suc (length r.order)) is (counted names.entries ready orderly.once orderly.among some)

once_among : (es : Entries) (ready : Option (List Label)) → IsDistinct alike (keys_of es) → IsDistinct alike (order_among es ready)
once_among es None once = once
once_among es (Some r) once = distinct_without (keys_of es) r once

-- the order has each name once
pub order_once : (names : Names) (ready : Option (List Label)) (now : Recent) → seen names ready ≡ now → IsOrderly names ready → IsDistinct alike now.order
order_once names ready now is orderly = subst (λ (r : Recent). IsDistinct alike r.order) is (once_among names.entries ready orderly.once)

-- ---- a look-up

-- a name is in the order where it is an entry's and not ready
pub found_in_order : (names : Names) (ready : Option (List Label)) (now : Recent) (n : List Label) → seen names ready ≡ now → lists now.order n ≡ (is_some (lookup (alike n) names.entries) && not (is_ready now.ready n))
found_in_order names ready now n is = subst (λ (r : Recent). lists r.order n ≡ (is_some (lookup (alike n) names.entries) && not (is_ready r.ready n))) is (by ready)
  where
    both : (a b : Bool) → (not a && b) ≡ (b && not a)
    both true true = refl
    both true false = refl
    both false true = refl
    both false false = refl

    and_true : (b : Bool) → b ≡ (b && true)
    and_true true = refl
    and_true false = refl

    by : (o : Option (List Label)) → lists (order_among names.entries o) n ≡ (is_some (lookup (alike n) names.entries) && not (is_ready o n))
    by None = sym (value_found names.entries n) ∙ and_true (is_some (lookup (alike n) names.entries))
    by (Some r) =
        lists_without (keys_of names.entries) r n ∙ both (alike r n) (lists (keys_of names.entries) n)
        ∙ ap (λ (b : Bool). b && not (alike r n)) (sym (value_found names.entries n))

-- ---- a name that is made ready

keys_alone : (names : Names) (o : Option (List Label)) (now : Recent) → seen names o ≡ now → now.ready ≡ None → keys_of names.entries ≡ now.order
keys_alone names None now is none = ap (λ (r : Recent). r.order) is
keys_alone names (Some n) now is none = absurd (let bad : Some n ≡ None = ap (λ (r : Recent). r.ready) is ∙ none in cc)

-- the ready name, told by its test
pub ready_is : (now : Recent) (n : List Label) → is_ready now.ready n ≡ true → now ≡ recent now.order (Some n)
ready_is now n h = ap (λ (o : Option (List Label)). recent now.order o) (by now.ready h)
  where
    by : (o : Option (List Label)) → is_ready o n ≡ true → o ≡ Some n
    by None k = absurd (cc)
    by (Some r) k = ap (λ (m : List Label). Some m) (alike_exact r n k)

-- a name that is not the ready one
pub not_ready : (now : Recent) (n : List Label) → is_ready now.ready n ≡ false → now.ready ≡ Some n → ⊥
not_ready now n other is =
    let same : is_ready now.ready n ≡ true = rw is (alike_self n) in
    let bad : true ≡ false = sym same ∙ other in
    cc

put_by : (es : Entries) (k : List Label) (cap : ℕ) (o : Option (List Label × Unit {0})) → is_some o ≡ false → length es ≤ cap → keys_of (option_map_or (λ e. (e.0, tt) ∷ remove_entry (alike k) es) o ((k, tt) ∷ take cap es)) ≡ k ∷ keys_of es
put_by es k cap (Some e) none room = absurd (cc)
put_by es k cap None none room = ap (λ (fs : Entries). k ∷ keys_of fs) (take_all cap es room)

-- the names of the entries once a new one was put in
put_keys : (names new : Names) (k : List Label) → lists (keys_of names.entries) k ≡ false → length names.entries < 2 ^ 63 → names.cap ≡ 2 ^ 64 - 1 → new ≡ lru_cache (put_entries alike names k tt) names.cap
    → keys_of new.entries ≡ in_front (keys_of names.entries) k
put_keys names new k fresh fits room after =
    let within : length names.entries ≤ names.cap - 1 = omega arith in
    ap (λ (c : Names). keys_of c.entries) after ∙ put_by names.entries k (names.cap - 1) (lookup_entry (alike k) names.entries) (entry_found names.entries k ∙ fresh) within
    ∙ sym (in_front_absent (keys_of names.entries) k fresh)

-- entries with one name more in front, which is ready
pub made_ready : (final : Names) (now : Recent) (k : List Label) → keys_of final.entries ≡ in_front now.order k → IsDistinct alike now.order → final.cap ≡ 2 ^ 64 - 1 → IsOrderly final (Some k)
made_ready final now k keys once room = record {
  once = subst (λ (ks : Order). IsDistinct alike ks) (sym keys) (distinct_in_front now.order k once);
  among = λ m is. subst (λ (n : List Label). lists (keys_of final.entries) n ≡ true) (let same : k ≡ m = cc in same) (subst (λ (ks : Order). lists ks k ≡ true) (sym keys) (rw (alike_self k) refl));
  room = room;
}

-- they are the order as it was
pub seen_ready : (final : Names) (now : Recent) (k : List Label) → keys_of final.entries ≡ in_front now.order k → lists now.order k ≡ false → seen final (Some k) ≡ recent now.order (Some k)
seen_ready final now k keys fresh =
    ap (λ (ks : Order). recent ks (Some k)) (ap (λ (ks : Order). without ks k) keys ∙ out_again ∙ without_absent now.order k fresh)
  where
    out_again : without (in_front now.order k) k ≡ without now.order k
    out_again = rw (alike_self k) (without_twice now.order k)

-- the entries are orderly, and show the order as it was, with that name ready
abbrev pub MadeReady : Names → Recent → List Label → Type 0
MadeReady final now k = IsOrderly final (Some k) × (seen final (Some k) ≡ recent now.order (Some k))

both_ready : (names final : Names) (ready : Option (List Label)) (now : Recent) (k : List Label) → seen names ready ≡ now → IsOrderly names ready → keys_of final.entries ≡ in_front now.order k → final.cap ≡ names.cap → lists now.order k ≡ false
    → MadeReady final now k
both_ready names final ready now k is orderly keys cap fresh = (made_ready final now k keys (order_once names ready now is orderly) (cap ∙ orderly.room), seen_ready final now k keys fresh)

-- a new name was put in, where none was ready
pub prepared_alone : (names new : Names) (ready : Option (List Label)) (now : Recent) (k : List Label) → seen names ready ≡ now → IsOrderly names ready → lists now.order k ≡ false
    → length names.entries < 2 ^ 63 → new ≡ lru_cache (put_entries alike names k tt) names.cap → ready ≡ None → MadeReady new now k
prepared_alone names new ready now k is orderly fresh fits after none =
    let whole : keys_of names.entries ≡ now.order = keys_alone names ready now is (sym (ap (λ (r : Recent). r.ready) is) ∙ none) in
    let keys = put_keys names new k (rw whole fresh) fits orderly.room after in
    both_ready names new ready now k is orderly (keys ∙ ap (λ (ks : Order). in_front ks k) whole) (ap (λ (c : Names). c.cap) after) fresh

-- a new name was put in, and then the one taken out that was ready
pub prepared_instead : (names new final : Names) (ready : Option (List Label)) (now : Recent) (k old : List Label) → seen names ready ≡ now → IsOrderly names ready → is_ready now.ready k ≡ false → lists now.order k ≡ false
    → length names.entries < 2 ^ 63 → new ≡ lru_cache (put_entries alike names k tt) names.cap → ready ≡ Some old → final ≡ lru_cache (remove_entry (alike old) new.entries) new.cap → MadeReady final now k
prepared_instead names new final ready now k old is orderly other fresh fits after some out =
    let apart : is_ready ready k ≡ false = subst (λ (r : Recent). is_ready r.ready k ≡ false) (sym is) other in
    let absent : lists (keys_of names.entries) k ≡ false = sym (listed_among names.entries ready k apart) ∙ subst (λ (r : Recent). lists r.order k ≡ false) (sym is) fresh in
    let keys = put_keys names new k absent fits orderly.room after in
    let once : IsDistinct alike (keys_of new.entries) = subst (λ (ks : Order). IsDistinct alike ks) (sym keys) (distinct_in_front (keys_of names.entries) k orderly.once) in
    let left : keys_of final.entries ≡ in_front now.order k =
    subst (λ (r : Recent). keys_of final.entries ≡ in_front r.order k) is
    (removed_keys new final old once out ∙ ap (λ (ks : Order). without ks old) keys
    ∙ subst (λ (o : Option (List Label)). without_any (in_front (keys_of names.entries) k) o ≡ in_front (order_among names.entries ready) k) some (in_front_among (keys_of names.entries) ready k apart)) in
    both_ready names final ready now k is orderly left (ap (λ (c : Names). c.cap) out ∙ ap (λ (c : Names). c.cap) after) fresh

-- a name that was made ready and then put in front
pub admitted_front : (order : Order) (made last : Recent) (name : List Label) → made ≡ recent order (Some name) → last ≡ recent (option_to_list made.ready ++ made.order) None → lists order name ≡ false → last.order ≡ in_front order name
admitted_front order made last name is after fresh =
    ap (λ (r : Recent). r.order) after ∙ ap (λ (r : Recent). option_to_list r.ready ++ r.order) is ∙ sym (in_front_absent order name fresh)

-- ---- the last name

-- the last name of an order without a ready one
pub last_popped : (names : Names) (ready : Option (List Label)) (now : Recent) → seen names ready ≡ now → now.ready ≡ None → option_map (λ e. e.0) (last_entry names.entries) ≡ last_of now.order
last_popped names ready now is none = last_name names.entries ∙ ap last_of (keys_alone names ready now is none)

is_none : (names : Names) (ready : Option (List Label)) (now : Recent) → seen names ready ≡ now → now.ready ≡ None → ready ≡ None
is_none names ready now is none = ap (λ (r : Recent). r.ready) is ∙ none

front_left : (names new : Names) (ready : Option (List Label)) (now : Recent) → seen names ready ≡ now → now.ready ≡ None → IsOrderly names ready → new ≡ lru_cache (take (length names.entries - 1) names.entries) names.cap
    → keys_of new.entries ≡ without_any now.order (last_of now.order)
front_left names new ready now is none orderly after =
    ap (λ (c : Names). keys_of c.entries) after ∙ front_names names.entries ∙ front_is_without_last (keys_of names.entries) orderly.once
    ∙ ap (λ (ks : Order). without_any ks (last_of ks)) (keys_alone names ready now is none)

-- the order without it
pub popped_order : (names new : Names) (ready : Option (List Label)) (now : Recent) → seen names ready ≡ now → now.ready ≡ None → IsOrderly names ready → new ≡ lru_cache (take (length names.entries - 1) names.entries) names.cap
    → order_among new.entries ready ≡ without_any now.order (last_of now.order)
popped_order names new ready now is none orderly after = ap (λ (o : Option (List Label)). order_among new.entries o) (is_none names ready now is none) ∙ front_left names new ready now is none orderly after

once_without_any : (order : Order) (o : Option (List Label)) → IsDistinct alike order → IsDistinct alike (without_any order o)
once_without_any order None once = once
once_without_any order (Some n) once = distinct_without order n once

-- the entries stay orderly without it
pub popped_orderly : (names new : Names) (ready : Option (List Label)) (now : Recent) → seen names ready ≡ now → now.ready ≡ None → IsOrderly names ready → new ≡ lru_cache (take (length names.entries - 1) names.entries) names.cap
    → IsOrderly new ready
popped_orderly names new ready now is none orderly after =
    let once = subst (λ (ks : Order). IsDistinct alike ks) (sym (front_left names new ready now is none orderly after)) (once_without_any now.order (last_of now.order) (order_once names ready now is orderly)) in
    subst (λ (o : Option (List Label)). IsOrderly new o) (sym (is_none names ready now is none)) (none_ready names new ready orderly once (ap (λ (c : Names). c.cap) after))
