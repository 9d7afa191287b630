-- The indices stay those of the gathers as one of these is exchanged.
use Rattle.std.proofs.Common.{◌≡◌, ◌≢◌, ℕ, Bool, true, List, Option, Some, None, nat_eq, if◌then◌else◌, refl, arith, inl, inr}
use Rattle.std.specs.Prelude.{◌⊎◌, IfSome, option_map}
use Rattle.std.proofs.lemmas.Bool.{cases_eq}
use Rattle.std.proofs.lemmas.Grind.{common_steps}
use Rattle.iris_gather.specs.declared.entries.OpenGather.{OpenGather}
use Rattle.iris_gather.specs.declared.indices.Indices.{Indices}
use Rattle.iris_gather.specs.OpenGathers.{OpenGathers, gather_at, with_lent, is_ready, serves_request, serves_ask, awaits, Exchanged, HaveOwnNumbers}
use Rattle.iris_gather.specs.Indices.{number_at, has_number, Finds, AreIndices}

-- a key, at the number of some gather: whether it has what stands there now, what stood at the exchanged number, and what stood there
rekeyed_sound : (now was other here : Bool) (after before : Option ℕ) (number n : ℕ) → (n ≡ number) ⊎ (n ≢ number)
    → after ≡ (if now then Some number else (if was then None else before))
    → (before ≡ Some n → other ≡ true) → (n ≡ number → other ≡ was) → (n ≡ number → here ≡ now) → (n ≢ number → here ≡ other)
    → after ≡ Some n → here ≡ true
rekeyed_sound = grind arith

rekeyed_whole : (now was other here : Bool) (after before : Option ℕ) (number n : ℕ) → (n ≡ number) ⊎ (n ≢ number)
    → after ≡ (if now then Some number else (if was then None else before))
    → (other ≡ true → before ≡ Some n) → (was ≡ true → before ≡ Some number) → (n ≡ number → here ≡ now) → (n ≢ number → here ≡ other)
    → (now ≡ true → before ≡ Some n → n ≡ number)
    → here ≡ true → after ≡ Some n
rekeyed_whole = grind arith

-- What an index finds, once at that number stands that: its keys, which led nowhere else before, lead there.
pub record IsRekeyed (has : ℕ → Option OpenGather → Bool) (before after : List (ℕ × ℕ)) (number : ℕ) (was one : Option OpenGather) : Type 0 where
  pub keys : (key : ℕ) → number_at after key ≡ (if has key one then Some number else (if has key was then None else number_at before key))
  pub free : (key other : ℕ) → has key one ≡ true → number_at before key ≡ Some other → other ≡ number

pub finds-exchanged : (has : ℕ → Option OpenGather → Bool) (old new : OpenGathers) (before after : List (ℕ × ℕ)) (number : ℕ) (one : Option OpenGather)
    → Finds has old before → Exchanged old new number one → IsRekeyed has before after number (gather_at old number) one
    → Finds has new after
finds-exchanged has old new before after number one finds exchanged is =
    record {
      sound = λ key n. rekeyed_sound (has key one) (has key (gather_at old number)) (has key (gather_at old n)) (has key (gather_at new n)) (number_at after key) (number_at before key) number n (cases_eq n number)
          (is.keys key) (finds.sound key n) (λ e. rw e refl) (λ e. rw (e, exchanged.there) refl) (λ ne. rw (exchanged.others n ne) refl);
      whole = λ key n. rekeyed_whole (has key one) (has key (gather_at old number)) (has key (gather_at old n)) (has key (gather_at new n)) (number_at after key) (number_at before key) number n (cases_eq n number)
          (is.keys key) (finds.whole key n) (finds.whole key number) (λ e. rw (e, exchanged.there) refl) (λ ne. rw (exchanged.others n ne) refl) (is.free key n);
    }

-- a gather with the same keys as before
pub rekeyed-same : (has : ℕ → Option OpenGather → Bool) (gathers : OpenGathers) (before after : List (ℕ × ℕ)) (number : ℕ) (one : Option OpenGather)
    → Finds has gathers before → ((key : ℕ) → has key one ≡ has key (gather_at gathers number)) → ((key : ℕ) → number_at after key ≡ number_at before key)
    → IsRekeyed has before after number (gather_at gathers number) one
rekeyed-same has gathers before after number one finds same kept = record { keys = λ key. grind (arith, same key, kept key, finds.whole key number); free = λ key other. grind (arith, same key, finds.whole key number) }

-- what is ready, once at that number stands that
abbrev pub IsReadied : Indices → Indices → ℕ → Option OpenGather → Type 0
IsReadied before after number one = (other : ℕ) → has_number after other ≡ (if nat_eq other number then is_ready one else has_number before other)

pub indices-exchanged : (old new : OpenGathers) (before after : Indices) (number : ℕ) (one : Option OpenGather)
    → AreIndices old before → Exchanged old new number one
    → IsReadied before after number one
    → IsRekeyed awaits before.pending after.pending number (gather_at old number) one
    → IsRekeyed serves_request before.requests after.requests number (gather_at old number) one
    → IsRekeyed serves_ask before.asks after.asks number (gather_at old number) one
    → AreIndices new after
indices-exchanged old new before after number one are exchanged ready pending requests asks =
    record {
      ready = λ n. grind (arith, common_steps, ready n, are.ready n, exchanged.there, exchanged.others n);
      pending = finds-exchanged awaits old new before.pending after.pending number one are.pending exchanged pending;
      requests = finds-exchanged serves_request old new before.requests after.requests number one are.requests exchanged requests;
      asks = finds-exchanged serves_ask old new before.asks after.asks number one are.asks exchanged asks;
    }

pub own-exchanged : (old new : OpenGathers) (number : ℕ) (one : Option OpenGather) → HaveOwnNumbers old → Exchanged old new number one → IfSome one (λ o. o.gather.id ≡ number) → HaveOwnNumbers new
own-exchanged old new number one own exchanged here = λ n. go n (cases_eq n number)
  where
    go : (n : ℕ) → (n ≡ number) ⊎ (n ≢ number) → IfSome (gather_at new n) (λ o. o.gather.id ≡ n)
    go n (inl e) = rw (e, exchanged.there) here
    go n (inr ne) = rw (exchanged.others n ne) (own n)

-- the type's invariant
abbrev pub AreKept : OpenGathers → Indices → Type 0
AreKept gathers indices = HaveOwnNumbers gathers × AreIndices gathers indices

-- a gather of which the number, the parent and the pending asks are as before
pub kept-lent : (old new : OpenGathers) (indices : Indices) (number : ℕ) (lent : Bool)
    → AreKept old indices → Exchanged old new number (option_map (with_lent lent) (gather_at old number)) → AreKept new indices
kept-lent old new indices number lent kept exchanged =
    let one = option_map (with_lent lent) (gather_at old number) in (
      own-exchanged old new number one kept.0 exchanged (own (gather_at old number) (kept.0 number)),
      indices-exchanged old new indices indices number one kept.1 exchanged
          (λ other. grind (arith, common_steps, kept.1.ready number, ready (gather_at old number)))
          (rekeyed-same awaits old indices.pending indices.pending number one kept.1.pending (λ key. awaiting key (gather_at old number)) (λ key. refl))
          (rekeyed-same serves_request old indices.requests indices.requests number one kept.1.requests (λ key. request key (gather_at old number)) (λ key. refl))
          (rekeyed-same serves_ask old indices.asks indices.asks number one kept.1.asks (λ key. ask key (gather_at old number)) (λ key. refl)),
    )
  where
    own : (o : Option OpenGather) → IfSome o (λ x. x.gather.id ≡ number) → IfSome (option_map (with_lent lent) o) (λ x. x.gather.id ≡ number)
    own None h = h
    own (Some x) h = h

    ready : (o : Option OpenGather) → is_ready (option_map (with_lent lent) o) ≡ is_ready o
    ready None = refl
    ready (Some x) = refl

    awaiting : (key : ℕ) (o : Option OpenGather) → awaits key (option_map (with_lent lent) o) ≡ awaits key o
    awaiting key None = refl
    awaiting key (Some x) = refl

    request : (key : ℕ) (o : Option OpenGather) → serves_request key (option_map (with_lent lent) o) ≡ serves_request key o
    request key None = refl
    request key (Some x) = refl

    ask : (key : ℕ) (o : Option OpenGather) → serves_ask key (option_map (with_lent lent) o) ≡ serves_ask key o
    ask key None = refl
    ask key (Some x) = refl
