-- What the indices tell of open gathers.
use Rattle.std.proofs.Common.{◌≡◌, ℕ, Bool, true, false, ◌||◌, List, Option, Some, None, is_some, refl}
use Rattle.std.specs.Prelude.{MatchBool}
use Rattle.std.proofs.lemmas.Bool.{false_from_ne_true, or_left, or_right, or_from}
use Rattle.iris_gather.specs.declared.entries.OpenGather.{OpenGather}
use Rattle.iris_gather.specs.OpenGathers.{OpenGathers, gather_at, serves_ask, awaits, names, AnyGather, NoGather, AtMostOne}
use Rattle.iris_gather.specs.Indices.{number_at, Finds}

-- where an index finds nothing by a key, no gather has it
pub none-found : (has : ℕ → Option OpenGather → Bool) (gathers : OpenGathers) (index : List (ℕ × ℕ)) (key : ℕ) → Finds has gathers index → number_at index key ≡ None → NoGather (has key) gathers
none-found has gathers index key finds none = λ n. false_from_ne_true (has key (gather_at gathers n)) (λ t. absurd (cc (finds.whole key n t)))

-- where no gather has a key, an index finds nothing by it
pub found-none : (has : ℕ → Option OpenGather → Bool) (gathers : OpenGathers) (index : List (ℕ × ℕ)) (key : ℕ) → Finds has gathers index → NoGather (has key) gathers → number_at index key ≡ None
found-none has gathers index key finds none = go (number_at index key) refl
  where
    go : (o : Option ℕ) → number_at index key ≡ o → number_at index key ≡ None
    go None e = e
    go (Some n) e = absurd (cc (finds.sound key n e, none n))

-- an index finds one gather by a key
pub at-most-one : (has : ℕ → Option OpenGather → Bool) (gathers : OpenGathers) (index : List (ℕ × ℕ)) → Finds has gathers index → (key : ℕ) → AtMostOne (has key) gathers
at-most-one has gathers index finds key = λ one other here there. cc (finds.whole key one here, finds.whole key other there)

-- whether an index finds something tells whether some gather has the key
pub tells-any : (has : ℕ → Option OpenGather → Bool) (gathers : OpenGathers) (index : List (ℕ × ℕ)) (key : ℕ) → Finds has gathers index → MatchBool (is_some (number_at index key)) (AnyGather (has key) gathers) (NoGather (has key) gathers)
tells-any has gathers index key finds = go (number_at index key) refl
  where
    go : (o : Option ℕ) → number_at index key ≡ o → MatchBool (is_some o) (AnyGather (has key) gathers) (NoGather (has key) gathers)
    go None is = none-found has gathers index key finds is
    go (Some n) is = (n, finds.sound key n is)

-- an ask is named where it is served or awaited
pub tells-names : (served awaited : Bool) (gathers : OpenGathers) (ask : ℕ) → MatchBool served (AnyGather (serves_ask ask) gathers) (NoGather (serves_ask ask) gathers) → MatchBool awaited (AnyGather (awaits ask) gathers) (NoGather (awaits ask) gathers) → MatchBool (served || awaited) (AnyGather (names ask) gathers) (NoGather (names ask) gathers)
tells-names true awaited gathers ask any rest = (any.0, or_left (serves_ask ask (gather_at gathers any.0)) (awaits ask (gather_at gathers any.0)) any.1)
tells-names false true gathers ask none any = (any.0, or_right (serves_ask ask (gather_at gathers any.0)) (awaits ask (gather_at gathers any.0)) any.1)
tells-names false false gathers ask none more = λ n. or_from (serves_ask ask (gather_at gathers n)) (awaits ask (gather_at gathers n)) (none n) (more n)
