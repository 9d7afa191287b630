-- The type's invariant, as gathers are opened and closed, wait and are answered.
use Rattle.std.proofs.Common.{◌≡◌, ℕ, Bool, true, false, List, [], Option, Some, None, is_some, nat_eq, if◌then◌else◌, refl, sym, ◌∙◌, arith}
use Rattle.std.specs.Prelude.{IsSome, IfSome, IsSomeAnd}
use Rattle.std.specs.List.Sorted.{IsStrictlySortedBy}
use Rattle.std.specs.Map.{keys_of, remove_entry}
use Rattle.std.specs.BTreeMap.{is_at}
use Rattle.std.specs.Ordering.{nat_cmp}
use Rattle.std.specs.Cmp.{eq_by_cmp_equiv}
use Rattle.std.specs.Ordering.{eq_by_cmp}
use Rattle.std.proofs.lemmas.Cmp.{nat_cmp_total}
use Rattle.std.proofs.lemmas.Map.{lookup-remove_entry}
use Rattle.std.proofs.lemmas.Map.Keys.{IsDistinct-from_sorted}
use Rattle.std.proofs.lemmas.Bool.{eqb-true}
use Rattle.std.proofs.lemmas.Bool.Decides.{nat_tests}
use Rattle.iris_need.specs.declared.need.Need.{Need}
use Rattle.iris_gather.specs.declared.parent.Parent.{Parent}
use Rattle.iris_gather.specs.declared.parent.Parent.TheVariants.{Client, Ask}
use Rattle.iris_gather.specs.declared.entries.OpenGather.{OpenGather}
use Rattle.iris_gather.specs.declared.indices.Indices.{Indices}
use Rattle.iris_gather.specs.Gathers.{Gathering, AskTable, need_at}
use Rattle.iris_gather.specs.OpenGathers.{OpenGathers, gather_at, unlent, is_none_left, is_request, is_ask, serves_request, serves_ask, serves, awaits, NoGather, Exchanged, IsAnswered}
use Rattle.iris_gather.specs.Indices.{number_at, IsWith, AreWith, IsReadyWith, ServesWith, Finds}
use Rattle.iris_gather.proofs.Indexed.{IsRekeyed, rekeyed-same, indices-exchanged, own-exchanged, AreKept}
use Rattle.iris_gather.proofs.Lookups.{found-none}

-- no gather has a parent that is that request, or that ask
served_request : (parent : Parent) (request : ℕ) (o : Option OpenGather) → is_request request parent ≡ true → serves parent o ≡ serves_request request o
served_request (Client own) request o t = rw (eqb-true request own t) refl
served_request (Ask ask agent) request o t = absurd (cc t)

served_ask : (parent : Parent) (ask : ℕ) (o : Option OpenGather) → is_ask ask parent ≡ true → serves parent o ≡ serves_ask ask o
served_ask (Client request) ask o t = absurd (cc t)
served_ask (Ask own agent) ask o t = rw (eqb-true ask own t) refl

pub no-request : (gathers : OpenGathers) (index : List (ℕ × ℕ)) (parent : Parent) → Finds serves_request gathers index → NoGather (serves parent) gathers → (request : ℕ) → is_request request parent ≡ true → number_at index request ≡ None
no-request gathers index parent finds none request is = found-none serves_request gathers index request finds (λ n. sym (served_request parent request (gather_at gathers n) is) ∙ none n)

pub no-ask : (gathers : OpenGathers) (index : List (ℕ × ℕ)) (parent : Parent) → Finds serves_ask gathers index → NoGather (serves parent) gathers → (ask : ℕ) → is_ask ask parent ≡ true → number_at index ask ≡ None
no-ask gathers index parent finds none ask is = found-none serves_ask gathers index ask finds (λ n. sym (served_ask parent ask (gather_at gathers n) is) ∙ none n)

-- keys that come, where none stood at that number and none was found by them
added : (has : ℕ → Option OpenGather → Bool) (before after : List (ℕ × ℕ)) (number : ℕ) (was one : Option OpenGather)
    → ((key : ℕ) → has key was ≡ false) → ((key : ℕ) → number_at after key ≡ (if has key one then Some number else number_at before key)) → ((key : ℕ) → has key one ≡ true → number_at before key ≡ None)
    → IsRekeyed has before after number was one
added has before after number was one empty is none = record { keys = λ key. grind (arith, empty key, is key); free = λ key other. grind (arith, none key) }

-- keys that go, where none are left at that number
removed : (has : ℕ → Option OpenGather → Bool) (before after : List (ℕ × ℕ)) (number : ℕ) (was one : Option OpenGather)
    → ((key : ℕ) → has key one ≡ false) → ((key : ℕ) → number_at after key ≡ (if has key was then None else number_at before key))
    → IsRekeyed has before after number was one
removed has before after number was one empty is = record { keys = λ key. grind (arith, empty key, is key); free = λ key other. grind (arith, empty key) }

pub kept-opened : (old new : OpenGathers) (before after : Indices) (gather : Gathering)
    → AreKept old before → gather_at old gather.id ≡ None → gather.pending ≡ [] → NoGather (serves gather.parent) old
    → Exchanged old new gather.id (Some (unlent gather))
    → IsReadyWith before after gather.id true → ServesWith before after gather.parent (Some gather.id) → after.pending ≡ before.pending
    → AreKept new after
kept-opened old new before after gather kept absent idle unserved exchanged ready served same =
    let is : is_none_left gather.pending ≡ true = rw idle refl in (
      own-exchanged old new gather.id (Some (unlent gather)) kept.0 exchanged refl,
      indices-exchanged old new before after gather.id (Some (unlent gather)) kept.1 exchanged
          (rw is ready)
          (rekeyed-same awaits old before.pending after.pending gather.id (Some (unlent gather)) kept.1.pending (λ key. rw (idle, absent) refl) (λ key. rw same refl))
          (rw absent (added serves_request before.requests after.requests gather.id None (Some (unlent gather)) (λ key. refl) served.requests (no-request old before.requests gather.parent kept.1.requests unserved)))
          (rw absent (added serves_ask before.asks after.asks gather.id None (Some (unlent gather)) (λ key. refl) served.asks (no-ask old before.asks gather.parent kept.1.asks unserved))),
    )

pub kept-closed : (old new : OpenGathers) (before after : Indices) (number : ℕ) (closed : OpenGather)
    → AreKept old before → gather_at old number ≡ Some closed → Exchanged old new number None
    → IsReadyWith before after number false → ServesWith before after closed.gather.parent None → AreWith before.pending after.pending closed.gather.pending None
    → AreKept new after
kept-closed old new before after number closed kept was exchanged ready served pending = (
  own-exchanged old new number None kept.0 exchanged tt,
  indices-exchanged old new before after number None kept.1 exchanged ready
      (rw was (removed awaits before.pending after.pending number (Some closed) None (λ key. refl) pending))
      (rw was (removed serves_request before.requests after.requests number (Some closed) None (λ key. refl) served.requests))
      (rw was (removed serves_ask before.asks after.asks number (Some closed) None (λ key. refl) served.asks)),
)

pub kept-waiting : (old new : OpenGathers) (before after : Indices) (gather : Gathering)
    → AreKept old before → IsSomeAnd (gather_at old gather.id) (λ one. (one.gather.parent ≡ gather.parent) × (one.gather.pending ≡ []))
    → ((ask : ℕ) → IsSome (need_at gather.pending ask) → NoGather (awaits ask) old)
    → Exchanged old new gather.id (Some (unlent gather))
    → IsReadyWith before after gather.id (is_none_left gather.pending) → AreWith before.pending after.pending gather.pending (Some gather.id)
    → after.requests ≡ before.requests → after.asks ≡ before.asks
    → AreKept new after
kept-waiting old new before after gather kept there fresh exchanged ready pending requests asks = go (gather_at old gather.id) refl there
  where
    go : (was : Option OpenGather) → gather_at old gather.id ≡ was → IsSomeAnd was (λ one. (one.gather.parent ≡ gather.parent) × (one.gather.pending ≡ [])) → AreKept new after
    go None is h = absurd h
    go (Some one) is h = (
      own-exchanged old new gather.id (Some (unlent gather)) kept.0 exchanged refl,
      indices-exchanged old new before after gather.id (Some (unlent gather)) kept.1 exchanged ready
          (rw is (added awaits before.pending after.pending gather.id (Some one) (Some (unlent gather)) (λ key. rw h.1 refl) pending (λ key some. found-none awaits old before.pending key kept.1.pending (fresh key some))))
          (rekeyed-same serves_request old before.requests after.requests gather.id (Some (unlent gather)) kept.1.requests (λ key. rw (is, h.0) refl) (λ key. rw requests refl))
          (rekeyed-same serves_ask old before.asks after.asks gather.id (Some (unlent gather)) kept.1.asks (λ key. rw (is, h.0) refl) (λ key. rw asks refl)),
    )

-- the asks that are left, once one was answered
left_asks : (before after : AskTable) (ask key : ℕ) → after ≡ remove_entry (is_at (nat_cmp ask)) before → IsStrictlySortedBy nat_cmp (keys_of before) → need_at after key ≡ (if is_at (nat_cmp ask) key then None else need_at before key)
left_asks before after ask key is rising =
    rw is (lookup-remove_entry {eq = eq_by_cmp nat_cmp} (eq_by_cmp_equiv nat_cmp_total) (is_at (nat_cmp ask)) (λ x y. grind (arith, nat_tests)) key before (IsDistinct-from_sorted nat_cmp (keys_of before) rising))

same_test : (ask key : ℕ) → nat_eq key ask ≡ is_at (nat_cmp ask) key
same_test ask key = grind (arith, nat_tests)

some_at : (before : AskTable) (ask key : ℕ) → IsSome (need_at before ask) → is_at (nat_cmp ask) key ≡ true → is_some (need_at before key) ≡ true
some_at before ask key some at = let same : key ≡ ask = grind (arith, nat_tests) in rw same some

-- what is found by an ask, where it stays pending, is answered, or was not pending
answered_key : (now was : Option Need) (answered : Bool) (after before : Option ℕ) (number : ℕ) → now ≡ (if answered then None else was) → after ≡ (if answered then None else before) → (answered ≡ true → is_some was ≡ true) → (is_some was ≡ true → before ≡ Some number)
    → after ≡ (if is_some now then Some number else (if is_some was then None else before))
answered_key now was answered after before number n a w b = grind arith

rekeyed-answered : (old : OpenGathers) (before after : List (ℕ × ℕ)) (ask number : ℕ) (one : OpenGather) (gather : Gathering)
    → Finds awaits old before → gather_at old number ≡ Some one → IsAnswered ask one.gather gather → IsStrictlySortedBy nat_cmp (keys_of one.gather.pending) → IsWith before after ask None
    → IsRekeyed awaits before after number (Some one) (Some (unlent gather))
rekeyed-answered old before after ask number one gather finds is answered rising pending = record { keys = keys; free = free }
  where
    left : (key : ℕ) → need_at gather.pending key ≡ (if is_at (nat_cmp ask) key then None else need_at one.gather.pending key)
    left key = left_asks one.gather.pending gather.pending ask key answered.pending_is rising

    found : (key : ℕ) → is_some (need_at one.gather.pending key) ≡ true → number_at before key ≡ Some number
    found key some = finds.whole key number (rw is some)

    keys : (key : ℕ) → number_at after key ≡ (if is_some (need_at gather.pending key) then Some number else (if is_some (need_at one.gather.pending key) then None else number_at before key))
    keys key = answered_key (need_at gather.pending key) (need_at one.gather.pending key) (is_at (nat_cmp ask) key) (number_at after key) (number_at before key) number (left key) (rw (← same_test ask key) (pending key)) (some_at one.gather.pending ask key answered.was_pending) (found key)

    still : (now was : Option Need) (answered : Bool) → now ≡ (if answered then None else was) → is_some now ≡ true → is_some was ≡ true
    still now was answered n some = grind arith

    free : (key other : ℕ) → is_some (need_at gather.pending key) ≡ true → number_at before key ≡ Some other → other ≡ number
    free key other some at = cc (found key (still (need_at gather.pending key) (need_at one.gather.pending key) (is_at (nat_cmp ask) key) (left key) some))

pub kept-answered : (old new : OpenGathers) (before after : Indices) (ask : ℕ) (gather : Gathering)
    → AreKept old before → IsSomeAnd (gather_at old gather.id) (λ one. IsAnswered ask one.gather gather)
    → IfSome (gather_at old gather.id) (λ one. IsStrictlySortedBy nat_cmp (keys_of one.gather.pending))
    → Exchanged old new gather.id (Some (unlent gather))
    → IsReadyWith before after gather.id (is_none_left gather.pending) → IsWith before.pending after.pending ask None
    → after.requests ≡ before.requests → after.asks ≡ before.asks
    → AreKept new after
kept-answered old new before after ask gather kept there rising exchanged ready pending requests asks = go (gather_at old gather.id) refl there rising
  where
    go : (was : Option OpenGather) → gather_at old gather.id ≡ was → IsSomeAnd was (λ one. IsAnswered ask one.gather gather) → IfSome was (λ one. IsStrictlySortedBy nat_cmp (keys_of one.gather.pending)) → AreKept new after
    go None is h r = absurd h
    go (Some one) is h r = (
      own-exchanged old new gather.id (Some (unlent gather)) kept.0 exchanged refl,
      indices-exchanged old new before after gather.id (Some (unlent gather)) kept.1 exchanged ready
          (rw is (rekeyed-answered old before.pending after.pending ask gather.id one gather kept.1.pending is h r pending))
          (rekeyed-same serves_request old before.requests after.requests gather.id (Some (unlent gather)) kept.1.requests (λ key. rw (is, h.parent_stays) refl) (λ key. rw requests refl))
          (rekeyed-same serves_ask old before.asks after.asks gather.id (Some (unlent gather)) kept.1.asks (λ key. rw (is, h.parent_stays) refl) (λ key. rw asks refl)),
    )
