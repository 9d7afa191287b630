-- What an agent does as a reply arrives is what the protocol says of it.
use Rattle.std.proofs.Common.{◌≡◌, ℕ, nat_eq, Bool, true, false, if◌then◌else◌, is_some, List, [], ◌∷◌, map, Option, Some, None, IfSome, option_map, refl, sym, ap, subst, ◌∙◌, inl, inr, arith}
use Rattle.std.proofs.lemmas.Bool.{false≢true, eqb-true, eqb-false}
use Rattle.std.proofs.lemmas.Bool.Decides.{nat_tests}
use Rattle.std.specs.Map.{remove_entry}
use Rattle.std.specs.BTreeMap.{is_at}
use Rattle.std.specs.Ordering.{nat_cmp}
use Rattle.iris_fragment.specs.declared.piece.Piece.{Piece}
use Rattle.iris_need.specs.declared.need.Need.{Need}
use Rattle.iris_migrate.specs.declared.message.Message.TheVariants.{Reply}
use Rattle.iris_gather.specs.declared.entries.OpenGather.{OpenGather}
use Rattle.iris_gather.specs.Gathers.{need_at, replied}
use Rattle.iris_gather.specs.OpenGathers.{awaits, unlent}
use Rattle.iris_agent.specs.declared.turn.Turn.{Turn}
use Rattle.iris_agent.specs.Arrivals.{arrives, reply_taken}
use Rattle.iris_agent.specs.Handled.{only_change}
use Rattle.iris_agent.specs.Tables.{Tables}
use Rattle.iris_protocol.specs.Agent as protocol
use Rattle.iris_protocol.specs.Table.{Distinct, Among}
use Rattle.iris_protocol.specs.World.{without, answered_of}
use Rattle.iris_runs.specs.Alike.{WaitsOnce, MayBeHandled}
use Rattle.iris_runs.specs.Letters.{agent_of, arrival_of, gather_of, letter_of}
use Rattle.iris_runs.proofs.SeatTies.{gather_tie}

-- the numbers of asks
abbrev pub numbers_of : List (ℕ × Need) → List ℕ
numbers_of pending = map (λ entry. entry.0) pending

pub same_test : (ask key : ℕ) → nat_eq key ask ≡ is_at (nat_cmp ask) key
same_test ask key = grind (arith, nat_tests)

-- an ask that is not there is not taken out
not_there : (ask : ℕ) (pending : List (ℕ × Need)) → is_some (need_at pending ask) ≡ false → without ask (numbers_of pending) ≡ numbers_of pending
not_there ask [] none = refl
not_there ask (entry ∷ pending) none = go (nat_eq entry.0 ask) refl (not_there ask pending)
  where
    go : (same : Bool) → nat_eq entry.0 ask ≡ same → (is_some (need_at pending ask) ≡ false → without ask (numbers_of pending) ≡ numbers_of pending) → without ask (numbers_of (entry ∷ pending)) ≡ numbers_of (entry ∷ pending)
    go true e rest = absurd (false≢true (sym none ∙ ap is_some found))
      where
        found : need_at (entry ∷ pending) ask ≡ Some entry.1
        found = rw (sym (same_test ask entry.0) ∙ e) refl
    go false e rest = rw e (λ i. entry.0 ∷ rest (sym (ap is_some passed) ∙ none) i)
      where
        passed : need_at (entry ∷ pending) ask ≡ need_at pending ask
        passed = rw (sym (same_test ask entry.0) ∙ e) refl

-- an ask that is in front of others with different numbers is not among them
not_again : (ask : ℕ) (numbers : List ℕ) → (Among (λ other. other ≡ ask) numbers → ⊥) → without ask numbers ≡ numbers
not_again ask [] apart = refl
not_again ask (number ∷ numbers) apart = go (nat_eq number ask) refl (not_again ask numbers (λ there. apart (inr there)))
  where
    go : (same : Bool) → nat_eq number ask ≡ same → without ask numbers ≡ numbers → without ask (number ∷ numbers) ≡ number ∷ numbers
    go true e rest = absurd (apart (inl (eqb-true number ask e)))
    go false e rest = rw e (λ i. number ∷ rest i)

-- an ask that is there once is taken out
taken_out : (ask : ℕ) (pending : List (ℕ × Need)) → Distinct (numbers_of pending) → numbers_of (remove_entry (is_at (nat_cmp ask)) pending) ≡ without ask (numbers_of pending)
taken_out ask [] once = refl
taken_out ask (entry ∷ pending) once = go (nat_eq entry.0 ask) refl (taken_out ask pending once.1)
  where
    go : (same : Bool) → nat_eq entry.0 ask ≡ same → numbers_of (remove_entry (is_at (nat_cmp ask)) pending) ≡ without ask (numbers_of pending)
        → numbers_of (remove_entry (is_at (nat_cmp ask)) (entry ∷ pending)) ≡ without ask (numbers_of (entry ∷ pending))
    go true e rest = removed ∙ sym (kept ∙ not_again ask (numbers_of pending) (subst (λ number. Among (λ other. other ≡ number) (numbers_of pending) → ⊥) (eqb-true entry.0 ask e) once.0))
      where
        removed : numbers_of (remove_entry (is_at (nat_cmp ask)) (entry ∷ pending)) ≡ numbers_of pending
        removed = rw (sym (same_test ask entry.0) ∙ e) refl

        kept : without ask (numbers_of (entry ∷ pending)) ≡ without ask (numbers_of pending)
        kept = rw e refl
    go false e rest = removed ∙ ((λ i. entry.0 ∷ rest i) ∙ sym kept)
      where
        removed : numbers_of (remove_entry (is_at (nat_cmp ask)) (entry ∷ pending)) ≡ entry.0 ∷ numbers_of (remove_entry (is_at (nat_cmp ask)) pending)
        removed = rw (sym (same_test ask entry.0) ∙ e) refl

        kept : without ask (numbers_of (entry ∷ pending)) ≡ entry.0 ∷ without ask (numbers_of pending)
        kept = rw e refl

-- a gather at which the ask is not pending stays
unanswered : (ask : ℕ) (one : Option OpenGather) → awaits ask one ≡ false → answered_of ask (option_map gather_of one) ≡ option_map gather_of one
unanswered ask None none = refl
unanswered ask (Some one) none = λ i. Some (record (gather_of one) { pending = not_there ask one.gather.pending none i })

-- the one at which it is pending, which is not lent then
answered : (ask : ℕ) (pieces : List Piece) (one : OpenGather) → WaitsOnce one → awaits ask (Some one) ≡ true → gather_of (unlent (replied one.gather ask pieces)) ≡ record (gather_of one) { pending = without ask (numbers_of one.gather.pending) }
answered ask pieces one waits some = λ i. record { rank = (gather_of one).rank; pending = taken_out ask one.gather.pending waits.once i; parent = (gather_of one).parent; lent = not_lent one.lent refl i }
  where
    not_lent : (lent : Bool) → one.lent ≡ lent → false ≡ one.lent
    not_lent true e = absurd (false≢true (sym (ap (λ pending. is_some (need_at pending ask)) (waits.lent e)) ∙ some))
    not_lent false e = sym e

pub reply_arrives : (kept : Bool) (waiting : Option ℕ) (t : Tables) (turn : Turn) (ask : ℕ) (pieces : List Piece) → MayBeHandled t waiting (Reply ask pieces)
    → arrival_of (arrives kept waiting t turn (Reply ask pieces)) ≡ protocol.agent_arrives t.id (agent_of t) kept turn.next_gather (letter_of (Reply ask pieces))
unfolding agent_of
reply_arrives kept None t turn ask pieces may = λ i. record { agent = record { seat = (agent_of t).seat; gather = λ number. sym (unanswered ask (t.gather number) (may.0 number)) i; knows = t.asked }; next = turn.next_gather; steps = [] }
reply_arrives kept (Some number) t turn ask pieces may = go (t.gather number) refl
  where
    what : Type 0
    what = arrival_of (arrives kept (Some number) t turn (Reply ask pieces)) ≡ protocol.agent_arrives t.id (agent_of t) kept turn.next_gather (letter_of (Reply ask pieces))

    go : (at : Option OpenGather) → t.gather number ≡ at → what
    go None e = absurd (false≢true (sym (ap (awaits ask) e) ∙ may.0.0))
    go (Some one) e = (λ i. arrival_of (only_change (reply_taken t number ask pieces (e i)) turn)) ∙ λ i. record { agent = (gather_tie t number (Some (unlent (replied one.gather ask pieces))) ∙ there) i; next = turn.next_gather; steps = [] }
      where
        waits : WaitsOnce one
        waits = subst (λ at. IfSome at WaitsOnce) e (may.1 number)

        some : awaits ask (Some one) ≡ true
        some = sym (ap (awaits ask) e) ∙ may.0.0

        at : (other : ℕ) (same : Bool) → nat_eq other number ≡ same → (if nat_eq other number then Some (gather_of (unlent (replied one.gather ask pieces))) else option_map gather_of (t.gather other)) ≡ answered_of ask (option_map gather_of (t.gather other))
        at other true s = rw s (ap Some (answered ask pieces one waits some) ∙ sym (ap (λ there. answered_of ask (option_map gather_of there)) (ap t.gather (eqb-true other number s) ∙ e)))
        at other false s = rw s (sym (unanswered ask (t.gather other) (may.0.1 other (eqb-false other number s))))

        there : protocol.agent_gather (agent_of t) number (Some (gather_of (unlent (replied one.gather ask pieces)))) ≡ record (agent_of t) { gather = λ other. answered_of ask (option_map gather_of (t.gather other)) }
        there = λ i. record (agent_of t) { gather = λ other. at other (nat_eq other number) refl i }
