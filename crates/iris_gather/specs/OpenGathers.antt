-- The open gathers of an agent, by number.
use Rattle.std.specs.Prelude.{◌≡◌, ◌≢◌, ℕ, ◌<◌, Bool, true, false, not, ◌&&◌, ◌||◌, nat_eq, List, [], ◌∷◌, Option, Some, None, is_some, IsSome, IfSome}
use Rattle.std.specs.Map.{lookup, remove_entry}
use Rattle.std.specs.BTreeMap.{is_at}
use Rattle.std.specs.Ordering.{nat_cmp}
use Rattle.iris_gather.specs.declared.parent.Parent.{Parent}
use Rattle.iris_gather.specs.declared.parent.Parent.TheVariants.{Client, Ask}
use Rattle.iris_gather.specs.declared.entries.OpenGather.{OpenGather}
use Rattle.iris_gather.specs.Gathers.{Gathering, need_at}

-- open gathers with their numbers, which rise
abbrev pub OpenGathers : Type 0
OpenGathers = List (ℕ × OpenGather)

-- the open gather of that number
abbrev pub gather_at : OpenGathers → ℕ → Option OpenGather
gather_at gathers number = lookup (is_at (nat_cmp number)) gathers

-- a gather that is not lent
abbrev pub unlent : Gathering → OpenGather
unlent gather = record { gather = gather; lent = false }

-- a gather, lent or not
abbrev pub with_lent : Bool → OpenGather → OpenGather
with_lent lent one = record { gather = one.gather; lent = lent }

-- ---- of the gather of a number, if there is one

-- whether a list is empty
abbrev pub is_none_left : {A : Type 0} → List A → Bool
is_none_left [] = true
is_none_left (x ∷ xs) = false

-- whether nothing of it is pending
abbrev pub is_ready : Option OpenGather → Bool
is_ready None = false
is_ready (Some one) = is_none_left one.gather.pending

-- whether it is lent
abbrev pub is_lent : Option OpenGather → Bool
is_lent None = false
is_lent (Some one) = one.lent

-- whether it is due: nothing of it is pending, and it is not lent
abbrev pub is_due : Option OpenGather → Bool
is_due one = is_ready one && not (is_lent one)

-- whether a parent is that request of a client
abbrev pub is_request : ℕ → Parent → Bool
is_request request (Client own) = nat_eq request own
is_request request (Ask ask agent) = false

-- whether a parent is that ask
abbrev pub is_ask : ℕ → Parent → Bool
is_ask ask (Client request) = false
is_ask ask (Ask own agent) = nat_eq ask own

-- whether that request of a client is its parent
abbrev pub serves_request : ℕ → Option OpenGather → Bool
serves_request request None = false
serves_request request (Some one) = is_request request one.gather.parent

-- whether that ask is its parent
abbrev pub serves_ask : ℕ → Option OpenGather → Bool
serves_ask ask None = false
serves_ask ask (Some one) = is_ask ask one.gather.parent

-- whether its parent is that request, or that ask
abbrev pub serves : Parent → Option OpenGather → Bool
serves (Client request) one = serves_request request one
serves (Ask ask agent) one = serves_ask ask one

-- whether that ask is pending there
abbrev pub awaits : ℕ → Option OpenGather → Bool
awaits ask None = false
awaits ask (Some one) = is_some (need_at one.gather.pending ask)

-- whether that ask is its parent or is pending there
abbrev pub names : ℕ → Option OpenGather → Bool
names ask one = serves_ask ask one || awaits ask one

-- ---- of all gathers

-- some gather is so
abbrev pub AnyGather : (Option OpenGather → Bool) → OpenGathers → Type 0
AnyGather test gathers = (number : ℕ) × (test (gather_at gathers number) ≡ true)

-- no gather is so
abbrev pub NoGather : (Option OpenGather → Bool) → OpenGathers → Type 0
NoGather test gathers = (number : ℕ) → test (gather_at gathers number) ≡ false

-- at most one gather is so
abbrev pub AtMostOne : (Option OpenGather → Bool) → OpenGathers → Type 0
AtMostOne test gathers = (one other : ℕ) → test (gather_at gathers one) ≡ true → test (gather_at gathers other) ≡ true → one ≡ other

-- the lowest number of a gather that is due, and none where none is
abbrev pub IsLowestDue : OpenGathers → Option ℕ → Type 0
IsLowestDue gathers None = NoGather is_due gathers
IsLowestDue gathers (Some number) = (is_due (gather_at gathers number) ≡ true) × ((lower : ℕ) → lower < number → is_due (gather_at gathers lower) ≡ false)

-- the only gather at which that ask is pending, and none where none is
abbrev pub IsAwaiting : OpenGathers → ℕ → Option ℕ → Type 0
IsAwaiting gathers ask None = NoGather (awaits ask) gathers
IsAwaiting gathers ask (Some number) = (awaits ask (gather_at gathers number) ≡ true) × ((other : ℕ) → other ≢ number → awaits ask (gather_at gathers other) ≡ false)

-- at that number stands that, and all other gathers are as before
pub record Exchanged (old new : OpenGathers) (number : ℕ) (one : Option OpenGather) : Type 0 where
  pub there : gather_at new number ≡ one
  pub others : (other : ℕ) → other ≢ number → gather_at new other ≡ gather_at old other

-- each gather stands at its own number
abbrev pub HaveOwnNumbers : OpenGathers → Type 0
HaveOwnNumbers gathers = (number : ℕ) → IfSome (gather_at gathers number) (λ one. one.gather.id ≡ number)

-- The gather after a reply to that ask was taken: the ask was pending, is no more, and the other asks are as before.
pub record IsAnswered (ask : ℕ) (before after : Gathering) : Type 0 where
  pub parent_stays : after.parent ≡ before.parent
  pub was_pending : IsSome (need_at before.pending ask)
  pub pending_is : after.pending ≡ remove_entry (is_at (nat_cmp ask)) before.pending
