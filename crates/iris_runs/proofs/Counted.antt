-- A request that has its outcome at once: the protocol has a history in which the next request was refused.
use Rattle.std.proofs.Common.{◌≡◌, ◌⊎◌, ℕ, suc, ◌<◌, false, true, List, [], Some, refl, sym, ap, ◌∙◌, arith}
use Rattle.iris_protocol.specs.Table.{AgentId, Name, numbers, set_at}
use Rattle.iris_protocol.specs.World as model
use Rattle.iris_protocol.specs.World.{Demand, query, update, ask, key, request, Mail, client, RequestTable, noted, AskTable, Status, idle, opened, done, refused, is_done}
use Rattle.iris_protocol.specs.Good.{Idle, KnownDemand, Sent, Waiting, parent_at, Requests, acts, Good}
use Rattle.iris_protocol.specs.Program as protocol
use Rattle.iris_protocol.specs.Program.{Program, Known}
use Rattle.iris_protocol.proofs.Tables.{at_other, at_each, Each-weaker, Each-both}
use Rattle.iris_protocol.proofs.Letters.{letters_noted}
use Rattle.iris_protocol.proofs.Booked.{booked_status}
use Rattle.iris_protocol.proofs.Programs.{field_at}
use Rattle.iris_runs.specs.Happenings.{counted}
use Rattle.iris_runs.specs.Worlds.{World, program_of}

-- ---- the history

-- the history in which the next request was refused
abbrev with_refused : model.World → model.World
with_refused w = record w { requested = noted w.requested [] false; status = set_at numbers w.status w.requested.count (done refused) }

-- a message tells a request that was made before, of which nothing changes
idle_before : (d : RequestTable) (q : AskTable) (status : ℕ → Status) (s : Status) (n : Name) (demand : Demand) → KnownDemand d q n demand → Idle status (key demand) → Idle (set_at numbers status d.count s) (key demand)
idle_before d q status s n (query r) known is = let before = known.0 in at_other numbers status d.count s r (omega arith) ∙ is
idle_before d q status s n (update r number) known is = let before = known.0 in at_other numbers status d.count s r (omega arith) ∙ is
idle_before d q status s n (ask i from rank) known is = tt

requests_refused : (w : model.World) → Good w [] [] → Requests w.node (with_refused w).requested (with_refused w).status w.gather w.posted [] []
requests_refused w good = record {
  parked = λ n a. Each-weaker _ _ ((w.node n).seat a).parked (λ (m : Mail) h. idle_before w.requested w.asks w.status (done refused) n m.demand h.0 h.1)
      (Each-both _ _ ((w.node n).seat a).parked (good.letters.parked n a) (good.requests.parked n a));
  free = tt;
  distinct = tt;
  clients = λ a g r e.
      let h = good.requests.clients a g r e in
      let before = h.0 in
      (omega arith, at_other numbers w.requested.updates w.requested.count false r (omega arith) ∙ h.1, at_other numbers w.status w.requested.count (done refused) r (omega arith) ∙ h.2);
  serving = λ r a g. at_each numbers (λ k (x : Status). x ≡ opened a g → parent_at (w.gather a g) ≡ Some (client k)) w.status w.requested.count (done refused) (λ e. absurd (cc)) (λ k ne e. good.requests.serving k a g e) r;
  carried = at_each numbers (λ k (x : Status). k < suc w.requested.count → x ≡ idle → Sent w.posted [] (request k) ⊎ ((a : AgentId) × Waiting w.node [] a (request k))) w.status w.requested.count (done refused)
      (λ before e. absurd (cc)) (λ k ne before e. good.requests.carried k (omega arith) e);
  unasked = λ r le. at_other numbers w.status w.requested.count (done refused) r (omega arith) ∙ good.requests.unasked r (omega arith);
}

refused_good : (w : model.World) → Good w [] [] → Good (with_refused w) [] []
refused_good w good = record {
  titles = good.titles;
  letters = letters_noted w.node w.requested w.asks w.posted [] false good.letters;
  requests = requests_refused w good;
  gathers = good.gathers;
  returns = good.returns;
  booked = booked_status w.node w.status w.book w.requested.count (done refused) (ap acts (good.requests.unasked w.requested.count (omega arith))) good.booked;
}

-- ---- what the protocol sees

-- the program with one request more, which has its outcome
abbrev counting : Program → Program
counting t = record t { closed = set_at numbers t.closed t.requests true; requests = suc t.requests }

refused_seen : (w : model.World) → protocol.program_of (with_refused w) ≡ counting (protocol.program_of w)
refused_seen w = λ i. record (protocol.program_of w) { closed = field_at numbers is_done w.status w.requested.count (done refused) true refl i; requests = suc w.requested.count }

counted_seen : (w : World) (accepted : List model.Entry) → program_of (counted w) accepted ≡ counting (program_of w accepted)
unfolding program_of
counted_seen w accepted = refl

pub counted_known : (w : World) (accepted : List model.Entry)
    → Known (program_of w accepted)
    → Known (program_of (counted w) accepted)
counted_known w accepted known = record {
  world = with_refused known.world;
  is = refused_seen known.world ∙ ap counting known.is ∙ sym (counted_seen w accepted);
  good = refused_good known.world known.good;
}
