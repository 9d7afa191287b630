-- What the calls of an agent ask for, in a good city.
use Rattle.std.proofs.Common.{◌≡◌, ℕ, ◌≤◌, Option, Some, All, sym, ap, ◌∙◌, subst}
use Rattle.std.proofs.lemmas.List.Elements.{All-weaker}
use Rattle.std.specs.Option.{ForSome}
use Rattle.std.specs.Prelude.{IfSome}
use Rattle.iris_fragment.specs.Changes.{version_at}
use Rattle.iris_need.specs.Needs.{missing_of}
use Rattle.iris_book.specs.Book.{History, Recorded, latest, updates_in, value_at}
use Rattle.iris_migrate.specs.declared.message.Handover.{Handover as Handed}
use Rattle.iris_migrate.specs.declared.message.Message.{Message}
use Rattle.iris_migrate.specs.declared.message.Message.TheVariants.{Query, Ask, Reply, Update, Handover}
use Rattle.iris_migrate.specs.Titles.{seat_at}
use Rattle.iris_gather.specs.declared.entries.OpenGather.{OpenGather}
use Rattle.iris_gather.specs.Laid.{laid}
use Rattle.iris_gather.specs.OpenGathers.{OpenGathers, NoGather, gather_at, awaits, serves_request, serves_ask}
use Rattle.iris_agent.specs.Decisions.{AreFreeAsks, AreRouted, MayStart, laid_view}
use Rattle.iris_agent.specs.Events.{AreFree, IsBookOf, FitsHandover, MayArrive, MayOpen}
use Rattle.iris_agent.specs.Tables.{Holdings, Tables, tables_of}
use Rattle.iris_agent.specs.Updates.{value_owned}
use Rattle.iris_protocol.specs.Table.{AgentId}
use Rattle.iris_runs.specs.Acting.{FitsAt, MayOpenAt}
use Rattle.iris_runs.specs.Good.{Past, IsGood}
use Rattle.iris_runs.specs.Worlds.{World}
use Rattle.iris_runs.proofs.Acting.{ask_is_free, handover_fits, may_start, missing_routed, newest_is_owned, number_is_free, unmet_unserved}

-- the numbers from the next one on are free for its asks
pub free_asks_here : (w : World) (past : Past) (id : AgentId) (h : Holdings) → IsGood w past → w.agent id ≡ tables_of h → AreFreeAsks h w.turn.next_ask
unfolding tables_of
free_asks_here w past id h good agent = λ ask later number. ap (λ (t : Tables). awaits ask (t.gather number)) (sym agent) ∙ ask_is_free w past good id ask number later

-- an evaluation may start where its gathers do
pub starts_here : (w : World) (past : Past) (id : AgentId) (h : Holdings) (number : ℕ) → IsGood w past → w.agent id ≡ tables_of h → ForSome (gather_at h.gathers number) (λ one. MayStart one.gather.start)
unfolding tables_of
starts_here w past id h number good agent = for_some (gather_at h.gathers number) (subst (λ (t : Tables). IfSome (t.gather number) (λ one. MayStart one.gather.start)) agent (may_start w past good id number))
  where
    for_some : (o : Option OpenGather) → IfSome o (λ one. MayStart one.gather.start) → ForSome o (λ one. MayStart one.gather.start)
    for_some o may = λ one there. subst (λ x. IfSome x (λ one. MayStart one.gather.start)) there may

-- the registry has the nodes that its gathers lack
pub routed_here : (w : World) (past : Past) (id : AgentId) (h : Holdings) (number : ℕ) → IsGood w past → w.agent id ≡ tables_of h
    → ForSome (gather_at h.gathers number) (λ one. AreRouted w.registry (missing_of one.gather.query one.gather.start (laid_view h w.turn.now one.gather)))
unfolding tables_of
routed_here w past id h number good agent = λ one there.
    subst (λ (t : Tables). AreRouted w.registry (missing_of one.gather.query one.gather.start (laid t.cache.contents one.gather.floor w.turn.now one.gather.view))) agent
    (missing_routed w past good id number one (ap (λ (t : Tables). t.gather number) agent ∙ there))

-- numbers from the next one on are free for its gathers
pub free_here : (w : World) (past : Past) (id : AgentId) (h : Holdings) → IsGood w past → w.agent id ≡ tables_of h → AreFree h w.turn.next_gather
unfolding tables_of
free_here w past id h good agent = λ number later. ap (λ (t : Tables). t.gather number) (sym agent) ∙ number_is_free w past good id number later

-- the book's newest values of its nodes are its own
pub book_here : (w : World) (past : Past) (id : AgentId) (h : Holdings) (book : Recorded) → IsGood w past → w.agent id ≡ tables_of h → book.history ≡ w.history → IsBookOf h book
unfolding tables_of
book_here w past id h book good agent same = λ name version at.
    let own = newest_is_owned w past good id name version (ap (λ (t : Tables). version_at t.cache.contents name) agent ∙ at) in
    (ap (λ (b : History). latest b name) same ∙ own.0, ap (λ (b : History). value_at b name version) same ∙ own.1 ∙ ap (λ (t : Tables). value_owned t.cache.contents name) agent)

-- no update in the book came later
pub times_here : (w : World) (past : Past) (history : History) → IsGood w past → history ≡ w.history → All (λ u. u.1.at ≤ w.turn.now) (updates_in history.entries)
times_here w past history good same = subst (λ (b : History). All (λ u. u.1.at ≤ w.turn.now) (updates_in b.entries)) (sym same) good.present.past

-- a query may arrive where no gather of the agent is for its request
abbrev pub IsUnservedBy : OpenGathers → Message → Type 0
IsUnservedBy gathers (Query request asked name epoch floor) = NoGather (serves_request request) gathers
IsUnservedBy gathers (Ask ask from asked start epoch floor) = Unit {0}
IsUnservedBy gathers (Reply ask pieces) = Unit {0}
IsUnservedBy gathers (Update request name epoch number changes) = Unit {0}
IsUnservedBy gathers (Handover handed) = Unit {0}

may_open : (h : Holdings) (message : Message) → MayOpenAt (tables_of h) message → MayOpen h message
unfolding tables_of
may_open h (Query request asked name epoch floor) may = may
may_open h (Ask ask from asked start epoch floor) may = may
may_open h (Reply ask pieces) may = tt
may_open h (Update request name epoch number changes) may = tt
may_open h (Handover handed) may = tt

fits_holdings : (h : Holdings) (handed : Handed) → FitsAt (tables_of h) handed → FitsHandover h handed
unfolding tables_of
fits_holdings h handed fits = record {
  own = fits.own;
  last = fits.last;
  named = fits.named;
  whole = fits.whole;
  place = fits.place;
  released = All-weaker (MayOpenAt (tables_of h)) (MayOpen h) (may_open h) (seat_at h.titles handed.name).parked fits.released;
}

-- a kept post may arrive at its addressee
pub may_arrive_here : (w : World) (past : Past) (k : ℕ) (to : AgentId) (message : Message) (h : Holdings) → IsGood w past → w.agent to ≡ tables_of h → w.post k ≡ Some (record { to = to; message = message })
    → IsUnservedBy h.gathers message → MayArrive h message
unfolding tables_of
may_arrive_here w past k to (Query request asked name epoch floor) h good agent there unserved = unserved
may_arrive_here w past k to (Ask ask from asked start epoch floor) h good agent there unserved = λ unmet number.
    ap (λ (t : Tables). serves_ask ask (t.gather number)) (sym agent) ∙ unmet_unserved w past good to ask number (ap (λ (t : Tables). t.asked ask) agent ∙ unmet)
may_arrive_here w past k to (Reply ask pieces) h good agent there unserved = tt
may_arrive_here w past k to (Update request name epoch number changes) h good agent there unserved = tt
may_arrive_here w past k to (Handover handed) h good agent there unserved = fits_holdings h handed (subst (λ (t : Tables). FitsAt t handed) agent (handover_fits w past good k to handed there))
