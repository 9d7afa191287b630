-- Whether a message is over, and which requests have an open gather.
use Rattle.std.proofs.Common.{◌≡◌, ℕ, zero, suc, Bool, true, false, List, [], ◌∷◌, Option, Some, None, refl, sym, ap, ◌∙◌, subst, if◌then◌else◌}
use Rattle.std.specs.Prelude.{MatchBool, option_map, slice_get}
use Rattle.iris_base.specs.declared.name.Label.{Label}
use Rattle.iris_tree.specs.declared.change.Change.{Change}
use Rattle.iris_xpath.specs.Syntax.{Syntax}
use Rattle.iris_migrate.specs.declared.message.Message.{Message}
use Rattle.iris_migrate.specs.declared.message.Message.TheVariants.{Query, Ask, Reply, Update, Handover}
use Rattle.iris_gather.specs.declared.entries.OpenGather.{OpenGather}
use Rattle.iris_gather.specs.declared.parent.Parent.{Parent}
use Rattle.iris_gather.specs.declared.parent.Parent.TheVariants as parents
use Rattle.iris_gather.specs.OpenGathers.{gather_at, is_request, serves_request}
use Rattle.iris_agent.specs.Tables.{Holdings, Tables, tables_of}
use Rattle.iris_protocol.specs.Good.{parent_at}
use Rattle.iris_protocol.specs.Program.{Tells, TellsDemand}
use Rattle.iris_protocol.specs.Table.{AgentId, numbers}
use Rattle.iris_protocol.specs.World as model
use Rattle.iris_runs.specs.Happenings.{is_over}
use Rattle.iris_runs.specs.Letters.{agent_of, gather_of, letter_of, parent_of}
use Rattle.iris_state.specs.Agents.{has_id, place_in}
use Rattle.iris_state.specs.City.{HaveOwnPlaces}
use Rattle.iris_state.specs.Events.{IsServed, IsUnserved, IsJudged}
use Rattle.iris_state.specs.Whole.{Whole, world_of}
use Rattle.iris_state.proofs.AgentTables.{at_none}
use Rattle.iris_state.proofs.DecidedAt.{agent_there}
use Rattle.iris_state.proofs.MayHere.{IsUnservedBy}

-- ---- places

-- at the place that was found there is an agent
pub place_there : (hs : List Holdings) (id : AgentId) (place : ℕ) → place_in id hs ≡ Some place → (h : Holdings) × (slice_get hs place ≡ Some h)
place_there [] id place is = absurd (cc)
place_there (x ∷ hs) id place is = either (λ m at. place_there hs id m at) (has_id id x) place is
  where
    later : ((m : ℕ) → place_in id hs ≡ Some m → (h : Holdings) × (slice_get hs m ≡ Some h)) → (o : Option ℕ) → place_in id hs ≡ o → (p : ℕ) → option_map suc o ≡ Some p → (h : Holdings) × (slice_get (x ∷ hs) p ≡ Some h)
    later go None at p is = absurd (cc)
    later go (Some n) at zero is = absurd (cc)
    later go (Some n) at (suc m) is = go m (at ∙ cc)

    either : ((m : ℕ) → place_in id hs ≡ Some m → (h : Holdings) × (slice_get hs m ≡ Some h)) → (b : Bool) (p : ℕ) → (if b then Some 0 else option_map suc (place_in id hs)) ≡ Some p → (h : Holdings) × (slice_get (x ∷ hs) p ≡ Some h)
    either go true zero is = (x, refl)
    either go true (suc p) is = absurd (cc)
    either go false p is = later go (place_in id hs) refl p is

-- ---- requests

parent_request : (request : ℕ) (parent : Parent) → Some (parent_of parent) ≡ Some (model.client request) → is_request request parent ≡ true
parent_request request (parents.Client own) is = let same : request ≡ own = cc in (numbers.decides request own).1 same
parent_request request (parents.Ask ask from) is = absurd (cc)

request_parent : (request : ℕ) (parent : Parent) → is_request request parent ≡ true → Some (parent_of parent) ≡ Some (model.client request)
request_parent request (parents.Client own) is = ap (λ (n : ℕ). Some (model.client n)) (sym ((numbers.decides request own).0 is))
request_parent request (parents.Ask ask from) is = absurd (cc)

serves_of : (request : ℕ) (one : Option OpenGather) → parent_at (option_map gather_of one) ≡ Some (model.client request) → serves_request request one ≡ true
serves_of request None is = absurd (cc)
serves_of request (Some one) is = parent_request request one.gather.parent is

parent_of_served : (request : ℕ) (one : Option OpenGather) → serves_request request one ≡ true → parent_at (option_map gather_of one) ≡ Some (model.client request)
parent_of_served request None is = absurd (cc)
parent_of_served request (Some one) is = request_parent request one.gather.parent is

-- ---- open gathers of all agents

-- an agent outside has none
outside_serves : (old : Whole) (request : ℕ) (a : AgentId) (number : ℕ) → place_in a old.agents ≡ None → parent_at (option_map gather_of (((world_of old).agent a).gather number)) ≡ Some (model.client request) → ⊥
unfolding world_of
outside_serves old request a number none is =
    let nobody = sym (ap (λ (t : Tables). parent_at (option_map gather_of (t.gather number))) (at_none old.book.history.start old.agents a none)) ∙ is in
    absurd (cc)

-- what the agents tell of a request, the protocol is told
tells_request : (old : Whole) (request : ℕ) (b : Bool) → HaveOwnPlaces old.agents → MatchBool b (IsServed old.agents request) (IsUnserved old.agents request)
    → TellsDemand (λ a. agent_of ((world_of old).agent a)) b (model.query request)
unfolding agent_of tables_of
tells_request old request true own served =
    let agent = agent_there old served.1.id served.0 served.1 (own served.0 served.1 served.2.0) served.2.0 in
    (served.1.id, served.2.1.0, ap (λ (t : Tables). parent_at (option_map gather_of (t.gather served.2.1.0))) agent ∙ parent_of_served request (gather_at served.1.gathers served.2.1.0) served.2.1.1)
tells_request old request false own unserved = λ a number is. by (outside_serves old request) a number is (place_in a old.agents) refl
  where
    by : ((a : AgentId) (number : ℕ) → place_in a old.agents ≡ None → parent_at (option_map gather_of (((world_of old).agent a).gather number)) ≡ Some (model.client request) → ⊥)
        → (a : AgentId) (number : ℕ) → parent_at (option_map gather_of (((world_of old).agent a).gather number)) ≡ Some (model.client request) → (o : Option ℕ) → place_in a old.agents ≡ o → ⊥
    by none a number is None at = none a number at is
    by none a number is (Some place) at =
        let h = place_there old.agents a place at in
        let agent = agent_there old a place h.0 at h.1 in
        let served = serves_of request (gather_at h.0.gathers number) (ap (λ (t : Tables). parent_at (option_map gather_of (t.gather number))) (sym agent) ∙ is) in
        let no = unserved place h.0 h.1 number in
        absurd (cc)

-- ---- whether a message is over

pub judged_query : (old : Whole) (message : Message) (request : ℕ) (asked : Syntax) (name : List Label) (epoch floor : ℕ) (serving over : Bool) → HaveOwnPlaces old.agents → message ≡ Query request asked name epoch floor
    → MatchBool serving (IsServed old.agents request) (IsUnserved old.agents request)
    → over ≡ (if (world_of old).closed request then true else serving)
    → IsJudged (world_of old) message over
judged_query old message request asked name epoch floor serving over own is served same = subst (λ (m : Message). IsJudged (world_of old) m over) (sym is) (record {
  serving = serving;
  tells = tells_request old request serving own served;
  judged = same;
})

pub judged_update : (old : Whole) (message : Message) (request : ℕ) (name : List Label) (epoch number : ℕ) (changes : List Change) (over : Bool) → message ≡ Update request name epoch number changes
    → over ≡ (world_of old).closed request
    → IsJudged (world_of old) message over
judged_update old message request name epoch number changes over is same = subst (λ (m : Message). IsJudged (world_of old) m over) (sym is) (record { serving = false; tells = tt; judged = same })

-- an agent of the city has no open gather for a request that none serves
unserved_request : (old : Whole) (request : ℕ) (id : AgentId) (place : ℕ) (h : Holdings) → place_in id old.agents ≡ Some place → slice_get old.agents place ≡ Some h
    → TellsDemand (λ a. agent_of ((world_of old).agent a)) false (model.query request)
    → (number : ℕ) (b : Bool) → serves_request request (gather_at h.gathers number) ≡ b → b ≡ false
unfolding agent_of tables_of
unserved_request old request id place h is there tells number false serves = refl
unserved_request old request id place h is there tells number true serves =
    absurd (tells id number (ap (λ (t : Tables). parent_at (option_map gather_of (t.gather number))) (agent_there old id place h is there) ∙ parent_of_served request (gather_at h.gathers number) serves))

not_served : (closed serving : Bool) → (if closed then true else serving) ≡ false → serving ≡ false
not_served true serving over = absurd (cc)
not_served false serving over = over

-- an agent of the city has no open gather for a query that is not over
pub unserved_by : (old : Whole) (message : Message) (serving : Bool) (id : AgentId) (place : ℕ) (h : Holdings) → place_in id old.agents ≡ Some place → slice_get old.agents place ≡ Some h
    → is_over (world_of old) serving message ≡ false
    → Tells (λ a. agent_of ((world_of old).agent a)) serving (letter_of message)
    → IsUnservedBy h.gathers message
unserved_by old (Query request asked name epoch floor) serving id place h is there over tells =
    let false_is = not_served ((world_of old).closed request) serving over in
    λ number. unserved_request old request id place h is there
    (subst (λ (b : Bool). TellsDemand (λ a. agent_of ((world_of old).agent a)) b (model.query request)) false_is tells) number (serves_request request (gather_at h.gathers number)) refl
unserved_by old (Ask number from asked start epoch floor) serving id place h is there over tells = tt
unserved_by old (Reply number pieces) serving id place h is there over tells = tt
unserved_by old (Update request name epoch number changes) serving id place h is there over tells = tt
unserved_by old (Handover handed) serving id place h is there over tells = tt
