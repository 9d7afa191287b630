-- What an agent decides, and that it gives a node away, is what the protocol says.
use Rattle.std.proofs.Common.{◌≡◌, ℕ, ◌+◌, List, [], ◌∷◌, ◌++◌, length, map, Option, Some, None, option_map, false, refl, sym, ap, ◌∙◌, add-one}
use Rattle.std.specs.List.{enumerate_from}
use Rattle.std.proofs.lemmas.List.{length-map}
use Rattle.iris_base.specs.declared.cite.Cite.{Cite}
use Rattle.iris_fragment.specs.declared.piece.Piece.{Piece}
use Rattle.iris_tree.specs.declared.item.Item.{Item}
use Rattle.iris_xpath.specs.Syntax.{Syntax}
use Rattle.iris_need.specs.declared.need.Need.{Need}
use Rattle.iris_need.specs.declared.need.Start.{Start}
use Rattle.iris_need.specs.Pieces.{Pieces}
use Rattle.iris_route.specs.Titles.{Titles}
use Rattle.iris_cache.specs.Recency.{Cache, released_in}
use Rattle.iris_migrate.specs.Titles as seats
use Rattle.iris_gather.specs.declared.entries.OpenGather.{OpenGather}
use Rattle.iris_gather.specs.declared.parent.Parent.{Parent}
use Rattle.iris_gather.specs.declared.parent.Parent.TheVariants as parents
use Rattle.iris_gather.specs.declared.verdict.Verdict.{Verdict}
use Rattle.iris_gather.specs.declared.verdict.Verdict.TheVariants.{Done, Asks}
use Rattle.iris_gather.specs.Gathers.{Gathering, settled}
use Rattle.iris_gather.specs.OpenGathers.{unlent}
use Rattle.iris_gather.specs.Verdicts.{IsVerdict, asks_of}
use Rattle.iris_agent.specs.declared.give.Move.{Move}
use Rattle.iris_agent.specs.declared.turn.Turn.{Turn}
use Rattle.iris_agent.specs.Decisions.{all_touched, ask_posted, ending, judged}
use Rattle.iris_agent.specs.Gives.{gives}
use Rattle.iris_agent.specs.Tables.{Tables, with_cache, with_gather}
use Rattle.iris_protocol.specs.Agent.{Handled, agent_gather, agent_gives, agent_ends, agent_judged, ask_steps, numbered}
use Rattle.iris_runs.specs.Letters.{agent_of, decision_of, gather_of, need_of, parent_of, step_of}
use Rattle.iris_runs.specs.Worlds.{owner_of, epoch_of}
use Rattle.iris_runs.specs.Alike.{AsksForSome}
use Rattle.iris_runs.proofs.SeatTies.{gather_tie, seat_tie}

-- ---- the asks

-- the numbers of pending asks
numbers_are : (first : ℕ) (needs : List Need) → map (λ (ask : ℕ × Need). ask.0) (enumerate_from first needs) ≡ numbered first (map need_of needs)
numbers_are first [] = refl
numbers_are first (need ∷ needs) = λ i. first ∷ (numbers_are (first + 1) needs ∙ ap (λ (next : ℕ). numbered next (map need_of needs)) (add-one first)) i

-- the asks that are posted
posts_are : (registry : Titles) (id : List ℕ) (g : Gathering) (first : ℕ) (needs : List Need)
    → map (step_of []) (map (ask_posted registry id g) (enumerate_from first needs)) ≡ ask_steps (owner_of registry) (epoch_of registry) id first (map need_of needs)
posts_are registry id g first [] = refl
posts_are registry id g first (need ∷ needs) = λ i.
    step_of [] (ask_posted registry id g (first, need)) ∷ (posts_are registry id g (first + 1) needs ∙ ap (λ (next : ℕ). ask_steps (owner_of registry) (epoch_of registry) id next (map need_of needs)) (add-one first)) i

-- ---- decisions

-- the verdict of an evaluation asks for something, where something is missing
pub verdict_asks : (query : Syntax) (start : Start) (view : Pieces) (verdict : Verdict) → IsVerdict query start view verdict → AsksForSome verdict
verdict_asks query start view (Done support items) is = tt
verdict_asks query start view (Asks support missing) is = is.some

-- a gather changes beside the cache, which the protocol doesn't see
beside_cache : (t : Tables) (cache : Cache) (number : ℕ) (one : Option OpenGather) → agent_of (with_gather (with_cache t cache) number one) ≡ agent_gather (agent_of t) number (option_map gather_of one)
unfolding agent_of
beside_cache t cache number one = gather_tie (with_cache t cache) number one

-- the gather is over
ended : (t : Tables) (cache : Cache) (next number : ℕ) (g : Gathering) (items : List Item) (cites : List Cite) (parent : Parent)
    → (let x : Handled = record { agent = agent_of (with_gather (with_cache t cache) number None); next = next; steps = step_of [] (ending g items cites parent) ∷ [] } in x) ≡ agent_ends (agent_of t) next number (parent_of parent)
ended t cache next number g items cites (parents.Client request) = λ i. record { agent = beside_cache t cache number None i; next = next; steps = step_of [] (ending g items cites (parents.Client request)) ∷ [] }
ended t cache next number g items cites (parents.Ask ask from) = λ i. record { agent = beside_cache t cache number None i; next = next; steps = step_of [] (ending g items cites (parents.Ask ask from)) ∷ [] }

pub decision_tie : (registry : Titles) (t : Tables) (turn : Turn) (number : ℕ) (one : OpenGather) (cites : List Cite) (pieces : List Piece) (verdict : Verdict)
    → AsksForSome verdict
    → one.gather.pending ≡ []
    → decision_of (judged registry t turn number (settled one.gather verdict pieces turn.next_ask) cites verdict)
    ≡ agent_judged (owner_of registry) (epoch_of registry) t.id (agent_of t) turn.next_ask number (gather_of one) (map need_of (asks_of verdict))
decision_tie registry t turn number one cites pieces (Done support items) some idle =
    ended t (all_touched t.cache support) turn.next_ask number (settled one.gather (Done support items) pieces turn.next_ask) items cites one.gather.parent
decision_tie registry t turn number one cites pieces (Asks support []) some idle = absurd (some refl)
decision_tie registry t turn number one cites pieces (Asks support (need ∷ needs)) some idle = λ i. record {
  agent = agent i;
  next = turn.next_ask + count i;
  steps = posts_are registry t.id after turn.next_ask (need ∷ needs) i;
}
  where
    after : Gathering
    after = settled one.gather (Asks support (need ∷ needs)) pieces turn.next_ask

    pending : map (λ (ask : ℕ × Need). ask.0) after.pending ≡ map (λ (ask : ℕ × Need). ask.0) one.gather.pending ++ numbered turn.next_ask (map need_of (need ∷ needs))
    pending = numbers_are turn.next_ask (need ∷ needs) ∙ sym (ap (λ (asks : List (ℕ × Need)). map (λ (ask : ℕ × Need). ask.0) asks ++ numbered turn.next_ask (map need_of (need ∷ needs))) idle)

    agent : agent_of (with_gather (with_cache t (all_touched t.cache support)) number (Some (unlent after)))
        ≡ agent_gather (agent_of t) number (Some (record (gather_of one) { pending = (gather_of one).pending ++ numbered turn.next_ask (map need_of (need ∷ needs)); lent = false }))
    agent = beside_cache t (all_touched t.cache support) number (Some (unlent after)) ∙ ap (λ (asks : List ℕ). agent_gather (agent_of t) number (Some (record (gather_of one) { pending = asks; lent = false }))) pending

    count : length (need ∷ needs) ≡ length (map need_of (need ∷ needs))
    count = sym (length-map (need ∷ needs) need_of)

-- ---- moves

pub give_tie : (t : Tables) (turn : Turn) (m : Move) → agent_of (gives t turn m).tables ≡ agent_gives (agent_of t) m.name m.to m.epoch
unfolding agent_of
give_tie t turn m = seat_tie (with_cache t (released_in t.cache m.name turn.now)) m.name (seats.given (t.seat m.name) m.to m.epoch)
