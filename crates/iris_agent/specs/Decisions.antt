-- What a gather's decision leaves.
use Rattle.std.specs.Prelude.{◌≡◌, ℕ, ◌+◌, ◌≤◌, List, [], ◌∷◌, All, IsSome, Some, None, fold, length, map, unwrap_or}
use Rattle.iris_base.specs.declared.cite.Cite.{Cite}
use Rattle.iris_base.specs.declared.name.Label.{Label}
use Rattle.iris_tree.specs.declared.item.Item.{Item}
use Rattle.iris_xpath.specs.Syntax.{Syntax}
use Rattle.iris_need.specs.declared.need.Need.{Need}
use Rattle.iris_need.specs.declared.need.Start.{Start}
use Rattle.iris_need.specs.Decided.{pieces_for}
use Rattle.iris_need.specs.Needs.{from_document, support_of}
use Rattle.iris_need.specs.Pieces.{Pieces, pieces_in}
use Rattle.iris_route.specs.Titles.{Titles, title_at}
use Rattle.iris_cache.specs.Recency.{Cache, touched}
use Rattle.iris_migrate.specs.declared.message.Message.TheVariants as messages
use Rattle.iris_gather.specs.declared.basis.Basis.{Basis}
use Rattle.iris_gather.specs.declared.entries.OpenGather.{OpenGather}
use Rattle.iris_gather.specs.declared.parent.Parent.{Parent}
use Rattle.iris_gather.specs.declared.parent.Parent.TheVariants as parents
use Rattle.iris_gather.specs.declared.verdict.Verdict.{Verdict}
use Rattle.iris_gather.specs.declared.verdict.Verdict.TheVariants.{Done, Asks}
use Rattle.iris_gather.specs.Basis.{cites_of}
use Rattle.iris_gather.specs.Gathers.{Gathering, settled}
use Rattle.iris_gather.specs.Laid.{laid}
use Rattle.iris_gather.specs.OpenGathers.{gather_at, unlent, awaits, NoGather}
use Rattle.iris_gather.specs.Verdicts.{IsVerdict}
use Rattle.iris_agent.specs.declared.step.Step.{Step}
use Rattle.iris_agent.specs.declared.step.Step.TheVariants as steps
use Rattle.iris_agent.specs.declared.turn.Turn.{Turn}
use Rattle.iris_agent.specs.Tables.{Holdings, Tables, tables_of, with_cache, with_gather}
use Rattle.iris_agent.specs.Handled.{Handled, Does}

-- ---- what is decided

-- the view of a gather, laid over what the agent holds and may use for the gather's floor
abbrev pub laid_view : Holdings → ℕ → Gathering → Pieces
laid_view h now g = laid h.cache.contents g.floor now g.view

-- The verdict of a query from a start over a view, with the pieces and the cites of that view on which it rests.
pub record IsBasis (query : Syntax) (start : Start) (over : Pieces) (basis : Basis) : Type 0 where
  pub verdict : IsVerdict query start over basis.verdict
  pub pieces : basis.pieces ≡ pieces_for over (support_of query start over)
  pub cites : basis.cites ≡ cites_of query start over

-- ---- asks

-- where the evaluation of an asked need starts
abbrev pub start_of : Label → Need → Start
start_of top need = record { top = top; name = need.name; level = need.level; states = need.states }

-- a need is posted as an ask of that number: to the owner of its node by the registry, with the node's epoch
abbrev pub ask_posted : Titles → List ℕ → Gathering → ℕ × Need → Step
ask_posted registry id g ask =
    let title = unwrap_or (title_at registry ask.1.name) ([], 0) in
    steps.Post title.0 (messages.Ask ask.0 id g.query (start_of g.start.top ask.1) title.1 g.floor)

-- each pending ask of a gather is posted, in the order of numbers
abbrev pub asks_posted : Titles → List ℕ → Gathering → List Step
asks_posted registry id g = map (ask_posted registry id g) g.pending

-- ---- the end

-- a client gets the answer, and an agent that asks all pieces of the view
abbrev pub ending : Gathering → List Item → List Cite → Parent → Step
ending g items cites (parents.Client request) = steps.Answered request g.query g.floor items cites
ending g items cites (parents.Ask ask agent) = steps.Post agent (messages.Reply ask (pieces_in g.view))

-- ---- a decision

-- each copy among the nodes of these needs was used, in their order
abbrev pub all_touched : Cache → List Need → Cache
all_touched cache needs = fold (λ used need. touched used need.name) cache needs

-- the turn once so many numbers that were free for asks are taken
abbrev pub next_asks : Turn → ℕ → Turn
next_asks turn count = record turn { next_ask = turn.next_ask + count }

-- A gather, which took the pieces of its verdict, goes on by it: with nothing missing it ends, and else it waits for what it asks.
abbrev pub judged : Titles → Tables → Turn → ℕ → Gathering → List Cite → Verdict → Handled
judged registry t turn number g cites (Done support items) = record {
  tables = with_gather (with_cache t (all_touched t.cache support)) number None;
  turn = turn;
  entries = [];
  steps = ending g items cites g.parent ∷ [];
}
judged registry t turn number g cites (Asks support missing) = record {
  tables = with_gather (with_cache t (all_touched t.cache support)) number (Some (unlent g));
  turn = next_asks turn (length missing);
  entries = [];
  steps = asks_posted registry t.id g;
}

-- a gather takes the pieces of what it decided, and goes on
abbrev pub decides : Titles → Holdings → Turn → ℕ → Gathering → Basis → Handled
decides registry h turn number g basis = judged registry (tables_of h) turn number (settled g basis.verdict basis.pieces turn.next_ask) basis.cites basis.verdict

-- ---- the event

-- no ask of that number or a greater one is pending
abbrev pub AreFreeAsks : Holdings → ℕ → Type 0
AreFreeAsks h next = (ask : ℕ) → next ≤ ask → NoGather (awaits ask) h.gathers

-- an evaluation may start there: at a node, or at the document as the query of a client does
abbrev pub MayStart : Start → Type 0
MayStart start = start.name ≡ [] → start ≡ from_document start.top

-- the registry has the nodes of these needs
abbrev pub AreRouted : Titles → List Need → Type 0
AreRouted registry needs = All (λ need. IsSome (title_at registry need.name)) needs

-- The gather of that number decided over its laid view.
pub record HasDecided (registry : Titles) (old new : Holdings) (turn after : Turn) (number : ℕ) (made : List Step) : Type 0 where
  pub one : OpenGather
  pub there : gather_at old.gathers number ≡ Some one
  pub basis : Basis
  pub decided : IsBasis one.gather.query one.gather.start (laid_view old turn.now one.gather) basis
  pub does : Does new after made (decides registry old turn number one.gather basis)
