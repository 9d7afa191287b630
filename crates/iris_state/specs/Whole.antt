-- All that a city has, in its parts, and the city that it is.
use Rattle.std.specs.Prelude.{ℕ, ◌<◌, List, [], option_map, refl}
use Rattle.std.specs.Coded.{Coded, code_by, coded×, coded_ℕ, coded_list}
use Rattle.iris_base.specs.declared.name.Label.{Label}
use Rattle.iris_route.specs.Titles.{Titles}
use Rattle.iris_book.specs.Book.{Recorded}
use Rattle.iris_posts.specs.declared.post.Post.{Post}
use Rattle.iris_posts.specs.Posts.{post_at, is_seen}
use Rattle.iris_agent.specs.declared.step.Step.{Step}
use Rattle.iris_agent.specs.declared.step.Step.TheVariants as steps
use Rattle.iris_agent.specs.declared.turn.Turn.{Turn}
use Rattle.iris_agent.specs.Tables.{Holdings}
use Rattle.iris_runs.specs.Worlds.{Sent, World}
use Rattle.iris_state.specs.Agents.{agent_by}
use Rattle.iris_outbox.specs.Outbox.{Outgoing}
use Rattle.iris_outbox.specs.Requests.{Asked, is_closed}

pub record Whole : Type 0 where
  pub registry : Titles
  pub agents : List Holdings
  pub outbox : Outgoing
  pub requests : Asked
  pub turn : Turn
  pub book : Recorded

-- how proofs store that
abbrev pub whole_code : Coded Label → Coded Holdings → Coded Outgoing → Coded Turn → Coded Recorded → Coded Whole
whole_code label agent outbox turn book =
    code_by (Titles × (List Holdings × (Outgoing × ((ℕ × (List ℕ × List ℕ)) × (Turn × Recorded)))))
    (coded× (coded_list (coded× (coded_list label) (coded× (coded_list coded_ℕ) coded_ℕ))) (coded× (coded_list agent) (coded× outbox (coded× (coded× coded_ℕ (coded× (coded_list coded_ℕ) (coded_list coded_ℕ))) (coded× turn book)))))
    (λ c. (c.registry, (c.agents, (c.outbox, ((c.requests.made, (c.requests.queries, c.requests.updates)), (c.turn, c.book))))))
    (λ p. record { registry = p.0; agents = p.1.0; outbox = p.1.1.0; requests = record { made = p.1.1.1.0.0; queries = p.1.1.1.0.1.0; updates = p.1.1.1.0.1.1 }; turn = p.1.1.1.1.0; book = p.1.1.1.1.1 })
    (λ _. refl)

-- a city in which nothing was posted yet, at the moment 0
abbrev pub begun : Titles → List Holdings → Recorded → Whole
begun registry agents book = record {
  registry = registry;
  agents = agents;
  outbox = record { posts = record { kept = []; made = 0; spare = 0 }; weights = []; cites = []; lines = []; room = 0 };
  requests = record { made = 0; queries = []; updates = [] };
  turn = record { now = 0; next_ask = 0; next_gather = 0 };
  book = book;
}

-- a post as what is on its way
abbrev pub sent_of : Post → Sent
sent_of post = record { to = post.to; message = post.message }

-- the city
unfoldable pub world_of : Whole → World
world_of c = record {
  registry = c.registry;
  agent = agent_by c.book.history.start c.agents;
  post = λ number. option_map sent_of (post_at c.outbox.posts number);
  seen = is_seen c.outbox.posts;
  posts = c.outbox.posts.made;
  closed = is_closed c.requests;
  requests = c.requests.made;
  turn = c.turn;
  history = c.book.history;
}

-- an outcome is that of a request that was made; a post is none
abbrev pub IsOf : ℕ → Step → Type 0
IsOf made (steps.Post to message) = Unit {0}
IsOf made (steps.Answered request asked floor items cites) = request < made
IsOf made (steps.Accepted request version) = request < made
IsOf made (steps.Refused request refusal) = request < made
