-- What is sent and told as the steps of an event are made.
use Rattle.std.specs.Prelude.{◌≡◌, ℕ, suc, ◌+◌, ◌<◌, ◌≤◌, ◌^◌, List, [], ◌∷◌, length, Option, Some, None, refl}
use Rattle.std.specs.Coded.{Coded, code_by, coded×, coded_ℕ, coded_list}
use Rattle.std.specs.List.{filter_map}
use Rattle.iris_base.specs.declared.cite.Cite.{Cite}
use Rattle.iris_tree.specs.TextLen.{saturated}
use Rattle.iris_json.specs.declared.out.Out.{Out}
use Rattle.iris_posts.specs.Posts.{Queue, MakesRoom}
use Rattle.iris_posts.specs.Weights.{weight_of}
use Rattle.iris_agent.specs.declared.step.Step.{Step}
use Rattle.iris_agent.specs.declared.step.Step.TheVariants.{Post, Answered, Accepted, Refused}
use Rattle.iris_outbox.specs.Lines.{post_lines}

-- The posts of a city; of the posts and answers that come next what they weigh and what they rest on; and the lines of the event that is told, with room for so many in all.
pub record Outgoing : Type 0 where
  pub posts : Queue
  pub weights : List ℕ
  pub cites : List (List Cite)
  pub lines : List Out
  pub room : ℕ

-- how proofs store that
abbrev pub outgoing_code : Coded Queue → Coded Cite → Coded Out → Coded Outgoing
outgoing_code queue cite out =
    code_by (Queue × (List ℕ × (List (List Cite) × (List Out × ℕ)))) (coded× queue (coded× (coded_list coded_ℕ) (coded× (coded_list (coded_list cite)) (coded× (coded_list out) coded_ℕ))))
    (λ o. (o.posts, (o.weights, (o.cites, (o.lines, o.room)))))
    (λ p. record { posts = p.0; weights = p.1.0; cites = p.1.1.0; lines = p.1.1.1.0; room = p.1.1.1.1 })
    (λ _. refl)

-- What is made ready for an event: for how many posts in all there is memory, and what an outbox has besides its posts.
pub record Readiness : Type 0 where
  pub growth : ℕ
  pub weights : List ℕ
  pub cites : List (List Cite)
  pub lines : List Out
  pub room : ℕ

-- how proofs store that
abbrev pub readiness_code : Coded Cite → Coded Out → Coded Readiness
readiness_code cite out =
    code_by (ℕ × (List ℕ × (List (List Cite) × (List Out × ℕ)))) (coded× coded_ℕ (coded× (coded_list coded_ℕ) (coded× (coded_list (coded_list cite)) (coded× (coded_list out) coded_ℕ))))
    (λ r. (r.growth, (r.weights, (r.cites, (r.lines, r.room)))))
    (λ p. record { growth = p.0; weights = p.1.0; cites = p.1.1.0; lines = p.1.1.1.0; room = p.1.1.1.1 })
    (λ _. refl)

-- what a post weighs
abbrev pub weight_in : Step → Option ℕ
weight_in (Post to message) = Some (saturated (weight_of message))
weight_in (Answered request asked floor items cites) = None
weight_in (Accepted request version) = None
weight_in (Refused request refusal) = None

-- what an answer rests on
abbrev pub cites_in : Step → Option (List Cite)
cites_in (Post to message) = None
cites_in (Answered request asked floor items cites) = Some cites
cites_in (Accepted request version) = None
cites_in (Refused request refusal) = None

-- how many of these steps are posts, how many answers, and how many outcomes
abbrev pub posts_in : List Step → ℕ
posts_in ss = length (filter_map weight_in ss)

abbrev pub answers_in : List Step → ℕ
answers_in ss = length (filter_map cites_in ss)

abbrev pub outcomes_in : List Step → ℕ
outcomes_in [] = 0
outcomes_in (Post to message ∷ ss) = outcomes_in ss
outcomes_in (Answered request asked floor items cites ∷ ss) = suc (outcomes_in ss)
outcomes_in (Accepted request version ∷ ss) = suc (outcomes_in ss)
outcomes_in (Refused request refusal ∷ ss) = suc (outcomes_in ss)

-- There is room for what follows from these steps.
pub record HasRoom (o : Outgoing) (ss : List Step) : Type 0 where
  pub spare : posts_in ss ≤ o.posts.spare
  pub numbers : o.posts.made + posts_in ss < 2 ^ 64
  pub weights : o.weights ≡ filter_map weight_in ss
  pub cites : o.cites ≡ filter_map cites_in ss
  pub room : length o.lines + outcomes_in ss ≤ o.room

-- The same, before the first of them is made: the lines are those of the posts.
pub record IsReadyFor (o : Outgoing) (ss : List Step) : Type 0 where
  pub has_room : HasRoom o ss
  pub lines : o.lines ≡ post_lines o.posts.made ss

-- What was made ready is for these steps, where the posts before them are those.
pub record IsMadeFor (q : Queue) (r : Readiness) (ss : List Step) : Type 0 where
  pub growth : MakesRoom r.growth q (posts_in ss)
  pub numbers : q.made + posts_in ss < 2 ^ 64
  pub weights : r.weights ≡ filter_map weight_in ss
  pub cites : r.cites ≡ filter_map cites_in ss
  pub lines : r.lines ≡ post_lines q.made ss
  pub room : length r.lines + outcomes_in ss ≤ r.room

-- It was made ready for these steps, and the posts are those that they were before.
pub record IsPrepared (before after : Queue) (r : Readiness) (ss : List Step) : Type 0 where
  pub same : after ≡ before
  pub made_for : IsMadeFor after r ss

-- the first of these is that
abbrev pub IsFirst : {A : Type 0} → List A → A → Type 0
IsFirst [] x = ⊥
IsFirst (y ∷ ys) x = y ≡ x
