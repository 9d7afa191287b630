-- What is made ready for the steps of an event.
use Rattle.std.proofs.Common.{◌≡◌, ℕ, suc, ◌+◌, ◌<◌, ◌≤◌, ◌^◌, List, [], ◌∷◌, length, refl, sym, ap, ◌∙◌, subst, arith}
use Rattle.std.specs.List.{filter_map}
use Rattle.iris_base.specs.declared.cite.Cite.{Cite}
use Rattle.iris_json.specs.declared.out.Out.{Out}
use Rattle.iris_posts.specs.Posts.{Queue, MakesRoom}
use Rattle.iris_agent.specs.declared.step.Step.{Step}
use Rattle.iris_agent.specs.declared.step.Step.TheVariants.{Post, Answered, Accepted, Refused}
use Rattle.iris_outbox.specs.Lines.{post_lines}
use Rattle.iris_outbox.specs.Outbox.{Readiness, weight_in, cites_in, posts_in, outcomes_in, IsMadeFor}

-- posts are among the steps
posts_within : (ss : List Step) → posts_in ss ≤ length ss
posts_within [] = omega arith
posts_within (Post to message ∷ ss) = let h = posts_within ss in omega (arith, h)
posts_within (Answered request asked floor items cites ∷ ss) = let h = posts_within ss in omega (arith, h)
posts_within (Accepted request version ∷ ss) = let h = posts_within ss in omega (arith, h)
posts_within (Refused request refusal ∷ ss) = let h = posts_within ss in omega (arith, h)

-- each step is a post or an outcome
told_within : (next : ℕ) (ss : List Step) → length (post_lines next ss) + outcomes_in ss ≡ length ss
told_within next [] = refl
told_within next (Post to message ∷ ss) = let h = told_within (suc next) ss in omega (arith, h)
told_within next (Answered request asked floor items cites ∷ ss) = let h = told_within next ss in omega (arith, h)
told_within next (Accepted request version ∷ ss) = let h = told_within next ss in omega (arith, h)
told_within next (Refused request refusal ∷ ss) = let h = told_within next ss in omega (arith, h)

-- once memory was found for as many posts and lines as there are steps, what follows from these was made ready
pub made_ready : (q : Queue) (r : Readiness) (next : ℕ) (ss : List Step)
    → next ≡ q.made
    → next + length ss < 2 ^ 64
    → MakesRoom r.growth q (length ss)
    → r.weights ≡ filter_map weight_in ss
    → r.cites ≡ filter_map cites_in ss
    → r.lines ≡ post_lines next ss
    → length ss ≤ r.room
    → IsMadeFor q r ss
made_ready q r next ss same numbers growth weights cites lines within = record {
  growth = λ capacity enough grown. let h = posts_within ss in let g = growth capacity enough grown in omega (arith, h, g);
  numbers = let h = posts_within ss in omega (arith, h, same, numbers);
  weights = weights;
  cites = cites;
  lines = lines ∙ ap (λ (n : ℕ). post_lines n ss) same;
  room = let h = told_within next ss in let e = ap length lines in omega (arith, h, e, within);
}
