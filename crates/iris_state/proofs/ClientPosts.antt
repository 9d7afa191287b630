-- What is posted for a client's request.
use Rattle.std.proofs.Common.{◌≡◌, ℕ, suc, List, [], ◌∷◌, Option, Some, fold, ap, ◌∙◌}
use Rattle.std.specs.Prelude.{unwrap_or}
use Rattle.iris_base.specs.declared.name.Label.{Label}
use Rattle.iris_tree.specs.declared.change.Change.{Change}
use Rattle.iris_xpath.specs.Syntax.{Syntax}
use Rattle.iris_route.specs.Titles.{Title, title_at}
use Rattle.iris_migrate.specs.declared.message.Message.TheVariants.{Query, Update}
use Rattle.iris_agent.specs.declared.step.Step.{Step}
use Rattle.iris_agent.specs.declared.step.Step.TheVariants.{Post}
use Rattle.iris_runs.specs.Happenings.{query_posted, update_posted}
use Rattle.iris_runs.specs.Worlds.{World, stepped, posting}

-- a query was posted to the owner that the registry names
pub query_post : (w mid new : World) (steps : List Step) (asked : Syntax) (name : List Label) (floor : ℕ) (title : Title)
    → Some title ≡ title_at w.registry name
    → mid ≡ record w { requests = suc w.requests }
    → steps ≡ Post title.0 (Query w.requests asked name title.1 floor) ∷ []
    → new ≡ fold stepped mid steps
    → new ≡ query_posted w asked name floor
query_post w mid new steps asked name floor title is requests made folded =
    folded
    ∙ ap (fold stepped mid) made
    ∙ ap (λ (v : World). posting v title.0 (Query w.requests asked name title.1 floor)) requests
    ∙ ap (λ (t : Option Title). let one = unwrap_or t ([], 0) in record (posting w one.0 (Query w.requests asked name one.1 floor)) { requests = suc w.requests }) is

-- an update was posted to the owner that the registry names
pub update_post : (w mid new : World) (steps : List Step) (name : List Label) (number : ℕ) (changes : List Change) (title : Title)
    → Some title ≡ title_at w.registry name
    → mid ≡ record w { requests = suc w.requests }
    → steps ≡ Post title.0 (Update w.requests name title.1 number changes) ∷ []
    → new ≡ fold stepped mid steps
    → new ≡ update_posted w name number changes
update_post w mid new steps name number changes title is requests made folded =
    folded
    ∙ ap (fold stepped mid) made
    ∙ ap (λ (v : World). posting v title.0 (Update w.requests name title.1 number changes)) requests
    ∙ ap (λ (t : Option Title). let one = unwrap_or t ([], 0) in record (posting w one.0 (Update w.requests name one.1 number changes)) { requests = suc w.requests }) is
