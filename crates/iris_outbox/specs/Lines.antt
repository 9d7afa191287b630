-- The lines that tell of an event.
use Rattle.std.specs.Prelude.{ℕ, suc, nat_eq, Bool, false, List, [], ◌∷◌, ◌++◌, length}
use Rattle.std.specs.List.{list_all}
use Rattle.std.specs.Option.{option_map_or}
use Rattle.iris_base.specs.declared.cite.Cite.{Cite}
use Rattle.iris_book.specs.Book.{History, latest}
use Rattle.iris_json.specs.declared.out.Out.{Out}
use Rattle.iris_json.specs.declared.out.Out.TheVariants as out
use Rattle.iris_migrate.specs.declared.message.Message.{Message}
use Rattle.iris_migrate.specs.declared.message.Message.TheVariants.{Query, Ask, Reply, Update, Handover}
use Rattle.iris_agent.specs.declared.step.Step.{Step}
use Rattle.iris_agent.specs.declared.step.Step.TheVariants as steps
use Rattle.iris_agent.specs.declared.step.Refusal.{Refusal}
use Rattle.iris_agent.specs.declared.step.Refusal.TheVariants.{Old, BadChange, Unkept}

-- ---- posts

-- the line of a post
abbrev pub post_line : ℕ → List ℕ → Message → Out
post_line post to (Query request asked name epoch floor) = out.Query post request to
post_line post to (Ask ask from asked start epoch floor) = out.Ask ask start.level start.name post start.states to
post_line post to (Reply ask pieces) = out.Reply ask (length pieces) post to
post_line post to (Update request name epoch number changes) = out.Update post request to
post_line post to (Handover handed) = out.Handover handed.epoch handed.name post to

-- the lines of the posts among these steps, which have the numbers from that one on
abbrev pub post_lines : ℕ → List Step → List Out
post_lines next [] = []
post_lines next (steps.Post to message ∷ ss) = post_line next to message ∷ post_lines (suc next) ss
post_lines next (steps.Answered request asked floor items cites ∷ ss) = post_lines next ss
post_lines next (steps.Accepted request version ∷ ss) = post_lines next ss
post_lines next (steps.Refused request refusal ∷ ss) = post_lines next ss

-- ---- outcomes

-- whether a cite has the newest version of its node
abbrev pub is_newest : History → Cite → Bool
is_newest h cite = option_map_or (nat_eq cite.version) (latest h cite.name) false

-- why an update was refused
abbrev pub refusal_line : ℕ → Refusal → Out
refusal_line request (Old last) = out.Old last request
refusal_line request (BadChange at) = out.BadChange at request
refusal_line request Unkept = out.Unkept request

-- the line of an outcome; a post is none
abbrev pub outcome_line : History → Step → List Out
outcome_line h (steps.Post to message) = []
outcome_line h (steps.Answered request asked floor items cites) = out.Answer items cites (list_all (is_newest h) cites) request ∷ []
outcome_line h (steps.Accepted request version) = out.Accepted version request ∷ []
outcome_line h (steps.Refused request refusal) = refusal_line request refusal ∷ []

-- the lines of the outcomes among these steps
abbrev pub outcome_lines : History → List Step → List Out
outcome_lines h [] = []
outcome_lines h (s ∷ ss) = outcome_line h s ++ outcome_lines h ss

-- the lines of an event with these steps, once its entries are in the book: those of its posts, with the numbers from that one on, and then those of its outcomes
abbrev pub lines_of : ℕ → History → List Step → List Out
lines_of next h ss = post_lines next ss ++ outcome_lines h ss
