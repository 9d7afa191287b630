-- In a good city each answer is allowed by what was entered before it, whatever happens.
use Rattle.std.proofs.Common.{◌≡◌, ◌⊎◌, ℕ, suc, Bool, true, false, if◌then◌else◌, List, [], ◌∷◌, map, fold, All, Option, Some, None, inl, inr, refl, ap, ◌∙◌, sym, subst}
use Rattle.std.proofs.lemmas.List.Elements.{All-nil, All-cons, All-head, All-tail}
use Rattle.iris_base.specs.declared.name.Label.{Label}
use Rattle.iris_tree.specs.declared.item.Item.{Item}
use Rattle.iris_need.specs.declared.need.Need.{Need}
use Rattle.iris_route.specs.Titles.{Titles}
use Rattle.iris_book.specs.Book.{with_entry}
use Rattle.iris_book.specs.declared.entry.Entry.TheVariants as entries
use Rattle.iris_gather.specs.declared.basis.Basis.{Basis}
use Rattle.iris_gather.specs.declared.entries.OpenGather.{OpenGather}
use Rattle.iris_gather.specs.declared.parent.Parent.{Parent}
use Rattle.iris_gather.specs.declared.parent.Parent.TheVariants as parents
use Rattle.iris_gather.specs.declared.verdict.Verdict.{Verdict}
use Rattle.iris_gather.specs.declared.verdict.Verdict.TheVariants.{Done, Asks}
use Rattle.iris_gather.specs.Gathers.{Gathering, settled}
use Rattle.iris_gather.specs.Laid.{laid}
use Rattle.iris_gather.specs.Verdicts.{asks_of}
use Rattle.iris_agent.specs.declared.step.Step.{Step}
use Rattle.iris_agent.specs.declared.step.Step.TheVariants as steps
use Rattle.iris_agent.specs.Arrivals as at_agent
use Rattle.iris_agent.specs.Decisions.{ask_posted, ending, judged, IsBasis}
use Rattle.iris_agent.specs.Handled.{Handled}
use Rattle.iris_protocol.proofs.Tables.{at_same}
use Rattle.iris_protocol.specs.Table.{AgentId, numbers}
use Rattle.iris_copies.specs.Allowed.{IsAllowed}
use Rattle.iris_migrate.specs.Messages.{node_of}
use Rattle.iris_runs.specs.Answers.{AreAnswersAllowed, AnswersRightly}
use Rattle.iris_runs.specs.Asking.{asked_by}
use Rattle.iris_runs.specs.Good.{Past, IsGood, moment_of}
use Rattle.iris_runs.specs.Happenings.{is_over, delivered, decided, given}
use Rattle.iris_runs.specs.Moments.{IsStepAt}
use Rattle.iris_runs.specs.Worlds.{Sent, World, epoch_of, marked, stepped, after}
use Rattle.iris_runs.proofs.AnswersAllowed.{answers_lasting, answers_more}
use Rattle.iris_runs.proofs.DecidedRight.{decided_steps}
use Rattle.iris_runs.proofs.Followed.{IsFollowUp, Follows, Enters}
use Rattle.iris_runs.proofs.FollowedHandovers.{follows_message}
use Rattle.iris_runs.proofs.KnownSeats.{parked_at_one}
use Rattle.iris_runs.proofs.StayGood.{begun}

-- ---- steps that answer nothing

abbrev IsQuiet : Step → Type 0
IsQuiet (steps.Post to message) = Unit {0}
IsQuiet (steps.Answered request query floor items cites) = ⊥
IsQuiet (steps.Accepted request version) = Unit {0}
IsQuiet (steps.Refused request refusal) = Unit {0}

quiet_step : (w : World) (s : Step) → IsQuiet s → AnswersRightly w → AnswersRightly (stepped w s)
quiet_step w (steps.Post to message) quiet right = right
quiet_step w (steps.Answered request query floor items cites) quiet right = absurd quiet
quiet_step w (steps.Accepted request version) quiet right = right
quiet_step w (steps.Refused request refusal) quiet right = right

quiet_steps : (w : World) (ss : List Step) → All IsQuiet ss → AnswersRightly w → AnswersRightly (fold stepped w ss)
quiet_steps w [] all right = right
quiet_steps w (s ∷ ss) all right = quiet_steps (stepped w s) ss (All-tail IsQuiet s ss all) (quiet_step w s (All-head IsQuiet s ss all) right)

follow_up_quiet : (of : Option (List Label)) (s : Step) → IsFollowUp of s → IsQuiet s
follow_up_quiet of (steps.Post to message) follows = tt
follow_up_quiet of (steps.Answered request query floor items cites) follows = follows
follow_up_quiet of (steps.Accepted request version) follows = tt
follow_up_quiet of (steps.Refused request refusal) follows = tt

follow_ups_quiet : (of : Option (List Label)) (ss : List Step) → All (IsFollowUp of) ss → All IsQuiet ss
follow_ups_quiet of [] all = All-nil IsQuiet
follow_ups_quiet of (s ∷ ss) all = All-cons IsQuiet s ss (follow_up_quiet of s (All-head (IsFollowUp of) s ss all)) (follow_ups_quiet of ss (All-tail (IsFollowUp of) s ss all))

-- ---- arrivals

arrived_answers : (w : World) (past : Past) (kept : Bool) (waiting : Option ℕ) (sent : Sent) → IsGood w past → (other : World) → other.history ≡ w.history → other.turn ≡ w.turn → AnswersRightly w
    → AnswersRightly (after other sent.to (at_agent.arrives kept waiting (w.agent sent.to) w.turn sent.message))
arrived_answers w past kept waiting sent good other book turn right = quiet_steps (begun other sent.to left) left.steps (follow_ups_quiet (node_of sent.message) left.steps follows.sends) (entered follows.entered)
  where
    left : Handled
    left = at_agent.arrives kept waiting (w.agent sent.to) w.turn sent.message

    follows : Follows (w.agent sent.to) w.turn (node_of sent.message) left
    follows = follows_message kept waiting (w.agent sent.to) w.turn sent.message (good.agents sent.to).placed (parked_at_one w past.accepted good.known sent.to)

    here : AreAnswersAllowed other.history left.turn.now
    here = subst (λ h. AreAnswersAllowed h left.turn.now) (sym book) (subst (AreAnswersAllowed w.history) (sym follows.now_is) right)

    entered : (left.entries ≡ []) ⊎ Enters (w.agent sent.to) (node_of sent.message) left → AnswersRightly (begun other sent.to left)
    entered (inl none) = subst (λ es. AreAnswersAllowed (fold with_entry other.history es) left.turn.now) (sym none) here
    entered (inr enters) = subst (λ es. AreAnswersAllowed (fold with_entry other.history es) left.turn.now) (sym enters.is) (answers_lasting other.history left.turn.now (entries.Updated enters.place enters.number enters.changes enters.local enters.at) refl here)

pub delivered_answers : (w : World) (past : Past) (serving kept : Bool) (waiting : Option ℕ) (k : ℕ) → IsGood w past → AnswersRightly w → AnswersRightly (delivered w serving kept waiting k (w.post k))
delivered_answers w past serving kept waiting k good right = go (w.post k)
  where
    by : (sent : Sent) (over : Bool) → AnswersRightly (if over then marked w k else after (marked w k) sent.to (at_agent.arrives kept waiting (w.agent sent.to) w.turn sent.message))
    by sent true = right
    by sent false = arrived_answers w past kept waiting sent good (marked w k) refl refl right

    go : (o : Option Sent) → AnswersRightly (delivered w serving kept waiting k o)
    go None = right
    go (Some sent) = by sent (is_over (marked w k) serving sent.message)

-- ---- decisions

asks_quiet : (registry : Titles) (id : List ℕ) (g : Gathering) (pending : List (ℕ × Need)) → All IsQuiet (map (ask_posted registry id g) pending)
asks_quiet registry id g [] = All-nil IsQuiet
asks_quiet registry id g (ask ∷ pending) = All-cons IsQuiet (ask_posted registry id g ask) (map (ask_posted registry id g) pending) tt (asks_quiet registry id g pending)

pub decided_answers : (w : World) (past : Past) (a : AgentId) (number : ℕ) (one : OpenGather) (basis : Basis)
    → (w.agent a).gather number ≡ Some one
    → IsBasis one.gather.query one.gather.start (laid (w.agent a).cache.contents one.gather.floor w.turn.now one.gather.view) basis
    → IsGood w past
    → AnswersRightly w
    → AnswersRightly (decided w a number basis (Some one))
decided_answers w past a number one basis there rests good right = by basis.verdict refl
  where
    g : Verdict → Gathering
    g verdict = settled one.gather verdict basis.pieces w.turn.next_ask

    left : Verdict → Handled
    left verdict = judged w.registry (w.agent a) w.turn number (g verdict) basis.cites verdict

    are : All (IsStepAt (asked_by (moment_of w past.wanted) one.gather (asks_of basis.verdict))) (left basis.verdict).steps
    are = decided_steps (moment_of w past.wanted) w.registry (w.agent a) w.turn number one basis refl refl good.present (good.agents a) there rests

    ended : (verdict : Verdict) (h : Handled) (s : Step) → All (IsStepAt (asked_by (moment_of w past.wanted) one.gather (asks_of verdict))) (s ∷ []) → AreAnswersAllowed (begun w a h).history (begun w a h).turn.now → (begun w a h).history ≡ w.history → (begun w a h).turn.now ≡ w.turn.now → AnswersRightly (stepped (begun w a h) s)
    ended verdict h (steps.Post to message) all was book now = was
    ended verdict h (steps.Accepted request version) all was book now = was
    ended verdict h (steps.Refused request refusal) all was book now = was
    ended verdict h (steps.Answered request asked floor items cites) all was book now =
        let allowed = All-head (IsStepAt (asked_by (moment_of w past.wanted) one.gather (asks_of verdict))) (steps.Answered request asked floor items cites) [] all in
        answers_more (begun w a h).history (begun w a h).turn.now (entries.Answered request asked floor cites) (items, subst (λ history. IsAllowed history (begun w a h).turn.now floor asked items cites) (sym book) (subst (λ now. IsAllowed w.history now floor asked items cites) (sym now) allowed)) was

    by : (verdict : Verdict) → basis.verdict ≡ verdict → AnswersRightly (after w a (left verdict))
    by (Asks support missing) e = quiet_steps (begun w a (left (Asks support missing))) (left (Asks support missing)).steps (asks_quiet w.registry (w.agent a).id (g (Asks support missing)) (g (Asks support missing)).pending) right
    by (Done support items) e = ended (Done support items) (left (Done support items)) (ending (g (Done support items)) items basis.cites one.gather.parent)
        (subst (λ verdict. All (IsStepAt (asked_by (moment_of w past.wanted) one.gather (asks_of verdict))) (left verdict).steps) e are) right refl refl

-- ---- moves

pub given_answers : (w : World) (name : List Label) (to : AgentId) → AnswersRightly w → AnswersRightly (given w name to)
given_answers w name to right = answers_lasting w.history w.turn.now (entries.Gave name to (suc (epoch_of w.registry name))) refl right

-- ---- an answer is entered

-- a client's gather that lacks nothing ends: its answer is entered, and the request has its outcome
pub answer_entered : (w : World) (a : AgentId) (number : ℕ) (one : OpenGather) (basis : Basis) (request : ℕ) (support : List Need) (items : List Item)
    → one.gather.parent ≡ parents.Client request
    → basis.verdict ≡ Done support items
    → ((decided w a number basis (Some one)).history ≡ with_entry w.history (entries.Answered request one.gather.query one.gather.floor basis.cites)) × ((decided w a number basis (Some one)).closed request ≡ true)
answer_entered w a number one basis request support items client done =
    (ap (λ v. (after w a (left v)).history) done ∙ ap (λ p. (ended p).history) client, ap (λ v. (after w a (left v)).closed request) done ∙ (ap (λ p. (ended p).closed request) client ∙ at_same numbers w.closed request true))
  where
    left : Verdict → Handled
    left verdict = judged w.registry (w.agent a) w.turn number (settled one.gather verdict basis.pieces w.turn.next_ask) basis.cites verdict

    ended : Parent → World
    ended p = stepped (begun w a (left (Done support items))) (ending (settled one.gather (Done support items) basis.pieces w.turn.next_ask) items basis.cites p)
