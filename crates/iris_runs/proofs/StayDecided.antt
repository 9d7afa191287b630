-- A good city stays good as a gather takes a verdict.
use Rattle.std.proofs.Common.{◌≡◌, ℕ, ◌+◌, ◌≤◌, Bool, true, false, not, ◌&&◌, List, [], map, Option, Some, None, refl, sym, ap, ◌∙◌, subst, arith}
use Rattle.std.specs.Prelude.{All, fold, option_map, slice_index_or}
use Rattle.std.proofs.lemmas.List.Elements.{All-nil, All-cons, All-map}
use Rattle.iris_base.specs.declared.cite.Cite.{Cite}
use Rattle.iris_base.specs.declared.name.Label.{Label}
use Rattle.iris_tree.specs.declared.item.Item.{Item}
use Rattle.iris_xpath.specs.Syntax.{Syntax}
use Rattle.iris_need.specs.Needs.{missing_of}
use Rattle.iris_need.specs.Pieces.{Pieces}
use Rattle.iris_need.specs.declared.need.Need.{Need}
use Rattle.iris_need.specs.declared.need.Start.{Start}
use Rattle.iris_book.specs.Book.{with_entry}
use Rattle.iris_migrate.specs.declared.message.Handover.{Handover as Handed}
use Rattle.iris_migrate.specs.declared.message.Message.TheVariants.{Query, Ask, Reply, Update, Handover}
use Rattle.iris_gather.specs.declared.basis.Basis.{Basis}
use Rattle.iris_gather.specs.declared.entries.OpenGather.{OpenGather}
use Rattle.iris_gather.specs.declared.parent.Parent.{Parent}
use Rattle.iris_gather.specs.declared.parent.Parent.TheVariants as parents
use Rattle.iris_gather.specs.declared.verdict.Verdict.{Verdict}
use Rattle.iris_gather.specs.declared.verdict.Verdict.TheVariants.{Done, Asks}
use Rattle.iris_gather.specs.Gathers.{Gathering, settled}
use Rattle.iris_gather.specs.Laid.{laid}
use Rattle.iris_gather.specs.OpenGathers.{unlent, is_ready, serves_ask}
use Rattle.iris_gather.specs.Verdicts.{IsVerdict, asks_of}
use Rattle.iris_agent.specs.declared.step.Step.{Step}
use Rattle.iris_agent.specs.declared.step.Step.TheVariants as steps
use Rattle.iris_agent.specs.Decisions.{judged, ending, ask_posted, all_touched, IsBasis}
use Rattle.iris_agent.specs.Handled.{Handled}
use Rattle.iris_agent.specs.Tables.{with_cache}
use Rattle.iris_copies.specs.Copies.{IsPresent}
use Rattle.iris_protocol.specs.Good.{Fits}
use Rattle.iris_protocol.specs.Program.{Known, ProgramAllows}
use Rattle.iris_protocol.specs.Table.{AgentId, OfSome}
use Rattle.iris_protocol.specs.World as model
use Rattle.iris_runs.specs.Alike.{AsksForSome}
use Rattle.iris_runs.specs.Asking.{asked_by}
use Rattle.iris_runs.specs.Good.{Past, moment_of, KnowsItsAsks, IsGood}
use Rattle.iris_runs.specs.Happenings.{decided}
use Rattle.iris_runs.specs.Letters.{agent_of, gather_of, rank_of, need_of}
use Rattle.iris_runs.specs.Moments.{Wanted, Moment, IsAgentAt, IsStepAt, IsLater, BringsNewest}
use Rattle.iris_runs.specs.Worlds.{World, program_of}
use Rattle.iris_runs.proofs.Acting.{missing_lower}
use Rattle.iris_runs.proofs.DecidedRight.{decided_agent, decided_steps}
use Rattle.iris_runs.proofs.DecisionTies.{verdict_asks}
use Rattle.iris_runs.proofs.Knowing.{decision_known, commit_known}
use Rattle.iris_runs.proofs.StayAsked.{asks_cached, asks_gathered}
use Rattle.iris_runs.proofs.BookTies.{quiet_entered}
use Rattle.iris_runs.proofs.StayGood.{IsRight, right_of, good_of, IsSendAt, begun, LeavesRight, after_right}
use Rattle.iris_runs.proofs.StayRight.{later_asked, agent_asked}

-- ---- what is sent

-- a step of a gather: it asks, replies, or tells a client
abbrev pub IsOfGather : Step → Type 0
IsOfGather (steps.Post to (Query request asked name epoch floor)) = ⊥
IsOfGather (steps.Post to (Ask ask from asked start epoch floor)) = Unit {0}
IsOfGather (steps.Post to (Reply ask pieces)) = Unit {0}
IsOfGather (steps.Post to (Update request name epoch number changes)) = ⊥
IsOfGather (steps.Post to (Handover handed)) = ⊥
IsOfGather (steps.Answered request asked floor items cites) = Unit {0}
IsOfGather (steps.Accepted request version) = Unit {0}
IsOfGather (steps.Refused request refusal) = Unit {0}

gather_sends : (w : World) (wanted : ℕ → Wanted) (s : Step) → IsOfGather s → IsStepAt (moment_of w wanted) s → IsSendAt w wanted s
gather_sends w wanted (steps.Post to (Query request asked name epoch floor)) of is = absurd of
gather_sends w wanted (steps.Post to (Ask ask from asked start epoch floor)) of is = record { message = is; place = is.1.there is.3; newest = tt }
gather_sends w wanted (steps.Post to (Reply ask pieces)) of is = record { message = is; place = tt; newest = tt }
gather_sends w wanted (steps.Post to (Update request name epoch number changes)) of is = absurd of
gather_sends w wanted (steps.Post to (Handover handed)) of is = absurd of
gather_sends w wanted (steps.Answered request asked floor items cites) of is = tt
gather_sends w wanted (steps.Accepted request version) of is = tt
gather_sends w wanted (steps.Refused request refusal) of is = tt

-- a gather that ends replies, or tells a client
ending_of : (g : Gathering) (items : List Item) (cites : List Cite) (parent : Parent) → IsOfGather (ending g items cites parent)
ending_of g items cites (parents.Client request) = tt
ending_of g items cites (parents.Ask ask from) = tt

-- ---- a decision

module _ (w : World) (wanted : ℕ → Wanted) (a : AgentId) (number : ℕ) (one : OpenGather) (basis : Basis) where
  -- what it leaves, by the verdict
  abbrev judged_at : Verdict → Handled
  judged_at verdict = judged w.registry (w.agent a) w.turn number (settled one.gather verdict basis.pieces w.turn.next_ask) basis.cites verdict

  abbrev asked_then : Verdict → Moment
  asked_then verdict = asked_by (moment_of w wanted) one.gather (asks_of verdict)

  moment_then : (verdict : Verdict) → moment_of (begun w a (judged_at verdict)) (asked_then verdict).wanted ≡ asked_then verdict
  moment_then (Done support items) = let none : w.turn.next_ask ≡ w.turn.next_ask + 0 = omega arith in λ i. record (asked_then (Done support items)) { asks = none i }
  moment_then (Asks support missing) = refl

  enters_nothing : (verdict : Verdict) → (judged_at verdict).entries ≡ []
  enters_nothing (Done support items) = refl
  enters_nothing (Asks support missing) = refl

  id_then : (verdict : Verdict) → (judged_at verdict).tables.id ≡ (w.agent a).id
  id_then (Done support items) = refl
  id_then (Asks support missing) = refl

  present_then : (verdict : Verdict) → IsPresent w.history w.turn.now → IsPresent (fold with_entry w.history (judged_at verdict).entries) (judged_at verdict).turn.now
  present_then (Done support items) present = present
  present_then (Asks support missing) present = present

  taken_then : (verdict : Verdict) (name : List Label) → ((w.agent a).seat name).taken ≤ ((judged_at verdict).tables.seat name).taken
  taken_then (Done support items) name = omega arith
  taken_then (Asks support missing) name = omega arith

  newest_then : (verdict : Verdict) (handed : Handed) → BringsNewest w.history handed → BringsNewest (fold with_entry w.history (judged_at verdict).entries) handed
  newest_then (Done support items) handed h = h
  newest_then (Asks support missing) handed h = h

  asks_then : (verdict : Verdict) → (w.agent a).gather number ≡ Some one → KnowsItsAsks (w.agent a) → KnowsItsAsks (judged_at verdict).tables
  asks_then (Done support items) there knows = asks_gathered (with_cache (w.agent a) (all_touched (w.agent a).cache support)) number None (λ ask h. absurd (cc)) (asks_cached (w.agent a) (all_touched (w.agent a).cache support) knows)
  asks_then (Asks support missing) there knows = asks_gathered (with_cache (w.agent a) (all_touched (w.agent a).cache support)) number (Some (unlent (settled one.gather (Asks support missing) basis.pieces w.turn.next_ask)))
      (λ ask h. ap (serves_ask ask) there ∙ h) (asks_cached (w.agent a) (all_touched (w.agent a).cache support) knows)

  sends_then : (verdict : Verdict) → All IsOfGather (judged_at verdict).steps
  sends_then (Done support items) = let g : Gathering = settled one.gather (Done support items) basis.pieces w.turn.next_ask in
      All-cons IsOfGather (ending g items basis.cites one.gather.parent) [] (ending_of g items basis.cites one.gather.parent) (All-nil IsOfGather)
  sends_then (Asks support missing) = let g : Gathering = settled one.gather (Asks support missing) basis.pieces w.turn.next_ask in
      All-map IsOfGather (ask_posted w.registry (w.agent a).id g) g.pending (λ k d within. tt)

  leaves_then : (w.agent a).gather number ≡ Some one
      → IsBasis one.gather.query one.gather.start (laid (w.agent a).cache.contents one.gather.floor w.turn.now one.gather.view) basis
      → IsRight w wanted
      → LeavesRight w wanted (asked_then basis.verdict).wanted a (judged_at basis.verdict)
  leaves_then there rests right = record {
    later = subst (IsLater (moment_of w wanted)) (sym (moment_then basis.verdict)) (later_asked (moment_of w wanted) one.gather (asks_of basis.verdict));
    present = present_then basis.verdict right.present;
    id_is = id_then basis.verdict;
    here = subst (λ (m : Moment). IsAgentAt m (judged_at basis.verdict).tables) (sym (moment_then basis.verdict)) (decided_agent (moment_of w wanted) w.registry (w.agent a) w.turn number one basis refl refl right.present (right.agents_are a) there rests);
    elsewhere = λ b other. subst (λ (m : Moment). IsAgentAt m (w.agent b)) (sym (moment_then basis.verdict)) (agent_asked (moment_of w wanted) one.gather (asks_of basis.verdict) (w.agent b) (right.agents_are b));
    asks = asks_then basis.verdict there (right.asks a);
    taken = taken_then basis.verdict;
    newest = λ k sent handed at e told free h. newest_then basis.verdict handed h;
  }

  steps_then : (w.agent a).gather number ≡ Some one
      → IsBasis one.gather.query one.gather.start (laid (w.agent a).cache.contents one.gather.floor w.turn.now one.gather.view) basis
      → IsRight w wanted
      → All (IsSendAt (begun w a (judged_at basis.verdict)) (asked_then basis.verdict).wanted) (judged_at basis.verdict).steps
  steps_then there rests right =
      let are : All (IsStepAt (moment_of (begun w a (judged_at basis.verdict)) (asked_then basis.verdict).wanted)) (judged_at basis.verdict).steps =
      subst (λ (m : Moment). All (IsStepAt m) (judged_at basis.verdict).steps) (sym (moment_then basis.verdict)) (decided_steps (moment_of w wanted) w.registry (w.agent a) w.turn number one basis refl refl right.present (right.agents_are a) there rests) in
      λ k d within. gather_sends (begun w a (judged_at basis.verdict)) (asked_then basis.verdict).wanted (slice_index_or (judged_at basis.verdict).steps k d) (sends_then basis.verdict k d within) (are k d within)

  decided_right : (w.agent a).gather number ≡ Some one
      → IsBasis one.gather.query one.gather.start (laid (w.agent a).cache.contents one.gather.floor w.turn.now one.gather.view) basis
      → IsRight w wanted
      → IsRight (decided w a number basis (Some one)) (asked_then basis.verdict).wanted
  decided_right there rests right = after_right w wanted (asked_then basis.verdict).wanted a (judged_at basis.verdict) (leaves_then there rests right) (steps_then there rests right) right

-- ---- by the protocol

-- what a verdict asks for is what is missing
asks_missing : (query : Syntax) (start : Start) (over : Pieces) (verdict : Verdict) → IsVerdict query start over verdict → asks_of verdict ≡ missing_of query start over
asks_missing query start over (Done support items) is = sym is.whole
asks_missing query start over (Asks support missing) is = is.missing_is

-- what is missing fits the gather
needs_fit : (w : World) (past : Past) (a : AgentId) (number : ℕ) (one : OpenGather) (basis : Basis)
    → (w.agent a).gather number ≡ Some one
    → IsBasis one.gather.query one.gather.start (laid (w.agent a).cache.contents one.gather.floor w.turn.now one.gather.view) basis
    → IsGood w past
    → OfSome (λ (x : model.Gather). Fits x.rank (map need_of (asks_of basis.verdict))) (option_map gather_of ((w.agent a).gather number))
needs_fit w past a number one basis there rests good = subst (λ (o : Option OpenGather). OfSome (λ (x : model.Gather). Fits x.rank (map need_of (asks_of basis.verdict))) (option_map gather_of o)) (sym there)
    (subst (λ (needs : List Need). Fits (rank_of one.gather.start) (map need_of needs)) (sym (asks_missing one.gather.query one.gather.start _ basis.verdict rests.verdict)) (missing_lower w past good a number one there))

decide_allowed : (w : World) (accepted : List model.Entry) (a : AgentId) (number : ℕ) (needs : List model.Need)
    → OfSome (λ (x : model.Gather). Fits x.rank needs) (option_map gather_of ((w.agent a).gather number))
    → ProgramAllows (program_of w accepted) (model.Decide a number needs) × ProgramAllows (program_of w accepted) (model.Commit a number (Some needs))
unfolding program_of agent_of
decide_allowed w accepted a number needs fit = (fit, fit)

decided_known : (w : World) (past : Past) (a : AgentId) (number : ℕ) (one : OpenGather) (basis : Basis)
    → (w.agent a).gather number ≡ Some one
    → is_ready (Some one) ≡ true
    → IsBasis one.gather.query one.gather.start (laid (w.agent a).cache.contents one.gather.floor w.turn.now one.gather.view) basis
    → IsGood w past
    → Known (program_of (decided w a number basis (Some one)) past.accepted)
decided_known w past a number one basis there ready rests good = by one.lent refl
  where
    allowed : ProgramAllows (program_of w past.accepted) (model.Decide a number (map need_of (asks_of basis.verdict))) × ProgramAllows (program_of w past.accepted) (model.Commit a number (Some (map need_of (asks_of basis.verdict))))
    allowed = decide_allowed w past.accepted a number (map need_of (asks_of basis.verdict)) (needs_fit w past a number one basis there rests good)

    asks : AsksForSome basis.verdict
    asks = verdict_asks one.gather.query one.gather.start _ basis.verdict rests.verdict

    by : (lent : Bool) → one.lent ≡ lent → Known (program_of (decided w a number basis (Some one)) past.accepted)
    by true lent = commit_known w past.accepted a number one basis good.known allowed.1 good.ids asks there ready lent
    by false free = decision_known w past.accepted a number one basis good.known allowed.0 good.ids asks there (λ i. ready i && not (free i))

pub decided_good : (w : World) (past : Past) (a : AgentId) (number : ℕ) (one : OpenGather) (basis : Basis)
    → (w.agent a).gather number ≡ Some one
    → is_ready (Some one) ≡ true
    → IsBasis one.gather.query one.gather.start (laid (w.agent a).cache.contents one.gather.floor w.turn.now one.gather.view) basis
    → IsGood w past
    → (after : Past) × IsGood (decided w a number basis (Some one)) after
decided_good w past a number one basis there ready rests good =
    let more : Past = record { accepted = past.accepted; wanted = (asked_by (moment_of w past.wanted) one.gather (asks_of basis.verdict)).wanted } in (
      more,
      good_of (decided w a number basis (Some one)) more (decided_known w past a number one basis there ready rests good) (good.entered ∙ sym (quiet_entered w a (judged_at w past.wanted a number one basis basis.verdict) (enters_nothing w past.wanted a number one basis basis.verdict)))
          (decided_right w past.wanted a number one basis there rests (right_of w past good)),
    )
