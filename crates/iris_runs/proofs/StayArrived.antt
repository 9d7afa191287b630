-- A good city stays good as a post is delivered.
use Rattle.std.proofs.Common.{◌≡◌, ◌≢◌, ◌⊎◌, ℕ, Bool, true, false, if◌then◌else◌, is_some, List, [], ◌∷◌, Option, Some, None, IsSome, refl, sym, ap, ◌∙◌, subst, inl, inr, arith}
use Rattle.std.specs.Prelude.{All, IfSome, fold, nat_le, option_map, slice_index_or}
use Rattle.std.specs.Option.{option_map_or}
use Rattle.std.specs.Cmp.Lexicographic.{pointwise}
use Rattle.std.proofs.lemmas.List.Elements.{All-head}
use Rattle.iris_base.specs.declared.name.Label.{Label}
use Rattle.iris_base.specs.NameOrder.{label_eq}
use Rattle.iris_tree.specs.Universe.{Node, node_at}
use Rattle.iris_tree.specs.declared.change.Change.{Change}
use Rattle.iris_tree.specs.declared.local.Local.{Local}
use Rattle.iris_route.proofs.TitleMaps.{name_exact}
use Rattle.iris_book.specs.Book.{with_entry, MayBeEntered}
use Rattle.iris_book.specs.declared.entry.Entry.{Entry}
use Rattle.iris_book.specs.declared.entry.Entry.TheVariants.{Updated}
use Rattle.iris_migrate.specs.declared.message.Handover.{Handover as Handed}
use Rattle.iris_migrate.specs.declared.message.Message.{Message}
use Rattle.iris_migrate.specs.declared.message.Message.TheVariants.{Query, Ask, Reply, Update, Handover}
use Rattle.iris_migrate.specs.Messages.{node_of}
use Rattle.iris_gather.specs.OpenGathers.{awaits}
use Rattle.iris_agent.specs.declared.step.Step.{Step}
use Rattle.iris_agent.specs.declared.step.Step.TheVariants as steps
use Rattle.iris_agent.specs.Arrivals as at_agent
use Rattle.iris_agent.specs.Handled.{Handled}
use Rattle.iris_copies.specs.Copies.{IsPresent, ComesAt}
use Rattle.iris_copies.proofs.Times.{present_entry}
use Rattle.iris_protocol.specs.Program.{Tells, TellsEvent, program_arrives, program_happens}
use Rattle.iris_protocol.specs.Table.{AgentId, OfSome}
use Rattle.iris_protocol.specs.World as model
use Rattle.iris_runs.specs.Alike.{MayBeHandled, IsWaitedFor, arrival_at}
use Rattle.iris_runs.specs.Entered.{updates_entered, updates_accepted}
use Rattle.iris_runs.specs.Good.{Past, moment_of, IsForCity, IsNewestIfTaken, IsPostAt, IsGood}
use Rattle.iris_runs.specs.Happenings.{is_over, delivered}
use Rattle.iris_runs.specs.Letters.{agent_of, letter_of, is_kept}
use Rattle.iris_runs.specs.Moments.{Wanted, Moment, with_entries, IsHandoverAt, IsAgentAt, IsStepAt, IsLater, MayCome, BringsNewest}
use Rattle.iris_runs.specs.Worlds.{Sent, World, marked, after, post_of, program_of}
use Rattle.iris_runs.proofs.Acting.{may_be_handled}
use Rattle.iris_runs.proofs.ArrivalsRight.{arrival_right}
use Rattle.iris_runs.proofs.BookTies.{message_entered}
use Rattle.iris_runs.proofs.UpdatedRight.{IsServed}
use Rattle.iris_runs.proofs.Followed.{IsNoHandover, IsFollowUp, Enters, Follows}
use Rattle.iris_runs.proofs.FollowedHandovers.{follows_message}
use Rattle.iris_runs.proofs.Knowing.{arrival_known}
use Rattle.iris_runs.proofs.KnownSeats.{others_own_none, none_owns, parked_at_one}
use Rattle.iris_runs.proofs.StayAsked.{not_true}
use Rattle.iris_runs.proofs.StayGood.{IsRight, right_of, good_of, some_weaker, IsSendAt, begun, LeavesRight, after_right}
use Rattle.iris_runs.proofs.StayRight.{brings_still, later_time, later_entry, agent_entry}

-- ---- what is entered

-- What entries leave of the book, of other agents and of handovers.
record EntersRight (w : World) (wanted : ℕ → Wanted) (a : AgentId) (es : List Entry) : Type 0 where
  later : IsLater (moment_of w wanted) (with_entries (moment_of w wanted) es)
  present : IsPresent (fold with_entry w.history es) w.turn.now
  elsewhere : (b : AgentId) → b ≢ a → IsAgentAt (with_entries (moment_of w wanted) es) (w.agent b)
  newest : (k : ℕ) (sent : Sent) (handed : Handed) → w.post k ≡ Some sent → sent.message ≡ Handover handed → IsHandoverAt (moment_of w wanted) handed
      → nat_le handed.epoch ((w.agent sent.to).seat handed.name).taken ≡ false → BringsNewest w.history handed → BringsNewest (fold with_entry w.history es) handed

-- what is there has no value where it is none
no_value : (o : Option ℕ) → is_some o ≡ false → o ≡ None
no_value None h = refl
no_value (Some x) h = absurd (cc)

-- an update of a node that the agent owns: no other agent owns it, and no handover of it is on its way
update_right : (w : World) (past : Past) (a : AgentId) (name : List Label) (number : ℕ) (changes : List Change) (local : Local) (at : ℕ)
    → IsSome (node_at w.history.start name)
    → IsSome ((w.agent a).seat name).last
    → MayBeEntered w.history (Updated name number changes local at)
    → at ≡ w.turn.now
    → IsGood w past
    → EntersRight w past.wanted a (Updated name number changes local at ∷ [])
update_right w past a name number changes local at place owns may comes good = record {
  later = later_entry (moment_of w past.wanted) entry comes;
  present = present_entry w.history w.turn.now entry may comes good.present;
  elsewhere = λ b other. agent_entry (moment_of w past.wanted) entry (w.agent b) comes (no_value _ ((good.agents b).owns name place ∙ ap is_some (others_own_none w past.accepted good.known a b name owns other))) (good.agents b);
  newest = λ k sent handed there is told free h. brings_still (moment_of w past.wanted) handed entry told
      (ap (λ (b : Bool). if b then 1 else 0) (not_true (pointwise label_eq handed.name name) (apart k sent handed there is free))) h;
}
  where
    entry : Entry
    entry = Updated name number changes local at

    apart : (k : ℕ) (sent : Sent) (handed : Handed) → w.post k ≡ Some sent → sent.message ≡ Handover handed → nat_le handed.epoch ((w.agent sent.to).seat handed.name).taken ≡ false → pointwise label_eq handed.name name ≡ true → ⊥
    apart k sent handed there is free same =
        let none : ((w.agent a).seat handed.name).last ≡ None = none_owns w past.accepted good.known k sent handed there is free a in
        let here : ((w.agent a).seat name).last ≡ None = ap (λ (n : List Label). ((w.agent a).seat n).last) (sym (name_exact handed.name name same)) ∙ none in
        let not : is_some ((w.agent a).seat name).last ≡ false = ap is_some here in
        cc

nothing_right : (w : World) (past : Past) (a : AgentId) → IsGood w past → EntersRight w past.wanted a []
nothing_right w past a good = record {
  later = later_time (moment_of w past.wanted) w.turn.now (omega arith);
  present = good.present;
  elsewhere = λ b other. good.agents b;
  newest = λ k sent handed there is told free h. h;
}

enters_right : (w : World) (past : Past) (a : AgentId) (of : Option (List Label)) (h : Handled) → (h.entries ≡ []) ⊎ Enters (w.agent a) of h → IfSome of (λ name. IsSome (node_at w.history.start name))
    → All (MayBeEntered w.history) h.entries → All (ComesAt w.turn.now) h.entries → IsGood w past → EntersRight w past.wanted a h.entries
enters_right w past a of h (inl none) place may comes good = subst (EntersRight w past.wanted a) (sym none) (nothing_right w past a good)
enters_right w past a of h (inr one) place may comes good = subst (EntersRight w past.wanted a) (sym one.is)
    (update_right w past a one.place one.number one.changes one.local one.at
    (subst (λ (o : Option (List Label)). IfSome o (λ name. IsSome (node_at w.history.start name))) one.of place) one.owned
    (All-head (MayBeEntered w.history) _ [] (subst (All (MayBeEntered w.history)) one.is may))
    (All-head (ComesAt w.turn.now) _ [] (subst (All (ComesAt w.turn.now)) one.is comes)) good)

-- ---- what is sent

no_newest : (w : World) (sent : Sent) (message : Message) → IsNoHandover message → IsNewestIfTaken w sent message
no_newest w sent (Query request asked name epoch floor) is = tt
no_newest w sent (Ask ask from asked start epoch floor) is = tt
no_newest w sent (Reply ask pieces) is = tt
no_newest w sent (Update request name epoch number changes) is = tt
no_newest w sent (Handover handed) is = absurd is

follow_sends : (w : World) (wanted : ℕ → Wanted) (of : Option (List Label)) (s : Step) → IfSome of (λ name. IsSome (node_at w.history.start name)) → IsFollowUp of s → IsStepAt (moment_of w wanted) s → IsSendAt w wanted s
follow_sends w wanted of (steps.Post to message) place follows is = record {
  message = is;
  place = subst (λ (o : Option (List Label)). IfSome o (λ name. IsSome (node_at w.history.start name))) (sym follows.0) place;
  newest = no_newest w (record { to = to; message = message }) message follows.1;
}
follow_sends w wanted of (steps.Answered request asked floor items cites) place follows is = absurd follows
follow_sends w wanted of (steps.Accepted request version) place follows is = tt
follow_sends w wanted of (steps.Refused request refusal) place follows is = tt

-- ---- an arrival

-- a message of a good city may come
may_come : (w : World) (wanted : ℕ → Wanted) (waiting : Option ℕ) (sent : Sent) (message : Message) → IsForCity w message → IsNewestIfTaken w sent message
    → ((ask : ℕ) → letter_of message ≡ model.reply ask → IsWaitedFor (w.agent sent.to).gather ask waiting)
    → MayCome (moment_of w wanted) (w.agent sent.to) waiting message
may_come w wanted waiting sent (Query request asked name epoch floor) place newest waits = place
may_come w wanted waiting sent (Ask ask from asked start epoch floor) place newest waits = place
may_come w wanted waiting sent (Update request name epoch number changes) place newest waits = place
may_come w wanted waiting sent (Handover handed) place newest waits = (place, newest)
may_come w wanted waiting sent (Reply ask pieces) place newest waits = by waiting (waits ask refl)
  where
    by : (o : Option ℕ) → IsWaitedFor (w.agent sent.to).gather ask o → IfSome o (λ number. awaits ask ((w.agent sent.to).gather number) ≡ true)
    by None h = tt
    by (Some number) h = h.0

-- of what was delivered no other clause speaks
marked_right : (w : World) (wanted : ℕ → Wanted) (k : ℕ) → IsRight w wanted → IsRight (marked w k) wanted
marked_right w wanted k right = record {
  present = right.present;
  labels = right.labels;
  ids = right.ids;
  agents_are = right.agents_are;
  asks = right.asks;
  registered = right.registered;
  posts_are = λ j. some_weaker (IsPostAt w wanted) (IsPostAt (marked w k) wanted) (w.post j) (λ sent there is. record { message = is.message; place = is.place; newest = is.newest }) (right.posts_are j);
}

module _ (w : World) (past : Past) (kept : Bool) (waiting : Option ℕ) (k : ℕ) (sent : Sent) (good : IsGood w past) (post : IsPostAt w past.wanted sent)
    (waits : (ask : ℕ) → letter_of sent.message ≡ model.reply ask → IsWaitedFor (w.agent sent.to).gather ask waiting) where
  abbrev left : Handled
  left = at_agent.arrives kept waiting (w.agent sent.to) w.turn sent.message

  follows : Follows (w.agent sent.to) w.turn (node_of sent.message) left
  follows = follows_message kept waiting (w.agent sent.to) w.turn sent.message (good.agents sent.to).placed (parked_at_one w past.accepted good.known sent.to)

  may : MayCome (moment_of w past.wanted) (w.agent sent.to) waiting sent.message
  may = may_come w past.wanted waiting sent sent.message post.place post.newest waits

  served : IsServed (moment_of w past.wanted) left
  served = arrival_right (moment_of w past.wanted) kept waiting (w.agent sent.to) w.turn sent.message refl good.present (good.agents sent.to) post.message may

  entered : EntersRight w past.wanted sent.to left.entries
  entered =
      enters_right w past sent.to (node_of sent.message) left follows.entered post.place served.entered served.comes good

  moment_is : moment_of (begun (marked w k) sent.to left) past.wanted ≡ with_entries (moment_of w past.wanted) left.entries
  moment_is = λ i. record (with_entries (moment_of w past.wanted) left.entries) { now = follows.now_is i; asks = follows.asks_are i }

  leaves : LeavesRight (marked w k) past.wanted past.wanted sent.to left
  leaves = record {
    later = subst (IsLater (moment_of w past.wanted)) (sym moment_is) entered.later;
    present = subst (IsPresent (fold with_entry w.history left.entries)) (sym follows.now_is) entered.present;
    id_is = follows.id_is;
    here = subst (λ (n : Moment). IsAgentAt n left.tables) (sym moment_is) served.agent;
    elsewhere = λ b other. subst (λ (n : Moment). IsAgentAt n (w.agent b)) (sym moment_is) (entered.elsewhere b other);
    asks = follows.knows (good.asks sent.to);
    taken = follows.taken;
    newest = entered.newest;
  }

  place_then : IfSome (node_of sent.message) (λ name. IsSome (node_at (begun (marked w k) sent.to left).history.start name))
  place_then = subst (λ (start : Node). IfSome (node_of sent.message) (λ name. IsSome (node_at start name))) (sym entered.later.goes.start) post.place

  sends : All (IsSendAt (begun (marked w k) sent.to left) past.wanted) left.steps
  sends =
      let are : All (IsStepAt (moment_of (begun (marked w k) sent.to left) past.wanted)) left.steps =
      subst (λ (n : Moment). All (IsStepAt n) left.steps) (sym moment_is) served.steps in
      λ j d within. follow_sends (begun (marked w k) sent.to left) past.wanted (node_of sent.message) (slice_index_or left.steps j d) place_then (follows.sends j d within) (are j d within)

  arrived_right : IsRight (after (marked w k) sent.to left) past.wanted
  arrived_right = after_right (marked w k) past.wanted past.wanted sent.to left leaves sends (marked_right w past.wanted k (right_of w past good))

delivered_right : (w : World) (past : Past) (serving kept : Bool) (waiting : Option ℕ) (k : ℕ) (o : Option Sent) → w.post k ≡ o
    → IfSome o (λ sent. (ask : ℕ) → letter_of sent.message ≡ model.reply ask → IsWaitedFor (w.agent sent.to).gather ask waiting)
    → IsGood w past
    → IsRight (delivered w serving kept waiting k o) past.wanted
delivered_right w past serving kept waiting k None there waits good = right_of w past good
delivered_right w past serving kept waiting k (Some sent) there waits good = by (is_over (marked w k) serving sent.message)
  where
    post : IsPostAt w past.wanted sent
    post = subst (λ (o : Option Sent). IfSome o (IsPostAt w past.wanted)) there (good.posts k)

    by : (b : Bool) → IsRight (if b then marked w k else after (marked w k) sent.to (at_agent.arrives kept waiting (w.agent sent.to) w.turn sent.message)) past.wanted
    by true = marked_right w past.wanted k (right_of w past good)
    by false = arrived_right w past kept waiting k sent good post waits

-- ---- by the protocol

-- what the protocol accepts as a post is delivered is entered
delivered_entered : (w : World) (past : Past) (serving kept : Bool) (waiting : Option ℕ) (k : ℕ) (o : Option Sent) → w.post k ≡ o
    → IfSome o (λ sent. (ask : ℕ) → letter_of sent.message ≡ model.reply ask → IsWaitedFor (w.agent sent.to).gather ask waiting)
    → IsGood w past
    → updates_accepted (program_arrives (program_of w past.accepted) serving (option_map_or (λ sent. is_kept kept (w.agent sent.to) sent.message) o false) k (option_map post_of o)).book ≡ updates_entered (delivered w serving kept waiting k o).history.entries
unfolding program_of
delivered_entered w past serving kept waiting k None there waits good = good.entered
delivered_entered w past serving kept waiting k (Some sent) there waits good =
    message_entered (marked w k) past.accepted serving kept waiting sent good.ids (may_be_handled w past good k sent waiting there waits)
    (follows_message kept waiting (w.agent sent.to) w.turn sent.message (good.agents sent.to).placed (parked_at_one w past.accepted good.known sent.to)) good.entered

-- in the words of the protocol's event
arrival_entered : (w : World) (past : Past) (serving kept : Bool) (waiting : Option ℕ) (k : ℕ)
    → IfSome (w.post k) (λ sent. (ask : ℕ) → letter_of sent.message ≡ model.reply ask → IsWaitedFor (w.agent sent.to).gather ask waiting)
    → IsGood w past
    → updates_accepted (program_happens (program_of w past.accepted) serving (arrival_at w kept k)).book ≡ updates_entered (delivered w serving kept waiting k (w.post k)).history.entries
unfolding program_of
arrival_entered w past serving kept waiting k waits good = delivered_entered w past serving kept waiting k (w.post k) refl waits good

arrival_tells : (w : World) (accepted : List model.Entry) (serving ok : Bool) (k : ℕ) → IfSome (w.post k) (λ sent. Tells (λ a. agent_of (w.agent a)) serving (letter_of sent.message)) → TellsEvent (program_of w accepted) serving (model.Arrive k ok)
unfolding program_of
arrival_tells w accepted serving ok k tells = by (w.post k) tells
  where
    by : (o : Option Sent) → IfSome o (λ sent. Tells (λ a. agent_of (w.agent a)) serving (letter_of sent.message)) → OfSome (λ (p : model.Post). Tells (λ a. agent_of (w.agent a)) serving p.letter) (option_map post_of o)
    by None h = tt
    by (Some sent) h = h

pub arrived_good : (w : World) (past : Past) (serving kept : Bool) (waiting : Option ℕ) (k : ℕ)
    → IfSome (w.post k) (λ sent. Tells (λ a. agent_of (w.agent a)) serving (letter_of sent.message))
    → IfSome (w.post k) (λ sent. (ask : ℕ) → letter_of sent.message ≡ model.reply ask → IsWaitedFor (w.agent sent.to).gather ask waiting)
    → IsGood w past
    → (after : Past) × IsGood (delivered w serving kept waiting k (w.post k)) after
arrived_good w past serving kept waiting k tells waits good =
    let ok : Bool = option_map_or (λ (sent : Sent). is_kept kept (w.agent sent.to) sent.message) (w.post k) false in
    let more : Past = record { accepted = (program_happens (program_of w past.accepted) serving (model.Arrive k ok)).book; wanted = past.wanted } in (
      more,
      good_of (delivered w serving kept waiting k (w.post k)) more
          (arrival_known w past.accepted serving kept waiting k good.known (arrival_tells w past.accepted serving ok k tells) good.ids
          (some_weaker (λ sent. (ask : ℕ) → letter_of sent.message ≡ model.reply ask → IsWaitedFor (w.agent sent.to).gather ask waiting) (λ sent. MayBeHandled (w.agent sent.to) waiting sent.message) (w.post k)
          (λ sent there h. may_be_handled w past good k sent waiting there h) waits))
          (arrival_entered w past serving kept waiting k waits good)
          (delivered_right w past serving kept waiting k (w.post k) refl waits good),
    )
