-- What is entered into a city's book is what the protocol accepts.
use Rattle.std.proofs.Common.{◌≡◌, ◌⊎◌, ℕ, ◌-◌, Bool, true, false, cond, if◌then◌else◌, List, [], ◌∷◌, ◌++◌, length, map, reverse, Option, None, slice_get, refl, sym, ap, ◌∙◌, subst, inl, inr, arith, length-append, append-nil}
use Rattle.std.specs.Prelude.{fold}
use Rattle.std.specs.List.{cons_option}
use Rattle.std.specs.Option.{option_map_or}
use Rattle.std.specs.Cmp.Lexicographic.{pointwise}
use Rattle.std.proofs.lemmas.List.{reverse-append, reverse-reverse}
use Rattle.std.proofs.lemmas.List.Elements.{filter_map-append}
use Rattle.iris_base.specs.declared.name.Label.{Label}
use Rattle.iris_base.specs.NameOrder.{label_eq}
use Rattle.iris_tree.specs.declared.change.Change.{Change}
use Rattle.iris_tree.specs.declared.local.Local.{Local}
use Rattle.iris_book.specs.Book.{History, Updates, with_entry, update_in, updates_in, updates_of, last_number_at}
use Rattle.iris_book.specs.declared.entry.Entry.{Entry}
use Rattle.iris_book.specs.declared.entry.Entry.TheVariants as entries
use Rattle.iris_book.specs.declared.update.NodeUpdate.{NodeUpdate}
use Rattle.iris_book.proofs.Values.{updates_more}
use Rattle.iris_migrate.specs.Messages.{node_of}
use Rattle.iris_agent.specs.declared.step.Step.{Step}
use Rattle.iris_agent.specs.declared.step.Step.TheVariants as steps
use Rattle.iris_agent.specs.Arrivals.{arrives}
use Rattle.iris_agent.specs.Handled.{Handled}
use Rattle.iris_agent.specs.Tables.{Tables}
use Rattle.iris_protocol.specs.Table.{AgentId, agents, set_at}
use Rattle.iris_protocol.specs.World as model
use Rattle.iris_protocol.specs.World.{last_number}
use Rattle.iris_protocol.specs.Agent as protocol
use Rattle.iris_protocol.specs.Program.{Program, program_step, program_steps, after_arrival, is_over_letter, program_handles}
use Rattle.iris_runs.specs.Alike.{MayBeHandled, HaveOwnIds}
use Rattle.iris_runs.specs.Entered.{KeptUpdates, updates_entered, updates_accepted}
use Rattle.iris_runs.specs.Happenings.{is_over, message_arrives}
use Rattle.iris_runs.specs.Letters.{agent_of, is_kept, letter_of, step_of}
use Rattle.iris_runs.specs.Worlds.{Sent, World, stepped, after, program_of}
use Rattle.iris_runs.proofs.Followed.{Enters, Follows}
use Rattle.iris_runs.proofs.StayGood.{begun}
use Rattle.iris_runs.proofs.StayRight.{at_end}
use Rattle.iris_runs.proofs.WorldTies.{over_alike, message_alike}

-- ---- the book

-- updates, the newest first
abbrev pub newest_first : Updates → KeptUpdates
newest_first us = map (λ u. (u.0, u.1.no)) (reverse us)

-- an entry that is no update
pub nothing_entered : (h : History) (e : Entry) → update_in e ≡ None → updates_entered (with_entry h e).entries ≡ updates_entered h.entries
nothing_entered h e none = ap newest_first (filter_map-append update_in h.entries (e ∷ []) ∙ ap (λ (o : Option (List Label × NodeUpdate)). updates_in h.entries ++ cons_option o []) none ∙ append-nil (updates_in h.entries))

update_entered : (h : History) (name : List Label) (number : ℕ) (changes : List Change) (local : Local) (at : ℕ)
    → updates_entered (with_entry h (entries.Updated name number changes local at)).entries ≡ (name, number) ∷ updates_entered h.entries
update_entered h name number changes local at =
    ap newest_first (filter_map-append update_in h.entries (entries.Updated name number changes local at ∷ []))
    ∙ ap (map (λ (u : List Label × NodeUpdate). (u.0, u.1.no))) (reverse-append (updates_in h.entries) ((name, record { no = number; changes = changes; local = local; at = at }) ∷ []))

-- the steps of an event enter no update
step_enters_none : (w : World) (s : Step) → updates_entered (stepped w s).history.entries ≡ updates_entered w.history.entries
step_enters_none w (steps.Post to message) = refl
step_enters_none w (steps.Answered request query floor items cites) = nothing_entered w.history (entries.Answered request query floor cites) refl
step_enters_none w (steps.Accepted request version) = refl
step_enters_none w (steps.Refused request refusal) = refl

steps_enter_none : (w : World) (ss : List Step) → updates_entered (fold stepped w ss).history.entries ≡ updates_entered w.history.entries
steps_enter_none w [] = refl
steps_enter_none w (s ∷ ss) = steps_enter_none (stepped w s) ss ∙ step_enters_none w s

-- an event that enters nothing but answers
pub quiet_entered : (w : World) (a : AgentId) (h : Handled) → h.entries ≡ [] → updates_entered (after w a h).history.entries ≡ updates_entered w.history.entries
quiet_entered w a h none = steps_enter_none (begun w a h) h.steps ∙ ap (λ (es : List Entry). updates_entered (fold with_entry w.history es).entries) none

-- ---- what the protocol accepts

-- where nothing is entered nothing is accepted
step_accepts_none : (t : Program) (s : Step) → (program_step t (step_of [] s)).book ≡ t.book
step_accepts_none t (steps.Post to message) = refl
step_accepts_none t (steps.Answered request query floor items cites) = refl
step_accepts_none t (steps.Accepted request version) = refl
step_accepts_none t (steps.Refused request refusal) = refl

steps_accept_none : (t : Program) (ss : List Step) → (program_steps t (map (step_of []) ss)).book ≡ t.book
steps_accept_none t [] = refl
steps_accept_none t (s ∷ ss) = steps_accept_none (program_step t (step_of [] s)) ss ∙ step_accepts_none t s

event_entered : (w : World) (a : AgentId) (h : Handled) (before : Tables) (of : Option (List Label)) (t : Program) → (h.entries ≡ []) ⊎ Enters before of h → updates_accepted t.book ≡ updates_entered w.history.entries
    → updates_accepted (program_steps t (map (step_of h.entries) h.steps)).book ≡ updates_entered (after w a h).history.entries
event_entered w a h before of t (inl none) tie =
    ap updates_accepted (ap (λ (es : List Entry). (program_steps t (map (step_of es) h.steps)).book) none ∙ steps_accept_none t h.steps) ∙ tie ∙ sym (quiet_entered w a h none)
event_entered w a h before of t (inr one) tie =
    let entry : Entry = entries.Updated one.place one.number one.changes one.local one.at in
    ap (λ (es : List Entry). updates_accepted (program_steps t (map (step_of es) h.steps)).book) one.is
    ∙ ap (λ (ss : List Step). updates_accepted (program_steps t (map (step_of (entry ∷ [])) ss)).book) one.told
    ∙ ap (λ (us : KeptUpdates). (one.place, one.number) ∷ us) tie
    ∙ sym (steps_enter_none (begun w a h) h.steps ∙ ap (λ (es : List Entry). updates_entered (fold with_entry w.history es).entries) one.is ∙ update_entered w.history one.place one.number one.changes one.local one.at)

-- ---- an arrival

pub message_entered : (w : World) (accepted : List model.Entry) (serving kept : Bool) (waiting : Option ℕ) (sent : Sent)
    → HaveOwnIds w
    → MayBeHandled (w.agent sent.to) waiting sent.message
    → Follows (w.agent sent.to) w.turn (node_of sent.message) (arrives kept waiting (w.agent sent.to) w.turn sent.message)
    → updates_accepted accepted ≡ updates_entered w.history.entries
    → updates_accepted (program_handles (program_of w accepted) serving (is_kept kept (w.agent sent.to) sent.message) sent.to (letter_of sent.message)).book ≡ updates_entered (message_arrives w serving kept waiting sent).history.entries
unfolding program_of
message_entered w accepted serving kept waiting sent own may follows tie =
    by (is_over_letter (program_of w accepted) serving (letter_of sent.message)) (is_over w serving sent.message) (over_alike w accepted serving sent.message)
  where
    t : Program
    t = program_of w accepted

    left : Handled
    left = arrives kept waiting (w.agent sent.to) w.turn sent.message

    told : protocol.Handled
    told = protocol.agent_arrives sent.to (agent_of (w.agent sent.to)) (is_kept kept (w.agent sent.to) sent.message) w.turn.next_gather (letter_of sent.message)

    by : (b over : Bool) → b ≡ over → updates_accepted (if b then t else after_arrival t sent.to told).book ≡ updates_entered (if over then w else after w sent.to left).history.entries
    by true true same = tie
    by true false same = absurd (cc)
    by false true same = absurd (cc)
    by false false same = subst (λ (x : protocol.Handled). updates_accepted (after_arrival t sent.to x).book ≡ updates_entered (after w sent.to left).history.entries) (message_alike w kept waiting sent own may)
        (event_entered w sent.to left (w.agent sent.to) (node_of sent.message) (record t { agent = set_at agents t.agent sent.to (agent_of left.tables); next_gather = left.turn.next_gather }) follows.entered tie)

-- ---- last numbers

-- the number of the last of these, 0 where there is none
abbrev last_in : List NodeUpdate → ℕ
last_in us = option_map_or (λ u. u.no) (slice_get us (length us - 1)) 0

last_pushed : (us : List NodeUpdate) (u : NodeUpdate) → last_in (us ++ u ∷ []) ≡ u.no
last_pushed us u =
    let place : length (us ++ u ∷ []) - 1 ≡ length us = omega (arith, length-append us (u ∷ [])) in
    ap (λ (n : ℕ). option_map_or (λ (v : NodeUpdate). v.no) (slice_get (us ++ u ∷ []) n) 0) place ∙ ap (λ (o : Option NodeUpdate). option_map_or (λ (v : NodeUpdate). v.no) o 0) (at_end us u)

-- of an accepted update only the node and the number count
last_of_rows : (name : List Label) (accepted : List model.Entry) → last_number name accepted ≡ last_number name (model.entries (updates_accepted accepted))
last_of_rows name [] = refl
last_of_rows name (entry ∷ accepted) = ap (λ (rest : ℕ). if pointwise label_eq name entry.node then entry.number else rest) (last_of_rows name accepted)

last_of_updates : (name : List Label) (us : Updates) → last_number name (model.entries (map (λ (u : List Label × NodeUpdate). (u.0, u.1.no)) us)) ≡ last_in (updates_of (reverse us) name)
last_of_updates name [] = refl
last_of_updates name (u ∷ us) =
    by (pointwise label_eq name u.0) (last_of_updates name us)
    ∙ sym (ap last_in (ap (λ (vs : Updates). updates_of vs name) (reverse-append (u ∷ []) us) ∙ updates_more (reverse us) u.0 name u.1))
  where
    by : (b : Bool) → last_number name (model.entries (map (λ (v : List Label × NodeUpdate). (v.0, v.1.no)) us)) ≡ last_in (updates_of (reverse us) name)
        → (if b then u.1.no else last_number name (model.entries (map (λ (v : List Label × NodeUpdate). (v.0, v.1.no)) us))) ≡ last_in (updates_of (reverse us) name ++ cond b (u.1 ∷ []) [])
    by true later = sym (last_pushed (updates_of (reverse us) name) u.1)
    by false later = later ∙ sym (ap last_in (append-nil (updates_of (reverse us) name)))

-- so the last number that the protocol accepted is that of the book
pub last_entered : (h : History) (accepted : List model.Entry) (name : List Label) → updates_accepted accepted ≡ updates_entered h.entries → last_number name accepted ≡ last_number_at h name
last_entered h accepted name tie =
    last_of_rows name accepted
    ∙ ap (λ (rows : KeptUpdates). last_number name (model.entries rows)) tie
    ∙ last_of_updates name (reverse (updates_in h.entries))
    ∙ ap (λ (us : Updates). last_in (updates_of us name)) (reverse-reverse (updates_in h.entries))
