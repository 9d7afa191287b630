-- Where nothing is under way a good city is at rest.
use Rattle.std.proofs.Common.{◌≡◌, ℕ, ◌<◌, Bool, true, false, not, ◌&&◌, if◌then◌else◌, is_some, List, [], ◌∷◌, map, Option, Some, None, IsSome, option_map, refl, sym, ap, subst, ◌∙◌}
use Rattle.std.proofs.lemmas.Bool.{false≢true}
use Rattle.iris_base.specs.declared.name.Label.{Label}
use Rattle.iris_need.specs.declared.need.Need.{Need}
use Rattle.iris_gather.specs.declared.entries.OpenGather.{OpenGather}
use Rattle.iris_gather.specs.OpenGathers.{is_none_left, is_due, is_lent}
use Rattle.iris_protocol.proofs.Quiets.{quiet_of}
use Rattle.iris_protocol.specs.Program.{Program, Known}
use Rattle.iris_protocol.specs.Settle.{due_at, lent_at, Still, Quiet}
use Rattle.iris_protocol.specs.Table.{AgentId}
use Rattle.iris_protocol.specs.World as model
use Rattle.iris_runs.specs.Good.{Past, IsGood}
use Rattle.iris_runs.specs.Letters.{gather_of}
use Rattle.iris_runs.specs.Rest.{IsStill, IsAtRest}
use Rattle.iris_runs.specs.Worlds.{Sent, World, owner_of, post_of, program_of}
use Rattle.iris_runs.proofs.KnownCities.{seat_known, gather_known, post_known, requests_known, closed_known}

-- ---- what is open, as the protocol sees it

due_seen : (one : Option OpenGather) → due_at (option_map gather_of one) ≡ is_due one
due_seen None = refl
due_seen (Some one) = by one.gather.pending one.lent
  where
    by : (pending : List (ℕ × Need)) (lent : Bool) → (if lent then false else model.is_empty (map (λ entry. entry.0) pending)) ≡ (is_none_left pending && not lent)
    by [] true = refl
    by [] false = refl
    by (entry ∷ pending) true = refl
    by (entry ∷ pending) false = refl

lent_seen : (one : Option OpenGather) → lent_at (option_map gather_of one) ≡ is_lent one
lent_seen None = refl
lent_seen (Some one) = refl

none_seen : (one : Option OpenGather) → option_map gather_of one ≡ None → one ≡ None
none_seen None none = refl
none_seen (Some one) none = absurd (cc)

some_sent : (sent : Option Sent) (p : model.Post) → option_map post_of sent ≡ Some p → (there : Sent) × (sent ≡ Some there)
some_sent None p is = absurd (cc)
some_sent (Some sent) p is = (sent, refl)

-- ---- the tables of the history

seen_known : (w : World) (accepted : List model.Entry) (known : Known (program_of w accepted)) (k : ℕ) → known.world.posted.seen k ≡ w.seen k
unfolding program_of
seen_known w accepted known k = ap (λ (t : Program). t.posted.seen k) known.is

owner_known : (w : World) (accepted : List model.Entry) (known : Known (program_of w accepted)) (name : List Label) → (known.world.node name).owner ≡ owner_of w.registry name
unfolding program_of
owner_known w accepted known name = ap (λ (t : Program). t.owner name) known.is

-- ---- at rest

has_outcome : (status : model.Status) → (status ≡ model.idle → ⊥) → ((a : AgentId) (number : ℕ) → status ≡ model.opened a number → ⊥) → model.is_done status ≡ true
has_outcome model.idle not_idle not_opened = absurd (not_idle refl)
has_outcome (model.opened a number) not_idle not_opened = absurd (not_opened a number refl)
has_outcome (model.done outcome) not_idle not_opened = refl

pub still_at_rest : (w : World) (past : Past) → IsGood w past → IsStill w → IsAtRest w
still_at_rest w past good still = record {
  owned = λ name. subst (λ a. IsSome ((w.agent a).seat name).last) (owner_known w past.accepted known name)
      (ap (λ seat. is_some seat.last) (sym (seat_known w past.accepted known (known.world.node name).owner name)) ∙ ap is_some (quiet.held name).last);
  closed = λ a number. none_seen ((w.agent a).gather number) (sym (gather_known w past.accepted known a number) ∙ quiet.closed a number);
  parked = λ a name. ap (λ seat. seat.parked) (sym (seat_known w past.accepted known a name)) ∙ quiet.parked name a;
  answered = λ request before.
      let made = subst (λ count. request < count) (sym (requests_known w past.accepted known)) before in
      let has = quiet.answered request made in
      sym (closed_known w past.accepted known request) ∙ has_outcome (known.world.status request) has.0 has.1;
}
  where
    known : Known (program_of w past.accepted)
    known = good.known

    all_delivered : Still known.world
    all_delivered k p is unseen =
        let there = some_sent (w.post k) p (sym (post_known w past.accepted known k) ∙ is) in
        false≢true (sym (sym (seen_known w past.accepted known k) ∙ unseen) ∙ still.delivered k there.0 there.1)

    quiet : Quiet known.world
    quiet = quiet_of known.world known.good all_delivered
        (λ a number. ap due_at (gather_known w past.accepted known a number) ∙ due_seen ((w.agent a).gather number) ∙ still.none_due a number)
        (λ a number. ap lent_at (gather_known w past.accepted known a number) ∙ lent_seen ((w.agent a).gather number) ∙ still.none_lent a number)
