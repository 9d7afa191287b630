-- A good city stays good as a node is given away.
use Rattle.std.proofs.Common.{◌≡◌, ℕ, Bool, true, false, is_some, List, [], ◌∷◌, IsSome, refl, sym, ap, ◌∙◌, arith}
use Rattle.std.specs.Prelude.{suc}
use Rattle.std.specs.Cmp.Lexicographic.{pointwise}
use Rattle.std.proofs.lemmas.List.Elements.{All-nil, All-cons}
use Rattle.iris_base.specs.declared.name.Label.{Label}
use Rattle.iris_base.specs.NameOrder.{label_eq}
use Rattle.iris_tree.specs.Universe.{node_at}
use Rattle.iris_fragment.specs.Changes.{version_at}
use Rattle.iris_route.specs.Titles.{Title, Titles, title_at, with_title}
use Rattle.iris_route.proofs.TitleMaps.{name_exact, set_here, set_elsewhere}
use Rattle.iris_book.specs.declared.entry.Entry.{Entry}
use Rattle.iris_book.specs.declared.entry.Entry.TheVariants.{Gave}
use Rattle.iris_cache.specs.Recency.{released_in}
use Rattle.iris_migrate.specs.declared.message.Handover.{Handover as Handed}
use Rattle.iris_migrate.specs.declared.message.Message.TheVariants.{Handover}
use Rattle.iris_migrate.specs.Titles as seats
use Rattle.iris_agent.specs.declared.give.Move.{Move}
use Rattle.iris_agent.specs.declared.step.Step.TheVariants as steps
use Rattle.iris_agent.specs.Gives.{gives, handover_of}
use Rattle.iris_agent.specs.Handled.{Handled}
use Rattle.iris_agent.specs.Tables.{with_cache}
use Rattle.iris_copies.proofs.Times.{present_entry}
use Rattle.iris_protocol.specs.Table.{AgentId, agents}
use Rattle.iris_runs.specs.Good.{Past, moment_of, IsPostAt, IsGood}
use Rattle.iris_runs.specs.Happenings.{move_of, given}
use Rattle.iris_runs.specs.Moments.{Wanted, Moment, with_entries, IsHandoverAt, BringsNewest}
use Rattle.iris_runs.specs.Worlds.{World, owner_of, epoch_of}
use Rattle.iris_runs.proofs.Knowing.{given_known}
use Rattle.iris_runs.proofs.MovedRight.{given_right, handover_right}
use Rattle.iris_runs.proofs.StayAsked.{asks_cached, asks_seated, taken_seated}
use Rattle.iris_runs.proofs.BookTies.{nothing_entered}
use Rattle.iris_runs.proofs.StayGood.{IsRight, right_of, good_of, some_weaker, IsSendAt, begun, LeavesRight, after_right}
use Rattle.iris_runs.proofs.StayRight.{message_later, brings_still, later_entry, agent_entry}

-- a name that has a title has one still, and no other gets one
titled_still : (registry : Titles) (name : List Label) (title : Title) → IsSome (title_at registry name) → (other : List Label) → is_some (title_at (with_title registry name title) other) ≡ is_some (title_at registry other)
titled_still registry name title there other = by (pointwise label_eq other name) refl
  where
    by : (b : Bool) → pointwise label_eq other name ≡ b → is_some (title_at (with_title registry name title) other) ≡ is_some (title_at registry other)
    by true same = ap (λ (n : List Label). is_some (title_at (with_title registry name title) n)) (name_exact other name same) ∙ ap is_some (set_here registry name title there)
        ∙ sym (ap (λ (n : List Label). is_some (title_at registry n)) (name_exact other name same) ∙ there)
    by false apart = ap is_some (set_elsewhere registry name other title apart)

registered_right : (w : World) (wanted : ℕ → Wanted) (registry : Titles) → ((name : List Label) → is_some (title_at registry name) ≡ is_some (title_at w.registry name)) → IsRight w wanted → IsRight (record w { registry = registry }) wanted
registered_right w wanted registry same right = record {
  present = right.present;
  labels = right.labels;
  ids = right.ids;
  agents_are = right.agents_are;
  asks = right.asks;
  registered = λ name. same name ∙ right.registered name;
  posts_are = λ k. some_weaker (IsPostAt w wanted) _ (w.post k) (λ sent there is. record { message = is.message; place = is.place; newest = is.newest }) (right.posts_are k);
}

pub given_good : (w : World) (past : Past) (name : List Label) (to : AgentId)
    → agents.same to (owner_of w.registry name) ≡ false
    → IsSome (node_at w.history.start name)
    → IsSome ((w.agent (owner_of w.registry name)).seat name).last
    → IsGood w past
    → (after : Past) × IsGood (given w name to) after
given_good w past name to apart place owns good = (
  past,
  good_of (given w name to) past (given_known w past.accepted name to good.known titled apart owns) (good.entered ∙ sym (nothing_entered w.history entry refl))
      (after_right titles past.wanted past.wanted owner left leaves (All-cons (IsSendAt (begun titles owner left) past.wanted) (steps.Post to (Handover handed)) [] sends (All-nil (IsSendAt (begun titles owner left) past.wanted)))
      (registered_right w past.wanted titles.registry (titled_still w.registry name (to, suc (epoch_of w.registry name)) titled) (right_of w past good))),
)
  where
    owner : AgentId
    owner = owner_of w.registry name

    move : Move
    move = move_of w name to

    titled : IsSome (title_at w.registry name)
    titled = good.registered name ∙ place

    titles : World
    titles = record w { registry = with_title w.registry name (to, suc (epoch_of w.registry name)) }

    left : Handled
    left = gives (w.agent owner) w.turn move

    handed : Handed
    handed = handover_of (w.agent owner) w.turn move

    m : Moment
    m = moment_of w past.wanted

    entry : Entry
    entry = Gave name to move.epoch

    valued : IsSome (version_at (w.agent owner).cache.contents name)
    valued = (good.agents owner).owns name place ∙ owns

    brings : IsHandoverAt m handed × BringsNewest m.history handed
    brings = handover_right m (w.agent owner) w.turn move refl good.present (good.agents owner) valued

    leaves : LeavesRight titles past.wanted past.wanted owner left
    leaves = record {
      later = later_entry m entry tt;
      present = present_entry w.history w.turn.now entry tt tt good.present;
      id_is = refl;
      here = given_right m (w.agent owner) w.turn move refl good.present (good.agents owner) valued;
      elsewhere = λ b other. agent_entry m entry (w.agent b) tt tt (good.agents b);
      asks = asks_seated (with_cache (w.agent owner) (released_in (w.agent owner).cache name w.turn.now)) name (seats.given ((w.agent owner).seat name) to move.epoch) (λ ask h. h)
          (asks_cached (w.agent owner) (released_in (w.agent owner).cache name w.turn.now) (good.asks owner));
      taken = taken_seated (w.agent owner) name (seats.given ((w.agent owner).seat name) to move.epoch) (omega arith);
      newest = λ k sent old there e told free h. brings_still m old entry told refl h;
    }

    sends : IsPostAt (begun titles owner left) past.wanted (record { to = to; message = Handover handed })
    sends = record {
      message = message_later m (with_entries m (entry ∷ [])) (Handover handed) (later_entry m entry tt) brings.0;
      place = place;
      newest = λ free. brings_still m handed entry brings.0 refl brings.1;
    }
