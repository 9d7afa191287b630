-- What a city is once it forgot.
use Rattle.std.proofs.Common.{◌≡◌, ◌⊎◌, inl, inr, ℕ, zero, suc, ◌<◌, ◌^◌, Bool, true, false, List, [], ◌∷◌, ◌||◌, Option, Some, None, refl, sym, ap, ◌∙◌, subst, if◌then◌else◌, not, arith}
use Rattle.std.proofs.lemmas.Option.{same_Some}
use Rattle.std.specs.Prelude.{MatchBool, is_some, option_map, slice_get}
use Rattle.std.specs.List.{AllZip}
use Rattle.iris_base.specs.declared.name.Label.{Label}
use Rattle.iris_tree.specs.Universe.{Node, node_at}
use Rattle.iris_book.specs.Entering.{without_answers}
use Rattle.iris_posts.specs.declared.post.Post.{Post}
use Rattle.iris_posts.specs.Posts.{is_seen, post_at}
use Rattle.iris_migrate.specs.declared.key.Key.TheVariants as keys
use Rattle.iris_migrate.specs.Titles.{empty_seat, is_parked, with_last}
use Rattle.iris_gather.specs.OpenGathers.{awaits, names, serves_ask}
use Rattle.iris_agent.specs.Tables.{Holdings, Tables, tables_of}
use Rattle.iris_protocol.specs.Table.{AgentId, agents}
use Rattle.iris_runs.specs.Among.{AreAmong}
use Rattle.iris_runs.specs.Happenings.{forgotten}
use Rattle.iris_runs.proofs.AmongCities.{forgotten_among}
use Rattle.iris_runs.proofs.AnswersAllowed.{answers_forgotten}
use Rattle.iris_runs.proofs.KnownCities.{asked_below}
use Rattle.iris_runs.proofs.StayQuiet.{forgotten_good}
use Rattle.iris_state.specs.Agents.{agent_by, has_id, is_here, outside, place_in, seat_outside}
use Rattle.iris_state.specs.City.{HaveOwnPlaces, IsSteady}
use Rattle.iris_state.specs.Events.{IsNamed, IsUnnamed, HasForgotten, HasForgottenAsks}
use Rattle.iris_state.specs.Whole.{Whole, sent_of, world_of}
use Rattle.iris_state.proofs.SteadyCities.{steady_of}

-- ---- an agent before and after

-- what is known of the agent of an id: it is outside, or it forgot what is told
pub record IsAt (document : Node) (hs olds news : List Holdings) (a : AgentId) : Type 0 where
  pub old : Holdings
  pub new : Holdings
  pub was : agent_by document olds a ≡ tables_of old
  pub is : agent_by document news a ≡ tables_of new
  pub forgot : HasForgottenAsks hs old new

agent_at : (document : Node) (hs olds news : List Holdings) (a : AgentId) → AllZip (HasForgottenAsks hs) olds news
    → ((agent_by document olds a ≡ outside document a) × (agent_by document news a ≡ outside document a)) ⊎ IsAt document hs olds news a
agent_at document hs [] [] a all = inl (refl, refl)
agent_at document hs [] (y ∷ ys) a all = absurd all
agent_at document hs (x ∷ xs) [] a all = absurd all
agent_at document hs (x ∷ xs) (y ∷ ys) a all = by (has_id a x) refl (ap (λ (h : Holdings). has_id a h) all.0.rest) (agent_at document hs xs ys a all.1)
  where
    by : (b : Bool) → has_id a x ≡ b → has_id a y ≡ has_id a x
        → ((agent_by document xs a ≡ outside document a) × (agent_by document ys a ≡ outside document a)) ⊎ IsAt document hs xs ys a
        → ((agent_by document (x ∷ xs) a ≡ outside document a) × (agent_by document (y ∷ ys) a ≡ outside document a)) ⊎ IsAt document hs (x ∷ xs) (y ∷ ys) a
    by true mine same rest = inr (record {
      old = x;
      new = y;
      was = ap (λ (b : Bool). if b then tables_of x else agent_by document xs a) mine;
      is = ap (λ (b : Bool). if b then tables_of y else agent_by document ys a) (same ∙ mine);
      forgot = all.0;
    })
    by false other same (inl out) = inl (ap (λ (b : Bool). if b then tables_of x else agent_by document xs a) other ∙ out.0, ap (λ (b : Bool). if b then tables_of y else agent_by document ys a) (same ∙ other) ∙ out.1)
    by false other same (inr at) = inr (record {
      old = at.old;
      new = at.new;
      was = ap (λ (b : Bool). if b then tables_of x else agent_by document xs a) other ∙ at.was;
      is = ap (λ (b : Bool). if b then tables_of y else agent_by document ys a) (same ∙ other) ∙ at.is;
      forgot = at.forgot;
    })

abbrev pub asked_of : Node → List Holdings → AgentId → ℕ → Bool
asked_of document hs a ask = (agent_by document hs a).asked ask

-- it is as before but for the asks
agent_kept : (document : Node) (hs olds news : List Holdings) (a : AgentId) → AllZip (HasForgottenAsks hs) olds news → agent_by document news a ≡ record (agent_by document olds a) { asked = asked_of document news a }
unfolding tables_of
agent_kept document hs olds news a all = by (agent_at document hs olds news a all)
  where
    by : ((agent_by document olds a ≡ outside document a) × (agent_by document news a ≡ outside document a)) ⊎ IsAt document hs olds news a
        → agent_by document news a ≡ record (agent_by document olds a) { asked = asked_of document news a }
    by (inl out) = out.1 ∙ (λ i. record (sym out.0 i) { asked = (sym out.1 i).asked })
    by (inr at) = at.is ∙ ap tables_of at.forgot.rest ∙ (λ i. record (sym at.was i) { asked = (sym at.is i).asked })

asked_fell : (document : Node) (hs olds news : List Holdings) (a : AgentId) (ask : ℕ) → AllZip (HasForgottenAsks hs) olds news → asked_of document olds a ask ≡ false → asked_of document news a ask ≡ false
unfolding tables_of
asked_fell document hs olds news a ask all unmet = by (agent_at document hs olds news a all)
  where
    by : ((agent_by document olds a ≡ outside document a) × (agent_by document news a ≡ outside document a)) ⊎ IsAt document hs olds news a → asked_of document news a ask ≡ false
    by (inl out) = ap (λ (t : Tables). t.asked ask) out.1
    by (inr at) = ap (λ (t : Tables). t.asked ask) at.is ∙ at.forgot.others ask (sym (ap (λ (t : Tables). t.asked ask) at.was) ∙ unmet)

asked_stays : (document : Node) (hs olds news : List Holdings) (a : AgentId) (ask : ℕ) → AllZip (HasForgottenAsks hs) olds news → ask < 2 ^ 64 → asked_of document olds a ask ≡ true
    → MatchBool (asked_of document news a ask) (IsNamed hs ask) (IsUnnamed hs ask)
unfolding tables_of
asked_stays document hs olds news a ask all fits met = by (agent_at document hs olds news a all)
  where
    by : ((agent_by document olds a ≡ outside document a) × (agent_by document news a ≡ outside document a)) ⊎ IsAt document hs olds news a → MatchBool (asked_of document news a ask) (IsNamed hs ask) (IsUnnamed hs ask)
    by (inl out) = let nobody = sym (ap (λ (t : Tables). t.asked ask) out.0) ∙ met in absurd (cc)
    by (inr at) = subst (λ (b : Bool). MatchBool b (IsNamed hs ask) (IsUnnamed hs ask)) (sym (ap (λ (t : Tables). t.asked ask) at.is)) (at.forgot.met ask fits (sym (ap (λ (t : Tables). t.asked ask) at.was) ∙ met))

-- ---- which asks stay

-- an ask that was met stays where it is still known; of one that was not met nothing is forgotten
abbrev pub stays_by : Node → List Holdings → List Holdings → AgentId → ℕ → Bool
stays_by document olds news a ask = asked_of document news a ask || not (asked_of document olds a ask)

stays_unmet : (new old : Bool) → old ≡ false → (new || not old) ≡ true
stays_unmet true old unmet = refl
stays_unmet false old unmet = ap not unmet

stays_met : (new old : Bool) → old ≡ true → (new || not old) ≡ new
stays_met true old met = refl
stays_met false old met = ap not met

asked_is : (new old : Bool) → (old ≡ false → new ≡ false) → new ≡ (if (new || not old) then old else false)
asked_is new true fell = by new
  where
    by : (b : Bool) → b ≡ (if (b || false) then true else false)
    by true = refl
    by false = refl
asked_is new false fell = by new (fell refl)
  where
    by : (b : Bool) → b ≡ false → b ≡ (if (b || true) then false else false)
    by true none = none
    by false none = refl

-- ---- the city

post_if : (b : Bool) (o : Option Post) → option_map sent_of (if b then None else o) ≡ (if b then None else option_map sent_of o)
post_if true o = refl
post_if false o = refl

pub forgot_city : (old new : Whole)
    → AllZip (HasForgottenAsks old.agents) old.agents new.agents
    → new ≡ record old { agents = new.agents; outbox = new.outbox; book = new.book }
    → ((k : ℕ) → post_at new.outbox.posts k ≡ (if is_seen old.outbox.posts k then None else post_at old.outbox.posts k))
    → ((k : ℕ) → is_seen new.outbox.posts k ≡ is_seen old.outbox.posts k)
    → new.outbox.posts.made ≡ old.outbox.posts.made
    → new.book.history ≡ without_answers old.book.history
    → world_of new ≡ forgotten (world_of old) (stays_by old.book.history.start old.agents new.agents)
unfolding world_of
forgot_city old new all rest post seen made history =
    ap world_of rest
    ∙ (λ i. record (world_of old) {
      agent = ((λ j. agent_by (history j).start new.agents) ∙ table) i;
      post = λ k. (ap (option_map sent_of) (post k) ∙ post_if (is_seen old.outbox.posts k) (post_at old.outbox.posts k)) i;
      seen = λ k. seen k i;
      posts = made i;
      history = history i;
    })
  where
    document : Node
    document = old.book.history.start

    stays : AgentId → ℕ → Bool
    stays = stays_by document old.agents new.agents

    one : (a : AgentId) → agent_by document new.agents a ≡ record (agent_by document old.agents a) { asked = λ ask. if stays a ask then asked_of document old.agents a ask else false }
    one a =
        agent_kept document old.agents old.agents new.agents a all
        ∙ (λ i. record (agent_by document old.agents a) { asked = λ ask. asked_is (asked_of document new.agents a ask) (asked_of document old.agents a ask) (asked_fell document old.agents old.agents new.agents a ask all) i })

    table : agent_by document new.agents ≡ (λ a. record (agent_by document old.agents a) { asked = λ ask. if stays a ask then asked_of document old.agents a ask else false })
    table = λ i a. one a i

-- what stays is what an agent names
pub forgot_named : (old new : Whole) → AllZip (HasForgottenAsks old.agents) old.agents new.agents → old.turn.next_ask < 2 ^ 64 → IsSteady old → (a : AgentId) (ask : ℕ) → ((world_of old).agent a).asked ask ≡ true
    → MatchBool (stays_by old.book.history.start old.agents new.agents a ask) (IsNamed old.agents ask) (IsUnnamed old.agents ask)
unfolding world_of
forgot_named old new all next steady a ask met =
    let document = old.book.history.start in
    let below = asked_below (world_of old) steady.past.accepted steady.good.known a ask met in
    subst (λ (b : Bool). MatchBool b (IsNamed old.agents ask) (IsUnnamed old.agents ask)) (sym (stays_met (asked_of document new.agents a ask) (asked_of document old.agents a ask) met))
    (asked_stays document old.agents old.agents new.agents a ask all (omega (arith, below, next)) met)

-- the numbers of asks are the machine's
pub asks_fit : (old now : Whole) (asks : ℕ) → old ≡ now → asks ≡ now.turn.next_ask → asks < 2 ^ 64 → old.turn.next_ask < 2 ^ 64
asks_fit old now asks same made fits = subst (λ (n : ℕ). n < 2 ^ 64) (made ∙ ap (λ (o : Whole). o.turn.next_ask) (sym same)) fits

-- what was forgotten, of a city that is equal
pub forgot_all : (old now new : Whole)
    → old ≡ now
    → AllZip (HasForgottenAsks old.agents) old.agents new.agents
    → old.turn.next_ask < 2 ^ 64
    → world_of new ≡ forgotten (world_of old) (stays_by old.book.history.start old.agents new.agents)
    → IsSteady now
    → HasForgotten now.agents (world_of now) (world_of new)
forgot_all old now new same all next city steady = subst (λ (o : Whole). HasForgotten o.agents (world_of o) (world_of new)) same (record {
  stays = stays_by old.book.history.start old.agents new.agents;
  named = forgot_named old new all next (subst IsSteady (sym same) steady);
  city = city;
})

-- ---- what no agent names

outside_parks : (a : AgentId) (is_node : Bool) (ask : ℕ) → is_parked (seat_outside a is_node) (Some (keys.Ask ask)) ≡ false
outside_parks a true ask = refl
outside_parks a false ask = by (agents.same a [])
  where
    by : (b : Bool) → is_parked (if b then with_last empty_seat 0 else empty_seat) (Some (keys.Ask ask)) ≡ false
    by true = refl
    by false = refl

unnamed_gather : (document : Node) (hs : List Holdings) (a : AgentId) (ask number : ℕ) → IsUnnamed hs ask → names ask ((agent_by document hs a).gather number) ≡ false
unfolding tables_of
unnamed_gather document [] a ask number none = refl
unnamed_gather document (h ∷ hs) a ask number none = by (has_id a h) (unnamed_gather document hs a ask number none.1)
  where
    by : (b : Bool) → names ask ((agent_by document hs a).gather number) ≡ false → names ask ((if b then tables_of h else agent_by document hs a).gather number) ≡ false
    by true rest = none.0.no_gather number
    by false rest = rest

unnamed_parked : (document : Node) (hs : List Holdings) (a : AgentId) (name : List Label) (ask : ℕ) → IsUnnamed hs ask → is_parked ((agent_by document hs a).seat name) (Some (keys.Ask ask)) ≡ false
unfolding tables_of
unnamed_parked document [] a name ask none = outside_parks a (is_some (node_at document name)) ask
unnamed_parked document (h ∷ hs) a name ask none = by (has_id a h) (unnamed_parked document hs a name ask none.1)
  where
    by : (b : Bool) → is_parked ((agent_by document hs a).seat name) (Some (keys.Ask ask)) ≡ false → is_parked ((if b then tables_of h else agent_by document hs a).seat name) (Some (keys.Ask ask)) ≡ false
    by true rest = none.0.no_message name
    by false rest = rest

waits_named : (serves waits : Bool) → waits ≡ true → (serves || waits) ≡ false → ⊥
waits_named true waits is none = absurd (cc)
waits_named false waits is none = absurd (cc)

serves_named : (serves waits : Bool) → serves ≡ true → (serves || waits) ≡ false → ⊥
serves_named true waits is none = absurd (cc)
serves_named false waits is none = absurd (cc)

parked_named : (parked : Bool) → parked ≡ true → parked ≡ false → ⊥
parked_named parked is none = absurd (cc)

-- ---- a steady city

same_ids : (hs olds news : List Holdings) (a : AgentId) → AllZip (HasForgottenAsks hs) olds news → (is_here news a ≡ is_here olds a) × (place_in a news ≡ place_in a olds)
same_ids hs [] [] a all = (refl, refl)
same_ids hs [] (y ∷ ys) a all = absurd all
same_ids hs (x ∷ xs) [] a all = absurd all
same_ids hs (x ∷ xs) (y ∷ ys) a all =
    let rest = same_ids hs xs ys a all.1 in
    let same = ap (λ (h : Holdings). has_id a h) all.0.rest in
    ((λ i. same i || rest.0 i), (λ i. if same i then Some 0 else option_map suc (rest.1 i)))

pub here_forgot : (old now : Whole) (news : List Holdings) → old ≡ now → AllZip (HasForgottenAsks old.agents) old.agents news → is_here news ≡ is_here now.agents
here_forgot old now news same all = (λ i a. (same_ids old.agents old.agents news a all).0 i) ∙ ap (λ (o : Whole). is_here o.agents) same

was_at : (hs olds news : List Holdings) (place : ℕ) (h : Holdings) → AllZip (HasForgottenAsks hs) olds news → slice_get news place ≡ Some h → (old : Holdings) × ((slice_get olds place ≡ Some old) × (h.id ≡ old.id))
was_at hs [] [] place h all there = absurd (cc)
was_at hs [] (y ∷ ys) place h all there = absurd all
was_at hs (x ∷ xs) [] place h all there = absurd all
was_at hs (x ∷ xs) (y ∷ ys) zero h all there = (x, (refl, ap (λ (one : Holdings). one.id) (sym (same_Some _ _ there)) ∙ ap (λ (one : Holdings). one.id) all.0.rest))
was_at hs (x ∷ xs) (y ∷ ys) (suc place) h all there = was_at hs xs ys place h all.1 there

own_places : (hs olds news : List Holdings) → AllZip (HasForgottenAsks hs) olds news → HaveOwnPlaces olds → HaveOwnPlaces news
own_places hs olds news all own = λ place h there.
    let was = was_at hs olds news place h all there in
    (same_ids hs olds news h.id all).1 ∙ ap (λ (a : AgentId). place_in a olds) was.1.1 ∙ own place was.0 was.1.0

pub steady_forgot : (old new : Whole)
    → AllZip (HasForgottenAsks old.agents) old.agents new.agents
    → old.turn.next_ask < 2 ^ 64
    → world_of new ≡ forgotten (world_of old) (stays_by old.book.history.start old.agents new.agents)
    → IsSteady old
    → IsSteady new
unfolding world_of
steady_forgot old new all next city steady =
    let w = world_of old in
    let document = old.book.history.start in
    let stays = stays_by document old.agents new.agents in
    let good = forgotten_good w steady.past stays
    (λ a b ask number waits. stays_if a ask (λ none. waits_named (serves_ask ask ((w.agent b).gather number)) (awaits ask ((w.agent b).gather number)) waits (unnamed_gather document old.agents b ask number none)))
    (λ a ask number serves. stays_if a ask (λ none. serves_named (serves_ask ask ((w.agent a).gather number)) (awaits ask ((w.agent a).gather number)) serves (unnamed_gather document old.agents a ask number none)))
    (λ a name ask parked. stays_if a ask (λ none. parked_named (is_parked ((w.agent a).seat name) (Some (keys.Ask ask))) parked (unnamed_parked document old.agents a name ask none)))
    steady.good in
    steady_of new (forgotten w stays) new.agents good.0 city refl good.1 (answers_forgotten w.history w.turn.now)
    (subst (λ (here : AgentId → Bool). AreAmong here (forgotten w stays)) (λ i a. sym (same_ids old.agents old.agents new.agents a all).0 i) (forgotten_among (is_here old.agents) w stays steady.among))
    (own_places old.agents old.agents new.agents all steady.ids)
  where
    by_met : (ask : ℕ) (stays : Bool) → MatchBool stays (IsNamed old.agents ask) (IsUnnamed old.agents ask) → (IsUnnamed old.agents ask → ⊥) → stays ≡ true
    by_met ask true told named = refl
    by_met ask false told named = absurd (named told)

    by : (a : AgentId) (ask : ℕ) (met : Bool) → asked_of old.book.history.start old.agents a ask ≡ met → (IsUnnamed old.agents ask → ⊥) → stays_by old.book.history.start old.agents new.agents a ask ≡ true
    by a ask false unmet named = stays_unmet (asked_of old.book.history.start new.agents a ask) (asked_of old.book.history.start old.agents a ask) unmet
    by a ask true met named = by_met ask (stays_by old.book.history.start old.agents new.agents a ask) (forgot_named old new all next steady a ask met) named

    stays_if : (a : AgentId) (ask : ℕ) → (IsUnnamed old.agents ask → ⊥) → stays_by old.book.history.start old.agents new.agents a ask ≡ true
    stays_if a ask named = by a ask (asked_of old.book.history.start old.agents a ask) refl named
