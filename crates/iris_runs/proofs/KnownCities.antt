-- What a city's history by the protocol says of its own tables: which numbers are free, which requests were made, whose asks are pending, and what is parked.
use Rattle.std.proofs.Common.{◌≡◌, ◌≢◌, ◌⊎◌, ℕ, ◌<◌, ◌≤◌, Bool, true, false, cond, is_some, nat_eq, List, [], ◌∷◌, map, Option, Some, None, option_map, refl, sym, ap, ◌∙◌, subst, inl, inr, arith}
use Rattle.std.specs.List.{filter_map}
use Rattle.std.specs.BTreeMap.{is_at}
use Rattle.std.specs.Ordering.{nat_cmp}
use Rattle.std.proofs.lemmas.Bool.{eqb-true}
use Rattle.std.proofs.lemmas.Bool.Decides.{nat_tests}
use Rattle.iris_base.specs.declared.name.Label.{Label}
use Rattle.iris_need.specs.declared.need.Need.{Need}
use Rattle.iris_migrate.specs.declared.key.Key.TheVariants as keys
use Rattle.iris_migrate.specs.declared.message.Message.{Message}
use Rattle.iris_migrate.specs.declared.message.Message.TheVariants.{Query, Ask, Reply, Update, Handover}
use Rattle.iris_migrate.specs.Messages.{key_of}
use Rattle.iris_gather.specs.declared.entries.OpenGather.{OpenGather}
use Rattle.iris_gather.specs.declared.parent.Parent.{Parent}
use Rattle.iris_gather.specs.declared.parent.Parent.TheVariants as parents
use Rattle.iris_gather.specs.Gathers.{need_at}
use Rattle.iris_gather.specs.OpenGathers.{is_request, serves_request, awaits}
use Rattle.iris_protocol.specs.Table.{AgentId, Each, Among, Distinct}
use Rattle.iris_protocol.specs.World as model
use Rattle.iris_protocol.specs.Good.{Idle, KnownLetter, PostGood, IsAskOf, GatherGood, parent_at}
use Rattle.iris_protocol.specs.Program.{Program, Known}
use Rattle.iris_protocol.proofs.Tables.{of_some, Each-one}
use Rattle.iris_runs.specs.Alike.{WaitsOnce, IsWaitedFor}
use Rattle.iris_runs.specs.Letters.{agent_of, gather_of, seat_of, mail_of, letter_of, parent_of}
use Rattle.iris_runs.specs.Worlds.{Sent, World, post_of, program_of}

-- ---- the tables of the history are those of the city

pub seat_known : (w : World) (accepted : List model.Entry) (known : Known (program_of w accepted)) (a : AgentId) (name : List Label) → (known.world.node name).seat a ≡ seat_of ((w.agent a).seat name)
unfolding program_of agent_of
seat_known w accepted known a name = ap (λ (t : Program). (t.agent a).seat name) known.is

pub gather_known : (w : World) (accepted : List model.Entry) (known : Known (program_of w accepted)) (a : AgentId) (number : ℕ) → known.world.gather a number ≡ option_map gather_of ((w.agent a).gather number)
unfolding program_of agent_of
gather_known w accepted known a number = ap (λ (t : Program). (t.agent a).gather number) known.is

pub asked_known : (w : World) (accepted : List model.Entry) (known : Known (program_of w accepted)) (a : AgentId) (ask : ℕ) → known.world.knows a ask ≡ (w.agent a).asked ask
unfolding program_of agent_of
asked_known w accepted known a ask = ap (λ (t : Program). (t.agent a).knows ask) known.is

pub post_known : (w : World) (accepted : List model.Entry) (known : Known (program_of w accepted)) (k : ℕ) → known.world.posted.post k ≡ option_map post_of (w.post k)
unfolding program_of
post_known w accepted known k = ap (λ (t : Program). t.posted.post k) known.is

pub requests_known : (w : World) (accepted : List model.Entry) (known : Known (program_of w accepted)) → known.world.requested.count ≡ w.requests
unfolding program_of
requests_known w accepted known = ap (λ (t : Program). t.requests) known.is

pub closed_known : (w : World) (accepted : List model.Entry) (known : Known (program_of w accepted)) (request : ℕ) → model.is_done (known.world.status request) ≡ w.closed request
unfolding program_of
closed_known w accepted known request = ap (λ (t : Program). t.closed request) known.is

pub book_known : (w : World) (accepted : List model.Entry) (known : Known (program_of w accepted)) → known.world.book ≡ accepted
unfolding program_of
book_known w accepted known = ap (λ (t : Program). t.book) known.is

pub gathers_known : (w : World) (accepted : List model.Entry) (known : Known (program_of w accepted)) → known.world.gathers ≡ w.turn.next_gather
unfolding program_of
gathers_known w accepted known = ap (λ (t : Program). t.next_gather) known.is

pub asks_known : (w : World) (accepted : List model.Entry) (known : Known (program_of w accepted)) → known.world.asks.count ≡ w.turn.next_ask
unfolding program_of
asks_known w accepted known = ap (λ (t : Program). t.next_ask) known.is

-- ---- kept posts

-- what the protocol says of a post that is kept
pub post_good : (w : World) (accepted : List model.Entry) (known : Known (program_of w accepted)) (k : ℕ) (sent : Sent) → w.post k ≡ Some sent → PostGood known.world.node known.world.requested known.world.asks (post_of sent)
post_good w accepted known k sent there = of_some (PostGood known.world.node known.world.requested known.world.asks) (known.world.posted.post k) (post_of sent) (post_known w accepted known k ∙ ap (option_map post_of) there) (known.good.letters.kept k)

-- the request of a message was made
pub posted_below : (w : World) (accepted : List model.Entry) → Known (program_of w accepted) → (k : ℕ) (sent : Sent) (request : ℕ) → w.post k ≡ Some sent → key_of sent.message ≡ Some (keys.Request request) → request < w.requests
posted_below w accepted known k sent request there is = subst (λ (count : ℕ). request < count) (requests_known w accepted known) (by sent.message (post_good w accepted known k sent there).known is)
  where
    of_number : (own : ℕ) → Some (keys.Request own) ≡ Some (keys.Request request) → own < known.world.requested.count → request < known.world.requested.count
    of_number own same before = let e : own ≡ request = cc in subst (λ (r : ℕ). r < known.world.requested.count) e before

    by : (message : Message) → KnownLetter known.world.requested known.world.asks sent.to (letter_of message) → key_of message ≡ Some (keys.Request request) → request < known.world.requested.count
    by (Query own asked name epoch floor) says is = of_number own is says.0
    by (Ask ask from asked start epoch floor) says is = absurd (cc)
    by (Reply ask pieces) says is = absurd (cc)
    by (Update own name epoch number changes) says is = of_number own is says.0
    by (Handover handed) says is = absurd (cc)

-- ---- small facts

none_before : {A B : Type 0} (f : A → B) (o : Option A) → option_map f o ≡ None → o ≡ None
none_before f None none = refl
none_before f (Some x) none = absurd (cc)

empty_before : {A B : Type 0} (f : A → B) (xs : List A) → map f xs ≡ [] → xs ≡ []
empty_before f [] empty = refl
empty_before f (x ∷ xs) empty = absurd (cc)

mapped_among : {A B : Type 0} (f : A → B) (x : A) (xs : List A) → Among (λ y. y ≡ x) xs → Among (λ z. z ≡ f x) (map f xs)
mapped_among f x [] m = m
mapped_among f x (y ∷ ys) (inl same) = inl (ap f same)
mapped_among f x (y ∷ ys) (inr m) = inr (mapped_among f x ys m)

-- what has different images is different
distinct_before : {A B : Type 0} (f : A → B) (xs : List A) → Distinct (map f xs) → Distinct xs
distinct_before f [] all = tt
distinct_before f (x ∷ xs) all = (λ m. all.0 (mapped_among f x xs m), distinct_before f xs all.1)

-- ---- free numbers

-- no agent has a gather of a number that is free for gathers
pub numbers_free : (w : World) (accepted : List model.Entry) → Known (program_of w accepted) → (a : AgentId) (number : ℕ) → w.turn.next_gather ≤ number → (w.agent a).gather number ≡ None
numbers_free w accepted known a number free =
    let later = subst (λ (next : ℕ). next ≤ number) (sym (gathers_known w accepted known)) free in
    none_before gather_of ((w.agent a).gather number) (sym (gather_known w accepted known a number) ∙ known.good.gathers.fresh a number later)

-- an ask that an agent met was made
pub asked_below : (w : World) (accepted : List model.Entry) → Known (program_of w accepted) → (a : AgentId) (ask : ℕ) → (w.agent a).asked ask ≡ true → ask < w.turn.next_ask
asked_below w accepted known a ask met = subst (λ (next : ℕ). ask < next) (asks_known w accepted known) (known.good.gathers.known a ask (asked_known w accepted known a ask ∙ met))

-- ---- open gathers

pub gather_good : (w : World) (accepted : List model.Entry) (known : Known (program_of w accepted)) (a : AgentId) (number : ℕ) (one : OpenGather) → (w.agent a).gather number ≡ Some one
    → GatherGood known.world.asks known.world.place a number (gather_of one)
gather_good w accepted known a number one there = of_some (GatherGood known.world.asks known.world.place a number) (known.world.gather a number) (gather_of one) (gather_known w accepted known a number ∙ ap (option_map gather_of) there) (known.good.gathers.kept a number)

-- it waits for each of its asks once, and where it is lent it waits for none
pub waits_once : (w : World) (accepted : List model.Entry) → Known (program_of w accepted) → (a : AgentId) (number : ℕ) (one : OpenGather) → (w.agent a).gather number ≡ Some one → WaitsOnce one
waits_once w accepted known a number one there =
    let good = gather_good w accepted known a number one there in
    record {
      once = distinct_before (λ (ask : ℕ). (known.world.asks.info ask).node) (map (λ entry. entry.0) one.gather.pending) good.names;
      lent = λ lent. empty_before (λ entry. entry.0) one.gather.pending (good.lent lent);
    }

parent_known : (w : World) (accepted : List model.Entry) (known : Known (program_of w accepted)) (a : AgentId) (number : ℕ) (one : OpenGather) → (w.agent a).gather number ≡ Some one → parent_at (known.world.gather a number) ≡ Some (parent_of one.gather.parent)
parent_known w accepted known a number one there = ap parent_at (gather_known w accepted known a number ∙ ap (option_map gather_of) there)

-- the request of a client's gather was made, and has no outcome while the gather is open
pub client_open : (w : World) (accepted : List model.Entry) → Known (program_of w accepted) → (a : AgentId) (number : ℕ) (one : OpenGather) (request : ℕ) → (w.agent a).gather number ≡ Some one → one.gather.parent ≡ parents.Client request
    → (request < w.requests) × (w.closed request ≡ false)
client_open w accepted known a number one request there client =
    let opened = known.good.requests.clients a number request (parent_known w accepted known a number one there ∙ ap (λ (parent : Parent). Some (parent_of parent)) client) in
    (subst (λ (count : ℕ). request < count) (requests_known w accepted known) opened.0, sym (closed_known w accepted known request) ∙ ap model.is_done opened.2)

same_ask : (ask other : ℕ) → is_at (nat_cmp ask) other ≡ true → other ≡ ask
same_ask ask other is = grind (arith, nat_tests)

pending_in : (ask : ℕ) (pending : List (ℕ × Need)) → is_some (need_at pending ask) ≡ true → Among (λ (j : ℕ). j ≡ ask) (map (λ entry. entry.0) pending)
pending_in ask [] some = absurd (cc)
pending_in ask (e ∷ es) some = by (is_at (nat_cmp ask) e.0) refl some (pending_in ask es)
  where
    by : (b : Bool) → is_at (nat_cmp ask) e.0 ≡ b → is_some (cond b (Some e.1) (need_at es ask)) ≡ true → (is_some (need_at es ask) ≡ true → Among (λ (j : ℕ). j ≡ ask) (map (λ entry. entry.0) es)) → (e.0 ≡ ask) ⊎ Among (λ (j : ℕ). j ≡ ask) (map (λ entry. entry.0) es)
    by true same some later = inl (same_ask ask e.0 same)
    by false apart some later = inr (later some)

-- an ask that is pending at a gather is one of its own
pub awaited_ask : (w : World) (accepted : List model.Entry) (known : Known (program_of w accepted)) (a : AgentId) (number ask : ℕ) → awaits ask ((w.agent a).gather number) ≡ true
    → (ask < known.world.asks.count) × ((known.world.asks.info ask).agent ≡ a) × ((known.world.asks.info ask).gather ≡ number)
awaited_ask w accepted known a number ask waits = by ((w.agent a).gather number) refl waits
  where
    by : (o : Option OpenGather) → (w.agent a).gather number ≡ o → awaits ask o ≡ true → (ask < known.world.asks.count) × ((known.world.asks.info ask).agent ≡ a) × ((known.world.asks.info ask).gather ≡ number)
    by None there waits = absurd (cc)
    by (Some one) there waits = (own.0, own.1, own.2)
      where
        found : (j : ℕ) × IsAskOf known.world.asks a number (gather_of one).rank j × (j ≡ ask)
        found = Each-one (IsAskOf known.world.asks a number (gather_of one).rank) (λ (j : ℕ). j ≡ ask) (gather_of one).pending (gather_good w accepted known a number one there).pending (pending_in ask one.gather.pending waits)

        own : IsAskOf known.world.asks a number (gather_of one).rank ask
        own = subst (IsAskOf known.world.asks a number (gather_of one).rank) found.2 found.1

-- an ask that is pending was made
pub awaits_below : (w : World) (accepted : List model.Entry) → Known (program_of w accepted) → (a : AgentId) (number ask : ℕ) → awaits ask ((w.agent a).gather number) ≡ true → ask < w.turn.next_ask
awaits_below w accepted known a number ask waits = subst (λ (next : ℕ). ask < next) (asks_known w accepted known) (awaited_ask w accepted known a number ask waits).0

-- an ask is pending at one gather alone
pub awaited_by_one : (w : World) (accepted : List model.Entry) → Known (program_of w accepted) → (a b : AgentId) (number other ask : ℕ) → awaits ask ((w.agent a).gather number) ≡ true → awaits ask ((w.agent b).gather other) ≡ true → (a ≡ b) × (number ≡ other)
awaited_by_one w accepted known a b number other ask here there =
    let one = awaited_ask w accepted known a number ask here in
    let two = awaited_ask w accepted known b other ask there in
    (sym one.1 ∙ two.1, sym one.2 ∙ two.2)

-- so an agent that waits for an ask does so at one gather
pub waited_for : (w : World) (accepted : List model.Entry) → Known (program_of w accepted) → (a : AgentId) (ask number : ℕ) → awaits ask ((w.agent a).gather number) ≡ true → IsWaitedFor (w.agent a).gather ask (Some number)
waited_for w accepted known a ask number waits = (waits, λ other apart. by other apart (awaits ask ((w.agent a).gather other)) refl)
  where
    by : (other : ℕ) → other ≢ number → (b : Bool) → awaits ask ((w.agent a).gather other) ≡ b → b ≡ false
    by other apart false there = refl
    by other apart true there = absurd (apart (sym (awaited_by_one w accepted known a a number other ask waits there).1))

-- no gather waits for an ask of a number that is free for asks
pub asks_free : (w : World) (accepted : List model.Entry) → Known (program_of w accepted) → (a : AgentId) (ask number : ℕ) → w.turn.next_ask ≤ ask → awaits ask ((w.agent a).gather number) ≡ false
asks_free w accepted known a ask number free = by (awaits ask ((w.agent a).gather number)) refl
  where
    by : (b : Bool) → awaits ask ((w.agent a).gather number) ≡ b → b ≡ false
    by false waits = refl
    by true waits = let below = awaits_below w accepted known a number ask waits in absurd (omega (arith, below, free))

-- ---- parked messages

-- each request of which a message is parked is idle: it has neither its outcome nor an open gather
pub parked_idle : (w : World) (accepted : List model.Entry) (known : Known (program_of w accepted)) (a : AgentId) (name : List Label) → Each (λ (m : model.Mail). Idle known.world.status (model.key m.demand)) (filter_map mail_of ((w.agent a).seat name).parked)
parked_idle w accepted known a name = subst (λ (s : model.Seat). Each (λ (m : model.Mail). Idle known.world.status (model.key m.demand)) s.parked) (seat_known w accepted known a name) (known.good.requests.parked name a)

-- no agent has a gather for an idle request
pub idle_unserved : (w : World) (accepted : List model.Entry) (known : Known (program_of w accepted)) (request : ℕ) → known.world.status request ≡ model.idle → (a : AgentId) (number : ℕ) → serves_request request ((w.agent a).gather number) ≡ false
idle_unserved w accepted known request idle a number = by ((w.agent a).gather number) refl
  where
    opens : (own : ℕ) → parent_at (known.world.gather a number) ≡ Some (model.client own) → (b : Bool) → nat_eq request own ≡ b → b ≡ false
    opens own is false apart = refl
    opens own is true same =
        let opened = (known.good.requests.clients a number own is).2 in
        let here = ap known.world.status (eqb-true request own same) in
        absurd (cc)

    of_parent : (parent : Parent) → parent_at (known.world.gather a number) ≡ Some (parent_of parent) → is_request request parent ≡ false
    of_parent (parents.Client own) is = opens own is (nat_eq request own) refl
    of_parent (parents.Ask ask from) is = refl

    by : (o : Option OpenGather) → (w.agent a).gather number ≡ o → serves_request request o ≡ false
    by None there = refl
    by (Some one) there = of_parent one.gather.parent (parent_known w accepted known a number one there)
