-- What holds after every event. `coming` are the posts that an event still has to make or to handle,
-- `openings` are the queries and asks for which a gather is still to be opened.
use Rattle.std.specs.Prelude.{◌≡◌, ◌≢◌, ◌⊎◌, ℕ, suc, ◌+◌, ◌<◌, ◌≤◌, Bool, true, false, nat_eq, if◌then◌else◌, List, [], ◌∷◌, map, Option, Some, None}
use Rattle.iris_protocol.specs.Table.{Name, AgentId, names, OfSome, Each, Among, Distinct}
use Rattle.iris_protocol.specs.World.{Demand, query, update, ask, Key, request, ask_key, key, is_update, Mail, Letter, mail, reply, handover, Post, Opening, letter_to, Seat, Node, Parent, client, asker, Gather, top_rank, Need, PostTable, RequestTable, answered, accepted, refused, Status, idle, opened, done, Entry, AskTable, last_number, World, Event, Query, Update, Give, Arrive, Decide, Lend, GiveBack, Commit, Forget, happens}

-- ---- titles: one node

-- the owner holds the node, with the newest number: it took the last handover, or had the node when this world began
pub record IsHeld (s : Node) : Type 0 where
  pub last : (s.seat s.owner).last ≡ Some s.newest
  pub taken : ((s.seat s.owner).taken ≡ s.epoch) ⊎ (s.epoch ≡ s.base)

-- nobody holds it yet: the last handover is not taken
pub record IsInTransit (s : Node) : Type 0 where
  pub last : (s.seat s.owner).last ≡ None
  pub taken : (s.seat s.owner).taken < s.epoch
  pub later : s.base < s.epoch

-- the agent of the earlier move e had the node, and has given it away since
pub record Past (base : ℕ) (seat : Seat) (e : ℕ) : Type 0 where
  pub to : AgentId
  pub at : ℕ
  pub forward : seat.forward ≡ Some (to, at)
  pub later : e < at
  pub taken : (e ≤ seat.taken) ⊎ (e ≡ base)

-- a move of this world by that agent
pub record Gave (base epoch : ℕ) (went : ℕ → AgentId) (a to : AgentId) (at : ℕ) : Type 0 where
  pub before : ℕ
  pub next : at ≡ suc before
  pub begun : base ≤ before
  pub most : at ≤ epoch
  pub giver : a ≡ went before
  pub taker : to ≡ went at

-- a move of this world to that agent
pub record Took (base epoch : ℕ) (went : ℕ → AgentId) (a : AgentId) (e : ℕ) : Type 0 where
  pub begun : base < e
  pub most : e ≤ epoch
  pub taker : a ≡ went e

-- nobody holds the node, and the message is with the owner to come
abbrev pub IsWaiting : Node → AgentId → Mail → Type 0
IsWaiting s a m = (a ≡ s.owner) × (m.epoch ≡ s.epoch) × IsInTransit s

pub record NodeGood (s : Node) : Type 0 where
  pub begun : s.base ≤ s.epoch
  pub registry : s.owner ≡ s.went s.epoch
  pub title : IsHeld s ⊎ IsInTransit s
  pub alone : (a : AgentId) → a ≢ s.owner → (s.seat a).last ≡ None
  pub past : (e : ℕ) → s.base ≤ e → e < s.epoch → Past s.base (s.seat (s.went e)) e
  pub took : (a : AgentId) → ((s.seat a).taken ≡ 0) ⊎ Took s.base s.epoch s.went a (s.seat a).taken
  pub forwards : (a to : AgentId) (at : ℕ) → (s.seat a).forward ≡ Some (to, at) → Gave s.base s.epoch s.went a to at
  pub parked : (a : AgentId) → Each (IsWaiting s a) (s.seat a).parked
  pub distinct : (a : AgentId) → Distinct (map (λ (m : Mail). key m.demand) (s.seat a).parked)

-- ---- letters: what each message says is so

-- a letter for a node was sent to the agent of that move of this world, or to the one that had the node when it began
abbrev pub IsSound : (Name → Node) → AgentId → Letter → Type 0
IsSound node to (mail n m) = ((node n).base ≤ m.epoch) × (m.epoch ≤ (node n).epoch) × (to ≡ (node n).went m.epoch)
IsSound node to (reply i) = Unit {0}
IsSound node to (handover n epoch last) = ((node n).base < epoch) × (epoch ≤ (node n).epoch) × (to ≡ (node n).went epoch) × (((node n).seat to).taken < epoch → last ≡ (node n).newest)

-- it tells a request that was posted for that node, or an ask as the gather made it
abbrev pub KnownDemand : RequestTable → AskTable → Name → Demand → Type 0
KnownDemand requested asks n (query r) = (r < requested.count) × (requested.target r ≡ n) × (requested.updates r ≡ false)
KnownDemand requested asks n (update r number) = (r < requested.count) × (requested.target r ≡ n) × (requested.updates r ≡ true)
KnownDemand requested asks n (ask i from rank) = (i < asks.count) × ((asks.info i).agent ≡ from) × ((asks.info i).node ≡ n) × ((asks.info i).rank ≡ rank)

abbrev pub KnownLetter : RequestTable → AskTable → AgentId → Letter → Type 0
KnownLetter requested asks to (mail n m) = KnownDemand requested asks n m.demand
KnownLetter requested asks to (reply i) = (i < asks.count) × (to ≡ (asks.info i).agent)
KnownLetter requested asks to (handover n epoch last) = Unit {0}

pub record PostGood (node : Name → Node) (requested : RequestTable) (asks : AskTable) (p : Post) : Type 0 where
  pub sound : IsSound node p.to p.letter
  pub known : KnownLetter requested asks p.to p.letter

-- a gather is to be opened at the holder of the node
pub record OpeningGood (node : Name → Node) (requested : RequestTable) (asks : AskTable) (f : Opening) : Type 0 where
  pub held : IsHeld (node f.node)
  pub known : KnownDemand requested asks f.node f.demand
  pub opens : is_update f.demand ≡ false

pub record Letters (node : Name → Node) (requested : RequestTable) (asks : AskTable) (posted : PostTable) (coming : List Post) (openings : List Opening) : Type 0 where
  pub fresh : (k : ℕ) → posted.posts ≤ k → posted.post k ≡ None
  pub kept : (k : ℕ) → OfSome (PostGood node requested asks) (posted.post k)
  pub comes : Each (PostGood node requested asks) coming
  pub parked : (n : Name) (a : AgentId) → Each (λ (m : Mail). KnownDemand requested asks n m.demand) ((node n).seat a).parked
  pub free : Each (OpeningGood node requested asks) openings

-- ---- carriers

-- the post was never delivered, or is in coming
abbrev pub IsUndelivered : PostTable → List Post → Post → Type 0
IsUndelivered posted coming p = ((k : ℕ) × (posted.post k ≡ Some p) × (posted.seen k ≡ false)) ⊎ Among (λ (q : Post). q ≡ p) coming

abbrev pub IsOf : Key → Letter → Type 0
IsOf k (mail n m) = key m.demand ≡ k
IsOf k (reply i) = ⊥
IsOf k (handover n epoch last) = ⊥

abbrev pub Sent : PostTable → List Post → Key → Type 0
Sent posted coming k = (p : Post) × IsUndelivered posted coming p × IsOf k p.letter

abbrev pub Parked : (Name → Node) → AgentId → Key → Type 0
Parked node a k = (n : Name) × Among (λ (m : Mail). key m.demand ≡ k) ((node n).seat a).parked

abbrev pub IsOpening : List Opening → AgentId → Key → Type 0
IsOpening openings a k = Among (λ (f : Opening). (f.agent ≡ a) × (key f.demand ≡ k)) openings

abbrev pub Waiting : (Name → Node) → List Opening → AgentId → Key → Type 0
Waiting node openings a k = Parked node a k ⊎ IsOpening openings a k

-- ---- titles: all nodes

pub record Titles (node : Name → Node) (posted : PostTable) (coming : List Post) : Type 0 where
  pub nodes : (n : Name) → NodeGood (node n)
  pub transit : (n : Name) → IsInTransit (node n) → (last : ℕ) × IsUndelivered posted coming (letter_to (node n).owner (handover n (node n).epoch last))

-- ---- requests

abbrev pub Idle : (ℕ → Status) → Key → Type 0
Idle status (request r) = status r ≡ idle
Idle status (ask_key i) = Unit {0}

abbrev pub parent_at : Option Gather → Option Parent
parent_at None = None
parent_at (Some x) = Some x.parent

pub record Requests (node : Name → Node) (requested : RequestTable) (status : ℕ → Status) (gather : AgentId → ℕ → Option Gather) (posted : PostTable) (coming : List Post) (openings : List Opening) : Type 0 where
  pub parked : (n : Name) (a : AgentId) → Each (λ (m : Mail). Idle status (key m.demand)) ((node n).seat a).parked
  pub free : Each (λ (f : Opening). Idle status (key f.demand)) openings
  pub distinct : Distinct (map (λ (f : Opening). key f.demand) openings)
  pub clients : (a : AgentId) (g r : ℕ) → parent_at (gather a g) ≡ Some (client r) → (r < requested.count) × (requested.updates r ≡ false) × (status r ≡ opened a g)
  pub serving : (r : ℕ) (a : AgentId) (g : ℕ) → status r ≡ opened a g → parent_at (gather a g) ≡ Some (client r)
  pub carried : (r : ℕ) → r < requested.count → status r ≡ idle → Sent posted coming (request r) ⊎ ((a : AgentId) × Waiting node openings a (request r))
  pub unasked : (r : ℕ) → requested.count ≤ r → status r ≡ idle

-- ---- gathers

abbrev pub pending_at : Option Gather → List ℕ
pending_at None = []
pending_at (Some x) = x.pending

-- an open gather waits for that ask
abbrev pub Pending : (AgentId → ℕ → Option Gather) → ℕ → Type 0
Pending gather i = (a : AgentId) × (g : ℕ) × Among (λ (j : ℕ). j ≡ i) (pending_at (gather a g))

-- an open gather of that agent is for that ask
abbrev pub Serving : (AgentId → ℕ → Option Gather) → AgentId → ℕ → Type 0
Serving gather a i = (g : ℕ) × (from : AgentId) × (parent_at (gather a g) ≡ Some (asker i from))

-- an ask of that gather, for less than its own start
abbrev pub IsAskOf : AskTable → AgentId → ℕ → ℕ → ℕ → Type 0
IsAskOf asks a g rank i = (i < asks.count) × ((asks.info i).agent ≡ a) × ((asks.info i).gather ≡ g) × ((asks.info i).rank < rank)

-- a client's gather starts at the document, one for an ask has the ask's start
abbrev pub ParentGood : AskTable → ℕ → Parent → Type 0
ParentGood asks rank (client r) = rank ≡ top_rank
ParentGood asks rank (asker i from) = (i < asks.count) × ((asks.info i).agent ≡ from) × ((asks.info i).rank ≡ rank)

abbrev pub node_of : AskTable → ℕ → Name
node_of asks i = (asks.info i).node

pub record GatherGood (asks : AskTable) (place : ℕ → AgentId) (a : AgentId) (g : ℕ) (x : Gather) : Type 0 where
  pub here : place g ≡ a
  pub pending : Each (IsAskOf asks a g x.rank) x.pending
  pub names : Distinct (map (node_of asks) x.pending)
  pub parent : ParentGood asks x.rank x.parent
  pub lent : x.lent ≡ true → x.pending ≡ []

abbrev pub Replied : PostTable → List Post → AskTable → ℕ → Type 0
Replied posted coming asks i = IsUndelivered posted coming (letter_to (asks.info i).agent (reply i))

pub record Gathers (node : Name → Node) (asks : AskTable) (gather : AgentId → ℕ → Option Gather) (gathers : ℕ) (place : ℕ → AgentId) (knows : AgentId → ℕ → Bool) (posted : PostTable) (coming : List Post) (openings : List Opening) : Type 0 where
  pub fresh : (a : AgentId) (g : ℕ) → gathers ≤ g → gather a g ≡ None
  pub kept : (a : AgentId) (g : ℕ) → OfSome (GatherGood asks place a g) (gather a g)
  pub known : (a : AgentId) (i : ℕ) → knows a i ≡ true → i < asks.count
  pub carried : (i : ℕ) → Pending gather i → Sent posted coming (ask_key i) ⊎ ((a : AgentId) × (knows a i ≡ true))
  pub held : (i : ℕ) (a : AgentId) → Pending gather i → knows a i ≡ true → Waiting node openings a (ask_key i) ⊎ Serving gather a i ⊎ Replied posted coming asks i

-- a reply to an ask that is pending was not delivered yet
pub record Returns (asks : AskTable) (gather : AgentId → ℕ → Option Gather) (returned : ℕ → Bool) : Type 0 where
  pub waited : (i : ℕ) → Pending gather i → returned i ≡ false
  pub known : (i : ℕ) → returned i ≡ true → i < asks.count

-- ---- the book

abbrev pub acts : Status → ℕ
acts idle = 0
acts (opened a g) = 0
acts (done answered) = 0
acts (done accepted) = 1
acts (done refused) = 0

abbrev pub acted : ℕ → Option ℕ → ℕ
acted r None = 0
acted r (Some s) = if nat_eq r s then 1 else 0

abbrev pub times : ℕ → List Entry → ℕ
times r [] = 0
times r (x ∷ xs) = acted r x.request + times r xs

pub record Booked (node : Name → Node) (status : ℕ → Status) (book : List Entry) : Type 0 where
  pub once : (r : ℕ) → times r book ≡ acts (status r)
  pub newest : (n : Name) → (node n).newest ≡ last_number n book

-- ---- all

pub record Good (w : World) (coming : List Post) (openings : List Opening) : Type 0 where
  pub titles : Titles w.node w.posted coming
  pub letters : Letters w.node w.requested w.asks w.posted coming openings
  pub requests : Requests w.node w.requested w.status w.gather w.posted coming openings
  pub gathers : Gathers w.node w.asks w.gather w.gathers w.place w.knows w.posted coming openings
  pub returns : Returns w.asks w.gather w.returned
  pub booked : Booked w.node w.status w.book

-- ---- what an evaluation owes

-- each need is below the gather's start, and no two are at the same node
pub record Fits (rank : ℕ) (needs : List Need) : Type 0 where
  pub below : Each (λ (need : Need). need.rank < rank) needs
  pub names : Distinct (map (λ (need : Need). need.node) needs)

abbrev pub Allowed : World → Event → Type 0
Allowed w (Query n) = Unit {0}
Allowed w (Update n number) = Unit {0}
Allowed w (Give n to) = Unit {0}
Allowed w (Arrive k ok) = Unit {0}
Allowed w (Decide a g needs) = OfSome (λ (x : Gather). Fits x.rank needs) (w.gather a g)
Allowed w (Lend a g) = Unit {0}
Allowed w (GiveBack a g) = Unit {0}
Allowed w (Commit a g None) = Unit {0}
Allowed w (Commit a g (Some needs)) = OfSome (λ (x : Gather). Fits x.rank needs) (w.gather a g)
Allowed w (Forget kept) = (a : AgentId) (i : ℕ) → Pending w.gather i → kept a i ≡ true

abbrev pub AllAllowed : World → List Event → Type 0
AllAllowed w [] = Unit {0}
AllAllowed w (e ∷ es) = Allowed w e × AllAllowed (happens w e) es
