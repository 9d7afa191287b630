-- Agents hold titles of nodes, and gather answers from one another. Messages come in any order, any number of times.
use Rattle.std.specs.Prelude.{ℕ, suc, ◌+◌, Bool, true, false, not, nat_eq, nat_lt, if◌then◌else◌, List, [], ◌∷◌, ◌++◌, Option, Some, None, unwrap_or}
use Rattle.iris_protocol.specs.Table.{Name, AgentId, names, agents, numbers, set_at, set_in}

-- ---- messages

-- what is wanted of the holder of a node
pub data Demand : Type 0 where
  query : (request : ℕ) → Demand
  update : (request number : ℕ) → Demand
  ask : (number : ℕ) (from : AgentId) (rank : ℕ) → Demand

-- the request or the ask of a message: it is parked once
pub data Key : Type 0 where
  request : ℕ → Key
  ask_key : ℕ → Key

abbrev pub key : Demand → Key
key (query r) = request r
key (update r number) = request r
key (ask i from rank) = ask_key i

abbrev pub key_eq : Key → Key → Bool
key_eq (request r) (request s) = nat_eq r s
key_eq (request r) (ask_key j) = false
key_eq (ask_key i) (request s) = false
key_eq (ask_key i) (ask_key j) = nat_eq i j

abbrev pub is_update : Demand → Bool
is_update (query r) = false
is_update (update r number) = true
is_update (ask i from rank) = false

-- with the epoch of the node that the sender read
pub record Mail : Type 0 where
  pub epoch : ℕ
  pub demand : Demand

pub data Letter : Type 0 where
  mail : (node : Name) → Mail → Letter
  reply : (number : ℕ) → Letter
  handover : (node : Name) (epoch last : ℕ) → Letter

pub record Post : Type 0 where
  pub to : AgentId
  pub letter : Letter

-- a query or an ask that a handover releases at an agent, or that an agent is about to serve
pub record Opening : Type 0 where
  pub agent : AgentId
  pub node : Name
  pub demand : Demand

abbrev pub letter_to : AgentId → Letter → Post
letter_to a l = record { to = a; letter = l }

abbrev pub mail_to : AgentId → Name → ℕ → Demand → Post
mail_to a n epoch demand = letter_to a (mail n (record { epoch = epoch; demand = demand }))

abbrev pub opening_at : AgentId → Name → Demand → Opening
opening_at a n demand = record { agent = a; node = n; demand = demand }

-- ---- titles

-- what one agent knows of one node
pub record Seat : Type 0 where
  pub last : Option ℕ
  pub forward : Option (AgentId × ℕ)
  pub taken : ℕ
  pub parked : List Mail

pub data Direct : Type 0 where
  serve : Direct
  pass_on : (to : AgentId) (epoch : ℕ) → Direct
  park : Direct

abbrev pub direct_away : Option (AgentId × ℕ) → ℕ → Direct
direct_away None epoch = park
direct_away (Some f) epoch = if nat_lt epoch f.1 then pass_on f.0 f.1 else park

abbrev pub direct_by : Option ℕ → Option (AgentId × ℕ) → ℕ → Direct
direct_by (Some last) forward epoch = serve
direct_by None forward epoch = direct_away forward epoch

abbrev pub direct : Seat → ℕ → Direct
direct s epoch = direct_by s.last s.forward epoch

abbrev pub given : Seat → AgentId → ℕ → Seat
given s to epoch = record s { last = None; forward = Some (to, epoch) }

abbrev pub took : Seat → ℕ → ℕ → Seat
took s epoch last = record s { last = Some last; taken = epoch; parked = [] }

abbrev pub with_last : Seat → ℕ → Seat
with_last s number = record s { last = Some number }

abbrev pub is_parked : Key → List Mail → Bool
is_parked k [] = false
is_parked k (m ∷ ms) = if key_eq k (key m.demand) then true else is_parked k ms

abbrev pub parking : Seat → Mail → Seat
parking s m = record s { parked = if is_parked (key m.demand) s.parked then s.parked else s.parked ++ m ∷ [] }

-- a node: its entry in the registry, the number of its moves before this world began, the agent of each move, what each agent knows, and the last accepted number
pub record Node : Type 0 where
  pub owner : AgentId
  pub epoch : ℕ
  pub base : ℕ
  pub went : ℕ → AgentId
  pub seat : AgentId → Seat
  pub newest : ℕ

abbrev pub with_seat : Node → AgentId → Seat → Node
with_seat s a seat = record s { seat = set_at agents s.seat a seat }

abbrev pub accept_at : Node → AgentId → ℕ → Node
accept_at s a number = record s { seat = set_at agents s.seat a (with_last (s.seat a) number); newest = number }

-- a move, by the owner
abbrev pub moved : Node → AgentId → Node
moved s to = record {
  owner = to;
  epoch = s.epoch + 1;
  base = s.base;
  went = set_at numbers s.went (s.epoch + 1) to;
  seat = set_at agents s.seat s.owner (given (s.seat s.owner) to (s.epoch + 1));
  newest = s.newest;
}

-- ---- gathers

pub data Parent : Type 0 where
  client : (request : ℕ) → Parent
  asker : (number : ℕ) (from : AgentId) → Parent

-- it is due where nothing is pending and it is not lent
pub record Gather : Type 0 where
  pub rank : ℕ  -- of its start; each of its asks has a lower one
  pub pending : List ℕ
  pub parent : Parent
  pub lent : Bool

abbrev pub is_empty : List ℕ → Bool
is_empty [] = true
is_empty (i ∷ is) = false

abbrev pub is_due : Gather → Bool
is_due x = if x.lent then false else is_empty x.pending

-- the rank of the document, where a client's gather starts: 2 · (16 - labels) + 1 at Ids, + 0 at Full
abbrev pub top_rank : ℕ
top_rank = 33

abbrev pub new_gather : ℕ → Parent → Gather
new_gather rank parent = record { rank = rank; pending = []; parent = parent; lent = false }

abbrev pub with_lent : Gather → Bool → Gather
with_lent x b = record x { lent = b }

abbrev pub with_ask : Gather → ℕ → Gather
with_ask x i = record x { pending = x.pending ++ i ∷ [] }

abbrev pub without : ℕ → List ℕ → List ℕ
without i [] = []
without i (j ∷ js) = if nat_eq j i then without i js else j ∷ without i js

abbrev pub answered_of : ℕ → Option Gather → Option Gather
answered_of i None = None
answered_of i (Some x) = Some (record x { pending = without i x.pending })

-- what an evaluation misses
pub record Need : Type 0 where
  pub node : Name
  pub rank : ℕ

-- ---- the world

pub record PostTable : Type 0 where
  pub post : ℕ → Option Post
  pub seen : ℕ → Bool  -- it was delivered
  pub posts : ℕ

-- the requests of clients: queries and updates
pub record RequestTable : Type 0 where
  pub count : ℕ
  pub target : ℕ → Name
  pub updates : ℕ → Bool

pub data Outcome : Type 0 where
  answered : Outcome
  accepted : Outcome
  refused : Outcome

-- of a request: not opened yet, with an open gather, or with its outcome
pub data Status : Type 0 where
  idle : Status
  opened : (agent : AgentId) (gather : ℕ) → Status
  done : Outcome → Status

-- an accepted update, with its request where it was accepted in this world
pub record Entry : Type 0 where
  pub request : Option ℕ
  pub node : Name
  pub number : ℕ

-- which gather asked, for what
pub record Info : Type 0 where
  pub agent : AgentId
  pub gather : ℕ
  pub node : Name
  pub rank : ℕ

pub record AskTable : Type 0 where
  pub count : ℕ
  pub info : ℕ → Info

-- gathers by agent and number, and the asks that an agent opened or parked
pub record World : Type 0 where
  pub node : Name → Node
  pub posted : PostTable
  pub requested : RequestTable
  pub status : ℕ → Status
  pub book : List Entry  -- the newest first
  pub asks : AskTable
  pub gather : AgentId → ℕ → Option Gather
  pub gathers : ℕ
  pub place : ℕ → AgentId  -- the agent of each gather
  pub knows : AgentId → ℕ → Bool
  pub returned : ℕ → Bool  -- the asks to which a reply was delivered

abbrev pub seat_at : World → Name → AgentId → Seat
seat_at w n a = (w.node n).seat a

abbrev pub put_node : World → Name → Node → World
put_node w n s = record w { node = set_at names w.node n s }

abbrev pub marked : PostTable → ℕ → PostTable
marked o k = record o { seen = set_at numbers o.seen k true }

abbrev pub posting : PostTable → Post → PostTable
posting o p = record { post = set_at numbers o.post o.posts (Some p); seen = set_at numbers o.seen o.posts false; posts = suc o.posts }

abbrev pub mark : World → ℕ → World
mark w k = record w { posted = marked w.posted k }

abbrev pub post_one : World → Post → World
post_one w p = record w { posted = posting w.posted p }

abbrev pub post_all : World → List Post → World
post_all w [] = w
post_all w (p ∷ ps) = post_all (post_one w p) ps

abbrev pub finish : World × List Post → World
finish r = post_all r.0 r.1

abbrev pub with_gather : World → AgentId → ℕ → Option Gather → World
with_gather w a g x = record w { gather = set_in w.gather a g x }

abbrev pub with_status : World → ℕ → Status → World
with_status w r s = record w { status = set_at numbers w.status r s }

-- ---- serving

abbrev pub opens_as : World → AgentId → Gather → World
opens_as w a x = record w { gather = set_in w.gather a w.gathers (Some x); gathers = suc w.gathers; place = set_at numbers w.place w.gathers a }

-- an agent opens a gather for a query or an ask
abbrev pub opens : World → AgentId → Demand → World
opens w a (query r) = with_status (opens_as w a (new_gather top_rank (client r))) r (opened a w.gathers)
opens w a (update r number) = w
opens w a (ask i from rank) = opens_as w a (new_gather rank (asker i from))

abbrev pub opens_all : World → List Opening → World
opens_all w [] = w
opens_all w (f ∷ fs) = opens_all (opens w f.agent f.demand) fs

-- the ask is one that this agent opened or parked
abbrev pub learns : World → AgentId → Demand → World
learns w a (query r) = w
learns w a (update r number) = w
learns w a (ask i from rank) = record w { knows = set_in w.knows a i true }

abbrev pub refuses : World → ℕ → World
refuses w r = with_status w r (done refused)

abbrev pub accepts : World → Name → AgentId → ℕ → ℕ → World
accepts w n a r number = record (with_status (put_node w n (accept_at (w.node n) a number)) r (done accepted)) { book = record { request = Some r; node = n; number = number } ∷ w.book }

-- it is accepted where its number is greater; `ok` tells whether its changes fit and the keeper keeps them
abbrev pub is_accepted : Bool → Option ℕ → ℕ → Bool
is_accepted ok last number = if nat_lt (unwrap_or last 0) number then ok else false

abbrev pub serves : World → Bool → Name → AgentId → Demand → World
serves w ok n a (query r) = opens w a (query r)
serves w ok n a (update r number) = if is_accepted ok (seat_at w n a).last number then accepts w n a r number else refuses w r
serves w ok n a (ask i from rank) = opens (learns w a (ask i from rank)) a (ask i from rank)

-- ---- arrivals

abbrev pub is_idle : Status → Bool
is_idle idle = true
is_idle (opened a g) = false
is_idle (done o) = false

abbrev pub is_done : Status → Bool
is_done idle = false
is_done (opened a g) = false
is_done (done o) = true

-- a query whose request has its outcome or an open gather, an update whose request has its outcome, an ask that this agent opened or parked
abbrev pub is_stopped : World → AgentId → Demand → Bool
is_stopped w a (query r) = not (is_idle (w.status r))
is_stopped w a (update r number) = is_done (w.status r)
is_stopped w a (ask i from rank) = w.knows a i

abbrev pub parks : World → Name → AgentId → Mail → World
parks w n a m = put_node (learns w a m.demand) n (with_seat (w.node n) a (parking (seat_at w n a) m))

-- what an arrival leaves, and the posts that follow
abbrev pub directs : World → Bool → Name → AgentId → Mail → Direct → World × List Post
directs w ok n a m serve = (serves w ok n a m.demand, [])
directs w ok n a m (pass_on to epoch) = (w, mail_to to n epoch m.demand ∷ [])
directs w ok n a m park = (parks w n a m, [])

-- the queries and asks among the parked messages, and the updates, posted again
abbrev pub released : AgentId → Name → List Mail → List Opening
released a n [] = []
released a n (m ∷ ms) = if is_update m.demand then released a n ms else opening_at a n m.demand ∷ released a n ms

abbrev pub again : AgentId → Name → ℕ → List Mail → List Post
again a n epoch [] = []
again a n epoch (m ∷ ms) = if is_update m.demand then mail_to a n epoch m.demand ∷ again a n epoch ms else again a n epoch ms

abbrev pub takes_over : World → Name → AgentId → ℕ → ℕ → World
takes_over w n a epoch last = put_node w n (with_seat (w.node n) a (took (seat_at w n a) epoch last))

-- the ask is pending no more
abbrev pub replies : World → AgentId → ℕ → World
replies w a i = record w { gather = set_at agents w.gather a (λ g. answered_of i (w.gather a g)); returned = set_at numbers w.returned i true }

abbrev pub handles : World → Bool → AgentId → Letter → World × List Post
handles w ok a (mail n m) = if is_stopped w a m.demand then (w, []) else directs w ok n a m (direct (seat_at w n a) m.epoch)
handles w ok a (reply i) = (replies w a i, [])
handles w ok a (handover n epoch last) =
    if nat_lt (seat_at w n a).taken epoch
    then (opens_all (takes_over w n a epoch last) (released a n (seat_at w n a).parked), again a n epoch (seat_at w n a).parked)
    else (w, [])

abbrev pub arrives : World → Bool → ℕ → Option Post → World
arrives w ok k None = w
arrives w ok k (Some p) = finish (handles (mark w k) ok p.to p.letter)

-- ---- decisions

-- the gather has all that it needs
abbrev pub ends : World → AgentId → ℕ → Parent → World × List Post
ends w a g (client r) = (with_status (with_gather w a g None) r (done answered), [])
ends w a g (asker i from) = (with_gather w a g None, letter_to from (reply i) ∷ [])

abbrev pub asking : AskTable → AgentId → ℕ → Need → AskTable
asking q a g need = record { count = suc q.count; info = set_at numbers q.info q.count (record { agent = a; gather = g; node = need.node; rank = need.rank }) }

abbrev pub ask_for : World → AgentId → Need → Post
ask_for w a need = mail_to (w.node need.node).owner need.node (w.node need.node).epoch (ask w.asks.count a need.rank)

-- the gather x asks the owner that the registry names
abbrev pub asks_one : World → AgentId → ℕ → Gather → Need → World
asks_one w a g x need = record (with_gather w a g (Some (with_ask x w.asks.count))) { asks = asking w.asks a g need }

abbrev pub asks_all : World → AgentId → ℕ → Gather → List Need → World
asks_all w a g x [] = w
asks_all w a g x (need ∷ needs) = asks_all (post_one (asks_one w a g x need) (ask_for w a need)) a g (with_ask x w.asks.count) needs

-- a gather takes the verdict of its evaluation: what is missing
abbrev pub judged : World → AgentId → ℕ → Gather → List Need → World
judged w a g x [] = finish (ends w a g x.parent)
judged w a g x (need ∷ needs) = asks_all (with_gather w a g (Some (with_lent x false))) a g (with_lent x false) (need ∷ needs)

abbrev pub decides : World → AgentId → ℕ → Option Gather → List Need → World
decides w a g None needs = w
decides w a g (Some x) needs = if is_due x then judged w a g x needs else w

abbrev pub lends : World → AgentId → ℕ → Option Gather → World
lends w a g None = w
lends w a g (Some x) = if is_due x then with_gather w a g (Some (with_lent x true)) else w

abbrev pub gives_back : World → AgentId → ℕ → Option Gather → World
gives_back w a g None = w
gives_back w a g (Some x) = if x.lent then with_gather w a g (Some (with_lent x false)) else w

-- the verdict of a job, where the gather is lent with it; None: something that it read has moved
abbrev pub commits : World → AgentId → ℕ → Option Gather → Option (List Need) → World
commits w a g None verdict = w
commits w a g (Some x) None = gives_back w a g (Some x)
commits w a g (Some x) (Some needs) = if x.lent then judged w a g x needs else w

-- ---- events

abbrev pub gives_by : World → Name → AgentId → Option ℕ → World
gives_by w n to None = w
gives_by w n to (Some last) = post_one (put_node w n (moved (w.node n) to)) (letter_to to (handover n ((w.node n).epoch + 1) last))

abbrev pub gives : World → Name → AgentId → World
gives w n to = if agents.same to (w.node n).owner then w else gives_by w n to (seat_at w n (w.node n).owner).last

abbrev pub noted : RequestTable → Name → Bool → RequestTable
noted d n updates = record { count = suc d.count; target = set_at numbers d.target d.count n; updates = set_at numbers d.updates d.count updates }

-- a client's request is posted to the owner that the registry names
abbrev pub requests_as : World → Name → Demand → World
requests_as w n demand = post_one (record w { requested = noted w.requested n (is_update demand) }) (mail_to (w.node n).owner n (w.node n).epoch demand)

-- the posts that were delivered are dropped, and the numbers of asks that are not to be kept
abbrev pub forgets : World → (AgentId → ℕ → Bool) → World
forgets w kept = record w {
  posted = record w.posted { post = λ k. if w.posted.seen k then None else w.posted.post k };
  knows = λ a i. if kept a i then w.knows a i else false;
}

pub data Event : Type 0 where
  Query : (node : Name) → Event
  Update : (node : Name) (number : ℕ) → Event
  Give : (node : Name) (to : AgentId) → Event
  Arrive : (post : ℕ) → (ok : Bool) → Event
  Decide : (agent : AgentId) (gather : ℕ) → List Need → Event
  Lend : (agent : AgentId) (gather : ℕ) → Event
  GiveBack : (agent : AgentId) (gather : ℕ) → Event
  Commit : (agent : AgentId) (gather : ℕ) → Option (List Need) → Event
  Forget : (kept : AgentId → ℕ → Bool) → Event

abbrev pub happens : World → Event → World
happens w (Query n) = requests_as w n (query w.requested.count)
happens w (Update n number) = requests_as w n (update w.requested.count number)
happens w (Give n to) = gives w n to
happens w (Arrive k ok) = arrives w ok k (w.posted.post k)
happens w (Decide a g needs) = decides w a g (w.gather a g) needs
happens w (Lend a g) = lends w a g (w.gather a g)
happens w (GiveBack a g) = gives_back w a g (w.gather a g)
happens w (Commit a g verdict) = commits w a g (w.gather a g) verdict
happens w (Forget kept) = forgets w kept

abbrev pub run : List Event → World → World
run [] w = w
run (e ∷ es) w = run es (happens w e)

-- ---- the start: the registry, and the rows of accepted updates, the newest first, as the keeper has them

abbrev pub entries : List (Name × ℕ) → List Entry
entries [] = []
entries (row ∷ rows) = record { request = None; node = row.0; number = row.1 } ∷ entries rows

-- the last accepted number of the node
abbrev pub last_number : Name → List Entry → ℕ
last_number n [] = 0
last_number n (x ∷ xs) = if names.same n x.node then x.number else last_number n xs

abbrev pub start_seat : Bool → ℕ → Seat
start_seat b last = record { last = if b then Some last else None; forward = None; taken = 0; parked = [] }

abbrev pub start_node : AgentId → ℕ → ℕ → Node
start_node owner epoch last = record { owner = owner; epoch = epoch; base = epoch; went = λ e. owner; seat = λ a. start_seat (agents.same a owner) last; newest = last }

abbrev pub start : (owner : Name → AgentId) (epoch : Name → ℕ) → List (Name × ℕ) → World
start owner epoch rows = record {
  node = λ n. start_node (owner n) (epoch n) (last_number n (entries rows));
  posted = record { post = λ k. None; seen = λ k. false; posts = 0 };
  requested = record { count = 0; target = λ r. []; updates = λ r. false };
  status = λ r. idle;
  book = entries rows;
  asks = record { count = 0; info = λ i. record { agent = []; gather = 0; node = []; rank = 0 } };
  gather = λ a g. None;
  gathers = 0;
  place = λ g. [];
  knows = λ a i. false;
  returned = λ i. false;
}
