-- An arrival keeps the world good: the parts of it, one after another.
use Rattle.std.proofs.Common.{◌≡◌, ◌≢◌, ◌⊎◌, ℕ, ◌<◌, ◌≤◌, Bool, true, false, not, nat_lt, if◌then◌else◌, List, [], ◌∷◌, Option, Some, None, refl, sym, ap, ◌∙◌, subst, inl, inr, arith}
use Rattle.iris_protocol.specs.Table.{names, agents, numbers, Name, AgentId, set_at, Each, Among}
use Rattle.iris_protocol.specs.World.{Demand, query, update, ask, Key, request, ask_key, key, is_update, Mail, Letter, mail, reply, handover, Post, Opening, letter_to, mail_to, opening_at, Seat, Node, Direct, serve, pass_on, park, direct, took, with_seat, parking, accept_at, client, asker, Gather, top_rank, new_gather, answered_of, PostTable, RequestTable, AskTable, accepted, refused, Status, idle, opened, done, is_idle, is_done, is_stopped, World, seat_at, put_node, mark, post_one, post_all, finish, opens, opens_all, learns, refuses, accepts, is_accepted, serves, parks, directs, released, again, takes_over, replies, handles, arrives}
use Rattle.iris_protocol.specs.Good.{IsHeld, IsInTransit, Gave, IsWaiting, KnownDemand, Letters, IsUndelivered, Sent, Waiting, Titles, Idle, Requests, Gathers, parent_at, acts, Good}
use Rattle.iris_protocol.proofs.Tables.{lt_of, ge_of, split, at_each, Each-weaker}
use Rattle.iris_protocol.proofs.Nodes.{pass_is, serves_at, held_none, handover_is, park_facts}
use Rattle.iris_protocol.proofs.PostTable.{fly_put, fly_mark, fly_more, fly_other, sent_by, sent_rest, sent_other, mail_not_handover, mail_not_reply, reply_not_handover, handover_not_reply}
use Rattle.iris_protocol.proofs.Carriers.{waiting_park, parked_it, asks_take}
use Rattle.iris_protocol.proofs.Titles.{titles_by, titles_drop, titles_park, titles_accept, titles_take}
use Rattle.iris_protocol.proofs.Letters.{letters_put, letters_mark, letters_hand, letters_park, letters_accept, letters_take}
use Rattle.iris_protocol.proofs.Booked.{booked_status, booked_node, booked_accept}
use Rattle.iris_protocol.proofs.Requests.{NoneParked, requests_sent, requests_node, requests_gather, requests_park, requests_admit, requests_take, requests_done, requests_open, requests_open_ask}
use Rattle.iris_protocol.proofs.Returns.{returns_set, returns_reply}
use Rattle.iris_protocol.proofs.Gathers.{gathers_sent, gathers_fly, gathers_drop, gathers_learn, gathers_open, gathers_reply, answered_parent}

-- ---- posts

-- all that were under way are so
pub good_fly : (w : World) (o : PostTable) (coming coming' : List Post) (openings : List Opening) → ((p : Post) → IsUndelivered w.posted coming p → IsUndelivered o coming' p) → Letters w.node w.requested w.asks o coming' openings → Good w coming openings → Good (record w { posted = o }) coming' openings
good_fly w o coming coming' openings fly letters g = record {
  titles = titles_by w.node w.posted o coming coming' fly g.titles;
  letters = letters;
  requests = requests_sent w.node w.requested w.status w.gather w.posted o coming coming' openings (λ r _ s. sent_by w.posted o coming coming' (request r) fly s) g.requests;
  gathers = gathers_fly w.node w.asks w.gather w.gathers w.place w.knows w.posted o coming coming' openings fly g.gathers;
  returns = g.returns;
  booked = g.booked;
}

pub put_down : (w : World) (p : Post) (coming : List Post) (openings : List Opening) → Good w (p ∷ coming) openings → Good (post_one w p) coming openings
put_down w p coming openings g = good_fly w (post_one w p).posted (p ∷ coming) coming openings (fly_put w.posted p coming g.letters.fresh) (letters_put w.node w.requested w.asks w.posted p coming openings g.letters) g

pub put_all : (w : World) (coming : List Post) → Good w coming [] → Good (post_all w coming) [] []
put_all w [] g = g
put_all w (p ∷ coming) g = put_all (post_one w p) coming (put_down w p coming [] g)

pub pick_up : (w : World) (k : ℕ) (p : Post) → w.posted.post k ≡ Some p → Good w [] [] → Good (mark w k) (p ∷ []) []
pick_up w k p is g = good_fly w (mark w k).posted [] (p ∷ []) [] (fly_mark w.posted k p is) (letters_mark w.node w.requested w.asks w.posted k p is g.letters) g

-- ---- what stops a message

stopped_request : (w : World) (a : AgentId) (demand : Demand) (r : ℕ) → is_stopped w a demand ≡ true → key demand ≡ request r → w.status r ≡ idle → ⊥
stopped_request w a (query s) r stop e is = let same : s ≡ r = cc in let x = subst (λ (j : ℕ). not (is_idle (w.status j)) ≡ true) same stop in let y = subst (λ (t : Status). not (is_idle t) ≡ true) is x in cc
stopped_request w a (update s number) r stop e is = let same : s ≡ r = cc in let x = subst (λ (j : ℕ). is_done (w.status j) ≡ true) same stop in let y = subst (λ (t : Status). is_done t ≡ true) is x in cc
stopped_request w a (ask i from rank) r stop e is = cc

stopped_ask : (w : World) (a : AgentId) (demand : Demand) (i : ℕ) → is_stopped w a demand ≡ true → key demand ≡ ask_key i → w.knows a i ≡ true
stopped_ask w a (query s) i stop e = absurd (cc)
stopped_ask w a (update s number) i stop e = absurd (cc)
stopped_ask w a (ask j from rank) i stop e = let same : j ≡ i = cc in subst (λ (k : ℕ). w.knows a k ≡ true) same stop

-- a message that nothing stops is of a request that is idle
idle_of : (w : World) (coming : List Post) (openings : List Opening) (a : AgentId) (n : Name) (demand : Demand) → Requests w.node w.requested w.status w.gather w.posted coming openings → KnownDemand w.requested w.asks n demand → is_stopped w a demand ≡ false → Idle w.status (key demand)
idle_of w coming openings a n (ask i from rank) q known free = tt
idle_of w coming openings a n (query r) q known free = go (w.status r) refl free
  where
    go : (s : Status) → w.status r ≡ s → not (is_idle s) ≡ false → w.status r ≡ idle
    go idle e f = e
    go (opened b g) e f = absurd (cc)
    go (done o) e f = absurd (cc)
idle_of w coming openings a n (update r number) q known free = go (w.status r) refl free
  where
    go : (s : Status) → w.status r ≡ s → is_done s ≡ false → w.status r ≡ idle
    go idle e f = e
    go (opened b g) e f = let x = (q.clients b g r (q.serving r b g e)).1 in let y = known.2 in absurd (cc)
    go (done o) e f = absurd (cc)

-- nothing parked is of a request whose node is held
known_home : (d : RequestTable) (q : AskTable) (n : Name) (demand : Demand) (r : ℕ) → KnownDemand d q n demand → key demand ≡ request r → d.target r ≡ n
known_home d q n (query s) r known e = let same : s ≡ r = cc in subst (λ (j : ℕ). d.target j ≡ n) same known.1
known_home d q n (update s number) r known e = let same : s ≡ r = cc in subst (λ (j : ℕ). d.target j ≡ n) same known.1
known_home d q n (ask i from rank) r known e = absurd (cc)

none_parked : (w : World) (coming : List Post) (openings : List Opening) (n : Name) (r : ℕ) → Good w coming openings → IsHeld (w.node n) → w.requested.target r ≡ n → NoneParked w.node r
none_parked w coming openings n r g held target m a = go (split names m n)
  where
    go : (m ≡ n) ⊎ (m ≢ n) → Each (λ (x : Mail). key x.demand ≡ request r → ⊥) (seat_at w m a).parked
    go (inl same) = Each-weaker _ _ (seat_at w m a).parked (λ x h _. h) (held_none (w.node m) (g.titles.nodes m) (subst (λ (j : Name). IsHeld (w.node j)) (sym same) held) a)
    go (inr ne) = Each-weaker _ _ (seat_at w m a).parked (λ (x : Mail) h e. ne (sym (known_home w.requested w.asks m x.demand r h e) ∙ target)) (g.letters.parked m a)

-- ---- one message

pub drop_mail : (w : World) (n : Name) (a : AgentId) (m : Mail) → is_stopped w a m.demand ≡ true → Good w (letter_to a (mail n m) ∷ []) [] → Good w [] []
drop_mail w n a m stop g = record {
  titles = titles_drop w.node w.posted (letter_to a (mail n m)) [] (λ j _ l. mail_not_handover a n m _ j _ l) g.titles;
  letters = letters_hand w.node w.requested w.asks w.posted _ [] [] [] tt tt g.letters;
  requests = requests_sent w.node w.requested w.status w.gather w.posted w.posted _ [] [] (λ r is s. sent_other w.posted (letter_to a (mail n m)) [] (request r) (λ e. stopped_request w a m.demand r stop e is) s) g.requests;
  gathers = gathers_drop w.node w.node w.asks w.gather w.gathers w.place w.knows w.posted a n m [] [] (λ i e. (a, stopped_ask w a m.demand i stop e)) (λ i b h. h) g.gathers;
  returns = g.returns;
  booked = g.booked;
}

-- it is sent on to where the node went
pub pass_good : (w : World) (n : Name) (a : AgentId) (m : Mail) (to : AgentId) (at : ℕ) → direct (seat_at w n a) m.epoch ≡ pass_on to at → Good w (letter_to a (mail n m) ∷ []) [] → Good w (mail_to to n at m.demand ∷ []) []
pass_good w n a m to at is g = record {
  titles = titles_by w.node w.posted w.posted [] next (fly_more w.posted next) (titles_drop w.node w.posted (letter_to a (mail n m)) [] (λ j _ l. mail_not_handover a n m _ j _ l) g.titles);
  letters = letters_hand w.node w.requested w.asks w.posted _ next [] [] (record { sound = passed ((g.titles.nodes n).forwards a to at (pass_is (seat_at w n a) m.epoch to at is)); known = g.letters.comes.0.known }, tt) tt g.letters;
  requests = requests_sent w.node w.requested w.status w.gather w.posted w.posted _ next [] (λ r _ s. on (request r) (sent_rest w.posted (letter_to a (mail n m)) [] (request r) s)) g.requests;
  gathers = gathers_sent w.node w.node w.asks w.gather w.gathers w.place w.knows w.posted w.posted _ next [] [] (λ i s. inl (on (ask_key i) (sent_rest w.posted (letter_to a (mail n m)) [] (ask_key i) s))) (λ i b h. h)
      (λ i f. fly_more w.posted next _ (fly_other w.posted (letter_to a (mail n m)) [] _ (mail_not_reply a n m _ i) f)) g.gathers;
  returns = g.returns;
  booked = g.booked;
}
  where
    next : List Post
    next = mail_to to n at m.demand ∷ []

    passed : Gave (w.node n).base (w.node n).epoch (w.node n).went a to at → ((w.node n).base ≤ at) × (at ≤ (w.node n).epoch) × (to ≡ (w.node n).went at)
    passed h = let b = h.begun in let x = h.next in (omega (arith, x), h.most, h.taker)

    on : (k : Key) → (key m.demand ≡ k) ⊎ Sent w.posted [] k → Sent w.posted next k
    on k (inl e) = (mail_to to n at m.demand, inr (inl refl), e)
    on k (inr s) = sent_by w.posted w.posted [] next k (fly_more w.posted next) s

-- it is parked
pub park_keeps : (w : World) (n : Name) (a : AgentId) (m : Mail) → is_stopped w a m.demand ≡ false → direct (seat_at w n a) m.epoch ≡ park → Good w (letter_to a (mail n m) ∷ []) [] → Good (parks w n a m) [] []
park_keeps w n a m free is g = go m.demand refl
  where
    new : Node
    new = with_seat (w.node n) a (parking (seat_at w n a) m)

    node' : Name → Node
    node' = set_at names w.node n new

    waits : IsWaiting (w.node n) a m
    waits = park_facts (w.node n) a m (g.titles.nodes n) g.letters.comes.0.sound is

    titles : Titles node' w.posted []
    titles = titles_park w.node n a m w.posted waits (titles_drop w.node w.posted (letter_to a (mail n m)) [] (λ j _ l. mail_not_handover a n m _ j _ l) g.titles)

    letters : Letters node' w.requested w.asks w.posted [] []
    letters = letters_park w.node n a m w.requested w.asks w.posted [] g.letters.comes.0.known (letters_hand w.node w.requested w.asks w.posted _ [] [] [] tt tt g.letters)

    requests : Requests node' w.requested w.status w.gather w.posted [] []
    requests = requests_park w.node n a m w.requested w.status w.gather w.posted a n (idle_of w _ [] a n m.demand g.requests g.letters.comes.0.known free) g.requests

    gathers : ((i : ℕ) → m.demand ≡ m.demand → key m.demand ≡ ask_key i → ⊥) → Gathers node' w.asks w.gather w.gathers w.place w.knows w.posted [] []
    gathers none = gathers_drop w.node node' w.asks w.gather w.gathers w.place w.knows w.posted a n m [] [] (λ i e. absurd (none i refl e)) (λ i b h. waiting_park w.node n a m [] b (ask_key i) h) g.gathers

    go : (demand : Demand) → m.demand ≡ demand → Good (put_node (learns w a demand) n new) [] []
    go (query r) e = record { titles = titles; letters = letters; requests = requests; gathers = gathers (λ i _ c. let x = sym (ap key e) ∙ c in cc); returns = g.returns; booked = booked_node w.node n new w.status w.book refl g.booked }
    go (update r number) e = record { titles = titles; letters = letters; requests = requests; gathers = gathers (λ i _ c. let x = sym (ap key e) ∙ c in cc); returns = g.returns; booked = booked_node w.node n new w.status w.book refl g.booked }
    go (ask i from rank) e = record {
      titles = titles;
      letters = letters;
      requests = requests;
      gathers = gathers_learn w.node node' w.asks w.gather w.gathers w.place w.knows w.posted a n i m [] [] (ap key e) (subst (λ (x : Demand). KnownDemand w.requested w.asks n x) e g.letters.comes.0.known).0
          (inl (subst (λ (k : Key). (j : Name) × Among (λ (y : Mail). key y.demand ≡ k) ((node' j).seat a).parked) (ap key e) (parked_it w.node n a m)))
          (λ j b h. waiting_park w.node n a m [] b (ask_key j) h) g.gathers;
      returns = g.returns;
      booked = booked_node w.node n new w.status w.book refl g.booked;
    }

-- a query or an ask: a gather is to be opened for it
pub admit_good : (w : World) (n : Name) (a : AgentId) (m : Mail) → is_stopped w a m.demand ≡ false → IsHeld (w.node n) → is_update m.demand ≡ false → Good w (letter_to a (mail n m) ∷ []) [] → Good (learns w a m.demand) [] (opening_at a n m.demand ∷ [])
admit_good w n a m free held no_update g = go m.demand refl
  where
    titles : Titles w.node w.posted []
    titles = titles_drop w.node w.posted (letter_to a (mail n m)) [] (λ j _ l. mail_not_handover a n m _ j _ l) g.titles

    letters : Letters w.node w.requested w.asks w.posted [] (opening_at a n m.demand ∷ [])
    letters = letters_hand w.node w.requested w.asks w.posted _ [] [] (opening_at a n m.demand ∷ []) tt (record { held = held; known = g.letters.comes.0.known; opens = no_update }, tt) g.letters

    requests : Requests w.node w.requested w.status w.gather w.posted [] (opening_at a n m.demand ∷ [])
    requests = requests_admit w.node n a m w.requested w.status w.gather w.posted (idle_of w _ [] a n m.demand g.requests g.letters.comes.0.known free) g.requests

    more : (i : ℕ) (b : AgentId) → Waiting w.node [] b (ask_key i) → Waiting w.node (opening_at a n m.demand ∷ []) b (ask_key i)
    more i b (inl p) = inl p
    more i b (inr f) = absurd f

    gathers : ((i : ℕ) → key m.demand ≡ ask_key i → ⊥) → Gathers w.node w.asks w.gather w.gathers w.place w.knows w.posted [] (opening_at a n m.demand ∷ [])
    gathers none = gathers_drop w.node w.node w.asks w.gather w.gathers w.place w.knows w.posted a n m [] (opening_at a n m.demand ∷ []) (λ i e. absurd (none i e)) more g.gathers

    go : (demand : Demand) → m.demand ≡ demand → Good (learns w a demand) [] (opening_at a n m.demand ∷ [])
    go (query r) e = record { titles = titles; letters = letters; requests = requests; gathers = gathers (λ i c. let x = sym (ap key e) ∙ c in cc); returns = g.returns; booked = g.booked }
    go (update r number) e = let x = sym (ap is_update e) ∙ no_update in absurd (cc)
    go (ask i from rank) e = record {
      titles = titles;
      letters = letters;
      requests = requests;
      gathers = gathers_learn w.node w.node w.asks w.gather w.gathers w.place w.knows w.posted a n i m [] (opening_at a n m.demand ∷ []) (ap key e) (subst (λ (x : Demand). KnownDemand w.requested w.asks n x) e g.letters.comes.0.known).0
          (inr (inl (refl, ap key e))) more g.gathers;
      returns = g.returns;
      booked = g.booked;
    }

-- the first gather of those that are to be opened is opened
pub open_good : (w : World) (coming : List Post) (f : Opening) (fs : List Opening) → Good w coming (f ∷ fs) → Good (opens w f.agent f.demand) coming fs
open_good w coming f fs g = go f.demand refl
  where
    letters : Letters w.node w.requested w.asks w.posted coming fs
    letters = letters_hand w.node w.requested w.asks w.posted coming coming (f ∷ fs) fs g.letters.comes g.letters.free.1 g.letters

    known : (demand : Demand) → f.demand ≡ demand → KnownDemand w.requested w.asks f.node demand
    known demand e = subst (λ (x : Demand). KnownDemand w.requested w.asks f.node x) e g.letters.free.0.known

    go : (demand : Demand) → f.demand ≡ demand → Good (opens w f.agent demand) coming fs
    go (query r) e =
        let k = known (query r) e in
        let was = subst (λ (x : Key). Idle w.status x) (ap key e) g.requests.free.0 in
        record {
          titles = g.titles;
          letters = letters;
          requests = requests_open w.node w.requested w.status w.gather w.posted coming f fs f.agent w.gathers r top_rank (ap key e) (g.gathers.fresh f.agent w.gathers (omega arith)) (k.0, k.2) (none_parked w coming (f ∷ fs) f.node r g g.letters.free.0.held k.1) g.requests;
          gathers = gathers_open w.node w.asks w.gather w.gathers w.place w.knows w.posted coming f fs top_rank (client r) refl (λ i c. absurd (let x = sym (ap key e) ∙ c in cc)) g.gathers;
          returns = returns_set w.asks w.gather f.agent w.gathers (Some (new_gather top_rank (client r))) w.returned (λ i m. absurd m) g.returns;
          booked = booked_status w.node w.status w.book r (opened f.agent w.gathers) (ap acts was) g.booked;
        }
    go (update r number) e = let x = sym (ap is_update e) ∙ g.letters.free.0.opens in absurd (cc)
    go (ask i from rank) e =
        let k = known (ask i from rank) e in
        record {
          titles = g.titles;
          letters = letters;
          requests = requests_open_ask w.node w.requested w.status w.gather w.posted coming f fs f.agent w.gathers i from rank (ap key e) (g.gathers.fresh f.agent w.gathers (omega arith)) g.requests;
          gathers = gathers_open w.node w.asks w.gather w.gathers w.place w.knows w.posted coming f fs rank (asker i from) (k.0, k.1, k.3) (λ j c. (from, let x : ask_key i ≡ ask_key j = sym (ap key e) ∙ c in let y : i ≡ j = cc in ap (λ (l : ℕ). asker l from) y)) g.gathers;
          returns = returns_set w.asks w.gather f.agent w.gathers (Some (new_gather rank (asker i from))) w.returned (λ j m. absurd m) g.returns;
          booked = g.booked;
        }

pub open_all : (w : World) (coming : List Post) (openings : List Opening) → Good w coming openings → Good (opens_all w openings) coming []
open_all w coming [] g = g
open_all w coming (f ∷ fs) g = open_all (opens w f.agent f.demand) coming fs (open_good w coming f fs g)

-- an update that is served
refuse_good : (w : World) (n : Name) (a : AgentId) (m : Mail) (r number : ℕ) → m.demand ≡ update r number → is_stopped w a m.demand ≡ false → IsHeld (w.node n) → Good w (letter_to a (mail n m) ∷ []) [] → Good (refuses w r) [] []
refuse_good w n a m r number e free held g =
    let k = subst (λ (x : Demand). KnownDemand w.requested w.asks n x) e g.letters.comes.0.known in
    let was = subst (λ (x : Key). Idle w.status x) (ap key e) (idle_of w _ [] a n m.demand g.requests g.letters.comes.0.known free) in
    record {
      titles = titles_drop w.node w.posted (letter_to a (mail n m)) [] (λ j _ l. mail_not_handover a n m _ j _ l) g.titles;
      letters = letters_hand w.node w.requested w.asks w.posted _ [] [] [] tt tt g.letters;
      requests = requests_done w.node w.requested w.status w.gather w.posted a n m r refused (ap key e) was k.0 (none_parked w _ [] n r g held k.1) g.requests;
      gathers = gathers_drop w.node w.node w.asks w.gather w.gathers w.place w.knows w.posted a n m [] [] (λ i c. absurd (let x = sym (ap key e) ∙ c in cc)) (λ i b h. h) g.gathers;
      returns = g.returns;
      booked = booked_status w.node w.status w.book r (done refused) (ap acts was) g.booked;
    }

accept_keeps : (w : World) (n : Name) (m : Mail) (r number : ℕ) → m.demand ≡ update r number → is_stopped w (w.node n).owner m.demand ≡ false → IsHeld (w.node n) → Good w (letter_to (w.node n).owner (mail n m) ∷ []) [] → Good (accepts w n (w.node n).owner r number) [] []
accept_keeps w n m r number e free held g =
    let k = subst (λ (x : Demand). KnownDemand w.requested w.asks n x) e g.letters.comes.0.known in
    let was = subst (λ (x : Key). Idle w.status x) (ap key e) (idle_of w _ [] owner n m.demand g.requests g.letters.comes.0.known free) in
    record {
      titles = titles_accept w.node n number w.posted held (titles_drop w.node w.posted (letter_to owner (mail n m)) [] (λ j _ l. mail_not_handover owner n m _ j _ l) g.titles);
      letters = letters_accept w.node n number w.requested w.asks w.posted [] (g.titles.nodes n) held (letters_hand w.node w.requested w.asks w.posted _ [] [] [] tt tt g.letters);
      requests = requests_node w.node n new w.requested (set_at numbers w.status r (done accepted)) w.gather w.posted [] [] same
          (requests_done w.node w.requested w.status w.gather w.posted owner n m r accepted (ap key e) was k.0 (none_parked w _ [] n r g held k.1) g.requests);
      gathers = gathers_drop w.node (set_at names w.node n new) w.asks w.gather w.gathers w.place w.knows w.posted owner n m [] [] (λ i c. absurd (let x = sym (ap key e) ∙ c in cc)) waits g.gathers;
      returns = g.returns;
      booked = booked_accept w.node n owner number w.status w.book r (ap acts was) g.booked;
    }
  where
    owner : AgentId
    owner = (w.node n).owner

    new : Node
    new = accept_at (w.node n) owner number

    same : (b : AgentId) → (new.seat b).parked ≡ (seat_at w n b).parked
    same = at_each agents (λ b (x : Seat). x.parked ≡ (seat_at w n b).parked) (w.node n).seat owner (record (seat_at w n owner) { last = Some number }) refl (λ b _. refl)

    waits : (i : ℕ) (b : AgentId) → Waiting w.node [] b (ask_key i) → Waiting (set_at names w.node n new) [] b (ask_key i)
    waits i b (inr f) = absurd f
    waits i b (inl (j, h)) = inl (j, at_each names (λ l (x : Node). Among (λ (y : Mail). key y.demand ≡ ask_key i) (seat_at w l b).parked → Among (λ (y : Mail). key y.demand ≡ ask_key i) (x.seat b).parked) w.node n new (λ x. subst (λ (ms : List Mail). Among (λ (y : Mail). key y.demand ≡ ask_key i) ms) (sym (same b)) x) (λ l _ x. x) j h)

serve_keeps : (w : World) (ok : Bool) (n : Name) (a : AgentId) (m : Mail) → is_stopped w a m.demand ≡ false → direct (seat_at w n a) m.epoch ≡ serve → Good w (letter_to a (mail n m) ∷ []) [] → Good (serves w ok n a m.demand) [] []
serve_keeps w ok n a m free is g = go m.demand refl
  where
    holder : (a ≡ (w.node n).owner) × IsHeld (w.node n)
    holder = serves_at (w.node n) a m.epoch (g.titles.nodes n) is

    opened_at : is_update m.demand ≡ false → Good (opens (learns w a m.demand) a m.demand) [] []
    opened_at e = open_good (learns w a m.demand) [] (opening_at a n m.demand) [] (admit_good w n a m free holder.1 e g)

    acts_on : (r number : ℕ) → m.demand ≡ update r number → (b : Bool) → Good (if b then accepts w n a r number else refuses w r) [] []
    acts_on r number e false = refuse_good w n a m r number e free holder.1 g
    acts_on r number e true = subst (λ (c : AgentId). Good (accepts w n c r number) [] []) (sym holder.0)
        (accept_keeps w n m r number e (subst (λ (c : AgentId). is_stopped w c m.demand ≡ false) holder.0 free) holder.1 (subst (λ (c : AgentId). Good w (letter_to c (mail n m) ∷ []) []) holder.0 g))

    go : (demand : Demand) → m.demand ≡ demand → Good (serves w ok n a demand) [] []
    go (query r) e = subst (λ (x : Demand). Good (opens (learns w a x) a x) [] []) e (opened_at (ap is_update e))
    go (update r number) e = acts_on r number e (is_accepted ok (seat_at w n a).last number)
    go (ask i from rank) e = subst (λ (x : Demand). Good (opens (learns w a x) a x) [] []) e (opened_at (ap is_update e))

directs_keeps : (w : World) (ok : Bool) (n : Name) (a : AgentId) (m : Mail) (d : Direct) → is_stopped w a m.demand ≡ false → direct (seat_at w n a) m.epoch ≡ d → Good w (letter_to a (mail n m) ∷ []) [] → Good (finish (directs w ok n a m d)) [] []
directs_keeps w ok n a m serve free is g = serve_keeps w ok n a m free is g
directs_keeps w ok n a m (pass_on to at) free is g = put_all w (mail_to to n at m.demand ∷ []) (pass_good w n a m to at is g)
directs_keeps w ok n a m park free is g = park_keeps w n a m free is g

-- ---- a reply

pub reply_keeps : (w : World) (a : AgentId) (i : ℕ) → Good w (letter_to a (reply i) ∷ []) [] → Good (replies w a i) [] []
reply_keeps w a i g = record {
  titles = titles_drop w.node w.posted (letter_to a (reply i)) [] (λ j _ l. reply_not_handover a i _ j _ l) g.titles;
  letters = letters_hand w.node w.requested w.asks w.posted _ [] [] [] tt tt g.letters;
  requests = requests_gather w.node w.requested w.status w.gather (replies w a i).gather w.posted [] [] same
      (requests_sent w.node w.requested w.status w.gather w.posted w.posted _ [] [] (λ r _ s. sent_other w.posted (letter_to a (reply i)) [] (request r) (λ x. x) s) g.requests);
  gathers = gathers_reply w.node w.asks w.gather w.gathers w.place w.knows w.posted a i g.letters.comes.0.known.1 g.gathers;
  returns = returns_reply w.asks w.place w.gather a i w.returned g.letters.comes.0.known.0 g.letters.comes.0.known.1 g.gathers.kept g.returns;
  booked = g.booked;
}
  where
    same : (b : AgentId) (h : ℕ) → parent_at ((replies w a i).gather b h) ≡ parent_at (w.gather b h)
    same = at_each agents (λ b (row : ℕ → Option Gather). (h : ℕ) → parent_at (row h) ≡ parent_at (w.gather b h)) w.gather a (λ h. answered_of i (w.gather a h)) (λ h. answered_parent i (w.gather a h)) (λ b _ h. refl)

-- ---- a handover

drop_handover : (w : World) (n : Name) (a : AgentId) (epoch last : ℕ) → epoch ≤ (seat_at w n a).taken → Good w (letter_to a (handover n epoch last) ∷ []) [] → Good w [] []
drop_handover w n a epoch last le g = record {
  titles = titles_drop w.node w.posted (letter_to a (handover n epoch last)) [] stale g.titles;
  letters = letters_hand w.node w.requested w.asks w.posted _ [] [] [] tt tt g.letters;
  requests = requests_sent w.node w.requested w.status w.gather w.posted w.posted _ [] [] (λ r _ s. sent_other w.posted (letter_to a (handover n epoch last)) [] (request r) (λ x. x) s) g.requests;
  gathers = gathers_sent w.node w.node w.asks w.gather w.gathers w.place w.knows w.posted w.posted _ [] [] [] (λ i s. inl (sent_other w.posted (letter_to a (handover n epoch last)) [] (ask_key i) (λ x. x) s)) (λ i b h. h)
      (λ i f. fly_other w.posted (letter_to a (handover n epoch last)) [] _ (handover_not_reply a n epoch last _ i) f) g.gathers;
  returns = g.returns;
  booked = g.booked;
}
  where
    stale : (m : Name) → IsInTransit (w.node m) → (l : ℕ) → letter_to a (handover n epoch last) ≡ letter_to (w.node m).owner (handover m (w.node m).epoch l) → ⊥
    stale m x l same =
        let p : a ≡ (w.node m).owner = ap (λ (p : Post). p.to) same in
        let letters : handover n epoch last ≡ handover m (w.node m).epoch l = ap (λ (p : Post). p.letter) same in
        let q : n ≡ m = cc in
        let r : epoch ≡ (w.node m).epoch = cc in
        let t = subst (λ (b : AgentId). epoch ≤ (seat_at w n b).taken) p le in
        let t2 = subst (λ (k : Name). epoch ≤ (seat_at w k (w.node m).owner).taken) q t in
        let lt = x.taken in
        omega (arith, r)

-- it is taken, at the owner: parked updates are in coming, and parked queries and asks are to be opened
take_keeps : (w : World) (n : Name) (last : ℕ) → IsInTransit (w.node n) → Good w (letter_to (w.node n).owner (handover n (w.node n).epoch last) ∷ []) [] →
    Good (takes_over w n (w.node n).owner (w.node n).epoch (w.node n).newest) (again (w.node n).owner n (w.node n).epoch (seat_at w n (w.node n).owner).parked) (released (w.node n).owner n (seat_at w n (w.node n).owner).parked)
take_keeps w n last away g = record {
  titles = titles_take w.node n w.posted p coming last refl away g.titles;
  letters = letters_take w.node n w.requested w.asks w.posted p (g.titles.nodes n) g.letters;
  requests = requests_take w.node n owner s.epoch s.newest s.epoch w.requested w.status w.gather w.posted owner n s.epoch last ((g.titles.nodes n).distinct owner) g.requests;
  gathers = gathers_sent w.node node' w.asks w.gather w.gathers w.place w.knows w.posted w.posted (p ∷ []) coming [] free
      (λ i x. inl (sent_by w.posted w.posted [] coming (ask_key i) (fly_more w.posted coming) (sent_other w.posted p [] (ask_key i) (λ y. y) x)))
      (λ i b h. asks_take w.node n owner s.epoch s.newest b i h)
      (λ i f. fly_more w.posted coming _ (fly_other w.posted p [] _ (handover_not_reply owner n s.epoch last _ i) f)) g.gathers;
  returns = g.returns;
  booked = booked_node w.node n (with_seat s owner (took (s.seat owner) s.epoch s.newest)) w.status w.book refl g.booked;
}
  where
    s : Node
    s = w.node n

    owner : AgentId
    owner = s.owner

    p : Post
    p = letter_to owner (handover n s.epoch last)

    coming : List Post
    coming = again owner n s.epoch (s.seat owner).parked

    free : List Opening
    free = released owner n (s.seat owner).parked

    node' : Name → Node
    node' = set_at names w.node n (with_seat s owner (took (s.seat owner) s.epoch s.newest))

take_over_keeps : (w : World) (n : Name) (a : AgentId) (epoch last : ℕ) → (seat_at w n a).taken < epoch → Good w (letter_to a (handover n epoch last) ∷ []) [] → Good (takes_over w n a epoch last) (again a n epoch (seat_at w n a).parked) (released a n (seat_at w n a).parked)
take_over_keeps w n a epoch last less g =
    let i = handover_is (w.node n) a epoch last (g.titles.nodes n) g.letters.comes.0.sound less in
    let here = subst (λ (t : AgentId × ℕ). Good w (letter_to t.0 (handover n t.1 last) ∷ []) []) (λ k. (i.1 k, i.0 k)) g in
    subst (λ (t : AgentId × ℕ × ℕ). Good (takes_over w n t.0 t.1 t.2) (again t.0 n t.1 (seat_at w n t.0).parked) (released t.0 n (seat_at w n t.0).parked)) (λ k. (sym i.1 k, sym i.0 k, sym i.2 k)) (take_keeps w n last i.3 here)

-- ---- all

handles_keeps : (w : World) (ok : Bool) (a : AgentId) (l : Letter) → Good w (letter_to a l ∷ []) [] → Good (finish (handles w ok a l)) [] []
handles_keeps w ok a (mail n m) g = go (is_stopped w a m.demand) refl
  where
    go : (b : Bool) → is_stopped w a m.demand ≡ b → Good (finish (if b then (w, []) else directs w ok n a m (direct (seat_at w n a) m.epoch))) [] []
    go true e = drop_mail w n a m e g
    go false e = directs_keeps w ok n a m (direct (seat_at w n a) m.epoch) e refl g
handles_keeps w ok a (reply i) g = reply_keeps w a i g
handles_keeps w ok a (handover n epoch last) g = go (nat_lt (seat_at w n a).taken epoch) refl
  where
    go : (b : Bool) → nat_lt (seat_at w n a).taken epoch ≡ b → Good (finish (if b then (opens_all (takes_over w n a epoch last) (released a n (seat_at w n a).parked), again a n epoch (seat_at w n a).parked) else (w, []))) [] []
    go true e = put_all (opens_all (takes_over w n a epoch last) (released a n (seat_at w n a).parked)) (again a n epoch (seat_at w n a).parked)
        (open_all (takes_over w n a epoch last) (again a n epoch (seat_at w n a).parked) (released a n (seat_at w n a).parked) (take_over_keeps w n a epoch last (lt_of _ _ e) g))
    go false e = drop_handover w n a epoch last (ge_of _ _ e) g

pub arrives_keeps : (w : World) (ok : Bool) (k : ℕ) (o : Option Post) → w.posted.post k ≡ o → Good w [] [] → Good (arrives w ok k o) [] []
arrives_keeps w ok k None is g = g
arrives_keeps w ok k (Some p) is g = handles_keeps (mark w k) ok p.to p.letter (pick_up w k p is g)
