-- Titles: what each part of an event leaves.
use Rattle.std.proofs.Common.{◌≡◌, ◌≢◌, ℕ, ◌+◌, ◌<◌, List, [], ◌∷◌, None, refl, sym, ap, ◌∙◌, subst, inl, inr}
use Rattle.iris_protocol.specs.Table.{names, agents, Name, AgentId, set_at}
use Rattle.iris_protocol.specs.World.{Mail, handover, Post, letter_to, Seat, Node, PostTable, took, with_last, with_seat, parking, accept_at, moved}
use Rattle.iris_protocol.specs.Good.{IsHeld, IsInTransit, IsWaiting, NodeGood, IsUndelivered, Titles}
use Rattle.iris_protocol.proofs.Tables.{at_same, at_each}
use Rattle.iris_protocol.proofs.PostTable.{fly_more, fly_other}
use Rattle.iris_protocol.proofs.Nodes.{move_good, take_good, accept_good, park_good}

abbrev pub Transit : PostTable → List Post → Name → Node → Type 0
Transit posted coming n s = IsInTransit s → (last : ℕ) × IsUndelivered posted coming (letter_to s.owner (handover n s.epoch last))

-- other posts are under way
pub titles_by : (node : Name → Node) (o o' : PostTable) (coming coming' : List Post) → ((q : Post) → IsUndelivered o coming q → IsUndelivered o' coming' q) → Titles node o coming → Titles node o' coming'
titles_by node o o' coming coming' fly t = record { nodes = t.nodes; transit = λ n away. let h = t.transit n away in (h.0, fly _ h.1) }

-- the post in coming is dropped, and is no handover that somebody waits for
pub titles_drop : (node : Name → Node) (o : PostTable) (p : Post) (coming : List Post) → ((n : Name) → IsInTransit (node n) → (last : ℕ) → p ≡ letter_to (node n).owner (handover n (node n).epoch last) → ⊥) → Titles node o (p ∷ coming) → Titles node o coming
titles_drop node o p coming none t = record { nodes = t.nodes; transit = λ n away. let h = t.transit n away in (h.0, fly_other o p coming _ (none n away h.0) h.1) }

-- one node has changed
pub titles_put : (node : Name → Node) (n : Name) (s : Node) (o : PostTable) (coming : List Post) → NodeGood s → Transit o coming n s → Titles node o coming → Titles (set_at names node n s) o coming
titles_put node n s o coming good transit t = record {
  nodes = at_each names (λ m (x : Node). NodeGood x) node n s good (λ m _. t.nodes m);
  transit = at_each names (λ m (x : Node). Transit o coming m x) node n s transit (λ m _. t.transit m);
}

pub titles_park : (node : Name → Node) (n : Name) (a : AgentId) (m : Mail) (o : PostTable) → IsWaiting (node n) a m → Titles node o [] → Titles (set_at names node n (with_seat (node n) a (parking ((node n).seat a) m))) o []
titles_park node n a m o waits t = titles_put node n new o [] (park_good (node n) a m (t.nodes n) waits) (λ x. t.transit n (away x)) t
  where
    new : Node
    new = with_seat (node n) a (parking ((node n).seat a) m)

    away : IsInTransit new → IsInTransit (node n)
    away x = record {
      last = at_each agents (λ b (y : Seat). y.last ≡ None → ((node n).seat b).last ≡ None) (node n).seat a (parking ((node n).seat a) m) (λ p. p) (λ b _ p. p) (node n).owner x.last;
      taken = at_each agents (λ b (y : Seat). y.taken < (node n).epoch → ((node n).seat b).taken < (node n).epoch) (node n).seat a (parking ((node n).seat a) m) (λ p. p) (λ b _ p. p) (node n).owner x.taken;
      later = x.later;
    }

pub titles_accept : (node : Name → Node) (n : Name) (number : ℕ) (o : PostTable) → IsHeld (node n) → Titles node o [] → Titles (set_at names node n (accept_at (node n) (node n).owner number)) o []
titles_accept node n number o held t = titles_put node n new o [] good (λ x. absurd (away x)) t
  where
    new : Node
    new = accept_at (node n) (node n).owner number

    good : NodeGood new
    good = accept_good (node n) number (t.nodes n) held

    away : IsInTransit new → ⊥
    away x = let e = x.last in let f = at_same agents (node n).seat (node n).owner (with_last ((node n).seat (node n).owner) number) in let h = subst (λ (y : Seat). y.last ≡ None) f e in cc

-- a handover is taken, at the owner
pub titles_take : (node : Name → Node) (n : Name) (o : PostTable) (p : Post) (coming : List Post) (last : ℕ) → p ≡ letter_to (node n).owner (handover n (node n).epoch last) → IsInTransit (node n) → Titles node o (p ∷ []) → Titles (set_at names node n (with_seat (node n) (node n).owner (took ((node n).seat (node n).owner) (node n).epoch (node n).newest))) o coming
titles_take node n o p coming last is away t = record {
  nodes = at_each names (λ m (x : Node). NodeGood x) node n new (take_good (node n) (t.nodes n) away) (λ m _. t.nodes m);
  transit = at_each names (λ m (x : Node). Transit o coming m x) node n new
      (λ x. absurd (let e = x.last in let f = at_same agents (node n).seat (node n).owner seat in let h = subst (λ (y : Seat). y.last ≡ None) f e in cc))
      (λ m ne x. let h = t.transit m x in (h.0, fly_more o coming _ (fly_other o p [] _ (λ e. ne (sym (nodes_same (sym is ∙ e)))) h.1)));
}
  where
    seat : Seat
    seat = took ((node n).seat (node n).owner) (node n).epoch (node n).newest

    new : Node
    new = with_seat (node n) (node n).owner seat

    nodes_same : {a b : AgentId} {e l f k : ℕ} {m : Name} → letter_to a (handover n e l) ≡ letter_to b (handover m f k) → n ≡ m
    nodes_same {a} {b} {e} {l} {f} {k} {m} same = let x : handover n e l ≡ handover m f k = ap (λ (q : Post). q.letter) same in cc

-- a move
pub titles_give : (node : Name → Node) (n : Name) (to : AgentId) (last : ℕ) (o : PostTable) → IsHeld (node n) → to ≢ (node n).owner → Titles node o [] → Titles (set_at names node n (moved (node n) to)) o (letter_to to (handover n ((node n).epoch + 1) last) ∷ [])
titles_give node n to last o held apart t = titles_put node n (moved (node n) to) o gift (move_good (node n) to (t.nodes n) held apart) (λ _. (last, inr (inl refl)))
    (titles_by node o o [] gift (fly_more o gift) t)
  where
    gift : List Post
    gift = letter_to to (handover n ((node n).epoch + 1) last) ∷ []
