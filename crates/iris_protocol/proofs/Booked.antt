-- The book: what each part of an event leaves.
use Rattle.std.proofs.Common.{◌≡◌, ℕ, List, ◌∷◌, Some, refl, ◌∙◌, arith}
use Rattle.iris_protocol.specs.Table.{names, numbers, Name, AgentId, set_at}
use Rattle.iris_protocol.specs.World.{Node, Status, done, accepted, Entry, last_number, accept_at}
use Rattle.iris_protocol.specs.Good.{acts, times, Booked}
use Rattle.iris_protocol.proofs.Tables.{same_self, same_other, at_each}

-- a request changes, and was neither accepted before nor is now
pub booked_status : (node : Name → Node) (status : ℕ → Status) (book : List Entry) (r : ℕ) (s : Status) → acts (status r) ≡ acts s → Booked node status book → Booked node (set_at numbers status r s) book
booked_status node status book r s same b = record {
  once = at_each numbers (λ k (x : Status). times k book ≡ acts x) status r s (b.once r ∙ same) (λ k _. b.once k);
  newest = b.newest;
}

pub booked_node : (node : Name → Node) (n : Name) (s : Node) (status : ℕ → Status) (book : List Entry) → s.newest ≡ (node n).newest → Booked node status book → Booked (set_at names node n s) status book
booked_node node n s status book same b = record {
  once = b.once;
  newest = at_each names (λ m (x : Node). x.newest ≡ last_number m book) node n s (same ∙ b.newest n) (λ m _. b.newest m);
}

pub booked_accept : (node : Name → Node) (n : Name) (a : AgentId) (number : ℕ) (status : ℕ → Status) (book : List Entry) (r : ℕ) → acts (status r) ≡ 0 → Booked node status book → Booked (set_at names node n (accept_at (node n) a number)) (set_at numbers status r (done accepted)) (record { request = Some r; node = n; number = number } ∷ book)
booked_accept node n a number status book r none b = record {
  once = at_each numbers (λ k (x : Status). times k (entry ∷ book) ≡ acts x) status r (done accepted)
      (let h = b.once r ∙ none in rw (same_self numbers r) (omega arith))
      (λ k ne. rw (same_other numbers k r ne) (let h = b.once k in omega arith));
  newest = at_each names (λ m (x : Node). x.newest ≡ last_number m (entry ∷ book)) node n (accept_at (node n) a number) (rw (same_self names n) refl) (λ m ne. rw (same_other names m n ne) (b.newest m));
}
  where
    entry : Entry
    entry = record { request = Some r; node = n; number = number }
