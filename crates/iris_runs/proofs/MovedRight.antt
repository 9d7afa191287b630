-- As an agent gives a node away, what it has stays right, and the handover tells what is so of the node and of those above it.
use Rattle.std.proofs.Common.{◌≡◌, ℕ, ◌+◌, ◌-◌, ◌≤◌, ◌<◌, zero, suc, Bool, true, false, if◌then◌else◌, cond, is_some, List, [], ◌∷◌, ◌++◌, length, map, take, drop, All, Option, Some, None, IsSome, IfSome, option_and_then, unwrap_or, slice_get, refl, sym, ◌∙◌, ap, subst, arith}
use Rattle.std.specs.Prelude.{option_to_list}
use Rattle.std.specs.List.{cons_option, filter_map, range_with_len, AllByRecursion}
use Rattle.std.specs.Cmp.Lexicographic.{pointwise}
use Rattle.std.proofs.lemmas.List.{map-append, take-append-drop}
use Rattle.std.proofs.lemmas.List.Elements.{All-append, All-cons, All-nil}
use Rattle.iris_base.specs.declared.name.Label.{Label}
use Rattle.iris_base.specs.NameOrder.{label_eq, names_equiv}
use Rattle.iris_fragment.specs.declared.held.HeldNode.{HeldNode}
use Rattle.iris_fragment.specs.declared.held.Part.{Part}
use Rattle.iris_fragment.specs.declared.held.Part.TheVariants.{Own, Copied, Bare}
use Rattle.iris_fragment.specs.declared.piece.Level.TheVariants as level
use Rattle.iris_fragment.specs.declared.piece.Piece.{Piece}
use Rattle.iris_fragment.specs.Changes.{own_version, part_in, version_at, released}
use Rattle.iris_fragment.specs.Contents.{Nodes, Contents, held_at, is_held, stands}
use Rattle.iris_fragment.specs.Shape.{HaveRisingNames, IsRooted}
use Rattle.iris_fragment.specs.Usable.{full_piece, piece_of, held_piece}
use Rattle.iris_fragment.proofs.Children.{stands_above_held}
use Rattle.iris_fragment.proofs.Names.{alike_exact}
use Rattle.iris_book.specs.declared.entry.Entry.TheVariants as entries
use Rattle.iris_cache.specs.Recency.{released_in}
use Rattle.iris_migrate.specs.Messages.{node_of}
use Rattle.iris_migrate.specs.Titles.{given}
use Rattle.iris_agent.specs.declared.give.Move.{Move}
use Rattle.iris_agent.specs.declared.turn.Turn.{Turn}
use Rattle.iris_agent.specs.Gives.{gives, handover_of}
use Rattle.iris_agent.specs.Handovers.{own_in}
use Rattle.iris_agent.specs.Moves.{names_above, pieces_above, handover_pieces}
use Rattle.iris_agent.specs.Tables.{Tables, with_cache, with_seat}
use Rattle.iris_book.specs.Book.{History}
use Rattle.iris_copies.specs.Copies.{IsPresent, IsCopy, AreCopies, IsNewest, HoldsCopies}
use Rattle.iris_copies.proofs.Fragments.{released_holds}
use Rattle.iris_copies.proofs.Caches.{released_in_holds}
use Rattle.iris_copies.proofs.FragmentPieces.{each_of, held_copy, own_piece}
use Rattle.iris_runs.specs.Moments.{Moment, with_entries, IsMessageAt, IsHandoverAt, BringsNewest, IsAgentAt}
use Rattle.iris_runs.proofs.KeptOrderly.{released_orderly, version_released}
use Rattle.iris_runs.proofs.StayRight.{at_end, length_behind, agent_entry}

-- ---- the agent

-- the agent keeps a copy of the node, owns it no more, and has parked for it what it had parked before
pub agent_released : (m : Moment) (t : Tables) (name : List Label) (to : List ℕ) (epoch : ℕ) → IsPresent m.history m.now → IsSome (version_at t.cache.contents name) → IsAgentAt m t
    → IsAgentAt m (with_seat (with_cache t (released_in t.cache name m.now)) name (given (t.seat name) to epoch))
agent_released m t name to epoch present own is = record {
  top = is.top;
  copies = released_in_holds m.history m.now t.cache name present is.copies;
  orderly = released_orderly t.cache name m.now own ordered is.orderly;
  owns = λ other there. ap (λ (o : Option ℕ). is_some o) (version_released t.cache name m.now own ordered is.orderly other ∙ ap (λ (b : Bool). cond b None (version_at t.cache.contents other)) (names_equiv.symm name other)) ∙ seats other (pointwise label_eq other name) (is.owns other there);
  gathers = is.gathers;
  parked = λ other. waits other (pointwise label_eq other name);
  placed = λ other. places other (pointwise label_eq other name) refl;
}
  where
    ordered : HaveRisingNames (released t.cache.contents name m.now).nodes
    ordered = (released_holds m.history m.now t.cache.contents name present is.copies).ordered

    seats : (other : List Label) (b : Bool) → is_some (version_at t.cache.contents other) ≡ is_some (t.seat other).last → is_some (cond b None (version_at t.cache.contents other)) ≡ is_some (if b then given (t.seat name) to epoch else t.seat other).last
    seats other true same = refl
    seats other false same = same

    waits : (other : List Label) (b : Bool) → All (IsMessageAt m) (if b then given (t.seat name) to epoch else t.seat other).parked
    waits other true = is.parked name
    waits other false = is.parked other

    places : (other : List Label) (b : Bool) → pointwise label_eq other name ≡ b → All (λ message. node_of message ≡ Some other) (if b then given (t.seat name) to epoch else t.seat other).parked
    places other true alike = subst (λ (n : List Label). All (λ message. node_of message ≡ Some n) (t.seat name).parked) (sym (alike_exact other name alike)) (is.placed name)
    places other false alike = is.placed other

pub given_right : (m : Moment) (t : Tables) (turn : Turn) (move : Move) → turn.now ≡ m.now → IsPresent m.history m.now → IsAgentAt m t → IsSome (version_at t.cache.contents move.name) → IsAgentAt (with_entries m (gives t turn move).entries) (gives t turn move).tables
given_right m t turn move now present is own =
    subst (λ (at : ℕ). IsAgentAt (with_entries m (gives t turn move).entries) (with_seat (with_cache t (released_in t.cache move.name at)) move.name (given (t.seat move.name) move.to move.epoch))) (sym now)
    (agent_entry m (entries.Gave move.name move.to move.epoch) _ tt tt (agent_released m t move.name move.to move.epoch present own is))

-- ---- the pieces of a handover

-- what is so of each of several numbers in a row
ranged : (P : ℕ → Type 0) (a n : ℕ) → ((i : ℕ) → a ≤ i → i < a + n → P i) → AllByRecursion P (range_with_len a n)
ranged P a zero each = tt
ranged P a (suc n) each = (each a (omega arith) (omega arith), ranged P (a + 1) n (λ i least most. each i (omega (arith, least)) (omega (arith, most))))

-- a name of one label or more stands only where it is held
held_there : (nodes : Nodes) (name : List Label) (i : ℕ) → 1 ≤ i → i < length name → stands nodes (take i name) ≡ true → is_held nodes (take i name) ≡ true
held_there nodes name zero least most there = absurd (omega (arith, least))
held_there nodes [] (suc i) least most there = absurd (omega (arith, most))
held_there nodes (label ∷ name) (suc i) least most there = there

-- each node above a held one is held
held_above : (nodes : Nodes) (name : List Label) → IsRooted nodes → is_held nodes name ≡ true → AllByRecursion (λ above. is_held nodes above ≡ true) (names_above name)
held_above nodes name rooted held = mapped (range_with_len 1 (length name - 1)) (ranged (λ i. is_held nodes (take i name) ≡ true) 1 (length name - 1) (λ i least most.
    held_there nodes name i least (omega (arith, most)) (stands_above_held nodes rooted (take i name) (drop i name) (subst (λ (n : List Label). is_held nodes n ≡ true) (sym (take-append-drop i name)) held))))
  where
    mapped : (counts : List ℕ) → AllByRecursion (λ i. is_held nodes (take i name) ≡ true) counts → AllByRecursion (λ above. is_held nodes above ≡ true) (map (λ i. take i name) counts)
    mapped [] all = tt
    mapped (count ∷ counts) all = (all.0, mapped counts all.1)

-- the ids of held nodes have the names of these
named_above : (f : Contents) (now : ℕ) (names : List (List Label)) → AllByRecursion (λ above. is_held f.nodes above ≡ true) names → map (λ piece. piece.name) (filter_map (λ above. held_piece f above level.Ids now) names) ≡ names
named_above f now [] all = refl
named_above f now (name ∷ names) all = by (named_above f now names all.1) (held_at f.nodes name) all.0
  where
    by : map (λ piece. piece.name) (filter_map (λ above. held_piece f above level.Ids now) names) ≡ names → (o : Option HeldNode) → is_some o ≡ true
        → map (λ piece. piece.name) (cons_option (option_and_then (λ node. piece_of name node level.Ids now) o) (filter_map (λ above. held_piece f above level.Ids now) names)) ≡ name ∷ names
    by rest None some = absurd (cc)
    by rest (Some node) some = ap (λ (ns : List (List Label)). name ∷ ns) rest

-- An owned node has its piece in full.
record IsOwnThere (f : Contents) (name : List Label) (now : ℕ) : Type 0 where
  pub piece : Piece
  pub found : held_piece f name level.Full now ≡ Some piece
  pub named : piece.name ≡ name
  pub whole : IsSome piece.full
  pub held : is_held f.nodes name ≡ true

own_there : (f : Contents) (name : List Label) (now : ℕ) → IsSome (version_at f name) → IsOwnThere f name now
own_there f name now own = by (held_at f.nodes name) refl own
  where
    part : (ids : List Label) (p : Part) → held_at f.nodes name ≡ Some (record { ids = ids; part = p }) → IsSome (own_version p) → IsOwnThere f name now
    part ids (Own local version) at some = record {
      piece = full_piece name ids (record { local = local; version = version; stamp = now });
      found = ap (λ (o : Option HeldNode). option_and_then (λ node. piece_of name node level.Full now) o) at;
      named = refl;
      whole = refl;
      held = ap (λ (o : Option HeldNode). is_some o) at;
    }
    part ids (Copied full) at some = absurd (cc)
    part ids Bare at some = absurd (cc)

    by : (o : Option HeldNode) → held_at f.nodes name ≡ o → IsSome (own_version (part_in o)) → IsOwnThere f name now
    by None at some = absurd (cc)
    by (Some node) at some = part node.ids node.part at some

-- the last of several pieces
own_behind : (pieces : List Piece) (piece : Piece) → own_in (pieces ++ piece ∷ []) ≡ Some piece
own_behind pieces piece =
    let count : length (pieces ++ piece ∷ []) - 1 ≡ length pieces = (let n = length_behind pieces piece in omega (arith, n)) in
    ap (λ (i : ℕ). slice_get (pieces ++ piece ∷ []) i) count ∙ at_end pieces piece

-- the ids of the nodes above are copies
above_copies : (h : History) (now : ℕ) (f : Contents) (names : List (List Label)) → IsPresent h now → HoldsCopies h now f → AreCopies h now (filter_map (λ above. held_piece f above level.Ids now) names)
above_copies h now f names present holds = each_of (IsCopy h now) (λ above. held_piece f above level.Ids now) names (λ above there. by above (held_piece f above level.Ids now) refl)
  where
    by : (above : List Label) (o : Option Piece) → held_piece f above level.Ids now ≡ o → IfSome o (IsCopy h now)
    by above None found = tt
    by above (Some piece) found = held_copy h now f above level.Ids piece present holds found

-- the handover of an owned node, whatever its epoch and its last number are
handed_right : (m : Moment) (f : Contents) (name : List Label) (epoch last : ℕ) → IsPresent m.history m.now → HoldsCopies m.history m.now f → IsRooted f.nodes → IsSome (version_at f name)
    → IsHandoverAt m (record { name = name; epoch = epoch; last = last; pieces = handover_pieces f name m.now }) × BringsNewest m.history (record { name = name; epoch = epoch; last = last; pieces = handover_pieces f name m.now })
handed_right m f name epoch last present holds rooted own =
    subst (λ (pieces : List Piece). IsHandoverAt m (record { name = name; epoch = epoch; last = last; pieces = pieces }) × BringsNewest m.history (record { name = name; epoch = epoch; last = last; pieces = pieces })) (sym are) (
      record {
        copies = All-append (IsCopy m.history m.now) above (there.piece ∷ []) (above_copies m.history m.now f (names_above name) present holds) (All-cons (IsCopy m.history m.now) there.piece [] (held_copy m.history m.now f name level.Full there.piece present holds there.found) (All-nil (IsCopy m.history m.now)));
        names_are = map-append (λ (piece : Piece). piece.name) above (there.piece ∷ []) ∙ (λ i. named_above f m.now (names_above name) (held_above f.nodes name rooted there.held) i ++ there.named i ∷ []);
        own = there.piece;
        last = own_behind above there.piece;
        whole = there.whole;
      },
      subst (λ (o : Option Piece). IfSome o (λ piece. IfSome piece.full (λ full. IsNewest m.history piece.name full.local full.version))) (sym (own_behind above there.piece)) (own_piece m.history m.now f name level.Full there.piece holds own there.found).newest_is,
    )
  where
    there : IsOwnThere f name m.now
    there = own_there f name m.now own

    above : List Piece
    above = pieces_above f name m.now

    are : handover_pieces f name m.now ≡ above ++ there.piece ∷ []
    are = ap (λ (o : Option Piece). above ++ option_to_list o) there.found

pub handover_right : (m : Moment) (t : Tables) (turn : Turn) (move : Move) → turn.now ≡ m.now → IsPresent m.history m.now → IsAgentAt m t → IsSome (version_at t.cache.contents move.name)
    → IsHandoverAt m (handover_of t turn move) × BringsNewest m.history (handover_of t turn move)
handover_right m t turn move now present is own =
    subst (λ (at : ℕ). IsHandoverAt m (handover_of t (record turn { now = at }) move) × BringsNewest m.history (handover_of t (record turn { now = at }) move)) (sym now)
    (handed_right m t.cache.contents move.name move.epoch (unwrap_or (t.seat move.name).last 0) present is.copies is.orderly.rooted own)
