-- What the arrival of a handover leaves is right: the node finds its place and is owned, and what was parked for it opens its gathers.
use Rattle.std.proofs.Common.{◌≡◌, ℕ, suc, zero, ◌-◌, Bool, true, false, cond, if◌then◌else◌, nat_le, nat_eq, is_some, length, map, slice_get, List, [], ◌∷◌, All, Option, Some, None, IsSome, IfSome, refl, sym, ◌∙◌, ap, subst}
use Rattle.std.specs.Cmp.Lexicographic.{pointwise}
use Rattle.std.proofs.lemmas.List.Elements.{All-nil, All-head, All-tail, All-take, All-map, All-weaker}
use Rattle.iris_base.specs.declared.name.Label.{Label}
use Rattle.iris_base.specs.NameOrder.{label_eq, names_equiv}
use Rattle.iris_tree.specs.Universe.{node_at}
use Rattle.iris_fragment.specs.declared.piece.Piece.{Piece}
use Rattle.iris_fragment.specs.Changes.{version_at}
use Rattle.iris_fragment.specs.Contents.{has_place}
use Rattle.iris_fragment.proofs.Names.{alike_self}
use Rattle.iris_book.specs.Book.{History, MayBeEntered}
use Rattle.iris_cache.specs.Recency.{Cache}
use Rattle.iris_migrate.specs.declared.message.Handover.{Handover as Handed}
use Rattle.iris_migrate.specs.declared.message.Message.{Message}
use Rattle.iris_migrate.specs.declared.message.Message.TheVariants.{Query, Ask, Reply, Update, Handover}
use Rattle.iris_migrate.specs.Messages.{node_of}
use Rattle.iris_migrate.specs.Titles.{took}
use Rattle.iris_gather.specs.declared.entries.OpenGather.{OpenGather}
use Rattle.iris_gather.specs.Gathers.{Gathering}
use Rattle.iris_gather.specs.OpenGathers.{unlent}
use Rattle.iris_agent.specs.declared.turn.Turn.{Turn}
use Rattle.iris_agent.specs.Handled.{only_change}
use Rattle.iris_agent.specs.Handovers.{above_in, ids_alone, above_handed, own_handed, handed_in, Opened, with_opened, parked_gather, parked_opened, posted_again, node_taken, gathers_then, handover_taken, handover_arrives}
use Rattle.iris_agent.specs.Moves.{names_above}
use Rattle.iris_agent.specs.Tables.{Tables}
use Rattle.iris_copies.specs.Copies.{ComesAt, IsPresent, IsCopy, AreCopies, IsNewest, HoldsCopies}
use Rattle.iris_copies.proofs.Caches.{taken_all_holds, owned_in_holds}
use Rattle.iris_copies.proofs.FragmentPieces.{each_of}
use Rattle.iris_runs.specs.Moments.{Moment, IsGatherAt, IsMessageAt, IsHandoverAt, BringsNewest, IsOrderly, IsAgentAt, IsStepAt}
use Rattle.iris_runs.proofs.CacheRight.{IsKept, taken_all_kept, owned_orderly, version_owned}
use Rattle.iris_runs.proofs.HandedPlace.{handed_place}
use Rattle.iris_runs.proofs.OpenedRight.{client_opened, ask_opened}
use Rattle.iris_runs.proofs.StayRight.{last_named}
use Rattle.iris_runs.proofs.UpdatedRight.{IsServed, nothing_told}

-- ---- what is held

-- What a cache is like once it took the node of a handover: it has copies in order, and owns the node beside what it owned.
pub record IsHanded (m : Moment) (c new : Cache) (name : List Label) : Type 0 where
  pub copies : HoldsCopies m.history m.now new.contents
  pub orderly : IsOrderly new
  pub owns : (other : List Label) → is_some (version_at new.contents other) ≡ cond (pointwise label_eq name other) true (is_some (version_at c.contents other))

-- ids alone of copies are copies
pub ids_copies : (h : History) (now : ℕ) (pieces : List Piece) → AreCopies h now pieces → AreCopies h now (map ids_alone pieces)
ids_copies h now pieces all =
    All-map (IsCopy h now) ids_alone pieces (All-weaker (IsCopy h now) (λ piece. IsCopy h now (ids_alone piece)) (λ piece is. record { ids = is.ids; full = tt }) pieces all)

-- what stands at a place of a list is so where all are
all_got : (P : Piece → Type 0) (pieces : List Piece) (i : ℕ) (piece : Piece) → All P pieces → slice_get pieces i ≡ Some piece → P piece
all_got P [] i piece all at = absurd (cc)
all_got P (first ∷ pieces) zero piece all at = subst P (let same : first ≡ piece = cc in same) (All-head P first pieces all)
all_got P (first ∷ pieces) (suc i) piece all at = all_got P pieces i piece (All-tail P first pieces all) at

pub handed_right : (m : Moment) (c : Cache) (handed : Handed) → IsHandoverAt m handed → BringsNewest m.history handed → IsSome (node_at m.history.start handed.name) → HoldsCopies m.history m.now c.contents → IsOrderly c
    → IsHanded m c (handed_in c handed.pieces) handed.name
handed_right m c handed is brings there holds orderly =
    subst (λ (o : Option Piece). IsHanded m c (own_handed above o) handed.name) (sym is.last) record {
      copies = owned_in_holds m.history m.now above is.own (all_got (IsCopy m.history m.now) handed.pieces _ is.own is.copies is.last).ids newest holds_above;
      orderly = owned_orderly above is.own is.whole place taken.orderly;
      owns = λ other. version_owned above.contents is.own is.whole other
          ∙ (λ i. cond (pointwise label_eq (named i) other) true (is_some (taken.same other i)));
    }
  where
    above : Cache
    above = above_handed c handed.pieces

    copies_above : AreCopies m.history m.now (map ids_alone (above_in handed.pieces))
    copies_above = ids_copies m.history m.now (above_in handed.pieces) (All-take (IsCopy m.history m.now) (length handed.pieces - 1) handed.pieces is.copies)

    holds_above : HoldsCopies m.history m.now above.contents
    holds_above = taken_all_holds m.history m.now c (map ids_alone (above_in handed.pieces)) copies_above holds

    taken : IsKept c above
    taken = taken_all_kept m.history m.now c (map ids_alone (above_in handed.pieces)) copies_above holds orderly

    named : is.own.name ≡ handed.name
    named = last_named handed.pieces (names_above handed.name) handed.name is.own is.names_are is.last

    place : has_place above.contents.nodes is.own.name ≡ true
    place = ap (has_place above.contents.nodes) named ∙ handed_place m c handed is there

    newest : IfSome is.own.full (λ full. IsNewest m.history is.own.name full.local full.version)
    newest = subst (λ (o : Option Piece). IfSome o (λ own. IfSome own.full (λ full. IsNewest m.history own.name full.local full.version))) is.last brings

-- ---- what was parked

-- each open gather is right
abbrev AreGathersAt : Moment → (ℕ → Option OpenGather) → Type 0
AreGathersAt m gather = (number : ℕ) → IfSome (gather number) (λ one. IsGatherAt m one.gather)

parked_gather_right : (m : Moment) (t : Tables) (turn : Turn) (name : List Label) (free : ℕ) (message : Message) → turn.now ≡ m.now → IsPresent m.history m.now → IsAgentAt m t → IsSome (version_at t.cache.contents name)
    → node_of message ≡ Some name → IsMessageAt m message → IfSome (parked_gather t turn free message) (IsGatherAt m)
parked_gather_right m t turn name free (Query request asked place epoch floor) moment present is own at told = client_opened m t (record turn { next_gather = free }) request asked floor is.top told
parked_gather_right m t turn name free (Ask ask from asked start epoch floor) moment present is own at told =
    let same : name ≡ start.name = cc in
    ask_opened m t (record turn { next_gather = free }) ask from asked start floor moment present is.copies (subst (λ (n : List Label). IsSome (version_at t.cache.contents n)) same own) told.0 told.1 told.2 told.3
parked_gather_right m t turn name free (Reply ask pieces) moment present is own at told = tt
parked_gather_right m t turn name free (Update request place epoch number changes) moment present is own at told = tt
parked_gather_right m t turn name free (Handover handed) moment present is own at told = tt

opened_right : (m : Moment) (o : Opened) (gather : Option Gathering) → IfSome gather (IsGatherAt m) → AreGathersAt m o.gathers → AreGathersAt m (with_opened o gather).gathers
opened_right m o None right are = are
opened_right m o (Some gather) right are = λ number. by number (nat_eq number o.next)
  where
    by : (number : ℕ) (b : Bool) → IfSome (if b then Some (unlent gather) else o.gathers number) (λ one. IsGatherAt m one.gather)
    by number true = right
    by number false = are number

all_opened : (m : Moment) (t : Tables) (turn : Turn) (name : List Label) → turn.now ≡ m.now → IsPresent m.history m.now → IsAgentAt m t → IsSome (version_at t.cache.contents name)
    → (o : Opened) (parked : List Message) → All (IsMessageAt m) parked → All (λ message. node_of message ≡ Some name) parked → AreGathersAt m o.gathers → AreGathersAt m (parked_opened t turn o parked).gathers
all_opened m t turn name moment present is own o [] told placed are = are
all_opened m t turn name moment present is own o (message ∷ parked) told placed are =
    let one = parked_gather_right m t turn name o.next message moment present is own (All-head (λ other. node_of other ≡ Some name) message parked placed) (All-head (IsMessageAt m) message parked told) in
    all_opened m t turn name moment present is own (with_opened o (parked_gather t turn o.next message)) parked (All-tail (IsMessageAt m) message parked told) (All-tail (λ other. node_of other ≡ Some name) message parked placed)
    (opened_right m o (parked_gather t turn o.next message) one are)

-- ---- a handover

-- an agent with other gathers, each of them right
with_gathers_right : (m : Moment) (t : Tables) (gather : ℕ → Option OpenGather) → AreGathersAt m gather → IsAgentAt m t → IsAgentAt m (record t { gather = gather })
with_gathers_right m t gather are is = record {
  top = is.top;
  copies = is.copies;
  orderly = is.orderly;
  owns = is.owns;
  gathers = are;
  parked = is.parked;
  placed = is.placed;
}

taken_right : (m : Moment) (t : Tables) (turn : Turn) (handed : Handed) → turn.now ≡ m.now → IsPresent m.history m.now → IsAgentAt m t → IsHandoverAt m handed → IsSome (node_at m.history.start handed.name) → BringsNewest m.history handed
    → IsAgentAt m (handover_taken t turn handed).tables
taken_right m t turn handed moment present is told there brings =
    with_gathers_right m (node_taken t handed) (gathers_then t turn handed).gathers
    (all_opened m (node_taken t handed) turn handed.name moment present node own (record { gathers = t.gather; next = turn.next_gather }) (t.seat handed.name).parked (is.parked handed.name) (is.placed handed.name) is.gathers) node
  where
    new : Cache
    new = handed_in t.cache handed.pieces

    held : IsHanded m t.cache new handed.name
    held = handed_right m t.cache handed told brings there is.copies is.orderly

    owns : (other : List Label) (b : Bool) → pointwise label_eq other handed.name ≡ b → IsSome (node_at m.history.start other)
        → is_some (version_at new.contents other) ≡ is_some (if b then took (t.seat handed.name) handed.epoch handed.last else t.seat other).last
    owns other true same here = held.owns other ∙ ap (λ (b : Bool). cond b true (is_some (version_at t.cache.contents other))) (names_equiv.symm handed.name other ∙ same)
    owns other false apart here = held.owns other ∙ ap (λ (b : Bool). cond b true (is_some (version_at t.cache.contents other))) (names_equiv.symm handed.name other ∙ apart) ∙ is.owns other here

    parked : (other : List Label) (b : Bool) → pointwise label_eq other handed.name ≡ b → All (IsMessageAt m) (if b then took (t.seat handed.name) handed.epoch handed.last else t.seat other).parked
    parked other true same = All-nil (IsMessageAt m)
    parked other false apart = is.parked other

    placed : (other : List Label) (b : Bool) → pointwise label_eq other handed.name ≡ b → All (λ message. node_of message ≡ Some other) (if b then took (t.seat handed.name) handed.epoch handed.last else t.seat other).parked
    placed other true same = All-nil (λ message. node_of message ≡ Some other)
    placed other false apart = is.placed other

    node : IsAgentAt m (node_taken t handed)
    node = record {
      top = is.top;
      copies = held.copies;
      orderly = held.orderly;
      owns = λ other here. owns other (pointwise label_eq other handed.name) refl here;
      gathers = is.gathers;
      parked = λ other. parked other (pointwise label_eq other handed.name) refl;
      placed = λ other. placed other (pointwise label_eq other handed.name) refl;
    }

    own : IsSome (version_at new.contents handed.name)
    own = held.owns handed.name ∙ ap (λ (b : Bool). cond b true (is_some (version_at t.cache.contents handed.name))) (alike_self handed.name)

-- what is posted again is right
again_right : (m : Moment) (id : List ℕ) (epoch : ℕ) (message : Message) → IfSome (posted_again id epoch message) (IsStepAt m)
again_right m id epoch (Query request asked name earlier floor) = tt
again_right m id epoch (Ask ask from asked start earlier floor) = tt
again_right m id epoch (Reply ask pieces) = tt
again_right m id epoch (Update request name earlier number changes) = tt
again_right m id epoch (Handover other) = tt

pub handover_right : (m : Moment) (t : Tables) (turn : Turn) (handed : Handed) → turn.now ≡ m.now → IsPresent m.history m.now → IsAgentAt m t → IsHandoverAt m handed → IsSome (node_at m.history.start handed.name)
    → (nat_le handed.epoch (t.seat handed.name).taken ≡ false → BringsNewest m.history handed)
    → IsServed m (handover_arrives t turn handed)
handover_right m t turn handed moment present is told there brings = either (nat_le handed.epoch (t.seat handed.name).taken) brings
  where
    either : (b : Bool) → (b ≡ false → BringsNewest m.history handed) → IsServed m (if b then only_change t turn else handover_taken t turn handed)
    either true newest = nothing_told m t turn is
    either false newest = record {
      agent = taken_right m t turn handed moment present is told there (newest refl);
      steps = each_of (IsStepAt m) (posted_again t.id handed.epoch) (t.seat handed.name).parked (λ message there. again_right m t.id handed.epoch message);
      entered = All-nil (MayBeEntered m.history);
      comes = All-nil (ComesAt m.now);
    }
