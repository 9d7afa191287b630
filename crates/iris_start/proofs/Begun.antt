-- An agent that begins with the pieces of its nodes is one as its city starts.
use Rattle.std.proofs.Common.{◌≡◌, ℕ, ◌<◌, Bool, true, false, ◌||◌, if◌then◌else◌, is_some, IsSome, List, [], ◌++◌, length, fold, All, Option, Some, None, IfSome, option_map, refl, sym, ◌∙◌, ap, subst}
use Rattle.std.specs.Prelude.{option_and_then}
use Rattle.std.specs.List.{list_any}
use Rattle.std.specs.Cmp.Lexicographic.{pointwise}
use Rattle.iris_base.specs.declared.name.Label.{Label}
use Rattle.iris_base.specs.NameOrder.{label_eq}
use Rattle.iris_tree.specs.declared.local.Local.{Local}
use Rattle.iris_tree.specs.Universe.{Node, label_of, ids_of, node_at, IsOrdered}
use Rattle.iris_fragment.specs.declared.piece.Full.{Full}
use Rattle.iris_fragment.specs.declared.piece.Piece.{Piece}
use Rattle.iris_fragment.specs.Changes.{version_at}
use Rattle.iris_fragment.specs.Shape.{ids_at}
use Rattle.iris_keeper.specs.declared.kept.Kept.{Kept}
use Rattle.iris_book.specs.Book.{History, IsSound, today, update_count, value_at}
use Rattle.iris_route.specs.Titles.{Title, Titles, title_at}
use Rattle.iris_migrate.specs.Titles.{Seat, empty_seat, with_last}
use Rattle.iris_agent.specs.Starts.{AreBegun, empty_cache, owned_names, piece_begun, started}
use Rattle.iris_agent.specs.Tables.{Tables}
use Rattle.iris_copies.specs.Copies.{IsNewest, HoldsCopies}
use Rattle.iris_copies.proofs.Fragments.{nothing_held}
use Rattle.iris_copies.proofs.Locals.{label_kept, ids_then}
use Rattle.iris_protocol.specs.Table.{AgentId, agents}
use Rattle.iris_runs.specs.Entered.{KeptUpdates}
use Rattle.iris_runs.specs.Starts.{IsAgentStart}
use Rattle.iris_runs.specs.Worlds.{World, owner_of}
use Rattle.iris_start.specs.Begun.{TellLast, IsBegun}
use Rattle.iris_start.specs.Pieces.{newest_full, own_full, pieces_at, start_pieces}
use Rattle.iris_start.proofs.Caches.{MayBegin, IsOneMore, all_begun, empty_orderly}
use Rattle.iris_start.proofs.Places.{begun_at}
use Rattle.iris_start.proofs.Walked.{all_walked}
use Rattle.iris_start.proofs.Owned.{some_mapped, owned_are}

-- What an agent begins with.
pub record IsGiven (registry : Titles) (h : History) (id : AgentId) (document : Node) (pieces : List Piece) : Type 0 where
  pub newest : document ≡ today h
  pub pieces_are : pieces ≡ start_pieces registry h id document
  pub ordered : IsOrdered document
  pub sound : IsSound h
  pub registered : (name : List Label) → is_some (title_at registry name) ≡ is_some (node_at h.start name)
  pub named : 0 < length id

-- the pieces that were put into a list without any are those of the whole document
pub given_is : (registry : Titles) (h : History) (id : AgentId) (document : Node) (pieces put first : List Piece) (above : List Label)
    → pieces ≡ put → put ≡ first ++ pieces_at (own_full registry h id) above document → first ≡ [] → above ≡ []
    → document ≡ today h → IsOrdered document → IsSound h → ((name : List Label) → is_some (title_at registry name) ≡ is_some (node_at h.start name)) → 0 < length id
    → IsGiven registry h id document pieces
given_is registry h id document pieces put first above same is none top newest ordered sound registered named = record {
  newest = newest;
  pieces_are = same ∙ is ∙ (λ i. none i ++ pieces_at (own_full registry h id) (top i) document);
  ordered = ordered;
  sound = sound;
  registered = registered;
  named = named;
}

-- the pieces find their places in a cache that holds nothing
pub pieces_begun : (registry : Titles) (h : History) (id : AgentId) (document : Node) (pieces : List Piece) (capacity : ℕ) (top : Label) → IsGiven registry h id document pieces → AreBegun (empty_cache capacity top) pieces
pieces_begun registry h id document pieces capacity top is = subst (AreBegun (empty_cache capacity top)) (sym is.pieces_are) (begun_at (empty_cache capacity top) (own_full registry h id) [] document refl)

-- ---- the newest values

full_newest : (registry : Titles) (h : History) (id : AgentId) (name : List Label) → IfSome (own_full registry h id name) (λ full. IsNewest h name full.local full.version)
full_newest registry h id name = titled (title_at registry name)
  where
    found : (o : Option Local) → value_at h name (update_count h name) ≡ o → IfSome (option_map (λ (local : Local). record { local = local; version = update_count h name; stamp = 0 }) o) (λ (full : Full). IsNewest h name full.local full.version)
    found None at = tt
    found (Some local) at = record { version_is = refl; value = at }

    either : (b : Bool) → IfSome (if b then newest_full h name else None) (λ full. IsNewest h name full.local full.version)
    either true = found (value_at h name (update_count h name)) refl
    either false = tt

    titled : (o : Option Title) → IfSome (option_and_then (λ (title : Title). if agents.same id title.0 then newest_full h name else None) o) (λ full. IsNewest h name full.local full.version)
    titled None = tt
    titled (Some title) = either (agents.same id title.0)

same_ids : (h : History) (document : Node) (name : List Label) → document ≡ today h → ids_at document name ≡ ids_at h.start name
same_ids h document name is = ap (λ (n : Node). ids_at n name) is ∙ ids_then h.start _ name

same_top : (h : History) (document : Node) → document ≡ today h → label_of document ≡ label_of h.start
same_top h document is = ap label_of is ∙ label_kept h.start _

all_may : (registry : Titles) (h : History) (id : AgentId) (document : Node) (pieces : List Piece) → IsGiven registry h id document pieces → All (MayBegin h) pieces
all_may registry h id document pieces is = subst (All (MayBegin h)) (sym is.pieces_are)
    (all_walked (MayBegin h) document (own_full registry h id)
    (λ name n there. record { ids = sym (same_ids h document name is.newest) ∙ ap (option_map ids_of) there; newest = full_newest registry h id name })
    is.ordered)

-- ---- the agent

pub begun_cache : (registry : Titles) (h : History) (now : ℕ) (id : AgentId) (document : Node) (pieces : List Piece) (capacity : ℕ) → IsGiven registry h id document pieces
    → IsOneMore h now (empty_cache capacity (label_of document)) (fold piece_begun (empty_cache capacity (label_of document)) pieces) (λ name. list_any (pointwise label_eq name) (owned_names pieces) || false)
begun_cache registry h now id document pieces capacity is =
    let top = label_of document in
    let nothing : HoldsCopies h now (empty_cache capacity top).contents = subst (λ (l : Label). HoldsCopies h now (empty_cache capacity l).contents) (sym (same_top h document is.newest)) (nothing_held h now) in
    all_begun h now (empty_cache capacity top) pieces (all_may registry h id document pieces is) (pieces_begun registry h id document pieces capacity top is) nothing (empty_orderly capacity top)

or_false : (b : Bool) → (b || false) ≡ b
or_false true = refl
or_false false = refl

has_last : (b : Bool) (number : ℕ) → b ≡ is_some (if b then with_last empty_seat number else empty_seat).last
has_last true number = refl
has_last false number = refl

same_nodes : (h : History) (document : Node) (name : List Label) → document ≡ today h → is_some (node_at document name) ≡ is_some (node_at h.start name)
same_nodes h document name is = sym (some_mapped ids_of (node_at document name)) ∙ ap (λ (o : Option (List Label)). is_some o) (same_ids h document name is) ∙ some_mapped ids_of (node_at h.start name)

in_world : (w : World) (updates : KeptUpdates) (id : AgentId) (kinds : List (List ℕ)) (capacity : ℕ) (document : Node) (pieces : List Piece) (kept : List Kept) → TellLast kept updates → IsGiven w.registry w.history id document pieces
    → IsAgentStart updates w id (started id kinds (label_of document) capacity pieces kept)
in_world w updates id kinds capacity document pieces kept tells is = record {
  id_is = refl;
  top = same_top w.history document is.newest;
  copies = all.copies;
  orderly = all.orderly;
  owns = λ name there. all.owns_are name ∙ or_false (mine name) ∙ has_last (mine name) _;
  seats = λ name. λ i. if owned name i then with_last empty_seat (tells name i) else empty_seat;
  gathers = λ number. refl;
  asked = λ ask. refl;
}
  where
    mine : List Label → Bool
    mine name = list_any (pointwise label_eq name) (owned_names pieces)

    all : IsOneMore w.history w.turn.now (empty_cache capacity (label_of document)) (fold piece_begun (empty_cache capacity (label_of document)) pieces) (λ name. mine name || false)
    all = begun_cache w.registry w.history w.turn.now id document pieces capacity is

    owned : (name : List Label) → mine name ≡ agents.same id (owner_of w.registry name)
    owned name = ap (λ (ps : List Piece). list_any (pointwise label_eq name) (owned_names ps)) is.pieces_are
        ∙ owned_are w.registry w.history id document name is.registered (same_nodes w.history document name is.newest) is.ordered is.sound is.named

-- an agent that began with these pieces is one as its city starts
pub agent_begun : (registry : Titles) (h : History) (kept : List Kept) (id : AgentId) (kinds : List (List ℕ)) (capacity : ℕ) (document : Node) (pieces : List Piece) (t : Tables) → IsGiven registry h id document pieces
    → t ≡ started id kinds (label_of document) capacity pieces kept → IsBegun registry h kept id t
agent_begun registry h kept id kinds capacity document pieces t is begun w updates same_registry same_history tells =
    let here : IsGiven w.registry w.history id document pieces =
    subst (λ (r : Titles). IsGiven r w.history id document pieces) (sym same_registry) (subst (λ (b : History). IsGiven registry b id document pieces) (sym same_history) is) in
    subst (IsAgentStart updates w id) (sym begun) (in_world w updates id kinds capacity document pieces kept tells here)
