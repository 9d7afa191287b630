-- As a gather decides over its laid view, what its agent has and sends stays right, and what it answers is allowed.
use Rattle.std.proofs.Common.{◌≡◌, ℕ, suc, ◌+◌, ◌-◌, Bool, if◌then◌else◌, List, [], ◌∷◌, All, Contains, Option, Some, None, IsSome, IfSome, slice_get, refl, sym, ◌∙◌, ap, subst, arith}
use Rattle.std.specs.List.{enumerate_from}
use Rattle.std.proofs.lemmas.Bool.{le-ltb}
use Rattle.std.proofs.lemmas.List.Elements.{All-nil, All-cons, All-contains, All-map, All-weaker, All-contains_itself}
use Rattle.std.proofs.lemmas.Map.Made.{Contains-values_of}
use Rattle.std.proofs.lemmas.Option.{slice_get_within}
use Rattle.iris_base.specs.declared.cite.Cite.{Cite}
use Rattle.iris_base.specs.declared.name.Label.{Label}
use Rattle.iris_tree.specs.Universe.{label_of, node_at}
use Rattle.iris_tree.specs.declared.item.Item.{Item}
use Rattle.iris_fragment.specs.Changes.{version_at}
use Rattle.iris_fragment.specs.Contents.{Contents}
use Rattle.iris_fragment.specs.Shape.{IsPieceOf}
use Rattle.iris_fragment.specs.Usable.{usable_pieces}
use Rattle.iris_fragment.specs.declared.piece.Piece.{Piece}
use Rattle.iris_need.specs.declared.need.Need.{Need}
use Rattle.iris_need.specs.declared.need.Start.{Start}
use Rattle.iris_need.specs.Decided.{pieces_for}
use Rattle.iris_need.specs.Needs.{from_document, missing_of, support_of}
use Rattle.iris_need.specs.Pieces.{Pieces, pieces_in}
use Rattle.iris_need.proofs.Asked.{missing_there}
use Rattle.iris_need.proofs.Laid.{laid_grows}
use Rattle.iris_need.proofs.Run.{contains_first, contains_later}
use Rattle.iris_route.specs.Titles.{Titles}
use Rattle.iris_gather.specs.declared.basis.Basis.{Basis}
use Rattle.iris_gather.specs.declared.entries.OpenGather.{OpenGather}
use Rattle.iris_gather.specs.declared.parent.Parent.{Parent}
use Rattle.iris_gather.specs.declared.parent.Parent.TheVariants as parents
use Rattle.iris_gather.specs.declared.verdict.Verdict.{Verdict}
use Rattle.iris_gather.specs.declared.verdict.Verdict.TheVariants.{Done, Asks}
use Rattle.iris_gather.specs.Basis.{cites_of}
use Rattle.iris_gather.specs.Gathers.{Gathering, IsReplyTo, settled}
use Rattle.iris_gather.specs.Laid.{laid}
use Rattle.iris_gather.specs.OpenGathers.{unlent}
use Rattle.iris_gather.specs.Verdicts.{IsDone, IsVerdict, asks_of}
use Rattle.iris_gather.proofs.Gathered.{gathered_replies}
use Rattle.iris_gather.proofs.Life.{settled_sound}
use Rattle.iris_gather.proofs.Stand.{asks_missing, laid_view_named}
use Rattle.iris_agent.specs.declared.turn.Turn.{Turn}
use Rattle.iris_agent.specs.Decisions.{IsBasis, ask_posted, asks_posted, all_touched, ending, judged}
use Rattle.iris_agent.specs.Tables.{Tables, with_cache}
use Rattle.iris_copies.specs.Allowed.{IsAllowed}
use Rattle.iris_copies.specs.Copies.{IsPresent, IsCopy, AreFresh, HoldsCopies}
use Rattle.iris_copies.specs.Views.{IsView}
use Rattle.iris_copies.proofs.Answered.{decision_allowed}
use Rattle.iris_copies.proofs.Seen.{laid_view, laid_usable, needed_copies, needed_fresh}
use Rattle.iris_runs.specs.Asking.{wanted_by, asked_by}
use Rattle.iris_runs.specs.Moments.{Wanted, Moment, WasMadeFor, IsParentAt, IsGatherAt, IsAgentAt, IsStepAt}
use Rattle.iris_runs.proofs.KeptOrderly.{all_touched_same, all_touched_orderly}
use Rattle.iris_runs.proofs.StayRight.{parent_later, later_asked, agent_asked, with_cache_right, with_gather_right}

-- ---- asks by their numbers

-- what is so of each item at its number is so of the numbered items
pub each_numbered : {X : Type 0} (P : ℕ → X → Type 0) (n : ℕ) (xs : List X) → ((i : ℕ) (x : X) → slice_get xs i ≡ Some x → Contains xs x → P (n + i) x) → All (λ e. P e.0 e.1) (enumerate_from n xs)
each_numbered P n [] each = All-nil (λ e. P e.0 e.1)
each_numbered {X} P n (x ∷ xs) each =
    All-cons (λ (e : ℕ × X). P e.0 e.1) (n, x) (enumerate_from (n + 1) xs) (subst (λ (k : ℕ). P k x) (omega arith) (each 0 x refl (contains_first x xs)))
    (each_numbered P (n + 1) xs (λ i y at there. subst (λ (k : ℕ). P k y) (omega arith) (each (suc i) y at (contains_later x xs y there))))

-- the moment knows what each new ask is for
made_for : (m : Moment) (g : Gathering) (needs : List Need) (i : ℕ) (need : Need) → slice_get needs i ≡ Some need → WasMadeFor (asked_by m g needs) (m.asks + i) g.floor need.name need.level
made_for m g needs i need at =
    let within = slice_get_within needs i need at in
    let back : m.asks + i - m.asks ≡ i = omega arith in (
      omega (arith, within),
      ap (λ (b : Bool). if b then m.wanted (m.asks + i) else wanted_by g (m.wanted (m.asks + i)) (slice_get needs (m.asks + i - m.asks))) (le-ltb (m.asks + i) m.asks (omega arith))
          ∙ ap (λ (o : Option Need). wanted_by g (m.wanted (m.asks + i)) o) (ap (slice_get needs) back ∙ at),
    )

-- ---- the decision over a laid view

-- What a gather of an agent has as it decides over its laid view.
record IsDecided (m : Moment) (f : Contents) (g : Gathering) (basis : Basis) : Type 0 where
  pub present : IsPresent m.history m.now
  pub holds : HoldsCopies m.history m.now f
  pub right : IsGatherAt m g
  pub decided : IsBasis g.query g.start (laid f g.floor m.now g.view) basis

-- the laid view has fresh copies
over_view : (m : Moment) (f : Contents) (g : Gathering) (basis : Basis) → IsDecided m f g basis → IsView m.history m.now g.floor (laid f g.floor m.now g.view)
over_view m f g basis d = laid_usable m.history m.now g.floor f g.view d.right.past d.present d.holds d.right.view

-- the gather stays right as it takes the pieces, and asks for what is missing
settled_right : (m : Moment) (f : Contents) (g : Gathering) (basis : Basis) → IsDecided m f g basis → IsGatherAt (asked_by m g (asks_of basis.verdict)) (settled g basis.verdict basis.pieces m.asks)
settled_right m f g basis d = subst (λ (pieces : List Piece). IsGatherAt (asked_by m g needs) (settled g basis.verdict pieces m.asks)) (sym d.decided.pieces) record {
  sound = settled_sound g over basis.verdict m.asks (laid_view_named f g.floor m.now g.view d.right.view.named) (laid_grows g.view (usable_pieces f g.floor m.now)) d.decided.verdict d.right.sound;
  view = laid_view m.history m.now g.floor g.view (pieces_for over support) (needed_copies m.history m.now g.floor over support seen) (needed_fresh m.history m.now g.floor over support seen) d.right.view;
  past = d.right.past;
  start = d.right.start;
  begins = d.right.begins;
  pending = each_numbered (λ ask need. WasMadeFor (asked_by m g needs) ask g.floor need.name need.level) m.asks needs (λ i need at there. made_for m g needs i need at);
  parent = parent_later m (asked_by m g needs) g g.parent (later_asked m g needs) d.right.parent;
}
  where
    needs : List Need
    needs = asks_of basis.verdict

    over : Pieces
    over = laid f g.floor m.now g.view

    support : List Need
    support = support_of g.query g.start over

    seen : IsView m.history m.now g.floor over
    seen = over_view m f g basis d

-- ---- steps

-- what a client gets is allowed, and what an agent that asks gets is right
ending_right : (m : Moment) (f : Contents) (g : Gathering) (basis : Basis) (items : List Item) (support : List Need) (parent : Parent) → IsDecided m f g basis → IsDone g.query g.start (laid f g.floor m.now g.view) support items → IsParentAt m g parent
    → IsStepAt (asked_by m g (asks_of basis.verdict)) (ending (settled g basis.verdict basis.pieces m.asks) items basis.cites parent)
ending_right m f g basis items support (parents.Client request) d done is =
    subst (IsAllowed m.history m.now g.floor g.query items) (sym d.decided.cites) (from_start g.start is done)
  where
    from_start : (start : Start) → start ≡ from_document (label_of m.history.start) → IsDone g.query start (laid f g.floor m.now g.view) support items → IsAllowed m.history m.now g.floor g.query items (cites_of g.query start (laid f g.floor m.now g.view))
    from_start start same at_start =
        subst (λ (s : Start). IsAllowed m.history m.now g.floor g.query items (cites_of g.query s (laid f g.floor m.now g.view))) (sym same)
        (decision_allowed m.history m.now g.floor f g.query g.view support items d.right.past d.present d.holds d.right.view
        (subst (λ (s : Start). IsDone g.query s (laid f g.floor m.now g.view) support items) same at_start))
ending_right m f g basis items support (parents.Ask ask from) d done is = record {
  made = omega (arith, is.0.0);
  copies = after.view.copies;
  fresh = subst (λ (w : Wanted). AreFresh w.floor (pieces_in after_view)) (sym wanted) after.view.fresh;
  tells = subst (λ (w : Wanted). IsReplyTo w.name w.level (pieces_in after_view)) (sym wanted) (gathered_replies g.start after_view is.1 after.sound.gathered);
}
  where
    after : IsGatherAt (asked_by m g (asks_of basis.verdict)) (settled g basis.verdict basis.pieces m.asks)
    after = settled_right m f g basis d

    after_view : Pieces
    after_view = (settled g basis.verdict basis.pieces m.asks).view

    wanted : (asked_by m g (asks_of basis.verdict)).wanted ask ≡ record { floor = g.floor; name = g.start.name; level = g.start.level }
    wanted = (later_asked m g (asks_of basis.verdict)).wanted ask is.0.0 ∙ is.0.1

-- each ask is for a node of the city
asks_right : (m : Moment) (f : Contents) (registry : Titles) (id : List ℕ) (g : Gathering) (basis : Basis) → IsDecided m f g basis
    → All (IsStepAt (asked_by m g (asks_of basis.verdict))) (asks_posted registry id (settled g basis.verdict basis.pieces m.asks))
asks_right m f registry id g basis d =
    All-map (IsStepAt (asked_by m g needs)) (ask_posted registry id (settled g basis.verdict basis.pieces m.asks)) (enumerate_from m.asks needs)
    (each_numbered (λ ask need. IsStepAt (asked_by m g needs) (ask_posted registry id (settled g basis.verdict basis.pieces m.asks) (ask, need))) m.asks needs (λ i need at there. (
      d.right.past,
      record { top = d.right.start.top; there = λ some. exists need there },
      made_for m g needs i need at,
      λ none. (let bad : IsSome (node_at m.history.start []) = subst (λ (n : List Label). IsSome (node_at m.history.start n)) none (exists need there) in absurd (cc)),
    )))
  where
    needs : List Need
    needs = asks_of basis.verdict

    over : Pieces
    over = laid f g.floor m.now g.view

    of_city : (entry : List Label × Piece) → Contains over entry → IsPieceOf m.history.start entry.1
    of_city entry there = (All-contains (IsCopy m.history m.now) (pieces_in over) entry.1 (over_view m f g basis d).copies (Contains-values_of over entry.0 entry.1 there)).ids

    exists : (need : Need) → Contains needs need → IsSome (node_at m.history.start need.name)
    exists need there = All-contains (λ n. IsSome (node_at m.history.start n.name)) (missing_of g.query g.start over) need
        (missing_there m.history.start g.query g.start over d.right.start (laid_view_named f g.floor m.now g.view d.right.view.named) (All-weaker (Contains over) (λ entry. IsPieceOf m.history.start entry.1) of_city over (All-contains_itself over)))
        (subst (λ (ns : List Need). Contains ns need) (asks_missing g.query g.start over basis.verdict d.decided.verdict) there)

-- ---- the law

-- uses of copies leave an agent right
touched_right : (m : Moment) (t : Tables) (needs : List Need) → IsAgentAt m t → IsAgentAt m (with_cache t (all_touched t.cache needs))
touched_right m t needs is = with_cache_right m t (all_touched t.cache needs)
    (subst (HoldsCopies m.history m.now) (sym (all_touched_same t.cache needs)) is.copies)
    (all_touched_orderly t.cache needs is.orderly)
    (λ name. ap (λ (f : Contents). version_at f name) (all_touched_same t.cache needs))
    is

-- the gather goes on as it is after the decision, or it ended
judged_agent : (m : Moment) (registry : Titles) (t : Tables) (turn : Turn) (number : ℕ) (g : Gathering) (cites : List Cite) (needs : List Need) (verdict : Verdict) → IsAgentAt (asked_by m g needs) t → (after : Gathering) → IsGatherAt (asked_by m g needs) after
    → IsAgentAt (asked_by m g needs) (judged registry t turn number after cites verdict).tables
judged_agent m registry t turn number g cites needs (Done support items) is after right = with_gather_right (asked_by m g needs) (with_cache t (all_touched t.cache support)) number None tt (touched_right (asked_by m g needs) t support is)
judged_agent m registry t turn number g cites needs (Asks support missing) is after right = with_gather_right (asked_by m g needs) (with_cache t (all_touched t.cache support)) number (Some (unlent after)) right (touched_right (asked_by m g needs) t support is)

-- the gather that decides is right
gather_there : (m : Moment) (t : Tables) (number : ℕ) (one : OpenGather) → IsAgentAt m t → t.gather number ≡ Some one → IsGatherAt m one.gather
gather_there m t number one is there = subst (λ (o : Option OpenGather). IfSome o (λ other. IsGatherAt m other.gather)) there (is.gathers number)

is_decided : (m : Moment) (t : Tables) (now number : ℕ) (one : OpenGather) (basis : Basis) → now ≡ m.now → IsPresent m.history m.now → IsAgentAt m t → t.gather number ≡ Some one
    → IsBasis one.gather.query one.gather.start (laid t.cache.contents one.gather.floor now one.gather.view) basis → IsDecided m t.cache.contents one.gather basis
is_decided m t now number one basis same present is there decided = record {
  present = present;
  holds = is.copies;
  right = gather_there m t number one is there;
  decided = subst (λ (at : ℕ). IsBasis one.gather.query one.gather.start (laid t.cache.contents one.gather.floor at one.gather.view) basis) same decided;
}

pub decided_agent : (m : Moment) (registry : Titles) (t : Tables) (turn : Turn) (number : ℕ) (one : OpenGather) (basis : Basis) → turn.now ≡ m.now → turn.next_ask ≡ m.asks → IsPresent m.history m.now → IsAgentAt m t → t.gather number ≡ Some one
    → IsBasis one.gather.query one.gather.start (laid t.cache.contents one.gather.floor turn.now one.gather.view) basis
    → IsAgentAt (asked_by m one.gather (asks_of basis.verdict)) (judged registry t turn number (settled one.gather basis.verdict basis.pieces turn.next_ask) basis.cites basis.verdict).tables
decided_agent m registry t turn number one basis now asks present is there decided =
    subst (λ (next : ℕ). IsAgentAt (asked_by m one.gather (asks_of basis.verdict)) (judged registry t turn number (settled one.gather basis.verdict basis.pieces next) basis.cites basis.verdict).tables) (sym asks)
    (judged_agent m registry t turn number one.gather basis.cites (asks_of basis.verdict) basis.verdict (agent_asked m one.gather (asks_of basis.verdict) t is) (settled one.gather basis.verdict basis.pieces m.asks)
    (settled_right m t.cache.contents one.gather basis (is_decided m t turn.now number one basis now present is there decided)))

pub decided_steps : (m : Moment) (registry : Titles) (t : Tables) (turn : Turn) (number : ℕ) (one : OpenGather) (basis : Basis) → turn.now ≡ m.now → turn.next_ask ≡ m.asks → IsPresent m.history m.now → IsAgentAt m t → t.gather number ≡ Some one
    → IsBasis one.gather.query one.gather.start (laid t.cache.contents one.gather.floor turn.now one.gather.view) basis
    → All (IsStepAt (asked_by m one.gather (asks_of basis.verdict))) (judged registry t turn number (settled one.gather basis.verdict basis.pieces turn.next_ask) basis.cites basis.verdict).steps
decided_steps m registry t turn number one basis now asks present is there decided =
    subst (λ (next : ℕ). All (IsStepAt (asked_by m g (asks_of basis.verdict))) (judged registry t turn number (settled g basis.verdict basis.pieces next) basis.cites basis.verdict).steps) (sym asks)
    (by basis.verdict refl)
  where
    g : Gathering
    g = one.gather

    d : IsDecided m t.cache.contents g basis
    d = is_decided m t turn.now number one basis now present is there decided

    by : (v : Verdict) → basis.verdict ≡ v → All (IsStepAt (asked_by m g (asks_of basis.verdict))) (judged registry t turn number (settled g basis.verdict basis.pieces m.asks) basis.cites v).steps
    by (Done support items) at =
        All-cons (IsStepAt (asked_by m g (asks_of basis.verdict))) (ending (settled g basis.verdict basis.pieces m.asks) items basis.cites g.parent) []
        (ending_right m t.cache.contents g basis items support g.parent d (subst (IsVerdict g.query g.start (laid t.cache.contents g.floor m.now g.view)) at d.decided.verdict) d.right.parent)
        (All-nil (IsStepAt (asked_by m g (asks_of basis.verdict))))
    by (Asks support missing) at = asks_right m t.cache.contents registry t.id g basis d
