-- In a good city agents may do what their calls ask for.
use Rattle.std.proofs.Common.{◌≡◌, ℕ, ◌≤◌, ◌+◌, ◌-◌, Bool, true, false, ◌||◌, is_some, nat_eq, List, [], ◌∷◌, ◌++◌, length, get_or, map, Option, Some, None, IsSome, IfSome, option_map, refl, sym, ap, ◌∙◌, subst, arith}
use Rattle.std.specs.Prelude.{All}
use Rattle.std.specs.List.{filter_map}
use Rattle.std.proofs.lemmas.Bool.Decides.{nat_tests}
use Rattle.std.proofs.lemmas.List.Elements.{All-nil, All-cons, All-weaker, All-head, All-tail}
use Rattle.std.proofs.lemmas.List.{length-map, length-append, get_or-map, get_or-append-add}
use Rattle.std.proofs.lemmas.Option.{IfSome_then, get_or_from_slice_get, slice_get_within}
use Rattle.iris_base.specs.declared.name.Label.{Label}
use Rattle.iris_tree.specs.Universe.{Node, node_at, ids_of}
use Rattle.iris_fragment.specs.Changes.{part_in, own_version, version_at}
use Rattle.iris_fragment.specs.Contents.{has_place, held_at, status, status_or, part_status, is_listed}
use Rattle.iris_fragment.specs.Shape.{IsPieceOf, ids_at}
use Rattle.iris_fragment.specs.declared.held.HeldNode.{HeldNode}
use Rattle.iris_fragment.specs.declared.held.Part.{Part}
use Rattle.iris_fragment.specs.declared.held.Part.TheVariants.{Own, Copied, Bare}
use Rattle.iris_fragment.specs.declared.piece.Piece.{Piece}
use Rattle.iris_fragment.specs.declared.status.Status.TheVariants.{Owned}
use Rattle.iris_need.specs.declared.need.Need.{Need}
use Rattle.iris_need.specs.Laws.{look_at_start}
use Rattle.iris_need.specs.Needs.{missing_of}
use Rattle.iris_need.specs.Pieces.{Pieces, pieces_in, view_of}
use Rattle.iris_need.proofs.Asked.{missing_there}
use Rattle.iris_need.proofs.Laid.{laid_grows, met_grows}
use Rattle.iris_book.specs.Book.{update_count, latest, value_at}
use Rattle.iris_route.specs.Titles.{title_at}
use Rattle.iris_migrate.specs.declared.key.Key.TheVariants as keys
use Rattle.iris_migrate.specs.declared.message.Handover.{Handover as Handed}
use Rattle.iris_migrate.specs.declared.message.Message.{Message}
use Rattle.iris_migrate.specs.declared.message.Message.TheVariants.{Query, Ask, Reply, Update, Handover}
use Rattle.iris_migrate.specs.Messages.{node_of, is_among}
use Rattle.iris_gather.specs.declared.entries.OpenGather.{OpenGather}
use Rattle.iris_gather.specs.Gathers.{Gathering}
use Rattle.iris_gather.specs.Laid.{laid}
use Rattle.iris_gather.specs.OpenGathers.{serves_request, serves_ask, awaits}
use Rattle.iris_fragment.specs.Usable.{usable_pieces}
use Rattle.iris_agent.specs.Decisions.{AreRouted, MayStart}
use Rattle.iris_agent.specs.Handovers.{own_in, above_handed}
use Rattle.iris_agent.specs.Moves.{names_above}
use Rattle.iris_agent.specs.Tables.{Tables}
use Rattle.iris_agent.specs.Updates.{own_value, value_owned}
use Rattle.iris_copies.specs.Copies.{IsCopy, IsPartAt, HoldsCopies}
use Rattle.iris_copies.specs.Views.{IsView}
use Rattle.iris_copies.proofs.Seen.{laid_usable}
use Rattle.iris_protocol.specs.Table.{Each}
use Rattle.iris_protocol.specs.Good.{Idle, Fits}
use Rattle.iris_protocol.specs.World as model
use Rattle.iris_runs.specs.Acting.{MayOpenAt, FitsAt}
use Rattle.iris_runs.specs.Alike.{MayBeHandled, IsWaitedFor, WaitsOnce}
use Rattle.iris_runs.specs.Good.{Past, IsPostAt, IsGood, moment_of}
use Rattle.iris_runs.specs.Letters.{rank_of, need_of, mail_of, letter_of}
use Rattle.iris_runs.specs.Moments.{IsGatherAt, IsHandoverAt}
use Rattle.iris_runs.specs.Worlds.{Sent, World}
use Rattle.iris_runs.proofs.HandedPlace.{handed_place}
use Rattle.iris_runs.proofs.Depths.{missing_fits}
use Rattle.iris_runs.proofs.KnownCities.{numbers_free, asks_free, waits_once, parked_idle, idle_unserved}

-- ---- numbers

pub number_is_free : (w : World) (past : Past) → IsGood w past → (a : List ℕ) (number : ℕ) → w.turn.next_gather ≤ number → (w.agent a).gather number ≡ None
number_is_free w past good = numbers_free w past.accepted good.known

pub ask_is_free : (w : World) (past : Past) → IsGood w past → (a : List ℕ) (ask number : ℕ) → w.turn.next_ask ≤ ask → awaits ask ((w.agent a).gather number) ≡ false
ask_is_free w past good = asks_free w past.accepted good.known

pub each_waits_once : (w : World) (past : Past) → IsGood w past → (a : List ℕ) (number : ℕ) → IfSome ((w.agent a).gather number) WaitsOnce
each_waits_once w past good a number = by ((w.agent a).gather number) refl
  where
    by : (o : Option OpenGather) → (w.agent a).gather number ≡ o → IfSome o WaitsOnce
    by None there = tt
    by (Some one) there = waits_once w past.accepted good.known a number one there

-- an ask that an agent never met has no gather
pub unmet_unserved : (w : World) (past : Past) → IsGood w past → (a : List ℕ) (ask number : ℕ) → (w.agent a).asked ask ≡ false → serves_ask ask ((w.agent a).gather number) ≡ false
unmet_unserved w past good a ask number unmet = by (serves_ask ask ((w.agent a).gather number)) refl
  where
    by : (b : Bool) → serves_ask ask ((w.agent a).gather number) ≡ b → b ≡ false
    by false serves = refl
    by true serves = let met = (good.asks a).opened number ask serves in absurd (cc)

-- ---- what is handled

post_of_good : (w : World) (past : Past) → IsGood w past → (k : ℕ) (sent : Sent) → w.post k ≡ Some sent → IsPostAt w past.wanted sent
post_of_good w past good k sent there = subst (λ (o : Option Sent). IfSome o (IsPostAt w past.wanted)) there (good.posts k)

owned_parts : (p : Part) → is_some (own_value p) ≡ is_some (own_version p)
owned_parts (Own local version) = refl
owned_parts (Copied full) = refl
owned_parts Bare = refl

pub may_be_handled : (w : World) (past : Past) → IsGood w past → (k : ℕ) (sent : Sent) (waiting : Option ℕ) → w.post k ≡ Some sent
    → ((ask : ℕ) → letter_of sent.message ≡ model.reply ask → IsWaitedFor (w.agent sent.to).gather ask waiting)
    → MayBeHandled (w.agent sent.to) waiting sent.message
may_be_handled w past good k sent waiting there waits = by sent.message (post_of_good w past good k sent there).place waits
  where
    by : (message : Message) → IfSome (node_of message) (λ name. IsSome (node_at w.history.start name))
        → ((ask : ℕ) → letter_of message ≡ model.reply ask → IsWaitedFor (w.agent sent.to).gather ask waiting)
        → MayBeHandled (w.agent sent.to) waiting message
    by (Query request asked name epoch floor) place waits = tt
    by (Ask number from asked start epoch floor) place waits = tt
    by (Reply ask pieces) place waits = (waits ask refl, each_waits_once w past good sent.to)
    by (Update request name epoch number changes) place waits = owned_parts (part_in (held_at (w.agent sent.to).cache.contents.nodes name)) ∙ (good.agents sent.to).owns name place
    by (Handover handed) place waits = (good.agents sent.to).placed handed.name

-- ---- what is owned

city_has : (o : Option Node) (ids : List Label) (count version : ℕ) → option_map ids_of o ≡ Some ids → count ≡ version → option_map (λ _. count) o ≡ Some version
city_has None ids count version there same = absurd (cc)
city_has (Some n) ids count version there same = ap (λ (v : ℕ). Some v) same

-- the book's newest version and value of a node are those of its owner
pub newest_is_owned : (w : World) (past : Past) → IsGood w past → (a : List ℕ) (name : List Label) (version : ℕ) → version_at (w.agent a).cache.contents name ≡ Some version
    → (latest w.history name ≡ Some version) × (value_at w.history name version ≡ value_owned (w.agent a).cache.contents name)
newest_is_owned w past good a name version at = by (held_at (w.agent a).cache.contents.nodes name) refl at
  where
    holds : HoldsCopies w.history w.turn.now (w.agent a).cache.contents
    holds = (good.agents a).copies

    of_part : (ids : List Label) (part : Part) → ids_at w.history.start name ≡ Some ids → IsPartAt w.history w.turn.now name part → own_version part ≡ Some version → (latest w.history name ≡ Some version) × (value_at w.history name version ≡ own_value part)
    of_part ids (Own local own) there is at =
        let same : own ≡ version = cc in
        (city_has (node_at w.history.start name) ids (update_count w.history name) version there (sym is.version_is ∙ same), subst (λ (v : ℕ). value_at w.history name v ≡ Some local) same is.value)
    of_part ids (Copied full) there is at = absurd (cc)
    of_part ids Bare there is at = absurd (cc)

    by : (o : Option HeldNode) → held_at (w.agent a).cache.contents.nodes name ≡ o → own_version (part_in o) ≡ Some version → (latest w.history name ≡ Some version) × (value_at w.history name version ≡ own_value (part_in o))
    by None held at = absurd (cc)
    by (Some node) held at = of_part node.ids node.part (holds.city.ids name node held) (holds.parts name node held) at

owned_status : (o : Option HeldNode) (listed : Bool) → is_some (own_version (part_in o)) ≡ true → status_or listed o ≡ Some Owned
owned_status None listed owned = absurd (cc)
owned_status (Some node) listed owned = of_part node.part owned
  where
    of_part : (part : Part) → is_some (own_version part) ≡ true → Some (part_status part) ≡ Some Owned
    of_part (Own local version) owned = refl
    of_part (Copied full) owned = absurd (cc)
    of_part Bare owned = absurd (cc)

-- an agent that accepts the updates of a node of the city owns the node
pub owner_owns : (w : World) (past : Past) → IsGood w past → (a : List ℕ) (name : List Label) → IsSome (node_at w.history.start name) → IsSome ((w.agent a).seat name).last → status (w.agent a).cache.contents name ≡ Some Owned
owner_owns w past good a name there last = owned_status (held_at (w.agent a).cache.contents.nodes name) (is_listed (w.agent a).cache.contents name) ((good.agents a).owns name there ∙ last)

-- ---- handovers

either_true : (b other : Bool) → other ≡ true → (b || other) ≡ true
either_true true other is = refl
either_true false other is = is

same_number : (n : ℕ) → nat_eq n n ≡ true
same_number n = grind (arith, nat_tests)

-- messages of idle requests, and of asks that have no gather, may open theirs
may_open_all : (t : Tables) (status : ℕ → model.Status) (ms : List Message) → ((request number : ℕ) → status request ≡ model.idle → serves_request request (t.gather number) ≡ false)
    → ((ask number : ℕ) → is_among (keys.Ask ask) ms ≡ true → serves_ask ask (t.gather number) ≡ false) → Each (λ (m : model.Mail). Idle status (model.key m.demand)) (filter_map mail_of ms) → All (MayOpenAt t) ms
may_open_all t status [] queries asks idle = All-nil (MayOpenAt t)
may_open_all t status (Query request asked name epoch floor ∷ ms) queries asks idle = All-cons (MayOpenAt t) (Query request asked name epoch floor) ms (λ number. queries request number idle.0) (may_open_all t status ms queries asks idle.1)
may_open_all t status (Ask ask from asked start epoch floor ∷ ms) queries asks idle =
    All-cons (MayOpenAt t) (Ask ask from asked start epoch floor) ms
    (λ number. asks ask number (ap (λ (b : Bool). b || is_among (keys.Ask ask) ms) (same_number ask)))
    (may_open_all t status ms queries (λ other number among. asks other number (either_true (nat_eq other ask) (is_among (keys.Ask other) ms) among)) idle.1)
may_open_all t status (Reply ask pieces ∷ ms) queries asks idle = All-cons (MayOpenAt t) (Reply ask pieces) ms tt (may_open_all t status ms queries asks idle)
may_open_all t status (Update request name epoch number changes ∷ ms) queries asks idle = All-cons (MayOpenAt t) (Update request name epoch number changes) ms tt (may_open_all t status ms queries asks idle.1)
may_open_all t status (Handover handed ∷ ms) queries asks idle = All-cons (MayOpenAt t) (Handover handed) ms tt (may_open_all t status ms queries asks idle)

-- what is parked at an agent may open its gathers there
pub parked_may_open : (w : World) (past : Past) → IsGood w past → (a : List ℕ) (name : List Label) → All (MayOpenAt (w.agent a)) ((w.agent a).seat name).parked
parked_may_open w past good a name =
    may_open_all (w.agent a) good.known.world.status ((w.agent a).seat name).parked
    (λ request number idle. idle_unserved w past.accepted good.known request idle a number)
    (λ ask number among. (good.asks a).apart name ask number among)
    (parked_idle w past.accepted good.known a name)

-- the last of pieces has the last of their names
last_named : (pieces : List Piece) (above : List (List Label)) (name : List Label) (own : Piece) → map (λ piece. piece.name) pieces ≡ above ++ name ∷ [] → own_in pieces ≡ Some own → own.name ≡ name
last_named pieces above name own names last =
    let named = λ (piece : Piece). piece.name in
    let count : length pieces ≡ length above + 1 = sym (length-map pieces named) ∙ ap (λ (ns : List (List Label)). length ns) names ∙ length-append above (name ∷ []) in
    let place : length pieces - 1 ≡ length above + 0 = omega (arith, count) in
    ap named (sym (get_or_from_slice_get pieces (length pieces - 1) own own last))
    ∙ sym (get_or-map named pieces (length pieces - 1) own own.name (slice_get_within pieces (length pieces - 1) own last))
    ∙ ap (λ (ns : List (List Label)). get_or ns (length pieces - 1) own.name) names
    ∙ ap (λ (i : ℕ). get_or (above ++ name ∷ []) i own.name) place
    ∙ get_or-append-add above (name ∷ []) 0 own.name

pub handover_fits : (w : World) (past : Past) → IsGood w past → (k : ℕ) (to : List ℕ) (handed : Handed) → w.post k ≡ Some (record { to = to; message = Handover handed }) → FitsAt (w.agent to) handed
handover_fits w past good k to handed there = record {
  own = message.own;
  last = message.last;
  named = named;
  whole = message.whole;
  place = subst (λ (name : List Label). has_place (above_handed (w.agent to).cache handed.pieces).contents.nodes name ≡ true) (sym named) (handed_place (moment_of w past.wanted) (w.agent to).cache handed message post.place);
  released = parked_may_open w past good to handed.name;
}
  where
    sent : Sent
    sent = record { to = to; message = Handover handed }

    post : IsPostAt w past.wanted sent
    post = post_of_good w past good k sent there

    message : IsHandoverAt (moment_of w past.wanted) handed
    message = post.message

    named : message.own.name ≡ handed.name
    named = last_named handed.pieces (names_above handed.name) handed.name message.own message.names_are message.last

-- ---- what is missing

gather_of_good : (w : World) (past : Past) → IsGood w past → (a : List ℕ) (number : ℕ) (one : OpenGather) → (w.agent a).gather number ≡ Some one → IsGatherAt (moment_of w past.wanted) one.gather
gather_of_good w past good a number one there = subst (λ (o : Option OpenGather). IfSome o (λ one. IsGatherAt (moment_of w past.wanted) one.gather)) there ((good.agents a).gathers number)

pub may_start : (w : World) (past : Past) → IsGood w past → (a : List ℕ) (number : ℕ) → IfSome ((w.agent a).gather number) (λ one. MayStart one.gather.start)
may_start w past good a number = IfSome_then ((w.agent a).gather number) ((good.agents a).gathers number) (λ one is. is.begins)

-- a view of an agent's gather, laid over what the agent may use
abbrev laid_at : World → List ℕ → Gathering → Pieces
laid_at w a g = laid (w.agent a).cache.contents g.floor w.turn.now g.view

laid_fresh : (w : World) (past : Past) → IsGood w past → (a : List ℕ) (g : Gathering) → IsGatherAt (moment_of w past.wanted) g → IsView w.history w.turn.now g.floor (laid_at w a g)
laid_fresh w past good a g is = laid_usable w.history w.turn.now g.floor (w.agent a).cache.contents g.view is.past good.present (good.agents a).copies is.view

entries_so : (P : Piece → Type 0) (view : Pieces) → All P (pieces_in view) → All (λ entry. P entry.1) view
entries_so P [] all = All-nil (λ entry. P entry.1)
entries_so P (e ∷ es) all = All-cons (λ entry. P entry.1) e es (All-head P e.1 (pieces_in es) all) (entries_so P es (All-tail P e.1 (pieces_in es) all))

laid_pieces : (w : World) (past : Past) → IsGood w past → (a : List ℕ) (g : Gathering) → IsGatherAt (moment_of w past.wanted) g → All (λ entry. IsPieceOf w.history.start entry.1) (laid_at w a g)
laid_pieces w past good a g is =
    entries_so (IsPieceOf w.history.start) (laid_at w a g)
    (All-weaker (IsCopy w.history w.turn.now) (IsPieceOf w.history.start) (λ piece copy. copy.ids) (pieces_in (laid_at w a g)) (laid_fresh w past good a g is).copies)

-- the registry has the nodes that are missing
pub missing_routed : (w : World) (past : Past) → IsGood w past → (a : List ℕ) (number : ℕ) (one : OpenGather) → (w.agent a).gather number ≡ Some one
    → AreRouted w.registry (missing_of one.gather.query one.gather.start (laid (w.agent a).cache.contents one.gather.floor w.turn.now one.gather.view))
missing_routed w past good a number one there =
    All-weaker (λ (need : Need). IsSome (node_at w.history.start need.name)) (λ (need : Need). IsSome (title_at w.registry need.name)) (λ need at. good.registered need.name ∙ at) (missing_of one.gather.query one.gather.start (laid_at w a one.gather))
    (missing_there w.history.start one.gather.query one.gather.start (laid_at w a one.gather) is.start (laid_fresh w past good a one.gather is).named (laid_pieces w past good a one.gather is))
  where
    is : IsGatherAt (moment_of w past.wanted) one.gather
    is = gather_of_good w past good a number one there

-- what is missing lies below the start, each node once
pub missing_lower : (w : World) (past : Past) → IsGood w past → (a : List ℕ) (number : ℕ) (one : OpenGather) → (w.agent a).gather number ≡ Some one
    → Fits (rank_of one.gather.start) (map need_of (missing_of one.gather.query one.gather.start (laid (w.agent a).cache.contents one.gather.floor w.turn.now one.gather.view)))
missing_lower w past good a number one there =
    missing_fits w.history.start one.gather.query one.gather.start (laid_at w a one.gather) good.labels is.start (laid_fresh w past good a one.gather is).named (laid_pieces w past good a one.gather is)
    (λ some. met_grows (view_of one.gather.view) (view_of (laid_at w a one.gather)) (look_at_start one.gather.start) (laid_grows one.gather.view (usable_pieces (w.agent a).cache.contents one.gather.floor w.turn.now)) (is.sound.gathered.own some))
  where
    is : IsGatherAt (moment_of w past.wanted) one.gather
    is = gather_of_good w past good a number one there
