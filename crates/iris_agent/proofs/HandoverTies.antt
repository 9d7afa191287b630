-- What the arrival of a handover comes to.
use Rattle.std.proofs.Common.{◌≡◌, ℕ, ◌-◌, ◌≤◌, nat_lt, Bool, true, false, if◌then◌else◌, List, [], ◌∷◌, ◌++◌, ◌+◌, length, get_or, take, map, refl, ap, sym, ◌∙◌, subst, Option, Some, None, IsSome, nat_le, arith}
use Rattle.std.specs.Prelude.{option_and_then, Result, Ok, Err, is_err, OnOk}
use Rattle.std.specs.List.{AllByRecursion, filter_map}
use Rattle.std.proofs.lemmas.Bool.{false≢true}
use Rattle.std.proofs.lemmas.List.{get_or_push, length-map, length-take-le, take-map, take-take, take_all, take_at}
use Rattle.std.proofs.lemmas.List.Elements.{recursion_from_All}
use Rattle.std.proofs.lemmas.Option.{slice_get_read}
use Rattle.std.specs.Cmp.Lexicographic.{pointwise}
use Rattle.iris_base.specs.declared.name.Label.{Label}
use Rattle.iris_base.specs.NameOrder.{label_eq}
use Rattle.iris_fragment.specs.declared.held.HeldNode.{HeldNode}
use Rattle.iris_fragment.specs.declared.piece.Full.{Full}
use Rattle.iris_fragment.specs.declared.piece.Level.{Level}
use Rattle.iris_fragment.specs.declared.piece.Piece.{Piece}
use Rattle.iris_fragment.specs.Contents.{Contents, has_place, held_at}
use Rattle.iris_fragment.specs.Changes.{owned, owned_by}
use Rattle.iris_fragment.specs.Usable.{piece_of, held_piece}
use Rattle.iris_fragment.proofs.Names.{alike_self}
use Rattle.iris_fragment.proofs.NodeChanges.{look_up_put}
use Rattle.iris_cache.specs.Recency.{Cache, TookFirst, taken_all, owned_in}
use Rattle.iris_migrate.specs.declared.message.Handover.{Handover as Handed}
use Rattle.iris_migrate.specs.declared.message.Message.{Message}
use Rattle.iris_migrate.specs.declared.message.Message.TheVariants.{Query, Ask, Reply, Update, Handover}
use Rattle.iris_migrate.specs.Messages.{node_of}
use Rattle.iris_migrate.specs.Titles.{Seat, Seats, seat_at, took}
use Rattle.iris_gather.specs.declared.entries.OpenGather.{OpenGather}
use Rattle.iris_gather.specs.declared.parent.Parent.TheVariants as parents
use Rattle.iris_gather.specs.Gathers.{Gathering, opened as gathering}
use Rattle.iris_gather.specs.OpenGathers.{gather_at}
use Rattle.iris_agent.specs.declared.step.Step.{Step}
use Rattle.iris_agent.specs.declared.turn.Turn.{Turn}
use Rattle.iris_agent.specs.Changes.{HasNode, HasTakenFirst}
use Rattle.iris_agent.specs.Events.{AreFree, FitsHandover, IsBackBut}
use Rattle.iris_agent.specs.Given.{node_given, piece_given, given_gather, given_opened, opened_in, AreBeside, AreClosed, BringsNode, HasOpened, HasSameGathers}
use Rattle.iris_agent.specs.Handled.{Does, only_change}
use Rattle.iris_agent.specs.Handovers.{own_in, above_in, ids_alone, above_handed, own_handed, handed_in, Opened, with_opened, parked_gather, parked_opened, posted_again, node_taken, gathers_then, handover_taken, handover_arrives}
use Rattle.iris_agent.specs.Tables.{Holdings, Tables, tables_of, is_among, with_cache}
use Rattle.iris_agent.proofs.NodeTies.{node_tie}

-- ---- the piece of the node that came

given_held : (f : Contents) (own : Piece) (o : Option Full) → IsSome o → own.full ≡ o → held_at (owned_by o f own).nodes own.name ≡ Some (node_given own)
given_held f own None some is = absurd (false≢true some)
given_held f own (Some full) some is =
    let node : HeldNode = record { ids = own.ids; part = Rattle.iris_fragment.specs.declared.held.Part.TheVariants.Own full.local full.version } in
    look_up_put f.nodes own.name own.name node ∙ ap (λ (b : Bool). if b then Some node else held_at f.nodes own.name) (alike_self own.name) ∙ ap (λ (o : Option Full). Some (record { ids = own.ids; part = Rattle.iris_agent.specs.Given.part_given o })) (sym is)

-- once the node is owned, its piece is the one that was given
pub piece_then : (cache : Cache) (pieces : List Piece) (own : Piece) (now : ℕ) (level : Level) → own_in pieces ≡ Some own → IsSome own.full → held_piece (handed_in cache pieces).contents own.name level now ≡ piece_given own level now
piece_then cache pieces own now level last whole =
    ap (λ (o : Option Piece). held_piece (own_handed (above_handed cache pieces) o).contents own.name level now) last
    ∙ ap (λ (o : Option HeldNode). option_and_then (λ node. piece_of own.name node level now) o) (given_held (above_handed cache pieces).contents own own.full whole refl)

-- ---- what was parked

same_gather : (t : Tables) (turn : Turn) (own : Piece) → ((level : Level) → held_piece t.cache.contents own.name level turn.now ≡ piece_given own level turn.now)
    → (number : ℕ) (message : Message) → node_of message ≡ Some own.name → parked_gather t turn number message ≡ given_gather t.top own turn.now number message
same_gather t turn own piece free (Query request query name epoch floor) at = refl
same_gather t turn own piece free (Ask ask from query start epoch floor) at =
    let named : start.name ≡ own.name = cc in
    ap (λ (first : Option Piece). Some (gathering free query floor start first (parents.Ask ask from))) (ap (λ (name : List Label). held_piece t.cache.contents name start.level turn.now) named ∙ piece start.level)
same_gather t turn own piece free (Reply ask pieces) at = refl
same_gather t turn own piece free (Update request name epoch number changes) at = refl
same_gather t turn own piece free (Handover handover) at = refl

same_opened : (t : Tables) (turn : Turn) (own : Piece) → ((level : Level) → held_piece t.cache.contents own.name level turn.now ≡ piece_given own level turn.now)
    → (o : Opened) (messages : List Message) → AllByRecursion (λ message. node_of message ≡ Some own.name) messages → parked_opened t turn o messages ≡ given_opened t.top own turn.now o messages
same_opened t turn own piece o [] mine = refl
same_opened t turn own piece o (m ∷ ms) mine =
    ap (λ (g : Option Gathering). parked_opened t turn (with_opened o g) ms) (same_gather t turn own piece o.next m mine.0)
    ∙ same_opened t turn own piece (with_opened o (given_gather t.top own turn.now o.next m)) ms mine.1

-- ---- a handover that is taken

gathers_tie : (old : Holdings) (gs : List (ℕ × OpenGather)) (turn : Turn) (h : Handed) (own : Piece) (next : ℕ) → own_in h.pieces ≡ Some own → own.name ≡ h.name → IsSome own.full
    → AllByRecursion (λ message. node_of message ≡ Some h.name) (seat_at old.titles h.name).parked
    → opened_in gs next ≡ given_opened old.top own turn.now (opened_in old.gathers turn.next_gather) (seat_at old.titles h.name).parked → opened_in gs next ≡ gathers_then (tables_of old) turn h
unfolding tables_of
gathers_tie old gs turn h own next last named whole mine opens =
    let t : Tables = node_taken (tables_of old) h in
    let parked : List Message = (seat_at old.titles h.name).parked in
    let here = subst (λ (name : List Label). AllByRecursion (λ message. node_of message ≡ Some name) parked) (sym named) mine in
    opens ∙ sym (same_opened t turn own (λ level. piece_then old.cache h.pieces own turn.now level last whole) (opened_in old.gathers turn.next_gather) parked here)

pub handed : (old mid new : Holdings) (turn after : Turn) (h : Handed) (next : ℕ) (made : List Step) → FitsHandover old h → HasOpened old mid h turn next
    → HasNode mid new (handed_in mid.cache h.pieces) h.name (took (seat_at mid.titles h.name) h.epoch h.last)
    → nat_le h.epoch (seat_at old.titles h.name).taken ≡ false → made ≡ filter_map (posted_again old.id h.epoch) (seat_at old.titles h.name).parked → after ≡ record turn { next_gather = next }
    → Does new after made (handover_arrives (tables_of old) turn h)
unfolding tables_of
handed old mid new turn after h next made fits opens node later steps moved =
    let opened : Holdings = record old { gathers = mid.gathers } in
    let same : fits.own ≡ opens.own = cc (fits.last, opens.last) in
    let mine = recursion_from_All (λ message. node_of message ≡ Some h.name) (seat_at old.titles h.name).parked opens.mine in
    let o : opened_in mid.gathers next ≡ gathers_then (tables_of old) turn h =
    gathers_tie old mid.gathers turn h opens.own next opens.last (ap (λ (p : Piece). p.name) (sym same) ∙ fits.named) (subst (λ (p : Piece). IsSome p.full) same fits.whole) mine opens.opened
    in
    let there : HasNode opened new (handed_in old.cache h.pieces) h.name (took (seat_at old.titles h.name) h.epoch h.last) =
    subst (λ (x : Holdings). HasNode x new (handed_in x.cache h.pieces) h.name (took (seat_at x.titles h.name) h.epoch h.last)) opens.rest node
    in
    subst (λ (b : Bool). Does new after made (if b then only_change (tables_of old) turn else handover_taken (tables_of old) turn h)) (sym later) (record {
      tables = node_tie opened new (handed_in old.cache h.pieces) h.name (took (seat_at old.titles h.name) h.epoch h.last) there ∙ ap (λ (x : Opened). record (node_taken (tables_of old) h) { gather = x.gathers }) o;
      turn = moved ∙ ap (λ (x : Opened). record turn { next_gather = x.next }) o;
      steps = steps;
    })

pub handed_before : (old new : Holdings) (turn : Turn) (h : Handed) (made : List Step) → new ≡ old → nat_le h.epoch (seat_at old.titles h.name).taken ≡ true → made ≡ [] → Does new turn made (handover_arrives (tables_of old) turn h)
unfolding tables_of
handed_before old new turn h made same early none =
    subst (λ (b : Bool). Does new turn made (if b then only_change (tables_of old) turn else handover_taken (tables_of old) turn h)) (sym early) (record {
      tables = ap tables_of same;
      turn = refl;
      steps = none;
    })

-- ---- a node that is taken

pub of_ok : {T E P : Type 0} (r : Result T E) → is_err r ≡ false → OnOk r P → P
of_ok (Ok x) done h = h
of_ok (Err e) done h = absurd (cc)

-- the gathers have no part in what is taken
pub brings_still : (old new : Holdings) (h : Handed) → FitsHandover old h → new ≡ record old { gathers = new.gathers } → BringsNode new.cache h
brings_still old new h fits rest = record {
  own = fits.own;
  last = fits.last;
  whole = fits.whole;
  place = subst (λ (cache : Cache). has_place (above_handed cache h.pieces).contents.nodes fits.own.name ≡ true) (sym (ap (λ (x : Holdings). x.cache) rest)) fits.place;
}

-- the last piece of a list, and the others
pub last_piece : (pieces above : List Piece) (own : Piece) → pieces ≡ above ++ own ∷ [] → length above + 1 ≡ length pieces → (own_in pieces ≡ Some own) × (above ≡ above_in pieces)
last_piece pieces above own whole len =
    let most : ℕ = length pieces - 1 in
    let at : length above ≡ most = omega arith in (
      slice_get_read pieces (length pieces) most own refl (omega arith) (sym (ap (λ (ps : List Piece). get_or ps most own) whole ∙ get_or_push above own own most at)),
      sym (ap (λ (ps : List Piece). take most ps) whole ∙ take_at above (own ∷ []) most at),
    )

pub node_owned : (here old : Holdings) (taken cache : Cache) (ready titles : Seats) (h : Handed) (own : Piece) → here ≡ old → own_in h.pieces ≡ Some own
    → taken ≡ above_handed here.cache h.pieces → cache ≡ owned_in taken own
    → ((name : List Label) → seat_at ready name ≡ seat_at here.titles name)
    → seat_at titles h.name ≡ took (seat_at ready h.name) h.epoch h.last
    → ((other : List Label) → pointwise label_eq other h.name ≡ false → seat_at titles other ≡ seat_at ready other)
    → HasNode old (record here { cache = cache; titles = titles }) (handed_in old.cache h.pieces) h.name (took (seat_at old.titles h.name) h.epoch h.last)
node_owned here old taken cache ready titles h own same last above owned seats there others =
    subst (λ (x : Holdings). HasNode x (record here { cache = cache; titles = titles }) (handed_in x.cache h.pieces) h.name (took (seat_at x.titles h.name) h.epoch h.last)) same (record {
      holds = owned ∙ ap (λ (c : Cache). owned_in c own) above ∙ sym (ap (own_handed (above_handed here.cache h.pieces)) last);
      there = there ∙ ap (λ (s : Seat). took s h.epoch h.last) (seats h.name);
      others = λ other apart. others other apart ∙ seats other;
      rest = refl;
    })

-- ---- where there was no memory

-- some first pieces of those above are some first ones of all
pub first_of_all : (cache new : Cache) (pieces : List Piece) → TookFirst cache (map ids_alone (above_in pieces)) new → TookFirst cache (map ids_alone pieces) new
first_of_all cache new pieces h =
    let most : ℕ = length pieces - 1 in
    let few : length (take most pieces) ≡ most = length-take-le most pieces (omega arith) in
    let above = length-map (take most pieces) ids_alone in
    let all = length-map pieces ids_alone in
    let within = h.within in
    let le : h.count ≤ most = omega arith in
    record {
      count = h.count;
      within = omega arith;
      after = h.after ∙ ap (λ (ps : List Piece). taken_all cache (take h.count ps)) (sym (take-map ids_alone most pieces)) ∙ ap (λ (ps : List Piece). taken_all cache ps) (take-take h.count most (map ids_alone pieces) le);
    }

pub took_none : (cache new : Cache) (pieces : List Piece) → new ≡ cache → TookFirst cache pieces new
took_none cache new pieces same = record {
  count = 0;
  within = omega arith;
  after = same;
}

pub took_every : (cache new : Cache) (pieces : List Piece) → new ≡ taken_all cache pieces → TookFirst cache pieces new
took_every cache new pieces same = record {
  count = length pieces;
  within = omega arith;
  after = same ∙ ap (taken_all cache) (sym (take_all (length pieces) pieces (omega arith)));
}

-- nothing changed but what is held, and the place for what is known of a node
pub taken_first : (here old : Holdings) (cache : Cache) (titles : Seats) (pieces : List Piece) → here ≡ old → TookFirst here.cache pieces cache → ((name : List Label) → seat_at titles name ≡ seat_at here.titles name)
    → HasTakenFirst old (record here { cache = cache; titles = titles }) pieces
taken_first here old cache titles pieces same took seats =
    subst (λ (x : Holdings). HasTakenFirst x (record here { cache = cache; titles = titles }) pieces) same (record { took = took; seats = seats; rest = refl })

pub back_tie : (old new : Holdings) → ((name : List Label) → seat_at new.titles name ≡ seat_at old.titles name) → ((number : ℕ) → gather_at new.gathers number ≡ gather_at old.gathers number)
    → new ≡ record old { cache = new.cache; titles = new.titles; gathers = new.gathers } → tables_of new ≡ with_cache (tables_of old) new.cache
unfolding tables_of
back_tie old new seats gathers rest = λ i. record {
  id = (rest i).id;
  kinds = (rest i).kinds;
  top = (rest i).top;
  cache = new.cache;
  seat = λ name. seats name i;
  gather = λ number. gathers number i;
  asked = is_among (rest i).asked;
}

-- nothing was taken in
pub back_same : (old new : Holdings) (pieces : List Piece) → HasSameGathers old new → IsBackBut old new pieces
back_same old new pieces h = record {
  cache = took_none old.cache new.cache pieces (ap (λ (x : Holdings). x.cache) h.rest);
  rest = back_tie old new (λ name. ap (λ (x : Holdings). seat_at x.titles name) h.rest) h.gathers (h.rest ∙ sym (stays h.rest));
}
  where
    stays : new ≡ record old { gathers = new.gathers } → record old { cache = new.cache; titles = new.titles; gathers = new.gathers } ≡ record old { gathers = new.gathers }
    stays e = λ i. record old { cache = (e i).cache; titles = (e i).titles; gathers = new.gathers }

-- the gathers that were opened are closed again
closed_again : (old mid new : List (ℕ × OpenGather)) (first last : ℕ) → ((number : ℕ) → first ≤ number → gather_at old number ≡ None) → AreBeside old mid first last → AreClosed mid new first last
    → (number : ℕ) → gather_at new number ≡ gather_at old number
closed_again old mid new first last free beside gone number = by_first (nat_lt number first) refl
  where
    by_last : (b : Bool) → nat_lt number last ≡ b → first ≤ number → gather_at new number ≡ gather_at old number
    by_last true e le = gone.gone number le (grind arith) ∙ sym (free number le)
    by_last false e le = gone.above number (grind arith) ∙ beside.above number (grind arith)

    by_first : (b : Bool) → nat_lt number first ≡ b → gather_at new number ≡ gather_at old number
    by_first true e = gone.below number (grind arith) ∙ beside.below number (grind arith)
    by_first false e = by_last (nat_lt number last) refl (grind arith)

pub back_again : (old mid took new : Holdings) (h : Handed) (turn : Turn) (next : ℕ) → AreFree old turn.next_gather → HasOpened old mid h turn next → HasTakenFirst mid took (map ids_alone (above_in h.pieces)) → AreClosed took.gathers new.gathers turn.next_gather next
    → new ≡ record took { gathers = new.gathers } → IsBackBut old new (map ids_alone h.pieces)
back_again old mid took new h turn next free opens first closes rest = record {
  cache = first_of_all old.cache new.cache h.pieces (subst (λ (c : Cache). TookFirst c (map ids_alone (above_in h.pieces)) new.cache) (ap (λ (x : Holdings). x.cache) opens.rest)
      (subst (λ (c : Cache). TookFirst mid.cache (map ids_alone (above_in h.pieces)) c) (sym (ap (λ (x : Holdings). x.cache) rest)) first.took));
  rest = back_tie old new seats gathers all;
}
  where
    seats : (name : List Label) → seat_at new.titles name ≡ seat_at old.titles name
    seats name = ap (λ (x : Holdings). seat_at x.titles name) rest ∙ first.seats name ∙ ap (λ (x : Holdings). seat_at x.titles name) opens.rest

    gathers : (number : ℕ) → gather_at new.gathers number ≡ gather_at old.gathers number
    gathers = closed_again old.gathers mid.gathers new.gathers turn.next_gather next free opens.beside (subst (λ (gs : List (ℕ × OpenGather)). AreClosed gs new.gathers turn.next_gather next) (ap (λ (x : Holdings). x.gathers) first.rest) closes)

    all : new ≡ record old { cache = new.cache; titles = new.titles; gathers = new.gathers }
    all = rest ∙ ap (λ (x : Holdings). record x { gathers = new.gathers }) first.rest ∙ ap (λ (x : Holdings). record x { cache = took.cache; titles = took.titles; gathers = new.gathers }) opens.rest
        ∙ (λ i. record old { cache = (sym rest i).cache; titles = (sym rest i).titles; gathers = new.gathers })
