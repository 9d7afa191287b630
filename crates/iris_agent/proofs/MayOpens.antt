-- Messages that may open their gathers, one after another.
use Rattle.std.proofs.Common.{◌≡◌, ℕ, ◌+◌, ◌<◌, suc, Bool, true, false, if◌then◌else◌, nat_eq, List, [], ◌∷◌, length, get_or, drop, arith, refl, ap, sym, ◌∙◌, subst, Option, Some, None}
use Rattle.std.specs.List.{AllByRecursion, IsDistinct}
use Rattle.std.proofs.lemmas.Bool.{eqb-true, eqb-false}
use Rattle.std.proofs.lemmas.List.{drop_more}
use Rattle.iris_base.specs.declared.name.Label.{Label}
use Rattle.iris_fragment.specs.declared.piece.Piece.{Piece}
use Rattle.iris_need.specs.Needs.{from_document}
use Rattle.iris_migrate.specs.declared.key.Key.{Key}
use Rattle.iris_migrate.specs.declared.key.Key.TheVariants as keys
use Rattle.iris_migrate.specs.declared.message.Message.{Message}
use Rattle.iris_migrate.specs.declared.message.Message.TheVariants.{Query, Ask, Reply, Update, Handover}
use Rattle.iris_migrate.specs.Messages.{keys_in, key_eq}
use Rattle.iris_gather.specs.declared.entries.OpenGather.{OpenGather}
use Rattle.iris_gather.specs.declared.parent.Parent.TheVariants as parents
use Rattle.iris_gather.specs.declared.parent.Parent.{Parent}
use Rattle.iris_gather.specs.Gathers.{Gathering, opened as gathering}
use Rattle.iris_gather.specs.OpenGathers.{OpenGathers, gather_at, unlent, is_request, is_ask, serves, serves_request, serves_ask, NoGather, Exchanged}
use Rattle.iris_agent.specs.Events.{MayOpenIn}
use Rattle.iris_agent.specs.Given.{piece_given, given_gather, given_opened, opened_in, AreBeside}
use Rattle.iris_agent.specs.Handovers.{Opened, with_opened}
use Rattle.iris_agent.specs.Tables.{at_number}

-- each may open its gather, and no two are of one request or one ask
pub record MayOpenAll (gathers : OpenGathers) (messages : List Message) : Type 0 where
  pub alone : AllByRecursion (MayOpenIn gathers) messages
  pub once : IsDistinct key_eq (keys_in messages)

-- whether a gather serves the request or the ask of a key
serves_key : Key → Option OpenGather → Bool
serves_key (keys.Request request) one = serves_request request one
serves_key (keys.Ask ask) one = serves_ask ask one

differs : (r s : ℕ) → nat_eq r s ≡ false → nat_eq s r ≡ false
differs r s e = go (nat_eq s r) refl
  where
    go : (b : Bool) → nat_eq s r ≡ b → b ≡ false
    go false h = refl
    go true h = absurd (eqb-false r s e (sym (eqb-true s r h)))

-- the gather of a request serves no other key, and so does that of an ask
apart_request : (request : ℕ) (g : Gathering) (other : Key) → g.parent ≡ parents.Client request → key_eq (keys.Request request) other ≡ false → serves_key other (Some (unlent g)) ≡ false
unfolding serves_key
apart_request request g (keys.Request r) is e = ap (is_request r) is ∙ differs request r e
apart_request request g (keys.Ask i) is e = ap (is_ask i) is

apart_ask : (ask : ℕ) (from : List ℕ) (g : Gathering) (other : Key) → g.parent ≡ parents.Ask ask from → key_eq (keys.Ask ask) other ≡ false → serves_key other (Some (unlent g)) ≡ false
unfolding serves_key
apart_ask ask from g (keys.Request r) is e = ap (is_request r) is
apart_ask ask from g (keys.Ask i) is e = ap (is_ask i) is ∙ differs ask i e

-- what a key still finds alone once another gather is open
alone_still : (before after : OpenGathers) (number : ℕ) (g : Gathering) (other : Key) → gather_at after ≡ at_number (gather_at before) number (Some (unlent g)) → serves_key other (Some (unlent g)) ≡ false
    → ((n : ℕ) → serves_key other (gather_at before n) ≡ false) → (n : ℕ) → serves_key other (gather_at after n) ≡ false
alone_still before after number g other is apart alone n = ap (λ (table : ℕ → Option OpenGather). serves_key other (table n)) is ∙ go (nat_eq n number)
  where
    go : (b : Bool) → serves_key other (if b then Some (unlent g) else gather_at before n) ≡ false
    go true = apart
    go false = alone n

Keeps : OpenGathers → OpenGathers → Key → Type 0
Keeps before after key = ((n : ℕ) → serves_key key (gather_at before n) ≡ false) → (n : ℕ) → serves_key key (gather_at after n) ≡ false

all_still : (before after : OpenGathers) (P : Key → Type 0) → ((key : Key) → P key → Keeps before after key) → (ms : List Message) → AllByRecursion P (keys_in ms) → AllByRecursion (MayOpenIn before) ms → AllByRecursion (MayOpenIn after) ms
unfolding Keeps serves_key
all_still before after P keeps [] all may = may
all_still before after P keeps (Query request query name epoch floor ∷ ms) all may = (keeps (keys.Request request) all.0 may.0, all_still before after P keeps ms all.1 may.1)
all_still before after P keeps (Ask ask from query start epoch floor ∷ ms) all may = (keeps (keys.Ask ask) all.0 may.0, all_still before after P keeps ms all.1 may.1)
all_still before after P keeps (Update request name epoch number changes ∷ ms) all may = (may.0, all_still before after P keeps ms all.1 may.1)
all_still before after P keeps (Reply ask pieces ∷ ms) all may = (may.0, all_still before after P keeps ms all may.1)
all_still before after P keeps (Handover handover ∷ ms) all may = (may.0, all_still before after P keeps ms all may.1)

all_any : (ks : List Key) → AllByRecursion (λ key. Unit {0}) ks
all_any [] = tt
all_any (k ∷ ks) = (tt, all_any ks)

same_still : (before after : OpenGathers) (ms : List Message) → gather_at after ≡ gather_at before → AllByRecursion (MayOpenIn before) ms → AllByRecursion (MayOpenIn after) ms
unfolding Keeps
same_still before after ms is may = all_still before after (λ key. Unit {0}) (λ key any alone n. ap (λ (table : ℕ → Option OpenGather). serves_key key (table n)) is ∙ alone n) ms (all_any (keys_in ms)) may

-- once the first message opened its gather, the others may open theirs
next_may : (before after : OpenGathers) (top : Label) (own : Piece) (now number next : ℕ) (m : Message) (ms : List Message) → opened_in after next ≡ with_opened (opened_in before number) (given_gather top own now number m) → MayOpenAll before (m ∷ ms) → MayOpenAll after ms
unfolding IsDistinct Keeps
next_may before after top own now free next (Query request query name epoch floor) ms is may =
    let table = ap (λ (o : Opened). o.gathers) is in record {
      alone = all_still before after (λ key. key_eq (keys.Request request) key ≡ false) (λ key differs alone. alone_still before after free _ key table (apart_request request _ key refl differs) alone) ms may.once.0 may.alone.1;
      once = may.once.1;
    }
next_may before after top own now free next (Ask ask from query start epoch floor) ms is may =
    let table = ap (λ (o : Opened). o.gathers) is in record {
      alone = all_still before after (λ key. key_eq (keys.Ask ask) key ≡ false) (λ key differs alone. alone_still before after free _ key table (apart_ask ask from _ key refl differs) alone) ms may.once.0 may.alone.1;
      once = may.once.1;
    }
next_may before after top own now free next (Update request name epoch number changes) ms is may = record { alone = same_still before after ms (ap (λ (o : Opened). o.gathers) is) may.alone.1; once = may.once.1 }
next_may before after top own now free next (Reply ask pieces) ms is may = record { alone = same_still before after ms (ap (λ (o : Opened). o.gathers) is) may.alone.1; once = may.once }
next_may before after top own now free next (Handover handover) ms is may = record { alone = same_still before after ms (ap (λ (o : Opened). o.gathers) is) may.alone.1; once = may.once }

-- what a message opens may be opened
pub given_may : (gathers : OpenGathers) (top : Label) (own : Piece) (now number : ℕ) (m : Message) (g : Gathering) → Some g ≡ given_gather top own now number m → MayOpenIn gathers m → (g.id ≡ number) × (g.pending ≡ []) × NoGather (serves g.parent) gathers
given_may gathers top own now free (Query request query name epoch floor) g e may =
    let same : g ≡ gathering free query floor (from_document top) None (parents.Client request) = cc in
    (ap (λ (x : Gathering). x.id) same, ap (λ (x : Gathering). x.pending) same, subst (λ (p : Parent). NoGather (serves p) gathers) (sym (ap (λ (x : Gathering). x.parent) same)) may)
given_may gathers top own now free (Ask ask from query start epoch floor) g e may =
    let same : g ≡ gathering free query floor start (piece_given own start.level now) (parents.Ask ask from) = cc in
    (ap (λ (x : Gathering). x.id) same, ap (λ (x : Gathering). x.pending) same, subst (λ (p : Parent). NoGather (serves p) gathers) (sym (ap (λ (x : Gathering). x.parent) same)) may)
given_may gathers top own now free (Reply ask pieces) g e may = absurd (cc)
given_may gathers top own now free (Update request name epoch number changes) g e may = absurd (cc)
given_may gathers top own now free (Handover handover) g e may = absurd (cc)

-- a gather that is open under its number is one gather more
pub opened_tie : (old new : OpenGathers) (number next : ℕ) (g : Gathering) → Exchanged old new g.id (Some (unlent g)) → g.id ≡ number → next ≡ suc number → opened_in new next ≡ with_opened (opened_in old number) (Some g)
opened_tie old new number next g h id more = λ i. record { gathers = λ n. at n (nat_eq n number) refl i; next = more i }
  where
    at : (n : ℕ) (same : Bool) → nat_eq n number ≡ same → gather_at new n ≡ (if same then Some (unlent g) else gather_at old n)
    at n true e = ap (gather_at new) (eqb-true n number e ∙ sym id) ∙ h.there
    at n false e = h.others n (λ is. eqb-false n number e (is ∙ id))

pub beside_more : (old mid new : OpenGathers) (first next last : ℕ) → AreBeside old mid first next → AreBeside mid new next last → AreBeside old new first last
beside_more old mid new first next last h more = record {
  from = omega (arith, h.from, more.from);
  below = λ n lt. more.below n (omega (arith, lt, h.from)) ∙ h.below n lt;
  above = λ n le. more.above n le ∙ h.above n (omega (arith, le, more.from));
}

-- ---- one message more

-- what is left from a message on
left_from : (messages : List Message) (index : ℕ) (m : Message) → index < length messages → m ≡ get_or messages index m → drop index messages ≡ m ∷ drop (index + 1) messages
left_from messages index m within at = drop_more messages index m within ∙ ap (λ (x : Message). x ∷ drop (index + 1) messages) (sym at)

pub opened_more : (before after : OpenGathers) (top : Label) (own : Piece) (now number next index : ℕ) (m : Message) (messages : List Message) (all : Opened) → index < length messages → m ≡ get_or messages index m
    → opened_in after next ≡ with_opened (opened_in before number) (given_gather top own now number m) → given_opened top own now (opened_in before number) (drop index messages) ≡ all
    → given_opened top own now (opened_in after next) (drop (index + 1) messages) ≡ all
opened_more before after top own now number next index m messages all within at step whole =
    ap (λ (o : Opened). given_opened top own now o (drop (index + 1) messages)) step
    ∙ sym (ap (λ (ms : List Message). given_opened top own now (opened_in before number) ms) (left_from messages index m within at)) ∙ whole

pub may_more : (before after : OpenGathers) (top : Label) (own : Piece) (now number next index : ℕ) (m : Message) (messages : List Message) → index < length messages → m ≡ get_or messages index m
    → opened_in after next ≡ with_opened (opened_in before number) (given_gather top own now number m) → MayOpenAll before (drop index messages) → MayOpenAll after (drop (index + 1) messages)
may_more before after top own now number next index m messages within at step may =
    next_may before after top own now number next m (drop (index + 1) messages) step (subst (λ (ms : List Message). MayOpenAll before ms) (left_from messages index m within at) may)
