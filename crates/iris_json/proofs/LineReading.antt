-- From an object to the bytes that are its text, and from its members to the line that it is.
use mathlib.Core.HLevel.{is_prop→PathP}
use Rattle.std.proofs.Common.{◌≡◌, ℕ, ◌<◌, ◌≤◌, List, codes, Option, Some, None, option_map, IfSome, Result, Ok, Err, IfOk, IfErr, ap, sym, ◌∙◌, subst, refl}
use Rattle.std.proofs.Props.{props}
use Rattle.iris_base.specs.declared.limits.TheConstants.{MAX_NUMBER, MAX_ARRIVAL, MAX_STAY, MAX_OFFERS}
use Rattle.iris_base.specs.Forms.{IsId}
use Rattle.serde_json.specs.Data.{unsigned, Data, number, array, object, Items, Members}
use Rattle.serde_json.specs.Find.{as_object, as_array}
use Rattle.iris_base.specs.declared.name.Label.{Label}
use Rattle.iris_base.specs.NameText.{name_text}
use Rattle.iris_base.proofs.NameReading.{name_text_once}
use Rattle.iris_tree.specs.declared.change.Change.{Change}
use Rattle.iris_json.specs.declared.find.Find.{Find}
use Rattle.iris_json.specs.declared.line.Line.{Line}
use Rattle.iris_json.specs.declared.line.Line.TheVariants.{Query, Find as Search, Update, Give, Evict, Audit, Now, Deliver, Settle, Forget, Owner, Summary}
use Rattle.iris_json.specs.declared.line.LineError.{LineError}
use Rattle.iris_json.specs.declared.line.LineError.TheVariants.{NotJson, BadLine, Memory}
use Rattle.iris_json.specs.declared.line.LineWhy.{LineWhy}
use Rattle.iris_json.specs.declared.line.LineWhy.TheVariants as whys
use Rattle.iris_json.specs.ChangeLine.{AreLineChanges}
use Rattle.iris_json.specs.LineTable.{Key, AllFit}
use Rattle.iris_json.specs.Lines.{IsJson, Does, NameAt, BoundAt, ChangesAt, SaysLine, IsLine, LineLacks, ReadsLine, ReadsChanges, Gives, GivesLine, RefusesValue, RefusesLine, RefusesChanges, RefusesLinePart}
use Rattle.iris_json.proofs.ChangeReading.{line_changes_once}
use Rattle.iris_json.proofs.KindReading.{array_there}
use Rattle.iris_json.proofs.MemberKeys.{object_of, differ}
use Rattle.iris_json.proofs.PartReading.{rows_agree}

-- ---- the bytes

-- a text has one value
pub json_unique : (bytes : List ℕ) (d e : Data) → IsJson bytes d → IsJson bytes e → d ≡ e
json_unique bytes d e h k = cc (h.1, k.1)

-- ---- one line at most

said : Line → List ℕ
said (Query query bound) = codes "query"
said (Search find) = codes "find"
said (Update name n changes) = codes "update"
said (Give name to) = codes "give"
said (Evict agent name) = codes "evict"
said (Audit query) = codes "audit"
said (Now at) = codes "now"
said (Deliver post) = codes "deliver"
said Settle = codes "settle"
said Forget = codes "forget"
said (Owner name) = codes "owner"
said Summary = codes "summary"

does_said : (d : Data) (line : Line) → SaysLine d line → Does (said line) d
unfolding said
does_said d (Query query bound) h = h.0
does_said d (Search find) h = h.0
does_said d (Update name n changes) h = h.0
does_said d (Give name to) h = h.0
does_said d (Evict agent name) h = h.0
does_said d (Audit query) h = h.0
does_said d (Now at) h = h.0
does_said d (Deliver post) h = h.0
does_said d Settle h = h
does_said d Forget h = h
does_said d (Owner name) h = h.0
does_said d Summary h = h

same_word : (d : Data) (v w : List ℕ) → Does v d → Does w d → v ≡ w
same_word d v w h k = cc (h, k)

same_bounds : (a b : Option ℕ) → option_map (λ n. number (unsigned n)) a ≡ option_map (λ n. number (unsigned n)) b → a ≡ b
same_bounds None None h = cc
same_bounds None (Some b) h = absurd (cc)
same_bounds (Some a) None h = absurd (cc)
same_bounds (Some a) (Some b) h = cc

bound_once : (d : Data) (a b : Option ℕ) → BoundAt d a → BoundAt d b → a ≡ b
bound_once d a b h k = same_bounds a b (sym h ∙ k)

name_once : (d : Data) (a b : List Label) → NameAt d a → NameAt d b → a ≡ b
name_once d a b h k = let texts : name_text a ≡ name_text b = cc (h.1, k.1) in name_text_once a b h.0 k.0 texts

changes_once : (d : Data) (a b : List Change) → ChangesAt d a → ChangesAt d b → a ≡ b
changes_once d a b h k = let lists : h.items ≡ k.items = cc (h.list, k.list) in line_changes_once h.items k.items a b lists h.are k.are

find_once : (d : Data) (a b : Find) → SaysLine d (Search a) → SaysLine d (Search b) → a ≡ b
find_once d a b h k =
    let hood : a.hood ≡ b.hood = cc (h.1, k.1) in
    let arrive : a.arrive ≡ b.arrive = cc (h.2, k.2) in
    let stay : a.stay ≡ b.stay = cc (h.3, k.3) in
    let top : a.top ≡ b.top = cc (h.4, k.4) in
    let bound = bound_once d a.bound b.bound h.5 k.5 in
    λ i. record {
      hood = hood i;
      arrive = arrive i;
      stay = stay i;
      top = top i;
      bound = bound i;
      hood_fits = is_prop→PathP (λ j. IsId (hood j)) (λ j. hlevel props) a.hood_fits b.hood_fits i;
      arrive_fits = is_prop→PathP (λ j. arrive j ≤ MAX_ARRIVAL) (λ j. hlevel props) a.arrive_fits b.arrive_fits i;
      stay_begins = is_prop→PathP (λ j. 0 < stay j) (λ j. hlevel props) a.stay_begins b.stay_begins i;
      stay_fits = is_prop→PathP (λ j. stay j ≤ MAX_STAY) (λ j. hlevel props) a.stay_fits b.stay_fits i;
      some_wanted = is_prop→PathP (λ j. 0 < top j) (λ j. hlevel props) a.some_wanted b.some_wanted i;
      few_wanted = is_prop→PathP (λ j. top j ≤ MAX_OFFERS) (λ j. hlevel props) a.few_wanted b.few_wanted i;
      bound_fits = is_prop→PathP (λ j. IfSome (bound j) (λ b. b ≤ MAX_NUMBER)) (λ j. hlevel props) a.bound_fits b.bound_fits i;
    }

says_once : (d : Data) (a b : Line) → SaysLine d a → SaysLine d b → a ≡ b
unfolding said
says_once d (Query query bound) (Query other age) h k =
    let e : query ≡ other = cc (h.1, k.1) in
    ap (λ (x : List ℕ). Query x bound) e ∙ ap (λ (x : Option ℕ). Query other x) (bound_once d bound age h.2 k.2)
says_once d (Search find) (Search other) h k = ap Search (find_once d find other h k)
says_once d (Update name n changes) (Update called m others) h k =
    let numbers : n ≡ m = cc (h.2, k.2) in
    ap (λ (x : List Label). Update x n changes) (name_once d name called h.1 k.1) ∙ ap (λ (x : ℕ). Update called x changes) numbers
    ∙ ap (λ (x : List Change). Update called m x) (changes_once d changes others h.3 k.3)
says_once d (Give name to) (Give called other) h k =
    let e : to ≡ other = cc (h.2, k.2) in
    ap (λ (x : List Label). Give x to) (name_once d name called h.1 k.1) ∙ ap (λ (x : List ℕ). Give called x) e
says_once d (Evict agent name) (Evict other called) h k =
    let e : agent ≡ other = cc (h.1, k.1) in
    ap (λ (x : List ℕ). Evict x name) e ∙ ap (λ (x : List Label). Evict other x) (name_once d name called h.2 k.2)
says_once d (Audit query) (Audit other) h k = let e : query ≡ other = cc (h.1, k.1) in ap (λ (x : List ℕ). Audit x) e
says_once d (Now at) (Now other) h k = let e : at ≡ other = cc (h.1, k.1) in ap (λ (x : ℕ). Now x) e
says_once d (Deliver post) (Deliver other) h k = let e : post ≡ other = cc (h.1, k.1) in ap (λ (x : ℕ). Deliver x) e
says_once d Settle Settle h k = refl
says_once d Forget Forget h k = refl
says_once d (Owner name) (Owner called) h k = ap (λ (x : List Label). Owner x) (name_once d name called h.1 k.1)
says_once d Summary Summary h k = refl
says_once d a b h k = absurd (differ (said a) (said b) (same_word d (said a) (said b) (does_said d a h) (does_said d b k)) refl)

-- a text is one line at most
pub line_once : (bytes : List ℕ) (one other : Line) → ReadsLine bytes one → ReadsLine bytes other → one ≡ other
line_once bytes one other (d, j, is) (e, k, reads) = says_once d one other is.says (subst (λ (v : Data). SaysLine v other) (json_unique bytes e d k j) reads.says)

-- ---- from the members to the bytes

pub line_found : (bytes : List ℕ) (d : Data) (ms : Members) (r : Result Line LineError) → IsJson bytes d → Some ms ≡ as_object d → IfOk r (λ line. IsLine (object ms) line) → IfOk r (λ line. ReadsLine bytes line)
line_found bytes d ms (Ok line) j o h = (object ms, subst (IsJson bytes) (object_of d ms o) j, h)
line_found bytes d ms (Err e) j o h = tt

pub line_refused : (bytes : List ℕ) (d : Data) (ms : Members) (r : Result Line LineError) → IsJson bytes d → Some ms ≡ as_object d → IfErr r (RefusesValue (object ms)) → IfErr r (RefusesLine bytes)
line_refused bytes d ms (Ok line) j o h = tt
line_refused bytes d ms (Err NotJson) j o h = absurd h
line_refused bytes d ms (Err (BadLine why)) j o h = (object ms, subst (IsJson bytes) (object_of d ms o) j, h)
line_refused bytes d ms (Err Memory) j o h = tt

-- a line has all four
lacks_none : (why : LineWhy) (d : Data) (line : Line) → LineLacks why d → IsLine d line → ⊥
lacks_none whys.Shape d line h is = h is.keys is.shape
lacks_none whys.Name d line h is = h.2 (subst (λ (ks : List Key). AllFit whys.Name ks d) (rows_agree d is.keys h.0 is.shape h.1) is.names)
lacks_none whys.Number d line h is = h.3 (subst (λ (ks : List Key). AllFit whys.Number ks d) (rows_agree d is.keys h.0 is.shape h.1) is.numbers)
lacks_none whys.Change d line h is = h.4 (subst (λ (ks : List Key). AllFit whys.Change ks d) (rows_agree d is.keys h.0 is.shape h.1) is.changes)

-- what is found or refused leaves no other line
pub line_only : (bytes : List ℕ) (r : Result Line LineError) → IfOk r (λ line. ReadsLine bytes line) → IfErr r (RefusesLine bytes) → (line : Line) → ReadsLine bytes line → GivesLine r line
line_only bytes (Ok found) is refuses line reads = line_once bytes found line is reads
line_only bytes (Err NotJson) is refuses line reads = refuses reads.0 reads.1
line_only bytes (Err (BadLine why)) is refuses line reads = lacks_none why refuses.0 line refuses.2 (subst (λ (v : Data). IsLine v line) (json_unique bytes reads.0 refuses.0 reads.1 refuses.1) reads.2)
line_only bytes (Err Memory) is refuses line reads = tt

-- ---- lists of changes

array_is : (d : Data) (items : Items) → Some items ≡ as_array d → d ≡ array items
array_is d items o = let there = array_there (Some d) items o in cc there

pub changes_found : (bytes : List ℕ) (d : Data) (items : Items) (r : Result (List Change) LineError) → IsJson bytes d → Some items ≡ as_array d → IfOk r (AreLineChanges items) → IfOk r (ReadsChanges bytes)
changes_found bytes d items (Ok changes) j o h = (items, subst (IsJson bytes) (array_is d items o) j, h)
changes_found bytes d items (Err e) j o h = tt

pub changes_refused : (bytes : List ℕ) (d : Data) (items : Items) (r : Result (List Change) LineError) → IsJson bytes d → Some items ≡ as_array d
    → IfErr r (RefusesLinePart whys.Change ((changes : List Change) → AreLineChanges items changes → ⊥)) → IfErr r (RefusesChanges bytes)
changes_refused bytes d items (Ok changes) j o h = tt
changes_refused bytes d items (Err NotJson) j o h = absurd h
changes_refused bytes d items (Err (BadLine why)) j o h = (
  h.0,
  (
    d,
    j,
    λ changes reads. (
        let lists : array reads.0 ≡ array items = json_unique bytes (array reads.0) d reads.1 j ∙ array_is d items o in
        let same : reads.0 ≡ items = cc lists in
        h.1 changes (subst (λ (i : Items). AreLineChanges i changes) same reads.2)
        ),
  ),
)
changes_refused bytes d items (Err Memory) j o h = tt

-- a value that is no list
pub no_list : (bytes : List ℕ) (d : Data) → IsJson bytes d → None ≡ as_array d → (changes : List Change) → ReadsChanges bytes changes → ⊥
no_list bytes d j none changes reads = let same : d ≡ array reads.0 = json_unique bytes d (array reads.0) j reads.1 in let there : None ≡ as_array (array reads.0) = none ∙ ap as_array same in absurd (cc)

pub changes_only : (bytes : List ℕ) (r : Result (List Change) LineError) → IfOk r (ReadsChanges bytes) → IfErr r (RefusesChanges bytes) → (changes : List Change) → ReadsChanges bytes changes → Gives r changes
changes_only bytes (Ok found) is refuses changes reads =
    let same : array is.0 ≡ array reads.0 = json_unique bytes (array is.0) (array reads.0) is.1 reads.1 in
    let lists : is.0 ≡ reads.0 = cc same in
    line_changes_once is.0 reads.0 found changes lists is.2 reads.2
changes_only bytes (Err NotJson) is refuses changes reads = refuses (array reads.0) reads.1
changes_only bytes (Err (BadLine why)) is refuses changes reads = refuses.1.2 changes reads
changes_only bytes (Err Memory) is refuses changes reads = tt
