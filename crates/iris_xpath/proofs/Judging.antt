-- Where the reader stops.
use Rattle.std.proofs.Common.{◌≡◌, ◌≢◌, ℕ, true, false, ◌==◌, List, [], ◌∷◌, ◌++◌, refl, ap, sym, ◌∙◌, subst, arith, append_assoc, append-nil, Option, Some, None, option_and_then, length}
use Rattle.std.proofs.lemmas.Bool.Decides.{nat_tests}
use Rattle.iris_xpath.specs.declared.expression.NameTest.{NameTest}
use Rattle.iris_xpath.specs.declared.expression.Operand.TheVariants as operands
use Rattle.iris_xpath.specs.Syntax.{Syntax}
use Rattle.iris_xpath.specs.declared.state.Side.{Side}
use Rattle.iris_xpath.specs.declared.state.Frame.{Frame}
use Rattle.iris_xpath.specs.declared.state.State.{State}
use Rattle.iris_xpath.specs.declared.state.State.TheVariants as states
use Rattle.iris_xpath.specs.Bytes.{is_quote}
use Rattle.iris_xpath.specs.Machine.{Configuration, at, inside, next, accept, run, start}
use Rattle.iris_xpath.specs.Grammar.{none, more, slash, slashes, sep_blank, dot, dots, dots_blank, equal, not_equal, less, less_or_equal, greater, greater_or_equal, cmp_blank, literal, number, negative, const_blank, word, star, predicate, tested_blank, attribute, attr_blank, Main}
use Rattle.iris_xpath.specs.Spells.{Spells, Reads, IsPrefix}
use Rattle.iris_xpath.proofs.Written.{Written, w_start, w_main_sep, w_tested, w_unit, w_dots, w_part_sep, w_at, w_attr, w_const, w_literal, w_minus, w_bang, w_right, w_group, w_link, shape, Good}
use Rattle.std.proofs.Common.{take, drop, take_all, take-append-drop, length-append, get_or, ◌<◌, ◌≤◌, ◌+◌, ◌-◌, suc}
use Rattle.std.proofs.lemmas.Bool.{cases_lt}
use Rattle.std.proofs.Common.{inl, inr}
use Rattle.std.proofs.Math.Seq.{take-append_seam, take-append-add}
use Rattle.std.specs.Str.{IsCharBoundary, IsUtf8}
use Rattle.std.proofs.lemmas.Str.{IsCharBoundary-after_ascii}
use native.Mathlib.Numerals.{unary_clauses}
use Rattle.std.proofs.Common.{max}
use Rattle.iris_xpath.specs.Parens.{parens_of, parens_in, parens_at, trace}
use Rattle.iris_xpath.proofs.Traces.{spells_trace}
use Rattle.iris_xpath.specs.Reading.{IsFree, Reached, Traced}
use Rattle.iris_xpath.specs.Machine.{Turned, IsBytewise}
use Rattle.iris_xpath.specs.Refused.{Judged, Refused, IsAt, what_in, what_there, last_byte}
use Rattle.iris_xpath.specs.Outside.{what_at, last_of}
use Rattle.iris_xpath.specs.declared.outside.Last.{Last}
use Rattle.iris_xpath.specs.declared.error.OutsidePart.{OutsidePart}
use Rattle.iris_xpath.specs.declared.error.QueryError.{QueryError}
use Rattle.iris_xpath.specs.declared.error.QueryError.TheVariants as errors
use Rattle.iris_xpath.proofs.Leads.{Tells}
use Rattle.iris_xpath.proofs.High.{high_stops}
use Rattle.iris_xpath.proofs.Laws.{run_more, run_read, run_prefix, written_at}
use Rattle.iris_xpath.proofs.Runs.{Knows, reads_run, run_stops, main_state}

only_some : (r : Option Configuration) → option_and_then (λ t. Some t) r ≡ r
only_some None = refl
only_some (Some t) = refl

-- one more byte
pub run_byte : (n : List ℕ → NameTest) (front : List ℕ) (s : Configuration) (b : ℕ) → run n start front ≡ Some s → run n start (front ++ b ∷ []) ≡ next n s b
run_byte n front s b h = run_more n (b ∷ []) front start s h ∙ only_some (next n s b)

-- where the rest begins
pub seam : (text front rest : List ℕ) → text ≡ front ++ rest → (length text - length rest ≡ length front) × (take (length front) text ≡ front)
seam text front rest e = (let l = length-append front rest in rw e (omega (arith, l)), rw e (take-append_seam front rest))

-- the front and one byte
pub take_one : (front z : List ℕ) (b : ℕ) → take (length front + 1) (front ++ b ∷ z) ≡ front ++ b ∷ []
take_one front z b = take-append-add front (b ∷ z) 1

-- a byte at which the machine stops
pub judged_stop : (n : List ℕ → NameTest) → Tells n → Knows n → (text front z : List ℕ) (s : Configuration) (b : ℕ) → text ≡ front ++ b ∷ z → run n start front ≡ Some s → next n s b ≡ None → Judged n text (length front)
judged_stop n t k text front z s b e h stop =
    let l = length-append front (b ∷ z) in
    let i : length text ≡ length front + (length z + 1) = ap length e ∙ l ∙ omega arith in (
      omega (arith, i),
      subst (IsPrefix n) (sym (seam text front (b ∷ z) e).1) (run_prefix n t front s h),
      (λ _ p. run_stops n k (front ++ b ∷ []) (run_byte n front s b h ∙ stop) (subst (IsPrefix n) (ap (take (length front + 1)) e ∙ take_one front z b) p)),
      λ q. absurd (omega (arith, i, q)),
    )

-- an end at which nothing is accepted
pub judged_end : (n : List ℕ → NameTest) → Tells n → Knows n → (text : List ℕ) (s : Configuration) → run n start text ≡ Some s → accept n s ≡ None → Judged n text (length text)
judged_end n t k text s h a = (
  omega arith,
  subst (IsPrefix n) (sym (take_all (length text) text (omega arith))) (run_prefix n t text s h),
  (λ l. absurd (omega arith)),
  λ _ q r. let x = reads_run n k text q r in
      let e : Some s ≡ Some x.0 = sym h ∙ x.1 in
      let f : s ≡ x.0 = cc in
      let g : None ≡ Some q = sym a ∙ ap (accept n) f ∙ x.2 in absurd (cc),
)

-- ---- inside a literal

free_head : (q b : ℕ) (v : List ℕ) → IsFree q (b ∷ v) → (b == q) ≡ false
free_head q b v h = let f : b ≢ q = h 0 (omega arith) in grind (arith, nat_tests)

free_tail : (q b : ℕ) (v : List ℕ) → IsFree q (b ∷ v) → IsFree q v
free_tail q b v h i l = h (suc i) (omega arith)

inside_run : (n : List ℕ → NameTest) (q : ℕ) (v w : List ℕ) (side : Side) (fs : List Frame) → IsFree q v → run n (inside q w side fs) v ≡ Some (inside q (w ++ v) side fs)
inside_run n q [] w side fs h = ap (λ (x : List ℕ). Some (inside q x side fs)) (sym (append-nil w))
inside_run n q (b ∷ v) w side fs h = rw (free_head q b v h) (inside_run n q v (w ++ b ∷ []) side fs (free_tail q b v h) ∙ ap (λ (x : List ℕ). Some (inside q x side fs)) (append_assoc w (b ∷ []) v))

same_byte : (q : ℕ) → (q == q) ≡ true
same_byte q = grind (arith, nat_tests)

-- the whole literal, and its quote
pub literal_whole : (n : List ℕ → NameTest) (q : ℕ) (v : List ℕ) (side : Side) (fs : List Frame) → IsFree q v → run n (at (states.InLiteral q side) fs) (v ++ q ∷ []) ≡ Some (at (states.AfterOperand (operands.Literal v) side) fs)
literal_whole n q [] side fs h = rw (same_byte q) refl
literal_whole n q (b ∷ v) side fs h = rw (free_head q b v h) (run_more n (q ∷ []) v (inside q (b ∷ []) side fs) (inside q (b ∷ v) side fs) (inside_run n q v (b ∷ []) side fs (free_tail q b v h)) ∙ rw (same_byte q) refl)

literal_open : (n : List ℕ → NameTest) (q : ℕ) (v : List ℕ) (side : Side) (fs : List Frame) → IsFree q v → (s : Configuration) × (run n (at (states.InLiteral q side) fs) v ≡ Some s) × (accept n s ≡ None)
literal_open n q [] side fs h = (_, refl, refl)
literal_open n q (b ∷ v) side fs h = (inside q (b ∷ v) side fs, rw (free_head q b v h) (inside_run n q v (b ∷ []) side fs (free_tail q b v h)), refl)

-- an end inside a literal
pub judged_open : (n : List ℕ → NameTest) → Tells n → Knows n → (text front rest : List ℕ) (q : ℕ) (side : Side) (fs : List Frame) → text ≡ front ++ rest → run n start front ≡ Some (at (states.InLiteral q side) fs) → IsFree q rest → Judged n text (length text)
judged_open n t k text front rest q side fs e h f =
    let s = literal_open n q rest side fs f in
    judged_end n t k text s.0 (ap (run n start) e ∙ run_more n rest front start (at (states.InLiteral q side) fs) h ∙ s.1) s.2

-- a quote is `'` or `"`
pub other_quote : (q : ℕ) → is_quote q ≡ true → q ≢ 39 → q ≡ 34
other_quote q h k = grind (arith, nat_tests)

-- a text may be cut after its first byte, where that is ASCII
pub ascii_boundary : (bs : List ℕ) → IsUtf8 bs → 0 < length bs → get_or bs 0 0 < 128 → IsCharBoundary bs 1
ascii_boundary bs u l h = simp unary_clauses at (IsCharBoundary-after_ascii bs 0 u l h)

-- in a literal, what is open is a quote
abbrev IsQuoted : Configuration → Type 0
IsQuoted (at (states.InLiteral q side) fs) = is_quote q ≡ true
IsQuoted (at states.Start fs) = Unit {0}
IsQuoted (at (states.Slash spot) fs) = Unit {0}
IsQuoted (at (states.Separated sep spot) fs) = Unit {0}
IsQuoted (at (states.InWord sep w spot) fs) = Unit {0}
IsQuoted (at (states.AfterStep x spot) fs) = Unit {0}
IsQuoted (at (states.Unit l) fs) = Unit {0}
IsQuoted (at (states.Dot ps side) fs) = Unit {0}
IsQuoted (at (states.AfterDots ps side) fs) = Unit {0}
IsQuoted (at (states.AtSign sep ps side) fs) = Unit {0}
IsQuoted (at (states.InAttribute sep w ps side) fs) = Unit {0}
IsQuoted (at (states.AfterOperand o side) fs) = Unit {0}
IsQuoted (at (states.Minus side) fs) = Unit {0}
IsQuoted (at (states.InDigits neg ds side) fs) = Unit {0}
IsQuoted (at (states.Bang o l) fs) = Unit {0}
IsQuoted (at (states.Sign c l) fs) = Unit {0}
IsQuoted (at (states.Right side) fs) = Unit {0}
IsQuoted (at (states.AfterGroup e l) fs) = Unit {0}
IsQuoted (at (states.Link k e l) fs) = Unit {0}
IsQuoted (inside q v side fs) = Unit {0}

quoted : (n : List ℕ → NameTest) (w : Written) → Good w → IsQuoted (shape n w)
quoted n (w_literal q none i) h = h.0
quoted n (w_start g) h = tt
quoted n (w_main_sep m slash) h = tt
quoted n (w_main_sep m slashes) h = tt
quoted n (w_main_sep m (sep_blank s b)) h = tt
quoted n (w_tested (word a w) s) h = tt
quoted n (w_tested star s) h = tt
quoted n (w_tested (predicate t g o) s) h = tt
quoted n (w_tested (tested_blank t b) s) h = tt
quoted n (w_unit B) h = tt
quoted n (w_dots dot f i) h = tt
quoted n (w_dots dots f i) h = tt
quoted n (w_dots (dots_blank d b) f i) h = tt
quoted n (w_part_sep f p slash i) h = tt
quoted n (w_part_sep f p slashes i) h = tt
quoted n (w_part_sep f p (sep_blank s b) i) h = tt
quoted n (w_at g f i) h = tt
quoted n (w_attr (attribute f g a w) i) h = tt
quoted n (w_attr (attr_blank a b) i) h = tt
quoted n (w_const (literal q v) i) h = tt
quoted n (w_const (number a w) i) h = tt
quoted n (w_const (negative g a w) i) h = tt
quoted n (w_const (const_blank c b) i) h = tt
quoted n (w_literal q (more v b) i) h = tt
quoted n (w_minus g i) h = tt
quoted n (w_bang a B) h = tt
quoted n (w_right a equal B) h = tt
quoted n (w_right a not_equal B) h = tt
quoted n (w_right a less B) h = tt
quoted n (w_right a less_or_equal B) h = tt
quoted n (w_right a greater B) h = tt
quoted n (w_right a greater_or_equal B) h = tt
quoted n (w_right a (cmp_blank c b) B) h = tt
quoted n (w_group g B) h = tt
quoted n (w_link l t B) h = tt

-- what a literal stands in is a quote
pub quote_kept : (n : List ℕ → NameTest) → Tells n → (text rest : List ℕ) (q : ℕ) (side : Side) (fs : List Frame) → Reached n text (states.InLiteral q side) fs rest → is_quote q ≡ true
quote_kept n t text rest q side fs r = let w = written_at n t r.0 (at (states.InLiteral q side) fs) r.2 in subst IsQuoted w.1 (quoted n w.0 w.3)

-- ---- the steps of the reader

-- one byte further
pub reached_byte : (n : List ℕ → NameTest) (text : List ℕ) (p q : State) (fs gs : List Frame) (rest after : List ℕ) (b : ℕ) → Reached n text p fs rest → rest ≡ b ∷ after → next n (at p fs) b ≡ Some (at q gs) → Reached n text q gs after
reached_byte n text p q fs gs rest after b r e h =
    (r.0 ++ b ∷ [], r.1 ∙ ap (λ (v : List ℕ). r.0 ++ v) e ∙ sym (append_assoc r.0 (b ∷ []) after), run_byte n r.0 (at p fs) b r.2 ∙ h)

-- a whole literal further
pub reached_literal : (n : List ℕ → NameTest) (text : List ℕ) (q : ℕ) (side : Side) (fs : List Frame) (rest v after : List ℕ) → Reached n text (states.InLiteral q side) fs rest → rest ≡ v ++ q ∷ after → IsFree q v → Reached n text (states.AfterOperand (operands.Literal v) side) fs after
reached_literal n text q side fs rest v after r e h =
    let a : text ≡ (r.0 ++ (v ++ q ∷ [])) ++ after = r.1 ∙ ap (λ (x : List ℕ). r.0 ++ x) e ∙ simp append_assoc in
    (r.0 ++ (v ++ q ∷ []), a, run_more n (v ++ q ∷ []) r.0 start (at (states.InLiteral q side) fs) r.2 ∙ literal_whole n q v side fs h)

-- a state at which the reader stops
pub stop_at : (n : List ℕ → NameTest) → Tells n → Knows n → (text : List ℕ) (p : State) (fs : List Frame) (rest : List ℕ) → Reached n text p fs rest → rest ≢ [] → ((b : ℕ) (z : List ℕ) → rest ≡ b ∷ z → next n (at p fs) b ≡ None) → Judged n text (length text - length rest)
stop_at n t k text p fs [] r s h = absurd (s refl)
stop_at n t k text p fs (b ∷ z) r s h = subst (Judged n text) (sym (seam text r.0 (b ∷ z) r.1).0) (judged_stop n t k text r.0 z (at p fs) b r.1 r.2 (h b z refl))

-- at the end of a text nothing stands
what_nothing : (r : Option Configuration) (prior : Option ℕ) → what_in r prior [] ≡ None
what_nothing None prior = refl
what_nothing (Some (at p fs)) prior = refl
what_nothing (Some (inside q v side fs)) prior = refl

drop_all : (text : List ℕ) → drop (length text) text ≡ []
drop_all [] = refl
drop_all (b ∷ text) = drop_all text

what_at_end : (n : List ℕ → NameTest) (text : List ℕ) → what_there n text (length text) ≡ None
what_at_end n text = ap (what_in (run n start (take (length text) text)) (last_byte (take (length text) text))) (drop_all text) ∙ what_nothing (run n start (take (length text) text)) (last_byte (take (length text) text))

drop_front : (front rest : List ℕ) → drop (length front) (front ++ rest) ≡ rest
drop_front [] rest = refl
drop_front (b ∷ front) rest = drop_front front rest

what_reached : (n : List ℕ → NameTest) (text : List ℕ) (p : State) (fs : List Frame) (rest : List ℕ) → Reached n text p fs rest → what_there n text (length text - length rest) ≡ what_at (last_of p) (last_byte (take (length text - length rest) text)) rest
what_reached n text p fs rest r =
    let e = seam text r.0 rest r.1 in
    let i : length text - length rest ≡ length r.0 = e.0 in
    let t : take (length text - length rest) text ≡ r.0 = ap (λ (k : ℕ). take k text) i ∙ e.1 in
    let d : drop (length text - length rest) text ≡ rest = ap (λ (k : ℕ). drop k text) i ∙ ap (drop (length r.0)) r.1 ∙ drop_front r.0 rest in
    ap (λ (x : Option Configuration). what_in x (last_byte (take (length text - length rest) text)) (drop (length text - length rest) text)) (ap (run n start) t ∙ r.2) ∙ ap (what_at (last_of p) (last_byte (take (length text - length rest) text))) d

-- nothing stands at the end of the text
pub refused_end : (n : List ℕ → NameTest) (text : List ℕ) → Judged n text (length text) → Judged n text (length text) × (what_there n text (length text) ≡ None)
refused_end n text j = (j, what_at_end n text)

-- what a refusal tells is so
pub refused_at : (n : List ℕ → NameTest) (text : List ℕ) (e : QueryError) (i : ℕ) (w : Option OutsidePart) → IsAt e i w → what_there n text i ≡ w → Judged n text i → Refused n text e
refused_at n text (errors.Syntax p) i w a h j = subst (λ (k : ℕ). Judged n text k × (what_there n text k ≡ None)) (sym a.0) (j, h ∙ a.1)
refused_at n text (errors.Outside p what) i w a h j = subst (λ (k : ℕ). Judged n text k × (what_there n text k ≡ Some what)) (sym a.0) (j, h ∙ a.1)
refused_at n text (errors.TooLarge which) i w a h j = absurd a
refused_at n text errors.Memory i w a h j = tt

-- the rest is no longer than the text
pub rest_within : (text front rest : List ℕ) → text ≡ front ++ rest → length rest ≤ length text
rest_within text front rest e = let l = length-append front rest in rw e (omega (arith, l))

-- the whole text was run
pub reached_end : (n : List ℕ → NameTest) (text : List ℕ) (p : State) (fs : List Frame) (rest : List ℕ) → Reached n text p fs rest → rest ≡ [] → run n start text ≡ Some (at p fs)
reached_end n text p fs rest r e = ap (run n start) (r.1 ∙ ap (λ (x : List ℕ). r.0 ++ x) e ∙ append-nil r.0) ∙ r.2

-- what is accepted at the end is read
pub read_end : (n : List ℕ → NameTest) → Tells n → (text : List ℕ) (p : State) (fs : List Frame) (rest : List ℕ) (q : Syntax) → Reached n text p fs rest → rest ≡ [] → Some q ≡ accept n (at p fs) → Reads n text q
read_end n t text p fs rest q r e a = run_read n t text (at p fs) q (reached_end n text p fs rest r e) (sym a)

-- nothing is accepted at the end
pub stop_end : (n : List ℕ → NameTest) → Tells n → Knows n → (text : List ℕ) (p : State) (fs : List Frame) (rest : List ℕ) → Reached n text p fs rest → rest ≡ [] → None ≡ accept n (at p fs) → Judged n text (length text)
stop_end n t k text p fs rest r e a = judged_end n t k text (at p fs) (reached_end n text p fs rest r e) (sym a)

-- ---- a refused text is no spelling

-- a text that is judged bad spells no query
pub judged_refuses : (n : List ℕ → NameTest) (text : List ℕ) (p : ℕ) (q : Syntax) → Judged n text p → Reads n text q → ⊥
judged_refuses n text p q j r =
    let below : p < length text → ⊥ = λ l. j.2 l (drop (p + 1) text, q, subst (λ (v : List ℕ). Reads n v q) (sym (take-append-drop (p + 1) text)) r) in
    let there : p ≡ length text → ⊥ = λ e. j.3 e q r in
    elim (cases_lt p (length text)) [ inl l ↦ below l | inr g ↦ there (omega (arith, g, j.0)) ]

-- a text spells one query at most
pub one_query : (n : List ℕ → NameTest) → Knows n → (text : List ℕ) (q r : Syntax) → Reads n text q → Reads n text r → q ≡ r
one_query n k text q r h i =
    let x = reads_run n k text q h in let y = reads_run n k text r i in
    let e : Some x.0 ≡ Some y.0 = sym x.1 ∙ y.1 in
    let f : x.0 ≡ y.0 = cc in
    let g : Some q ≡ Some r = sym x.2 ∙ ap (accept n) f ∙ y.2 in cc

-- ---- what the code's next state says of the machine

-- the byte led on
pub turned_some : (r : Option Configuration) (p : State) (fs : List Frame) → Turned r (Some p) fs → r ≡ Some (at p fs)
turned_some None p fs h = absurd (cc)
turned_some (Some (at q gs)) p fs h = (let a : p ≡ q = (let k = h.0 in cc) in rw (a, h.1) refl)
turned_some (Some (inside q v side gs)) p fs h = absurd h

-- the byte led nowhere
pub turned_none : (r : Option Configuration) (fs : List Frame) → Turned r None fs → r ≡ None
turned_none None fs h = refl
turned_none (Some (at q gs)) fs h = absurd (let k = h.0 in cc)
turned_none (Some (inside q v side gs)) fs h = absurd h

same_front : (b c : ℕ) (x z : List ℕ) → b ∷ x ≡ c ∷ z → b ≡ c
same_front b c x z h = cc

-- the byte at the front leads nowhere
pub goes_stop : (n : List ℕ → NameTest) (s : Configuration) (text x : List ℕ) (b : ℕ) (fs : List Frame) → text ≡ b ∷ x → Turned (next n s b) None fs → (c : ℕ) (z : List ℕ) → text ≡ c ∷ z → next n s c ≡ None
goes_stop n s text x b fs e h c z k = subst (λ (d : ℕ). next n s d ≡ None) (same_front b c x z (sym e ∙ k)) (turned_none (next n s b) fs h)

-- nor does one that is not ASCII
pub goes_high : (n : List ℕ → NameTest) (p : State) (fs : List Frame) (text : List ℕ) → IsBytewise p → ((b : ℕ) (z : List ℕ) → b < 128 → text ≡ b ∷ z → ⊥) → (b : ℕ) (z : List ℕ) → text ≡ b ∷ z → next n (at p fs) b ≡ None
goes_high n p fs text i h b z e = elim (cases_lt b 128) [ inl l ↦ absurd (h b z l e) | inr g ↦ high_stops n p fs b i g ]

-- ---- a turn of the loop

-- a whole literal further, as the reader tells it
pub literal_step : (n : List ℕ → NameTest) (text : List ℕ) (q : ℕ) (side : Side) (fs : List Frame) (rest after : List ℕ) (p : State) → Reached n text (states.InLiteral q side) fs rest
    → ((v : List ℕ) × (rest ≡ v ++ q ∷ after) × IsFree q v × (p ≡ states.AfterOperand (operands.Literal v) side)) → Reached n text p fs after
literal_step n text q side fs rest after p r h = subst (λ (x : State). Reached n text x fs after) (sym h.3) (reached_literal n text q side fs rest h.0 after r h.1 h.2)

-- one byte further, as the reader tells it
pub byte_step : (n : List ℕ → NameTest) (text : List ℕ) (p q r : State) (fs gs : List Frame) (rest after : List ℕ) → Reached n text p fs rest → q ≡ p → ((b : ℕ) × (rest ≡ b ∷ after) × (next n (at q fs) b ≡ Some (at r gs))) → Reached n text r gs after
byte_step n text p q r fs gs rest after h e k = reached_byte n text q r fs gs rest after k.0 (subst (λ (x : State). Reached n text x fs rest) (sym e) h) k.1 k.2

-- a byte less is left
pub shorter_byte : (rest after : List ℕ) (b : ℕ) → rest ≡ b ∷ after → length after < length rest
shorter_byte rest after b e = rw e (omega arith)

-- a byte at which the reader stops, and why
pub byte_stop : (n : List ℕ → NameTest) → Tells n → Knows n → (text : List ℕ) (p : State) (fs : List Frame) (rest : List ℕ) (error : QueryError) (last : Last) → Reached n text p fs rest → rest ≢ [] → ((b : ℕ) (z : List ℕ) → rest ≡ b ∷ z → next n (at p fs) b ≡ None) → last ≡ last_of p
    → IsAt error (length text - length rest) (what_at last (last_byte (take (length text - length rest) text)) rest) → Refused n text error
byte_stop n t k text p fs rest error last r s h l a =
    refused_at n text error (length text - length rest) _ a (what_reached n text p fs rest r ∙ ap (λ (x : Last). what_at x (last_byte (take (length text - length rest) text)) rest) (sym l)) (stop_at n t k text p fs rest r s h)

-- a text of no byte
pub empty_is : (v : List ℕ) → true ≡ (length v == 0) → v ≡ []
empty_is [] h = refl
empty_is (b ∷ v) h = absurd (let k : (length (b ∷ v) == 0) ≡ false = grind (arith, nat_tests) in let e : true ≡ false = h ∙ k in cc)

-- ---- how deep parentheses are nested on the way

trace_on : (n : List ℕ → NameTest) (v bs : List ℕ) (r : Option Configuration) (d : ℕ) (y : Option (Configuration × ℕ)) (w : Option (Configuration × ℕ)) → ((t : Configuration) → trace n t (max d (parens_at t)) bs ≡ y → trace n t (max d (parens_at t)) (bs ++ v) ≡ w) → (y ≡ None → ⊥) → option_and_then (λ t. trace n t (max d (parens_at t)) bs) r ≡ y → option_and_then (λ t. trace n t (max d (parens_at t)) (bs ++ v)) r ≡ w
trace_on n v bs None d y w f no_ h = absurd (no_ (sym h))
trace_on n v bs (Some t) d y w f no_ h = f t h

abbrev state_in : Configuration → Option (Configuration × ℕ) → Configuration
state_in s None = s
state_in s (Some p) = p.0

abbrev number_in : ℕ → Option (Configuration × ℕ) → ℕ
number_in d None = d
number_in d (Some p) = p.1

-- what a trace tells, part by part
pub pair_state : (s t : Configuration) (d e : ℕ) → ◌≡◌ {A = Option (Configuration × ℕ)} (Some (s, d)) (Some (t, e)) → (s ≡ t) × (d ≡ e)
pair_state s t d e h = (ap (state_in s) h, ap (number_in d) h)

some_pair : (t : Configuration) (e : ℕ) → ◌≡◌ {A = Option (Configuration × ℕ)} (Some (t, e)) None → ⊥
some_pair t e h = absurd (cc)

-- a trace goes on from where it ended
pub trace_more : (n : List ℕ → NameTest) (v bs : List ℕ) (s t : Configuration) (d e : ℕ) → trace n s d bs ≡ Some (t, e) → trace n s d (bs ++ v) ≡ trace n t e v
trace_more n v [] s t d e h = let p = pair_state s t d e h in rw (p.0, p.1) refl
trace_more n v (b ∷ bs) s t d e h = trace_on n v bs (next n s b) d (Some (t, e)) (trace n t e v) (λ x k. trace_more n v bs x t (max d (parens_at x)) e k) (some_pair t e) h

trace_one : (n : List ℕ → NameTest) (s t : Configuration) (b d : ℕ) → next n s b ≡ Some t → trace n s d (b ∷ []) ≡ Some (t, max d (parens_at t))
trace_one n s t b d h = rw h refl

-- one byte further, with its parentheses
pub traced_byte : (n : List ℕ → NameTest) (text : List ℕ) (p q : State) (fs gs : List Frame) (rest after : List ℕ) (d : ℕ) → Traced n text p fs rest d → ((b : ℕ) × (rest ≡ b ∷ after) × (next n (at p fs) b ≡ Some (at q gs))) → Traced n text q gs after (max d (parens_in gs))
traced_byte n text p q fs gs rest after d r k =
    (r.0 ++ k.0 ∷ [], r.1 ∙ ap (λ (v : List ℕ). r.0 ++ v) k.1 ∙ sym (append_assoc r.0 (k.0 ∷ []) after), trace_more n (k.0 ∷ []) r.0 start (at p fs) 0 d r.2 ∙ trace_one n (at p fs) (at q gs) k.0 d k.2)

max_same : (d p : ℕ) → max (max d p) p ≡ max d p
max_same d p = omega arith

inside_trace : (n : List ℕ → NameTest) (q : ℕ) (v w : List ℕ) (side : Side) (fs : List Frame) (d : ℕ) → IsFree q v → trace n (inside q w side fs) (max d (parens_in fs)) (v ++ q ∷ []) ≡ Some (at (states.AfterOperand (operands.Literal (w ++ v)) side) fs, max d (parens_in fs))
inside_trace n q [] w side fs d h = rw (same_byte q, max_same d (parens_in fs), append-nil w) refl
inside_trace n q (b ∷ v) w side fs d h = rw (free_head q b v h, max_same d (parens_in fs)) (inside_trace n q v (w ++ b ∷ []) side fs d (free_tail q b v h) ∙ ap (λ (x : List ℕ). Some (at (states.AfterOperand (operands.Literal x) side) fs, max d (parens_in fs))) (append_assoc w (b ∷ []) v))

-- a whole literal, and how deep parentheses are nested there
pub literal_traced : (n : List ℕ → NameTest) (q : ℕ) (v : List ℕ) (side : Side) (fs : List Frame) (d : ℕ) → IsFree q v → trace n (at (states.InLiteral q side) fs) d (v ++ q ∷ []) ≡ Some (at (states.AfterOperand (operands.Literal v) side) fs, max d (parens_in fs))
literal_traced n q [] side fs d h = rw (same_byte q) refl
literal_traced n q (b ∷ v) side fs d h = rw (free_head q b v h) (inside_trace n q v (b ∷ []) side fs d (free_tail q b v h))

-- a whole literal further, with no more parentheses
pub traced_literal : (n : List ℕ → NameTest) (text : List ℕ) (q : ℕ) (side : Side) (fs : List Frame) (rest after : List ℕ) (p : State) (d : ℕ) → Traced n text (states.InLiteral q side) fs rest d
    → ((v : List ℕ) × (rest ≡ v ++ q ∷ after) × IsFree q v × (p ≡ states.AfterOperand (operands.Literal v) side)) → Traced n text p fs after (max d (parens_in fs))
traced_literal n text q side fs rest after p d r h =
    let a : text ≡ (r.0 ++ (h.0 ++ q ∷ [])) ++ after = r.1 ∙ ap (λ (x : List ℕ). r.0 ++ x) h.1 ∙ simp append_assoc in
    (r.0 ++ (h.0 ++ q ∷ []), a, trace_more n (h.0 ++ q ∷ []) r.0 start (at (states.InLiteral q side) fs) 0 d r.2 ∙ literal_traced n q h.0 side fs d h.2 ∙ ap (λ (x : State). Some (at x fs, max d (parens_in fs))) (sym h.3))

-- the steps at the end, and their parentheses
pub found_end : (n : List ℕ → NameTest) → Tells n → Knows n → (text : List ℕ) (p : State) (fs : List Frame) (rest : List ℕ) (q : Syntax) (d : ℕ) → Reached n text p fs rest → Traced n text p fs rest d → rest ≡ [] → Some q ≡ accept n (at p fs) → (m : Main) × Spells n text q m × (d ≡ parens_of m)
found_end n t k text p fs rest q d r s e a =
    let m = read_end n t text p fs rest q r e a in
    let x : trace n start 0 text ≡ Some (at p fs, d) = ap (trace n start 0) (s.1 ∙ ap (λ (v : List ℕ). s.0 ++ v) e ∙ append-nil s.0) ∙ s.2 in
    (m.0, m.1, (pair_state (at p fs) (main_state n m.0) d (parens_of m.0) (sym x ∙ spells_trace n k text q m.0 m.1)).1)

-- all spellings of a text have as many parentheses
pub same_parens : (n : List ℕ → NameTest) → Knows n → (text : List ℕ) (q r : Syntax) (m w : Main) → Spells n text q m → Spells n text r w → parens_of m ≡ parens_of w
same_parens n k text q r m w a b = (pair_state (main_state n m) (main_state n w) (parens_of m) (parens_of w) (sym (spells_trace n k text q m a) ∙ spells_trace n k text r w b)).1
