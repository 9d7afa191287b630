-- What bytes that lengthen a word do to the machine.
use Rattle.std.proofs.Common.{◌≡◌, ℕ, ◌≤◌, Bool, true, false, ◌&&◌, List, [], ◌∷◌, ◌++◌, refl, ap, sym, ◌∙◌, arith, append_assoc, append-nil, length, max, Some, Result, Bor}
use Rattle.std.specs.List.{list_all}
use Rattle.std.specs.Result.{IfOk}
use Rattle.std.proofs.lemmas.Result.{IfOk-weaker}
use Rattle.std.proofs.lemmas.List.Folds.{list_all-append}
use Rattle.iris_xpath.specs.declared.expression.NameTest.{NameTest}
use Rattle.iris_xpath.specs.declared.expression.Separator.{Separator}
use Rattle.iris_xpath.specs.declared.expression.Expression.{Expression}
use Rattle.iris_xpath.specs.declared.expression.Part.{Part}
use Rattle.iris_xpath.specs.declared.state.Side.{Side}
use Rattle.iris_xpath.specs.declared.state.Spot.{Spot}
use Rattle.iris_xpath.specs.declared.state.Frame.{Frame}
use Rattle.iris_xpath.specs.declared.state.State.{State}
use Rattle.iris_xpath.specs.declared.state.State.TheVariants as states
use Rattle.iris_xpath.specs.Bytes.{is_word_byte}
use Rattle.iris_xpath.specs.Machine.{at, next, run, start}
use Rattle.iris_xpath.specs.Parens.{parens_in, trace}
use Rattle.iris_xpath.specs.Reading.{Lengthens, ReadsOn, Reached, Traced}
use Rattle.iris_xpath.proofs.Laws.{run_more}
use Rattle.iris_xpath.proofs.Judging.{trace_more, rest_within}

left_holds : (x y : Bool) → (x && y) ≡ true → x ≡ true
left_holds true y h = refl
left_holds false y h = h

right_holds : (x y : Bool) → (x && y) ≡ true → y ≡ true
right_holds true y h = h
right_holds false y h = absurd (cc)

-- each byte that belongs to the word lengthens it
abbrev Grows : (List ℕ → NameTest) → (List ℕ → State) → List Frame → Type 0
Grows n S fs = (w : List ℕ) (b : ℕ) → is_word_byte b ≡ true → next n (at (S w) fs) b ≡ Some (at (S (w ++ b ∷ [])) fs)

grown : (n : List ℕ → NameTest) (S : List ℕ → State) (fs : List Frame) → Grows n S fs → (v w : List ℕ) → list_all is_word_byte v ≡ true → run n (at (S w) fs) v ≡ Some (at (S (w ++ v)) fs)
grown n S fs g [] w h = ap (λ (x : List ℕ). Some (at (S x) fs)) (sym (append-nil w))
grown n S fs g (b ∷ v) w h = rw (g w b (left_holds (is_word_byte b) (list_all is_word_byte v) h)) (grown n S fs g v (w ++ b ∷ []) (right_holds (is_word_byte b) (list_all is_word_byte v) h) ∙ ap (λ (x : List ℕ). Some (at (S x) fs)) (append_assoc w (b ∷ []) v))

-- no more parentheses are open than there were
pub max_within : (d p : ℕ) → p ≤ d → max d p ≡ d
max_within d p l = omega arith

-- a word that grows, and no more parentheses
pub grown_trace : (n : List ℕ → NameTest) (S : List ℕ → State) (fs : List Frame) → Grows n S fs → (v w : List ℕ) (d : ℕ) → parens_in fs ≤ d → list_all is_word_byte v ≡ true → trace n (at (S w) fs) d v ≡ Some (at (S (w ++ v)) fs, d)
grown_trace n S fs g [] w d l h = ap (λ (x : List ℕ). Some (at (S x) fs, d)) (sym (append-nil w))
grown_trace n S fs g (b ∷ v) w d l h = rw (g w b (left_holds (is_word_byte b) (list_all is_word_byte v) h), max_within d (parens_in fs) l) (grown_trace n S fs g v (w ++ b ∷ []) d l (right_holds (is_word_byte b) (list_all is_word_byte v) h) ∙ ap (λ (x : List ℕ). Some (at (S x) fs, d)) (append_assoc w (b ∷ []) v))

reads : (S : List ℕ → State) → ((n : List ℕ → NameTest) (fs : List Frame) → Grows n S fs) → (w text new rest : List ℕ) → Lengthens w text new rest → ReadsOn (S w) text (S new) rest
reads S g w text new rest l = (
  l.0,
  l.1,
  (λ n fs. grown n S fs (g n fs) l.0 w l.2 ∙ ap (λ (x : List ℕ). Some (at (S x) fs)) (sym l.3)),
  λ n fs d k. grown_trace n S fs (g n fs) l.0 w d k l.2 ∙ ap (λ (x : List ℕ). Some (at (S x) fs, d)) (sym l.3),
)

-- the name of a step is read on
reads_word : (sep : Separator) (spot : Spot) (w text new rest : List ℕ) → Lengthens w text new rest → ReadsOn (states.InWord sep w spot) text (states.InWord sep new spot) rest
reads_word sep spot w text new rest l = reads (λ x. states.InWord sep x spot) (λ n fs w b h. rw h refl) w text new rest l

-- the name of an attribute is read on
reads_attribute : (sep : Separator) (ps : List (Part Expression)) (side : Side) (w text new rest : List ℕ) → Lengthens w text new rest → ReadsOn (states.InAttribute sep w ps side) text (states.InAttribute sep new ps side) rest
reads_attribute sep ps side w text new rest l = reads (λ x. states.InAttribute sep x ps side) (λ n fs w b h. rw h refl) w text new rest l

-- as the reader tells it of the name of a step
pub told_word : {E : Type 0} (sep : Separator) (spot : Spot) (w text new : List ℕ) (r : Result (Bor (List ℕ)) E) → IfOk r (λ rest. Lengthens w text new rest.now) → IfOk r (λ rest. ReadsOn (states.InWord sep w spot) text (states.InWord sep new spot) rest.now)
told_word sep spot w text new r h = IfOk-weaker r (λ rest. Lengthens w text new rest.now) (λ rest. ReadsOn (states.InWord sep w spot) text (states.InWord sep new spot) rest.now) (λ rest l. reads_word sep spot w text new rest.now l) h

-- and of an attribute's
pub told_attribute : {E : Type 0} (sep : Separator) (ps : List (Part Expression)) (side : Side) (w text new : List ℕ) (r : Result (Bor (List ℕ)) E) → IfOk r (λ rest. Lengthens w text new rest.now) → IfOk r (λ rest. ReadsOn (states.InAttribute sep w ps side) text (states.InAttribute sep new ps side) rest.now)
told_attribute sep ps side w text new r h = IfOk-weaker r (λ rest. Lengthens w text new rest.now) (λ rest. ReadsOn (states.InAttribute sep w ps side) text (states.InAttribute sep new ps side) rest.now) (λ rest l. reads_attribute sep ps side w text new rest.now l) h

-- nothing is read
pub reads_nothing : (p : State) (text : List ℕ) → ReadsOn p text p text
reads_nothing p text = ([], refl, (λ n fs. refl), λ n fs d k. refl)

-- the state after what was read on
pub reached_on : (n : List ℕ → NameTest) (text : List ℕ) (p q : State) (fs : List Frame) (mid rest : List ℕ) → Reached n text p fs mid → ReadsOn p mid q rest → Reached n text q fs rest
reached_on n text p q fs mid rest r k = (r.0 ++ k.0, r.1 ∙ ap (λ (x : List ℕ). r.0 ++ x) k.1 ∙ sym (append_assoc r.0 k.0 rest), run_more n k.0 r.0 start (at p fs) r.2 ∙ k.2 n fs)

-- with no more parentheses
pub traced_on : (n : List ℕ → NameTest) (text : List ℕ) (p q : State) (fs : List Frame) (mid rest : List ℕ) (d : ℕ) → Traced n text p fs mid d → parens_in fs ≤ d → ReadsOn p mid q rest → Traced n text q fs rest d
traced_on n text p q fs mid rest d r l k = (r.0 ++ k.0, r.1 ∙ ap (λ (x : List ℕ). r.0 ++ x) k.1 ∙ sym (append_assoc r.0 k.0 rest), trace_more n k.0 r.0 start (at p fs) 0 d r.2 ∙ k.3 n fs d l)

-- the parentheses that are open are among those that were
pub within_max : (d p : ℕ) → p ≤ max d p
within_max d p = omega arith

-- no more is left
pub no_longer : (p q : State) (mid rest : List ℕ) → ReadsOn p mid q rest → length rest ≤ length mid
no_longer p q mid rest k = rest_within mid k.0 rest k.1

-- a byte more at the end of what lengthens a word
pub lengthens_more : (word text new rest after longer : List ℕ) (b : ℕ) → Lengthens word text new rest → rest ≡ b ∷ after → true ≡ is_word_byte b → longer ≡ new ++ b ∷ [] → Lengthens word text longer after
lengthens_more word text new rest after longer b l e h p = (
  l.0 ++ b ∷ [],
  l.1 ∙ ap (λ (x : List ℕ). l.0 ++ x) e ∙ sym (append_assoc l.0 (b ∷ []) after),
  list_all-append is_word_byte l.0 (b ∷ []) ∙ rw (l.2, sym h) refl,
  p ∙ ap (λ (x : List ℕ). x ++ b ∷ []) l.3 ∙ append_assoc word l.0 (b ∷ []),
)

-- nothing lengthens a word yet
pub lengthens_none : (word new text : List ℕ) → new ≡ word → Lengthens word text new text
lengthens_none word new text e = ([], refl, refl, e ∙ sym (append-nil word))
