-- What a stretch of the text does to the machine.
use Rattle.std.specs.Prelude.{◌≡◌, ◌≢◌, ℕ, true, ◌<◌, ◌≤◌, List, [], ◌∷◌, ◌++◌, length, Option, Some, None, slice_index}
use Rattle.std.specs.List.{list_all}
use denote.Ref.{Bor}
use Rattle.iris_xpath.specs.declared.expression.NameTest.{NameTest}
use Rattle.iris_xpath.specs.declared.expression.Separator.TheVariants.{Slash}
use Rattle.iris_xpath.specs.declared.expression.Comparison.TheVariants.{Equal}
use Rattle.iris_xpath.specs.declared.expression.Operand.TheVariants as operands
use Rattle.iris_xpath.specs.declared.expression.Expression.{Expression}
use Rattle.iris_xpath.specs.declared.state.Frame.{Frame}
use Rattle.iris_xpath.specs.declared.state.State.{State}
use Rattle.iris_xpath.specs.Bytes.{is_letter, is_quote, is_word_byte}
use Rattle.iris_xpath.specs.Parens.{parens_in, trace}
use Rattle.iris_xpath.specs.Trees.{attribute_of, compare_of}
use Rattle.iris_xpath.specs.Machine.{Configuration, at, next, run, start}

-- no byte is the quote
abbrev pub IsFree : ℕ → List ℕ → Type 0
IsFree q bs = (i : ℕ) → i < length bs → slice_index bs i ≢ q

-- a byte is taken: the state after it, what follows it, and what is open then
abbrev pub Goes : (List ℕ → NameTest) → Configuration → List ℕ → Option (State × Bor (List ℕ)) → List Frame → Type 0
Goes n s text None fs = (b : ℕ) (z : List ℕ) → text ≡ b ∷ z → next n s b ≡ None
Goes n s text (Some r) fs = (b : ℕ) × (text ≡ b ∷ r.1.now) × (next n s b ≡ Some (at r.0 fs))

-- the bytes before the rest lead to that state, with so much open
abbrev pub Reached : (List ℕ → NameTest) → List ℕ → State → List Frame → List ℕ → Type 0
Reached n text state fs rest = (front : List ℕ) × (text ≡ front ++ rest) × (run n start front ≡ Some (at state fs))

-- and so deep were parentheses nested on the way
abbrev pub Traced : (List ℕ → NameTest) → List ℕ → State → List Frame → List ℕ → ℕ → Type 0
Traced n text state fs rest d = (front : List ℕ) × (text ≡ front ++ rest) × (trace n start 0 front ≡ Some (at state fs, d))

-- a word has grown by bytes at the front of a text, and so much is left of it
abbrev pub Lengthens : List ℕ → List ℕ → List ℕ → List ℕ → Type 0
Lengthens word text new rest = (v : List ℕ) × (text ≡ v ++ rest) × (list_all is_word_byte v ≡ true) × (new ≡ word ++ v)

-- the bytes before the rest lead from one state to the other, whatever is open
abbrev pub ReadsOn : State → List ℕ → State → List ℕ → Type 0
ReadsOn p text q rest = (v : List ℕ) × (text ≡ v ++ rest) × ((n : List ℕ → NameTest) (fs : List Frame) → run n (at p fs) v ≡ Some (at q fs)) × ((n : List ℕ → NameTest) (fs : List Frame) (d : ℕ) → parens_in fs ≤ d → trace n (at p fs) d v ≡ Some (at q fs, d))

-- a predicate `[@name='value']` stands at the front of a text, and so much is left of it
abbrev pub IsEquality : List ℕ → Expression → List ℕ → Type 0
IsEquality text e rest =
    (a : ℕ) × (w : List ℕ) × (q : ℕ) × (v : List ℕ) × (text ≡ 91 ∷ 64 ∷ a ∷ (w ++ 61 ∷ q ∷ (v ++ q ∷ 93 ∷ rest))) × (is_letter a ≡ true) × (list_all is_word_byte w ≡ true) × (is_quote q ≡ true) × IsFree q v
    × (e ≡ compare_of (attribute_of Slash (a ∷ w) []) Equal (operands.Literal v))
