-- A byte that is not ASCII stands only in a literal.
use Rattle.std.proofs.Common.{◌≡◌, ℕ, false, ◌==◌, List, [], ◌∷◌, ◌++◌, refl, ap, arith, Option, Some, None}
use Rattle.std.proofs.lemmas.Bool.Decides.{nat_tests}
use Rattle.iris_xpath.specs.declared.expression.Separator.{Separator}
use Rattle.iris_xpath.specs.declared.expression.Separator.TheVariants.{Slash}
use Rattle.iris_xpath.specs.declared.expression.NameTest.{NameTest}
use Rattle.iris_xpath.specs.declared.expression.Step.{Step}
use Rattle.iris_xpath.specs.declared.expression.Part.{Part}
use Rattle.iris_xpath.specs.declared.expression.Part.TheVariants as parts
use Rattle.iris_xpath.specs.declared.expression.Operand.{Operand}
use Rattle.iris_xpath.specs.declared.expression.Operand.TheVariants as operands
use Rattle.iris_xpath.specs.declared.expression.Expression.{Expression}
use Rattle.iris_xpath.specs.declared.state.Level.{Level}
use Rattle.iris_xpath.specs.declared.state.Compared.{Compared}
use Rattle.iris_xpath.specs.declared.state.Side.{Side}
use Rattle.iris_xpath.specs.declared.state.Spot.{Spot}
use Rattle.iris_xpath.specs.declared.state.Spot.TheVariants as spots
use Rattle.iris_xpath.specs.declared.state.Frame.{Frame}
use Rattle.iris_xpath.specs.declared.state.Frame.TheVariants as frames
use Rattle.iris_xpath.specs.declared.state.Link.TheVariants as links
use Rattle.iris_xpath.specs.declared.state.State.{State}
use Rattle.iris_xpath.specs.declared.state.State.TheVariants as states
use Rattle.iris_xpath.specs.Bytes.{is_letter, is_digit, is_word_byte, is_blank, is_quote}
use Rattle.iris_xpath.specs.Trees.{step_of, joined_and, joined_or, add_and, add_or, exists_of, compare_of, path_of, attribute_of, number_of}
use Rattle.iris_xpath.specs.Machine.{at, below, begin_step, begin_part, begin_at, begin_operand, unit, close, end_unit, end_alone, end_left, end_side, after_operand, after_path, after_dots, follow_step, after_step, next}
use Rattle.std.proofs.Common.{◌≤◌}
use Rattle.iris_xpath.specs.Machine.{IsBytewise}

record HighIs (b : ℕ) : Type 0 where
  pub letter : is_letter b ≡ false
  pub digit : is_digit b ≡ false
  pub word_ : is_word_byte b ≡ false
  pub blank : is_blank b ≡ false
  pub quote : is_quote b ≡ false
  pub k33 : (b == 33) ≡ false
  pub k40 : (b == 40) ≡ false
  pub k41 : (b == 41) ≡ false
  pub k42 : (b == 42) ≡ false
  pub k45 : (b == 45) ≡ false
  pub k46 : (b == 46) ≡ false
  pub k47 : (b == 47) ≡ false
  pub k60 : (b == 60) ≡ false
  pub k61 : (b == 61) ≡ false
  pub k62 : (b == 62) ≡ false
  pub k64 : (b == 64) ≡ false
  pub k91 : (b == 91) ≡ false
  pub k93 : (b == 93) ≡ false
  pub k97 : (b == 97) ≡ false
  pub k100 : (b == 100) ≡ false
  pub k110 : (b == 110) ≡ false
  pub k111 : (b == 111) ≡ false
  pub k114 : (b == 114) ≡ false

high_is : (b : ℕ) → 128 ≤ b → HighIs b
high_is b h = record { letter = grind (arith, nat_tests); digit = grind (arith, nat_tests); word_ = grind (arith, nat_tests); blank = grind (arith, nat_tests); quote = grind (arith, nat_tests); k33 = grind (arith, nat_tests); k40 = grind (arith, nat_tests); k41 = grind (arith, nat_tests); k42 = grind (arith, nat_tests); k45 = grind (arith, nat_tests); k46 = grind (arith, nat_tests); k47 = grind (arith, nat_tests); k60 = grind (arith, nat_tests); k61 = grind (arith, nat_tests); k62 = grind (arith, nat_tests); k64 = grind (arith, nat_tests); k91 = grind (arith, nat_tests); k93 = grind (arith, nat_tests); k97 = grind (arith, nat_tests); k100 = grind (arith, nat_tests); k110 = grind (arith, nat_tests); k111 = grind (arith, nat_tests); k114 = grind (arith, nat_tests) }

step_high : (sep : Separator) (spot : Spot) (b : ℕ) → HighIs b → begin_step sep spot b ≡ None
step_high sep spot b h = rw (h.letter, h.k42) refl

part_high : (sep : Separator) (ps : List (Part Expression)) (side : Side) (b : ℕ) → HighIs b → begin_part sep ps side b ≡ None
part_high sep ps side b h = rw (h.k64, h.k46) (step_high sep (spots.Part ps side) b h)

at_high : (sep : Separator) (spot : Spot) (b : ℕ) → HighIs b → begin_at sep spot b ≡ None
at_high sep (spots.Main ss) b h = step_high sep (spots.Main ss) b h
at_high sep (spots.Part ps side) b h = part_high sep ps side b h

operand_high : (side : Side) (b : ℕ) → HighIs b → begin_operand side b ≡ None
operand_high side b h = rw (h.quote, h.k45, h.digit) (part_high Slash [] side b h)

close_high : (e : Expression) (fs : List Frame) (b : ℕ) → HighIs b → close e fs b ≡ None
close_high e [] b h = refl
close_high e (frames.Bracket x spot ∷ fs) b h = rw h.k93 refl
close_high e (frames.Paren neg l ∷ fs) b h = rw h.k41 refl

end_unit_high : (e : Expression) (l : Level) (fs : List Frame) (b : ℕ) → HighIs b → end_unit e l fs b ≡ None
end_unit_high e l fs b h = rw (h.k97, h.k111) (close_high (joined_or l.ors (joined_and l.ands e)) fs b h)

alone_high : (o : Operand Expression) (l : Level) (fs : List Frame) (b : ℕ) → HighIs b → end_alone o l fs b ≡ None
alone_high (operands.Path p) l fs b h = end_unit_high (exists_of p) l fs b h
alone_high (operands.Literal v) l fs b h = refl
alone_high (operands.Number v) l fs b h = refl

left_high : (o : Operand Expression) (l : Level) (fs : List Frame) (b : ℕ) → HighIs b → end_left o l fs b ≡ None
left_high o l fs b h = rw (h.k33, h.k61, h.k60, h.k62) (alone_high o l fs b h)

side_high : (o : Operand Expression) (c : Option Compared) (l : Level) (fs : List Frame) (b : ℕ) → HighIs b → end_side o c l fs b ≡ None
side_high o None l fs b h = left_high o l fs b h
side_high o (Some c) l fs b h = end_unit_high (compare_of c.left c.comparison o) l fs b h

after_operand_high : (o : Operand Expression) (side : Side) (fs : List Frame) (b : ℕ) → HighIs b → after_operand o side fs b ≡ None
after_operand_high o side fs b h = rw h.blank (side_high o side.compared side.level fs b h)

path_high : (ps : List (Part Expression)) (side : Side) (fs : List Frame) (b : ℕ) → HighIs b → after_path ps side fs b ≡ None
path_high ps side fs b h = rw h.k47 (side_high (path_of ps) side.compared side.level fs b h)

dots_high : (ps : List (Part Expression)) (side : Side) (fs : List Frame) (b : ℕ) → HighIs b → after_dots ps side fs b ≡ None
dots_high ps side fs b h = rw h.blank (path_high ps side fs b h)

follow_high : (x : Step Expression) (spot : Spot) (fs : List Frame) (b : ℕ) → HighIs b → follow_step x spot fs b ≡ None
follow_high x (spots.Main ss) fs b h = rw h.k47 refl
follow_high x (spots.Part ps side) fs b h = rw h.k40 (path_high (ps ++ parts.Step x ∷ []) side fs b h)

after_step_high : (x : Step Expression) (spot : Spot) (fs : List Frame) (b : ℕ) → HighIs b → after_step x spot fs b ≡ None
after_step_high x spot fs b h = rw (h.blank, h.k91) (follow_high x spot fs b h)

below_none : (fs : List Frame) (p : Option State) → p ≡ None → below fs p ≡ None
below_none fs p e = ap (below fs) e

unit_high : (l : Level) (fs : List Frame) (b : ℕ) → HighIs b → unit l fs b ≡ None
unit_high l fs b h = rw (h.blank, h.k40) (below_none fs _ (operand_high (record { compared = None; level = l }) b h))

place_high : (n : List ℕ → NameTest) (p : State) (fs : List Frame) (b : ℕ) → IsBytewise p → HighIs b → next n (at p fs) b ≡ None
place_high n (states.InLiteral q side) fs b i h = absurd i
place_high n states.Start fs b i h = rw (h.blank, h.k47) refl
place_high n (states.Slash spot) fs b i h = rw (h.k47, h.blank) (below_none fs _ (at_high Slash spot b h))
place_high n (states.Separated sep spot) fs b i h = rw h.blank (below_none fs _ (at_high sep spot b h))
place_high n (states.InWord sep w spot) fs b i h = rw h.word_ (after_step_high (step_of sep (n w)) spot fs b h)
place_high n (states.AfterStep x spot) fs b i h = after_step_high x spot fs b h
place_high n (states.Unit l) fs b i h = unit_high l fs b h
place_high n (states.Dot ps side) fs b i h = rw h.k46 (dots_high (ps ++ parts.Itself ∷ []) side fs b h)
place_high n (states.AfterDots ps side) fs b i h = dots_high ps side fs b h
place_high n (states.AtSign sep ps side) fs b i h = rw (h.blank, h.letter) refl
place_high n (states.InAttribute sep w ps side) fs b i h = rw h.word_ (after_operand_high (attribute_of sep w ps) side fs b h)
place_high n (states.AfterOperand o side) fs b i h = after_operand_high o side fs b h
place_high n (states.Minus side) fs b i h = rw (h.blank, h.digit) refl
place_high n (states.InDigits neg ds side) fs b i h = rw h.digit (after_operand_high (operands.Number (number_of neg ds)) side fs b h)
place_high n (states.Bang o l) fs b i h = rw h.k61 refl
place_high n (states.Sign c l) fs b i h = rw (h.k61, h.blank) (below_none fs _ (operand_high (record { compared = Some (record { left = c.left; comparison = c.comparison }); level = l }) b h))
place_high n (states.Right side) fs b i h = rw h.blank (below_none fs _ (operand_high side b h))
place_high n (states.AfterGroup e l) fs b i h = rw h.blank (end_unit_high e l fs b h)
place_high n (states.Link links.A e l) fs b i h = rw h.k110 refl
place_high n (states.Link links.An e l) fs b i h = rw h.k100 refl
place_high n (states.Link links.O e l) fs b i h = rw h.k114 refl
place_high n (states.Link links.And e l) fs b i h = rw h.word_ (unit_high (record { ors = l.ors; ands = add_and l.ands e }) fs b h)
place_high n (states.Link links.Or e l) fs b i h = rw h.word_ (unit_high (record { ors = add_or l.ors (joined_and l.ands e); ands = [] }) fs b h)

-- outside a literal no query goes on with a byte that is not ASCII
pub high_stops : (n : List ℕ → NameTest) (p : State) (fs : List Frame) (b : ℕ) → IsBytewise p → 128 ≤ b → next n (at p fs) b ≡ None
high_stops n p fs b i h = place_high n p fs b i (high_is b h)
