-- The innermost parentheses of a stack.
use Rattle.std.proofs.Common.{◌≡◌, ℕ, Bool, ◌+◌, ◌-◌, ◌≤◌, suc, List, [], ◌∷◌, ◌++◌, ap, sym, ◌∙◌, length, length-append, reverse, arith}
use Rattle.iris_xpath.specs.declared.state.Frame.{Frame}
use Rattle.iris_xpath.specs.declared.state.Frame.TheVariants as frames
use Rattle.iris_xpath.specs.declared.state.Level.{Level}
use Rattle.iris_xpath.specs.declared.state.Spot.{Spot}
use Rattle.iris_xpath.specs.declared.expression.Step.{Step}
use Rattle.iris_xpath.specs.declared.expression.Expression.{Expression}
use Rattle.iris_xpath.specs.Parens.{parens_in}
use Rattle.std.proofs.lemmas.List.{reverse-append}

reverse_end : (front : List Frame) (x : Frame) → reverse (front ++ x ∷ []) ≡ x ∷ reverse front
reverse_end front x = reverse-append front (x ∷ [])

length_end : (front : List Frame) (x : Frame) → length (front ++ x ∷ []) ≡ length front + 1
length_end front x = length-append front (x ∷ [])

-- all frames are looked at
pub frames_first : (P T : ℕ) (fs items rest : List Frame) → fs ≡ reverse items → rest ≡ items → T ≡ length items → P ≡ parens_in fs → (P + length rest ≡ T + parens_in (reverse rest)) × (length rest ≤ T)
frames_first P T fs items rest e f g h =
    let a : P ≡ parens_in (reverse rest) = h ∙ ap parens_in e ∙ ap (λ (v : List Frame). parens_in (reverse v)) (sym f) in
    let b : T ≡ length rest = g ∙ ap length (sym f) in
    (omega (arith, a, b), omega (arith, b))

-- a parenthesis more
pub frames_paren : (P T : ℕ) (rest front : List Frame) (x : Frame) (neg : Bool) (l : Level) → rest ≡ front ++ x ∷ [] → x ≡ frames.Paren neg l → P + length rest ≡ T + parens_in (reverse rest) → length rest ≤ T → (P + length front ≡ T + parens_in (reverse front)) × (length front ≤ T)
frames_paren P T rest front x neg l e f h k =
    let a : length rest ≡ length front + 1 = ap length e ∙ length_end front x in
    let b : parens_in (reverse rest) ≡ suc (parens_in (reverse front)) = ap (λ (v : List Frame). parens_in (reverse v)) e ∙ ap parens_in (reverse_end front x) ∙ ap (λ (y : Frame). parens_in (y ∷ reverse front)) f in
    (omega (arith, a, b, h), omega (arith, a, k))

-- a bracket ends the count
pub frames_bracket : (P T : ℕ) (rest front : List Frame) (x : Frame) (s : Step Expression) (spot : Spot) → rest ≡ front ++ x ∷ [] → x ≡ frames.Bracket s spot → P + length rest ≡ T + parens_in (reverse rest) → T - length rest ≡ P
frames_bracket P T rest front x s spot e f h =
    let b : parens_in (reverse rest) ≡ 0 = ap (λ (v : List Frame). parens_in (reverse v)) e ∙ ap parens_in (reverse_end front x) ∙ ap (λ (y : Frame). parens_in (y ∷ reverse front)) f in
    omega (arith, b, h)

-- no frame is left
pub frames_end : (P T : ℕ) (rest : List Frame) → length rest ≡ 0 → P + length rest ≡ T + parens_in (reverse rest) → T - length rest ≡ P
frames_end P T [] e h = omega (arith, h)
frames_end P T (x ∷ rest) e h = absurd (omega (arith, e))
