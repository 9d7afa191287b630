-- What a predicate `[@name='value']` does to the machine.
use Rattle.std.proofs.Common.{◌≡◌, ℕ, ◌<◌, true, List, [], ◌∷◌, ◌++◌, refl, ap, sym, ◌∙◌, subst, arith, append_assoc, length, max, Option, Some, None, option_and_then, inl, inr}
use Rattle.std.specs.List.{list_all}
use Rattle.iris_xpath.specs.declared.expression.NameTest.{NameTest}
use Rattle.iris_xpath.specs.declared.expression.Separator.{Separator}
use Rattle.iris_xpath.specs.declared.expression.Separator.TheVariants.{Slash}
use Rattle.iris_xpath.specs.declared.expression.Comparison.TheVariants.{Equal}
use Rattle.iris_xpath.specs.declared.expression.Operand.TheVariants as operands
use Rattle.iris_xpath.specs.declared.expression.Expression.{Expression}
use Rattle.iris_xpath.specs.declared.expression.Step.{Step}
use Rattle.iris_xpath.specs.declared.state.Side.{Side}
use Rattle.iris_xpath.specs.declared.state.Spot.{Spot}
use Rattle.iris_xpath.specs.declared.state.Frame.{Frame}
use Rattle.iris_xpath.specs.declared.state.Frame.TheVariants as frames
use Rattle.iris_xpath.specs.declared.state.State.{State}
use Rattle.iris_xpath.specs.declared.state.State.TheVariants as states
use Rattle.iris_xpath.specs.Bytes.{is_letter, is_word_byte, is_quote}
use Rattle.iris_xpath.specs.Trees.{attribute_of, compare_of, step_of, with_predicate}
use Rattle.iris_xpath.specs.Machine.{Configuration, at, no_units, right_of, next, run, start}
use Rattle.iris_xpath.specs.Parens.{parens_in, parens_at, trace}
use Rattle.iris_xpath.specs.Reading.{IsEquality, IsFree, Reached, Traced}
use Rattle.iris_xpath.proofs.Begins.{letter_is, quote_is}
use Rattle.iris_xpath.proofs.Laws.{run_more}
use Rattle.iris_xpath.proofs.Judging.{trace_more, literal_traced, pair_state, rest_within}
use Rattle.iris_xpath.proofs.WordRuns.{grown_trace}

-- ---- one byte after another

one : (n : List ℕ → NameTest) (s t : Configuration) (b d e : ℕ) (u : List ℕ) → next n s b ≡ Some t → max d (parens_at t) ≡ e → trace n s d (b ∷ u) ≡ trace n t e u
one n s t b d e u h m = rw (h, m) refl

max_none : (d : ℕ) → max d 0 ≡ d
max_none d = omega arith

on_run : (n : List ℕ → NameTest) (bs : List ℕ) (r : Option Configuration) (d e : ℕ) (t : Configuration) → ((x : Configuration) → trace n x (max d (parens_at x)) bs ≡ Some (t, e) → run n x bs ≡ Some t)
    → option_and_then (λ x. trace n x (max d (parens_at x)) bs) r ≡ Some (t, e) → option_and_then (λ x. run n x bs) r ≡ Some t
on_run n bs None d e t f h = absurd (cc)
on_run n bs (Some x) d e t f h = f x h

-- a trace is a run
run_traced : (n : List ℕ → NameTest) (bs : List ℕ) (s t : Configuration) (d e : ℕ) → trace n s d bs ≡ Some (t, e) → run n s bs ≡ Some t
run_traced n [] s t d e h = ap (λ (x : Configuration). Some x) (pair_state s t d e h).0
run_traced n (b ∷ bs) s t d e h = on_run n bs (next n s b) d e t (λ x k. run_traced n bs x t (max d (parens_at x)) e k) h

-- ---- the predicate

abbrev unit_side : Side
unit_side = record { compared = None; level = no_units }

abbrev right_side : ℕ → List ℕ → Side
right_side a w = record { compared = Some (record { left = attribute_of Slash (a ∷ w) []; comparison = Equal }); level = no_units }

-- the bytes of the predicate
abbrev equality_text : ℕ → List ℕ → ℕ → List ℕ → List ℕ
equality_text a w q v = 91 ∷ 64 ∷ a ∷ (w ++ 61 ∷ q ∷ (v ++ q ∷ 93 ∷ []))

abbrev equality_of : ℕ → List ℕ → List ℕ → Expression
equality_of a w v = compare_of (attribute_of Slash (a ∷ w) []) Equal (operands.Literal v)

at_letter : (n : List ℕ → NameTest) (a : ℕ) (gs : List Frame) → is_letter a ≡ true → next n (at (states.AtSign Slash [] unit_side) gs) a ≡ Some (at (states.InAttribute Slash (a ∷ []) [] unit_side) gs)
at_letter n a gs h = let l = letter_is a h in rw (l.blank, h) refl

at_quote : (n : List ℕ → NameTest) (q a : ℕ) (w : List ℕ) (gs : List Frame) → is_quote q ≡ true → next n (at (states.Right (right_side a w)) gs) q ≡ Some (at (states.InLiteral q (right_side a w)) gs)
at_quote n q a w gs h = elim (quote_is q h) [ inl e ↦ rw e refl | inr e ↦ rw e refl ]

equality_trace : (n : List ℕ → NameTest) (p : State) (step : Step Expression) (spot : Spot) (fs : List Frame) (a q : ℕ) (w v : List ℕ) (d : ℕ) → next n (at p fs) 91 ≡ Some (at (states.Unit no_units) (frames.Bracket step spot ∷ fs)) → is_letter a ≡ true → list_all is_word_byte w ≡ true → is_quote q ≡ true → IsFree q v
    → trace n (at p fs) d (equality_text a w q v) ≡ Some (at (states.AfterStep (with_predicate step (equality_of a w v)) spot) fs, max d (parens_in fs))
equality_trace n p step spot fs a q w v d opens ha hw hq hv =
    let gs = frames.Bracket step spot ∷ fs in
    let named : Configuration = at (states.InAttribute Slash (a ∷ w) [] unit_side) gs in
    let quoted : Configuration = at (states.InLiteral q (right_side a w)) gs in
    let valued : Configuration = at (states.AfterOperand (operands.Literal v) (right_side a w)) gs in
    let done : Configuration = at (states.AfterStep (with_predicate step (equality_of a w v)) spot) fs in
    let value = v ++ q ∷ 93 ∷ [] in
    let name = w ++ 61 ∷ q ∷ value in
    one n (at p fs) (at (states.Unit no_units) gs) 91 d d (64 ∷ a ∷ name) opens (max_none d)
    ∙ one n (at (states.Unit no_units) gs) (at (states.AtSign Slash [] unit_side) gs) 64 d d (a ∷ name) refl (max_none d)
    ∙ one n (at (states.AtSign Slash [] unit_side) gs) (at (states.InAttribute Slash (a ∷ []) [] unit_side) gs) a d d name (at_letter n a gs ha) (max_none d)
    ∙ trace_more n (61 ∷ q ∷ value) w (at (states.InAttribute Slash (a ∷ []) [] unit_side) gs) named d d (grown_trace n (λ x. states.InAttribute Slash x [] unit_side) gs (λ x b h. rw h refl) w (a ∷ []) d (omega arith) hw)
    ∙ one n named (at (right_of (attribute_of Slash (a ∷ w) []) Equal no_units) gs) 61 d d (q ∷ value) refl (max_none d)
    ∙ one n (at (states.Right (right_side a w)) gs) quoted q d d value (at_quote n q a w gs hq) (max_none d)
    ∙ ap (trace n quoted d) (sym (append_assoc v (q ∷ []) (93 ∷ [])))
    ∙ trace_more n (93 ∷ []) (v ++ q ∷ []) quoted valued d (max d 0) (literal_traced n q v (right_side a w) gs d hv)
    ∙ one n valued done 93 (max d 0) (max d (parens_in fs)) [] refl (ap (λ (x : ℕ). max x (parens_in fs)) (max_none d))

-- ---- a turn of the loop

text_parts : (a q : ℕ) (w v after : List ℕ) → 91 ∷ 64 ∷ a ∷ (w ++ 61 ∷ q ∷ (v ++ q ∷ 93 ∷ after)) ≡ equality_text a w q v ++ after
text_parts a q w v after = simp append_assoc

-- the state after the predicate
pub reached_equality : (n : List ℕ → NameTest) (text : List ℕ) (p : State) (step : Step Expression) (spot : Spot) (fs : List Frame) (rest after : List ℕ) (e : Expression) → next n (at p fs) 91 ≡ Some (at (states.Unit no_units) (frames.Bracket step spot ∷ fs)) → Reached n text p fs rest → IsEquality rest e after
    → Reached n text (states.AfterStep (with_predicate step e) spot) fs after
reached_equality n text p step spot fs rest after e opens r k =
    let bytes = equality_text k.0 k.1 k.2 k.3 in
    let parts : rest ≡ bytes ++ after = k.4 ∙ text_parts k.0 k.2 k.1 k.3 after in
    let led = run_traced n bytes (at p fs) (at (states.AfterStep (with_predicate step (equality_of k.0 k.1 k.3)) spot) fs) 0 (max 0 (parens_in fs)) (equality_trace n p step spot fs k.0 k.2 k.1 k.3 0 opens k.5 k.6 k.7 k.8) in
    subst (λ (x : Expression). Reached n text (states.AfterStep (with_predicate step x) spot) fs after) (sym k.9)
    (r.0 ++ bytes, r.1 ∙ ap (λ (x : List ℕ). r.0 ++ x) parts ∙ sym (append_assoc r.0 bytes after), run_more n bytes r.0 start (at p fs) r.2 ∙ led)

-- with no more parentheses
pub traced_equality : (n : List ℕ → NameTest) (text : List ℕ) (p : State) (step : Step Expression) (spot : Spot) (fs : List Frame) (rest after : List ℕ) (e : Expression) (d : ℕ) → next n (at p fs) 91 ≡ Some (at (states.Unit no_units) (frames.Bracket step spot ∷ fs)) → Traced n text p fs rest d → IsEquality rest e after
    → Traced n text (states.AfterStep (with_predicate step e) spot) fs after (max d (parens_in fs))
traced_equality n text p step spot fs rest after e d opens r k =
    let bytes = equality_text k.0 k.1 k.2 k.3 in
    let parts : rest ≡ bytes ++ after = k.4 ∙ text_parts k.0 k.2 k.1 k.3 after in
    subst (λ (x : Expression). Traced n text (states.AfterStep (with_predicate step x) spot) fs after (max d (parens_in fs))) (sym k.9)
    (r.0 ++ bytes, r.1 ∙ ap (λ (x : List ℕ). r.0 ++ x) parts ∙ sym (append_assoc r.0 bytes after), trace_more n bytes r.0 start (at p fs) 0 d r.2 ∙ equality_trace n p step spot fs k.0 k.2 k.1 k.3 d opens k.5 k.6 k.7 k.8)

-- less is left
pub shorter_equality : (rest after : List ℕ) (e : Expression) → IsEquality rest e after → length after < length rest
shorter_equality rest after e k =
    let below = 64 ∷ k.0 ∷ (k.1 ++ 61 ∷ k.2 ∷ (k.3 ++ k.2 ∷ 93 ∷ [])) in
    let parts : rest ≡ 91 ∷ (below ++ after) = k.4 ∙ text_parts k.0 k.2 k.1 k.3 after in
    let l = rest_within (below ++ after) below after refl in
    rw parts (omega (arith, l))

-- `[` after the name of a step opens its predicate
pub name_opens : (n : List ℕ → NameTest) (sep : Separator) (w : List ℕ) (spot : Spot) (fs : List Frame) → next n (at (states.InWord sep w spot) fs) 91 ≡ Some (at (states.Unit no_units) (frames.Bracket (step_of sep (n w)) spot ∷ fs))
name_opens n sep w spot fs = refl
