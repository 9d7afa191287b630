-- What expressions say, form by form.
use Rattle.std.proofs.Common.{◌≡◌, ℕ, ℤ, List, [], ◌∷◌, map, refl, ap, sym, ◌∙◌, Option}
use Rattle.iris_xpath.specs.declared.expression.Part.{Part}
use Rattle.iris_xpath.specs.declared.expression.Part.TheVariants as parts
use Rattle.iris_xpath.specs.declared.expression.Path.{Path}
use Rattle.iris_xpath.specs.declared.expression.Attribute.{Attribute}
use Rattle.iris_xpath.specs.declared.expression.Step.{Step}
use Rattle.iris_xpath.specs.declared.expression.Operand.{Operand}
use Rattle.iris_xpath.specs.declared.expression.Operand.TheVariants as operands
use Rattle.iris_xpath.specs.declared.expression.Comparison.{Comparison}
use Rattle.iris_xpath.specs.declared.expression.Expression.{Expression}
use Rattle.iris_xpath.specs.declared.expression.Expression.TheVariants as forms
use Rattle.iris_xpath.specs.declared.expression.Expression.TheOpen.{Expression-F}
use Rattle.iris_xpath.specs.declared.expression.Expression.TheFolds.{fold-Expression, fold-roll-Expression}
use Rattle.iris_xpath.specs.declared.expression.Expression.TheViews.{roll-Expression}
use Rattle.iris_xpath.specs.Syntax.{Condition, any_of, all_of, not_so, selects, compares, conditions_of, Side, values_of, literal, number, Steps, itself, parent, step, steps_of, side_of, condition_step, condition_of}
use Rattle.iris_xpath.specs.Said.{all_conditions, steps_from, operand_side}

-- ---- paths

-- one part, and then further ones
abbrev head : Part Condition → Steps → Steps
head parts.Itself rest = itself rest
head parts.Parent rest = parent rest
head (parts.Step s) rest = step s.separator s.test (conditions_of s.predicates) rest

abbrev head_said : Part Expression → Steps → Steps
head_said parts.Itself rest = itself rest
head_said parts.Parent rest = parent rest
head_said (parts.Step s) rest = step s.separator s.test (all_conditions s.predicates) rest

heads : (x : Part Condition) (xs : List (Part Condition)) (a : Option Attribute) → steps_of (x ∷ xs) a ≡ head x (steps_of xs a)
heads parts.Itself xs a = refl
heads parts.Parent xs a = refl
heads (parts.Step s) xs a = refl

heads_said : (x : Part Expression) (xs : List (Part Expression)) (a : Option Attribute) → steps_from (x ∷ xs) a ≡ head_said x (steps_from xs a)
heads_said parts.Itself xs a = refl
heads_said parts.Parent xs a = refl
heads_said (parts.Step s) xs a = refl

path_said : (g : Part Expression → Part Condition) → ((x : Part Expression) (rest : Steps) → head (g x) rest ≡ head_said x rest) → (ps : List (Part Expression)) (a : Option Attribute) → steps_of (map g ps) a ≡ steps_from ps a
path_said g h [] a = refl
path_said g h (p ∷ ps) a = heads (g p) (map g ps) a ∙ h p (steps_of (map g ps) a) ∙ ap (head_said p) (path_said g h ps a) ∙ sym (heads_said p ps a)

on_part : (P : Part Expression → Type 0) → P parts.Itself → P parts.Parent → ((s : Step Expression) → P (parts.Step s)) → (x : Part Expression) → P x
on_part P a b f parts.Itself = a
on_part P a b f parts.Parent = b
on_part P a b f (parts.Step s) = f s

-- ---- forms

-- an `or`
pub or_told : (es : List Expression) → condition_of (forms.Or es) ≡ any_of (all_conditions es)
or_told es = ap condition_of (sym (forms.rolls-Or es)) ∙ fold-roll-Expression Condition condition_step (Expression-F.Or es)

-- an `and`
pub and_told : (es : List Expression) → condition_of (forms.And es) ≡ all_of (all_conditions es)
and_told es = ap condition_of (sym (forms.rolls-And es)) ∙ fold-roll-Expression Condition condition_step (Expression-F.And es)

-- a `not`
pub not_told : (e : Expression) → condition_of (forms.Not e) ≡ not_so (condition_of e)
not_told e = ap condition_of (sym (forms.rolls-Not e)) ∙ fold-roll-Expression Condition condition_step (Expression-F.Not e)

-- a path
pub path_told : (p : Path Expression) → condition_of (forms.Path p) ≡ selects (steps_from p.parts p.attribute)
path_told p =
    ap condition_of (sym (forms.rolls-Path p)) ∙ fold-roll-Expression Condition condition_step (Expression-F.Path p)
    ∙ ap selects (path_said _ (on_part _ (λ rest. refl) (λ rest. refl) (λ s rest. refl)) p.parts p.attribute)

-- a comparison
pub compare_told : (l r : Operand Expression) (c : Comparison) → condition_of (forms.Compare l c r) ≡ compares (operand_side l) c (operand_side r)
compare_told l r c = ap condition_of (sym (forms.rolls-Compare l c r)) ∙ sides l r
  where
    path : (p : Path Expression) (g : Part Expression → Part Condition) → ((x : Part Expression) (rest : Steps) → head (g x) rest ≡ head_said x rest) → values_of (steps_of (map g p.parts) p.attribute) ≡ values_of (steps_from p.parts p.attribute)
    path p g h = ap values_of (path_said g h p.parts p.attribute)

    both : (u v x y : Side) → u ≡ x → v ≡ y → compares u c v ≡ compares x c y
    both u v x y h k = ap (λ s. compares s c v) h ∙ ap (λ s. compares x c s) k

    sides : (l r : Operand Expression) → fold-Expression Condition condition_step (roll-Expression (Expression-F.Compare l c r)) ≡ compares (operand_side l) c (operand_side r)
    sides (operands.Path p) (operands.Path q) = fold-roll-Expression Condition condition_step (Expression-F.Compare (operands.Path p) c (operands.Path q)) ∙ both _ _ _ _ (path p _ (on_part _ (λ rest. refl) (λ rest. refl) (λ s rest. refl))) (path q _ (on_part _ (λ rest. refl) (λ rest. refl) (λ s rest. refl)))
    sides (operands.Path p) (operands.Literal t) = fold-roll-Expression Condition condition_step (Expression-F.Compare (operands.Path p) c (operands.Literal t)) ∙ both _ _ _ _ (path p _ (on_part _ (λ rest. refl) (λ rest. refl) (λ s rest. refl))) refl
    sides (operands.Path p) (operands.Number n) = fold-roll-Expression Condition condition_step (Expression-F.Compare (operands.Path p) c (operands.Number n)) ∙ both _ _ _ _ (path p _ (on_part _ (λ rest. refl) (λ rest. refl) (λ s rest. refl))) refl
    sides (operands.Literal t) (operands.Path q) = fold-roll-Expression Condition condition_step (Expression-F.Compare (operands.Literal t) c (operands.Path q)) ∙ both _ _ _ _ refl (path q _ (on_part _ (λ rest. refl) (λ rest. refl) (λ s rest. refl)))
    sides (operands.Literal t) (operands.Literal u) = fold-roll-Expression Condition condition_step (Expression-F.Compare (operands.Literal t) c (operands.Literal u))
    sides (operands.Literal t) (operands.Number n) = fold-roll-Expression Condition condition_step (Expression-F.Compare (operands.Literal t) c (operands.Number n))
    sides (operands.Number m) (operands.Path q) = fold-roll-Expression Condition condition_step (Expression-F.Compare (operands.Number m) c (operands.Path q)) ∙ both _ _ _ _ refl (path q _ (on_part _ (λ rest. refl) (λ rest. refl) (λ s rest. refl)))
    sides (operands.Number m) (operands.Literal u) = fold-roll-Expression Condition condition_step (Expression-F.Compare (operands.Number m) c (operands.Literal u))
    sides (operands.Number m) (operands.Number n) = fold-roll-Expression Condition condition_step (Expression-F.Compare (operands.Number m) c (operands.Number n))
