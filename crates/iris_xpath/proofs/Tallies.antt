-- What is counted, loop by loop and form by form.
use Rattle.std.proofs.Common.{◌≡◌, ℕ, suc, Bool, ◌||◌, ◌<◌, ◌+◌, List, [], ◌∷◌, ◌++◌, refl, ap, sym, ◌∙◌, map, take, get_or, length, Option, Some, None, min, max, arith}
use Rattle.std.proofs.lemmas.List.{take_more, map-append}
use Rattle.std.specs.List.{list_any}
use Rattle.iris_xpath.specs.declared.expression.Part.{Part}
use Rattle.iris_xpath.specs.declared.expression.Part.TheVariants as parts
use Rattle.iris_xpath.specs.declared.expression.Path.{Path}
use Rattle.iris_xpath.specs.declared.expression.Attribute.{Attribute}
use Rattle.iris_xpath.specs.declared.expression.Step.{Step}
use Rattle.iris_xpath.specs.declared.expression.Operand.{Operand}
use Rattle.iris_xpath.specs.declared.expression.Operand.TheVariants as operands
use Rattle.iris_xpath.specs.declared.expression.Comparison.{Comparison}
use Rattle.iris_xpath.specs.declared.expression.Expression.{Expression}
use Rattle.iris_xpath.specs.declared.expression.Expression.TheVariants as forms
use Rattle.iris_xpath.specs.declared.expression.Expression.TheOpen.{Expression-F}
use Rattle.iris_xpath.specs.declared.expression.Expression.TheViews.{roll-Expression}
use Rattle.iris_xpath.specs.declared.expression.Expression.TheFolds.{fold-roll-Expression}
use Rattle.iris_xpath.specs.declared.tally.Tally.{Tally}
use Rattle.iris_xpath.specs.Tally as tally

joined_end : (t x : Tally) (xs : List Tally) → tally.joined t (xs ++ x ∷ []) ≡ tally.both (tally.joined t xs) x
joined_end t x [] = refl
joined_end t x (y ∷ xs) = joined_end (tally.both t y) x xs

-- ---- counts that are capped

min_plus : (a b m : ℕ) → min (min a m + min b m) m ≡ min (a + b) m
min_plus a b m = omega arith

min_max : (a b m : ℕ) → min (max (min a m) (min b m)) m ≡ min (max a b) m
min_max a b m = omega arith

-- caps of parts do not change the cap of the whole
pub capped_both : (a b : Tally) → tally.capped (tally.both (tally.capped a) (tally.capped b)) ≡ tally.capped (tally.both a b)
capped_both a b = rw (min_plus a.operands b.operands tally.most, min_max a.path b.path tally.most, min_max a.depth b.depth tally.most) refl

-- the cap of two together
pub both_capped : (a b x y t : Tally) → a ≡ tally.capped x → b ≡ tally.capped y → t ≡ tally.capped (tally.both a b) → t ≡ tally.capped (tally.both x y)
both_capped a b x y t h k j = j ∙ rw (h, k) (capped_both x y)

-- one element more
pub joined_more : {X : Type 0} (f : X → Tally) (xs : List X) (i : ℕ) (x : X) (t r s : Tally) → i < length xs → x ≡ get_or xs i x → t ≡ tally.capped (tally.joined tally.nothing (map f (take i xs))) → r ≡ tally.capped (f x) → s ≡ tally.capped (tally.both t r) → s ≡ tally.capped (tally.joined tally.nothing (map f (take (i + 1) xs)))
joined_more f xs i x t r s l e h k j =
    let a : map f (take (i + 1) xs) ≡ map f (take i xs) ++ f x ∷ [] = ap (map f) (take_more xs i x l) ∙ map-append f (take i xs) (get_or xs i x ∷ []) ∙ ap (λ y. map f (take i xs) ++ f y ∷ []) (sym e) in
    rw a (j ∙ rw (h, k) (capped_both (tally.joined tally.nothing (map f (take i xs))) (f x) ∙ ap tally.capped (sym (joined_end tally.nothing (f x) (map f (take i xs))))))

-- ---- forms

inner_is : (g : Part Expression → Part Tally) → ((x : Part Expression) → tally.part_of (g x) ≡ tally.tally_part x) → (ps : List (Part Expression)) → map tally.part_of (map g ps) ≡ map tally.tally_part ps
inner_is g h [] = refl
inner_is g h (p ∷ ps) = ap (λ (x : Tally). x ∷ map tally.part_of (map g ps)) (h p) ∙ ap (λ (xs : List Tally). tally.tally_part p ∷ xs) (inner_is g h ps)

far_is : (g : Part Expression → Part Tally) → ((x : Part Expression) → tally.goes_far (g x) ≡ tally.goes_far x) → (ps : List (Part Expression)) → list_any tally.goes_far (map g ps) ≡ list_any tally.goes_far ps
far_is g h [] = refl
far_is g h (p ∷ ps) = ap (λ (x : Bool). x || list_any tally.goes_far (map g ps)) (h p) ∙ ap (λ (x : Bool). tally.goes_far p || x) (far_is g h ps)

len_is : (g : Part Expression → Part Tally) (ps : List (Part Expression)) → length (map g ps) ≡ length ps
len_is g [] = refl
len_is g (p ∷ ps) = ap (λ (k : ℕ). suc k) (len_is g ps)

on_part : (P : Part Expression → Type 0) → P parts.Itself → P parts.Parent → ((s : Step Expression) → P (parts.Step s)) → (x : Part Expression) → P x
on_part P a b f parts.Itself = a
on_part P a b f parts.Parent = b
on_part P a b f (parts.Step s) = f s

any_parts : (g : Part Expression → Part Tally) → ((x : Part Expression) → tally.part_of (g x) ≡ tally.tally_part x) → ((x : Part Expression) → tally.goes_far (g x) ≡ tally.goes_far x) → (ps : List (Part Expression)) (a : Option Attribute)
    → tally.path_tally (record { parts = map g ps; attribute = a }) ≡ tally.tally_path (record { parts = ps; attribute = a })
any_parts g h k ps None = rw (inner_is g h ps, far_is g k ps, len_is g ps) refl
any_parts g h k ps (Some a) = rw (inner_is g h ps, far_is g k ps, len_is g ps) refl

path_is : (p : Path Expression) → tally.tally_of (roll-Expression (Expression-F.Path p)) ≡ tally.tally_path p
path_is p = fold-roll-Expression Tally tally.tally_step (Expression-F.Path p) ∙ any_parts _ (on_part _ refl refl (λ s. refl)) (on_part _ refl refl (λ s. refl)) p.parts p.attribute

both_is : (x y u v : Tally) → x ≡ u → y ≡ v → tally.both x y ≡ tally.both u v
both_is x y u v e f = rw (e, f) refl

compare_is : (l : Operand Expression) (c : Comparison) (r : Operand Expression) → tally.tally_of (roll-Expression (Expression-F.Compare l c r)) ≡ tally.both (tally.tally_operand l) (tally.tally_operand r)
compare_is (operands.Path p) c (operands.Path q) = fold-roll-Expression Tally tally.tally_step (Expression-F.Compare (operands.Path p) c (operands.Path q)) ∙ both_is _ _ _ _ (any_parts _ (on_part _ refl refl (λ s. refl)) (on_part _ refl refl (λ s. refl)) p.parts p.attribute) (any_parts _ (on_part _ refl refl (λ s. refl)) (on_part _ refl refl (λ s. refl)) q.parts q.attribute)
compare_is (operands.Path p) c (operands.Literal u) = fold-roll-Expression Tally tally.tally_step (Expression-F.Compare (operands.Path p) c (operands.Literal u)) ∙ both_is _ (tally.operand_tally (operands.Literal u)) _ (tally.operand_tally (operands.Literal u)) (any_parts _ (on_part _ refl refl (λ s. refl)) (on_part _ refl refl (λ s. refl)) p.parts p.attribute) refl
compare_is (operands.Path p) c (operands.Number w) = fold-roll-Expression Tally tally.tally_step (Expression-F.Compare (operands.Path p) c (operands.Number w)) ∙ both_is _ (tally.operand_tally (operands.Number w)) _ (tally.operand_tally (operands.Number w)) (any_parts _ (on_part _ refl refl (λ s. refl)) (on_part _ refl refl (λ s. refl)) p.parts p.attribute) refl
compare_is (operands.Literal t) c (operands.Path q) = fold-roll-Expression Tally tally.tally_step (Expression-F.Compare (operands.Literal t) c (operands.Path q)) ∙ both_is (tally.operand_tally (operands.Literal t)) _ (tally.operand_tally (operands.Literal t)) _ refl (any_parts _ (on_part _ refl refl (λ s. refl)) (on_part _ refl refl (λ s. refl)) q.parts q.attribute)
compare_is (operands.Literal t) c (operands.Literal u) = fold-roll-Expression Tally tally.tally_step (Expression-F.Compare (operands.Literal t) c (operands.Literal u))
compare_is (operands.Literal t) c (operands.Number w) = fold-roll-Expression Tally tally.tally_step (Expression-F.Compare (operands.Literal t) c (operands.Number w))
compare_is (operands.Number v) c (operands.Path q) = fold-roll-Expression Tally tally.tally_step (Expression-F.Compare (operands.Number v) c (operands.Path q)) ∙ both_is (tally.operand_tally (operands.Number v)) _ (tally.operand_tally (operands.Number v)) _ refl (any_parts _ (on_part _ refl refl (λ s. refl)) (on_part _ refl refl (λ s. refl)) q.parts q.attribute)
compare_is (operands.Number v) c (operands.Literal u) = fold-roll-Expression Tally tally.tally_step (Expression-F.Compare (operands.Number v) c (operands.Literal u))
compare_is (operands.Number v) c (operands.Number w) = fold-roll-Expression Tally tally.tally_step (Expression-F.Compare (operands.Number v) c (operands.Number w))

-- what is counted of a path
pub path_told : (p : Path Expression) → tally.tally_of (forms.Path p) ≡ tally.tally_path p
path_told p = ap tally.tally_of (sym (forms.rolls-Path p)) ∙ path_is p

-- what is counted of a comparison
pub compare_told : (l r : Operand Expression) (c : Comparison) → tally.tally_of (forms.Compare l c r) ≡ tally.both (tally.tally_operand l) (tally.tally_operand r)
compare_told l r c = ap tally.tally_of (sym (forms.rolls-Compare l c r)) ∙ compare_is l c r
