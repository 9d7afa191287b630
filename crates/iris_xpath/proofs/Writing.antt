-- What is written, loop by loop and form by form.
use Rattle.std.proofs.Common.{◌≡◌, ℕ, ◌<◌, ◌+◌, List, [], ◌∷◌, ◌++◌, refl, ap, sym, ◌∙◌, map, take, get_or, length, Option, Some, None, append_assoc, append-nil, arith, false}
use Rattle.std.proofs.lemmas.List.{take_more, map-append, length-take-le, length-map}
use Rattle.std.proofs.lemmas.List.Concat.{flat_map-append}
use Rattle.std.specs.List.{flat_map}
use Rattle.iris_xpath.specs.declared.expression.Part.{Part}
use Rattle.iris_xpath.specs.declared.expression.Part.TheVariants as parts
use Rattle.iris_xpath.specs.declared.expression.Path.{Path}
use Rattle.iris_xpath.specs.declared.expression.Separator.{Separator}
use Rattle.iris_xpath.specs.declared.expression.Separator.TheVariants.{Slash, DoubleSlash}
use Rattle.iris_xpath.specs.declared.expression.Attribute.{Attribute}
use Rattle.iris_xpath.specs.declared.expression.Step.{Step}
use Rattle.iris_xpath.specs.declared.expression.Operand.{Operand}
use Rattle.iris_xpath.specs.declared.expression.Operand.TheVariants as operands
use Rattle.iris_xpath.specs.declared.expression.Comparison.{Comparison}
use Rattle.iris_xpath.specs.declared.expression.Expression.{Expression}
use Rattle.iris_xpath.specs.declared.expression.Expression.TheVariants as forms
use Rattle.iris_xpath.specs.declared.expression.Expression.TheOpen.{Expression-F}
use Rattle.iris_xpath.specs.declared.expression.Expression.TheViews.{roll-Expression}
use Rattle.iris_xpath.specs.declared.expression.Expression.TheFolds.{fold-roll-Expression}
use Rattle.iris_xpath.specs.Printed.{Shown, linked, link_at, bracketed, shown, show_step, part_text, before_part, attribute_text, before_attribute, path_text, operand_text, predicates_text, sign_shown}

-- ---- loops

-- one text more at the end, behind its link
pub linked_end : {X : Type 0} (link text : X → List ℕ) (xs : List X) (x : X) → linked link text (xs ++ x ∷ []) ≡ linked link text xs ++ (link_at (length xs) (link x) ++ text x)
linked_end link text [] x = append-nil (text x)
linked_end link text (y ∷ ys) x =
    let e : flat_map (λ z. link z ++ text z) (ys ++ x ∷ []) ≡ flat_map (λ z. link z ++ text z) ys ++ ((link x ++ text x) ++ []) = flat_map-append (λ z. link z ++ text z) ys (x ∷ []) in
    rw (e, append-nil (link x ++ text x)) (sym (append_assoc (text y) (flat_map (λ z. link z ++ text z) ys) (link x ++ text x)))

linked_on : {X : Type 0} (link text : X → List ℕ) (xs : List X) (x : X) (i : ℕ) (a b c d : List ℕ) → length xs ≡ i → b ≡ a ++ linked link text xs → c ≡ b ++ link_at i (link x) → d ≡ c ++ text x → d ≡ a ++ linked link text (xs ++ x ∷ [])
linked_on link text xs x i a b c d l h k j =
    let p : link_at (length xs) (link x) ≡ link_at i (link x) = ap (λ (m : ℕ). link_at m (link x)) l in
    j ∙ rw (k, h, linked_end link text xs x, p) (simp append_assoc refl)

length_take : {X : Type 0} (xs : List X) (i : ℕ) → i < length xs → length (take i xs) ≡ i
length_take xs i l = length-take-le i xs (omega (arith, l))

-- one text more is written
pub linked_more : {X : Type 0} (link text : X → List ℕ) (xs : List X) (i : ℕ) (x : X) (a b c d : List ℕ) → i < length xs → x ≡ get_or xs i x → b ≡ a ++ linked link text (take i xs) → c ≡ b ++ link_at i (link x) → d ≡ c ++ text x → d ≡ a ++ linked link text (take (i + 1) xs)
linked_more link text xs i x a b c d l e h k j =
    rw (take_more xs i x l, ← e) (linked_on link text (take i xs) x i a b c d (length_take xs i l) h k j)

-- one text more of a mapped list is written
pub linked_map : {X Y : Type 0} (link text : Y → List ℕ) (g : X → Y) (xs : List X) (i : ℕ) (x : X) (a b c d : List ℕ) → i < length xs → x ≡ get_or xs i x → b ≡ a ++ linked link text (map g (take i xs)) → c ≡ b ++ link_at i (link (g x)) → d ≡ c ++ text (g x) → d ≡ a ++ linked link text (map g (take (i + 1) xs))
linked_map link text g xs i x a b c d l e h k j =
    let q : map g (take (i + 1) xs) ≡ map g (take i xs) ++ g x ∷ [] = ap (map g) (take_more xs i x l) ∙ map-append g (take i xs) (get_or xs i x ∷ []) ∙ ap (λ y. map g (take i xs) ++ g y ∷ []) (sym e) in
    rw q (linked_on link text (map g (take i xs)) (g x) i a b c d (length-map (take i xs) g ∙ length_take xs i l) h k j)

-- one predicate more
pub bracketed_more : (xs : List Expression) (i : ℕ) (x : Expression) (a b c d e : List ℕ) → i < length xs → x ≡ get_or xs i x → b ≡ a ++ predicates_text (take i xs) → c ≡ b ++ 91 ∷ [] → d ≡ c ++ (shown x).text → e ≡ d ++ 93 ∷ [] → e ≡ a ++ predicates_text (take (i + 1) xs)
bracketed_more xs i x a b c d e l is h k j m =
    let q : map shown (take (i + 1) xs) ≡ map shown (take i xs) ++ shown x ∷ [] = ap (map shown) (take_more xs i x l) ∙ map-append shown (take i xs) (get_or xs i x ∷ []) ∙ ap (λ y. map shown (take i xs) ++ shown y ∷ []) (sym is) in
    let r : flat_map bracketed (map shown (take i xs) ++ shown x ∷ []) ≡ flat_map bracketed (map shown (take i xs)) ++ (bracketed (shown x) ++ []) = flat_map-append bracketed (map shown (take i xs)) (shown x ∷ []) in
    rw (q, r, append-nil (bracketed (shown x))) (m ∙ rw (j, k, h) (simp append_assoc refl))

-- ---- forms

on_part : (P : Part Expression → Type 0) → P parts.Itself → P parts.Parent → ((s : Step Expression) → P (parts.Step s)) → (x : Part Expression) → P x
on_part P a b f parts.Itself = a
on_part P a b f parts.Parent = b
on_part P a b f (parts.Step s) = f s

-- how the fold shows a part, and the parts
abbrev in_fold : Part Shown → List ℕ
in_fold = part_text (flat_map bracketed)

abbrev in_tree : Part Expression → List ℕ
in_tree = part_text predicates_text

rest_is : (g : Part Expression → Part Shown) → ((x : Part Expression) → in_fold (g x) ≡ in_tree x) → ((x : Part Expression) → before_part (g x) ≡ before_part x) → (ps : List (Part Expression))
    → flat_map (λ y. before_part y ++ in_fold y) (map g ps) ≡ flat_map (λ y. before_part y ++ in_tree y) ps
rest_is g h k [] = refl
rest_is g h k (p ∷ ps) = rw (h p, k p, rest_is g h k ps) refl

linked_is : (g : Part Expression → Part Shown) → ((x : Part Expression) → in_fold (g x) ≡ in_tree x) → ((x : Part Expression) → before_part (g x) ≡ before_part x) → (ps : List (Part Expression))
    → linked before_part in_fold (map g ps) ≡ linked before_part in_tree ps
linked_is g h k [] = refl
linked_is g h k (p ∷ ps) = rw (h p, rest_is g h k ps) refl

before_is : {X Y : Type 0} (g : X → Y) (ps : List X) (s : Separator) → before_attribute (map g ps) s ≡ before_attribute ps s
before_is g [] Slash = refl
before_is g [] DoubleSlash = refl
before_is g (p ∷ ps) s = refl

attribute_is : {X Y : Type 0} (g : X → Y) (ps : List X) (a : Option Attribute) → attribute_text (map g ps) a ≡ attribute_text ps a
attribute_is g ps None = refl
attribute_is g ps (Some a) = ap (λ (x : List ℕ). x ++ 64 ∷ a.name) (before_is g ps a.separator)

any_parts : (g : Part Expression → Part Shown) → ((x : Part Expression) → in_fold (g x) ≡ in_tree x) → ((x : Part Expression) → before_part (g x) ≡ before_part x) → (ps : List (Part Expression)) (a : Option Attribute)
    → path_text (flat_map bracketed) (record { parts = map g ps; attribute = a }) ≡ path_text predicates_text (record { parts = ps; attribute = a })
any_parts g h k ps a = rw (linked_is g h k ps, attribute_is g ps a) refl

-- how a path prints
pub path_is : (p : Path Expression) → shown (roll-Expression (Expression-F.Path p)) ≡ record { is_or = false; text = path_text predicates_text p }
path_is p = fold-roll-Expression Shown show_step (Expression-F.Path p) ∙ ap (λ (t : List ℕ). record { is_or = false; text = t }) (any_parts _ (on_part _ refl refl (λ s. refl)) (on_part _ refl refl (λ s. refl)) p.parts p.attribute)

abbrev compared : List ℕ → Comparison → List ℕ → Shown
compared l c r = record { is_or = false; text = l ++ (sign_shown c ++ r) }

compared_is : (c : Comparison) (x y u v : List ℕ) → x ≡ u → y ≡ v → compared x c y ≡ compared u c v
compared_is c x y u v e f = rw (e, f) refl

-- how a comparison prints
pub compare_is : (l : Operand Expression) (c : Comparison) (r : Operand Expression) → shown (roll-Expression (Expression-F.Compare l c r)) ≡ compared (operand_text predicates_text l) c (operand_text predicates_text r)
compare_is (operands.Path p) c (operands.Path q) = fold-roll-Expression Shown show_step (Expression-F.Compare (operands.Path p) c (operands.Path q)) ∙ compared_is c _ _ _ _ (any_parts _ (on_part _ refl refl (λ s. refl)) (on_part _ refl refl (λ s. refl)) p.parts p.attribute) (any_parts _ (on_part _ refl refl (λ s. refl)) (on_part _ refl refl (λ s. refl)) q.parts q.attribute)
compare_is (operands.Path p) c (operands.Literal u) = fold-roll-Expression Shown show_step (Expression-F.Compare (operands.Path p) c (operands.Literal u)) ∙ compared_is c _ (operand_text predicates_text (operands.Literal u)) _ (operand_text predicates_text (operands.Literal u)) (any_parts _ (on_part _ refl refl (λ s. refl)) (on_part _ refl refl (λ s. refl)) p.parts p.attribute) refl
compare_is (operands.Path p) c (operands.Number w) = fold-roll-Expression Shown show_step (Expression-F.Compare (operands.Path p) c (operands.Number w)) ∙ compared_is c _ (operand_text predicates_text (operands.Number w)) _ (operand_text predicates_text (operands.Number w)) (any_parts _ (on_part _ refl refl (λ s. refl)) (on_part _ refl refl (λ s. refl)) p.parts p.attribute) refl
compare_is (operands.Literal t) c (operands.Path q) = fold-roll-Expression Shown show_step (Expression-F.Compare (operands.Literal t) c (operands.Path q)) ∙ compared_is c (operand_text predicates_text (operands.Literal t)) _ (operand_text predicates_text (operands.Literal t)) _ refl (any_parts _ (on_part _ refl refl (λ s. refl)) (on_part _ refl refl (λ s. refl)) q.parts q.attribute)
compare_is (operands.Literal t) c (operands.Literal u) = fold-roll-Expression Shown show_step (Expression-F.Compare (operands.Literal t) c (operands.Literal u))
compare_is (operands.Literal t) c (operands.Number w) = fold-roll-Expression Shown show_step (Expression-F.Compare (operands.Literal t) c (operands.Number w))
compare_is (operands.Number v) c (operands.Path q) = fold-roll-Expression Shown show_step (Expression-F.Compare (operands.Number v) c (operands.Path q)) ∙ compared_is c (operand_text predicates_text (operands.Number v)) _ (operand_text predicates_text (operands.Number v)) _ refl (any_parts _ (on_part _ refl refl (λ s. refl)) (on_part _ refl refl (λ s. refl)) q.parts q.attribute)
compare_is (operands.Number v) c (operands.Literal u) = fold-roll-Expression Shown show_step (Expression-F.Compare (operands.Number v) c (operands.Literal u))
compare_is (operands.Number v) c (operands.Number w) = fold-roll-Expression Shown show_step (Expression-F.Compare (operands.Number v) c (operands.Number w))

-- how a path prints, as the code makes it
pub path_told : (p : Path Expression) → shown (forms.Path p) ≡ record { is_or = false; text = path_text predicates_text p }
path_told p = ap shown (sym (forms.rolls-Path p)) ∙ path_is p

-- how a comparison prints, as the code makes it
pub compare_told : (l r : Operand Expression) (c : Comparison) → shown (forms.Compare l c r) ≡ compared (operand_text predicates_text l) c (operand_text predicates_text r)
compare_told l r c = ap shown (sym (forms.rolls-Compare l c r)) ∙ compare_is l c r

-- three texts, one after another
pub third : (a l s r b c u : List ℕ) → b ≡ a ++ l → c ≡ b ++ u → u ≡ s → a ++ (l ++ (s ++ r)) ≡ c ++ r
third a l s r b c u h k j = sym (rw (k, h, j) (simp append_assoc refl))
