-- Expressions as they are written again: `and` of units and `or` of parts, spliced.
use Rattle.std.proofs.Common.{◌≡◌, ℕ, suc, max, ◌≤◌, false, true, List, [], ◌∷◌, ◌++◌, refl, ap, sym, ◌∙◌, subst, arith, append_assoc, append-nil, map, codes}
use Rattle.std.proofs.lemmas.List.{map-append}
use Rattle.iris_xpath.specs.declared.expression.NameTest.{NameTest}
use Rattle.iris_xpath.specs.declared.expression.Expression.{Expression}
use Rattle.iris_xpath.specs.declared.expression.Expression.TheOpen.{Expression-F}
use Rattle.iris_xpath.specs.declared.expression.Expression.TheViews.{out-Expression, roll-Expression, out-roll-Expression}
use Rattle.iris_xpath.specs.declared.expression.Expression.TheFolds.{fold-roll-Expression}
use Rattle.iris_xpath.specs.Trees.{joined_and, joined_or, and_parts, or_parts}
use Rattle.iris_xpath.specs.Grammar.{Row, none, more, word, group, not_group, Term, grouped, Ands, one, both, Ors, one_and, either, row, term_text, ands_text, ors_text}
use Rattle.iris_xpath.specs.Spells.{term_tree, ands_list, ands_tree, ors_list, ors_tree, GoodTested, GoodTerm, GoodAnds, GoodOrs}
use Rattle.iris_xpath.specs.Parens.{deep_term, deep_ands, deep_ors}
use Rattle.iris_xpath.specs.Printed.{Shown, shown, show_step, in_and, or_text, and_text, not_text}
use Rattle.iris_xpath.proofs.Traces.{le_via, le_self}
use Rattle.iris_xpath.proofs.Deeper.{more_term, more_ands, more_ors}
use Rattle.iris_xpath.proofs.Pads.{pad_ands, pad_ors, ands_padded, ors_padded, ands_list_same, ors_list_same, ands_good, ors_good, ands_ends, ors_ends, ands_deep, ors_deep}
use Rattle.iris_xpath.proofs.Writing.{linked_end}

-- ---- lists of which each element has something

abbrev Every : (Expression → Type 0) → List Expression → Type 0
Every P [] = Unit {0}
Every P (x ∷ xs) = P x × Every P xs

-- and there is an element
abbrev pub Full : (Expression → Type 0) → List Expression → Type 0
Full P [] = ⊥
Full P (x ∷ xs) = P x × Every P xs

-- of a list with an element, all elements
pub every_of : (P : Expression → Type 0) (xs : List Expression) → Full P xs → Every P xs
every_of P [] h = tt
every_of P (x ∷ xs) h = h

every_append : (P : Expression → Type 0) (xs ys : List Expression) → Every P xs → Every P ys → Every P (xs ++ ys)
every_append P [] ys h k = k
every_append P (x ∷ xs) ys h k = (h.0, every_append P xs ys h.1 k)

-- two lists one after another
pub full_append : (P : Expression → Type 0) (xs ys : List Expression) → Full P xs → Every P ys → Full P (xs ++ ys)
full_append P [] ys h k = absurd h
full_append P (x ∷ xs) ys h k = (h.0, every_append P xs ys h.1 k)

every_map : (P Q : Expression → Type 0) → ((x : Expression) → P x → Q x) → (xs : List Expression) → Every P xs → Every Q xs
every_map P Q f [] h = tt
every_map P Q f (x ∷ xs) h = (f x h.0, every_map P Q f xs h.1)

full_map : (P Q : Expression → Type 0) → ((x : Expression) → P x → Q x) → (xs : List Expression) → Full P xs → Full Q xs
full_map P Q f [] h = h
full_map P Q f (x ∷ xs) h = (f x h.0, every_map P Q f xs h.1)

-- ---- what is written as something prints, with at most so many parentheses; `k` stand around it

-- an expression that is no `and`, as it stands in an `and`
pub record UnitOf (n : List ℕ → NameTest) (k most : ℕ) (e : Expression) : Type 0 where
  pub term : Term
  pub good : GoodTerm term
  pub tree : term_tree n term ≡ e
  pub text : term_text term ≡ in_and (shown e)
  pub single : and_parts e (out-Expression e) ≡ e ∷ []
  pub low : (x : ℕ) → x ≤ most → deep_term k x term ≤ most

-- an expression that is no `or`, as it stands in an `or`
pub record PartOf (n : List ℕ → NameTest) (k most : ℕ) (e : Expression) : Type 0 where
  pub ands : Ands
  pub good : GoodAnds ands
  pub tree : ands_tree n ands ≡ e
  pub text : ands_text ands ≡ (shown e).text
  pub single : or_parts e (out-Expression e) ≡ e ∷ []
  pub low : (x : ℕ) → x ≤ most → deep_ands k x ands ≤ most

-- an expression as it stands in brackets or parentheses
pub record OrsOf (n : List ℕ → NameTest) (k most : ℕ) (e : Expression) : Type 0 where
  pub ors : Ors
  pub good : GoodOrs ors
  pub tree : ors_tree n ors ≡ e
  pub text : ors_text ors ≡ (shown e).text
  pub low : (x : ℕ) → x ≤ most → deep_ors k x ors ≤ most

-- an expression in all three ways
pub record Whole (n : List ℕ → NameTest) (k most : ℕ) (e : Expression) : Type 0 where
  pub units : Full (UnitOf n k most) (and_parts e (out-Expression e))
  pub parts : Full (PartOf n k most) (or_parts e (out-Expression e))
  pub whole : OrsOf n k most e

-- an expression in parentheses, or in brackets
pub record Inside (n : List ℕ → NameTest) (k most : ℕ) (e : Expression) : Type 0 where
  pub whole : OrsOf n k most e
  pub within : (j : ℕ) → suc j ≡ k → suc j ≤ most → Whole n j most e

-- ---- fewer parentheses around

less_unit : (n : List ℕ → NameTest) (k most : ℕ) (e : Expression) → UnitOf n (suc k) most e → UnitOf n k most e
less_unit n k most e u = record { term = u.term; good = u.good; tree = u.tree; text = u.text; single = u.single; low = λ x h. le_via _ _ _ (more_term k (suc k) x x u.term (omega arith) (le_self x)) (u.low x h) }

less_part : (n : List ℕ → NameTest) (k most : ℕ) (e : Expression) → PartOf n (suc k) most e → PartOf n k most e
less_part n k most e p = record { ands = p.ands; good = p.good; tree = p.tree; text = p.text; single = p.single; low = λ x h. le_via _ _ _ (more_ands k (suc k) x x p.ands (omega arith) (le_self x)) (p.low x h) }

less_ors : (n : List ℕ → NameTest) (k most : ℕ) (e : Expression) → OrsOf n (suc k) most e → OrsOf n k most e
less_ors n k most e o = record { ors = o.ors; good = o.good; tree = o.tree; text = o.text; low = λ x h. le_via _ _ _ (more_ors k (suc k) x x o.ors (omega arith) (le_self x)) (o.low x h) }

less_whole : (n : List ℕ → NameTest) (k most : ℕ) (e : Expression) → Whole n (suc k) most e → Whole n k most e
less_whole n k most e w = record { units = full_map _ _ (less_unit n k most) _ w.units; parts = full_map _ _ (less_part n k most) _ w.parts; whole = less_ors n k most e w.whole }

-- ---- units with `and` between them

abbrev and_of : Expression → List Expression → Expression
and_of x [] = x
and_of x (y ∷ ys) = roll-Expression (Expression-F.And (x ∷ y ∷ ys))

and_of_two : (x : Expression) (xs : List Expression) (y : Expression) (ys : List Expression) → and_of x (xs ++ y ∷ ys) ≡ roll-Expression (Expression-F.And (x ∷ (xs ++ y ∷ ys)))
and_of_two x [] y ys = refl
and_of_two x (z ∷ zs) y ys = refl

record AndChain (n : List ℕ → NameTest) (k most : ℕ) (x : Expression) (xs : List Expression) : Type 0 where
  pub ands : Ands
  pub good : GoodAnds ands
  pub list : ands_list n ands ≡ x ∷ xs
  pub tree : ands_tree n ands ≡ and_of x xs
  pub text : ands_text ands ≡ and_text (map shown (x ∷ xs))
  pub low : (d : ℕ) → d ≤ most → deep_ands k d ands ≤ most

and_start : (n : List ℕ → NameTest) (k most : ℕ) (x : Expression) → UnitOf n k most x → AndChain n k most x []
and_start n k most x u = record { ands = one u.term; good = u.good; list = ap (λ (z : Expression). and_parts z (out-Expression z)) u.tree ∙ u.single; tree = u.tree; text = u.text ∙ sym (append-nil (in_and (shown x))); low = u.low }

and_more : (n : List ℕ → NameTest) (k most : ℕ) (x : Expression) (xs : List Expression) (e : Expression) → AndChain n k most x xs → UnitOf n k most e → AndChain n k most x (xs ++ e ∷ [])
and_more n k most x xs e c u =
    let l : ands_list n (pad_ands c.ands) ≡ x ∷ xs = ands_list_same n c.ands ∙ c.list in
    let p : and_parts (term_tree n u.term) (out-Expression (term_tree n u.term)) ≡ e ∷ [] = ap (λ (z : Expression). and_parts z (out-Expression z)) u.tree ∙ u.single in
    let es : List Shown = map shown (x ∷ xs) in
    let m : map shown (x ∷ (xs ++ e ∷ [])) ≡ map shown (x ∷ xs) ++ shown e ∷ [] = map-append shown (x ∷ xs) (e ∷ []) in
    let t : and_text (map shown (x ∷ xs) ++ shown e ∷ []) ≡ and_text (map shown (x ∷ xs)) ++ (codes " and " ++ in_and (shown e)) = linked_end (λ s. codes " and ") in_and (map shown (x ∷ xs)) (shown e) in
    let f : ands_text (pad_ands c.ands) ≡ and_text (map shown (x ∷ xs)) ++ 32 ∷ [] = ands_padded c.ands ∙ ap (λ (z : List ℕ). z ++ 32 ∷ []) c.text in
    record {
      ands = both (pad_ands c.ands) (more none 32) u.term;
      good = (ands_good c.ands c.good, ands_ends c.ands, (tt, refl), refl, u.good);
      list = ap (λ (z : List Expression). z ++ and_parts (term_tree n u.term) (out-Expression (term_tree n u.term))) l ∙ ap (λ (z : List Expression). (x ∷ xs) ++ z) p;
      tree = ap (λ (z : List Expression). joined_and z (term_tree n u.term)) l ∙ ap (λ (z : List Expression). roll-Expression (Expression-F.And ((x ∷ xs) ++ z))) p ∙ sym (and_of_two x xs e []);
      text = ap (λ (z : List ℕ). z ++ 97 ∷ 110 ∷ 100 ∷ 32 ∷ term_text u.term) f ∙ append_assoc (and_text (map shown (x ∷ xs))) (32 ∷ []) (97 ∷ 110 ∷ 100 ∷ 32 ∷ term_text u.term) ∙ ap (λ (z : List ℕ). and_text (map shown (x ∷ xs)) ++ 32 ∷ 97 ∷ 110 ∷ 100 ∷ 32 ∷ z) u.text ∙ sym (ap and_text m ∙ t);
      low = λ d h. u.low (deep_ands k d (pad_ands c.ands)) (rw (ands_deep k d c.ands) (c.low d h));
    }

and_all : (n : List ℕ → NameTest) (k most : ℕ) (x : Expression) (xs ys : List Expression) → AndChain n k most x xs → Every (UnitOf n k most) ys → AndChain n k most x (xs ++ ys)
and_all n k most x xs [] c h = subst (AndChain n k most x) (sym (append-nil xs)) c
and_all n k most x xs (y ∷ ys) c h = subst (AndChain n k most x) (append_assoc xs (y ∷ []) ys) (and_all n k most x (xs ++ y ∷ []) ys (and_more n k most x xs y c h.0) h.1)

-- ---- parts with `or` between them

abbrev or_of : Expression → List Expression → Expression
or_of x [] = x
or_of x (y ∷ ys) = roll-Expression (Expression-F.Or (x ∷ y ∷ ys))

or_of_two : (x : Expression) (xs : List Expression) (y : Expression) (ys : List Expression) → or_of x (xs ++ y ∷ ys) ≡ roll-Expression (Expression-F.Or (x ∷ (xs ++ y ∷ ys)))
or_of_two x [] y ys = refl
or_of_two x (z ∷ zs) y ys = refl

record OrChain (n : List ℕ → NameTest) (k most : ℕ) (x : Expression) (xs : List Expression) : Type 0 where
  pub ors : Ors
  pub good : GoodOrs ors
  pub list : ors_list n ors ≡ x ∷ xs
  pub tree : ors_tree n ors ≡ or_of x xs
  pub text : ors_text ors ≡ or_text (map shown (x ∷ xs))
  pub low : (d : ℕ) → d ≤ most → deep_ors k d ors ≤ most

or_start : (n : List ℕ → NameTest) (k most : ℕ) (x : Expression) → PartOf n k most x → OrChain n k most x []
or_start n k most x u = record { ors = one_and u.ands; good = u.good; list = ap (λ (z : Expression). or_parts z (out-Expression z)) u.tree ∙ u.single; tree = u.tree; text = u.text ∙ sym (append-nil (shown x).text); low = u.low }

or_more : (n : List ℕ → NameTest) (k most : ℕ) (x : Expression) (xs : List Expression) (e : Expression) → OrChain n k most x xs → PartOf n k most e → OrChain n k most x (xs ++ e ∷ [])
or_more n k most x xs e c u =
    let l : ors_list n (pad_ors c.ors) ≡ x ∷ xs = ors_list_same n c.ors ∙ c.list in
    let p : or_parts (ands_tree n u.ands) (out-Expression (ands_tree n u.ands)) ≡ e ∷ [] = ap (λ (z : Expression). or_parts z (out-Expression z)) u.tree ∙ u.single in
    let m : map shown (x ∷ (xs ++ e ∷ [])) ≡ map shown (x ∷ xs) ++ shown e ∷ [] = map-append shown (x ∷ xs) (e ∷ []) in
    let t : or_text (map shown (x ∷ xs) ++ shown e ∷ []) ≡ or_text (map shown (x ∷ xs)) ++ (codes " or " ++ (shown e).text) = linked_end (λ s. codes " or ") (λ s. s.text) (map shown (x ∷ xs)) (shown e) in
    let f : ors_text (pad_ors c.ors) ≡ or_text (map shown (x ∷ xs)) ++ 32 ∷ [] = ors_padded c.ors ∙ ap (λ (z : List ℕ). z ++ 32 ∷ []) c.text in
    record {
      ors = either (pad_ors c.ors) (more none 32) u.ands;
      good = (ors_good c.ors c.good, ors_ends c.ors, (tt, refl), refl, u.good);
      list = ap (λ (z : List Expression). z ++ or_parts (ands_tree n u.ands) (out-Expression (ands_tree n u.ands))) l ∙ ap (λ (z : List Expression). (x ∷ xs) ++ z) p;
      tree = ap (λ (z : List Expression). joined_or z (ands_tree n u.ands)) l ∙ ap (λ (z : List Expression). roll-Expression (Expression-F.Or ((x ∷ xs) ++ z))) p ∙ sym (or_of_two x xs e []);
      text = ap (λ (z : List ℕ). z ++ 111 ∷ 114 ∷ 32 ∷ ands_text u.ands) f ∙ append_assoc (or_text (map shown (x ∷ xs))) (32 ∷ []) (111 ∷ 114 ∷ 32 ∷ ands_text u.ands) ∙ ap (λ (z : List ℕ). or_text (map shown (x ∷ xs)) ++ 32 ∷ 111 ∷ 114 ∷ 32 ∷ z) u.text ∙ sym (ap or_text m ∙ t);
      low = λ d h. u.low (deep_ors k d (pad_ors c.ors)) (rw (ors_deep k d c.ors) (c.low d h));
    }

or_all : (n : List ℕ → NameTest) (k most : ℕ) (x : Expression) (xs ys : List Expression) → OrChain n k most x xs → Every (PartOf n k most) ys → OrChain n k most x (xs ++ ys)
or_all n k most x xs [] c h = subst (OrChain n k most x) (sym (append-nil xs)) c
or_all n k most x xs (y ∷ ys) c h = subst (OrChain n k most x) (append_assoc xs (y ∷ []) ys) (or_all n k most x (xs ++ y ∷ []) ys (or_more n k most x xs y c h.0) h.1)

-- ---- wholes

-- what is no `or` needs no parentheses
pub outside_or : (s : Shown) → s.is_or ≡ false → in_and s ≡ s.text
outside_or s e = rw e refl

-- of a unit that is neither `and` nor `or`
pub plain : (n : List ℕ → NameTest) (k most : ℕ) (e : Expression) → UnitOf n k most e → or_parts e (out-Expression e) ≡ e ∷ [] → (shown e).is_or ≡ false → Whole n k most e
plain n k most e u s o =
    let t : term_text u.term ≡ (shown e).text = u.text ∙ outside_or (shown e) o in
    record {
      units = subst (Full (UnitOf n k most)) (sym u.single) (u, tt);
      parts = subst (Full (PartOf n k most)) (sym s) (record { ands = one u.term; good = u.good; tree = u.tree; text = t; single = s; low = u.low }, tt);
      whole = record { ors = one_and (one u.term); good = u.good; tree = u.tree; text = t; low = u.low };
    }

and_whole : (n : List ℕ → NameTest) (k most : ℕ) (x : Expression) (xs : List Expression) (y : Expression) (ys : List Expression) → Full (UnitOf n k most) (x ∷ xs) → Full (UnitOf n k most) (y ∷ ys) → Whole n k most (roll-Expression (Expression-F.And (x ∷ (xs ++ y ∷ ys))))
and_whole n k most x xs y ys h g =
    let c : AndChain n k most x (xs ++ y ∷ ys) = and_all n k most x xs (y ∷ ys) (and_all n k most x [] xs (and_start n k most x h.0) h.1) g in
    let s : shown (roll-Expression (Expression-F.And (x ∷ (xs ++ y ∷ ys)))) ≡ record { is_or = false; text = and_text (map shown (x ∷ (xs ++ y ∷ ys))) } = fold-roll-Expression Shown show_step (Expression-F.And (x ∷ (xs ++ y ∷ ys))) in
    let t : ands_text c.ands ≡ (shown (roll-Expression (Expression-F.And (x ∷ (xs ++ y ∷ ys))))).text = c.text ∙ sym (ap (λ (z : Shown). z.text) s) in
    let p : ands_tree n c.ands ≡ roll-Expression (Expression-F.And (x ∷ (xs ++ y ∷ ys))) = c.tree ∙ and_of_two x xs y ys in
    let a : and_parts _ (out-Expression (roll-Expression (Expression-F.And (x ∷ (xs ++ y ∷ ys))))) ≡ x ∷ (xs ++ y ∷ ys) = ap (and_parts (roll-Expression (Expression-F.And (x ∷ (xs ++ y ∷ ys))))) (out-roll-Expression (Expression-F.And (x ∷ (xs ++ y ∷ ys)))) in
    let o : or_parts _ (out-Expression (roll-Expression (Expression-F.And (x ∷ (xs ++ y ∷ ys))))) ≡ roll-Expression (Expression-F.And (x ∷ (xs ++ y ∷ ys))) ∷ [] = ap (or_parts (roll-Expression (Expression-F.And (x ∷ (xs ++ y ∷ ys))))) (out-roll-Expression (Expression-F.And (x ∷ (xs ++ y ∷ ys)))) in
    record {
      units = subst (Full (UnitOf n k most)) (sym a) (full_append (UnitOf n k most) (x ∷ xs) (y ∷ ys) h g);
      parts = subst (Full (PartOf n k most)) (sym o) (record { ands = c.ands; good = c.good; tree = p; text = t; single = o; low = c.low }, tt);
      whole = record { ors = one_and c.ands; good = c.good; tree = p; text = t; low = c.low };
    }

-- of what stands with an `and` behind units
pub and_joined : (n : List ℕ → NameTest) (k most : ℕ) (xs : List Expression) (e : Expression) (ys : List Expression) → and_parts e (out-Expression e) ≡ ys → Full (UnitOf n k most) xs → Full (UnitOf n k most) ys → Whole n k most (joined_and xs e)
and_joined n k most [] e ys q h g = absurd h
and_joined n k most (x ∷ xs) e [] q h g = absurd g
and_joined n k most (x ∷ xs) e (y ∷ ys) q h g = subst (λ (z : List Expression). Whole n k most (roll-Expression (Expression-F.And ((x ∷ xs) ++ z)))) (sym q) (and_whole n k most x xs y ys h g)

or_inside : (n : List ℕ → NameTest) (k most : ℕ) (x : Expression) (xs : List Expression) (y : Expression) (ys : List Expression) → Full (PartOf n k most) (x ∷ xs) → Full (PartOf n k most) (y ∷ ys) → OrsOf n k most (roll-Expression (Expression-F.Or (x ∷ (xs ++ y ∷ ys))))
or_inside n k most x xs y ys h g =
    let c : OrChain n k most x (xs ++ y ∷ ys) = or_all n k most x xs (y ∷ ys) (or_all n k most x [] xs (or_start n k most x h.0) h.1) g in
    let s : shown (roll-Expression (Expression-F.Or (x ∷ (xs ++ y ∷ ys)))) ≡ record { is_or = true; text = or_text (map shown (x ∷ (xs ++ y ∷ ys))) } = fold-roll-Expression Shown show_step (Expression-F.Or (x ∷ (xs ++ y ∷ ys))) in
    record { ors = c.ors; good = c.good; tree = c.tree ∙ or_of_two x xs y ys; text = c.text ∙ sym (ap (λ (z : Shown). z.text) s); low = c.low }

max_both : (x j most : ℕ) → x ≤ most → suc j ≤ most → max x (suc j) ≤ most
max_both x j most h l = omega (arith, h, l)

inside_or : (s : Shown) → s.is_or ≡ true → 40 ∷ (s.text ++ 41 ∷ []) ≡ in_and s
inside_or s e = rw e refl

-- an `or` in parentheses is a unit
or_within : (n : List ℕ → NameTest) (j most : ℕ) → suc j ≤ most → (es : List Expression) → Full (PartOf n (suc j) most) es → OrsOf n (suc j) most (roll-Expression (Expression-F.Or es)) → Whole n j most (roll-Expression (Expression-F.Or es))
or_within n j most l es h w =
    let a : and_parts _ (out-Expression (roll-Expression (Expression-F.Or es))) ≡ roll-Expression (Expression-F.Or es) ∷ [] = ap (and_parts (roll-Expression (Expression-F.Or es))) (out-roll-Expression (Expression-F.Or es)) in
    let o : or_parts _ (out-Expression (roll-Expression (Expression-F.Or es))) ≡ es = ap (or_parts (roll-Expression (Expression-F.Or es))) (out-roll-Expression (Expression-F.Or es)) in
    let s : (shown (roll-Expression (Expression-F.Or es))).is_or ≡ true = ap (λ (z : Shown). z.is_or) (fold-roll-Expression Shown show_step (Expression-F.Or es)) in
    record {
      units = subst (Full (UnitOf n j most)) (sym a) (record { term = grouped (group none w.ors); good = (tt, w.good); tree = w.tree; text = ap (λ (z : List ℕ). 40 ∷ (z ++ 41 ∷ [])) w.text ∙ inside_or (shown (roll-Expression (Expression-F.Or es))) s; single = a; low = λ x h. w.low (max x (suc j)) (max_both x j most h l) }, tt);
      parts = subst (Full (PartOf n j most)) (sym o) (full_map _ _ (less_part n j most) es h);
      whole = less_ors n j most (roll-Expression (Expression-F.Or es)) w;
    }

-- an `or` with one part more
pub or_joined : (n : List ℕ → NameTest) (k most : ℕ) (xs : List Expression) (e : Expression) (ys : List Expression) → or_parts e (out-Expression e) ≡ ys → Full (PartOf n k most) xs → Full (PartOf n k most) ys → Inside n k most (joined_or xs e)
or_joined n k most [] e ys q h g = absurd h
or_joined n k most (x ∷ xs) e [] q h g = absurd g
or_joined n k most (x ∷ xs) e (y ∷ ys) q h g =
    let w : OrsOf n k most (roll-Expression (Expression-F.Or (x ∷ (xs ++ y ∷ ys)))) = or_inside n k most x xs y ys h g in
    let f : Full (PartOf n k most) (x ∷ (xs ++ y ∷ ys)) = full_append (PartOf n k most) (x ∷ xs) (y ∷ ys) h g in
    subst (λ (z : List Expression). Inside n k most (roll-Expression (Expression-F.Or ((x ∷ xs) ++ z)))) (sym q)
    (record { whole = w; within = λ j p l. or_within n j most l (x ∷ (xs ++ y ∷ ys)) (subst (λ (i : ℕ). Full (PartOf n i most) (x ∷ (xs ++ y ∷ ys))) (sym p) f) (subst (λ (i : ℕ). OrsOf n i most (roll-Expression (Expression-F.Or (x ∷ (xs ++ y ∷ ys))))) (sym p) w) })

-- a whole inside brackets or parentheses
pub inside_of : (n : List ℕ → NameTest) (k most : ℕ) (e : Expression) → Whole n k most e → Inside n k most e
inside_of n k most e w = record { whole = w.whole; within = λ j p l. less_whole n j most e (subst (λ (i : ℕ). Whole n i most e) (sym p) w) }

-- a `not` of what is in parentheses
pub not_whole : (n : List ℕ → NameTest) (k most : ℕ) (a : ℕ) (w : Row) (e : Expression) → suc k ≤ most → a ∷ row w ≡ codes "not" → GoodTested (word a w) → OrsOf n (suc k) most e → Whole n k most (roll-Expression (Expression-F.Not e))
not_whole n k most a w e l i g o =
    let s : shown (roll-Expression (Expression-F.Not e)) ≡ record { is_or = false; text = not_text (shown e).text } = fold-roll-Expression Shown show_step (Expression-F.Not e) in
    let f : (shown (roll-Expression (Expression-F.Not e))).is_or ≡ false = ap (λ (z : Shown). z.is_or) s in
    plain n k most (roll-Expression (Expression-F.Not e))
    (record {
      term = grouped (not_group (word a w) none o.ors);
      good = (i, g, tt, o.good);
      tree = ap (λ (z : Expression). roll-Expression (Expression-F.Not z)) o.tree;
      text = ap (λ (z : List ℕ). z ++ 40 ∷ (ors_text o.ors ++ 41 ∷ [])) i ∙ ap (λ (z : List ℕ). codes "not(" ++ (z ++ 41 ∷ [])) o.text ∙ sym (outside_or (shown (roll-Expression (Expression-F.Not e))) f ∙ ap (λ (z : Shown). z.text) s);
      single = ap (and_parts (roll-Expression (Expression-F.Not e))) (out-roll-Expression (Expression-F.Not e));
      low = λ x h. o.low (max x (suc k)) (max_both x k most h l);
    })
    (ap (or_parts (roll-Expression (Expression-F.Not e))) (out-roll-Expression (Expression-F.Not e))) f
