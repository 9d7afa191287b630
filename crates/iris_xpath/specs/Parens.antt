-- How deep parentheses are nested inside one predicate.
use Rattle.std.specs.Prelude.{ℕ, suc, max, List, [], ◌∷◌, Option, Some, option_and_then}
use Rattle.iris_xpath.specs.declared.expression.NameTest.{NameTest}
use Rattle.iris_xpath.specs.declared.state.Frame.{Frame}
use Rattle.iris_xpath.specs.declared.state.Frame.TheVariants as frames
use Rattle.iris_xpath.specs.Machine.{Configuration, at, inside, next}
use Rattle.iris_xpath.specs.Grammar.{Tested, word, star, predicate, tested_blank, Piece, tested, dotted, Fore, no_fore, fore, Attr, attribute, attr_blank, Road, path, attr, Arg, road, const, Group, group, not_group, group_blank, Term, alone, compared, grouped, Ands, one, both, Ors, one_and, either, Main, lead, step}

-- ---- of what is written: the greatest number of parentheses around anything, or d where that is greater; k stand around

abbrev mutual
  pub deep_tested : ℕ → Tested → ℕ
  deep_tested d (word a w) = d
  deep_tested d star = d
  deep_tested d (predicate t g o) = deep_ors 0 (deep_tested d t) o
  deep_tested d (tested_blank t b) = deep_tested d t

  pub deep_piece : ℕ → Piece → ℕ
  deep_piece d (tested t) = deep_tested d t
  deep_piece d (dotted p) = d

  pub deep_fore : ℕ → Fore → ℕ
  deep_fore d no_fore = d
  deep_fore d (fore f p s) = deep_piece (deep_fore d f) p

  pub deep_attr : ℕ → Attr → ℕ
  deep_attr d (attribute f g a w) = deep_fore d f
  deep_attr d (attr_blank a b) = deep_attr d a

  pub deep_road : ℕ → Road → ℕ
  deep_road d (path f p) = deep_piece (deep_fore d f) p
  deep_road d (attr a) = deep_attr d a

  pub deep_arg : ℕ → Arg → ℕ
  deep_arg d (road r) = deep_road d r
  deep_arg d (const c) = d

  pub deep_group : ℕ → ℕ → Group → ℕ
  deep_group k d (group g o) = deep_ors (suc k) (max d (suc k)) o
  deep_group k d (not_group t g o) = deep_ors (suc k) (max (deep_tested d t) (suc k)) o
  deep_group k d (group_blank g b) = deep_group k d g

  pub deep_term : ℕ → ℕ → Term → ℕ
  deep_term k d (alone r) = deep_road d r
  deep_term k d (compared l c r) = deep_arg (deep_arg d l) r
  deep_term k d (grouped g) = deep_group k d g

  pub deep_ands : ℕ → ℕ → Ands → ℕ
  deep_ands k d (one t) = deep_term k d t
  deep_ands k d (both a g t) = deep_term k (deep_ands k d a) t

  pub deep_ors : ℕ → ℕ → Ors → ℕ
  deep_ors k d (one_and a) = deep_ands k d a
  deep_ors k d (either o g a) = deep_ands k (deep_ors k d o) a

-- the greatest number of parentheses around anything in a query, or d where that is greater
abbrev pub deep_main : ℕ → Main → ℕ
deep_main d (lead g) = d
deep_main d (step m s t) = deep_tested (deep_main d m) t

-- how deep parentheses are nested inside one predicate of the query
abbrev pub parens_of : Main → ℕ
parens_of m = deep_main 0 m

-- ---- of the machine

-- the parentheses that are innermost
abbrev pub parens_in : List Frame → ℕ
parens_in [] = 0
parens_in (frames.Bracket x spot ∷ fs) = 0
parens_in (frames.Paren negated level ∷ fs) = suc (parens_in fs)

-- the innermost parentheses of a configuration
abbrev pub parens_at : Configuration → ℕ
parens_at (at p fs) = parens_in fs
parens_at (inside q text side fs) = parens_in fs

-- the state after the bytes, and the greatest number of innermost parentheses, from d on
abbrev pub trace : (List ℕ → NameTest) → Configuration → ℕ → List ℕ → Option (Configuration × ℕ)
trace n s d [] = Some (s, d)
trace n s d (b ∷ bs) = option_and_then (λ t. trace n t (max d (parens_at t)) bs) (next n s b)
