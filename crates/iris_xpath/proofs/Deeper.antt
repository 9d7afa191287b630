-- More parentheses around something are no fewer inside it.
use Rattle.std.proofs.Common.{ℕ, suc, max, ◌≤◌, arith}
use Rattle.iris_xpath.specs.Grammar.{Tested, word, star, predicate, tested_blank, Piece, tested, dotted, Fore, no_fore, fore, Attr, attribute, attr_blank, Road, path, attr, Arg, road, const, Group, group, not_group, group_blank, Term, alone, compared, grouped, Ands, one, both, Ors, one_and, either}
use Rattle.iris_xpath.specs.Parens.{deep_tested, deep_piece, deep_fore, deep_attr, deep_road, deep_arg, deep_group, deep_term, deep_ands, deep_ors}

max_more : (x y j k : ℕ) → x ≤ y → j ≤ k → max x (suc j) ≤ max y (suc k)
max_more x y j k h l = omega (arith, h, l)

suc_more : (j k : ℕ) → j ≤ k → suc j ≤ suc k
suc_more j k l = omega (arith, l)

same : (j : ℕ) → j ≤ j
same j = omega arith

mutual
  pub more_tested : (x y : ℕ) (t : Tested) → x ≤ y → deep_tested x t ≤ deep_tested y t
  more_tested x y (word a w) h = h
  more_tested x y star h = h
  more_tested x y (predicate t g o) h = more_ors 0 0 _ _ o (same 0) (more_tested x y t h)
  more_tested x y (tested_blank t b) h = more_tested x y t h

  more_piece : (x y : ℕ) (p : Piece) → x ≤ y → deep_piece x p ≤ deep_piece y p
  more_piece x y (tested t) h = more_tested x y t h
  more_piece x y (dotted p) h = h

  more_fore : (x y : ℕ) (f : Fore) → x ≤ y → deep_fore x f ≤ deep_fore y f
  more_fore x y no_fore h = h
  more_fore x y (fore f p s) h = more_piece _ _ p (more_fore x y f h)

  more_attr : (x y : ℕ) (a : Attr) → x ≤ y → deep_attr x a ≤ deep_attr y a
  more_attr x y (attribute f g a w) h = more_fore x y f h
  more_attr x y (attr_blank a b) h = more_attr x y a h

  more_road : (x y : ℕ) (r : Road) → x ≤ y → deep_road x r ≤ deep_road y r
  more_road x y (path f p) h = more_piece _ _ p (more_fore x y f h)
  more_road x y (attr a) h = more_attr x y a h

  more_arg : (x y : ℕ) (a : Arg) → x ≤ y → deep_arg x a ≤ deep_arg y a
  more_arg x y (road r) h = more_road x y r h
  more_arg x y (const c) h = h

  more_group : (j k x y : ℕ) (g : Group) → j ≤ k → x ≤ y → deep_group j x g ≤ deep_group k y g
  more_group j k x y (group g o) l h = more_ors (suc j) (suc k) _ _ o (suc_more j k l) (max_more x y j k h l)
  more_group j k x y (not_group t g o) l h = more_ors (suc j) (suc k) _ _ o (suc_more j k l) (max_more _ _ j k (more_tested x y t h) l)
  more_group j k x y (group_blank g b) l h = more_group j k x y g l h

  pub more_term : (j k x y : ℕ) (t : Term) → j ≤ k → x ≤ y → deep_term j x t ≤ deep_term k y t
  more_term j k x y (alone r) l h = more_road x y r h
  more_term j k x y (compared a c r) l h = more_arg _ _ r (more_arg x y a h)
  more_term j k x y (grouped g) l h = more_group j k x y g l h

  pub more_ands : (j k x y : ℕ) (a : Ands) → j ≤ k → x ≤ y → deep_ands j x a ≤ deep_ands k y a
  more_ands j k x y (one t) l h = more_term j k x y t l h
  more_ands j k x y (both a g t) l h = more_term j k _ _ t l (more_ands j k x y a l h)

  pub more_ors : (j k x y : ℕ) (o : Ors) → j ≤ k → x ≤ y → deep_ors j x o ≤ deep_ors k y o
  more_ors j k x y (one_and a) l h = more_ands j k x y a l h
  more_ors j k x y (either o g a) l h = more_ands j k _ _ a l (more_ors j k x y o l h)
