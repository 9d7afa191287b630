-- A blank behind what is written: the text has it, and all else stays.
use Rattle.std.proofs.Common.{◌≡◌, ℕ, false, List, [], ◌∷◌, ◌++◌, refl, ap, sym, subst, append_assoc}
use Rattle.iris_xpath.specs.declared.expression.NameTest.{NameTest}
use Rattle.iris_xpath.specs.declared.expression.Operand.TheVariants as operands
use Rattle.iris_xpath.specs.declared.expression.Operand.{Operand}
use Rattle.iris_xpath.specs.declared.expression.Path.{Path}
use Rattle.iris_xpath.specs.declared.expression.Expression.{Expression}
use Rattle.iris_xpath.specs.Trees.{compare_of, exists_of, add_and, add_or, joined_and}
use Rattle.iris_xpath.specs.Grammar.{tested_blank, Piece, tested, dotted, dots_blank, attr_blank, Road, path, attr, Arg, road, const, const_blank, group_blank, Term, alone, compared, grouped, Ands, one, both, Ors, one_and, either, Row, fore_text, road_text, arg_text, term_text, ands_text, ors_text, tested_text, dots_text, Fore, no_fore, fore}
use Rattle.iris_xpath.specs.Spells.{road_tree, arg_tree, term_tree, cmp_tree, ands_list, ands_tree, ors_list, GoodRoad, GoodArg, GoodTerm, GoodAnds, GoodOrs, Apart, starts_piece, starts_path, starts_road, starts_term, starts_ands, ends_road, ends_arg, ends_term, ends_ands, ends_ors}
use Rattle.iris_xpath.specs.Parens.{deep_road, deep_arg, deep_term, deep_ands, deep_ors}

abbrev pub pad_piece : Piece → Piece
pad_piece (tested t) = tested (tested_blank t 32)
pad_piece (dotted d) = dotted (dots_blank d 32)

abbrev pub pad_road : Road → Road
pad_road (path f p) = path f (pad_piece p)
pad_road (attr a) = attr (attr_blank a 32)

abbrev pub pad_arg : Arg → Arg
pad_arg (road r) = road (pad_road r)
pad_arg (const c) = const (const_blank c 32)

abbrev pub pad_term : Term → Term
pad_term (alone r) = alone (pad_road r)
pad_term (compared l c r) = compared l c (pad_arg r)
pad_term (grouped g) = grouped (group_blank g 32)

abbrev pub pad_ands : Ands → Ands
pad_ands (one t) = one (pad_term t)
pad_ands (both a g t) = both a g (pad_term t)

abbrev pub pad_ors : Ors → Ors
pad_ors (one_and a) = one_and (pad_ands a)
pad_ors (either o g a) = either o g (pad_ands a)

-- ---- the text

road_padded : (r : Road) → road_text (pad_road r) ≡ road_text r ++ 32 ∷ []
road_padded (path f (tested t)) = sym (append_assoc (fore_text f) (tested_text t) (32 ∷ []))
road_padded (path f (dotted d)) = sym (append_assoc (fore_text f) (dots_text d) (32 ∷ []))
road_padded (attr a) = refl

arg_padded : (a : Arg) → arg_text (pad_arg a) ≡ arg_text a ++ 32 ∷ []
arg_padded (road r) = road_padded r
arg_padded (const c) = refl

term_padded : (t : Term) → term_text (pad_term t) ≡ term_text t ++ 32 ∷ []
term_padded (alone r) = road_padded r
term_padded (compared l c r) = rw (arg_padded r) (simp append_assoc refl)
term_padded (grouped g) = refl

pub ands_padded : (a : Ands) → ands_text (pad_ands a) ≡ ands_text a ++ 32 ∷ []
ands_padded (one t) = term_padded t
ands_padded (both a g t) = rw (term_padded t) (simp append_assoc refl)

pub ors_padded : (o : Ors) → ors_text (pad_ors o) ≡ ors_text o ++ 32 ∷ []
ors_padded (one_and a) = ands_padded a
ors_padded (either o g a) = rw (ands_padded a) (simp append_assoc refl)

-- ---- the tree

road_same : (n : List ℕ → NameTest) (r : Road) → road_tree n (pad_road r) ≡ road_tree n r
road_same n (path f (tested t)) = refl
road_same n (path f (dotted d)) = refl
road_same n (attr a) = refl

arg_same : (n : List ℕ → NameTest) (a : Arg) → arg_tree n (pad_arg a) ≡ arg_tree n a
arg_same n (road r) = ap (λ (p : Path Expression). operands.Path p) (road_same n r)
arg_same n (const c) = refl

term_same : (n : List ℕ → NameTest) (t : Term) → term_tree n (pad_term t) ≡ term_tree n t
term_same n (alone r) = ap exists_of (road_same n r)
term_same n (compared l c r) = ap (λ (x : Operand Expression). compare_of (arg_tree n l) (cmp_tree c) x) (arg_same n r)
term_same n (grouped g) = refl

pub ands_list_same : (n : List ℕ → NameTest) (a : Ands) → ands_list n (pad_ands a) ≡ ands_list n a
ands_list_same n (one t) = ap (add_and []) (term_same n t)
ands_list_same n (both a g t) = ap (add_and (ands_list n a)) (term_same n t)

ands_same : (n : List ℕ → NameTest) (a : Ands) → ands_tree n (pad_ands a) ≡ ands_tree n a
ands_same n (one t) = term_same n t
ands_same n (both a g t) = ap (joined_and (ands_list n a)) (term_same n t)

pub ors_list_same : (n : List ℕ → NameTest) (o : Ors) → ors_list n (pad_ors o) ≡ ors_list n o
ors_list_same n (one_and a) = ap (add_or []) (ands_same n a)
ors_list_same n (either o g a) = ap (add_or (ors_list n o)) (ands_same n a)

-- ---- what is good stays good, and no word ends it

road_good : (r : Road) → GoodRoad r → GoodRoad (pad_road r)
road_good (path f (tested t)) g = (g.0, (g.1, refl))
road_good (path f (dotted d)) g = (g.0, ((g.1.0, refl), g.1.1))
road_good (attr a) g = (g, refl)

arg_good : (a : Arg) → GoodArg a → GoodArg (pad_arg a)
arg_good (road r) g = road_good r g
arg_good (const c) g = (g, refl)

term_good : (t : Term) → GoodTerm t → GoodTerm (pad_term t)
term_good (alone r) g = road_good r g
term_good (compared l c r) g = (g.0, g.1, arg_good r g.2)
term_good (grouped p) g = (g, refl)

-- it begins as before
piece_starts : (p : Piece) → starts_piece (pad_piece p) ≡ starts_piece p
piece_starts (tested t) = refl
piece_starts (dotted d) = refl

path_starts : (f : Fore) (p : Piece) → starts_path f (pad_piece p) ≡ starts_path f p
path_starts no_fore p = piece_starts p
path_starts (fore f q s) p = refl

road_starts : (r : Road) → starts_road (pad_road r) ≡ starts_road r
road_starts (path f p) = path_starts f p
road_starts (attr a) = refl

term_starts : (t : Term) → starts_term (pad_term t) ≡ starts_term t
term_starts (alone r) = road_starts r
term_starts (compared l c r) = refl
term_starts (grouped g) = refl

ands_starts : (a : Ands) → starts_ands (pad_ands a) ≡ starts_ands a
ands_starts (one t) = term_starts t
ands_starts (both a g t) = refl

starts_kept : (r : Row) (t : Term) → Apart r (starts_term t) → Apart r (starts_term (pad_term t))
starts_kept r t h = subst (Apart r) (sym (term_starts t)) h

ands_starts_kept : (r : Row) (a : Ands) → Apart r (starts_ands a) → Apart r (starts_ands (pad_ands a))
ands_starts_kept r a h = subst (Apart r) (sym (ands_starts a)) h

pub ands_good : (a : Ands) → GoodAnds a → GoodAnds (pad_ands a)
ands_good (one t) g = term_good t g
ands_good (both a r t) g = (g.0, g.1, g.2, starts_kept r t g.3, term_good t g.4)

pub ors_good : (o : Ors) → GoodOrs o → GoodOrs (pad_ors o)
ors_good (one_and a) g = ands_good a g
ors_good (either o r a) g = (g.0, g.1, g.2, ands_starts_kept r a g.3, ands_good a g.4)

road_ends : (r : Road) → ends_road (pad_road r) ≡ false
road_ends (path f (tested t)) = refl
road_ends (path f (dotted d)) = refl
road_ends (attr a) = refl

arg_ends : (a : Arg) → ends_arg (pad_arg a) ≡ false
arg_ends (road r) = road_ends r
arg_ends (const c) = refl

term_ends : (t : Term) → ends_term (pad_term t) ≡ false
term_ends (alone r) = road_ends r
term_ends (compared l c r) = arg_ends r
term_ends (grouped g) = refl

pub ands_ends : (a : Ands) → ends_ands (pad_ands a) ≡ false
ands_ends (one t) = term_ends t
ands_ends (both a g t) = term_ends t

pub ors_ends : (o : Ors) → ends_ors (pad_ors o) ≡ false
ors_ends (one_and a) = ands_ends a
ors_ends (either o g a) = ands_ends a

-- ---- parentheses

road_deep : (d : ℕ) (r : Road) → deep_road d (pad_road r) ≡ deep_road d r
road_deep d (path f (tested t)) = refl
road_deep d (path f (dotted p)) = refl
road_deep d (attr a) = refl

arg_deep : (d : ℕ) (a : Arg) → deep_arg d (pad_arg a) ≡ deep_arg d a
arg_deep d (road r) = road_deep d r
arg_deep d (const c) = refl

term_deep : (k d : ℕ) (t : Term) → deep_term k d (pad_term t) ≡ deep_term k d t
term_deep k d (alone r) = road_deep d r
term_deep k d (compared l c r) = arg_deep (deep_arg d l) r
term_deep k d (grouped g) = refl

pub ands_deep : (k d : ℕ) (a : Ands) → deep_ands k d (pad_ands a) ≡ deep_ands k d a
ands_deep k d (one t) = term_deep k d t
ands_deep k d (both a g t) = term_deep k (deep_ands k d a) t

pub ors_deep : (k d : ℕ) (o : Ors) → deep_ors k d (pad_ors o) ≡ deep_ors k d o
ors_deep k d (one_and a) = ands_deep k d a
ors_deep k d (either o g a) = ands_deep k (deep_ors k d o) a
