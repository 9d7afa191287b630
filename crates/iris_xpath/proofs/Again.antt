-- What is read prints to a text that is read as the same query: for each tree as written there is one that is
-- written as its query prints.
use Rattle.std.proofs.Common.{◌≡◌, ℕ, suc, max, ◌≤◌, false, true, List, [], ◌∷◌, ◌++◌, refl, ap, sym, ◌∙◌, subst, arith, append_assoc, append-nil, map, length, codes, Option, Some, None, Bool, if◌then◌else◌, nat_lt}
use Rattle.std.proofs.lemmas.Bool.Decides.{nat_tests}
use Rattle.iris_xpath.specs.declared.error.QueryLimit.{QueryLimit}
use Rattle.iris_xpath.specs.declared.error.QueryLimit.TheVariants as which
use Rattle.iris_base.specs.declared.limits.TheConstants.{MAX_PARENTHESES, MAX_NESTING}
use Rattle.iris_xpath.specs.Tally.{main_tally, excess, limit_behind}
use Rattle.iris_xpath.specs.Again.{ReadsAgain}
use Rattle.iris_xpath.proofs.Leads.{on_test}
use Rattle.std.proofs.lemmas.List.{map-append}
use Rattle.std.proofs.lemmas.List.Concat.{flat_map-append}
use Rattle.std.specs.List.{flat_map}
use Rattle.iris_xpath.specs.declared.expression.Separator.{Separator}
use Rattle.iris_xpath.specs.declared.expression.NameTest.{NameTest}
use Rattle.iris_xpath.specs.declared.expression.Step.{Step}
use Rattle.iris_xpath.specs.declared.expression.Part.{Part}
use Rattle.iris_xpath.specs.declared.expression.Part.TheVariants as parts
use Rattle.iris_xpath.specs.declared.expression.Path.{Path}
use Rattle.iris_xpath.specs.declared.expression.Comparison.{Comparison}
use Rattle.iris_xpath.specs.declared.expression.Operand.{Operand}
use Rattle.iris_xpath.specs.declared.expression.Operand.TheVariants as operands
use Rattle.iris_xpath.specs.declared.expression.Expression.{Expression}
use Rattle.iris_xpath.specs.declared.expression.Expression.TheOpen.{Expression-F}
use Rattle.iris_xpath.specs.declared.expression.Expression.TheViews.{out-roll-Expression}
use Rattle.iris_xpath.specs.Syntax.{Syntax}
use Rattle.iris_xpath.specs.Trees.{named, has, with_predicate, exists_of, compare_of, and_parts, or_parts}
use Rattle.iris_xpath.specs.Grammar.{Row, none, more, Sep, slash, slashes, sep_blank, Dots, dot, dots, dots_blank, Cmp, equal, not_equal, less, less_or_equal, greater, greater_or_equal, cmp_blank, Tested, word, star, predicate, tested_blank, Piece, tested, dotted, Fore, no_fore, fore, Attr, attribute, attr_blank, Road, path, attr, Arg, road, const, Group, group, not_group, group_blank, Term, alone, compared, grouped, Ands, one, both, Ors, one_and, either, Main, lead, step, row, sep_text, dots_text, cmp_text, tested_text, piece_text, fore_text, road_text, arg_text, ors_text}
use Rattle.iris_xpath.specs.Spells.{sep_tree, dots_tree, cmp_tree, const_tree, fore_sep, tested_tree, piece_tree, fore_tree, attr_tree, road_tree, arg_tree, group_tree, term_tree, ands_list, ands_tree, ors_list, ors_tree, main_tree, GoodSep, GoodDots, GoodCmp, GoodTested, GoodPiece, GoodFore, GoodAttr, GoodRoad, GoodArg, GoodGroup, GoodTerm, GoodAnds, GoodOrs, GoodMain, IsNot, Spells}
use Rattle.iris_xpath.specs.Grammar as grammar
use Rattle.iris_xpath.specs.Parens.{deep_tested, deep_piece, deep_fore, deep_attr, deep_road, deep_arg, deep_group, deep_term, deep_ands, deep_ors, deep_main, parens_of}
use Rattle.iris_xpath.specs.Printed.{Shown, shown, linked, link_at, bracketed, sep_shown, test_shown, sign_shown, step_text, part_text, before_part, before_attribute, path_text, operand_text, predicates_text, printed, main_text}
use Rattle.iris_xpath.proofs.Traces.{le_via, le_self, grow_tested, grow_piece, grow_arg, grow_term, grow_ands, grow_ors}
use Rattle.iris_xpath.proofs.Numbers.{ConstOf, const_again}
use Rattle.iris_xpath.proofs.Writing.{linked_end, path_is, compare_is}
use Rattle.iris_xpath.proofs.Wholes.{Full, every_of, full_append, UnitOf, PartOf, OrsOf, Whole, Inside, outside_or, plain, and_joined, or_joined, inside_of, not_whole}

-- ---- signs, dots, separators

record CmpOf (c : Comparison) : Type 0 where
  cmp : Cmp
  good : GoodCmp cmp
  tree : cmp_tree cmp ≡ c
  text : cmp_text cmp ≡ sign_shown c

cmp_again : (c : Cmp) → CmpOf (cmp_tree c)
cmp_again equal = record { cmp = equal; good = tt; tree = refl; text = refl }
cmp_again not_equal = record { cmp = not_equal; good = tt; tree = refl; text = refl }
cmp_again less = record { cmp = less; good = tt; tree = refl; text = refl }
cmp_again less_or_equal = record { cmp = less_or_equal; good = tt; tree = refl; text = refl }
cmp_again greater = record { cmp = greater; good = tt; tree = refl; text = refl }
cmp_again greater_or_equal = record { cmp = greater_or_equal; good = tt; tree = refl; text = refl }
cmp_again (cmp_blank c b) = cmp_again c

record DotsOf (p : Part Expression) : Type 0 where
  dots : Dots
  good : GoodDots dots
  tree : dots_tree dots ≡ p
  text : dots_text dots ≡ part_text predicates_text p
  behind : before_part p ≡ codes "/"

dots_again : (d : Dots) → DotsOf (dots_tree d)
dots_again dot = record { dots = dot; good = tt; tree = refl; text = refl; behind = refl }
dots_again dots = record { dots = dots; good = tt; tree = refl; text = refl; behind = refl }
dots_again (dots_blank d b) = dots_again d

record SepOf (s : Separator) : Type 0 where
  sep : Sep
  good : GoodSep sep
  tree : sep_tree sep ≡ s
  text : sep_text sep ≡ sep_shown s

sep_again : (s : Sep) → SepOf (sep_tree s)
sep_again slash = record { sep = slash; good = tt; tree = refl; text = refl }
sep_again slashes = record { sep = slashes; good = tt; tree = refl; text = refl }
sep_again (sep_blank s b) = sep_again s

-- ---- steps, parts and paths

record StepOf (n : List ℕ → NameTest) (most : ℕ) (sep : Separator) (s : Step Expression) : Type 0 where
  step : Tested
  good : GoodTested step
  tree : tested_tree n sep step ≡ s
  text : tested_text step ≡ step_text predicates_text s
  low : (x : ℕ) → x ≤ most → deep_tested x step ≤ most

record PieceOf (n : List ℕ → NameTest) (most : ℕ) (sep : Separator) (p : Part Expression) : Type 0 where
  piece : Piece
  good : GoodPiece sep piece
  tree : piece_tree n sep piece ≡ p
  text : piece_text piece ≡ part_text predicates_text p
  behind : before_part p ≡ sep_shown sep
  low : (x : ℕ) → x ≤ most → deep_piece x piece ≤ most

abbrev linked_parts : List (Part Expression) → List ℕ
linked_parts ps = linked before_part (part_text predicates_text) ps

record ForeOf (n : List ℕ → NameTest) (most : ℕ) (sep : Separator) (ps : List (Part Expression)) : Type 0 where
  fore : Fore
  good : GoodFore fore
  tree : fore_tree n fore ≡ ps
  sep_same : fore_sep fore ≡ sep
  text : fore_text fore ≡ linked_parts ps ++ link_at (length ps) (sep_shown sep)
  low : (x : ℕ) → x ≤ most → deep_fore x fore ≤ most

record RoadOf (n : List ℕ → NameTest) (most : ℕ) (p : Path Expression) : Type 0 where
  road : Road
  good : GoodRoad road
  tree : road_tree n road ≡ p
  text : road_text road ≡ path_text predicates_text p
  low : (x : ℕ) → x ≤ most → deep_road x road ≤ most

record ArgOf (n : List ℕ → NameTest) (most : ℕ) (e : Operand Expression) : Type 0 where
  arg : Arg
  good : GoodArg arg
  tree : arg_tree n arg ≡ e
  text : arg_text arg ≡ operand_text predicates_text e
  low : (x : ℕ) → x ≤ most → deep_arg x arg ≤ most

-- a word stays what a test prints
abbrev pub Keeps : (List ℕ → NameTest) → Type 0
Keeps n = (w : List ℕ) → test_shown (n w) ≡ w

predicates_end : (s : Step Expression) (e : Expression) → step_text predicates_text (with_predicate s e) ≡ step_text predicates_text s ++ bracketed (shown e)
predicates_end s e =
    let m : map shown (s.predicates ++ e ∷ []) ≡ map shown s.predicates ++ shown e ∷ [] = map-append shown s.predicates (e ∷ []) in
    let f : flat_map bracketed (map shown s.predicates ++ shown e ∷ []) ≡ flat_map bracketed (map shown s.predicates) ++ (bracketed (shown e) ++ []) = flat_map-append bracketed (map shown s.predicates) (shown e ∷ []) in
    ap (λ (z : List Shown). test_shown s.test ++ flat_map bracketed z) m ∙ ap (λ (z : List ℕ). test_shown s.test ++ z) f ∙ ap (λ (z : List ℕ). test_shown s.test ++ (flat_map bracketed (map shown s.predicates) ++ z)) (append-nil (bracketed (shown e))) ∙ sym (append_assoc (test_shown s.test) (flat_map bracketed (map shown s.predicates)) (bracketed (shown e)))

step_predicate : (n : List ℕ → NameTest) (most : ℕ) (sep : Separator) (s : Step Expression) (e : Expression) → StepOf n most sep s → OrsOf n 0 most e → StepOf n most sep (with_predicate s e)
step_predicate n most sep s e t o =
    record {
      step = predicate t.step none o.ors;
      good = (t.good, tt, o.good);
      tree = ap (λ (z : Step Expression). with_predicate z (ors_tree n o.ors)) t.tree ∙ ap (with_predicate s) o.tree;
      text = ap (λ (z : List ℕ). z ++ 91 ∷ (ors_text o.ors ++ 93 ∷ [])) t.text ∙ ap (λ (z : List ℕ). step_text predicates_text s ++ 91 ∷ (z ++ 93 ∷ [])) o.text ∙ sym (predicates_end s e);
      low = λ x h. o.low (deep_tested x t.step) (t.low x h);
    }

step_sep : (n : List ℕ → NameTest) (sep : Separator) (t : Tested) → (tested_tree n sep t).separator ≡ sep
step_sep n sep (word a w) = refl
step_sep n sep star = refl
step_sep n sep (predicate t g o) = step_sep n sep t
step_sep n sep (tested_blank t b) = step_sep n sep t

length_end : (ps : List (Part Expression)) (p : Part Expression) (link : List ℕ) → link_at (length (ps ++ p ∷ [])) link ≡ link
length_end [] p link = refl
length_end (q ∷ ps) p link = refl

regroup : (a b c d : List ℕ) → (a ++ b) ++ (c ++ d) ≡ (a ++ (b ++ c)) ++ d
regroup a b c d = simp append_assoc refl

fore_more : (n : List ℕ → NameTest) (most : ℕ) (sep : Separator) (ps : List (Part Expression)) (p : Part Expression) (s : Separator) → ForeOf n most sep ps → PieceOf n most sep p → SepOf s → ForeOf n most s (ps ++ p ∷ [])
fore_more n most sep ps p s f q t =
    let e : linked_parts (ps ++ p ∷ []) ≡ linked_parts ps ++ (link_at (length ps) (before_part p) ++ part_text predicates_text p) = linked_end before_part (part_text predicates_text) ps p in
    let e2 : linked_parts (ps ++ p ∷ []) ≡ linked_parts ps ++ (link_at (length ps) (sep_shown sep) ++ part_text predicates_text p) = e ∙ ap (λ (z : List ℕ). linked_parts ps ++ (link_at (length ps) z ++ part_text predicates_text p)) q.behind in
    let x : fore_text f.fore ++ (piece_text q.piece ++ sep_text t.sep) ≡ (linked_parts ps ++ link_at (length ps) (sep_shown sep)) ++ (part_text predicates_text p ++ sep_shown s) = rw (f.text, q.text, t.text) refl in
    let y : (linked_parts ps ++ link_at (length ps) (sep_shown sep)) ++ (part_text predicates_text p ++ sep_shown s) ≡ (linked_parts ps ++ (link_at (length ps) (sep_shown sep) ++ part_text predicates_text p)) ++ sep_shown s = regroup (linked_parts ps) (link_at (length ps) (sep_shown sep)) (part_text predicates_text p) (sep_shown s) in
    record {
      fore = fore f.fore q.piece t.sep;
      good = (f.good, subst (λ (z : Separator). GoodPiece z q.piece) (sym f.sep_same) q.good, t.good);
      tree = ap (λ (z : Separator). fore_tree n f.fore ++ piece_tree n z q.piece ∷ []) f.sep_same ∙ ap (λ (z : List (Part Expression)). z ++ piece_tree n sep q.piece ∷ []) f.tree ∙ ap (λ (z : Part Expression). ps ++ z ∷ []) q.tree;
      sep_same = t.tree;
      text = x ∙ y ∙ ap (λ (z : List ℕ). z ++ sep_shown s) (sym e2) ∙ ap (λ (z : List ℕ). linked_parts (ps ++ p ∷ []) ++ z) (sym (length_end ps p (sep_shown s)));
      low = λ d h. q.low (deep_fore d f.fore) (f.low d h);
    }

road_more : (n : List ℕ → NameTest) (most : ℕ) (sep : Separator) (ps : List (Part Expression)) (p : Part Expression) → ForeOf n most sep ps → PieceOf n most sep p → RoadOf n most (record { parts = ps ++ p ∷ []; attribute = None })
road_more n most sep ps p f q =
    let e : linked_parts (ps ++ p ∷ []) ≡ linked_parts ps ++ (link_at (length ps) (before_part p) ++ part_text predicates_text p) = linked_end before_part (part_text predicates_text) ps p in
    let e2 : linked_parts (ps ++ p ∷ []) ≡ linked_parts ps ++ (link_at (length ps) (sep_shown sep) ++ part_text predicates_text p) = e ∙ ap (λ (z : List ℕ). linked_parts ps ++ (link_at (length ps) z ++ part_text predicates_text p)) q.behind in
    record {
      road = path f.fore q.piece;
      good = (f.good, subst (λ (z : Separator). GoodPiece z q.piece) (sym f.sep_same) q.good);
      tree = ap (λ (z : List (Part Expression)). record { parts = z; attribute = None }) (ap (λ (z : Separator). fore_tree n f.fore ++ piece_tree n z q.piece ∷ []) f.sep_same ∙ ap (λ (z : List (Part Expression)). z ++ piece_tree n sep q.piece ∷ []) f.tree ∙ ap (λ (z : Part Expression). ps ++ z ∷ []) q.tree);
      text = ap (λ (z : List ℕ). z ++ piece_text q.piece) f.text ∙ ap (λ (z : List ℕ). (linked_parts ps ++ link_at (length ps) (sep_shown sep)) ++ z) q.text ∙ append_assoc (linked_parts ps) (link_at (length ps) (sep_shown sep)) (part_text predicates_text p) ∙ sym e2 ∙ sym (append-nil (linked_parts (ps ++ p ∷ [])));
      low = λ d h. q.low (deep_fore d f.fore) (f.low d h);
    }

attr_more : (n : List ℕ → NameTest) (most : ℕ) (sep : Separator) (ps : List (Part Expression)) (a : ℕ) (w : Row) → ForeOf n most sep ps → GoodAttr (attribute no_fore none a w) → before_attribute ps sep ≡ link_at (length ps) (sep_shown sep) → RoadOf n most (record { parts = ps; attribute = Some (record { separator = sep; name = a ∷ row w }) })
attr_more n most sep ps a w f g e =
    record {
      road = attr (attribute f.fore none a w);
      good = (f.good, g.1, g.2, g.3);
      tree = ap (λ (z : List (Part Expression)). record { parts = z; attribute = Some (record { separator = fore_sep f.fore; name = a ∷ row w }) }) f.tree ∙ ap (λ (z : Separator). record { parts = ps; attribute = Some (record { separator = z; name = a ∷ row w }) }) f.sep_same;
      text = ap (λ (z : List ℕ). z ++ 64 ∷ a ∷ row w) f.text ∙ append_assoc (linked_parts ps) (link_at (length ps) (sep_shown sep)) (64 ∷ a ∷ row w) ∙ ap (λ (z : List ℕ). linked_parts ps ++ (z ++ 64 ∷ a ∷ row w)) (sym e);
      low = f.low;
    }

before_two : (ps : List (Part Expression)) (p : Part Expression) (s : Separator) → before_attribute (ps ++ p ∷ []) s ≡ link_at (length (ps ++ p ∷ [])) (sep_shown s)
before_two [] p s = refl
before_two (q ∷ ps) p s = refl

before_end : (n : List ℕ → NameTest) (f : Fore) → before_attribute (fore_tree n f) (fore_sep f) ≡ link_at (length (fore_tree n f)) (sep_shown (fore_sep f))
before_end n no_fore = refl
before_end n (fore f p s) = before_two (fore_tree n f) (piece_tree n (fore_sep f) p) (sep_tree s)

alone_whole : (n : List ℕ → NameTest) (k most : ℕ) (p : Path Expression) → RoadOf n most p → Whole n k most (exists_of p)
alone_whole n k most p r =
    let s : shown (exists_of p) ≡ record { is_or = false; text = path_text predicates_text p } = path_is p in
    let f : (shown (exists_of p)).is_or ≡ false = ap (λ (z : Shown). z.is_or) s in
    plain n k most (exists_of p)
    (record { term = alone r.road; good = r.good; tree = ap exists_of r.tree; text = r.text ∙ sym (outside_or (shown (exists_of p)) f ∙ ap (λ (z : Shown). z.text) s); single = ap (and_parts (exists_of p)) (out-roll-Expression (Expression-F.Path p)); low = r.low })
    (ap (or_parts (exists_of p)) (out-roll-Expression (Expression-F.Path p))) f

compared_whole : (n : List ℕ → NameTest) (k most : ℕ) (l : Operand Expression) (c : Comparison) (r : Operand Expression) → ArgOf n most l → CmpOf c → ArgOf n most r → Whole n k most (compare_of l c r)
compared_whole n k most l c r x y z =
    let s : shown (compare_of l c r) ≡ record { is_or = false; text = operand_text predicates_text l ++ (sign_shown c ++ operand_text predicates_text r) } = compare_is l c r in
    let f : (shown (compare_of l c r)).is_or ≡ false = ap (λ (u : Shown). u.is_or) s in
    let t : arg_text x.arg ++ (cmp_text y.cmp ++ arg_text z.arg) ≡ operand_text predicates_text l ++ (sign_shown c ++ operand_text predicates_text r) = rw (x.text, y.text, z.text) refl in
    plain n k most (compare_of l c r)
    (record {
      term = compared x.arg y.cmp z.arg;
      good = (x.good, y.good, z.good);
      tree = ap (λ (u : Operand Expression). compare_of u (cmp_tree y.cmp) (arg_tree n z.arg)) x.tree ∙ ap (λ (u : Comparison). compare_of l u (arg_tree n z.arg)) y.tree ∙ ap (compare_of l c) z.tree;
      text = t ∙ sym (outside_or (shown (compare_of l c r)) f ∙ ap (λ (u : Shown). u.text) s);
      single = ap (and_parts (compare_of l c r)) (out-roll-Expression (Expression-F.Compare l c r));
      low = λ d h. z.low (deep_arg d x.arg) (x.low d h);
    })
    (ap (or_parts (compare_of l c r)) (out-roll-Expression (Expression-F.Compare l c r))) f

-- the word `not`, without its blanks
record NotOf : Type 0 where
  first : ℕ
  others : Row
  is : first ∷ row others ≡ codes "not"
  good : GoodTested (word first others)

not_of : (t : Tested) → IsNot t → GoodTested t → NotOf
not_of (word a w) i g = record { first = a; others = w; is = i; good = g }
not_of star i g = absurd i
not_of (predicate t r o) i g = absurd i
not_of (tested_blank t b) i g = not_of t i g.0

max_right : (x y : ℕ) → y ≤ max x y
max_right x y = omega arith

zero_least : (x : ℕ) → 0 ≤ x
zero_least x = omega arith

mutual
  tested_again : (n : List ℕ → NameTest) → Keeps n → (most : ℕ) (sep : Separator) (t : Tested) → GoodTested t → (z : ℕ) → deep_tested z t ≤ most → StepOf n most sep (tested_tree n sep t)
  tested_again n k most sep (word a w) g z l = record { step = word a w; good = g; tree = refl; text = sym (append-nil (test_shown (n (a ∷ row w))) ∙ k (a ∷ row w)); low = λ x h. h }
  tested_again n k most sep star g z l = record { step = star; good = tt; tree = refl; text = refl; low = λ x h. h }
  tested_again n k most sep (predicate t r o) g z l =
      step_predicate n most sep (tested_tree n sep t) (ors_tree n o) (tested_again n k most sep t g.0 z (le_via _ _ most (grow_ors 0 (deep_tested z t) o) l)) (ors_again n k 0 most o g.2 (deep_tested z t) l).whole
  tested_again n k most sep (tested_blank t b) g z l = tested_again n k most sep t g.0 z l

  piece_again : (n : List ℕ → NameTest) → Keeps n → (most : ℕ) (sep : Separator) (p : Piece) → GoodPiece sep p → (z : ℕ) → deep_piece z p ≤ most → PieceOf n most sep (piece_tree n sep p)
  piece_again n k most sep (tested t) g z l =
      let s : StepOf n most sep (tested_tree n sep t) = tested_again n k most sep t g z l in
      record { piece = tested s.step; good = s.good; tree = ap (λ (x : Step Expression). parts.Step x) s.tree; text = s.text; behind = ap sep_shown (step_sep n sep t); low = s.low }
  piece_again n k most sep (dotted d) g z l =
      let s : DotsOf (dots_tree d) = dots_again d in
      record { piece = dotted s.dots; good = (s.good, g.1); tree = s.tree; text = s.text; behind = s.behind ∙ sym (ap sep_shown g.1); low = λ x h. h }

  fore_again : (n : List ℕ → NameTest) → Keeps n → (most : ℕ) (f : Fore) → GoodFore f → (z : ℕ) → deep_fore z f ≤ most → ForeOf n most (fore_sep f) (fore_tree n f)
  fore_again n k most no_fore g z l = record { fore = no_fore; good = tt; tree = refl; sep_same = refl; text = refl; low = λ x h. h }
  fore_again n k most (fore f p s) g z l =
      fore_more n most (fore_sep f) (fore_tree n f) (piece_tree n (fore_sep f) p) (sep_tree s) (fore_again n k most f g.0 z (le_via _ _ most (grow_piece (deep_fore z f) p) l)) (piece_again n k most (fore_sep f) p g.1 (deep_fore z f) l) (sep_again s)

  attr_again : (n : List ℕ → NameTest) → Keeps n → (most : ℕ) (a : Attr) → GoodAttr a → (z : ℕ) → deep_attr z a ≤ most → RoadOf n most (attr_tree n a)
  attr_again n k most (attribute f r a w) g z l = attr_more n most (fore_sep f) (fore_tree n f) a w (fore_again n k most f g.0 z l) (tt, tt, g.2, g.3) (before_end n f)
  attr_again n k most (attr_blank a b) g z l = attr_again n k most a g.0 z l

  road_again : (n : List ℕ → NameTest) → Keeps n → (most : ℕ) (r : Road) → GoodRoad r → (z : ℕ) → deep_road z r ≤ most → RoadOf n most (road_tree n r)
  road_again n k most (path f p) g z l =
      road_more n most (fore_sep f) (fore_tree n f) (piece_tree n (fore_sep f) p) (fore_again n k most f g.0 z (le_via _ _ most (grow_piece (deep_fore z f) p) l)) (piece_again n k most (fore_sep f) p g.1 (deep_fore z f) l)
  road_again n k most (attr a) g z l = attr_again n k most a g z l

  arg_again : (n : List ℕ → NameTest) → Keeps n → (most : ℕ) (a : Arg) → GoodArg a → (z : ℕ) → deep_arg z a ≤ most → ArgOf n most (arg_tree n a)
  arg_again n k most (road r) g z l =
      let s : RoadOf n most (road_tree n r) = road_again n k most r g z l in
      record { arg = road s.road; good = s.good; tree = ap (λ (x : Path Expression). operands.Path x) s.tree; text = s.text; low = s.low }
  arg_again n k most (const c) g z l =
      let s : ConstOf (const_tree c) = const_again c g in
      record { arg = const s.const; good = s.good; tree = s.tree; text = s.text; low = λ x h. h }

  group_again : (n : List ℕ → NameTest) → Keeps n → (j most : ℕ) (p : Group) → GoodGroup p → (z : ℕ) → deep_group j z p ≤ most → Whole n j most (group_tree n p)
  group_again n k j most (group r o) g z l =
      (ors_again n k (suc j) most o g.1 (max z (suc j)) l).within j refl (le_via _ _ most (max_right z (suc j)) (le_via _ _ most (grow_ors (suc j) (max z (suc j)) o) l))
  group_again n k j most (not_group t r o) g z l =
      let w : NotOf = not_of t g.0 g.1 in
      not_whole n j most w.first w.others (ors_tree n o) (le_via _ _ most (max_right (deep_tested z t) (suc j)) (le_via _ _ most (grow_ors (suc j) (max (deep_tested z t) (suc j)) o) l)) w.is w.good (ors_again n k (suc j) most o g.3 (max (deep_tested z t) (suc j)) l).whole
  group_again n k j most (group_blank p b) g z l = group_again n k j most p g.0 z l

  term_again : (n : List ℕ → NameTest) → Keeps n → (j most : ℕ) (t : Term) → GoodTerm t → (z : ℕ) → deep_term j z t ≤ most → Whole n j most (term_tree n t)
  term_again n k j most (alone r) g z l = alone_whole n j most (road_tree n r) (road_again n k most r g z l)
  term_again n k j most (compared a c b) g z l = compared_whole n j most (arg_tree n a) (cmp_tree c) (arg_tree n b) (arg_again n k most a g.0 z (le_via _ _ most (grow_arg (deep_arg z a) b) l)) (cmp_again c) (arg_again n k most b g.2 (deep_arg z a) l)
  term_again n k j most (grouped p) g z l = group_again n k j most p g z l

  units_again : (n : List ℕ → NameTest) → Keeps n → (j most : ℕ) (a : Ands) → GoodAnds a → (z : ℕ) → deep_ands j z a ≤ most → Full (UnitOf n j most) (ands_list n a)
  units_again n k j most (one t) g z l = (term_again n k j most t g z l).units
  units_again n k j most (both a r t) g z l =
      full_append (UnitOf n j most) (ands_list n a) _ (units_again n k j most a g.0 z (le_via _ _ most (grow_term j (deep_ands j z a) t) l)) (every_of (UnitOf n j most) _ (term_again n k j most t g.4 (deep_ands j z a) l).units)

  ands_again : (n : List ℕ → NameTest) → Keeps n → (j most : ℕ) (a : Ands) → GoodAnds a → (z : ℕ) → deep_ands j z a ≤ most → Whole n j most (ands_tree n a)
  ands_again n k j most (one t) g z l = term_again n k j most t g z l
  ands_again n k j most (both a r t) g z l =
      and_joined n j most (ands_list n a) (term_tree n t) _ refl (units_again n k j most a g.0 z (le_via _ _ most (grow_term j (deep_ands j z a) t) l)) (term_again n k j most t g.4 (deep_ands j z a) l).units

  parts_again : (n : List ℕ → NameTest) → Keeps n → (j most : ℕ) (o : Ors) → GoodOrs o → (z : ℕ) → deep_ors j z o ≤ most → Full (PartOf n j most) (ors_list n o)
  parts_again n k j most (one_and a) g z l = (ands_again n k j most a g z l).parts
  parts_again n k j most (either o r a) g z l =
      full_append (PartOf n j most) (ors_list n o) _ (parts_again n k j most o g.0 z (le_via _ _ most (grow_ands j (deep_ors j z o) a) l)) (every_of (PartOf n j most) _ (ands_again n k j most a g.4 (deep_ors j z o) l).parts)

  ors_again : (n : List ℕ → NameTest) → Keeps n → (j most : ℕ) (o : Ors) → GoodOrs o → (z : ℕ) → deep_ors j z o ≤ most → Inside n j most (ors_tree n o)
  ors_again n k j most (one_and a) g z l = inside_of n j most (ands_tree n a) (ands_again n k j most a g z l)
  ors_again n k j most (either o r a) g z l =
      or_joined n j most (ors_list n o) (ands_tree n a) _ refl (parts_again n k j most o g.0 z (le_via _ _ most (grow_ands j (deep_ors j z o) a) l)) (ands_again n k j most a g.4 (deep_ors j z o) l).parts

-- ---- queries

record MainOf (n : List ℕ → NameTest) (most : ℕ) (q : Syntax) : Type 0 where
  main : Main
  good : GoodMain main
  tree : main_tree n main ≡ q
  text : grammar.main_text main ≡ printed q
  low : (x : ℕ) → x ≤ most → deep_main x main ≤ most

main_more : (n : List ℕ → NameTest) (most : ℕ) (q : Syntax) (sep : Separator) (s : Step Expression) → MainOf n most q → SepOf sep → StepOf n most sep s → s.separator ≡ sep → MainOf n most (q ++ s ∷ [])
main_more n most q sep s m p t e =
    let f : printed (q ++ s ∷ []) ≡ printed q ++ (main_text s ++ []) = flat_map-append main_text q (s ∷ []) in
    let x : grammar.main_text m.main ++ (sep_text p.sep ++ tested_text t.step) ≡ printed q ++ (sep_shown sep ++ step_text predicates_text s) = rw (m.text, p.text, t.text) refl in
    record {
      main = step m.main p.sep t.step;
      good = (m.good, p.good, t.good);
      tree = ap (λ (z : Syntax). z ++ tested_tree n (sep_tree p.sep) t.step ∷ []) m.tree ∙ ap (λ (z : Separator). q ++ tested_tree n z t.step ∷ []) p.tree ∙ ap (λ (z : Step Expression). q ++ z ∷ []) t.tree;
      text = x ∙ ap (λ (z : Separator). printed q ++ (sep_shown z ++ step_text predicates_text s)) (sym e) ∙ ap (λ (z : List ℕ). printed q ++ z) (sym (append-nil (main_text s))) ∙ sym f;
      low = λ d h. t.low (deep_main d m.main) (m.low d h);
    }

main_again : (n : List ℕ → NameTest) → Keeps n → (most : ℕ) (m : Main) → GoodMain m → (z : ℕ) → deep_main z m ≤ most → MainOf n most (main_tree n m)
main_again n k most (lead r) g z l = record { main = lead none; good = tt; tree = refl; text = refl; low = λ x h. h }
main_again n k most (step m s t) g z l =
    main_more n most (main_tree n m) (sep_tree s) (tested_tree n (sep_tree s) t) (main_again n k most m g.0 z (le_via _ _ most (grow_tested (deep_main z m) t) l)) (sep_again s) (tested_again n k most (sep_tree s) t g.2 (deep_main z m) l) (step_sep n (sep_tree s) t)

-- a query that is written somehow is written as it prints too, with no more parentheses
pub again : (n : List ℕ → NameTest) → Keeps n → (text : List ℕ) (q : Syntax) (m : Main) → Spells n text q m → (w : Main) × Spells n (printed q) q w × (parens_of w ≤ parens_of m)
again n k text q m s =
    let a : MainOf n (parens_of m) (main_tree n m) = main_again n k (parens_of m) m s.good 0 (le_self (parens_of m)) in
    let p : printed q ≡ grammar.main_text a.main = ap printed s.tree ∙ sym a.text in
    (a.main, record { some = s.some; good = a.good; spelled = p; tree = s.tree ∙ sym a.tree }, a.low 0 (zero_least (parens_of m)))

-- ---- the reader

gate : (w v : QueryLimit) (b c d : Bool) → (b ≡ false → c ≡ false) → (if b then Some w else (if d then Some v else None)) ≡ None → (if c then Some w else (if d then Some v else None)) ≡ None
gate w v true c d f h = absurd (cc)
gate w v false true d f h = absurd (let e : true ≡ false = f refl in cc)
gate w v false false d f h = h

fewer : (p r : ℕ) → p ≤ r → nat_lt MAX_PARENTHESES r ≡ false → nat_lt MAX_PARENTHESES p ≡ false
fewer p r h e = grind (arith, nat_tests)

behind_fewer : (o : Option QueryLimit) (q : Syntax) (p r : ℕ) → p ≤ r → limit_behind o q r ≡ None → limit_behind o q p ≡ None
behind_fewer (Some w) q p r h e = e
behind_fewer None q p r h e = gate which.Parens which.Depth (nat_lt MAX_PARENTHESES r) (nat_lt MAX_PARENTHESES p) (nat_lt MAX_NESTING (main_tally q).depth) (fewer p r h) e

-- what a word tests prints as the word
pub keeps : (kinds : List (List ℕ)) → Keeps (named kinds)
keeps kinds w = on_test (λ (t : NameTest). test_shown t ≡ w) (has kinds w) _ _ (λ _. refl) (λ _. refl)

-- a query that was read prints to a text that is read as it
pub reads_again : (q : Syntax) → ReadsAgain q
reads_again q kinds f =
    let a = again (named kinds) (keeps kinds) f.0 q f.1.1.0 f.1.1.1 in
    ((a.0, a.1), λ l. (l, (a.0, a.1, behind_fewer (excess q) q (parens_of a.0) (parens_of f.1.1.0) a.2 f.1.1.2)))
