-- How deep parentheses are nested where a spelling is run.
use Rattle.std.proofs.Common.{◌≡◌, ℕ, Bool, true, false, ◌&&◌, ◌==◌, List, [], ◌∷◌, ◌++◌, refl, ap, sym, ◌∙◌, subst, arith, append_assoc, append-nil, Option, Some, option_and_then}
use Rattle.iris_xpath.specs.declared.expression.Separator.{Separator}
use Rattle.iris_xpath.specs.declared.expression.Separator.TheVariants.{Slash, DoubleSlash}
use Rattle.iris_xpath.specs.declared.expression.NameTest.{NameTest}
use Rattle.iris_xpath.specs.declared.expression.NameTest.TheVariants.{Any}
use Rattle.iris_xpath.specs.declared.expression.Part.{Part}
use Rattle.iris_xpath.specs.declared.expression.Part.TheVariants as parts
use Rattle.iris_xpath.specs.declared.expression.Operand.TheVariants as operands
use Rattle.iris_xpath.specs.declared.expression.Expression.{Expression}
use Rattle.iris_xpath.specs.Syntax.{Syntax}
use Rattle.iris_xpath.specs.declared.state.Level.{Level}
use Rattle.iris_xpath.specs.declared.state.Side.{Side}
use Rattle.iris_xpath.specs.declared.state.Spot.{Spot}
use Rattle.iris_xpath.specs.declared.state.Spot.TheVariants as spots
use Rattle.iris_xpath.specs.declared.state.Frame.{Frame}
use Rattle.iris_xpath.specs.declared.state.Frame.TheVariants as frames
use Rattle.iris_xpath.specs.declared.state.Link.{Link}
use Rattle.iris_xpath.specs.declared.state.Link.TheVariants as links
use Rattle.iris_xpath.specs.declared.state.State.TheVariants as states
use Rattle.iris_xpath.specs.Bytes.{is_letter, is_digit, is_word_byte, is_blank}
use Rattle.iris_xpath.specs.Trees.{step_of, with_predicate, negated_if, joined_and, add_and, add_or}
use Rattle.iris_xpath.specs.Machine.{Configuration, at, no_units, close, end_unit, end_operand, next, start}
use Rattle.iris_xpath.specs.Grammar.{Row, none, more, Sep, slash, slashes, sep_blank, Dots, dot, dots, dots_blank, Cmp, equal, not_equal, less, less_or_equal, greater, greater_or_equal, cmp_blank, Const, literal, number, negative, const_blank, Tested, word, star, predicate, tested_blank, Piece, tested, dotted, Fore, no_fore, fore, Attr, attribute, attr_blank, Road, path, attr, Arg, road, const, Group, group, not_group, group_blank, Term, alone, compared, grouped, Ands, one, both, Ors, one_and, either, Main, lead, step, row, sep_text, dots_text, cmp_text, const_text, tested_text, piece_text, fore_text, attr_text, road_text, arg_text, group_text, term_text, ands_text, ors_text, main_text}
use Rattle.iris_xpath.specs.Spells.{sep_tree, dots_tree, cmp_tree, const_tree, fore_sep, tested_tree, fore_tree, attr_tree, road_tree, arg_tree, group_tree, term_tree, ands_list, ors_list, ors_tree, main_tree, starts_tested, starts_piece, starts_path, starts_at, starts_attr, starts_road, starts_const, starts_arg, starts_group, starts_term, starts_ands, ends_tested, ends_road, ends_arg, ends_term, ends_ands, ends_ors, Apart, Each, HasNo, GoodSep, GoodDots, GoodCmp, GoodConst, GoodTested, GoodPiece, GoodFore, GoodAttr, GoodRoad, GoodArg, GoodGroup, GoodTerm, GoodAnds, GoodOrs, GoodMain, Spells}
use Rattle.iris_xpath.proofs.Written.{look_sep, look_attr, look_const, look_literal, look_right}
use Rattle.std.proofs.Common.{suc, max, ◌≤◌}
use Rattle.iris_xpath.specs.Parens.{deep_tested, deep_piece, deep_fore, deep_attr, deep_road, deep_arg, deep_group, deep_term, deep_ands, deep_ors, deep_main, parens_of, parens_in, parens_at, trace}
use Rattle.iris_xpath.proofs.Leads.{and_false}
use Rattle.iris_xpath.proofs.Runs.{Ender, Final, seen, seen_next, seen_blank, seen_dots, seen_piece, piece_slash, piece_ends, dots_blank_next, literal_ends, const_blank_next, const_ends, attr_blank_next, attr_ends, cmp_blank_next, left_side, ands_last, ands_front, ands_step, ors_end, ors_front, ors_step, ors_whole, final_93, final_41, final_97, final_111, Knows, not_tree, any_step, main_state, main_slash}
use Rattle.iris_xpath.proofs.Begins.{letter_is, digit_is, blank_is, BeginsStep, BeginsPart, BeginsArg, BeginsTerm, unit_begins, and_begins, or_begins, side_of, cmp_begins, sep_begins, main_begins, sep_blank_next}

abbrev on : (List ℕ → NameTest) → ℕ → List ℕ → Option Configuration → Option (Configuration × ℕ)
on n d u r = option_and_then (λ t. trace n t (max d (parens_at t)) u) r

goes : (n : List ℕ → NameTest) (d : ℕ) (u : List ℕ) (r q : Option Configuration) → r ≡ q → on n d u r ≡ on n d u q
goes n d u r q e = ap (on n d u) e

max_le : (d p : ℕ) → p ≤ d → max d p ≡ d
max_le d p h = omega (arith, h)

-- a byte that leads to a state with no more parentheses
to : (n : List ℕ → NameTest) (d : ℕ) (u : List ℕ) (r : Option Configuration) (y : Configuration) → r ≡ Some y → parens_at y ≤ d → on n d u r ≡ trace n y d u
to n d u r y e h = ap (on n d u) e ∙ ap (λ (k : ℕ). trace n y k u) (max_le d (parens_at y) h)

-- ---- the greatest number only grows

-- a number is at most the greater of two
pub grow_max : (d p : ℕ) → d ≤ max d p
grow_max d p = omega arith

-- from one bound to a greater one
pub le_via : (a b c : ℕ) → a ≤ b → b ≤ c → a ≤ c
le_via a b c h k = omega (arith, h, k)

-- a number is at most itself
pub le_self : (a : ℕ) → a ≤ a
le_self a = omega arith

mutual
  pub grow_tested : (d : ℕ) (t : Tested) → d ≤ deep_tested d t
  grow_tested d (word a w) = le_self d
  grow_tested d star = le_self d
  grow_tested d (predicate t g o) = le_via d (deep_tested d t) _ (grow_tested d t) (grow_ors 0 (deep_tested d t) o)
  grow_tested d (tested_blank t b) = grow_tested d t

  pub grow_piece : (d : ℕ) (p : Piece) → d ≤ deep_piece d p
  grow_piece d (tested t) = grow_tested d t
  grow_piece d (dotted p) = le_self d

  pub grow_fore : (d : ℕ) (f : Fore) → d ≤ deep_fore d f
  grow_fore d no_fore = le_self d
  grow_fore d (fore f p s) = le_via d (deep_fore d f) _ (grow_fore d f) (grow_piece (deep_fore d f) p)

  pub grow_attr : (d : ℕ) (a : Attr) → d ≤ deep_attr d a
  grow_attr d (attribute f g a w) = grow_fore d f
  grow_attr d (attr_blank a b) = grow_attr d a

  pub grow_road : (d : ℕ) (r : Road) → d ≤ deep_road d r
  grow_road d (path f p) = le_via d (deep_fore d f) _ (grow_fore d f) (grow_piece (deep_fore d f) p)
  grow_road d (attr a) = grow_attr d a

  pub grow_arg : (d : ℕ) (a : Arg) → d ≤ deep_arg d a
  grow_arg d (road r) = grow_road d r
  grow_arg d (const c) = le_self d

  pub grow_group : (k d : ℕ) (g : Group) → d ≤ deep_group k d g
  grow_group k d (group g o) = le_via d (max d (suc k)) _ (grow_max d (suc k)) (grow_ors (suc k) (max d (suc k)) o)
  grow_group k d (not_group t g o) = le_via d (deep_tested d t) _ (grow_tested d t) (le_via (deep_tested d t) (max (deep_tested d t) (suc k)) _ (grow_max (deep_tested d t) (suc k)) (grow_ors (suc k) (max (deep_tested d t) (suc k)) o))
  grow_group k d (group_blank g b) = grow_group k d g

  pub grow_term : (k d : ℕ) (t : Term) → d ≤ deep_term k d t
  grow_term k d (alone r) = grow_road d r
  grow_term k d (compared l c r) = le_via d (deep_arg d l) _ (grow_arg d l) (grow_arg (deep_arg d l) r)
  grow_term k d (grouped g) = grow_group k d g

  pub grow_ands : (k d : ℕ) (a : Ands) → d ≤ deep_ands k d a
  grow_ands k d (one t) = grow_term k d t
  grow_ands k d (both a g t) = le_via d (deep_ands k d a) _ (grow_ands k d a) (grow_term k (deep_ands k d a) t)

  pub grow_ors : (k d : ℕ) (o : Ors) → d ≤ deep_ors k d o
  grow_ors k d (one_and a) = grow_ands k d a
  grow_ors k d (either o g a) = le_via d (deep_ors k d o) _ (grow_ors k d o) (grow_ands k (deep_ors k d o) a)

-- ---- what keeps the parentheses as they are

row_trace : (n : List ℕ → NameTest) (test : ℕ → Bool) (S : Row → Configuration) (d : ℕ) → ((r : Row) → parens_at (S r) ≤ d) → ((r : Row) (b : ℕ) → test b ≡ true → next n (S r) b ≡ Some (S (more r b))) → (w : Row) → Each test w → (u : List ℕ) → trace n (S none) d (row w ++ u) ≡ trace n (S w) d u
row_trace n test S d L f none h u = refl
row_trace n test S d L f (more w b) h u = ap (trace n (S none) d) (append_assoc (row w) (b ∷ []) u) ∙ row_trace n test S d L f w h.0 (b ∷ u) ∙ to n d u _ (S (more w b)) (f w b h.1) (L (more w b))

blanks_trace : (n : List ℕ → NameTest) (s : Configuration) (d : ℕ) → parens_at s ≤ d → ((b : ℕ) → is_blank b ≡ true → next n s b ≡ Some s) → (g : Row) → Each is_blank g → (u : List ℕ) → trace n s d (row g ++ u) ≡ trace n s d u
blanks_trace n s d L f g h u = row_trace n is_blank (λ _. s) d (λ _. L) (λ r b k. f b k) g h u

sep_trace : (n : List ℕ → NameTest) (s : Sep) → GoodSep s → (x : Configuration) (spot : Spot) (fs : List Frame) (d : ℕ) → parens_in fs ≤ d → next n x 47 ≡ Some (at (states.Slash spot) fs) → (u : List ℕ) → trace n x d (sep_text s ++ u) ≡ trace n (at (look_sep s spot) fs) d u
sep_trace n slash g x spot fs d L e u = to n d u _ (at (states.Slash spot) fs) e L
sep_trace n slashes g x spot fs d L e u = to n d (47 ∷ u) _ (at (states.Slash spot) fs) e L ∙ to n d u _ (at (states.Separated DoubleSlash spot) fs) refl L
sep_trace n (sep_blank s b) g x spot fs d L e u = ap (trace n x d) (append_assoc (sep_text s) (b ∷ []) u) ∙ sep_trace n s g.0 x spot fs d L e (b ∷ u) ∙ to n d u _ (at (states.Separated (sep_tree s) spot) fs) (sep_blank_next n s spot fs b g.1) L

dots_trace : (n : List ℕ → NameTest) (p : Dots) → GoodDots p → (x : Configuration) (ps : List (Part Expression)) (side : Side) (fs : List Frame) (d : ℕ) → parens_in fs ≤ d → next n x 46 ≡ Some (at (states.Dot ps side) fs) → (u : List ℕ) → trace n x d (dots_text p ++ u) ≡ trace n (at (seen_dots p ps side) fs) d u
dots_trace n dot g x ps side fs d L e u = to n d u _ (at (states.Dot ps side) fs) e L
dots_trace n dots g x ps side fs d L e u = to n d (46 ∷ u) _ (at (states.Dot ps side) fs) e L ∙ to n d u _ (at (states.AfterDots (ps ++ parts.Parent ∷ []) side) fs) refl L
dots_trace n (dots_blank p b) g x ps side fs d L e u = ap (trace n x d) (append_assoc (dots_text p) (b ∷ []) u) ∙ dots_trace n p g.0 x ps side fs d L e (b ∷ u) ∙ to n d u _ (at (states.AfterDots (ps ++ dots_tree p ∷ []) side) fs) (dots_blank_next n p ps side fs b g.1) L

literal_next : (n : List ℕ → NameTest) (q : ℕ) (v : Row) (b : ℕ) (side : Side) (fs : List Frame) → (b == q) ≡ false → next n (look_literal q v side fs) b ≡ Some (look_literal q (more v b) side fs)
literal_next n q none b side fs h = rw h refl
literal_next n q (more v c) b side fs h = rw h refl

literal_at : (q : ℕ) (v : Row) (side : Side) (fs : List Frame) (d : ℕ) → parens_in fs ≤ d → parens_at (look_literal q v side fs) ≤ d
literal_at q none side fs d L = L
literal_at q (more v b) side fs d L = L

literal_trace : (n : List ℕ → NameTest) (q : ℕ) (v : Row) → HasNo q v → (side : Side) (fs : List Frame) (d : ℕ) → parens_in fs ≤ d → (u : List ℕ) → trace n (look_literal q none side fs) d (row v ++ u) ≡ trace n (look_literal q v side fs) d u
literal_trace n q none h side fs d L u = refl
literal_trace n q (more v b) h side fs d L u = ap (trace n (look_literal q none side fs) d) (append_assoc (row v) (b ∷ []) u) ∙ literal_trace n q v h.0 side fs d L (b ∷ u) ∙ to n d u _ (look_literal q (more v b) side fs) (literal_next n q v b side fs h.1) (literal_at q (more v b) side fs d L)

digits_trace : (n : List ℕ → NameTest) (neg : Bool) (a : ℕ) (w : Row) → Each is_digit w → (side : Side) (fs : List Frame) (d : ℕ) → parens_in fs ≤ d → (u : List ℕ) → trace n (at (states.InDigits neg (a ∷ []) side) fs) d (row w ++ u) ≡ trace n (at (states.InDigits neg (a ∷ row w) side) fs) d u
digits_trace n neg a w h side fs d L u = row_trace n is_digit (λ r. at (states.InDigits neg (a ∷ row r) side) fs) d (λ _. L) (λ r b k. rw k refl) w h u

const_trace : (n : List ℕ → NameTest) (c : Const) → GoodConst c → (x : Configuration) (side : Side) (fs : List Frame) (d : ℕ) → parens_in fs ≤ d → BeginsArg n x side fs (starts_const c) → (u : List ℕ) → trace n x d (const_text c ++ u) ≡ trace n (at (look_const c side) fs) d u
const_trace n (literal q v) g x side fs d L B u = ap (trace n x d) (ap (λ (t : List ℕ). q ∷ t) (append_assoc (row v) (q ∷ []) u)) ∙ to n d (row v ++ q ∷ u) _ (at (states.InLiteral q side) fs) (B.quote q g.0) L ∙ literal_trace n q v g.1 side fs d L (q ∷ u) ∙ to n d u _ (at (states.AfterOperand (operands.Literal (row v)) side) fs) (literal_ends n q v side fs) L
const_trace n (number a w) g x side fs d L B u = to n d (row w ++ u) _ (at (states.InDigits false (a ∷ []) side) fs) (B.digit refl a g.0) L ∙ digits_trace n false a w g.1 side fs d L u
const_trace n (negative s a w) g x side fs d L B u =
    ap (trace n x d) (ap (λ (t : List ℕ). 45 ∷ t) (append_assoc (row s) (a ∷ row w) u)) ∙ to n d (row s ++ a ∷ (row w ++ u)) _ (at (states.Minus side) fs) (B.minus refl) L
    ∙ blanks_trace n (at (states.Minus side) fs) d L (λ b k. rw k refl) s g.0 (a ∷ (row w ++ u))
    ∙ to n d (row w ++ u) _ (at (states.InDigits true (a ∷ []) side) fs) (let k = digit_is a g.1 in rw (k.blank, g.1) refl) L ∙ digits_trace n true a w g.2 side fs d L u
const_trace n (const_blank c b) g x side fs d L B u = ap (trace n x d) (append_assoc (const_text c) (b ∷ []) u) ∙ const_trace n c g.0 x side fs d L B (b ∷ u) ∙ to n d u _ (at (states.AfterOperand (const_tree c) side) fs) (const_blank_next n c side fs b g.1) L

at_trace : (n : List ℕ → NameTest) (g : Row) (a : ℕ) (w : Row) → Each is_blank g → is_letter a ≡ true → Each is_word_byte w → (sep : Separator) (ps : List (Part Expression)) (side : Side) (fs : List Frame) (d : ℕ) → parens_in fs ≤ d → (u : List ℕ)
    → trace n (at (states.AtSign sep ps side) fs) d (row g ++ a ∷ (row w ++ u)) ≡ trace n (at (states.InAttribute sep (a ∷ row w) ps side) fs) d u
at_trace n g a w hg ha hw sep ps side fs d L u =
    blanks_trace n (at (states.AtSign sep ps side) fs) d L (λ b k. rw k refl) g hg (a ∷ (row w ++ u))
    ∙ to n d (row w ++ u) _ (at (states.InAttribute sep (a ∷ []) ps side) fs) (let k = letter_is a ha in rw (k.blank, ha) refl) L
    ∙ row_trace n is_word_byte (λ r. at (states.InAttribute sep (a ∷ row r) ps side) fs) d (λ _. L) (λ r b k. rw k refl) w hw u

ender_61 : Ender 61
ender_61 = record { blank = refl; bracket_ = refl; open_ = refl; slash_ = refl; dot_ = refl; digit = refl }

ender_33 : Ender 33
ender_33 = record { blank = refl; bracket_ = refl; open_ = refl; slash_ = refl; dot_ = refl; digit = refl }

ender_60 : Ender 60
ender_60 = record { blank = refl; bracket_ = refl; open_ = refl; slash_ = refl; dot_ = refl; digit = refl }

ender_62 : Ender 62
ender_62 = record { blank = refl; bracket_ = refl; open_ = refl; slash_ = refl; dot_ = refl; digit = refl }

-- e is the greatest number after the left side
cmp_trace : (n : List ℕ → NameTest) (a : Arg) (c : Cmp) → GoodCmp c → (x : Configuration) (l : Level) (fs : List Frame) (d e : ℕ) → parens_in fs ≤ e → ((m : ℕ) (u : List ℕ) → Ender m → is_word_byte m ≡ false → trace n x d (arg_text a ++ m ∷ u) ≡ on n e u (end_operand (arg_tree n a) (left_side l) fs m))
    → (u : List ℕ) → trace n x d (arg_text a ++ (cmp_text c ++ u)) ≡ trace n (at (look_right n a c l) fs) e u
cmp_trace n a equal g x l fs d e L f u = f 61 u ender_61 refl ∙ to n e u _ (at (look_right n a equal l) fs) refl L
cmp_trace n a not_equal g x l fs d e L f u = f 33 (61 ∷ u) ender_33 refl ∙ to n e (61 ∷ u) _ (at (states.Bang (arg_tree n a) l) fs) refl L ∙ to n e u _ (at (look_right n a not_equal l) fs) refl L
cmp_trace n a less g x l fs d e L f u = f 60 u ender_60 refl ∙ to n e u _ (at (look_right n a less l) fs) refl L
cmp_trace n a less_or_equal g x l fs d e L f u = f 60 (61 ∷ u) ender_60 refl ∙ to n e (61 ∷ u) _ (at (look_right n a less l) fs) refl L ∙ to n e u _ (at (look_right n a less_or_equal l) fs) refl L
cmp_trace n a greater g x l fs d e L f u = f 62 u ender_62 refl ∙ to n e u _ (at (look_right n a greater l) fs) refl L
cmp_trace n a greater_or_equal g x l fs d e L f u = f 62 (61 ∷ u) ender_62 refl ∙ to n e (61 ∷ u) _ (at (look_right n a greater l) fs) refl L ∙ to n e u _ (at (look_right n a greater_or_equal l) fs) refl L
cmp_trace n a (cmp_blank c b) g x l fs d e L f u =
    ap (trace n x d) (ap (λ (t : List ℕ). arg_text a ++ t) (append_assoc (cmp_text c) (b ∷ []) u)) ∙ cmp_trace n a c g.0 x l fs d e L f (b ∷ u) ∙ to n e u _ (at (look_right n a (cmp_blank c b) l) fs) (cmp_blank_next n a c l fs b g.1) L

gap_trace : (n : List ℕ → NameTest) (k : Link) (e : Expression) (l m : Level) (fs : List Frame) (d : ℕ) → parens_in fs ≤ d → ((b : ℕ) → is_blank b ≡ true → next n (at (states.Link k e l) fs) b ≡ Some (at (states.Unit m) fs)) → (g : Row) (b : ℕ) → Each is_blank (more g b) → (u : List ℕ) → trace n (at (states.Link k e l) fs) d (row (more g b) ++ u) ≡ trace n (at (states.Unit m) fs) d u
gap_trace n k e l m fs d L f none b h u = to n d u _ (at (states.Unit m) fs) (f b h.1) L
gap_trace n k e l m fs d L f (more g c) b h u = ap (trace n (at (states.Link k e l) fs) d) (append_assoc (row (more g c)) (b ∷ []) u) ∙ gap_trace n k e l m fs d L f g c h.0 (b ∷ u) ∙ to n d u _ (at (states.Unit m) fs) (rw h.1 refl) L

and_trace : (n : List ℕ → NameTest) (e : Expression) (l : Level) (fs : List Frame) (d : ℕ) → parens_in fs ≤ d → (g : Row) → Each is_blank g → (w : Bool) → Apart g w → (v : List ℕ) (r : Option (Configuration × ℕ)) → ((z : Configuration) → BeginsTerm n z (record { ors = l.ors; ands = add_and l.ands e }) fs w → trace n z d v ≡ r) → trace n (at (states.Link links.And e l) fs) d (row g ++ v) ≡ r
and_trace n e l fs d L none h w a v r f = f (at (states.Link links.And e l) fs) (subst (λ (b : Bool). BeginsTerm n (at (states.Link links.And e l) fs) (record { ors = l.ors; ands = add_and l.ands e }) fs b) (sym a) (and_begins n e l fs))
and_trace n e l fs d L (more g b) h w a v r f =
    gap_trace n links.And e l (record { ors = l.ors; ands = add_and l.ands e }) fs d L (λ c k. rw ((blank_is c k).word_, k) refl) g b h v ∙ f (at (states.Unit (record { ors = l.ors; ands = add_and l.ands e })) fs) (unit_begins n (record { ors = l.ors; ands = add_and l.ands e }) fs w)

or_trace : (n : List ℕ → NameTest) (e : Expression) (l : Level) (fs : List Frame) (d : ℕ) → parens_in fs ≤ d → (g : Row) → Each is_blank g → (w : Bool) → Apart g w → (v : List ℕ) (r : Option (Configuration × ℕ)) → ((z : Configuration) → BeginsTerm n z (record { ors = add_or l.ors (joined_and l.ands e); ands = [] }) fs w → trace n z d v ≡ r) → trace n (at (states.Link links.Or e l) fs) d (row g ++ v) ≡ r
or_trace n e l fs d L none h w a v r f = f (at (states.Link links.Or e l) fs) (subst (λ (b : Bool). BeginsTerm n (at (states.Link links.Or e l) fs) (record { ors = add_or l.ors (joined_and l.ands e); ands = [] }) fs b) (sym a) (or_begins n e l fs))
or_trace n e l fs d L (more g b) h w a v r f =
    gap_trace n links.Or e l (record { ors = add_or l.ors (joined_and l.ands e); ands = [] }) fs d L (λ c k. rw ((blank_is c k).word_, k) refl) g b h v ∙ f (at (states.Unit (record { ors = add_or l.ors (joined_and l.ands e); ands = [] })) fs) (unit_begins n (record { ors = add_or l.ors (joined_and l.ands e); ands = [] }) fs w)

-- the bracket or the parenthesis that closes an expression
ors_closed : (n : List ℕ → NameTest) (o : Ors) (fs : List Frame) (c d : ℕ) (u : List ℕ) → (c == 97) ≡ false → (c == 111) ≡ false
    → on n d u (end_unit (ands_last n (ors_end o)) (record { ors = ors_front n o; ands = ands_front n (ors_end o) }) fs c) ≡ on n d u (close (ors_tree n o) fs c)
ors_closed n o fs c d u i j = goes n d u (end_unit (ands_last n (ors_end o)) (record { ors = ors_front n o; ands = ands_front n (ors_end o) }) fs c) (close (ors_tree n o) fs c) (rw (i, j) (ap (λ (v : Expression). close v fs c) (ors_whole n o)))

zero_le : (d : ℕ) → 0 ≤ d
zero_le d = omega arith

suc_le : (k d : ℕ) → suc k ≤ max d (suc k)
suc_le k d = omega arith

-- a byte that opens a parenthesis
opens : (n : List ℕ → NameTest) (d : ℕ) (u : List ℕ) (r : Option Configuration) (y : Configuration) → r ≡ Some y → on n d u r ≡ trace n y (max d (parens_at y)) u
opens n d u r y e = ap (on n d u) e

mutual
  tested_trace : (n : List ℕ → NameTest) → Knows n → (t : Tested) → GoodTested t → (sep : Separator) (spot : Spot) (fs : List Frame) (x : Configuration) (d : ℕ) → parens_in fs ≤ d → BeginsStep n x sep spot fs (starts_tested t) → (u : List ℕ) → trace n x d (tested_text t ++ u) ≡ trace n (at (seen n t sep spot) fs) (deep_tested d t) u
  tested_trace n k (word a w) g sep spot fs x d L B u = to n d (row w ++ u) _ (at (states.InWord sep (a ∷ []) spot) fs) (B.letter refl a g.0) L ∙ row_trace n is_word_byte (λ r. at (states.InWord sep (a ∷ row r) spot) fs) d (λ _. L) (λ r b h. rw h refl) w g.1 u
  tested_trace n k star g sep spot fs x d L B u = to n d u _ (at (states.AfterStep (step_of sep Any) spot) fs) B.any L
  tested_trace n k (predicate t r o) g sep spot fs x d L B u =
      let e : (tested_text t ++ 91 ∷ (row r ++ (ors_text o ++ 93 ∷ []))) ++ u ≡ tested_text t ++ 91 ∷ (row r ++ (ors_text o ++ 93 ∷ u)) = simp append_assoc in
      let m = deep_tested d t in
      let gs = frames.Bracket (tested_tree n sep t) spot ∷ fs in
      ap (trace n x d) e ∙ tested_trace n k t g.0 sep spot fs x d L B (91 ∷ (row r ++ (ors_text o ++ 93 ∷ u)))
      ∙ to n m (row r ++ (ors_text o ++ 93 ∷ u)) _ (at (states.Unit no_units) gs) (seen_next n t sep spot fs 91 (and_false (ends_tested t))) (zero_le m)
      ∙ blanks_trace n (at (states.Unit no_units) gs) m (zero_le m) (λ b h. rw h refl) r g.1 (ors_text o ++ 93 ∷ u)
      ∙ ors_until n k o g.2 gs 93 u m (zero_le m) final_93 (and_false (ends_ors o)) ∙ ors_closed n o gs 93 (deep_ors 0 m o) u refl refl
      ∙ to n (deep_ors 0 m o) u _ (at (states.AfterStep (with_predicate (tested_tree n sep t) (ors_tree n o)) spot) fs) refl (le_via _ d _ L (le_via d m _ (grow_tested d t) (grow_ors 0 m o)))
  tested_trace n k (tested_blank t b) g sep spot fs x d L B u = ap (trace n x d) (append_assoc (tested_text t) (b ∷ []) u) ∙ tested_trace n k t g.0 sep spot fs x d L B (b ∷ u) ∙ to n (deep_tested d t) u _ (at (states.AfterStep (tested_tree n sep t) spot) fs) (seen_blank n t sep spot fs b g.1) (le_via _ d _ L (grow_tested d t))

  piece_trace : (n : List ℕ → NameTest) → Knows n → (p : Piece) (sep : Separator) → GoodPiece sep p → (ps : List (Part Expression)) (side : Side) (fs : List Frame) (x : Configuration) (d : ℕ) → parens_in fs ≤ d → BeginsPart n x sep ps side fs (starts_piece p) → (u : List ℕ) → trace n x d (piece_text p ++ u) ≡ trace n (at (seen_piece n p sep ps side) fs) (deep_piece d p) u
  piece_trace n k (tested t) sep g ps side fs x d L B u = tested_trace n k t g sep (spots.Part ps side) fs x d L B.begins_step u
  piece_trace n k (dotted p) sep g ps side fs x d L B u = dots_trace n p g.0 x ps side fs d L (B.dot_ g.1) u

  path_trace : (n : List ℕ → NameTest) → Knows n → (f : Fore) → GoodFore f → (side : Side) (fs : List Frame) (x : Configuration) (d : ℕ) → parens_in fs ≤ d → (w : Bool) → BeginsPart n x Slash [] side fs w
      → (p : Piece) → starts_path f p ≡ w → (u : List ℕ) (r : Option (Configuration × ℕ)) → ((z : Configuration) → BeginsPart n z (fore_sep f) (fore_tree n f) side fs (starts_piece p) → trace n z (deep_fore d f) (piece_text p ++ u) ≡ r) → trace n x d (fore_text f ++ (piece_text p ++ u)) ≡ r
  path_trace n k no_fore g side fs x d L w B p e u r f = f x (subst (λ (b : Bool). BeginsPart n x Slash [] side fs b) (sym e) B)
  path_trace n k (fore f q s) g side fs x d L w B p e u r h =
      let a : (fore_text f ++ (piece_text q ++ sep_text s)) ++ (piece_text p ++ u) ≡ fore_text f ++ (piece_text q ++ (sep_text s ++ (piece_text p ++ u))) = simp append_assoc in
      let m = deep_piece (deep_fore d f) q in
      let M : parens_in fs ≤ m = le_via _ d _ L (le_via d (deep_fore d f) _ (grow_fore d f) (grow_piece (deep_fore d f) q)) in
      ap (trace n x d) a
      ∙ path_trace n k f g.0 side fs x d L w B q e (sep_text s ++ (piece_text p ++ u)) (trace n (at (seen_piece n q (fore_sep f) (fore_tree n f) side) fs) m (sep_text s ++ (piece_text p ++ u))) (λ z b. piece_trace n k q (fore_sep f) g.1 (fore_tree n f) side fs z (deep_fore d f) (le_via _ d _ L (grow_fore d f)) b (sep_text s ++ (piece_text p ++ u)))
      ∙ sep_trace n s g.2 (at (seen_piece n q (fore_sep f) (fore_tree n f) side) fs) (spots.Part (fore_tree n (fore f q s)) side) fs m M (piece_slash n q (fore_sep f) (fore_tree n f) side fs) (piece_text p ++ u)
      ∙ h (at (look_sep s (spots.Part (fore_tree n (fore f q s)) side)) fs) (sep_begins n s (fore_tree n (fore f q s)) side fs (starts_piece p))

  fore_trace : (n : List ℕ → NameTest) → Knows n → (f : Fore) → GoodFore f → (side : Side) (fs : List Frame) (x : Configuration) (d : ℕ) → parens_in fs ≤ d → BeginsPart n x Slash [] side fs (starts_at f) → (u : List ℕ) → trace n x d (fore_text f ++ 64 ∷ u) ≡ trace n (at (states.AtSign (fore_sep f) (fore_tree n f) side) fs) (deep_fore d f) u
  fore_trace n k no_fore g side fs x d L B u = to n d u _ (at (states.AtSign Slash [] side) fs) B.sign L
  fore_trace n k (fore f q s) g side fs x d L B u =
      let a : (fore_text f ++ (piece_text q ++ sep_text s)) ++ 64 ∷ u ≡ fore_text f ++ (piece_text q ++ (sep_text s ++ 64 ∷ u)) = simp append_assoc in
      let m = deep_piece (deep_fore d f) q in
      let M : parens_in fs ≤ m = le_via _ d _ L (le_via d (deep_fore d f) _ (grow_fore d f) (grow_piece (deep_fore d f) q)) in
      ap (trace n x d) a
      ∙ path_trace n k f g.0 side fs x d L (starts_path f q) B q refl (sep_text s ++ 64 ∷ u) (trace n (at (seen_piece n q (fore_sep f) (fore_tree n f) side) fs) m (sep_text s ++ 64 ∷ u)) (λ z b. piece_trace n k q (fore_sep f) g.1 (fore_tree n f) side fs z (deep_fore d f) (le_via _ d _ L (grow_fore d f)) b (sep_text s ++ 64 ∷ u))
      ∙ sep_trace n s g.2 (at (seen_piece n q (fore_sep f) (fore_tree n f) side) fs) (spots.Part (fore_tree n (fore f q s)) side) fs m M (piece_slash n q (fore_sep f) (fore_tree n f) side fs) (64 ∷ u)
      ∙ to n m u _ (at (states.AtSign (sep_tree s) (fore_tree n (fore f q s)) side) fs) (sep_begins n s (fore_tree n (fore f q s)) side fs true).sign M

  attr_trace : (n : List ℕ → NameTest) → Knows n → (a : Attr) → GoodAttr a → (side : Side) (fs : List Frame) (x : Configuration) (d : ℕ) → parens_in fs ≤ d → BeginsPart n x Slash [] side fs (starts_attr a) → (u : List ℕ) → trace n x d (attr_text a ++ u) ≡ trace n (at (look_attr n a side) fs) (deep_attr d a) u
  attr_trace n k (attribute f r a w) g side fs x d L B u =
      let e : (fore_text f ++ 64 ∷ (row r ++ a ∷ row w)) ++ u ≡ fore_text f ++ 64 ∷ (row r ++ a ∷ (row w ++ u)) = simp append_assoc in
      ap (trace n x d) e ∙ fore_trace n k f g.0 side fs x d L B (row r ++ a ∷ (row w ++ u)) ∙ at_trace n r a w g.1 g.2 g.3 (fore_sep f) (fore_tree n f) side fs (deep_fore d f) (le_via _ d _ L (grow_fore d f)) u
  attr_trace n k (attr_blank a b) g side fs x d L B u = ap (trace n x d) (append_assoc (attr_text a) (b ∷ []) u) ∙ attr_trace n k a g.0 side fs x d L B (b ∷ u) ∙ to n (deep_attr d a) u _ (at (states.AfterOperand (operands.Path (attr_tree n a)) side) fs) (attr_blank_next n a side fs b g.1) (le_via _ d _ L (grow_attr d a))

  road_trace : (n : List ℕ → NameTest) → Knows n → (r : Road) → GoodRoad r → (side : Side) (fs : List Frame) (x : Configuration) (d : ℕ) → parens_in fs ≤ d → BeginsPart n x Slash [] side fs (starts_road r) → (c : ℕ) (u : List ℕ) → Ender c → (ends_road r && is_word_byte c) ≡ false → trace n x d (road_text r ++ c ∷ u) ≡ on n (deep_road d r) u (end_operand (operands.Path (road_tree n r)) side fs c)
  road_trace n k (path f p) g side fs x d L B c u e h =
      ap (trace n x d) (append_assoc (fore_text f) (piece_text p) (c ∷ u))
      ∙ path_trace n k f g.0 side fs x d L (starts_path f p) B p refl (c ∷ u) (trace n (at (seen_piece n p (fore_sep f) (fore_tree n f) side) fs) (deep_piece (deep_fore d f) p) (c ∷ u)) (λ z b. piece_trace n k p (fore_sep f) g.1 (fore_tree n f) side fs z (deep_fore d f) (le_via _ d _ L (grow_fore d f)) b (c ∷ u))
      ∙ goes n (deep_piece (deep_fore d f) p) u _ _ (piece_ends n p (fore_sep f) (fore_tree n f) side fs c e h)
  road_trace n k (attr a) g side fs x d L B c u e h = attr_trace n k a g side fs x d L B (c ∷ u) ∙ goes n (deep_attr d a) u _ _ (attr_ends n a side fs c e h)

  arg_trace : (n : List ℕ → NameTest) → Knows n → (a : Arg) → GoodArg a → (side : Side) (fs : List Frame) (x : Configuration) (d : ℕ) → parens_in fs ≤ d → BeginsArg n x side fs (starts_arg a) → (c : ℕ) (u : List ℕ) → Ender c → (ends_arg a && is_word_byte c) ≡ false → trace n x d (arg_text a ++ c ∷ u) ≡ on n (deep_arg d a) u (end_operand (arg_tree n a) side fs c)
  arg_trace n k (road r) g side fs x d L B c u e h = road_trace n k r g side fs x d L B.part c u e h
  arg_trace n k (const a) g side fs x d L B c u e h = const_trace n a g x side fs d L B (c ∷ u) ∙ goes n d u _ _ (const_ends n a side fs c e)

  group_trace : (n : List ℕ → NameTest) → Knows n → (g : Group) → GoodGroup g → (l : Level) (fs : List Frame) (x : Configuration) (d : ℕ) → parens_in fs ≤ d → BeginsTerm n x l fs (starts_group g) → (u : List ℕ) → trace n x d (group_text g ++ u) ≡ trace n (at (states.AfterGroup (group_tree n g) l) fs) (deep_group (parens_in fs) d g) u
  group_trace n k (group r o) g l fs x d L B u =
      let e : (row r ++ (ors_text o ++ 41 ∷ [])) ++ u ≡ row r ++ (ors_text o ++ 41 ∷ u) = simp append_assoc in
      let p = parens_in fs in let m = max d (suc p) in
      let gs = frames.Paren false l ∷ fs in
      ap (λ (t : List ℕ). trace n x d (40 ∷ t)) e
      ∙ opens n d (row r ++ (ors_text o ++ 41 ∷ u)) _ (at (states.Unit no_units) gs) B.open_
      ∙ blanks_trace n (at (states.Unit no_units) gs) m (suc_le p d) (λ b h. rw h refl) r g.0 (ors_text o ++ 41 ∷ u)
      ∙ ors_until n k o g.1 gs 41 u m (suc_le p d) final_41 (and_false (ends_ors o)) ∙ ors_closed n o gs 41 (deep_ors (suc p) m o) u refl refl
      ∙ to n (deep_ors (suc p) m o) u _ (at (states.AfterGroup (ors_tree n o) l) fs) refl (le_via p d _ L (le_via d m _ (grow_max d (suc p)) (grow_ors (suc p) m o)))
  group_trace n k (not_group t r o) g l fs x d L B u =
      let e : (tested_text t ++ 40 ∷ (row r ++ (ors_text o ++ 41 ∷ []))) ++ u ≡ tested_text t ++ 40 ∷ (row r ++ (ors_text o ++ 41 ∷ u)) = simp append_assoc in
      let p = parens_in fs in let c = deep_tested d t in let m = max c (suc p) in
      let gs = frames.Paren true l ∷ fs in
      ap (trace n x d) e
      ∙ tested_trace n k t g.1 Slash (spots.Part [] (left_side l)) fs x d L (any_step n x Slash (spots.Part [] (left_side l)) fs (starts_tested t) B.arg.part.begins_step) (40 ∷ (row r ++ (ors_text o ++ 41 ∷ u)))
      ∙ opens n c (row r ++ (ors_text o ++ 41 ∷ u)) _ (at (states.Unit no_units) gs) (seen_next n t Slash (spots.Part [] (left_side l)) fs 40 (and_false (ends_tested t)) ∙ rw (not_tree n k Slash t g.0) refl)
      ∙ blanks_trace n (at (states.Unit no_units) gs) m (suc_le p c) (λ b h. rw h refl) r g.2 (ors_text o ++ 41 ∷ u)
      ∙ ors_until n k o g.3 gs 41 u m (suc_le p c) final_41 (and_false (ends_ors o)) ∙ ors_closed n o gs 41 (deep_ors (suc p) m o) u refl refl
      ∙ to n (deep_ors (suc p) m o) u _ (at (states.AfterGroup (negated_if true (ors_tree n o)) l) fs) refl (le_via p d _ L (le_via d c _ (grow_tested d t) (le_via c m _ (grow_max c (suc p)) (grow_ors (suc p) m o))))
  group_trace n k (group_blank r b) g l fs x d L B u = ap (trace n x d) (append_assoc (group_text r) (b ∷ []) u) ∙ group_trace n k r g.0 l fs x d L B (b ∷ u) ∙ to n (deep_group (parens_in fs) d r) u _ (at (states.AfterGroup (group_tree n r) l) fs) (rw g.1 refl) (le_via _ d _ L (grow_group (parens_in fs) d r))

  term_trace : (n : List ℕ → NameTest) → Knows n → (t : Term) → GoodTerm t → (l : Level) (fs : List Frame) (x : Configuration) (d : ℕ) → parens_in fs ≤ d → BeginsTerm n x l fs (starts_term t) → (c : ℕ) (u : List ℕ) → Final c → (ends_term t && is_word_byte c) ≡ false → trace n x d (term_text t ++ c ∷ u) ≡ on n (deep_term (parens_in fs) d t) u (end_unit (term_tree n t) l fs c)
  term_trace n k (alone r) g l fs x d L B c u e h = road_trace n k r g (left_side l) fs x d L B.arg.part c u e.ender h ∙ goes n (deep_road d r) u (end_operand (operands.Path (road_tree n r)) (left_side l) fs c) (end_unit (term_tree n (alone r)) l fs c) (rw (e.bang, e.same, e.less_, e.greater_) refl)
  term_trace n k (compared a m b) g l fs x d L B c u e h =
      let q : (arg_text a ++ (cmp_text m ++ arg_text b)) ++ c ∷ u ≡ arg_text a ++ (cmp_text m ++ (arg_text b ++ c ∷ u)) = simp append_assoc in
      let M : parens_in fs ≤ deep_arg d a = le_via _ d _ L (grow_arg d a) in
      ap (trace n x d) q
      ∙ cmp_trace n a m g.1 x l fs d (deep_arg d a) M (λ z v i j. arg_trace n k a g.0 (left_side l) fs x d L B.arg z v i (rw j (and_false (ends_arg a)))) (arg_text b ++ c ∷ u)
      ∙ arg_trace n k b g.2 (side_of (arg_tree n a) (cmp_tree m) l) fs (at (look_right n a m l) fs) (deep_arg d a) M (cmp_begins n a m l fs (starts_arg b)) c u e.ender h
  term_trace n k (grouped r) g l fs x d L B c u e h = group_trace n k r g l fs x d L B (c ∷ u) ∙ goes n (deep_group (parens_in fs) d r) u (next n (at (states.AfterGroup (group_tree n r) l) fs) c) (end_unit (group_tree n r) l fs c) (rw e.ender.blank refl)

  ands_trace : (n : List ℕ → NameTest) → Knows n → (a : Ands) → GoodAnds a → (O : List Expression) (fs : List Frame) (x : Configuration) (d : ℕ) → parens_in fs ≤ d → BeginsTerm n x (record { ors = O; ands = [] }) fs (starts_ands a) → (c : ℕ) (u : List ℕ) → Final c → (ends_ands a && is_word_byte c) ≡ false
      → trace n x d (ands_text a ++ c ∷ u) ≡ on n (deep_ands (parens_in fs) d a) u (end_unit (ands_last n a) (record { ors = O; ands = ands_front n a }) fs c)
  ands_trace n k (one t) g O fs x d L B c u e h = term_trace n k t g (record { ors = O; ands = [] }) fs x d L B c u e h
  ands_trace n k (both a r t) g O fs x d L B c u e h =
      let q : (ands_text a ++ 97 ∷ 110 ∷ 100 ∷ (row r ++ term_text t)) ++ c ∷ u ≡ ands_text a ++ 97 ∷ 110 ∷ 100 ∷ (row r ++ (term_text t ++ c ∷ u)) = simp append_assoc in
      let p = parens_in fs in let m = deep_ands p d a in
      let M : p ≤ m = le_via p d _ L (grow_ands p d a) in
      let v = row r ++ (term_text t ++ c ∷ u) in
      ap (trace n x d) q
      ∙ ands_trace n k a g.0 O fs x d L B 97 (110 ∷ 100 ∷ v) final_97 (rw g.1 refl)
      ∙ to n m (110 ∷ 100 ∷ v) _ (at (states.Link links.A (ands_last n a) (record { ors = O; ands = ands_front n a })) fs) refl M
      ∙ to n m (100 ∷ v) _ (at (states.Link links.An (ands_last n a) (record { ors = O; ands = ands_front n a })) fs) refl M
      ∙ to n m v _ (at (states.Link links.And (ands_last n a) (record { ors = O; ands = ands_front n a })) fs) refl M
      ∙ and_trace n (ands_last n a) (record { ors = O; ands = ands_front n a }) fs m M r g.2 (starts_term t) g.3 (term_text t ++ c ∷ u) (on n (deep_term p m t) u (end_unit (term_tree n t) (record { ors = O; ands = ands_list n a }) fs c))
      (λ z b. term_trace n k t g.4 (record { ors = O; ands = ands_list n a }) fs z m M (subst (λ (y : List Expression). BeginsTerm n z (record { ors = O; ands = y }) fs (starts_term t)) (ands_step n a) b) c u e h)

  ors_until : (n : List ℕ → NameTest) → Knows n → (o : Ors) → GoodOrs o → (fs : List Frame) (c : ℕ) (u : List ℕ) (d : ℕ) → parens_in fs ≤ d → Final c → (ends_ors o && is_word_byte c) ≡ false
      → trace n (at (states.Unit no_units) fs) d (ors_text o ++ c ∷ u) ≡ on n (deep_ors (parens_in fs) d o) u (end_unit (ands_last n (ors_end o)) (record { ors = ors_front n o; ands = ands_front n (ors_end o) }) fs c)
  ors_until n k (one_and a) g fs c u d L e h = ands_trace n k a g [] fs (at (states.Unit no_units) fs) d L (unit_begins n no_units fs (starts_ands a)) c u e h
  ors_until n k (either o r a) g fs c u d L e h =
      let q : (ors_text o ++ 111 ∷ 114 ∷ (row r ++ ands_text a)) ++ c ∷ u ≡ ors_text o ++ 111 ∷ 114 ∷ (row r ++ (ands_text a ++ c ∷ u)) = simp append_assoc in
      let p = parens_in fs in let m = deep_ors p d o in
      let M : p ≤ m = le_via p d _ L (grow_ors p d o) in
      let v = row r ++ (ands_text a ++ c ∷ u) in
      ap (trace n (at (states.Unit no_units) fs) d) q
      ∙ ors_until n k o g.0 fs 111 (114 ∷ v) d L final_111 (rw g.1 refl)
      ∙ to n m (114 ∷ v) _ (at (states.Link links.O (ands_last n (ors_end o)) (record { ors = ors_front n o; ands = ands_front n (ors_end o) })) fs) refl M
      ∙ to n m v _ (at (states.Link links.Or (ands_last n (ors_end o)) (record { ors = ors_front n o; ands = ands_front n (ors_end o) })) fs) refl M
      ∙ or_trace n (ands_last n (ors_end o)) (record { ors = ors_front n o; ands = ands_front n (ors_end o) }) fs m M r g.2 (starts_ands a) g.3 (ands_text a ++ c ∷ u) (on n (deep_ands p m a) u (end_unit (ands_last n a) (record { ors = ors_list n o; ands = ands_front n a }) fs c))
      (λ z b. ands_trace n k a g.4 (ors_list n o) fs z m M (subst (λ (y : List Expression). BeginsTerm n z (record { ors = y; ands = [] }) fs (starts_ands a)) (ors_step n o) b) c u e h)

main_trace : (n : List ℕ → NameTest) → Knows n → (m : Main) → GoodMain m → (u : List ℕ) → trace n start 0 (main_text m ++ u) ≡ trace n (main_state n m) (deep_main 0 m) u
main_trace n k (lead g) h u = blanks_trace n start 0 (zero_le 0) (λ b i. rw i refl) g h u
main_trace n k (step m s t) h u =
    let e : (main_text m ++ (sep_text s ++ tested_text t)) ++ u ≡ main_text m ++ (sep_text s ++ (tested_text t ++ u)) = simp append_assoc in
    ap (trace n start 0) e ∙ main_trace n k m h.0 (sep_text s ++ (tested_text t ++ u))
    ∙ sep_trace n s h.1 (main_state n m) (spots.Main (main_tree n m)) [] (deep_main 0 m) (zero_le (deep_main 0 m)) (main_slash n m) (tested_text t ++ u)
    ∙ tested_trace n k t h.2 (sep_tree s) (spots.Main (main_tree n m)) [] (at (look_sep s (spots.Main (main_tree n m))) []) (deep_main 0 m) (zero_le (deep_main 0 m)) (main_begins n s (main_tree n m) (starts_tested t)) u

-- what is spelled is traced to how deep its parentheses are nested
pub spells_trace : (n : List ℕ → NameTest) → Knows n → (text : List ℕ) (q : Syntax) (m : Main) → Spells n text q m → trace n start 0 text ≡ Some (main_state n m, parens_of m)
spells_trace n k text q m p = ap (trace n start 0) (p.spelled ∙ sym (append-nil (main_text m))) ∙ main_trace n k m p.good []
