-- What is read is run to its query.
use Rattle.std.proofs.Common.{◌≡◌, ◌≢◌, ℕ, Bool, true, false, ◌&&◌, ◌==◌, List, [], ◌∷◌, ◌++◌, refl, ap, sym, ◌∙◌, subst, arith, append_assoc, append-nil, Option, Some, None, codes}
use Rattle.std.proofs.lemmas.Bool.Decides.{nat_tests}
use Rattle.iris_xpath.specs.declared.expression.Separator.{Separator}
use Rattle.iris_xpath.specs.declared.expression.Separator.TheVariants.{Slash}
use Rattle.iris_xpath.specs.declared.expression.NameTest.{NameTest}
use Rattle.iris_xpath.specs.declared.expression.Part.{Part}
use Rattle.iris_xpath.specs.declared.expression.Part.TheVariants as parts
use Rattle.iris_xpath.specs.declared.expression.Operand.TheVariants as operands
use Rattle.iris_xpath.specs.declared.expression.Expression.{Expression}
use Rattle.iris_xpath.specs.Syntax.{Syntax}
use Rattle.iris_xpath.specs.declared.state.Level.{Level}
use Rattle.iris_xpath.specs.declared.state.Side.{Side}
use Rattle.iris_xpath.specs.declared.state.Spot.{Spot}
use Rattle.iris_xpath.specs.declared.state.Spot.TheVariants as spots
use Rattle.iris_xpath.specs.declared.state.Frame.{Frame}
use Rattle.iris_xpath.specs.declared.state.Frame.TheVariants as frames
use Rattle.iris_xpath.specs.declared.state.Link.{Link}
use Rattle.iris_xpath.specs.declared.state.Link.TheVariants as links
use Rattle.iris_xpath.specs.declared.state.State.{State}
use Rattle.iris_xpath.specs.declared.state.State.TheVariants as states
use Rattle.iris_xpath.specs.Bytes.{is_letter, is_digit, is_word_byte, is_blank}
use Rattle.iris_xpath.specs.Trees.{is_name, is_not, joined_and, joined_or, add_and, add_or, path_of}
use Rattle.iris_xpath.specs.Machine.{Configuration, at, right_of, no_units, close, end_unit, end_operand, after_step, next, accept, run, start}
use Rattle.iris_xpath.specs.Grammar.{Row, none, more, Dots, dot, dots, dots_blank, Cmp, equal, not_equal, less, less_or_equal, greater, greater_or_equal, cmp_blank, Const, literal, number, negative, const_blank, Tested, word, star, predicate, tested_blank, Piece, tested, dotted, Fore, no_fore, fore, Attr, attribute, attr_blank, Road, path, attr, Arg, road, const, Group, group, not_group, group_blank, Term, alone, compared, grouped, Ands, one, both, Ors, one_and, either, Main, lead, step, row, sep_text, dots_text, cmp_text, const_text, tested_text, piece_text, fore_text, attr_text, road_text, arg_text, group_text, term_text, ands_text, ors_text, main_text}
use Rattle.iris_xpath.specs.Spells.{sep_tree, dots_tree, cmp_tree, const_tree, fore_sep, tested_tree, piece_tree, fore_tree, attr_tree, road_tree, arg_tree, group_tree, term_tree, ands_list, ands_tree, ors_list, ors_tree, main_tree, starts_tested, starts_piece, starts_path, starts_at, starts_attr, starts_road, starts_const, starts_arg, starts_group, starts_term, starts_ands, ends_tested, ends_piece, ends_attr, ends_road, ends_arg, ends_term, ends_ands, ends_ors, Apart, Each, HasNo, GoodDots, GoodCmp, GoodConst, IsNot, GoodTested, GoodPiece, GoodFore, GoodAttr, GoodRoad, GoodArg, GoodGroup, GoodTerm, GoodAnds, GoodOrs, GoodMain, Reads, IsPrefix}
use Rattle.iris_xpath.proofs.Written.{look_sep, look_attr, look_const, look_literal, look_right}
use Rattle.iris_xpath.proofs.Leads.{and_false}
use Rattle.iris_xpath.proofs.Laws.{run_none}
use Rattle.iris_xpath.proofs.Begins.{on, goes, letter_is, digit_is, blank_is, row_run, blanks_run, BeginsStep, BeginsPart, BeginsArg, BeginsTerm, unit_begins, and_begins, or_begins, side_of, cmp_begins, sep_begins, main_begins, sep_run}

-- ---- what ends an operand, and what ends a unit

pub record Ender (c : ℕ) : Type 0 where
  pub blank : is_blank c ≡ false
  pub bracket_ : (c == 91) ≡ false
  pub open_ : (c == 40) ≡ false
  pub slash_ : (c == 47) ≡ false
  pub dot_ : (c == 46) ≡ false
  pub digit : is_digit c ≡ false

pub record Final (c : ℕ) : Type 0 where
  pub ender : Ender c
  pub bang : (c == 33) ≡ false
  pub same : (c == 61) ≡ false
  pub less_ : (c == 60) ≡ false
  pub greater_ : (c == 62) ≡ false

abbrev pub seen : (List ℕ → NameTest) → Tested → Separator → Spot → State
seen n (word a w) sep spot = states.InWord sep (a ∷ row w) spot
seen n star sep spot = states.AfterStep (tested_tree n sep star) spot
seen n (predicate t g o) sep spot = states.AfterStep (tested_tree n sep (predicate t g o)) spot
seen n (tested_blank t b) sep spot = states.AfterStep (tested_tree n sep t) spot

pub seen_next : (n : List ℕ → NameTest) (t : Tested) (sep : Separator) (spot : Spot) (fs : List Frame) (c : ℕ) → (ends_tested t && is_word_byte c) ≡ false → next n (at (seen n t sep spot) fs) c ≡ after_step (tested_tree n sep t) spot fs c
seen_next n (word a w) sep spot fs c h = rw h refl
seen_next n star sep spot fs c h = refl
seen_next n (predicate t g o) sep spot fs c h = refl
seen_next n (tested_blank t b) sep spot fs c h = refl

blank_ends : (e : Bool) (b : ℕ) → is_blank b ≡ true → (e && is_word_byte b) ≡ false
blank_ends e b h = rw ((blank_is b h).word_) (and_false e)

pub seen_blank : (n : List ℕ → NameTest) (t : Tested) (sep : Separator) (spot : Spot) (fs : List Frame) (b : ℕ) → is_blank b ≡ true → next n (at (seen n t sep spot) fs) b ≡ Some (at (states.AfterStep (tested_tree n sep t) spot) fs)
seen_blank n t sep spot fs b h = seen_next n t sep spot fs b (blank_ends (ends_tested t) b h) ∙ rw h refl

abbrev pub seen_dots : Dots → List (Part Expression) → Side → State
seen_dots dot ps side = states.Dot ps side
seen_dots dots ps side = states.AfterDots (ps ++ parts.Parent ∷ []) side
seen_dots (dots_blank d b) ps side = states.AfterDots (ps ++ dots_tree d ∷ []) side

abbrev pub seen_piece : (List ℕ → NameTest) → Piece → Separator → List (Part Expression) → Side → State
seen_piece n (tested t) sep ps side = seen n t sep (spots.Part ps side)
seen_piece n (dotted d) sep ps side = seen_dots d ps side

pub piece_slash : (n : List ℕ → NameTest) (p : Piece) (sep : Separator) (ps : List (Part Expression)) (side : Side) (fs : List Frame) → next n (at (seen_piece n p sep ps side) fs) 47 ≡ Some (at (states.Slash (spots.Part (ps ++ piece_tree n sep p ∷ []) side)) fs)
piece_slash n (tested t) sep ps side fs = seen_next n t sep (spots.Part ps side) fs 47 (and_false (ends_tested t))
piece_slash n (dotted dot) sep ps side fs = refl
piece_slash n (dotted dots) sep ps side fs = refl
piece_slash n (dotted (dots_blank d b)) sep ps side fs = refl

pub piece_ends : (n : List ℕ → NameTest) (p : Piece) (sep : Separator) (ps : List (Part Expression)) (side : Side) (fs : List Frame) (c : ℕ) → Ender c → (ends_piece p && is_word_byte c) ≡ false → next n (at (seen_piece n p sep ps side) fs) c ≡ end_operand (path_of (ps ++ piece_tree n sep p ∷ [])) side fs c
piece_ends n (tested t) sep ps side fs c k h = seen_next n t sep (spots.Part ps side) fs c h ∙ rw (k.blank, k.bracket_, k.open_, k.slash_) refl
piece_ends n (dotted dot) sep ps side fs c k h = rw (k.dot_, k.blank, k.slash_) refl
piece_ends n (dotted dots) sep ps side fs c k h = rw (k.blank, k.slash_) refl
piece_ends n (dotted (dots_blank d b)) sep ps side fs c k h = rw (k.blank, k.slash_) refl

pub dots_blank_next : (n : List ℕ → NameTest) (d : Dots) (ps : List (Part Expression)) (side : Side) (fs : List Frame) (b : ℕ) → is_blank b ≡ true → next n (at (seen_dots d ps side) fs) b ≡ Some (at (states.AfterDots (ps ++ dots_tree d ∷ []) side) fs)
dots_blank_next n dot ps side fs b h = rw ((blank_is b h).dot_, h) refl
dots_blank_next n dots ps side fs b h = rw h refl
dots_blank_next n (dots_blank d c) ps side fs b h = rw h refl

dots_run : (n : List ℕ → NameTest) (d : Dots) → GoodDots d → (x : Configuration) (ps : List (Part Expression)) (side : Side) (fs : List Frame) → next n x 46 ≡ Some (at (states.Dot ps side) fs) → (u : List ℕ) → run n x (dots_text d ++ u) ≡ run n (at (seen_dots d ps side) fs) u
dots_run n dot g x ps side fs e u = goes n u _ _ e
dots_run n dots g x ps side fs e u = goes n (46 ∷ u) _ _ e
dots_run n (dots_blank d b) g x ps side fs e u = ap (run n x) (append_assoc (dots_text d) (b ∷ []) u) ∙ dots_run n d g.0 x ps side fs e (b ∷ u) ∙ goes n u _ _ (dots_blank_next n d ps side fs b g.1)

-- ---- literals and numbers

literal_run : (n : List ℕ → NameTest) (q : ℕ) (v : Row) → HasNo q v → (side : Side) (fs : List Frame) (u : List ℕ) → run n (look_literal q none side fs) (row v ++ u) ≡ run n (look_literal q v side fs) u
literal_run n q none h side fs u = refl
literal_run n q (more none b) h side fs u = rw h.1 refl
literal_run n q (more (more v c) b) h side fs u = ap (run n (look_literal q none side fs)) (append_assoc (row (more v c)) (b ∷ []) u) ∙ literal_run n q (more v c) h.0 side fs (b ∷ u) ∙ rw h.1 refl

same_byte : (q : ℕ) → (q == q) ≡ true
same_byte q = grind (arith, nat_tests)

pub literal_ends : (n : List ℕ → NameTest) (q : ℕ) (v : Row) (side : Side) (fs : List Frame) → next n (look_literal q v side fs) q ≡ Some (at (states.AfterOperand (operands.Literal (row v)) side) fs)
literal_ends n q none side fs = rw (same_byte q) refl
literal_ends n q (more v b) side fs = rw (same_byte q) refl

pub const_blank_next : (n : List ℕ → NameTest) (c : Const) (side : Side) (fs : List Frame) (b : ℕ) → is_blank b ≡ true → next n (at (look_const c side) fs) b ≡ Some (at (states.AfterOperand (const_tree c) side) fs)
const_blank_next n (literal q v) side fs b h = rw h refl
const_blank_next n (number a w) side fs b h = rw ((blank_is b h).digit, h) refl
const_blank_next n (negative g a w) side fs b h = rw ((blank_is b h).digit, h) refl
const_blank_next n (const_blank c d) side fs b h = rw h refl

pub const_ends : (n : List ℕ → NameTest) (c : Const) (side : Side) (fs : List Frame) (b : ℕ) → Ender b → next n (at (look_const c side) fs) b ≡ end_operand (const_tree c) side fs b
const_ends n (literal q v) side fs b k = rw k.blank refl
const_ends n (number a w) side fs b k = rw (k.digit, k.blank) refl
const_ends n (negative g a w) side fs b k = rw (k.digit, k.blank) refl
const_ends n (const_blank c d) side fs b k = rw k.blank refl

digits_run : (n : List ℕ → NameTest) (neg : Bool) (a : ℕ) (w : Row) → Each is_digit w → (side : Side) (fs : List Frame) (u : List ℕ) → run n (at (states.InDigits neg (a ∷ []) side) fs) (row w ++ u) ≡ run n (at (states.InDigits neg (a ∷ row w) side) fs) u
digits_run n neg a w h side fs u = row_run n is_digit (λ r. at (states.InDigits neg (a ∷ row r) side) fs) (λ r b k. rw k refl) w h u

const_run : (n : List ℕ → NameTest) (c : Const) → GoodConst c → (x : Configuration) (side : Side) (fs : List Frame) → BeginsArg n x side fs (starts_const c) → (u : List ℕ) → run n x (const_text c ++ u) ≡ run n (at (look_const c side) fs) u
const_run n (literal q v) g x side fs B u = ap (run n x) (ap (λ (t : List ℕ). q ∷ t) (append_assoc (row v) (q ∷ []) u)) ∙ goes n (row v ++ q ∷ u) _ _ (B.quote q g.0) ∙ literal_run n q v g.1 side fs (q ∷ u) ∙ goes n u _ _ (literal_ends n q v side fs)
const_run n (number a w) g x side fs B u = goes n (row w ++ u) _ _ (B.digit refl a g.0) ∙ digits_run n false a w g.1 side fs u
const_run n (negative s a w) g x side fs B u =
    ap (run n x) (ap (λ (t : List ℕ). 45 ∷ t) (append_assoc (row s) (a ∷ row w) u)) ∙ goes n (row s ++ a ∷ (row w ++ u)) _ _ (B.minus refl)
    ∙ blanks_run n (at (states.Minus side) fs) (λ b k. rw k refl) s g.0 (a ∷ (row w ++ u))
    ∙ goes n (row w ++ u) _ (Some (at (states.InDigits true (a ∷ []) side) fs)) (let k = digit_is a g.1 in rw (k.blank, g.1) refl) ∙ digits_run n true a w g.2 side fs u
const_run n (const_blank c b) g x side fs B u = ap (run n x) (append_assoc (const_text c) (b ∷ []) u) ∙ const_run n c g.0 x side fs B (b ∷ u) ∙ goes n u _ _ (const_blank_next n c side fs b g.1)

-- ---- attributes, after the parts before them

pub attr_blank_next : (n : List ℕ → NameTest) (a : Attr) (side : Side) (fs : List Frame) (b : ℕ) → is_blank b ≡ true → next n (at (look_attr n a side) fs) b ≡ Some (at (states.AfterOperand (operands.Path (attr_tree n a)) side) fs)
attr_blank_next n (attribute f g a w) side fs b h = rw ((blank_is b h).word_, h) refl
attr_blank_next n (attr_blank a c) side fs b h = rw h refl

pub attr_ends : (n : List ℕ → NameTest) (a : Attr) (side : Side) (fs : List Frame) (c : ℕ) → Ender c → (ends_attr a && is_word_byte c) ≡ false → next n (at (look_attr n a side) fs) c ≡ end_operand (operands.Path (attr_tree n a)) side fs c
attr_ends n (attribute f g a w) side fs c k h = rw (h, k.blank) refl
attr_ends n (attr_blank a b) side fs c k h = rw k.blank refl

at_run : (n : List ℕ → NameTest) (g : Row) (a : ℕ) (w : Row) → Each is_blank g → is_letter a ≡ true → Each is_word_byte w → (sep : Separator) (ps : List (Part Expression)) (side : Side) (fs : List Frame) (u : List ℕ)
    → run n (at (states.AtSign sep ps side) fs) (row g ++ a ∷ (row w ++ u)) ≡ run n (at (states.InAttribute sep (a ∷ row w) ps side) fs) u
at_run n g a w hg ha hw sep ps side fs u =
    blanks_run n (at (states.AtSign sep ps side) fs) (λ b k. rw k refl) g hg (a ∷ (row w ++ u))
    ∙ goes n (row w ++ u) _ (Some (at (states.InAttribute sep (a ∷ []) ps side) fs)) (let k = letter_is a ha in rw (k.blank, ha) refl)
    ∙ row_run n is_word_byte (λ r. at (states.InAttribute sep (a ∷ row r) ps side) fs) (λ r b k. rw k refl) w hw u

-- ---- comparisons, where it is known how the left side ends

pub cmp_blank_next : (n : List ℕ → NameTest) (a : Arg) (c : Cmp) (l : Level) (fs : List Frame) (b : ℕ) → is_blank b ≡ true → next n (at (look_right n a c l) fs) b ≡ Some (at (right_of (arg_tree n a) (cmp_tree c) l) fs)
cmp_blank_next n a equal l fs b h = rw h refl
cmp_blank_next n a not_equal l fs b h = rw h refl
cmp_blank_next n a less l fs b h = rw ((blank_is b h).same, h) refl
cmp_blank_next n a less_or_equal l fs b h = rw h refl
cmp_blank_next n a greater l fs b h = rw ((blank_is b h).same, h) refl
cmp_blank_next n a greater_or_equal l fs b h = rw h refl
cmp_blank_next n a (cmp_blank c d) l fs b h = rw h refl

abbrev pub left_side : Level → Side
left_side l = record { compared = None; level = l }

cmp_run : (n : List ℕ → NameTest) (a : Arg) (c : Cmp) → GoodCmp c → (x : Configuration) (l : Level) (fs : List Frame) → ((d : ℕ) (u : List ℕ) → Ender d → is_word_byte d ≡ false → run n x (arg_text a ++ d ∷ u) ≡ on n u (end_operand (arg_tree n a) (left_side l) fs d))
    → (u : List ℕ) → run n x (arg_text a ++ (cmp_text c ++ u)) ≡ run n (at (look_right n a c l) fs) u
cmp_run n a equal g x l fs f u = f 61 u (record { blank = refl; bracket_ = refl; open_ = refl; slash_ = refl; dot_ = refl; digit = refl }) refl
cmp_run n a not_equal g x l fs f u = f 33 (61 ∷ u) (record { blank = refl; bracket_ = refl; open_ = refl; slash_ = refl; dot_ = refl; digit = refl }) refl
cmp_run n a less g x l fs f u = f 60 u (record { blank = refl; bracket_ = refl; open_ = refl; slash_ = refl; dot_ = refl; digit = refl }) refl
cmp_run n a less_or_equal g x l fs f u = f 60 (61 ∷ u) (record { blank = refl; bracket_ = refl; open_ = refl; slash_ = refl; dot_ = refl; digit = refl }) refl
cmp_run n a greater g x l fs f u = f 62 u (record { blank = refl; bracket_ = refl; open_ = refl; slash_ = refl; dot_ = refl; digit = refl }) refl
cmp_run n a greater_or_equal g x l fs f u = f 62 (61 ∷ u) (record { blank = refl; bracket_ = refl; open_ = refl; slash_ = refl; dot_ = refl; digit = refl }) refl
cmp_run n a (cmp_blank c b) g x l fs f u =
    ap (run n x) (ap (λ (t : List ℕ). arg_text a ++ t) (append_assoc (cmp_text c) (b ∷ []) u)) ∙ cmp_run n a c g.0 x l fs f (b ∷ u) ∙ goes n u _ _ (cmp_blank_next n a c l fs b g.1)

-- ---- the blanks after `and` and `or`

gap_run : (n : List ℕ → NameTest) (k : Link) (e : Expression) (l m : Level) (fs : List Frame) → ((b : ℕ) → is_blank b ≡ true → next n (at (states.Link k e l) fs) b ≡ Some (at (states.Unit m) fs)) → (g : Row) (b : ℕ) → Each is_blank (more g b) → (u : List ℕ) → run n (at (states.Link k e l) fs) (row (more g b) ++ u) ≡ run n (at (states.Unit m) fs) u
gap_run n k e l m fs f none b h u = goes n u _ _ (f b h.1)
gap_run n k e l m fs f (more g c) b h u = ap (run n (at (states.Link k e l) fs)) (append_assoc (row (more g c)) (b ∷ []) u) ∙ gap_run n k e l m fs f g c h.0 (b ∷ u) ∙ goes n u _ (Some (at (states.Unit m) fs)) (rw h.1 refl)

-- ---- where the last unit of an expression stands

abbrev pub ands_last : (List ℕ → NameTest) → Ands → Expression
ands_last n (one t) = term_tree n t
ands_last n (both a g t) = term_tree n t

abbrev pub ands_front : (List ℕ → NameTest) → Ands → List Expression
ands_front n (one t) = []
ands_front n (both a g t) = ands_list n a

pub ands_step : (n : List ℕ → NameTest) (a : Ands) → add_and (ands_front n a) (ands_last n a) ≡ ands_list n a
ands_step n (one t) = refl
ands_step n (both a g t) = refl

ands_whole : (n : List ℕ → NameTest) (a : Ands) → joined_and (ands_front n a) (ands_last n a) ≡ ands_tree n a
ands_whole n (one t) = refl
ands_whole n (both a g t) = refl

abbrev pub ors_end : Ors → Ands
ors_end (one_and a) = a
ors_end (either o g a) = a

abbrev pub ors_front : (List ℕ → NameTest) → Ors → List Expression
ors_front n (one_and a) = []
ors_front n (either o g a) = ors_list n o

pub ors_step : (n : List ℕ → NameTest) (o : Ors) → add_or (ors_front n o) (joined_and (ands_front n (ors_end o)) (ands_last n (ors_end o))) ≡ ors_list n o
ors_step n (one_and a) = ap (λ (e : Expression). add_or [] e) (ands_whole n a)
ors_step n (either o g a) = ap (λ (e : Expression). add_or (ors_list n o) e) (ands_whole n a)

pub ors_whole : (n : List ℕ → NameTest) (o : Ors) → joined_or (ors_front n o) (joined_and (ands_front n (ors_end o)) (ands_last n (ors_end o))) ≡ ors_tree n o
ors_whole n (one_and a) = ands_whole n a
ors_whole n (either o g a) = ap (λ (e : Expression). joined_or (ors_list n o) e) (ands_whole n a)

pub final_93 : Final 93
final_93 = record { ender = record { blank = refl; bracket_ = refl; open_ = refl; slash_ = refl; dot_ = refl; digit = refl }; bang = refl; same = refl; less_ = refl; greater_ = refl }

pub final_41 : Final 41
final_41 = record { ender = record { blank = refl; bracket_ = refl; open_ = refl; slash_ = refl; dot_ = refl; digit = refl }; bang = refl; same = refl; less_ = refl; greater_ = refl }

pub final_97 : Final 97
final_97 = record { ender = record { blank = refl; bracket_ = refl; open_ = refl; slash_ = refl; dot_ = refl; digit = refl }; bang = refl; same = refl; less_ = refl; greater_ = refl }

pub final_111 : Final 111
final_111 = record { ender = record { blank = refl; bracket_ = refl; open_ = refl; slash_ = refl; dot_ = refl; digit = refl }; bang = refl; same = refl; less_ = refl; greater_ = refl }

ors_closed : (n : List ℕ → NameTest) (o : Ors) (fs : List Frame) (c : ℕ) (u : List ℕ) → (c == 97) ≡ false → (c == 111) ≡ false
    → on n u (end_unit (ands_last n (ors_end o)) (record { ors = ors_front n o; ands = ands_front n (ors_end o) }) fs c) ≡ on n u (close (ors_tree n o) fs c)
ors_closed n o fs c u i j = goes n u (end_unit (ands_last n (ors_end o)) (record { ors = ors_front n o; ands = ands_front n (ors_end o) }) fs c) (close (ors_tree n o) fs c) (rw (i, j) (ap (λ (v : Expression). close v fs c) (ors_whole n o)))

-- a function knows that `not` is a name
abbrev pub Knows : (List ℕ → NameTest) → Type 0
Knows n = is_name (codes "not") (n (codes "not")) ≡ true

pub not_tree : (n : List ℕ → NameTest) → Knows n → (sep : Separator) (t : Tested) → IsNot t → is_not (tested_tree n sep t) ≡ true
not_tree n k sep (word a w) h = rw (h, k) refl
not_tree n k sep star h = absurd h
not_tree n k sep (predicate t g o) h = absurd h
not_tree n k sep (tested_blank t b) h = not_tree n k sep t h

pub any_step : (n : List ℕ → NameTest) (s : Configuration) (sep : Separator) (spot : Spot) (fs : List Frame) (w : Bool) → BeginsStep n s sep spot fs true → BeginsStep n s sep spot fs w
any_step n s sep spot fs w B = record { letter = λ _. B.letter refl; any = B.any }

-- after `and` or `or`, what is run from where a unit begins
and_run : (n : List ℕ → NameTest) (e : Expression) (l : Level) (fs : List Frame) (g : Row) → Each is_blank g → (w : Bool) → Apart g w → (v : List ℕ) (r : Option Configuration) → ((z : Configuration) → BeginsTerm n z (record { ors = l.ors; ands = add_and l.ands e }) fs w → run n z v ≡ r) → run n (at (states.Link links.And e l) fs) (row g ++ v) ≡ r
and_run n e l fs none h w a v r f = f (at (states.Link links.And e l) fs) (subst (λ (b : Bool). BeginsTerm n (at (states.Link links.And e l) fs) (record { ors = l.ors; ands = add_and l.ands e }) fs b) (sym a) (and_begins n e l fs))
and_run n e l fs (more g b) h w a v r f =
    gap_run n links.And e l (record { ors = l.ors; ands = add_and l.ands e }) fs (λ c k. rw ((blank_is c k).word_, k) refl) g b h v ∙ f (at (states.Unit (record { ors = l.ors; ands = add_and l.ands e })) fs) (unit_begins n (record { ors = l.ors; ands = add_and l.ands e }) fs w)

or_run : (n : List ℕ → NameTest) (e : Expression) (l : Level) (fs : List Frame) (g : Row) → Each is_blank g → (w : Bool) → Apart g w → (v : List ℕ) (r : Option Configuration) → ((z : Configuration) → BeginsTerm n z (record { ors = add_or l.ors (joined_and l.ands e); ands = [] }) fs w → run n z v ≡ r) → run n (at (states.Link links.Or e l) fs) (row g ++ v) ≡ r
or_run n e l fs none h w a v r f = f (at (states.Link links.Or e l) fs) (subst (λ (b : Bool). BeginsTerm n (at (states.Link links.Or e l) fs) (record { ors = add_or l.ors (joined_and l.ands e); ands = [] }) fs b) (sym a) (or_begins n e l fs))
or_run n e l fs (more g b) h w a v r f =
    gap_run n links.Or e l (record { ors = add_or l.ors (joined_and l.ands e); ands = [] }) fs (λ c k. rw ((blank_is c k).word_, k) refl) g b h v ∙ f (at (states.Unit (record { ors = add_or l.ors (joined_and l.ands e); ands = [] })) fs) (unit_begins n (record { ors = add_or l.ors (joined_and l.ands e); ands = [] }) fs w)

-- ---- what is written is run, to a state or to what the byte after it does

mutual
  tested_run : (n : List ℕ → NameTest) → Knows n → (t : Tested) → GoodTested t → (sep : Separator) (spot : Spot) (fs : List Frame) (x : Configuration) → BeginsStep n x sep spot fs (starts_tested t) → (u : List ℕ) → run n x (tested_text t ++ u) ≡ run n (at (seen n t sep spot) fs) u
  tested_run n k (word a w) g sep spot fs x B u = goes n (row w ++ u) _ _ (B.letter refl a g.0) ∙ row_run n is_word_byte (λ r. at (states.InWord sep (a ∷ row r) spot) fs) (λ r b h. rw h refl) w g.1 u
  tested_run n k star g sep spot fs x B u = goes n u _ _ B.any
  tested_run n k (predicate t r o) g sep spot fs x B u =
      let e : (tested_text t ++ 91 ∷ (row r ++ (ors_text o ++ 93 ∷ []))) ++ u ≡ tested_text t ++ 91 ∷ (row r ++ (ors_text o ++ 93 ∷ u)) = simp append_assoc in
      ap (run n x) e ∙ tested_run n k t g.0 sep spot fs x B (91 ∷ (row r ++ (ors_text o ++ 93 ∷ u)))
      ∙ goes n (row r ++ (ors_text o ++ 93 ∷ u)) _ _ (seen_next n t sep spot fs 91 (and_false (ends_tested t)))
      ∙ blanks_run n (at (states.Unit no_units) (frames.Bracket (tested_tree n sep t) spot ∷ fs)) (λ b h. rw h refl) r g.1 (ors_text o ++ 93 ∷ u)
      ∙ ors_until n k o g.2 (frames.Bracket (tested_tree n sep t) spot ∷ fs) 93 u final_93 (and_false (ends_ors o)) ∙ ors_closed n o (frames.Bracket (tested_tree n sep t) spot ∷ fs) 93 u refl refl
  tested_run n k (tested_blank t b) g sep spot fs x B u = ap (run n x) (append_assoc (tested_text t) (b ∷ []) u) ∙ tested_run n k t g.0 sep spot fs x B (b ∷ u) ∙ goes n u _ _ (seen_blank n t sep spot fs b g.1)

  piece_run : (n : List ℕ → NameTest) → Knows n → (p : Piece) (sep : Separator) → GoodPiece sep p → (ps : List (Part Expression)) (side : Side) (fs : List Frame) (x : Configuration) → BeginsPart n x sep ps side fs (starts_piece p) → (u : List ℕ) → run n x (piece_text p ++ u) ≡ run n (at (seen_piece n p sep ps side) fs) u
  piece_run n k (tested t) sep g ps side fs x B u = tested_run n k t g sep (spots.Part ps side) fs x B.begins_step u
  piece_run n k (dotted d) sep g ps side fs x B u = dots_run n d g.0 x ps side fs (B.dot_ g.1) u

  -- parts and a last one
  path_run : (n : List ℕ → NameTest) → Knows n → (f : Fore) → GoodFore f → (side : Side) (fs : List Frame) (x : Configuration) (w : Bool) → ((p : Piece) → starts_path f p ≡ w → BeginsPart n x Slash [] side fs w)
      → (p : Piece) → starts_path f p ≡ w → (v u : List ℕ) (y : State) → ((z : Configuration) → BeginsPart n z (fore_sep f) (fore_tree n f) side fs (starts_piece p) → run n z (piece_text p ++ u) ≡ run n (at y fs) u) → run n x (fore_text f ++ (piece_text p ++ u)) ≡ run n (at y fs) u
  path_run n k no_fore g side fs x w B p e v u y f = f x (subst (λ (b : Bool). BeginsPart n x Slash [] side fs b) (sym e) (B p e))
  path_run n k (fore f q s) g side fs x w B p e v u y h =
      let a : (fore_text f ++ (piece_text q ++ sep_text s)) ++ (piece_text p ++ u) ≡ fore_text f ++ (piece_text q ++ (sep_text s ++ (piece_text p ++ u))) = simp append_assoc in
      ap (run n x) a
      ∙ path_run n k f g.0 side fs x w (λ r d. B p e) q e v (sep_text s ++ (piece_text p ++ u)) (seen_piece n q (fore_sep f) (fore_tree n f) side) (λ z b. piece_run n k q (fore_sep f) g.1 (fore_tree n f) side fs z b (sep_text s ++ (piece_text p ++ u)))
      ∙ sep_run n s g.2 (at (seen_piece n q (fore_sep f) (fore_tree n f) side) fs) (spots.Part (fore_tree n (fore f q s)) side) fs (piece_slash n q (fore_sep f) (fore_tree n f) side fs) (piece_text p ++ u)
      ∙ h (at (look_sep s (spots.Part (fore_tree n (fore f q s)) side)) fs) (sep_begins n s (fore_tree n (fore f q s)) side fs (starts_piece p))

  -- parts, and the sign of an attribute
  fore_run : (n : List ℕ → NameTest) → Knows n → (f : Fore) → GoodFore f → (side : Side) (fs : List Frame) (x : Configuration) → BeginsPart n x Slash [] side fs (starts_at f) → (u : List ℕ) → run n x (fore_text f ++ 64 ∷ u) ≡ run n (at (states.AtSign (fore_sep f) (fore_tree n f) side) fs) u
  fore_run n k no_fore g side fs x B u = goes n u _ _ B.sign
  fore_run n k (fore f q s) g side fs x B u =
      let a : (fore_text f ++ (piece_text q ++ sep_text s)) ++ 64 ∷ u ≡ fore_text f ++ (piece_text q ++ (sep_text s ++ 64 ∷ u)) = simp append_assoc in
      ap (run n x) a
      ∙ path_run n k f g.0 side fs x (starts_path f q) (λ r d. B) q refl [] (sep_text s ++ 64 ∷ u) (seen_piece n q (fore_sep f) (fore_tree n f) side) (λ z b. piece_run n k q (fore_sep f) g.1 (fore_tree n f) side fs z b (sep_text s ++ 64 ∷ u))
      ∙ sep_run n s g.2 (at (seen_piece n q (fore_sep f) (fore_tree n f) side) fs) (spots.Part (fore_tree n (fore f q s)) side) fs (piece_slash n q (fore_sep f) (fore_tree n f) side fs) (64 ∷ u)
      ∙ goes n u _ _ (sep_begins n s (fore_tree n (fore f q s)) side fs true).sign

  attr_run : (n : List ℕ → NameTest) → Knows n → (a : Attr) → GoodAttr a → (side : Side) (fs : List Frame) (x : Configuration) → BeginsPart n x Slash [] side fs (starts_attr a) → (u : List ℕ) → run n x (attr_text a ++ u) ≡ run n (at (look_attr n a side) fs) u
  attr_run n k (attribute f r a w) g side fs x B u =
      let e : (fore_text f ++ 64 ∷ (row r ++ a ∷ row w)) ++ u ≡ fore_text f ++ 64 ∷ (row r ++ a ∷ (row w ++ u)) = simp append_assoc in
      ap (run n x) e ∙ fore_run n k f g.0 side fs x B (row r ++ a ∷ (row w ++ u)) ∙ at_run n r a w g.1 g.2 g.3 (fore_sep f) (fore_tree n f) side fs u
  attr_run n k (attr_blank a b) g side fs x B u = ap (run n x) (append_assoc (attr_text a) (b ∷ []) u) ∙ attr_run n k a g.0 side fs x B (b ∷ u) ∙ goes n u _ _ (attr_blank_next n a side fs b g.1)

  road_run : (n : List ℕ → NameTest) → Knows n → (r : Road) → GoodRoad r → (side : Side) (fs : List Frame) (x : Configuration) → BeginsPart n x Slash [] side fs (starts_road r) → (c : ℕ) (u : List ℕ) → Ender c → (ends_road r && is_word_byte c) ≡ false → run n x (road_text r ++ c ∷ u) ≡ on n u (end_operand (operands.Path (road_tree n r)) side fs c)
  road_run n k (path f p) g side fs x B c u e h =
      ap (run n x) (append_assoc (fore_text f) (piece_text p) (c ∷ u))
      ∙ path_run n k f g.0 side fs x (starts_path f p) (λ q d. B) p refl [] (c ∷ u) (seen_piece n p (fore_sep f) (fore_tree n f) side) (λ z b. piece_run n k p (fore_sep f) g.1 (fore_tree n f) side fs z b (c ∷ u))
      ∙ goes n u _ _ (piece_ends n p (fore_sep f) (fore_tree n f) side fs c e h)
  road_run n k (attr a) g side fs x B c u e h = attr_run n k a g side fs x B (c ∷ u) ∙ goes n u _ _ (attr_ends n a side fs c e h)

  arg_run : (n : List ℕ → NameTest) → Knows n → (a : Arg) → GoodArg a → (side : Side) (fs : List Frame) (x : Configuration) → BeginsArg n x side fs (starts_arg a) → (c : ℕ) (u : List ℕ) → Ender c → (ends_arg a && is_word_byte c) ≡ false → run n x (arg_text a ++ c ∷ u) ≡ on n u (end_operand (arg_tree n a) side fs c)
  arg_run n k (road r) g side fs x B c u e h = road_run n k r g side fs x B.part c u e h
  arg_run n k (const a) g side fs x B c u e h = const_run n a g x side fs B (c ∷ u) ∙ goes n u _ _ (const_ends n a side fs c e)

  group_run : (n : List ℕ → NameTest) → Knows n → (g : Group) → GoodGroup g → (l : Level) (fs : List Frame) (x : Configuration) → BeginsTerm n x l fs (starts_group g) → (u : List ℕ) → run n x (group_text g ++ u) ≡ run n (at (states.AfterGroup (group_tree n g) l) fs) u
  group_run n k (group r o) g l fs x B u =
      let e : (row r ++ (ors_text o ++ 41 ∷ [])) ++ u ≡ row r ++ (ors_text o ++ 41 ∷ u) = simp append_assoc in
      ap (λ (t : List ℕ). run n x (40 ∷ t)) e
      ∙ goes n (row r ++ (ors_text o ++ 41 ∷ u)) _ _ B.open_
      ∙ blanks_run n (at (states.Unit no_units) (frames.Paren false l ∷ fs)) (λ b h. rw h refl) r g.0 (ors_text o ++ 41 ∷ u)
      ∙ ors_until n k o g.1 (frames.Paren false l ∷ fs) 41 u final_41 (and_false (ends_ors o)) ∙ ors_closed n o (frames.Paren false l ∷ fs) 41 u refl refl
  group_run n k (not_group t r o) g l fs x B u =
      let e : (tested_text t ++ 40 ∷ (row r ++ (ors_text o ++ 41 ∷ []))) ++ u ≡ tested_text t ++ 40 ∷ (row r ++ (ors_text o ++ 41 ∷ u)) = simp append_assoc in
      ap (run n x) e
      ∙ tested_run n k t g.1 Slash (spots.Part [] (left_side l)) fs x (any_step n x Slash (spots.Part [] (left_side l)) fs (starts_tested t) B.arg.part.begins_step) (40 ∷ (row r ++ (ors_text o ++ 41 ∷ u)))
      ∙ goes n (row r ++ (ors_text o ++ 41 ∷ u)) _ (Some (at (states.Unit no_units) (frames.Paren true l ∷ fs))) (seen_next n t Slash (spots.Part [] (left_side l)) fs 40 (and_false (ends_tested t)) ∙ rw (not_tree n k Slash t g.0) refl)
      ∙ blanks_run n (at (states.Unit no_units) (frames.Paren true l ∷ fs)) (λ b h. rw h refl) r g.2 (ors_text o ++ 41 ∷ u)
      ∙ ors_until n k o g.3 (frames.Paren true l ∷ fs) 41 u final_41 (and_false (ends_ors o)) ∙ ors_closed n o (frames.Paren true l ∷ fs) 41 u refl refl
  group_run n k (group_blank r b) g l fs x B u = ap (run n x) (append_assoc (group_text r) (b ∷ []) u) ∙ group_run n k r g.0 l fs x B (b ∷ u) ∙ goes n u _ (Some (at (states.AfterGroup (group_tree n r) l) fs)) (rw g.1 refl)

  term_run : (n : List ℕ → NameTest) → Knows n → (t : Term) → GoodTerm t → (l : Level) (fs : List Frame) (x : Configuration) → BeginsTerm n x l fs (starts_term t) → (c : ℕ) (u : List ℕ) → Final c → (ends_term t && is_word_byte c) ≡ false → run n x (term_text t ++ c ∷ u) ≡ on n u (end_unit (term_tree n t) l fs c)
  term_run n k (alone r) g l fs x B c u e h = road_run n k r g (left_side l) fs x B.arg.part c u e.ender h ∙ goes n u (end_operand (operands.Path (road_tree n r)) (left_side l) fs c) (end_unit (term_tree n (alone r)) l fs c) (rw (e.bang, e.same, e.less_, e.greater_) refl)
  term_run n k (compared a d b) g l fs x B c u e h =
      let q : (arg_text a ++ (cmp_text d ++ arg_text b)) ++ c ∷ u ≡ arg_text a ++ (cmp_text d ++ (arg_text b ++ c ∷ u)) = simp append_assoc in
      ap (run n x) q
      ∙ cmp_run n a d g.1 x l fs (λ m v i j. arg_run n k a g.0 (left_side l) fs x B.arg m v i (rw j (and_false (ends_arg a)))) (arg_text b ++ c ∷ u)
      ∙ arg_run n k b g.2 (side_of (arg_tree n a) (cmp_tree d) l) fs (at (look_right n a d l) fs) (cmp_begins n a d l fs (starts_arg b)) c u e.ender h
  term_run n k (grouped r) g l fs x B c u e h = group_run n k r g l fs x B (c ∷ u) ∙ goes n u (next n (at (states.AfterGroup (group_tree n r) l) fs) c) (end_unit (group_tree n r) l fs c) (rw e.ender.blank refl)

  ands_run : (n : List ℕ → NameTest) → Knows n → (a : Ands) → GoodAnds a → (L : List Expression) (fs : List Frame) (x : Configuration) → BeginsTerm n x (record { ors = L; ands = [] }) fs (starts_ands a) → (c : ℕ) (u : List ℕ) → Final c → (ends_ands a && is_word_byte c) ≡ false
      → run n x (ands_text a ++ c ∷ u) ≡ on n u (end_unit (ands_last n a) (record { ors = L; ands = ands_front n a }) fs c)
  ands_run n k (one t) g L fs x B c u e h = term_run n k t g (record { ors = L; ands = [] }) fs x B c u e h
  ands_run n k (both a r t) g L fs x B c u e h =
      let q : (ands_text a ++ 97 ∷ 110 ∷ 100 ∷ (row r ++ term_text t)) ++ c ∷ u ≡ ands_text a ++ 97 ∷ 110 ∷ 100 ∷ (row r ++ (term_text t ++ c ∷ u)) = simp append_assoc in
      ap (run n x) q
      ∙ ands_run n k a g.0 L fs x B 97 (110 ∷ 100 ∷ (row r ++ (term_text t ++ c ∷ u))) final_97 (rw g.1 refl)
      ∙ and_run n (ands_last n a) (record { ors = L; ands = ands_front n a }) fs r g.2 (starts_term t) g.3 (term_text t ++ c ∷ u) (on n u (end_unit (term_tree n t) (record { ors = L; ands = ands_list n a }) fs c))
      (λ z b. term_run n k t g.4 (record { ors = L; ands = ands_list n a }) fs z (subst (λ (v : List Expression). BeginsTerm n z (record { ors = L; ands = v }) fs (starts_term t)) (ands_step n a) b) c u e h)

  ors_until : (n : List ℕ → NameTest) → Knows n → (o : Ors) → GoodOrs o → (fs : List Frame) (c : ℕ) (u : List ℕ) → Final c → (ends_ors o && is_word_byte c) ≡ false
      → run n (at (states.Unit no_units) fs) (ors_text o ++ c ∷ u) ≡ on n u (end_unit (ands_last n (ors_end o)) (record { ors = ors_front n o; ands = ands_front n (ors_end o) }) fs c)
  ors_until n k (one_and a) g fs c u e h = ands_run n k a g [] fs (at (states.Unit no_units) fs) (unit_begins n no_units fs (starts_ands a)) c u e h
  ors_until n k (either o r a) g fs c u e h =
      let q : (ors_text o ++ 111 ∷ 114 ∷ (row r ++ ands_text a)) ++ c ∷ u ≡ ors_text o ++ 111 ∷ 114 ∷ (row r ++ (ands_text a ++ c ∷ u)) = simp append_assoc in
      ap (run n (at (states.Unit no_units) fs)) q
      ∙ ors_until n k o g.0 fs 111 (114 ∷ (row r ++ (ands_text a ++ c ∷ u))) final_111 (rw g.1 refl)
      ∙ or_run n (ands_last n (ors_end o)) (record { ors = ors_front n o; ands = ands_front n (ors_end o) }) fs r g.2 (starts_ands a) g.3 (ands_text a ++ c ∷ u) (on n u (end_unit (ands_last n a) (record { ors = ors_list n o; ands = ands_front n a }) fs c))
      (λ z b. ands_run n k a g.4 (ors_list n o) fs z (subst (λ (v : List Expression). BeginsTerm n z (record { ors = v; ands = [] }) fs (starts_ands a)) (ors_step n o) b) c u e h)

-- ---- the main path

abbrev pub main_state : (List ℕ → NameTest) → Main → Configuration
main_state n (lead g) = at states.Start []
main_state n (step m s t) = at (seen n t (sep_tree s) (spots.Main (main_tree n m))) []

pub main_slash : (n : List ℕ → NameTest) (m : Main) → next n (main_state n m) 47 ≡ Some (at (states.Slash (spots.Main (main_tree n m))) [])
main_slash n (lead g) = refl
main_slash n (step m s t) = seen_next n t (sep_tree s) (spots.Main (main_tree n m)) [] 47 (and_false (ends_tested t))

main_run : (n : List ℕ → NameTest) → Knows n → (m : Main) → GoodMain m → (u : List ℕ) → run n start (main_text m ++ u) ≡ run n (main_state n m) u
main_run n k (lead g) h u = blanks_run n start (λ b i. rw i refl) g h u
main_run n k (step m s t) h u =
    let e : (main_text m ++ (sep_text s ++ tested_text t)) ++ u ≡ main_text m ++ (sep_text s ++ (tested_text t ++ u)) = simp append_assoc in
    ap (run n start) e ∙ main_run n k m h.0 (sep_text s ++ (tested_text t ++ u))
    ∙ sep_run n s h.1 (main_state n m) (spots.Main (main_tree n m)) [] (main_slash n m) (tested_text t ++ u)
    ∙ tested_run n k t h.2 (sep_tree s) (spots.Main (main_tree n m)) [] (at (look_sep s (spots.Main (main_tree n m))) []) (main_begins n s (main_tree n m) (starts_tested t)) u

pub main_accept : (n : List ℕ → NameTest) (m : Main) → main_tree n m ≢ [] → accept n (main_state n m) ≡ Some (main_tree n m)
main_accept n (lead g) h = absurd (h refl)
main_accept n (step m s (word a w)) h = refl
main_accept n (step m s star) h = refl
main_accept n (step m s (predicate t g o)) h = refl
main_accept n (step m s (tested_blank t b)) h = refl

-- what is read is run to its query
pub reads_run : (n : List ℕ → NameTest) → Knows n → (text : List ℕ) (q : Syntax) → Reads n text q → (s : Configuration) × (run n start text ≡ Some s) × (accept n s ≡ Some q)
reads_run n k text q r =
    let m = r.0 in let p = r.1 in
    let e : text ≡ main_text m ++ [] = p.spelled ∙ sym (append-nil (main_text m)) in
    (main_state n m, ap (run n start) e ∙ main_run n k m p.good [], main_accept n m (λ h. p.some (p.tree ∙ h)) ∙ ap (λ (x : Syntax). Some x) (sym p.tree))

-- where the machine stops, the bytes are no prefix of a query
pub run_stops : (n : List ℕ → NameTest) → Knows n → (front : List ℕ) → run n start front ≡ None → IsPrefix n front → ⊥
run_stops n k front h p =
    let s = reads_run n k (front ++ p.0) p.1 p.2 in
    let e : Some s.0 ≡ None = sym s.1 ∙ run_none n p.0 front start h in
    absurd (cc)
