-- Which texts spell which queries: the syntax tree of a written tree, and which bytes may stand where in it.
use Rattle.std.specs.Prelude.{◌≡◌, ◌≢◌, ℕ, Bool, true, false, ◌&&◌, ◌==◌, List, [], ◌∷◌, ◌++◌, Some, None, codes}
use Rattle.iris_xpath.specs.declared.expression.Separator.{Separator}
use Rattle.iris_xpath.specs.declared.expression.Separator.TheVariants.{Slash, DoubleSlash}
use Rattle.iris_xpath.specs.declared.expression.NameTest.{NameTest}
use Rattle.iris_xpath.specs.declared.expression.NameTest.TheVariants.{Any}
use Rattle.iris_xpath.specs.declared.expression.Step.{Step}
use Rattle.iris_xpath.specs.declared.expression.Part.{Part}
use Rattle.iris_xpath.specs.declared.expression.Part.TheVariants as parts
use Rattle.iris_xpath.specs.declared.expression.Path.{Path}
use Rattle.iris_xpath.specs.declared.expression.Comparison.{Comparison}
use Rattle.iris_xpath.specs.declared.expression.Comparison.TheVariants.{Equal, NotEqual, Less, LessOrEqual, Greater, GreaterOrEqual}
use Rattle.iris_xpath.specs.declared.expression.Operand.{Operand}
use Rattle.iris_xpath.specs.declared.expression.Operand.TheVariants as operands
use Rattle.iris_xpath.specs.declared.expression.Expression.{Expression}
use Rattle.iris_xpath.specs.Syntax.{Syntax}
use Rattle.iris_xpath.specs.Bytes.{is_letter, is_digit, is_word_byte, is_blank, is_quote}
use Rattle.iris_xpath.specs.Trees.{step_of, with_predicate, negated_if, joined_and, joined_or, add_and, add_or, number_of, exists_of, compare_of}
use Rattle.iris_xpath.specs.Grammar.{Row, none, more, Sep, slash, slashes, sep_blank, Dots, dot, dots, dots_blank, Cmp, equal, not_equal, less, less_or_equal, greater, greater_or_equal, cmp_blank, Const, literal, number, negative, const_blank, Tested, word, star, predicate, tested_blank, Piece, tested, dotted, Fore, no_fore, fore, Attr, attribute, attr_blank, Road, path, attr, Arg, road, const, Group, group, not_group, group_blank, Term, alone, compared, grouped, Ands, one, both, Ors, one_and, either, Main, lead, step, row, main_text}

-- ---- the syntax trees, where a function tells what a word tests

-- a separator
abbrev pub sep_tree : Sep → Separator
sep_tree slash = Slash
sep_tree slashes = DoubleSlash
sep_tree (sep_blank s b) = sep_tree s

-- `.` or `..`
abbrev pub dots_tree : Dots → Part Expression
dots_tree dot = parts.Itself
dots_tree dots = parts.Parent
dots_tree (dots_blank d b) = dots_tree d

-- a comparison
abbrev pub cmp_tree : Cmp → Comparison
cmp_tree equal = Equal
cmp_tree not_equal = NotEqual
cmp_tree less = Less
cmp_tree less_or_equal = LessOrEqual
cmp_tree greater = Greater
cmp_tree greater_or_equal = GreaterOrEqual
cmp_tree (cmp_blank c b) = cmp_tree c

-- a literal or a number
abbrev pub const_tree : Const → Operand Expression
const_tree (literal q v) = operands.Literal (row v)
const_tree (number a w) = operands.Number (number_of false (a ∷ row w))
const_tree (negative g a w) = operands.Number (number_of true (a ∷ row w))
const_tree (const_blank c b) = const_tree c

-- the separator before the part or the attribute that follows
abbrev pub fore_sep : Fore → Separator
fore_sep no_fore = Slash
fore_sep (fore f p s) = sep_tree s

abbrev mutual
  pub tested_tree : (List ℕ → NameTest) → Separator → Tested → Step Expression
  tested_tree n sep (word a w) = step_of sep (n (a ∷ row w))
  tested_tree n sep star = step_of sep Any
  tested_tree n sep (predicate t g o) = with_predicate (tested_tree n sep t) (ors_tree n o)
  tested_tree n sep (tested_blank t b) = tested_tree n sep t

  pub piece_tree : (List ℕ → NameTest) → Separator → Piece → Part Expression
  piece_tree n sep (tested t) = parts.Step (tested_tree n sep t)
  piece_tree n sep (dotted d) = dots_tree d

  pub fore_tree : (List ℕ → NameTest) → Fore → List (Part Expression)
  fore_tree n no_fore = []
  fore_tree n (fore f p s) = fore_tree n f ++ piece_tree n (fore_sep f) p ∷ []

  pub attr_tree : (List ℕ → NameTest) → Attr → Path Expression
  attr_tree n (attribute f g a w) = record { parts = fore_tree n f; attribute = Some (record { separator = fore_sep f; name = a ∷ row w }) }
  attr_tree n (attr_blank a b) = attr_tree n a

  pub road_tree : (List ℕ → NameTest) → Road → Path Expression
  road_tree n (path f p) = record { parts = fore_tree n f ++ piece_tree n (fore_sep f) p ∷ []; attribute = None }
  road_tree n (attr a) = attr_tree n a

  pub arg_tree : (List ℕ → NameTest) → Arg → Operand Expression
  arg_tree n (road r) = operands.Path (road_tree n r)
  arg_tree n (const c) = const_tree c

  pub group_tree : (List ℕ → NameTest) → Group → Expression
  group_tree n (group g o) = ors_tree n o
  group_tree n (not_group t g o) = negated_if true (ors_tree n o)
  group_tree n (group_blank g b) = group_tree n g

  pub term_tree : (List ℕ → NameTest) → Term → Expression
  term_tree n (alone r) = exists_of (road_tree n r)
  term_tree n (compared l c r) = compare_of (arg_tree n l) (cmp_tree c) (arg_tree n r)
  term_tree n (grouped g) = group_tree n g

  -- the parts of an `and`
  pub ands_list : (List ℕ → NameTest) → Ands → List Expression
  ands_list n (one t) = add_and [] (term_tree n t)
  ands_list n (both a g t) = add_and (ands_list n a) (term_tree n t)

  pub ands_tree : (List ℕ → NameTest) → Ands → Expression
  ands_tree n (one t) = term_tree n t
  ands_tree n (both a g t) = joined_and (ands_list n a) (term_tree n t)

  -- the parts of an `or`
  pub ors_list : (List ℕ → NameTest) → Ors → List Expression
  ors_list n (one_and a) = add_or [] (ands_tree n a)
  ors_list n (either o g a) = add_or (ors_list n o) (ands_tree n a)

  pub ors_tree : (List ℕ → NameTest) → Ors → Expression
  ors_tree n (one_and a) = ands_tree n a
  ors_tree n (either o g a) = joined_or (ors_list n o) (ands_tree n a)

-- the steps of the main path
abbrev pub main_tree : (List ℕ → NameTest) → Main → Syntax
main_tree n (lead g) = []
main_tree n (step m s t) = main_tree n m ++ tested_tree n (sep_tree s) t ∷ []

-- ---- a word is as long as it can be: where a unit begins or ends with a word, `and` and `or` need a blank

-- whether a step begins with a word
abbrev pub starts_tested : Tested → Bool
starts_tested (word a w) = true
starts_tested star = false
starts_tested (predicate t g o) = starts_tested t
starts_tested (tested_blank t b) = starts_tested t

-- whether a part begins with a word
abbrev pub starts_piece : Piece → Bool
starts_piece (tested t) = starts_tested t
starts_piece (dotted d) = false

-- whether parts and a last one begin with a word
abbrev pub starts_path : Fore → Piece → Bool
starts_path no_fore p = starts_piece p
starts_path (fore f q s) p = starts_path f q

-- whether parts, if any, begin with a word
abbrev pub starts_at : Fore → Bool
starts_at no_fore = false
starts_at (fore f q s) = starts_path f q

-- whether a path that ends in an attribute begins with a word
abbrev pub starts_attr : Attr → Bool
starts_attr (attribute f g a w) = starts_at f
starts_attr (attr_blank a b) = starts_attr a

-- whether a path begins with a word
abbrev pub starts_road : Road → Bool
starts_road (path f p) = starts_path f p
starts_road (attr a) = starts_attr a

-- digits and `-` may stand in a word too
abbrev pub starts_const : Const → Bool
starts_const (literal q v) = false
starts_const (number a w) = true
starts_const (negative g a w) = true
starts_const (const_blank c b) = starts_const c

-- whether an operand begins with what may stand in a word
abbrev pub starts_arg : Arg → Bool
starts_arg (road r) = starts_road r
starts_arg (const c) = starts_const c

-- whether what has parentheses begins with a word
abbrev pub starts_group : Group → Bool
starts_group (group g o) = false
starts_group (not_group t g o) = true
starts_group (group_blank g b) = starts_group g

-- whether a unit begins with what may stand in a word
abbrev pub starts_term : Term → Bool
starts_term (alone r) = starts_road r
starts_term (compared l c r) = starts_arg l
starts_term (grouped g) = starts_group g

-- whether an `and` of units begins with what may stand in a word
abbrev pub starts_ands : Ands → Bool
starts_ands (one t) = starts_term t
starts_ands (both a g t) = starts_ands a

-- whether a step ends in a word, with no blank
abbrev pub ends_tested : Tested → Bool
ends_tested (word a w) = true
ends_tested star = false
ends_tested (predicate t g o) = false
ends_tested (tested_blank t b) = false

-- whether a part ends in a word
abbrev pub ends_piece : Piece → Bool
ends_piece (tested t) = ends_tested t
ends_piece (dotted d) = false

-- whether an attribute ends in its word
abbrev pub ends_attr : Attr → Bool
ends_attr (attribute f g a w) = true
ends_attr (attr_blank a b) = false

-- whether a path ends in a word
abbrev pub ends_road : Road → Bool
ends_road (path f p) = ends_piece p
ends_road (attr a) = ends_attr a

-- whether an operand ends in a word
abbrev pub ends_arg : Arg → Bool
ends_arg (road r) = ends_road r
ends_arg (const c) = false

-- whether a unit ends in a word
abbrev pub ends_term : Term → Bool
ends_term (alone r) = ends_road r
ends_term (compared l c r) = ends_arg r
ends_term (grouped g) = false

-- whether an `and` of units ends in a word
abbrev pub ends_ands : Ands → Bool
ends_ands (one t) = ends_term t
ends_ands (both a g t) = ends_term t

-- whether an `or` of parts ends in a word
abbrev pub ends_ors : Ors → Bool
ends_ors (one_and a) = ends_ands a
ends_ors (either o g a) = ends_ands a

-- whether a row has no byte
abbrev pub is_empty : Row → Bool
is_empty none = true
is_empty (more r b) = false

-- the blanks after `and` or `or` keep it apart from what follows
abbrev pub Apart : Row → Bool → Type 0
Apart g starts = (is_empty g && starts) ≡ false

-- ---- which bytes may stand where

-- each byte of a row passes the test
abbrev pub Each : (ℕ → Bool) → Row → Type 0
Each test none = Unit {0}
Each test (more r b) = Each test r × (test b ≡ true)

-- no byte is the quote
abbrev pub HasNo : ℕ → Row → Type 0
HasNo q none = Unit {0}
HasNo q (more r b) = HasNo q r × ((b == q) ≡ false)

-- blanks alone follow the separator
abbrev pub GoodSep : Sep → Type 0
GoodSep slash = Unit {0}
GoodSep slashes = Unit {0}
GoodSep (sep_blank s b) = GoodSep s × (is_blank b ≡ true)

-- blanks alone follow `.` or `..`
abbrev pub GoodDots : Dots → Type 0
GoodDots dot = Unit {0}
GoodDots dots = Unit {0}
GoodDots (dots_blank d b) = GoodDots d × (is_blank b ≡ true)

-- blanks alone follow the sign
abbrev pub GoodCmp : Cmp → Type 0
GoodCmp equal = Unit {0}
GoodCmp not_equal = Unit {0}
GoodCmp less = Unit {0}
GoodCmp less_or_equal = Unit {0}
GoodCmp greater = Unit {0}
GoodCmp greater_or_equal = Unit {0}
GoodCmp (cmp_blank c b) = GoodCmp c × (is_blank b ≡ true)

-- a literal between quotes, or digits; blanks alone follow
abbrev pub GoodConst : Const → Type 0
GoodConst (literal q v) = (is_quote q ≡ true) × HasNo q v
GoodConst (number a w) = (is_digit a ≡ true) × Each is_digit w
GoodConst (negative g a w) = Each is_blank g × (is_digit a ≡ true) × Each is_digit w
GoodConst (const_blank c b) = GoodConst c × (is_blank b ≡ true)

-- the word `not`, and blanks
abbrev pub IsNot : Tested → Type 0
IsNot (word a w) = a ∷ row w ≡ codes "not"
IsNot star = ⊥
IsNot (predicate t g o) = ⊥
IsNot (tested_blank t b) = IsNot t

abbrev mutual
  pub GoodTested : Tested → Type 0
  GoodTested (word a w) = (is_letter a ≡ true) × Each is_word_byte w
  GoodTested star = Unit {0}
  GoodTested (predicate t g o) = GoodTested t × Each is_blank g × GoodOrs o
  GoodTested (tested_blank t b) = GoodTested t × (is_blank b ≡ true)

  -- `.` and `..` do not stand right after `//`
  pub GoodPiece : Separator → Piece → Type 0
  GoodPiece sep (tested t) = GoodTested t
  GoodPiece sep (dotted d) = GoodDots d × (sep ≡ Slash)

  pub GoodFore : Fore → Type 0
  GoodFore no_fore = Unit {0}
  GoodFore (fore f p s) = GoodFore f × GoodPiece (fore_sep f) p × GoodSep s

  pub GoodAttr : Attr → Type 0
  GoodAttr (attribute f g a w) = GoodFore f × Each is_blank g × (is_letter a ≡ true) × Each is_word_byte w
  GoodAttr (attr_blank a b) = GoodAttr a × (is_blank b ≡ true)

  pub GoodRoad : Road → Type 0
  GoodRoad (path f p) = GoodFore f × GoodPiece (fore_sep f) p
  GoodRoad (attr a) = GoodAttr a

  pub GoodArg : Arg → Type 0
  GoodArg (road r) = GoodRoad r
  GoodArg (const c) = GoodConst c

  pub GoodGroup : Group → Type 0
  GoodGroup (group g o) = Each is_blank g × GoodOrs o
  GoodGroup (not_group t g o) = IsNot t × GoodTested t × Each is_blank g × GoodOrs o
  GoodGroup (group_blank g b) = GoodGroup g × (is_blank b ≡ true)

  pub GoodTerm : Term → Type 0
  GoodTerm (alone r) = GoodRoad r
  GoodTerm (compared l c r) = GoodArg l × GoodCmp c × GoodArg r
  GoodTerm (grouped g) = GoodGroup g

  pub GoodAnds : Ands → Type 0
  GoodAnds (one t) = GoodTerm t
  GoodAnds (both a g t) = GoodAnds a × (ends_ands a ≡ false) × Each is_blank g × Apart g (starts_term t) × GoodTerm t

  pub GoodOrs : Ors → Type 0
  GoodOrs (one_and a) = GoodAnds a
  GoodOrs (either o g a) = GoodOrs o × (ends_ors o ≡ false) × Each is_blank g × Apart g (starts_ands a) × GoodAnds a

-- each part of the query has the bytes that may stand there
abbrev pub GoodMain : Main → Type 0
GoodMain (lead g) = Each is_blank g
GoodMain (step m s t) = GoodMain m × GoodSep s × GoodTested t

-- ---- queries

-- the text is a spelling of the query that is written so
pub record Spells (n : List ℕ → NameTest) (text : List ℕ) (q : Syntax) (m : Main) : Type 0 where
  pub some : q ≢ []
  pub good : GoodMain m
  pub spelled : text ≡ main_text m
  pub tree : q ≡ main_tree n m

-- the text is a spelling of the query
abbrev pub Reads : (List ℕ → NameTest) → List ℕ → Syntax → Type 0
Reads n text q = (m : Main) × Spells n text q m

-- some text that begins so is a spelling of a query
abbrev pub IsPrefix : (List ℕ → NameTest) → List ℕ → Type 0
IsPrefix n front = (more : List ℕ) × (q : Syntax) × Reads n (front ++ more) q
