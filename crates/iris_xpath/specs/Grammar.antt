-- The grammar of queries (XPath 1.0, 2 to 3.4), production by production. A written tree holds all that its text
-- has, blanks and parentheses too; `.._text` is the text.
use Rattle.std.specs.Prelude.{ℕ, List, [], ◌∷◌, ◌++◌}

-- ---- what is written

-- bytes, one after another
pub data Row : Type 0 where
  none : Row
  more : Row → ℕ → Row

-- `/` or `//`, and blanks
pub data Sep : Type 0 where
  slash slashes : Sep
  sep_blank : Sep → ℕ → Sep

-- `.` or `..`, and blanks
pub data Dots : Type 0 where
  dot dots : Dots
  dots_blank : Dots → ℕ → Dots

-- a sign of comparison, and blanks
pub data Cmp : Type 0 where
  equal not_equal less less_or_equal greater greater_or_equal : Cmp
  cmp_blank : Cmp → ℕ → Cmp

-- a literal: its quote, and what stands between the quotes; or a number: its first digit and the others; and blanks
pub data Const : Type 0 where
  literal : ℕ → Row → Const
  number : ℕ → Row → Const
  negative : Row → ℕ → Row → Const
  const_blank : Const → ℕ → Const

mutual
  -- a word, its first letter and its other bytes, or `*`; predicates, each with the blanks after its `[`; and blanks
  pub data Tested : Type 0 where
    word : ℕ → Row → Tested
    star : Tested
    predicate : Tested → Row → Ors → Tested
    tested_blank : Tested → ℕ → Tested

  -- a part of a path
  pub data Piece : Type 0 where
    tested : Tested → Piece
    dotted : Dots → Piece

  -- parts, each with the separator that follows it
  pub data Fore : Type 0 where
    no_fore : Fore
    fore : Fore → Piece → Sep → Fore

  -- an attribute: the parts before it, the blanks after `@`, and its word; and blanks
  pub data Attr : Type 0 where
    attribute : Fore → Row → ℕ → Row → Attr
    attr_blank : Attr → ℕ → Attr

  -- a path: parts and a last one, or an attribute at its end
  pub data Road : Type 0 where
    path : Fore → Piece → Road
    attr : Attr → Road

  -- an operand: a path, a literal or a number
  pub data Arg : Type 0 where
    road : Road → Arg
    const : Const → Arg

  -- an expression in parentheses, with the blanks after `(`; or `not` and such; and blanks
  pub data Group : Type 0 where
    group : Row → Ors → Group
    not_group : Tested → Row → Ors → Group
    group_blank : Group → ℕ → Group

  -- a unit: a path alone, a comparison, or an expression in parentheses
  pub data Term : Type 0 where
    alone : Road → Term
    compared : Arg → Cmp → Arg → Term
    grouped : Group → Term

  -- units with `and` between them, each with the blanks after it
  pub data Ands : Type 0 where
    one : Term → Ands
    both : Ands → Row → Term → Ands

  -- parts with `or` between them, each with the blanks after it
  pub data Ors : Type 0 where
    one_and : Ands → Ors
    either : Ors → Row → Ands → Ors

-- steps of the main path, after the blanks at the very beginning
pub data Main : Type 0 where
  lead : Row → Main
  step : Main → Sep → Tested → Main

-- ---- the texts

-- the bytes of a row
abbrev pub row : Row → List ℕ
row none = []
row (more r b) = row r ++ b ∷ []

-- the text of a separator
abbrev pub sep_text : Sep → List ℕ
sep_text slash = 47 ∷ []
sep_text slashes = 47 ∷ 47 ∷ []
sep_text (sep_blank s b) = sep_text s ++ b ∷ []

-- the text of `.` or `..`
abbrev pub dots_text : Dots → List ℕ
dots_text dot = 46 ∷ []
dots_text dots = 46 ∷ 46 ∷ []
dots_text (dots_blank d b) = dots_text d ++ b ∷ []

-- the text of a sign of comparison
abbrev pub cmp_text : Cmp → List ℕ
cmp_text equal = 61 ∷ []
cmp_text not_equal = 33 ∷ 61 ∷ []
cmp_text less = 60 ∷ []
cmp_text less_or_equal = 60 ∷ 61 ∷ []
cmp_text greater = 62 ∷ []
cmp_text greater_or_equal = 62 ∷ 61 ∷ []
cmp_text (cmp_blank c b) = cmp_text c ++ b ∷ []

-- the text of a literal or a number
abbrev pub const_text : Const → List ℕ
const_text (literal q v) = q ∷ (row v ++ q ∷ [])
const_text (number a w) = a ∷ row w
const_text (negative g a w) = 45 ∷ (row g ++ a ∷ row w)
const_text (const_blank c b) = const_text c ++ b ∷ []

abbrev mutual
  pub tested_text : Tested → List ℕ
  tested_text (word a w) = a ∷ row w
  tested_text star = 42 ∷ []
  tested_text (predicate t g o) = tested_text t ++ 91 ∷ (row g ++ (ors_text o ++ 93 ∷ []))
  tested_text (tested_blank t b) = tested_text t ++ b ∷ []

  pub piece_text : Piece → List ℕ
  piece_text (tested t) = tested_text t
  piece_text (dotted d) = dots_text d

  pub fore_text : Fore → List ℕ
  fore_text no_fore = []
  fore_text (fore f p s) = fore_text f ++ (piece_text p ++ sep_text s)

  pub attr_text : Attr → List ℕ
  attr_text (attribute f g a w) = fore_text f ++ 64 ∷ (row g ++ a ∷ row w)
  attr_text (attr_blank a b) = attr_text a ++ b ∷ []

  pub road_text : Road → List ℕ
  road_text (path f p) = fore_text f ++ piece_text p
  road_text (attr a) = attr_text a

  pub arg_text : Arg → List ℕ
  arg_text (road r) = road_text r
  arg_text (const c) = const_text c

  pub group_text : Group → List ℕ
  group_text (group g o) = 40 ∷ (row g ++ (ors_text o ++ 41 ∷ []))
  group_text (not_group t g o) = tested_text t ++ 40 ∷ (row g ++ (ors_text o ++ 41 ∷ []))
  group_text (group_blank g b) = group_text g ++ b ∷ []

  pub term_text : Term → List ℕ
  term_text (alone r) = road_text r
  term_text (compared l c r) = arg_text l ++ (cmp_text c ++ arg_text r)
  term_text (grouped g) = group_text g

  pub ands_text : Ands → List ℕ
  ands_text (one t) = term_text t
  ands_text (both a g t) = ands_text a ++ 97 ∷ 110 ∷ 100 ∷ (row g ++ term_text t)

  pub ors_text : Ors → List ℕ
  ors_text (one_and a) = ands_text a
  ors_text (either o g a) = ors_text o ++ 111 ∷ 114 ∷ (row g ++ ands_text a)

-- the text of a whole query
abbrev pub main_text : Main → List ℕ
main_text (lead g) = row g
main_text (step m s t) = main_text m ++ (sep_text s ++ tested_text t)
