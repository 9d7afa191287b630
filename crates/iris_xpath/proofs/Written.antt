-- What was written when the machine is in a state, and what of it is still open.
use Rattle.std.proofs.Common.{◌≡◌, ℕ, Bool, true, false, ◌&&◌, List, [], ◌∷◌, ◌++◌, Some, None}
use Rattle.iris_xpath.specs.declared.expression.Separator.{Separator}
use Rattle.iris_xpath.specs.declared.expression.Separator.TheVariants.{Slash, DoubleSlash}
use Rattle.iris_xpath.specs.declared.expression.NameTest.{NameTest}
use Rattle.iris_xpath.specs.declared.expression.Part.TheVariants as parts
use Rattle.iris_xpath.specs.declared.expression.Comparison.TheVariants.{Equal, NotEqual, Less, LessOrEqual, Greater, GreaterOrEqual}
use Rattle.iris_xpath.specs.declared.expression.Operand.TheVariants as operands
use Rattle.iris_xpath.specs.declared.expression.Expression.{Expression}
use Rattle.iris_xpath.specs.declared.state.Level.{Level}
use Rattle.iris_xpath.specs.declared.state.Side.{Side}
use Rattle.iris_xpath.specs.declared.state.Spot.{Spot}
use Rattle.iris_xpath.specs.declared.state.Spot.TheVariants as spots
use Rattle.iris_xpath.specs.declared.state.Frame.{Frame}
use Rattle.iris_xpath.specs.declared.state.Frame.TheVariants as frames
use Rattle.iris_xpath.specs.declared.state.Link.{Link}
use Rattle.iris_xpath.specs.declared.state.Link.TheVariants as links
use Rattle.iris_xpath.specs.declared.state.State.{State}
use Rattle.iris_xpath.specs.declared.state.State.TheVariants as states
use Rattle.iris_xpath.specs.Bytes.{is_blank, is_quote}
use Rattle.iris_xpath.specs.Machine.{Configuration, at, inside, sign_of, right_of}
use Rattle.iris_xpath.specs.Grammar.{Row, none, more, Sep, slash, slashes, sep_blank, Dots, dot, dots, dots_blank, Cmp, equal, not_equal, less, less_or_equal, greater, greater_or_equal, cmp_blank, Const, literal, number, negative, const_blank, Tested, word, star, predicate, tested_blank, Piece, tested, dotted, Fore, fore, Attr, attribute, attr_blank, Arg, Group, Term, Ands, Ors, Main, row, sep_text, dots_text, cmp_text, const_text, tested_text, fore_text, attr_text, arg_text, group_text, term_text, ands_text, ors_text, main_text}
use Rattle.iris_xpath.specs.Spells.{sep_tree, dots_tree, cmp_tree, const_tree, fore_sep, tested_tree, fore_tree, attr_tree, arg_tree, group_tree, term_tree, ands_list, ors_list, main_tree, starts_path, starts_at, starts_attr, starts_const, starts_arg, starts_group, starts_term, starts_ands, ends_term, ends_ands, ends_ors, is_empty, Each, HasNo, GoodSep, GoodDots, GoodCmp, GoodConst, IsNot, GoodTested, GoodFore, GoodAttr, GoodArg, GoodGroup, GoodTerm, GoodAnds, GoodOrs, GoodMain}

-- ---- what is open

pub data OrFore : Type 0 where
  no_or : OrFore
  after_or : Ors → Row → OrFore

pub data AndFore : Type 0 where
  no_and : AndFore
  after_and : Ands → Row → AndFore

mutual
  pub data Opening : Type 0 where
    bracket : Tested → Stand → Row → Opening
    paren : Before → Row → Opening
    not_paren : Tested → Before → Row → Opening

  -- what stands before a unit
  pub data Before : Type 0 where
    before : Opening → OrFore → AndFore → Before

  -- what stands before a step
  pub data Stand : Type 0 where
    in_main : Main → Sep → Stand
    in_path : Fore → Hand → Stand

  -- what stands before an operand
  pub data Hand : Type 0 where
    left : Before → Hand
    right : Arg → Cmp → Before → Hand

pub data Written : Type 0 where
  w_start : Row → Written
  w_main_sep : Main → Sep → Written
  w_tested : Tested → Stand → Written
  w_unit : Before → Written
  w_dots : Dots → Fore → Hand → Written
  w_part_sep : Fore → Piece → Sep → Hand → Written
  w_at : Row → Fore → Hand → Written
  w_attr : Attr → Hand → Written
  w_const : Const → Hand → Written
  w_literal : ℕ → Row → Hand → Written
  w_minus : Row → Hand → Written
  w_bang : Arg → Before → Written
  w_right : Arg → Cmp → Before → Written
  w_group : Group → Before → Written
  w_link : Link → Term → Before → Written

-- ---- how it looks to the machine

abbrev pub or_list : (List ℕ → NameTest) → OrFore → List Expression
or_list n no_or = []
or_list n (after_or o g) = ors_list n o

abbrev pub and_list : (List ℕ → NameTest) → AndFore → List Expression
and_list n no_and = []
and_list n (after_and a g) = ands_list n a

abbrev pub level : (List ℕ → NameTest) → Before → Level
level n (before op o a) = record { ors = or_list n o; ands = and_list n a }

abbrev pub hand : (List ℕ → NameTest) → Hand → Side
hand n (left B) = record { compared = None; level = level n B }
hand n (right a c B) = record { compared = Some (record { left = arg_tree n a; comparison = cmp_tree c }); level = level n B }

abbrev pub stand : (List ℕ → NameTest) → Stand → Spot
stand n (in_main m s) = spots.Main (main_tree n m)
stand n (in_path f h) = spots.Part (fore_tree n f) (hand n h)

abbrev pub stand_sep : Stand → Separator
stand_sep (in_main m s) = sep_tree s
stand_sep (in_path f h) = fore_sep f

abbrev mutual
  pub frames_opening : (List ℕ → NameTest) → Opening → List Frame
  frames_opening n (bracket t s g) = frames.Bracket (tested_tree n (stand_sep s) t) (stand n s) ∷ frames_stand n s
  frames_opening n (paren B g) = frames.Paren false (level n B) ∷ frames_before n B
  frames_opening n (not_paren t B g) = frames.Paren true (level n B) ∷ frames_before n B

  pub frames_before : (List ℕ → NameTest) → Before → List Frame
  frames_before n (before op o a) = frames_opening n op

  pub frames_stand : (List ℕ → NameTest) → Stand → List Frame
  frames_stand n (in_main m s) = []
  frames_stand n (in_path f h) = frames_hand n h

  pub frames_hand : (List ℕ → NameTest) → Hand → List Frame
  frames_hand n (left B) = frames_before n B
  frames_hand n (right a c B) = frames_before n B

abbrev pub look_sep : Sep → Spot → State
look_sep slash s = states.Slash s
look_sep slashes s = states.Separated DoubleSlash s
look_sep (sep_blank p b) s = states.Separated (sep_tree p) s

abbrev pub look_tested : (List ℕ → NameTest) → Tested → Stand → State
look_tested n (word a w) s = states.InWord (stand_sep s) (a ∷ row w) (stand n s)
look_tested n star s = states.AfterStep (tested_tree n (stand_sep s) star) (stand n s)
look_tested n (predicate t g o) s = states.AfterStep (tested_tree n (stand_sep s) (predicate t g o)) (stand n s)
look_tested n (tested_blank t b) s = states.AfterStep (tested_tree n (stand_sep s) t) (stand n s)

abbrev pub look_dots : (List ℕ → NameTest) → Dots → Fore → Hand → State
look_dots n dot f h = states.Dot (fore_tree n f) (hand n h)
look_dots n dots f h = states.AfterDots (fore_tree n f ++ parts.Parent ∷ []) (hand n h)
look_dots n (dots_blank d b) f h = states.AfterDots (fore_tree n f ++ dots_tree d ∷ []) (hand n h)

abbrev pub look_attr : (List ℕ → NameTest) → Attr → Side → State
look_attr n (attribute f g a w) side = states.InAttribute (fore_sep f) (a ∷ row w) (fore_tree n f) side
look_attr n (attr_blank a b) side = states.AfterOperand (operands.Path (attr_tree n a)) side

abbrev pub look_const : Const → Side → State
look_const (literal q v) side = states.AfterOperand (operands.Literal (row v)) side
look_const (number a w) side = states.InDigits false (a ∷ row w) side
look_const (negative g a w) side = states.InDigits true (a ∷ row w) side
look_const (const_blank c b) side = states.AfterOperand (const_tree c) side

abbrev pub look_literal : ℕ → Row → Side → List Frame → Configuration
look_literal q none side fs = at (states.InLiteral q side) fs
look_literal q (more r b) side fs = inside q (row r ++ b ∷ []) side fs

abbrev pub look_right : (List ℕ → NameTest) → Arg → Cmp → Level → State
look_right n a less l = sign_of (arg_tree n a) Less l
look_right n a greater l = sign_of (arg_tree n a) Greater l
look_right n a equal l = right_of (arg_tree n a) Equal l
look_right n a not_equal l = right_of (arg_tree n a) NotEqual l
look_right n a less_or_equal l = right_of (arg_tree n a) LessOrEqual l
look_right n a greater_or_equal l = right_of (arg_tree n a) GreaterOrEqual l
look_right n a (cmp_blank c b) l = right_of (arg_tree n a) (cmp_tree c) l

abbrev pub shape : (List ℕ → NameTest) → Written → Configuration
shape n (w_start g) = at states.Start []
shape n (w_main_sep m s) = at (look_sep s (spots.Main (main_tree n m))) []
shape n (w_tested t s) = at (look_tested n t s) (frames_stand n s)
shape n (w_unit B) = at (states.Unit (level n B)) (frames_before n B)
shape n (w_dots d f h) = at (look_dots n d f h) (frames_hand n h)
shape n (w_part_sep f p s h) = at (look_sep s (spots.Part (fore_tree n (fore f p s)) (hand n h))) (frames_hand n h)
shape n (w_at g f h) = at (states.AtSign (fore_sep f) (fore_tree n f) (hand n h)) (frames_hand n h)
shape n (w_attr a h) = at (look_attr n a (hand n h)) (frames_hand n h)
shape n (w_const c h) = at (look_const c (hand n h)) (frames_hand n h)
shape n (w_literal q v h) = look_literal q v (hand n h) (frames_hand n h)
shape n (w_minus g h) = at (states.Minus (hand n h)) (frames_hand n h)
shape n (w_bang a B) = at (states.Bang (arg_tree n a) (level n B)) (frames_before n B)
shape n (w_right a c B) = at (look_right n a c (level n B)) (frames_before n B)
shape n (w_group g B) = at (states.AfterGroup (group_tree n g) (level n B)) (frames_before n B)
shape n (w_link l t B) = at (states.Link l (term_tree n t) (level n B)) (frames_before n B)

-- ---- its text

abbrev pub or_text : OrFore → List ℕ
or_text no_or = []
or_text (after_or o g) = ors_text o ++ 111 ∷ 114 ∷ row g

abbrev pub and_text : AndFore → List ℕ
and_text no_and = []
and_text (after_and a g) = ands_text a ++ 97 ∷ 110 ∷ 100 ∷ row g

abbrev mutual
  pub opening_text : Opening → List ℕ
  opening_text (bracket t s g) = stand_text s ++ (tested_text t ++ 91 ∷ row g)
  opening_text (paren B g) = before_text B ++ 40 ∷ row g
  opening_text (not_paren t B g) = before_text B ++ (tested_text t ++ 40 ∷ row g)

  pub before_text : Before → List ℕ
  before_text (before op o a) = opening_text op ++ (or_text o ++ and_text a)

  pub stand_text : Stand → List ℕ
  stand_text (in_main m s) = main_text m ++ sep_text s
  stand_text (in_path f h) = hand_text h ++ fore_text f

  pub hand_text : Hand → List ℕ
  hand_text (left B) = before_text B
  hand_text (right a c B) = before_text B ++ (arg_text a ++ cmp_text c)

abbrev pub link_text : Link → List ℕ
link_text links.A = 97 ∷ []
link_text links.An = 97 ∷ 110 ∷ []
link_text links.And = 97 ∷ 110 ∷ 100 ∷ []
link_text links.O = 111 ∷ []
link_text links.Or = 111 ∷ 114 ∷ []

abbrev pub written : Written → List ℕ
written (w_start g) = row g
written (w_main_sep m s) = main_text m ++ sep_text s
written (w_tested t s) = stand_text s ++ tested_text t
written (w_unit B) = before_text B
written (w_dots d f h) = hand_text h ++ (fore_text f ++ dots_text d)
written (w_part_sep f p s h) = hand_text h ++ fore_text (fore f p s)
written (w_at g f h) = hand_text h ++ (fore_text f ++ 64 ∷ row g)
written (w_attr a h) = hand_text h ++ attr_text a
written (w_const c h) = hand_text h ++ const_text c
written (w_literal q v h) = hand_text h ++ q ∷ row v
written (w_minus g h) = hand_text h ++ 45 ∷ row g
written (w_bang a B) = before_text B ++ (arg_text a ++ 33 ∷ [])
written (w_right a c B) = before_text B ++ (arg_text a ++ cmp_text c)
written (w_group g B) = before_text B ++ group_text g
written (w_link l t B) = before_text B ++ (term_text t ++ link_text l)

-- ---- which bytes stand where

-- whether what follows must not begin with a word
abbrev pub tight_or : OrFore → Bool
tight_or no_or = false
tight_or (after_or o g) = is_empty g

abbrev pub tight : OrFore → AndFore → Bool
tight o no_and = tight_or o
tight o (after_and a g) = is_empty g

abbrev pub Room : Before → Bool → Type 0
Room (before op o a) starts = (tight o a && starts) ≡ false

abbrev pub HandRoom : Hand → Bool → Type 0
HandRoom (left B) starts = Room B starts
HandRoom (right a c B) starts = Room B (starts_arg a)

abbrev pub GoodOr : OrFore → Type 0
GoodOr no_or = Unit {0}
GoodOr (after_or o g) = GoodOrs o × (ends_ors o ≡ false) × Each is_blank g

abbrev pub GoodAnd : OrFore → AndFore → Type 0
GoodAnd o no_and = Unit {0}
GoodAnd o (after_and a g) = ((tight_or o && starts_ands a) ≡ false) × GoodAnds a × (ends_ands a ≡ false) × Each is_blank g

abbrev mutual
  pub GoodOpening : Opening → Type 0
  GoodOpening (bracket t s g) = GoodTested t × GoodStand s × StandRoom s t × Each is_blank g
  GoodOpening (paren B g) = GoodBefore B × Each is_blank g
  GoodOpening (not_paren t B g) = IsNot t × GoodTested t × GoodBefore B × Room B true × Each is_blank g

  pub GoodBefore : Before → Type 0
  GoodBefore (before op o a) = GoodOpening op × GoodOr o × GoodAnd o a

  pub GoodStand : Stand → Type 0
  GoodStand (in_main m s) = GoodMain m × GoodSep s
  GoodStand (in_path f h) = GoodFore f × GoodHand h

  pub GoodHand : Hand → Type 0
  GoodHand (left B) = GoodBefore B
  GoodHand (right a c B) = GoodArg a × GoodCmp c × GoodBefore B

  pub StandRoom : Stand → Tested → Type 0
  StandRoom (in_main m s) t = Unit {0}
  StandRoom (in_path f h) t = HandRoom h (starts_path f (tested t))

abbrev pub Good : Written → Type 0
Good (w_start g) = Each is_blank g
Good (w_main_sep m s) = GoodMain m × GoodSep s
Good (w_tested t s) = GoodTested t × GoodStand s × StandRoom s t
Good (w_unit B) = GoodBefore B × Room B true
Good (w_dots d f h) = GoodDots d × (fore_sep f ≡ Slash) × GoodFore f × GoodHand h × HandRoom h (starts_path f (dotted d))
Good (w_part_sep f p s h) = GoodFore (fore f p s) × GoodHand h × HandRoom h (starts_path f p)
Good (w_at g f h) = Each is_blank g × GoodFore f × GoodHand h × HandRoom h (starts_at f)
Good (w_attr a h) = GoodAttr a × GoodHand h × HandRoom h (starts_attr a)
Good (w_const c h) = GoodConst c × GoodHand h × HandRoom h (starts_const c)
Good (w_literal q v h) = (is_quote q ≡ true) × HasNo q v × GoodHand h × HandRoom h false
Good (w_minus g h) = Each is_blank g × GoodHand h × HandRoom h true
Good (w_bang a B) = GoodArg a × GoodBefore B × Room B (starts_arg a)
Good (w_right a c B) = GoodArg a × GoodCmp c × GoodBefore B × Room B (starts_arg a)
Good (w_group g B) = GoodGroup g × GoodBefore B × Room B (starts_group g)
Good (w_link l t B) = GoodTerm t × (ends_term t ≡ false) × GoodBefore B × Room B (starts_term t)
