-- What the machine accepts is read, and each of its states is completed.
use Rattle.std.proofs.Common.{◌≡◌, ◌≢◌, ℕ, true, ◌==◌, List, [], ◌∷◌, ◌++◌, refl, ap, sym, ◌∙◌, subst, arith, append_assoc, append-nil, Option, Some, None, option_and_then, IfSome}
use Rattle.std.proofs.lemmas.Bool.Decides.{nat_tests}
use Rattle.iris_xpath.specs.declared.expression.NameTest.{NameTest}
use Rattle.iris_xpath.specs.declared.expression.Step.{Step}
use Rattle.iris_xpath.specs.declared.expression.Part.{Part}
use Rattle.iris_xpath.specs.declared.expression.Operand.{Operand}
use Rattle.iris_xpath.specs.declared.expression.Expression.{Expression}
use Rattle.iris_xpath.specs.Syntax.{Syntax}
use Rattle.iris_xpath.specs.declared.state.Level.{Level}
use Rattle.iris_xpath.specs.declared.state.Compared.{Compared}
use Rattle.iris_xpath.specs.declared.state.Spot.TheVariants as spots
use Rattle.iris_xpath.specs.declared.state.Link.{Link}
use Rattle.iris_xpath.specs.declared.state.Link.TheVariants as links
use Rattle.iris_xpath.specs.declared.state.State.TheVariants as states
use Rattle.iris_xpath.specs.Machine.{Configuration, at, next, accept, run, start}
use Rattle.iris_xpath.specs.Grammar.{Row, none, more, Sep, slash, slashes, sep_blank, dot, dots, dots_blank, equal, not_equal, less, less_or_equal, greater, greater_or_equal, cmp_blank, literal, number, negative, const_blank, Tested, word, star, predicate, tested_blank, Fore, attribute, attr_blank, Main, step, sep_text, tested_text, main_text}
use Rattle.iris_xpath.specs.Spells.{sep_tree, tested_tree, main_tree, GoodSep, GoodTested, GoodMain, Reads, IsPrefix}
use Rattle.iris_xpath.proofs.Written.{Opening, bracket, paren, not_paren, Before, before, Stand, in_main, in_path, Hand, left, right, Written, w_start, w_main_sep, w_tested, w_unit, w_dots, w_part_sep, w_at, w_attr, w_const, w_literal, w_minus, w_bang, w_right, w_group, w_link, hand, stand, frames_opening, frames_before, frames_stand, frames_hand, shape, written, Good}
use Rattle.iris_xpath.proofs.Leads.{Leads, leads, Tells}

-- ---- what is accepted is read

-- a list with an element is not empty
pub not_nil : {X : Type 0} (xs : List X) (x : X) → xs ++ x ∷ [] ≢ []
not_nil [] x h = absurd (cc)
not_nil (y ∷ xs) x h = absurd (cc)

last_read : (n : List ℕ → NameTest) (t : Tested) (m : Main) (s : Sep) → GoodTested t → GoodMain m → GoodSep s → Reads n ((main_text m ++ sep_text s) ++ tested_text t) (main_tree n m ++ tested_tree n (sep_tree s) t ∷ [])
last_read n t m s gt gm gs = (step m s t, record { some = not_nil (main_tree n m) (tested_tree n (sep_tree s) t); good = (gm, gs, gt); spelled = append_assoc (main_text m) (sep_text s) (tested_text t); tree = refl })

-- what is accepted is read
pub accepted : (n : List ℕ → NameTest) (w : Written) → Good w → IfSome (accept n (shape n w)) (λ q. Reads n (written w) q)
accepted n (w_tested (word a w) (in_main m s)) h = last_read n (word a w) m s h.0 h.1.0 h.1.1
accepted n (w_tested star (in_main m s)) h = last_read n star m s h.0 h.1.0 h.1.1
accepted n (w_tested (predicate t g o) (in_main m s)) h = last_read n (predicate t g o) m s h.0 h.1.0 h.1.1
accepted n (w_tested (tested_blank t b) (in_main m s)) h = last_read n (tested_blank t b) m s h.0 h.1.0 h.1.1
accepted n (w_start g) h = tt
accepted n (w_main_sep m slash) h = tt
accepted n (w_main_sep m slashes) h = tt
accepted n (w_main_sep m (sep_blank s b)) h = tt
accepted n (w_tested (word a w) (in_path f i)) h = tt
accepted n (w_tested star (in_path f i)) h = tt
accepted n (w_tested (predicate t g o) (in_path f i)) h = tt
accepted n (w_tested (tested_blank t b) (in_path f i)) h = tt
accepted n (w_unit B) h = tt
accepted n (w_dots dot f i) h = tt
accepted n (w_dots dots f i) h = tt
accepted n (w_dots (dots_blank d b) f i) h = tt
accepted n (w_part_sep f p slash i) h = tt
accepted n (w_part_sep f p slashes i) h = tt
accepted n (w_part_sep f p (sep_blank s b) i) h = tt
accepted n (w_at g f i) h = tt
accepted n (w_attr (attribute f g a w) i) h = tt
accepted n (w_attr (attr_blank a b) i) h = tt
accepted n (w_const (literal q v) i) h = tt
accepted n (w_const (number a w) i) h = tt
accepted n (w_const (negative g a w) i) h = tt
accepted n (w_const (const_blank c b) i) h = tt
accepted n (w_literal q none i) h = tt
accepted n (w_literal q (more v b) i) h = tt
accepted n (w_minus g i) h = tt
accepted n (w_bang a B) h = tt
accepted n (w_right a equal B) h = tt
accepted n (w_right a not_equal B) h = tt
accepted n (w_right a less B) h = tt
accepted n (w_right a less_or_equal B) h = tt
accepted n (w_right a greater B) h = tt
accepted n (w_right a greater_or_equal B) h = tt
accepted n (w_right a (cmp_blank c b) B) h = tt
accepted n (w_group g B) h = tt
accepted n (w_link l t B) h = tt

-- ---- from byte to byte

-- some bytes stop the machine, or lead to what was written with them
abbrev pub Leads_all : (List ℕ → NameTest) → List ℕ → Option Configuration → Type 0
Leads_all n text r = IfSome r (λ t. (w : Written) × (shape n w ≡ t) × (written w ≡ text) × Good w)

same_text : (n : List ℕ → NameTest) (x y : List ℕ) (r : Option Configuration) → x ≡ y → Leads_all n x r → Leads_all n y r
same_text n x y r e h = subst (λ (v : List ℕ). Leads_all n v r) e h

one_byte : (n : List ℕ → NameTest) (text : List ℕ) (b : ℕ) (bs : List ℕ) (r : Option Configuration) → Leads n text b r → ((w : Written) → Good w → Leads_all n (written w ++ bs) (run n (shape n w) bs)) → Leads_all n (text ++ b ∷ bs) (option_and_then (λ t. run n t bs) r)
one_byte n text b bs None h f = tt
one_byte n text b bs (Some t) h f =
    let e : written h.0 ++ bs ≡ text ++ b ∷ bs = ap (λ (v : List ℕ). v ++ bs) h.2 ∙ append_assoc text (b ∷ []) bs in
    same_text n _ _ (run n t bs) e (subst (λ (x : Configuration). Leads_all n (written h.0 ++ bs) (run n x bs)) h.1 (f h.0 h.3))

-- so it is for any bytes
pub run_leads : (n : List ℕ → NameTest) → Tells n → (bs : List ℕ) (w : Written) → Good w → Leads_all n (written w ++ bs) (run n (shape n w) bs)
run_leads n k [] w g = (w, refl, sym (append-nil (written w)), g)
run_leads n k (b ∷ bs) w g = one_byte n (written w) b bs (next n (shape n w) b) (leads n k w b g) (run_leads n k bs)

at_state : (n : List ℕ → NameTest) (text : List ℕ) (r : Option Configuration) (s : Configuration) → r ≡ Some s → Leads_all n text r → (w : Written) × (shape n w ≡ s) × (written w ≡ text) × Good w
at_state n text r s e h = subst (Leads_all n text) e h

-- what was written where the machine is in a state after the bytes
pub written_at : (n : List ℕ → NameTest) → Tells n → (text : List ℕ) (s : Configuration) → run n start text ≡ Some s → (w : Written) × (shape n w ≡ s) × (written w ≡ text) × Good w
written_at n k text s e = at_state n text (run n start text) s e (run_leads n k text (w_start none) tt)

some_read : (n : List ℕ → NameTest) (text : List ℕ) (r : Option Syntax) (q : Syntax) → r ≡ Some q → IfSome r (λ x. Reads n text x) → Reads n text q
some_read n text r q e h = subst (λ (x : Option Syntax). IfSome x (λ y. Reads n text y)) e h

-- what is accepted is read
pub run_read : (n : List ℕ → NameTest) → Tells n → (text : List ℕ) (s : Configuration) (q : Syntax) → run n start text ≡ Some s → accept n s ≡ Some q → Reads n text q
run_read n k text s q e a =
    let w = written_at n k text s e in
    some_read n text (accept n s) q a (subst (λ (v : List ℕ). IfSome (accept n s) (λ x. Reads n v x)) w.2 (subst (λ (x : Configuration). IfSome (accept n x) (λ y. Reads n (written w.0) y)) w.1 (accepted n w.0 w.3)))

-- ---- each state is completed

-- these bytes complete a query
abbrev pub Ends : (List ℕ → NameTest) → Configuration → List ℕ → Type 0
Ends n s bs = (t : Configuration) × (q : Syntax) × (run n s bs ≡ Some t) × (accept n t ≡ Some q)

abbrev mutual
  pub ends_opening : Opening → List ℕ
  ends_opening (bracket t s g) = 93 ∷ ends_stand s
  ends_opening (paren B g) = 41 ∷ ends_before B
  ends_opening (not_paren t B g) = 41 ∷ ends_before B

  pub ends_before : Before → List ℕ
  ends_before (before op o a) = ends_opening op

  pub ends_stand : Stand → List ℕ
  ends_stand (in_main m s) = []
  ends_stand (in_path f h) = ends_hand h

  pub ends_hand : Hand → List ℕ
  ends_hand (left B) = ends_before B
  ends_hand (right a c B) = ends_before B

mutual
  step_ends : (n : List ℕ → NameTest) (x : Step Expression) (s : Stand) → Ends n (at (states.AfterStep x (stand n s)) (frames_stand n s)) (ends_stand s)
  step_ends n x (in_main m p) = (_, _, refl, refl)
  step_ends n x (in_path f (left (before op o a))) = part_ends n x _ None _ op
  step_ends n x (in_path f (right l c (before op o a))) = part_ends n x _ (Some _) _ op

  part_ends : (n : List ℕ → NameTest) (x : Step Expression) (ps : List (Part Expression)) (c : Option Compared) (l : Level) (op : Opening) → Ends n (at (states.AfterStep x (spots.Part ps (record { compared = c; level = l }))) (frames_opening n op)) (ends_opening op)
  part_ends n x ps None l (bracket t s g) = step_ends n _ s
  part_ends n x ps None l (paren (before op o a) g) = group_ends n _ _ op
  part_ends n x ps None l (not_paren t (before op o a) g) = group_ends n _ _ op
  part_ends n x ps (Some c) l (bracket t s g) = step_ends n _ s
  part_ends n x ps (Some c) l (paren (before op o a) g) = group_ends n _ _ op
  part_ends n x ps (Some c) l (not_paren t (before op o a) g) = group_ends n _ _ op

  group_ends : (n : List ℕ → NameTest) (e : Expression) (l : Level) (op : Opening) → Ends n (at (states.AfterGroup e l) (frames_opening n op)) (ends_opening op)
  group_ends n e l (bracket t s g) = step_ends n _ s
  group_ends n e l (paren (before op o a) g) = group_ends n _ _ op
  group_ends n e l (not_paren t (before op o a) g) = group_ends n _ _ op

-- after an operand and a blank: `=a` and a blank, or `and a` and a blank
abbrev pub ends_operand : Hand → List ℕ
ends_operand (left B) = 61 ∷ 97 ∷ 32 ∷ ends_before B
ends_operand (right a c B) = 97 ∷ 110 ∷ 100 ∷ 32 ∷ 97 ∷ 32 ∷ ends_before B

operand_ends : (n : List ℕ → NameTest) (o : Operand Expression) (h : Hand) → Ends n (at (states.AfterOperand o (hand n h)) (frames_hand n h)) (ends_operand h)
operand_ends n o (left (before op x a)) = part_ends n _ _ (Some _) _ op
operand_ends n o (right l c (before op x a)) = part_ends n _ _ None _ op

-- what completes `and` or `or`
abbrev pub ends_link : Link → List ℕ → List ℕ
ends_link links.A bs = 110 ∷ 100 ∷ 32 ∷ 97 ∷ 32 ∷ bs
ends_link links.An bs = 100 ∷ 32 ∷ 97 ∷ 32 ∷ bs
ends_link links.And bs = 32 ∷ 97 ∷ 32 ∷ bs
ends_link links.O bs = 114 ∷ 32 ∷ 97 ∷ 32 ∷ bs
ends_link links.Or bs = 32 ∷ 97 ∷ 32 ∷ bs

-- a text that completes what is written
abbrev pub completion : Written → List ℕ
completion (w_start g) = 47 ∷ 97 ∷ []
completion (w_main_sep m s) = 97 ∷ []
completion (w_tested t s) = 32 ∷ ends_stand s
completion (w_unit B) = 97 ∷ 32 ∷ ends_before B
completion (w_dots d f h) = 32 ∷ 47 ∷ 97 ∷ 32 ∷ ends_hand h
completion (w_part_sep f p s h) = 97 ∷ 32 ∷ ends_hand h
completion (w_at g f h) = 97 ∷ 32 ∷ ends_operand h
completion (w_attr a h) = 32 ∷ ends_operand h
completion (w_const c h) = 32 ∷ ends_operand h
completion (w_literal q v h) = q ∷ ends_operand h
completion (w_minus g h) = 48 ∷ 32 ∷ ends_operand h
completion (w_bang a B) = 61 ∷ 97 ∷ 32 ∷ ends_before B
completion (w_right a c B) = 97 ∷ 32 ∷ ends_before B
completion (w_group g B) = 32 ∷ ends_before B
completion (w_link l t B) = ends_link l (ends_before B)

path_ends : (n : List ℕ → NameTest) (x : Step Expression) (f : Fore) (ps : List (Part Expression)) (h : Hand) → Ends n (at (states.AfterStep x (spots.Part ps (hand n h))) (frames_hand n h)) (ends_hand h)
path_ends n x f ps (left (before op o a)) = part_ends n x ps None _ op
path_ends n x f ps (right l c (before op o a)) = part_ends n x ps (Some _) _ op

begin_ends : (n : List ℕ → NameTest) (x : Step Expression) (ps : List (Part Expression)) (c : Option Compared) (l : Level) (B : Before) → Ends n (at (states.AfterStep x (spots.Part ps (record { compared = c; level = l }))) (frames_before n B)) (ends_before B)
begin_ends n x ps c l (before op o a) = part_ends n x ps c l op

same_byte : (q : ℕ) → (q == q) ≡ true
same_byte q = grind (arith, nat_tests)

quote_closes : (n : List ℕ → NameTest) (q : ℕ) (v : Row) (h : Hand) → Ends n (shape n (w_literal q v h)) (q ∷ ends_operand h)
quote_closes n q none h = rw (same_byte q) (operand_ends n _ h)
quote_closes n q (more v b) h = rw (same_byte q) (operand_ends n _ h)

-- each state has a completion
pub completes : (n : List ℕ → NameTest) (w : Written) → Ends n (shape n w) (completion w)
completes n (w_start g) = (_, _, refl, refl)
completes n (w_main_sep m slash) = (_, _, refl, refl)
completes n (w_main_sep m slashes) = (_, _, refl, refl)
completes n (w_main_sep m (sep_blank s b)) = (_, _, refl, refl)
completes n (w_tested (word a w) s) = step_ends n _ s
completes n (w_tested star s) = step_ends n _ s
completes n (w_tested (predicate t g o) s) = step_ends n _ s
completes n (w_tested (tested_blank t b) s) = step_ends n _ s
completes n (w_unit B) = begin_ends n _ _ None _ B
completes n (w_dots dot f h) = path_ends n _ f _ h
completes n (w_dots dots f h) = path_ends n _ f _ h
completes n (w_dots (dots_blank d b) f h) = path_ends n _ f _ h
completes n (w_part_sep f p slash h) = path_ends n _ f _ h
completes n (w_part_sep f p slashes h) = path_ends n _ f _ h
completes n (w_part_sep f p (sep_blank s b) h) = path_ends n _ f _ h
completes n (w_at g f h) = operand_ends n _ h
completes n (w_attr (attribute f g a w) h) = operand_ends n _ h
completes n (w_attr (attr_blank a b) h) = operand_ends n _ h
completes n (w_const (literal q v) h) = operand_ends n _ h
completes n (w_const (number a w) h) = operand_ends n _ h
completes n (w_const (negative g a w) h) = operand_ends n _ h
completes n (w_const (const_blank c b) h) = operand_ends n _ h
completes n (w_literal q v h) = quote_closes n q v h
completes n (w_minus g h) = operand_ends n _ h
completes n (w_bang a B) = begin_ends n _ _ (Some _) _ B
completes n (w_right a equal B) = begin_ends n _ _ (Some _) _ B
completes n (w_right a not_equal B) = begin_ends n _ _ (Some _) _ B
completes n (w_right a less B) = begin_ends n _ _ (Some _) _ B
completes n (w_right a less_or_equal B) = begin_ends n _ _ (Some _) _ B
completes n (w_right a greater B) = begin_ends n _ _ (Some _) _ B
completes n (w_right a greater_or_equal B) = begin_ends n _ _ (Some _) _ B
completes n (w_right a (cmp_blank c b) B) = begin_ends n _ _ (Some _) _ B
completes n (w_group g (before op o a)) = group_ends n _ _ op
completes n (w_link links.A t B) = begin_ends n _ _ None _ B
completes n (w_link links.An t B) = begin_ends n _ _ None _ B
completes n (w_link links.And t B) = begin_ends n _ _ None _ B
completes n (w_link links.O t B) = begin_ends n _ _ None _ B
completes n (w_link links.Or t B) = begin_ends n _ _ None _ B

-- ---- runs, one after another

then_run : (n : List ℕ → NameTest) (v bs : List ℕ) (r : Option Configuration) (u : Configuration) → ((t : Configuration) → run n t bs ≡ Some u → run n t (bs ++ v) ≡ run n u v) → option_and_then (λ t. run n t bs) r ≡ Some u → option_and_then (λ t. run n t (bs ++ v)) r ≡ run n u v
then_run n v bs None u f h = absurd (cc)
then_run n v bs (Some t) u f h = f t h

-- a run goes on from where it ended
pub run_more : (n : List ℕ → NameTest) (v bs : List ℕ) (s u : Configuration) → run n s bs ≡ Some u → run n s (bs ++ v) ≡ run n u v
run_more n v [] s u h = let e : s ≡ u = cc in ap (λ (x : Configuration). run n x v) e
run_more n v (b ∷ bs) s u h = then_run n v bs (next n s b) u (λ t k. run_more n v bs t u k) h

then_none : (n : List ℕ → NameTest) (v bs : List ℕ) (r : Option Configuration) → ((t : Configuration) → run n t bs ≡ None → run n t (bs ++ v) ≡ None) → option_and_then (λ t. run n t bs) r ≡ None → option_and_then (λ t. run n t (bs ++ v)) r ≡ None
then_none n v bs None f h = refl
then_none n v bs (Some t) f h = f t h

-- a run that stopped goes nowhere
pub run_none : (n : List ℕ → NameTest) (v bs : List ℕ) (s : Configuration) → run n s bs ≡ None → run n s (bs ++ v) ≡ None
run_none n v [] s h = absurd (cc)
run_none n v (b ∷ bs) s h = then_none n v bs (next n s b) (λ t k. run_none n v bs t k) h

-- where the machine goes on, the bytes are a prefix of a query
pub run_prefix : (n : List ℕ → NameTest) → Tells n → (front : List ℕ) (s : Configuration) → run n start front ≡ Some s → IsPrefix n front
run_prefix n k front s e =
    let w = written_at n k front s e in
    let c = completes n w.0 in
    let r : run n s (completion w.0) ≡ Some c.0 = ap (λ (x : Configuration). run n x (completion w.0)) (sym w.1) ∙ c.2 in
    (completion w.0, c.1, run_read n k (front ++ completion w.0) c.0 c.1 (run_more n (completion w.0) front start s e ∙ r) c.3)
