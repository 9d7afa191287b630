-- The trees of thin queries, and that their meaning is the thin one.
use Rattle.std.proofs.Common.{◌≡◌, ℕ, Bool, true, false, ◌&&◌, ◌||◌, List, [], ◌∷◌, map, refl, ap, sym, ◌∙◌, Option, Some, None, is_some, unwrap_or, option_map}
use Rattle.std.specs.List.{list_any, list_all, filter_map, cons_option}
use Rattle.std.specs.Str.{bytes_eq}
use Rattle.iris_tree.specs.Universe.{Node}
use Rattle.iris_tree.specs.Document.{Place, Part, whole, a_node, a_plain, part_at_place, places}
use Rattle.iris_xpath.specs.declared.expression.Separator.{Separator}
use Rattle.iris_xpath.specs.declared.expression.Separator.TheVariants.{Slash, DoubleSlash}
use Rattle.iris_xpath.specs.declared.expression.NameTest.{NameTest}
use Rattle.iris_xpath.specs.declared.expression.Part.{Part as PathPart}
use Rattle.iris_xpath.specs.declared.expression.Attribute.{Attribute}
use Rattle.iris_xpath.specs.declared.expression.Path.{Path}
use Rattle.iris_xpath.specs.declared.expression.Operand.{Operand}
use Rattle.iris_xpath.specs.declared.expression.Operand.TheVariants as operands
use Rattle.iris_xpath.specs.declared.expression.Comparison.{Comparison}
use Rattle.iris_xpath.specs.declared.expression.NameTest.TheVariants.{Any, Kind, Tag}
use Rattle.iris_xpath.specs.declared.expression.Step.{Step}
use Rattle.iris_xpath.specs.declared.expression.Comparison.TheVariants.{Equal, NotEqual, Less, LessOrEqual, Greater, GreaterOrEqual}
use Rattle.iris_xpath.specs.declared.expression.Expression.{Expression}
use Rattle.iris_xpath.specs.declared.expression.Expression.TheOpen.{Expression-F}
use Rattle.iris_xpath.specs.declared.expression.Expression.TheViews.{out-Expression, roll-Expression, out-roll-Expression, roll-out-Expression}
use Rattle.iris_xpath.specs.declared.expression.Expression.TheFolds.{fold-roll-Expression}
use Rattle.iris_xpath.specs.Syntax.{Syntax, Condition, compares, values_of, attribute, literal, condition_step, condition_of, conditions_of, main_of}
use Rattle.iris_xpath.specs.Thin.{Equals, Main}
use Rattle.iris_xpath.specs.ThinQuery.{own_attribute, equality_layer, equality, whole_step, name_after, own_name, attribute_name, literal_text, equals_of, equality_in, equality_of, kind_of, is_slash, is_thin_step, is_thin, thin_step, thin_of}
use Rattle.iris_xpath.specs.Places.{is_parent}
use Rattle.iris_xpath.specs.Meaning as tree
use Rattle.iris_xpath.specs.ThinMeaning as thin
use Rattle.iris_xpath.proofs.SelectedPlaces.{and_true, filter_same}

-- ---- the expression of an equality

-- the expression of an equality says it
pub equality_is : (e : Equals) → equality_of (equality e) ≡ Some e
equality_is e = ap equality_in (out-roll-Expression _)

-- what it says: some value of the attribute equals the text
pub condition_is : (e : Equals) → condition_of (equality e) ≡ compares (values_of (attribute Slash e.name)) Equal (literal e.value)
condition_is e = fold-roll-Expression Condition condition_step _

-- ---- the tree of a thin query is made of what it says

separator_is : (s : Separator) → is_slash s ≡ true → s ≡ Slash
separator_is Slash h = refl
separator_is DoubleSlash h = absurd (cc)

test_is : (t : NameTest) → is_some (kind_of t) ≡ true → t ≡ Kind (unwrap_or (kind_of t) [])
test_is Any h = absurd (cc)
test_is (Kind kind) h = refl
test_is (Tag tag) h = absurd (cc)

equals_is : (n : Option (List ℕ)) (c : Comparison) (v : Option (List ℕ)) (e : Equals) → equals_of n c v ≡ Some e → (n ≡ Some e.name) × (c ≡ Equal) × (v ≡ Some e.value)
equals_is None c v e h = absurd (cc)
equals_is (Some name) Equal None e h = absurd (cc)
equals_is (Some name) Equal (Some value) e h = (ap (option_map (λ (x : Equals). x.name)) h, refl, ap (option_map (λ (x : Equals). x.value)) h)
equals_is (Some name) NotEqual v e h = absurd (cc)
equals_is (Some name) Less v e h = absurd (cc)
equals_is (Some name) LessOrEqual v e h = absurd (cc)
equals_is (Some name) Greater v e h = absurd (cc)
equals_is (Some name) GreaterOrEqual v e h = absurd (cc)

end_is : (s : Separator) (found name : List ℕ) → name_after s found ≡ Some name → ◌≡◌ {A = Attribute} (record { separator = s; name = found }) (record { separator = Slash; name = name })
end_is Slash found name h = ap {B = Attribute} (λ (o : Option (List ℕ)). record { separator = Slash; name = unwrap_or o [] }) h
end_is DoubleSlash found name h = absurd (cc)

path_is : (ps : List (PathPart Expression)) (a : Option Attribute) (name : List ℕ) → own_name ps a ≡ Some name → ◌≡◌ {A = Path Expression} (record { parts = ps; attribute = a }) (record { parts = []; attribute = Some (record { separator = Slash; name = name }) })
path_is [] (Some a) name h = ap (λ (x : Attribute). record { parts = []; attribute = Some x }) (end_is a.separator a.name name h)
path_is [] None name h = absurd (cc)
path_is (p ∷ ps) a name h = absurd (cc)

left_is : (o : Operand Expression) (name : List ℕ) → attribute_name o ≡ Some name → o ≡ own_attribute name
left_is (operands.Path path) name h = ap (λ (p : Path Expression). operands.Path p) (path_is path.parts path.attribute name h)
left_is (operands.Literal text) name h = absurd (cc)
left_is (operands.Number n) name h = absurd (cc)

right_is : (o : Operand Expression) (text : List ℕ) → literal_text o ≡ Some text → o ≡ operands.Literal text
right_is (operands.Path path) text h = absurd (cc)
right_is (operands.Literal t) text h = ap (λ (o : Option (List ℕ)). operands.Literal (unwrap_or o [])) h
right_is (operands.Number n) text h = absurd (cc)

compare_is : (l m r s : Operand Expression) (c d : Comparison) → l ≡ m → c ≡ d → r ≡ s → Expression-F.Compare l c r ≡ Expression-F.Compare m d s
compare_is l m r s c d el ec er = rw (el, ec, er) refl

layer_is : (x : Expression-F Expression) (e : Equals) → equality_in x ≡ Some e → x ≡ equality_layer e
layer_is (Expression-F.Or es) e h = absurd (cc)
layer_is (Expression-F.And es) e h = absurd (cc)
layer_is (Expression-F.Not x) e h = absurd (cc)
layer_is (Expression-F.Path path) e h = absurd (cc)
layer_is (Expression-F.Compare left comparison right) e h =
    let k = equals_is (attribute_name left) comparison (literal_text right) e h in
    compare_is left (own_attribute e.name) right (operands.Literal e.value) comparison Equal (left_is left e.name k.0) k.1 (right_is right e.value k.2)

-- an expression that says an equality is the tree of that equality
pub expression_is : (x : Expression) (e : Equals) → equality_of x ≡ Some e → x ≡ equality e
expression_is x e h = sym (roll-out-Expression x) ∙ ap roll-Expression (layer_is (out-Expression x) e h)

some_is : (o : Option Equals) → is_some o ≡ true → (e : Equals) × (o ≡ Some e)
some_is None h = absurd (cc)
some_is (Some e) h = (e, refl)

predicates_are : (xs : List Expression) → list_all (λ x. is_some (equality_of x)) xs ≡ true → xs ≡ map equality (filter_map equality_of xs)
predicates_are [] h = refl
predicates_are (x ∷ xs) h =
    let k = and_true (is_some (equality_of x)) (list_all (λ x. is_some (equality_of x)) xs) h in
    let e = some_is (equality_of x) k.0 in
    rw e.1 (ap (λ (y : Expression). y ∷ xs) (expression_is x e.0 e.1) ∙ ap (λ (ys : List Expression). equality e.0 ∷ ys) (predicates_are xs k.1))

step_of : (a b : Separator) (t u : NameTest) (xs ys : List Expression) → a ≡ b → t ≡ u → xs ≡ ys → ◌≡◌ {A = Step Expression} (record { separator = a; test = t; predicates = xs }) (record { separator = b; test = u; predicates = ys })
step_of a b t u xs ys ea et ex = rw (ea, et, ex) refl

-- a thin step is the tree of what it says
pub step_is : (s : Step Expression) → is_thin_step s ≡ true → s ≡ whole_step (thin_step s)
step_is s h =
    let k = and_true (is_slash s.separator && is_some (kind_of s.test)) (list_all (λ x. is_some (equality_of x)) s.predicates) h in
    let l = and_true (is_slash s.separator) (is_some (kind_of s.test)) k.0 in
    step_of s.separator Slash s.test (Kind (unwrap_or (kind_of s.test) [])) s.predicates (map equality (filter_map equality_of s.predicates)) (separator_is s.separator l.0) (test_is s.test l.1) (predicates_are s.predicates k.1)

-- a thin query is the tree of what it says
pub thin_is : (q : Syntax) → is_thin q ≡ true → q ≡ map whole_step (thin_of q)
thin_is [] h = refl
thin_is (s ∷ q) h =
    let k = and_true (is_thin_step s) (is_thin q) h in
    ap (λ (t : Step Expression). t ∷ q) (step_is s k.0) ∙ ap (λ (r : Syntax). whole_step (thin_step s) ∷ r) (thin_is q k.1)

-- ---- and each such tree is thin

equalities_are : (es : List Equals) → filter_map equality_of (map equality es) ≡ es
equalities_are [] = refl
equalities_are (e ∷ es) = rw (equality_is e, equalities_are es) refl

all_equalities : (es : List Equals) → list_all (λ x. is_some (equality_of x)) (map equality es) ≡ true
all_equalities [] = refl
all_equalities (e ∷ es) = rw (equality_is e, all_equalities es) refl

-- the tree of a step says that step
pub whole_step_is : (m : Main) → thin_step (whole_step m) ≡ m
whole_step_is m = ap (λ es. record { kind = m.kind; predicates = es }) (equalities_are m.predicates)

-- the tree of a step is thin
pub whole_step_thin : (m : Main) → is_thin_step (whole_step m) ≡ true
whole_step_thin m = all_equalities m.predicates

-- the trees of steps say these steps
pub thin_of_whole : (ms : List Main) → thin_of (map whole_step ms) ≡ ms
thin_of_whole [] = refl
thin_of_whole (m ∷ ms) = rw (whole_step_is m, thin_of_whole ms) refl

-- the trees of steps are thin
pub whole_thin : (ms : List Main) → is_thin (map whole_step ms) ≡ true
whole_thin [] = refl
whole_thin (m ∷ ms) = rw (whole_step_thin m, whole_thin ms) refl

-- ---- meaning

or_false : (b : Bool) → ((b || false) || false) ≡ b
or_false true = refl
or_false false = refl

equal_to : (o : Option (List ℕ)) (text : List ℕ) → list_any (λ u. list_any (tree.compare Equal u) (tree.of_text text ∷ [])) (map tree.of_text (filter_map (λ end. end) (map (λ value. Some value) (cons_option o [])))) ≡ thin.is_text o text
equal_to None text = refl
equal_to (Some value) text = or_false (bytes_eq value text)

-- the condition of an equality holds where the attribute of what stands there has that text
pub holds_equality : (document : Node) (e : Equals) (place : Place) → tree.holds document (condition_of (equality e)) place ≡ thin.is_text (tree.attribute_at e.name (part_at_place document place)) e.value
holds_equality document e place = rw (condition_is e) (equal_to (tree.attribute_at e.name (part_at_place document place)) e.value)

all_equal : (document : Node) (es : List Equals) (place : Place) → tree.all_hold document (conditions_of (map condition_of (map equality es))) place ≡ list_all (λ e. thin.is_text (tree.attribute_at e.name (part_at_place document place)) e.value) es
all_equal document [] place = refl
all_equal document (e ∷ es) place = rw (holds_equality document e place, all_equal document es place) refl

fits_at : (o : Option Part) (m : Main) → (tree.passes o (Kind m.kind) && list_all (λ e. thin.is_text (tree.attribute_at e.name o) e.value) m.predicates) ≡ thin.fits o m
fits_at None m = refl
fits_at (Some whole) m = refl
fits_at (Some (a_node n)) m = refl
fits_at (Some (a_plain p)) m = refl

-- a thin step fits where its tree does
pub fits_whole : (document : Node) (m : Main) (place : Place) → tree.fits document (main_of (whole_step m)) place ≡ thin.fits (part_at_place document place) m
fits_whole document m place =
    ap (λ b. tree.passes (part_at_place document place) (Kind m.kind) && b) (all_equal document m.predicates place) ∙ fits_at (part_at_place document place) m

step_whole : (document : Node) (context : List Place) (m : Main) → tree.step_to document context (main_of (whole_step m)) ≡ thin.step_to document context m
step_whole document context m = filter_same _ _ (λ place. ap (λ b. list_any (λ above. is_parent above place) context && b) (fits_whole document m place)) (places document)

steps_whole : (document : Node) (context : List Place) (ms : List Main) → tree.steps_to document context (map main_of (map whole_step ms)) ≡ thin.steps_to document context ms
steps_whole document context [] = refl
steps_whole document context (m ∷ ms) =
    ap (λ (c : List Place). tree.steps_to document c (map main_of (map whole_step ms))) (step_whole document context m) ∙ steps_whole document (thin.step_to document context m) ms

-- what a thin query selects
pub selected_thin : (document : Node) (q : Syntax) → is_thin q ≡ true → tree.selected document q ≡ thin.selected document (thin_of q)
selected_thin document q h = ap (tree.selected document) (thin_is q h) ∙ steps_whole document ([] ∷ []) (thin_of q)
