-- What the states of a start do at a place, and the start's own look.
use Rattle.std.proofs.Common.{◌≡◌, ◌≢◌, IsTrue, Bool, true, false, subst, rules, ℕ, ◌+◌, ◌<◌, List, [], ◌∷◌, ◌++◌, drop, map, get_or, refl, sym, ap, ◌∙◌, length}
use Rattle.std.proofs.lemmas.List.{drop-map}
use Rattle.iris_base.specs.declared.name.Label.{Label}
use Rattle.iris_base.specs.declared.state.State.{State}
use Rattle.iris_base.specs.declared.state.State.TheVariants as states
use Rattle.iris_xpath.specs.declared.expression.Expression.{Expression}
use Rattle.iris_xpath.specs.declared.expression.Step.{Step}
use Rattle.iris_xpath.specs.Syntax.{Syntax, MainStep, main_of}
use Rattle.iris_need.specs.declared.need.Need.{Need}
use Rattle.iris_need.specs.declared.need.Start.{Start}
use Rattle.iris_need.specs.declared.walk.Walk.{Walk}
use Rattle.iris_need.specs.Program.{Spot, spot_of, gather, tested, goes, reach, test_at, enter, own_look, program, program_from}
use Rattle.iris_need.specs.Run.{both}
use Rattle.iris_need.specs.Walk.{steps_entered}
use Rattle.iris_need.proofs.Collected.{collected_give, collected_both, one_more}
use Rattle.iris_need.proofs.Walked.{adding}

-- the steps from a number on, as the main path has them
main_cut : (steps rest : Syntax) (s : Step Expression) (number : ℕ) → drop number steps ≡ s ∷ rest → drop number (map main_of steps) ≡ main_of s ∷ map main_of rest
main_cut steps rest s number h = drop-map main_of number steps ∙ ap (map main_of) h

main_none : (steps : Syntax) (number : ℕ) → drop number steps ≡ [] → drop number (map main_of steps) ≡ []
main_none steps number h = drop-map main_of number steps ∙ ap (map main_of) h

-- where there is no such step, nothing is entered
pub none_entered : (w : Walk) (needs : List Need) (state : State) (number : ℕ) (steps : Syntax) (spot : Spot) → drop number steps ≡ [] → needs ≡ adding w needs (steps_entered w.top state number (drop number (map main_of steps)) spot)
none_entered w needs state number steps spot h =
    sym (collected_give w.takes w.above.now w.view.now needs []) ∙ ap (λ (ss : List MainStep). adding w needs (steps_entered w.top state number ss spot)) (sym (main_none steps number h))

-- a step that goes on with a state is entered
pub step_entered : (w : Walk) (needs : List Need) (state : State) (number k : ℕ) (steps rest : Syntax) (s : Step Expression) (spot : Spot) → drop number steps ≡ s ∷ rest → k ≡ number
    → adding w needs (reach w.top s.separator s.test (λ name. state ∷ []) (λ name. states.Seek k ∷ []) spot (λ at. tested w.top k (main_of s) at (goes w.top (k + 1) (map main_of rest) at))) ≡ adding w needs (steps_entered w.top state number (drop number (map main_of steps)) spot)
step_entered w needs state number k steps rest s spot h e =
    ap (λ (i : ℕ). adding w needs (reach w.top s.separator s.test (λ name. state ∷ []) (λ name. states.Seek i ∷ []) spot (λ at. tested w.top i (main_of s) at (goes w.top (i + 1) (map main_of rest) at)))) e
    ∙ ap (λ (ss : List MainStep). adding w needs (steps_entered w.top state number ss spot)) (sym (main_cut steps rest s number h))

-- where there is no such step, nothing is tested
pub none_tested : (w : Walk) (needs : List Need) (number : ℕ) (steps : Syntax) (spot : Spot) → drop number steps ≡ [] → needs ≡ adding w needs (test_at w.top number (drop number (map main_of steps)) spot)
none_tested w needs number steps spot h =
    sym (collected_give w.takes w.above.now w.view.now needs []) ∙ ap (λ (ss : List MainStep). adding w needs (test_at w.top number ss spot)) (sym (main_none steps number h))

-- the test of a step is taken up
pub test_entered : (w : Walk) (needs : List Need) (number k : ℕ) (steps rest : Syntax) (s : Step Expression) (spot : Spot) → drop number steps ≡ s ∷ rest → k ≡ number
    → adding w needs (tested w.top k (main_of s) spot (goes w.top (k + 1) (map main_of rest) spot)) ≡ adding w needs (test_at w.top number (drop number (map main_of steps)) spot)
test_entered w needs number k steps rest s spot h e =
    ap (λ (i : ℕ). adding w needs (tested w.top i (main_of s) spot (goes w.top (i + 1) (map main_of rest) spot))) e
    ∙ ap (λ (ss : List MainStep). adding w needs (test_at w.top number ss spot)) (sym (main_cut steps rest s number h))

-- one more state
pub state_more : (w : Walk) (q : List MainStep) (spot at : Spot) (xs : List State) (i : ℕ) (d : State) (old new all : List Need) → i < length xs → at ≡ spot → new ≡ adding w old (enter w.top q at (get_or xs i d)) → adding w old (gather (enter w.top q spot) (drop i xs)) ≡ all
    → adding w new (gather (enter w.top q spot) (drop (i + 1) xs)) ≡ all
state_more w q spot at xs i d old new all lt e h o =
    one_more w.takes w.above.now w.view.now (enter w.top q spot) xs i (get_or xs i d) d old new all lt refl (h ∙ ap (λ (s : Spot). adding w old (enter w.top q s (get_or xs i d))) e) o

-- ---- the start

-- at the document nothing is looked at first
pub program_at_document : (w : Walk) (needs : List Need) (query : Syntax) (start : Start) (name : List Label) → w.top ≡ start.top → start.name ≡ [] → name ≡ start.name
    → adding w needs (gather (enter w.top (map main_of query) (spot_of name)) start.states) ≡ adding w needs (program query start)
program_at_document w needs query start name t n e = rw (e, n, t) refl

-- at a node it is looked at first
pub program_at_node : (w : Walk) (needs : List Need) (query : Syntax) (start : Start) (name : List Label) → w.top ≡ start.top → start.name ≢ [] → name ≡ start.name
    → adding w (adding w needs (own_look name start.level)) (gather (enter w.top (map main_of query) (spot_of name)) start.states) ≡ adding w needs (program query start)
program_at_node w needs query start name t n e =
    sym (collected_both w.takes w.above.now w.view.now needs (λ xs ys. xs ++ ys) (own_look name start.level) (gather (enter w.top (map main_of query) (spot_of name)) start.states))
    ∙ ap (λ (m : List Label). adding w needs (both (λ xs ys. xs ++ ys) (own_look m start.level) (gather (enter w.top (map main_of query) (spot_of m)) start.states))) e
    ∙ ap (λ (l : Label). adding w needs (both (λ xs ys. xs ++ ys) (own_look start.name start.level) (gather (enter l (map main_of query) (spot_of start.name)) start.states))) t
    ∙ by start.name n
  where
    by : (m : List Label) → m ≢ [] → adding w needs (both (λ xs ys. xs ++ ys) (own_look m start.level) (gather (enter start.top (map main_of query) (spot_of m)) start.states)) ≡ adding w needs (program_from start.top (map main_of query) m start.level start.states)
    by [] n = absurd (n refl)
    by (l ∷ m) n = refl

-- a test that fails tells that a fact is not so
pub not_so : (r : Bool) (P : Type 0) → (IsTrue r → P) × (P → IsTrue r) → r ≡ false → P → ⊥
not_so r P h e p =
    let bad : IsTrue false = subst (λ (b : Bool). IsTrue b) e (h.1 p) in
    absurd (search rules)

-- a test that passes tells that a fact is so
pub is_so : (r : Bool) (P : Type 0) → (IsTrue r → P) × (P → IsTrue r) → r ≡ true → P
is_so r P h e = h.0 e
