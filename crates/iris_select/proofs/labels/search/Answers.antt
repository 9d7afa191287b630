use Rattle.std.proofs.Common.{ℕ, Result, Ok, Err, IfErr, rules}
use Rattle.std.proofs.lemmas.Fn.{always_returns_same}
use Rattle.iris_base.specs.NameOrder.{label_cmp}
use Rattle.iris_tree.specs.Universe.{label_of}
use Rattle.iris_tree.proofs.Siblings.{searched}
use Rattle.iris_select.proofs.labels.search.Goals as goal

middle : (r : Result ℕ ℕ) (A B C : ℕ → Type 0) → IfErr r (λ at. A at × B at × C at) → IfErr r B
middle (Ok at) A B C h = tt
middle (Err at) A B C h = h.1

-- the closure compares a node's label
pub returns-clause-found : goal.returns-clause-found
returns-clause-found c =
    let facts = c.binary_search_by.ensures in
    let position = facts.position (λ n. label_cmp (label_of n) c.args.label.now) (always_returns_same _ _ _ (λ a r f called. search rules)) in
    (searched c.args.siblings.now c.args.label.now c.binary_search_by.result c.requires facts.bound position).0

pub returns-clause-absent : goal.returns-clause-absent
returns-clause-absent c =
    let facts = c.binary_search_by.ensures in
    let position = facts.position (λ n. label_cmp (label_of n) c.args.label.now) (always_returns_same _ _ _ (λ a r f called. search rules)) in
    middle _ _ _ _ (searched c.args.siblings.now c.args.label.now c.binary_search_by.result c.requires facts.bound position).1
