use Rattle.std.proofs.Common.{rules}
use Rattle.std.proofs.lemmas.Fn.{always_returns_same}
use Rattle.iris_tree.specs.Attrs.{name_cmp}
use Rattle.iris_tree.proofs.AttrPlaces.{name_searched}
use Rattle.iris_tree.proofs.attrs.place_of.Goals as goal

-- the closure compares an attribute's name
pub returns-clause-there : goal.returns-clause-there
returns-clause-there c =
    let facts = c.binary_search_by.ensures in
    let position = facts.position (λ p. name_cmp p.0 c.args.name.now) (always_returns_same _ _ _ (λ a r f called. search rules)) in
    (name_searched c.args.pairs.now c.args.name.now c.binary_search_by.result c.requires facts.bound position).0

pub returns-clause-absent : goal.returns-clause-absent
returns-clause-absent c =
    let facts = c.binary_search_by.ensures in
    let position = facts.position (λ p. name_cmp p.0 c.args.name.now) (always_returns_same _ _ _ (λ a r f called. search rules)) in
    (name_searched c.args.pairs.now c.args.name.now c.binary_search_by.result c.requires facts.bound position).1
