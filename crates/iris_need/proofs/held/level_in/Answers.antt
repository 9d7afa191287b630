use Rattle.std.proofs.Common.{rules}
use Rattle.std.proofs.lemmas.Fn.{always_returns_same}
use Rattle.iris_need.proofs.Levels.{searched_level}
use Rattle.iris_need.proofs.Pieces.{names_cmp}
use Rattle.iris_need.proofs.held.level_in.Goals as goal

pub returns-in-Ok : goal.returns-in-Ok
returns-in-Ok c =
    let facts = c.binary_search_by.ensures in
    let position = facts.position (λ need. names_cmp need.name c.args.name.now) (always_returns_same _ _ _ (λ a r f called. search rules)) in
    let at = searched_level c.args.needs.now c.args.name.now c.binary_search_by.result c.requires.ordered facts.bound position in
    let told = rw c.in-Ok.is at at in
    told c.index-needs-at.result

pub returns-in-Err : goal.returns-in-Err
returns-in-Err c =
    let facts = c.binary_search_by.ensures in
    let position = facts.position (λ need. names_cmp need.name c.args.name.now) (always_returns_same _ _ _ (λ a r f called. search rules)) in
    let at = searched_level c.args.needs.now c.args.name.now c.binary_search_by.result c.requires.ordered facts.bound position in
    rw c.in-Err.is at at
