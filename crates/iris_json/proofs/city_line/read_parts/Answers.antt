use Rattle.std.proofs.Common.{refl}
use Rattle.std.proofs.lemmas.Result.{err_from_is_err_and}
use Rattle.serde_json.specs.Data.{object}
use Rattle.serde_json.specs.View.{members_view}
use Rattle.iris_json.proofs.CityReading.{caps_none, tree_none, place_none}
use Rattle.iris_json.proofs.city_line.read_parts.Goals as goal

pub returns-in_err-caps-clause-refused : goal.returns-in_err-caps-clause-refused
returns-in_err-caps-clause-refused c =
    let p = err_from_is_err_and c.from_residual-in_err-caps.result c.from_residual-in_err-caps.ensures.1 in
    rw (p.1, p.2) (caps_none (object (members_view c.args.members.now.entries)) _ c.in_ok-agents.agents _ c.as_slice.ensures c.in_ok-agents.ensures.found c.in_err-caps.ensures.refused)

pub returns-in_err-tree-clause-refused : goal.returns-in_err-tree-clause-refused
returns-in_err-tree-clause-refused c =
    let p = err_from_is_err_and c.from_residual-in_err-tree.result c.from_residual-in_err-tree.ensures.1 in
    rw (p.1, p.2) (tree_none (object (members_view c.args.members.now.entries)) _ c.in_ok-kinds.kinds _ c.as_slice-2.ensures c.in_ok-kinds.ensures.found c.in_err-tree.ensures.refused)

pub returns-in_err-place-clause-refused : goal.returns-in_err-place-clause-refused
returns-in_err-place-clause-refused c =
    let p = err_from_is_err_and c.from_residual-in_err-place.result c.from_residual-in_err-place.ensures.1 in
    rw (p.1, p.2) (place_none (object (members_view c.args.members.now.entries)) _ c.in_ok-agents.agents _ c.in_ok-kinds.kinds c.in_ok-tree.tree c.in_ok-tree.tree _ c.as_slice-3.ensures c.in_ok-agents.ensures.found c.as_slice-2.ensures c.in_ok-kinds.ensures.found refl c.in_ok-tree.ensures.found c.in_err-place.ensures.refused)

pub returns-in_default-clause-refused : goal.returns-in_default-clause-refused
returns-in_default-clause-refused c kinds agents caps place tree zone show says = c.in_default.ensures.missing refl show says.show_at
