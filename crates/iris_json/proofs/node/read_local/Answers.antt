use Rattle.std.proofs.Common.{ap}
use Rattle.std.proofs.lemmas.Result.{err_from_is_err_and}
use Rattle.serde_json.specs.Data.{object}
use Rattle.serde_json.specs.View.{members_view}
use Rattle.iris_tree.specs.declared.local.Local.{Local}
use Rattle.iris_tree.specs.NamesId.{local_names_id}
use Rattle.iris_tree.specs.NamesKind.{plains_name_kind}
use Rattle.iris_json.proofs.AttrReading.{same_error}
use Rattle.iris_json.proofs.NodeReading.{local_is}
use Rattle.iris_json.proofs.node.read_local.Goals as goal
use Rattle.iris_json.proofs.node.read_local.Goals.{then-names_id-via-then-names_id, then-names_id-via-else-names_id+then-names_kind}

pub returns-in_err-plain-clause-only : goal.returns-in_err-plain-clause-only
returns-in_err-plain-clause-only c local at =
    let p = err_from_is_err_and c.from_residual-in_err-plain.result c.from_residual-in_err-plain.ensures.1 in
    rw (p.1, p.2) (same_error _ _ local (c.in_err-plain.ensures.only local.plain at.plain_at))

pub returns-then-names_id-clause-only : goal.returns-then-names_id-clause-only
returns-then-names_id-clause-only c local at =
    let same = local_is c.args.kinds.now (object (members_view c.args.members.now.entries)) c.in_ok-attrs.attrs c.in_ok-plain.plain c.in_ok-attrs.ensures.found c.in_ok-plain.ensures.found local at in elim c.then-names_id.branch [
      | then-names_id-via-then-names_id w ↦ cc (w.if-names_id.true, c.names_id.ensures, ap local_names_id same, at.no_id)
      | then-names_id-via-else-names_id+then-names_kind w ↦ cc (w.if-names_kind.true, w.names_kind.ensures, ap (λ (l : Local). plains_name_kind c.args.kinds.now l.plain) same, at.no_kind)
    ]

pub returns-clause-only : goal.returns-clause-only
returns-clause-only c = local_is c.args.kinds.now (object (members_view c.args.members.now.entries)) c.in_ok-attrs.attrs c.in_ok-plain.plain c.in_ok-attrs.ensures.found c.in_ok-plain.ensures.found
