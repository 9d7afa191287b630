use Rattle.std.proofs.Common.{rules, ◌≡◌, ◌≤◌, ◌∙◌, Ok, List, length, sym, ap}
use Rattle.std.proofs.lemmas.List.{drop_all}
use Rattle.iris_tree.specs.declared.change.Change.{Change}
use Rattle.iris_tree.specs.Changes.{apply_from, apply_changes}
use Rattle.iris_tree.specs.NamesId.{NamesNoId}
use Rattle.iris_tree.specs.PlainOrder.{IsCanonical}
use Rattle.iris_tree.proofs.Canonical.{canonical_kept}
use Rattle.iris_tree.proofs.Changed.{changes_keep}
use Rattle.iris_tree.proofs.NoIds.{no_ids_kept}
use Rattle.iris_tree.proofs.local.Local.change.Goals as goal

pub returns-clause-canonical : goal.returns-clause-canonical
returns-clause-canonical c =
    let end : length c.args.changes.now ≤ c.loop-at.at = search rules in
    let done : apply_changes c.args.self.now c.args.changes.now ≡ Ok c.loop-at.local = sym c.loop-at.invariant ∙ ap (λ (cs : List Change). apply_from c.loop-at.at c.loop-at.local cs) (drop_all c.loop-at.at c.args.changes.now end) in
    changes_keep IsCanonical canonical_kept c.args.self.now c.args.changes.now c.loop-at.local done

pub returns-clause-ids : goal.returns-clause-ids
returns-clause-ids c =
    let end : length c.args.changes.now ≤ c.loop-at.at = search rules in
    let done : apply_changes c.args.self.now c.args.changes.now ≡ Ok c.loop-at.local = sym c.loop-at.invariant ∙ ap (λ (cs : List Change). apply_from c.loop-at.at c.loop-at.local cs) (drop_all c.loop-at.at c.args.changes.now end) in
    changes_keep NamesNoId no_ids_kept c.args.self.now c.args.changes.now c.loop-at.local done
