use Rattle.std.proofs.Common.{◌≡◌, true, Equal, sym, ap, ◌∙◌}
use Rattle.std.specs.Cmp.{Equal-is}
use Rattle.std.proofs.lemmas.List.{get_or_default}
use Rattle.iris_base.specs.declared.name.Label.{Label}
use Rattle.iris_base.specs.NameOrder.{label_cmp, label_eq, labels_ties}
use Rattle.iris_tree.specs.Universe.{Node, label_of}
use Rattle.iris_tree.proofs.Siblings.{found_at}
use Rattle.iris_select.proofs.labels.position.Goals as goal

equal_labels : (l x : Label) → label_eq l x ≡ true → label_cmp l x ≡ Equal
equal_labels l x same = (Equal-is (label_cmp l x)).0 (sym (labels_ties l x) ∙ same)

pub returns-then-eq : goal.returns-then-eq
returns-then-eq c =
    let ns = c.args.siblings.now in
    let at = c.args.likely in
    let x = c.args.label.now in
    let l = c.label.result.now in (
      c.if-likely-siblings.true,
      λ d. found_at ns x at d c.requires c.if-likely-siblings.true
          (ap (λ (n : Node). label_cmp (label_of n) x) (get_or_default ns at d c.index-siblings-likely.result c.if-likely-siblings.true ∙ sym c.index-siblings-likely.is) ∙ ap (λ k. label_cmp k x) (sym c.label.ensures) ∙ equal_labels l x (sym c.eq.ensures ∙ c.if-eq.true)),
    )
