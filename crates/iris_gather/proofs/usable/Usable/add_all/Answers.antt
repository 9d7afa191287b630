use Rattle.std.proofs.Common.{◌≡◌, ◌+◌, ◌∷◌, ◌∙◌, Bool, List, drop, sym, ap, subst}
use Rattle.std.proofs.lemmas.List.{drop_more}
use Rattle.iris_need.specs.declared.need.Need.{Need}
use Rattle.iris_gather.proofs.Rounds.{IsAdded, added_more, added_none}
use Rattle.iris_gather.proofs.usable.Usable.add_all.Goals as goal
use Rattle.iris_gather.proofs.usable.Usable.add_all.Goals.{then-branch, else-branch}

pub loop-need-preserved : goal.loop-need-preserved
loop-need-preserved c =
    let s = c.args.self.now in
    let first = c.args.view.now in
    let needs = c.args.needs.now in
    let need = c.need-item.result in
    let rest = drop (c.loop-need.need-index + 1) needs in
    let next : drop c.loop-need.need-index needs ≡ need ∷ rest = drop_more needs c.loop-need.need-index need c.loop-need-test.true ∙ ap (λ (n : Need). n ∷ rest) (sym c.need-item.is) in
    let before : IsAdded s.fragment.now s.floor s.moment first c.loop-need.view c.loop-need.added (need ∷ rest) needs = subst (λ (ns : List Need). IsAdded s.fragment.now s.floor s.moment first c.loop-need.view c.loop-need.added ns needs) next c.loop-need.invariant in
    elim c.if-branch.branch [
      | then-branch w ↦
          subst (λ (b : Bool). IsAdded s.fragment.now s.floor s.moment first c.add_for.new.view b rest needs) (sym w.added-is)
          (added_more s.fragment.now s.floor s.moment first c.loop-need.view c.add_for.new.view c.loop-need.added need rest needs before (sym c.in_ok-add_for.ensures.told ∙ w.if-branch.true) c.in_ok-add_for.ensures.added)
      | else-branch w ↦
          subst (λ (b : Bool). IsAdded s.fragment.now s.floor s.moment first c.add_for.new.view b rest needs) (sym w.added-is)
          (added_none s.fragment.now s.floor s.moment first c.loop-need.view c.add_for.new.view c.loop-need.added need rest needs before (sym c.in_ok-add_for.ensures.told ∙ w.if-branch.false) c.in_ok-add_for.ensures.added)
    ]
