use Rattle.std.proofs.Common.{false}
use Rattle.iris_select.specs.declared.marks.Marks.{Marks}
use Rattle.iris_select.specs.declared.marks.Marks.TheViews.{roll-Marks, out-roll-Marks}
use Rattle.iris_select.proofs.Marking.{not_marked}
use Rattle.iris_select.proofs.marks.Marks.new.Goals as goal

pub returns : goal.returns
returns c = λ n path.
    let made : Marks = roll-Marks record { own = false; whole = false; children = c.new.result } in
    not_marked n made path (simp out-roll-Marks) (simp out-roll-Marks) (simp out-roll-Marks c.new.ensures.items)
