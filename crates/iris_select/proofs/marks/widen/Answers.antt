use Rattle.std.proofs.Common.{◌≡◌, ◌∙◌, List, [], ◌∷◌, ◌++◌, ap, rules}
use Rattle.iris_select.specs.declared.marks.Marks.{Marks}
use Rattle.iris_select.specs.Marks.{marked_among}
use Rattle.iris_select.proofs.Marking.{one_more}
use Rattle.iris_select.proofs.marks.widen.Goals as goal

pub loop-alloc-preserved : goal.loop-alloc-preserved
loop-alloc-preserved c = λ ns l path.
    let grown : c.push.new.self.items ≡ c.loop-alloc.siblings.items ++ c.new.result ∷ [] = search rules in
    ap (λ (ms : List Marks). marked_among ns ms l path) grown ∙ one_more ns c.loop-alloc.siblings.items c.new.result l path c.new.ensures ∙ c.loop-alloc.invariant ns l path
