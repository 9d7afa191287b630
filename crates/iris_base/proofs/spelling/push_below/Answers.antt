use Rattle.std.proofs.Common.{rules, string_bytes}
use Rattle.std.proofs.lemmas.List.{map-append}
use Rattle.iris_base.proofs.NameTexts.{dotted_more}
use Rattle.iris_base.proofs.spelling.push_below.Goals as goal

pub loop-label-preserved : goal.loop-label-preserved
loop-label-preserved c =
    rw map-append
    (dotted_more _ (string_bytes c.loop-label.text) (string_bytes c.push_label.new.text) _ _ c.in-Some.label.now c.loop-label.invariant (search rules) (search rules))
