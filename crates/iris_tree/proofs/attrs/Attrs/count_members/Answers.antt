use Rattle.std.proofs.Common.{◌++◌, ◌∷◌, [], ◌∙◌, refl, sym, ap, take, List, ℕ}
use Rattle.std.proofs.lemmas.List.{take_more}
use Rattle.std.proofs.lemmas.Grind.{flat_map-append}
use Rattle.iris_tree.proofs.Counted.{counted-append}
use Rattle.iris_tree.proofs.attrs.Attrs.count_members.Goals as goal

pub loop-name-preserved : goal.loop-name-preserved
loop-name-preserved c =
    let pairs = c.as_slice-name-items.result.now in
    let at = c.loop-name.name-index in
    let more = take_more pairs at c.loop-name-item.result c.loop-name-test.true ∙ ap (λ (p : List ℕ × List ℕ). take at pairs ++ p ∷ []) (sym c.loop-name-item.is) in
    rw more
    (simp (flat_map-append, counted-append) (rw (c.string.ensures, c.as_str-in-loop-name.ensures, c.key.ensures, c.as_str.ensures.value, c.loop-name.invariant) refl))
