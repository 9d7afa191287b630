-- Why each call of an evaluation is lower than the one that makes it.
use Rattle.std.proofs.Common.{◌≡◌, ℕ, suc, ◌+◌, ◌*◌, ◌<◌, ◌≤◌, List, ◌∷◌, length, refl, ap, sym, ◌∙◌, subst, get_or, arith}
use Rattle.iris_tree.specs.Universe.{Node, IsOrdered}
use Rattle.iris_tree.specs.Document.{Place, Part, part_at_place, places}
use Rattle.iris_select.proofs.Weights.{rank, room, falls, size_in, part_smaller}

-- what is smaller may stand anywhere
pub smaller_first : (old new : Node) (e' e h t : ℕ) → new ≡ old → rank old e h ≡ t → e' < e → rank new e' (2 * length (places new) + 2) < t
smaller_first old new e' e h t same is less =
    let there : rank old e' (2 * length (places old) + 2) < t = omega (arith, falls old e' e (2 * length (places old) + 2) h less (omega arith), is) in
    subst (λ (d : Node). rank d e' (2 * length (places d) + 2) < t) (sym same) there

-- what is as large stands lower
pub lower_then : (old new : Node) (e h' h t : ℕ) (part : Part) → new ≡ old → rank old e h ≡ t → 2 * size_in old part + h' < h → rank new e (2 * size_in new part + h') < t
lower_then old new e h' h t part same is less =
    let there : rank old e (2 * size_in old part + h') < t = omega (arith, is, less) in
    subst (λ (d : Node). rank d e (2 * size_in d part + h') < t) (sym same) there

-- the same, of nothing more
pub lower_alone : (old new : Node) (e h t : ℕ) (part : Part) → new ≡ old → rank old e h ≡ t → 2 * size_in old part < h → rank new e (2 * size_in new part) < t
lower_alone old new e h t part same is less =
    let there : rank old e (2 * size_in old part) < t = omega (arith, is, less) in
    subst (λ (d : Node). rank d e (2 * size_in d part) < t) (sym same) there
