-- What stands at the end of edges, one after another.
use Rattle.std.proofs.Common.{◌≡◌, ℕ, ◌+◌, ◌<◌, List, [], ◌∷◌, map, drop, refl, ap, sym, ◌∙◌, Option, Some, None, get_or, length, option_map, option_and_then}
use Rattle.std.proofs.lemmas.Option.{slice_get-get_or}
use Rattle.iris_tree.specs.Universe.{Node}
use Rattle.iris_tree.specs.Document.{Part, part_at_place}
use Rattle.iris_select.specs.declared.spot.Edge.{Edge}
use Rattle.iris_select.specs.Parts.{edge_of, child_part, part_below}
use Rattle.iris_select.proofs.Children.{drop_one}
use Rattle.iris_select.proofs.Parts.{part_step}

-- by the edge in hand, and then by those that are left
pub one_edge : (document : Node) (part : Part) (found : Option Part) (edges : List Edge) (at : ℕ) (edge : Edge) → at < length edges → edge ≡ get_or edges at edge → found ≡ child_part document part (edge_of edge)
    → part_below document part (map edge_of (drop at edges)) ≡ option_and_then (λ next. part_below document next (map edge_of (drop (at + 1) edges))) found
one_edge document part found edges at edge within is h =
    ap (λ (es : List Edge). part_below document part (map edge_of es)) (drop_one edges at edge (slice_get-get_or edges at edge within ∙ ap (λ (e : Edge). Some e) (sym is)))
    ∙ part_step document part (edge_of edge) (map edge_of (drop (at + 1) edges))
    ∙ ap (λ (o : Option Part). option_and_then (λ next. part_below document next (map edge_of (drop (at + 1) edges))) o) (sym h)
