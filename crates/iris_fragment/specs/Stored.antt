-- How the held nodes lie in the map of the code, and how proofs store the contents of a fragment.
use Rattle.std.specs.Prelude.{List, map, refl, Vec}
use Rattle.std.specs.declared.alloc.Global.{Global}
use Rattle.std.specs.Coded.{Coded, coded×, coded_list, code_by}
use Rattle.iris_base.specs.declared.name.Label.{Label}
use Rattle.iris_fragment.specs.declared.held.HeldNode.{HeldNode}
use Rattle.iris_fragment.specs.Contents.{Nodes, Contents}

-- entries under lists of labels, wherever the lists lie
abbrev pub entries_named : List (Vec Label Global × HeldNode) → Nodes
entries_named entries = map (λ e. (e.0.items, e.1)) entries

-- how proofs store the contents of a fragment
abbrev pub contents_code : Coded Label → Coded HeldNode → Coded Contents
contents_code label held = code_by (Label × Nodes) (coded× label (coded_list (coded× (coded_list label) held))) (λ f. (f.top, f.nodes)) (λ p. record { top = p.0; nodes = p.1 }) (λ _. refl)
