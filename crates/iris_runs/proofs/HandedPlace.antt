-- The node of a handover finds its place: once the ids of the nodes above were taken in, each of them is held.
use Rattle.std.proofs.Common.{◌≡◌, ◌≢◌, ℕ, zero, suc, ◌+◌, ◌-◌, ◌<◌, ◌≤◌, Bool, true, false, List, [], ◌∷◌, ◌++◌, length, get_or, take, map, IsSome, refl, sym, ap, ◌∙◌, subst, arith}
use Rattle.std.specs.List.{range_with_len}
use Rattle.std.proofs.lemmas.List.{length-map, length-append, take-map, take-append-le, take_all, take_more}
use Rattle.iris_base.specs.declared.name.Label.{Label}
use Rattle.iris_tree.specs.Universe.{Node, node_at}
use Rattle.iris_fragment.specs.Changes.{after_taking}
use Rattle.iris_fragment.specs.Contents.{Contents, is_held, stands, has_place}
use Rattle.iris_fragment.specs.declared.piece.Piece.{Piece}
use Rattle.iris_fragment.proofs.AfterTaking.{held_then}
use Rattle.iris_fragment.proofs.Children.{stands_if_held, place_last}
use Rattle.iris_cache.specs.Recency.{Cache, taken_by, taken_all}
use Rattle.iris_migrate.specs.declared.message.Handover.{Handover as Handed}
use Rattle.iris_agent.specs.Handovers.{above_in, ids_alone, above_handed}
use Rattle.iris_agent.specs.Moves.{names_above}
use Rattle.iris_runs.specs.Moments.{Moment, IsHandoverAt}

-- a piece of ids alone is taken in without an eviction
ids_taken : (c : Cache) (piece : Piece) → (taken_by c (ids_alone piece)).contents ≡ after_taking c.contents (ids_alone piece)
ids_taken c piece = by (has_place c.contents.nodes piece.name) refl
  where
    by : (b : Bool) → has_place c.contents.nodes piece.name ≡ b → (taken_by c (ids_alone piece)).contents ≡ after_taking c.contents (ids_alone piece)
    by true place = rw place refl
    by false place = rw place refl

-- a name one longer has its place where the shorter one stands
place_next : (c : Contents) (name : List Label) (k : ℕ) (d : Label) → k < length name → stands c.nodes (take k name) ≡ true → has_place c.nodes (take (k + 1) name) ≡ true
place_next c name k d within at = ap (has_place c.nodes) (take_more name k d within) ∙ place_last c.nodes (take k name) (get_or name k d) ∙ at

stands_next : (c : Cache) (piece : Piece) (name : List Label) (k : ℕ) (d : Label) → piece.name ≡ take (k + 1) name → k < length name → stands c.contents.nodes (take k name) ≡ true → stands (taken_by c (ids_alone piece)).contents.nodes (take (k + 1) name) ≡ true
stands_next c piece name k d named within at = subst (λ (n : List Label). stands (taken_by c (ids_alone piece)).contents.nodes n ≡ true) named (ap (λ (f : Contents). stands f.nodes piece.name) (ids_taken c piece) ∙ stands_if_held (after_taking c.contents (ids_alone piece)).nodes piece.name held)
  where
    place : has_place c.contents.nodes piece.name ≡ true
    place = ap (has_place c.contents.nodes) named ∙ place_next c.contents name k d within at

    held : is_held (after_taking c.contents (ids_alone piece)).nodes piece.name ≡ true
    held = held_then c.contents (ids_alone piece) place

-- one after another the nodes above stand
all_stand : (name : List Label) (d : Label) (pieces : List Piece) (k n : ℕ) (c : Cache) → map (λ piece. piece.name) pieces ≡ map (λ count. take count name) (range_with_len (k + 1) n) → k + n ≤ length name → stands c.contents.nodes (take k name) ≡ true
    → stands (taken_all c (map ids_alone pieces)).contents.nodes (take (k + n) name) ≡ true
all_stand name d [] k zero c names within at = let same : k ≡ k + zero = omega arith in subst (λ (count : ℕ). stands c.contents.nodes (take count name) ≡ true) same at
all_stand name d [] k (suc n) c names within at = absurd (cc)
all_stand name d (piece ∷ pieces) k zero c names within at = absurd (cc)
all_stand name d (piece ∷ pieces) k (suc n) c names within at =
    let first : piece.name ≡ take (k + 1) name = cc in
    let rest : map (λ (p : Piece). p.name) pieces ≡ map (λ count. take count name) (range_with_len (k + 1 + 1) n) = cc in
    let here : k < length name = omega (arith, within) in
    let more : k + 1 + n ≤ length name = omega (arith, within) in
    let same : k + 1 + n ≡ k + suc n = omega arith in
    subst (λ (count : ℕ). stands (taken_all (taken_by c (ids_alone piece)) (map ids_alone pieces)).contents.nodes (take count name) ≡ true) same
    (all_stand name d pieces (k + 1) n (taken_by c (ids_alone piece)) rest more (stands_next c piece name k d first here at))

-- the pieces but the last one have the names but the last one
above_named : (pieces : List Piece) (above : List (List Label)) (name : List Label) → map (λ piece. piece.name) pieces ≡ above ++ name ∷ [] → map (λ piece. piece.name) (above_in pieces) ≡ above
above_named pieces above name names =
    let named = λ (piece : Piece). piece.name in
    let count : length pieces ≡ length above + 1 = sym (length-map pieces named) ∙ ap (λ (ns : List (List Label)). length ns) names ∙ length-append above (name ∷ []) in
    let fewer : length pieces - 1 ≡ length above = omega (arith, count) in
    sym (take-map named (length pieces - 1) pieces)
    ∙ ap (take (length pieces - 1)) names
    ∙ ap (λ (n : ℕ). take n (above ++ name ∷ [])) fewer
    ∙ take-append-le (length above) above (name ∷ []) (omega arith)
    ∙ take_all (length above) above (omega arith)

-- whatever is held, the node of these pieces finds its place, since each node above it is among them
place_found : (cache : Cache) (name : List Label) (pieces : List Piece) → name ≢ [] → map (λ piece. piece.name) pieces ≡ names_above name ++ name ∷ [] → has_place (above_handed cache pieces).contents.nodes name ≡ true
place_found cache [] pieces some names = absurd (some refl)
place_found cache (d ∷ labels) pieces some names =
    let name : List Label = d ∷ labels in
    let count : ℕ = length name - 1 in
    let stand : stands (above_handed cache pieces).contents.nodes (take (0 + count) name) ≡ true = all_stand name d (above_in pieces) 0 count cache (above_named pieces (names_above name) name names) (omega arith) refl in
    subst (λ (n : List Label). has_place (above_handed cache pieces).contents.nodes n ≡ true) (take_all (0 + count + 1) name (omega arith))
    (place_next (above_handed cache pieces).contents name (0 + count) d (omega arith) stand)

no_node : (city : Node) (name : List Label) → IsSome (node_at city name) → name ≢ []
no_node city name there none = let is : IsSome (node_at city []) = subst (λ (n : List Label). IsSome (node_at city n)) none there in absurd (cc)

pub handed_place : (m : Moment) (cache : Cache) (handed : Handed) → IsHandoverAt m handed → IsSome (node_at m.history.start handed.name) → has_place (above_handed cache handed.pieces).contents.nodes handed.name ≡ true
handed_place m cache handed is there = place_found cache handed.name handed.pieces (no_node m.history.start handed.name there) is.names_are
