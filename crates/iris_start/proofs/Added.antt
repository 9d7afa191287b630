-- The pieces of a node are added one after another.
use Rattle.std.proofs.Common.{◌≡◌, ◌⊎◌, inl, inr, ℕ, suc, ◌+◌, ◌<◌, ◌≤◌, Bool, true, false, if◌then◌else◌, is_some, List, [], ◌∷◌, ◌++◌, take, drop, get_or, length, Option, refl, sym, ap, ◌∙◌, arith, append_assoc, append-nil, length-append, take_all}
use Rattle.std.proofs.lemmas.List.{drop_all, take-append-le}
use Rattle.std.proofs.Math.Seq.{drop-cons}
use Rattle.iris_base.specs.declared.name.Label.{Label}
use Rattle.iris_tree.specs.NodeCode.{nodes_of-list_of}
use Rattle.iris_tree.specs.Universe.{Node, node, Nodes, nodes_of, list_of, label_of, labels_of, ids_of, children_of}
use Rattle.iris_fragment.specs.declared.piece.Full.{Full}
use Rattle.iris_fragment.specs.declared.piece.Piece.{Piece}
use Rattle.iris_start.specs.Pieces.{in_front, pieces_at, pieces_among}

-- those of one child more
pub one_child : (full : List Label → Option Full) (name : List Label) (cs : List Node) (i : ℕ) (c : Node) (old new all : List Piece) → i < length cs → c ≡ get_or cs i c → new ≡ old ++ pieces_at full name c
    → old ++ pieces_among full name (nodes_of (drop i cs)) ≡ all → new ++ pieces_among full name (nodes_of (drop (i + 1) cs)) ≡ all
one_child full name cs i c old new all within is added so_far =
    let next : suc i ≡ i + 1 = omega arith in
    let left : drop i cs ≡ c ∷ drop (i + 1) cs = drop-cons cs i c within ∙ ap (λ (x : Node). x ∷ drop (suc i) cs) (sym is) ∙ ap (λ (k : ℕ). c ∷ drop k cs) next in
    ap (λ (ps : List Piece). ps ++ pieces_among full name (nodes_of (drop (i + 1) cs))) added
    ∙ append_assoc old (pieces_at full name c) (pieces_among full name (nodes_of (drop (i + 1) cs)))
    ∙ sym (ap (λ (ns : List Node). old ++ pieces_among full name (nodes_of ns)) left) ∙ so_far

-- once no child is left, all are there
pub no_child : (full : List Label → Option Full) (name : List Label) (cs : List Node) (i : ℕ) (first last : List Piece) → length cs ≤ i → last ++ pieces_among full name (nodes_of (drop i cs)) ≡ first ++ pieces_among full name (nodes_of cs)
    → last ≡ first ++ pieces_among full name (nodes_of cs)
no_child full name cs i first last past so_far =
    sym (append-nil last) ∙ sym (ap (λ (ns : List Node). last ++ pieces_among full name (nodes_of ns)) (drop_all i cs past)) ∙ so_far

-- the pieces of a node are its own in front of those below it
pub at_node : (full : List Label → Option Full) (path : List Label) (n : Node)
    → pieces_at full path n ≡ in_front (record { name = path ++ label_of n ∷ []; ids = ids_of n; full = full (path ++ label_of n ∷ []) }) (pieces_among full (path ++ label_of n ∷ []) (nodes_of (children_of n)))
at_node full path (node label local below) =
    let own : Piece = record { name = path ++ label ∷ []; ids = labels_of (list_of below); full = full (path ++ label ∷ []) } in
    ap (λ (ns : Nodes). in_front own (pieces_among full (path ++ label ∷ []) ns)) (sym (nodes_of-list_of below))

-- the piece of a node itself
abbrev pub own_piece : (List Label → Option Full) → List Label → Node → Piece
own_piece full path n = record { name = path ++ label_of n ∷ []; ids = ids_of n; full = full (path ++ label_of n ∷ []) }

-- all but that piece
abbrev pub below_of : (List Label → Option Full) → List Label → Node → List Piece
below_of full path n = pieces_among full (path ++ label_of n ∷ []) (nodes_of (children_of n))

one_longer : (old : List Piece) (p : Piece) (below : List Piece) → length ((old ++ p ∷ []) ++ below) ≡ length old + 1 + length below
one_longer old p below =
    let first : length ((old ++ p ∷ []) ++ below) ≡ length (old ++ p ∷ []) + length below = length-append (old ++ p ∷ []) below in
    let second : length (old ++ p ∷ []) ≡ length old + 1 = length-append old (p ∷ []) in
    first ∙ ap (λ (k : ℕ). k + length below) second

front_same : (full : List Label → Option Full) (path : List Label) (n : Node) (old : List Piece) (p : Piece) → p ≡ own_piece full path n → old ++ in_front p (below_of full path n) ≡ old ++ pieces_at full path n
front_same full path n old p is = ap (λ (q : Piece). old ++ in_front q (below_of full path n)) is ∙ sym (ap (λ (ps : List Piece). old ++ ps) (at_node full path n))

-- a piece that is not full and has none below is taken away again
pub put_lone : (full : List Label → Option Full) (path : List Label) (n : Node) (old last : List Piece) (p : Piece) → p ≡ own_piece full path n → last ≡ (old ++ p ∷ []) ++ below_of full path n
    → is_some p.full ≡ false → length last ≡ length old + 1 → take (length old) last ≡ old ++ pieces_at full path n
put_lone full path n old last p is all bare lone = by (below_of full path n) all ∙ front_same full path n old p is
  where
    by : (below : List Piece) → last ≡ (old ++ p ∷ []) ++ below → take (length old) last ≡ old ++ in_front p below
    by [] h =
        ap (take (length old)) (h ∙ append-nil (old ++ p ∷ [])) ∙ take-append-le (length old) old (p ∷ []) (omega arith) ∙ take_all (length old) old (omega arith)
        ∙ sym (append-nil old) ∙ sym (ap (λ (b : Bool). old ++ (if b then p ∷ [] else [])) bare)
    by (q ∷ qs) h =
        let long : length last ≡ length old + 1 + length (q ∷ qs) = ap (λ (ps : List Piece). length ps) h ∙ one_longer old p (q ∷ qs) in
        absurd (omega (arith, long, lone))

-- any other stays
pub put_whole : (full : List Label → Option Full) (path : List Label) (n : Node) (old last : List Piece) (p : Piece) → p ≡ own_piece full path n → last ≡ (old ++ p ∷ []) ++ below_of full path n
    → (is_some p.full ≡ true) ⊎ (length last ≡ length old + 1 → ⊥) → last ≡ old ++ pieces_at full path n
put_whole full path n old last p is all stays = by (below_of full path n) all stays ∙ front_same full path n old p is
  where
    by : (below : List Piece) → last ≡ (old ++ p ∷ []) ++ below → (is_some p.full ≡ true) ⊎ (length last ≡ length old + 1 → ⊥) → last ≡ old ++ in_front p below
    by [] h (inl whole) = h ∙ append-nil (old ++ p ∷ []) ∙ sym (ap (λ (b : Bool). old ++ (if b then p ∷ [] else [])) whole)
    by [] h (inr more) = absurd (more (ap (λ (ps : List Piece). length ps) (h ∙ append-nil (old ++ p ∷ [])) ∙ length-append old (p ∷ [])))
    by (q ∷ qs) h either = h ∙ append_assoc old (p ∷ []) (q ∷ qs)
