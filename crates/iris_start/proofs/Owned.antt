-- The full pieces with which an agent begins are of just the nodes that the registry gives it.
use Rattle.std.proofs.Common.{◌≡◌, ℕ, zero, suc, ◌+◌, ◌<◌, Bool, true, false, cond, ◌&&◌, ◌||◌, if◌then◌else◌, is_some, IsSome, List, [], ◌∷◌, ◌++◌, map, filter, length, Option, Some, None, option_map, refl, sym, ◌∙◌, ap, subst, arith, append_assoc, slice_get}
use Rattle.std.specs.Prelude.{unwrap_or, option_and_then}
use Rattle.std.specs.List.{list_any}
use Rattle.std.specs.Cmp.Lexicographic.{pointwise}
use Rattle.std.proofs.lemmas.List.{map-append}
use Rattle.std.proofs.lemmas.List.Elements.{filter-append}
use Rattle.iris_base.specs.declared.name.Label.{Label}
use Rattle.iris_base.specs.NameOrder.{label_eq, names_equiv}
use Rattle.iris_tree.specs.declared.local.Local.{Local}
use Rattle.iris_tree.specs.Document.{local_at, names_of, all_names_of}
use Rattle.iris_tree.specs.Universe.{Node, node, Nodes, no_nodes, nodes, node_at, IsOrdered}
use Rattle.iris_fragment.specs.declared.piece.Full.{Full}
use Rattle.iris_fragment.specs.declared.piece.Piece.{Piece}
use Rattle.iris_fragment.proofs.Names.{alike_exact}
use Rattle.iris_xpath.proofs.Names.{has_name, names_are}
use Rattle.iris_xpath.proofs.Passes.{any_map}
use Rattle.iris_book.specs.Book.{History, IsSound, updates_in, updates_of, update_count, value_at}
use Rattle.iris_book.proofs.Values.{value_is, value_zero}
use Rattle.iris_route.specs.Titles.{Title, Titles, title_at}
use Rattle.iris_agent.specs.Starts.{owned_names}
use Rattle.iris_protocol.specs.Table.{AgentId, agents}
use Rattle.iris_runs.specs.Worlds.{owner_of}
use Rattle.iris_start.specs.Pieces.{newest_full, own_full, in_front, pieces_at, pieces_among, start_pieces}

-- ---- the names of the full pieces

owned_front : (piece : Piece) (pieces : List Piece) → owned_names (in_front piece pieces) ≡ cond (is_some piece.full) (piece.name ∷ owned_names pieces) (owned_names pieces)
owned_front piece [] = either (is_some piece.full) refl
  where
    either : (b : Bool) → is_some piece.full ≡ b → owned_names (if b then piece ∷ [] else []) ≡ cond b (piece.name ∷ []) []
    either true full = ap (λ (b : Bool). map (λ (p : Piece). p.name) (cond b (piece ∷ []) [])) full
    either false bare = refl
owned_front piece (p ∷ ps) = either (is_some piece.full)
  where
    either : (b : Bool) → map (λ (q : Piece). q.name) (cond b (piece ∷ filter (λ (q : Piece). is_some q.full) (p ∷ ps)) (filter (λ (q : Piece). is_some q.full) (p ∷ ps))) ≡ cond b (piece.name ∷ owned_names (p ∷ ps)) (owned_names (p ∷ ps))
    either true = refl
    either false = refl

owned_append : (ps qs : List Piece) → owned_names (ps ++ qs) ≡ owned_names ps ++ owned_names qs
owned_append ps qs =
    ap (map (λ (p : Piece). p.name)) (filter-append (λ (p : Piece). is_some p.full) ps qs) ∙ map-append (λ (p : Piece). p.name) (filter (λ (p : Piece). is_some p.full) ps) (filter (λ (p : Piece). is_some p.full) qs)

-- the names below a path that have a full part
abbrev full_names : (List Label → Option Full) → List Label → List (List Label) → List (List Label)
full_names full path names = filter (λ name. is_some (full name)) (map (λ name. path ++ name) names)

full_deeper : (full : List Label → Option Full) (path : List Label) (l : Label) (names : List (List Label)) → full_names full (path ++ l ∷ []) names ≡ full_names full path (map (λ name. l ∷ name) names)
full_deeper full path l [] = refl
full_deeper full path l (n ∷ ns) =
    ap (λ (name : List Label). filter (λ m. is_some (full m)) (name ∷ map (λ m. (path ++ l ∷ []) ++ m) ns)) (append_assoc path (l ∷ []) n)
    ∙ ap (λ (rest : List (List Label)). cond (is_some (full (path ++ l ∷ n))) ((path ++ l ∷ n) ∷ rest) rest) (full_deeper full path l ns)

full_append : (full : List Label → Option Full) (path : List Label) (ms ns : List (List Label)) → full_names full path (ms ++ ns) ≡ full_names full path ms ++ full_names full path ns
full_append full path ms ns =
    ap (filter (λ name. is_some (full name))) (map-append (λ name. path ++ name) ms ns) ∙ filter-append (λ name. is_some (full name)) (map (λ name. path ++ name) ms) (map (λ name. path ++ name) ns)

mutual
  owned_at : (full : List Label → Option Full) (path : List Label) (n : Node) → owned_names (pieces_at full path n) ≡ full_names full path (names_of n)
  owned_at full path (node label local below) =
      owned_front _ (pieces_among full (path ++ label ∷ []) below)
      ∙ ap (λ (names : List (List Label)). cond (is_some (full (path ++ label ∷ []))) ((path ++ label ∷ []) ∷ names) names)
      (owned_among full (path ++ label ∷ []) below ∙ full_deeper full path label (all_names_of below))

  owned_among : (full : List Label → Option Full) (path : List Label) (ns : Nodes) → owned_names (pieces_among full path ns) ≡ full_names full path (all_names_of ns)
  owned_among full path no_nodes = refl
  owned_among full path (nodes n ns) =
      owned_append (pieces_at full path n) (pieces_among full path ns)
      ∙ (λ i. owned_at full path n i ++ owned_among full path ns i)
      ∙ sym (full_append full path (names_of n) (all_names_of ns))

-- ---- whether a name is among them

any_filter : (p : List Label → Bool) (name : List Label) (names : List (List Label)) → list_any (pointwise label_eq name) (filter p names) ≡ (p name && list_any (pointwise label_eq name) names)
any_filter p name [] = never (p name)
  where
    never : (b : Bool) → false ≡ (b && false)
    never true = refl
    never false = refl
any_filter p name (n ∷ ns) = by (pointwise label_eq name n) (p n) refl refl (any_filter p name ns)
  where
    by : (same passes : Bool) → pointwise label_eq name n ≡ same → p n ≡ passes → list_any (pointwise label_eq name) (filter p ns) ≡ (p name && list_any (pointwise label_eq name) ns)
        → list_any (pointwise label_eq name) (cond passes (n ∷ filter p ns) (filter p ns)) ≡ (p name && (same || list_any (pointwise label_eq name) ns))
    by true true here passes rest =
        ap (λ (b : Bool). b || list_any (pointwise label_eq name) (filter p ns)) here ∙ sym (ap (λ (b : Bool). b && true) (ap p (alike_exact name n here) ∙ passes))
    by true false here fails rest =
        let out : p name ≡ false = ap p (alike_exact name n here) ∙ fails in
        rest ∙ ap (λ (b : Bool). b && list_any (pointwise label_eq name) ns) out ∙ sym (ap (λ (b : Bool). b && true) out)
    by false true other passes rest = ap (λ (b : Bool). b || list_any (pointwise label_eq name) (filter p ns)) other ∙ rest
    by false false other fails rest = rest

walked : (full : List Label → Option Full) (document : Node) (name : List Label) → IsOrdered document
    → list_any (pointwise label_eq name) (owned_names (pieces_at full [] document)) ≡ (is_some (full name) && is_some (node_at document name))
walked full document name ordered =
    ap (list_any (pointwise label_eq name)) (owned_at full [] document)
    ∙ any_filter (λ m. is_some (full m)) name (map (λ m. [] ++ m) (names_of document))
    ∙ ap (λ (b : Bool). is_some (full name) && b)
    (any_map (pointwise label_eq name) (λ m. [] ++ m) (names_of document)
    ∙ ap (λ (t : List Label → Bool). list_any t (names_of document)) (λ i other. names_equiv.symm name other i)
    ∙ names_are document name ordered)

-- ---- by the registry

some_at : {X : Type 0} (xs : List X) (n : ℕ) → n < length xs → (x : X) × (slice_get xs n ≡ Some x)
some_at [] n within = absurd (omega arith)
some_at (x ∷ xs) zero within = (x, refl)
some_at (x ∷ xs) (suc n) within = some_at xs n (omega arith)

-- each node of a sound book has a newest value
value_there : (h : History) (name : List Label) → IsSound h → IsSome (local_at h.start name) → IsSome (value_at h name (update_count h name))
value_there h name sound there = by (update_count h name) refl
  where
    by : (n : ℕ) → update_count h name ≡ n → is_some (value_at h name n) ≡ true
    by zero count = ap (λ (o : Option Local). is_some o) (value_zero h.start (updates_in h.entries) name) ∙ there
    by (suc n) count =
        let last = some_at (updates_of (updates_in h.entries) name) n (omega (arith, count)) in
        let next : suc n ≡ n + 1 = omega arith in
        ap (λ (k : ℕ). is_some (value_at h name k)) next ∙ ap (λ (o : Option Local). is_some o) (value_is h.start (updates_in h.entries) name n last.0 sound last.1)

pub some_mapped : {A B : Type 0} (f : A → B) (o : Option A) → is_some (option_map f o) ≡ is_some o
some_mapped f None = refl
some_mapped f (Some a) = refl

-- a name that the registry has not is given to nobody
untitled : (id : AgentId) → 0 < length id → false ≡ agents.same id []
untitled [] named = absurd (omega arith)
untitled (b ∷ bs) named = refl

-- an agent begins to own just what the registry gives it
pub owned_are : (registry : Titles) (h : History) (id : AgentId) (document : Node) (name : List Label)
    → ((n : List Label) → is_some (title_at registry n) ≡ is_some (node_at h.start n))
    → is_some (node_at document name) ≡ is_some (node_at h.start name)
    → IsOrdered document → IsSound h → 0 < length id
    → list_any (pointwise label_eq name) (owned_names (start_pieces registry h id document)) ≡ agents.same id (owner_of registry name)
owned_are registry h id document name registered same_nodes ordered sound named = walked (own_full registry h id) document name ordered ∙ either (title_at registry name) refl
  where
    mine : (t : Title) (b : Bool) → title_at registry name ≡ Some t → (is_some (if b then newest_full h name else None) && is_some (node_at document name)) ≡ b
    mine t false at = refl
    mine t true at =
        let there : is_some (node_at h.start name) ≡ true = sym (registered name) ∙ ap (λ (o : Option Title). is_some o) at in
        let local : is_some (local_at h.start name) ≡ true = some_mapped _ (node_at h.start name) ∙ there in
        let value : is_some (newest_full h name) ≡ true = some_mapped _ (value_at h name (update_count h name)) ∙ value_there h name sound local in
        λ i. value i && (same_nodes ∙ there) i

    either : (o : Option Title) → title_at registry name ≡ o
        → (is_some (option_and_then (λ (title : Title). if agents.same id title.0 then newest_full h name else None) o) && is_some (node_at document name)) ≡ agents.same id (unwrap_or o ([], 0)).0
    either None at = untitled id named
    either (Some t) at = mine t (agents.same id t.0) at
