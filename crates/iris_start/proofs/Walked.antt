-- The pieces of a document are of its nodes, each with the node's ids.
use Rattle.std.proofs.Common.{◌≡◌, Bool, true, false, if◌then◌else◌, is_some, List, [], ◌∷◌, ◌++◌, All, Option, Some, None, refl, ◌∙◌, ap, append_assoc}
use Rattle.std.specs.Prelude.{option_and_then}
use Rattle.std.proofs.lemmas.List.Elements.{All-nil, All-cons, All-append}
use Rattle.iris_base.specs.declared.name.Label.{Label}
use Rattle.iris_base.specs.NameOrder.{label_eq, labels_equiv}
use Rattle.iris_tree.specs.Universe.{Node, node, Nodes, no_nodes, nodes, list_of, label_of, ids_of, child_of, part_at, node_at, IsOrdered, AreOrdered}
use Rattle.iris_fragment.specs.declared.piece.Full.{Full}
use Rattle.iris_fragment.specs.declared.piece.Piece.{Piece}
use Rattle.iris_xpath.proofs.Walk.{Finds, finds_all}
use Rattle.iris_start.specs.Pieces.{in_front, pieces_at, pieces_among}

-- below that path a document has that node with all below it
abbrev Stands : Node → List Label → Node → Type 0
Stands document path n = (rest : List Label) → node_at document (path ++ label_of n ∷ rest) ≡ part_at n rest

-- the same of each of these
abbrev AllStand : Node → List Label → Nodes → Type 0
AllStand document path no_nodes = Unit {0}
AllStand document path (nodes n ns) = Stands document path n × AllStand document path ns

top_stands : (document : Node) → Stands document [] document
top_stands document rest = ap (λ (b : Bool). if b then part_at document rest else None) (labels_equiv.refl (label_of document))

children_stand : (document : Node) (path : List Label) (n : Node) (siblings : List Node) (ns : Nodes) → ((l : Label) (rest : List Label) → part_at n (l ∷ rest) ≡ option_and_then (λ child. part_at child rest) (child_of l siblings)) → Stands document path n
    → Finds siblings ns → AllStand document (path ++ label_of n ∷ []) ns
children_stand document path n siblings no_nodes parts h found = tt
children_stand document path n siblings (nodes m ms) parts h found = (
  λ rest.
      ap (node_at document) (append_assoc path (label_of n ∷ []) (label_of m ∷ rest)) ∙ h (label_of m ∷ rest) ∙ parts (label_of m) rest ∙ ap (λ (o : Option Node). option_and_then (λ child. part_at child rest) o) found.0,
  children_stand document path n siblings ms parts h found.1,
)

-- ---- what is so of each piece

all_front : (P : Piece → Type 0) (piece : Piece) (pieces : List Piece) → P piece → All P pieces → All P (in_front piece pieces)
all_front P piece [] is all = either (is_some piece.full)
  where
    either : (b : Bool) → All P (if b then piece ∷ [] else [])
    either true = All-cons P piece [] is (All-nil P)
    either false = All-nil P
all_front P piece (p ∷ ps) is all = All-cons P piece (p ∷ ps) is all

-- what is so of the piece of each node of a document
abbrev pub OfEach : Node → (List Label → Option Full) → (Piece → Type 0) → Type 0
OfEach document full P = (name : List Label) (n : Node) → node_at document name ≡ Some n → P (record { name = name; ids = ids_of n; full = full name })

mutual
  all_at : (P : Piece → Type 0) (document : Node) (full : List Label → Option Full) (path : List Label) (n : Node) → OfEach document full P → IsOrdered n → Stands document path n → All P (pieces_at full path n)
  all_at P document full path (node label local below) each ordered h =
      all_front P (record { name = path ++ label ∷ []; ids = ids_of (node label local below); full = full (path ++ label ∷ []) }) (pieces_among full (path ++ label ∷ []) below)
      (each (path ++ label ∷ []) (node label local below) (h []))
      (all_among P document full (path ++ label ∷ []) below each ordered (children_stand document path (node label local below) (list_of below) below (λ l rest. refl) h (finds_all below ordered)))

  all_among : (P : Piece → Type 0) (document : Node) (full : List Label → Option Full) (path : List Label) (ns : Nodes) → OfEach document full P → AreOrdered ns → AllStand document path ns → All P (pieces_among full path ns)
  all_among P document full path no_nodes each ordered h = All-nil P
  all_among P document full path (nodes n ns) each ordered h =
      All-append P (pieces_at full path n) (pieces_among full path ns) (all_at P document full path n each ordered.0 h.0) (all_among P document full path ns each ordered.2 h.1)

-- what is so of the piece of each node is so of all pieces of the document
pub all_walked : (P : Piece → Type 0) (document : Node) (full : List Label → Option Full) → OfEach document full P → IsOrdered document → All P (pieces_at full [] document)
all_walked P document full each ordered = all_at P document full [] document each ordered (top_stands document)
