-- What a laid view has of each node.
use Rattle.std.proofs.Common.{◌≡◌, Bool, true, false, cond, ℕ, List, [], ◌∷◌, Option, Some, None, option_map, option_and_then, refl, sym, ◌∙◌, ap}
use Rattle.std.specs.List.{cons_option, filter_map}
use Rattle.std.specs.Cmp.{eq_by_cmp_equiv}
use Rattle.std.specs.Map.{keys_of}
use Rattle.std.specs.BTreeMap.{is_at}
use Rattle.std.proofs.lemmas.Map.{lookup-none}
use Rattle.std.proofs.lemmas.Map.Entries.{none_past_head}
use Rattle.std.proofs.lemmas.Map.Keys.{IsDistinct-from_sorted, sorted_tail}
use Rattle.iris_base.specs.declared.name.Label.{Label}
use Rattle.iris_base.specs.NameOrder.{names_total}
use Rattle.iris_fragment.specs.declared.held.HeldNode.{HeldNode}
use Rattle.iris_fragment.specs.declared.piece.Full.{Full}
use Rattle.iris_fragment.specs.declared.piece.Level.{Level}
use Rattle.iris_fragment.specs.declared.piece.Level.TheVariants as level
use Rattle.iris_fragment.specs.declared.piece.Piece.{Piece}
use Rattle.iris_fragment.specs.Contents.{Nodes, Contents, held_at}
use Rattle.iris_fragment.specs.Shape.{HaveRisingNames}
use Rattle.iris_fragment.specs.Usable.{is_usable, is_usable_in, usable, full_held, full_piece, piece_of, held_piece, usable_piece}
use Rattle.iris_need.specs.Pieces.{Pieces, piece_at, joined_pieces, with_piece, laid_over}
use Rattle.iris_need.proofs.Laid.{found_with, same_name}
use Rattle.iris_need.proofs.Pieces.{names_cmp}
use Rattle.iris_gather.specs.Laid.{laid, usable_at, joined_with}
use Rattle.iris_gather.specs.Taking.{level_up_to}

-- a full piece has the name under which the node is held
full_named : (name ids : List Label) (full : Option Full) (piece : Piece) → option_map (full_piece name ids) full ≡ Some piece → piece.name ≡ name
full_named name ids None piece e = absurd (cc)
full_named name ids (Some full) piece e = let same : full_piece name ids full ≡ piece = cc in sym (ap (λ (p : Piece). p.name) same)

-- a piece has the name under which the node is held
pub piece_held_named : (name : List Label) (node : HeldNode) (l : Level) (now : ℕ) (piece : Piece) → piece_of name node l now ≡ Some piece → piece.name ≡ name
piece_held_named name node level.Ids now piece e = (let same : record { name = name; ids = node.ids; full = None } ≡ piece = cc in sym (ap (λ (p : Piece). p.name) same))
piece_held_named name node level.Full now piece e = full_named name node.ids (full_held node.part now) piece e

-- so has a usable one
pub usable_named : (floor now : ℕ) (e : List Label × HeldNode) (piece : Piece) → usable_piece floor now e ≡ Some piece → piece.name ≡ e.0
usable_named floor now e piece = by (is_usable e.1.part level.Full floor)
  where
    by : (b : Bool) → option_and_then (λ l. piece_of e.0 e.1 l now) (cond b (Some level.Full) (Some level.Ids)) ≡ Some piece → piece.name ≡ e.0
    by true h = piece_held_named e.0 e.1 level.Full now piece h
    by false h = piece_held_named e.0 e.1 level.Ids now piece h

-- a name that stands first stands nowhere else
none_later : (e : List Label × HeldNode) (es : Nodes) (name : List Label) → HaveRisingNames (e ∷ es) → is_at (names_cmp name) e.0 ≡ true → held_at es name ≡ None
none_later e es name sorted here =
    lookup-none (is_at (names_cmp name)) es (none_past_head (eq_by_cmp_equiv names_total) name e es (IsDistinct-from_sorted names_cmp (keys_of (e ∷ es)) sorted) here)

-- the same with one node more, which stands first
found_more : (floor now : ℕ) (e : List Label × HeldNode) (es : Nodes) (view : Pieces) (name : List Label) → HaveRisingNames (e ∷ es)
    → ((v : Pieces) → piece_at (laid_over (filter_map (usable_piece floor now) es) v) name ≡ joined_with (piece_at v name) (option_and_then (λ node. usable_piece floor now (name, node)) (held_at es name)))
    → piece_at (laid_over (filter_map (usable_piece floor now) (e ∷ es)) view) name ≡ joined_with (piece_at view name) (option_and_then (λ node. usable_piece floor now (name, node)) (held_at (e ∷ es) name))
found_more floor now e es view name sorted rest = by (usable_piece floor now e) refl (is_at (names_cmp name) e.0) refl
  where
    last : (v : Pieces) → is_at (names_cmp name) e.0 ≡ true → piece_at (laid_over (filter_map (usable_piece floor now) es) v) name ≡ piece_at v name
    last v here = rest v ∙ ap (λ (o : Option HeldNode). joined_with (piece_at v name) (option_and_then (λ node. usable_piece floor now (name, node)) o)) (none_later e es name sorted here)

    at_name : (u : Option Piece) → usable_piece floor now e ≡ u → is_at (names_cmp name) e.0 ≡ true → usable_piece floor now (name, e.1) ≡ u
    at_name u is here = ap (λ (n : List Label). usable_piece floor now (n, e.1)) (same_name name e.0 here) ∙ is

    added : (piece : Piece) → usable_piece floor now e ≡ Some piece → (b : Bool) → is_at (names_cmp name) e.0 ≡ b → piece_at (with_piece view piece) name ≡ cond b (Some (joined_pieces (piece_at view name) piece)) (piece_at view name)
    added piece is b here =
        found_with view piece name
        ∙ ap (λ (n : List Label). cond (is_at (names_cmp name) n) (Some (joined_pieces (piece_at view n) piece)) (piece_at view name)) (usable_named floor now e piece is)
        ∙ whose b here
      where
        whose : (b : Bool) → is_at (names_cmp name) e.0 ≡ b → cond (is_at (names_cmp name) e.0) (Some (joined_pieces (piece_at view e.0) piece)) (piece_at view name) ≡ cond b (Some (joined_pieces (piece_at view name) piece)) (piece_at view name)
        whose true at =
            ap (λ (c : Bool). cond c (Some (joined_pieces (piece_at view e.0) piece)) (piece_at view name)) at
            ∙ ap (λ (n : List Label). Some (joined_pieces (piece_at view n) piece)) (sym (same_name name e.0 at))
        whose false at = ap (λ (c : Bool). cond c (Some (joined_pieces (piece_at view e.0) piece)) (piece_at view name)) at

    by : (u : Option Piece) → usable_piece floor now e ≡ u → (b : Bool) → is_at (names_cmp name) e.0 ≡ b
        → piece_at (laid_over (cons_option u (filter_map (usable_piece floor now) es)) view) name ≡ joined_with (piece_at view name) (option_and_then (λ node. usable_piece floor now (name, node)) (cond b (Some e.1) (held_at es name)))
    by None is true here = last view here ∙ sym (ap (λ (o : Option Piece). joined_with (piece_at view name) o) (at_name None is here))
    by None is false other = rest view
    by (Some piece) is true here = last (with_piece view piece) here ∙ added piece is true here ∙ sym (ap (λ (o : Option Piece). joined_with (piece_at view name) o) (at_name (Some piece) is here))
    by (Some piece) is false other = rest (with_piece view piece) ∙ ap (λ (o : Option Piece). joined_with o (option_and_then (λ node. usable_piece floor now (name, node)) (held_at es name))) (added piece is false other)

-- what a view has of a node after these pieces were added
found : (floor now : ℕ) (es : Nodes) (view : Pieces) (name : List Label) → HaveRisingNames es
    → piece_at (laid_over (filter_map (usable_piece floor now) es) view) name ≡ joined_with (piece_at view name) (option_and_then (λ node. usable_piece floor now (name, node)) (held_at es name))
found floor now [] view name sorted = refl
found floor now (e ∷ es) view name sorted = found_more floor now e es view name sorted (λ v. found floor now es v name (sorted_tail names_cmp e.0 (keys_of es) sorted))

-- what a laid view has of a node
pub laid_at : (f : Contents) (floor now : ℕ) (view : Pieces) (name : List Label) → HaveRisingNames f.nodes → piece_at (laid f floor now view) name ≡ joined_with (piece_at view name) (usable_at f floor now name)
laid_at f floor now view name sorted = found floor now f.nodes view name sorted

-- of a node that the view has
pub laid_joined : (f : Contents) (floor now : ℕ) (view : Pieces) (name : List Label) → HaveRisingNames f.nodes → (held copy : Piece) (usable : Option Piece) (joined : Piece)
    → Some held ≡ piece_at view name → copy ≡ held → usable ≡ usable_at f floor now name → Some joined ≡ joined_with (Some copy) usable → Some joined ≡ piece_at (laid f floor now view) name
laid_joined f floor now view name rising held copy usable joined at same is joins =
    joins ∙ ap (λ (p : Piece). joined_with (Some p) usable) same ∙ ap (λ (u : Option Piece). joined_with (Some held) u) is ∙ ap (λ (o : Option Piece). joined_with o (usable_at f floor now name)) at
    ∙ sym (laid_at f floor now view name rising)

-- of one that it doesn't have
pub laid_alone : (f : Contents) (floor now : ℕ) (view : Pieces) (name : List Label) → HaveRisingNames f.nodes → (usable : Option Piece) → None ≡ piece_at view name → usable ≡ usable_at f floor now name → usable ≡ piece_at (laid f floor now view) name
laid_alone f floor now view name rising usable at is =
    is ∙ alone (usable_at f floor now name) ∙ ap (λ (o : Option Piece). joined_with o (usable_at f floor now name)) at ∙ sym (laid_at f floor now view name rising)
  where
    alone : (u : Option Piece) → u ≡ joined_with None u
    alone None = refl
    alone (Some piece) = refl

-- ---- what is held, at the greater level at which it is usable

greatest_taken : (name : List Label) (node : HeldNode) (now : ℕ) (b : Bool) → piece_of name node (level_up_to level.Full b) now ≡ option_and_then (λ l. piece_of name node l now) (cond b (Some level.Full) (Some level.Ids))
greatest_taken name node now true = refl
greatest_taken name node now false = refl

held_usable : (name : List Label) (held : Option HeldNode) (floor now : ℕ)
    → option_and_then (λ node. piece_of name node (level_up_to level.Full (is_usable_in held level.Full floor)) now) held ≡ option_and_then (λ node. usable_piece floor now (name, node)) held
held_usable name None floor now = refl
held_usable name (Some node) floor now = greatest_taken name node now (is_usable node.part level.Full floor)

-- it is what is usable
pub greatest_usable : (f : Contents) (floor now : ℕ) (name : List Label) (l : Level) → l ≡ level_up_to level.Full (usable f name level.Full floor) → held_piece f name l now ≡ usable_at f floor now name
greatest_usable f floor now name l is = ap (λ (m : Level). held_piece f name m now) is ∙ held_usable name (held_at f.nodes name) floor now
