-- Each piece that is taken leaves less to take.
use Rattle.std.proofs.Common.{◌≡◌, inl, inr, ◌<◌, ◌≤◌, Bool, true, false, ℕ, List, [], ◌∷◌, Contains, Option, Some, None, is_some, IsSome, option_map, option_and_then, option_to_list, refl, sym, ap, subst, arith}
use Rattle.std.specs.List.{sum_by}
use Rattle.std.specs.BTreeMap.{is_at}
use Rattle.std.proofs.lemmas.List.Sums.{sum_by-cons, sum_by-le-sum_by}
use Rattle.std.proofs.lemmas.Map.Views.{Contains-from_lookup}
use Rattle.iris_base.specs.declared.name.Label.{Label}
use Rattle.iris_fragment.specs.declared.held.HeldNode.{HeldNode}
use Rattle.iris_fragment.specs.declared.piece.Full.{Full}
use Rattle.iris_fragment.specs.declared.piece.Level.{Level}
use Rattle.iris_fragment.specs.declared.piece.Level.TheVariants as level
use Rattle.iris_fragment.specs.declared.piece.Piece.{Piece}
use Rattle.iris_fragment.specs.Contents.{Nodes, Contents, held_at}
use Rattle.iris_fragment.specs.Usable.{full_held, full_piece, piece_of}
use Rattle.iris_fragment.proofs.Names.{name_exact, equal_from_is_eq}
use Rattle.iris_need.specs.declared.need.Need.{Need}
use Rattle.iris_need.specs.Decided.{IsAtLevel}
use Rattle.iris_need.specs.Pieces.{Pieces, with_piece, view_of, laid_over}
use Rattle.iris_need.specs.Run.{Below, meets_known}
use Rattle.iris_need.proofs.Laid.{laid_grows, met_grows, added_meets}
use Rattle.iris_need.proofs.Pieces.{names_cmp}
use Rattle.iris_need.proofs.Run.{contains_first, first_or_later}
use Rattle.iris_gather.specs.Taking.{level_taken, piece_taken, one_unless, levels_lacked, levels_left}
use Rattle.iris_gather.proofs.Between.{not_met, taken_held, taken_of, taken_named}

-- ---- sums

-- a sum of terms that are no greater, one of them less
sum_falls : {X : Type 0} (g h : X → ℕ) (xs : List X) (x : X) → ((y : X) → g y ≤ h y) → Contains xs x → g x < h x → sum_by g xs < sum_by h xs
sum_falls g h [] x each there less = absurd (omega (arith, there.1))
sum_falls {X = X} g h (y ∷ xs) x each there less = elim (first_or_later y xs x there) [
  | inl same ↦
      let here : g y < h y = subst (λ (z : X). g z < h z) (sym same) less in
      omega (arith, here, sum_by-cons g y xs, sum_by-cons h y xs, sum_by-le-sum_by g h xs each)
  | inr later ↦ omega (arith, each y, sum_by-cons g y xs, sum_by-cons h y xs, sum_falls g h xs x each later less)
]

-- ---- levels

one_less : (b c : Bool) → (b ≡ true → c ≡ true) → one_unless c ≤ one_unless b
one_less true true h = omega arith
one_less true false h = let bad : false ≡ true = h refl in absurd (cc)
one_less false true h = omega arith
one_less false false h = omega arith

-- a level that a view has stays
level_stays : (w v : Pieces) (name : List Label) (l : Level) → Below (view_of w) (view_of v) → one_unless (meets_known l (view_of v name)) ≤ one_unless (meets_known l (view_of w name))
level_stays w v name l below = one_less (meets_known l (view_of w name)) (meets_known l (view_of v name)) (met_grows (view_of w) (view_of v) (record { name = name; level = l; states = [] }) below)

lacked_stays : (w v : Pieces) → Below (view_of w) (view_of v) → (name : List Label) → levels_lacked v name ≤ levels_lacked w name
lacked_stays w v below name = omega (arith, level_stays w v name level.Ids below, level_stays w v name level.Full below)

-- a level that a view gains
level_gained : (w v : Pieces) (name : List Label) (l : Level) → Below (view_of w) (view_of v) → meets_known l (view_of w name) ≡ false → meets_known l (view_of v name) ≡ true → levels_lacked v name < levels_lacked w name
level_gained w v name level.Ids below lacks has =
    let before : one_unless (meets_known level.Ids (view_of w name)) ≡ 1 = ap one_unless lacks in
    let after : one_unless (meets_known level.Ids (view_of v name)) ≡ 0 = ap one_unless has in
    omega (arith, before, after, level_stays w v name level.Full below)
level_gained w v name level.Full below lacks has =
    let before : one_unless (meets_known level.Full (view_of w name)) ≡ 1 = ap one_unless lacks in
    let after : one_unless (meets_known level.Full (view_of v name)) ≡ 0 = ap one_unless has in
    omega (arith, before, after, level_stays w v name level.Ids below)

-- ---- one piece

full_piece_full : (name ids : List Label) (full : Option Full) (piece : Piece) → option_map (full_piece name ids) full ≡ Some piece → IsSome piece.full
full_piece_full name ids None piece e = absurd (cc)
full_piece_full name ids (Some full) piece e = let same : full_piece name ids full ≡ piece = cc in subst (λ (p : Piece). IsSome p.full) same refl

-- a piece that is held at a level is enough for it
at_its_level : (name : List Label) (node : HeldNode) (l : Level) (now : ℕ) (piece : Piece) → piece_of name node l now ≡ Some piece → IsAtLevel l piece
at_its_level name node level.Ids now piece e = tt
at_its_level name node level.Full now piece e = full_piece_full name node.ids (full_held node.part now) piece e

-- a node that is found is held
node_there : (nodes : Nodes) (name : List Label) (node : HeldNode) → held_at nodes name ≡ Some node → Contains nodes (name, node)
node_there nodes name node found = Contains-from_lookup {eq = λ q. is_at (names_cmp q)} (λ x y same. name_exact x y (equal_from_is_eq _ same)) name node nodes found

taken_falls : (f : Contents) (floor now : ℕ) (over : Pieces) (need : Need) (piece : Piece) → piece_taken f floor now over need ≡ Some piece → levels_left f (with_piece over piece) < levels_left f over
taken_falls f floor now over need piece taken =
    let l = level_taken f floor need in
    let more = with_piece over piece in
    let held = option_and_then (λ node. piece_of need.name node l now) (held_at f.nodes need.name) in
    let kept = taken_of need.name (held_at f.nodes need.name) l now piece (taken_held (meets_known l (view_of over need.name)) held piece taken) in
    let lacks : meets_known l (view_of over need.name) ≡ false = not_met (meets_known l (view_of over need.name)) held piece taken in
    let met : meets_known l (view_of more piece.name) ≡ true = added_meets over (piece ∷ []) piece l (contains_first piece []) (at_its_level need.name kept.0 l now piece kept.2) in
    let has : meets_known l (view_of more need.name) ≡ true = subst (λ (n : List Label). meets_known l (view_of more n) ≡ true) (taken_named f floor now over need piece taken) met in
    let below : Below (view_of over) (view_of more) = laid_grows over (piece ∷ []) in
    sum_falls (λ entry. levels_lacked more entry.0) (λ entry. levels_lacked over entry.0) f.nodes (need.name, kept.0) (λ entry. lacked_stays over more below entry.0) (node_there f.nodes need.name kept.0 kept.1) (level_gained over more need.name l below lacks has)

-- ---- one need

-- with what is taken for a need there is no more left, and less where there was something to take
pub added_left : (f : Contents) (floor now : ℕ) (over : Pieces) (need : Need) → levels_left f (laid_over (option_to_list (piece_taken f floor now over need)) over) ≤ levels_left f over
added_left f floor now over need = by (piece_taken f floor now over need) refl
  where
    by : (u : Option Piece) → piece_taken f floor now over need ≡ u → levels_left f (laid_over (option_to_list u) over) ≤ levels_left f over
    by None is = omega arith
    by (Some piece) is = let less = taken_falls f floor now over need piece is in omega arith

pub added_less : (f : Contents) (floor now : ℕ) (over : Pieces) (need : Need) → is_some (piece_taken f floor now over need) ≡ true → levels_left f (laid_over (option_to_list (piece_taken f floor now over need)) over) < levels_left f over
added_less f floor now over need = by (piece_taken f floor now over need) refl
  where
    by : (u : Option Piece) → piece_taken f floor now over need ≡ u → is_some u ≡ true → levels_left f (laid_over (option_to_list u) over) < levels_left f over
    by None is some = absurd (cc)
    by (Some piece) is some = taken_falls f floor now over need piece is

-- where there is nothing to take
pub nothing_taken : {X : Type 0} (u : Option X) → is_some u ≡ false → u ≡ None
nothing_taken None h = refl
nothing_taken (Some x) h = absurd (cc)
