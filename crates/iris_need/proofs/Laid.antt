-- Views grow: what a view has stays, whatever pieces are added.
use Rattle.std.proofs.Common.{◌≡◌, ◌⊎◌, inl, inr, Bool, true, false, cond, List, [], ◌∷◌, Contains, Option, Some, None, is_some, IsSome, option_map, refl, sym, ◌∙◌, ap, subst, arith}
use Rattle.std.specs.declared.cmp.Ordering.{Ordering}
use Rattle.std.specs.declared.cmp.Ordering.TheVariants.{Less, Equal, Greater}
use Rattle.std.specs.Ordering.{match_ordering, is_eq}
use Rattle.std.specs.Map.{lookup}
use Rattle.std.specs.BTreeMap.{is_at, insert_entry}
use Rattle.iris_base.specs.declared.name.Label.{Label}
use Rattle.iris_tree.specs.declared.local.Local.{Local}
use Rattle.iris_fragment.specs.declared.piece.Full.{Full}
use Rattle.iris_fragment.specs.declared.piece.Level.{Level}
use Rattle.iris_fragment.specs.declared.piece.Level.TheVariants as level
use Rattle.iris_fragment.specs.declared.piece.Piece.{Piece}
use Rattle.iris_fragment.proofs.Names.{name_exact, name_self, equal_from_is_eq}
use Rattle.iris_need.specs.declared.need.Need.{Need}
use Rattle.iris_need.specs.Run.{Known, View, LocalBelow, KnownBelow, Below, meets_known, meets}
use Rattle.iris_need.specs.Pieces.{Pieces, piece_at, first_full, joined_pieces, with_piece, known_of, view_of, laid_over}
use Rattle.iris_need.proofs.Run.{contains_first, contains_later, first_or_later}
use Rattle.iris_need.specs.Decided.{IsAtLevel}
use Rattle.iris_need.proofs.Pieces.{names_cmp}

-- ---- look-ups after one piece more

-- names that are found at one another are one
pub same_name : (m n : List Label) → is_at (names_cmp m) n ≡ true → m ≡ n
same_name m n h = name_exact m n (equal_from_is_eq _ h)

put_first : {X : Type 0} (o : Ordering) (k : List Label) (v : X) (e : List Label × X) (es more : List (List Label × X)) (q : List Label) → names_cmp k e.0 ≡ o
    → lookup (is_at (names_cmp q)) more ≡ cond (is_at (names_cmp q) k) (Some v) (lookup (is_at (names_cmp q)) es)
    → lookup (is_at (names_cmp q)) (match_ordering o ((k, v) ∷ e ∷ es) ((e.0, v) ∷ es) (e ∷ more)) ≡ cond (is_at (names_cmp q) k) (Some v) (lookup (is_at (names_cmp q)) (e ∷ es))
put_first Less k v e es more q at h = refl
put_first {X = X} Equal k v e es more q at h =
    let same = name_exact k e.0 at in
    subst (λ (m : List Label). lookup (is_at (names_cmp q)) ((e.0, v) ∷ es) ≡ cond (is_at (names_cmp q) m) (Some v) (lookup (is_at (names_cmp q)) (e ∷ es))) (sym same)
    (either (is_at (names_cmp q) e.0))
  where
    either : (b : Bool) → cond b (Some v) (lookup (is_at (names_cmp q)) es) ≡ cond b (Some v) (cond b (Some e.1) (lookup (is_at (names_cmp q)) es))
    either true = refl
    either false = refl
put_first {X = X} Greater k v e es more q at h = rw h (either _ _ refl refl)
  where
    either : (b d : Bool) → is_at (names_cmp q) e.0 ≡ b → is_at (names_cmp q) k ≡ d
        → cond b (Some e.1) (cond d (Some v) (lookup (is_at (names_cmp q)) es)) ≡ cond d (Some v) (cond b (Some e.1) (lookup (is_at (names_cmp q)) es))
    either true true first here =
        let same : k ≡ e.0 = sym (same_name q k here) ∙ same_name q e.0 first in
        let bad : Equal ≡ Greater = sym (name_self e.0) ∙ subst (λ (m : List Label). names_cmp m e.0 ≡ Greater) same at in
        absurd (cc)
    either true false first here = refl
    either false true first here = refl
    either false false first here = refl

look_up_inserted : {X : Type 0} (es : List (List Label × X)) (k : List Label) (v : X) (q : List Label) → lookup (is_at (names_cmp q)) (insert_entry names_cmp es k v) ≡ cond (is_at (names_cmp q) k) (Some v) (lookup (is_at (names_cmp q)) es)
look_up_inserted [] k v q = refl
look_up_inserted (e ∷ es) k v q = put_first (names_cmp k e.0) k v e es (insert_entry names_cmp es k v) q refl (look_up_inserted es k v q)

-- what is at a name once a piece was added
pub found_with : (view : Pieces) (piece : Piece) (name : List Label) → piece_at (with_piece view piece) name ≡ cond (is_at (names_cmp name) piece.name) (Some (joined_pieces (piece_at view piece.name) piece)) (piece_at view name)
found_with view piece name = look_up_inserted view piece.name (joined_pieces (piece_at view piece.name) piece) name

self_at : (name : List Label) → is_at (names_cmp name) name ≡ true
self_at name = ap is_eq (name_self name)

-- and at its own name
pub found_here : (view : Pieces) (piece : Piece) → piece_at (with_piece view piece) piece.name ≡ Some (joined_pieces (piece_at view piece.name) piece)
found_here view piece = found_with view piece piece.name ∙ ap (λ (b : Bool). cond b (Some (joined_pieces (piece_at view piece.name) piece)) (piece_at view piece.name)) (self_at piece.name)

-- ---- a view is part of what it grows to

local_itself : (o : Option Local) → LocalBelow o o
local_itself None = tt
local_itself (Some l) = refl

known_itself : (o : Option Known) → KnownBelow o o
known_itself None = tt
known_itself (Some k) = (refl, local_itself k.local)

full_grows : (o more : Option Full) → LocalBelow (option_map (λ (f : Full). f.local) o) (option_map (λ (f : Full). f.local) (first_full o more))
full_grows None more = tt
full_grows (Some f) more = refl

joined_grows : (o : Option Piece) (piece : Piece) → KnownBelow (option_map known_of o) (Some (known_of (joined_pieces o piece)))
joined_grows None piece = tt
joined_grows (Some old) piece = (refl, full_grows old.full piece.full)

with_grows : (view : Pieces) (piece : Piece) → Below (view_of view) (view_of (with_piece view piece))
with_grows view piece name = subst (λ (o : Option Piece). KnownBelow (view_of view name) (option_map known_of o)) (sym (found_with view piece name)) (either (is_at (names_cmp name) piece.name) refl)
  where
    either : (b : Bool) → is_at (names_cmp name) piece.name ≡ b → KnownBelow (view_of view name) (option_map known_of (cond b (Some (joined_pieces (piece_at view piece.name) piece)) (piece_at view name)))
    either true same = subst (λ (n : List Label). KnownBelow (view_of view n) (Some (known_of (joined_pieces (piece_at view piece.name) piece)))) (sym (same_name name piece.name same)) (joined_grows (piece_at view piece.name) piece)
    either false other = known_itself (view_of view name)

local_further : (o p q : Option Local) → LocalBelow o p → LocalBelow p q → LocalBelow o q
local_further None p q h k = tt
local_further (Some l) None q h k = absurd h
local_further (Some l) (Some m) None h k = absurd k
local_further (Some l) (Some m) (Some n) h k = h ∙ k

known_further : (o p q : Option Known) → KnownBelow o p → KnownBelow p q → KnownBelow o q
known_further None p q h k = tt
known_further (Some a) None q h k = absurd h
known_further (Some a) (Some b) None h k = absurd k
known_further (Some a) (Some b) (Some c) h k = (h.0 ∙ k.0, local_further a.local b.local c.local h.1 k.1)

-- of three views, the first is part of the last
pub below_further : (u v w : View) → Below u v → Below v w → Below u w
below_further u v w h k name = known_further (u name) (v name) (w name) (h name) (k name)

-- what a view has stays, whatever pieces are added
pub laid_grows : (view : Pieces) (pieces : List Piece) → Below (view_of view) (view_of (laid_over pieces view))
laid_grows view [] name = known_itself (view_of view name)
laid_grows view (piece ∷ pieces) name = below_further (view_of view) (view_of (with_piece view piece)) (view_of (laid_over (piece ∷ pieces) view)) (with_grows view piece) (laid_grows (with_piece view piece) pieces) name

-- ---- what is met stays met

local_there : (o p : Option Local) → LocalBelow o p → is_some o ≡ true → is_some p ≡ true
local_there None p h s = absurd (cc)
local_there (Some l) None h s = absurd h
local_there (Some l) (Some m) h s = refl

known_met : (l : Level) (o p : Option Known) → KnownBelow o p → meets_known l o ≡ true → meets_known l p ≡ true
known_met l None p h m = absurd (cc)
known_met l (Some a) None h m = absurd h
known_met level.Ids (Some a) (Some b) h m = refl
known_met level.Full (Some a) (Some b) h m = local_there a.local b.local h.1 m

-- what is met stays met
pub met_grows : (w v : View) (look : Need) → Below w v → meets w look ≡ true → meets v look ≡ true
met_grows w v look below met = known_met look.level (w look.name) (v look.name) (below look.name) met

-- a piece is there, once it was added
pub is_there : (view : Pieces) (name : List Label) → is_some (piece_at view name) ≡ meets_known level.Ids (view_of view name)
is_there view name = by (piece_at view name)
  where
    by : (o : Option Piece) → is_some o ≡ meets_known level.Ids (option_map known_of o)
    by None = refl
    by (Some p) = refl

full_there : (o more : Option Full) → IsSome more → is_some (option_map (λ (f : Full). f.local) (first_full o more)) ≡ true
full_there (Some f) more h = refl
full_there None None h = absurd (cc)
full_there None (Some f) h = refl

some_met : (l : Level) (o : Option Piece) (piece : Piece) → IsAtLevel l piece → meets_known l (Some (known_of (joined_pieces o piece))) ≡ true
some_met level.Ids o piece h = refl
some_met level.Full None piece h = full_there None piece.full h
some_met level.Full (Some old) piece h = full_there old.full piece.full h

-- an added piece is met at each level for which it is enough
pub added_meets : (view : Pieces) (pieces : List Piece) (piece : Piece) (l : Level) → Contains pieces piece → IsAtLevel l piece → meets_known l (view_of (laid_over pieces view) piece.name) ≡ true
added_meets view [] piece l there at = absurd (omega (arith, there.1))
added_meets view (first ∷ pieces) piece l there at = elim (first_or_later first pieces piece there) [
  | inl same ↦
      let here : IsAtLevel l first = subst (IsAtLevel l) (sym same) at in
      let met : meets_known l (view_of (with_piece view first) first.name) ≡ true = ap (λ (o : Option Piece). meets_known l (option_map known_of o)) (found_here view first) ∙ some_met l (piece_at view first.name) first here in
      let grown : meets_known l (view_of (laid_over pieces (with_piece view first)) first.name) ≡ true = known_met l (view_of (with_piece view first) first.name) (view_of (laid_over pieces (with_piece view first)) first.name) (laid_grows (with_piece view first) pieces first.name) met in
      subst (λ (p : Piece). meets_known l (view_of (laid_over pieces (with_piece view first)) p.name) ≡ true) same grown
  | inr later ↦ added_meets (with_piece view first) pieces piece l later at
]

-- what is there is what was there, or was added
pub came_from : (view : Pieces) (pieces : List Piece) (name : List Label) → IsSome (piece_at (laid_over pieces view) name) → IsSome (piece_at view name) ⊎ ((piece : Piece) × Contains pieces piece × (piece.name ≡ name))
came_from view [] name h = inl h
came_from view (first ∷ pieces) name h = elim (came_from (with_piece view first) pieces name h) [
  | inl before ↦ either (is_at (names_cmp name) first.name) refl (subst (λ (o : Option Piece). IsSome o) (found_with view first name) before)
  | inr later ↦ inr (later.0, contains_later first pieces later.0 later.1, later.2)
]
  where
    either : (b : Bool) → is_at (names_cmp name) first.name ≡ b → IsSome (cond b (Some (joined_pieces (piece_at view first.name) first)) (piece_at view name)) → IsSome (piece_at view name) ⊎ ((piece : Piece) × Contains (first ∷ pieces) piece × (piece.name ≡ name))
    either true same some = inr (first, contains_first first pieces, sym (same_name name first.name same))
    either false other some = inl some
