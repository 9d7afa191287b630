-- What is added for needs, one after another.
use Rattle.std.proofs.Common.{◌≡◌, ◌<◌, ◌≤◌, Bool, true, false, ℕ, List, [], ◌∷◌, All, Option, None, is_some, option_to_list, refl, sym, ◌∙◌, ap, subst, arith}
use Rattle.std.specs.Bool.{OnTrue, OnFalse}
use Rattle.std.proofs.lemmas.List.Elements.{All-nil, All-cons}
use Rattle.iris_fragment.specs.Contents.{Contents}
use Rattle.iris_fragment.specs.declared.piece.Piece.{Piece}
use Rattle.iris_need.specs.declared.need.Need.{Need}
use Rattle.iris_need.specs.Pieces.{Pieces, laid_over}
use Rattle.iris_gather.specs.Taking.{piece_taken, levels_left, IsBetween}
use Rattle.iris_gather.proofs.Between.{added_between}
use Rattle.iris_gather.proofs.Left.{added_less, nothing_taken}

-- nothing is taken for a need over a view
abbrev pub LacksNothing : Contents → ℕ → ℕ → Pieces → Need → Type 0
LacksNothing f floor now view need = piece_taken f floor now view need ≡ None

-- From a first view on, with these needs left of all: whether something was added, and what is so then.
pub record IsAdded (f : Contents) (floor now : ℕ) (first over : Pieces) (added : Bool) (rest all : List Need) : Type 0 where
  pub left : levels_left f over ≤ levels_left f first
  pub fewer : OnTrue added (levels_left f over < levels_left f first)
  pub same : OnFalse added (over ≡ first)
  pub none : OnFalse added (All (LacksNothing f floor now first) rest → All (LacksNothing f floor now first) all)
  pub between : (view : Pieces) → IsBetween f floor now view first → IsBetween f floor now view over

-- at the beginning
pub added_first : (f : Contents) (floor now : ℕ) (first : Pieces) (all : List Need) → IsAdded f floor now first first false all all
added_first f floor now first all = record {
  left = omega arith;
  fewer = tt;
  same = refl;
  none = λ h. h;
  between = λ view h. h;
}

-- once there was something to take for the next need
pub added_more : (f : Contents) (floor now : ℕ) (first over new : Pieces) (added : Bool) (need : Need) (rest all : List Need) → IsAdded f floor now first over added (need ∷ rest) all
    → is_some (piece_taken f floor now over need) ≡ true → new ≡ laid_over (option_to_list (piece_taken f floor now over need)) over → IsAdded f floor now first new true rest all
added_more f floor now first over new added need rest all h some is =
    let fewer : levels_left f new < levels_left f over = subst (λ (v : Pieces). levels_left f v < levels_left f over) (sym is) (added_less f floor now over need some) in
    let left : levels_left f over ≤ levels_left f first = h.left in
    record {
      left = omega arith;
      fewer = omega arith;
      same = tt;
      none = tt;
      between = λ view before. subst (λ (v : Pieces). IsBetween f floor now view v) (sym is) (added_between f floor now view over need (h.between view before));
    }

-- once there was nothing to take for it
pub added_none : (f : Contents) (floor now : ℕ) (first over new : Pieces) (added : Bool) (need : Need) (rest all : List Need) → IsAdded f floor now first over added (need ∷ rest) all
    → is_some (piece_taken f floor now over need) ≡ false → new ≡ laid_over (option_to_list (piece_taken f floor now over need)) over → IsAdded f floor now first new added rest all
added_none f floor now first over new added need rest all h none is =
    subst (λ (v : Pieces). IsAdded f floor now first v added rest all) (sym same) (record { left = h.left; fewer = h.fewer; same = h.same; none = fewer_left added h.same h.none; between = h.between })
  where
    nothing : piece_taken f floor now over need ≡ None
    nothing = nothing_taken (piece_taken f floor now over need) none

    same : new ≡ over
    same = is ∙ ap (λ (u : Option Piece). laid_over (option_to_list u) over) nothing

    fewer_left : (b : Bool) → OnFalse b (over ≡ first) → OnFalse b (All (LacksNothing f floor now first) (need ∷ rest) → All (LacksNothing f floor now first) all) → OnFalse b (All (LacksNothing f floor now first) rest → All (LacksNothing f floor now first) all)
    fewer_left true e k = tt
    fewer_left false e k = λ later. k (All-cons (LacksNothing f floor now first) need rest (subst (λ (v : Pieces). LacksNothing f floor now v need) e nothing) later)

-- with no need left
pub added_all : (f : Contents) (floor now : ℕ) (first over : Pieces) (added : Bool) (all : List Need) → IsAdded f floor now first over added [] all → OnFalse added (All (LacksNothing f floor now first) all)
added_all f floor now first over added all h = by added h.none
  where
    by : (b : Bool) → OnFalse b (All (LacksNothing f floor now first) [] → All (LacksNothing f floor now first) all) → OnFalse b (All (LacksNothing f floor now first) all)
    by true k = tt
    by false k = k (All-nil (LacksNothing f floor now first))

-- what is so where nothing was added
pub where_none : {P : Type 0} (b : Bool) → b ≡ false → OnFalse b P → P
where_none true e h = absurd (cc)
where_none false e h = h
