-- Looks merged by name: each need stands for a look, and each name is there once.
use Rattle.std.proofs.Common.{◌≡◌, List, [], ◌∷◌, map, filter, fold, All, refl, ap, subst, ◌∙◌}
use Rattle.std.specs.List.{AllByRecursion}
use Rattle.std.specs.List.Sorted.{IsStrictlySortedBy}
use Rattle.std.specs.Cmp.Lexicographic.{slice_cmp}
use Rattle.std.specs.Ordering.{ordering_reverse}
use Rattle.std.specs.declared.cmp.Ordering.{Ordering}
use Rattle.std.specs.declared.cmp.Ordering.TheVariants.{Less, Equal, Greater}
use Rattle.std.proofs.lemmas.List.Elements.{All-from_recursion, recursion_from_All}
use Rattle.iris_base.specs.declared.name.Label.{Label}
use Rattle.iris_base.specs.NameOrder.{label_cmp, names_total}
use Rattle.iris_fragment.specs.declared.piece.Level.{Level}
use Rattle.iris_fragment.specs.declared.piece.Level.TheVariants.{Ids, Full}
use Rattle.iris_fragment.proofs.Names.{name_exact}
use Rattle.iris_need.specs.declared.need.Need.{Need}
use Rattle.iris_need.specs.Laws.{need_cmp, AreOrderedNeeds}
use Rattle.iris_xpath.specs.Syntax.{Syntax}
use Rattle.iris_need.specs.declared.need.Start.{Start}
use Rattle.iris_need.specs.Needs.{greater, put_look, with_look, merged, seen_from, looks, without_states, support_of}
use Rattle.iris_need.specs.Pieces.{Pieces, view_of}
use Rattle.iris_need.specs.Run.{meets}

-- ---- what is so of the name and the level of each look is so of each need

-- so it is of each of these needs
abbrev EachHas : (List Label → Level → Type 0) → List Need → Type 0
EachHas P = AllByRecursion (λ need. P need.name need.level)

greater_has : (P : Level → Type 0) (l m : Level) → P l → P m → P (greater l m)
greater_has P Full m p q = p
greater_has P Ids m p q = q

put_has : (P : List Label → Level → Type 0) (o : Ordering) (look need : Need) (needs more : List Need) → slice_cmp label_cmp look.name need.name ≡ o
    → P look.name look.level → P need.name need.level → EachHas P needs → EachHas P more → EachHas P (put_look o look need needs more)
put_has P Less look need needs more e p q rest also = (p, (q, rest))
put_has P Equal look need needs more e p q rest also =
    let same = name_exact look.name need.name e in
    (greater_has (P need.name) need.level look.level q (subst (λ n. P n look.level) same p), rest)
put_has P Greater look need needs more e p q rest also = (q, also)

with_has : (P : List Label → Level → Type 0) (look : Need) → P look.name look.level → (needs : List Need) → EachHas P needs → EachHas P (with_look needs look)
with_has P look p [] h = (p, tt)
with_has P look p (need ∷ needs) h = put_has P (slice_cmp label_cmp look.name need.name) look need needs (with_look needs look) refl p h.0 h.1 (with_has P look p needs h.1)

fold_has : (P : List Label → Level → Type 0) (looks needs : List Need) → EachHas P looks → EachHas P needs → EachHas P (fold with_look needs looks)
fold_has P [] needs h also = also
fold_has P (look ∷ looks) needs h also = fold_has P looks (with_look needs look) h.1 (with_has P look h.0 needs also)

-- what is so of each look is so of each need
pub merged_have : (P : List Label → Level → Type 0) (looks : List Need) → All (λ look. P look.name look.level) looks → All (λ need. P need.name need.level) (merged looks)
merged_have P looks h = All-from_recursion (λ need. P need.name need.level) (merged looks) (fold_has P looks [] (recursion_from_All (λ look. P look.name look.level) looks h) tt)

-- ---- no look, no need

look_put : (o : Ordering) (look need : Need) (needs more : List Need) → put_look o look need needs more ≡ [] → ⊥
look_put Less look need needs more e = cc
look_put Equal look need needs more e = cc
look_put Greater look need needs more e = cc

with_some : (needs : List Need) (look : Need) → with_look needs look ≡ [] → ⊥
with_some [] look e = cc
with_some (need ∷ needs) look e = look_put (slice_cmp label_cmp look.name need.name) look need needs (with_look needs look) e

none_before : (looks needs : List Need) → fold with_look needs looks ≡ [] → needs ≡ []
none_before [] needs e = e
none_before (look ∷ looks) needs e = absurd (with_some needs look (none_before looks (with_look needs look) e))

-- no need comes of no look alone
pub merged_empty : (looks : List Need) → merged looks ≡ [] → looks ≡ []
merged_empty [] e = refl
merged_empty (look ∷ looks) e = absurd (with_some [] look (none_before looks (with_look [] look) e))

-- ---- in the order of names, each name once

-- all of these names are greater
abbrev AreAfter : Need → List Need → Type 0
AreAfter need = AllByRecursion (λ later. need_cmp need later ≡ Less)

after_more : (first next : Need) → need_cmp first next ≡ Less → (needs : List Need) → AreAfter next needs → AreAfter first needs
after_more first next e [] h = tt
after_more first next e (need ∷ needs) h = (names_total.trans first.name next.name need.name e h.0, after_more first next e needs h.1)

put_after : (first : Need) (o : Ordering) (look need : Need) (needs more : List Need) → need_cmp first look ≡ Less → need_cmp first need ≡ Less → AreAfter first needs → AreAfter first more → AreAfter first (put_look o look need needs more)
put_after first Less look need needs more p q rest also = (p, (q, rest))
put_after first Equal look need needs more p q rest also = (q, rest)
put_after first Greater look need needs more p q rest also = (q, also)

with_after : (first look : Need) → need_cmp first look ≡ Less → (needs : List Need) → AreAfter first needs → AreAfter first (with_look needs look)
with_after first look p [] h = (p, tt)
with_after first look p (need ∷ needs) h = put_after first (need_cmp look need) look need needs (with_look needs look) p h.0 h.1 (with_after first look p needs h.1)

put_ordered : (o : Ordering) (look need : Need) (needs more : List Need) → need_cmp look need ≡ o → AreAfter need needs → AreOrderedNeeds needs → (need_cmp need look ≡ Less → AreAfter need more) → AreOrderedNeeds more → AreOrderedNeeds (put_look o look need needs more)
unfolding IsStrictlySortedBy
put_ordered Less look need needs more e first rest also ordered = ((e, after_more look need e needs first), (first, rest))
put_ordered Equal look need needs more e first rest also ordered = (first, rest)
put_ordered Greater look need needs more e first rest also ordered = (also (names_total.antisymm need.name look.name ∙ ap ordering_reverse e), ordered)

with_ordered : (look : Need) (needs : List Need) → AreOrderedNeeds needs → AreOrderedNeeds (with_look needs look)
unfolding IsStrictlySortedBy
with_ordered look [] h = (tt, tt)
with_ordered look (need ∷ needs) h = put_ordered (need_cmp look need) look need needs (with_look needs look) refl h.0 h.1 (λ e. with_after need look e needs h.0) (with_ordered look needs h.1)

fold_ordered : (looks needs : List Need) → AreOrderedNeeds needs → AreOrderedNeeds (fold with_look needs looks)
fold_ordered [] needs h = h
fold_ordered (look ∷ looks) needs h = fold_ordered looks (with_look needs look) (with_ordered look needs h)

-- merged looks stand in the order of their names
pub merged_ordered : (looks : List Need) → AreOrderedNeeds (merged looks)
unfolding IsStrictlySortedBy
merged_ordered looks = fold_ordered looks [] tt

-- what an evaluation rests on stands in the order of names
pub support_ordered : (query : Syntax) (start : Start) (view : Pieces) → AreOrderedNeeds (support_of query start view)
support_ordered query start view = merged_ordered (map without_states (filter (meets (seen_from start.name (view_of view))) (looks query start (view_of view))))
