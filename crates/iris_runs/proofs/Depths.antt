-- What an evaluation misses lies below its start, each node once.
use Rattle.std.proofs.Common.{◌≡◌, ◌≢◌, ◌⊎◌, inl, inr, ◌+◌, ◌-◌, ◌*◌, ◌<◌, ◌≤◌, true, List, [], ◌∷◌, ◌++◌, length, filter, map, All, Contains, IsSome, sym, ap, ◌∙◌, arith, length-append, append-nil}
use Rattle.std.specs.Cmp.Lexicographic.{slice_cmp}
use Rattle.std.specs.List.{AllByRecursion}
use Rattle.std.specs.List.Sorted.{IsStrictlySortedBy}
use Rattle.std.specs.Ordering.{ordering_reverse}
use Rattle.std.specs.declared.cmp.Ordering.TheVariants.{Less}
use Rattle.std.proofs.lemmas.List.Elements.{All-contains, All-contains_itself, All-weaker, recursion_from_All}
use Rattle.iris_base.specs.declared.limits.TheConstants.{MAX_LABELS}
use Rattle.iris_base.specs.declared.name.Label.{Label}
use Rattle.iris_base.specs.NameOrder.{label_cmp, names_total}
use Rattle.iris_tree.specs.Universe.{Node, node_at}
use Rattle.iris_fragment.specs.declared.piece.Level.{Level}
use Rattle.iris_fragment.specs.declared.piece.Level.TheVariants.{Ids, Full}
use Rattle.iris_fragment.specs.Shape.{IsPieceOf}
use Rattle.iris_xpath.specs.Syntax.{Syntax}
use Rattle.iris_need.specs.declared.need.Need.{Need}
use Rattle.iris_need.specs.declared.need.Start.{Start}
use Rattle.iris_need.specs.Descents.{IsStartIn}
use Rattle.iris_need.specs.Laws.{AreOrderedNeeds, need_cmp, look_at_start}
use Rattle.iris_need.specs.Needs.{is_under, is_missing, looks, missing_of}
use Rattle.iris_need.specs.Pieces.{Pieces, AreNamed, view_of}
use Rattle.iris_need.specs.Run.{meets}
use Rattle.iris_need.proofs.Asked.{missing_own, missing_there}
use Rattle.iris_need.proofs.Laid.{laid_grows}
use Rattle.iris_need.proofs.Merged.{merged_ordered}
use Rattle.iris_need.proofs.UndecidedIsRealWork.{missing_under}
use Rattle.iris_gather.proofs.Under.{under_rest}
use Rattle.iris_protocol.specs.Good.{Fits}
use Rattle.iris_protocol.specs.Table.{Among, Distinct, Each}
use Rattle.iris_protocol.specs.World as model
use Rattle.iris_runs.specs.Depths.{AreWithinLabels}
use Rattle.iris_runs.specs.Letters.{rank_at, rank_of, need_of}

-- ---- the rank of a need

most : (name : List Label) (level : Level) → rank_at name level ≤ 2 * (MAX_LABELS - length name) + 1
most name Ids = omega arith
most name Full = omega arith

least : (name : List Label) (level : Level) → 2 * (MAX_LABELS - length name) ≤ rank_at name level
least name Ids = omega arith
least name Full = omega arith

-- a name under another is the other one, or has more labels
longer : (name top : List Label) → is_under name top ≡ true → (name ≡ top) ⊎ (length top < length name)
longer name top under = let rest = under_rest name top under in by rest.0 rest.1
  where
    by : (rest : List Label) → name ≡ top ++ rest → (name ≡ top) ⊎ (length top < length name)
    by [] e = inl (e ∙ append-nil top)
    by (label ∷ rest) e =
        let count : length name ≡ length top + length (label ∷ rest) = ap length e ∙ length-append top (label ∷ rest) in
        inr (omega arith)

-- with more labels the rank is lower
longer_is_lower : (name top : List Label) (level at : Level) → length name ≤ MAX_LABELS → length top < length name → rank_at name level < rank_at top at
longer_is_lower name top level at within more =
    let upper = most name level in
    let lower = least top at in
    omega arith

-- a need of that rank lies below the start: at more labels, or in full where the start has the ids alone
is_lower : (start : Start) (need : Need) → length need.name ≤ MAX_LABELS → is_under need.name start.name ≡ true → (need.name ≡ start.name → (need.level ≡ Full) × (start.level ≡ Ids)) → rank_at need.name need.level < rank_of start
is_lower start need within under own = by (longer need.name start.name under)
  where
    by : (need.name ≡ start.name) ⊎ (length start.name < length need.name) → rank_at need.name need.level < rank_of start
    by (inl same) =
        let levels = own same in
        let one : rank_at need.name need.level ≡ rank_at start.name Full = λ i. rank_at (same i) (levels.0 i) in
        let two : rank_of start ≡ rank_at start.name Ids = ap (rank_at start.name) levels.1 in
        omega arith
    by (inr more) = longer_is_lower need.name start.name need.level start.level within more

-- ---- each node once

not_later : (need : Need) (needs : List Need) → AllByRecursion (λ later. need_cmp need later ≡ Less) needs → Among (λ node. node ≡ need.name) (map (λ (n : model.Need). n.node) (map need_of needs)) → ⊥
not_later need [] after among = among
not_later need (later ∷ needs) after (inl same) =
    let less : slice_cmp label_cmp need.name need.name ≡ Less = ap (slice_cmp label_cmp need.name) (sym same) ∙ after.0 in
    let bad : Less ≡ ordering_reverse Less = sym less ∙ names_total.antisymm need.name need.name ∙ ap ordering_reverse less in
    cc
not_later need (later ∷ needs) after (inr rest) = not_later need needs after.1 rest

ordered_once : (needs : List Need) → AreOrderedNeeds needs → Distinct (map (λ (n : model.Need). n.node) (map need_of needs))
unfolding IsStrictlySortedBy
ordered_once [] ordered = tt
ordered_once (need ∷ needs) ordered = (not_later need needs ordered.0, ordered_once needs ordered.1)

-- ---- the law

each_seen : (P : model.Need → Type 0) (needs : List Need) → AllByRecursion (λ need. P (need_of need)) needs → Each P (map need_of needs)
each_seen P [] all = tt
each_seen P (need ∷ needs) all = (all.0, each_seen P needs all.1)

pub missing_fits : (document : Node) (query : Syntax) (start : Start) (view : Pieces)
    → AreWithinLabels document
    → IsStartIn document start
    → AreNamed view
    → All (λ entry. IsPieceOf document entry.1) view
    → (start.name ≢ [] → meets (view_of view) (look_at_start start) ≡ true)
    → Fits (rank_of start) (map need_of (missing_of query start view))
missing_fits document query start view within is named pieces own = record {
  below = each_seen (λ need. need.rank < rank_of start) missing (recursion_from_All lower missing (All-weaker (Contains missing) lower each missing (All-contains_itself missing)));
  names = ordered_once missing (merged_ordered (filter (is_missing start (view_of view)) (looks query start (view_of view))));
}
  where
    missing : List Need
    missing = missing_of query start view

    lower : Need → Type 0
    lower need = rank_at need.name need.level < rank_of start

    each : (need : Need) → Contains missing need → lower need
    each need there = is_lower start need
        (within need.name (All-contains (λ n. IsSome (node_at document n.name)) missing need (missing_there document query start view is named pieces) there))
        (missing_under query start view need there)
        (missing_own query start view view need own (laid_grows view []) there)
