-- A gather stays as it is to be: as it decides, and as it takes a reply.
use Rattle.std.proofs.Common.{◌≡◌, ◌≢◌, ◌⊎◌, inl, inr, ℕ, ◌+◌, Bool, true, false, cond, List, [], ◌∷◌, All, Contains, Option, Some, None, ◌∙◌, ap, subst, arith}
use Rattle.std.specs.List.{AllByRecursion, enumerate_from}
use Rattle.std.specs.List.Sorted.{IsStrictlySortedBy}
use Rattle.std.specs.FinMap.{nat_cmp-IsAntisymmetric}
use Rattle.std.specs.Map.{keys_of, remove_entry}
use Rattle.std.specs.BTreeMap.{is_at}
use Rattle.std.specs.Ordering.{nat_cmp}
use Rattle.std.proofs.lemmas.List.Elements.{All-nil, All-contains, All-contains_itself, All-weaker, All-from_recursion, recursion_from_All}
use Rattle.std.proofs.lemmas.Map.Views.{Contains-from_lookup}
use Rattle.iris_base.specs.declared.name.Label.{Label}
use Rattle.iris_fragment.specs.declared.piece.Piece.{Piece}
use Rattle.iris_fragment.proofs.Names.{equal_from_is_eq}
use Rattle.iris_xpath.specs.Syntax.{Syntax}
use Rattle.iris_need.specs.declared.need.Need.{Need}
use Rattle.iris_need.specs.declared.need.Start.{Start}
use Rattle.iris_need.specs.Decided.{IsAtLevel, pieces_for, decided}
use Rattle.iris_need.specs.Descents.{HasAbove}
use Rattle.iris_need.specs.Needs.{is_under, missing_of, support_of, from_document}
use Rattle.iris_need.specs.Pieces.{Pieces, AreNamed, view_of, laid_over}
use Rattle.iris_need.specs.Run.{Below}
use Rattle.iris_need.proofs.Asked.{missing_above, missing_own}
use Rattle.iris_need.proofs.UndecidedIsRealWork.{missing_under}
use Rattle.iris_gather.specs.Gathers.{Gathering, AskTable, need_at, opened, settled, replied, IsReplyTo, IsGathered, LiesBelow, IsSoundGather}
use Rattle.iris_gather.specs.Verdicts.{IsVerdict, asks_of}
use Rattle.iris_gather.specs.declared.parent.Parent.{Parent}
use Rattle.iris_gather.specs.declared.verdict.Verdict.{Verdict}
use Rattle.iris_gather.specs.declared.verdict.Verdict.TheVariants.{Done, Asks}
use Rattle.iris_gather.proofs.Under.{under_itself, same_or_under}
use Rattle.iris_gather.proofs.Rising.{numbers_rise, sorted_removed}
use Rattle.iris_gather.proofs.Gathered.{above_stays, opened_at_document, opened_for_ask, decided_gathers, reply_gathers}

-- ---- asks by their numbers

-- what is so of each need is so of each numbered one
numbered_all : (P : Need → Type 0) (n : ℕ) (needs : List Need) → AllByRecursion P needs → AllByRecursion (λ (ask : ℕ × Need). P ask.1) (enumerate_from n needs)
numbered_all P n [] all = tt
numbered_all P n (need ∷ needs) all = (all.0, numbered_all P (n + 1) needs all.1)

-- what is so of each entry is so of those that are left
left_all : (P : ℕ × Need → Type 0) (test : ℕ → Bool) (es : AskTable) → AllByRecursion P es → AllByRecursion P (remove_entry test es)
left_all P test [] all = tt
left_all P test (e ∷ es) all = one (test e.0) (left_all P test es all.1)
  where
    one : (b : Bool) → AllByRecursion P (remove_entry test es) → AllByRecursion P (cond b es (e ∷ remove_entry test es))
    one true rest = all.1
    one false rest = (all.0, rest)

still_all : (P : ℕ × Need → Type 0) (ask : ℕ) (es : AskTable) → All P es → All P (remove_entry (is_at (nat_cmp ask)) es)
still_all P ask es all = All-from_recursion P (remove_entry (is_at (nat_cmp ask)) es) (left_all P (is_at (nat_cmp ask)) es (recursion_from_All P es all))

-- a pending ask is in the table
pending_there : (pending : AskTable) (ask : ℕ) (need : Need) → need_at pending ask ≡ Some need → Contains pending (ask, need)
pending_there pending ask need found = Contains-from_lookup {eq = λ q. is_at (nat_cmp q)} (λ x y same. nat_cmp-IsAntisymmetric x y (equal_from_is_eq _ same)) ask need pending found

-- ---- what is asked for

-- what a verdict asks for is missing
pub asked_missing : (query : Syntax) (start : Start) (over : Pieces) (verdict : Verdict) → IsVerdict query start over verdict → (need : Need) → Contains (asks_of verdict) need → Contains (missing_of query start over) need
asked_missing query start over (Done support items) is need there = absurd (omega (arith, there.1))
asked_missing query start over (Asks support missing) is need there = subst (λ (needs : List Need). Contains needs need) is.missing_is there

asked_below : (query : Syntax) (start : Start) (view over : Pieces) (need : Need) → IsGathered start view → Below (view_of view) (view_of over) → Contains (missing_of query start over) need → LiesBelow start need
asked_below query start view over need is below there = by (same_or_under need.name start.name under)
  where
    under : is_under need.name start.name ≡ true
    under = missing_under query start over need there

    by : (need.name ≡ start.name) ⊎ (need.name ≢ start.name) → LiesBelow start need
    by (inl same) = let own = missing_own query start view over need is.own below there same in inr (same, own.0, own.1)
    by (inr other) = inl (under, other)

below_under : (start : Start) (need : Need) → LiesBelow start need → is_under need.name start.name ≡ true
below_under start need (inl h) = h.0
below_under start need (inr h) = ap (λ (n : List Label). is_under n start.name) h.0 ∙ under_itself start.name

all_asks : (P : Need → Type 0) (first : ℕ) (verdict : Verdict) → ((need : Need) → Contains (asks_of verdict) need → P need) → All (λ ask. P ask.1) (enumerate_from first (asks_of verdict))
all_asks P first verdict each =
    All-from_recursion (λ ask. P ask.1) (enumerate_from first (asks_of verdict)) (numbered_all P first (asks_of verdict)
    (recursion_from_All P (asks_of verdict) (All-weaker (Contains (asks_of verdict)) P each (asks_of verdict) (All-contains_itself (asks_of verdict)))))

-- ---- its life

nothing_pending : IsStrictlySortedBy nat_cmp (keys_of {X = Need} [])
unfolding IsStrictlySortedBy
nothing_pending = tt

opened_sound : (id floor : ℕ) (query : Syntax) (start : Start) (first : Option Piece) (parent : Parent) → IsGathered start (opened id query floor start first parent).view → IsSoundGather (opened id query floor start first parent)
opened_sound id floor query start first parent is = record {
  gathered = is;
  rising = nothing_pending;
  below = All-nil (λ ask. LiesBelow start ask.1);
  above = All-nil (λ ask. HasAbove (opened id query floor start first parent).view start ask.1.name);
}

pub client_sound : (id floor : ℕ) (query : Syntax) (top : Label) (parent : Parent) → IsSoundGather (opened id query floor (from_document top) None parent)
client_sound id floor query top parent = opened_sound id floor query (from_document top) None parent (opened_at_document top)

pub ask_sound : (id floor : ℕ) (query : Syntax) (start : Start) (first : Piece) (parent : Parent) → first.name ≡ start.name → IsAtLevel start.level first → IsSoundGather (opened id query floor start (Some first) parent)
ask_sound id floor query start first parent same at = opened_sound id floor query start (Some first) parent (opened_for_ask start first same at)

pub settled_sound : (g : Gathering) (over : Pieces) (verdict : Verdict) (first : ℕ) → AreNamed over → Below (view_of g.view) (view_of over) → IsVerdict g.query g.start over verdict → IsSoundGather g
    → IsSoundGather (settled g verdict (pieces_for over (support_of g.query g.start over)) first)
settled_sound g over verdict first named below is sound = record {
  gathered = decided_gathers g.query g.start g.view over named sound.gathered;
  rising = numbers_rise first (asks_of verdict);
  below = all_asks (LiesBelow g.start) first verdict (λ need there. asked_below g.query g.start g.view over need sound.gathered below (asked_missing g.query g.start over verdict is need there));
  above = all_asks (λ need. HasAbove (decided g.query g.start over g.view) g.start need.name) first verdict (λ need there. missing_above g.query g.start g.view over need named (asked_missing g.query g.start over verdict is need there));
}

pub replied_sound : (g : Gathering) (ask : ℕ) (need : Need) (pieces : List Piece) → need_at g.pending ask ≡ Some need → IsReplyTo need.name need.level pieces → IsSoundGather g → IsSoundGather (replied g ask pieces)
replied_sound g ask need pieces found reply sound =
    let there = pending_there g.pending ask need found in
    record {
      gathered = reply_gathers g.start g.view need.name need.level pieces
          (below_under g.start need (All-contains (λ a. LiesBelow g.start a.1) g.pending (ask, need) sound.below there))
          (All-contains (λ a. HasAbove g.view g.start a.1.name) g.pending (ask, need) sound.above there) reply sound.gathered;
      rising = sorted_removed nat_cmp (is_at (nat_cmp ask)) g.pending sound.rising;
      below = still_all (λ a. LiesBelow g.start a.1) ask g.pending sound.below;
      above = still_all (λ a. HasAbove (laid_over pieces g.view) g.start a.1.name) ask g.pending
          (All-weaker (λ a. HasAbove g.view g.start a.1.name) (λ a. HasAbove (laid_over pieces g.view) g.start a.1.name) (λ a h. above_stays g.view pieces g.start a.1.name h) g.pending sound.above);
    }
