-- A gather asks for each name at each level at most once.
use Rattle.std.proofs.Common.{◌≡◌, ◌⊎◌, inl, inr, ℕ, suc, ◌+◌, Bool, true, false, cond, List, [], ◌∷◌, ◌++◌, filter, All, AllPairs, Contains, Option, Some, sym, ◌∙◌, ap, subst, arith}
use Rattle.std.specs.List.{enumerate_from}
use Rattle.std.specs.List.Sorted.{IsStrictlySortedBy}
use Rattle.std.specs.declared.cmp.Ordering.TheVariants.{Less, Equal}
use Rattle.std.specs.Map.{lookup, remove_entry}
use Rattle.std.specs.BTreeMap.{is_at}
use Rattle.std.specs.Ordering.{nat_cmp}
use Rattle.std.specs.Cmp.Lexicographic.{slice_cmp}
use Rattle.std.proofs.lemmas.List.Elements.{All-nil, All-append, All-contains, All-contains_itself, All-weaker, All-from_recursion}
use Rattle.std.proofs.lemmas.List.Kept.{AllPairs-cons}
use Rattle.iris_base.specs.declared.name.Label.{Label}
use Rattle.iris_base.specs.NameOrder.{label_cmp}
use Rattle.iris_fragment.specs.declared.piece.Piece.{Piece}
use Rattle.iris_fragment.proofs.Names.{name_self}
use Rattle.iris_xpath.specs.Syntax.{Syntax}
use Rattle.iris_need.specs.declared.need.Need.{Need}
use Rattle.iris_need.specs.declared.need.Start.{Start}
use Rattle.iris_need.specs.Laws.{need_cmp, AreOrderedNeeds}
use Rattle.iris_need.specs.Needs.{looks, is_missing, missing_of}
use Rattle.iris_need.specs.Pieces.{Pieces, view_of, laid_over}
use Rattle.iris_need.specs.Run.{Below, meets}
use Rattle.iris_need.proofs.Asked.{not_again}
use Rattle.iris_need.proofs.Laid.{laid_grows, met_grows}
use Rattle.iris_need.proofs.Merged.{merged_ordered}
use Rattle.iris_need.proofs.Run.{contains_first, contains_later, first_or_later}
use Rattle.iris_gather.specs.Gathers.{Gathering, AskTable, need_at, opened, settled, replied, IsReplyTo, IsPendingOrMet, IsRepeated, AskedOnce}
use Rattle.iris_gather.specs.Verdicts.{IsVerdict, asks_of}
use Rattle.iris_gather.specs.declared.parent.Parent.{Parent}
use Rattle.iris_gather.specs.declared.verdict.Verdict.{Verdict}
use Rattle.iris_gather.specs.declared.verdict.Verdict.TheVariants.{Done, Asks}
use Rattle.iris_gather.proofs.Gathered.{reply_meets}
use Rattle.iris_gather.proofs.Life.{asked_missing}

-- ---- pairs of a list

no_pairs : {X : Type 0} (R : X → X → Type 0) → AllPairs R []
no_pairs R i j d less within = absurd (omega (arith, within))

pairs_head : {X : Type 0} (R : X → X → Type 0) (x : X) (xs : List X) → AllPairs R (x ∷ xs) → All (R x) xs
pairs_head R x xs h k d within = h 0 (suc k) d (omega arith) (omega (arith, within))

pairs_tail : {X : Type 0} (R : X → X → Type 0) (x : X) (xs : List X) → AllPairs R (x ∷ xs) → AllPairs R xs
pairs_tail R x xs h i j d less within = h (suc i) (suc j) d (omega (arith, less)) (omega (arith, within))

pairs_append : {X : Type 0} (R : X → X → Type 0) (xs ys : List X) → AllPairs R xs → AllPairs R ys → ((x : X) → Contains xs x → All (R x) ys) → AllPairs R (xs ++ ys)
pairs_append R [] ys first later across = later
pairs_append R (x ∷ xs) ys first later across =
    AllPairs-cons R x (xs ++ ys) (All-append (R x) xs ys (pairs_head R x xs first) (across x (contains_first x xs)))
    (pairs_append R xs ys (pairs_tail R x xs first) later (λ z there. across z (contains_later x xs z there)))

-- ---- the asks of one decision

abbrev NotAgain : Need → Need → Type 0
NotAgain earlier later = IsRepeated earlier later → ⊥

-- needs whose names rise are for different names
rising_differ : (needs : List Need) → AreOrderedNeeds needs → AllPairs NotAgain needs
unfolding IsStrictlySortedBy
rising_differ [] rise = no_pairs NotAgain
rising_differ (need ∷ needs) rise =
    AllPairs-cons NotAgain need needs
    (All-weaker (λ later. need_cmp need later ≡ Less) (NotAgain need) differ needs (All-from_recursion (λ later. need_cmp need later ≡ Less) needs rise.0))
    (rising_differ needs rise.1)
  where
    differ : (later : Need) → need_cmp need later ≡ Less → IsRepeated need later → ⊥
    differ later less again =
        let equal : slice_cmp label_cmp need.name later.name ≡ Equal = subst (λ (n : List Label). slice_cmp label_cmp need.name n ≡ Equal) again.0 (name_self need.name) in
        let bad : Less ≡ Equal = sym less ∙ equal in
        cc

asks_differ : (query : Syntax) (start : Start) (over : Pieces) (verdict : Verdict) → IsVerdict query start over verdict → AllPairs NotAgain (asks_of verdict)
asks_differ query start over (Done support items) is = no_pairs NotAgain
asks_differ query start over (Asks support missing) is =
    subst (λ (needs : List Need). AllPairs NotAgain needs) (sym is.missing_is)
    (rising_differ (missing_of query start over) (merged_ordered (filter (is_missing start (view_of over)) (looks query start (view_of over)))))

-- ---- asks by their numbers

numbered_there : (n : ℕ) (needs : List Need) (need : Need) → Contains needs need → (number : ℕ) × Contains (enumerate_from n needs) (number, need)
numbered_there n [] need there = absurd (omega (arith, there.1))
numbered_there n (first ∷ needs) need there = elim (first_or_later first needs need there) [
  | inl same ↦ (n, subst (λ (x : Need). Contains (enumerate_from n (first ∷ needs)) (n, x)) same (contains_first (n, first) (enumerate_from (n + 1) needs)))
  | inr later ↦ let rest = numbered_there (n + 1) needs need later in (rest.0, contains_later (n, first) (enumerate_from (n + 1) needs) (rest.0, need) rest.1)
]

-- an entry is the one that was found, or is left
found_or_left : (test : ℕ → Bool) (es : AskTable) (found : Need) (e : ℕ × Need) → lookup test es ≡ Some found → Contains es e → (e.1 ≡ found) ⊎ Contains (remove_entry test es) e
found_or_left test [] found e is there = absurd (omega (arith, there.1))
found_or_left test (f ∷ es) found e is there = by (test f.0) is (first_or_later f es e there) (found_or_left test es found e)
  where
    by : (b : Bool) → cond b (Some f.1) (lookup test es) ≡ Some found → (f ≡ e) ⊎ Contains es e → (lookup test es ≡ Some found → Contains es e → (e.1 ≡ found) ⊎ Contains (remove_entry test es) e)
        → (e.1 ≡ found) ⊎ Contains (cond b es (f ∷ remove_entry test es)) e
    by true at (inl same) rest =
        let here : f.1 ≡ found = cc in
        inl (ap (λ (x : ℕ × Need). x.1) (sym same) ∙ here)
    by true at (inr later) rest = inr later
    by false at (inl same) rest = inr (subst (λ (x : ℕ × Need). Contains (f ∷ remove_entry test es) x) same (contains_first f (remove_entry test es)))
    by false at (inr later) rest = elim (rest at later) [
      | inl h ↦ inl h
      | inr h ↦ inr (contains_later f (remove_entry test es) e h)
    ]

-- ---- its life

pub opened_once : (id floor : ℕ) (query : Syntax) (start : Start) (first : Option Piece) (parent : Parent) → AskedOnce (opened id query floor start first parent) []
opened_once id floor query start first parent = record {
  known = All-nil (IsPendingOrMet (opened id query floor start first parent));
  once = no_pairs NotAgain;
}

none_there : {X : Type 0} (xs : List X) (x : X) → xs ≡ [] → Contains xs x → ⊥
none_there [] x e there = omega (arith, there.1)
none_there (y ∷ xs) x e there = cc

-- where nothing is pending, all that was asked is met
all_met : (g : Gathering) (asked : List Need) → g.pending ≡ [] → AskedOnce g asked → (need : Need) → Contains asked need → meets (view_of g.view) need ≡ true
all_met g asked idle is need there = by (All-contains (IsPendingOrMet g) asked need is.known there)
  where
    by : IsPendingOrMet g need → meets (view_of g.view) need ≡ true
    by (inl pending) = absurd (none_there g.pending (pending.0, need) idle pending.1)
    by (inr met) = met

pub settled_once : (g : Gathering) (asked : List Need) (over : Pieces) (verdict : Verdict) (pieces : List Piece) (first : ℕ) → g.pending ≡ [] → Below (view_of g.view) (view_of over) → IsVerdict g.query g.start over verdict → AskedOnce g asked
    → AskedOnce (settled g verdict pieces first) (asked ++ asks_of verdict)
settled_once g asked over verdict pieces first idle below is once = record {
  known = All-append (IsPendingOrMet next) asked (asks_of verdict)
      (All-weaker (Contains asked) (IsPendingOrMet next) (λ need there. inr (met_grows (view_of g.view) (view_of next.view) need (laid_grows g.view pieces) (met need there))) asked (All-contains_itself asked))
      (All-weaker (Contains (asks_of verdict)) (IsPendingOrMet next) (λ need there. inl (numbered_there first (asks_of verdict) need there)) (asks_of verdict) (All-contains_itself (asks_of verdict)));
  once = pairs_append NotAgain asked (asks_of verdict) once.once (asks_differ g.query g.start over verdict is) (λ earlier there.
      All-weaker (Contains (asks_of verdict)) (NotAgain earlier) (λ later new again. not_again g.query g.start g.view over earlier later below (met earlier there) (asked_missing g.query g.start over verdict is later new) (sym again.0) again.1) (asks_of verdict) (All-contains_itself (asks_of verdict)));
}
  where
    next : Gathering
    next = settled g verdict pieces first

    met : (need : Need) → Contains asked need → meets (view_of g.view) need ≡ true
    met = all_met g asked idle once

pub replied_once : (g : Gathering) (asked : List Need) (ask : ℕ) (need : Need) (pieces : List Piece) → need_at g.pending ask ≡ Some need → IsReplyTo need.name need.level pieces → AskedOnce g asked → AskedOnce (replied g ask pieces) asked
replied_once g asked ask need pieces found reply is = record {
  known = All-weaker (IsPendingOrMet g) (IsPendingOrMet (replied g ask pieces)) each asked is.known;
  once = is.once;
}
  where
    met_now : (other : Need) → other ≡ need → meets (view_of (laid_over pieces g.view)) other ≡ true
    met_now other same = subst (λ (n : Need). meets (view_of (laid_over pieces g.view)) n ≡ true) (sym same) (reply_meets g.view need.name need.level pieces reply)

    each : (other : Need) → IsPendingOrMet g other → IsPendingOrMet (replied g ask pieces) other
    each other (inl pending) = elim (found_or_left (is_at (nat_cmp ask)) g.pending need (pending.0, other) found pending.1) [
      | inl same ↦ inr (met_now other same)
      | inr left ↦ inl (pending.0, left)
    ]
    each other (inr met) = inr (met_grows (view_of g.view) (view_of (laid_over pieces g.view)) other (laid_grows g.view pieces) met)
