-- Which needs of a verdict are found to be changed first.
use Rattle.std.proofs.Common.{◌≡◌, ◌+◌, ◌<◌, ℕ, cond, inl, inr, List, [], ◌∷◌, ◌++◌, length, take, drop, get_or, All, Contains, Option, Some, None, option_map, option_to_list, append_assoc, refl, sym, ◌∙◌, ap, subst}
use Rattle.std.specs.List.{cons_option}
use Rattle.std.specs.Ordering.{ordering_reverse, is_lt}
use Rattle.std.specs.declared.cmp.Ordering.{Ordering}
use Rattle.std.specs.declared.cmp.Ordering.TheVariants.{Less, Equal, Greater}
use Rattle.std.proofs.lemmas.List.{drop_more, take-append-drop}
use Rattle.std.proofs.lemmas.List.Elements.{All-head, All-tail, All-contains, All-more, Contains-append_left, Contains-append_right}
use Rattle.std.proofs.lemmas.Map.Keys.{sorted_tail}
use Rattle.std.proofs.lemmas.Map.Views.{All-after_first}
use Rattle.iris_base.specs.declared.name.Label.{Label}
use Rattle.iris_base.specs.NameOrder.{names_total}
use Rattle.iris_fragment.proofs.Names.{name_exact}
use Rattle.iris_fragment.specs.declared.piece.Piece.{Piece}
use Rattle.iris_need.specs.declared.need.Need.{Need}
use Rattle.iris_need.specs.Decided.{at_level, pieces_for}
use Rattle.iris_need.specs.Laws.{need_cmp, AreOrderedNeeds}
use Rattle.iris_need.specs.Pieces.{Pieces, piece_at}
use Rattle.iris_need.proofs.Pieces.{names_cmp}
use Rattle.iris_need.proofs.Run.{contains_first, first_or_later}
use Rattle.iris_gather.specs.Validation.{IsSameAt, NoMore, IsSameFor, NoMoreFor, IsUnchangedAt, IsStillValid, IsFirstChanged, FailsFirst, IsFirstFailing, lesser_of}
use Rattle.iris_gather.specs.Verdicts.{asks_of, rests_on}
use Rattle.iris_gather.specs.declared.verdict.Verdict.{Verdict}

-- ---- one list of needs

-- it is so of all of these needs with a name before that one
abbrev pub HoldBefore : (Need → Type 0) → List Need → List Label → Type 0
HoldBefore holds needs name = (need : Need) → Contains needs need → names_cmp need.name name ≡ Less → holds need

not_both : (m n : List Label) → names_cmp m n ≡ Less → names_cmp n m ≡ Less → ⊥
not_both m n h k = let back : names_cmp m n ≡ Greater = names_total.antisymm m n ∙ ap ordering_reverse k in cc

not_itself : (n : List Label) → names_cmp n n ≡ Less → ⊥
not_itself n h = not_both n n h h

-- of the needs in their order, those with a lesser name stand before
stand_before : (holds : Need → Type 0) (before : List Need) (need : Need) (after : List Need) → AreOrderedNeeds (before ++ need ∷ after) → All holds before → HoldBefore holds (before ++ need ∷ after) need.name
stand_before holds [] need after ordered hold other there less = elim (first_or_later need after other there) [
  | inl same ↦ absurd (not_itself need.name (subst (λ (n : Need). names_cmp n.name need.name ≡ Less) (sym same) less))
  | inr later ↦ absurd (not_both other.name need.name less (All-contains (λ n. need_cmp need n ≡ Less) after other (All-after_first need_cmp need after ordered) later))
]
stand_before holds (first ∷ before) need after ordered hold other there less = elim (first_or_later first (before ++ need ∷ after) other there) [
  | inl same ↦ subst holds same (All-head holds first before hold)
  | inr later ↦ stand_before holds before need after (sorted_tail need_cmp first (before ++ need ∷ after) ordered) (All-tail holds first before hold) other later less
]

failing_before : (holds : Need → Type 0) (needs : List Need) (name : List Label) → AreOrderedNeeds needs → FailsFirst holds needs name → HoldBefore holds needs name
failing_before holds needs name ordered fails =
    subst (λ (n : List Label). HoldBefore holds needs n) fails.named
    (subst (λ (ns : List Need). HoldBefore holds ns fails.need.name) (sym fails.are)
    (stand_before holds fails.before fails.need fails.after (subst AreOrderedNeeds fails.are ordered) fails.hold))

failing_there : (holds : Need → Type 0) (needs : List Need) (name : List Label) → (fails : FailsFirst holds needs name) → Contains needs fails.need
failing_there holds needs name fails =
    subst (λ (ns : List Need). Contains ns fails.need) (sym fails.are) (Contains-append_right fails.before (fails.need ∷ fails.after) fails.need (contains_first fails.need fails.after))

all_before : (holds : Need → Type 0) (needs : List Need) (name : List Label) → All holds needs → HoldBefore holds needs name
all_before holds needs name all need there less = All-contains holds needs need all there

sooner : (holds : Need → Type 0) (needs : List Need) (name later : List Label) → names_cmp name later ≡ Less → HoldBefore holds needs later → HoldBefore holds needs name
sooner holds needs name later less hold need there before = hold need there (names_total.trans need.name name later before less)

-- ---- both lists

-- of no need it fails
pub still_valid : (old now : Pieces) (verdict : Verdict) → All (IsSameFor old now) (rests_on verdict) → All (NoMoreFor old now) (asks_of verdict) → IsStillValid old now verdict
still_valid old now verdict same none name = record {
  same = λ need there named. All-contains (IsSameFor old now) (rests_on verdict) need same there;
  no_more = λ need there named. All-contains (NoMoreFor old now) (asks_of verdict) need none there;
}

unchanged_before : (old now : Pieces) (verdict : Verdict) (name : List Label) → HoldBefore (IsSameFor old now) (rests_on verdict) name → HoldBefore (NoMoreFor old now) (asks_of verdict) name
    → (lesser : List Label) → names_cmp lesser name ≡ Less → IsUnchangedAt old now verdict lesser
unchanged_before old now verdict name same none lesser less = record {
  same = λ need there named. same need there (subst (λ (n : List Label). names_cmp n name ≡ Less) (sym named) less);
  no_more = λ need there named. none need there (subst (λ (n : List Label). names_cmp n name ≡ Less) (sym named) less);
}

-- it fails first of a need that the verdict rests on
support_changed : (old now : Pieces) (verdict : Verdict) (name : List Label) → AreOrderedNeeds (rests_on verdict) → FailsFirst (IsSameFor old now) (rests_on verdict) name → HoldBefore (NoMoreFor old now) (asks_of verdict) name → IsFirstChanged old now verdict name
support_changed old now verdict name ordered fails none = record {
  named = (fails.need, Contains-append_left (rests_on verdict) (asks_of verdict) fails.need there, fails.named);
  changed = λ unchanged. fails.fails (unchanged.same fails.need there fails.named);
  first = unchanged_before old now verdict name (failing_before (IsSameFor old now) (rests_on verdict) name ordered fails) none;
}
  where
    there : Contains (rests_on verdict) fails.need
    there = failing_there (IsSameFor old now) (rests_on verdict) name fails

-- it fails first of a missing need
asks_changed : (old now : Pieces) (verdict : Verdict) (name : List Label) → AreOrderedNeeds (asks_of verdict) → FailsFirst (NoMoreFor old now) (asks_of verdict) name → HoldBefore (IsSameFor old now) (rests_on verdict) name → IsFirstChanged old now verdict name
asks_changed old now verdict name ordered fails same = record {
  named = (fails.need, Contains-append_right (rests_on verdict) (asks_of verdict) fails.need there, fails.named);
  changed = λ unchanged. fails.fails (unchanged.no_more fails.need there fails.named);
  first = unchanged_before old now verdict name same (failing_before (NoMoreFor old now) (asks_of verdict) name ordered fails);
}
  where
    there : Contains (asks_of verdict) fails.need
    there = failing_there (NoMoreFor old now) (asks_of verdict) name fails

-- only a missing node is had
pub come_first : (old now : Pieces) (verdict : Verdict) (name : List Label) → AreOrderedNeeds (asks_of verdict) → All (IsSameFor old now) (rests_on verdict) → FailsFirst (NoMoreFor old now) (asks_of verdict) name → IsFirstChanged old now verdict name
come_first old now verdict name ordered same fails = asks_changed old now verdict name ordered fails (all_before (IsSameFor old now) (rests_on verdict) name same)

-- the lesser of the two first names
pub lesser_first : (old now : Pieces) (verdict : Verdict) (a : List Label) (come : Option (List Label)) → AreOrderedNeeds (rests_on verdict) → AreOrderedNeeds (asks_of verdict)
    → FailsFirst (IsSameFor old now) (rests_on verdict) a → IsFirstFailing (NoMoreFor old now) (asks_of verdict) come → IsFirstChanged old now verdict (lesser_of a come)
lesser_first old now verdict a None one other fails none = support_changed old now verdict a one fails (all_before (NoMoreFor old now) (asks_of verdict) a none)
lesser_first old now verdict a (Some b) one other fails more = by (names_cmp b a) refl
  where
    asked : HoldBefore (NoMoreFor old now) (asks_of verdict) b
    asked = failing_before (NoMoreFor old now) (asks_of verdict) b other more

    by : (o : Ordering) → names_cmp b a ≡ o → IsFirstChanged old now verdict (cond (is_lt o) b a)
    by Less e = asks_changed old now verdict b other more (sooner (IsSameFor old now) (rests_on verdict) b a e (failing_before (IsSameFor old now) (rests_on verdict) a one fails))
    by Equal e = support_changed old now verdict a one fails (subst (λ (n : List Label). HoldBefore (NoMoreFor old now) (asks_of verdict) n) (name_exact b a e) asked)
    by Greater e = support_changed old now verdict a one fails (sooner (NoMoreFor old now) (asks_of verdict) a b (names_total.antisymm a b ∙ ap ordering_reverse e) asked)

-- ---- the loop

-- the first need of which it is not so, after those of which it is
pub fails_at : (holds : Need → Type 0) (needs : List Need) (i : ℕ) (need : Need) (name : List Label) → i < length needs → need ≡ get_or needs i need → All holds (take i needs) → name ≡ need.name → (holds need → ⊥) → FailsFirst holds needs name
fails_at holds needs i need name there is hold named fails = record {
  before = take i needs;
  need = need;
  after = drop (i + 1) needs;
  are = sym (take-append-drop i needs) ∙ ap (λ (rest : List Need). take i needs ++ rest) (drop_more needs i need there ∙ ap (λ (n : Need). n ∷ drop (i + 1) needs) (sym is));
  named = sym named;
  hold = hold;
  fails = fails;
}

-- it is so of one need more
pub holds_more : (holds : Need → Type 0) (needs : List Need) (i : ℕ) (need : Need) → i < length needs → need ≡ get_or needs i need → All holds (take i needs) → holds need → All holds (take (i + 1) needs)
holds_more holds needs i need there is hold one = All-more holds needs i need there hold (subst holds is one)

-- what is tested of the piece is so of the need
pub same_for : (old now : Pieces) (need : Need) (piece : Option Piece) → piece ≡ piece_at now need.name → IsSameAt need.level (piece_at old need.name) piece → IsSameFor old now need
same_for old now need piece is h = subst (λ (o : Option Piece). IsSameAt need.level (piece_at old need.name) o) is h

pub no_more_for : (old now : Pieces) (need : Need) (piece : Option Piece) → piece ≡ piece_at now need.name → NoMore (piece_at old need.name) piece → NoMoreFor old now need
no_more_for old now need piece is h = subst (λ (o : Option Piece). NoMore (piece_at old need.name) o) is h

pub not_same : (old now : Pieces) (need : Need) (piece : Option Piece) → piece ≡ piece_at now need.name → (IsSameAt need.level (piece_at old need.name) piece → ⊥) → IsSameFor old now need → ⊥
not_same old now need piece is fails h = fails (subst (λ (o : Option Piece). IsSameAt need.level (piece_at old need.name) o) (sym is) h)

pub not_come : (old now : Pieces) (need : Need) (piece : Option Piece) → piece ≡ piece_at now need.name → (NoMore (piece_at old need.name) piece → ⊥) → NoMoreFor old now need → ⊥
not_come old now need piece is fails h = fails (subst (λ (o : Option Piece). NoMore (piece_at old need.name) o) (sym is) h)

-- the piece of one need more
pub pieces_more : (now : Pieces) (needs : List Need) (i : ℕ) (need : Need) (made new : List Piece) (piece asked : Option Piece) → i < length needs → need ≡ get_or needs i need → piece ≡ piece_at now need.name
    → asked ≡ option_map (at_level need.level) piece → new ≡ made ++ option_to_list asked → made ++ pieces_for now (drop i needs) ≡ pieces_for now needs → new ++ pieces_for now (drop (i + 1) needs) ≡ pieces_for now needs
pieces_more now needs i need made new piece asked there is at part added so_far =
    ap (λ (ps : List Piece). ps ++ pieces_for now (drop (i + 1) needs)) (added ∙ ap (λ (o : Option Piece). made ++ option_to_list o) (part ∙ ap (option_map (at_level need.level)) at))
    ∙ append_assoc made (option_to_list (option_map (at_level need.level) (piece_at now need.name))) (pieces_for now (drop (i + 1) needs))
    ∙ ap (λ (ps : List Piece). made ++ ps) (sym (consed (option_map (at_level need.level) (piece_at now need.name)) (pieces_for now (drop (i + 1) needs))))
    ∙ ap (λ (ns : List Need). made ++ pieces_for now ns) (sym (drop_more needs i need there ∙ ap (λ (n : Need). n ∷ drop (i + 1) needs) (sym is)))
    ∙ so_far
  where
    consed : (o : Option Piece) (ps : List Piece) → cons_option o ps ≡ option_to_list o ++ ps
    consed None ps = refl
    consed (Some p) ps = refl
