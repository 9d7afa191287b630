-- Where nothing is missing over a view of fresh copies, the answer that is determined by what the evaluation rests on is allowed.
use Rattle.std.proofs.Common.{◌≡◌, ℕ, ◌≤◌, true, cond, List, [], ◌∷◌, map, filter, All, Contains, Option, Some, None, is_some, IsSome, IfSome, option_map, option_and_then, refl, sym, ◌∙◌, ap, subst}
use Rattle.std.specs.Cmp.Lexicographic.{slice_cmp}
use Rattle.std.specs.List.Sorted.{IsStrictlySortedBy}
use Rattle.std.specs.List.{cons_option, AllByRecursion}
use Rattle.std.specs.declared.cmp.Ordering.TheVariants.{Less}
use Rattle.std.proofs.lemmas.List.Elements.{All-nil, All-weaker, All-contains, All-contains_itself}
use Rattle.std.proofs.lemmas.Map.Made.{Contains-values_of}
use Rattle.iris_base.specs.NameOrder.{label_cmp}
use Rattle.iris_base.specs.declared.cite.Cite.{Cite}
use Rattle.iris_base.specs.declared.name.Label.{Label}
use Rattle.iris_tree.specs.Universe.{Node, label_of, local_of, node_at}
use Rattle.iris_tree.specs.declared.item.Item.{Item}
use Rattle.iris_fragment.specs.Contents.{Contents}
use Rattle.iris_fragment.specs.declared.piece.Full.{Full}
use Rattle.iris_fragment.specs.declared.piece.Level.TheVariants as level
use Rattle.iris_fragment.specs.declared.piece.Level.{Level}
use Rattle.iris_fragment.specs.declared.piece.Piece.{Piece}
use Rattle.iris_xpath.specs.Syntax.{Syntax}
use Rattle.iris_book.specs.Book.{History, HadVersion}
use Rattle.iris_need.specs.Decided.{pieces_for, decided, full_part_at, IsPartOfView}
use Rattle.iris_need.specs.Laws.{need_cmp, AreOrderedNeeds}
use Rattle.iris_need.specs.Needs.{evaluation, missing_of, support_of, is_full_level, is_full, full_part, from_document}
use Rattle.iris_need.specs.Pieces.{Pieces, AreNamed, piece_at, pieces_in, known_of, view_of, laid_over, IsLocalOf, IsPieceAt, Agrees}
use Rattle.iris_need.specs.Run.{all_of, meets_known}
use Rattle.iris_need.specs.declared.need.Need.{Need}
use Rattle.iris_need.specs.declared.need.Start.{Start}
use Rattle.iris_need.proofs.Deciding.{decided_evaluation, decided_missing, decided_support}
use Rattle.iris_need.proofs.FullNames.{full_names_meant}
use Rattle.iris_need.proofs.Merged.{support_ordered}
use Rattle.iris_need.proofs.Pieces.{piece_named}
use Rattle.iris_need.proofs.Run.{contains_first, contains_later}
use Rattle.iris_need.proofs.Supported.{support_meets}
use Rattle.iris_need.proofs.UndecidedIsRealWork.{same_evaluation, support_full}
use Rattle.iris_gather.specs.Basis.{cite_of, cites_in, cites_of}
use Rattle.iris_gather.specs.Laid.{laid}
use Rattle.iris_gather.specs.Verdicts.{AreDetermined, IsDone}
use Rattle.iris_gather.proofs.Rising.{laid_named}
use Rattle.iris_copies.specs.Allowed.{AreCites, IsAllowed}
use Rattle.iris_copies.specs.Cited.{document_of_cites}
use Rattle.iris_copies.specs.Copies.{IsPresent, WasHeld, IsCopy, IsFresh, HoldsCopies}
use Rattle.iris_copies.specs.Views.{IsView}
use Rattle.iris_copies.proofs.Added.{IsJoined, found_is, laid_each}
use Rattle.iris_copies.proofs.Citing.{cited_label, cited_document, pieces_told, newest_today}
use Rattle.iris_copies.proofs.FragmentPieces.{each_of}
use Rattle.iris_copies.proofs.Ids.{ids_at_nodes, cited_no_ids}
use Rattle.iris_copies.proofs.Seen.{first_is, laid_usable}

-- ---- cites of a view

-- A cited version that was held, with a stamp from the floor to the moment.
record IsHeld (h : History) (now floor : ℕ) (c : Cite) : Type 0 where
  pub held : HadVersion h c.name c.version c.stamp
  pub fresh : floor ≤ c.stamp
  pub past : c.stamp ≤ now

cites_held : (h : History) (now floor : ℕ) (view : Pieces) (names : List (List Label)) → IsView h now floor view → All (IsHeld h now floor) (cites_in view names)
cites_held h now floor view names is = each_of (IsHeld h now floor) (λ name. option_map (cite_of name) (full_part_at view name)) names (λ name there. by name (piece_at view name) refl)
  where
    one : (name : List Label) (o : Option Full) → IfSome o (WasHeld h now name) → IfSome o (λ full. floor ≤ full.stamp) → IfSome (option_map (cite_of name) o) (IsHeld h now floor)
    one name None was fresh = tt
    one name (Some full) was fresh = record { held = was.held; fresh = fresh; past = was.past }

    by : (name : List Label) (o : Option Piece) → piece_at view name ≡ o → IfSome (option_map (cite_of name) (option_and_then (λ (p : Piece). p.full) o)) (IsHeld h now floor)
    by name None found = tt
    by name (Some piece) found =
        one name piece.full
        (subst (λ (n : List Label). IfSome piece.full (WasHeld h now n)) (piece_named view name piece is.named found) (found_is (IsCopy h now) view name piece is.copies found).full)
        (found_is (IsFresh floor) view name piece is.fresh found)

-- what a view has in full is cited
abbrev InFull : Pieces → List Label → Level → Type 0
InFull view name l = l ≡ level.Full → IsSome (full_part_at view name)

cites_named : (view : Pieces) (needs : List Need) → ((need : Need) → Contains needs need → InFull view need.name need.level) → map (λ c. c.name) (cites_in view (full_part needs)) ≡ full_part needs
cites_named view [] full = refl
cites_named view (need ∷ needs) full = by need.level (full need (contains_first need needs)) (cites_named view needs (λ n there. full n (contains_later need needs n there)))
  where
    one : (o : Option Full) → IsSome o → map (λ (c : Cite). c.name) (cites_in view (full_part needs)) ≡ full_part needs → map (λ (c : Cite). c.name) (cons_option (option_map (cite_of need.name) o) (cites_in view (full_part needs))) ≡ need.name ∷ full_part needs
    one None some rest = absurd (cc)
    one (Some f) some rest = ap (λ (names : List (List Label)). need.name ∷ names) rest

    by : (l : Level) → InFull view need.name l → map (λ (c : Cite). c.name) (cites_in view (full_part needs)) ≡ full_part needs
        → map (λ (c : Cite). c.name) (cites_in view (map (λ (n : Need). n.name) (cond (is_full_level l) (need ∷ filter is_full needs) (filter is_full needs)))) ≡ map (λ (n : Need). n.name) (cond (is_full_level l) (need ∷ filter is_full needs) (filter is_full needs))
    by level.Ids some rest = rest
    by level.Full some rest = one (full_part_at view need.name) (some refl) rest

met_full : (view : Pieces) (name : List Label) (l : Level) → meets_known l (view_of view name) ≡ true → InFull view name l
met_full view name level.Ids met same = absurd (cc)
met_full view name level.Full met same = by (piece_at view name) met
  where
    some : (o : Option Full) → is_some (option_map (λ (f : Full). f.local) o) ≡ true → IsSome o
    some None h = absurd (cc)
    some (Some f) h = refl

    by : (o : Option Piece) → meets_known level.Full (option_map known_of o) ≡ true → IsSome (option_and_then (λ (p : Piece). p.full) o)
    by None h = absurd (cc)
    by (Some piece) h = some piece.full h

support_in_full : (query : Syntax) (top : Label) (view : Pieces) (need : Need) → Contains (support_of query (from_document top) view) need → InFull view need.name need.level
support_in_full query top view need there = met_full view need.name need.level (support_meets query (from_document top) (view_of view) need there)

-- the cited names are those of what the evaluation rests on in full
names_of_cites : (query : Syntax) (top : Label) (view : Pieces) → map (λ c. c.name) (cites_of query (from_document top) view) ≡ full_part (support_of query (from_document top) view)
names_of_cites query top view = cites_named view (support_of query (from_document top) view) (support_in_full query top view)

-- ---- the full part of needs is in the order of names, each name once

later_full : (need : Need) (needs : List Need) → AllByRecursion (λ n. need_cmp need n ≡ Less) needs → AllByRecursion (λ m. slice_cmp label_cmp need.name m ≡ Less) (full_part needs)
later_full need [] all = tt
later_full need (n ∷ needs) all = one n.level (later_full need needs all.1)
  where
    one : (l : Level) → AllByRecursion (λ m. slice_cmp label_cmp need.name m ≡ Less) (full_part needs)
        → AllByRecursion (λ m. slice_cmp label_cmp need.name m ≡ Less) (map (λ (x : Need). x.name) (cond (is_full_level l) (n ∷ filter is_full needs) (filter is_full needs)))
    one level.Ids rest = rest
    one level.Full rest = (all.0, rest)

rising_one : (l : Level) (need : Need) (needs : List Need) → AllByRecursion (λ n. need_cmp need n ≡ Less) needs → IsStrictlySortedBy (slice_cmp label_cmp) (full_part needs)
    → IsStrictlySortedBy (slice_cmp label_cmp) (map (λ (x : Need). x.name) (cond (is_full_level l) (need ∷ filter is_full needs) (filter is_full needs)))
unfolding IsStrictlySortedBy
rising_one level.Ids need needs all rest = rest
rising_one level.Full need needs all rest = (later_full need needs all, rest)

full_rises : (needs : List Need) → AreOrderedNeeds needs → IsStrictlySortedBy (slice_cmp label_cmp) (full_part needs)
unfolding IsStrictlySortedBy
full_rises [] ordered = tt
full_rises (need ∷ needs) ordered = rising_one need.level need needs ordered.0 (full_rises needs ordered.1)

-- the cited names rise, so each is there once
pub cites_rise : (query : Syntax) (top : Label) (view : Pieces) → IsStrictlySortedBy (slice_cmp label_cmp) (map (λ c. c.name) (cites_of query (from_document top) view))
cites_rise query top view =
    subst (λ (names : List (List Label)). IsStrictlySortedBy (slice_cmp label_cmp) names) (sym (names_of_cites query top view))
    (full_rises (support_of query (from_document top) view) (support_ordered query (from_document top) view))

-- ---- a document of which pieces tell agrees with the view of these pieces

told_join : (document : Node) → IsJoined (λ piece. IsPieceAt document piece.name piece)
told_join document old piece same was is =
    let one : Some is.0 ≡ Some was.0 = sym is.1 ∙ ap (node_at document) (sym same) ∙ was.1 in
    let node_is : is.0 ≡ was.0 = cc in
    (was.0, was.1, was.2, first_is (λ f. f.local ≡ local_of was.0) old.full piece.full was.3 (subst (λ (n : Node). IsLocalOf n piece.full) node_is is.3))

agrees_from : (document : Node) (view : Pieces) → AreNamed view → All (λ piece. IsPieceAt document piece.name piece) (pieces_in view) → Agrees document view
agrees_from document view named each = All-weaker (Contains view) (λ entry. IsPieceAt document entry.0 entry.1) one view (All-contains_itself view)
  where
    one : (entry : List Label × Piece) → Contains view entry → IsPieceAt document entry.0 entry.1
    one entry there =
        subst (λ (n : List Label). IsPieceAt document n entry.1) (sym (All-contains (λ e. e.0 ≡ e.1.name) view entry named there))
        (All-contains (λ piece. IsPieceAt document piece.name piece) (pieces_in view) entry.1 each (Contains-values_of view entry.0 entry.1 there))

told_agrees : (document : Node) (pieces : List Piece) → All (λ piece. IsPieceAt document piece.name piece) pieces → Agrees document (laid_over pieces [])
told_agrees document pieces each =
    agrees_from document (laid_over pieces []) (laid_named [] pieces (All-nil (λ e. e.0 ≡ e.1.name)))
    (laid_each (λ piece. IsPieceAt document piece.name piece) (told_join document) [] pieces (All-nil (λ e. e.0 ≡ e.1.name)) (All-nil (λ piece. IsPieceAt document piece.name piece)) each)

nothing_part : (view : Pieces) → IsPartOfView [] view
nothing_part view name = tt

-- ---- the answer

module _ (h : History) (now floor : ℕ) (query : Syntax) (view : Pieces) (is : IsView h now floor view) (none : missing_of query (from_document (label_of h.start)) view ≡ []) where
  abbrev start : Start
  start = from_document (label_of h.start)

  abbrev cites : List Cite
  cites = cites_of query start view

  abbrev document : Node
  document = document_of_cites h cites

  label_is : label_of document ≡ label_of h.start
  label_is = cited_label h cites

  -- what the evaluation rests on, as a view of its own
  abbrev rested : Pieces
  rested = decided query start view []

  told_all : All (λ piece. IsPieceAt document piece.name piece) (pieces_for view (support_of query start view))
  told_all = pieces_told h now floor view (support_of query start view) is

  rested_agrees : Agrees document rested
  rested_agrees = told_agrees document (pieces_for view (support_of query start view)) told_all

  rested_whole : missing_of query (from_document (label_of document)) rested ≡ []
  rested_whole = ap (λ (l : Label). missing_of query (from_document l) rested) label_is ∙ decided_missing query start [] view is.named (nothing_part view) ∙ none

  -- the evaluation is the same over the view and over all of the document that its cites tell of, whatever else the view has
  pub same_over_cited : evaluation query start (all_of document) ≡ evaluation query start (view_of view)
  same_over_cited =
      subst (λ (l : Label). evaluation query (from_document l) (all_of document) ≡ evaluation query (from_document l) (view_of rested)) label_is (sym (same_evaluation query rested document rested_agrees rested_whole))
      ∙ decided_evaluation query start [] view is.named (nothing_part view)

  pub cites_are : IsPresent h now → AreCites h now floor query cites
  cites_are present = record {
    held = All-weaker (IsHeld h now floor) (λ c. HadVersion h c.name c.version c.stamp) (λ c of. of.held) cites held;
    fresh = All-weaker (IsHeld h now floor) (λ c. floor ≤ c.stamp) (λ c of. of.fresh) cites held;
    past = All-weaker (IsHeld h now floor) (λ c. c.stamp ≤ now) (λ c of. of.past) cites held;
    names_are = names_of_cites query (label_of h.start) view
        ∙ ap (λ (needs : List Need). full_part needs) (sym (decided_support query start [] view is.named (nothing_part view)))
        ∙ ap (λ (l : Label). full_part (support_of query (from_document l) rested)) (sym label_is)
        ∙ support_full query rested document rested_agrees rested_whole
        ∙ full_names_meant document query (record { in_order = cited_document h cites present.start; plain_ids = ids_at_nodes document (cited_no_ids h cites present.no_ids) });
  }
    where
      held : All (IsHeld h now floor) cites
      held = cites_held h now floor view (full_part (support_of query start view)) is

  pub answer_allowed : (items : List Item) → IsPresent h now → AreDetermined query (label_of h.start) (pieces_for view (support_of query start view)) items → IsAllowed h now floor query items cites
  answer_allowed items present determined = record {
    cites_are = cites_are present;
    items_are = determined document (cited_document h cites present.start) (ids_at_nodes document (cited_no_ids h cites present.no_ids)) label_is told_all;
    today_is = λ all. newest_today h now cites present all;
  }

-- what is done over a fragment of copies is an allowed answer
pub decision_allowed : (h : History) (now floor : ℕ) (f : Contents) (query : Syntax) (view : Pieces) (support : List Need) (items : List Item) → floor ≤ now → IsPresent h now → HoldsCopies h now f → IsView h now floor view
    → IsDone query (from_document (label_of h.start)) (laid f floor now view) support items → IsAllowed h now floor query items (cites_of query (from_document (label_of h.start)) (laid f floor now view))
decision_allowed h now floor f query view support items before present holds is done =
    answer_allowed h now floor query (laid f floor now view) (laid_usable h now floor f view before present holds is) done.whole items present (done.items_are refl)
