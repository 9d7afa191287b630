-- Where nothing is missing, a query selects in the part of a document that its evaluation rests on what it selects in the whole.
use Rattle.std.proofs.Common.{◌≡◌, ℕ, zero, suc, ◌≤◌, Bool, true, false, cond, ◌⊎◌, inl, inr, List, [], ◌∷◌, ◌++◌, length, Contains, Option, Some, None, IsSome, option_map, refl, sym, ap, ◌∙◌, subst, arith}
use Rattle.std.proofs.lemmas.List.{length-append}
use Rattle.iris_base.specs.declared.name.Label.{Label}
use Rattle.iris_tree.specs.Universe.{Node, label_of, local_of, ids_of, node_at}
use Rattle.iris_tree.specs.declared.item.Item.{Item}
use Rattle.iris_tree.specs.Items.{items_at}
use Rattle.iris_fragment.specs.declared.piece.Full.{Full as FullPart}
use Rattle.iris_fragment.specs.declared.piece.Level.{Level}
use Rattle.iris_fragment.specs.declared.piece.Level.TheVariants.{Ids, Full}
use Rattle.iris_fragment.specs.declared.piece.Piece.{Piece}
use Rattle.std.specs.BTreeMap.{is_at}
use Rattle.std.proofs.lemmas.List.Elements.{All-head, All-tail}
use Rattle.iris_xpath.specs.Meaning.{selected}
use Rattle.iris_xpath.specs.Syntax.{Syntax}
use Rattle.iris_need.specs.declared.need.Need.{Need}
use Rattle.iris_need.specs.Alike.{IsAlike, Reaches}
use Rattle.iris_need.specs.Descents.{IsAtStart, IsBelowMet}
use Rattle.iris_need.specs.Decided.{pieces_for, decided}
use Rattle.iris_need.specs.HeldParts.{level_at, held_part, IsHeldAt}
use Rattle.iris_need.specs.Needs.{looks, missing_of, support_of, from_document}
use Rattle.iris_need.specs.Pieces.{Pieces, AreNamed, piece_at, first_full, joined_pieces, with_piece, laid_over, known_of, view_of, IsLocalOf, IsPieceAt, AgreesWith}
use Rattle.iris_need.specs.Placed.{Placed, placed_program, answer_of_found}
use Rattle.iris_need.specs.Run.{Known, Out, run, eval, all_of, meets_known, meets}
use Rattle.iris_need.proofs.Attributes.{IsCity}
use Rattle.iris_need.proofs.Covered.{met_covered}
use Rattle.iris_need.proofs.Deciding.{met_alike, decided_missing, decided_support}
use Rattle.iris_need.proofs.Descended.{looked_where, looked_some}
use Rattle.iris_need.proofs.Documents.{ids_are, local_is, top_stands}
use Rattle.iris_need.proofs.HeldParts.{AreHeld, held_label, held_city, node_held, one_held, ids_held, local_kept}
use Rattle.iris_need.proofs.Levels.{level_there}
use Rattle.iris_need.proofs.Laid.{found_with, same_name}
use Rattle.iris_need.proofs.Pieces.{names_cmp}
use Rattle.iris_need.proofs.Merged.{support_ordered}
use Rattle.iris_need.proofs.Placed.{placed_meant}
use Rattle.iris_need.proofs.Restricted.{same_run}
use Rattle.iris_need.proofs.Run.{evals, determined}
use Rattle.iris_need.proofs.SameLooks.{program_alike}
use Rattle.iris_need.proofs.Supported.{support_meets}
use Rattle.iris_need.proofs.UndecidedIsRealWork.{all_met, told_below}

-- ---- alike

-- two that are alike to a third
alike_both : (l : Level) (k m v : Option Known) → IsAlike l k m → IsAlike l k v → IsAlike l m v
alike_both Ids k m v h j = sym h ∙ j
alike_both Full k m v h j = sym h ∙ j

reaches_full : (l : Level) → Reaches l Full → l ≡ Full
reaches_full Full h = refl
reaches_full Ids h = absurd h

-- two documents have the same at a name, as far as a level asks
document_alike : (l : Level) (document part : Node) (name : List Label) (n m : Node) → node_at document name ≡ Some n → node_at part name ≡ Some m → ids_of m ≡ ids_of n → (l ≡ Full → local_of m ≡ local_of n) → IsAlike l (all_of document name) (all_of part name)
document_alike Ids document part name n m there here ids local = ap (λ (ls : List Label). Some ls) (ids_are document name n there ∙ sym ids ∙ sym (ids_are part name m here))
document_alike Full document part name n m there here ids local = λ i. Some (record {
  ids = (ids_are document name n there ∙ sym ids ∙ sym (ids_are part name m here)) i;
  local = (local_is document name n there ∙ sym (local refl) ∙ sym (local_is part name m here)) i;
})

-- ---- names

no_labels : (name : List Label) → length name ≤ 0 → name ≡ []
no_labels [] h = refl
no_labels (l ∷ name) h = absurd (omega (arith, h))

nothing_before : (name back : List Label) → [] ≡ name ++ back → name ≡ []
nothing_before [] back h = refl
nothing_before (l ∷ name) back h = absurd (cc)

some_level : (o : Option Level) (l : Level) → o ≡ Some l → IsSome o
some_level None l h = absurd (cc)
some_level (Some k) l h = refl

-- ---- what a view meets is there

node_met : (document : Node) (name : List Label) (l : Level) (o : Option Piece) → ((piece : Piece) → o ≡ Some piece → IsPieceAt document name piece) → meets_known l (option_map known_of o) ≡ true → (n : Node) × (node_at document name ≡ Some n)
node_met document name l None h m = absurd (cc)
node_met document name l (Some piece) h m = let is = h piece refl in (is.0, is.1)

-- what a view has of each name is so of a document
abbrev TellsOf : Node → Pieces → Type 0
TellsOf document view = (name : List Label) (piece : Piece) → piece_at view name ≡ Some piece → IsPieceAt document name piece

node_looked : (document : Node) (view : Pieces) (look : Need) → TellsOf document view → meets (view_of view) look ≡ true → (n : Node) × (node_at document look.name ≡ Some n)
node_looked document view look tells met = node_met document look.name look.level (piece_at view look.name) (tells look.name) met

first_local : (n : Node) (o more : Option FullPart) → IsLocalOf n o → IsLocalOf n more → IsLocalOf n (first_full o more)
first_local n None more h k = k
first_local n (Some f) more h k = h

joined_tells : (document : Node) (name : List Label) (o : Option Piece) (piece : Piece) → ((old : Piece) → o ≡ Some old → IsPieceAt document name old) → IsPieceAt document name piece → IsPieceAt document name (joined_pieces o piece)
joined_tells document name None piece each is = is
joined_tells document name (Some old) piece each is =
    let was = each old refl in
    let same : is.0 ≡ was.0 = by is.0 was.0 is.1 was.1 in
    (was.0, was.1, was.2, first_local was.0 old.full piece.full was.3 (subst (λ (n : Node). IsLocalOf n piece.full) same is.3))
  where
    by : (n m : Node) → node_at document name ≡ Some n → node_at document name ≡ Some m → n ≡ m
    by n m here there = let both : Some n ≡ Some m = sym here ∙ there in cc

-- pieces that are so of a document, laid over a view that tells of it
laid_tells : (document : Node) (view : Pieces) (pieces : List Piece) → TellsOf document view → AgreesWith document pieces → TellsOf document (laid_over pieces view)
laid_tells document view [] tells agrees = tells
laid_tells document view (piece ∷ pieces) tells agrees = laid_tells document (with_piece view piece) pieces one (All-tail (λ p. IsPieceAt document p.name p) piece pieces agrees)
  where
    one : TellsOf document (with_piece view piece)
    one name p found = either (is_at (names_cmp name) piece.name) refl (sym (found_with view piece name) ∙ found)
      where
        either : (b : Bool) → is_at (names_cmp name) piece.name ≡ b → cond b (Some (joined_pieces (piece_at view piece.name) piece)) (piece_at view name) ≡ Some p → IsPieceAt document name p
        either true same is =
            let it : joined_pieces (piece_at view piece.name) piece ≡ p = cc in
            subst (λ (q : Piece). IsPieceAt document name q) it
            (subst (λ (n : List Label). IsPieceAt document n (joined_pieces (piece_at view piece.name) piece)) (sym (same_name name piece.name same))
            (joined_tells document piece.name (piece_at view piece.name) piece (tells piece.name) (All-head (λ p. IsPieceAt document p.name p) piece pieces agrees)))
        either false other is = tells name p is

-- ---- looks are held

-- a look has a need at its level or a greater one
record HasLevel (needs : List Need) (look : Need) : Type 0 where
  pub level : Level
  pub at : level_at needs look.name ≡ Some level
  pub reaches : Reaches level look.level

met_level : (query : Syntax) (top : Label) (view : Pieces) (look : Need) → Contains (looks query (from_document top) (view_of view)) look → meets (view_of view) look ≡ true → HasLevel (support_of query (from_document top) view) look
met_level query top view look there met =
    let needs = support_of query (from_document top) view in
    let need = met_covered query (from_document top) (view_of view) look there met in
    record {
      level = need.0.level;
      at = subst (λ (name : List Label). level_at needs name ≡ Some need.0.level) need.2 (level_there needs need.0 (support_ordered query (from_document top) view) need.1);
      reaches = need.3;
    }

-- the name of a look, and that all nodes above it have needs
record IsHeldLook (needs : List Need) (top : Label) (name : List Label) : Type 0 where
  pub below : List Label
  pub is : name ≡ top ∷ below
  pub held : AreHeld needs (top ∷ []) below

look_held : (query : Syntax) (top : Label) (view : Pieces) (most : ℕ) (look : Need) → length look.name ≤ most → Contains (looks query (from_document top) (view_of view)) look → IsHeldLook (support_of query (from_document top) view) top look.name
look_held query top view zero look h there = absurd (looked_some query (from_document top) (view_of view) look there (no_labels look.name h))
look_held query top view (suc most) look h there = by (λ above short i. look_held query top view most above short i) (looked_where query (from_document top) (view_of view) look there)
  where
    by : ((above : Need) → length above.name ≤ most → Contains (looks query (from_document top) (view_of view)) above → IsHeldLook (support_of query (from_document top) view) top above.name)
        → IsAtStart (from_document top) look.name ⊎ IsBelowMet (view_of view) (looks query (from_document top) (view_of view)) look.name → IsHeldLook (support_of query (from_document top) view) top look.name
    by again (inl (inl is)) = record { below = []; is = is; held = tt }
    by again (inl (inr b)) = absurd (b.2 (nothing_before look.name b.0 b.1))
    by again (inr b) =
        let needs = support_of query (from_document top) view in
        let shorter : length b.look.name ≤ most = omega (arith, h, ap length b.is, ap length b.named, length-append b.above (b.label ∷ [])) in
        let above = again b.look shorter b.there in
        let level = met_level query top view b.look b.there b.met in
        record {
          below = above.below ++ b.label ∷ [];
          is = b.is ∙ ap (λ (name : List Label). name ++ b.label ∷ []) (sym b.named ∙ above.is);
          held = one_held above.below needs (top ∷ []) b.label above.held (some_level (level_at needs (top ∷ above.below)) level.level (ap (level_at needs) (sym above.is) ∙ level.at));
        }

-- ---- the part and the view are alike

module _ (query : Syntax) (view : Pieces) (document : Node) (tells : TellsOf document view) (none : missing_of query (from_document (label_of document)) view ≡ []) where
  -- the label of its top node
  abbrev pub top : Label
  top = label_of document

  -- what the evaluation rests on
  abbrev pub needs : List Need
  needs = support_of query (from_document top) view

  -- the part of the document that it rests on
  abbrev pub part : Node
  part = held_part needs (top ∷ []) document

  look_alike : (look : Need) → Contains (looks query (from_document top) (view_of view)) look → IsAlike look.level (view_of view look.name) (all_of part look.name)
  look_alike look there =
      let met = all_met query top view none look there in
      let level = met_level query top view look there met in
      let at = look_held query top view (length look.name) look (omega arith) there in
      let n = node_looked document view look tells met in
      let found : node_at document (top ∷ at.below) ≡ Some n.0 = ap (node_at document) (sym at.is) ∙ n.1 in
      let here : node_at part look.name ≡ Some (held_part needs look.name n.0) =
      ap (node_at part) at.is ∙ node_held needs document at.below n.0 found at.held ∙ ap (λ (name : List Label). Some (held_part needs name n.0)) (sym at.is) in
      alike_both look.level (all_of document look.name) (view_of view look.name) (all_of part look.name)
      (met_alike look.level (view_of view look.name) (all_of document look.name) (told_below document view tells look.name) met)
      (document_alike look.level document part look.name n.0 (held_part needs look.name n.0) n.1 here (ids_held needs look.name n.0 level.level level.at)
      (λ full. local_kept needs look.name n.0 (level.at ∙ ap (λ (l : Level). Some l) (reaches_full level.level (subst (λ (l : Level). Reaches level.level l) full level.reaches)))))

  log_is : (run (view_of view) (placed_program query top)).log ≡ looks query (from_document top) (view_of view)
  log_is = program_alike query top (view_of view)

  same_places : eval part (placed_program query top) ≡ eval document (placed_program query top)
  same_places =
      let r = placed_program query top in
      let met = λ (look : Need) (there : Contains (run (view_of view) r).log look). all_met query top view none look (subst (λ (ls : List Need). Contains ls look) log_is there) in
      let alike = λ (look : Need) (there : Contains (run (view_of view) r).log look). look_alike look (subst (λ (ls : List Need). Contains ls look) log_is there) in
      let whole : (run (view_of view) r).value ≡ Some (eval document r) = (determined document (view_of view) (told_below document view tells) r met).1 in
      let same : run (all_of part) r ≡ run (view_of view) r = same_run (view_of view) (all_of part) r alike in
      let both : Some (eval part r) ≡ Some (eval document r) = sym (evals part r) ∙ ap (λ (o : Out (List Placed)). o.value) same ∙ whole in
      cc

  -- the items that the query selects in the part are those that it selects in the whole
  pub same_answer : IsCity document → items_at part (selected part query) ≡ items_at document (selected document query)
  same_answer city =
      sym (placed_meant part query (held_city needs (top ∷ []) document city))
      ∙ ap (λ (l : Label). answer_of_found (eval part (placed_program query l))) (held_label needs (top ∷ []) document)
      ∙ ap answer_of_found same_places
      ∙ placed_meant document query city

-- ---- the part, built from a view

-- what is selected in a part that a view and its support tell is what is selected in each document that agrees with what the view has for the support
pub answered : (query : Syntax) (view : Pieces) (document : Node) (top : Label) (needs : List Need) (name : List Label) (part : Node) (items : List Item) → IsCity document → AreNamed view → AgreesWith document (pieces_for view (support_of query (from_document top) view)) → label_of document ≡ top
    → missing_of query (from_document top) view ≡ []
    → needs ≡ support_of query (from_document top) view → name ≡ top ∷ [] → ((d n : Node) → IsHeldAt d view needs name n → label_of n ≡ top → part ≡ held_part needs name n) → items ≡ items_at part (selected part query)
    → items ≡ items_at document (selected document query)
answered query view document top needs name part items city named agrees label none needs_are name_is part_is items_are =
    let start = from_document top in
    -- of the view, what the evaluation rests on
    let rest : Pieces = decided query start view [] in
    let none_rest : missing_of query start rest ≡ [] = decided_missing query start [] view named (λ n. tt) ∙ none in
    let tells : TellsOf document rest = laid_tells document [] (pieces_for view (support_of query start view)) (λ n p found. absurd (cc)) agrees in
    let none_here : missing_of query (from_document (label_of document)) rest ≡ [] = ap (λ (l : Label). missing_of query (from_document l) rest) label ∙ none_rest in
    let needs_here : needs ≡ support_of query (from_document (label_of document)) rest = needs_are ∙ sym (decided_support query start [] view named (λ n. tt)) ∙ ap (λ (l : Label). support_of query (from_document l) rest) (sym label) in
    let name_here : name ≡ label_of document ∷ [] = name_is ∙ ap (λ (l : Label). l ∷ []) (sym label) in
    let met = λ (need : Need) (there : Contains needs need). support_meets query start (view_of view) need (subst (λ (ns : List Need). Contains ns need) needs_are there) in
    let held : IsHeldAt document view needs name document = record { is = city.in_order; named = named; agrees = subst (λ (ns : List Need). AgreesWith document (pieces_for view ns)) (sym needs_are) agrees; met = met; there = ap (node_at document) name_here ∙ (top_stands document city.in_order).there } in
    let is : part ≡ held_part (support_of query (from_document (label_of document)) rest) (label_of document ∷ []) document =
    part_is document document held label ∙ ap (λ (ns : List Need). held_part ns name document) needs_here ∙ ap (λ (m : List Label). held_part (support_of query (from_document (label_of document)) rest) m document) name_here in
    items_are ∙ ap (λ (n : Node). items_at n (selected n query)) is ∙ same_answer query rest document tells none_here city
