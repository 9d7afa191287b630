-- One piece more of what is usable: the view is still part of the laid one.
use Rattle.std.proofs.Common.{◌≡◌, Bool, true, false, cond, ℕ, List, Option, Some, None, is_some, option_map, option_and_then, option_to_list, refl, sym, ◌∙◌, ap, subst}
use Rattle.std.specs.BTreeMap.{is_at}
use Rattle.iris_base.specs.declared.name.Label.{Label}
use Rattle.iris_fragment.specs.declared.held.HeldNode.{HeldNode}
use Rattle.iris_fragment.specs.declared.held.Part.{Part}
use Rattle.iris_fragment.specs.declared.held.Part.TheVariants.{Own, Copied, Bare}
use Rattle.iris_fragment.specs.declared.piece.Full.{Full}
use Rattle.iris_fragment.specs.declared.piece.Level.{Level}
use Rattle.iris_fragment.specs.declared.piece.Level.TheVariants as level
use Rattle.iris_fragment.specs.declared.piece.Piece.{Piece}
use Rattle.iris_fragment.specs.Contents.{Contents, held_at}
use Rattle.iris_fragment.specs.Usable.{is_usable, is_usable_in, full_held, ids_piece, full_piece, piece_of, usable_piece}
use Rattle.iris_need.specs.declared.need.Need.{Need}
use Rattle.iris_need.specs.Alike.{Reaches}
use Rattle.iris_need.specs.Decided.{FullBelow}
use Rattle.iris_need.specs.Pieces.{Pieces, piece_at, first_full, joined_pieces, with_piece, known_of, view_of, laid_over}
use Rattle.iris_need.specs.Run.{meets_known}
use Rattle.iris_need.proofs.Laid.{found_with, same_name}
use Rattle.iris_need.proofs.Pieces.{names_cmp}
use Rattle.iris_gather.specs.Laid.{usable_at, joined_with}
use Rattle.iris_gather.specs.Taking.{level_up_to, level_taken, piece_taken, IsWithin, IsBetween}
use Rattle.iris_gather.proofs.LaidAt.{piece_held_named}

-- ---- pieces within one another

full_itself : (o : Option Full) → FullBelow o o
full_itself None = tt
full_itself (Some f) = refl

-- a piece is within itself
pub within_itself : (o : Option Piece) → IsWithin o o
within_itself None = tt
within_itself (Some p) = (refl, refl, full_itself p.full)

full_further : (o p q : Option Full) → FullBelow o p → FullBelow p q → FullBelow o q
full_further None p q h k = tt
full_further (Some f) p q h k = subst (λ (x : Option Full). FullBelow x q) h k

within_further : (o p q : Option Piece) → IsWithin o p → IsWithin p q → IsWithin o q
within_further None p q h k = tt
within_further (Some a) None q h k = absurd h
within_further (Some a) (Some b) None h k = absurd k
within_further (Some a) (Some b) (Some c) h k = (h.0 ∙ k.0, h.1 ∙ k.1, full_further a.full b.full c.full h.2 k.2)

first_grows : (o more : Option Full) → FullBelow o (first_full o more)
first_grows None more = tt
first_grows (Some f) more = refl

joined_grows : (o : Option Piece) (piece : Piece) → IsWithin o (Some (joined_pieces o piece))
joined_grows None piece = tt
joined_grows (Some old) piece = (refl, refl, first_grows old.full piece.full)

-- ---- the piece that is taken, at one name

-- nothing is no piece
no_piece : {X : Type 0} (b : Bool) (x : X) → cond b None None ≡ Some x → ⊥
no_piece true x e = cc
no_piece false x e = cc

-- what is usable in full is there in full
pub full_there : (part : Part) (floor now : ℕ) → is_usable part level.Full floor ≡ true → (full : Full) × (full_held part now ≡ Some full)
full_there (Own local version) floor now h = (record { local = local; version = version; stamp = now }, refl)
full_there (Copied full) floor now h = (full, refl)
full_there Bare floor now h = absurd (cc)

nothing_within : (v : Option Piece) → IsWithin v None → v ≡ None
nothing_within None h = refl
nothing_within (Some p) h = absurd h

-- of a node taken by its ids, where the usable piece has these ids
ids_taken : (name ids : List Label) (v o u : Option Piece) (piece more : Piece) → cond (meets_known level.Ids (option_map known_of o)) None (Some (ids_piece name ids)) ≡ Some piece → IsWithin v o
    → u ≡ Some more → more.name ≡ name → more.ids ≡ ids → IsWithin (Some (joined_pieces o piece)) (joined_with v u)
ids_taken name ids v (Some old) u piece more taken h is named listed = absurd (cc)
ids_taken name ids (Some old) None u piece more taken h is named listed = absurd h
ids_taken name ids None None u piece more taken h is named listed =
    let same : ids_piece name ids ≡ piece = cc in
    subst (λ (p : Piece). IsWithin (Some p) (joined_with None u)) same (subst (λ (q : Option Piece). IsWithin (Some (ids_piece name ids)) (joined_with None q)) (sym is) (sym named, sym listed, tt))

-- the full part of what a view has, where what it grew to has none
no_full : (v o : Option Full) → FullBelow v o → o ≡ None → v ≡ None
no_full None o h e = refl
no_full (Some f) o h e = let bad : None ≡ Some f = sym e ∙ h in absurd (cc)

-- of a node taken in full
full_taken : (v o : Option Piece) (usable piece : Piece) → cond (meets_known level.Full (option_map known_of o)) None (Some usable) ≡ Some piece → IsWithin v o → IsWithin o (Some (joined_pieces v usable))
    → IsWithin (Some (joined_pieces o piece)) (Some (joined_pieces v usable))
full_taken (Some old) None usable piece taken h k = absurd h
full_taken None None usable piece taken h k = let same : usable ≡ piece = cc in subst (λ (p : Piece). IsWithin (Some p) (Some usable)) same (within_itself (Some usable))
full_taken v (Some old) usable piece taken h k = by old.full refl taken
  where
    first : (w : Option Piece) → IsWithin w (Some old) → old.full ≡ None → (joined_pieces w usable).full ≡ usable.full
    first None j e = refl
    first (Some p) j e = ap (λ (x : Option Full). first_full x usable.full) (no_full p.full old.full j.2 e)

    by : (full : Option Full) → old.full ≡ full → cond (is_some (option_map (λ (f : Full). f.local) full)) None (Some usable) ≡ Some piece → IsWithin (Some (joined_pieces (Some old) piece)) (Some (joined_pieces v usable))
    by (Some full) is e = absurd (cc)
    by None is e =
        let same : usable ≡ piece = cc in
        let here : first_full old.full piece.full ≡ (joined_pieces v usable).full = ap (λ (x : Option Full). first_full x piece.full) is ∙ ap (λ (p : Piece). p.full) (sym same) ∙ sym (first v h is) in
        (k.0, k.1, subst (λ (x : Option Full). FullBelow (first_full old.full piece.full) x) here (full_itself (first_full old.full piece.full)))

-- what is taken of a held node
node_taken : (name : List Label) (node : HeldNode) (floor now : ℕ) (l : Level) (v o : Option Piece) (piece : Piece) (b : Bool) → is_usable node.part level.Full floor ≡ b
    → cond (meets_known (level_up_to l b) (option_map known_of o)) None (piece_of name node (level_up_to l b) now) ≡ Some piece
    → IsWithin v o → IsWithin o (joined_with v (option_and_then (λ at. piece_of name node at now) (cond b (Some level.Full) (Some level.Ids))))
    → IsWithin (Some (joined_pieces o piece)) (joined_with v (option_and_then (λ at. piece_of name node at now) (cond b (Some level.Full) (Some level.Ids))))
node_taken name node floor now level.Ids v o piece true usable taken h k =
    let full = full_there node.part floor now usable in
    ids_taken name node.ids v o (option_map (full_piece name node.ids) (full_held node.part now)) piece (full_piece name node.ids full.0) taken h (ap (option_map (full_piece name node.ids)) full.1) refl refl
node_taken name node floor now level.Ids v o piece false usable taken h k = ids_taken name node.ids v o (Some (ids_piece name node.ids)) piece (ids_piece name node.ids) taken h refl refl refl
node_taken name node floor now level.Full v o piece false usable taken h k = ids_taken name node.ids v o (Some (ids_piece name node.ids)) piece (ids_piece name node.ids) taken h refl refl refl
node_taken name node floor now level.Full v o piece true usable taken h k = by (full_held node.part now) (full_there node.part floor now usable).0 (full_there node.part floor now usable).1 taken k
  where
    by : (held : Option Full) (full : Full) → held ≡ Some full → cond (meets_known level.Full (option_map known_of o)) None (option_map (full_piece name node.ids) held) ≡ Some piece
        → IsWithin o (joined_with v (option_map (full_piece name node.ids) held)) → IsWithin (Some (joined_pieces o piece)) (joined_with v (option_map (full_piece name node.ids) held))
    by None full is t j = absurd (cc)
    by (Some held) full is t j = full_taken v o (full_piece name node.ids held) piece t h j

-- what is taken at a name
pub taken_within : (name : List Label) (held : Option HeldNode) (floor now : ℕ) (l : Level) (v o : Option Piece) (piece : Piece)
    → cond (meets_known (level_up_to l (is_usable_in held level.Full floor)) (option_map known_of o)) None (option_and_then (λ node. piece_of name node (level_up_to l (is_usable_in held level.Full floor)) now) held) ≡ Some piece
    → IsWithin v o → IsWithin o (joined_with v (option_and_then (λ node. usable_piece floor now (name, node)) held))
    → IsWithin (Some (joined_pieces o piece)) (joined_with v (option_and_then (λ node. usable_piece floor now (name, node)) held))
taken_within name None floor now l v o piece taken h k = absurd (no_piece (meets_known (level_up_to l false) (option_map known_of o)) piece taken)
taken_within name (Some node) floor now l v o piece taken h k = node_taken name node floor now l v o piece (is_usable node.part level.Full floor) refl taken h k

-- ---- the whole view

-- no piece is taken where the node is there at its level
pub not_met : {X : Type 0} (b : Bool) (o : Option X) (x : X) → cond b None o ≡ Some x → b ≡ false
not_met true o x e = absurd (cc)
not_met false o x e = refl

-- what is taken is what is held at its level
pub taken_held : {X : Type 0} (b : Bool) (o : Option X) (x : X) → cond b None o ≡ Some x → o ≡ Some x
taken_held true o x e = absurd (cc)
taken_held false o x e = e

-- the node of a piece that is taken is held
pub taken_of : (name : List Label) (held : Option HeldNode) (l : Level) (now : ℕ) (piece : Piece) → option_and_then (λ node. piece_of name node l now) held ≡ Some piece → (node : HeldNode) × (held ≡ Some node) × (piece_of name node l now ≡ Some piece)
taken_of name None l now piece e = absurd (cc)
taken_of name (Some node) l now piece e = (node, refl, e)

-- a piece that is taken has the name of its need
pub taken_named : (f : Contents) (floor now : ℕ) (over : Pieces) (need : Need) (piece : Piece) → piece_taken f floor now over need ≡ Some piece → piece.name ≡ need.name
taken_named f floor now over need piece taken =
    let l = level_taken f floor need in
    let held = taken_of need.name (held_at f.nodes need.name) l now piece (taken_held (meets_known l (view_of over need.name)) (option_and_then (λ node. piece_of need.name node l now) (held_at f.nodes need.name)) piece taken) in
    piece_held_named need.name held.0 l now piece held.2

with_grown : (over : Pieces) (piece : Piece) (name : List Label) → IsWithin (piece_at over name) (piece_at (with_piece over piece) name)
with_grown over piece name = subst (λ (o : Option Piece). IsWithin (piece_at over name) o) (sym (found_with over piece name)) (either (is_at (names_cmp name) piece.name) refl)
  where
    either : (b : Bool) → is_at (names_cmp name) piece.name ≡ b → IsWithin (piece_at over name) (cond b (Some (joined_pieces (piece_at over piece.name) piece)) (piece_at over name))
    either true same = subst (λ (n : List Label). IsWithin (piece_at over n) (Some (joined_pieces (piece_at over piece.name) piece))) (sym (same_name name piece.name same)) (joined_grows (piece_at over piece.name) piece)
    either false other = within_itself (piece_at over name)

-- with a piece that is taken the view still lies between
taken_between : (f : Contents) (floor now : ℕ) (view over : Pieces) (need : Need) (piece : Piece) → piece_taken f floor now over need ≡ Some piece → IsBetween f floor now view over → IsBetween f floor now view (with_piece over piece)
taken_between f floor now view over need piece taken between = record {
  has = λ name. within_further (piece_at view name) (piece_at over name) (piece_at (with_piece over piece) name) (between.has name) (with_grown over piece name);
  within = λ name. subst (λ (o : Option Piece). IsWithin o (joined_with (piece_at view name) (usable_at f floor now name))) (sym (found_with over piece name)) (either name (is_at (names_cmp name) piece.name) refl);
}
  where
    at_need : (n : List Label) → n ≡ need.name → IsWithin (Some (joined_pieces (piece_at over n) piece)) (joined_with (piece_at view n) (usable_at f floor now n))
    at_need n same =
        subst (λ (m : List Label). IsWithin (Some (joined_pieces (piece_at over m) piece)) (joined_with (piece_at view m) (usable_at f floor now m))) (sym same)
        (taken_within need.name (held_at f.nodes need.name) floor now need.level (piece_at view need.name) (piece_at over need.name) piece taken (between.has need.name) (between.within need.name))

    either : (name : List Label) (b : Bool) → is_at (names_cmp name) piece.name ≡ b → IsWithin (cond b (Some (joined_pieces (piece_at over piece.name) piece)) (piece_at over name)) (joined_with (piece_at view name) (usable_at f floor now name))
    either name true same =
        subst (λ (m : List Label). IsWithin (Some (joined_pieces (piece_at over piece.name) piece)) (joined_with (piece_at view m) (usable_at f floor now m))) (sym (same_name name piece.name same))
        (at_need piece.name (taken_named f floor now over need piece taken))
    either name false other = between.within name

-- whether or not there is a piece to take
pub added_between : (f : Contents) (floor now : ℕ) (view over : Pieces) (need : Need) → IsBetween f floor now view over → IsBetween f floor now view (laid_over (option_to_list (piece_taken f floor now over need)) over)
added_between f floor now view over need between = by (piece_taken f floor now over need) refl
  where
    by : (u : Option Piece) → piece_taken f floor now over need ≡ u → IsBetween f floor now view (laid_over (option_to_list u) over)
    by None is = between
    by (Some piece) is = taken_between f floor now view over need piece is between

-- a view lies between itself and what it is laid over
pub between_first : (f : Contents) (floor now : ℕ) (view : Pieces) → IsBetween f floor now view view
between_first f floor now view = record {
  has = λ name. within_itself (piece_at view name);
  within = λ name. with_more (piece_at view name) (usable_at f floor now name);
}
  where
    with_more : (o u : Option Piece) → IsWithin o (joined_with o u)
    with_more o None = within_itself o
    with_more o (Some piece) = joined_grows o piece

-- ---- where there is nothing to take

unmet_full : (k : Option Piece) → meets_known level.Full (option_map known_of k) ≡ false → (piece : Piece) → k ≡ Some piece → piece.full ≡ None
unmet_full None h piece e = absurd (cc)
unmet_full (Some old) h piece e = let same : old ≡ piece = cc in ap (λ (p : Piece). p.full) (sym same) ∙ by old.full h
  where
    by : (full : Option Full) → is_some (option_map (λ (f : Full). f.local) full) ≡ false → full ≡ None
    by None e = refl
    by (Some full) e = absurd (cc)

bare_unmet : (full : Option Full) → full ≡ None → is_some (option_map (λ (f : Full). f.local) full) ≡ false
bare_unmet None e = refl
bare_unmet (Some f) e = absurd (cc)

-- a view that grew to one without a full part has none itself
part_unmet : (v o : Option Piece) → IsWithin v o → meets_known level.Full (option_map known_of o) ≡ false → meets_known level.Full (option_map known_of v) ≡ false
part_unmet None o h m = refl
part_unmet (Some p) None h m = absurd h
part_unmet (Some p) (Some q) h m = bare_unmet p.full (no_full p.full q.full h.2 (unmet_full (Some q) m q refl))

-- nor has it with a piece without one
ids_unmet : (v : Option Piece) (name ids : List Label) → meets_known level.Full (option_map known_of v) ≡ false → meets_known level.Full (Some (known_of (joined_pieces v (ids_piece name ids)))) ≡ false
ids_unmet None name ids m = refl
ids_unmet (Some p) name ids m = bare_unmet (first_full p.full None) (ap (λ (x : Option Full). first_full x None) (unmet_full (Some p) m p refl))

unmet_ids : (o : Option Piece) → meets_known level.Ids (option_map known_of o) ≡ false → o ≡ None
unmet_ids None m = refl
unmet_ids (Some p) m = absurd (cc)

-- there is a piece of each held node at the level that is taken
some_piece : (name : List Label) (node : HeldNode) (floor now : ℕ) (l : Level) (b : Bool) → is_usable node.part level.Full floor ≡ b → piece_of name node (level_up_to l b) now ≡ None → ⊥
some_piece name node floor now level.Ids b usable e = cc
some_piece name node floor now level.Full false usable e = cc
some_piece name node floor now level.Full true usable e =
    let full = full_there node.part floor now usable in
    let there : Some (full_piece name node.ids full.0) ≡ None = sym (ap (option_map (full_piece name node.ids)) full.1) ∙ e in
    cc

not_taken : {X : Type 0} (b : Bool) (o : Option X) → b ≡ false → cond b None o ≡ None → o ≡ None
not_taken true o h e = absurd (cc)
not_taken false o h e = e

no_node : (name : List Label) (held : Option HeldNode) (floor now : ℕ) (l : Level) (o : Option Piece) → o ≡ None
    → cond (meets_known (level_up_to l (is_usable_in held level.Full floor)) (option_map known_of o)) None (option_and_then (λ node. piece_of name node (level_up_to l (is_usable_in held level.Full floor)) now) held) ≡ None
    → held ≡ None
no_node name None floor now l o none e = refl
no_node name (Some node) floor now l (Some p) none e = absurd (cc)
no_node name (Some node) floor now l None none e =
    absurd (some_piece name node floor now l (is_usable node.part level.Full floor) refl (not_taken (meets_known (level_up_to l (is_usable node.part level.Full floor)) None) (piece_of name node (level_up_to l (is_usable node.part level.Full floor)) now) (nothing_known (level_up_to l (is_usable node.part level.Full floor))) e))
  where
    nothing_known : (m : Level) → meets_known m None ≡ false
    nothing_known level.Ids = refl
    nothing_known level.Full = refl

full_node : (name : List Label) (node : HeldNode) (floor now : ℕ) (v o : Option Piece) (b : Bool) → is_usable node.part level.Full floor ≡ b → meets_known level.Full (option_map known_of o) ≡ false → IsWithin v o
    → cond (meets_known (level_up_to level.Full b) (option_map known_of o)) None (piece_of name node (level_up_to level.Full b) now) ≡ None
    → meets_known level.Full (option_map known_of (joined_with v (option_and_then (λ at. piece_of name node at now) (cond b (Some level.Full) (Some level.Ids))))) ≡ false
full_node name node floor now v o false usable m h e = ids_unmet v name node.ids (part_unmet v o h m)
full_node name node floor now v o true usable m h e =
    absurd (some_piece name node floor now level.Full true usable (not_taken (meets_known level.Full (option_map known_of o)) (piece_of name node level.Full now) m e))

-- where nothing is taken for a need, the laid view meets no look that the need covers and the view doesn't meet
pub still_unmet : (name : List Label) (held : Option HeldNode) (floor now : ℕ) (l m : Level) (v o : Option Piece) → Reaches l m → meets_known m (option_map known_of o) ≡ false → IsWithin v o
    → cond (meets_known (level_up_to l (is_usable_in held level.Full floor)) (option_map known_of o)) None (option_and_then (λ node. piece_of name node (level_up_to l (is_usable_in held level.Full floor)) now) held) ≡ None
    → meets_known m (option_map known_of (joined_with v (option_and_then (λ node. usable_piece floor now (name, node)) held))) ≡ false
still_unmet name held floor now l level.Ids v o r m h e =
    let nothing = unmet_ids o m in
    let none = no_node name held floor now l o nothing e in
    let bare = nothing_within v (subst (λ (x : Option Piece). IsWithin v x) nothing h) in
    ap (λ (x : Option HeldNode). meets_known level.Ids (option_map known_of (joined_with v (option_and_then (λ node. usable_piece floor now (name, node)) x)))) none
    ∙ ap (λ (x : Option Piece). meets_known level.Ids (option_map known_of x)) bare
still_unmet name None floor now l level.Full v o r m h e = part_unmet v o h m
still_unmet name (Some node) floor now level.Ids level.Full v o r m h e = absurd r
still_unmet name (Some node) floor now level.Full level.Full v o r m h e = full_node name node floor now v o (is_usable node.part level.Full floor) refl m h e
