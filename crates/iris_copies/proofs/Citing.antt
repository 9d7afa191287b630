-- The document of cites, where the cites are those of a view.
use Rattle.std.proofs.Common.{◌≡◌, ℕ, Bool, true, false, cond, if◌then◌else◌, List, [], ◌∷◌, map, filter, All, Contains, Option, Some, None, IfSome, option_map, option_and_then, refl, sym, ◌∙◌, ap, subst, arith, ◌⊎◌, inl, inr}
use Rattle.std.specs.List.{cons_option, find}
use Rattle.std.specs.Option.{option_map_or}
use Rattle.std.specs.Cmp.Lexicographic.{pointwise}
use Rattle.std.proofs.lemmas.List.Elements.{All-head, All-tail}
use Rattle.iris_base.specs.NameOrder.{label_eq, names_equiv}
use Rattle.iris_base.specs.declared.cite.Cite.{Cite}
use Rattle.iris_base.specs.declared.name.Label.{Label}
use Rattle.iris_tree.specs.Document.{local_at}
use Rattle.iris_tree.specs.Universe.{Node, label_of, local_of, ids_of, node_at}
use Rattle.iris_tree.specs.declared.local.Local.{Local}
use Rattle.iris_fragment.specs.Shape.{ids_at}
use Rattle.iris_fragment.specs.declared.piece.Full.{Full}
use Rattle.iris_fragment.specs.declared.piece.Level.TheVariants as level
use Rattle.iris_fragment.specs.declared.piece.Level.{Level}
use Rattle.iris_fragment.specs.declared.piece.Piece.{Piece}
use Rattle.iris_fragment.proofs.Names.{alike_exact}
use Rattle.iris_book.specs.Book.{History, update_count, value_at, updates_in, updates_at, left_by, today}
use Rattle.iris_need.specs.Decided.{at_level, pieces_for, full_part_at}
use Rattle.iris_need.specs.Documents.{IsDocument}
use Rattle.iris_need.specs.Needs.{is_full_level, is_full, full_part}
use Rattle.iris_need.specs.Pieces.{Pieces, piece_at, IsLocalOf, IsPieceAt}
use Rattle.iris_need.specs.declared.need.Need.{Need}
use Rattle.iris_need.proofs.Pieces.{piece_named}
use Rattle.iris_need.proofs.Run.{contains_first, contains_later, first_or_later}
use Rattle.iris_gather.specs.Basis.{cite_of, cites_in}
use Rattle.iris_copies.specs.Allowed.{AreNewest}
use Rattle.iris_copies.specs.Cited.{cited_version, version_by, document_of_cites}
use Rattle.iris_copies.specs.Copies.{IsPresent, WasHeld, IsCopy}
use Rattle.iris_copies.specs.Views.{IsView}
use Rattle.iris_copies.proofs.Added.{found_is}
use Rattle.iris_copies.proofs.FragmentPieces.{each_of}
use Rattle.iris_copies.proofs.Locals.{local_then, ids_then, label_kept, document_kept, locals_there}
use Rattle.iris_copies.proofs.Times.{value_newest}

-- ---- the document of cites

pub cited_label : (h : History) (cites : List Cite) → label_of (document_of_cites h cites) ≡ label_of h.start
cited_label h cites = label_kept h.start _

pub cited_document : (h : History) (cites : List Cite) → IsDocument h.start → IsDocument (document_of_cites h cites)
cited_document h cites is = document_kept h.start _ is

node_of_ids : (city : Node) (name ids : List Label) → ids_at city name ≡ Some ids → (n : Node) × (node_at city name ≡ Some n) × (ids ≡ ids_of n)
node_of_ids city name ids h = by (node_at city name) refl h
  where
    by : (o : Option Node) → node_at city name ≡ o → option_map ids_of o ≡ Some ids → (n : Node) × (node_at city name ≡ Some n) × (ids ≡ ids_of n)
    by None at h = absurd (cc)
    by (Some n) at h = (n, at, (cc))

-- a node of the city has there the value that is cited
local_cited : (h : History) (cites : List Cite) (name : List Label) (version : ℕ) (local old : Local) → local_at h.start name ≡ Some old → cited_version cites name ≡ Some version → value_at h name version ≡ Some local
    → local_at (document_of_cites h cites) name ≡ Some local
local_cited h cites name version local old there cited value =
    local_then h.start _ name
    ∙ ap (λ (o : Option Local). option_map (λ (l : Local). option_map_or (λ m. m) (value_at h name (version_by h cites name)) l) o) there
    ∙ ap (λ (o : Option ℕ). Some (option_map_or (λ m. m) (value_at h name (option_map_or (λ v. v) o (update_count h name))) old)) cited
    ∙ ap (λ (o : Option Local). Some (option_map_or (λ m. m) o old)) value

-- what a copy tells of a node is so of the document, where its version is cited
told : (h : History) (now : ℕ) (cites : List Cite) (piece : Piece) → IsCopy h now piece → IfSome piece.full (λ full. cited_version cites piece.name ≡ Some full.version) → IsPieceAt (document_of_cites h cites) piece.name piece
told h now cites piece copy cited =
    let was = node_of_ids h.start piece.name piece.ids copy.ids in
    let here = node_of_ids (document_of_cites h cites) piece.name piece.ids (ids_then h.start _ piece.name ∙ copy.ids) in
    (here.0, here.1, here.2, by here.0 here.1 (local_of was.0) (ap (λ (o : Option Node). option_map local_of o) was.1) piece.full copy.full cited)
  where
    by : (n : Node) → node_at (document_of_cites h cites) piece.name ≡ Some n → (old : Local) → local_at h.start piece.name ≡ Some old → (o : Option Full) → IfSome o (WasHeld h now piece.name)
        → IfSome o (λ full. cited_version cites piece.name ≡ Some full.version) → IsLocalOf n o
    by n at old there None was is = tt
    by n at old there (Some full) was is =
        let one : local_at (document_of_cites h cites) piece.name ≡ Some full.local = local_cited h cites piece.name full.version full.local old there is was.value in
        let two : Some (local_of n) ≡ Some full.local = sym (ap (λ (o : Option Node). option_map local_of o) at) ∙ one in
        cc

-- ---- cites of a view

-- what is cited of a node that a view has in full is its version there
cited_is : (view : Pieces) (names : List (List Label)) (name : List Label) (full : Full) → full_part_at view name ≡ Some full → Contains names name → cited_version (cites_in view names) name ≡ Some full.version
cited_is view [] name full at there = absurd (omega (arith, there.1))
cited_is view (n ∷ names) name full at there = by (full_part_at view n) refl (pointwise label_eq n name) refl (first_or_later n names name there) (cited_is view names name full at)
  where
    by : (o : Option Full) → full_part_at view n ≡ o → (b : Bool) → pointwise label_eq n name ≡ b → (n ≡ name) ⊎ Contains names name → (Contains names name → cited_version (cites_in view names) name ≡ Some full.version)
        → cited_version (cons_option (option_map (cite_of n) o) (cites_in view names)) name ≡ Some full.version
    by None found b same (inl is) rest =
        let bad : None ≡ Some full = sym found ∙ ap (full_part_at view) is ∙ at in
        absurd (cc)
    by None found b same (inr later) rest = rest later
    by (Some f) found true same where_is rest =
        let one : Some f ≡ Some full = sym found ∙ ap (full_part_at view) (alike_exact n name same) ∙ at in
        let version : f.version ≡ full.version = (let e : f ≡ full = cc in ap (λ (x : Full). x.version) e) in
        ap (λ (b : Bool). option_map (λ (c : Cite). c.version) (if b then Some (cite_of n f) else find (λ c. pointwise label_eq c.name name) (cites_in view names))) same ∙ ap (λ v. Some v) version
    by (Some f) found false same (inl is) rest =
        let bad : false ≡ true = sym same ∙ ap (λ (m : List Label). pointwise label_eq n m) (sym is) ∙ names_equiv.refl n in
        absurd (cc)
    by (Some f) found false same (inr later) rest =
        ap (λ (b : Bool). option_map (λ (c : Cite). c.version) (if b then Some (cite_of n f) else find (λ c. pointwise label_eq c.name name) (cites_in view names))) same ∙ rest later

-- a need of level Full is in the full part
full_there : (needs : List Need) (need : Need) → Contains needs need → need.level ≡ level.Full → Contains (full_part needs) need.name
full_there [] need there full = absurd (omega (arith, there.1))
full_there (first ∷ needs) need there full = by first.level refl (first_or_later first needs need there) (λ later. full_there needs need later full)
  where
    by : (l : Level) → first.level ≡ l → (first ≡ need) ⊎ Contains needs need → (Contains needs need → Contains (full_part needs) need.name)
        → Contains (map (λ (n : Need). n.name) (cond (is_full_level l) (first ∷ filter is_full needs) (filter is_full needs))) need.name
    by level.Full at (inl same) rest = subst (λ (n : Need). Contains (first.name ∷ full_part needs) n.name) same (contains_first first.name (full_part needs))
    by level.Full at (inr later) rest = contains_later first.name (full_part needs) need.name (rest later)
    by level.Ids at (inr later) rest = rest later
    by level.Ids at (inl same) rest =
        let bad : level.Ids ≡ level.Full = sym at ∙ ap (λ (n : Need). n.level) same ∙ full in
        absurd (cc)

-- the pieces of needs tell what is so of the document of their cites
pub pieces_told : (h : History) (now floor : ℕ) (view : Pieces) (needs : List Need) → IsView h now floor view → All (λ piece. IsPieceAt (document_of_cites h (cites_in view (full_part needs))) piece.name piece) (pieces_for view needs)
pieces_told h now floor view needs is = each_of (λ piece. IsPieceAt document piece.name piece) (λ need. option_map (at_level need.level) (piece_at view need.name)) needs (λ need there. by need.level need.name (piece_at view need.name) refl (full_there needs need there))
  where
    cites : List Cite
    cites = cites_in view (full_part needs)

    document : Node
    document = document_of_cites h cites

    full : (name : List Label) (o : Option Full) → full_part_at view name ≡ o → Contains (full_part needs) name → IfSome o (λ f. cited_version cites name ≡ Some f.version)
    full name None at there = tt
    full name (Some f) at there = cited_is view (full_part needs) name f at there

    by : (l : Level) (name : List Label) (o : Option Piece) → piece_at view name ≡ o → (l ≡ level.Full → Contains (full_part needs) name) → IfSome (option_map (at_level l) o) (λ piece. IsPieceAt document piece.name piece)
    by l name None found there = tt
    by level.Ids name (Some piece) found there = told h now cites (at_level level.Ids piece) (record { ids = (found_is (IsCopy h now) view name piece is.copies found).ids; full = tt }) tt
    by level.Full name (Some piece) found there =
        let same : name ≡ piece.name = sym (piece_named view name piece is.named found) in
        told h now cites piece (found_is (IsCopy h now) view name piece is.copies found)
        (subst (λ (n : List Label). IfSome piece.full (λ f. cited_version cites n ≡ Some f.version)) same
        (full name piece.full (ap (λ (o : Option Piece). option_and_then (λ (p : Piece). p.full) o) found) (there refl)))

-- ---- today

newest_found : (h : History) (cites : List Cite) (name : List Label) → AreNewest h cites → version_by h cites name ≡ update_count h name
newest_found h [] name all = refl
newest_found h (c ∷ cites) name all = by (pointwise label_eq c.name name) refl (newest_found h cites name (All-tail (λ x. x.version ≡ update_count h x.name) c cites all))
  where
    by : (b : Bool) → pointwise label_eq c.name name ≡ b → version_by h cites name ≡ update_count h name
        → option_map_or (λ version. version) (option_map (λ (x : Cite). x.version) (if b then Some c else find (λ (x : Cite). pointwise label_eq x.name name) cites)) (update_count h name) ≡ update_count h name
    by true same rest = All-head (λ x. x.version ≡ update_count h x.name) c cites all ∙ ap (update_count h) (alike_exact c.name name same)
    by false other rest = rest

-- where each cited version is the newest, the document of the cites is today's
pub newest_today : (h : History) (now : ℕ) (cites : List Cite) → IsPresent h now → AreNewest h cites → document_of_cites h cites ≡ today h
newest_today h now cites is all = locals_there h.start _ _ is.start.0 each
  where
    each : (name : List Label) (old : Local) → local_at h.start name ≡ Some old
        → option_map_or (λ local. local) (value_at h name (version_by h cites name)) old ≡ left_by old (updates_at h name)
    each name old there =
        ap (λ version. option_map_or (λ local. local) (value_at h name version) old) (newest_found h cites name all)
        ∙ ap (λ (value : Option Local). option_map_or (λ local. local) value old) (value_newest h.start (updates_in h.entries) name old is.sound there)
