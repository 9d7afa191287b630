-- Pieces of a fragment of copies: the usable ones are fresh copies, and one of an owned node has the newest value.
use Rattle.std.proofs.Common.{◌≡◌, ℕ, ◌≤◌, Bool, true, false, if◌then◌else◌, List, [], ◌∷◌, All, Contains, Option, Some, None, IsSome, IfSome, option_and_then, refl, subst, leb, leb-true}
use Rattle.std.specs.List.{cons_option, filter_map}
use Rattle.std.specs.Ordering.{eq_by_cmp}
use Rattle.std.specs.Cmp.{eq_by_cmp_equiv}
use Rattle.std.specs.Cmp.Lexicographic.{slice_cmp}
use Rattle.std.proofs.lemmas.List.Elements.{All-nil, All-cons, All-weaker}
use Rattle.std.proofs.lemmas.Map.Views.{lookup-from_Contains}
use Rattle.std.proofs.lemmas.Map.Keys.{IsDistinct-from_sorted}
use Rattle.iris_base.specs.declared.name.Label.{Label}
use Rattle.iris_base.specs.NameOrder.{label_cmp, names_total}
use Rattle.iris_fragment.specs.declared.held.HeldNode.{HeldNode}
use Rattle.iris_fragment.specs.declared.held.Part.{Part}
use Rattle.iris_fragment.specs.declared.held.Part.TheVariants.{Own, Copied, Bare}
use Rattle.iris_fragment.specs.declared.piece.Level.TheVariants as level
use Rattle.iris_fragment.specs.declared.piece.Level.{Level}
use Rattle.iris_fragment.specs.Changes.{version_at, part_in, own_version}
use Rattle.iris_fragment.specs.declared.piece.Piece.{Piece}
use Rattle.iris_fragment.specs.Contents.{Nodes, Contents, held_at}
use Rattle.iris_fragment.specs.Shape.{HaveRisingNames, ids_at}
use Rattle.iris_fragment.specs.Usable.{piece_of, held_piece, usable_piece, usable_pieces}
use Rattle.iris_need.proofs.Run.{contains_first, contains_later}
use Rattle.iris_book.specs.Book.{History}
use Rattle.iris_copies.specs.Copies.{IsPresent, IsCopy, IsFresh, AreCopies, AreFresh, IsNewest, IsPartAt, HoldsCopies}
use Rattle.iris_copies.proofs.Times.{newest_held}

-- what is so of each value that a map gives
pub each_of : {X Y : Type 0} (P : Y → Type 0) (g : X → Option Y) (xs : List X) → ((x : X) → Contains xs x → IfSome (g x) P) → All P (filter_map g xs)
each_of P g [] f = All-nil P
each_of {Y = Y} P g (x ∷ xs) f = one (g x) (f x (contains_first x xs)) (each_of P g xs (λ y i. f y (contains_later x xs y i)))
  where
    one : (o : Option Y) → IfSome o P → All P (filter_map g xs) → All P (cons_option o (filter_map g xs))
    one None h rest = rest
    one (Some z) h rest = All-cons P z (filter_map g xs) h rest

-- a node that stands among ordered ones is held
pub is_held_there : (nodes : Nodes) (e : List Label × HeldNode) → HaveRisingNames nodes → Contains nodes e → held_at nodes e.0 ≡ Some e.1
is_held_there nodes e ordered there = lookup-from_Contains {eq = eq_by_cmp (slice_cmp label_cmp)} (eq_by_cmp_equiv names_total) e.0 e.1 nodes (IsDistinct-from_sorted _ _ ordered) there

abbrev IsGood : History → ℕ → ℕ → Piece → Type 0
IsGood h now floor piece = IsCopy h now piece × IsFresh floor piece

one_piece : (h : History) (now floor : ℕ) (name ids : List Label) (part : Part) → floor ≤ now → IsPresent h now → ids_at h.start name ≡ Some ids → IsPartAt h now name part
    → IfSome (usable_piece floor now (name, record { ids = ids; part = part })) (IsGood h now floor)
one_piece h now floor name ids (Own local version) before is right was = (record { ids = right; full = newest_held h now name local version is was }, before)
one_piece h now floor name ids Bare before is right was = (record { ids = right; full = tt }, tt)
one_piece h now floor name ids (Copied full) before is right was = either (leb floor full.stamp) refl
  where
    either : (b : Bool) → leb floor full.stamp ≡ b
        → IfSome (option_and_then (λ l. piece_of name (record { ids = ids; part = Copied full }) l now) (if b then Some level.Full else Some level.Ids)) (IsGood h now floor)
    either true at = (record { ids = right; full = was }, leb-true floor full.stamp at)
    either false at = (record { ids = right; full = tt }, tt)

usable_good : (h : History) (now floor : ℕ) (f : Contents) → floor ≤ now → IsPresent h now → HoldsCopies h now f → All (IsGood h now floor) (usable_pieces f floor now)
usable_good h now floor f before is holds = each_of (IsGood h now floor) (usable_piece floor now) f.nodes (λ e there.
    let held = is_held_there f.nodes e holds.ordered there in
    one_piece h now floor e.0 e.1.ids e.1.part before is (holds.city.ids e.0 e.1 held) (holds.parts e.0 e.1 held))

pub usable_copies : (h : History) (now floor : ℕ) (f : Contents) → floor ≤ now → IsPresent h now → HoldsCopies h now f → AreCopies h now (usable_pieces f floor now)
usable_copies h now floor f before is holds = All-weaker (IsGood h now floor) (IsCopy h now) (λ piece good. good.0) _ (usable_good h now floor f before is holds)

pub usable_fresh : (h : History) (now floor : ℕ) (f : Contents) → floor ≤ now → IsPresent h now → HoldsCopies h now f → AreFresh floor (usable_pieces f floor now)
usable_fresh h now floor f before is holds = All-weaker (IsGood h now floor) (IsFresh floor) (λ piece good. good.1) _ (usable_good h now floor f before is holds)

-- ---- the piece of one node

-- a piece of a held node at a level is a copy
pub held_copy : (h : History) (now : ℕ) (f : Contents) (name : List Label) (l : Level) (piece : Piece) → IsPresent h now → HoldsCopies h now f → held_piece f name l now ≡ Some piece → IsCopy h now piece
held_copy h now f name l piece is holds found = node (held_at f.nodes name) refl found
  where
    one : (ids : List Label) (part : Part) (m : Level) → ids_at h.start name ≡ Some ids → IsPartAt h now name part → piece_of name (record { ids = ids; part = part }) m now ≡ Some piece → IsCopy h now piece
    one ids part level.Ids right was e =
        let same : record { name = name; ids = ids; full = None } ≡ piece = cc in
        subst (IsCopy h now) same record { ids = right; full = tt }
    one ids (Own local version) level.Full right was e =
        let same : record { name = name; ids = ids; full = Some (record { local = local; version = version; stamp = now }) } ≡ piece = cc in
        subst (IsCopy h now) same record { ids = right; full = newest_held h now name local version is was }
    one ids (Copied full) level.Full right was e =
        let same : record { name = name; ids = ids; full = Some full } ≡ piece = cc in
        subst (IsCopy h now) same record { ids = right; full = was }
    one ids Bare level.Full right was e = absurd (cc)

    node : (o : Option HeldNode) → held_at f.nodes name ≡ o → option_and_then (λ (v : HeldNode). piece_of name v l now) o ≡ Some piece → IsCopy h now piece
    node None at e = absurd (cc)
    node (Some v) at e = one v.ids v.part l (holds.city.ids name v at) (holds.parts name v at) e

-- The piece of an owned node has the newest value, and is stamped with the moment.
pub record IsOwnPiece (h : History) (now : ℕ) (piece : Piece) : Type 0 where
  pub stamped : IfSome piece.full (λ full. full.stamp ≡ now)
  pub newest_is : IfSome piece.full (λ full. IsNewest h piece.name full.local full.version)

pub own_piece : (h : History) (now : ℕ) (f : Contents) (name : List Label) (l : Level) (piece : Piece) → HoldsCopies h now f → IsSome (version_at f name) → held_piece f name l now ≡ Some piece → IsOwnPiece h now piece
own_piece h now f name l piece holds own found = node (held_at f.nodes name) refl own found
  where
    one : (ids : List Label) (part : Part) (m : Level) → IsPartAt h now name part → IsSome (own_version part) → piece_of name (record { ids = ids; part = part }) m now ≡ Some piece → IsOwnPiece h now piece
    one ids part level.Ids was some e =
        let same : record { name = name; ids = ids; full = None } ≡ piece = cc in
        subst (IsOwnPiece h now) same record { stamped = tt; newest_is = tt }
    one ids (Own local version) level.Full was some e =
        let same : record { name = name; ids = ids; full = Some (record { local = local; version = version; stamp = now }) } ≡ piece = cc in
        subst (IsOwnPiece h now) same record { stamped = refl; newest_is = was }
    one ids (Copied full) level.Full was some e = absurd (cc)
    one ids Bare level.Full was some e = absurd (cc)

    node : (o : Option HeldNode) → held_at f.nodes name ≡ o → IsSome (own_version (part_in o)) → option_and_then (λ (v : HeldNode). piece_of name v l now) o ≡ Some piece → IsOwnPiece h now piece
    node None at some e = absurd (cc)
    node (Some v) at some e = one v.ids v.part l (holds.parts name v at) some e
