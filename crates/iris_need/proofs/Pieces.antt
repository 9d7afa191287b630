-- Entries of a map whose keys ascend: what the map's calls make of them.
use Rattle.std.proofs.Common.{◌≡◌, Bool, true, false, List, [], ◌∷◌, ◌++◌, fold, Contains, Option, Some, None, refl, sym, ap, subst, ◌∙◌}
use Rattle.std.specs.declared.cmp.Ordering.{Ordering}
use Rattle.std.specs.declared.cmp.Ordering.TheVariants.{Less, Equal, Greater}
use Rattle.std.specs.Ordering.{ordering_reverse}
use Rattle.std.specs.Cmp.{IsTotalOrder}
use Rattle.std.specs.Cmp.Lexicographic.{slice_cmp}
use Rattle.std.specs.List.{AllByRecursion}
use Rattle.std.specs.List.Sorted.{IsStrictlySortedBy}
use Rattle.std.specs.Map.{lookup, keys_of, set_value}
use Rattle.std.specs.BTreeMap.{is_at, insert_entry}
use Rattle.std.proofs.lemmas.Map.{lookup-none}
use Rattle.std.proofs.lemmas.Map.Entries.{none_below_head}
use Rattle.std.proofs.lemmas.Map.Views.{Contains-from_lookup}
use Rattle.std.proofs.lemmas.List.Elements.{All-from_recursion, recursion_from_All}
use Rattle.iris_base.specs.declared.name.Label.{Label}
use Rattle.iris_base.specs.NameOrder.{label_cmp, names_total}
use Rattle.iris_fragment.specs.declared.piece.Piece.{Piece}
use Rattle.iris_fragment.proofs.Names.{name_exact, equal_from_is_eq}
use Rattle.iris_fragment.specs.declared.piece.Level.{Level}
use Rattle.iris_need.specs.declared.need.Need.{Need}
use Rattle.iris_base.specs.declared.state.State.{State}
use Rattle.iris_need.specs.declared.needs.Asked.{Asked}
use Rattle.iris_need.specs.Pieces.{Pieces, AreNamed, piece_at, pieces_in, piece_cmp, AreOrderedPieces, joined_pieces, with_piece}
use Rattle.iris_need.specs.Needs.{greater, with_state, with_look}
use Rattle.iris_need.specs.Collected.{need_of, needs_of}

-- names in their order
abbrev pub names_cmp : List Label → List Label → Ordering
names_cmp = slice_cmp label_cmp

-- ---- any keys in order

nothing_below : {K X : Type 0} {R : K → K → Ordering} → IsTotalOrder R → (k : K) (e : K × X) (es : List (K × X)) (v : X) → IsStrictlySortedBy R (keys_of (e ∷ es)) → R k e.0 ≡ Less → lookup (is_at (R k)) (e ∷ es) ≡ Some v → ⊥
nothing_below {R = R} o k e es v s less h =
    let none : lookup (is_at (R k)) (e ∷ es) ≡ None = lookup-none (is_at (R k)) (e ∷ es) (none_below_head o k e es s less) in
    cc

found_here : {K X : Type 0} {R : K → K → Ordering} → IsTotalOrder R → (e : K × X) (es : List (K × X)) (k : K) (v w : X) → IsStrictlySortedBy R (keys_of (e ∷ es)) → lookup (is_at (R k)) (e ∷ es) ≡ Some v
    → (lookup (is_at (R k)) es ≡ Some v → insert_entry R es k w ≡ set_value (is_at (R k)) es w) → (c : Ordering) → R k e.0 ≡ c → insert_entry R (e ∷ es) k w ≡ set_value (is_at (R k)) (e ∷ es) w
found_here o e es k v w s h again Less q = absurd (nothing_below o k e es v s q h)
found_here o e es k v w s h again Equal q = rw q refl
found_here {K = K} {X = X} {R = R} o e es k v w s h again Greater q =
    let rest : lookup (is_at (R k)) es ≡ Some v = rw q at h in
    rw q (ap (λ (fs : List (K × X)). e ∷ fs) (again rest))

-- putting a value at a key that is there
pub insert_found : {K X : Type 0} {R : K → K → Ordering} → IsTotalOrder R → (es : List (K × X)) (k : K) (v w : X) → IsStrictlySortedBy R (keys_of es) → lookup (is_at (R k)) es ≡ Some v
    → insert_entry R es k w ≡ set_value (is_at (R k)) es w
unfolding IsStrictlySortedBy
insert_found o [] k v w s h = absurd (cc)
insert_found {R = R} o (e ∷ es) k v w s h = found_here o e es k v w s h (insert_found o es k v w s.1) (R k e.0) refl

in_middle : {K X : Type 0} (P : K → Type 0) (es : List (K × X)) (e : K × X) (rest : List (K × X)) → AllByRecursion P (keys_of (es ++ e ∷ rest)) → P e.0
in_middle P [] e rest h = h.0
in_middle P (f ∷ es) e rest h = in_middle P es e rest h.1

-- putting the greatest key
pub insert_last : {K X : Type 0} {R : K → K → Ordering} → IsTotalOrder R → (es : List (K × X)) (e : K × X) (rest : List (K × X)) → IsStrictlySortedBy R (keys_of (es ++ e ∷ rest))
    → insert_entry R es e.0 e.1 ≡ es ++ e ∷ []
unfolding IsStrictlySortedBy
insert_last o [] e rest s = refl
insert_last {K = K} {X = X} {R = R} o (f ∷ es) e rest s =
    let less : R f.0 e.0 ≡ Less = in_middle (λ k. R f.0 k ≡ Less) es e rest s.0 in
    let greater : R e.0 f.0 ≡ Greater = o.antisymm e.0 f.0 ∙ ap ordering_reverse less in
    rw greater (ap (λ (fs : List (K × X)). f ∷ fs) (insert_last o es e rest s.1))

-- ---- pieces under their names

abbrev IsNamed : List Label × Piece → Type 0
IsNamed e = e.0 ≡ e.1.name

put_named : (e : List Label × Piece) (es : Pieces) (k : List Label) (v : Piece) → AllByRecursion IsNamed (e ∷ es) → k ≡ v.name → AllByRecursion IsNamed (insert_entry names_cmp es k v)
    → (c : Ordering) → names_cmp k e.0 ≡ c → AllByRecursion IsNamed (insert_entry names_cmp (e ∷ es) k v)
put_named e es k v h n again Less q = rw q (n, h)
put_named e es k v h n again Equal q = rw q (sym (name_exact k e.0 q) ∙ n, h.1)
put_named e es k v h n again Greater q = rw q (h.0, again)

named_put : (es : Pieces) (k : List Label) (v : Piece) → AllByRecursion IsNamed es → k ≡ v.name → AllByRecursion IsNamed (insert_entry names_cmp es k v)
named_put [] k v h n = (n, tt)
named_put (e ∷ es) k v h n = put_named e es k v h n (named_put es k v h.1 n) (names_cmp k e.0) refl

-- a piece that is put under its name
pub named_insert : (es : Pieces) (k : List Label) (v : Piece) → AreNamed es → k ≡ v.name → AreNamed (insert_entry names_cmp es k v)
named_insert es k v h n = All-from_recursion IsNamed _ (named_put es k v (recursion_from_All IsNamed es h) n)

name_here : (e : List Label × Piece) (es : Pieces) (name : List Label) (v : Piece) → IsNamed e → piece_at (e ∷ es) name ≡ Some v → (piece_at es name ≡ Some v → v.name ≡ name) → (b : Bool) → is_at (names_cmp name) e.0 ≡ b → v.name ≡ name
name_here e es name v h f again true q =
    let here : Some e.1 ≡ Some v = rw q at f in
    let same : e.1 ≡ v = cc in
    ap (λ (p : Piece). p.name) (sym same) ∙ sym h ∙ sym (name_exact name e.0 (equal_from_is_eq _ q))
name_here e es name v h f again false q = again (rw q at f)

found_name : (es : Pieces) (name : List Label) (v : Piece) → AllByRecursion IsNamed es → piece_at es name ≡ Some v → v.name ≡ name
found_name [] name v h f = absurd (cc)
found_name (e ∷ es) name v h f = name_here e es name v h.0 f (found_name es name v h.1) (is_at (names_cmp name) e.0) refl

-- the piece at a name has that name
pub piece_named : (es : Pieces) (name : List Label) (v : Piece) → AreNamed es → piece_at es name ≡ Some v → v.name ≡ name
piece_named es name v h f = found_name es name v (recursion_from_All IsNamed es h) f

-- a piece that is found is there
pub found_there : (es : Pieces) (name : List Label) (v : Piece) → piece_at es name ≡ Some v → Contains es (name, v)
found_there es name v f = Contains-from_lookup {eq = λ q. is_at (names_cmp q)} (λ x y same. name_exact x y (equal_from_is_eq _ same)) name v es f

-- a piece at a name that has one
pub with_piece_found : (es new : Pieces) (piece old : Piece) → IsStrictlySortedBy names_cmp (keys_of es) → piece_at es piece.name ≡ Some old
    → new ≡ set_value (is_at (names_cmp piece.name)) es (joined_pieces (Some old) piece) → new ≡ with_piece es piece
with_piece_found es new piece old s f n =
    n ∙ sym (insert_found names_total es piece.name old (joined_pieces (Some old) piece) s f)
    ∙ ap (λ (o : Option Piece). insert_entry names_cmp es piece.name (joined_pieces o piece)) (sym f)

-- a piece at a name that has none
pub with_piece_absent : (es : Pieces) (piece : Piece) → piece_at es piece.name ≡ None → insert_entry names_cmp es piece.name piece ≡ with_piece es piece
with_piece_absent es piece f = ap (λ (o : Option Piece). insert_entry names_cmp es piece.name (joined_pieces o piece)) (sym f)

joined_name : (o : Option Piece) (piece : Piece) → ((v : Piece) → o ≡ Some v → v.name ≡ piece.name) → piece.name ≡ (joined_pieces o piece).name
joined_name None piece h = refl
joined_name (Some v) piece h = sym (h v refl)

-- with one piece more each still stands under its name
pub with_piece_named : (es : Pieces) (piece : Piece) → AreNamed es → AreNamed (with_piece es piece)
with_piece_named es piece h =
    named_insert es piece.name (joined_pieces (piece_at es piece.name) piece) h (joined_name (piece_at es piece.name) piece (λ v f. piece_named es piece.name v h f))

first_piece : (e : List Label × Piece) (es : Pieces) → IsNamed e → AllByRecursion IsNamed es → AllByRecursion (λ k. names_cmp e.0 k ≡ Less) (keys_of es) → AllByRecursion (λ p. piece_cmp e.1 p ≡ Less) (pieces_in es)
first_piece e [] n h s = tt
first_piece e (f ∷ es) n h s = (rw (← n, ← h.0) s.0, first_piece e es n h.1 s.1)

pieces_rise : (es : Pieces) → AllByRecursion IsNamed es → IsStrictlySortedBy names_cmp (keys_of es) → AreOrderedPieces (pieces_in es)
unfolding IsStrictlySortedBy
pieces_rise [] h s = tt
pieces_rise (e ∷ es) h s = (first_piece e es h.0 h.1 s.0, pieces_rise es h.1 s.1)

-- the pieces stand in the order of their names
pub pieces_ordered : (es : Pieces) → AreNamed es → IsStrictlySortedBy names_cmp (keys_of es) → AreOrderedPieces (pieces_in es)
pieces_ordered es h s = pieces_rise es (recursion_from_All IsNamed es h) s

-- a copy of the pieces, one by one
pub copied_more : (all so_far left rest new copy : Pieces) (name n : List Label) (piece p : Piece) → IsStrictlySortedBy names_cmp (keys_of all) → all ≡ so_far ++ left → left ≡ (name, piece) ∷ rest → copy ≡ so_far
    → new ≡ insert_entry names_cmp copy n p → n ≡ name → p ≡ piece → new ≡ so_far ++ (name, piece) ∷ []
copied_more all so_far left rest new copy name n piece p s a l c i en ep =
    let whole : all ≡ so_far ++ (name, piece) ∷ rest = a ∙ ap (λ (es : Pieces). so_far ++ es) l in
    let sorted : IsStrictlySortedBy names_cmp (keys_of (so_far ++ (name, piece) ∷ rest)) = subst (λ (es : Pieces). IsStrictlySortedBy names_cmp (keys_of es)) whole s in
    i ∙ ap (λ (es : Pieces). insert_entry names_cmp es n p) c ∙ ap (λ (m : List Label). insert_entry names_cmp so_far m p) en ∙ ap (λ (q : Piece). insert_entry names_cmp so_far name q) ep
    ∙ insert_last names_total so_far (name, piece) rest sorted

-- ---- needs

-- the entries of the map of needs
abbrev pub Entries : Type 0
Entries = List (List Label × Asked)

absent_here : (e : List Label × Asked) (es : Entries) (k : List Label) (v : Asked) → lookup (is_at (names_cmp k)) (e ∷ es) ≡ None → (lookup (is_at (names_cmp k)) es ≡ None → needs_of (insert_entry names_cmp es k v) ≡ with_look (needs_of es) (need_of (k, v)))
    → (c : Ordering) → names_cmp k e.0 ≡ c → needs_of (insert_entry names_cmp (e ∷ es) k v) ≡ with_look (needs_of (e ∷ es)) (need_of (k, v))
absent_here e es k v f again Less q = rw q refl
absent_here e es k v f again Equal q =
    let bad : Some e.1 ≡ None = rw q at f in
    absurd (cc)
absent_here e es k v f again Greater q = rw q (ap (λ (needs : List Need). need_of e ∷ needs) (again (rw q at f)))

-- a look at a name that has none yet
absent_look : (es : Entries) (k : List Label) (v : Asked) → lookup (is_at (names_cmp k)) es ≡ None → needs_of (insert_entry names_cmp es k v) ≡ with_look (needs_of es) (need_of (k, v))
absent_look [] k v f = refl
absent_look (e ∷ es) k v f = absent_here e es k v f (absent_look es k v) (names_cmp k e.0) refl

-- a look at a name that has none yet, whatever form it has
pub look_absent : (es : Entries) (k : List Label) (v : Asked) (look : Need) → lookup (is_at (names_cmp k)) es ≡ None → need_of (k, v) ≡ look → needs_of (insert_entry names_cmp es k v) ≡ with_look (needs_of es) look
look_absent es k v look f n = absent_look es k v f ∙ ap (λ (need : Need). with_look (needs_of es) need) n

found_look_here : (e : List Label × Asked) (es : Entries) (k : List Label) (old w : Asked) (level : Level) (states : List State) → IsStrictlySortedBy names_cmp (keys_of (e ∷ es)) → lookup (is_at (names_cmp k)) (e ∷ es) ≡ Some old
    → w.level ≡ greater old.level level → w.states.items ≡ fold with_state old.states.items states
    → (lookup (is_at (names_cmp k)) es ≡ Some old → needs_of (set_value (is_at (names_cmp k)) es w) ≡ with_look (needs_of es) (record { name = k; level = level; states = states }))
    → (c : Ordering) → names_cmp k e.0 ≡ c → needs_of (set_value (is_at (names_cmp k)) (e ∷ es) w) ≡ with_look (needs_of (e ∷ es)) (record { name = k; level = level; states = states })
found_look_here e es k old w level states s f l t again Less q = absurd (nothing_below names_total k e es old s q f)
found_look_here e es k old w level states s f l t again Equal q =
    let here : Some e.1 ≡ Some old = rw q at f in
    let same : old ≡ e.1 = cc in
    let level_is : w.level ≡ greater e.1.level level = l ∙ ap (λ (a : Asked). greater a.level level) same in
    let states_are : w.states.items ≡ fold with_state e.1.states.items states = t ∙ ap (λ (a : Asked). fold with_state a.states.items states) same in
    rw (q, level_is, states_are) refl
found_look_here e es k old w level states s f l t again Greater q = rw q (ap (λ (needs : List Need). need_of e ∷ needs) (again (rw q at f)))

-- a look at a name that has one
pub look_found : (es : Entries) (k : List Label) (old w : Asked) (level : Level) (states : List State) → IsStrictlySortedBy names_cmp (keys_of es) → lookup (is_at (names_cmp k)) es ≡ Some old
    → w.level ≡ greater old.level level → w.states.items ≡ fold with_state old.states.items states
    → needs_of (set_value (is_at (names_cmp k)) es w) ≡ with_look (needs_of es) (record { name = k; level = level; states = states })
unfolding IsStrictlySortedBy
look_found [] k old w level states s f l t = absurd (cc)
look_found (e ∷ es) k old w level states s f l t = found_look_here e es k old w level states s f l t (λ g. look_found es k old w level states s.1 g l t) (names_cmp k e.0) refl
