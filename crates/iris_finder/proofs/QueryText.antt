-- The text of the finder's query is a query.
use Rattle.std.proofs.Common.{◌≡◌, ℕ, suc, ◌<◌, ◌≤◌, Bool, true, false, ◌==◌, ◌&&◌, ◌||◌, if◌then◌else◌, List, [], ◌∷◌, ◌++◌, length, get_or, codes, refl, sym, ap, ◌∙◌, subst, arith, append_assoc, append-nil, length-append, Option, None}
use Rattle.std.specs.Prelude.{nat_le, nat_lt, Some}
use Rattle.std.proofs.lemmas.Bool.{eqb-true}
use Rattle.iris_base.specs.declared.name.Label.{Label}
use Rattle.iris_base.specs.declared.letters.Letters.TheVariants.{Lower, Word}
use Rattle.iris_base.specs.Forms.{IsKind, IsId}
use Rattle.iris_base.specs.Letters.{allows, has as has_byte}
use Rattle.iris_xpath.specs.declared.expression.NameTest.{NameTest}
use Rattle.iris_xpath.specs.declared.expression.NameTest.TheVariants.{Kind}
use Rattle.iris_xpath.specs.Bytes.{is_letter, is_word_byte}
use Rattle.iris_xpath.specs.Grammar.{Row, none, more, slash, equal, literal, Tested, word, predicate, tested, no_fore, attribute, path, attr, road, const, alone, compared, one, Ors, one_and, Main, lead, step, row, main_text}
use Rattle.iris_xpath.specs.Spells.{Each, HasNo, GoodTested, GoodOrs, GoodMain, main_tree}
use Rattle.iris_xpath.specs.Parens.{parens_of}
use Rattle.iris_xpath.specs.declared.tally.Tally.{Tally}
use Rattle.iris_xpath.specs.declared.expression.Expression.TheFolds.{fold-roll-Expression}
use Rattle.iris_xpath.specs.declared.expression.Expression.TheOpen.{Expression-F}
use Rattle.iris_xpath.specs.declared.expression.Part.TheVariants as parts
use Rattle.iris_xpath.specs.ThinQuery.{equality_layer}
use Rattle.iris_xpath.specs.Tally.{limit_of, limit_behind, excess, main_tally, tally_of, tally_step, path_of, joined, nothing}
use Rattle.iris_xpath.specs.declared.error.QueryLimit.{QueryLimit}
use Rattle.iris_xpath.specs.declared.error.QueryLimit.TheVariants as which
use Rattle.iris_base.specs.declared.limits.TheConstants.{MAX_NESTING}
use Rattle.iris_xpath.specs.Trees.{has, named}
use Rattle.iris_xpath.specs.Told.{Found}
use Rattle.iris_xpath.specs.Syntax.{Syntax}
use Rattle.iris_finder.specs.Question.{HasKinds, query_text, query_steps, kind_step, has_value, has_free_space}

-- ---- words as they are written

row_from : Row → List ℕ → Row
row_from r [] = r
row_from r (b ∷ bs) = row_from (more r b) bs

row_is : (r : Row) (bs : List ℕ) → row (row_from r bs) ≡ row r ++ bs
unfolding row_from
row_is r [] = sym (append-nil (row r))
row_is r (b ∷ bs) = row_is (more r b) bs ∙ append_assoc (row r) (b ∷ []) bs

each_from : (test : ℕ → Bool) (r : Row) (bs : List ℕ) → Each test r → ((k : ℕ) → k < length bs → test (get_or bs k 0) ≡ true) → Each test (row_from r bs)
unfolding row_from
each_from test r [] good h = good
each_from test r (b ∷ bs) good h = each_from test (more r b) bs (good, h 0 (omega arith)) (λ k within. h (suc k) (omega arith))

no_from : (q : ℕ) (r : Row) (bs : List ℕ) → HasNo q r → ((k : ℕ) → k < length bs → (get_or bs k 0 == q) ≡ false) → HasNo q (row_from r bs)
unfolding row_from
no_from q r [] good h = good
no_from q r (b ∷ bs) good h = no_from q (more r b) bs (good, h 0 (omega arith)) (λ k within. h (suc k) (omega arith))

-- ---- bytes of kinds and ids

lower_letter : (k c : ℕ) → allows Lower Lower k c ≡ true → is_letter c ≡ true
unfolding allows
lower_letter k c h = by (k == 0) h
  where
    by : (b : Bool) → has_byte (if b then Lower else Lower) c ≡ true → is_letter c ≡ true
    by true h = ap (λ (x : Bool). x || (nat_le 65 c && nat_le c 90)) h
    by false h = ap (λ (x : Bool). x || (nat_le 65 c && nat_le c 90)) h

letter_word : (c : ℕ) → is_letter c ≡ true → is_word_byte c ≡ true
letter_word c h = ap (λ (x : Bool). ((x || (nat_le 48 c && nat_le c 57)) || (c == 95)) || (c == 45)) h

word_no_quote : (k c : ℕ) → allows Word Word k c ≡ true → (c == 39) ≡ false
unfolding allows
word_no_quote k c h = by (k == 0) (c == 39) refl h
  where
    by : (b e : Bool) → (c == 39) ≡ e → has_byte (if b then Word else Word) c ≡ true → e ≡ false
    by b false is h = refl
    by true true is h = let bad : has_byte Word 39 ≡ true = subst (λ (x : ℕ). has_byte Word x ≡ true) (eqb-true c 39 is) h in absurd (cc)
    by false true is h = let bad : has_byte Word 39 ≡ true = subst (λ (x : ℕ). has_byte Word x ≡ true) (eqb-true c 39 is) h in absurd (cc)

-- ---- the query as it is written

-- the predicate `@name='value'`, where the name has this first letter and these others
value_is : ℕ → Row → Row → Ors
value_is a w v = one_and (one (compared (road (attr (attribute no_fore none a w))) equal (const (literal 39 v))))

-- a step with one predicate
with_one : ℕ → Row → Ors → Tested
with_one a w o = predicate (word a w) none o

-- `ood`, `lock`, `pace`, `ree`, `yes` and `d`
hood_end : Row
hood_end = more (more (more none 111) 111) 100

block_end : Row
block_end = more (more (more (more none 108) 111) 99) 107

space_end : Row
space_end = more (more (more (more none 112) 97) 99) 101

free_end : Row
free_end = more (more (more none 114) 101) 101

yes_row : Row
yes_row = more (more (more none 121) 101) 115

id_end : Row
id_end = more none 100

written : ℕ → Row → Row → Row → Main
written a w i h =
    step (step (step (lead none)
    slash (with_one a w (value_is 105 id_end i)))
    slash (with_one 104 hood_end (value_is 105 id_end h)))
    slash (with_one 98 block_end (one_and (one (alone (path no_fore (tested (with_one 115 space_end (value_is 102 free_end yes_row))))))))

written_good : (a : ℕ) (w i h : Row) → is_letter a ≡ true → Each is_word_byte w → HasNo 39 i → HasNo 39 h → GoodMain (written a w i h)
unfolding written with_one value_is hood_end block_end space_end free_end yes_row id_end
written_good a w i h first others no_i no_h =
    let id : Each is_word_byte (more none 100) = (tt, refl) in
    let is_id : (v : Row) → HasNo 39 v → GoodOrs (value_is 105 id_end v) = λ v no. ((tt, tt, refl, id), tt, (refl, no)) in
    let hood : GoodTested (word 104 hood_end) = (refl, (((tt, refl), refl), refl)) in
    let block : GoodTested (word 98 block_end) = (refl, ((((tt, refl), refl), refl), refl)) in
    let space : GoodTested (word 115 space_end) = (refl, ((((tt, refl), refl), refl), refl)) in
    let free : GoodOrs (value_is 102 free_end yes_row) = ((tt, tt, refl, (((tt, refl), refl), refl)), tt, (refl, (((tt, refl), refl), refl))) in
    (((tt, tt, ((first, others), tt, is_id i no_i)), tt, (hood, tt, is_id h no_h)), tt, (block, tt, (tt, (space, tt, free))))

-- a literal with the end of its predicate, before more
cut : (x rest : List ℕ) → ((x ++ 39 ∷ []) ++ 93 ∷ []) ++ rest ≡ x ++ (39 ∷ 93 ∷ rest)
cut x rest = append_assoc (x ++ 39 ∷ []) (93 ∷ []) rest ∙ append_assoc x (39 ∷ []) (93 ∷ rest)

flat : (p k q i r h s : List ℕ) → p ++ k ++ q ++ i ++ r ++ h ++ s ≡ p ++ (k ++ (q ++ (i ++ (r ++ (h ++ s)))))
flat p k q i r h s = simp append_assoc

abbrev closed : List ℕ → List ℕ
closed x = (x ++ 39 ∷ []) ++ 93 ∷ []

main_flat : (a : ℕ) (w i h : Row) → main_text (written a w i h) ≡ 47 ∷ a ∷ (row w ++ (codes "[@id='" ++ (row i ++ (codes "']/hood[@id='" ++ (row h ++ codes "']/block[space[@free='yes']]")))))
unfolding written with_one value_is hood_end block_end space_end free_end yes_row id_end
main_flat a w i h =
    let q : List ℕ = codes "[@id='" in
    let r : List ℕ = codes "/hood[@id='" in
    let s : List ℕ = codes "/block[space[@free='yes']]" in
    let front : List ℕ = 47 ∷ a ∷ (row w ++ (q ++ closed (row i))) in
    let middle : List ℕ = r ++ closed (row h) in
    let hood : middle ++ s ≡ r ++ (row h ++ (39 ∷ 93 ∷ s)) = append_assoc r (closed (row h)) s ∙ ap (λ (z : List ℕ). r ++ z) (cut (row h) s) in
    let top : (q ++ closed (row i)) ++ (middle ++ s) ≡ q ++ (row i ++ (39 ∷ 93 ∷ (middle ++ s))) = append_assoc q (closed (row i)) (middle ++ s) ∙ ap (λ (z : List ℕ). q ++ z) (cut (row i) (middle ++ s)) in
    append_assoc front middle s
    ∙ ap (λ (z : List ℕ). 47 ∷ a ∷ z) (append_assoc (row w) (q ++ closed (row i)) (middle ++ s) ∙ ap (λ (z : List ℕ). row w ++ z) (top ∙ ap (λ (z : List ℕ). q ++ (row i ++ (39 ∷ 93 ∷ z))) hood))

written_text : (a : ℕ) (w i h : Row) → query_text (record { kind = a ∷ row w; id = row i }) (row h) ≡ main_text (written a w i h)
written_text a w i h =
    flat (codes "/") (a ∷ row w) (codes "[@id='") (row i) (codes "']/hood[@id='") (row h) (codes "']/block[space[@free='yes']]") ∙ sym (main_flat a w i h)

written_tree : (n : List ℕ → NameTest) (a : ℕ) (w i h : Row) → n (a ∷ row w) ≡ Kind (a ∷ row w) → n (codes "hood") ≡ Kind (codes "hood") → n (codes "block") ≡ Kind (codes "block") → n (codes "space") ≡ Kind (codes "space")
    → query_steps (record { kind = a ∷ row w; id = row i }) (row h) ≡ main_tree n (written a w i h)
unfolding written with_one value_is hood_end block_end space_end free_end yes_row id_end
written_tree n a w i h top hood block space = rw (top, hood, block, space) refl

-- ---- what the limits count

value_tally : (name value : List ℕ) → tally_of (has_value name value) ≡ record { is_long = false; path = 1; operands = 2; depth = 0 }
value_tally name value = fold-roll-Expression Tally tally_step (equality_layer (record { name = name; value = value }))

space_tally : tally_of has_free_space ≡ record { is_long = false; path = 1; operands = 3; depth = 1 }
space_tally =
    fold-roll-Expression Tally tally_step (Expression-F.Path (record { parts = parts.Step (kind_step (codes "space") (has_value (codes "free") (codes "yes"))) ∷ []; attribute = None }))
    ∙ ap (λ (t : Tally). path_of (joined nothing (joined nothing (t ∷ []) ∷ [])) 1 true) (value_tally (codes "free") (codes "yes"))

keeps_limits : (q : Syntax) → excess q ≡ None → nat_lt MAX_NESTING (main_tally q).depth ≡ false → limit_of q 0 ≡ None
keeps_limits q e d = ap (λ (o : Option QueryLimit). limit_behind o q 0) e ∙ ap (λ (b : Bool). if b then Some which.Depth else None) d

steps_fit : (kind id hood : List ℕ) → limit_of (query_steps (record { kind = kind; id = id }) hood) 0 ≡ None
steps_fit kind id hood =
    keeps_limits (query_steps (record { kind = kind; id = id }) hood)
    (rw (value_tally (codes "id") id, value_tally (codes "id") hood, space_tally) refl)
    (rw (value_tally (codes "id") id, value_tally (codes "id") hood, space_tally) refl)

written_fits : (a : ℕ) (w i h : Row) → limit_of (query_steps (record { kind = a ∷ row w; id = row i }) (row h)) (parens_of (written a w i h)) ≡ None
unfolding written with_one value_is hood_end block_end space_end free_end yes_row id_end
written_fits a w i h = steps_fit (a ∷ row w) (row i) (row h)

-- ---- the law

named_kind : (kinds : List (List ℕ)) (kind : List ℕ) → has kinds kind ≡ true → named kinds kind ≡ Kind kind
named_kind kinds kind h = rw h refl

text_fits : (top : Label) (hood : List ℕ) → length top.kind ≤ 16 → length top.id ≤ 24 → length hood ≤ 24 → length (query_text top hood) ≤ 4096
text_fits top hood kind id few = simp length-append (omega arith)

-- the text, where its words are written so
found_as : (kinds : List (List ℕ)) (a : ℕ) (w i h : Row) → is_letter a ≡ true → Each is_word_byte w → HasNo 39 i → HasNo 39 h
    → (top : Label) (hood : List ℕ) → a ∷ row w ≡ top.kind → row i ≡ top.id → row h ≡ hood
    → length (query_text top hood) ≤ 4096 → HasKinds kinds top → Found (named kinds) (query_text top hood) (query_steps top hood)
found_as kinds a w i h first others no_i no_h top hood kind id other fits kinds_has =
    let bare : Label = record { kind = a ∷ row w; id = row i } in
    let same : bare ≡ top = λ k. record { kind = kind k; id = id k } in
    let topmost : named kinds (a ∷ row w) ≡ Kind (a ∷ row w) = named_kind kinds (a ∷ row w) (subst (λ (x : List ℕ). has kinds x ≡ true) (sym kind) kinds_has.topmost) in
    let text : query_text top hood ≡ main_text (written a w i h) = sym (λ k. query_text (same k) (other k)) ∙ written_text a w i h in
    let steps : query_steps top hood ≡ query_steps bare (row h) = sym (λ k. query_steps (same k) (other k)) in
    let tree : query_steps top hood ≡ main_tree (named kinds) (written a w i h) = steps ∙ written_tree (named kinds) a w i h topmost (named_kind kinds _ kinds_has.hood) (named_kind kinds _ kinds_has.block) (named_kind kinds _ kinds_has.space) in
    let within : limit_of (query_steps top hood) (parens_of (written a w i h)) ≡ None = ap (λ (q : Syntax). limit_of q (parens_of (written a w i h))) steps ∙ written_fits a w i h in
    (fits, (written a w i h, record { some = λ e. absurd (cc); good = written_good a w i h first others no_i no_h; spelled = text; tree = tree }, within))

-- of a list that has an element
first_of_kind : (kinds : List (List ℕ)) (top : Label) (hood : List ℕ) (kind : List ℕ) → kind ≡ top.kind → IsKind kind → IsId top.id → IsId hood → HasKinds kinds top → Found (named kinds) (query_text top hood) (query_steps top hood)
first_of_kind kinds top hood [] e kind id other kinds_has = let some = kind.some in absurd (omega arith)
first_of_kind kinds top hood (a ∷ rest) e kind id other kinds_has =
    let letter : (k : ℕ) → k < length (a ∷ rest) → is_letter (get_or (a ∷ rest) k 0) ≡ true = λ k within. lower_letter k (get_or (a ∷ rest) k 0) (kind.each k within) in
    let len : length top.kind ≤ 16 = subst (λ (x : List ℕ). length x ≤ 16) e kind.fits in
    found_as kinds a (row_from none rest) (row_from none top.id) (row_from none hood)
    (letter 0 (omega arith))
    (each_from is_word_byte none rest tt (λ k within. letter_word (get_or rest k 0) (letter (suc k) (omega arith))))
    (no_from 39 none top.id tt (λ k within. word_no_quote k (get_or top.id k 0) (id.each k within)))
    (no_from 39 none hood tt (λ k within. word_no_quote k (get_or hood k 0) (other.each k within)))
    top hood (ap (λ (x : List ℕ). a ∷ x) (row_is none rest) ∙ e) (row_is none top.id) (row_is none hood)
    (text_fits top hood len id.fits other.fits) kinds_has

-- the text of the finder's query is a query
pub question_found : (kinds : List (List ℕ)) (top : Label) (hood : List ℕ) → IsKind top.kind → IsId top.id → IsId hood → HasKinds kinds top → Found (named kinds) (query_text top hood) (query_steps top hood)
question_found kinds top hood kind = first_of_kind kinds top hood top.kind refl kind
