-- What a byte leads to: a state whose text is longer by that byte.
use Rattle.std.proofs.Common.{◌≡◌, ℕ, Bool, true, false, ◌&&◌, ◌||◌, ◌==◌, cond, List, [], ◌∷◌, ◌++◌, refl, ap, sym, ◌∙◌, subst, arith, append_assoc, append-nil, Option, Some, None, IfSome, codes}
use Rattle.std.proofs.lemmas.Bool.Decides.{nat_tests}
use Rattle.iris_xpath.specs.declared.expression.Separator.{Separator}
use Rattle.iris_xpath.specs.declared.expression.Separator.TheVariants.{Slash, DoubleSlash}
use Rattle.iris_xpath.specs.declared.expression.NameTest.{NameTest}
use Rattle.iris_xpath.specs.declared.expression.Step.{Step}
use Rattle.iris_xpath.specs.declared.expression.Part.{Part}
use Rattle.iris_xpath.specs.declared.expression.Operand.TheVariants as operands
use Rattle.iris_xpath.specs.declared.expression.Expression.{Expression}
use Rattle.iris_xpath.specs.declared.state.Level.{Level}
use Rattle.iris_xpath.specs.declared.state.Compared.{Compared}
use Rattle.iris_xpath.specs.declared.state.Side.{Side}
use Rattle.iris_xpath.specs.declared.state.Spot.TheVariants as spots
use Rattle.iris_xpath.specs.declared.state.Frame.{Frame}
use Rattle.iris_xpath.specs.declared.state.Link.{Link}
use Rattle.iris_xpath.specs.declared.state.Link.TheVariants as links
use Rattle.iris_xpath.specs.declared.state.State.TheVariants as states
use Rattle.iris_xpath.specs.Bytes.{is_letter, is_digit, is_word_byte, is_blank, is_quote}
use Rattle.iris_xpath.specs.Trees.{is_name, is_none, is_not, joined_and, joined_or, add_and, add_or}
use Rattle.iris_xpath.specs.Machine.{Configuration, at, below, begin_step, begin_dots, begin_part, after_separator, begin_operand, begin_unit, unit, begin_right, close, end_unit, end_alone, end_operand, after_operand, link_if, after_path, after_dots, not_if, open_not, follow_step, after_step, in_literal, next}
use Rattle.iris_xpath.specs.Grammar.{Row, none, more, Sep, slash, slashes, sep_blank, Dots, dot, dots, dots_blank, Cmp, equal, not_equal, less, less_or_equal, greater, greater_or_equal, cmp_blank, Const, literal, number, negative, const_blank, Tested, word, star, predicate, tested_blank, Piece, tested, dotted, Fore, no_fore, fore, Attr, attribute, attr_blank, path, attr, Arg, road, const, group, not_group, group_blank, Term, alone, compared, grouped, Ands, one, both, Ors, one_and, either, Main, lead, step, row, sep_text, dots_text, cmp_text, const_text, tested_text, piece_text, fore_text, attr_text, arg_text, term_text, ors_text, main_text}
use Rattle.iris_xpath.specs.Spells.{sep_tree, dots_tree, const_tree, fore_sep, tested_tree, piece_tree, fore_tree, attr_tree, arg_tree, term_tree, ands_list, ors_list, ors_tree, main_tree, starts_tested, starts_path, starts_at, starts_arg, starts_term, starts_ands, ends_tested, ends_piece, ends_attr, ends_arg, ends_term, ends_ands, ends_ors, GoodSep, IsNot, GoodTested, GoodPiece, GoodFore, GoodArg, GoodTerm, GoodAnds, GoodOrs, GoodMain}
use Rattle.iris_xpath.proofs.Written.{OrFore, no_or, after_or, AndFore, no_and, after_and, Opening, bracket, paren, not_paren, Before, before, Stand, in_main, in_path, Hand, left, right, Written, w_start, w_main_sep, w_tested, w_unit, w_dots, w_part_sep, w_at, w_attr, w_const, w_literal, w_minus, w_bang, w_right, w_group, w_link, or_list, and_list, level, hand, stand, stand_sep, frames_opening, frames_before, frames_stand, frames_hand, shape, or_text, and_text, opening_text, before_text, stand_text, hand_text, link_text, written, tight_or, tight, Room, HandRoom, GoodOr, GoodAnd, GoodOpening, GoodBefore, GoodStand, GoodHand, StandRoom, Good}

-- ---- tests of bytes

-- both cases of a test
pub on_test : {X : Type 0} (P : X → Type 0) (t : Bool) (x y : X) → (t ≡ true → P x) → (t ≡ false → P y) → P (cond t x y)
on_test P true x y f g = f refl
on_test P false x y f g = g refl

-- a byte is the one that it equals
pub is_byte : (b k : ℕ) → (b == k) ≡ true → b ≡ k
is_byte b k h = grind (arith, nat_tests)

-- a letter may stand in a word
pub letter_word : (b : ℕ) → is_letter b ≡ true → is_word_byte b ≡ true
letter_word b h = rw h refl

or_true : (x : Bool) → (x || true) ≡ true
or_true true = refl
or_true false = refl

-- so may a digit
pub digit_word : (b : ℕ) → is_digit b ≡ true → is_word_byte b ≡ true
digit_word b h = rw (h, or_true (is_letter b)) refl

-- a conjunction with what is false
pub and_false : (x : Bool) → (x && false) ≡ false
and_false true = refl
and_false false = refl

-- what begins with no word may follow anything
pub room_false : (B : Before) → Room B false
room_false (before op o a) = and_false (tight o a)

-- a word byte at an ending word is none
ends_not : (e : Bool) (b : ℕ) → (e && is_word_byte b) ≡ false → is_word_byte b ≡ true → e ≡ false
ends_not true b h k = absurd (let q : true ≡ false = sym k ∙ h in cc)
ends_not false b h k = refl

-- ---- what a byte leads to, after a text

-- a byte stops the machine, or leads to what was written with it
abbrev pub Leads : (List ℕ → NameTest) → List ℕ → ℕ → Option Configuration → Type 0
Leads n text b r = IfSome r (λ t. (w : Written) × (shape n w ≡ t) × (written w ≡ text ++ b ∷ []) × Good w)

-- ---- rooms

hand_room_false : (h : Hand) (s : Bool) → HandRoom h s → HandRoom h false
hand_room_false (left B) s r = room_false B
hand_room_false (right a c B) s r = r

same_room : (h : Hand) (s t : Bool) → s ≡ t → HandRoom h s → HandRoom h t
same_room h s t e r = subst (λ (x : Bool). HandRoom h x) e r

-- a step that begins alike may stand there too
pub room_same : (s : Stand) (t u : Tested) → starts_tested t ≡ starts_tested u → StandRoom s t → StandRoom s u
room_same (in_main m p) t u e r = tt
room_same (in_path no_fore h) t u e r = same_room h _ _ e r
room_same (in_path (fore f p s) h) t u e r = r

-- where a part may begin with the byte
abbrev pub Entry : Fore → Hand → ℕ → Type 0
Entry no_fore h b = HandRoom h (is_word_byte b)
Entry (fore f p s) h b = HandRoom h (starts_path f p)

entry_word : (f : Fore) (h : Hand) (b : ℕ) → Entry f h b → is_letter b ≡ true → StandRoom (in_path f h) (word b none)
entry_word no_fore h b e l = same_room h _ _ (letter_word b l) e
entry_word (fore f p s) h b e l = e

entry_star : (f : Fore) (h : Hand) (b : ℕ) → Entry f h b → StandRoom (in_path f h) star
entry_star no_fore h b e = hand_room_false h _ e
entry_star (fore f p s) h b e = e

entry_at : (f : Fore) (h : Hand) (b : ℕ) → Entry f h b → HandRoom h (starts_at f)
entry_at no_fore h b e = hand_room_false h _ e
entry_at (fore f p s) h b e = e

entry_dots : (f : Fore) (h : Hand) (b : ℕ) → Entry f h b → HandRoom h (starts_path f (dotted dot))
entry_dots no_fore h b e = hand_room_false h _ e
entry_dots (fore f p s) h b e = e

-- ---- steps, parts and operands begin

leads_step : (n : List ℕ → NameTest) (s : Stand) (b : ℕ) (text : List ℕ) → text ≡ stand_text s → GoodStand s → (is_letter b ≡ true → StandRoom s (word b none)) → StandRoom s star → Leads n text b (below (frames_stand n s) (begin_step (stand_sep s) (stand n s) b))
leads_step n s b text e g r k = on_test (λ p. Leads n text b (below (frames_stand n s) p)) (is_letter b) _ _ (λ h. (w_tested (word b none) s, refl, rw e refl, ((h, tt), g, r h)))
    (λ _. on_test (λ p. Leads n text b (below (frames_stand n s) p)) (b == 42) _ _ (λ h. (w_tested star s, refl, rw (is_byte b 42 h, e) refl, (tt, g, k))) (λ h. tt))

leads_dots : (n : List ℕ → NameTest) (sep : Separator) (f : Fore) (h : Hand) (b : ℕ) (text : List ℕ) → fore_sep f ≡ sep → text ≡ hand_text h ++ fore_text f → b ≡ 46 → GoodFore f → GoodHand h → Entry f h b → Leads n text b (below (frames_hand n h) (begin_dots sep (fore_tree n f) (hand n h)))
leads_dots n Slash f h b text k e q gf gh r = (w_dots dot f h, refl, rw (q, e) (simp append_assoc), (tt, k, gf, gh, entry_dots f h b r))
leads_dots n DoubleSlash f h b text k e q gf gh r = tt

leads_part : (n : List ℕ → NameTest) (f : Fore) (h : Hand) (b : ℕ) (text : List ℕ) → text ≡ hand_text h ++ fore_text f → GoodFore f → GoodHand h → Entry f h b → Leads n text b (below (frames_hand n h) (begin_part (fore_sep f) (fore_tree n f) (hand n h) b))
leads_part n f h b text e gf gh r = on_test (λ p. Leads n text b (below (frames_hand n h) p)) (b == 64) _ _ (λ k. (w_at none f h, refl, rw (is_byte b 64 k, e) (simp append_assoc), (tt, gf, gh, entry_at f h b r)))
    (λ _. on_test (λ p. Leads n text b (below (frames_hand n h) p)) (b == 46) _ _ (λ k. leads_dots n (fore_sep f) f h b text refl e (is_byte b 46 k) gf gh r)
    (λ _. leads_step n (in_path f h) b text e (gf, gh) (entry_word f h b r) (entry_star f h b r)))

leads_operand : (n : List ℕ → NameTest) (h : Hand) (b : ℕ) (text : List ℕ) → text ≡ hand_text h → GoodHand h → HandRoom h (is_word_byte b) → Leads n text b (below (frames_hand n h) (begin_operand (hand n h) b))
leads_operand n h b text e g r = on_test (λ p. Leads n text b (below (frames_hand n h) p)) (is_quote b) _ _ (λ k. (w_literal b none h, refl, rw e refl, (k, tt, g, hand_room_false h _ r)))
    (λ _. on_test (λ p. Leads n text b (below (frames_hand n h) p)) (b == 45) _ _ (λ k. (w_minus none h, refl, rw (is_byte b 45 k, e) refl, (tt, g, same_room h _ _ (ap is_word_byte (is_byte b 45 k)) r)))
    (λ _. on_test (λ p. Leads n text b (below (frames_hand n h) p)) (is_digit b) _ _ (λ k. (w_const (number b none) h, refl, rw e refl, ((k, tt), g, same_room h _ _ (digit_word b k) r)))
    (λ _. leads_part n no_fore h b text (e ∙ sym (append-nil (hand_text h))) tt g r)))

-- ---- units begin

leads_begin : (n : List ℕ → NameTest) (B : Before) (b : ℕ) (text : List ℕ) → text ≡ before_text B → GoodBefore B → Room B (is_word_byte b) → Leads n text b (begin_unit (level n B) (frames_before n B) b)
leads_begin n B b text e g r = on_test (Leads n text b) (b == 40) _ _ (λ k. (w_unit (before (paren B none) no_or no_and), refl, rw (is_byte b 40 k, e) (append-nil (before_text B ++ 40 ∷ [])), (((g, tt), tt, tt), refl)))
    (λ _. leads_operand n (left B) b text e g r)

leads_gap : (n : List ℕ → NameTest) (B : Before) (b : ℕ) (text : List ℕ) → is_blank b ≡ true → text ≡ before_text B → GoodBefore B → Leads n text b (Some (at (states.Unit (level n B)) (frames_before n B)))
leads_gap n (before op o (after_and a g)) b text k e h = (w_unit (before op o (after_and a (more g b))), refl, rw e (simp append_assoc), ((h.0, h.1, (h.2.0, h.2.1, h.2.2, (h.2.3, k))), refl))
leads_gap n (before op (after_or o g) no_and) b text k e h = (w_unit (before op (after_or o (more g b)) no_and), refl, rw e (simp (append_assoc, append-nil)), ((h.0, (h.1.0, h.1.1, (h.1.2, k)), tt), refl))
leads_gap n (before (bracket t s g) no_or no_and) b text k e h = (w_unit (before (bracket t s (more g b)) no_or no_and), refl, rw e (simp (append_assoc, append-nil)), (((h.0.0, h.0.1, h.0.2, (h.0.3, k)), tt, tt), refl))
leads_gap n (before (paren B g) no_or no_and) b text k e h = (w_unit (before (paren B (more g b)) no_or no_and), refl, rw e (simp (append_assoc, append-nil)), (((h.0.0, (h.0.1, k)), tt, tt), refl))
leads_gap n (before (not_paren t B g) no_or no_and) b text k e h = (w_unit (before (not_paren t B (more g b)) no_or no_and), refl, rw e (simp (append_assoc, append-nil)), (((h.0.0, h.0.1, h.0.2, h.0.3, (h.0.4, k)), tt, tt), refl))

leads_unit : (n : List ℕ → NameTest) (B : Before) (b : ℕ) (text : List ℕ) → text ≡ before_text B → GoodBefore B → Room B (is_word_byte b) → Leads n text b (unit (level n B) (frames_before n B) b)
leads_unit n B b text e g r = on_test (Leads n text b) (is_blank b) _ _ (λ k. leads_gap n B b text k e g) (λ _. leads_begin n B b text e g r)

-- ---- units end

leads_close : (n : List ℕ → NameTest) (o : Ors) (op : Opening) (b : ℕ) (text : List ℕ) → text ≡ opening_text op ++ ors_text o → GoodOrs o → GoodOpening op → Leads n text b (close (ors_tree n o) (frames_opening n op) b)
leads_close n o (bracket t s g) b text e go h = on_test (Leads n text b) (b == 93) _ _ (λ k. (w_tested (predicate t g o) s, refl, rw (is_byte b 93 k, e) (simp append_assoc), ((h.0, h.3, go), h.1, room_same s t (predicate t g o) refl h.2))) (λ _. tt)
leads_close n o (paren B g) b text e go h = on_test (Leads n text b) (b == 41) _ _ (λ k. (w_group (group g o) B, refl, rw (is_byte b 41 k, e) (simp append_assoc), ((h.1, go), h.0, room_false B))) (λ _. tt)
leads_close n o (not_paren t B g) b text e go h = on_test (Leads n text b) (b == 41) _ _ (λ k. (w_group (not_group t g o) B, refl, rw (is_byte b 41 k, e) (simp append_assoc), ((h.0, h.1, h.4, go), h.2, h.3))) (λ _. tt)

-- the whole expression where a unit ends it
abbrev pub ands_with : AndFore → Term → Ands
ands_with no_and t = one t
ands_with (after_and a g) t = both a g t

-- an `or` with its last part
abbrev pub ors_with : OrFore → Ands → Ors
ors_with no_or a = one_and a
ors_with (after_or o g) a = either o g a

-- its tree
pub with_tree : (n : List ℕ → NameTest) (o : OrFore) (a : AndFore) (t : Term) → ors_tree n (ors_with o (ands_with a t)) ≡ joined_or (or_list n o) (joined_and (and_list n a) (term_tree n t))
with_tree n no_or no_and t = refl
with_tree n no_or (after_and a g) t = refl
with_tree n (after_or o h) no_and t = refl
with_tree n (after_or o h) (after_and a g) t = refl

with_text : (o : OrFore) (a : AndFore) (t : Term) → ors_text (ors_with o (ands_with a t)) ≡ (or_text o ++ and_text a) ++ term_text t
with_text no_or no_and t = refl
with_text no_or (after_and a g) t = simp append_assoc
with_text (after_or o h) no_and t = simp (append_assoc, append-nil)
with_text (after_or o h) (after_and a g) t = simp append_assoc

with_good : (o : OrFore) (a : AndFore) (t : Term) → GoodOr o → GoodAnd o a → GoodTerm t → (tight o a && starts_term t) ≡ false → GoodOrs (ors_with o (ands_with a t))
with_good no_or no_and t go ga gt r = gt
with_good no_or (after_and a g) t go ga gt r = (ga.1, ga.2, ga.3, r, gt)
with_good (after_or o h) no_and t go ga gt r = (go.0, go.1, go.2, r, gt)
with_good (after_or o h) (after_and a g) t go ga gt r = (go.0, go.1, go.2, ga.0, (ga.1, ga.2, ga.3, r, gt))

leads_end : (n : List ℕ → NameTest) (t : Term) (B : Before) (b : ℕ) (text : List ℕ) → text ≡ before_text B ++ term_text t → GoodTerm t → GoodBefore B → Room B (starts_term t) → (ends_term t && is_word_byte b) ≡ false → Leads n text b (end_unit (term_tree n t) (level n B) (frames_before n B) b)
leads_end n t (before op o a) b text e gt g r k =
    let whole : text ≡ opening_text op ++ ors_text (ors_with o (ands_with a t)) = e ∙ append_assoc (opening_text op) (or_text o ++ and_text a) (term_text t) ∙ ap (λ (v : List ℕ). opening_text op ++ v) (sym (with_text o a t)) in
    on_test (Leads n text b) (b == 97) _ _ (λ h. (w_link links.A t (before op o a), refl, rw (is_byte b 97 h, e) (simp append_assoc), (gt, ends_not (ends_term t) b k (ap is_word_byte (is_byte b 97 h)), g, r)))
    (λ _. on_test (Leads n text b) (b == 111) _ _ (λ h. (w_link links.O t (before op o a), refl, rw (is_byte b 111 h, e) (simp append_assoc), (gt, ends_not (ends_term t) b k (ap is_word_byte (is_byte b 111 h)), g, r)))
    (λ _. subst (λ (x : Expression). Leads n text b (close x (frames_opening n op) b)) (with_tree n o a t) (leads_close n (ors_with o (ands_with a t)) op b text whole (with_good o a t g.1 g.2 gt r) g.0)))

-- ---- operands end

const_alone : (c : Const) (l : Level) (fs : List Frame) (b : ℕ) → end_alone (const_tree c) l fs b ≡ None
const_alone (literal q v) l fs b = refl
const_alone (number a w) l fs b = refl
const_alone (negative g a w) l fs b = refl
const_alone (const_blank c b2) l fs b = const_alone c l fs b

leads_alone : (n : List ℕ → NameTest) (a : Arg) (B : Before) (b : ℕ) (text : List ℕ) → text ≡ before_text B ++ arg_text a → GoodArg a → GoodBefore B → Room B (starts_arg a) → (ends_arg a && is_word_byte b) ≡ false → Leads n text b (end_alone (arg_tree n a) (level n B) (frames_before n B) b)
leads_alone n (road r) B b text e ga g m k = leads_end n (alone r) B b text e ga g m k
leads_alone n (const c) B b text e ga g m k = subst (Leads n text b) (sym (const_alone c (level n B) (frames_before n B) b)) tt

leads_arg : (n : List ℕ → NameTest) (a : Arg) (h : Hand) (b : ℕ) (text : List ℕ) → text ≡ hand_text h ++ arg_text a → GoodArg a → GoodHand h → HandRoom h (starts_arg a) → (ends_arg a && is_word_byte b) ≡ false → Leads n text b (end_operand (arg_tree n a) (hand n h) (frames_hand n h) b)
leads_arg n a (left B) b text e ga g r k = on_test (Leads n text b) (b == 33) _ _ (λ h. (w_bang a B, refl, rw (is_byte b 33 h, e) (simp append_assoc), (ga, g, r)))
    (λ _. on_test (Leads n text b) (b == 61) _ _ (λ h. (w_right a equal B, refl, rw (is_byte b 61 h, e) (simp append_assoc), (ga, tt, g, r)))
    (λ _. on_test (Leads n text b) (b == 60) _ _ (λ h. (w_right a less B, refl, rw (is_byte b 60 h, e) (simp append_assoc), (ga, tt, g, r)))
    (λ _. on_test (Leads n text b) (b == 62) _ _ (λ h. (w_right a greater B, refl, rw (is_byte b 62 h, e) (simp append_assoc), (ga, tt, g, r)))
    (λ _. leads_alone n a B b text e ga g r k))))
leads_arg n a (right l c B) b text e ga g r k = leads_end n (compared l c a) B b text (e ∙ simp append_assoc) (g.0, g.1, ga) g.2 r k

-- ---- paths and steps go on

leads_path : (n : List ℕ → NameTest) (f : Fore) (p : Piece) (h : Hand) (b : ℕ) (text : List ℕ) → text ≡ hand_text h ++ (fore_text f ++ piece_text p) → GoodFore f → GoodPiece (fore_sep f) p → GoodHand h → HandRoom h (starts_path f p) → (ends_piece p && is_word_byte b) ≡ false → Leads n text b (after_path (fore_tree n f ++ piece_tree n (fore_sep f) p ∷ []) (hand n h) (frames_hand n h) b)
leads_path n f p h b text e gf gp gh r k = on_test (Leads n text b) (b == 47) _ _ (λ m. (w_part_sep f p slash h, refl, rw (is_byte b 47 m, e) (simp append_assoc), ((gf, gp, tt), gh, r)))
    (λ _. leads_arg n (road (path f p)) h b text e (gf, gp) gh r k)

-- that a function tells of a word only whether it is a kind
abbrev pub Tells : (List ℕ → NameTest) → Type 0
Tells n = (w : List ℕ) → is_name (codes "not") (n w) ≡ true → w ≡ codes "not"

none_end : (xs : List Expression) (x : Expression) → is_none (xs ++ x ∷ []) ≡ false
none_end [] x = refl
none_end (y ∷ xs) x = refl

and_true : (x y : Bool) → (x && y) ≡ true → (x ≡ true) × (y ≡ true)
and_true true y h = (refl, h)
and_true false y h = absurd (cc)

clash : {X : Type 0} → true ≡ false → X
clash h = absurd (cc)

not_written : (n : List ℕ → NameTest) (sep : Separator) (t : Tested) → Tells n → is_not (tested_tree n sep t) ≡ true → IsNot t
not_written n sep (word a w) k h = k (a ∷ row w) (and_true _ _ h).0
not_written n sep star k h = absurd (cc)
not_written n sep (predicate t g o) k h = clash (sym (and_true _ _ h).1 ∙ none_end (tested_tree n sep t).predicates (ors_tree n o))
not_written n sep (tested_blank t b) k h = not_written n sep t k h

parts_end : (x0 : Step Expression) (xs : List (Part Expression)) (x : Part Expression) (side : Side) (fs : List Frame) → open_not x0 (xs ++ x ∷ []) side fs ≡ None
parts_end x0 [] x side fs = refl
parts_end x0 (y ∷ xs) x side fs = refl

not_case : (n : List ℕ → NameTest) (x : Bool) (t : Tested) (B : Before) (b : ℕ) (text : List ℕ) → (x ≡ true → IsNot t) → text ≡ before_text B ++ tested_text t → b ≡ 40 → GoodTested t → GoodBefore B → Room B true → Leads n text b (not_if x None (level n B) (frames_before n B))
not_case n true t B b text k e q gt g r = (w_unit (before (not_paren t B none) no_or no_and), refl, rw (q, e) (append-nil _ ∙ simp append_assoc), (((k refl, gt, g, r, tt), tt, tt), refl))
not_case n false t B b text k e q gt g r = tt

not_starts : (t : Tested) → IsNot t → starts_tested t ≡ true
not_starts (word a w) h = refl
not_starts star h = absurd h
not_starts (predicate t g o) h = absurd h
not_starts (tested_blank t b) h = not_starts t h

not_right : (n : List ℕ → NameTest) (x : Bool) (c : Compared) (l : Level) (fs : List Frame) (b : ℕ) (text : List ℕ) → Leads n text b (not_if x (Some c) l fs)
not_right n true c l fs b text = tt
not_right n false c l fs b text = tt

not_room : (n : List ℕ → NameTest) (x : Bool) (t : Tested) (B : Before) (b : ℕ) (text : List ℕ) → (x ≡ true → IsNot t) → text ≡ before_text B ++ tested_text t → b ≡ 40 → GoodTested t → GoodBefore B → Room B (starts_tested t) → Leads n text b (not_if x None (level n B) (frames_before n B))
not_room n true t B b text k e q gt g r = not_case n true t B b text k e q gt g (subst (λ (s : Bool). Room B s) (not_starts t (k refl)) r)
not_room n false t B b text k e q gt g r = tt

leads_not : (n : List ℕ → NameTest) (t : Tested) (f : Fore) (h : Hand) (b : ℕ) (text : List ℕ) → Tells n → text ≡ (hand_text h ++ fore_text f) ++ tested_text t → b ≡ 40 → GoodTested t → GoodHand h → HandRoom h (starts_path f (tested t)) → Leads n text b (open_not (tested_tree n (fore_sep f) t) (fore_tree n f) (hand n h) (frames_hand n h))
leads_not n t no_fore (left B) b text k e q gt gh r = not_room n (is_not (tested_tree n Slash t)) t B b text (not_written n Slash t k) (e ∙ ap (λ (v : List ℕ). v ++ tested_text t) (append-nil (before_text B))) q gt gh r
leads_not n t no_fore (right a c B) b text k e q gt gh r = not_right n (is_not (tested_tree n Slash t)) _ _ _ b text
leads_not n t (fore f p s) h b text k e q gt gh r = subst (Leads n text b) (sym (parts_end (tested_tree n (sep_tree s) t) (fore_tree n f) (piece_tree n (fore_sep f) p) (hand n h) (frames_hand n h))) tt

leads_follow : (n : List ℕ → NameTest) (t : Tested) (s : Stand) (b : ℕ) (text : List ℕ) → Tells n → text ≡ stand_text s ++ tested_text t → GoodTested t → GoodStand s → StandRoom s t → (ends_tested t && is_word_byte b) ≡ false → Leads n text b (follow_step (tested_tree n (stand_sep s) t) (stand n s) (frames_stand n s) b)
leads_follow n t (in_main m p) b text k e gt g r z = on_test (Leads n text b) (b == 47) _ _ (λ h. (w_main_sep (step m p t) slash, refl, rw (is_byte b 47 h, e) (simp append_assoc), ((g.0, g.1, gt), tt))) (λ _. tt)
leads_follow n t (in_path f h) b text k e gt g r z = on_test (Leads n text b) (b == 40) _ _ (λ q. leads_not n t f h b text k e (is_byte b 40 q) gt g.1 r)
    (λ _. leads_path n f (tested t) h b text (e ∙ append_assoc (hand_text h) (fore_text f) (tested_text t)) g.0 gt g.1 r z)

leads_tested : (n : List ℕ → NameTest) (t : Tested) (s : Stand) (b : ℕ) (text : List ℕ) → Tells n → text ≡ stand_text s ++ tested_text t → GoodTested t → GoodStand s → StandRoom s t → (ends_tested t && is_word_byte b) ≡ false → Leads n text b (after_step (tested_tree n (stand_sep s) t) (stand n s) (frames_stand n s) b)
leads_tested n t s b text k e gt g r z = on_test (Leads n text b) (is_blank b) _ _ (λ h. (w_tested (tested_blank t b) s, refl, rw e (simp append_assoc), ((gt, h), g, room_same s t (tested_blank t b) refl r)))
    (λ _. on_test (Leads n text b) (b == 91) _ _ (λ h. (w_unit (before (bracket t s none) no_or no_and), refl, rw (is_byte b 91 h, e) (append-nil _ ∙ simp append_assoc), (((gt, g, r, tt), tt, tt), refl)))
    (λ _. leads_follow n t s b text k e gt g r z))

-- ---- each state

leads_sep_main : (n : List ℕ → NameTest) (m : Main) (p : Sep) (b : ℕ) → GoodMain m → GoodSep p → Leads n (main_text m ++ sep_text p) b (below [] (after_separator (sep_tree p) (spots.Main (main_tree n m)) b))
leads_sep_main n m p b gm gp = on_test (λ q. Leads n (main_text m ++ sep_text p) b (below [] q)) (is_blank b) _ _ (λ h. (w_main_sep m (sep_blank p b), refl, simp append_assoc, (gm, (gp, h))))
    (λ _. leads_step n (in_main m p) b (main_text m ++ sep_text p) refl (gm, gp) (λ _. tt) tt)

leads_sep_part : (n : List ℕ → NameTest) (f : Fore) (p : Piece) (s : Sep) (h : Hand) (b : ℕ) → GoodFore (fore f p s) → GoodHand h → HandRoom h (starts_path f p) → Leads n (hand_text h ++ fore_text (fore f p s)) b (below (frames_hand n h) (after_separator (sep_tree s) (spots.Part (fore_tree n (fore f p s)) (hand n h)) b))
leads_sep_part n f p s h b g gh r = on_test (λ q. Leads n (hand_text h ++ fore_text (fore f p s)) b (below (frames_hand n h) q)) (is_blank b) _ _ (λ k. (w_part_sep f p (sep_blank s b) h, refl, simp append_assoc, ((g.0, g.1, (g.2, k)), gh, r)))
    (λ _. leads_part n (fore f p s) h b (hand_text h ++ fore_text (fore f p s)) refl g gh r)

room_dots : (f : Fore) (h : Hand) (d e : Dots) → HandRoom h (starts_path f (dotted d)) → HandRoom h (starts_path f (dotted e))
room_dots no_fore h d e r = r
room_dots (fore f p s) h d e r = r

any_false : (x y : Bool) → (x && true) ≡ false → (x && y) ≡ false
any_false true y h = absurd (cc)
any_false false y h = refl

room_any : (B : Before) (s : Bool) → Room B true → Room B s
room_any (before op o a) s r = any_false (tight o a) s r

leads_dotted : (n : List ℕ → NameTest) (d : Dots) (f : Fore) (h : Hand) (b : ℕ) → Good (w_dots d f h) → Leads n (hand_text h ++ (fore_text f ++ dots_text d)) b (after_dots (fore_tree n f ++ dots_tree d ∷ []) (hand n h) (frames_hand n h) b)
leads_dotted n d f h b g = on_test (Leads n (written (w_dots d f h)) b) (is_blank b) _ _ (λ k. (w_dots (dots_blank d b) f h, refl, simp append_assoc, ((g.0, k), g.1, g.2, g.3, room_dots f h _ _ g.4)))
    (λ _. leads_path n f (dotted d) h b (hand_text h ++ (fore_text f ++ dots_text d)) refl g.2 (g.0, g.1) g.3 g.4 refl)

leads_attr : (n : List ℕ → NameTest) (a : Attr) (h : Hand) (b : ℕ) → Good (w_attr a h) → (ends_attr a && is_word_byte b) ≡ false → Leads n (hand_text h ++ attr_text a) b (after_operand (operands.Path (attr_tree n a)) (hand n h) (frames_hand n h) b)
leads_attr n a h b g k = on_test (Leads n (written (w_attr a h)) b) (is_blank b) _ _ (λ q. (w_attr (attr_blank a b) h, refl, simp append_assoc, ((g.0, q), g.1, g.2)))
    (λ _. leads_arg n (road (attr a)) h b (hand_text h ++ attr_text a) refl g.0 g.1 g.2 k)

leads_const : (n : List ℕ → NameTest) (c : Const) (h : Hand) (b : ℕ) → Good (w_const c h) → Leads n (hand_text h ++ const_text c) b (after_operand (const_tree c) (hand n h) (frames_hand n h) b)
leads_const n c h b g = on_test (Leads n (written (w_const c h)) b) (is_blank b) _ _ (λ q. (w_const (const_blank c b) h, refl, simp append_assoc, ((g.0, q), g.1, g.2)))
    (λ _. leads_arg n (const c) h b (hand_text h ++ const_text c) refl g.0 g.1 g.2 refl)

quote_ends : (n : List ℕ → NameTest) (q : ℕ) (v : Row) (h : Hand) (b : ℕ) → Good (w_literal q v h) → Leads n (hand_text h ++ q ∷ row v) b (in_literal q (row v) (hand n h) (frames_hand n h) b)
quote_ends n q v h b g = on_test (Leads n (written (w_literal q v h)) b) (b == q) _ _ (λ k. (w_const (literal q v) h, refl, rw (is_byte b q k) (simp append_assoc), ((g.0, g.1), g.2, g.3)))
    (λ k. (w_literal q (more v b) h, refl, simp append_assoc, (g.0, (g.1, k), g.2, g.3)))

leads_right : (n : List ℕ → NameTest) (a : Arg) (c : Cmp) (B : Before) (b : ℕ) → Good (w_right a c B) → Leads n (before_text B ++ (arg_text a ++ cmp_text c)) b (below (frames_before n B) (begin_right (hand n (right a c B)) b))
leads_right n a c B b g = on_test (λ p. Leads n (written (w_right a c B)) b (below (frames_before n B) p)) (is_blank b) _ _ (λ k. (w_right a (cmp_blank c b) B, refl, simp append_assoc, (g.0, (g.1, k), g.2, g.3)))
    (λ _. leads_operand n (right a c B) b (before_text B ++ (arg_text a ++ cmp_text c)) refl (g.0, g.1, g.2) g.3)

abbrev and_before : Before → Term → Before
and_before (before op o a) t = before op o (after_and (ands_with a t) none)

abbrev or_before : Before → Term → Before
or_before (before op o a) t = before op (after_or (ors_with o (ands_with a t)) none) no_and

ands_starts : (o : OrFore) (a : AndFore) (t : Term) → GoodAnd o a → (tight o a && starts_term t) ≡ false → (tight_or o && starts_ands (ands_with a t)) ≡ false
ands_starts o no_and t g r = r
ands_starts o (after_and a h) t g r = g.0

ands_good : (o : OrFore) (a : AndFore) (t : Term) → GoodAnd o a → GoodTerm t → (tight o a && starts_term t) ≡ false → GoodAnds (ands_with a t)
ands_good o no_and t g gt r = gt
ands_good o (after_and a h) t g gt r = (g.1, g.2, g.3, r, gt)

ands_ends : (a : AndFore) (t : Term) → ends_ands (ands_with a t) ≡ ends_term t
ands_ends no_and t = refl
ands_ends (after_and a g) t = refl

ors_ends : (o : OrFore) (a : Ands) → ends_ors (ors_with o a) ≡ ends_ands a
ors_ends no_or a = refl
ors_ends (after_or o g) a = refl

ands_listed : (n : List ℕ → NameTest) (a : AndFore) (t : Term) → ands_list n (ands_with a t) ≡ add_and (and_list n a) (term_tree n t)
ands_listed n no_and t = refl
ands_listed n (after_and a g) t = refl

ors_listed : (n : List ℕ → NameTest) (o : OrFore) (a : AndFore) (t : Term) → ors_list n (ors_with o (ands_with a t)) ≡ add_or (or_list n o) (joined_and (and_list n a) (term_tree n t))
ors_listed n no_or no_and t = refl
ors_listed n no_or (after_and a g) t = refl
ors_listed n (after_or o h) no_and t = refl
ors_listed n (after_or o h) (after_and a g) t = refl

and_texts : (op : Opening) (o : OrFore) (a : AndFore) (t : Term) → before_text (and_before (before op o a) t) ≡ before_text (before op o a) ++ (term_text t ++ 97 ∷ 110 ∷ 100 ∷ [])
and_texts op o no_and t = ap (λ (v : List ℕ). opening_text op ++ (or_text o ++ v)) refl ∙ sym (append_assoc (opening_text op) (or_text o ++ []) (term_text t ++ 97 ∷ 110 ∷ 100 ∷ []) ∙ ap (λ (v : List ℕ). opening_text op ++ v) (append_assoc (or_text o) [] (term_text t ++ 97 ∷ 110 ∷ 100 ∷ []) ∙ ap (λ (v : List ℕ). or_text o ++ v) refl))
and_texts op o (after_and a g) t = simp append_assoc

or_texts : (op : Opening) (o : OrFore) (a : AndFore) (t : Term) → before_text (or_before (before op o a) t) ≡ before_text (before op o a) ++ (term_text t ++ 111 ∷ 114 ∷ [])
or_texts op o a t = rw (with_text o a t) (simp (append_assoc, append-nil))

leads_and : (n : List ℕ → NameTest) (t : Term) (B : Before) (b : ℕ) → Good (w_link links.And t B) → is_word_byte b ≡ false → Leads n (before_text B ++ (term_text t ++ 97 ∷ 110 ∷ 100 ∷ [])) b (unit (record { ors = (level n B).ors; ands = add_and (level n B).ands (term_tree n t) }) (frames_before n B) b)
leads_and n t (before op o a) b g k =
    let u = leads_unit n (and_before (before op o a) t) b (written (w_link links.And t (before op o a))) (sym (and_texts op o a t)) (g.2.0, g.2.1, (ands_starts o a t g.2.2 g.3, ands_good o a t g.2.2 g.0 g.3, ands_ends a t ∙ g.1, tt)) (rw k refl) in
    subst (λ (x : List Expression). Leads n (written (w_link links.And t (before op o a))) b (unit (record { ors = or_list n o; ands = x }) (frames_opening n op) b)) (ands_listed n a t) u

leads_or : (n : List ℕ → NameTest) (t : Term) (B : Before) (b : ℕ) → Good (w_link links.Or t B) → is_word_byte b ≡ false → Leads n (before_text B ++ (term_text t ++ 111 ∷ 114 ∷ [])) b (unit (record { ors = add_or (level n B).ors (joined_and (level n B).ands (term_tree n t)); ands = [] }) (frames_before n B) b)
leads_or n t (before op o a) b g k =
    let u = leads_unit n (or_before (before op o a) t) b (written (w_link links.Or t (before op o a))) (sym (or_texts op o a t)) (g.2.0, (with_good o a t g.2.1 g.2.2 g.0 g.3, ors_ends o (ands_with a t) ∙ ands_ends a t ∙ g.1, tt), tt) (rw k refl) in
    subst (λ (x : List Expression). Leads n (written (w_link links.Or t (before op o a))) b (unit (record { ors = x; ands = [] }) (frames_opening n op) b)) (ors_listed n o a t) u

leads_letter : (n : List ℕ → NameTest) (l m : Link) (k : ℕ) (t : Term) (B : Before) (b : ℕ) → link_text m ≡ link_text l ++ k ∷ [] → Good (w_link l t B) → Leads n (before_text B ++ (term_text t ++ link_text l)) b (below (frames_before n B) (link_if (b == k) m (term_tree n t) (level n B)))
leads_letter n l m k t B b e g = on_test (λ p. Leads n (written (w_link l t B)) b (below (frames_before n B) p)) (b == k) _ _ (λ h. (w_link m t B, refl, rw (is_byte b k h, e) (simp append_assoc), g)) (λ h. tt)

-- so it is in each state
pub leads : (n : List ℕ → NameTest) → Tells n → (w : Written) (b : ℕ) → Good w → Leads n (written w) b (next n (shape n w) b)
leads n k (w_start g) b h = on_test (λ p. Leads n (row g) b (below [] p)) (is_blank b) _ _ (λ q. (w_start (more g b), refl, refl, (h, q)))
    (λ _. on_test (λ p. Leads n (row g) b (below [] p)) (b == 47) _ _ (λ q. (w_main_sep (lead g) slash, refl, rw (is_byte b 47 q) refl, (h, tt))) (λ _. tt))
leads n k (w_main_sep m slash) b h = on_test (λ p. Leads n (written (w_main_sep m slash)) b (below [] p)) (b == 47) _ _ (λ q. (w_main_sep m slashes, refl, rw (is_byte b 47 q) (simp append_assoc), (h.0, tt))) (λ _. leads_sep_main n m slash b h.0 h.1)
leads n k (w_main_sep m slashes) b h = leads_sep_main n m slashes b h.0 h.1
leads n k (w_main_sep m (sep_blank p c)) b h = leads_sep_main n m (sep_blank p c) b h.0 h.1
leads n k (w_tested (word a w) s) b h = on_test (Leads n (written (w_tested (word a w) s)) b) (is_word_byte b) _ _ (λ q. (w_tested (word a (more w b)) s, refl, simp append_assoc, ((h.0.0, (h.0.1, q)), h.1, room_same s (word a w) (word a (more w b)) refl h.2)))
    (λ q. leads_tested n (word a w) s b (written (w_tested (word a w) s)) k refl h.0 h.1 h.2 q)
leads n k (w_tested star s) b h = leads_tested n star s b (written (w_tested star s)) k refl h.0 h.1 h.2 refl
leads n k (w_tested (predicate t g o) s) b h = leads_tested n (predicate t g o) s b (written (w_tested (predicate t g o) s)) k refl h.0 h.1 h.2 refl
leads n k (w_tested (tested_blank t c) s) b h = leads_tested n (tested_blank t c) s b (written (w_tested (tested_blank t c) s)) k refl h.0 h.1 h.2 refl
leads n k (w_unit B) b h = on_test (Leads n (written (w_unit B)) b) (is_blank b) _ _ (λ q. leads_gap n B b (written (w_unit B)) q refl h.0) (λ q. leads_begin n B b (written (w_unit B)) refl h.0 (room_any B (is_word_byte b) h.1))
leads n k (w_dots dot f h) b g = on_test (Leads n (written (w_dots dot f h)) b) (b == 46) _ _ (λ q. (w_dots dots f h, refl, rw (is_byte b 46 q) (simp append_assoc), (tt, g.1, g.2, g.3, room_dots f h _ _ g.4))) (λ _. leads_dotted n dot f h b g)
leads n k (w_dots dots f h) b g = leads_dotted n dots f h b g
leads n k (w_dots (dots_blank d c) f h) b g = leads_dotted n (dots_blank d c) f h b g
leads n k (w_part_sep f p slash h) b g = on_test (λ q. Leads n (written (w_part_sep f p slash h)) b (below (frames_hand n h) q)) (b == 47) _ _ (λ q. (w_part_sep f p slashes h, refl, rw (is_byte b 47 q) (simp append_assoc), ((g.0.0, g.0.1, tt), g.1, g.2))) (λ _. leads_sep_part n f p slash h b g.0 g.1 g.2)
leads n k (w_part_sep f p slashes h) b g = leads_sep_part n f p slashes h b g.0 g.1 g.2
leads n k (w_part_sep f p (sep_blank s c) h) b g = leads_sep_part n f p (sep_blank s c) h b g.0 g.1 g.2
leads n k (w_at r f h) b g = on_test (λ p. Leads n (written (w_at r f h)) b (below (frames_hand n h) p)) (is_blank b) _ _ (λ q. (w_at (more r b) f h, refl, simp append_assoc, ((g.0, q), g.1, g.2, g.3)))
    (λ _. on_test (λ p. Leads n (written (w_at r f h)) b (below (frames_hand n h) p)) (is_letter b) _ _ (λ q. (w_attr (attribute f r b none) h, refl, simp append_assoc, ((g.1, g.0, q, tt), g.2, g.3))) (λ _. tt))
leads n k (w_attr (attribute f r a w) h) b g = on_test (Leads n (written (w_attr (attribute f r a w) h)) b) (is_word_byte b) _ _ (λ q. (w_attr (attribute f r a (more w b)) h, refl, simp append_assoc, ((g.0.0, g.0.1, g.0.2, (g.0.3, q)), g.1, g.2)))
    (λ q. leads_attr n (attribute f r a w) h b g q)
leads n k (w_attr (attr_blank a c) h) b g = leads_attr n (attr_blank a c) h b g refl
leads n k (w_const (literal q v) h) b g = leads_const n (literal q v) h b g
leads n k (w_const (number a w) h) b g = on_test (Leads n (written (w_const (number a w) h)) b) (is_digit b) _ _ (λ q. (w_const (number a (more w b)) h, refl, simp append_assoc, ((g.0.0, (g.0.1, q)), g.1, g.2))) (λ _. leads_const n (number a w) h b g)
leads n k (w_const (negative r a w) h) b g = on_test (Leads n (written (w_const (negative r a w) h)) b) (is_digit b) _ _ (λ q. (w_const (negative r a (more w b)) h, refl, simp append_assoc, ((g.0.0, g.0.1, (g.0.2, q)), g.1, g.2))) (λ _. leads_const n (negative r a w) h b g)
leads n k (w_const (const_blank c d) h) b g = leads_const n (const_blank c d) h b g
leads n k (w_literal q none h) b g = quote_ends n q none h b g
leads n k (w_literal q (more v c) h) b g = quote_ends n q (more v c) h b g
leads n k (w_minus r h) b g = on_test (λ p. Leads n (written (w_minus r h)) b (below (frames_hand n h) p)) (is_blank b) _ _ (λ q. (w_minus (more r b) h, refl, simp append_assoc, ((g.0, q), g.1, g.2)))
    (λ _. on_test (λ p. Leads n (written (w_minus r h)) b (below (frames_hand n h) p)) (is_digit b) _ _ (λ q. (w_const (negative r b none) h, refl, simp append_assoc, ((g.0, q, tt), g.1, g.2))) (λ _. tt))
leads n k (w_bang a B) b g = on_test (λ p. Leads n (written (w_bang a B)) b (below (frames_before n B) p)) (b == 61) _ _ (λ q. (w_right a not_equal B, refl, rw (is_byte b 61 q) (simp append_assoc), (g.0, tt, g.1, g.2))) (λ _. tt)
leads n k (w_right a less B) b g = on_test (λ p. Leads n (written (w_right a less B)) b (below (frames_before n B) p)) (b == 61) _ _ (λ q. (w_right a less_or_equal B, refl, rw (is_byte b 61 q) (simp append_assoc), g)) (λ _. leads_right n a less B b g)
leads n k (w_right a greater B) b g = on_test (λ p. Leads n (written (w_right a greater B)) b (below (frames_before n B) p)) (b == 61) _ _ (λ q. (w_right a greater_or_equal B, refl, rw (is_byte b 61 q) (simp append_assoc), g)) (λ _. leads_right n a greater B b g)
leads n k (w_right a equal B) b g = leads_right n a equal B b g
leads n k (w_right a not_equal B) b g = leads_right n a not_equal B b g
leads n k (w_right a less_or_equal B) b g = leads_right n a less_or_equal B b g
leads n k (w_right a greater_or_equal B) b g = leads_right n a greater_or_equal B b g
leads n k (w_right a (cmp_blank c d) B) b g = leads_right n a (cmp_blank c d) B b g
leads n k (w_group u B) b g = on_test (Leads n (written (w_group u B)) b) (is_blank b) _ _ (λ q. (w_group (group_blank u b) B, refl, simp append_assoc, ((g.0, q), g.1, g.2)))
    (λ _. leads_end n (grouped u) B b (written (w_group u B)) refl g.0 g.1 g.2 refl)
leads n k (w_link links.A t B) b g = leads_letter n links.A links.An 110 t B b refl g
leads n k (w_link links.An t B) b g = leads_letter n links.An links.And 100 t B b refl g
leads n k (w_link links.O t B) b g = leads_letter n links.O links.Or 114 t B b refl g
leads n k (w_link links.And t B) b g = on_test (Leads n (written (w_link links.And t B)) b) (is_word_byte b) _ _ (λ _. tt) (λ q. leads_and n t B b g q)
leads n k (w_link links.Or t B) b g = on_test (Leads n (written (w_link links.Or t B)) b) (is_word_byte b) _ _ (λ _. tt) (λ q. leads_or n t B b g q)
