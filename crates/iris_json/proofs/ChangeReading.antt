-- From a list of values to changes.
use Rattle.std.proofs.Common.{◌≡◌, ℕ, zero, suc, ◌+◌, ◌<◌, ◌≤◌, false, codes, bytes_eq, List, [], ◌∷◌, ◌++◌, length, take, get_or, Some, refl, ap, sym, ◌∙◌, subst, arith, ◌≢◌}
use Rattle.std.proofs.lemmas.List.{take_more, take_all}
use Rattle.serde_json.specs.declared.value.Value.{Value}
use Rattle.serde_json.specs.Data.{Data, string, array, Items, no_items, item}
use Rattle.serde_json.specs.Find.{as_array}
use Rattle.serde_json.specs.View.{view, items_view}
use Rattle.iris_base.specs.declared.limits.TheConstants.{MAX_CHANGES}
use Rattle.iris_tree.specs.declared.change.Change.{Change}
use Rattle.iris_tree.specs.declared.change.Change.TheVariants.{Attr, Drop, Put}
use Rattle.iris_tree.specs.declared.plain.Plain.{Plain}
use Rattle.iris_json.specs.declared.line.LineError.{LineError}
use Rattle.iris_json.specs.declared.line.LineError.TheVariants.{NotJson, BadLine, Memory}
use Rattle.iris_json.specs.declared.line.LineWhy.{LineWhy}
use Rattle.iris_json.specs.ChangeLine.{pair_data, triple_data, IsChange, AreChanges, AreLineChanges}
use Rattle.iris_json.specs.Lines.{RefusesLinePart}
use Rattle.iris_json.specs.PlainLine.{IsPlain}
use Rattle.iris_json.proofs.MemberKeys.{differ}
use Rattle.iris_json.proofs.PlainReading.{plain_once}

-- what is refused for want of one thing is refused for want of another that has it
pub refused_too : (why : LineWhy) (A B : Type 0) (e : LineError) → (A → B) → RefusesLinePart why A e → RefusesLinePart why B e
refused_too why A B NotJson f h = absurd h
refused_too why A B (BadLine w) f h = (h.0, f h.1)
refused_too why A B Memory f h = tt

-- ---- lists that are no change

two_parts : (vs : List Value) (a b : Data) → items_view vs ≡ item a (item b no_items) → length vs ≡ 2
two_parts [] a b same = absurd (cc)
two_parts (x ∷ []) a b same = absurd (cc)
two_parts (x ∷ y ∷ []) a b same = refl
two_parts (x ∷ y ∷ z ∷ vs) a b same = absurd (cc)

three_parts : (vs : List Value) (a b c : Data) → items_view vs ≡ item a (item b (item c no_items)) → length vs ≡ 3
three_parts [] a b c same = absurd (cc)
three_parts (x ∷ []) a b c same = absurd (cc)
three_parts (x ∷ y ∷ []) a b c same = absurd (cc)
three_parts (x ∷ y ∷ z ∷ []) a b c same = refl
three_parts (x ∷ y ∷ z ∷ w ∷ vs) a b c same = absurd (cc)

list_is : (d : Data) (vs : List Value) (items : Items) → Some (items_view vs) ≡ as_array d → d ≡ array items → items_view vs ≡ items
list_is d vs items at is = let both : Some (items_view vs) ≡ as_array (array items) = at ∙ ap as_array is in cc

-- a list that is no change: it has two parts or three
pub no_change : (d : Data) (vs : List Value) (c : Change) → Some (items_view vs) ≡ as_array d → length vs ≢ 2 → length vs ≢ 3 → IsChange d c → ⊥
no_change d vs (Attr n v) at two three is = three (three_parts vs (string (codes "attr")) (string n) (string v) (list_is d vs _ at is.0))
no_change d vs (Drop n) at two three is = two (two_parts vs (string (codes "drop")) (string n) (list_is d vs _ at is.0))
no_change d vs (Put p) at two three is = two (two_parts vs (string (codes "put")) is.0 (list_is d vs _ at is.1))

-- a list of two parts whose word is neither of the two
pub no_word : (w other : Data) (c : Change) → (w ≡ string (codes "drop") → ⊥) → (w ≡ string (codes "put") → ⊥) → IsChange (pair_data w other) c → ⊥
no_word w other (Attr n v) drop put is = let apart = is.0 in absurd (cc)
no_word w other (Drop n) drop put is = drop (cc is.0)
no_word w other (Put p) drop put is = put (cc is.1)

-- a list of three parts whose word is not the one
pub no_attr : (w name text : Data) (c : Change) → (w ≡ string (codes "attr") → ⊥) → IsChange (triple_data w name text) c → ⊥
no_attr w name text (Attr n v) attr is = attr (cc is.0)
no_attr w name text (Drop n) attr is = let apart = is.0 in absurd (cc)
no_attr w name text (Put p) attr is = let apart = is.1 in absurd (cc)

words_apart : (v w : List ℕ) (a b d : Data) → bytes_eq v w ≡ false → d ≡ pair_data (string v) a → d ≡ pair_data (string w) b → ⊥
words_apart v w a b d apart one other = let same : v ≡ w = cc (one, other) in differ v w same apart

-- ---- a value is one change at most

change_once : (d : Data) (x y : Change) → IsChange d x → IsChange d y → x ≡ y
change_once d (Attr n v) (Attr m w) h k =
    let first : n ≡ m = cc (h.0, k.0) in
    let second : v ≡ w = cc (h.0, k.0) in
    ap (λ (x : List ℕ). Attr x v) first ∙ ap (λ (x : List ℕ). Attr m x) second
change_once d (Attr n v) (Drop m) h k = absurd (cc (h.0, k.0))
change_once d (Attr n v) (Put q) h k = absurd (cc (h.0, k.1))
change_once d (Drop n) (Attr m w) h k = absurd (cc (h.0, k.0))
change_once d (Drop n) (Drop m) h k = let first : n ≡ m = cc (h.0, k.0) in ap (λ (x : List ℕ). Drop x) first
change_once d (Drop n) (Put q) h k = absurd (words_apart (codes "drop") (codes "put") (string n) k.0 d refl h.0 k.1)
change_once d (Put p) (Attr m w) h k = absurd (cc (h.1, k.0))
change_once d (Put p) (Drop m) h k = absurd (words_apart (codes "put") (codes "drop") h.0 (string m) d refl h.1 k.0)
change_once d (Put p) (Put q) h k =
    let values : k.0 ≡ h.0 = cc (h.1, k.1) in
    ap (λ (x : Plain). Put x) (plain_once h.0 p q h.2 (subst (λ (v : Data). IsPlain v q) values k.2))

changes_once : (items : Items) (xs ys : List Change) → AreChanges items xs → AreChanges items ys → xs ≡ ys
changes_once no_items [] [] h k = refl
changes_once no_items [] (y ∷ ys) h k = absurd k
changes_once no_items (x ∷ xs) ys h k = absurd h
changes_once (item d items) [] ys h k = absurd h
changes_once (item d items) (x ∷ xs) [] h k = absurd k
changes_once (item d items) (x ∷ xs) (y ∷ ys) h k = rw (change_once d x y h.0 k.0, changes_once items xs ys h.1 k.1) refl

-- a list is one of changes at most
pub line_changes_once : (items others : Items) (xs ys : List Change) → items ≡ others → AreLineChanges items xs → AreLineChanges others ys → xs ≡ ys
line_changes_once items others xs ys same h k = changes_once items xs ys h.are (subst (λ (i : Items). AreChanges i ys) (sym same) k.are)

-- ---- lists of changes

changes_len : (vs : List Value) (cs : List Change) → AreChanges (items_view vs) cs → length cs ≡ length vs
changes_len [] [] are = refl
changes_len [] (c ∷ cs) are = absurd are
changes_len (v ∷ vs) [] are = absurd are
changes_len (v ∷ vs) (c ∷ cs) are = ap suc (changes_len vs cs are.1)

-- the value at a place of the list is a change
change_at : (vs : List Value) (cs : List Change) (i : ℕ) (v : Value) → AreChanges (items_view vs) cs → i < length vs → v ≡ get_or vs i v → (c : Change) × IsChange (view v) c
change_at [] cs i v are within is = absurd (omega (arith, within))
change_at (w ∷ vs) [] i v are within is = absurd are
change_at (w ∷ vs) (c ∷ cs) zero v are within is = (c, subst (λ (x : Value). IsChange (view x) c) (sym is) are.0)
change_at (w ∷ vs) (c ∷ cs) (suc i) v are within is = change_at vs cs i v are.1 (omega (arith, within)) is

one_more : (vs : List Value) (cs : List Change) (v : Value) (c : Change) → AreChanges (items_view vs) cs → IsChange (view v) c → AreChanges (items_view (vs ++ v ∷ [])) (cs ++ c ∷ [])
one_more [] [] v c are is = (is, tt)
one_more [] (d ∷ cs) v c are is = absurd are
one_more (w ∷ vs) [] v c are is = absurd are
one_more (w ∷ vs) (d ∷ cs) v c are is = (are.0, one_more vs cs v c are.1 is)

-- the first i of these values are changes
abbrev pub ChangesSo : List Value → ℕ → List Change → Type 0
ChangesSo items i changes = AreChanges (items_view (take i items)) changes

pub so_start : (items : List Value) (changes : List Change) → changes ≡ [] → ChangesSo items 0 changes
so_start items [] none = tt
so_start items (c ∷ changes) none = absurd (cc)

-- one change more
pub so_step : (items : List Value) (i : ℕ) (changes : List Change) → ChangesSo items i changes → (v : Value) → i < length items → v ≡ get_or items i v → (c : Change) → IsChange (view v) c
    → (new : List Change) → new ≡ changes ++ c ∷ [] → ChangesSo items (i + 1) new
so_step items i changes s v within is c read new made =
    let items_are : take i items ++ v ∷ [] ≡ take (i + 1) items = ap (λ (x : Value). take i items ++ x ∷ []) is ∙ sym (take_more items i v within) in
    subst (λ (cs : List Change). AreChanges (items_view (take (i + 1) items)) cs) (sym made) (subst (λ (vs : List Value). AreChanges (items_view vs) (changes ++ c ∷ [])) items_are (one_more (take i items) changes v c s read))

-- all of the values are changes
pub so_found : (items : List Value) (i : ℕ) (changes : List Change) → ChangesSo items i changes → length items ≤ i → 0 < length items → length items ≤ MAX_CHANGES → AreLineChanges (items_view items) changes
so_found items i changes s end some few =
    let are = subst (λ (vs : List Value). AreChanges (items_view vs) changes) (take_all i items end) s in
    let len = changes_len items changes are in
    record { are = are; some = omega (arith, len, some); few = omega (arith, len, few) }

-- ---- of a list that is one of changes

pub are_len : (items : List Value) (changes : List Change) → AreLineChanges (items_view items) changes → (length changes ≡ length items) × (0 < length items) × (length items ≤ MAX_CHANGES)
are_len items changes are =
    let len = changes_len items changes are.are in
    (len, omega (arith, len, are.some), omega (arith, len, are.few))

pub are_each : (items : List Value) (changes : List Change) (i : ℕ) (v : Value) → i < length items → v ≡ get_or items i v → AreLineChanges (items_view items) changes → (c : Change) × IsChange (view v) c
are_each items changes i v within is are = change_at items changes i v are.are within is
