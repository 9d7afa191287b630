-- A plain element that is written reads as it is.
use Rattle.std.proofs.Common.{◌≡◌, ℕ, zero, suc, ◌+◌, ◌≤◌, List, [], ◌∷◌, map, codes, max, inl, Less, nat_cmp, refl, ap, sym, subst, arith}
use Rattle.std.specs.Cmp.Lexicographic.{slice_cmp}
use Rattle.std.specs.List.{AllByRecursion}
use Rattle.std.specs.List.Sorted.{IsStrictlySortedBy}
use Rattle.std.specs.Map.{keys_of}
use Rattle.std.specs.Str.{IsUtf8}
use Rattle.std.proofs.Math.Nat.{max-le}
use Rattle.std.proofs.lemmas.Str.{IsUtf8-from_ascii}
use Rattle.json.proofs.Printed.Utf8.{IsUtf8-are_ascii}
use Rattle.serde_json.specs.Data.{Data, depth, items_depth, members_depth}
use Rattle.serde_json.specs.View.{items_of}
use Rattle.iris_base.specs.declared.limits.TheConstants.{MAX_TAG_BYTES}
use Rattle.iris_base.specs.declared.letters.Letters.{Letters}
use Rattle.iris_base.specs.declared.letters.Letters.TheVariants.{Letter, WordOrDash}
use Rattle.iris_base.specs.Forms.{IsWord}
use Rattle.iris_base.proofs.Words.{word_ascii}
use Rattle.iris_tree.specs.declared.plain.Plain.{Plain}
use Rattle.iris_tree.specs.declared.plain.Plain.TheOpen.{Plain-F}
use Rattle.iris_tree.specs.declared.plain.Plain.TheViews.{out-Plain}
use Rattle.iris_tree.specs.declared.plain.Plain.TheFolds.{fold_out-Plain}
use Rattle.iris_tree.specs.Attrs.{Pairs}
use Rattle.iris_tree.specs.LocalText.{attrs_members, plain_step, plain_data}
use Rattle.iris_tree.specs.PlainCounts.{depth_step, plain_depth, plains_depth}
use Rattle.iris_tree.specs.PlainOrder.{IsCanonicalPlain, AreInTextOrder}
use Rattle.iris_tree.proofs.TextOrder.{already_ordered}
use Rattle.iris_json.specs.PlainForm.{AreNames, IsPlainOwn, IsPlainForm, ArePlainForms}
use Rattle.iris_json.specs.PlainLine.{IsPlain, is_plain, ArePlains, no_plains, more_plains}
use Rattle.iris_json.proofs.PlainReading.{own_plain, kids_plain}
use Rattle.iris_json.proofs.TextValues.{KeysAfter, IsOfTexts, AreOfTexts, HasTexts}

-- ---- attributes

-- a word is text
pub word_texts : (first later : Letters) (most : ℕ) (word : List ℕ) → IsWord first later most word → IsUtf8 word
word_texts first later most word w = IsUtf8-from_ascii word (word_ascii first later most word w)

attrs_after : (name : List ℕ) (pairs : Pairs) → AllByRecursion (λ y. slice_cmp nat_cmp name y ≡ Less) (keys_of pairs) → KeysAfter name (attrs_members pairs)
attrs_after name [] h = tt
attrs_after name (p ∷ pairs) h = (h.0, attrs_after name pairs h.1)

-- attributes are texts, with their names in order
pub attrs_texts : (pairs : Pairs) → AreNames pairs → AllByRecursion (λ p. IsUtf8 p.1) pairs → IsStrictlySortedBy (slice_cmp nat_cmp) (keys_of pairs) → HasTexts (attrs_members pairs)
unfolding IsStrictlySortedBy
attrs_texts [] named utf8 rise = tt
attrs_texts (p ∷ pairs) named utf8 rise = (word_texts Letter WordOrDash MAX_TAG_BYTES p.0 named.0, utf8.0, attrs_after p.0 pairs rise.0, attrs_texts pairs named.1 utf8.1 rise.1)

-- and no lists
pub attrs_depth : (pairs : Pairs) → members_depth (attrs_members pairs) ≡ 0
attrs_depth [] = refl
attrs_depth (p ∷ pairs) = rw (attrs_depth pairs) refl

-- ---- an element by its kids

-- an element as it is written, with its kids as they are written
abbrev written : Plain → Plain-F Data
written p = record { tag = (out-Plain p).tag; attrs = (out-Plain p).attrs; text = (out-Plain p).text; kids = map plain_data (out-Plain p).kids }

plain_is : (p : Plain) → plain_data p ≡ plain_step (written p)
plain_is p = fold_out-Plain Data plain_step p

-- it has one level more than its kids
depth_is : (p : Plain) → plain_depth p ≡ 1 + plains_depth (out-Plain p).kids
depth_is p = fold_out-Plain ℕ depth_step p

-- ---- it reads as it is

step_reads : (p : Plain) → IsPlainOwn (out-Plain p) → AreInTextOrder (out-Plain p).kids → ArePlains (items_of (map plain_data (out-Plain p).kids)) (out-Plain p).kids → IsPlain (plain_step (written p)) p
unfolding plain_step
step_reads p own rise are =
    is_plain (plain_step (written p)) p (items_of (map plain_data (out-Plain p).kids)) (out-Plain p).kids
    (record { only = refl; tag_at = refl; is_tag = own.tag; attrs_at = (inl refl, own.names); text_at = inl refl }) (inl refl) are (sym (already_ordered (out-Plain p).kids rise)) own.apart

abbrev Reads : ℕ → Type 0
Reads levels = (p : Plain) → plain_depth p ≤ levels → IsPlainForm p → IsCanonicalPlain p → IsPlain (plain_data p) p

all_read : (levels : ℕ) → Reads levels → (ps : List Plain) → plains_depth ps ≤ levels → ArePlainForms ps → AllByRecursion IsCanonicalPlain ps → ArePlains (items_of (map plain_data ps)) ps
all_read levels reads [] few form canonical = no_plains
all_read levels reads (p ∷ ps) few form canonical =
    more_plains (plain_data p) p (items_of (map plain_data ps)) ps (reads p (omega (arith, few)) form.0 canonical.0) (all_read levels reads ps (omega (arith, few)) form.1 canonical.1)

plain_reads : (levels : ℕ) → Reads levels
plain_reads zero p few form canonical = absurd (omega (arith, few, depth_is p))
plain_reads (suc levels) p few form canonical =
    let kids = all_read levels (plain_reads levels) (out-Plain p).kids (omega (arith, few, depth_is p)) (kids_plain (λ q. IsPlainOwn (out-Plain q)) p form) (kids_plain (λ q. AreInTextOrder (out-Plain q).kids) p canonical) in
    subst (λ (d : Data). IsPlain d p) (sym (plain_is p)) (step_reads p (own_plain (λ q. IsPlainOwn (out-Plain q)) p form) (own_plain (λ q. AreInTextOrder (out-Plain q).kids) p canonical) kids)

-- elements that are written read as they are
pub plains_read : (levels : ℕ) (ps : List Plain) → plains_depth ps ≤ levels → ArePlainForms ps → AllByRecursion IsCanonicalPlain ps → ArePlains (items_of (map plain_data ps)) ps
plains_read levels = all_read levels (plain_reads levels)

-- ---- it is of texts

step_texts : (p : Plain) → IsPlainOwn (out-Plain p) → AreOfTexts (items_of (map plain_data (out-Plain p).kids)) → IsOfTexts (plain_step (written p))
unfolding plain_step
step_texts p own kids = (
  IsUtf8-are_ascii (codes "attrs") refl,
  attrs_texts (out-Plain p).attrs own.names own.texts.utf8 own.texts.rise,
  (refl, (refl, (refl, tt))),
  (
    IsUtf8-are_ascii (codes "kids") refl,
    kids,
    (refl, (refl, tt)),
    (IsUtf8-are_ascii (codes "tag") refl, word_texts Letter WordOrDash MAX_TAG_BYTES (out-Plain p).tag own.tag, (refl, tt), (IsUtf8-are_ascii (codes "text") refl, own.utf8, tt, tt)),
  ),
)

abbrev HaveTexts : ℕ → Type 0
HaveTexts levels = (p : Plain) → plain_depth p ≤ levels → IsPlainForm p → IsOfTexts (plain_data p)

all_texts : (levels : ℕ) → HaveTexts levels → (ps : List Plain) → plains_depth ps ≤ levels → ArePlainForms ps → AreOfTexts (items_of (map plain_data ps))
all_texts levels have [] few form = tt
all_texts levels have (p ∷ ps) few form = (have p (omega (arith, few)) form.0, all_texts levels have ps (omega (arith, few)) form.1)

plain_texts : (levels : ℕ) → HaveTexts levels
plain_texts zero p few form = absurd (omega (arith, few, depth_is p))
plain_texts (suc levels) p few form =
    let kids = all_texts levels (plain_texts levels) (out-Plain p).kids (omega (arith, few, depth_is p)) (kids_plain (λ q. IsPlainOwn (out-Plain q)) p form) in
    subst IsOfTexts (sym (plain_is p)) (step_texts p (own_plain (λ q. IsPlainOwn (out-Plain q)) p form) kids)

-- elements are written as texts
pub plains_texts : (levels : ℕ) (ps : List Plain) → plains_depth ps ≤ levels → ArePlainForms ps → AreOfTexts (items_of (map plain_data ps))
plains_texts levels = all_texts levels (plain_texts levels)

-- ---- it nests little

step_nests : (p : Plain) (most : ℕ) → items_depth (items_of (map plain_data (out-Plain p).kids)) ≤ most → depth (plain_step (written p)) ≤ suc (suc most)
unfolding plain_step
step_nests p most kids =
    let inner : max (suc (members_depth (attrs_members (out-Plain p).attrs))) (max (suc (items_depth (items_of (map plain_data (out-Plain p).kids)))) (max 0 (max 0 0))) ≤ suc most =
    max-le (omega (arith, attrs_depth (out-Plain p).attrs)) (max-le (omega (arith, kids)) (omega arith)) in
    omega (arith, inner)

abbrev Nest : ℕ → Type 0
Nest levels = (p : Plain) → plain_depth p ≤ levels → depth (plain_data p) ≤ levels + levels

all_nest : (levels : ℕ) → Nest levels → (ps : List Plain) → plains_depth ps ≤ levels → items_depth (items_of (map plain_data ps)) ≤ levels + levels
all_nest levels nests [] few = omega arith
all_nest levels nests (p ∷ ps) few = max-le (nests p (omega (arith, few))) (all_nest levels nests ps (omega (arith, few)))

plain_nests : (levels : ℕ) → Nest levels
plain_nests zero p few = absurd (omega (arith, few, depth_is p))
plain_nests (suc levels) p few =
    let kids = all_nest levels (plain_nests levels) (out-Plain p).kids (omega (arith, few, depth_is p)) in
    let two : depth (plain_step (written p)) ≤ suc (suc (levels + levels)) = step_nests p (levels + levels) kids in
    omega (arith, two, ap depth (plain_is p))

-- elements nest twice as deep as their levels
pub plains_nest : (levels : ℕ) (ps : List Plain) → plains_depth ps ≤ levels → items_depth (items_of (map plain_data ps)) ≤ levels + levels
plains_nest levels = all_nest levels (plain_nests levels)
