-- JSON values of texts and whole numbers: their compact text reads as they are.
use Rattle.std.proofs.Common.{◌≡◌, ℕ, ◌<◌, ◌≤◌, ◌^◌, Bool, true, false, List, [], ◌∷◌, Option, Some, option_map, option_and_then, Less, Greater, nat_cmp, refl, ap, sym, ◌∙◌, arith, append-nil}
use Rattle.std.specs.Prelude.{⊤}
use Rattle.std.specs.Cmp.Lexicographic.{slice_cmp}
use Rattle.std.specs.Ordering.{ordering_reverse}
use Rattle.std.specs.Str.{IsUtf8}
use Rattle.std.proofs.lemmas.Cmp.{nat_list_cmp_total}
use Rattle.std.specs.Fmt.{decimal}
use Rattle.std.proofs.lemmas.Fmt.{IsAscii-decimal}
use Rattle.std.proofs.lemmas.Str.{IsUtf8-nil, IsUtf8-append, IsUtf8-from_ascii}
use Rattle.json.proofs.Printed.Decimals.{IsNumber-decimal}
use Rattle.serde_json.proofs.Numbers.{number_of-decimal}
use Rattle.json.specs.Token.{Token}
use Rattle.json.specs.Lex.{tokens}
use Rattle.json.specs.Json as json
use Rattle.json.specs.Tree as tree
use Rattle.json.proofs.Printed.Tokens.{tokens-print}
use Rattle.json.proofs.Printed.Trees.{value-json_tokens, ArePrintable-json_tokens}
use Rattle.json.proofs.Printed.Utf8.{IsUtf8-are_ascii, IsUtf8-quoted}
use Rattle.serde_json.specs.Data.{Num, unsigned, negative, float, Data, null, boolean, number, string, array, object, Items, no_items, item, Members, no_members, member, put, depth, items_depth, members_depth}
use Rattle.serde_json.specs.Read.{of_json, of_items, of_members, max_depth}
use Rattle.serde_json.specs.Written.{outline, items_outline, members_outline, comma_if, compact_text, items_text, members_text}
use Rattle.serde_json.proofs.Texts.{print-outline}
use Rattle.iris_json.specs.Lines.{IsJson}

-- the keys of all these members are greater
abbrev pub KeysAfter : List ℕ → Members → Type 0
KeysAfter key no_members = ⊤
KeysAfter key (member k d ms) = (slice_cmp nat_cmp key k ≡ Less) × KeysAfter key ms

-- a whole number that a `u64` holds
abbrev pub IsWholeNumber : Num → Type 0
IsWholeNumber (unsigned n) = n < 2 ^ 64
IsWholeNumber (negative z) = ⊥
IsWholeNumber (float x) = ⊥

-- a value of texts and whole numbers, whose objects have each key once, in the order of their bytes
abbrev mutual
  pub IsOfTexts : Data → Type 0
  IsOfTexts null = ⊥
  IsOfTexts (boolean b) = ⊥
  IsOfTexts (number n) = IsWholeNumber n
  IsOfTexts (string s) = IsUtf8 s
  IsOfTexts (array ds) = AreOfTexts ds
  IsOfTexts (object ms) = HasTexts ms

  pub AreOfTexts : Items → Type 0
  AreOfTexts no_items = ⊤
  AreOfTexts (item d ds) = IsOfTexts d × AreOfTexts ds

  pub HasTexts : Members → Type 0
  HasTexts no_members = ⊤
  HasTexts (member k d ms) = IsUtf8 k × IsOfTexts d × KeysAfter k ms × HasTexts ms

-- ---- its text is UTF-8

utf8-comma : (later : Bool) → IsUtf8 (comma_if later)
utf8-comma true = IsUtf8-are_ascii (44 ∷ []) refl
utf8-comma false = IsUtf8-nil

mutual
  utf8 : (d : Data) → IsOfTexts d → IsUtf8 (compact_text d)
  utf8 null h = absurd h
  utf8 (boolean b) h = absurd h
  utf8 (number (unsigned n)) h = IsUtf8-from_ascii (decimal n) (IsAscii-decimal n h)
  utf8 (number (negative z)) h = absurd h
  utf8 (number (float x)) h = absurd h
  utf8 (string s) h = IsUtf8-quoted s h
  utf8 (array ds) h = IsUtf8-append (91 ∷ []) _ (IsUtf8-are_ascii (91 ∷ []) refl) (utf8-items false ds h)
  utf8 (object ms) h = IsUtf8-append (123 ∷ []) _ (IsUtf8-are_ascii (123 ∷ []) refl) (utf8-members false ms h)

  utf8-items : (later : Bool) (ds : Items) → AreOfTexts ds → IsUtf8 (items_text later ds)
  utf8-items later no_items h = IsUtf8-are_ascii (93 ∷ []) refl
  utf8-items later (item d ds) h = IsUtf8-append (comma_if later) _ (utf8-comma later) (IsUtf8-append _ _ (utf8 d h.0) (utf8-items true ds h.1))

  utf8-members : (later : Bool) (ms : Members) → HasTexts ms → IsUtf8 (members_text later ms)
  utf8-members later no_members h = IsUtf8-are_ascii (125 ∷ []) refl
  utf8-members later (member k d ms) h =
      let rest = IsUtf8-append _ _ (utf8 d h.1) (utf8-members true ms h.3) in
      let after = IsUtf8-append (58 ∷ []) _ (IsUtf8-are_ascii (58 ∷ []) refl) rest in
      IsUtf8-append (comma_if later) _ (utf8-comma later) (IsUtf8-append _ _ (IsUtf8-quoted k h.0) after)

-- ---- its tokens are lexed

mutual
  numbers : (d : Data) → IsOfTexts d → tree.HasNumbers (outline d)
  numbers null h = absurd h
  numbers (boolean b) h = absurd h
  numbers (number (unsigned n)) h = IsNumber-decimal n h
  numbers (number (negative z)) h = absurd h
  numbers (number (float x)) h = absurd h
  numbers (string s) h = tt
  numbers (array ds) h = numbers-items ds h
  numbers (object ms) h = numbers-members ms h

  numbers-items : (ds : Items) → AreOfTexts ds → tree.ItemsHaveNumbers (items_outline ds)
  numbers-items no_items h = tt
  numbers-items (item d ds) h = (numbers d h.0, numbers-items ds h.1)

  numbers-members : (ms : Members) → HasTexts ms → tree.MembersHaveNumbers (members_outline ms)
  numbers-members no_members h = tt
  numbers-members (member k d ms) h = (numbers d h.1, numbers-members ms h.3)

mutual
  deep : (d : Data) → tree.depth (outline d) ≡ depth d
  deep null = refl
  deep (boolean b) = refl
  deep (number n) = refl
  deep (string s) = refl
  deep (array ds) = rw (deep-items ds) refl
  deep (object ms) = rw (deep-members ms) refl

  deep-items : (ds : Items) → tree.items_depth (items_outline ds) ≡ items_depth ds
  deep-items no_items = refl
  deep-items (item d ds) = rw (deep d, deep-items ds) refl

  deep-members : (ms : Members) → tree.members_depth (members_outline ms) ≡ members_depth ms
  deep-members no_members = refl
  deep-members (member k d ms) = rw (deep d, deep-members ms) refl

-- ---- members whose keys rise go in at the end

abbrev joined : Members → Members → Members
joined no_members ms = ms
joined (member k d found) ms = member k d (joined found ms)

joined-none : (found : Members) → joined found no_members ≡ found
joined-none no_members = refl
joined-none (member k d found) = ap (member k d) (joined-none found)

joined-more : (found : Members) (k : List ℕ) (d : Data) (ms : Members) → joined (joined found (member k d no_members)) ms ≡ joined found (member k d ms)
joined-more no_members k d ms = refl
joined-more (member l e found) k d ms = ap (member l e) (joined-more found k d ms)

-- the keys of all these members are less
abbrev KeysBefore : Members → List ℕ → Type 0
KeysBefore no_members key = ⊤
KeysBefore (member k d found) key = (slice_cmp nat_cmp k key ≡ Less) × KeysBefore found key

-- than all of those
abbrev AllBefore : Members → Members → Type 0
AllBefore found no_members = ⊤
AllBefore found (member k d ms) = KeysBefore found k × AllBefore found ms

all_before_none : (ms : Members) → AllBefore no_members ms
all_before_none no_members = tt
all_before_none (member k d ms) = (tt, all_before_none ms)

before_push : (found : Members) (k : List ℕ) (d : Data) (key : List ℕ) → KeysBefore found key → slice_cmp nat_cmp k key ≡ Less → KeysBefore (joined found (member k d no_members)) key
before_push no_members k d key h less = (less, tt)
before_push (member l e found) k d key h less = (h.0, before_push found k d key h.1 less)

all_before_push : (found : Members) (k : List ℕ) (d : Data) (ms : Members) → AllBefore found ms → KeysAfter k ms → AllBefore (joined found (member k d no_members)) ms
all_before_push found k d no_members h after = tt
all_before_push found k d (member l e ms) h after = (before_push found k d l h.0 after.0, all_before_push found k d ms h.1 after.1)

put_last : (k : List ℕ) (d : Data) (found : Members) → KeysBefore found k → put k d found ≡ joined found (member k d no_members)
put_last k d no_members h = refl
put_last k d (member l e found) h =
    let above : slice_cmp nat_cmp k l ≡ Greater = nat_list_cmp_total.antisymm k l ∙ ap ordering_reverse h.0 in
    rw above (ap (member l e) (put_last k d found h.1))

-- ---- its outline reads as it is

mutual
  reads : (d : Data) → IsOfTexts d → of_json (outline d) ≡ Some d
  reads null h = absurd h
  reads (boolean b) h = absurd h
  reads (number (unsigned n)) h = ap (option_map number) (number_of-decimal n h)
  reads (number (negative z)) h = absurd h
  reads (number (float x)) h = absurd h
  reads (string s) h = refl
  reads (array ds) h = ap (option_map array) (reads-items ds h)
  reads (object ms) h = ap (option_map object) (reads-members no_members ms (all_before_none ms) h)

  reads-items : (ds : Items) → AreOfTexts ds → of_items (items_outline ds) ≡ Some ds
  reads-items no_items h = refl
  reads-items (item d ds) h = rw (reads d h.0, reads-items ds h.1) refl

  reads-members : (found ms : Members) → AllBefore found ms → HasTexts ms → of_members (members_outline ms) found ≡ Some (joined found ms)
  reads-members found no_members before h = ap Some (sym (joined-none found))
  reads-members found (member k d ms) before h =
      ap (option_and_then (λ (e : Data). of_members (members_outline ms) (put k e found))) (reads d h.1)
      ∙ ap (of_members (members_outline ms)) (put_last k d found before.0)
      ∙ reads-members (joined found (member k d no_members)) ms (all_before_push found k d ms before.1 h.2) h.3
      ∙ ap Some (joined-more found k d ms)

-- the compact text of such a value is the JSON text of it
pub text_is_json : (d : Data) → IsOfTexts d → depth d ≤ max_depth → IsJson (compact_text d) d
text_is_json d h shallow =
    let lexed : tokens (compact_text d) ≡ tree.json_tokens (outline d) =
    ap tokens (sym (print-outline d)) ∙ tokens-print (tree.json_tokens (outline d)) (ArePrintable-json_tokens (outline d) (numbers d h)) in
    let parsed = value-json_tokens (outline d) max_depth [] (omega (arith, deep d, shallow)) in
    let whole : json.value max_depth (tokens (compact_text d)) ≡ Some (outline d, []) = ap (json.value max_depth) (lexed ∙ sym (append-nil (tree.json_tokens (outline d)))) ∙ parsed in
    (utf8 d h, ap (λ (o : Option (json.Json × List Token)). option_and_then of_json (option_and_then (λ p. json.if_last p.0 p.1) o)) whole ∙ reads d h)
