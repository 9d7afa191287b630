-- From two texts to a label.
use Rattle.std.proofs.Common.{◌≡◌, ℕ, zero, suc, ◌<◌, Bool, true, false, true≢false, List, [], ◌∷◌, length, get_or, Option, Some, None, option_and_then, if◌then◌else◌, refl, ap, sym, ◌∙◌, subst, arith, bytes_eq}
use Rattle.std.specs.List.{find, Contains}
use Rattle.std.proofs.lemmas.Slice.Eq.{bytes_eq-Decides}
use Rattle.serde_json.specs.Data.{Data, null, boolean, number, string, array, object}
use Rattle.serde_json.specs.Find.{as_str}
use Rattle.iris_base.specs.declared.name.Label.{Label}
use Rattle.iris_base.specs.Forms.{IsId}

-- a text at a key is a string there
text_there : (o : Option Data) (text : List ℕ) → Some text ≡ option_and_then as_str o → o ≡ Some (string text)
text_there None text h = absurd (cc)
text_there (Some null) text h = absurd (cc)
text_there (Some (boolean b)) text h = absurd (cc)
text_there (Some (number n)) text h = absurd (cc)
text_there (Some (string s)) text h = cc
text_there (Some (array ds)) text h = absurd (cc)
text_there (Some (object ms)) text h = absurd (cc)

found_step : (k : List ℕ) (kinds : List (List ℕ)) (word kind : List ℕ) (b : Bool) → bytes_eq k word ≡ b → Some kind ≡ (if b then Some k else find (λ k. bytes_eq k word) kinds)
    → (Some kind ≡ find (λ k. bytes_eq k word) kinds → (kind ≡ word) × Contains kinds kind) → (kind ≡ word) × Contains (k ∷ kinds) kind
found_step k kinds word kind true is e rest = let here : kind ≡ k = cc in (here ∙ (bytes_eq-Decides k word).0 is, (0, omega arith, sym here))
found_step k kinds word kind false is e rest = let later = rest e in (later.0, (suc later.1.0, omega (arith, later.1.1), later.1.2))

-- the kind that was found is the word
found_kind : (kinds : List (List ℕ)) (word kind : List ℕ) → Some kind ≡ find (λ k. bytes_eq k word) kinds → (kind ≡ word) × Contains kinds kind
found_kind [] word kind h = absurd (cc)
found_kind (k ∷ kinds) word kind h = found_step k kinds word kind (bytes_eq k word) refl h (λ e. found_kind kinds word kind e)

missing_step : (k : List ℕ) (kinds : List (List ℕ)) (word : List ℕ) (b : Bool) → bytes_eq k word ≡ b → None ≡ (if b then Some k else find (λ k. bytes_eq k word) kinds)
    → (None ≡ find (λ k. bytes_eq k word) kinds → Contains kinds word → ⊥) → (i : ℕ) → i < length (k ∷ kinds) → get_or (k ∷ kinds) i word ≡ word → ⊥
missing_step k kinds word true is e rest i within at = cc
missing_step k kinds word false is e rest zero within at = true≢false (sym ((bytes_eq-Decides k word).1 at) ∙ is)
missing_step k kinds word false is e rest (suc i) within at = rest e (i, omega (arith, within), at)

-- a word among the kinds is found
kind_missing : (kinds : List (List ℕ)) (word : List ℕ) → None ≡ find (λ k. bytes_eq k word) kinds → Contains kinds word → ⊥
kind_missing [] word h at = omega (arith, at.1)
kind_missing (k ∷ kinds) word h at = missing_step k kinds word (bytes_eq k word) refl h (λ e has. kind_missing kinds word e has) at.0 at.1 at.2

-- what was read is the label
pub label_found : (kinds : List (List ℕ)) (a b : Option Data) (word id kind made : List ℕ) → Some word ≡ option_and_then as_str a → Some id ≡ option_and_then as_str b → Some kind ≡ find (λ k. bytes_eq k word) kinds → made ≡ id → IsId id
    → (a ≡ Some (string kind)) × (b ≡ Some (string made)) × Contains kinds kind × IsId made
label_found kinds a b word id kind made at_kind at_id found is form =
    let named = found_kind kinds word kind found in (
      text_there a word at_kind ∙ ap (λ (w : List ℕ). Some (string w)) (sym named.0),
      text_there b id at_id ∙ ap (λ (w : List ℕ). Some (string w)) (sym is),
      named.1,
      subst IsId (sym is) form,
    )

-- there is no other label
pub label_only : (kinds : List (List ℕ)) (a b : Option Data) (word id kind made : List ℕ) → Some word ≡ option_and_then as_str a → Some id ≡ option_and_then as_str b → Some kind ≡ find (λ k. bytes_eq k word) kinds → made ≡ id
    → (label : Label) → (a ≡ Some (string label.kind)) × (b ≡ Some (string label.id)) × Contains kinds label.kind × IsId label.id
    → ◌≡◌ {A = Label} (record { kind = kind; id = made }) label
label_only kinds a b word id kind made at_kind at_id found is label has =
    let named = found_kind kinds word kind found in
    let first : kind ≡ label.kind = named.0 ∙ same_text a word label.kind at_kind has.0 in
    let second : made ≡ label.id = is ∙ same_text b id label.id at_id has.1 in
    ap (λ (k : List ℕ). record { kind = k; id = made }) first ∙ ap (λ (i : List ℕ). record { kind = label.kind; id = i }) second
  where
    same_text : (o : Option Data) (text other : List ℕ) → Some text ≡ option_and_then as_str o → o ≡ Some (string other) → text ≡ other
    same_text o text other h is = let e = text_there o text h in cc

-- a label has a kind that is found
pub label_missing : (kinds : List (List ℕ)) (a : Option Data) (word kind : List ℕ) → Some word ≡ option_and_then as_str a → None ≡ find (λ k. bytes_eq k word) kinds → a ≡ Some (string kind) → Contains kinds kind → ⊥
label_missing kinds a word kind at_kind missing is has =
    let e = text_there a word at_kind in
    let same : kind ≡ word = cc in
    kind_missing kinds word missing (subst (Contains kinds) same has)
