-- Reading from the left finds just the texts of names.
use Rattle.std.proofs.Common.{◌≡◌, ℕ, ◌+◌, ◌<◌, ◌≤◌, Bool, true, false, cond, ◌&&◌, nat_lt, ◌==◌, ◌⊎◌, inl, inr, Option, Some, None, Result, Ok, Err, IfOk, IfErr, MatchResult, List, [], ◌∷◌, ◌++◌, length, reverse, get_or, take, drop, refl, ap, sym, ◌∙◌, subst, arith, length-append, append_assoc}
use Rattle.std.specs.Option.{option_and_then}
use Rattle.std.proofs.lemmas.Bool.{ltb-true, lt-ltb, eqb-true}
use Rattle.std.proofs.lemmas.List.{append-nil, reverse-append, take_more, take-append-drop, take_all, length-reverse, reverse-reverse}
use Rattle.std.proofs.Math.ListN.{get_or-append}
use Rattle.std.proofs.Math.Seq.{get_or-append_seam}
use Rattle.std.proofs.lemmas.Option.{same_Some}
use Rattle.std.proofs.lemmas.Result.{IfOk-weaker, IfErr-weaker}
use Rattle.iris_base.specs.declared.name.Label.{Label}
use Rattle.iris_base.specs.declared.letters.TheConstants.{DASH, DOT}
use Rattle.iris_base.specs.declared.limits.TheConstants.{MAX_KIND_BYTES, MAX_ID_BYTES, MAX_LABELS}
use Rattle.iris_base.specs.declared.letters.Letters.{Letters}
use Rattle.iris_base.specs.declared.letters.Letters.TheVariants.{Lower, Word}
use Rattle.iris_base.specs.Letters.{has, allows}
use Rattle.iris_base.specs.Forms.{IsWord, IsKind}
use Rattle.iris_base.specs.Stops.{Begins, StopsAt}
use Rattle.iris_base.specs.NameText.{label_text, dotted, name_text, IsLabel, AreLabels, IsName, IsNameText}
use Rattle.iris_base.specs.declared.error.NameError.{NameError}
use Rattle.iris_base.specs.declared.error.NameError.TheVariants.{BadName, Memory}
use Rattle.iris_base.specs.Refuses.{RefusesName}
use Rattle.iris_base.specs.NameReader.{Reading, start, letters_of, max_bytes_of, takes, ends, close, step, run, IsFront, IsReadKind, IsReading, Finishes, Unfinished}
use Rattle.iris_base.proofs.Labels.{both}
use Rattle.iris_base.proofs.NameTexts.{dotted-append}

-- what has been read, as text
abbrev pub spelled_part : Option (List ℕ) → List ℕ → List ℕ
spelled_part None part = part
spelled_part (Some kind) part = kind ++ DASH ∷ part

abbrev pub spelled : Reading → List ℕ
spelled r = dotted r.done ++ spelled_part r.kind r.part

-- which way a test went
chosen : {A : Type 0} (b : Bool) (x y z : A) → cond b x y ≡ z → ((b ≡ true) × (x ≡ z)) ⊎ ((b ≡ false) × (y ≡ z))
chosen true x y z h = inl (refl, h)
chosen false x y z h = inr (refl, h)

-- one more byte in a part
longer : (set : Letters) (most : ℕ) (part : List ℕ) (b : ℕ) → IsFront set most part → takes set most part b ≡ true → IsFront set most (part ++ b ∷ [])
unfolding takes
longer set most part b front h =
    let parts = both _ _ h in
    let room : length part < most = ltb-true _ _ parts.0 in
    let len : length (part ++ b ∷ []) ≡ length part + 1 = simp length-append (omega arith) in
    record {
      fits = omega arith;
      each = λ k less. at k (less_or k (omega arith));
    }
  where
    less_or : (k : ℕ) → k < length part + 1 → (k < length part) ⊎ (k ≡ length part)
    less_or k h = grind arith

    at : (k : ℕ) → (k < length part) ⊎ (k ≡ length part) → allows set set k (get_or (part ++ b ∷ []) k 0) ≡ true
    at k (inl less) = subst (λ (c : ℕ). allows set set k c ≡ true) (sym (get_or-append part (b ∷ []) 0 k less)) (front.each k less)
    at k (inr same) =
        let here : allows set set (length part) b ≡ true = (both (nat_lt (length part) most) (allows set set (length part) b) h).1 in
        let seam : allows set set (length part) (get_or (part ++ b ∷ []) (length part) 0) ≡ true
        = subst (λ (c : ℕ). allows set set (length part) c ≡ true) (sym (get_or-append_seam part b [] 0)) here in
        subst (λ (j : ℕ). allows set set j (get_or (part ++ b ∷ []) j 0) ≡ true) (sym same) seam

AreLabels-append : (xs ys : List Label) → AreLabels xs → AreLabels ys → AreLabels (xs ++ ys)
AreLabels-append [] ys h k = k
AreLabels-append (x ∷ xs) ys h k = (h.0, AreLabels-append xs ys h.1 k)

reverse-cons : {A : Type 0} (x : A) (xs : List A) → reverse (x ∷ xs) ≡ reverse xs ++ x ∷ []
reverse-cons x xs = reverse-append (x ∷ []) xs

AreLabels-reverse : (xs : List Label) → AreLabels xs → AreLabels (reverse xs)
AreLabels-reverse [] h = h
AreLabels-reverse (x ∷ xs) h = rw (reverse-cons x xs) (AreLabels-append (reverse xs) (x ∷ []) (AreLabels-reverse xs h.1) (h.0, tt))

-- a part that is not empty is a word
word : (set : Letters) (most : ℕ) (part : List ℕ) → IsFront set most part → 0 < length part → IsWord set set most part
word set most part h some = record { some = some; fits = h.fits; each = h.each }

empty_front : (set : Letters) (most : ℕ) → IsFront set most []
empty_front set most = record { fits = omega arith; each = λ k h. absurd (omega arith) }

-- which way a step went
took : (r t : Reading) (b : ℕ) → IsReading r → takes (letters_of r.kind) (max_bytes_of r.kind) r.part b ≡ true
    → Some (record { done = r.done; kind = r.kind; part = r.part ++ b ∷ [] }) ≡ Some t → IsReading t × (spelled t ≡ spelled r ++ b ∷ [])
took r t b ok h e =
    let P : Reading → Type 0 = λ u. IsReading u × (spelled u ≡ spelled r ++ b ∷ []) in
    let same : record { done = r.done; kind = r.kind; part = r.part ++ b ∷ [] } ≡ t = cc in
    subst P same
    (record { labels = ok.labels; few = ok.few; kind = ok.kind; part = longer _ _ r.part b ok.part h }, spelling r.kind)
  where
    spelling : (k : Option (List ℕ)) → dotted r.done ++ spelled_part k (r.part ++ b ∷ []) ≡ (dotted r.done ++ spelled_part k r.part) ++ b ∷ []
    spelling None = simp append_assoc
    spelling (Some kind) = simp append_assoc

closed_kind : (r t : Reading) (b : ℕ) → IsReading r → r.kind ≡ None → close None r b ≡ Some t → IsReading t × (spelled t ≡ spelled r ++ b ∷ [])
unfolding ends
closed_kind r t b ok is e =
    elim (chosen (ends DASH r.part b) _ _ _ e) [
      | inl w ↦ (
          let P : Reading → Type 0 = λ u. IsReading u × (spelled u ≡ spelled r ++ b ∷ []) in
          let same : record { done = r.done; kind = Some r.part; part = [] } ≡ t = cc in
          let tests = both _ _ w.0 in
          let some : 0 < length r.part = ltb-true _ _ tests.0 in
          let dash : b ≡ DASH = eqb-true _ _ tests.1 in
          let front : IsFront Lower MAX_KIND_BYTES r.part = subst (λ (k : Option (List ℕ)). IsFront (letters_of k) (max_bytes_of k) r.part) is ok.part in
          subst P same (
            record { labels = ok.labels; few = ok.few; kind = word Lower MAX_KIND_BYTES r.part front some; part = empty_front Word MAX_ID_BYTES },
            rw (dash, is) (simp append_assoc),
          ))
      | inr w ↦ absurd (cc)
    ]

closed_id : (r t : Reading) (b : ℕ) (kind : List ℕ) → IsReading r → r.kind ≡ Some kind → close (Some kind) r b ≡ Some t → IsReading t × (spelled t ≡ spelled r ++ b ∷ [])
unfolding ends
closed_id r t b kind ok is e =
    elim (chosen (ends DOT r.part b && nat_lt (length r.done + 1) MAX_LABELS) _ _ _ e) [
      | inl w ↦ (
          let P : Reading → Type 0 = λ u. IsReading u × (spelled u ≡ spelled r ++ b ∷ []) in
          let l : Label = record { kind = kind; id = r.part } in
          let same : record { done = r.done ++ l ∷ []; kind = None; part = [] } ≡ t = cc in
          let tests = both _ _ w.0 in
          let ended = both _ _ tests.0 in
          let some : 0 < length r.part = ltb-true _ _ ended.0 in
          let dot : b ≡ DOT = eqb-true _ _ ended.1 in
          let room : length r.done + 1 < MAX_LABELS = ltb-true _ _ tests.1 in
          let front : IsFront Word MAX_ID_BYTES r.part = subst (λ (k : Option (List ℕ)). IsFront (letters_of k) (max_bytes_of k) r.part) is ok.part in
          let read : IsKind kind = subst IsReadKind is ok.kind in
          let label : IsLabel l = record { kind = read; id = word Word MAX_ID_BYTES r.part front some } in
          subst P same (
            record {
              labels = AreLabels-append r.done (l ∷ []) ok.labels (label, tt);
              few = simp length-append (omega arith);
              kind = tt;
              part = empty_front Lower MAX_KIND_BYTES;
            },
            rw (dot, is, dotted-append r.done (l ∷ [])) (simp append_assoc),
          ))
      | inr w ↦ absurd (cc)
    ]

closed : (r t : Reading) (b : ℕ) (k : Option (List ℕ)) → IsReading r → r.kind ≡ k → close k r b ≡ Some t → IsReading t × (spelled t ≡ spelled r ++ b ∷ [])
closed r t b None ok is e = closed_kind r t b ok is e
closed r t b (Some kind) ok is e = closed_id r t b kind ok is e

-- a step keeps a reading, and has read the byte
steps : (r t : Reading) (b : ℕ) → IsReading r → step r b ≡ Some t → IsReading t × (spelled t ≡ spelled r ++ b ∷ [])
unfolding step
steps r t b ok h =
    elim (chosen (takes (letters_of r.kind) (max_bytes_of r.kind) r.part b) _ _ _ h) [
      | inl w ↦ took r t b ok w.0 w.1
      | inr w ↦ closed r t b r.kind ok refl w.1
    ]

-- a reading of a whole label ends a name
made_name : (r : Reading) (kind : List ℕ) → IsReading r → r.kind ≡ Some kind → 0 < length r.part
    → (let l : Label = record { kind = kind; id = r.part } in IsName (l ∷ reverse r.done) × (spelled r ≡ name_text (l ∷ reverse r.done)))
made_name r kind ok is some =
    let front : IsFront Word MAX_ID_BYTES r.part = subst (λ (k : Option (List ℕ)). IsFront (letters_of k) (max_bytes_of k) r.part) is ok.part in
    let read : IsKind kind = subst IsReadKind is ok.kind in (
      record {
        some = omega arith;
        few = omega (arith, length-reverse r.done, ok.few);
        labels = (record { kind = read; id = word Word MAX_ID_BYTES r.part front some }, AreLabels-reverse r.done ok.labels);
      },
      rw (is, reverse-reverse r.done) refl,
    )

a_word : (set : Letters) (most : ℕ) → 0 < most → has set 97 ≡ true → IsWord set set most (97 ∷ [])
unfolding allows
a_word set most some a = record { some = omega arith; fits = omega arith; each = λ k h. let z : k ≡ 0 = omega arith in subst (λ (i : ℕ). allows set set i (get_or (97 ∷ []) i 0) ≡ true) (sym z) a }

-- whatever has been read begins a name
name_with : (r : Reading) (l : Label) (rest : List ℕ) → IsReading r → IsLabel l → spelled_part r.kind r.part ++ rest ≡ label_text l → Begins IsNameText (spelled r)
name_with r l rest ok label e = (
  rest,
  (
    l ∷ reverse r.done,
    record { some = omega arith; few = omega (arith, length-reverse r.done, ok.few); labels = (label, AreLabels-reverse r.done ok.labels) },
    append_assoc (dotted r.done) (spelled_part r.kind r.part) rest ∙ rw (e, reverse-reverse r.done) refl,
  ),
)

begun : (r : Reading) (k : Option (List ℕ)) (part : List ℕ) → r.kind ≡ k → r.part ≡ part → IsReading r → Begins IsNameText (spelled r)
begun r None [] is has ok =
    name_with r (record { kind = 97 ∷ []; id = 97 ∷ [] }) (97 ∷ 45 ∷ 97 ∷ []) ok
    (record { kind = a_word Lower MAX_KIND_BYTES (omega arith) refl; id = a_word Word MAX_ID_BYTES (omega arith) refl }) (rw (is, has) refl)
begun r None (c ∷ cs) is has ok =
    let front : IsFront Lower MAX_KIND_BYTES r.part = subst (λ (k : Option (List ℕ)). IsFront (letters_of k) (max_bytes_of k) r.part) is ok.part in
    let some : 0 < length r.part = rw has (omega arith) in
    name_with r (record { kind = r.part; id = 97 ∷ [] }) (45 ∷ 97 ∷ []) ok
    (record { kind = word Lower MAX_KIND_BYTES r.part front some; id = a_word Word MAX_ID_BYTES (omega arith) refl }) (rw is refl)
begun r (Some kind) [] is has ok =
    let read : IsKind kind = subst IsReadKind is ok.kind in
    name_with r (record { kind = kind; id = 97 ∷ [] }) (97 ∷ []) ok
    (record { kind = read; id = a_word Word MAX_ID_BYTES (omega arith) refl }) (rw (is, has) (simp append_assoc))
begun r (Some kind) (c ∷ cs) is has ok =
    let front : IsFront Word MAX_ID_BYTES r.part = subst (λ (k : Option (List ℕ)). IsFront (letters_of k) (max_bytes_of k) r.part) is ok.part in
    let some : 0 < length r.part = rw has (omega arith) in
    let read : IsKind kind = subst IsReadKind is ok.kind in
    name_with r (record { kind = kind; id = r.part }) [] ok
    (record { kind = read; id = word Word MAX_ID_BYTES r.part front some }) (rw is (simp append-nil))

-- reading goes on
run-append : (r : Reading) (xs ys : List ℕ) → run r (xs ++ ys) ≡ option_and_then (λ s. run s ys) (run r xs)
unfolding run
run-append r [] ys = refl
run-append r (x ∷ xs) ys = at (step r x) (λ s. run-append s xs ys)
  where
    at : (o : Option Reading) → ((s : Reading) → run s (xs ++ ys) ≡ option_and_then (λ t. run t ys) (run s xs))
        → option_and_then (λ s. run s (xs ++ ys)) o ≡ option_and_then (λ s. run s ys) (option_and_then (λ s. run s xs) o)
    at None each = refl
    at (Some s) each = each s

run-then : (r s : Reading) (xs ys : List ℕ) → run r xs ≡ Some s → run r (xs ++ ys) ≡ run s ys
run-then r s xs ys e = run-append r xs ys ∙ ap (λ (o : Option Reading). option_and_then (λ t. run t ys) o) e

run-cons : (r s : Reading) (b : ℕ) (bs : List ℕ) → step r b ≡ Some s → run r (b ∷ bs) ≡ run s bs
unfolding run
run-cons r s b bs e = ap (λ (o : Option Reading). option_and_then (λ t. run t bs) o) e

-- the letters of a word do not depend on the place
cond_same : {A : Type 0} (b : Bool) (x : A) → cond b x x ≡ x
cond_same true x = refl
cond_same false x = refl

same_set : (set : Letters) (i c : ℕ) → allows set set i c ≡ has set c
unfolding allows
same_set set i c = ap (λ (s : Letters). has s c) (cond_same (i == 0) set)

goes : (r : Reading) (b : ℕ) (bs : List ℕ) → IsFront (letters_of r.kind) (max_bytes_of r.kind) (r.part ++ b ∷ bs) → step r b ≡ Some (record { done = r.done; kind = r.kind; part = r.part ++ b ∷ [] })
unfolding step takes
goes r b bs front =
    let len : length (r.part ++ b ∷ bs) ≡ length r.part + (1 + length bs) = simp length-append (omega arith) in
    let room : nat_lt (length r.part) (max_bytes_of r.kind) ≡ true = lt-ltb _ _ (omega (arith, front.fits)) in
    let seam : get_or (r.part ++ b ∷ bs) (length r.part) 0 ≡ b = get_or-append_seam r.part b bs 0 in
    let may : allows (letters_of r.kind) (letters_of r.kind) (length r.part) b ≡ true
    = subst (λ (c : ℕ). allows (letters_of r.kind) (letters_of r.kind) (length r.part) c ≡ true) seam (front.each (length r.part) (omega arith)) in
    rw (room, may) refl

-- a word is read whole
run-word : (r : Reading) (more : List ℕ) → IsFront (letters_of r.kind) (max_bytes_of r.kind) (r.part ++ more)
    → run r more ≡ Some (record { done = r.done; kind = r.kind; part = r.part ++ more })
unfolding run
run-word r [] front = rw (append-nil r.part) refl
run-word r (b ∷ bs) front =
    let next : Reading = record { done = r.done; kind = r.kind; part = r.part ++ b ∷ [] } in
    let whole : next.part ++ bs ≡ r.part ++ b ∷ bs = simp append_assoc in
    let front' : IsFront (letters_of next.kind) (max_bytes_of next.kind) (next.part ++ bs) = rw whole front in
    run-cons r next b bs (goes r b bs front) ∙ run-word next bs front' ∙ ap (λ (p : List ℕ). Some (record { done = r.done; kind = r.kind; part = p })) whole

-- a dash behind a kind, and a dot behind a label
not_taken : (set : Letters) (most : ℕ) (part : List ℕ) (b : ℕ) → has set b ≡ false → takes set most part b ≡ false
unfolding takes
not_taken set most part b not = rw (same_set set (length part) b, not) (last (nat_lt (length part) most))
  where
    last : (x : Bool) → (x && false) ≡ false
    last true = refl
    last false = refl

dashed : (done : List Label) (part : List ℕ) → 0 < length part → step (record { done = done; kind = None; part = part }) DASH ≡ Some (record { done = done; kind = Some part; part = [] })
unfolding step ends
dashed done part some = let room : nat_lt 0 (length part) ≡ true = lt-ltb _ _ some in rw (not_taken Lower MAX_KIND_BYTES part DASH refl, room) refl

dotted_step : (done : List Label) (l : Label) → 0 < length l.id → length done + 1 < MAX_LABELS
    → step (record { done = done; kind = Some l.kind; part = l.id }) DOT ≡ Some (record { done = done ++ l ∷ []; kind = None; part = [] })
unfolding step ends
dotted_step done l some few =
    let long : nat_lt 0 (length l.id) ≡ true = lt-ltb _ _ some in
    let room : nat_lt (length done + 1) MAX_LABELS ≡ true = lt-ltb _ _ few in
    rw (not_taken Word MAX_ID_BYTES l.id DOT refl, long, room) refl

-- a label is read whole
run-label : (done : List Label) (l : Label) → IsLabel l → run (record { done = done; kind = None; part = [] }) (label_text l) ≡ Some (record { done = done; kind = Some l.kind; part = l.id })
run-label done l ok =
    let fresh : Reading = record { done = done; kind = None; part = [] } in
    let named : Reading = record { done = done; kind = None; part = l.kind } in
    let split : Reading = record { done = done; kind = Some l.kind; part = [] } in
    run-then fresh named l.kind (DASH ∷ l.id) (run-word fresh l.kind (record { fits = ok.kind.fits; each = ok.kind.each }))
    ∙ run-cons named split DASH l.id (dashed done l.kind ok.kind.some)
    ∙ run-word split l.id (record { fits = ok.id.fits; each = ok.id.each })

run-dotted : (done ls : List Label) (rest : List ℕ) → AreLabels ls → length done + length ls < MAX_LABELS
    → run (record { done = done; kind = None; part = [] }) (dotted ls ++ rest) ≡ run (record { done = done ++ ls; kind = None; part = [] }) rest
run-dotted done [] rest ok few = rw (append-nil done) refl
run-dotted done (l ∷ ls) rest ok few =
    let after : Reading = record { done = done ++ l ∷ []; kind = None; part = [] } in
    let len : length (done ++ l ∷ []) ≡ length done + 1 = simp length-append (omega arith) in
    let moved : (done ++ l ∷ []) ++ ls ≡ done ++ l ∷ ls = simp append_assoc in
    ap (run (record { done = done; kind = None; part = [] })) (append_assoc (label_text l) (DOT ∷ dotted ls) rest)
    ∙ run-then (record { done = done; kind = None; part = [] }) (record { done = done; kind = Some l.kind; part = l.id }) (label_text l) (DOT ∷ dotted ls ++ rest) (run-label done l ok.0)
    ∙ run-cons (record { done = done; kind = Some l.kind; part = l.id }) after DOT (dotted ls ++ rest) (dotted_step done l ok.0.id.some (omega arith))
    ∙ run-dotted (done ++ l ∷ []) ls rest ok.1 (omega arith)
    ∙ ap (λ (d : List Label). run (record { done = d; kind = None; part = [] }) rest) moved

-- reading a name's text ends with its top label under way
run-name : (top : Label) (below : List Label) → IsName (top ∷ below)
    → run start (name_text (top ∷ below)) ≡ Some (record { done = reverse below; kind = Some top.kind; part = top.id })
run-name top below ok =
    run-dotted [] (reverse below) (label_text top) (AreLabels-reverse below ok.labels.1) (omega (arith, length-reverse below, ok.few))
    ∙ run-label (reverse below) top ok.labels.0

-- whoever reads a name's text to the end has read a kind and a part
whole : (bytes : List ℕ) → IsNameText bytes → (r : Reading) × (run start bytes ≡ Some r) × (kind : List ℕ) × (r.kind ≡ Some kind) × (0 < length r.part)
whole bytes ([], ok, e) = absurd (omega (arith, ok.some))
whole bytes (top ∷ below, ok, e) =
    (record { done = reverse below; kind = Some top.kind; part = top.id }, ap (run start) e ∙ run-name top below ok, top.kind, refl, ok.labels.0.id.some)

none : {P : Type 0} (bytes : List ℕ) → run start bytes ≡ None → IsNameText bytes → P
none bytes e n = let w = whole bytes n in let some : run start bytes ≡ Some w.0 = w.1 in absurd (cc)

-- no name goes on here
pub stops_name : (bytes : List ℕ) (i : ℕ) (r : Reading) → i < length bytes → run start (take i bytes) ≡ Some r → IsReading r
    → spelled r ≡ take i bytes → step r (get_or bytes i 0) ≡ None → StopsAt IsNameText bytes i
unfolding run
stops_name bytes i r within e ok text stuck =
    record {
      refused = λ n. none bytes (ap (run start) (sym (take-append-drop (i + 1) bytes)) ∙ past (drop (i + 1) bytes)) n;
      within = omega arith;
      before = subst (Begins IsNameText) text (begun r r.kind r.part refl refl ok);
      after = λ _ b. none (take (i + 1) bytes ++ b.0) (past b.0) b.1;
    }
  where
    past : (rest : List ℕ) → run start (take (i + 1) bytes ++ rest) ≡ None
    past rest =
        ap (run start) (ap (λ (xs : List ℕ). xs ++ rest) (take_more bytes i 0 within) ∙ append_assoc (take i bytes) (get_or bytes i 0 ∷ []) rest)
        ∙ run-then start r (take i bytes) (get_or bytes i 0 ∷ rest) e
        ∙ ap (λ (o : Option Reading). option_and_then (λ s. run s rest) o) stuck

-- the bytes end before a name does
ends_name : (bytes : List ℕ) (r : Reading) → run start bytes ≡ Some r → IsReading r → spelled r ≡ bytes
    → ((kind : List ℕ) → r.kind ≡ Some kind → 0 < length r.part → ⊥) → StopsAt IsNameText bytes (length bytes)
ends_name bytes r e ok text open_ =
    record {
      refused = λ n.
          let w = whole bytes n in
          let same : r ≡ w.0 = cc in
          open_ w.2 (ap (λ (s : Reading). s.kind) same ∙ w.3) (subst (λ (s : Reading). 0 < length s.part) (sym same) w.4);
      within = omega arith;
      before = rw (take_all (length bytes) bytes (omega arith)) (subst (Begins IsNameText) text (begun r r.kind r.part refl refl ok));
      after = λ h. absurd (omega arith);
    }

abbrev ended : Label → List Label → Reading
ended top below = record { done = reverse below; kind = Some top.kind; part = top.id }

-- a text is the text of one name at most
pub name_text_once : (n m : List Label) → IsName n → IsName m → name_text n ≡ name_text m → n ≡ m
name_text_once [] m a b e = absurd (omega (arith, a.some))
name_text_once (x ∷ xs) [] a b e = absurd (omega (arith, b.some))
name_text_once (x ∷ xs) (y ∷ ys) a b e =
    let p = run-name x xs a in
    let q = run-name y ys b in
    let s = ap (run start) e in
    let same : ended x xs ≡ ended y ys = cc in
    let kinds : x.kind ≡ y.kind = same_Some _ _ (ap (λ (r : Reading). r.kind) same) in
    let ids : x.id ≡ y.id = ap (λ (r : Reading). r.part) same in
    let tops : x ≡ y = λ i. record { kind = kinds i; id = ids i } in
    let belows : xs ≡ ys = sym (reverse-reverse xs) ∙ ap (λ (r : Reading). reverse r.done) same ∙ reverse-reverse ys in
    λ i. tops i ∷ belows i

pub starts : (run start [] ≡ Some start) × IsReading start × (spelled start ≡ [])
unfolding run
starts = (refl, record { labels = tt; few = omega arith; kind = tt; part = empty_front Lower MAX_KIND_BYTES }, refl)

-- one more byte is read
pub reads_on : (bytes : List ℕ) (i : ℕ) (r t : Reading) → i < length bytes → run start (take i bytes) ≡ Some r → IsReading r → spelled r ≡ take i bytes
    → step r (get_or bytes i 0) ≡ Some t → (run start (take (i + 1) bytes) ≡ Some t) × IsReading t × (spelled t ≡ take (i + 1) bytes)
unfolding run
reads_on bytes i r t within e ok text s =
    let kept = steps r t (get_or bytes i 0) ok s in
    let more = take_more bytes i 0 within in (
      ap (run start) more ∙ run-then start r (take i bytes) (get_or bytes i 0 ∷ []) e ∙ ap (λ (o : Option Reading). option_and_then (λ s. Some s) o) s,
      kept.0,
      kept.1 ∙ ap (λ (xs : List ℕ). xs ++ get_or bytes i 0 ∷ []) text ∙ sym more,
    )

-- a name is read whole
finished : (bytes : List ℕ) (r : Reading) (name : List Label) → IsReading r → spelled r ≡ bytes → Finishes r name → IsName name × (bytes ≡ name_text name)
finished bytes r name ok text f =
    let made = made_name r f.kind ok f.kind_is f.some in
    (rw f.name_is made.0, sym text ∙ made.1 ∙ ap name_text (sym f.name_is))

-- why a reading is no name
unfinished : (bytes : List ℕ) (r : Reading) (e : NameError) → run start bytes ≡ Some r → IsReading r → spelled r ≡ bytes → Unfinished r (length bytes) e → RefusesName bytes e
unfinished bytes r (BadName at) read ok text u = subst (StopsAt IsNameText bytes) (sym u.0) (ends_name bytes r read ok text u.1)
unfinished bytes r Memory read ok text u = tt

-- what is answered once all bytes are read
pub answered : (at : ℕ) (bytes : List ℕ) (r : Reading) (result : Result (List Label) NameError) → length bytes ≤ at → run start (take at bytes) ≡ Some r → IsReading r → spelled r ≡ take at bytes
    → IfOk result (Finishes r) → IfErr result (Unfinished r (length bytes)) → IfOk result (λ name. IsName name × (bytes ≡ name_text name)) × IfErr result (RefusesName bytes)
answered at bytes r result past read ok text done stopped =
    let all : take at bytes ≡ bytes = take_all at bytes past in (
      IfOk-weaker result _ _ (λ name f. finished bytes r name ok (text ∙ all) f) done,
      IfErr-weaker result _ _ (λ e u. unfinished bytes r e (ap (run start) (sym all) ∙ read) ok (text ∙ all) u) stopped,
    )

-- the text of a name is read back as that name
pub read_back : (r : Result (List Label) NameError) (text : List ℕ) → IfOk r (λ name. IsName name × (text ≡ name_text name)) → IfErr r (RefusesName text)
    → (name : List Label) → IsName name → text ≡ name_text name → MatchResult r (λ read. read ≡ name) (λ e. e ≡ Memory)
read_back (Ok read) text ok err name is same = name_text_once read name ok.0 is (sym ok.1 ∙ same)
read_back (Err (BadName at)) text ok err name is same = absurd (err.refused (name, is, same))
read_back (Err Memory) text ok err name is same = refl
