-- Which asks agents name, and what each agent forgets in a round.
use Rattle.std.proofs.Common.{◌≡◌, ◌⊎◌, inl, inr, ℕ, zero, suc, ◌+◌, ◌-◌, ◌<◌, ◌≤◌, ◌^◌, Bool, true, false, List, [], ◌∷◌, ◌++◌, Some, length, refl, sym, ap, ◌∙◌, subst, arith, append-nil, append_assoc}
use Rattle.std.proofs.lemmas.Option.{same_Some}
use Rattle.std.specs.Prelude.{MatchBool, nat_lt, slice_get, slice_index_or}
use Rattle.std.specs.List.{AllZip, remove}
use Rattle.iris_agent.specs.Changes.{HasForgottenUnnamed}
use Rattle.iris_agent.specs.NamedAsks.{NamesAsk, NamesNoAsk, StaysIfNamed}
use Rattle.iris_agent.specs.Tables.{Holdings, is_among}
use Rattle.iris_state.specs.Events.{IsNamed, IsUnnamed, HasForgottenAsks}

-- ---- by places

pub named_at : (hs : List Holdings) (place : ℕ) (h : Holdings) (ask : ℕ) → slice_get hs place ≡ Some h → NamesAsk h.titles h.gathers ask → IsNamed hs ask
named_at [] place h ask there is = absurd (cc)
named_at (x ∷ hs) zero h ask there is = inl (subst (λ (o : Holdings). NamesAsk o.titles o.gathers ask) (sym (same_Some _ _ there)) is)
named_at (x ∷ hs) (suc place) h ask there is = inr (named_at hs place h ask there is)

pub unnamed_all : (hs : List Holdings) (ask : ℕ) → ((place : ℕ) (h : Holdings) → slice_get hs place ≡ Some h → NamesNoAsk h.titles h.gathers ask) → IsUnnamed hs ask
unnamed_all [] ask none = tt
unnamed_all (x ∷ hs) ask none = (none 0 x refl, unnamed_all hs ask (λ place h there. none (suc place) h there))

-- one more agent that names it not
pub unnamed_next : (hs : List Holdings) (at : ℕ) (x : Holdings) (ask : ℕ) → ((place : ℕ) (h : Holdings) → place < at → slice_get hs place ≡ Some h → NamesNoAsk h.titles h.gathers ask) → slice_get hs at ≡ Some x → NamesNoAsk x.titles x.gathers ask
    → (place : ℕ) (h : Holdings) → place < at + 1 → slice_get hs place ≡ Some h → NamesNoAsk h.titles h.gathers ask
unnamed_next hs at x ask before there none place h low is = by (nat_lt place at) refl
  where
    by : (b : Bool) → nat_lt place at ≡ b → NamesNoAsk h.titles h.gathers ask
    by true less = before place h (grind arith) is
    by false not_less =
        let from : at ≤ place = grind arith in
        let same : place ≡ at = omega (arith, from, low) in
        subst (λ (o : Holdings). NamesNoAsk o.titles o.gathers ask) (same_Some _ _ (sym there ∙ ap (slice_get hs) (sym same) ∙ is)) none

-- ---- of two lists

named_left : (xs ys : List Holdings) (ask : ℕ) → IsNamed xs ask → IsNamed (xs ++ ys) ask
named_left [] ys ask is = absurd is
named_left (x ∷ xs) ys ask (inl is) = inl is
named_left (x ∷ xs) ys ask (inr is) = inr (named_left xs ys ask is)

named_right : (xs ys : List Holdings) (ask : ℕ) → IsNamed ys ask → IsNamed (xs ++ ys) ask
named_right [] ys ask is = is
named_right (x ∷ xs) ys ask is = inr (named_right xs ys ask is)

named_split : (xs ys : List Holdings) (ask : ℕ) → IsNamed (xs ++ ys) ask → IsNamed xs ask ⊎ IsNamed ys ask
named_split [] ys ask is = inr is
named_split (x ∷ xs) ys ask (inl is) = inl (inl is)
named_split (x ∷ xs) ys ask (inr is) = one_more (named_split xs ys ask is)
  where
    one_more : IsNamed xs ask ⊎ IsNamed ys ask → IsNamed (x ∷ xs) ask ⊎ IsNamed ys ask
    one_more (inl is) = inl (inr is)
    one_more (inr is) = inr is

unnamed_join : (xs ys : List Holdings) (ask : ℕ) → IsUnnamed xs ask → IsUnnamed ys ask → IsUnnamed (xs ++ ys) ask
unnamed_join [] ys ask none rest = rest
unnamed_join (x ∷ xs) ys ask none rest = (none.0, unnamed_join xs ys ask none.1 rest)

unnamed_left : (xs ys : List Holdings) (ask : ℕ) → IsUnnamed (xs ++ ys) ask → IsUnnamed xs ask
unnamed_left [] ys ask none = tt
unnamed_left (x ∷ xs) ys ask none = (none.0, unnamed_left xs ys ask none.1)

unnamed_right : (xs ys : List Holdings) (ask : ℕ) → IsUnnamed (xs ++ ys) ask → IsUnnamed ys ask
unnamed_right [] ys ask none = none
unnamed_right (x ∷ xs) ys ask none = unnamed_right xs ys ask none.1

-- ---- an agent names the same once it forgot

named_before : (hs xs ys : List Holdings) (ask : ℕ) → AllZip (HasForgottenAsks hs) xs ys → IsNamed ys ask → IsNamed xs ask
named_before hs [] [] ask all is = is
named_before hs [] (y ∷ ys) ask all is = absurd all
named_before hs (x ∷ xs) [] ask all is = absurd all
named_before hs (x ∷ xs) (y ∷ ys) ask all (inl is) = inl (subst (λ (h : Holdings). NamesAsk h.titles h.gathers ask) all.0.rest is)
named_before hs (x ∷ xs) (y ∷ ys) ask all (inr is) = inr (named_before hs xs ys ask all.1 is)

unnamed_before : (hs xs ys : List Holdings) (ask : ℕ) → AllZip (HasForgottenAsks hs) xs ys → IsUnnamed ys ask → IsUnnamed xs ask
unnamed_before hs [] [] ask all none = none
unnamed_before hs [] (y ∷ ys) ask all none = absurd all
unnamed_before hs (x ∷ xs) [] ask all none = absurd all
unnamed_before hs (x ∷ xs) (y ∷ ys) ask all none = (subst (λ (h : Holdings). NamesNoAsk h.titles h.gathers ask) all.0.rest none.0, unnamed_before hs xs ys ask all.1 none.1)

-- ---- one agent after the other

-- what one agent forgets, where it is told of the others what they name
one_forgot : (hs front rest done : List Holdings) (x y : Holdings) (elsewhere : ℕ → Bool → Type 0)
    → hs ≡ front ++ x ∷ rest
    → AllZip (HasForgottenAsks hs) front done
    → ((ask : ℕ) (answer : Bool) → ask < 2 ^ 64 → elsewhere ask answer → MatchBool answer (IsNamed (rest ++ done) ask) (IsUnnamed (rest ++ done) ask))
    → HasForgottenUnnamed elsewhere x y
    → HasForgottenAsks hs x y
one_forgot hs front rest done x y elsewhere all forgot tells h = record {
  met = λ ask fits was. by ask fits (is_among y.asked ask) (h.asks.met ask was);
  others = h.asks.others;
  rest = h.rest;
}
  where
    of_others : (ask : ℕ) → IsNamed rest ask ⊎ IsNamed done ask → IsNamed (front ++ x ∷ rest) ask
    of_others ask (inl is) = named_right front (x ∷ rest) ask (inr is)
    of_others ask (inr is) = named_left front (x ∷ rest) ask (named_before hs front done ask forgot is)

    named : (ask : ℕ) → ask < 2 ^ 64 → elsewhere ask true ⊎ NamesAsk x.titles x.gathers ask → IsNamed (front ++ x ∷ rest) ask
    named ask fits (inl told) = of_others ask (named_split rest done ask (tells ask true fits told))
    named ask fits (inr own) = named_right front (x ∷ rest) ask (inl own)

    unnamed : (ask : ℕ) → IsUnnamed (rest ++ done) ask → NamesNoAsk x.titles x.gathers ask → IsUnnamed (front ++ x ∷ rest) ask
    unnamed ask none own = unnamed_join front (x ∷ rest) ask (unnamed_before hs front done ask forgot (unnamed_right rest done ask none)) (own, unnamed_left rest done ask none)

    by : (ask : ℕ) → ask < 2 ^ 64 → (b : Bool) → StaysIfNamed (elsewhere ask) x.titles x.gathers ask b → MatchBool b (IsNamed hs ask) (IsUnnamed hs ask)
    by ask fits true stays = subst (λ (all : List Holdings). IsNamed all ask) (sym all) (named ask fits (stays.kept refl))
    by ask fits false stays = let gone = stays.gone refl in subst (λ (all : List Holdings). IsUnnamed all ask) (sym all) (unnamed ask (tells ask false fits gone.0) gone.1)

zip_last : {A B : Type 0} (R : A → B → Type 0) (xs : List A) (ys : List B) (x : A) (y : B) → AllZip R xs ys → R x y → AllZip R (xs ++ x ∷ []) (ys ++ y ∷ [])
zip_last R [] [] x y all last = (last, tt)
zip_last R [] (b ∷ ys) x y all last = absurd all
zip_last R (a ∷ xs) [] x y all last = absurd all
zip_last R (a ∷ xs) (b ∷ ys) x y all last = (all.0, zip_last R xs ys x y all.1 last)

-- In a round: the first ones forgot and stand last, and so many are left.
pub record AreInRound (old now : List Holdings) (left : ℕ) : Type 0 where
  pub front : List Holdings
  pub rest : List Holdings
  pub done : List Holdings
  pub before : old ≡ front ++ rest
  pub after : now ≡ rest ++ done
  pub count : left ≡ length rest
  pub forgot : AllZip (HasForgottenAsks old) front done

pub round_begun : (old : List Holdings) (left : ℕ) → left ≡ length old → AreInRound old old left
round_begun old left count = record { front = []; rest = old; done = []; before = refl; after = sym (append-nil old); count = count; forgot = tt }

pub round_over : (old now : List Holdings) (left : ℕ) → AreInRound old now left → left ≡ 0 → AllZip (HasForgottenAsks old) old now
round_over old now left r none = by r.rest r.before r.after (sym r.count ∙ none)
  where
    by : (rest : List Holdings) → old ≡ r.front ++ rest → now ≡ rest ++ r.done → length rest ≡ 0 → AllZip (HasForgottenAsks old) old now
    by [] before after empty =
        let front : r.front ≡ old = sym (before ∙ append-nil r.front) in
        subst (AllZip (HasForgottenAsks old) old) (sym after) (subst (λ (xs : List Holdings). AllZip (HasForgottenAsks old) xs r.done) front r.forgot)
    by (x ∷ rest) before after empty = absurd (cc)

pub round_on : (old now others after : List Holdings) (left : ℕ) (x y : Holdings) (elsewhere : ℕ → Bool → Type 0)
    → AreInRound old now left
    → 0 < left
    → x ≡ slice_index_or now 0 x
    → others ≡ remove now 0
    → ((ask : ℕ) (answer : Bool) → ask < 2 ^ 64 → elsewhere ask answer → MatchBool answer (IsNamed others ask) (IsUnnamed others ask))
    → HasForgottenUnnamed elsewhere x y
    → after ≡ others ++ y ∷ []
    → AreInRound old after (left - 1)
round_on old now others after left x y elsewhere r more first gone tells h last = by r.rest r.before r.after r.count
  where
    by : (rest : List Holdings) → old ≡ r.front ++ rest → now ≡ rest ++ r.done → left ≡ length rest → AreInRound old after (left - 1)
    by [] before now_is count = absurd (omega (arith, more, count))
    by (z ∷ rest) before now_is count =
        let same : x ≡ z = first ∙ ap (λ (xs : List Holdings). slice_index_or xs 0 x) now_is in
        let are : others ≡ rest ++ r.done = gone ∙ ap (λ (xs : List Holdings). remove xs 0) now_is in
        let told = subst (λ (xs : List Holdings). (ask : ℕ) (answer : Bool) → ask < 2 ^ 64 → elsewhere ask answer → MatchBool answer (IsNamed xs ask) (IsUnnamed xs ask)) are tells in
        let forgot = one_forgot old r.front rest r.done z y elsewhere before r.forgot told (subst (λ (o : Holdings). HasForgottenUnnamed elsewhere o y) same h) in
        record {
          front = r.front ++ z ∷ [];
          rest = rest;
          done = r.done ++ y ∷ [];
          before = before ∙ sym (append_assoc r.front (z ∷ []) rest);
          after = last ∙ ap (λ (xs : List Holdings). xs ++ y ∷ []) are ∙ append_assoc rest r.done (y ∷ []);
          count = omega (arith, count);
          forgot = zip_last (HasForgottenAsks old) r.front r.done z y r.forgot forgot;
        }
