-- What is left of numbers once a test was asked of each in turn.
use Rattle.std.proofs.Common.{◌≡◌, ℕ, Bool, true, false, ◌||◌, List, [], ◌∷◌, length, refl, sym, ap, ◌∙◌, subst, arith}
use Rattle.std.specs.List.{items_where_true}
use Rattle.std.specs.List.Retain.{IsFiltered, ReturnsInTurn}
use Rattle.std.specs.BTreeMap.{is_at}
use Rattle.std.specs.FinMap.{nat_cmp-IsAntisymmetric}
use Rattle.std.specs.Ordering.{nat_cmp}
use Rattle.iris_fragment.proofs.Names.{equal_from_is_eq}
use Rattle.iris_cache.proofs.Orders.{or_false}
use Rattle.iris_agent.specs.NamedAsks.{AreRetained}
use Rattle.iris_agent.specs.Tables.{is_among}

-- numbers that compare as equal are equal
same : (x y : ℕ) → is_at (nat_cmp x) y ≡ true → x ≡ y
same x y e = nat_cmp-IsAntisymmetric x y (equal_from_is_eq (nat_cmp x y) e)

-- what is among more numbers, and is not the first of them, is among the others
behind : (ask x : ℕ) (xs : List ℕ) → is_at (nat_cmp ask) x ≡ false → is_among (x ∷ xs) ask ≡ true → is_among xs ask ≡ true
behind ask x xs e h = sym (ap (λ (a : Bool). a || is_among xs ask) e) ∙ h

module _ (stays : ℕ → Bool → Type 0) (ask : ℕ) where
  by_answer : (b : Bool) → (b ≡ true → stays ask true) → stays ask false → stays ask b
  by_answer true kept gone = kept refl
  by_answer false kept gone = gone

  kept_step : (x : ℕ) (ys : List ℕ) → stays x true → (is_among ys ask ≡ true → stays ask true) → (alike : Bool) → is_at (nat_cmp ask) x ≡ alike → is_among (x ∷ ys) ask ≡ true → stays ask true
  kept_step x ys here rest true e h = subst (λ (y : ℕ). stays y true) (sym (same ask x e)) here
  kept_step x ys here rest false e h = rest (behind ask x ys e h)

  kept_met : (x : ℕ) (xs ys : List ℕ) → stays x true → (is_among xs ask ≡ true → stays ask (is_among ys ask)) → (alike : Bool) → is_at (nat_cmp ask) x ≡ alike → is_among (x ∷ xs) ask ≡ true → stays ask (is_among (x ∷ ys) ask)
  kept_met x xs ys here rest true e h = subst (λ (a : Bool). stays ask (a || is_among ys ask)) (sym e) (subst (λ (y : ℕ). stays y true) (sym (same ask x e)) here)
  kept_met x xs ys here rest false e h = subst (λ (a : Bool). stays ask (a || is_among ys ask)) (sym e) (rest (behind ask x xs e h))

  gone_met : (x : ℕ) (xs ys : List ℕ) → stays x false → (is_among ys ask ≡ true → stays ask true) → (is_among xs ask ≡ true → stays ask (is_among ys ask)) → (alike : Bool) → is_at (nat_cmp ask) x ≡ alike → is_among (x ∷ xs) ask ≡ true → stays ask (is_among ys ask)
  gone_met x xs ys here there rest true e h = by_answer (is_among ys ask) there (subst (λ (y : ℕ). stays y false) (sym (same ask x e)) here)
  gone_met x xs ys here there rest false e h = rest (behind ask x xs e h)

  module _ {P : Type 0} (R : P → ℕ → Bool → P → Type 0) (f : P) (call : (x : ℕ) (b : Bool) (g : P) → R f x b g → stays x b × (g ≡ f)) where
    -- the test stays as it was
    next : (x : ℕ) (b : Bool) (g : P) (bs : List Bool) (xs : List ℕ) (q : P) → R f x b g → ReturnsInTurn R g bs xs q → ReturnsInTurn R f bs xs q
    next x b g bs xs q r t = subst (λ (p : P). ReturnsInTurn R p bs xs q) (call x b g r).1 t

    kept : (bs : List Bool) (xs : List ℕ) (q : P) → ReturnsInTurn R f bs xs q → is_among (items_where_true bs xs) ask ≡ true → stays ask true
    kept [] xs q t h = absurd (cc)
    kept (b ∷ bs) [] q t h = absurd t
    kept (true ∷ bs) (x ∷ xs) q t h = kept_step x (items_where_true bs xs) (call x true t.0 t.1).0 (kept bs xs q (next x true t.0 bs xs q t.1 t.2)) (is_at (nat_cmp ask) x) refl h
    kept (false ∷ bs) (x ∷ xs) q t h = kept bs xs q (next x false t.0 bs xs q t.1 t.2) h

    met : (bs : List Bool) (xs : List ℕ) (q : P) → length bs ≡ length xs → ReturnsInTurn R f bs xs q → is_among xs ask ≡ true → stays ask (is_among (items_where_true bs xs) ask)
    met [] [] q n t h = absurd (cc)
    met [] (x ∷ xs) q n t h = absurd (omega arith)
    met (b ∷ bs) [] q n t h = absurd t
    met (true ∷ bs) (x ∷ xs) q n t h = kept_met x xs (items_where_true bs xs) (call x true t.0 t.1).0 (met bs xs q (omega arith) (next x true t.0 bs xs q t.1 t.2)) (is_at (nat_cmp ask) x) refl h
    met (false ∷ bs) (x ∷ xs) q n t h =
        gone_met x xs (items_where_true bs xs) (call x false t.0 t.1).0 (kept bs xs q (next x false t.0 bs xs q t.1 t.2)) (met bs xs q (omega arith) (next x false t.0 bs xs q t.1 t.2)) (is_at (nat_cmp ask) x) refl h

others : (bs : List Bool) (xs : List ℕ) (ask : ℕ) → is_among xs ask ≡ false → is_among (items_where_true bs xs) ask ≡ false
others [] xs ask h = refl
others (b ∷ bs) [] ask h = refl
others (true ∷ bs) (x ∷ xs) ask h =
    let apart = or_false (is_at (nat_cmp ask) x) (is_among xs ask) h in
    ap (λ (a : Bool). a || is_among (items_where_true bs xs) ask) apart.0 ∙ others bs xs ask apart.1
others (false ∷ bs) (x ∷ xs) ask h = others bs xs ask (or_false (is_at (nat_cmp ask) x) (is_among xs ask) h).1

-- where each call of the test says that, and leaves the test as it was
pub retained : {P : Type 0} (R : P → ℕ → Bool → P → Type 0) (stays : ℕ → Bool → Type 0) (f : P) → ((x : ℕ) (b : Bool) (g : P) → R f x b g → stays x b × (g ≡ f)) → (xs ys : List ℕ) → IsFiltered R f xs ys → AreRetained stays xs ys
retained R stays f call xs ys h = subst (AreRetained stays xs) (sym h.4) (record {
  met = λ ask. met stays ask R f call h.0 xs h.1 h.2 h.3;
  others = others h.0 xs;
})

-- where it says more
pub retained_more : (stays more : ℕ → Bool → Type 0) → ((ask : ℕ) (b : Bool) → stays ask b → more ask b) → (old new : List ℕ) → AreRetained stays old new → AreRetained more old new
retained_more stays more says old new h = record {
  met = λ ask was. says ask (is_among new ask) (h.met ask was);
  others = h.others;
}
