-- A table at a number, and lists of which each or one element is so.
use Rattle.std.proofs.Common.{◌≡◌, ◌≢◌, ◌⊎◌, ℕ, ◌<◌, ◌≤◌, Bool, true, false, nat_lt, if◌then◌else◌, List, [], ◌∷◌, ◌++◌, map, Option, Some, None, refl, sym, ap, subst, inl, inr, arith}
use Rattle.std.proofs.lemmas.Bool.Decides.{not_from_Decides}
use Rattle.iris_protocol.specs.Table.{Keys, AgentId, agents, numbers, set_at, set_in, OfSome, Each, Among, Distinct}

pub lt_of : (j k : ℕ) → nat_lt j k ≡ true → j < k
lt_of j k e = grind arith

pub ge_of : (j k : ℕ) → nat_lt j k ≡ false → k ≤ j
ge_of j k e = grind arith

module _ {K : Type 0} (keys : Keys K) where
  pub eq_of : (j k : K) → keys.same j k ≡ true → j ≡ k
  eq_of j k e = (keys.decides j k).0 e

  pub ne_of : (j k : K) → keys.same j k ≡ false → j ≢ k
  ne_of j k e = not_from_Decides (keys.same j k) (keys.decides j k) e

  pub same_self : (k : K) → keys.same k k ≡ true
  same_self k = (keys.decides k k).1 refl

  pub same_other : (j k : K) → j ≢ k → keys.same j k ≡ false
  same_other j k h = go (keys.same j k) refl
    where
      go : (b : Bool) → keys.same j k ≡ b → keys.same j k ≡ false
      go true e = absurd (h (eq_of j k e))
      go false e = e

  pub split : (x y : K) → (x ≡ y) ⊎ (x ≢ y)
  split x y = go (keys.same x y) refl
    where
      go : (b : Bool) → keys.same x y ≡ b → (x ≡ y) ⊎ (x ≢ y)
      go true e = inl (eq_of x y e)
      go false e = inr (ne_of x y e)

  pub at_same : {A : Type 0} (f : K → A) (k : K) (v : A) → set_at keys f k v k ≡ v
  at_same f k v = rw (same_self k) refl

  pub at_other : {A : Type 0} (f : K → A) (k : K) (v : A) (j : K) → j ≢ k → set_at keys f k v j ≡ f j
  at_other f k v j h = rw (same_other j k h) refl

  pub put_at : {A : Type 0} (P : A → Type 0) (f : K → A) (k : K) (v : A) → P v → P (set_at keys f k v k)
  put_at P f k v h = subst P (sym (at_same f k v)) h

  -- what holds of the new value there, and of the old ones elsewhere, holds of each
  pub at_each : {A : Type 0} (P : K → A → Type 0) (f : K → A) (k : K) (v : A) → P k v → ((j : K) → j ≢ k → P j (f j)) → (j : K) → P j (set_at keys f k v j)
  at_each {A} P f k v here there j = go (keys.same j k) refl
    where
      go : (b : Bool) → keys.same j k ≡ b → P j (if b then v else f j)
      go true e = subst (λ (i : K). P i v) (sym (eq_of j k e)) here
      go false e = there j (ne_of j k e)

-- the same in a table of tables
pub in_each : {A : Type 0} (P : AgentId → ℕ → A → Type 0) (f : AgentId → ℕ → A) (a : AgentId) (g : ℕ) (v : A) → P a g v → ((b : AgentId) (h : ℕ) → (b ≡ a → h ≢ g) → P b h (f b h)) → (b : AgentId) (h : ℕ) → P b h (set_in f a g v b h)
in_each {A} P f a g v here there = at_each agents (λ b (row : ℕ → A). (h : ℕ) → P b h (row h)) f a (set_at numbers (f a) g v)
    (at_each numbers (λ h (o : A). P a h o) (f a) g v here (λ h ne. there a h (λ _. ne)))
    (λ b ne h. there b h (λ same. absurd (ne same)))

pub in_same : {A : Type 0} (f : AgentId → ℕ → A) (a : AgentId) (g : ℕ) (v : A) → set_in f a g v a g ≡ v
in_same {A} f a g v = put_at agents (λ (row : ℕ → A). row g ≡ v) f a (set_at numbers (f a) g v) (at_same numbers (f a) g v)

pub put_in : {A : Type 0} (P : A → Type 0) (f : AgentId → ℕ → A) (a : AgentId) (g : ℕ) (v : A) → P v → P (set_in f a g v a g)
put_in P f a g v h = subst P (sym (in_same f a g v)) h

pub in_other : {A : Type 0} (f : AgentId → ℕ → A) (a : AgentId) (g : ℕ) (v : A) (b : AgentId) (h : ℕ) → (b ≡ a → h ≢ g) → set_in f a g v b h ≡ f b h
in_other {A} f a g v = in_each (λ b h (o : A). (b ≡ a → h ≢ g) → o ≡ f b h) f a g v (λ ne. absurd (ne refl refl)) (λ b h _ _. refl)

-- a value that is there
pub of_some : {A : Type 0} (P : A → Type 0) (o : Option A) (x : A) → o ≡ Some x → OfSome P o → P x
of_some P o x e h = subst (OfSome P) e h

pub OfSome-weaker : {A : Type 0} (P Q : A → Type 0) (o : Option A) → ((x : A) → P x → Q x) → OfSome P o → OfSome Q o
OfSome-weaker P Q None f h = tt
OfSome-weaker P Q (Some x) f h = f x h

pub Each-weaker : {A : Type 0} (P Q : A → Type 0) (xs : List A) → ((x : A) → P x → Q x) → Each P xs → Each Q xs
Each-weaker P Q [] f h = tt
Each-weaker P Q (x ∷ xs) f h = (f x h.0, Each-weaker P Q xs f h.1)

pub Each-append : {A : Type 0} (P : A → Type 0) (xs : List A) (y : A) → Each P xs → P y → Each P (xs ++ y ∷ [])
Each-append P [] y h p = (p, tt)
Each-append P (x ∷ xs) y h p = (h.0, Each-append P xs y h.1 p)

pub Each-both : {A : Type 0} (P Q : A → Type 0) (xs : List A) → Each P xs → Each Q xs → Each (λ x. P x × Q x) xs
Each-both P Q [] h k = tt
Each-both P Q (x ∷ xs) h k = ((h.0, k.0), Each-both P Q xs h.1 k.1)

-- what holds of each holds of one
pub Each-one : {A : Type 0} (P Q : A → Type 0) (xs : List A) → Each P xs → Among Q xs → (x : A) × P x × Q x
Each-one P Q [] h m = absurd m
Each-one P Q (x ∷ xs) h (inl q) = (x, h.0, q)
Each-one P Q (x ∷ xs) h (inr m) = Each-one P Q xs h.1 m

pub Each-at : {A : Type 0} (P : A → Type 0) (xs : List A) (x : A) → Each P xs → Among (λ y. y ≡ x) xs → P x
Each-at P [] x h m = absurd m
Each-at P (y ∷ ys) x h (inl e) = subst P e h.0
Each-at P (y ∷ ys) x h (inr m) = Each-at P ys x h.1 m

-- each is so where one that is not cannot be among them
pub Each-among : {A : Type 0} (Q : A → Type 0) (xs : List A) → ((x : A) → Among (λ y. y ≡ x) xs → Q x) → Each Q xs
Each-among Q [] f = tt
Each-among Q (x ∷ xs) f = (f x (inl refl), Each-among Q xs (λ y m. f y (inr m)))

pub Among-weaker : {A : Type 0} (P Q : A → Type 0) (xs : List A) → ((x : A) → P x → Q x) → Among P xs → Among Q xs
Among-weaker P Q [] f m = m
Among-weaker P Q (x ∷ xs) f (inl h) = inl (f x h)
Among-weaker P Q (x ∷ xs) f (inr m) = inr (Among-weaker P Q xs f m)

pub Among-front : {A : Type 0} (P : A → Type 0) (xs ys : List A) → Among P xs → Among P (xs ++ ys)
Among-front P [] ys h = absurd h
Among-front P (x ∷ xs) ys (inl h) = inl h
Among-front P (x ∷ xs) ys (inr h) = inr (Among-front P xs ys h)

pub Among-last : {A : Type 0} (P : A → Type 0) (xs : List A) (y : A) → P y → Among P (xs ++ y ∷ [])
Among-last P [] y h = inl h
Among-last P (x ∷ xs) y h = inr (Among-last P xs y h)

pub Among-append : {A : Type 0} (P : A → Type 0) (xs : List A) (y : A) → Among P (xs ++ y ∷ []) → Among P xs ⊎ P y
Among-append P [] y (inl h) = inr h
Among-append P [] y (inr h) = absurd h
Among-append P (x ∷ xs) y (inl h) = inl (inl h)
Among-append P (x ∷ xs) y (inr m) = go (Among-append P xs y m)
  where
    go : Among P xs ⊎ P y → Among P (x ∷ xs) ⊎ P y
    go (inl h) = inl (inr h)
    go (inr h) = inr h

pub Among-map : {A B : Type 0} (Q : B → Type 0) (f : A → B) (xs : List A) → Among Q (map f xs) → Among (λ x. Q (f x)) xs
Among-map Q f [] m = m
Among-map Q f (x ∷ xs) (inl h) = inl h
Among-map Q f (x ∷ xs) (inr m) = inr (Among-map Q f xs m)

-- one of the list, with what holds of it
pub Among-one : {A : Type 0} (P : A → Type 0) (xs : List A) → Among P xs → (x : A) × P x × Among (λ y. y ≡ x) xs
Among-one P [] h = absurd h
Among-one P (x ∷ xs) (inl h) = (x, h, inl refl)
Among-one P (x ∷ xs) (inr h) = let r = Among-one P xs h in (r.0, r.1, inr r.2)

-- one more that is not among them
pub Distinct-append : {A : Type 0} (xs : List A) (y : A) → Distinct xs → (Among (λ z. z ≡ y) xs → ⊥) → Distinct (xs ++ y ∷ [])
Distinct-append [] y h none = (λ m. m, tt)
Distinct-append (x ∷ xs) y h none = (λ m. go (Among-append (λ z. z ≡ x) xs y m), Distinct-append xs y h.1 (λ m. none (inr m)))
  where
    go : Among (λ z. z ≡ x) xs ⊎ (y ≡ x) → ⊥
    go (inl m) = h.0 m
    go (inr e) = none (inl (sym e))

pub Distinct-front : {A : Type 0} (xs ys : List A) → Distinct (xs ++ ys) → Distinct xs
Distinct-front [] ys h = tt
Distinct-front (x ∷ xs) ys h = (λ m. h.0 (Among-front (λ z. z ≡ x) xs ys m), Distinct-front xs ys h.1)

pub append_nil : {A : Type 0} (xs : List A) → xs ++ [] ≡ xs
append_nil [] = refl
append_nil (x ∷ xs) = ap (λ ys. x ∷ ys) (append_nil xs)

pub append_assoc : {A : Type 0} (xs : List A) (y : A) (ys : List A) → (xs ++ y ∷ []) ++ ys ≡ xs ++ y ∷ ys
append_assoc [] y ys = refl
append_assoc (x ∷ xs) y ys = ap (λ zs. x ∷ zs) (append_assoc xs y ys)

pub map_append : {A B : Type 0} (f : A → B) (xs : List A) (y : A) → map f (xs ++ y ∷ []) ≡ map f xs ++ f y ∷ []
map_append f [] y = refl
map_append f (x ∷ xs) y = ap (λ zs. f x ∷ zs) (map_append f xs y)

pub map_same : {A B : Type 0} (f g : A → B) (xs : List A) → Each (λ x. f x ≡ g x) xs → map f xs ≡ map g xs
map_same f g [] h = refl
map_same f g (x ∷ xs) h = λ i. h.0 i ∷ map_same f g xs h.1 i

-- none of them is that one
pub Each-not : {A B : Type 0} (f : A → B) (k : B) (xs : List A) → (Among (λ y. y ≡ k) (map f xs) → ⊥) → Each (λ x. f x ≡ k → ⊥) xs
Each-not f k [] h = tt
Each-not f k (x ∷ xs) h = (λ e. h (inl e), Each-not f k xs (λ m. h (inr m)))
