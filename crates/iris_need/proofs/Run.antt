-- The laws of programs that look: over a view that knows more they look at more, and what is decided stays as it is.
use Rattle.std.proofs.Common.{◌≡◌, true, ◌⊎◌, inl, inr, List, [], ◌∷◌, ◌++◌, Option, Some, None, Contains, is_some, refl, sym, ap, subst, ◌∙◌, arith}
use Rattle.std.proofs.lemmas.List.Elements.{Contains-append_left, Contains-append_right, Contains-append_cases, Contains-push, Contains-push_cases}
use Rattle.iris_base.specs.declared.name.Label.{Label}
use Rattle.iris_tree.specs.declared.local.Local.{Local}
use Rattle.iris_tree.specs.Universe.{Node}
use Rattle.iris_fragment.specs.declared.piece.Level.TheVariants.{Ids, Full}
use Rattle.iris_need.specs.declared.need.Need.{Need}
use Rattle.iris_need.specs.Run.{Known, View, Run, give, see_ids, see_full, both, next, Out, ids_known, Seen, seen_with, full_known, logged, undecided, pair_value, after_ids, after_full, after, run, ids_in, local_in, all_of, eval, LocalBelow, KnownBelow, Below, meets_known, meets}

-- ---- elements of a list

-- the first element is there
pub contains_first : {X : Type 0} (x : X) (xs : List X) → Contains (x ∷ xs) x
contains_first x xs = Contains-append_left (x ∷ []) xs x (Contains-push [] x)

-- an element of the rest is there
pub contains_later : {X : Type 0} (y : X) (xs : List X) (x : X) → Contains xs x → Contains (y ∷ xs) x
contains_later y xs x h = Contains-append_right (y ∷ []) xs x h

contains_nothing : {X Y : Type 0} (x : X) → Contains [] x → Y
contains_nothing x h = absurd (omega (arith, h.1))

-- an element is the first or one of the rest
pub first_or_later : {X : Type 0} (y : X) (xs : List X) (x : X) → Contains (y ∷ xs) x → (y ≡ x) ⊎ Contains xs x
first_or_later y xs x h = elim (Contains-append_cases (y ∷ []) xs x h) [
  | inl one ↦ elim (Contains-push_cases [] y x one) [ inl none ↦ contains_nothing x none | inr same ↦ inl same ]
  | inr later ↦ inr later
]

contains_both : {X : Type 0} (xs ys us vs : List X) → ((x : X) → Contains xs x → Contains us x) → ((x : X) → Contains ys x → Contains vs x) → (x : X) → Contains (xs ++ ys) x → Contains (us ++ vs) x
contains_both xs ys us vs f g x h = elim (Contains-append_cases xs ys x h) [
  | inl a ↦ Contains-append_left us vs x (f x a)
  | inr b ↦ Contains-append_right us vs x (g x b)
]

-- ---- more is known

-- each look is made again, and where there is a value all is the same
pub record Grow {A : Type 0} (o more : Out A) : Type 0 where
  pub looks : (look : Need) → Contains o.log look → Contains more.log look
  pub same : (a : A) → o.value ≡ Some a → more ≡ o

grow_itself : {A : Type 0} (o : Out A) → Grow o o
grow_itself o = record { looks = λ look h. h; same = λ a e. refl }

none_some : {A X : Type 0} (a : A) → None ≡ Some a → X
none_some a e = cc

grow_logged : {A : Type 0} (look : Need) (o more : Out A) → Grow o more → Grow (logged look o) (logged look more)
grow_logged look o more g = record {
  looks = contains_both (look ∷ []) o.log (look ∷ []) more.log (λ l h. h) g.looks;
  same = λ a e. ap (logged look) (g.same a e);
}

grow_undecided : {A : Type 0} (look : Need) (more : Out A) → Grow (undecided (look ∷ [])) (logged look more)
grow_undecided look more = record { looks = λ l h. Contains-append_left (look ∷ []) more.log l h; same = λ a e. none_some a e }

grow_no_ids : {A : Type 0} (look : Need) (q : Option Known) (f : List Label → Out A) → Grow (undecided (look ∷ [])) (after_ids look (ids_known q) f)
grow_no_ids look None f = grow_itself _
grow_no_ids look (Some q) f = grow_undecided look (f q.ids)

grow_no_local : {A : Type 0} (look : Need) (q : Option Seen) (f : List Label → Local → Out A) → Grow (undecided (look ∷ [])) (after_full look q f)
grow_no_local look None f = grow_itself _
grow_no_local look (Some q) f = grow_undecided look (f q.ids q.local)

grow_ids : {A : Type 0} (look : Need) (p q : Option Known) → KnownBelow p q → (f g : List Label → Out A) → ((ids : List Label) → Grow (f ids) (g ids)) → Grow (after_ids look (ids_known p) f) (after_ids look (ids_known q) g)
grow_ids look None q b f g h = grow_no_ids look q g
grow_ids look (Some p) None b f g h = absurd b
grow_ids look (Some p) (Some q) b f g h = grow_logged look (f p.ids) (g q.ids) (subst (λ ids. Grow (f p.ids) (g ids)) b.0 (h p.ids))

grow_seen : {A : Type 0} (look : Need) (ids more : List Label) (a b : Option Local) → ids ≡ more → LocalBelow a b → (f g : List Label → Local → Out A) → ((js : List Label) (local : Local) → Grow (f js local) (g js local)) → Grow (after_full look (seen_with ids a) f) (after_full look (seen_with more b) g)
grow_seen look ids more None b e h f g r = grow_no_local look (seen_with more b) g
grow_seen look ids more (Some a) None e h f g r = absurd h
grow_seen look ids more (Some a) (Some b) e h f g r = grow_logged look (f ids a) (g more b) (subst (λ js. Grow (f ids a) (g js b)) e (subst (λ local. Grow (f ids a) (g ids local)) h (r ids a)))

grow_full : {A : Type 0} (look : Need) (p q : Option Known) → KnownBelow p q → (f g : List Label → Local → Out A) → ((ids : List Label) (local : Local) → Grow (f ids local) (g ids local)) → Grow (after_full look (full_known p) f) (after_full look (full_known q) g)
grow_full look None q b f g h = grow_no_local look (full_known q) g
grow_full look (Some p) None b f g h = absurd b
grow_full look (Some p) (Some q) b f g h = grow_seen look p.ids q.ids p.local q.local b.0 b.1 f g h

-- what two programs make together
abbrev pub both_out : {A B C : Type 0} → (A → B → C) → Out A → Out B → Out C
both_out f o u = record { log = o.log ++ u.log; value = pair_value f o.value u.value }

pair_parts : {A B C : Type 0} (f : A → B → C) (x : Option A) (y : Option B) (c : C) → pair_value f x y ≡ Some c → ((a : A) × (x ≡ Some a)) × ((b : B) × (y ≡ Some b))
pair_parts f None y c e = none_some c e
pair_parts f (Some a) None c e = none_some c e
pair_parts f (Some a) (Some b) c e = ((a, refl), (b, refl))

grow_both : {A B C : Type 0} (f : A → B → C) (o p : Out A) (u v : Out B) → Grow o p → Grow u v → Grow (both_out f o u) (both_out f p v)
grow_both f o p u v g h = record {
  looks = contains_both o.log u.log p.log v.log g.looks h.looks;
  same = λ c e. let s = pair_parts f o.value u.value c e in ap (λ x. both_out f x v) (g.same s.0.0 s.0.1) ∙ ap (both_out f o) (h.same s.1.0 s.1.1);
}

-- a look of the first of two programs
pub contains_after : {A B : Type 0} (looks : List Need) (x : Option A) (f : A → Out B) (look : Need) → Contains looks look → Contains (after looks x f).log look
contains_after looks None f look h = h
contains_after looks (Some a) f look h = Contains-append_left looks (f a).log look h

after_value : {A B : Type 0} (o : Out A) (f : A → Out B) (a : A) → o.value ≡ Some a → after o.log o.value f ≡ record { log = o.log ++ (f a).log; value = (f a).value }
after_value o f a e = ap (λ x. after o.log x f) e

grow_next : {A B : Type 0} (o p : Out A) (x : Option A) → o.value ≡ x → (f g : A → Out B) → Grow o p → ((a : A) → Grow (f a) (g a)) → Grow (after o.log x f) (after p.log p.value g)
grow_next o p None e f g h r = record { looks = λ look i. contains_after p.log p.value g look (h.looks look i); same = λ b d. none_some b d }
grow_next o p (Some a) e f g h r =
    let s : p ≡ o = h.same a e in
    let t : after p.log p.value g ≡ record { log = o.log ++ (g a).log; value = (g a).value } = ap (λ x. after x.log x.value g) s ∙ after_value o g a e in
    subst (λ z. Grow (after o.log (Some a) f) z) (sym t) record {
      looks = contains_both o.log (f a).log o.log (g a).log (λ l q. q) (r a).looks;
      same = λ b d. ap (λ z. record { log = o.log ++ z.log; value = z.value }) ((r a).same b d);
    }

-- over a view that knows more a program looks at more
pub grows : (w v : View) → Below w v → {A : Type 0} → (t : Run A) → Grow (run w t) (run v t)
grows w v b (give a) = grow_itself _
grows w v b (see_ids name states k) = grow_ids _ (w name) (v name) (b name) (λ ids. run w (k ids)) (λ ids. run v (k ids)) (λ ids. grows w v b (k ids))
grows w v b (see_full name states k) = grow_full _ (w name) (v name) (b name) (λ ids local. run w (k ids local)) (λ ids local. run v (k ids local)) (λ ids local. grows w v b (k ids local))
grows w v b (both f r s) = grow_both f (run w r) (run v r) (run w s) (run v s) (grows w v b r) (grows w v b s)
grows w v b (next r k) = grow_next (run w r) (run v r) (run w r).value refl (λ a. run w (k a)) (λ a. run v (k a)) (grows w v b r) (λ a. grows w v b (k a))

-- ---- over all of a document

pair_some : {A B C : Type 0} (f : A → B → C) (x : Option A) (y : Option B) (a : A) (b : B) → x ≡ Some a → y ≡ Some b → pair_value f x y ≡ Some (f a b)
pair_some f x y a b e h = rw (e, h) refl

-- nothing lacks
pub evals : (d : Node) {A : Type 0} (t : Run A) → (run (all_of d) t).value ≡ Some (eval d t)
evals d (give a) = refl
evals d (see_ids name states k) = evals d (k (ids_in d name))
evals d (see_full name states k) = evals d (k (ids_in d name) (local_in d name))
evals d (both f r s) = pair_some f (run (all_of d) r).value (run (all_of d) s).value (eval d r) (eval d s) (evals d r) (evals d s)
evals d (next r k) = ap (λ (o : Out _). o.value) (after_value (run (all_of d) r) (λ a. run (all_of d) (k a)) (eval d r) (evals d r)) ∙ evals d (k (eval d r))

-- ---- where each look is met there is a value

-- the view meets all looks
abbrev pub AllMet : View → List Need → Type 0
AllMet w looks = (look : Need) → Contains looks look → meets w look ≡ true

-- there is a value
abbrev pub HasValue : {A : Type 0} → Option A → Type 0
HasValue {A} x = (a : A) × (x ≡ Some a)

decide_ids : {A : Type 0} (w : View) (p : Option Known) (look : Need) (f : List Label → Out A) → meets_known Ids p ≡ true → ((ids : List Label) → AllMet w (f ids).log → HasValue (f ids).value) → AllMet w (after_ids look (ids_known p) f).log → HasValue (after_ids look (ids_known p) f).value
decide_ids w None look f h r m = absurd (cc)
decide_ids w (Some p) look f h r m = r p.ids (λ l i. m l (contains_later look (f p.ids).log l i))

decide_seen : {A : Type 0} (w : View) (ids : List Label) (x : Option Local) (look : Need) (f : List Label → Local → Out A) → is_some x ≡ true → ((js : List Label) (local : Local) → AllMet w (f js local).log → HasValue (f js local).value) → AllMet w (after_full look (seen_with ids x) f).log → HasValue (after_full look (seen_with ids x) f).value
decide_seen w ids None look f h r m = absurd (cc)
decide_seen w ids (Some local) look f h r m = r ids local (λ l i. m l (contains_later look (f ids local).log l i))

decide_full : {A : Type 0} (w : View) (p : Option Known) (look : Need) (f : List Label → Local → Out A) → meets_known Full p ≡ true → ((ids : List Label) (local : Local) → AllMet w (f ids local).log → HasValue (f ids local).value) → AllMet w (after_full look (full_known p) f).log → HasValue (after_full look (full_known p) f).value
decide_full w None look f h r m = absurd (cc)
decide_full w (Some p) look f h r m = decide_seen w p.ids p.local look f h r m

-- the first look is made
pub looked_ids : {A : Type 0} (look : Need) (x : Option (List Label)) (f : List Label → Out A) → Contains (after_ids look x f).log look
looked_ids look None f = contains_first look []
looked_ids look (Some ids) f = contains_first look (f ids).log

-- so it is at level Full
pub looked_full : {A : Type 0} (look : Need) (x : Option Seen) (f : List Label → Local → Out A) → Contains (after_full look x f).log look
looked_full look None f = contains_first look []
looked_full look (Some seen) f = contains_first look (f seen.ids seen.local).log

decide_both : {A B C : Type 0} (f : A → B → C) (x : Option A) (y : Option B) → HasValue x → HasValue y → HasValue (pair_value f x y)
decide_both f x y a b = (f a.0 b.0, pair_some f x y a.0 b.0 a.1 b.1)

decide_next : {A B : Type 0} (w : View) (o : Out A) (f : A → Out B) → AllMet w (after o.log o.value f).log → HasValue o.value → ((a : A) → AllMet w (f a).log → HasValue (f a).value) → HasValue (after o.log o.value f).value
decide_next w o f m v r =
    let e : after o.log o.value f ≡ record { log = o.log ++ (f v.0).log; value = (f v.0).value } = after_value o f v.0 v.1 in
    let n : AllMet w (o.log ++ (f v.0).log) = subst (λ (z : Out _). AllMet w z.log) e m in
    subst (λ (z : Out _). HasValue z.value) (sym e) (r v.0 (λ l i. n l (Contains-append_right o.log (f v.0).log l i)))

-- a program all of whose looks are met is decided
pub decides : (w : View) {A : Type 0} (t : Run A) → AllMet w (run w t).log → HasValue (run w t).value
decides w (give a) m = (a, refl)
decides w (see_ids name states k) m = decide_ids w (w name) _ (λ ids. run w (k ids)) (m _ (looked_ids _ (ids_known (w name)) (λ ids. run w (k ids)))) (λ ids. decides w (k ids)) m
decides w (see_full name states k) m = decide_full w (w name) _ (λ ids local. run w (k ids local)) (m _ (looked_full _ (full_known (w name)) (λ ids local. run w (k ids local)))) (λ ids local. decides w (k ids local)) m
decides w (both f r s) m = decide_both f (run w r).value (run w s).value
    (decides w r (λ l i. m l (Contains-append_left (run w r).log (run w s).log l i)))
    (decides w s (λ l i. m l (Contains-append_right (run w r).log (run w s).log l i)))
decides w (next r k) m = decide_next w (run w r) (λ a. run w (k a)) m
    (decides w r (λ l i. m l (contains_after (run w r).log (run w r).value (λ a. run w (k a)) l i)))
    (λ a. decides w (k a))

-- each look is met: the same looks and the same value over all of each document of which the view is part
pub determined : (d : Node) (w : View) → Below w (all_of d) → {A : Type 0} (t : Run A) → AllMet w (run w t).log → (run w t ≡ run (all_of d) t) × ((run w t).value ≡ Some (eval d t))
determined d w b t m =
    let v = decides w t m in
    let e : run (all_of d) t ≡ run w t = (grows w (all_of d) b t).same v.0 v.1 in
    (sym e, ap (λ (o : Out _). o.value) (sym e) ∙ evals d t)

-- of two programs that follow one another the looks of the first come first
pub next_log : (document : Node) {A B : Type 0} (r : Run A) (k : A → Run B) → (run (all_of document) (next r k)).log ≡ (run (all_of document) r).log ++ (run (all_of document) (k (eval document r))).log
next_log document r k = ap (λ o. (after (run (all_of document) r).log o (λ a. run (all_of document) (k a))).log) (evals document r)
