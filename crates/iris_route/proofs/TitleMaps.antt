-- Titles that are looked up, put in and changed.
use Rattle.std.proofs.Common.{◌≡◌, ℕ, ◌<◌, Bool, true, false, cond, ◌||◌, if◌then◌else◌, is_some, List, [], ◌∷◌, ◌++◌, map, Option, Some, None, refl, sym, ap, ◌∙◌, subst, append-nil, append_assoc}
use Rattle.std.specs.Prelude.{slice_get}
use Rattle.std.specs.Option.{IsSomeAnd}
use Rattle.std.specs.List.{AllByRecursion, IsDistinct, list_any}
use Rattle.std.specs.Map.{lookup, keys_of}
use Rattle.std.specs.Cmp.Lexicographic.{pointwise}
use Rattle.std.proofs.lemmas.Slice.Eq.{slice_eq-Decides}
use Rattle.std.proofs.lemmas.List.Sums.{fold-append}
use Rattle.indexmap.specs.IndexMap.{insert_entry}
use Rattle.iris_base.specs.declared.name.Label.{Label}
use Rattle.iris_base.specs.NameOrder.{label_eq, names_equiv}
use Rattle.iris_base.proofs.Labels.{label_eq-Decides}
use Rattle.iris_route.specs.Titles.{Title, Titles, title_at, with_title, top_name}
use Rattle.iris_route.specs.Start.{put_all}

-- names that are alike are equal
pub name_exact : (m n : List Label) → pointwise label_eq m n ≡ true → m ≡ n
name_exact m n h = (slice_eq-Decides label_eq-Decides m n _ refl).0 h

-- ---- changes of one title

-- the title that was given stands there
pub set_here : (ts : Titles) (name : List Label) (t : Title) → is_some (title_at ts name) ≡ true → title_at (with_title ts name t) name ≡ Some t
set_here [] name t h = absurd (cc)
set_here (e ∷ es) name t h = by (pointwise label_eq name e.0) refl h (set_here es name t)
  where
    by : (b : Bool) → pointwise label_eq name e.0 ≡ b → is_some (cond b (Some e.1) (title_at es name)) ≡ true → (is_some (title_at es name) ≡ true → title_at (with_title es name t) name ≡ Some t)
        → title_at (cond b ((e.0, t) ∷ es) (e ∷ with_title es name t)) name ≡ Some t
    by true same h rest = ap (λ (b : Bool). cond b (Some t) (title_at es name)) same
    by false same h rest = ap (λ (b : Bool). cond b (Some e.1) (title_at (with_title es name t) name)) same ∙ rest h

-- at any other name stands what stood there
pub set_elsewhere : (ts : Titles) (name other : List Label) (t : Title) → pointwise label_eq other name ≡ false → title_at (with_title ts name t) other ≡ title_at ts other
set_elsewhere [] name other t apart = refl
set_elsewhere (e ∷ es) name other t apart = by (pointwise label_eq name e.0) refl (set_elsewhere es name other t apart)
  where
    by : (b : Bool) → pointwise label_eq name e.0 ≡ b → title_at (with_title es name t) other ≡ title_at es other → title_at (cond b ((e.0, t) ∷ es) (e ∷ with_title es name t)) other ≡ title_at (e ∷ es) other
    by true same rest =
        let off : pointwise label_eq other e.0 ≡ false = ap (pointwise label_eq other) (sym (name_exact name e.0 same)) ∙ apart in
        ap (λ (b : Bool). cond b (Some t) (title_at es other)) off ∙ sym (ap (λ (b : Bool). cond b (Some e.1) (title_at es other)) off)
    by false same rest = ap (λ (o : Option Title). cond (pointwise label_eq other e.0) (Some e.1) o) rest

-- the names stay
pub set_keys : (ts : Titles) (name : List Label) (t : Title) → keys_of (with_title ts name t) ≡ keys_of ts
set_keys [] name t = refl
set_keys (e ∷ es) name t = by (pointwise label_eq name e.0) (set_keys es name t)
  where
    by : (b : Bool) → keys_of (with_title es name t) ≡ keys_of es → keys_of (cond b ((e.0, t) ∷ es) (e ∷ with_title es name t)) ≡ keys_of (e ∷ es)
    by true rest = refl
    by false rest = ap (λ (ks : List (List Label)). e.0 ∷ ks) rest

-- what is newer is newer than a title
pub there_from_newer : (o : Option Title) (epoch : ℕ) → IsSomeAnd o (λ t. t.1 < epoch) → is_some o ≡ true
there_from_newer None epoch h = absurd h
there_from_newer (Some t) epoch h = refl

-- ---- the first name

-- the first name is the top node's
pub first_name : (ts : Titles) (name : List Label) (t : Title) → slice_get ts 0 ≡ Some (name, t) → top_name ts ≡ name
first_name [] name t h = absurd (cc)
first_name (e ∷ es) name t h = let same : e ≡ (name, t) = cc in ap (λ (x : List Label × Title). x.0) same

-- ---- titles put in

-- put in are the titles of one list after those of another
pub put_append : (ts xs ys : Titles) → put_all ts (xs ++ ys) ≡ put_all (put_all ts xs) ys
put_append ts xs ys = fold-append (λ (done : Titles) (p : List Label × Title). insert_entry (pointwise label_eq) done p.0 p.1) ts xs ys

apart_in : (k : List Label) (ds : Titles) (x : List Label × Title) (more : Titles) → AllByRecursion (λ y. pointwise label_eq k y ≡ false) (keys_of (ds ++ x ∷ more)) → pointwise label_eq k x.0 ≡ false
apart_in k [] x more h = h.0
apart_in k (d ∷ ds) x more h = apart_in k ds x more h.1

insert_fresh : (done : Titles) (x : List Label × Title) (more : Titles) → IsDistinct (pointwise label_eq) (keys_of (done ++ x ∷ more)) → insert_entry (pointwise label_eq) done x.0 x.1 ≡ done ++ x ∷ []
unfolding IsDistinct
insert_fresh [] x more h = refl
insert_fresh (d ∷ ds) x more h =
    let off : pointwise label_eq x.0 d.0 ≡ false = names_equiv.symm x.0 d.0 ∙ apart_in d.0 ds x more h.0 in
    ap (λ (b : Bool). if b then (d.0, x.1) ∷ ds else d ∷ insert_entry (pointwise label_eq) ds x.0 x.1) off ∙ ap (λ (es : Titles). d ∷ es) (insert_fresh ds x more h.1)

-- titles of different names stay as they are put in
pub put_distinct : (done more : Titles) → IsDistinct (pointwise label_eq) (keys_of (done ++ more)) → put_all done more ≡ done ++ more
put_distinct done [] h = sym (append-nil done)
put_distinct done (x ∷ more) h =
    let one = insert_fresh done x more h in
    let all : (done ++ x ∷ []) ++ more ≡ done ++ x ∷ more = append_assoc done (x ∷ []) more in
    ap (λ (ts : Titles). put_all ts more) one
    ∙ put_distinct (done ++ x ∷ []) more (subst (λ (ts : Titles). IsDistinct (pointwise label_eq) (keys_of ts)) (sym all) h) ∙ all

-- ---- look-ups

-- a name among those of a map has a value there
pub found_among : {V : Type 0} (name : List Label) (es : List (List Label × V)) → list_any (pointwise label_eq name) (keys_of es) ≡ true → (v : V) × (lookup (pointwise label_eq name) es ≡ Some v)
found_among name [] h = absurd (cc)
found_among {V} name (e ∷ es) h = by (pointwise label_eq name e.0) h (found_among name es)
  where
    by : (b : Bool) → (b || list_any (pointwise label_eq name) (keys_of es)) ≡ true → (list_any (pointwise label_eq name) (keys_of es) ≡ true → (v : V) × (lookup (pointwise label_eq name) es ≡ Some v))
        → (v : V) × (cond b (Some e.1) (lookup (pointwise label_eq name) es) ≡ Some v)
    by true h rest = (e.1, refl)
    by false h rest = rest h

-- the names of entries that are made of names
pub keys_of_named : {V : Type 0} (f : List Label → V) (names : List (List Label)) → keys_of (map (λ name. (name, f name)) names) ≡ names
keys_of_named f [] = refl
keys_of_named f (n ∷ ns) = ap (λ (ks : List (List Label)). n ∷ ks) (keys_of_named f ns)

-- what stands at each of some names
pub look_named : {V : Type 0} (f : List Label → V) (names : List (List Label)) (name : List Label)
    → lookup (pointwise label_eq name) (map (λ n. (n, f n)) names) ≡ (if list_any (λ other. pointwise label_eq other name) names then Some (f name) else None)
look_named f [] name = refl
look_named {V} f (n ∷ ns) name = by (pointwise label_eq name n) refl (look_named f ns name)
  where
    by : (b : Bool) → pointwise label_eq name n ≡ b → lookup (pointwise label_eq name) (map (λ n. (n, f n)) ns) ≡ (if list_any (λ other. pointwise label_eq other name) ns then Some (f name) else None)
        → cond b (Some (f n)) (lookup (pointwise label_eq name) (map (λ n. (n, f n)) ns)) ≡ (if (pointwise label_eq n name || list_any (λ other. pointwise label_eq other name) ns) then Some (f name) else None)
    by true same rest =
        ap (λ (x : List Label). Some (f x)) (sym (name_exact name n same))
        ∙ sym (ap (λ (b : Bool). if (b || list_any (λ other. pointwise label_eq other name) ns) then Some (f name) else None) (names_equiv.symm n name ∙ same))
    by false same rest =
        rest ∙ sym (ap (λ (b : Bool). if (b || list_any (λ other. pointwise label_eq other name) ns) then Some (f name) else None) (names_equiv.symm n name ∙ same))

-- ---- as the code has them

-- a change through the views of a map and of a name
pub set_told : (new inside old : Titles) (shown name : List Label) (t : Title) → new ≡ with_title inside shown t → shown ≡ name → inside ≡ old → new ≡ with_title old name t
set_told new inside old shown name t is seen viewed = is ∙ (λ k. with_title (viewed k) (seen k) t)
