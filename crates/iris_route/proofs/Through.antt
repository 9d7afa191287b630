-- Maps whose keys stand for others: look-ups and changes go through to these.
use Rattle.std.proofs.Common.{◌≡◌, Bool, true, false, cond, List, [], ◌∷◌, map, Some, None, refl, ap, sym, ◌∙◌}
use Rattle.std.specs.Prelude.{slice_get}
use Rattle.std.specs.Map.{lookup, set_value}
use Rattle.indexmap.specs.IndexMap.{insert_entry}

module _ {K L V : Type 0} (stands : K → L) where
  -- entries by what their keys stand for
  abbrev pub through : List (K × V) → List (L × V)
  through es = map (λ e. (stands e.0, e.1)) es

  -- what stands at a key
  pub lookup_through : (test : L → Bool) (es : List (K × V)) → lookup (λ k. test (stands k)) es ≡ lookup test (through es)
  lookup_through test [] = refl
  lookup_through test (e ∷ es) = ap (cond (test (stands e.0)) _) (lookup_through test es)

  -- an entry put in
  pub insert_through : (eq : L → L → Bool) (es : List (K × V)) (k : K) (v : V) → through (insert_entry (λ a b. eq (stands a) (stands b)) es k v) ≡ insert_entry eq (through es) (stands k) v
  insert_through eq [] k v = refl
  insert_through eq (e ∷ es) k v = by (eq (stands k) (stands e.0)) (insert_through eq es k v)
    where
      by : (b : Bool) → through (insert_entry (λ a b. eq (stands a) (stands b)) es k v) ≡ insert_entry eq (through es) (stands k) v
          → through (cond b ((e.0, v) ∷ es) (e ∷ insert_entry (λ a b. eq (stands a) (stands b)) es k v)) ≡ cond b ((stands e.0, v) ∷ through es) ((stands e.0, e.1) ∷ insert_entry eq (through es) (stands k) v)
      by true rest = refl
      by false rest = ap (λ (xs : List (L × V)). (stands e.0, e.1) ∷ xs) rest

  -- another value at a key
  pub set_through : (test : L → Bool) (es : List (K × V)) (w : V) → through (set_value (λ k. test (stands k)) es w) ≡ set_value test (through es) w
  set_through test [] w = refl
  set_through test (e ∷ es) w = by (test (stands e.0)) (set_through test es w)
    where
      by : (b : Bool) → through (set_value (λ k. test (stands k)) es w) ≡ set_value test (through es) w
          → through (cond b ((e.0, w) ∷ es) (e ∷ set_value (λ k. test (stands k)) es w)) ≡ cond b ((stands e.0, w) ∷ through es) ((stands e.0, e.1) ∷ set_value test (through es) w)
      by true rest = refl
      by false rest = ap (λ (xs : List (L × V)). (stands e.0, e.1) ∷ xs) rest

  -- ---- as the code has them

  -- a look-up
  pub found : (test : L → Bool) (es : List (K × V)) (view : List (L × V)) → through es ≡ view → lookup (λ k. test (stands k)) es ≡ lookup test view
  found test es view is = lookup_through test es ∙ ap (lookup test) is

  -- an entry put in
  pub inserted : (eq : L → L → Bool) (es new : List (K × V)) (k : K) (v : V) (view : List (L × V)) (name : L) → new ≡ insert_entry (λ a b. eq (stands a) (stands b)) es k v → through es ≡ view → stands k ≡ name
      → through new ≡ insert_entry eq view name v
  inserted eq es new k v view name is seen key =
      ap through is ∙ insert_through eq es k v ∙ ap (λ (xs : List (L × V)). insert_entry eq xs (stands k) v) seen ∙ ap (λ (l : L). insert_entry eq view l v) key

  -- another value at a key that is there
  pub set_found : (test : L → Bool) (es new : List (K × V)) (w : V) (view : List (L × V)) → new ≡ set_value (λ k. test (stands k)) es w → through es ≡ view → through new ≡ set_value test view w
  set_found test es new w view is seen = ap through is ∙ set_through test es w ∙ ap (λ (xs : List (L × V)). set_value test xs w) seen

  absent : (test : K → Bool) (es : List (K × V)) (w : V) → lookup test es ≡ None → set_value test es w ≡ es
  absent test [] w none = refl
  absent test (e ∷ es) w none = by (test e.0) none (absent test es w)
    where
      by : (b : Bool) → cond b (Some e.1) (lookup test es) ≡ None → (lookup test es ≡ None → set_value test es w ≡ es) → cond b ((e.0, w) ∷ es) (e ∷ set_value test es w) ≡ e ∷ es
      by true h rest = absurd (cc)
      by false h rest = ap (λ (xs : List (K × V)). e ∷ xs) (rest h)

  -- and no change where it isn't
  pub set_absent : (test : L → Bool) (es new : List (K × V)) (w : V) (view : List (L × V)) → new ≡ es → lookup (λ k. test (stands k)) es ≡ None → through es ≡ view → through new ≡ set_value test view w
  set_absent test es new w view is none seen = set_found test es new w view (is ∙ sym (absent (λ k. test (stands k)) es w none)) seen

  -- the first entry
  pub head_through : (es : List (K × V)) (k : K) (v : V) (view : List (L × V)) → slice_get es 0 ≡ Some (k, v) → through es ≡ view → slice_get view 0 ≡ Some (stands k, v)
  head_through [] k v view h seen = absurd (cc)
  head_through (e ∷ es) k v view h seen =
      let same : e ≡ (k, v) = cc in
      ap (λ (xs : List (L × V)). slice_get xs 0) (sym seen) ∙ ap (λ (x : K × V). Some (stands x.0, x.1)) same
