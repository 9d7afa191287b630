-- Predicates and paths over the view of a walk, form by form.
use Rattle.std.proofs.Common.{◌≡◌, ◌==◌, OnOk, Result, Ok, Err, ℕ, zero, suc, ℤ, Bool, true, false, not, ◌&&◌, ◌||◌, List, [], ◌∷◌, ◌++◌, map, length, Option, Some, None, option_map, refl, sym, ap, ◌∙◌, subst}
use Rattle.std.proofs.Math.Dec.{eqb-suc-zero}
use Rattle.std.specs.List.{filter_map}
use Rattle.iris_base.specs.declared.name.Label.{Label}
use Rattle.iris_xpath.specs.declared.expression.Comparison.{Comparison}
use Rattle.iris_xpath.specs.declared.expression.Expression.{Expression}
use Rattle.iris_xpath.specs.Meaning.{Value, of_text, of_number, has_some}
use Rattle.iris_xpath.specs.Said.{all_conditions}
use Rattle.iris_xpath.specs.Syntax.{Condition, not_so, selects, compares, condition_of, Steps, Side, values_of, literal, number}
use Rattle.iris_need.specs.declared.need.Need.{Need}
use Rattle.iris_need.specs.declared.walk.Walk.{Walk}
use Rattle.iris_need.specs.Program.{Spot, spot_of, without_last, above_name, spots_above, Marks, gather, where_so, and_so, ends, values, holds, any_holds, each_holds, all_hold}
use Rattle.iris_need.specs.Run.{Run, give, next, pair_value}
use Rattle.iris_need.specs.declared.further.Further.{Further}
use Rattle.iris_xpath.specs.declared.expression.Separator.TheVariants.{Slash}
use Rattle.iris_need.specs.Walk.{given, side_values, some_compare, step_in, deeper_reached}
use Rattle.iris_need.proofs.Collected.{collected_give, given_give, collected_both, given_both, next_giving, given_next, next_undecided, next_decided}
use Rattle.iris_need.proofs.Reached.{gather_one, where_none, where_false, where_true}
use Rattle.iris_need.proofs.Walked.{adding}

-- a program's looks lead to these needs, and it gives this
abbrev pub Tells : Walk → List Need → List Need → {A : Type 0} → Option A → Run A → Type 0
Tells w old new value r = (new ≡ adding w old r) × (value ≡ given w r)

-- a value takes no look
pub gives_at_once : (w : Walk) (needs : List Need) {A : Type 0} (a : A) → Tells w needs needs (Some a) (give a)
gives_at_once w needs a = (sym (collected_give w.takes w.above.now w.view.now needs a), sym (given_give w.above.now w.view.now a))

module _ (w : Walk) (marks : Marks) (spot : Spot) where
  -- ---- all of some predicates, up to the first that is false

  pub all_none : (needs : List Need) (ps : List Expression) → ps ≡ [] → Tells w needs needs (Some true) (all_hold w.top marks (all_conditions ps) spot)
  all_none needs ps h = rw h (gives_at_once w needs true)

  pub all_undecided : (needs new : List Need) (ps rest : List Expression) (p : Expression) → ps ≡ p ∷ rest → Tells w needs new None (holds w.top marks (condition_of p) spot) → Tells w needs new None (all_hold w.top marks (all_conditions ps) spot)
  all_undecided needs new ps rest p h t =
      let both = next_undecided w.takes w.above.now w.view.now needs (holds w.top marks (condition_of p) spot) (λ b. and_so b (all_hold w.top marks (all_conditions rest) spot)) (sym t.1) in
      rw h (t.0 ∙ sym both.0, sym both.1)

  pub all_false : (needs new : List Need) (ps rest : List Expression) (p : Expression) → ps ≡ p ∷ rest → Tells w needs new (Some false) (holds w.top marks (condition_of p) spot) → Tells w needs new (Some false) (all_hold w.top marks (all_conditions ps) spot)
  all_false needs new ps rest p h t =
      let both = next_decided w.takes w.above.now w.view.now needs (holds w.top marks (condition_of p) spot) false (λ b. and_so b (all_hold w.top marks (all_conditions rest) spot)) (sym t.1) in
      rw h (t.0 ∙ sym (both.0 ∙ collected_give w.takes w.above.now w.view.now _ false), sym (both.1 ∙ given_give w.above.now w.view.now false))

  pub all_true : (needs mid : List Need) (ps rest : List Expression) (p : Expression) (at : Spot) → ps ≡ p ∷ rest → at ≡ spot → Tells w needs mid (Some true) (holds w.top marks (condition_of p) spot)
      → (adding w mid (all_hold w.top marks (all_conditions rest) at) ≡ adding w needs (all_hold w.top marks (all_conditions ps) spot)) × (given w (all_hold w.top marks (all_conditions rest) at) ≡ given w (all_hold w.top marks (all_conditions ps) spot))
  all_true needs mid ps rest p at h e t =
      let both = next_decided w.takes w.above.now w.view.now needs (holds w.top marks (condition_of p) spot) true (λ b. and_so b (all_hold w.top marks (all_conditions rest) spot)) (sym t.1) in
      rw (h, e) (ap (λ (ns : List Need). adding w ns (all_hold w.top marks (all_conditions rest) spot)) t.0 ∙ sym both.0, sym both.1)

  -- ---- some and each of some conditions

  pub any_none : (needs : List Need) (ps : List Expression) → ps ≡ [] → Tells w needs needs (Some false) (any_holds w.top marks (all_conditions ps) spot)
  any_none needs ps h = rw h (gives_at_once w needs false)

  pub any_first : (needs mid new : List Need) (ps rest : List Expression) (p : Expression) (at : Spot) (here further so : Option Bool) → ps ≡ p ∷ rest → at ≡ spot → Tells w needs mid here (holds w.top marks (condition_of p) spot)
      → Tells w mid new further (any_holds w.top marks (all_conditions rest) at) → so ≡ pair_value (λ a b. a || b) here further → Tells w needs new so (any_holds w.top marks (all_conditions ps) spot)
  any_first needs mid new ps rest p at here further so h e t u s =
      let one = holds w.top marks (condition_of p) spot in
      let two = any_holds w.top marks (all_conditions rest) spot in
      let later = rw e at u in
      rw h (
        later.0 ∙ ap (λ (ns : List Need). adding w ns two) t.0 ∙ sym (collected_both w.takes w.above.now w.view.now needs (λ a b. a || b) one two),
        s ∙ ap (λ (x : Option Bool). pair_value (λ a b. a || b) x further) t.1 ∙ ap (pair_value (λ a b. a || b) (given w one)) later.1 ∙ sym (given_both w.above.now w.view.now (λ a b. a || b) one two),
      )

  pub each_none : (needs : List Need) (ps : List Expression) → ps ≡ [] → Tells w needs needs (Some true) (each_holds w.top marks (all_conditions ps) spot)
  each_none needs ps h = rw h (gives_at_once w needs true)

  pub each_first : (needs mid new : List Need) (ps rest : List Expression) (p : Expression) (at : Spot) (here further so : Option Bool) → ps ≡ p ∷ rest → at ≡ spot → Tells w needs mid here (holds w.top marks (condition_of p) spot)
      → Tells w mid new further (each_holds w.top marks (all_conditions rest) at) → so ≡ pair_value (λ a b. a && b) here further → Tells w needs new so (each_holds w.top marks (all_conditions ps) spot)
  each_first needs mid new ps rest p at here further so h e t u s =
      let one = holds w.top marks (condition_of p) spot in
      let two = each_holds w.top marks (all_conditions rest) spot in
      let later = rw e at u in
      rw h (
        later.0 ∙ ap (λ (ns : List Need). adding w ns two) t.0 ∙ sym (collected_both w.takes w.above.now w.view.now needs (λ a b. a && b) one two),
        s ∙ ap (λ (x : Option Bool). pair_value (λ a b. a && b) x further) t.1 ∙ ap (pair_value (λ a b. a && b) (given w one)) later.1 ∙ sym (given_both w.above.now w.view.now (λ a b. a && b) one two),
      )

  -- ---- forms of conditions

  pub holds_not : (needs new : List Need) (c d : Condition) (o : Option Bool) → c ≡ not_so d → Tells w needs new o (holds w.top marks d spot) → Tells w needs new (option_map not o) (holds w.top marks c spot)
  holds_not needs new c d o h t =
      rw h (t.0 ∙ sym (next_giving w.takes w.above.now w.view.now needs (holds w.top marks d spot) not), ap (option_map not) t.1 ∙ sym (given_next w.above.now w.view.now (holds w.top marks d spot) not))

  pub holds_path : (needs new : List Need) (c : Condition) (steps : Steps) (o : Option (List (Option (List ℕ)))) → c ≡ selects steps → Tells w needs new o (ends w.top marks steps spot) → Tells w needs new (option_map has_some o) (holds w.top marks c spot)
  holds_path needs new c steps o h t =
      rw h (t.0 ∙ sym (next_giving w.takes w.above.now w.view.now needs (ends w.top marks steps spot) has_some), ap (option_map has_some) t.1 ∙ sym (given_next w.above.now w.view.now (ends w.top marks steps spot) has_some))

  pub holds_compare : (needs mid new : List Need) (c : Condition) (left right : Side) (comparison : Comparison) (at : Spot) (us vs : Option (List Value)) → c ≡ compares left comparison right → at ≡ spot → Tells w needs mid us (values w.top marks left spot) → Tells w mid new vs (values w.top marks right at)
      → Tells w needs new (pair_value (some_compare comparison) us vs) (holds w.top marks c spot)
  holds_compare needs mid new c left right comparison at us vs h e t u =
      let one = values w.top marks left spot in
      let two = values w.top marks right spot in
      let later = rw e at u in
      rw h (
        later.0 ∙ ap (λ (ns : List Need). adding w ns two) t.0 ∙ sym (collected_both w.takes w.above.now w.view.now needs (some_compare comparison) one two),
        ap (λ (x : Option (List Value)). pair_value (some_compare comparison) x vs) t.1 ∙ ap (pair_value (some_compare comparison) (given w one)) later.1 ∙ sym (given_both w.above.now w.view.now (some_compare comparison) one two),
      )

  -- ---- sides of comparisons

  texts_mapped : {E : Type 0} (f : E → List (Option (List ℕ))) (g : List (Option (List ℕ)) → List Value) (o : Option E) → option_map (λ e. g (f e)) o ≡ option_map g (option_map f o)
  texts_mapped f g None = refl
  texts_mapped f g (Some e) = refl

  pub side_looks : (needs new : List Need) (s : Side) (steps : Steps) → s ≡ values_of steps → new ≡ adding w needs (ends w.top marks steps spot) → new ≡ adding w needs (values w.top marks s spot)
  side_looks needs new s steps h t = rw h (t ∙ sym (next_giving w.takes w.above.now w.view.now needs (ends w.top marks steps spot) (λ found. map of_text (filter_map (λ end. end) found))))

  pub side_path : {E : Type 0} (f : E → List (Option (List ℕ))) (s : Side) (steps : Steps) (o : Option E) → s ≡ values_of steps → option_map f o ≡ given w (ends w.top marks steps spot) → option_map (λ e. side_values s (f e)) o ≡ given w (values w.top marks s spot)
  side_path f s steps o h t =
      rw h (texts_mapped f (λ found. map of_text (filter_map (λ end. end) found)) o ∙ ap (option_map (λ found. map of_text (filter_map (λ end. end) found))) t
      ∙ sym (given_next w.above.now w.view.now (ends w.top marks steps spot) (λ found. map of_text (filter_map (λ end. end) found))))

  pub side_literal : (needs : List Need) (s : Side) (text : List ℕ) (found : List (Option (List ℕ))) → s ≡ literal text → Tells w needs needs (Some (side_values s found)) (values w.top marks s spot)
  side_literal needs s text found h = rw h (gives_at_once w needs (of_text text ∷ []))

  pub side_number : (needs : List Need) (s : Side) (n : ℤ) (found : List (Option (List ℕ))) → s ≡ number n → Tells w needs needs (Some (side_values s found)) (values w.top marks s spot)
  side_number needs s n found h = rw h (gives_at_once w needs (of_number n ∷ []))

-- ---- the place above

without_pushed : (m : Label) (ms : List Label) (l : Label) → without_last m (ms ++ l ∷ []) ≡ m ∷ ms
without_pushed m [] l = refl
without_pushed m (n ∷ ms) l = ap (λ (ls : List Label). m ∷ ls) (without_pushed n ms l)

-- right above a node is what has the name above
pub above_pushed : (name : List Label) (l : Label) → above_name (name ++ l ∷ []) ≡ spot_of name ∷ []
above_pushed [] l = refl
above_pushed (m ∷ name) l = ap (λ (ls : List Label). spot_of ls ∷ []) (without_pushed m name l)

-- from the place right above the one
pub above_is : (w : Walk) (needs : List Need) (marks : Marks) (steps : Steps) (spot at : Spot) → spots_above spot ≡ at ∷ []
    → (adding w needs (ends w.top marks steps at) ≡ adding w needs (gather (ends w.top marks steps) (spots_above spot))) × (given w (ends w.top marks steps at) ≡ given w (gather (ends w.top marks steps) (spots_above spot)))
above_is w needs marks steps spot at h =
    let one = gather_one w needs (ends w.top marks steps) at in
    rw h (sym one.0, sym one.1)

-- nothing is above
pub none_above : (w : Walk) (needs : List Need) (marks : Marks) (steps : Steps) (spot : Spot) → spots_above spot ≡ [] → Tells w needs needs (Some []) (gather (ends w.top marks steps) (spots_above spot))
none_above w needs marks steps spot h = rw h (gives_at_once w needs [])

-- a fact that holds in any case
pub always_ok : {T E P : Type 0} (r : Result T E) → P → OnOk r P
always_ok (Ok v) p = p
always_ok (Err e) p = tt

-- whether a list has an element, by its length
pub some_by_length : {X : Type 0} (xs : List X) → not (length xs == 0) ≡ has_some xs
some_by_length [] = refl
some_by_length (x ∷ xs) = ap not (eqb-suc-zero (length xs))

-- ---- steps that go no further

-- a step by `/` does not go on
pub deeper_slash : (w : Walk) (needs : List Need) (levels : ℕ) (f : Further) (name : List Label) → (step_in f).separator ≡ Slash → Tells w needs needs (Some []) (deeper_reached w levels f name)
deeper_slash w needs zero f name h = gives_at_once w needs []
deeper_slash w needs (suc levels) f name h = rw h (gives_at_once w needs [])

-- ---- where predicates hold

module _ (w : Walk) {A : Type 0} (marks given_marks : Marks) (ps qs : List Expression) (spot : Spot) (r : Spot → Run (List A)) (marked : given_marks ≡ marks) (same : ps ≡ qs) where
  tests_same : (needs new : List Need) (o : Option Bool) → Tells w needs new o (all_hold w.top given_marks (all_conditions ps) spot) → Tells w needs new o (all_hold w.top marks (all_conditions qs) spot)
  tests_same needs new o t = subst (λ (ms : Marks). Tells w needs new o (all_hold w.top ms (all_conditions qs) spot)) marked (subst (λ (es : List Expression). Tells w needs new o (all_hold w.top given_marks (all_conditions es) spot)) same t)

  -- undecided
  pub tests_none : (needs new : List Need) → Tells w needs new None (all_hold w.top given_marks (all_conditions ps) spot) → Tells w needs new None (next (all_hold w.top marks (all_conditions qs) spot) (λ b. where_so b (r spot)))
  tests_none needs new t =
      let k = tests_same needs new None t in
      let both = where_none w needs (all_hold w.top marks (all_conditions qs) spot) (r spot) (sym k.1) in
      (k.0 ∙ sym both.0, sym both.1)

  -- false
  pub tests_false : (needs new : List Need) → Tells w needs new (Some false) (all_hold w.top given_marks (all_conditions ps) spot) → Tells w needs new (Some []) (next (all_hold w.top marks (all_conditions qs) spot) (λ b. where_so b (r spot)))
  tests_false needs new t =
      let k = tests_same needs new (Some false) t in
      let both = where_false w needs (all_hold w.top marks (all_conditions qs) spot) (r spot) (sym k.1) in
      (k.0 ∙ sym both.0, sym both.1)

  -- true: what follows is done from there
  pub tests_true : (needs mid : List Need) (at : Spot) → at ≡ spot → Tells w needs mid (Some true) (all_hold w.top given_marks (all_conditions ps) spot)
      → (adding w mid (r at) ≡ adding w needs (next (all_hold w.top marks (all_conditions qs) spot) (λ b. where_so b (r spot)))) × (given w (r at) ≡ given w (next (all_hold w.top marks (all_conditions qs) spot) (λ b. where_so b (r spot))))
  tests_true needs mid at e t =
      let k = tests_same needs mid (Some true) t in
      let both = where_true w needs (all_hold w.top marks (all_conditions qs) spot) (r spot) (sym k.1) in
      (ap (λ (ns : List Need). adding w ns (r at)) k.0 ∙ ap (λ (s : Spot). adding w (adding w needs (all_hold w.top marks (all_conditions qs) spot)) (r s)) e ∙ sym both.0, ap (λ (s : Spot). given w (r s)) e ∙ sym both.1)
