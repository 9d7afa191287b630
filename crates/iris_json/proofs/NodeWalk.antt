-- A walk over the nodes of a city line, up to the first that is at fault.
use Rattle.std.specs.Prelude.{MatchBool}
use Rattle.std.proofs.Common.{◌≡◌, Err, Decides, ◌↔◌, ℕ, zero, suc, ◌+◌, ◌-◌, ◌<◌, ◌≤◌, ◌^◌, min, Bool, true, false, List, [], ◌∷◌, ◌++◌, codes, cond, not, length, length-append, take, drop, get_or, refl, ap, sym, ◌∙◌, subst, arith}
use Rattle.std.proofs.lemmas.List.{take_more, take_all}
use Rattle.std.specs.List.{AllByRecursion, list_any}
use Rattle.std.specs.HashSet.{HashSet, contains}
use Rattle.serde_json.specs.declared.value.Value.{Value}
use Rattle.serde_json.specs.Data.{Data}
use Rattle.serde_json.specs.View.{view, items_view}
use Rattle.iris_base.specs.declared.name.Label.{Label}
use Rattle.iris_base.specs.NameOrder.{label_eq}
use Rattle.iris_base.proofs.Labels.{label_eq-Decides}
use Rattle.serde_json.specs.Find.{get}
use Rattle.iris_json.specs.declared.city.FormError.{FormError}
use Rattle.iris_json.specs.declared.city.FormError.TheVariants.{Shape, Memory}
use Rattle.iris_json.specs.declared.city.CityWhy.{CityWhy}
use Rattle.iris_json.specs.declared.city.CityWhy.TheVariants.{Twin}
use Rattle.iris_json.specs.declared.city_nodes.Steps.{Steps}
use Rattle.iris_json.specs.CityKeys.{LabelAt, GivesCityPart}
use Rattle.iris_json.specs.CityParts.{Spot, spots_below, spots_of, listed, FirstFails, told}
use Rattle.iris_json.specs.CityRows.{NodeHas, AllHas}
use Rattle.iris_json.specs.Steps.{Walks, AreLabelsOf, IsNewLabel, DoesHave}
use Rattle.iris_json.proofs.Spots.{earlier_after, after_more, AllSoFar, next_spot, so_far_more, so_far_whole, spots_more, spots_parted, fails_before, fails_after, below_is}
use Rattle.iris_json.proofs.NodeReading.{label_once}

-- the walk came over the first i of these nodes with all below them
pub record WalkedSo (why : CityWhy) (kinds : List (List ℕ)) (has : Label → Bool) (vs : List Value) (i : ℕ) (steps : Steps) : Type 0 where
  pub all : AllSoFar (AllHas why kinds) (codes "nodes") vs i
  pub passed : steps.passed ≡ told (length (spots_of (codes "nodes") [] (items_view (take i vs))))
  pub running : steps.failed ≡ false
  pub labels : why ≡ Twin → AreLabelsOf kinds has (earlier_after [] (take i vs))

told_sum : (passed below more sum a b : ℕ) → passed ≡ told a → below ≡ told b → more ≡ min (passed + 1) (2 ^ 32 - 1) → sum ≡ min (more + below) (2 ^ 32 - 1) → sum ≡ told (a + suc b)
told_sum passed below more sum a b first second plus plus_all = omega (arith, first, second, plus, plus_all)

-- ---- labels of siblings

-- a reader that says no more gives nothing
pub shape_gives : {X : Type 0} (e : FormError) (x : X) → e ≡ Shape → GivesCityPart (Err e) x → ⊥
shape_gives Shape x is gives = gives
shape_gives Memory x is gives = absurd (cc)

not_false : (b : Bool) → not b ≡ true → b ≡ false
not_false true h = absurd (cc)
not_false false h = refl

label_step : (kinds : List (List ℕ)) (d : Data) (earlier : List Data) (label q : Label) (b old new alike : Bool) → b ≡ alike → Decides b (label ≡ q) → LabelAt kinds d label → new ≡ cond alike true old
    → (old ≡ false ↔ AllByRecursion (λ e. LabelAt kinds e q → ⊥) earlier) → new ≡ false ↔ AllByRecursion (λ e. LabelAt kinds e q → ⊥) (d ∷ earlier)
label_step kinds d earlier label q b old new true is tells at made labels = (
  λ h. absurd (cc),
  λ h. let same : label ≡ q = tells.0 is in absurd (h.0 (subst (LabelAt kinds d) same at)),
)
label_step kinds d earlier label q b old new false is tells at made labels = (
  λ h. (λ (other : LabelAt kinds d q). let told : b ≡ true = tells.1 (label_once kinds d label q at other) in absurd (cc), labels.0 (sym made ∙ h)),
  λ h. made ∙ labels.1 h.1,
)

-- a label is new just where no earlier sibling has it, and is among the labels from then on
pub new_label : (kinds : List (List ℕ)) (d : Data) (label : Label) (old new : Label → Bool) (added : Bool) → LabelAt kinds d label → ((q : Label) → new q ≡ cond (label_eq label q) true (old q)) → added ≡ not (old label)
    → (earlier : List Data) → AreLabelsOf kinds old earlier → IsNewLabel kinds new earlier d added
new_label kinds d label old new added at made is earlier labels = (
  (
    λ h other also. subst (λ (l : Label). AllByRecursion (λ e. LabelAt kinds e l → ⊥) earlier) (label_once kinds d label other at also) ((labels label).0 (not_false (old label) (sym is ∙ h))),
    λ h. is ∙ ap not ((labels label).1 (h label at)),
  ),
  λ q. label_step kinds d earlier label q (label_eq label q) (old q) (new q) (label_eq label q) refl (label_eq-Decides label q) at (made q) (labels q),
)

-- ---- the walk

nodes_of_it : (d : Data) (vs : List Value) → items_view vs ≡ listed (get (codes "nodes") d) → spots_of (codes "nodes") [] (items_view vs) ≡ spots_below (codes "nodes") d
nodes_of_it d vs at = ap (spots_of (codes "nodes") []) at ∙ sym (below_is (codes "nodes") d)

-- the next node is at fault
pub fails_here : (why : CityWhy) (kinds : List (List ℕ)) (has : Label → Bool) (d : Data) (vs : List Value) (i : ℕ) (v : Value) (steps : Steps) → items_view vs ≡ listed (get (codes "nodes") d) → WalkedSo why kinds has vs i steps → i < length vs → v ≡ get_or vs i v
    → (AllHas why kinds (next_spot vs i v) → ⊥) → (before : ℕ) × FirstFails (AllHas why kinds) (spots_below (codes "nodes") d) before × (steps.passed ≡ told before)
fails_here why kinds has d vs i v steps at w within is fails =
    let done = spots_of (codes "nodes") [] (items_view (take i vs)) in
    let first : FirstFails (AllHas why kinds) (done ++ (next_spot vs i v ∷ (spots_below (codes "nodes") (view v) ++ spots_of (codes "nodes") (view v ∷ earlier_after [] (take i vs)) (items_view (drop (suc i) vs))))) (length done) =
    fails_after (AllHas why kinds) done (next_spot vs i v ∷ (spots_below (codes "nodes") (view v) ++ spots_of (codes "nodes") (view v ∷ earlier_after [] (take i vs)) (items_view (drop (suc i) vs)))) 0 (length done) (omega arith) w.all fails in
    (length done, subst (λ (spots : List Spot). FirstFails (AllHas why kinds) spots (length done)) (sym (spots_parted (codes "nodes") vs i v within is) ∙ nodes_of_it d vs at) first, w.passed)

-- one below the next node is
pub fails_below : (why : CityWhy) (kinds : List (List ℕ)) (has : Label → Bool) (d : Data) (vs : List Value) (i : ℕ) (v : Value) (steps below : Steps) (more sum : ℕ) → items_view vs ≡ listed (get (codes "nodes") d) → WalkedSo why kinds has vs i steps → i < length vs → v ≡ get_or vs i v
    → AllHas why kinds (next_spot vs i v) → below.failed ≡ true → Walks (AllHas why kinds) (spots_below (codes "nodes") (view v)) below → more ≡ min (steps.passed + 1) (2 ^ 32 - 1) → sum ≡ min (more + below.passed) (2 ^ 32 - 1)
    → (before : ℕ) × FirstFails (AllHas why kinds) (spots_below (codes "nodes") d) before × (sum ≡ told before)
fails_below why kinds has d vs i v steps below more sum at w within is here failed walks plus plus_all =
    let b : (before : ℕ) × FirstFails (AllHas why kinds) (spots_below (codes "nodes") (view v)) before × (below.passed ≡ told before) = subst (λ (c : Bool). MatchBool c ((before : ℕ) × FirstFails (AllHas why kinds) (spots_below (codes "nodes") (view v)) before × (below.passed ≡ told before)) (AllByRecursion (AllHas why kinds) (spots_below (codes "nodes") (view v)) × (below.passed ≡ told (length (spots_below (codes "nodes") (view v)))))) failed walks in
    let done = spots_of (codes "nodes") [] (items_view (take i vs)) in
    let later = spots_of (codes "nodes") (view v ∷ earlier_after [] (take i vs)) (items_view (drop (suc i) vs)) in
    let k = length done + suc b.0 in
    let first : FirstFails (AllHas why kinds) (done ++ (next_spot vs i v ∷ (spots_below (codes "nodes") (view v) ++ later))) k =
    fails_after (AllHas why kinds) done (next_spot vs i v ∷ (spots_below (codes "nodes") (view v) ++ later)) (suc b.0) k refl w.all (here, fails_before (AllHas why kinds) (spots_below (codes "nodes") (view v)) later b.0 b.1) in
    (k, subst (λ (spots : List Spot). FirstFails (AllHas why kinds) spots k) (sym (spots_parted (codes "nodes") vs i v within is) ∙ nodes_of_it d vs at) first, told_sum steps.passed below.passed more sum (length done) b.0 w.passed b.2 plus plus_all)

-- the next node is right, and all below it
pub walked_more : (why : CityWhy) (kinds : List (List ℕ)) (old has : Label → Bool) (vs : List Value) (i : ℕ) (v : Value) (steps below new : Steps) (more : ℕ) → WalkedSo why kinds old vs i steps → i < length vs → v ≡ get_or vs i v
    → AllHas why kinds (next_spot vs i v) → (why ≡ Twin → AreLabelsOf kinds has (view v ∷ earlier_after [] (take i vs))) → below.failed ≡ false → Walks (AllHas why kinds) (spots_below (codes "nodes") (view v)) below
    → more ≡ min (steps.passed + 1) (2 ^ 32 - 1) → new.passed ≡ min (more + below.passed) (2 ^ 32 - 1) → new.failed ≡ steps.failed → WalkedSo why kinds has vs (i + 1) new
walked_more why kinds old has vs i v steps below new more w within is here labels running walks plus plus_all same =
    let b : AllByRecursion (AllHas why kinds) (spots_below (codes "nodes") (view v)) × (below.passed ≡ told (length (spots_below (codes "nodes") (view v)))) = subst (λ (c : Bool). MatchBool c ((before : ℕ) × FirstFails (AllHas why kinds) (spots_below (codes "nodes") (view v)) before × (below.passed ≡ told before)) (AllByRecursion (AllHas why kinds) (spots_below (codes "nodes") (view v)) × (below.passed ≡ told (length (spots_below (codes "nodes") (view v)))))) running walks in
    let taken : take (i + 1) vs ≡ take i vs ++ v ∷ [] = take_more vs i v within ∙ ap (λ (x : Value). take i vs ++ x ∷ []) (sym is) in
    let spots = spots_more (codes "nodes") vs i v taken in
    let done = spots_of (codes "nodes") [] (items_view (take i vs)) in
    let len : length (spots_of (codes "nodes") [] (items_view (take (i + 1) vs))) ≡ length done + suc (length (spots_below (codes "nodes") (view v))) = ap length spots ∙ length-append done (next_spot vs i v ∷ spots_below (codes "nodes") (view v)) in
    record {
      all = so_far_more (AllHas why kinds) (codes "nodes") vs i v within is w.all here b.0;
      passed = told_sum steps.passed below.passed more new.passed (length done) (length (spots_below (codes "nodes") (view v))) w.passed b.1 plus plus_all ∙ ap told (sym len);
      running = same ∙ w.running;
      labels = λ twin. subst (AreLabelsOf kinds has) (sym (ap (earlier_after []) taken ∙ after_more [] (take i vs) v)) (labels twin);
    }

-- the walk is over
pub walked_all : (why : CityWhy) (kinds : List (List ℕ)) (has : Label → Bool) (d : Data) (vs : List Value) (i : ℕ) (steps : Steps) → items_view vs ≡ listed (get (codes "nodes") d) → WalkedSo why kinds has vs i steps → length vs ≤ i → Walks (AllHas why kinds) (spots_below (codes "nodes") d) steps
walked_all why kinds has d vs i steps at w end =
    let whole : spots_of (codes "nodes") [] (items_view (take i vs)) ≡ spots_below (codes "nodes") d = ap (λ (xs : List Value). spots_of (codes "nodes") [] (items_view xs)) (take_all i vs end) ∙ nodes_of_it d vs at in
    subst (λ (c : Bool). MatchBool c ((before : ℕ) × FirstFails (AllHas why kinds) (spots_below (codes "nodes") d) before × (steps.passed ≡ told before)) (AllByRecursion (AllHas why kinds) (spots_below (codes "nodes") d) × (steps.passed ≡ told (length (spots_below (codes "nodes") d)))))
    (sym w.running) (subst (AllByRecursion (AllHas why kinds)) whole w.all, w.passed ∙ ap (λ (spots : List Spot). told (length spots)) whole)

-- of a node itself, and of all below it
pub walks_top : (P : Spot → Type 0) (top : Spot) (spots : List Spot) (below steps : Steps) → P top → Walks P spots below → steps.failed ≡ below.failed → steps.passed ≡ min (below.passed + 1) (2 ^ 32 - 1) → Walks P (top ∷ spots) steps
walks_top P top spots below steps here walks same plus = by below.failed steps.failed same walks
  where
    by : (b c : Bool) → c ≡ b → MatchBool b ((before : ℕ) × FirstFails P spots before × (below.passed ≡ told before)) (AllByRecursion P spots × (below.passed ≡ told (length spots)))
        → MatchBool c ((before : ℕ) × FirstFails P (top ∷ spots) before × (steps.passed ≡ told before)) (AllByRecursion P (top ∷ spots) × (steps.passed ≡ told (length (top ∷ spots))))
    by true true e w = (suc w.0, (here, w.1), plus ∙ omega (arith, w.2))
    by false false e w = ((here, w.0), plus ∙ omega (arith, w.1))
    by true false e w = absurd (cc)
    by false true e w = absurd (cc)

-- a set that is empty has the labels of no siblings
pub no_labels : (kinds : List (List ℕ)) {S : Type 0} (set : HashSet Label S) → set.keys ≡ [] → AreLabelsOf kinds (contains label_eq set) []
no_labels kinds set empty label = (λ h. tt, λ h. ap (list_any (label_eq label)) empty)

-- the row of twins
pub twin_does : (why : CityWhy) (kinds : List (List ℕ)) (set : Label → Bool) (earlier : List Data) (d : Data) (answer : Bool) → why ≡ Twin → IsNewLabel kinds set earlier d answer → DoesHave (NodeHas why kinds) why kinds set earlier d answer
twin_does why kinds set earlier d answer is new =
    let twins : DoesHave (NodeHas Twin kinds) Twin kinds set earlier d answer = (new.0, λ h twin. new.1) in
    subst (λ (w : CityWhy). DoesHave (NodeHas w kinds) w kinds set earlier d answer) (sym is) twins
