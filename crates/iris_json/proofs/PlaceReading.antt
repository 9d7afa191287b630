-- From pairs of texts to what a city line places.
use Rattle.std.proofs.Common.{◌≡◌, ℕ, suc, ◌+◌, ◌<◌, ◌≤◌, Bool, true, false, true≢false, not, ◌||◌, List, [], ◌∷◌, ◌++◌, map, codes, Option, Some, None, is_some, option_and_then, Err, length, take, drop, get_or, inl, inr, refl, ap, sym, ◌∙◌, subst, arith, bytes_eq, cond, if◌then◌else◌}
use Rattle.std.specs.List.{AllByRecursion, IsDistinct, list_any, find}
use Rattle.std.specs.HashSet.{HashSet, contains}
use Rattle.std.specs.Cmp.Lexicographic.{pointwise}
use Rattle.std.proofs.lemmas.List.{take_more, take_all}
use Rattle.std.proofs.lemmas.Map.Keys.{IsDistinct-push}
use Rattle.std.proofs.lemmas.Slice.Eq.{bytes_eq-Decides}
use Rattle.serde_json.specs.declared.value.Value.{Value}
use Rattle.serde_json.specs.Data.{Data, string, array, Items}
use Rattle.serde_json.specs.Find.{as_array}
use Rattle.serde_json.specs.View.{view, items_view, items_of}
use Rattle.iris_base.specs.declared.name.Label.{Label}
use Rattle.iris_base.specs.NameOrder.{label_eq, names_equiv}
use Rattle.iris_base.specs.NameText.{name_text, IsName}
use Rattle.iris_base.proofs.NameReading.{name_text_once}
use Rattle.iris_fragment.proofs.Names.{alike_exact, alike_self}
use Rattle.iris_tree.specs.Universe.{Node, label_of, node_at}
use Rattle.iris_json.specs.declared.city.FormError.{FormError}
use Rattle.iris_json.specs.declared.city.FormError.TheVariants.{Shape, Memory}
use Rattle.iris_json.specs.CityForm.{ArePlaced, placed_names}
use Rattle.iris_json.specs.CityKeys.{texts_data, place_data, places_data}
use Rattle.iris_json.specs.CityReads.{HasNone}
use Rattle.iris_json.specs.Places.{IsPlaced, ArePlacedAt}
use Rattle.iris_json.proofs.KindReading.{array_there, mapped_len, mapped_more, parted, each_more, one_here, none_before, turned}

-- none is placed at the key, where the list there has none
pub none_at : (agents : List (List ℕ)) (tree : Node) (o : Option Data) (items : Items) (e : FormError) → Some items ≡ option_and_then as_array o → HasNone ((place : List (List Label × List ℕ)) → ArePlacedAt agents tree items place → ⊥) e
    → HasNone ((place : List (List Label × List ℕ)) → (o ≡ Some (places_data place)) × AllByRecursion (λ p. IsName p.0) place → ArePlaced agents tree place → ⊥) e
none_at agents tree o items Shape at none = λ place has placed. let there = array_there o items at in let are : items ≡ items_of (map place_data place) = cc (there, has.0) in none place (record { are = are; names = has.1; placed = placed })
none_at agents tree o items Memory at none = tt

-- ---- a name and an agent as a value

pub place_once : (a b : List Label × List ℕ) → IsName a.0 → IsName b.0 → place_data a ≡ place_data b → a ≡ b
place_once a b first second same =
    let names : name_text a.0 ≡ name_text b.0 = cc in
    let agents : a.1 ≡ b.1 = cc in
    let labels = name_text_once a.0 b.0 first second names in
    rw (labels, agents) refl

-- the first pairs of a list, which are those that were read, and the next
pub place_here : (vs : List Value) (v : Value) (after : List Value) (done xs : List (List Label × List ℕ)) → AllByRecursion (λ p. IsName p.0) done → AllByRecursion (λ p. IsName p.0) xs → items_view (vs ++ v ∷ after) ≡ items_of (map place_data xs) → items_view vs ≡ items_of (map place_data done)
    → (x : List Label × List ℕ) × (rest : List (List Label × List ℕ)) × (xs ≡ done ++ x ∷ rest) × (view v ≡ place_data x)
place_here [] v after [] [] named also whole front = absurd (cc)
place_here [] v after [] (x ∷ xs) named also whole front = let is : view v ≡ place_data x = cc in (x, xs, refl, is)
place_here [] v after (d ∷ done) xs named also whole front = absurd (cc)
place_here (w ∷ vs) v after [] xs named also whole front = absurd (cc)
place_here (w ∷ vs) v after (d ∷ done) [] named also whole front = absurd (cc)
place_here (w ∷ vs) v after (d ∷ done) (x ∷ xs) named also whole front =
    let rest_whole : items_view (vs ++ v ∷ after) ≡ items_of (map place_data xs) = cc in
    let rest_front : items_view vs ≡ items_of (map place_data done) = cc in
    let first : place_data x ≡ place_data d = cc in
    let same = place_once x d also.0 named.0 first in
    let later = place_here vs v after done xs named.1 also.1 rest_whole rest_front in
    let joined : x ∷ xs ≡ d ∷ (done ++ later.0 ∷ later.1) = ap (λ (ps : List (List Label × List ℕ)). x ∷ ps) later.2 ∙ ap (λ (p : List Label × List ℕ). p ∷ (done ++ later.0 ∷ later.1)) same in
    (later.0, later.1, joined, later.3)

pub places_same : (xs ys : List (List Label × List ℕ)) → AllByRecursion (λ p. IsName p.0) xs → AllByRecursion (λ p. IsName p.0) ys → items_of (map place_data xs) ≡ items_of (map place_data ys) → xs ≡ ys
places_same [] [] named also same = refl
places_same [] (y ∷ ys) named also same = absurd (cc)
places_same (x ∷ xs) [] named also same = absurd (cc)
places_same (x ∷ xs) (y ∷ ys) named also same =
    let rest : items_of (map place_data xs) ≡ items_of (map place_data ys) = cc in
    let first : place_data x ≡ place_data y = cc in
    rw (place_once x y named.0 also.0 first, places_same xs ys named.1 also.1 rest) refl

-- ---- names one after another

-- what is known of a pair that was read
abbrev pub IsGood : List (List ℕ) → Node → List Label × List ℕ → Type 0
IsGood agents tree p = IsName p.0 × (is_some (node_at tree p.0) ≡ true) × (list_any (bytes_eq p.1) agents ≡ true)

-- the first i of these values place these names
pub record PlacesSo (agents : List (List ℕ)) (tree : Node) (has : List Label → Bool) (items : List Value) (i : ℕ) (place : List (List Label × List ℕ)) (top : Bool) : Type 0 where
  pub same : items_view (take i items) ≡ items_of (map place_data place)
  pub names : AllByRecursion (λ p. IsName p.0) place
  pub are_nodes : AllByRecursion (λ p. is_some (node_at tree p.0) ≡ true) place
  pub listed : AllByRecursion (λ p. list_any (bytes_eq p.1) agents ≡ true) place
  pub once : IsDistinct (pointwise label_eq) (placed_names place)
  pub held : (q : List Label) → has q ≡ list_any (pointwise label_eq q) (placed_names place)
  pub top_is : top ≡ list_any (pointwise label_eq (label_of tree ∷ [])) (placed_names place)

pub places_start : (agents : List (List ℕ)) (tree : Node) (items : List Value) (place : List (List Label × List ℕ)) {S : Type 0} (set : HashSet (List Label) S) → place ≡ [] → set.keys ≡ [] → PlacesSo agents tree (contains (pointwise label_eq) set) items 0 place false
unfolding IsDistinct
places_start agents tree items [] set none empty = record { same = refl; names = tt; are_nodes = tt; listed = tt; once = tt; held = λ q. ap (list_any (pointwise label_eq q)) empty; top_is = refl }
places_start agents tree items (p ∷ place) set none empty = absurd (cc)

names_more : (place : List (List Label × List ℕ)) (p : List Label × List ℕ) → placed_names (place ++ p ∷ []) ≡ placed_names place ++ p.0 ∷ []
names_more [] p = refl
names_more (q ∷ place) p = ap (λ (ns : List (List Label)). q.0 ∷ ns) (names_more place p)

any_more : (test : List Label → Bool) (ns : List (List Label)) (n : List Label) → list_any test (ns ++ n ∷ []) ≡ (test n || list_any test ns)
any_more test [] n = refl
any_more test (m ∷ ns) n = by (test m) (test n) (list_any test ns) (list_any test (ns ++ n ∷ [])) (any_more test ns n)
  where
    by : (a b c d : Bool) → d ≡ (b || c) → (a || d) ≡ (b || (a || c))
    by true true c d e = refl
    by true false c d e = refl
    by false true c d e = e
    by false false c d e = e

cond_or : (a b : Bool) → cond a true b ≡ (a || b)
cond_or true b = refl
cond_or false b = refl

pub places_step : (agents : List (List ℕ)) (tree : Node) (old new : List Label → Bool) (items : List Value) (i : ℕ) (place : List (List Label × List ℕ)) (top now : Bool) → PlacesSo agents tree old items i place top → (v : Value) → i < length items → v ≡ get_or items i v → (p : List Label × List ℕ) → IsPlaced agents tree (view v) p
    → ((q : List Label) → new q ≡ cond (pointwise label_eq p.0 q) true (old q)) → old p.0 ≡ false → now ≡ (pointwise label_eq (label_of tree ∷ []) p.0 || top) → (more : List (List Label × List ℕ)) → more ≡ place ++ p ∷ [] → PlacesSo agents tree new items (i + 1) more now
places_step agents tree old new items i place top now s v within is p read made fresh tops more grown =
    let items_are : take (i + 1) items ≡ take i items ++ v ∷ [] = take_more items i v within ∙ ap (λ (x : Value). take i items ++ x ∷ []) (sym is) in
    let names = ap placed_names grown ∙ names_more place p in
    record {
      same = ap items_view items_are ∙ mapped_more place_data (take i items) v place p s.same read.is ∙ ap (λ (ps : List (List Label × List ℕ)). items_of (map place_data ps)) (sym grown);
      names = subst (AllByRecursion (λ p. IsName p.0)) (sym grown) (each_more (λ p. IsName p.0) place p s.names read.name);
      are_nodes = subst (AllByRecursion (λ p. is_some (node_at tree p.0) ≡ true)) (sym grown) (each_more (λ p. is_some (node_at tree p.0) ≡ true) place p s.are_nodes read.is_node);
      listed = subst (AllByRecursion (λ p. list_any (bytes_eq p.1) agents ≡ true)) (sym grown) (each_more (λ p. list_any (bytes_eq p.1) agents ≡ true) place p s.listed read.listed);
      once = subst (IsDistinct (pointwise label_eq)) (sym names) (IsDistinct-push names_equiv (placed_names place) p.0 s.once (sym (s.held p.0) ∙ fresh));
      held = λ q. made q ∙ cond_or (pointwise label_eq p.0 q) (old q) ∙ ap (λ (b : Bool). b || old q) (names_equiv.symm p.0 q) ∙ ap (λ (b : Bool). pointwise label_eq q p.0 || b) (s.held q) ∙ sym (any_more (pointwise label_eq q) (placed_names place) p.0) ∙ ap (list_any (pointwise label_eq q)) (sym names);
      top_is = tops ∙ ap (λ (b : Bool). pointwise label_eq (label_of tree ∷ []) p.0 || b) s.top_is ∙ sym (any_more (pointwise label_eq (label_of tree ∷ [])) (placed_names place) p.0) ∙ ap (list_any (pointwise label_eq (label_of tree ∷ []))) (sym names);
    }

here_names : (done : List (List Label × List ℕ)) (x : List Label × List ℕ) (rest : List (List Label × List ℕ)) → placed_names (done ++ x ∷ rest) ≡ placed_names done ++ x.0 ∷ placed_names rest
here_names [] x rest = refl
here_names (d ∷ done) x rest = ap (λ (ns : List (List Label)). d.0 ∷ ns) (here_names done x rest)

-- what the next value is in any reading
pub next_place : (agents : List (List ℕ)) (tree : Node) (has : List Label → Bool) (items : List Value) (i : ℕ) (done : List (List Label × List ℕ)) (top : Bool) → PlacesSo agents tree has items i done top → (v : Value) → i < length items → v ≡ get_or items i v → (place : List (List Label × List ℕ)) → ArePlacedAt agents tree (items_view items) place
    → (p : List Label × List ℕ) × IsPlaced agents tree (view v) p × (has p.0 ≡ false)
next_place agents tree has items i done top s v within is place at =
    let here = place_here (take i items) v (drop (suc i) items) done place s.names at.names (ap items_view (sym (parted items i v within is)) ∙ at.are) s.same in
    let x = here.0 in
    let differ = subst (IsDistinct (pointwise label_eq)) (ap placed_names here.2 ∙ here_names done x here.1) at.placed.once in
    let read : IsPlaced agents tree (view v) x = record {
      is = here.3;
      name = one_here (λ p. IsName p.0) done x here.1 (subst (AllByRecursion (λ p. IsName p.0)) here.2 at.names);
      is_node = one_here (λ p. is_some (node_at tree p.0) ≡ true) done x here.1 (subst (AllByRecursion (λ p. is_some (node_at tree p.0) ≡ true)) here.2 at.placed.are_nodes);
      listed = one_here (λ p. list_any (bytes_eq p.1) agents ≡ true) done x here.1 (subst (AllByRecursion (λ p. list_any (bytes_eq p.1) agents ≡ true)) here.2 at.placed.listed);
    } in
    (x, read, s.held x.0 ∙ turned (pointwise label_eq) names_equiv.symm (placed_names done) x.0 ∙ none_before (pointwise label_eq) (placed_names done) x.0 (placed_names here.1) differ)

pub places_found : (agents : List (List ℕ)) (tree : Node) (has : List Label → Bool) (items : List Value) (i : ℕ) (place : List (List Label × List ℕ)) (top : Bool) → PlacesSo agents tree has items i place top → length items ≤ i → top ≡ true → ArePlacedAt agents tree (items_view items) place
places_found agents tree has items i place top s end is = record {
  are = ap items_view (sym (take_all i items end)) ∙ s.same;
  names = s.names;
  placed = record { are_nodes = s.are_nodes; once = s.once; listed = s.listed; top = sym s.top_is ∙ is };
}

pub no_top : (agents : List (List ℕ)) (tree : Node) (has : List Label → Bool) (items : List Value) (i : ℕ) (done : List (List Label × List ℕ)) (top : Bool) → PlacesSo agents tree has items i done top → length items ≤ i → top ≡ false → (place : List (List Label × List ℕ)) → ArePlacedAt agents tree (items_view items) place → ⊥
no_top agents tree has items i done top s end is place at =
    let same = places_same done place s.names at.names (sym s.same ∙ ap items_view (take_all i items end) ∙ at.are) in
    true≢false (sym at.placed.top ∙ ap (λ (ps : List (List Label × List ℕ)). list_any (pointwise label_eq (label_of tree ∷ [])) (placed_names ps)) (sym same) ∙ sym s.top_is ∙ is)

-- ---- agents

by_agent : (b : Bool) (a text agent : List ℕ) (agents : List (List ℕ)) → bytes_eq a text ≡ b → Some agent ≡ (if b then Some a else find (λ x. bytes_eq x text) agents) → (Some agent ≡ find (λ x. bytes_eq x text) agents → (agent ≡ text) × (list_any (bytes_eq text) agents ≡ true)) → (agent ≡ text) × ((bytes_eq text a || list_any (bytes_eq text) agents) ≡ true)
by_agent true a text agent agents is found rest =
    let same : agent ≡ a = cc in
    let equal = (bytes_eq-Decides a text).0 is in
    (same ∙ equal, rw ((bytes_eq-Decides text a).1 (sym equal)) refl)
by_agent false a text agent agents is found rest = let r = rest found in (r.0, any_later (bytes_eq text a) (list_any (bytes_eq text) agents) r.1)
  where
    any_later : (x y : Bool) → y ≡ true → (x || y) ≡ true
    any_later true y h = refl
    any_later false y h = h

-- the agent that is found is the text, and one of the agents
pub agent_found : (agents : List (List ℕ)) (text agent : List ℕ) → Some agent ≡ find (λ x. bytes_eq x text) agents → (agent ≡ text) × (list_any (bytes_eq text) agents ≡ true)
agent_found [] text agent found = absurd (cc)
agent_found (a ∷ agents) text agent found = by_agent (bytes_eq a text) a text agent agents refl found (agent_found agents text agent)

none_found : (b : Bool) (a text : List ℕ) (agents : List (List ℕ)) → bytes_eq a text ≡ b → None ≡ (if b then Some a else find (λ x. bytes_eq x text) agents) → (None ≡ find (λ x. bytes_eq x text) agents → list_any (bytes_eq text) agents ≡ false) → (bytes_eq text a || list_any (bytes_eq text) agents) ≡ false
none_found true a text agents is none rest = absurd (cc)
none_found false a text agents is none rest = by (bytes_eq text a) refl (rest none)
  where
    by : (c : Bool) → bytes_eq text a ≡ c → list_any (bytes_eq text) agents ≡ false → (c || list_any (bytes_eq text) agents) ≡ false
    by true same h = let back : bytes_eq a text ≡ true = (bytes_eq-Decides a text).1 (sym ((bytes_eq-Decides text a).0 same)) in absurd (cc (back, is))
    by false same h = h

-- a text that is not found is none of the agents
pub agent_missing : (agents : List (List ℕ)) (text : List ℕ) → None ≡ find (λ x. bytes_eq x text) agents → list_any (bytes_eq text) agents ≡ false
agent_missing [] text none = refl
agent_missing (a ∷ agents) text none = none_found (bytes_eq a text) a text agents refl none (agent_missing agents text)

pub not_listed : (agents : List (List ℕ)) (tree : Node) (d : Data) (p : List Label × List ℕ) (name agent : List ℕ) → d ≡ texts_data (name ∷ agent ∷ []) → list_any (bytes_eq agent) agents ≡ false → IsPlaced agents tree d p → ⊥
not_listed agents tree d p name agent pair missing read =
    let same : agent ≡ p.1 = cc (pair, read.is) in
    true≢false (sym read.listed ∙ ap (λ (a : List ℕ). list_any (bytes_eq a) agents) (sym same) ∙ missing)

pub placed_of : (agents : List (List ℕ)) (tree : Node) (d : Data) (labels : List Label) (found : List ℕ) (name agent : List ℕ) → d ≡ texts_data (name ∷ agent ∷ []) → found ≡ agent → list_any (bytes_eq agent) agents ≡ true → (name ≡ name_text labels) × IsName labels × (is_some (node_at tree labels) ≡ true) → IsPlaced agents tree d (labels, found)
placed_of agents tree d labels found name agent pair same listed read = record {
  is = pair ∙ ap (λ (n : List ℕ). texts_data (n ∷ agent ∷ [])) read.0 ∙ ap (λ (a : List ℕ). texts_data (name_text labels ∷ a ∷ [])) (sym same);
  name = read.1;
  is_node = read.2;
  listed = ap (λ (a : List ℕ). list_any (bytes_eq a) agents) same ∙ listed;
}

-- what a reader of the next pair does not find no reader of all finds
pub none_next : (agents : List (List ℕ)) (tree : Node) (d : Data) (items : Items) (e : FormError) → HasNone ((p : List Label × List ℕ) → IsPlaced agents tree d p → ⊥) e → ((place : List (List Label × List ℕ)) → ArePlacedAt agents tree items place → (p : List Label × List ℕ) × IsPlaced agents tree d p)
    → HasNone ((place : List (List Label × List ℕ)) → ArePlacedAt agents tree items place → ⊥) e
none_next agents tree d items Shape none next = λ place at. let n = next place at in none n.0 n.1
none_next agents tree d items Memory none next = tt

-- a name that a set did not have, when it was put into it
pub fresh_name : (old : List Label → Bool) (added : Bool) (key name : List Label) → added ≡ not (old key) → key ≡ name → added ≡ true → old name ≡ false
fresh_name old added key name is same yes_added = subst (λ (n : List Label). old n ≡ false) same (not_true (old key) (sym is ∙ yes_added))
  where
    not_true : (b : Bool) → not b ≡ true → b ≡ false
    not_true true h = absurd (cc)
    not_true false h = refl

-- a name that no reading has before is put into the set
pub not_fresh : (agents : List (List ℕ)) (tree : Node) (d : Data) (old : List Label → Bool) (added : Bool) (key : List Label) (p q : List Label × List ℕ) → added ≡ not (old key) → key ≡ p.0 → IsPlaced agents tree d p → IsPlaced agents tree d q → old q.0 ≡ false → added ≡ false → ⊥
not_fresh agents tree d old added key p q is same read also fresh none =
    let equal = place_once p q read.name also.name (sym read.is ∙ also.is) in
    let before : old key ≡ false = ap old (same ∙ ap (λ (x : List Label × List ℕ). x.0) equal) ∙ fresh in
    true≢false (sym (is ∙ ap not before) ∙ none)
