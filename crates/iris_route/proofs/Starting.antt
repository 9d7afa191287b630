-- The titles at the start of a city, as they are put in.
use Rattle.std.proofs.Common.{◌≡◌, ℕ, suc, ◌+◌, ◌<◌, ◌≤◌, Bool, true, false, cond, List, [], ◌∷◌, ◌++◌, map, take, drop, get_or, length, Option, Some, None, option_map, refl, sym, ap, ◌∙◌, subst, arith, append_assoc}
use Rattle.std.specs.Prelude.{unwrap_or}
use Rattle.std.specs.List.{IsDistinct, list_any}
use Rattle.std.specs.Map.{keys_of}
use Rattle.std.specs.Cmp.Lexicographic.{pointwise, slice_cmp}
use Rattle.std.proofs.lemmas.List.{drop_all, take_more, map-append}
use Rattle.std.proofs.lemmas.List.Sums.{fold_push}
use Rattle.std.proofs.lemmas.Map.Keys.{IsDistinct-from_sorted}
use Rattle.std.proofs.Math.Seq.{drop-cons}
use Rattle.indexmap.specs.IndexMap.{insert_entry}
use Rattle.iris_base.specs.declared.name.Label.{Label}
use Rattle.iris_base.specs.NameOrder.{label_eq, label_cmp, names_ties}
use Rattle.iris_tree.specs.Universe.{Node, node, nodes_of, label_of, children_of, IsOrdered}
use Rattle.iris_tree.specs.Document.{names_of, all_names_of}
use Rattle.iris_tree.proofs.Siblings.{node_parts}
use Rattle.iris_xpath.proofs.Names.{names_rise}
use Rattle.iris_route.specs.Titles.{Title, Titles, title_at}
use Rattle.iris_route.specs.Start.{Places, agent_at, owner_down, start_owner, start_titles, placed_titles, title_down, titles_below, put_all}
use Rattle.iris_route.proofs.TitleMaps.{put_append, put_distinct, found_among, keys_of_named}

-- ---- placed names

-- one place more
pub place_more : (place : Places) (i : ℕ) (p : List Label × List ℕ) (placed new : Titles) → i < length place → p ≡ get_or place i p → placed ≡ put_all [] (placed_titles (take i place))
    → new ≡ insert_entry (pointwise label_eq) placed p.0 (p.1, 0) → new ≡ put_all [] (placed_titles (take (i + 1) place))
place_more place i p placed new within is before after =
    let more : take i place ++ p ∷ [] ≡ take (i + 1) place = ap (λ (q : List Label × List ℕ). take i place ++ q ∷ []) is ∙ sym (take_more place i p within) in
    after ∙ ap (λ (ts : Titles). insert_entry (pointwise label_eq) ts p.0 (p.1, 0)) before
    ∙ sym (fold_push (λ (done : Titles) (e : List Label × Title). insert_entry (pointwise label_eq) done e.0 e.1) [] (placed_titles (take i place)) (p.0, (p.1, 0)))
    ∙ ap (put_all []) (sym (map-append (λ (q : List Label × List ℕ). (q.0, (q.1, 0))) (take i place) (p ∷ [])))
    ∙ ap (λ (ps : Places). put_all [] (placed_titles ps)) more

keys_placed : (place : Places) → keys_of (placed_titles place) ≡ keys_of place
keys_placed [] = refl
keys_placed (p ∷ ps) = ap (λ (ks : List (List Label)). p.0 ∷ ks) (keys_placed ps)

-- different names stay as they are
pub placed_as_they_are : (place : Places) → IsDistinct (pointwise label_eq) (keys_of place) → put_all [] (placed_titles place) ≡ placed_titles place
placed_as_they_are place once = put_distinct [] (placed_titles place) (subst (λ (ks : List (List Label)). IsDistinct (pointwise label_eq) ks) (sym (keys_placed place)) once)

-- ---- a node and all below it

-- the entry of a name below that path
abbrev entry_below : Titles → List Label → Title → List Label → List Label × Title
entry_below placed path title name = (path ++ name, title_down placed path title name)

-- the entry of a name at the start
abbrev entry_at_start : Places → List Label → List Label × Title
entry_at_start place name = (name, (start_owner place name, 0))

-- the entry of a name below the document
abbrev entry_down : Titles → Title → List Label → List Label × Title
entry_down placed title name = (name, title_down placed [] title name)

one_name : (placed : Titles) (path : List Label) (above : Title) (l : Label) (names : List (List Label))
    → map (entry_below placed path above) (map (λ name. l ∷ name) names)
    ≡ map (entry_below placed (path ++ l ∷ []) (unwrap_or (title_at placed (path ++ l ∷ [])) above)) names
one_name placed path above l [] = refl
one_name placed path above l (n ∷ ns) =
    let t : Title = title_down placed (path ++ l ∷ []) (unwrap_or (title_at placed (path ++ l ∷ [])) above) n in
    λ k. (sym (append_assoc path (l ∷ []) n) k, t) ∷ one_name placed path above l ns k

below_whole : (placed : Titles) (path : List Label) (above : Title) (old : Titles) (n : Node)
    → put_all (insert_entry (pointwise label_eq) old (path ++ label_of n ∷ []) (unwrap_or (title_at placed (path ++ label_of n ∷ [])) above))
    (map (entry_below placed (path ++ label_of n ∷ []) (unwrap_or (title_at placed (path ++ label_of n ∷ [])) above)) (all_names_of (nodes_of (children_of n))))
    ≡ put_all old (titles_below placed path above n)
below_whole placed path above old n =
    let own : Title = unwrap_or (title_at placed (path ++ label_of n ∷ [])) above in
    ap (put_all (insert_entry (pointwise label_eq) old (path ++ label_of n ∷ []) own)) (sym (one_name placed path above (label_of n) (all_names_of (nodes_of (children_of n)))))
    ∙ ap (λ (m : Node). put_all old (titles_below placed path above m)) (node_parts n)

-- when no child is left, all titles are put in
pub put_below : (placed : Titles) (path path' : List Label) (above t : Title) (n : Node) (cs : List Node) (old inserted final : Titles) (i : ℕ)
    → path' ≡ path ++ label_of n ∷ [] → t ≡ unwrap_or (title_at placed path') above → inserted ≡ insert_entry (pointwise label_eq) old path' t → cs ≡ children_of n → length cs ≤ i
    → put_all final (map (entry_below placed path' t) (all_names_of (nodes_of (drop i cs)))) ≡ put_all inserted (map (entry_below placed path' t) (all_names_of (nodes_of cs)))
    → final ≡ put_all old (titles_below placed path above n)
put_below placed path path' above t n cs old inserted final i path_is t_is put children past so_far =
    let none : drop i cs ≡ [] = drop_all i cs past in
    let own : t ≡ unwrap_or (title_at placed (path ++ label_of n ∷ [])) above = t_is ∙ ap (λ (p : List Label). unwrap_or (title_at placed p) above) path_is in
    let first : inserted ≡ insert_entry (pointwise label_eq) old (path ++ label_of n ∷ []) (unwrap_or (title_at placed (path ++ label_of n ∷ [])) above) = put ∙ (λ k. insert_entry (pointwise label_eq) old (path_is k) (own k)) in
    sym (ap (λ (ns : List Node). put_all final (map (entry_below placed path' t) (all_names_of (nodes_of ns)))) none)
    ∙ so_far
    ∙ (λ k. put_all (first k) (map (entry_below placed (path_is k) (own k)) (all_names_of (nodes_of (children k)))))
    ∙ below_whole placed path above old n

-- one child more
pub put_child : (F : List Label → List Label × Title) (cs : List Node) (i : ℕ) (c : Node) (old new all : Titles) → i < length cs → c ≡ get_or cs i c
    → new ≡ put_all old (map F (names_of c)) → put_all old (map F (all_names_of (nodes_of (drop i cs)))) ≡ all → put_all new (map F (all_names_of (nodes_of (drop (i + 1) cs)))) ≡ all
put_child F cs i c old new all within is put so_far =
    let next : suc i ≡ i + 1 = omega arith in
    let rest : List Node = drop (i + 1) cs in
    let left : drop i cs ≡ c ∷ rest = drop-cons cs i c within ∙ ap (λ (x : Node). x ∷ drop (suc i) cs) (sym is) ∙ ap (λ (k : ℕ). c ∷ drop k cs) next in
    ap (λ (ts : Titles). put_all ts (map F (all_names_of (nodes_of rest)))) put
    ∙ sym (put_append old (map F (names_of c)) (map F (all_names_of (nodes_of rest))))
    ∙ ap (put_all old) (sym (map-append F (names_of c) (all_names_of (nodes_of rest))))
    ∙ sym (ap (λ (ns : List Node). put_all old (map F (all_names_of (nodes_of ns)))) left) ∙ so_far

-- ---- the whole city

title_of_agent : (place : Places) (name : List Label) → title_at (placed_titles place) name ≡ option_map (λ agent. (agent, 0)) (agent_at place name)
title_of_agent [] name = refl
title_of_agent (p ∷ ps) name = by (pointwise label_eq name p.0) (title_of_agent ps name)
  where
    by : (b : Bool) → title_at (placed_titles ps) name ≡ option_map (λ agent. (agent, 0)) (agent_at ps name)
        → cond b (Some (p.1, 0)) (title_at (placed_titles ps) name) ≡ option_map (λ agent. (agent, 0)) (cond b (Some p.1) (agent_at ps name))
    by true rest = refl
    by false rest = rest

agent_or : (o : Option (List ℕ)) (agent : List ℕ) → ◌≡◌ {A = Title} (unwrap_or (option_map (λ (a : List ℕ). (a, 0)) o) (agent, 0)) (unwrap_or o agent, 0)
agent_or None agent = refl
agent_or (Some a) agent = refl

-- titles are handed down as agents are
down_same : (place : Places) (path : List Label) (agent : List ℕ) (name : List Label) → title_down (placed_titles place) path (agent, 0) name ≡ (owner_down place path agent name, 0)
down_same place path agent [] = refl
down_same place path agent (l ∷ ls) =
    let next : unwrap_or (title_at (placed_titles place) (path ++ l ∷ [])) (agent, 0) ≡ (unwrap_or (agent_at place (path ++ l ∷ [])) agent, 0) =
    ap (λ (o : Option Title). unwrap_or o (agent, 0)) (title_of_agent place (path ++ l ∷ [])) ∙ agent_or (agent_at place (path ++ l ∷ [])) agent in
    ap (λ (t : Title). title_down (placed_titles place) (path ++ l ∷ []) t ls) next ∙ down_same place (path ++ l ∷ []) (unwrap_or (agent_at place (path ++ l ∷ [])) agent) ls

from_top : (place : Places) (top : Label) (agent : List ℕ) (t : Title) (name : List Label) → agent_at place (top ∷ []) ≡ Some agent
    → title_down (placed_titles place) [] t (top ∷ name) ≡ (start_owner place (top ∷ name), 0)
from_top place top agent t name is =
    let own : title_at (placed_titles place) (top ∷ []) ≡ Some (agent, 0) = title_of_agent place (top ∷ []) ∙ ap (option_map (λ a. (a, 0))) is in
    ap (λ (o : Option Title). title_down (placed_titles place) (top ∷ []) (unwrap_or o t) name) own
    ∙ down_same place (top ∷ []) agent name
    ∙ sym (ap (λ (o : Option (List ℕ)). (owner_down place (top ∷ []) (unwrap_or o []) name, 0)) is)

each_from_top : (place : Places) (top : Label) (agent : List ℕ) (t : Title) (names : List (List Label)) → agent_at place (top ∷ []) ≡ Some agent
    → map (entry_down (placed_titles place) t) (map (λ name. top ∷ name) names) ≡ map (entry_at_start place) (map (λ name. top ∷ name) names)
each_from_top place top agent t [] is = refl
each_from_top place top agent t (n ∷ ns) is = λ k. (top ∷ n, from_top place top agent t n is k) ∷ each_from_top place top agent t ns is k

tree_from_top : (place : Places) (agent : List ℕ) (t : Title) (n : Node) → agent_at place (label_of n ∷ []) ≡ Some agent → titles_below (placed_titles place) [] t n ≡ start_titles place n
tree_from_top place agent t (node label local below) is = each_from_top place label agent t ([] ∷ all_names_of below) is

distinct_names : (n : Node) → IsOrdered n → IsDistinct (pointwise label_eq) (names_of n)
distinct_names n ordered =
    subst (λ (e : List Label → List Label → Bool). IsDistinct e (names_of n)) (λ k x y. sym (names_ties x y) k) (IsDistinct-from_sorted (slice_cmp label_cmp) (names_of n) (names_rise n ordered))

-- all titles that are put in from the top node on are those at the start
pub start_is : (place : Places) (tree : Node) (t : Title) → IsOrdered tree → list_any (pointwise label_eq (label_of tree ∷ [])) (keys_of place) ≡ true → put_all [] (titles_below (placed_titles place) [] t tree) ≡ start_titles place tree
start_is place tree t ordered top =
    let agent = found_among (label_of tree ∷ []) place top in
    let apart : IsDistinct (pointwise label_eq) (keys_of (start_titles place tree)) = subst (λ (ks : List (List Label)). IsDistinct (pointwise label_eq) ks) (sym (keys_of_named (λ (name : List Label). (start_owner place name, 0)) (names_of tree))) (distinct_names tree ordered) in
    ap (put_all []) (tree_from_top place agent.0 t tree agent.1) ∙ put_distinct [] (start_titles place tree) apart

-- the top node is among the placed
pub top_found : (place : Places) (name : List Label) (o : Option Title) → o ≡ title_at (placed_titles place) name → list_any (pointwise label_eq name) (keys_of place) ≡ true → (t : Title) × (o ≡ Some t)
top_found place name o is top =
    let title = found_among name (placed_titles place) (subst (λ (ks : List (List Label)). list_any (pointwise label_eq name) ks ≡ true) (sym (keys_placed place)) top) in
    (title.0, is ∙ title.1)
