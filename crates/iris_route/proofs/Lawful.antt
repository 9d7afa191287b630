-- Owners at the start are of the nearest placed names, and what a query selects lies under its route.
use Rattle.std.proofs.Common.{◌≡◌, ℕ, ◌<◌, ◌==◌, ◌⊎◌, inl, inr, Bool, true, false, is_some, if◌then◌else◌, List, [], ◌∷◌, ◌++◌, take, drop, length, get_or, Option, Some, None, refl, sym, ap, ◌∙◌, subst, arith, append-nil, append_assoc, length-append}
use Rattle.std.specs.Prelude.{unwrap_or}
use Rattle.std.specs.List.{All, list_any}
use Rattle.std.specs.Map.{keys_of}
use Rattle.std.specs.Cmp.Lexicographic.{pointwise}
use Rattle.std.proofs.lemmas.List.{take-append-drop}
use Rattle.iris_base.specs.declared.name.Label.{Label}
use Rattle.iris_base.specs.NameOrder.{label_eq}
use Rattle.iris_base.specs.Under.{Under}
use Rattle.iris_base.proofs.Labels.{label_eq-Decides}
use Rattle.iris_tree.specs.Universe.{Node, label_of, part_at, node_at}
use Rattle.iris_tree.specs.Document.{Place, name_of}
use Rattle.iris_xpath.specs.Syntax.{Syntax}
use Rattle.iris_xpath.specs.Anchor.{LcaName}
use Rattle.iris_xpath.specs.Meaning.{selected}
use Rattle.iris_xpath.proofs.UnderAnchors.{selected_under_above}
use Rattle.iris_route.specs.Titles.{Titles, top_name}
use Rattle.iris_route.specs.Start.{Places, agent_at, owner_down, start_owner, IsNearestPlaced}
use Rattle.iris_route.specs.Routes.{longest_prefix, nearest_name}
use Rattle.iris_route.proofs.TitleMaps.{found_among}

-- ---- owners at the start

none_behind : (xs ys : List Label) → [] ≡ xs ++ ys → xs ≡ []
none_behind [] ys e = refl
none_behind (x ∷ xs) ys e = absurd (cc)

-- a prefix of a name with one label more is that name, or a prefix of the shorter
split_under : (path : List Label) (l : Label) (other rest : List Label) → path ++ l ∷ [] ≡ other ++ rest → (other ≡ path ++ l ∷ []) ⊎ Under path other
split_under path l [] rest e = inr (path, refl)
split_under [] l (x ∷ xs) rest e =
    let head : l ≡ x = cc in
    let tail : [] ≡ xs ++ rest = cc in
    inl (λ k. sym head k ∷ none_behind xs rest tail k)
split_under (p ∷ path) l (x ∷ xs) rest e = by (split_under path l xs rest tail)
  where
    head : p ≡ x
    head = cc e

    tail : path ++ l ∷ [] ≡ xs ++ rest
    tail = cc e

    by : (xs ≡ path ++ l ∷ []) ⊎ Under path xs → (x ∷ xs ≡ p ∷ (path ++ l ∷ [])) ⊎ Under (p ∷ path) (x ∷ xs)
    by (inl same) = inl (λ k. sym head k ∷ same k)
    by (inr (more, is)) = inr (more, λ k. head k ∷ is k)

no_longer : (name other : List Label) → Under name other → length name < length other → ⊥
no_longer name other (rest, is) longer = let len = ap length is ∙ length-append other rest in omega (arith, len)

nearest_itself : (place : Places) (name : List Label) (agent : List ℕ) → agent_at place name ≡ Some agent → IsNearestPlaced place name agent
nearest_itself place name agent is = record {
  above = name;
  at_or_above = ([], sym (append-nil name));
  placed = is;
  nearest = λ other under longer. absurd (no_longer name other under longer);
}

nearest_below : (place : Places) (path : List Label) (l : Label) (agent : List ℕ) → agent_at place (path ++ l ∷ []) ≡ None → IsNearestPlaced place path agent → IsNearestPlaced place (path ++ l ∷ []) agent
nearest_below place path l agent none near = record {
  above = near.above;
  at_or_above = (near.at_or_above.0 ++ l ∷ [], ap (λ (n : List Label). n ++ l ∷ []) near.at_or_above.1 ∙ append_assoc near.above near.at_or_above.0 (l ∷ []));
  placed = near.placed;
  nearest = λ other under longer. by other longer (split_under path l other under.0 under.1);
}
  where
    by : (other : List Label) → length near.above < length other → (other ≡ path ++ l ∷ []) ⊎ Under path other → agent_at place other ≡ None
    by other longer (inl same) = ap (agent_at place) same ∙ none
    by other longer (inr under) = near.nearest other under longer

nearest_next : (place : Places) (path : List Label) (l : Label) (agent : List ℕ) (o : Option (List ℕ)) → agent_at place (path ++ l ∷ []) ≡ o → IsNearestPlaced place path agent → IsNearestPlaced place (path ++ l ∷ []) (unwrap_or o agent)
nearest_next place path l agent None is near = nearest_below place path l agent is near
nearest_next place path l agent (Some a) is near = nearest_itself place (path ++ l ∷ []) a is

down_nearest : (place : Places) (path : List Label) (agent : List ℕ) (ls : List Label) → IsNearestPlaced place path agent → IsNearestPlaced place (path ++ ls) (owner_down place path agent ls)
down_nearest place path agent [] near = subst (λ (n : List Label). IsNearestPlaced place n agent) (sym (append-nil path)) near
down_nearest place path agent (l ∷ ls) near =
    let next : List ℕ = unwrap_or (agent_at place (path ++ l ∷ [])) agent in
    subst (λ (n : List Label). IsNearestPlaced place n (owner_down place (path ++ l ∷ []) next ls)) (append_assoc path (l ∷ []) ls)
    (down_nearest place (path ++ l ∷ []) next ls (nearest_next place path l agent (agent_at place (path ++ l ∷ [])) refl near))

-- the owner at the start is the agent of the nearest placed name
pub start_nearest : (place : Places) (top : Label) (below : List Label) → list_any (pointwise label_eq (top ∷ [])) (keys_of place) ≡ true → IsNearestPlaced place (top ∷ below) (start_owner place (top ∷ below))
start_nearest place top below h =
    let agent = found_among (top ∷ []) place h in
    subst (λ (o : Option (List ℕ)). IsNearestPlaced place (top ∷ below) (owner_down place (top ∷ []) (unwrap_or o []) below)) (sym agent.1)
    (down_nearest place (top ∷ []) agent.0 below (nearest_itself place (top ∷ []) agent.0 agent.1))

-- ---- routes

-- a node's name begins with the label of the top node
begins_with_top : (document : Node) (name : List Label) → is_some (node_at document name) ≡ true → Under name (label_of document ∷ [])
begins_with_top document [] h = absurd (cc)
begins_with_top document (l ∷ ls) h = by (label_eq (label_of document) l) refl h
  where
    by : (b : Bool) → label_eq (label_of document) l ≡ b → is_some (if b then part_at document ls else None) ≡ true → Under (l ∷ ls) (label_of document ∷ [])
    by true same h = (ls, λ k. sym ((label_eq-Decides (label_of document) l).0 same) k ∷ ls)
    by false same h = absurd (cc)

-- what a query selects lies under its route
pub selected_under_route : (document : Node) (query : Syntax) (name : List Label) (titles : Titles) → LcaName query name → top_name titles ≡ label_of document ∷ []
    → All (λ place. is_some (node_at document (name_of place)) ≡ true → Under (name_of place) (nearest_name titles name)) (selected document query)
selected_under_route document query name titles is top k d within = by (longest_prefix titles name == 0)
  where
    place : Place
    place = get_or (selected document query) k d

    by : (b : Bool) → is_some (node_at document (name_of place)) ≡ true → Under (name_of place) (if b then top_name titles else take (longest_prefix titles name) name)
    by true here = subst (λ (n : List Label). Under (name_of place) n) (sym top) (begins_with_top document (name_of place) here)
    by false here = selected_under_above document query name (take (longest_prefix titles name) name) is (drop (longest_prefix titles name) name, sym (take-append-drop (longest_prefix titles name) name)) k d within
