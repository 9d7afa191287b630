-- Paths to plain elements, as the code has them.
use Rattle.std.proofs.Common.{◌≡◌, ℕ, ◌+◌, ◌<◌, ◌≤◌, Bool, cond, true, false, not, ◌&&◌, List, [], ◌∷◌, ◌++◌, map, drop, take, length, get_or, filter, Option, Some, refl, sym, ap, ◌∙◌, append-nil, append_assoc, nat_eq, ◌≢◌}
use Rattle.std.specs.Cmp.Lexicographic.{pointwise}
use Rattle.std.proofs.lemmas.List.{map-append, drop_all}
use Rattle.std.proofs.lemmas.List.Elements.{filter-append, filter_map-append}
use Rattle.std.specs.List.{filter_map}
use Rattle.iris_base.specs.declared.name.Label.{Label}
use Rattle.iris_tree.specs.declared.local.Local.{Local}
use Rattle.iris_tree.specs.declared.plain.Plain.{Plain}
use Rattle.iris_tree.specs.declared.plain.Plain.TheViews.{out-Plain}
use Rattle.iris_tree.specs.Document.{Edge, position, Place, numbered, plain_places}
use Rattle.iris_xpath.specs.Places.{is_above, is_parent, place_eq, element_at, element_paths}
use Rattle.iris_xpath.proofs.Below.{plain_form}
use Rattle.iris_xpath.specs.declared.expression.Separator.{Separator}
use Rattle.iris_xpath.specs.declared.expression.Separator.TheVariants.{DoubleSlash}
use Rattle.iris_xpath.specs.Meaning.{front, is_reached, attribute_at}
use Rattle.iris_need.specs.Program.{node_spot, element_spot, spot_of, last_label, without_last, above_name, above_element, element_ends}
use Rattle.iris_need.specs.Walk.{path_of, paths_of}
use Rattle.iris_need.proofs.Collected.{cut_at}

and_true_after : (b : Bool) → (b && true) ≡ b
and_true_after true = refl
and_true_after false = refl

-- a path begins with another where that one is it, or above it
pub prefix_is : (p q : List ℕ) → pointwise nat_eq p (take (length p) q) ≡ is_above (path_of p) (path_of q)
prefix_is [] q = refl
prefix_is (i ∷ p) [] = refl
prefix_is (i ∷ p) (j ∷ q) = ap (λ b. b && pointwise nat_eq p (take (length p) q)) (sym (and_true_after (nat_eq i j))) ∙ ap (λ b. (nat_eq i j && true) && b) (prefix_is p q)

path_map : (above path : Place) → (ps : List Place) → map (λ (q : Place). above ++ q) (map (λ (q : Place). path ++ q) ps) ≡ map (λ (q : Place). (above ++ path) ++ q) ps
path_map above path [] = refl
path_map above path (p ∷ ps) = ap (λ (q : Place). q ∷ map (λ (q : Place). above ++ q) (map (λ (q : Place). path ++ q) ps)) (sym (append_assoc above path p)) ∙ ap (λ (qs : List Place). ((above ++ path) ++ p) ∷ qs) (path_map above path ps)

path_pushed : (above : List ℕ) (i : ℕ) → path_of (above ++ i ∷ []) ≡ path_of above ++ position i ∷ []
path_pushed above i = map-append position above (i ∷ [])

-- the paths at a position: the element's own, and those below it
pub paths_at : (above : List ℕ) (p : Plain) (i : ℕ) → map (λ (q : Place). path_of above ++ q) (plain_places p i) ≡ path_of (above ++ i ∷ []) ∷ map (λ (q : Place). path_of (above ++ i ∷ []) ++ q) (numbered 0 (map plain_places (out-Plain p).kids))
paths_at above p i =
    let kids = numbered 0 (map plain_places (out-Plain p).kids) in
    ap (λ (ps : List Place). map (λ (q : Place). path_of above ++ q) ps) (plain_form p i)
    ∙ ap (λ (qs : List Place). (path_of above ++ position i ∷ []) ∷ qs) (path_map (path_of above) (position i ∷ []) kids)
    ∙ ap (λ (q : Place). q ∷ map (λ (r : Place). q ++ r) kids) (sym (path_pushed above i))

-- one more sibling is done
pub sibling_done : (above : List ℕ) (ps : List Plain) (i : ℕ) (p : Plain) (old pushed new : List (List ℕ)) (all : List Place) → i < length ps → p ≡ get_or ps i p
    → pushed ≡ old ++ (above ++ i ∷ []) ∷ [] → paths_of new ≡ paths_of pushed ++ map (λ (q : Place). path_of (above ++ i ∷ []) ++ q) (numbered 0 (map plain_places (out-Plain p).kids))
    → paths_of old ++ map (λ (q : Place). path_of above ++ q) (numbered i (map plain_places (drop i ps))) ≡ all
    → paths_of new ++ map (λ (q : Place). path_of above ++ q) (numbered (i + 1) (map plain_places (drop (i + 1) ps))) ≡ all
sibling_done above ps i p old pushed new all h e own below sofar =
    let here = path_of (above ++ i ∷ []) in
    let kids = map (λ (q : Place). here ++ q) (numbered 0 (map plain_places (out-Plain p).kids)) in
    let rest = map (λ (q : Place). path_of above ++ q) (numbered (i + 1) (map plain_places (drop (i + 1) ps))) in
    let own_paths : paths_of pushed ≡ paths_of old ++ here ∷ [] = ap (λ (qs : List (List ℕ)). paths_of qs) own ∙ map-append path_of old ((above ++ i ∷ []) ∷ []) in
    let found : paths_of new ≡ paths_of old ++ here ∷ kids = below ∙ ap (λ (qs : List Place). qs ++ kids) own_paths ∙ append_assoc (paths_of old) (here ∷ []) kids in
    let cut : map (λ (q : Place). path_of above ++ q) (numbered i (map plain_places (drop i ps))) ≡ (here ∷ kids) ++ rest =
    ap (λ (qs : List Plain). map (λ (q : Place). path_of above ++ q) (numbered i (map plain_places qs))) (cut_at ps i p p h e)
    ∙ map-append (λ (q : Place). path_of above ++ q) (plain_places p i) (numbered (i + 1) (map plain_places (drop (i + 1) ps)))
    ∙ ap (λ (qs : List Place). qs ++ rest) (paths_at above p i) in
    ap (λ (qs : List Place). qs ++ rest) found ∙ append_assoc (paths_of old) (here ∷ kids) rest ∙ ap (λ (qs : List Place). paths_of old ++ qs) (sym cut) ∙ sofar

-- the same paths are the same places
pub same_is : (p q : List ℕ) → pointwise nat_eq p q ≡ place_eq (path_of p) (path_of q)
same_is [] [] = refl
same_is [] (j ∷ q) = refl
same_is (i ∷ p) [] = refl
same_is (i ∷ p) (j ∷ q) = ap (λ b. b && pointwise nat_eq p q) (sym (and_true_after (nat_eq i j))) ∙ ap (λ b. (nat_eq i j && true) && b) (same_is p q)

-- ---- spots

-- a node is told by its name and its last label
pub spot_named : (name up : List Label) (l : Label) → name ≡ up ++ l ∷ [] → node_spot name l ≡ spot_of name
spot_named name up l h = rw h (pushed up)
  where
    last_pushed : (m : Label) (ms : List Label) → last_label m (ms ++ l ∷ []) ≡ l
    last_pushed m [] = refl
    last_pushed m (n ∷ ms) = last_pushed n ms

    pushed : (up : List Label) → node_spot (up ++ l ∷ []) l ≡ spot_of (up ++ l ∷ [])
    pushed [] = refl
    pushed (m ∷ ms) = ap (λ (x : Label). node_spot (m ∷ (ms ++ l ∷ [])) x) (sym (last_pushed m ms))

-- right above a node is that of the name above
pub above_pushed : (name up : List Label) (l : Label) → name ≡ up ++ l ∷ [] → above_name name ≡ spot_of up ∷ []
above_pushed name up l h = rw h (pushed up)
  where
    all_but : (m : Label) (ms : List Label) → without_last m (ms ++ l ∷ []) ≡ m ∷ ms
    all_but m [] = refl
    all_but m (n ∷ ms) = ap (λ (ns : List Label). m ∷ ns) (all_but n ms)

    pushed : (up : List Label) → above_name (up ++ l ∷ []) ≡ spot_of up ∷ []
    pushed [] = refl
    pushed (m ∷ ms) = ap (λ (ns : List Label). spot_of ns ∷ []) (all_but m ms)

-- right above any other element is one
pub above_more : (name : List Label) (local : Local) (path up : List ℕ) (i : ℕ) → path ≡ up ++ i ∷ [] → up ≢ [] → above_element name local (path_of path) ≡ element_spot name local (path_of up)
above_more name local path up i h some = rw h (pushed up some)
  where
    front_pushed : (e : Edge) (p : List ℕ) → front e (path_of (p ++ i ∷ [])) ≡ e ∷ path_of p
    front_pushed e [] = refl
    front_pushed e (j ∷ p) = ap (λ (q : Place). e ∷ q) (front_pushed (position j) p)

    pushed : (up : List ℕ) → up ≢ [] → above_element name local (path_of (up ++ i ∷ [])) ≡ element_spot name local (path_of up)
    pushed [] some = absurd (some refl)
    pushed (j ∷ []) some = refl
    pushed (j ∷ k ∷ p) some = ap (λ (q : Place). element_spot name local q) (front_pushed (position j) (k ∷ p))

-- ---- paths among paths

-- nothing is right above the node
pub parent_none : (p q : List ℕ) → q ≡ [] → false ≡ is_parent (path_of p) (path_of q)
parent_none [] q h = rw h refl
parent_none (i ∷ p) q h = rw h refl

-- a step by `//` goes to what is below, and is another
pub reached_further : (s : Separator) (p q : List ℕ) (b : Bool) → s ≡ DoubleSlash → is_above (path_of p) (path_of q) ≡ true → b ≡ not (pointwise nat_eq p q) → b ≡ is_reached s (path_of p) (path_of q)
reached_further s p q b h above differs = rw (h, above) (differs ∙ ap not (same_is p q))

same_again : (ps : List Place) → map (λ (q : Place). [] ++ q) ps ≡ ps
same_again [] = refl
same_again (p ∷ ps) = ap (λ (qs : List Place). p ∷ qs) (same_again ps)

-- the paths of all elements of a node
pub all_paths : (local : Local) (siblings : List Plain) (above : List ℕ) (old new : List (List ℕ)) → siblings ≡ local.plain → above ≡ [] → old ≡ []
    → paths_of new ≡ paths_of old ++ map (λ (q : Place). path_of above ++ q) (numbered 0 (map plain_places siblings)) → paths_of new ≡ element_paths local
all_paths local siblings above old new is none before h =
    h ∙ ap (λ (ps : List (List ℕ)). paths_of ps ++ map (λ (q : Place). path_of above ++ q) (numbered 0 (map plain_places siblings))) before
    ∙ ap (λ (p : List ℕ). map (λ (q : Place). path_of p ++ q) (numbered 0 (map plain_places siblings))) none
    ∙ same_again (numbered 0 (map plain_places siblings)) ∙ ap (λ (ps : List Plain). numbered 0 (map plain_places ps)) is

filter_one : (test : Place → Bool) (p : Place) (b : Bool) → test p ≡ b → filter test (p ∷ []) ≡ cond b (p ∷ []) []
filter_one test p b h = rw h refl

-- one more path, as far as it is kept
pub path_more : (test : Place → Bool) (ys : List (List ℕ)) (x : List ℕ) (old new : List (List ℕ)) → paths_of new ≡ paths_of old ++ filter test (path_of x ∷ []) → paths_of old ≡ filter test (paths_of ys) → paths_of new ≡ filter test (paths_of (ys ++ x ∷ []))
path_more test ys x old new h sofar =
    h ∙ ap (λ (ps : List Place). ps ++ filter test (path_of x ∷ [])) sofar ∙ sym (filter-append test (paths_of ys) (path_of x ∷ [])) ∙ ap (filter test) (sym (map-append path_of ys (x ∷ [])))

-- a path that is kept
pub path_kept : (test : Place → Bool) (x : List ℕ) (old new : List (List ℕ)) → test (path_of x) ≡ true → new ≡ old ++ x ∷ [] → paths_of new ≡ paths_of old ++ filter test (path_of x ∷ [])
path_kept test x old new h pushed =
    ap (λ (ps : List (List ℕ)). paths_of ps) pushed ∙ map-append path_of old (x ∷ []) ∙ ap (λ (ps : List Place). paths_of old ++ ps) (sym (filter_one test (path_of x) true h))

-- a path that is left
pub path_left : (test : Place → Bool) (x : List ℕ) (old : List (List ℕ)) → test (path_of x) ≡ false → paths_of old ≡ paths_of old ++ filter test (path_of x ∷ [])
path_left test x old h = sym (append-nil (paths_of old)) ∙ ap (λ (ps : List Place). paths_of old ++ ps) (sym (filter_one test (path_of x) false h))

-- ---- ends at elements

ends_append : (attr : List ℕ) (local : Local) (ps qs : List Place) → element_ends attr local (ps ++ qs) ≡ element_ends attr local ps ++ element_ends attr local qs
ends_append attr local ps qs =
    ap (map (λ value. Some value)) (filter_map-append (λ (path : Place). attribute_at attr (element_at local path)) ps qs)
    ∙ map-append (λ (value : List ℕ). Some value) (filter_map (λ path. attribute_at attr (element_at local path)) ps) (filter_map (λ path. attribute_at attr (element_at local path)) qs)

ends_cut : (attr : List ℕ) (local : Local) (test : Place → Bool) (ps : List (List ℕ)) (i : ℕ) (x : List ℕ) (b : Bool) → i < length ps → x ≡ get_or ps i x → test (path_of x) ≡ b
    → element_ends attr local (filter test (paths_of (drop i ps))) ≡ element_ends attr local (cond b (path_of x ∷ []) []) ++ element_ends attr local (filter test (paths_of (drop (i + 1) ps)))
ends_cut attr local test ps i x b h e t =
    ap (λ (qs : List (List ℕ)). element_ends attr local (filter test (paths_of qs))) (cut_at ps i x x h e)
    ∙ ap (element_ends attr local) (filter-append test (path_of x ∷ []) (paths_of (drop (i + 1) ps)) ∙ ap (λ (qs : List Place). qs ++ filter test (paths_of (drop (i + 1) ps))) (filter_one test (path_of x) b t))
    ∙ ends_append attr local (cond b (path_of x ∷ []) []) (filter test (paths_of (drop (i + 1) ps)))

-- one more element that counts
pub end_kept : (attr : List ℕ) (local : Local) (test : Place → Bool) (ps : List (List ℕ)) (i : ℕ) (x : List ℕ) (old new all : List (Option (List ℕ))) → i < length ps → x ≡ get_or ps i x → test (path_of x) ≡ true
    → new ≡ old ++ element_ends attr local (path_of x ∷ []) → old ++ element_ends attr local (filter test (paths_of (drop i ps))) ≡ all → new ++ element_ends attr local (filter test (paths_of (drop (i + 1) ps))) ≡ all
end_kept attr local test ps i x old new all h e t here sofar =
    ap (λ (es : List (Option (List ℕ))). es ++ element_ends attr local (filter test (paths_of (drop (i + 1) ps)))) here
    ∙ append_assoc old (element_ends attr local (path_of x ∷ [])) (element_ends attr local (filter test (paths_of (drop (i + 1) ps))))
    ∙ ap (λ (es : List (Option (List ℕ))). old ++ es) (sym (ends_cut attr local test ps i x true h e t)) ∙ sofar

-- one more element that doesn't
pub end_left : (attr : List ℕ) (local : Local) (test : Place → Bool) (ps : List (List ℕ)) (i : ℕ) (x : List ℕ) (old all : List (Option (List ℕ))) → i < length ps → x ≡ get_or ps i x → test (path_of x) ≡ false
    → old ++ element_ends attr local (filter test (paths_of (drop i ps))) ≡ all → old ++ element_ends attr local (filter test (paths_of (drop (i + 1) ps))) ≡ all
end_left attr local test ps i x old all h e t sofar = ap (λ (es : List (Option (List ℕ))). old ++ es) (sym (ends_cut attr local test ps i x false h e t)) ∙ sofar

-- after the last one nothing is left
pub ends_done : (attr : List ℕ) (local : Local) (test : Place → Bool) (ps : List (List ℕ)) (i : ℕ) (new all : List (Option (List ℕ))) → length ps ≤ i → new ++ element_ends attr local (filter test (paths_of (drop i ps))) ≡ all → new ≡ all
ends_done attr local test ps i new all h sofar =
    sym (append-nil new) ∙ ap (λ (qs : List (List ℕ)). new ++ element_ends attr local (filter test (paths_of qs))) (sym (drop_all i ps h)) ∙ sofar

-- all elements are below the node
pub all_below : (ps : List Place) → filter (is_above []) ps ≡ ps
all_below [] = refl
all_below (p ∷ ps) = ap (λ (qs : List Place). p ∷ qs) (all_below ps)
