-- An evaluation depends on its looks alone: over a view that is alike there, it is the same.
use Rattle.std.proofs.Common.{◌≡◌, Bool, true, false, cond, not, ◌&&◌, List, [], ◌∷◌, ◌++◌, map, filter, Contains, Option, Some, None, is_some, refl, sym, ◌∙◌, ap}
use Rattle.std.proofs.lemmas.List.Elements.{Contains-append_left, Contains-append_right}
use Rattle.iris_base.specs.declared.name.Label.{Label}
use Rattle.iris_tree.specs.declared.local.Local.{Local}
use Rattle.iris_fragment.specs.declared.piece.Level.{Level}
use Rattle.iris_fragment.specs.declared.piece.Level.TheVariants.{Ids, Full}
use Rattle.iris_tree.specs.declared.item.Item.{Item}
use Rattle.iris_xpath.specs.Syntax.{Syntax}
use Rattle.iris_need.specs.declared.need.Need.{Need}
use Rattle.iris_need.specs.declared.need.Start.{Start}
use Rattle.iris_need.specs.Run.{Known, View, Run, give, see_ids, see_full, both, next, Out, ids_known, Seen, full_known, logged, after_ids, after_full, after, run, meets_known, meets}
use Rattle.iris_need.specs.Needs.{is_under, seen_from, evaluation, looks, is_missing, missing_in, merged, without_states, support_in}
use Rattle.iris_need.specs.Program.{program}
use Rattle.iris_need.proofs.Run.{contains_first, contains_later, contains_after, looked_ids, looked_full, both_out}
use Rattle.iris_need.specs.Alike.{IsAlike, AreAlike}

-- ---- one induction over the run

ids_same : {A : Type 0} (w v : View) (look : Need) (x y : Option (List Label)) → x ≡ y → (f g : List Label → Out A) → ((ids : List Label) → AreAlike w v (f ids).log → g ids ≡ f ids) → AreAlike w v (after_ids look x f).log
    → after_ids look y g ≡ after_ids look x f
ids_same w v look None y e f g again alike = ap (λ (o : Option (List Label)). after_ids look o g) (sym e)
ids_same w v look (Some ids) y e f g again alike =
    ap (λ (o : Option (List Label)). after_ids look o g) (sym e) ∙ ap (logged look) (again ids (λ l i. alike l (contains_later look (f ids).log l i)))

full_same : {A : Type 0} (w v : View) (look : Need) (x y : Option Seen) → x ≡ y → (f g : List Label → Local → Out A) → ((ids : List Label) (local : Local) → AreAlike w v (f ids local).log → g ids local ≡ f ids local) → AreAlike w v (after_full look x f).log
    → after_full look y g ≡ after_full look x f
full_same w v look None y e f g again alike = ap (λ (o : Option Seen). after_full look o g) (sym e)
full_same w v look (Some s) y e f g again alike =
    ap (λ (o : Option Seen). after_full look o g) (sym e) ∙ ap (logged look) (again s.ids s.local (λ l i. alike l (contains_later look (f s.ids s.local).log l i)))

next_same : {A B : Type 0} (w v : View) (o p : Out A) (x : Option A) → o.value ≡ x → (f g : A → Out B) → p ≡ o → ((a : A) → AreAlike w v (f a).log → g a ≡ f a) → AreAlike w v (after o.log x f).log
    → after p.log p.value g ≡ after o.log x f
next_same w v o p None e f g same again alike = ap (λ z. after z.log z.value g) same ∙ ap (λ y. after o.log y g) e
next_same w v o p (Some a) e f g same again alike =
    ap (λ z. after z.log z.value g) same ∙ ap (λ y. after o.log y g) e
    ∙ ap (λ z. record { log = o.log ++ z.log; value = z.value }) (again a (λ l i. alike l (Contains-append_right o.log (f a).log l i)))

both_same : {A B C : Type 0} (f : A → B → C) (o p : Out A) (u q : Out B) → p ≡ o → q ≡ u → both_out f p q ≡ both_out f o u
both_same f o p u q first second = λ i. both_out f (first i) (second i)

-- a program that is run over two views that are alike at its looks over the one
pub same_run : (w v : View) {A : Type 0} → (t : Run A) → AreAlike w v (run w t).log → run v t ≡ run w t
same_run w v (give a) alike = refl
same_run w v (see_ids name states k) alike =
    ids_same w v _ (ids_known (w name)) (ids_known (v name)) (alike _ (looked_ids _ (ids_known (w name)) (λ ids. run w (k ids)))) (λ ids. run w (k ids)) (λ ids. run v (k ids)) (λ ids. same_run w v (k ids)) alike
same_run w v (see_full name states k) alike =
    full_same w v _ (full_known (w name)) (full_known (v name)) (alike _ (looked_full _ (full_known (w name)) (λ ids local. run w (k ids local)))) (λ ids local. run w (k ids local)) (λ ids local. run v (k ids local)) (λ ids local. same_run w v (k ids local)) alike
same_run w v (both f r s) alike =
    both_same f (run w r) (run v r) (run w s) (run v s)
    (same_run w v r (λ l i. alike l (Contains-append_left (run w r).log (run w s).log l i)))
    (same_run w v s (λ l i. alike l (Contains-append_right (run w r).log (run w s).log l i)))
same_run w v (next r k) alike =
    next_same w v (run w r) (run v r) (run w r).value refl (λ a. run w (k a)) (λ a. run v (k a))
    (same_run w v r (λ l i. alike l (contains_after (run w r).log (run w r).value (λ a. run w (k a)) l i)))
    (λ a. same_run w v (k a)) alike

-- ---- evaluations from a start

seen_alike : (b : Bool) (level : Level) (k m : Option Known) → IsAlike level k m → IsAlike level (cond b k None) (cond b m None)
seen_alike true level k m h = h
seen_alike false Ids k m h = refl
seen_alike false Full k m h = refl

from_alike : (above : List Label) (w v : View) (ls : List Need) → AreAlike w v ls → AreAlike (seen_from above w) (seen_from above v) ls
from_alike above w v ls alike look there = seen_alike (is_under look.name above) look.level (w look.name) (v look.name) (alike look there)

-- an evaluation from a start is the same
pub same_evaluation : (query : Syntax) (start : Start) (w v : View) → AreAlike w v (looks query start w) → evaluation query start v ≡ evaluation query start w
same_evaluation query start w v alike = same_run (seen_from start.name w) (seen_from start.name v) (program query start) (from_alike start.name w v (looks query start w) alike)

-- ---- what is missing, and what it rests on

ids_met : (k : Option Known) → is_some (ids_known k) ≡ meets_known Ids k
ids_met None = refl
ids_met (Some k) = refl

full_met_by : (ids : List Label) (local : Option Local) → is_some (full_known (Some (record { ids = ids; local = local }))) ≡ is_some local
full_met_by ids None = refl
full_met_by ids (Some local) = refl

full_met : (k : Option Known) → is_some (full_known k) ≡ meets_known Full k
full_met None = refl
full_met (Some k) = full_met_by k.ids k.local

-- what is alike at a level is met at it in both or in none
pub alike_met : (level : Level) (k m : Option Known) → IsAlike level k m → meets_known level m ≡ meets_known level k
alike_met Ids k m h = sym (ids_met m) ∙ ap (λ (o : Option (List Label)). is_some o) (sym h) ∙ ids_met k
alike_met Full k m h = sym (full_met m) ∙ ap (λ (o : Option Seen). is_some o) (sym h) ∙ full_met k

met_same : (start : Start) (w v : View) (look : Need) → IsAlike look.level (w look.name) (v look.name) → meets (seen_from start.name v) look ≡ meets (seen_from start.name w) look
met_same start w v look h = alike_met look.level (seen_from start.name w look.name) (seen_from start.name v look.name) (seen_alike (is_under look.name start.name) look.level (w look.name) (v look.name) h)

-- filters that tell the same of each element
pub filter_same : {X : Type 0} (p q : X → Bool) (xs : List X) → ((x : X) → Contains xs x → q x ≡ p x) → filter q xs ≡ filter p xs
filter_same p q [] h = refl
filter_same p q (x ∷ xs) h =
    ap (λ (b : Bool). cond b (x ∷ filter q xs) (filter q xs)) (h x (contains_first x xs))
    ∙ ap (λ (ys : List _). cond (p x) (x ∷ ys) ys) (filter_same p q xs (λ y i. h y (contains_later x xs y i)))

-- and so is what is missing
pub same_missing : (query : Syntax) (start : Start) (w v : View) → AreAlike w v (looks query start w) → missing_in query start v ≡ missing_in query start w
same_missing query start w v alike =
    ap (λ (o : Out (List Item)). merged (filter (is_missing start v) o.log)) (same_evaluation query start w v alike)
    ∙ ap merged (filter_same (is_missing start w) (is_missing start v) (looks query start w) (λ look there. ap (λ (b : Bool). is_under look.name start.name && not b) (met_same start w v look (alike look there))))

-- and what it rests on
pub same_support : (query : Syntax) (start : Start) (w v : View) → AreAlike w v (looks query start w) → support_in query start v ≡ support_in query start w
same_support query start w v alike =
    ap (λ (o : Out (List Item)). merged (map without_states (filter (meets (seen_from start.name v)) o.log))) (same_evaluation query start w v alike)
    ∙ ap (λ (ls : List Need). merged (map without_states ls)) (filter_same (meets (seen_from start.name w)) (meets (seen_from start.name v)) (looks query start w) (λ look there. met_same start w v look (alike look there)))
