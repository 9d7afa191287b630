-- A city where one of its agents changed, and kept its id.
use Rattle.std.proofs.Common.{◌≡◌, ℕ, zero, suc, Bool, true, false, List, [], ◌∷◌, ◌||◌, Option, Some, None, refl, sym, ap, ◌∙◌, if◌then◌else◌}
use Rattle.std.proofs.lemmas.Option.{same_Some}
use Rattle.std.specs.Prelude.{option_map, slice_get, slice_set}
use Rattle.std.specs.List.{list_any}
use Rattle.iris_tree.specs.Universe.{Node}
use Rattle.iris_agent.specs.Tables.{Holdings, Tables, tables_of}
use Rattle.iris_protocol.specs.Table.{AgentId, agents, set_at}
use Rattle.iris_state.specs.Agents.{has_id, is_here, agent_by, place_in}
use Rattle.iris_state.specs.City.{HaveOwnPlaces}

-- nothing changes where the agent did not
pub set_there : (hs : List Holdings) (place : ℕ) (before after : Holdings) → slice_get hs place ≡ Some before → after ≡ before → slice_set hs place after ≡ hs
set_there [] place before after there same = refl
set_there (x ∷ hs) zero before after there same = ap (λ (h : Holdings). h ∷ hs) (same ∙ sym (same_Some _ _ there))
set_there (x ∷ hs) (suc place) before after there same = ap (λ (rest : List Holdings). x ∷ rest) (set_there hs place before after there same)

-- ---- ids

pub place_set : (hs : List Holdings) (place : ℕ) (before after : Holdings) (id : AgentId) → slice_get hs place ≡ Some before → after.id ≡ before.id → place_in id (slice_set hs place after) ≡ place_in id hs
place_set [] place before after id there same = refl
place_set (x ∷ hs) zero before after id there same =
    ap (λ (other : AgentId). if agents.same id other then Some 0 else option_map suc (place_in id hs)) (same ∙ sym (ap (λ (h : Holdings). h.id) (same_Some _ _ there)))
place_set (x ∷ hs) (suc place) before after id there same = ap (λ (o : Option ℕ). if has_id id x then Some 0 else option_map suc o) (place_set hs place before after id there same)

here_set : (hs : List Holdings) (place : ℕ) (before after : Holdings) (id : AgentId) → slice_get hs place ≡ Some before → after.id ≡ before.id → is_here (slice_set hs place after) id ≡ is_here hs id
here_set [] place before after id there same = refl
here_set (x ∷ hs) zero before after id there same = ap (λ (other : AgentId). agents.same id other || list_any (has_id id) hs) (same ∙ sym (ap (λ (h : Holdings). h.id) (same_Some _ _ there)))
here_set (x ∷ hs) (suc place) before after id there same = ap (λ (b : Bool). has_id id x || b) (here_set hs place before after id there same)

-- there are the same agents
pub same_here : (hs : List Holdings) (place : ℕ) (before after : Holdings) → slice_get hs place ≡ Some before → after.id ≡ before.id → is_here (slice_set hs place after) ≡ is_here hs
same_here hs place before after there same = λ i id. here_set hs place before after id there same i

-- each agent there has the id of the one that was there
was_there : (hs : List Holdings) (place : ℕ) (before after : Holdings) → slice_get hs place ≡ Some before → after.id ≡ before.id
    → (at : ℕ) (h : Holdings) → slice_get (slice_set hs place after) at ≡ Some h → (old : Holdings) × ((slice_get hs at ≡ Some old) × (h.id ≡ old.id))
was_there [] place before after there same at h is = absurd (cc)
was_there (x ∷ hs) zero before after there same zero h is = (before, (there, ap (λ (one : Holdings). one.id) (sym (same_Some _ _ is)) ∙ same))
was_there (x ∷ hs) zero before after there same (suc at) h is = (h, (is, refl))
was_there (x ∷ hs) (suc place) before after there same zero h is = (h, (is, refl))
was_there (x ∷ hs) (suc place) before after there same (suc at) h is = was_there hs place before after there same at h is

-- each agent still has an id of its own
pub own_places_set : (hs : List Holdings) (place : ℕ) (before after : Holdings) → slice_get hs place ≡ Some before → after.id ≡ before.id → HaveOwnPlaces hs → HaveOwnPlaces (slice_set hs place after)
own_places_set hs place before after there same own = λ at h is.
    let was = was_there hs place before after there same at h is in
    place_set hs place before after h.id there same ∙ ap (λ (id : AgentId). place_in id hs) was.1.1 ∙ own at was.0 was.1.0

-- ---- the table

-- whether an id is the first of two others or the second
apart : (id one other : AgentId) (t u v : Tables) → agents.same one other ≡ false → (if agents.same id other then u else if agents.same id one then t else v) ≡ (if agents.same id one then t else if agents.same id other then u else v)
apart id one other t u v differ = either (agents.same id one) (agents.same id other) refl refl
  where
    either : (a b : Bool) → agents.same id one ≡ a → agents.same id other ≡ b → (if b then u else if a then t else v) ≡ (if a then t else if b then u else v)
    either false b first second = refl
    either true false first second = refl
    either true true first second =
        absurd (let a = (agents.decides id one).0 first in let b = (agents.decides id other).0 second in let c = (agents.decides one other).1 (sym a ∙ b) in cc)

-- it stands in the table by its id, and all others are as before
table_set : (document : Node) (hs : List Holdings) (place : ℕ) (before after : Holdings) (id : AgentId) → place_in id hs ≡ Some place → slice_get hs place ≡ Some before → after.id ≡ before.id
    → (other : AgentId) → agent_by document (slice_set hs place after) other ≡ set_at agents (agent_by document hs) id (tables_of after) other
table_set document [] place before after id is there same other = absurd (cc)
table_set document (x ∷ hs) place before after id is there same other = either (λ m at there. table_set document hs m before after id at there same other) (has_id id x) refl place is there
  where
    Below : Type 0
    Below = (m : ℕ) → place_in id hs ≡ Some m → slice_get hs m ≡ Some before → agent_by document (slice_set hs m after) other ≡ set_at agents (agent_by document hs) id (tables_of after) other

    At : ℕ → Type 0
    At p = agent_by document (slice_set (x ∷ hs) p after) other ≡ set_at agents (agent_by document (x ∷ hs)) id (tables_of after) other

    first : has_id id x ≡ true → x ≡ before → At 0
    first mine is_before =
        let x_id : x.id ≡ id = sym ((agents.decides id x.id).0 mine) in
        let after_id : after.id ≡ id = same ∙ ap (λ (h : Holdings). h.id) (sym is_before) ∙ x_id in
        ap (λ (one : AgentId). if agents.same other one then tables_of after else agent_by document hs other) after_id
        ∙ elim (agents.same other id) as (λ b. (if b then tables_of after else agent_by document hs other) ≡ (if b then tables_of after else if b then tables_of x else agent_by document hs other)) [ true ↦ refl | false ↦ refl ]
        ∙ ap (λ (one : AgentId). if agents.same other id then tables_of after else if agents.same other one then tables_of x else agent_by document hs other) (sym x_id)

    later : Below → has_id id x ≡ false → (o : Option ℕ) → place_in id hs ≡ o → (p : ℕ) → option_map suc o ≡ Some p → slice_get (x ∷ hs) p ≡ Some before → At p
    later below differs None at p is there = absurd (cc)
    later below differs (Some n) at zero is there = absurd (cc)
    later below differs (Some n) at (suc m) is there =
        ap (λ (t : Tables). if agents.same other x.id then tables_of x else t) (below m (at ∙ cc) there)
        ∙ apart other id x.id (tables_of after) (tables_of x) (agent_by document hs other) differs

    either : Below → (b : Bool) → has_id id x ≡ b → (p : ℕ) → (if b then Some 0 else option_map suc (place_in id hs)) ≡ Some p → slice_get (x ∷ hs) p ≡ Some before → At p
    either below true mine zero is there = first mine (same_Some _ _ there)
    either below true mine (suc p) is there = absurd (cc)
    either below false differs p is there = later below differs (place_in id hs) refl p is there

pub agent_set : (document : Node) (hs : List Holdings) (place : ℕ) (before after : Holdings) (id : AgentId) → place_in id hs ≡ Some place → slice_get hs place ≡ Some before → after.id ≡ before.id
    → agent_by document (slice_set hs place after) ≡ set_at agents (agent_by document hs) id (tables_of after)
agent_set document hs place before after id is there same = λ i other. table_set document hs place before after id is there same other i
