-- The agents of a city as a table, where one of them changes.
use Rattle.std.proofs.Common.{◌≡◌, ℕ, zero, suc, ◌+◌, Bool, true, false, List, [], ◌∷◌, Option, Some, None, drop, length, get_or, ◌<◌, refl, sym, ap, ◌∙◌, subst, arith, if◌then◌else◌}
use Rattle.std.proofs.lemmas.Option.{same_Some, slice_get_read}
use Rattle.std.specs.Prelude.{option_map, slice_get}
use Rattle.iris_tree.specs.Universe.{Node}
use Rattle.iris_agent.specs.Tables.{Holdings, tables_of}
use Rattle.iris_protocol.specs.Table.{AgentId}
use Rattle.iris_state.specs.Agents.{has_id, agent_by, outside, place_in}

-- an agent stands in the table by its id
pub at_place : (document : Node) (hs : List Holdings) (id : AgentId) (place : ℕ) (h : Holdings) → place_in id hs ≡ Some place → slice_get hs place ≡ Some h → agent_by document hs id ≡ tables_of h
at_place document [] id place h is there = absurd (cc)
at_place document (x ∷ hs) id place h is there = either (λ m at there. at_place document hs id m h at there) (has_id id x) place is there
  where
    later : ((m : ℕ) → place_in id hs ≡ Some m → slice_get hs m ≡ Some h → agent_by document hs id ≡ tables_of h)
        → (o : Option ℕ) → place_in id hs ≡ o → (place : ℕ) → option_map suc o ≡ Some place → slice_get (x ∷ hs) place ≡ Some h → agent_by document hs id ≡ tables_of h
    later go None at place is there = absurd (cc)
    later go (Some n) at zero is there = absurd (cc)
    later go (Some n) at (suc m) is there = go m (at ∙ cc) there

    either : ((m : ℕ) → place_in id hs ≡ Some m → slice_get hs m ≡ Some h → agent_by document hs id ≡ tables_of h)
        → (b : Bool) (place : ℕ) → (if b then Some 0 else option_map suc (place_in id hs)) ≡ Some place → slice_get (x ∷ hs) place ≡ Some h
        → (if b then tables_of x else agent_by document hs id) ≡ tables_of h
    either go true zero is there = ap tables_of (same_Some _ _ there)
    either go true (suc n) is there = absurd (cc)
    either go false place is there = later go (place_in id hs) refl place is there

-- where there is no agent of an id, an agent outside stands for it
pub at_none : (document : Node) (hs : List Holdings) (id : AgentId) → place_in id hs ≡ None → agent_by document hs id ≡ outside document id
at_none document [] id is = refl
at_none document (x ∷ hs) id is = either (λ at. at_none document hs id at) (has_id id x) is
  where
    later : (place_in id hs ≡ None → agent_by document hs id ≡ outside document id) → (o : Option ℕ) → place_in id hs ≡ o → option_map suc o ≡ None → agent_by document hs id ≡ outside document id
    later go None at is = go at
    later go (Some n) at is = absurd (cc)

    either : (place_in id hs ≡ None → agent_by document hs id ≡ outside document id) → (b : Bool) → (if b then Some 0 else option_map suc (place_in id hs)) ≡ None
        → (if b then tables_of x else agent_by document hs id) ≡ outside document id
    either go true is = absurd (cc)
    either go false is = later go (place_in id hs) refl is

-- ---- the search for a place

-- the agent at a place is the first from there on that has the id
pub place_here : (hs : List Holdings) (id : AgentId) (at : ℕ) (h : Holdings) → slice_get hs at ≡ Some h → has_id id h ≡ true → place_in id (drop at hs) ≡ Some 0
place_here [] id at h there same = absurd (cc)
place_here (x ∷ hs) id zero h there same = ap (λ (b : Bool). if b then Some 0 else option_map suc (place_in id hs)) (ap (has_id id) (same_Some _ _ there) ∙ same)
place_here (x ∷ hs) id (suc at) h there same = place_here hs id at h there same

-- and where it has not, the search goes on behind it
pub place_next : (hs : List Holdings) (id : AgentId) (at : ℕ) (h : Holdings) → slice_get hs at ≡ Some h → has_id id h ≡ false → place_in id (drop at hs) ≡ option_map suc (place_in id (drop (suc at) hs))
place_next [] id at h there same = absurd (cc)
place_next (x ∷ hs) id zero h there same = ap (λ (b : Bool). if b then Some 0 else option_map suc (place_in id hs)) (ap (has_id id) (same_Some _ _ there) ∙ same)
place_next (x ∷ hs) id (suc at) h there same = place_next hs id at h there same

pub place_found : (hs : List Holdings) (id : AgentId) (at : ℕ) (h : Holdings) → slice_get hs at ≡ Some h → has_id id h ≡ true
    → place_in id hs ≡ option_map (λ n. at + n) (place_in id (drop at hs)) → Some at ≡ place_in id hs
place_found hs id at h there same from =
    let here : at ≡ at + 0 = omega arith in
    ap Some here ∙ sym (from ∙ ap (option_map (λ n. at + n)) (place_here hs id at h there same))

pub place_on : (hs : List Holdings) (id : AgentId) (at : ℕ) (h : Holdings) → slice_get hs at ≡ Some h → has_id id h ≡ false
    → place_in id hs ≡ option_map (λ n. at + n) (place_in id (drop at hs)) → place_in id hs ≡ option_map (λ n. at + 1 + n) (place_in id (drop (at + 1) hs))
place_on hs id at h there same from =
    from ∙ ap (option_map (λ n. at + n)) (place_next hs id at h there same) ∙ behind (place_in id (drop (suc at) hs)) ∙ ap (λ (n : ℕ). option_map (λ m. at + 1 + m) (place_in id (drop n hs))) one_on
  where
    one_on : suc at ≡ at + 1
    one_on = omega arith

    one_more : (n : ℕ) → at + suc n ≡ at + 1 + n
    one_more n = omega arith

    behind : (o : Option ℕ) → option_map (λ n. at + n) (option_map suc o) ≡ option_map (λ n. at + 1 + n) o
    behind None = refl
    behind (Some n) = ap Some (one_more n)

-- the agent that was found
pub found_agent : (hs slice : List Holdings) (id : AgentId) (at : ℕ) (h : Holdings) → slice ≡ hs → Some at ≡ place_in id slice → at < length slice → h ≡ get_or hs at h → (place_in id hs ≡ Some at) × (slice_get hs at ≡ Some h)
found_agent hs slice id at h same found within is =
    (sym (found ∙ ap (place_in id) same), slice_get_read hs (length hs) at h refl (subst (λ (xs : List Holdings). at < length xs) same within) is)
