-- The place of a state among the states of a need.
use Rattle.std.proofs.Common.{◌≡◌, ℕ, ◌+◌, ◌<◌, List, [], ◌∷◌, ◌++◌, length, get_or, take, drop, refl, sym, ap, ◌∙◌, append_assoc, add-one, drop-cons}
use Rattle.std.proofs.lemmas.List.{take-append-drop}
use Rattle.std.proofs.Math.Seq.{take-suc}
use Rattle.std.specs.List.{insert}
use Rattle.std.specs.declared.cmp.Ordering.TheVariants.{Less, Equal, Greater}
use Rattle.iris_base.specs.declared.state.State.{State}
use Rattle.iris_need.specs.Needs.{state_cmp, with_state}

-- the states with one more, as far as they were compared
abbrev pub so_far : List State → State → ℕ → List State
so_far all s i = take i all ++ with_state (drop i all) s

at_less : (t : State) (ts : List State) (s : State) → state_cmp s t ≡ Less → with_state (t ∷ ts) s ≡ s ∷ t ∷ ts
at_less t ts s h = rw h refl

at_equal : (t : State) (ts : List State) (s : State) → state_cmp s t ≡ Equal → with_state (t ∷ ts) s ≡ t ∷ ts
at_equal t ts s h = rw h refl

at_greater : (t : State) (ts : List State) (s : State) → state_cmp s t ≡ Greater → with_state (t ∷ ts) s ≡ t ∷ with_state ts s
at_greater t ts s h = rw h refl

cut_at : (all : List State) (i : ℕ) (d : State) → i < length all → drop i all ≡ get_or all i d ∷ drop (i + 1) all
cut_at all i d h = rw add-one (drop-cons all i d h)

-- a state that is less stands before
pub placed_before : (all : List State) (s d : State) (i : ℕ) → i < length all → state_cmp s (get_or all i d) ≡ Less → with_state all s ≡ so_far all s i → with_state all s ≡ insert all i s
placed_before all s d i h less so =
    let cut = cut_at all i d h in
    so ∙ ap (λ (xs : List State). take i all ++ with_state xs s) cut ∙ ap (λ (xs : List State). take i all ++ xs) (at_less (get_or all i d) (drop (i + 1) all) s less)
    ∙ ap (λ (xs : List State). take i all ++ s ∷ xs) (sym cut)

-- a state that is equal is there
pub is_there : (all : List State) (s d : State) (i : ℕ) → i < length all → state_cmp s (get_or all i d) ≡ Equal → with_state all s ≡ so_far all s i → with_state all s ≡ all
is_there all s d i h equal so =
    let cut = cut_at all i d h in
    so ∙ ap (λ (xs : List State). take i all ++ with_state xs s) cut ∙ ap (λ (xs : List State). take i all ++ xs) (at_equal (get_or all i d) (drop (i + 1) all) s equal)
    ∙ ap (λ (xs : List State). take i all ++ xs) (sym cut) ∙ take-append-drop i all

-- a state that is greater stands behind
pub passed : (all : List State) (s d : State) (i : ℕ) → i < length all → state_cmp s (get_or all i d) ≡ Greater → with_state all s ≡ so_far all s i → with_state all s ≡ so_far all s (i + 1)
passed all s d i h greater so =
    let cut = cut_at all i d h in
    let more : take (i + 1) all ≡ take i all ++ get_or all i d ∷ [] = rw add-one (take-suc all i d h) in
    so ∙ ap (λ (xs : List State). take i all ++ with_state xs s) cut ∙ ap (λ (xs : List State). take i all ++ xs) (at_greater (get_or all i d) (drop (i + 1) all) s greater)
    ∙ sym (append_assoc (take i all) (get_or all i d ∷ []) (with_state (drop (i + 1) all) s))
    ∙ ap (λ (xs : List State). xs ++ with_state (drop (i + 1) all) s) (sym more)
