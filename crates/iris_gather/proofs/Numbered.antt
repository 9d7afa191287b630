-- Tables of asks: how the code makes them, one by one.
use Rattle.std.proofs.Common.{◌≡◌, ℕ, ◌+◌, ◌<◌, List, [], ◌∷◌, ◌++◌, length, get_or, drop, sym, ◌∙◌, ap, subst, append_assoc}
use Rattle.std.specs.List.{enumerate_from}
use Rattle.std.specs.List.Sorted.{IsStrictlySortedBy}
use Rattle.std.specs.Map.{keys_of}
use Rattle.std.specs.BTreeMap.{insert_entry}
use Rattle.std.specs.Ordering.{nat_cmp}
use Rattle.std.proofs.lemmas.Cmp.{nat_cmp_total}
use Rattle.iris_need.specs.declared.need.Need.{Need}
use Rattle.iris_need.proofs.Collected.{cut_at}
use Rattle.iris_need.proofs.Pieces.{insert_last}
use Rattle.iris_gather.specs.Gathers.{AskTable}
use Rattle.iris_gather.proofs.Rising.{numbers_rise}

-- an ask that is put behind those that a table begins with
put_next : (all asks rest : AskTable) (ask : ℕ) (need : Need) → IsStrictlySortedBy nat_cmp (keys_of all) → all ≡ asks ++ (ask, need) ∷ rest → insert_entry nat_cmp asks ask need ≡ asks ++ (ask, need) ∷ []
put_next all asks rest ask need sorted whole = insert_last nat_cmp_total asks (ask, need) rest (subst (λ (es : AskTable). IsStrictlySortedBy nat_cmp (keys_of es)) whole sorted)

-- one more need is numbered
pub numbered_more : (asks new : AskTable) (first next : ℕ) (needs : List Need) (i : ℕ) (need copy d : Need) → i < length needs → need ≡ get_or needs i d → copy ≡ need
    → asks ++ enumerate_from next (drop i needs) ≡ enumerate_from first needs → new ≡ insert_entry nat_cmp asks next copy
    → new ++ enumerate_from (next + 1) (drop (i + 1) needs) ≡ enumerate_from first needs
numbered_more asks new first next needs i need copy d within here same so_far made =
    let rest = enumerate_from (next + 1) (drop (i + 1) needs) in
    let whole : enumerate_from first needs ≡ asks ++ (next, need) ∷ rest = sym so_far ∙ ap (λ (left : List Need). asks ++ enumerate_from next left) (cut_at needs i need d within here) in
    let put : new ≡ asks ++ (next, need) ∷ [] = made ∙ ap (λ (n : Need). insert_entry nat_cmp asks next n) same ∙ put_next (enumerate_from first needs) asks rest next need (numbers_rise first needs) whole in
    ap (λ (es : AskTable). es ++ rest) put ∙ append_assoc asks ((next, need) ∷ []) rest ∙ sym whole

-- one more ask is copied
pub copied_more : (all so_far left rest new copy : AskTable) (ask number : ℕ) (need n : Need) → IsStrictlySortedBy nat_cmp (keys_of all) → all ≡ so_far ++ left → left ≡ (ask, need) ∷ rest → copy ≡ so_far
    → new ≡ insert_entry nat_cmp copy number n → number ≡ ask → n ≡ need → new ≡ so_far ++ (ask, need) ∷ []
copied_more all so_far left rest new copy ask number need n sorted a l c i en ep =
    i ∙ ap (λ (es : AskTable). insert_entry nat_cmp es number n) c ∙ ap (λ (m : ℕ). insert_entry nat_cmp so_far m n) en ∙ ap (λ (q : Need). insert_entry nat_cmp so_far ask q) ep
    ∙ put_next all so_far rest ask need sorted (a ∙ ap (λ (es : AskTable). so_far ++ es) l)
