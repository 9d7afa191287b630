-- Calls of which some are to fail, and rows in memory over them.
use Rattle.std.specs.Prelude.{ℕ, Bool, nat_eq, List, refl}
use Rattle.std.specs.List.{list_any}
use Rattle.std.specs.Coded.{Coded, code_by, coded×, coded_list, coded_ℕ}
use Rattle.iris_keeper.specs.declared.kept.Kept.{Kept}

-- the numbers of the calls that are to fail, how many calls were made, and how many failed
pub record Calls : Type 0 where
  pub fails : List ℕ
  pub made : ℕ
  pub faults : ℕ

-- how proofs store that
abbrev pub calls_code : Coded Calls
calls_code = code_by (List ℕ × (ℕ × ℕ)) (coded× (coded_list coded_ℕ) (coded× coded_ℕ coded_ℕ)) (λ c. (c.fails, (c.made, c.faults))) (λ p. record { fails = p.0; made = p.1.0; faults = p.1.1 }) (λ _. refl)

-- whether the next call is one that is to fail
abbrev pub fails_now : Calls → Bool
fails_now calls = list_any (nat_eq calls.made) calls.fails

-- rows that lie in memory, the oldest first, and the calls on them
pub record RowsInMemory : Type 0 where
  pub rows : List Kept
  pub calls : Calls

-- how proofs store that
abbrev pub rows_code : Coded Kept → Coded RowsInMemory
rows_code kept = code_by (List Kept × Calls) (coded× (coded_list kept) calls_code) (λ r. (r.rows, r.calls)) (λ p. record { rows = p.0; calls = p.1 }) (λ _. refl)
