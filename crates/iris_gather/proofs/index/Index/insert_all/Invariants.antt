use Rattle.std.proofs.Common.{◌≡◌, ℕ, true, Some, if◌then◌else◌}
use Rattle.std.specs.List.{list_any}
use Rattle.std.specs.BTreeMap.{is_at, keys}
use Rattle.std.specs.Ordering.{nat_cmp}
use Rattle.iris_gather.specs.Indices.{number_at}
use Rattle.iris_gather.proofs.index.Index.insert_all.Given as goal

-- with the asks that are left put in, it is as with all put in
abbrev pub invariant-loop-ask : goal.invariant-loop-ask
invariant-loop-ask l =
    record {
      so_far : (q : ℕ) → (if list_any (is_at (nat_cmp q)) l.ask-iterator then Some l.number else number_at l.self q) ≡ (if list_any (is_at (nat_cmp q)) (keys l.asks) then Some l.number else number_at l.initial.self q);
      left : (q : ℕ) → list_any (is_at (nat_cmp q)) l.ask-iterator ≡ true → list_any (is_at (nat_cmp q)) (keys l.asks) ≡ true;
    }
