use Rattle.std.proofs.Common.{◌≡◌, ℕ, None, if◌then◌else◌}
use Rattle.std.specs.List.{list_any}
use Rattle.std.specs.BTreeMap.{is_at, keys}
use Rattle.std.specs.Ordering.{nat_cmp}
use Rattle.iris_gather.specs.Indices.{number_at}
use Rattle.iris_gather.proofs.index.Index.remove_all.Given as goal

-- with the asks that are left taken out, it is as with all taken out
abbrev pub invariant-loop-ask : goal.invariant-loop-ask
invariant-loop-ask l =
    (q : ℕ) → (if list_any (is_at (nat_cmp q)) l.ask-iterator then None else number_at l.self q) ≡ (if list_any (is_at (nat_cmp q)) (keys l.asks) then None else number_at l.initial.self q)
