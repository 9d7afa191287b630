-- The longest prefix that is a node's name, as it is looked for.
use Rattle.std.proofs.Common.{◌≡◌, ℕ, zero, suc, ◌-◌, ◌<◌, true, false, is_some, List, take, refl, sym, ap, arith}
use Rattle.iris_base.specs.declared.name.Label.{Label}
use Rattle.iris_route.specs.Titles.{Titles, title_at}
use Rattle.iris_route.specs.Routes.{longest_upto}

-- it is that long, where the name of that length is a node's
pub upto_here : (ts : Titles) (name : List Label) (n : ℕ) → 0 < n → is_some (title_at ts (take n name)) ≡ true → longest_upto ts name n ≡ n
upto_here ts name zero some h = absurd (omega arith)
upto_here ts name (suc n) some h = rw h refl

-- and else shorter
pub upto_less : (ts : Titles) (name : List Label) (n : ℕ) → 0 < n → is_some (title_at ts (take n name)) ≡ false → longest_upto ts name n ≡ longest_upto ts name (n - 1)
upto_less ts name zero some h = absurd (omega arith)
upto_less ts name (suc n) some h = let e : suc n - 1 ≡ n = omega arith in rw h (ap (longest_upto ts name) (sym e))
