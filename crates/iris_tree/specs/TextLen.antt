-- How long JSON text is, counted token by token.
use Rattle.std.specs.Prelude.{ℕ, ◌+◌, List, [], ◌∷◌, length}
use Rattle.std.specs.Io.Iter.{u64_saturate}
use Rattle.json.specs.Token.{Token}
use Rattle.json.specs.Print.{token_text, separator, ends}
use Rattle.iris_tree.specs.declared.counter.Counter.{Counter}

-- the number, or `u64::MAX` where it is more
abbrev pub saturated : ℕ → ℕ
saturated n = u64_saturate n

-- the counter after one more token
unfoldable pub counted_token : Counter → Token → Counter
counted_token c t = record { len = saturated (c.len + length (separator c.after_value t) + length (token_text t)); after_value = ends t }

-- the counter after these tokens
abbrev pub counted : Counter → List Token → Counter
counted c [] = c
counted c (t ∷ ts) = counted (counted_token c t) ts
