-- Counting tokens one after another.
use Rattle.std.proofs.Common.{◌≡◌, ◌+◌, ◌≤◌, false, List, [], ◌∷◌, ◌++◌, ◌∙◌, ap, refl, length, length-append, zero-add, arith}
use Rattle.json.specs.Token.{Token}
use Rattle.json.specs.Print.{print_from, print, separator, token_text, ends}
use Rattle.iris_tree.specs.declared.counter.Counter.{Counter}
use Rattle.iris_tree.specs.TextLen.{counted_token, saturated, counted}

-- counting goes on where it left off
pub counted-append : (c : Counter) (xs ys : List Token) → counted c (xs ++ ys) ≡ counted (counted c xs) ys
counted-append c [] ys = refl
counted-append c (x ∷ xs) ys = counted-append (counted_token c x) xs ys

-- the same by bare names, for tactics
pub counted_more : (c : Counter) (xs ys : List Token) → counted c (xs ++ ys) ≡ counted (counted c xs) ys
counted_more = counted-append

-- one more token
pub counted_push : (c : Counter) (xs : List Token) (t : Token) → counted c (xs ++ t ∷ []) ≡ counted_token (counted c xs) t
counted_push c xs t = counted-append c xs (t ∷ [])

-- what is counted is the length of the text
pub counted_print : (c : Counter) (ts : List Token) → c.len ≤ saturated c.len → (counted c ts).len ≡ saturated (c.len + length (print_from c.after_value ts))
unfolding counted_token print_from
counted_print c [] h = omega arith
counted_print c (t ∷ ts) h =
    let a = length-append (separator c.after_value t) (token_text t ++ print_from (ends t) ts) in
    let b = length-append (token_text t) (print_from (ends t) ts) in
    let rest = counted_print (counted_token c t) ts (omega arith) in
    omega (arith, a, b, rest)

-- the same from nothing
pub counted_text : (ts : List Token) → (counted (record { len = 0; after_value = false }) ts).len ≡ saturated (length (print ts))
counted_text ts = counted_print (record { len = 0; after_value = false }) ts (omega arith) ∙ ap saturated (zero-add (length (print ts)))
