-- The reader is exact: a text that spells a query within the limits gives that query, or there was no memory.
use Rattle.std.proofs.Common.{◌≡◌, ℕ, List, sym, ap, ◌∙◌, Some, None, Err}
use Rattle.iris_xpath.specs.declared.expression.NameTest.{NameTest}
use Rattle.iris_xpath.specs.Syntax.{Syntax}
use Rattle.iris_xpath.specs.declared.error.QueryError.{QueryError}
use Rattle.iris_xpath.specs.declared.error.QueryError.TheVariants as errors
use Rattle.iris_xpath.specs.declared.error.QueryLimit.{QueryLimit}
use Rattle.iris_xpath.specs.Grammar.{Main}
use Rattle.iris_xpath.specs.Spells.{Spells, Reads}
use Rattle.iris_xpath.specs.Tally.{limit_of}
use Rattle.iris_xpath.specs.Parens.{parens_of}
use Rattle.iris_xpath.specs.Refused.{Refused}
use Rattle.iris_xpath.specs.Told.{Found, Passes, Gives}
use Rattle.iris_xpath.specs.Trees.{named}
use Rattle.iris_xpath.proofs.Runs.{Knows}
use Rattle.iris_xpath.proofs.Words.{knows}
use Rattle.iris_xpath.proofs.Judging.{judged_refuses, one_query, same_parens}

passes_none : (n : List ℕ → NameTest) → Knows n → (text : List ℕ) (q : Syntax) (m : Main) (w : QueryLimit) → Spells n text q m → limit_of q (parens_of m) ≡ None → Passes n text w → ⊥
passes_none n k text q m w s l p =
    let e : p.0 ≡ q = one_query n k text p.0 q (p.1.0, p.1.1) (m, s) in
    let f : parens_of p.1.0 ≡ parens_of m = same_parens n k text p.0 q p.1.0 m p.1.1 s in
    let g : Some w ≡ None = sym p.1.2 ∙ ap (λ (x : Syntax). limit_of x (parens_of p.1.0)) e ∙ ap (limit_of q) f ∙ l in
    absurd (cc)

-- a text that is refused spells no query within the limits
pub refused_gives : (n : List ℕ → NameTest) → Knows n → (text : List ℕ) (e : QueryError) → Refused n text e → (q : Syntax) → Found n text q → Gives q (Err e)
refused_gives n k text (errors.Syntax p) h q f = judged_refuses n text p q h.0 (f.1.0, f.1.1)
refused_gives n k text (errors.Outside p what) h q f = judged_refuses n text p q h.0 (f.1.0, f.1.1)
refused_gives n k text (errors.TooLarge w) h q f = absurd h
refused_gives n k text errors.Memory h q f = tt

-- nor does one that passes a limit
pub over_gives : (n : List ℕ → NameTest) → Knows n → (text : List ℕ) (steps : Syntax) (parens : ℕ) (w : QueryLimit) → (m : Main) × Spells n text steps m × (parens ≡ parens_of m) → Some w ≡ limit_of steps parens → (q : Syntax) → Found n text q → ⊥
over_gives n k text steps parens w r l q f = passes_none n k text q f.1.0 w f.1.1 f.1.2 (steps, (r.0, r.1, ap (limit_of steps) (sym r.2) ∙ sym l))

-- the steps that are read are those of any query that the text spells
pub same_gives : (n : List ℕ → NameTest) → Knows n → (text : List ℕ) (steps : Syntax) (parens : ℕ) → (m : Main) × Spells n text steps m × (parens ≡ parens_of m) → (q : Syntax) → Found n text q → steps ≡ q
same_gives n k text steps parens r q f = one_query n k text steps q (r.0, r.1) (f.1.0, f.1.1)

-- a text spells one query at most
pub reads_once : (kinds : List (List ℕ)) (text : List ℕ) (p q : Syntax) → Reads (named kinds) text p → Reads (named kinds) text q → p ≡ q
reads_once kinds text p q r s = one_query (named kinds) (knows kinds) text p q r s
