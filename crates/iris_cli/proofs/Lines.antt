-- A line that is taken in parts.
use Rattle.std.proofs.Common.{◌≡◌, ◌≢◌, ℕ, zero, suc, ◌+◌, ◌-◌, ◌<◌, ◌≤◌, ◌==◌, true, false, Bool, List, [], ◌∷◌, ◌++◌, length, take, slice_index, refl, ap, sym, ◌∙◌, subst, arith, append_assoc, append-nil, length-append, Ok, Err}
use Rattle.std.specs.declared.option.Option.{Option}
use Rattle.std.specs.Io.KnownBytes.{Consumes}
use Rattle.std.proofs.KnownBytes.{Consumes-nil, Consumes-trans}
use Rattle.iris_base.specs.declared.faults.Fault.{Fault}
use Rattle.iris_base.specs.declared.faults.Fault.TheVariants.{Failed, Memory}
use Rattle.iris_cli.specs.declared.line.NextLine.TheVariants as lines
use Rattle.iris_cli.specs.declared.source.LinePart.TheVariants.{More, Last}
use Rattle.iris_cli.specs.Lines.{LF, NoLf, ended, TakesPart, TakesLine}

-- these bytes of a line were taken, and its limit is passed by one byte at most
pub record LineSoFar (limit : ℕ) (old now : Option (List ℕ)) (line : List ℕ) : Type 0 where
  pub took : Consumes old now line
  pub no_lf : NoLf line
  pub short : length line ≤ limit + 1

no_lf_both : (xs ys : List ℕ) → NoLf xs → NoLf ys → NoLf (xs ++ ys)
no_lf_both [] ys h k = k
no_lf_both (x ∷ xs) ys h k = (h.0, no_lf_both xs ys h.1 k)

pub none_taken : (limit : ℕ) (old : Option (List ℕ)) → LineSoFar limit old old []
none_taken limit old = record { took = Consumes-nil old; no_lf = tt; short = omega arith }

-- a part more
pub part_taken : (limit : ℕ) (old mid new : Option (List ℕ)) (before after : List ℕ) → LineSoFar limit old mid before → length before ≤ limit → TakesPart (limit + 1 - length before) mid new before after (Ok More) → LineSoFar limit old new after × (length before < length after)
part_taken limit old mid new before after so within p =
    let size : length after ≡ length before + length p.0 = ap length p.1 ∙ length-append before p.0 in
    let most = p.4 in
    let some : 0 < length p.0 = some_bytes p.0 p.5 in (
      record {
        took = subst (λ (v : List ℕ). Consumes old new v) (sym p.1) (Consumes-trans old mid new before p.0 so.took p.2);
        no_lf = subst NoLf (sym p.1) (no_lf_both before p.0 so.no_lf p.3);
        short = omega (arith, size, most, within);
      },
      omega (arith, size, some),
    )
  where
    some_bytes : (xs : List ℕ) → xs ≢ [] → 0 < length xs
    some_bytes [] h = absurd (h refl)
    some_bytes (x ∷ xs) h = omega arith

-- the last part, and the LF
pub line_taken : (limit : ℕ) (old mid new : Option (List ℕ)) (before after : List ℕ) → LineSoFar limit old mid before → length before ≤ limit → TakesPart (limit + 1 - length before) mid new before after (Ok Last) → TakesLine limit old new after (Ok lines.Whole)
line_taken limit old mid new before after so within p =
    let size : length after ≡ length before + length p.0 = ap length p.1 ∙ length-append before p.0 in
    let most = p.4 in
    let joined : before ++ ended p.0 ≡ ended after = sym (append_assoc before p.0 (LF ∷ [])) ∙ ap ended (sym p.1) in (
      subst (λ (v : List ℕ). Consumes old new v) joined (Consumes-trans old mid new before (ended p.0) so.took p.2),
      (subst NoLf (sym p.1) (no_lf_both before p.0 so.no_lf p.3), omega (arith, size, most, within)),
    )

-- nothing more was taken
pub stays_taken : (old mid new : Option (List ℕ)) (before after : List ℕ) → Consumes old mid before → after ≡ before → Consumes mid new [] → Consumes old new after
stays_taken old mid new before after took same none = subst (λ (v : List ℕ). Consumes old new v) (append-nil before ∙ sym same) (Consumes-trans old mid new before [] took none)

-- the source failed, or bytes without LF were lost
pub fails_taken : (limit most : ℕ) (old mid new : Option (List ℕ)) (before after : List ℕ) (fault : Fault) → LineSoFar limit old mid before → length before ≤ limit → TakesPart most mid new before after (Err fault) → TakesLine limit old new after (Err fault)
fails_taken limit most old mid new before after Failed so within p = (stays_taken old mid new before after so.took p.0 p.1, (subst NoLf (sym p.0) so.no_lf, let size : length after ≡ length before = ap length p.0 in omega (arith, size, within)))
fails_taken limit most old mid new before after Memory so within p = (before ++ p.0, Consumes-trans old mid new before p.0 so.took p.1, no_lf_both before p.0 so.no_lf p.2)

-- ---- in a buffer

-- no byte before that place is an LF
pub no_lf_before : (bytes : List ℕ) (n : ℕ) → n ≤ length bytes → ((k : ℕ) → k < n → (slice_index bytes k == LF) ≡ true → ⊥) → NoLf (take n bytes)
no_lf_before bytes zero le none = tt
no_lf_before [] (suc n) le none = absurd (omega (arith, le))
no_lf_before (x ∷ bytes) (suc n) le none = (by (x == LF) refl, no_lf_before bytes n (omega (arith, le)) (λ k l e. none (suc k) (omega (arith, l)) e))
  where
    by : (b : Bool) → (x == LF) ≡ b → (x == LF) ≡ false
    by true e = absurd (none 0 (omega arith) e)
    by false e = e
