-- Bytes that are put one part after another.
use Rattle.std.proofs.Common.{◌≡◌, ℕ, List, [], ◌∷◌, ◌++◌, ap, sym, ◌∙◌, subst, append_assoc, append-nil, refl, arith, Option, Result, Ok, Err}
use Rattle.std.proofs.lemmas.Grind.{flat_map-append}
use Rattle.std.specs.Io.KnownBytes.{Appends}
use Rattle.std.proofs.KnownBytes.{Appends-nil, Appends-trans}
use Rattle.iris_json.specs.declared.out.Out.{Out}
use Rattle.iris_cli.specs.declared.halt.Halt.{Halt}
use Rattle.iris_cli.specs.declared.halt.Halt.TheVariants.{Memory}
use Rattle.iris_cli.specs.declared.event.Event.{Event}
use Rattle.iris_cli.specs.Acts.{Acts, Writes}
use Rattle.iris_cli.specs.Run.{World, out_line, out_lines, brings}
use Rattle.iris_base.specs.Outside.{Puts}

-- an error before anything was put
pub puts_nothing : (old : Option (List ℕ)) (halt : Halt) (bytes : List ℕ) → Puts old old (Err halt) bytes
puts_nothing old halt bytes = ([], bytes, refl, Appends-nil old)

-- an error in the first part
pub puts_before : (old new : Option (List ℕ)) (halt : Halt) (first more : List ℕ) → Puts old new (Err halt) first → Puts old new (Err halt) (first ++ more)
puts_before old new halt first more p = (p.0, p.1 ++ more, ap (λ v. v ++ more) p.2 ∙ append_assoc p.0 p.1 more, p.3)

-- the first part was put, and then the second or a front of it
pub puts_then : (old mid new : Option (List ℕ)) (result : Result (Unit {0}) Halt) (first more : List ℕ) → Appends old mid first → Puts mid new result more → Puts old new result (first ++ more)
puts_then old mid new (Ok u) first more a p = Appends-trans old mid new first more a p
puts_then old mid new (Err halt) first more a p = (first ++ p.0, p.1, ap (λ v. first ++ v) p.2 ∙ sym (append_assoc first p.0 p.1), Appends-trans old mid new first p.0 a p.3)

pub lines_and : (outs : List Out) (out : Out) → out_lines (outs ++ out ∷ []) ≡ out_lines outs ++ out_line out
lines_and outs out = flat_map-append out_line outs (out ∷ []) ∙ ap (λ v. out_lines outs ++ v) (append-nil (out_line out))

-- lines gave an error, so one more behind them is not put
pub puts_but_last : (old new : Option (List ℕ)) (halt : Halt) (outs : List Out) (out : Out) → Puts old new (Err halt) (out_lines outs) → Puts old new (Err halt) (out_lines (outs ++ out ∷ []))
puts_but_last old new halt outs out p = subst (λ (v : List ℕ). Puts old new (Err halt) v) (sym (lines_and outs out)) (puts_before old new halt (out_lines outs) (out_line out) p)

-- lines were put, and then one more or a front of it
pub puts_last : (old mid new : Option (List ℕ)) (result : Result (Unit {0}) Halt) (outs : List Out) (out : Out) → Appends old mid (out_lines outs) → Puts mid new result (out_line out) → Puts old new result (out_lines (outs ++ out ∷ []))
puts_last old mid new result outs out a p = subst (λ (v : List ℕ). Puts old new result v) (sym (lines_and outs out)) (puts_then old mid new result (out_lines outs) (out_line out) a p)

-- ---- acts on a sink

-- an act that had no memory to begin
pub writes_nothing : (held : Option (List ℕ)) (faults : ℕ) (text : List ℕ) → Writes held held faults faults text (Err Memory)
writes_nothing held faults text = record {
  bytes = puts_nothing held Memory text;
  cause = record { later = omega arith; failed = λ e. absurd (cc) };
  only = tt;
}

pub acts_nothing : (w next : World) (event : Event) (held : Option (List ℕ)) (faults : ℕ) → Acts w next event held held faults faults (Err Memory)
acts_nothing w next event held faults = record { writes = writes_nothing held faults (out_lines (brings w event)); after = tt }

-- lines gave an error, so one more behind them is not written
pub writes_but_last : (old new : Option (List ℕ)) (before now : ℕ) (outs : List Out) (out : Out) (halt : Halt) → Writes old new before now (out_lines outs) (Err halt) → Writes old new before now (out_lines (outs ++ out ∷ [])) (Err halt)
writes_but_last old new before now outs out halt w = record { bytes = puts_but_last old new halt outs out w.bytes; cause = w.cause; only = w.only }

-- lines were written, and then one more or a front of it
pub writes_last : (old mid new : Option (List ℕ)) (before between now : ℕ) (outs : List Out) (out : Out) (result : Result (Unit {0}) Halt) (u : Unit {0}) → Writes old mid before between (out_lines outs) (Ok u) → Writes mid new between now (out_line out) result
    → Writes old new before now (out_lines (outs ++ out ∷ [])) result
writes_last old mid new before between now outs out result u first last =
    let rose = first.cause.later in
    let later = last.cause.later in
    record {
      bytes = puts_last old mid new result outs out first.bytes last.bytes;
      cause = record { later = omega (arith, rose, later); failed = λ e. let failed = last.cause.failed e in omega (arith, rose, failed) };
      only = last.only;
    }
