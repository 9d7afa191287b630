-- Lemmas of bytes that a source gives and a sink takes.
use Rattle.std.proofs.Common.{◌≡◌, ℕ, ◌+◌, ◌-◌, ◌<◌, ◌≤◌, min, List, [], ◌∷◌, ◌++◌, length, take, drop, refl, ap, sym, ◌∙◌, subst, arith, length-append, length-drop, Ok, Err, IfSome, OnSome}
use Rattle.std.specs.declared.option.Option.{Option}
use Rattle.std.specs.declared.option.Option.TheVariants.{None, Some}
use Rattle.std.specs.declared.result.Result.{Result}
use Rattle.iris_base.specs.declared.faults.Fault.{Fault}
use Rattle.iris_base.specs.declared.faults.Fault.TheVariants.{Failed, Memory}
use Rattle.iris_cli.specs.declared.source.LinePart.{LinePart}
use Rattle.iris_cli.specs.declared.source.LinePart.TheVariants.{More, Last, End}
use Rattle.iris_cli.specs.Lines.{TakesPart}
use Rattle.std.specs.Io.KnownBytes.{Appends, Keeps, Consumes, IsAtEnd}
use Rattle.std.proofs.KnownBytes.{Appends-trans, Appends-kept}
use lib.Seq.{take-add, take-take}
use Rattle.std.proofs.lemmas.List.{take-append-drop, length-take, drop-drop}
use Rattle.std.proofs.Math.Seq.{take-append_seam}

-- a list of length 0 is empty
pub none_left : (xs : List ℕ) → length xs ≡ 0 → xs ≡ []
none_left [] h = refl
none_left (x ∷ xs) h = absurd (omega arith)

-- what is copied into the front of a room is taken from the front of what is left, and nothing is copied only at the end
pub taken_bytes : (bytes room front : List ℕ) (at count rest step : ℕ) → at ≤ length bytes → rest + at ≡ length bytes → 0 < step → count ≡ min (min rest (length room)) step → front ≡ take (at + count - at) (drop at bytes)
    → (drop at bytes ≡ take count (front ++ drop count room) ++ drop (at + count) bytes) × (count ≡ 0 → 0 < length (front ++ drop count room) → drop (at + count) bytes ≡ [])
taken_bytes bytes room front at count rest step h r s c e =
    let d : length (drop at bytes) ≡ rest = omega (arith, length-drop at bytes) in
    let n : front ≡ take count (drop at bytes) = e ∙ (let k : at + count - at ≡ count = omega arith in ap (λ m. take m (drop at bytes)) k) in
    let f : length front ≡ count = omega (arith, ap length n, length-take count (drop at bytes)) in
    let t : take count (front ++ drop count room) ≡ front = ap (λ m. take m (front ++ drop count room)) (sym f) ∙ take-append_seam front (drop count room) in
    let u : drop (at + count) bytes ≡ drop count (drop at bytes) = sym (drop-drop count at bytes) in (
      sym (ap (λ v. v ++ drop (at + count) bytes) (t ∙ n) ∙ ap (λ v. take count (drop at bytes) ++ v) u ∙ take-append-drop count (drop at bytes)),
      λ z l. none_left (drop (at + count) bytes) (let q : length (front ++ drop count room) ≡ length front + length (drop count room) = length-append front (drop count room) in omega (arith, length-drop (at + count) bytes, length-drop count room)),
    )

-- a front of the bytes was added, and nothing after it
pub part_put : (old mid new : Option (List ℕ)) (count : ℕ) (bytes : List ℕ) → Appends old mid (take count bytes) → Keeps mid new → (part : List ℕ) × (more : List ℕ) × (bytes ≡ part ++ more) × Appends old new part
part_put old mid new count bytes added kept = (take count bytes, drop count bytes, sym (take-append-drop count bytes), Appends-kept old mid new (take count bytes) added kept)

-- a front of the bytes was added, and then a front of the rest
pub more_put : (old mid new : Option (List ℕ)) (written count : ℕ) (bytes : List ℕ) → Appends old mid (take written bytes) → written ≤ length bytes → count ≤ length bytes - written → Appends mid new (take count (take (length bytes - written) (drop written bytes))) → Appends old new (take (written + count) bytes)
more_put old mid new written count bytes added within bound more =
    let joined = ap (λ l. take written bytes ++ l) (take-take count (length bytes - written) (drop written bytes) bound) ∙ sym (take-add written count bytes) in
    subst (Appends old new) joined (Appends-trans old mid new _ _ added more)

-- what is taken of a line, where what was left had been kept before
pub part_after : (most : ℕ) (first old new : Option (List ℕ)) (before after : List ℕ) (r : Result LinePart Fault) → Keeps first old → TakesPart most old new before after r → TakesPart most first new before after r
part_after most None old new before after (Ok More) kept p = (p.0, p.1, tt, p.3, p.4, p.5)
part_after most None old new before after (Ok Last) kept p = (p.0, p.1, tt, p.3, p.4)
part_after most None old new before after (Ok End) kept p = (p.0, tt, tt)
part_after most None old new before after (Err Failed) kept p = (p.0, tt)
part_after most None old new before after (Err Memory) kept p = (p.0, tt, p.2)
part_after most (Some xs) None new before after r kept p = absurd kept
part_after most (Some xs) (Some ys) new before after r kept p = subst (λ (v : List ℕ). TakesPart most (Some v) new before after r) kept p

-- a reader that has nothing at hand is at its end
pub at_its_end : (old new : Option (List ℕ)) → IfSome old (λ xs. xs ≡ []) → Keeps old new → Consumes old new [] × OnSome old (IsAtEnd new)
at_its_end None new none kept = (tt, tt)
at_its_end (Some xs) None none kept = absurd kept
at_its_end (Some xs) (Some ys) none kept = (sym kept, kept ∙ none)

-- where nothing was taken twice, nothing was taken
pub nothing_taken : (first old new : Option (List ℕ)) → Keeps first old → Keeps old new → Consumes first new []
nothing_taken None old new a b = tt
nothing_taken (Some xs) None new a b = absurd a
nothing_taken (Some xs) (Some ys) None a b = absurd b
nothing_taken (Some xs) (Some ys) (Some zs) a b = sym (b ∙ a)

-- where nothing was taken, nothing was taken
pub nothing_kept : (first old : Option (List ℕ)) → Keeps first old → Consumes first old []
nothing_kept None old a = tt
nothing_kept (Some xs) None a = absurd a
nothing_kept (Some xs) (Some ys) a = sym a

-- what is so of what is left follows from what else is
pub left_so : (left : Option (List ℕ)) (P Q : List ℕ → Type 0) → ((xs : List ℕ) → P xs → Q xs) → IfSome left P → IfSome left Q
left_so None P Q f h = tt
left_so (Some xs) P Q f h = f xs h

-- a fault where nothing was taken
pub fault_part : (most : ℕ) (first new : Option (List ℕ)) (before after : List ℕ) (fault : Fault) → after ≡ before → Consumes first new [] → TakesPart most first new before after (Err fault)
fault_part most first new before after Failed same none = (same, none)
fault_part most first new before after Memory same none = ([], none, tt)
