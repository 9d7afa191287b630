-- The end of a play: its status and its last line.
use Rattle.std.proofs.Common.{◌≡◌, ℕ, List, [], ◌∷◌, ◌++◌, refl, ap, sym, ◌∙◌, subst, append_assoc, append-nil, inl, inr, Option, Some, None, Result, Ok, Err}
use Rattle.std.specs.List.{flat_map}
use Rattle.std.specs.Io.KnownBytes.{Appends}
use Rattle.std.proofs.KnownBytes.{Appends-trans}
use Rattle.iris_cli.specs.declared.halt.Halt.{Halt}
use Rattle.iris_cli.specs.declared.halt.Halt.TheVariants as halts
use Rattle.iris_cli.specs.declared.status.Status.{Status}
use Rattle.iris_cli.specs.declared.status.Status.TheVariants.{BadScript, WriteFault, Limit, Memory}
use Rattle.iris_cli.specs.Lines.{ended}
use Rattle.iris_cli.specs.Run.{World}
use Rattle.iris_cli.specs.Played.{AreLines, DoneSo, WritesFront, last_line, IsStopped, Ending, PlaysOn}
use Rattle.iris_cli.specs.Stepped.{Halts, RanTo, status_of, Closes}
use Rattle.iris_cli.proofs.Allowed.{script_allowed}
use Rattle.iris_cli.proofs.Plays.{front_nil}

no_front : (xs ys : List ℕ) → [] ≡ xs ++ ys → xs ≡ []
no_front [] ys e = refl
no_front (x ∷ xs) ys e = absurd (cc)

-- a run up to here, and what was added after it
closed : (text left : List ℕ) (old mid new : Option (List ℕ)) (lines : List (List ℕ)) (rest : List ℕ) (s : Option World) (done part more : List ℕ) (status : Status) → text ≡ flat_map ended lines ++ rest → AreLines lines → DoneSo lines done s
    → Appends old mid (done ++ part) → Appends mid new more → Ending lines s rest left (part ++ more) status → PlaysOn (Some text) (Some left) old new status
closed text left old mid new lines rest s done part more status text_is are did before added ending = (
  (done ++ part) ++ more,
  Appends-trans old mid new (done ++ part) more before added,
  record {
    lines = lines;
    rest = rest;
    world = s;
    done = done;
    part = part ++ more;
    text_is = text_is;
    are_lines = are;
    did = did;
    allowed = script_allowed lines;
    written_is = append_assoc done part more;
    ending = ending;
  },
)

-- the last line was written whole
told_whole : (lines : List (List ℕ)) (s : Option World) (rest left part : List ℕ) (number : ℕ) (result : Result (Unit {0}) Halt) → Halts lines s rest left part number result → Ending lines s rest left (part ++ last_line (status_of number result)) (status_of number result)
told_whole lines s rest left part number (Ok u) h = (h.0, h.1, h.2, append-nil part ∙ h.3)
told_whole lines s rest left part number (Err halts.ReadFault) h = (h.0, h.1, h.2, append-nil part ∙ h.3)
told_whole lines s rest left part number (Err halts.WriteFault) h = inl (subst (λ (v : List ℕ). WritesFront lines s rest left v) (sym (append-nil part)) h)
told_whole lines s rest left part number (Err (halts.BadLine why node)) h = (h.0, ap (λ v. v ++ last_line (BadScript number why node)) h.1)
told_whole lines s rest left part number (Err (halts.Limit which count)) h = (h.0, ap (λ v. v ++ last_line (Limit which count)) h.1)
told_whole lines s rest left part number (Err halts.Memory) h = inl (subst (λ (v : List ℕ). WritesFront lines s rest left v) (sym (append-nil part)) h)

-- nothing was written, since there is no last line
told_nothing : (lines : List (List ℕ)) (s : Option World) (rest left part more unwritten : List ℕ) → part ≡ [] → [] ≡ more ++ unwritten → IsStopped lines s rest left (part ++ more)
told_nothing lines s rest left part more unwritten p e = inl (subst (λ (v : List ℕ). WritesFront lines s rest left v) (sym (ap (λ v. v ++ more) p ∙ no_front more unwritten e)) (front_nil lines s rest left))

-- a front of the last line was written
told_part : (lines : List (List ℕ)) (s : Option World) (rest left part more unwritten : List ℕ) (number : ℕ) (result : Result (Unit {0}) Halt) → Halts lines s rest left part number result → last_line (status_of number result) ≡ more ++ unwritten
    → IsStopped lines s rest left (part ++ more)
told_part lines s rest left part more unwritten number (Ok u) h e = told_nothing lines s rest left part more unwritten h.3 e
told_part lines s rest left part more unwritten number (Err halts.ReadFault) h e = told_nothing lines s rest left part more unwritten h.3 e
told_part lines s rest left part more unwritten number (Err halts.WriteFault) h e = inl (subst (λ (v : List ℕ). WritesFront lines s rest left v) (sym (ap (λ v. part ++ v) (no_front more unwritten e) ∙ append-nil part)) h)
told_part lines s rest left part more unwritten number (Err (halts.BadLine why node)) h e = inr (BadScript number why node, unwritten, h.0, e ∙ ap (λ v. (v ++ more) ++ unwritten) (sym h.1))
told_part lines s rest left part more unwritten number (Err (halts.Limit which count)) h e = inr (Limit which count, unwritten, h.0, e ∙ ap (λ v. (v ++ more) ++ unwritten) (sym h.1))
told_part lines s rest left part more unwritten number (Err halts.Memory) h e = inl (subst (λ (v : List ℕ). WritesFront lines s rest left v) (sym (ap (λ v. part ++ v) (no_front more unwritten e) ∙ append-nil part)) h)

pub plays_on : (first last old mid new : Option (List ℕ)) (number : ℕ) (result : Result (Unit {0}) Halt) (answer : Status) → RanTo first last old mid number result → Closes mid new (status_of number result) answer → PlaysOn first last old new answer
plays_on None last old mid new number result answer r c = tt
plays_on (Some text) None old mid new number result answer r c = absurd r
plays_on (Some text) (Some left) old mid new number result answer r (inl c) =
    subst (λ (v : Status). PlaysOn (Some text) (Some left) old new v) (sym c.0)
    (closed text left old mid new r.0 r.1 r.2 r.3 r.4 (last_line (status_of number result)) (status_of number result) r.5 r.6 r.7 r.8 c.1 (told_whole r.0 r.2 r.1 left r.4 number result r.9))
plays_on (Some text) (Some left) old mid new number result answer r (inr (inl w, p)) =
    subst (λ (v : Status). PlaysOn (Some text) (Some left) old new v) (sym w)
    (closed text left old mid new r.0 r.1 r.2 r.3 r.4 p.0 WriteFault r.5 r.6 r.7 r.8 p.3 (told_part r.0 r.2 r.1 left r.4 p.0 p.1 number result r.9 p.2))
plays_on (Some text) (Some left) old mid new number result answer r (inr (inr m, p)) =
    subst (λ (v : Status). PlaysOn (Some text) (Some left) old new v) (sym m)
    (closed text left old mid new r.0 r.1 r.2 r.3 r.4 p.0 Memory r.5 r.6 r.7 r.8 p.3 (told_part r.0 r.2 r.1 left r.4 p.0 p.1 number result r.9 p.2))
