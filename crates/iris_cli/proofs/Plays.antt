-- The play of a script, line by line, over known bytes.
use Rattle.std.proofs.Common.{◌≡◌, ◌≢◌, ℕ, ◌+◌, ◌<◌, ◌≤◌, Bool, false, true, nat_lt, if◌then◌else◌, List, [], ◌∷◌, ◌++◌, length, refl, ap, sym, ◌∙◌, subst, arith, append_assoc, append-nil, inl, inr, Option, Some, None, Result, Ok, Err, length-append}
use Rattle.std.specs.List.{AllByRecursion, flat_map}
use Rattle.std.specs.Io.KnownBytes.{Appends, Consumes}
use Rattle.std.proofs.KnownBytes.{Appends-nil, Appends-trans}
use Rattle.iris_base.specs.declared.limits.TheConstants.{MAX_LINE_BYTES, MAX_SCRIPT_BYTES}
use Rattle.iris_json.specs.declared.out.Why.{Why}
use Rattle.iris_json.specs.declared.out.Which.{Which}
use Rattle.iris_cli.specs.declared.halt.Halt.{Halt}
use Rattle.iris_cli.specs.declared.halt.Halt.TheVariants.{ReadFault, WriteFault, BadLine, Limit, Memory}
use Rattle.iris_cli.specs.declared.event.Event.{Event}
use Rattle.iris_cli.specs.declared.event.Event.TheVariants as events
use Rattle.iris_cli.specs.Lines.{IsLine, ended}
use Rattle.iris_cli.specs.LineSays.{LineSays}
use Rattle.iris_cli.specs.Run.{World, out_lines, brings, is_posted, after, Runs, Starts}
use Rattle.iris_cli.specs.Taken.{ScriptState, max_line_bytes, LineFollows, IsWithinLimits, PassesLimit, MeetsEnd, empty, truncated, TakesNext}
use Rattle.iris_cli.specs.Played.{room_after, AreShort, AreLines, DoneSo, BeginsRefused, WritesFront, IsFault}
use Rattle.iris_cli.specs.Played as faults
use Rattle.iris_cli.proofs.Allowed.{good_done, brings_allowed}
use Rattle.iris_cli.specs.Stepped.{RefusesCityLine, AddsFront, Stepped, IsSoFar, Halts, RanTo}

-- ---- a line more

flat_more : (f : List ℕ → List ℕ) (xs : List (List ℕ)) (x : List ℕ) → flat_map f (xs ++ x ∷ []) ≡ flat_map f xs ++ f x
flat_more f [] x = append-nil (f x)
flat_more f (y ∷ xs) x = ap (λ v. f y ++ v) (flat_more f xs x) ∙ sym (append_assoc (f y) (flat_map f xs) (f x))

all_more : (P : List ℕ → Type 0) (xs : List (List ℕ)) (x : List ℕ) → AllByRecursion P xs → P x → AllByRecursion P (xs ++ x ∷ [])
all_more P [] x h k = (k, tt)
all_more P (y ∷ xs) x h k = (h.0, all_more P xs x h.1 k)

runs_more : (w : World) (lines : List (List ℕ)) (written : List ℕ) (now : World) (line : List ℕ) (event : Event) → Runs w lines written now → LineSays now.site.kinds line event
    → Runs w (lines ++ line ∷ []) (written ++ out_lines (brings now event)) (after now event)
runs_more w [] written now line event h says =
    let bytes = out_lines (brings now event) in
    subst (λ (t : World). Runs t (line ∷ []) (written ++ bytes) (after now event)) h.1 (event, [], says, (refl, refl), ap (λ v. v ++ bytes) h.0 ∙ sym (append-nil bytes))
runs_more w (first ∷ lines) written now line event h says =
    let bytes = out_lines (brings now event) in (
      h.0,
      h.1 ++ bytes,
      h.2,
      runs_more (after w h.0) lines h.1 now line event h.3 says,
      ap (λ v. v ++ bytes) h.4 ∙ append_assoc (out_lines (brings w h.0)) h.1 bytes,
    )

done_more : (lines : List (List ℕ)) (done : List ℕ) (w : World) (line : List ℕ) (event : Event) → DoneSo lines done (Some w) → LineSays w.site.kinds line event
    → DoneSo (lines ++ line ∷ []) (done ++ out_lines (brings w event)) (Some (after w event))
done_more [] done w line event h says = absurd h
done_more (city ∷ lines) done w line event h says = (h.0, h.1, runs_more h.0 lines done w line event h.2 says)

-- before the city nothing was done
nothing_done : (lines : List (List ℕ)) (done : List ℕ) → DoneSo lines done None → (lines ≡ []) × (done ≡ [])
nothing_done [] done h = (refl, h)
nothing_done (city ∷ lines) done h = absurd h

-- a line more, within its limit
short_more : (lines : List (List ℕ)) (line : List ℕ) → AreShort lines → IsLine (max_line_bytes (length lines)) line → AreShort (lines ++ line ∷ [])
short_more [] line short next = (next, tt)
short_more (city ∷ lines) line short next = (short.0, all_more (IsLine MAX_LINE_BYTES) lines line short.1 next)

lines_more : (lines : List (List ℕ)) (line : List ℕ) (number room less : ℕ) → AreLines lines → number ≡ length lines → room + length (flat_map ended lines) ≡ MAX_SCRIPT_BYTES → LineFollows number room line → less + length (ended line) ≡ room
    → AreLines (lines ++ line ∷ []) × (less + length (flat_map ended (lines ++ line ∷ [])) ≡ MAX_SCRIPT_BYTES)
lines_more lines line number room less are n r f k =
    let front = flat_map ended lines in
    let sum : length (flat_map ended (lines ++ line ∷ [])) ≡ length front + length (ended line) = ap length (flat_more ended lines line) ∙ length-append front (ended line) in
    let size : length (lines ++ line ∷ []) ≡ length lines + 1 = length-append lines (line ∷ []) in
    let few = f.0 in
    let total : less + length (flat_map ended (lines ++ line ∷ [])) ≡ MAX_SCRIPT_BYTES = omega (arith, sum, k, r) in (
      record {
        each = short_more lines line are.each (subst (λ (m : ℕ). IsLine (max_line_bytes m) line) n f.1);
        few = omega (arith, size, few, n);
        short = omega (arith, total);
      },
      total,
    )

-- ---- lines so far

pub so_start : (now held : Option (List ℕ)) (number room : ℕ) → number ≡ 0 → room ≡ MAX_SCRIPT_BYTES → IsSoFar now now held held number room None
so_start None held number room n r = tt
so_start (Some text) held number room n r = ([], [], refl, record { each = tt; few = omega arith; short = omega arith }, refl, Appends-nil held, n, omega (arith, r))

-- the first line was taken, and not the end
pub first_taken : (s t : ScriptState) (old new : Option (List ℕ)) (more : Bool) → s.number ≡ 0 → TakesNext s old new t (Ok more) → TakesNext s old new t (Ok true)
first_taken s t old new true n taken = taken
first_taken s t old new false n taken = absurd (let some = taken.2 in omega (arith, some, n))

-- the city line was taken
pub so_city : (first now next old new : Option (List ℕ)) (number room less : ℕ) (w : World) (line : List ℕ) → IsSoFar first now old new number room None → Consumes now next (ended line) → LineFollows number room line → less + length (ended line) ≡ room → Starts line w
    → IsSoFar first next old new (number + 1) less (Some w)
so_city None now next old new number room less w line h c n k starts = tt
so_city (Some text) None next old new number room less w line h c n k starts = absurd h
so_city (Some text) (Some rest) None old new number room less w line h c n k starts = absurd c
so_city (Some text) (Some rest) (Some more) old new number room less w line h c n k starts =
    let none = nothing_done h.0 h.1 h.4 in
    let all = lines_more h.0 line number room less h.3 h.6 h.7 n k in
    let joined = ap (λ (v : List (List ℕ)). v ++ line ∷ []) none.0 in
    let front = flat_map ended h.0 in (
      line ∷ [],
      [],
      h.2 ∙ ap (λ (v : List ℕ). front ++ v) c ∙ sym (append_assoc front (ended line) more) ∙ ap (λ (v : List ℕ). v ++ more) (sym (flat_more ended h.0 line) ∙ ap (flat_map ended) joined),
      subst AreLines joined all.0,
      (w, starts, (refl, refl)),
      subst (λ (v : List ℕ). Appends old new v) none.1 h.5,
      ap (λ m. m + 1) (h.6 ∙ ap length none.0),
      subst (λ (v : List (List ℕ)). less + length (flat_map ended v) ≡ MAX_SCRIPT_BYTES) joined all.1,
    )

-- a line after it was taken and done
pub so_line : (first now next old mid new : Option (List ℕ)) (number room less : ℕ) (w : World) (line : List ℕ) (event : Event) → IsSoFar first now old mid number room (Some w) → Consumes now next (ended line) → LineFollows number room line
    → less + length (ended line) ≡ room → LineSays w.site.kinds line event → Appends mid new (out_lines (brings w event)) → IsSoFar first next old new (number + 1) less (Some (after w event))
so_line None now next old mid new number room less w line event h c n k says a = tt
so_line (Some text) None next old mid new number room less w line event h c n k says a = absurd h
so_line (Some text) (Some rest) None old mid new number room less w line event h c n k says a = absurd c
so_line (Some text) (Some rest) (Some more) old mid new number room less w line event h c n k says a =
    let front = flat_map ended h.0 in
    let all = lines_more h.0 line number room less h.3 h.6 h.7 n k in (
      h.0 ++ line ∷ [],
      h.1 ++ out_lines (brings w event),
      h.2 ∙ ap (λ v. front ++ v) c ∙ sym (ap (λ v. v ++ more) (flat_more ended h.0 line) ∙ append_assoc front (ended line) more),
      all.0,
      done_more h.0 h.1 w line event h.4 says,
      Appends-trans old mid new h.1 (out_lines (brings w event)) h.5 a,
      ap (λ m. m + 1) h.6 ∙ sym (length-append h.0 (line ∷ [])),
      all.1,
    )

-- ---- where the lines end

-- nothing is a front of what comes next
pub front_nil : (lines : List (List ℕ)) (w : Option World) (rest left : List ℕ) → WritesFront lines w rest left []
front_nil lines None rest left = refl
front_nil lines (Some w) rest left = inl refl

no_lines : (lines : List (List ℕ)) → length lines ≡ 0 → lines ≡ []
no_lines [] h = refl
no_lines (line ∷ lines) h = absurd (omega (arith, h))

some_lines : (lines : List (List ℕ)) → 0 < length lines → lines ≢ []
some_lines lines h e = let z : length lines ≡ 0 = ap length e in omega (arith, h, z)

ends : (text rest left : List ℕ) (old mid new : Option (List ℕ)) (number room : ℕ) (w : Option World) (part : List ℕ) (at : ℕ) (result : Result (Unit {0}) Halt) → IsSoFar (Some text) (Some rest) old mid number room w → Appends mid new part
    → ((lines : List (List ℕ)) → number ≡ length lines → room ≡ room_after lines → Halts lines w rest left part at result) → RanTo (Some text) (Some left) old new at result
ends text rest left old mid new number room w part at result h a halts =
    let r = h.7 in
    let room_is : room ≡ room_after h.0 = omega (arith, r) in
    (h.0, rest, w, h.1, part, h.2, h.3, h.4, Appends-trans old mid new h.1 part h.5 a, halts h.0 h.6 room_is)

-- what may follow, by the lines
follows : (lines : List (List ℕ)) (line : List ℕ) (number room : ℕ) → number ≡ length lines → room ≡ room_after lines → LineFollows number room line → LineFollows (length lines) (room_after lines) line
follows lines line number room n r f = subst (λ (m : ℕ). LineFollows m (room_after lines) line) n (subst (λ (m : ℕ). LineFollows number m line) r f)

within : (lines : List (List ℕ)) (line : List ℕ) (number room : ℕ) → number ≡ length lines → room ≡ room_after lines → IsWithinLimits number room line → IsWithinLimits (length lines) (room_after lines) line
within lines line number room n r f = subst (λ (m : ℕ). IsWithinLimits m (room_after lines) line) n (subst (λ (m : ℕ). IsWithinLimits number m line) r f)

passes : (lines : List (List ℕ)) (front : List ℕ) (number room : ℕ) (which : Which) (count : ℕ) → number ≡ length lines → room ≡ room_after lines → PassesLimit number room front which count → PassesLimit (length lines) (room_after lines) front which count
passes lines front number room which count n r p = subst (λ (m : ℕ). PassesLimit m (room_after lines) front which count) n (subst (λ (m : ℕ). PassesLimit number m front which count) r p)

-- where the text is told, so is what is left at its end
end_is_told : (s t : ScriptState) (rest : List ℕ) (why : Why) (node : Option ℕ) → MeetsEnd s t (Some rest) None why node → ⊥
end_is_told s t rest _ _ (empty took at first number) = took
end_is_told s t rest _ _ (truncated cut took inside some at number) = took

-- the end where a line must be is a fault of the script
end_is_fault : (lines : List (List ℕ)) (w : Option World) (s t : ScriptState) (rest left : List ℕ) (why : Why) (node : Option ℕ) → s.number ≡ length lines → s.room ≡ room_after lines → MeetsEnd s t (Some rest) (Some left) why node → IsFault lines w rest left t.number why node
end_is_fault lines w s t rest left _ _ n r (empty took at first number) = faults.empty (no_lines lines (sym n ∙ first)) (took ∙ at) at (number ∙ ap (λ m. m + 1) first)
end_is_fault lines w s t rest left _ _ n r (truncated cut took inside some at number) =
    let same : cut ≡ rest = sym (took ∙ ap (λ v. cut ++ v) at ∙ append-nil cut) in
    faults.truncated (subst (λ (v : List ℕ). IsWithinLimits (length lines) (room_after lines) v) same (within lines cut s.number s.room n r inside)) (λ e. some (same ∙ e)) at (number ∙ ap (λ m. m + 1) n)

-- the reader of the script gives no further line
pub next_halts : (first now next old new : Option (List ℕ)) (s t : ScriptState) (w : Option World) (halt : Halt) → IsSoFar first now old new s.number s.room w → TakesNext s now next t (Err halt) → RanTo first next old new t.number (Err halt)
next_halts None now next old new s t w halt h k = tt
next_halts (Some text) None next old new s t w halt h k = absurd h
next_halts (Some text) (Some rest) None old new s t w ReadFault h k = absurd k.1
next_halts (Some text) (Some rest) None old new s t w WriteFault h k = absurd k
next_halts (Some text) (Some rest) None old new s t w (BadLine why node) h k = absurd (end_is_told s t rest why node k)
next_halts (Some text) (Some rest) None old new s t w (Limit which count) h k = absurd k.1
next_halts (Some text) (Some rest) None old new s t w Memory h k = absurd k.1
next_halts (Some text) (Some rest) (Some left) old new s t w ReadFault h k =
    ends text rest left old new new s.number s.room w [] t.number (Err ReadFault) h (Appends-nil new) (λ lines n r. (k.0, k.1, within lines k.0 s.number s.room n r k.2, refl))
next_halts (Some text) (Some rest) (Some left) old new s t w WriteFault h k = absurd k
next_halts (Some text) (Some rest) (Some left) old new s t w (BadLine why node) h k =
    ends text rest left old new new s.number s.room w [] t.number (Err (BadLine why node)) h (Appends-nil new) (λ lines n r. (end_is_fault lines w s t rest left why node n r k, refl))
next_halts (Some text) (Some rest) (Some left) old new s t w (Limit which count) h k =
    ends text rest left old new new s.number s.room w [] t.number (Err (Limit which count)) h (Appends-nil new) (λ lines n r. (inl (k.0, k.1, passes lines k.0 s.number s.room which count n r k.2), refl))
next_halts (Some text) (Some rest) (Some left) old new s t w Memory h k =
    ends text rest left old new new s.number s.room w [] t.number (Err Memory) h (Appends-nil new) (λ lines n r. front_nil lines w rest left)

-- the script ended after a line
pub next_ends : (first now next old new : Option (List ℕ)) (s t : ScriptState) (w : Option World) → IsSoFar first now old new s.number s.room w → TakesNext s now next t (Ok false) → RanTo first next old new t.number (Ok tt)
next_ends None now next old new s t w h k = tt
next_ends (Some text) None next old new s t w h k = absurd h
next_ends (Some text) (Some rest) None old new s t w h k = absurd k.0
next_ends (Some text) (Some rest) (Some left) old new s t w h k =
    ends text rest left old new new s.number s.room w [] t.number (Ok tt) h (Appends-nil new) (λ lines n r. (some_lines lines (subst (λ m. 0 < m) n k.2), k.0 ∙ k.1, k.1, refl))

-- ---- a line that is refused

-- the first line is no city
pub start_halts : (first now next old new : Option (List ℕ)) (number room at : ℕ) (line : List ℕ) (halt : Halt) → IsSoFar first now old new number room None → Consumes now next (ended line) → LineFollows number room line → at ≡ number + 1 → RefusesCityLine line halt
    → RanTo first next old new at (Err halt)
start_halts None now next old new number room at line halt h c n l f = tt
start_halts (Some text) None next old new number room at line halt h c n l f = absurd h
start_halts (Some text) (Some rest) None old new number room at line halt h c n l f = absurd c
start_halts (Some text) (Some rest) (Some left) old new number room at line ReadFault h c n l f = absurd f
start_halts (Some text) (Some rest) (Some left) old new number room at line WriteFault h c n l f = absurd f
start_halts (Some text) (Some rest) (Some left) old new number room at line (BadLine why node) h c n l f =
    ends text rest left old new new number room None [] at (Err (BadLine why node)) h (Appends-nil new)
    (λ lines k r. (faults.refused why node (line, c, follows lines line number room k r n, f) (l ∙ ap (λ m. m + 1) k), refl))
start_halts (Some text) (Some rest) (Some left) old new number room at line (Limit which count) h c n l f =
    ends text rest left old new new number room None [] at (Err (Limit which count)) h (Appends-nil new) (λ lines k r. (inr (line, c, follows lines line number room k r n, f), refl))
start_halts (Some text) (Some rest) (Some left) old new number room at line Memory h c n l f =
    ends text rest left old new new number room None [] at (Err Memory) h (Appends-nil new) (λ lines k r. refl)

-- a front of what a line brings about was added
adds_front : (text rest left : List ℕ) (old mid new : Option (List ℕ)) (number room at : ℕ) (w : World) (line : List ℕ) (halt : Halt) → IsSoFar (Some text) (Some rest) old mid number room (Some w) → rest ≡ ended line ++ left → LineFollows number room line
    → AddsFront w line mid new → ((lines : List (List ℕ)) (part : List ℕ) → WritesFront lines (Some w) rest left part → Halts lines (Some w) rest left part at (Err halt)) → RanTo (Some text) (Some left) old new at (Err halt)
adds_front text rest left old mid new number room at w line halt h c n (inl a) f = ends text rest left old mid new number room (Some w) [] at (Err halt) h a (λ lines k r. f lines [] (inl refl))
adds_front text rest left old mid new number room at w line halt h c n (inr p) f =
    let good = good_done h.0 h.1 w h.4 in
    ends text rest left old mid new number room (Some w) p.2.0 at (Err halt) h p.2.3 (λ lines k r. f lines p.2.0 (inr (line, p.0, p.2.1, c, follows lines line number room k r n, p.1, brings_allowed w p.0 good, p.2.2)))

-- a line after it is refused, or what it brings about can't be written whole
pub run_halts : (first now next old mid new : Option (List ℕ)) (number room at : ℕ) (w v : World) (line : List ℕ) (halt : Halt) → IsSoFar first now old mid number room (Some w) → Consumes now next (ended line) → LineFollows number room line → at ≡ number + 1
    → Stepped w v line mid new (Err halt) → RanTo first next old new at (Err halt)
run_halts None now next old mid new number room at w v line halt h c n l f = tt
run_halts (Some text) None next old mid new number room at w v line halt h c n l f = absurd h
run_halts (Some text) (Some rest) None old mid new number room at w v line halt h c n l f = absurd c
run_halts (Some text) (Some rest) (Some left) old mid new number room at w v line ReadFault h c n l f = absurd f
run_halts (Some text) (Some rest) (Some left) old mid new number room at w v line WriteFault h c n l f = adds_front text rest left old mid new number room at w line WriteFault h c n f (λ lines part x. x)
run_halts (Some text) (Some rest) (Some left) old mid new number room at w v line (BadLine why node) h c n l f =
    ends text rest left old mid new number room (Some w) [] at (Err (BadLine why node)) h f.2
    (λ lines k r. (faults.refused why node (line, c, follows lines line number room k r n, (f.0, f.1)) (l ∙ ap (λ m. m + 1) k), refl))
run_halts (Some text) (Some rest) (Some left) old mid new number room at w v line (Limit which count) h c n l f = absurd f
run_halts (Some text) (Some rest) (Some left) old mid new number room at w v line Memory h c n l f = adds_front text rest left old mid new number room at w line Memory h c n f (λ lines part x. x)

-- ---- the numbers of posts and requests

-- a line makes one request at most, and no more posts than requests
abbrev Counts : World → World → Type 0
Counts w v = (v.requests ≤ w.requests + 1) × (v.posts ≤ v.requests)

by_choice : (b : Bool) (w v u : World) → Counts w v → Counts w u → Counts w (if b then v else u)
by_choice true w v u h k = h
by_choice false w v u h k = k

pub one_request : (w : World) (event : Event) → w.posts ≤ w.requests → Counts w (after w event)
one_request w (events.Post s) h = by_choice (is_posted w s) w _ _ (omega arith, omega (arith, h)) (omega arith, omega (arith, h))
one_request w (events.Audit query) h = (omega arith, omega (arith, h))
one_request w (events.BadQuery why) h = (omega arith, omega (arith, h))
one_request w (events.Now at) h = by_choice (nat_lt at w.site.now) w _ _ (omega arith, h) (omega arith, h)
one_request w events.Settle h = (omega arith, h)
