-- Which gathers are due, and that there are fewer once one decided.
use Rattle.std.proofs.Common.{◌≡◌, ◌≢◌, ℕ, zero, suc, ◌+◌, ◌<◌, ◌≤◌, nat_lt, nat_eq, Bool, true, false, List, [], ◌∷◌, ◌++◌, Option, Some, None, fold, refl, sym, ap, ◌∙◌, subst, arith, if◌then◌else◌, append-nil, append_assoc}
use Rattle.std.specs.Result.{IsErr}
use Rattle.std.specs.Prelude.{IfSome, Result, Ok, Err, IfOk, slice_get}
use Rattle.iris_base.specs.declared.cite.Cite.{Cite}
use Rattle.iris_json.specs.declared.out.Out.{Out}
use Rattle.iris_xpath.specs.Syntax.{Syntax}
use Rattle.iris_fragment.specs.declared.piece.Piece.{Piece}
use Rattle.iris_need.specs.declared.need.Need.{Need}
use Rattle.iris_need.specs.declared.need.Start.{Start}
use Rattle.iris_need.specs.Pieces.{Pieces}
use Rattle.iris_route.specs.Titles.{Titles}
use Rattle.iris_book.specs.Book.{with_entry}
use Rattle.iris_gather.specs.declared.verdict.Verdict.{Verdict}
use Rattle.iris_gather.specs.declared.verdict.Verdict.TheVariants.{Done, Asks}
use Rattle.iris_gather.specs.Gathers.{Gathering, settled}
use Rattle.iris_gather.specs.Laid.{laid}
use Rattle.iris_gather.specs.OpenGathers as gathers
use Rattle.iris_gather.specs.OpenGathers.{is_due, unlent}
use Rattle.iris_gather.specs.Verdicts.{IsVerdict}
use Rattle.iris_agent.specs.declared.step.Step.{Step}
use Rattle.iris_agent.specs.declared.step.Step.TheVariants.{Post, Answered, Accepted, Refused}
use Rattle.iris_agent.specs.declared.turn.Turn.{Turn}
use Rattle.iris_agent.specs.Decisions.{judged}
use Rattle.iris_agent.specs.Handled.{Handled}
use Rattle.iris_agent.specs.Tables.{Holdings, Tables, tables_of}
use Rattle.iris_protocol.specs.Table.{AgentId, agents}
use Rattle.iris_runs.specs.Good.{Past, IsGood}
use Rattle.iris_runs.specs.Happenings.{decided, decision_at}
use Rattle.iris_runs.specs.Worlds.{World, after, stepped, with_agent}
use Rattle.iris_runs.proofs.Acting.{number_is_free}
use Rattle.iris_state.specs.Agents.{is_here, place_in}
use Rattle.iris_state.specs.City.{IsSteady}
use Rattle.iris_state.specs.Deliveries.{is_due_at, IsLowestDue, NoneDue, DecidesFirst, HaveDecided}
use Rattle.iris_state.specs.Events.{HasDecidedAt}
use Rattle.iris_state.specs.Whole.{Whole, world_of}
use Rattle.iris_state.proofs.DecidedAt.{agent_there}

-- ---- a decision

-- steps change no agent and no turn
steps_agent : (w : World) (ss : List Step) → ((fold stepped w ss).agent ≡ w.agent) × ((fold stepped w ss).turn ≡ w.turn)
steps_agent w [] = (refl, refl)
steps_agent w (Post to message ∷ ss) = steps_agent (stepped w (Post to message)) ss
steps_agent w (Answered request asked floor items cites ∷ ss) = steps_agent (stepped w (Answered request asked floor items cites)) ss
steps_agent w (Accepted request version ∷ ss) = steps_agent (stepped w (Accepted request version)) ss
steps_agent w (Refused request refusal ∷ ss) = steps_agent (stepped w (Refused request refusal)) ss

-- a gather that asks for something waits
asking_waits : (g : Gathering) (support missing : List Need) (pieces : List Piece) (first : ℕ) → missing ≢ [] → is_due (Some (unlent (settled g (Asks support missing) pieces first))) ≡ false
asking_waits g support [] pieces first some = absurd (some refl)
asking_waits g support (need ∷ missing) pieces first some = refl

judged_due : (registry : Titles) (t : Tables) (turn : Turn) (number first other : ℕ) (g : Gathering) (pieces : List Piece) (cites : List Cite) (query : Syntax) (start : Start) (over : Pieces) (verdict : Verdict) → IsVerdict query start over verdict
    → is_due ((judged registry t turn number (settled g verdict pieces first) cites verdict).tables.gather other) ≡ (if nat_eq other number then false else is_due (t.gather other))
judged_due registry t turn number first other g pieces cites query start over (Done support items) is = by (nat_eq other number)
  where
    by : (b : Bool) → is_due (if b then None else t.gather other) ≡ (if b then false else is_due (t.gather other))
    by true = refl
    by false = refl
judged_due registry t turn number first other g pieces cites query start over (Asks support missing) is = by (nat_eq other number)
  where
    by : (b : Bool) → is_due (if b then Some (unlent (settled g (Asks support missing) pieces first)) else t.gather other) ≡ (if b then false else is_due (t.gather other))
    by true = asking_waits g support missing pieces first is.some
    by false = refl

judged_turn : (registry : Titles) (t : Tables) (turn : Turn) (number : ℕ) (g : Gathering) (cites : List Cite) (verdict : Verdict) → (judged registry t turn number g cites verdict).turn.next_gather ≡ turn.next_gather
judged_turn registry t turn number g cites (Done support items) = refl
judged_turn registry t turn number g cites (Asks support missing) = refl

at_agent : (w : World) (id : AgentId) (t : Tables) → (with_agent w id t).agent id ≡ t
at_agent w id t = ap (λ (b : Bool). if b then t else w.agent id) ((agents.decides id id).1 refl)

after_agent : (w : World) (id : AgentId) (h : Handled) → ((after w id h).agent id ≡ h.tables) × ((after w id h).turn ≡ h.turn)
after_agent w id h =
    let begun = record (with_agent w id h.tables) { turn = h.turn; history = fold with_entry w.history h.entries } in
    let steps = steps_agent begun h.steps in
    ((λ i. steps.0 i id) ∙ at_agent w id h.tables, steps.1)

-- the gather that decided is due no more, and each other is due if it was
pub decided_due : (w new : World) (id : AgentId) (number other : ℕ) (lines : List Out) → HasDecidedAt w id number new lines → is_due_at new id other ≡ (if nat_eq other number then false else is_due_at w id other)
decided_due w new id number other lines h =
    let handled = decision_at w id number h.basis h.one.gather in
    ap (λ (v : World). is_due_at v id other) h.city
    ∙ ap (λ (t : Tables). is_due (t.gather other)) (after_agent w id handled).0
    ∙ judged_due w.registry (w.agent id) w.turn number w.turn.next_ask other h.one.gather h.basis.pieces h.basis.cites h.one.gather.query h.one.gather.start
    (laid (w.agent id).cache.contents h.one.gather.floor w.turn.now h.one.gather.view) h.basis.verdict h.rests.verdict

pub decided_turn : (w new : World) (id : AgentId) (number : ℕ) (lines : List Out) → HasDecidedAt w id number new lines → new.turn.next_gather ≡ w.turn.next_gather
decided_turn w new id number lines h =
    ap (λ (v : World). v.turn.next_gather) h.city
    ∙ ap (λ (t : Turn). t.next_gather) (after_agent w id (decision_at w id number h.basis h.one.gather)).1
    ∙ judged_turn w.registry (w.agent id) w.turn number (settled h.one.gather h.basis.verdict h.basis.pieces w.turn.next_ask) h.basis.cites h.basis.verdict

-- ---- how many are due

-- how many of the numbers below that one pass
abbrev pub count_below : (ℕ → Bool) → ℕ → ℕ
count_below f zero = 0
count_below f (suc n) = if f n then suc (count_below f n) else count_below f n

count_most : (f g : ℕ → Bool) (number n : ℕ) → ((other : ℕ) → g other ≡ (if nat_eq other number then false else f other)) → count_below g n ≤ count_below f n
count_most f g number zero is = omega arith
count_most f g number (suc n) is = by (f n) (g n) (nat_eq n number) (is n) (count_most f g number n is)
  where
    by : (a b same : Bool) → b ≡ (if same then false else a) → count_below g n ≤ count_below f n → (if b then suc (count_below g n) else count_below g n) ≤ (if a then suc (count_below f n) else count_below f n)
    by true true same e most = omega (arith, most)
    by true false same e most = omega (arith, most)
    by false true true e most = absurd (cc)
    by false true false e most = absurd (cc)
    by false false same e most = most

pub count_less : (f g : ℕ → Bool) (number n : ℕ) → ((other : ℕ) → g other ≡ (if nat_eq other number then false else f other)) → f number ≡ true → number < n → count_below g n < count_below f n
count_less f g number zero is due low = absurd (omega (arith, low))
count_less f g number (suc n) is due low = either (λ under. count_less f g number n is due under) (nat_lt number n) refl
  where
    last : number ≡ n → (if g n then suc (count_below g n) else count_below g n) < (if f n then suc (count_below f n) else count_below f n)
    last same = by (f n) (g n) (ap f (sym same) ∙ due) (is n ∙ ap (λ (b : Bool). if b then false else f n) (equal same))
      where
        equal : number ≡ n → nat_eq n number ≡ true
        equal same = grind arith

        by : (a b : Bool) → a ≡ true → b ≡ false → (if b then suc (count_below g n) else count_below g n) < (if a then suc (count_below f n) else count_below f n)
        by true false one none = let most = count_most f g number n is in omega (arith, most)
        by true true one none = absurd (cc)
        by false b one none = absurd (cc)

    more : count_below g n < count_below f n → nat_eq n number ≡ false → (if g n then suc (count_below g n) else count_below g n) < (if f n then suc (count_below f n) else count_below f n)
    more less other = by (f n) (g n) (is n ∙ ap (λ (b : Bool). if b then false else f n) other)
      where
        by : (a b : Bool) → b ≡ a → (if b then suc (count_below g n) else count_below g n) < (if a then suc (count_below f n) else count_below f n)
        by true true same = omega (arith, less)
        by false false same = less
        by true false same = absurd (cc)
        by false true same = absurd (cc)

    either : (number < n → count_below g n < count_below f n) → (b : Bool) → nat_lt number n ≡ b → (if g n then suc (count_below g n) else count_below g n) < (if f n then suc (count_below f n) else count_below f n)
    either fewer true below =
        let under : number < n = grind arith in
        more (fewer under) (grind arith)
    either fewer false from =
        let least : n ≤ number = grind arith in
        last (omega (arith, low, least))

-- so many gathers of an agent are due
abbrev pub dues : World → AgentId → ℕ
dues w id = count_below (is_due_at w id) w.turn.next_gather

-- there are fewer once one decided
pub fewer_due : (w new : World) (past : Past) (id : AgentId) (number : ℕ) (lines : List Out) → IsGood w past → is_due_at w id number ≡ true → HasDecidedAt w id number new lines → dues new id < dues w id
fewer_due w new past id number lines good due h =
    subst (λ (n : ℕ). count_below (is_due_at new id) n < dues w id) (sym (decided_turn w new id number lines h))
    (count_less (is_due_at w id) (is_due_at new id) number w.turn.next_gather (λ other. decided_due w new id number other lines h) due (below (nat_lt number w.turn.next_gather) refl))
  where
    below : (b : Bool) → nat_lt number w.turn.next_gather ≡ b → number < w.turn.next_gather
    below true under = grind arith
    below false from =
        let least : w.turn.next_gather ≤ number = grind arith in
        let none = ap is_due (number_is_free w past good id number least) in
        absurd (cc)

-- ---- of an agent of the city

pub lowest_there : (old now : Whole) (id : AgentId) (place : ℕ) (h : Holdings) (number : Option ℕ) → old ≡ now → place_in id old.agents ≡ Some place → slice_get old.agents place ≡ Some h → gathers.IsLowestDue h.gathers number
    → IfSome number (IsLowestDue (world_of now) id)
unfolding tables_of
lowest_there old now id place h None same is there lowest = tt
lowest_there old now id place h (Some number) same is there lowest =
    let agent : (world_of now).agent id ≡ tables_of h = ap (λ (o : Whole). (world_of o).agent id) (sym same) ∙ agent_there old id place h is there in
    record {
      due = ap (λ (t : Tables). is_due (t.gather number)) agent ∙ lowest.0;
      lowest = λ lower less. ap (λ (t : Tables). is_due (t.gather lower)) agent ∙ lowest.1 lower less;
    }

pub none_there : (old now : Whole) (id : AgentId) (place : ℕ) (h : Holdings) (number : Option ℕ) → old ≡ now → place_in id old.agents ≡ Some place → slice_get old.agents place ≡ Some h → gathers.IsLowestDue h.gathers number
    → number ≡ None → NoneDue (world_of now) id
unfolding tables_of
none_there old now id place h None same is there lowest none = λ number.
    ap (λ (o : Whole). is_due_at (world_of o) id number) (sym same) ∙ ap (λ (t : Tables). is_due (t.gather number)) (agent_there old id place h is there) ∙ lowest number
none_there old now id place h (Some number) same is there lowest none = absurd (cc)

-- ---- one decision after the other

-- Some gathers of an agent decided, and the city is steady with the same agents.
pub record HasDecidedSome (old now : Whole) (id : AgentId) (lines : List Out) : Type 0 where
  pub numbers : List ℕ
  pub decided : HaveDecided (world_of old) id numbers (world_of now) lines
  pub here : is_here now.agents ≡ is_here old.agents
  pub steady : IsSteady now

-- one more decision comes behind those that were made
pub decided_more : (w mid new : World) (id : AgentId) (numbers : List ℕ) (number : ℕ) (lines more : List Out)
    → HaveDecided w id numbers mid lines
    → IsLowestDue mid id number
    → HasDecidedAt mid id number new more
    → HaveDecided w id (numbers ++ number ∷ []) new (lines ++ more)
decided_more w mid new id [] number lines more before lowest h =
    subst (λ (v : World). DecidesFirst v id number (lines ++ more) (λ mid rest. HaveDecided mid id [] new rest)) before.0 (record {
      mid = new;
      first = more;
      rest = [];
      lowest = lowest;
      decided = h;
      follow = (refl, refl);
      lines_are = ap (λ (xs : List Out). xs ++ more) before.1 ∙ sym (append-nil more);
    })
decided_more w mid new id (n ∷ numbers) number lines more before lowest h = record {
  mid = before.mid;
  first = before.first;
  rest = before.rest ++ more;
  lowest = before.lowest;
  decided = before.decided;
  follow = decided_more before.mid mid new id numbers number before.rest more before.follow lowest h;
  lines_are = ap (λ (xs : List Out). xs ++ more) before.lines_are ∙ append_assoc before.first before.rest more;
}

-- once no memory was left, nothing was returned
pub not_ok : {T E : Type 0} (r : Result T E) (P : T → Type 0) → IsErr r → IfOk r P
not_ok (Ok x) P is = absurd (cc)
not_ok (Err e) P is = tt

pub decided_on : (old now next : Whole) (id : AgentId) (number : ℕ) (lines more all : List Out)
    → HasDecidedSome old now id lines
    → IsLowestDue (world_of now) id number
    → HasDecidedAt (world_of now) id number (world_of next) more
    → all ≡ lines ++ more
    → is_here next.agents ≡ is_here now.agents
    → IsSteady next
    → HasDecidedSome old next id all
decided_on old now next id number lines more all before lowest h appended here steady = record {
  numbers = before.numbers ++ number ∷ [];
  decided = subst (λ (xs : List Out). HaveDecided (world_of old) id (before.numbers ++ number ∷ []) (world_of next) xs) (sym appended)
      (decided_more (world_of old) (world_of now) (world_of next) id before.numbers number lines more before.decided lowest h);
  here = here ∙ before.here;
  steady = steady;
}
