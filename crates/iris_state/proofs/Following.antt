-- The steps of an event, made one after another.
use Rattle.std.proofs.Common.{◌≡◌, ℕ, ◌+◌, ◌≤◌, List, [], ◌∷◌, ◌++◌, fold, length, All, refl, sym, ap, ◌∙◌, subst, arith, append_assoc, append-nil}
use Rattle.std.specs.Prelude.{Bool, false, option_map, nat_eq}
use Rattle.std.specs.Option.{option_map_or}
use Rattle.std.specs.List.{list_all}
use Rattle.std.proofs.lemmas.List.Elements.{All-tail, filter_map-append}
use Rattle.iris_base.specs.declared.cite.Cite.{Cite}
use Rattle.iris_tree.specs.Universe.{node_at}
use Rattle.iris_xpath.specs.Syntax.{Syntax}
use Rattle.iris_book.specs.Book.{History, Updates, with_entry, update_in, updates_in, updates_of}
use Rattle.iris_book.specs.declared.entry.Entry.TheVariants as entries
use Rattle.iris_agent.specs.declared.step.Step.TheVariants.{Post, Answered, Accepted, Refused}
use Rattle.iris_json.specs.declared.out.Out.{Out}
use Rattle.iris_json.specs.declared.out.Out.TheVariants as out
use Rattle.iris_agent.specs.declared.step.Step.{Step}
use Rattle.iris_outbox.specs.Lines.{is_newest, outcome_line, outcome_lines}
use Rattle.iris_outbox.specs.Outbox.{answers_in, HasRoom}
use Rattle.iris_runs.specs.Worlds.{World, stepped}
use Rattle.iris_state.specs.Whole.{Whole, IsOf, world_of}

-- some steps of an event were made from a start, and these are left
pub record AreMade (start : Whole) (steps : List Step) (lines : List Out) (now : Whole) (left : List Step) : Type 0 where
  pub city : fold stepped (world_of now) left ≡ fold stepped (world_of start) steps
  pub room : HasRoom now.outbox left
  pub book : answers_in left ≤ now.book.spare
  pub requests : All (IsOf now.requests.made) left
  pub told : now.outbox.lines ++ outcome_lines now.book.history left ≡ lines
  pub rest : now ≡ record start { outbox = now.outbox; requests = now.requests; book = now.book }

-- ---- an answer in the book says nothing of what is newest

updates_stay : (h : History) (request : ℕ) (query : Syntax) (floor : ℕ) (cites : List Cite) → updates_in (with_entry h (entries.Answered request query floor cites)).entries ≡ updates_in h.entries
updates_stay h request query floor cites = filter_map-append update_in h.entries (entries.Answered request query floor cites ∷ []) ∙ append-nil (updates_in h.entries)

newest_stays : (h : History) (request : ℕ) (query : Syntax) (floor : ℕ) (cites : List Cite) (cite : Cite) → is_newest (with_entry h (entries.Answered request query floor cites)) cite ≡ is_newest h cite
newest_stays h request query floor cites cite =
    ap (λ (us : Updates). option_map_or (nat_eq cite.version) (option_map (λ _. length (updates_of us cite.name)) (node_at h.start cite.name)) false) (updates_stay h request query floor cites)

lines_stay : (w : World) (step : Step) (ss : List Step) → outcome_lines (stepped w step).history ss ≡ outcome_lines w.history ss
lines_stay w step [] = refl
lines_stay w (Post to message) (s ∷ ss) = refl
lines_stay w (Accepted request version) (s ∷ ss) = refl
lines_stay w (Refused request refusal) (s ∷ ss) = refl
lines_stay w (Answered request query floor items cites) (s ∷ ss) =
    ap (λ ls. ls ++ outcome_lines (with_entry w.history (entries.Answered request query floor cites)) ss) (one s) ∙ ap (λ ls. outcome_line w.history s ++ ls) (lines_stay w (Answered request query floor items cites) ss)
  where
    one : (s : Step) → outcome_line (with_entry w.history (entries.Answered request query floor cites)) s ≡ outcome_line w.history s
    one (Post to message) = refl
    one (Answered other asked least found rest) = ap (λ (test : Cite → Bool). outcome_line_of test) (λ i cite. newest_stays w.history request query floor cites cite i)
      where
        outcome_line_of : (Cite → Bool) → List Out
        outcome_line_of test = out.Answer found rest (list_all test rest) other ∷ []
    one (Accepted other version) = refl
    one (Refused other refusal) = refl

-- ---- one step more

answers_apart : (step : Step) (ss : List Step) → answers_in (step ∷ ss) ≡ answers_in (step ∷ []) + answers_in ss
answers_apart (Post to message) ss = omega arith
answers_apart (Answered request query floor items cites) ss = omega arith
answers_apart (Accepted request version) ss = omega arith
answers_apart (Refused request refusal) ss = omega arith

pub made_more : (start : Whole) (steps : List Step) (lines : List Out) (old new : Whole) (step : Step) (left : List Step)
    → AreMade start steps lines old (step ∷ left)
    → world_of new ≡ stepped (world_of old) step
    → ((rest : List Step) → HasRoom old.outbox (step ∷ rest) → HasRoom new.outbox rest)
    → new.outbox.lines ≡ old.outbox.lines ++ outcome_line old.book.history step
    → new.requests.made ≡ old.requests.made
    → new.book.spare + answers_in (step ∷ []) ≡ old.book.spare
    → new ≡ record old { outbox = new.outbox; requests = new.requests; book = new.book }
    → AreMade start steps lines new left
unfolding world_of
made_more start steps lines old new step left was city room told made spare rest = record {
  city = ap (λ (w : World). fold stepped w left) city ∙ was.city;
  room = room left was.room;
  book = let h = was.book in let e = answers_apart step left in omega (arith, h, e, spare);
  requests = subst (λ n. All (IsOf n) left) (sym made) (All-tail (IsOf old.requests.made) step left was.requests);
  told =
      ap (λ ls. ls ++ outcome_lines new.book.history left) told
      ∙ append_assoc old.outbox.lines (outcome_line old.book.history step) (outcome_lines new.book.history left)
      ∙ ap (λ ls. old.outbox.lines ++ (outcome_line old.book.history step ++ ls)) (ap (λ (w : World). outcome_lines w.history left) city ∙ lines_stay (world_of old) step left)
      ∙ was.told;
  rest = rest ∙ ap (λ (o : Whole). record o { outbox = new.outbox; requests = new.requests; book = new.book }) was.rest;
}
