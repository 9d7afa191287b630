-- What happens at an agent, put together from its small changes.
use Rattle.std.proofs.Common.{◌≡◌, Bool, true, List, [], refl, sym, ap, ◌∙◌, subst, arith}
use Rattle.std.specs.Prelude.{length, Result, Ok, Err, IfOk, OnErr}
use Rattle.std.proofs.lemmas.List.{take_all}
use Rattle.iris_book.specs.Book.{Recorded}
use Rattle.iris_fragment.specs.declared.piece.Piece.{Piece}
use Rattle.iris_cache.specs.Recency.{Cache, TookFirst, taken_all}
use Rattle.iris_agent.specs.declared.step.Step.{Step}
use Rattle.iris_agent.specs.declared.turn.Turn.{Turn}
use Rattle.iris_agent.specs.Events.{Happened, IsBackBut}
use Rattle.iris_agent.specs.Handled.{Handled, Does}
use Rattle.iris_agent.specs.Outside.{Seen, KeptEntries, KeptNothing, Entered}
use Rattle.iris_agent.specs.Changes.{HasCache}
use Rattle.iris_agent.specs.Tables.{Holdings, Tables, tables_of, with_cache}
use Rattle.iris_agent.proofs.TableTies.{cache_tie}

pub kept_nothing : (keeper : Seen) → KeptNothing keeper keeper
kept_nothing keeper = record { rows = λ rows h. h; gives = λ rows h. h }

-- an event that enters nothing, and asks the keeper for nothing
pub happened : (event : Bool → Handled) (h : Handled) (new : Holdings) (after : Turn) (made : List Step) (book : Recorded) (keeper : Seen) (has_room : List Step → Type 0)
    → ((kept : Bool) → event kept ≡ h)
    → h.entries ≡ []
    → Does new after made h
    → has_room h.steps
    → Happened event new after made book book keeper keeper has_room
happened event h new after made book keeper has_room is none does room = record {
  kept = true;
  does = subst (Does new after made) (sym (is true)) does;
  entered = subst (Entered book book) (sym (ap (λ (x : Handled). x.entries) (is true) ∙ none)) refl;
  rows = subst (KeptEntries keeper keeper) (sym (ap (λ (x : Handled). x.entries) (is true) ∙ none)) (kept_nothing keeper);
  cause = tt;
  room = subst (λ (x : Handled). has_room x.steps) (sym (is true)) room;
}

-- two facts of a value, if there is one
pub if_ok_both : {T E : Type 0} (r : Result T E) (P Q R : T → Type 0) → ((x : T) → P x → Q x → R x) → IfOk r P → IfOk r Q → IfOk r R
if_ok_both (Ok x) P Q R both p q = both x p q
if_ok_both (Err e) P Q R both p q = tt

-- what holds at all, holds of an error
pub on_err : {T E P : Type 0} (r : Result T E) → P → OnErr r P
on_err (Ok x) h = tt
on_err (Err e) h = h

-- where the tables are as before, the cache took in nothing
pub back : (old new : Holdings) (pieces : List Piece) → tables_of new ≡ tables_of old → IsBackBut old new pieces
unfolding tables_of
back old new pieces same = record {
  cache = record { count = 0; within = omega arith; after = cache };
  rest = same ∙ sym (ap (with_cache (tables_of old)) cache);
}
  where
    cache : new.cache ≡ old.cache
    cache = ap (λ (t : Tables). t.cache) same

-- where pieces were taken in, and nothing else changed
pub back_but : (old new : Holdings) (pieces : List Piece) → TookFirst old.cache pieces new.cache → new ≡ record old { cache = new.cache } → IsBackBut old new pieces
back_but old new pieces took rest = record { cache = took; rest = cache_tie old new new.cache rest }

pub back_all : (old new : Holdings) (pieces : List Piece) → HasCache old new (taken_all old.cache pieces) → IsBackBut old new pieces
back_all old new pieces took = record {
  cache = record { count = length pieces; within = omega arith; after = cache ∙ ap (taken_all old.cache) (sym (take_all (length pieces) pieces (omega arith))) };
  rest = cache_tie old new new.cache (took ∙ ap (λ (c : Cache). record old { cache = c }) (sym cache));
}
  where
    cache : new.cache ≡ taken_all old.cache pieces
    cache = ap (λ (h : Holdings). h.cache) took
