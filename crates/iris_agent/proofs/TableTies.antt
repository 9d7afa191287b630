-- Lists that agree at each name and number are tables that are equal: what a small call leaves, as a change of one table.
use Rattle.std.proofs.Common.{◌≡◌, ℕ, Bool, true, false, if◌then◌else◌, List, Option, nat_eq, refl, sym, ap, ◌∙◌}
use Rattle.std.specs.Cmp.Lexicographic.{pointwise}
use Rattle.std.proofs.lemmas.Bool.{eqb-true, eqb-false}
use Rattle.std.proofs.lemmas.Slice.Eq.{slice_eq-Decides}
use Rattle.iris_base.specs.declared.name.Label.{Label}
use Rattle.iris_base.specs.NameOrder.{label_eq}
use Rattle.iris_base.proofs.Labels.{label_eq-Decides}
use Rattle.iris_cache.specs.Recency.{Cache}
use Rattle.iris_migrate.specs.Titles.{Seat, seat_at}
use Rattle.iris_gather.specs.declared.entries.OpenGather.{OpenGather}
use Rattle.iris_gather.specs.OpenGathers.{gather_at}
use Rattle.iris_agent.specs.Changes.{HasCache, HasSeat, HasGather, HasAsked, HasForgotten}
use Rattle.iris_agent.specs.Tables.{Holdings, tables_of, is_among, with_cache, with_seat, with_gather, with_asked}

name_exact : (m n : List Label) → pointwise label_eq m n ≡ true → m ≡ n
name_exact m n h = (slice_eq-Decides label_eq-Decides m n _ refl).0 h

pub cache_tie : (old new : Holdings) (cache : Cache) → HasCache old new cache → tables_of new ≡ with_cache (tables_of old) cache
unfolding tables_of
cache_tie old new cache h = ap tables_of h

pub seat_tie : (old new : Holdings) (name : List Label) (seat : Seat) → HasSeat old new name seat → tables_of new ≡ with_seat (tables_of old) name seat
unfolding tables_of
seat_tie old new name seat h = λ i. record {
  id = (h.rest i).id;
  kinds = (h.rest i).kinds;
  top = (h.rest i).top;
  cache = (h.rest i).cache;
  seat = λ other. at other (pointwise label_eq other name) refl i;
  gather = gather_at (h.rest i).gathers;
  asked = is_among (h.rest i).asked;
}
  where
    at : (other : List Label) (same : Bool) → pointwise label_eq other name ≡ same → seat_at new.titles other ≡ (if same then seat else seat_at old.titles other)
    at other true e = ap (seat_at new.titles) (name_exact other name e) ∙ h.there
    at other false e = h.others other e

pub gather_tie : (old new : Holdings) (number : ℕ) (one : Option OpenGather) → HasGather old new number one → tables_of new ≡ with_gather (tables_of old) number one
unfolding tables_of
gather_tie old new number one h = λ i. record {
  id = (h.rest i).id;
  kinds = (h.rest i).kinds;
  top = (h.rest i).top;
  cache = (h.rest i).cache;
  seat = seat_at (h.rest i).titles;
  gather = λ other. at other (nat_eq other number) refl i;
  asked = is_among (h.rest i).asked;
}
  where
    at : (other : ℕ) (same : Bool) → nat_eq other number ≡ same → gather_at new.gathers other ≡ (if same then one else gather_at old.gathers other)
    at other true e = ap (gather_at new.gathers) (eqb-true other number e) ∙ h.gathers.there
    at other false e = h.gathers.others other (eqb-false other number e)

pub asked_tie : (old new : Holdings) (ask : ℕ) → HasAsked old new ask → tables_of new ≡ with_asked (tables_of old) ask
unfolding tables_of
asked_tie old new ask h = λ i. record {
  id = (h.rest i).id;
  kinds = (h.rest i).kinds;
  top = (h.rest i).top;
  cache = (h.rest i).cache;
  seat = seat_at (h.rest i).titles;
  gather = gather_at (h.rest i).gathers;
  asked = λ other. h.asks other i;
}

-- what was learnt and is forgotten again was not known
pub asked_back : (old mid new : Holdings) (ask : ℕ) → is_among old.asked ask ≡ false → HasAsked old mid ask → HasForgotten mid new ask → tables_of new ≡ tables_of old
unfolding tables_of
asked_back old mid new ask fresh there gone = λ i. record {
  id = (back i).id;
  kinds = (back i).kinds;
  top = (back i).top;
  cache = (back i).cache;
  seat = seat_at (back i).titles;
  gather = gather_at (back i).gathers;
  asked = λ other. at other (nat_eq other ask) refl i;
}
  where
    back : new ≡ record old { asked = new.asked }
    back = gone.rest ∙ ap (λ (h : Holdings). record h { asked = new.asked }) there.rest

    at : (other : ℕ) (same : Bool) → nat_eq other ask ≡ same → is_among new.asked other ≡ is_among old.asked other
    at other true e = gone.asks other ∙ ap (λ (b : Bool). if b then false else is_among mid.asked other) e ∙ sym fresh ∙ ap (is_among old.asked) (sym (eqb-true other ask e))
    at other false e = gone.asks other ∙ ap (λ (b : Bool). if b then false else is_among mid.asked other) e ∙ there.asks other ∙ ap (λ (b : Bool). if b then true else is_among old.asked other) e
