-- What a small call leaves of one node, as a change of two tables.
use Rattle.std.proofs.Common.{◌≡◌, Bool, true, false, if◌then◌else◌, List, refl, ap, ◌∙◌}
use Rattle.std.specs.Cmp.Lexicographic.{pointwise}
use Rattle.iris_base.specs.declared.name.Label.{Label}
use Rattle.iris_base.specs.NameOrder.{label_eq}
use Rattle.iris_fragment.proofs.Names.{alike_exact}
use Rattle.iris_cache.specs.Recency.{Cache}
use Rattle.iris_migrate.specs.Titles.{Seat, seat_at}
use Rattle.iris_gather.specs.OpenGathers.{gather_at}
use Rattle.iris_agent.specs.Changes.{HasNode}
use Rattle.iris_agent.specs.Tables.{Holdings, tables_of, is_among, with_cache, with_seat}

pub node_tie : (old new : Holdings) (cache : Cache) (name : List Label) (seat : Seat) → HasNode old new cache name seat → tables_of new ≡ with_seat (with_cache (tables_of old) cache) name seat
unfolding tables_of
node_tie old new cache name seat h = λ i. record {
  id = (h.rest i).id;
  kinds = (h.rest i).kinds;
  top = (h.rest i).top;
  cache = h.holds i;
  seat = λ other. at other (pointwise label_eq other name) refl i;
  gather = gather_at (h.rest i).gathers;
  asked = is_among (h.rest i).asked;
}
  where
    at : (other : List Label) (same : Bool) → pointwise label_eq other name ≡ same → seat_at new.titles other ≡ (if same then seat else seat_at old.titles other)
    at other true e = ap (seat_at new.titles) (alike_exact other name e) ∙ h.there
    at other false e = h.others other e
