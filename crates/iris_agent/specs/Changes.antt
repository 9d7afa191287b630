-- What a small call leaves: one list of what an agent has is another, and the others are as before.
use Rattle.std.specs.Prelude.{◌≡◌, ℕ, Bool, false, true, List, Option}
use Rattle.std.specs.Cmp.Lexicographic.{pointwise}
use Rattle.iris_base.specs.declared.name.Label.{Label}
use Rattle.iris_base.specs.NameOrder.{label_eq}
use Rattle.iris_fragment.specs.declared.piece.Piece.{Piece}
use Rattle.iris_cache.specs.Recency.{Cache, TookFirst}
use Rattle.iris_migrate.specs.Titles.{Seat, seat_at}
use Rattle.iris_gather.specs.declared.entries.OpenGather.{OpenGather}
use Rattle.iris_gather.specs.OpenGathers.{Exchanged}
use Rattle.iris_agent.specs.NamedAsks.{StaysIfNamed, AreRetained}
use Rattle.iris_agent.specs.Tables.{Holdings, is_among, at_number}

-- it holds that
abbrev pub HasCache : Holdings → Holdings → Cache → Type 0
HasCache old new cache = new ≡ record old { cache = cache }

-- of one node it knows that
pub record HasSeat (old new : Holdings) (name : List Label) (seat : Seat) : Type 0 where
  pub there : seat_at new.titles name ≡ seat
  pub others : (other : List Label) → pointwise label_eq other name ≡ false → seat_at new.titles other ≡ seat_at old.titles other
  pub rest : new ≡ record old { titles = new.titles }

-- at that number stands that gather, or none
pub record HasGather (old new : Holdings) (number : ℕ) (one : Option OpenGather) : Type 0 where
  pub gathers : Exchanged old.gathers new.gathers number one
  pub rest : new ≡ record old { gathers = new.gathers }

-- it opened or parked that ask
pub record HasAsked (old new : Holdings) (ask : ℕ) : Type 0 where
  pub asks : (other : ℕ) → is_among new.asked other ≡ at_number (is_among old.asked) ask true other
  pub rest : new ≡ record old { asked = new.asked }

-- it has not met that ask
pub record HasForgotten (old new : Holdings) (ask : ℕ) : Type 0 where
  pub asks : (other : ℕ) → is_among new.asked other ≡ at_number (is_among old.asked) ask false other
  pub rest : new ≡ record old { asked = new.asked }

-- of the asks that it met it knows those still that are named elsewhere, as those answers say, or here, and no other
pub record HasForgottenUnnamed (elsewhere : ℕ → Bool → Type 0) (old new : Holdings) : Type 0 where
  pub asks : AreRetained (λ ask. StaysIfNamed (elsewhere ask) old.titles old.gathers ask) old.asked new.asked
  pub rest : new ≡ record old { asked = new.asked }

-- it holds that, and of one node it knows that
pub record HasNode (old new : Holdings) (cache : Cache) (name : List Label) (seat : Seat) : Type 0 where
  pub holds : new.cache ≡ cache
  pub there : seat_at new.titles name ≡ seat
  pub others : (other : List Label) → pointwise label_eq other name ≡ false → seat_at new.titles other ≡ seat_at old.titles other
  pub rest : new ≡ record old { cache = new.cache; titles = new.titles }

-- some first ones of these pieces were taken in, and what is known of each node is as before
pub record HasTakenFirst (old new : Holdings) (pieces : List Piece) : Type 0 where
  pub took : TookFirst old.cache pieces new.cache
  pub seats : (other : List Label) → seat_at new.titles other ≡ seat_at old.titles other
  pub rest : new ≡ record old { cache = new.cache; titles = new.titles }
