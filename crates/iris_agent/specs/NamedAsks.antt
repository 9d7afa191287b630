-- The asks that an agent names, which it must not forget.
use Rattle.std.specs.Prelude.{◌≡◌, ◌⊎◌, ℕ, Bool, true, false, List, Some}
use Rattle.iris_base.specs.declared.name.Label.{Label}
use Rattle.iris_migrate.specs.declared.key.Key.TheVariants as keys
use Rattle.iris_migrate.specs.Titles.{Seats, seat_at, is_parked}
use Rattle.iris_gather.specs.OpenGathers.{OpenGathers, names, AnyGather, NoGather}
use Rattle.iris_agent.specs.Tables.{is_among}

-- that ask is parked for some node
abbrev pub ParksAsk : Seats → ℕ → Type 0
ParksAsk seats ask = (name : List Label) × (is_parked (seat_at seats name) (Some (keys.Ask ask)) ≡ true)

-- that ask is parked for no node
abbrev pub ParksNoAsk : Seats → ℕ → Type 0
ParksNoAsk seats ask = (name : List Label) → is_parked (seat_at seats name) (Some (keys.Ask ask)) ≡ false

-- a parked message is that ask, or an open gather has it as its parent or as pending
abbrev pub NamesAsk : Seats → OpenGathers → ℕ → Type 0
NamesAsk seats gathers ask = ParksAsk seats ask ⊎ AnyGather (names ask) gathers

-- no parked message is that ask, and no open gather has it as its parent or as pending
pub record NamesNoAsk (seats : Seats) (gathers : OpenGathers) (ask : ℕ) : Type 0 where
  pub no_message : ParksNoAsk seats ask
  pub no_gather : NoGather (names ask) gathers

-- An ask that was met stays where it is named elsewhere, as that answer says, or here, and goes where it is named nowhere.
pub record StaysIfNamed (elsewhere : Bool → Type 0) (seats : Seats) (gathers : OpenGathers) (ask : ℕ) (stays : Bool) : Type 0 where
  pub kept : stays ≡ true → elsewhere true ⊎ NamesAsk seats gathers ask
  pub gone : stays ≡ false → elsewhere false × NamesNoAsk seats gathers ask

-- of these numbers each stays or goes by what is said of it, and none is added
pub record AreRetained (stays : ℕ → Bool → Type 0) (old new : List ℕ) : Type 0 where
  pub met : (ask : ℕ) → is_among old ask ≡ true → stays ask (is_among new ask)
  pub others : (ask : ℕ) → is_among old ask ≡ false → is_among new ask ≡ false
