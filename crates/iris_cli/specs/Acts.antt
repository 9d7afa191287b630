-- What an act on a sink writes.
use Rattle.std.specs.Prelude.{◌≡◌, ℕ, List, Result, IfErr, OnOk}
use Rattle.std.specs.declared.option.Option.{Option}
use Rattle.iris_base.specs.Outside.{HasCause, Puts}
use Rattle.iris_cli.specs.declared.event.Event.{Event}
use Rattle.iris_cli.specs.declared.halt.Halt.{Halt}
use Rattle.iris_cli.specs.declared.halt.Halt.TheVariants.{WriteFault}
use Rattle.iris_cli.specs.Halt.{IsOfWriting}
use Rattle.iris_cli.specs.Run.{World, out_lines, brings, after}

-- an act wrote these bytes, or at an error a front of them; an error is the sink's, or there was no memory
pub record Writes (old new : Option (List ℕ)) (before now : ℕ) (text : List ℕ) (result : Result (Unit {0}) Halt) : Type 0 where
  pub bytes : Puts old new result text
  pub cause : HasCause WriteFault before now result
  pub only : IfErr result IsOfWriting

-- a city did what this event brings about, and wrote its lines
pub record Acts (w next : World) (event : Event) (old new : Option (List ℕ)) (before now : ℕ) (result : Result (Unit {0}) Halt) : Type 0 where
  pub writes : Writes old new before now (out_lines (brings w event)) result
  pub after : OnOk result (next ≡ after w event)
