-- Which number the program ends with, by its status.
use Rattle.std.specs.Prelude.{ℕ}
use Rattle.iris_cli.specs.declared.status.Status.{Status}
use Rattle.iris_cli.specs.declared.status.Status.TheVariants.{Done, Usage, BadScript, ReadFault, WriteFault, Limit, Memory}

abbrev pub number_of : Status → ℕ
number_of Done = 0
number_of Usage = 2
number_of (BadScript line why at) = 3
number_of ReadFault = 4
number_of WriteFault = 5
number_of (Limit which count) = 7
number_of Memory = 9
