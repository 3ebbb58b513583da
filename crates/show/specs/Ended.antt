-- What a run came to, of what a run leaves: the number of its steps, and the machine.
use Rattle.std.specs.Prelude.{ℕ}
use Rattle.model.specs.declared.Machine.{Machine}
use Rattle.model.specs.Entries.{Went}
use Rattle.show.specs.declared.run.Ending.{Ending}

abbrev pub ending : ℕ → Machine → Ending
ending steps machine = record { steps = steps; machine = machine }

abbrev pub ending_of : Went → Ending
ending_of w = ending w.result.count w.result.machine
