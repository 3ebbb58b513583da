-- What a run leaves of the machine and the memory once it has used so much of its budget.
use Rattle.std.specs.Prelude.{ℕ, List}
use Rattle.model.specs.declared.Machine.{Machine}
use Rattle.model.specs.State.{State, state}
use Rattle.model.specs.Entries.{Went, run_of}

abbrev pub left_by : Went → State
left_by w = state w.result.machine w.memory

abbrev pub reached : Machine → List ℕ → ℕ → State
reached m memory used = left_by (run_of m memory used)
