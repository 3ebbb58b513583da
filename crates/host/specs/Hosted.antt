-- What the library for hosts leaves: the number of steps, and the memory.
use Rattle.std.specs.Prelude.{ℕ, Bool, true, false, List}
use Rattle.model.specs.Answer.{is_done}
use Rattle.model.specs.Entries.{Went, run_of}
use Rattle.image.specs.Loading.{Put, load_of}

pub record Hosted : Type 0 where
  pub count : ℕ
  pub memory : List ℕ

abbrev pub hosted : ℕ → List ℕ → Hosted
hosted count memory = record { count = count; memory = memory }

abbrev pub hosted_run : Went → Hosted
hosted_run w = hosted w.result.count w.memory

-- the run of what was loaded; or no step, where nothing was
unfoldable pub hosted_by : Bool → Put → ℕ → Hosted
hosted_by true p budget = hosted_run (run_of p.result.machine p.memory budget)
hosted_by false p budget = hosted 0 p.memory

unfoldable pub hosted_of : List ℕ → ℕ → List ℕ → Hosted
hosted_of image budget memory = hosted_by (is_done (load_of image memory).result.answer) (load_of image memory) budget
